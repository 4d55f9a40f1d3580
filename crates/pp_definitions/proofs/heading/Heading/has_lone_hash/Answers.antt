use Rattle.std.proofs.Common.{◌∙◌, ap, not, ◌&&◌}
use Rattle.model_macros.specs.Macros.{spells}
use Rattle.model_macros.specs.MacroDefinitions.{signature}
use Rattle.model_macros.specs.ReplacementLists.{HASH, quotable}
use Rattle.pp_definitions.proofs.PieceLaws.{lone_hash-found, lone_hash-next}
use Rattle.pp_definitions.proofs.heading.Heading.has_lone_hash.Goals as goal

pub returns-then-is_lone_hash : goal.returns-then-is_lone_hash
returns-then-is_lone_hash c =
    lone_hash-found (signature c.args.self.now) c.args.line.now c.loop-at.at c.in-Some.tok.now c.is_lone_hash.result _ c.in-Some.ensures
    (c.is_lone_hash.ensures ∙ ap (λ o. spells HASH c.in-Some.tok.now && not (quotable (signature c.args.self.now) o)) c.get-in-loop-at.ensures) c.loop-at.invariant c.if-is_lone_hash.true

pub loop-at-preserved : goal.loop-at-preserved
loop-at-preserved c =
    lone_hash-next (signature c.args.self.now) c.args.line.now c.loop-at.at c.in-Some.tok.now c.is_lone_hash.result _ c.in-Some.ensures
    (c.is_lone_hash.ensures ∙ ap (λ o. spells HASH c.in-Some.tok.now && not (quotable (signature c.args.self.now) o)) c.get-in-loop-at.ensures) c.loop-at.invariant c.if-is_lone_hash.false
