use Rattle.std.proofs.Common.{◌∙◌, ap, arith, ◌++◌, ◌∷◌, []}
use Rattle.model_tokens.specs.PpTokens.{PpToken}
use Rattle.model_macros.specs.ReplacementLists.{role_after}
use Rattle.model_macros.specs.MacroDefinitions.{signature}
use Rattle.pp_definitions.proofs.PieceLaws.{pieces-step}
use Rattle.pp_definitions.proofs.pieces.read_pieces.Goals as goal

pub loop-at-preserved : goal.loop-at-preserved
loop-at-preserved c = record {
  so_far =
      let role = c.role_after-role.ensures ∙ ap (role_after (signature c.args.heading.now) c.loop-at.last c.loop-at.depth c.in-Some.tok.now) c.get-in-loop-at.ensures in
      let pushed = c.in_ok-push.ensures ∙ ap (λ (t : PpToken). c.loop-at.pieces ++ (record { tok = t; role = c.role_after-role.result }) ∷ []) c.in_ok-copy.ensures in
      pieces-step (signature c.args.heading.now) c.loop-at.last c.role_after-role.result c.loop-at.depth c.depth_after-depth.result c.args.line.now c.loop-at.at c.in-Some.tok.now c.loop-at.pieces c.push.new.self _
      c.in-Some.ensures role pushed c.depth_after-depth.ensures.value c.loop-at.invariant.so_far;
  shallow = omega arith;
}
