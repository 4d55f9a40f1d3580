use Rattle.std.proofs.Common.{◌≡◌, ◌∙◌, ap, sym, is_some, ℕ, List, true, false, ◌++◌, [], ◌∷◌, cond}
use Rattle.model_macros.specs.ReplacementLists.{rank}
use Rattle.pp_definitions.proofs.HeadingLaws.{met-new, met-again, met-onward, met-end, met-wrong, not-new, is-new, met-goes}
use Rattle.pp_definitions.proofs.heading.read_parameters.Goals as goal
use Rattle.pp_definitions.proofs.heading.read_parameters.Goals.{in-Name+in_ok-add-in-Name+else-not-branch, in-Onward}

pub returns-then-not-branch : goal.returns-then-not-branch
returns-then-not-branch c =
    let e : is_some (rank c.spelling.result.now c.loop-at.names) ≡ is_some (rank c.in-Some.tok.now.spelling c.loop-at.names) = ap (λ z. is_some (rank z c.loop-at.names)) c.spelling.ensures in
    let old : c.in_ok-add-in-Name.field-0 ≡ false = cc in
    let again = not-new c.in_ok-add-in-Name.field-0 _ c.in_ok-add-in-Name.ensures.new old in
    met-again c.loop-at.names c.loop-at.expected c.args.line.now c.loop-at.at c.in-Some.tok.now _ c.in-Some.ensures c.in-Name.ensures (sym e ∙ again) c.loop-at.invariant

pub returns-in-End : goal.returns-in-End
returns-in-End c = met-end c.loop-at.names c.loop-at.expected c.args.line.now c.loop-at.at c.in-Some.tok.now _ c.in-End.variadic c.in-Some.ensures c.in-End.ensures c.loop-at.invariant

pub returns-in-Wrong : goal.returns-in-Wrong
returns-in-Wrong c = met-wrong c.loop-at.names c.loop-at.expected c.args.line.now c.loop-at.at c.in-Some.tok.now _ c.in-Some.ensures c.in-Wrong.ensures c.loop-at.invariant

pub loop-at-preserved : goal.loop-at-preserved
loop-at-preserved c =
    elim c.match-meaning.branch [
      | in-Name+in_ok-add-in-Name+else-not-branch w ↦
          let e : is_some (rank w.spelling.result.now c.loop-at.names) ≡ is_some (rank c.in-Some.tok.now.spelling c.loop-at.names) = ap (λ z. is_some (rank z c.loop-at.names)) w.spelling.ensures in
          let new : w.in_ok-add-in-Name.field-0 ≡ true = cc in
          let fresh = is-new w.in_ok-add-in-Name.field-0 _ w.in_ok-add-in-Name.ensures.new new in
          let names : c.match-meaning.names ≡ c.loop-at.names ++ c.in-Some.tok.now.spelling ∷ [] = w.names-is ∙ w.in_ok-add-in-Name.ensures.names
          ∙ ap (λ b. cond b (c.loop-at.names ++ w.spelling.result.now ∷ []) c.loop-at.names) new ∙ ap (λ (z : List ℕ). c.loop-at.names ++ z ∷ []) w.spelling.ensures in
          met-goes _ _ _ _ _ _ names w.expected-is
          (met-new c.loop-at.names c.loop-at.expected c.args.line.now c.loop-at.at c.in-Some.tok.now _ c.in-Some.ensures w.in-Name.ensures (sym e ∙ fresh) c.loop-at.invariant)
      | in-Onward w ↦ met-goes _ _ _ _ _ _ w.names-is w.expected-is
          (met-onward c.loop-at.names c.loop-at.expected w.in-Onward.next c.args.line.now c.loop-at.at c.in-Some.tok.now _ c.in-Some.ensures w.in-Onward.ensures c.loop-at.invariant)
    ]
