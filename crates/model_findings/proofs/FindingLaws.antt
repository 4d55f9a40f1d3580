-- What pragmas make of findings, and when findings refuse a unit.
use Rattle.std.proofs.Common.{◌≡◌, ◌↔◌, Bool, true, false, not, if◌then◌else◌, List, [], ◌∷◌, ◌++◌, All, Any, IsTrue, refl, sym, ap, ◌∙◌, subst}
use Rattle.std.proofs.lemmas.List.Elements.{All-head, All-tail}
use Rattle.std.proofs.lemmas.List.Folds.{Any-from_list_any, list_any-from_Any}
use Rattle.cake_base.specs.declared.rules.Fault.{Fault}
use Rattle.cake_base.specs.declared.rules.Rule.{Rule}
use Rattle.cake_base.specs.declared.rules.Severity.{Severity}
use Rattle.cake_base.specs.declared.rules.Severity.TheVariants.{Error, Warning, Ignored}
use Rattle.cake_base.specs.declared.rules.Act.{Act}
use Rattle.cake_base.specs.declared.rules.Act.TheVariants.{Push, Pop, Assign}
use Rattle.cake_base.specs.declared.rules.Mark.{Mark}
use Rattle.model_findings.specs.Severities.{InForce, popped, behind_act, holds_at, behind_marks, severity_at}
use Rattle.model_findings.specs.Ownership.{Checked, is_error, is_refused}

error_is : (s : Severity) → is_error s ≡ true → s ≡ Error
error_is Error h = refl
error_is Warning h = absurd (let e : false ≡ true = h in cc)
error_is Ignored h = absurd (let e : false ≡ true = h in cc)

pub refused_for_an_error : (marks : List Mark) (findings : List Fault) → IsTrue (is_refused marks (Checked findings)) ↔ Any (λ finding. severity_at marks finding ≡ Error) findings
refused_for_an_error marks findings =
    let test : Fault → Bool = λ finding. is_error (severity_at marks finding) in (
      λ h. let any = Any-from_list_any test findings h in (any.0, any.1, any.2, any.3, error_is (severity_at marks any.1) any.4),
      λ any. list_any-from_Any test findings (any.0, any.1, any.2, any.3, ap is_error any.4),
    )

behind_if : (holds : Bool) (rule : Rule) (act : Act) (state : InForce) → holds ≡ false → (if holds then behind_act rule act state else state) ≡ state
behind_if true rule act state h = absurd (let e : true ≡ false = h in cc)
behind_if false rule act state h = refl

marks_behind : (marks : List Mark) (finding : Fault) (state : InForce) → All (λ mark. holds_at finding.place mark ≡ false) marks → behind_marks finding marks state ≡ state
marks_behind [] finding state none = refl
marks_behind (mark ∷ marks) finding state none =
    let P : Mark → Type 0 = λ m. holds_at finding.place m ≡ false in
    ap (behind_marks finding marks) (behind_if (holds_at finding.place mark) finding.rule mark.act state (All-head P mark marks none))
    ∙ marks_behind marks finding state (All-tail P mark marks none)

pub error_before_pragmas : (marks : List Mark) (finding : Fault) → All (λ mark. holds_at finding.place mark ≡ false) marks → severity_at marks finding ≡ Error
error_before_pragmas marks finding none = ap (λ state. state.now) (marks_behind marks finding (record { now = Error; pushed = [] }) none)

abbrev pub Assigns : Mark → Type 0
Assigns mark = (severity : Severity) × (rule : Rule) × (mark.act ≡ Assign severity rule)

kept_if : (same : Bool) (severity : Severity) (state : InForce) → (if same then record state { now = severity } else state).pushed ≡ state.pushed
kept_if true severity state = refl
kept_if false severity state = refl

assigning_keeps : (holds : Bool) (rule : Rule) (act : Act) (state : InForce) (severity : Severity) (other : Rule) → act ≡ Assign severity other → (if holds then behind_act rule act state else state).pushed ≡ state.pushed
assigning_keeps true rule act state severity other e = ap (λ a. (behind_act rule a state).pushed) e ∙ kept_if _ severity state
assigning_keeps false rule act state severity other e = refl

inner_keeps : (inner others : List Mark) (finding : Fault) (state : InForce) → All Assigns inner → (last : InForce) × (last.pushed ≡ state.pushed) × (behind_marks finding (inner ++ others) state ≡ behind_marks finding others last)
inner_keeps [] others finding state assign = (state, refl, refl)
inner_keeps (mark ∷ inner) others finding state assign =
    let head = All-head Assigns mark inner assign in
    let next : InForce = if holds_at finding.place mark then behind_act finding.rule mark.act state else state in
    let rest = inner_keeps inner others finding next (All-tail Assigns mark inner assign) in
    (rest.0, rest.1 ∙ assigning_keeps (holds_at finding.place mark) finding.rule mark.act state head.0 head.1 head.2, rest.2)

held : (holds : Bool) (rule : Rule) (act wanted : Act) (state : InForce) → holds ≡ true → act ≡ wanted → (if holds then behind_act rule act state else state) ≡ behind_act rule wanted state
held true rule act wanted state h e = ap (λ a. behind_act rule a state) e
held false rule act wanted state h e = absurd (let k : false ≡ true = h in cc)

popped_back : (last state : InForce) → last.pushed ≡ state.now ∷ state.pushed → popped last.pushed last ≡ state
popped_back last state e = ap (λ pushed. popped pushed last) e

pub pop_brings_back : (push pop : Mark) (inner others : List Mark) (finding : Fault) (state : InForce) → push.act ≡ Push → pop.act ≡ Pop → IsTrue (holds_at finding.place push) → IsTrue (holds_at finding.place pop) → All Assigns inner → behind_marks finding (push ∷ inner ++ pop ∷ others) state ≡ behind_marks finding others state
pop_brings_back push pop inner others finding state is_push is_pop push_holds pop_holds assign =
    let pushed : InForce = record state { pushed = state.now ∷ state.pushed } in
    let first = held (holds_at finding.place push) finding.rule push.act Push state push_holds is_push in
    let kept = inner_keeps inner (pop ∷ others) finding pushed assign in
    let back = held (holds_at finding.place pop) finding.rule pop.act Pop kept.0 pop_holds is_pop in
    ap (behind_marks finding (inner ++ pop ∷ others)) first ∙ kept.2 ∙ ap (behind_marks finding others) (back ∙ popped_back kept.0 state kept.1)
