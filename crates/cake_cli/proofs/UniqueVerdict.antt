-- Each unit has one verdict.
use Rattle.std.proofs.Common.{◌≡◌, ◌⊎◌, ℕ, ◌+◌, ◌-◌, ◌<◌, ◌≤◌, List, [], ◌∷◌, ◌++◌, take, drop, length, sym, ap, ◌∙◌, subst, inl, inr, append_assoc, arith, Result, Ok, Err}
use Rattle.std.proofs.lemmas.Bool.Decides.{nat_tests}
use Rattle.std.proofs.lemmas.List.{take-append-drop}
use Rattle.std.proofs.Math.Seq.{take-add}
use Rattle.model_core.specs.Core.{Core}
use Rattle.cake_base.specs.declared.places.Place.{Place}
use Rattle.cake_base.specs.declared.rules.Family.TheVariants.{S}
use Rattle.cake_base.specs.declared.rules.Fault.{Fault}
use Rattle.model_tokens.specs.declared.tokens.CTok.{CTok}
use Rattle.c_model.specs.FirstUnit.{IsUnit, CanGoOn, StopsFor, no_unit_goes_on, too_few, StopsAt, token_place}
use Rattle.model_tokens.specs.CTokens.{c_tokens_of}
use Rattle.model_preprocessing.specs.PreprocessedUnit.{Prepared}
use Rattle.model_preprocessing.specs.Processes.{Stop, broken, passed, unread, Refusal}
use Rattle.model_grammar.specs.SyntaxForms.{External}
use Rattle.model_grammar.specs.TerminalsOf.{terminals_of}
use Rattle.cake_cli.specs.Verdict.{Verdict, Stopped, NotBuilt, IsCore, IsForm, IsSyntaxStop, IsVerdictOn, IsVerdictOf, IsVerdict}
use Rattle.cake_cli.proofs.Complete.{one_unit}
use Rattle.cake_cli.proofs.UnitForms.{one_form}
use Rattle.grammar_laws.proofs.answers.AtMostOneAnswer.{exclude}

-- a front of what can go on can go on
shorter : (ts : List CTok) (m n : ℕ) → m ≤ n → CanGoOn (take n ts) → CanGoOn (take m ts)
shorter ts m n h (rest, core, unit) =
    let more : List CTok = take (n - m) (drop m ts) in
    let size : n ≡ m + (n - m) = omega arith in
    let front : take n ts ≡ take m ts ++ more = ap (λ k. take k ts) size ∙ take-add m (n - m) ts in
    (more ++ rest, core, subst (λ us. IsUnit us core) (ap (λ us. us ++ rest) front ∙ append_assoc (take m ts) more rest) unit)

-- a front of a unit can go on
front_goes_on : (ts : List CTok) (core : Core) (n : ℕ) → IsUnit ts core → CanGoOn (take n ts)
front_goes_on ts core n unit = (drop n ts, core, subst (λ us. IsUnit us core) (sym (take-append-drop n ts)) unit)

-- the tokens of a unit are no place to stop
unit_never_stops : (ts : List CTok) (core : Core) (rank : ℕ) → IsUnit ts core → StopsFor ts rank → ⊥
unit_never_stops ts core rank unit (no_unit_goes_on h never) = never (front_goes_on ts core (1 + rank) unit)
unit_never_stops ts core rank unit (too_few e never) = never core unit

-- reading doesn't stop before the rank at which it stops
not_before : (ts : List CTok) (m n : ℕ) → m < n → StopsFor ts m → StopsAt ts n → ⊥
not_before ts m n h (no_unit_goes_on inside never) at = never (shorter ts (1 + m) n (omega arith) at.before)
not_before ts m n h (too_few e never) at = behind at.cause
  where
    behind : StopsFor ts n → ⊥
    behind (no_unit_goes_on inside never') = omega arith
    behind (too_few e' never') = omega arith

less_or_not : (m n : ℕ) → (m < n) ⊎ (n ≤ m)
less_or_not m n = grind (arith, nat_tests)

one_rank : (ts : List CTok) (m n : ℕ) → StopsAt ts m → StopsAt ts n → m ≡ n
one_rank ts m n p q = by (less_or_not m n) (less_or_not n m)
  where
    by : (m < n) ⊎ (n ≤ m) → (n < m) ⊎ (m ≤ n) → m ≡ n
    by (inl h) other = absurd (not_before ts m n h p.cause q)
    by (inr h) (inl h') = absurd (not_before ts n m h' q.cause p)
    by (inr h) (inr h') = omega arith

-- the grammar stops at one place, and for one cause
one_stop : (tokens : List CTok) (end : Place) (a b : Stop) → IsSyntaxStop tokens end a → IsSyntaxStop tokens end b → a ≡ b
one_stop tokens end (unread file cause) b p q = absurd p
one_stop tokens end a (unread file cause) p q = absurd q
one_stop tokens end (broken a) (broken b) p q = let law = exclude (terminals_of tokens) in ap broken (p.2 ∙ ap (λ k. record { place = token_place tokens end k; rule = record { family = S; number = 1 } }) (law.one_fault p.0 q.0 p.1 q.1) ∙ sym q.2)
one_stop tokens end (broken a) (passed b) p q = let law = exclude (terminals_of tokens) in absurd (law.fault_or_depth p.0 q.0 p.1 q.1)
one_stop tokens end (passed a) (broken b) p q = let law = exclude (terminals_of tokens) in absurd (law.fault_or_depth q.0 p.0 q.1 p.1)
one_stop tokens end (passed a) (passed b) p q = let law = exclude (terminals_of tokens) in ap passed (p.2 ∙ ap (λ k. record { place = token_place tokens end k; limit = record { number = 6 } }) (law.one_depth p.0 q.0 p.1 q.1) ∙ sym q.2)

-- and nowhere in what has a form
form_never_stops : (tokens : List CTok) (unit : List External) (end : Place) (stop : Stop) → IsForm tokens unit → IsSyntaxStop tokens end stop → ⊥
form_never_stops tokens unit end (broken fault) form p = let law = exclude (terminals_of tokens) in law.unit_or_fault (form.tree ∷ []) p.0 form.derived p.1
form_never_stops tokens unit end (passed hit) form p = let law = exclude (terminals_of tokens) in law.unit_or_depth (form.tree ∷ []) p.0 form.derived p.1
form_never_stops tokens unit end (unread file cause) form p = p

-- tokens have one verdict
tokens_verdict : (tokens : List CTok) (end : Place) (v w : Verdict) → IsVerdictOn tokens end v → IsVerdictOn tokens end w → v ≡ w
tokens_verdict tokens end (Stopped stop) (Stopped other) p q = ap Stopped (one_stop tokens end stop other p q)
tokens_verdict tokens end (Stopped stop) (NotBuilt unit place) p q = absurd (form_never_stops tokens unit end stop q.0 p)
tokens_verdict tokens end (Stopped stop) (IsCore unit core) p q = absurd (form_never_stops tokens unit end stop q.0 p)
tokens_verdict tokens end (NotBuilt unit place) (Stopped stop) p q = absurd (form_never_stops tokens unit end stop p.0 q)
tokens_verdict tokens end (IsCore unit core) (Stopped stop) p q = absurd (form_never_stops tokens unit end stop p.0 q)
tokens_verdict tokens end (NotBuilt unit place) (NotBuilt form other) p q =
    ap (λ u. NotBuilt u place) (one_form tokens unit form p.0 q.0) ∙ ap (NotBuilt form) (p.3 ∙ ap (token_place tokens end) (one_rank tokens p.1 q.1 p.2 q.2) ∙ sym q.3)
tokens_verdict tokens end (NotBuilt unit place) (IsCore form core) p q = absurd (unit_never_stops tokens core p.1 q.1 p.2.cause)
tokens_verdict tokens end (IsCore unit core) (NotBuilt form place) p q = absurd (unit_never_stops tokens core q.1 p.1 q.2.cause)
tokens_verdict tokens end (IsCore unit core) (IsCore form other) p q = ap (λ u. IsCore u core) (one_form tokens unit form p.0 q.0) ∙ ap (IsCore form) (one_unit tokens core other p.1 q.1)

converted_verdict : (converted : Result (List CTok) Fault) (end : Place) (v w : Verdict) → IsVerdictOf converted end v → IsVerdictOf converted end w → v ≡ w
converted_verdict (Ok tokens) end v w p q = tokens_verdict tokens end v w p q
converted_verdict (Err fault) end v w p q = p ∙ sym q

pub one_verdict : (done : Result Prepared Refusal) (v w : Verdict) → IsVerdict done v → IsVerdict done w → v ≡ w
one_verdict (Ok unit) v w p q = converted_verdict (c_tokens_of unit.tokens) unit.end v w p q
one_verdict (Err refusal) v w p q = p ∙ sym q
