-- Arguments one after another, and calls of them.
use Rattle.std.proofs.Common.{◌≡◌, ◌∙◌, ap, refl, ℕ, ◌+◌, suc, true, ◌&&◌, List, None, arith}
use Rattle.std.proofs.lemmas.Bool.{and_parts, and_from}
use Rattle.cake_base.specs.declared.places.Place.{Place}
use Rattle.model_types.specs.declared.marks.Mark.{Mark}
use Rattle.model_types.specs.Types.{Types, no_types, more_types}
use Rattle.model_types.specs.Structures.{Structure}
use Rattle.model_grammar.specs.SyntaxForms as syntax
use Rattle.model_core.specs.PossibleTypes.{are_possible}
use Rattle.model_core.specs.Core as unit
use Rattle.model_checking.specs.State.{State, Answer, gives, then_do, unless, with_state}
use Rattle.model_checking.specs.Meanings.{Meaning, Operand}
use Rattle.model_checking.specs.CallRules.{call_fault, parameters_of, argument, behind, call}
use Rattle.model_checking.specs.Reading.{as_operand}
use Rattle.typed_rule_laws.specs.TypedMeanings.{is_typed_value}
use Rattle.typed_rule_laws.specs.TypedArguments.{exprs_count, are_typed_values, argument_fits, arguments_fit}
use Rattle.typed_rule_laws.proofs.CallForms.{argument_is_typed, call_is_typed}
use Rattle.typed_walk_laws.specs.SoundScopes.{are_sound}
use Rattle.typed_walk_laws.specs.Behind.{TypesKept, SoundBoth, GivesSound}
use Rattle.typed_walk_laws.proofs.Walks.{TypedMeaning, TypedOperand, after, after_unless, by_rule, given, behind_here, operand_given}
use Rattle.typed_walk_laws.proofs.KeptMeanings.{value_kept, parameters_kept}
use Rattle.typed_walk_laws.proofs.Operations.{keeps_operand, parameters_known, call_fault_kept}

-- typed arguments, as many as these, that fit their parameters
pub record TypedArguments (parameters : Types) (n : ℕ) (structs : List Structure) (es : unit.Exprs) : Type 0 where
  pub typed : are_typed_values structs es ≡ true
  pub fit : arguments_fit parameters es ≡ true
  pub count : exprs_count es ≡ n

abbrev TypedArgument : Types → List Structure → unit.Expr → Type 0
TypedArgument parameters structs e = (is_typed_value structs e && argument_fits parameters e) ≡ true

-- arguments that are sound where what is declared is, and the parameters are possible
abbrev pub AreSound : Types → ℕ → (State → Answer unit.Exprs) → Type 0
AreSound parameters n part =
    (s : State) → are_sound s.scopes ≡ true → are_possible s.scopes.structs parameters ≡ true → GivesSound s (TypedArguments parameters n) (part s)

pub no_arguments_form : (parameters : Types) (s : State) → are_sound s.scopes ≡ true → GivesSound s (TypedArguments parameters 0) (gives unit.no_exprs s)
no_arguments_form parameters s h = given (TypedArguments parameters 0) s unit.no_exprs h (record { typed = refl; fit = refl; count = refl })

behind_possible : (structs : List Structure) (parameters : Types) → are_possible structs parameters ≡ true → are_possible structs (behind parameters) ≡ true
behind_possible structs no_types h = refl
behind_possible structs (more_types t ts) h = (and_parts _ (are_possible structs ts) h).1

one_more : (parameters : Types) (n : ℕ) (a b : List Structure) (e : unit.Expr) (es : unit.Exprs) → TypesKept a b → TypedArgument parameters a e →
    TypedArguments (behind parameters) n b es → TypedArguments parameters (1 + n) b (unit.more_exprs e es)
one_more parameters n a b e es k h others =
    let parts = and_parts (is_typed_value a e) (argument_fits parameters e) h in
    let count : exprs_count es ≡ n = others.count in
    let more : suc (exprs_count es) ≡ 1 + n = omega (arith, count) in
    record {
      typed = and_from (is_typed_value b e) (are_typed_values b es) (value_kept a b e k parts.0) others.typed;
      fit = and_from (argument_fits parameters e) (arguments_fit (behind parameters) es) parts.1 others.fit;
      count = more;
    }

others_form : (parameters : Types) (n : ℕ) (e : unit.Expr) (s : State) (others : State → Answer unit.Exprs) → are_sound s.scopes ≡ true →
    are_possible s.scopes.structs (behind parameters) ≡ true → TypedArgument parameters s.scopes.structs e → AreSound (behind parameters) n others →
    GivesSound s (TypedArguments parameters (1 + n)) (then_do (others s) (λ es t. gives (unit.more_exprs e es) t))
others_form parameters n e s others h p q k =
    after (TypedArguments (behind parameters) n) (TypedArguments parameters (1 + n)) s (others s) (λ es t. gives (unit.more_exprs e es) t) (k s h p) (λ es t later r.
    given (TypedArguments parameters (1 + n)) t (unit.more_exprs e es) later.sound (one_more parameters n s.scopes.structs t.scopes.structs e es later.kept q r))

argument_form : (parameters : Types) (n : ℕ) (a : Operand) (s : State) (others : State → Answer unit.Exprs) → are_sound s.scopes ≡ true →
    are_possible s.scopes.structs parameters ≡ true → TypedOperand s.scopes.structs a → AreSound (behind parameters) n others →
    GivesSound s (TypedArguments parameters (1 + n)) (then_do (with_state (argument s.scopes.structs parameters a) s) (λ e t.
    then_do (others t) (λ es v. gives (unit.more_exprs e es) v)))
argument_form parameters n a s others h p q k =
    after (TypedArgument parameters) (TypedArguments parameters (1 + n)) s (with_state (argument s.scopes.structs parameters a) s)
    (λ e t. then_do (others t) (λ es v. gives (unit.more_exprs e es) v))
    (by_rule (TypedArgument parameters) s s (argument s.scopes.structs parameters a) (behind_here s h) (argument_is_typed s.scopes.structs parameters a p q))
    (λ e t later r. others_form parameters n e t others later.sound
    (parameters_kept s.scopes.structs t.scopes.structs (behind parameters) later.kept (behind_possible s.scopes.structs parameters p)) r k)

pub more_arguments_form : (parameters : Types) (n : ℕ) (first : syntax.Expr) (s : State) (x : Answer Meaning) (others : State → Answer unit.Exprs) →
    are_possible s.scopes.structs parameters ≡ true → GivesSound s TypedMeaning x → AreSound (behind parameters) n others →
    GivesSound s (TypedArguments parameters (1 + n)) (then_do (as_operand first x) (λ a t. then_do (with_state (argument t.scopes.structs parameters a) t) (λ e t.
    then_do (others t) (λ es v. gives (unit.more_exprs e es) v))))
more_arguments_form parameters n first s x others p h k =
    after TypedOperand (TypedArguments parameters (1 + n)) s (as_operand first x)
    (λ a t. then_do (with_state (argument t.scopes.structs parameters a) t) (λ e t. then_do (others t) (λ es v. gives (unit.more_exprs e es) v)))
    (operand_given first s x h) (λ a t later q.
    argument_form parameters n a t others later.sound (parameters_kept s.scopes.structs t.scopes.structs parameters later.kept p) q k)

-- ---- a call

called_form : (place : Place) (n : ℕ) (mark : Mark) (f : Operand) (s : State) (arguments : Answer unit.Exprs) → TypedOperand s.scopes.structs f →
    call_fault s.scopes.structs place f n ≡ None → GivesSound s (TypedArguments (parameters_of f) n) arguments →
    GivesSound s TypedMeaning (then_do arguments (λ es t. gives (call mark f es) t))
called_form place n mark f s arguments p free h =
    after (TypedArguments (parameters_of f) n) TypedMeaning s arguments (λ es t. gives (call mark f es) t) h (λ es t later q.
    given TypedMeaning t (call mark f es) later.sound
    (call_is_typed t.scopes.structs mark place f es (keeps_operand s.scopes.structs t.scopes.structs f later.kept p) q.typed q.fit
    (ap (λ k. call_fault t.scopes.structs place f k) q.count ∙ call_fault_kept s.scopes.structs t.scopes.structs place f n later.kept free)))

pub call_form : (function : syntax.Expr) (place : Place) (n : ℕ) (mark : Mark) (s : State) (x : Answer Meaning) (arguments : Types → State → Answer unit.Exprs) →
    GivesSound s TypedMeaning x → ((parameters : Types) → AreSound parameters n (arguments parameters)) →
    GivesSound s TypedMeaning (then_do (as_operand function x) (λ f t. unless (call_fault t.scopes.structs place f n)
    (then_do (arguments (parameters_of f) t) (λ es v. gives (call mark f es) v))))
call_form function place n mark s x arguments h k =
    after TypedOperand TypedMeaning s (as_operand function x)
    (λ f t. unless (call_fault t.scopes.structs place f n) (then_do (arguments (parameters_of f) t) (λ es v. gives (call mark f es) v)))
    (operand_given function s x h) (λ f t later p.
    after_unless (SoundBoth t TypedMeaning) (call_fault t.scopes.structs place f n) (then_do (arguments (parameters_of f) t) (λ es v. gives (call mark f es) v)) (λ free.
    called_form place n mark f t (arguments (parameters_of f) t) p free
    (k (parameters_of f) t later.sound (parameters_known t.scopes.structs place f n p free))))
