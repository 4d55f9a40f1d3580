-- Specifiers one after another, type names, and constants in them.
use Rattle.std.proofs.Common.{◌≡◌, refl, ℤ, true, List, Option, Some, None, Result, Ok, Err}
use Rattle.cake_base.specs.declared.places.Place.{Place}
use Rattle.cake_base.specs.declared.rules.Fault.{Fault}
use Rattle.model_types.specs.declared.numbers.Basic.{Basic}
use Rattle.model_types.specs.Types.{CType}
use Rattle.model_types.specs.Structures.{Structure}
use Rattle.model_grammar.specs.declared.syntax.TypeofWord.{TypeofWord}
use Rattle.model_grammar.specs.SyntaxForms as syntax
use Rattle.model_scopes.specs.Declarations.{Value}
use Rattle.model_checking.specs.State.{Use, State, Both, Answer, gives, then_do, unless, with_state}
use Rattle.model_checking.specs.FaultsBeside.{first_of_faults}
use Rattle.model_checking.specs.Meanings.{Meaning, Operand}
use Rattle.model_checking.specs.MadeCore.{meaning_type, used_fault}
use Rattle.model_checking.specs.ConstantValues.{constant_of}
use Rattle.model_checking.specs.Parts.{Declared}
use Rattle.model_checking.specs.DeclarationContexts.{of_type_name}
use Rattle.model_checking.specs.SpecifierTypes.{specifiers, typeof_type}
use Rattle.model_checking.specs.Enumerations.{fixed_type}
use Rattle.model_checking.specs.Derivations.{Steps}
use Rattle.model_checking.specs.DeclaratorTypes.{own_parameters_fault, declarator}
use Rattle.model_checking.specs.Reading.{as_operand, as_constant, or_type, given_type, declared_type, note_declared}
use Rattle.typed_walk_laws.specs.SoundScopes.{are_sound}
use Rattle.typed_walk_laws.specs.Behind.{TypesKept, SoundBoth, GivesSound}
use Rattle.typed_walk_laws.proofs.Walks.{TypedMeaning, TypedOperand, Anything, after, after_unless, by_rule, given, behind_here, operand_given}
use Rattle.typed_walk_laws.proofs.Operations.{meaning_possible}
use Rattle.typed_walk_laws.proofs.Declared.{PossibleType}
use Rattle.typed_walk_laws.proofs.SpecifiedTypes.{PossibleIfAny, SpecifiedPossible, specifiers_sound, typeof_possible}
use Rattle.typed_walk_laws.proofs.TagForms.{fixed_type_sound}
use Rattle.typed_walk_laws.proofs.Declarators.{PlainSteps, PossibleDeclared, latter_none, anything, declarator_sound, note_declared_sound}
use Rattle.typed_expression_laws.proofs.ExpressionForms.{IsSound}

-- ---- the value of a constant expression

abbrev constant_number : Result Value Fault → Result ℤ Fault
constant_number (Ok v) = Ok v.value
constant_number (Err fault) = Err fault

abbrev constant_in : List Structure → Operand → Result ℤ Fault
constant_in structs o = unless (used_fault structs o) (constant_number (constant_of o.first o.value))

pub constant_form : (e : syntax.Expr) (s : State) (x : Answer Meaning) → GivesSound s TypedMeaning x → GivesSound s Anything (as_constant e x)
constant_form e s x h =
    after TypedOperand Anything s (as_operand e x) (λ o t. with_state (constant_in t.scopes.structs o) t) (operand_given e s x h) (λ o t later p.
    by_rule Anything t t (constant_in t.scopes.structs o) (behind_here t later.sound) (anything t.scopes.structs (constant_in t.scopes.structs o)))

pub no_constant_form : (s : State) → are_sound s.scopes ≡ true → GivesSound s Anything (gives {A = Option ℤ} None s)
no_constant_form s h = given {A = Option ℤ} Anything s None h refl

pub a_constant_form : (e : syntax.Expr) (s : State) (x : Answer Meaning) → GivesSound s TypedMeaning x →
    GivesSound s Anything (then_do (as_constant e x) (λ value t. gives (Some value) t))
a_constant_form e s x h =
    after Anything Anything s (as_constant e x) (λ value t. gives (Some value) t) (constant_form e s x h) (λ value t later p. given Anything t (Some value) later.sound refl)

-- ---- one specifier

pub no_type_form : (s : State) → are_sound s.scopes ≡ true → GivesSound s PossibleIfAny (gives None s)
no_type_form s h = given PossibleIfAny s None h refl

pub given_type_form : (s : State) (x : Answer CType) → GivesSound s PossibleType x → GivesSound s PossibleIfAny (given_type x)
given_type_form s x h = after PossibleType PossibleIfAny s x (λ type t. gives (Some type) t) h (λ type t later p. given PossibleIfAny t (Some type) later.sound p)

pub typeof_form : (word : TypeofWord) (s : State) (x : Answer Meaning) → GivesSound s TypedMeaning x →
    GivesSound s PossibleIfAny (then_do x (λ m t. gives (Some (typeof_type word (meaning_type m))) t))
typeof_form word s x h =
    after TypedMeaning PossibleIfAny s x (λ m t. gives (Some (typeof_type word (meaning_type m))) t) h (λ m t later p.
    given PossibleIfAny t (Some (typeof_type word (meaning_type m))) later.sound
    (typeof_possible t.scopes.structs word (meaning_type m) (meaning_possible t.scopes.structs m p)))

pub typeof_name_form : (word : TypeofWord) (s : State) (x : Answer Declared) → GivesSound s PossibleDeclared x →
    GivesSound s PossibleIfAny (then_do x (λ d t. unless (first_of_faults (own_parameters_fault d) d.fault) (gives (Some (typeof_type word (declared_type d))) t)))
typeof_name_form word s x h =
    after PossibleDeclared PossibleIfAny s x (λ d t. unless (first_of_faults (own_parameters_fault d) d.fault) (gives (Some (typeof_type word (declared_type d))) t)) h
    (λ d t later p.
    after_unless (SoundBoth t PossibleIfAny) (first_of_faults (own_parameters_fault d) d.fault) (gives (Some (typeof_type word (declared_type d))) t) (λ n.
    given PossibleIfAny t (Some (typeof_type word (declared_type d))) later.sound
    (typeof_possible t.scopes.structs word (declared_type d) (p (latter_none (own_parameters_fault d) d.fault n)))))

-- ---- a list of specifiers

either_kept : (a b : List Structure) (t u : Option CType) → TypesKept a b → PossibleIfAny a t → PossibleIfAny b u → PossibleIfAny b (or_type t u)
either_kept a b None u k h l = l
either_kept a b (Some type) u k h l = k.possible type h

pub more_specs_form : (s : State) (x : Answer (Option CType)) (others : State → Answer (Option CType)) → GivesSound s PossibleIfAny x → IsSound PossibleIfAny others →
    GivesSound s PossibleIfAny (then_do x (λ type t. then_do (others t) (λ types v. gives (or_type type types) v)))
more_specs_form s x others h k =
    after PossibleIfAny PossibleIfAny s x (λ type t. then_do (others t) (λ types v. gives (or_type type types) v)) h (λ type t later p.
    after PossibleIfAny PossibleIfAny t (others t) (λ types v. gives (or_type type types) v) (k t later.sound) (λ types v last q.
    given PossibleIfAny v (or_type type types) last.sound (either_kept t.scopes.structs v.scopes.structs type types last.kept p q)))

-- the type behind the `:` of an enumeration
pub no_fixed_form : (s : State) → are_sound s.scopes ≡ true → GivesSound s Anything (gives {A = Option Basic} None s)
no_fixed_form s h = given {A = Option Basic} Anything s None h refl

pub fixed_form : (place : Place) (specs : syntax.Specs) (s : State) (parts : Answer (Option CType)) → GivesSound s PossibleIfAny parts →
    GivesSound s Anything (then_do (fixed_type place specs (specifiers of_type_name specs parts)) (λ basic t. gives (Some basic) t))
fixed_form place specs s parts h =
    after Anything Anything s (fixed_type place specs (specifiers of_type_name specs parts)) (λ basic t. gives (Some basic) t)
    (fixed_type_sound place specs s (specifiers of_type_name specs parts) (specifiers_sound of_type_name specs s parts h)) (λ basic t later p.
    given Anything t (Some basic) later.sound refl)

-- ---- a type name

abbrev pub StepsSound : (State → Both Steps) → Type 0
StepsSound steps = (s : State) → are_sound s.scopes ≡ true → SoundBoth s PlainSteps (steps s)

pub type_name_form : (u : Use) (specs : syntax.Specs) (place : Place) (d : syntax.Declarator) (s : State) (parts : Answer (Option CType)) (steps : State → Both Steps) →
    GivesSound s PossibleIfAny parts → StepsSound steps →
    GivesSound s PossibleDeclared (then_do (specifiers of_type_name specs parts) (λ x t. note_declared u (declarator x place d t (steps t))))
type_name_form u specs place d s parts steps h k =
    after SpecifiedPossible PossibleDeclared s (specifiers of_type_name specs parts) (λ x t. note_declared u (declarator x place d t (steps t)))
    (specifiers_sound of_type_name specs s parts h) (λ x t later p.
    note_declared_sound u t (declarator x place d t (steps t)) (declarator_sound x place d t (steps t) p (k t later.sound)))
