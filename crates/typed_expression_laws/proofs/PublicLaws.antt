-- What the laws of whole trees say in the words of the public ones.
use Rattle.std.proofs.Common.{◌≡◌, refl, Bool, true, List, Option, Some, None, Ok, Err}
use Rattle.std.specs.Option.{unwrap_or}
use Rattle.cake_base.specs.declared.places.Place.{Place}
use Rattle.model_types.specs.Types.{CType, Types}
use Rattle.model_types.specs.Structures.{Structure}
use Rattle.model_grammar.specs.SyntaxForms as syntax
use Rattle.model_core.specs.CoreTypes.{int_type}
use Rattle.model_core.specs.PossibleTypes.{is_possible, are_possible}
use Rattle.model_checking.specs.Parts.{Specified}
use Rattle.model_checking.specs.State.{Use, State, Answer}
use Rattle.model_checking.specs.DeclaratorTypes.{declarator}
use Rattle.model_checking.specs.Reading.{count_of}
use Rattle.model_checking.specs.Elaborated.{types_in, derivations, arguments_for}
use Rattle.typed_rule_laws.specs.TypedArguments.{are_typed_values, arguments_fit, exprs_count}
use Rattle.typed_walk_laws.specs.SoundScopes.{are_sound}
use Rattle.typed_walk_laws.specs.Behind.{SoundBoth, GivesSound}
use Rattle.typed_walk_laws.proofs.Walks.{Wanted}
use Rattle.typed_walk_laws.proofs.SpecifiedTypes.{PossibleIfAny}
use Rattle.typed_walk_laws.proofs.Declarators.{PossibleDeclared, declarator_sound}
use Rattle.typed_expression_laws.specs.CoveredTrees.{are_covered, are_covered_specs, is_covered_declarator}
use Rattle.typed_expression_laws.proofs.ArgumentForms.{TypedArguments}
use Rattle.typed_expression_laws.proofs.WholeTrees.{arguments_sound, types_sound, derivations_sound}

-- what is more than is asked
pub as_asked : {A : Type 0} (P Q : Wanted A) (s : State) (r : Answer A) → GivesSound s P r → ((structs : List Structure) (x : A) → P structs x → Q structs x) → GivesSound s Q r
as_asked P Q s (Ok x) h k = (h.0, k x.state.scopes.structs x.made h.1)
as_asked P Q s (Err fault) h k = tt

-- ---- arguments

pub arguments_typed : (u : Use) (parameters : Types) (s : State) (es : syntax.Exprs) → are_covered es ≡ true → are_sound s.scopes ≡ true →
    are_possible s.scopes.structs parameters ≡ true → GivesSound s (λ structs made. are_typed_values structs made ≡ true) (arguments_for u parameters s es)
arguments_typed u parameters s es c h p =
    as_asked (TypedArguments parameters (count_of es)) (λ structs made. are_typed_values structs made ≡ true) s (arguments_for u parameters s es)
    (arguments_sound es u parameters s c h p) (λ structs made k. k.typed)

pub arguments_fitting : (u : Use) (parameters : Types) (s : State) (es : syntax.Exprs) → are_covered es ≡ true → are_sound s.scopes ≡ true →
    are_possible s.scopes.structs parameters ≡ true → GivesSound s (λ structs made. arguments_fit parameters made ≡ true) (arguments_for u parameters s es)
arguments_fitting u parameters s es c h p =
    as_asked (TypedArguments parameters (count_of es)) (λ structs made. arguments_fit parameters made ≡ true) s (arguments_for u parameters s es)
    (arguments_sound es u parameters s c h p) (λ structs made k. k.fit)

pub arguments_counted : (u : Use) (parameters : Types) (s : State) (es : syntax.Exprs) → are_covered es ≡ true → are_sound s.scopes ≡ true →
    are_possible s.scopes.structs parameters ≡ true → GivesSound s (λ structs made. exprs_count made ≡ count_of es) (arguments_for u parameters s es)
arguments_counted u parameters s es c h p =
    as_asked (TypedArguments parameters (count_of es)) (λ structs made. exprs_count made ≡ count_of es) s (arguments_for u parameters s es)
    (arguments_sound es u parameters s c h p) (λ structs made k. k.count)

-- ---- types

or_int_possible : (structs : List Structure) (type : Option CType) → PossibleIfAny structs type → is_possible structs (unwrap_or type int_type) ≡ true
or_int_possible structs None h = refl
or_int_possible structs (Some type) h = h

possible_if_any : (structs : List Structure) (type : Option CType) → is_possible structs (unwrap_or type int_type) ≡ true → PossibleIfAny structs type
possible_if_any structs None h = refl
possible_if_any structs (Some type) h = h

pub specified_possible : (u : Use) (is_lone : Bool) (s : State) (specs : syntax.Specs) → are_covered_specs specs ≡ true → are_sound s.scopes ≡ true →
    GivesSound s (λ structs type. is_possible structs (unwrap_or type int_type) ≡ true) (types_in u is_lone s specs)
specified_possible u is_lone s specs c h =
    as_asked PossibleIfAny (λ structs type. is_possible structs (unwrap_or type int_type) ≡ true) s (types_in u is_lone s specs)
    (types_sound specs u is_lone s c h) or_int_possible

pub derived_possible : (u : Use) (given : Specified) (first : Place) (d : syntax.Declarator) (s : State) → is_covered_declarator d ≡ true → are_sound s.scopes ≡ true →
    is_possible s.scopes.structs (unwrap_or given.type int_type) ≡ true → SoundBoth s PossibleDeclared (declarator given first d s (derivations u s d))
derived_possible u given first d s c h p =
    declarator_sound given first d s (derivations u s d) (possible_if_any s.scopes.structs given.type p) (derivations_sound d u s c h)
