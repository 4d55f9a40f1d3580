-- When what an expression is stands in a unit and its scopes (ISO/IEC 9899:2024, 6.2.1): what it names is there.
use Rattle.std.specs.Prelude.{◌≡◌, ℕ, Bool, true, ◌&&◌, Result}
use Rattle.std.specs.Result.{IfOk}
use Rattle.cake_base.specs.declared.rules.Fault.{Fault}
use Rattle.model_types.specs.declared.marks.Origin.TheVariants.{Written}
use Rattle.model_types.specs.Types.{CType}
use Rattle.model_grammar.specs.declared.syntax.PrefixOp.{PrefixOp}
use Rattle.model_grammar.specs.declared.syntax.PrefixOp.TheVariants as prefix
use Rattle.model_core.specs.TypedScope.{Scope, object_is, is_automatic, function_is, address_is_noted, expr_stands, lvalue_stands}
use Rattle.model_core.specs.PossibleTypes.{is_possible}
use Rattle.model_core.specs.Core as unit
use Rattle.model_checking.specs.Meanings.{Meaning, a_place, a_value, a_function, a_target}

abbrev pub meaning_stands : Scope → Meaning → Bool
meaning_stands s (a_place object known) = lvalue_stands s object
meaning_stands s (a_value value) = expr_stands s value
meaning_stands s (a_function id type by_name mark) = is_possible s.core.structs type && function_is type (unit.function_by_id s.core.functions id)
meaning_stands s (a_target pointer) = expr_stands s pointer

-- of an object that is an operand, its value need not be there
abbrev pub operand_stands : Scope → unit.Expr → Bool
operand_stands s (unit.Load object mark) = lvalue_stands s object
operand_stands s e = expr_stands s e

-- the object whose address `&` takes says so
abbrev pub is_noted : Scope → PrefixOp → Meaning → Bool
is_noted s prefix.Address (a_place object known) = address_is_noted s Written object
is_noted s op m = true

-- an automatic object of a number and a type is in scope
abbrev pub has_automatic : Scope → (id : ℕ) → CType → Bool
has_automatic s id type = object_is s id type (unit.object_of s.core.objects id) && is_automatic (unit.object_of s.core.objects id)

-- of an array in the value of a structure, the object that holds that value
abbrev pub is_kept : Scope → Meaning → Bool
is_kept s (a_place (unit.Field (unit.Literal origin id type values mark) rank member name at) known) = has_automatic s id type
is_kept s m = true

-- a rule gives what stands there, where it breaks nothing
abbrev pub GivesStanding : Scope → Result Meaning Fault → Type 0
GivesStanding s r = IfOk r (λ m. meaning_stands s m ≡ true)
