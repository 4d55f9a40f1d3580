-- What the expressions of a core name in their unit (ISO/IEC 9899:2024, 6.2.1, 6.2.5, 6.5): objects and
-- functions with their types, in their scopes, structures with their members, and complete types.
use Rattle.std.specs.Prelude.{ℕ, ◌==◌, Bool, true, false, ◌&&◌, ◌||◌, not, List, [], ◌∷◌, Option, Some, None, if◌then◌else◌}
use Rattle.std.specs.List.{list_any}
use Rattle.model_types.specs.declared.numbers.BinOp.{BinOp}
use Rattle.model_types.specs.declared.numbers.BinOp.TheVariants.{Add, Sub}
use Rattle.model_types.specs.declared.marks.Origin.{Origin}
use Rattle.model_types.specs.declared.marks.Origin.TheVariants.{Written}
use Rattle.model_types.specs.Types.{CType, Form, Function, Types, no_types, more_types, form_of_type}
use Rattle.model_types.specs.Structures.{Structure}
use Rattle.model_types.specs.Compatible.{compatible}
use Rattle.model_types.specs.Layout.{is_complete}
use Rattle.model_core.specs.CoreTypes.{type_of, object_type, is_pointer, is_void, pointee}
use Rattle.model_core.specs.TypedExpr.{form_of, object_form}
use Rattle.model_core.specs.PossibleTypes.{is_possible}
use Rattle.model_core.specs.MemberTypes.{member_is, member_value_is, is_const_somewhere}
use Rattle.model_core.specs.InitialParts.{parts_fit}
use Rattle.model_core.specs.BuiltinTypes.{is_undefined}
use Rattle.model_core.specs.Core as unit

-- the unit, and the automatic objects that are in scope
pub record Scope : Type 0 where
  pub core : unit.Core
  pub ids : List ℕ

abbrev pub is_among : List ℕ → (id : ℕ) → Bool
is_among ids id = list_any (λ other. other == id) ids

-- scope in a block with these objects
abbrev pub with_ids : List ℕ → Scope → Scope
with_ids [] scope = scope
with_ids (id ∷ ids) scope = with_ids ids (record scope { ids = id ∷ scope.ids })

abbrev pub is_in_scope : Scope → unit.Storage → (id : ℕ) → Bool
is_in_scope scope unit.Automatic id = is_among scope.ids id
is_in_scope scope unit.Parameter id = is_among scope.ids id
is_in_scope scope _ id = true

-- the object of a number is in scope, and has a type that is compatible with this one: that of an earlier
-- declaration, or the type of the object before its initializer gave it a length
abbrev pub object_is : Scope → (id : ℕ) → CType → Option unit.DeclaredObject → Bool
object_is scope id type None = false
object_is scope id type (Some o) = is_in_scope scope o.storage id && compatible o.type type

abbrev pub is_automatic_storage : unit.Storage → Bool
is_automatic_storage unit.Automatic = true
is_automatic_storage _ = false

abbrev pub is_automatic : Option unit.DeclaredObject → Bool
is_automatic None = false
is_automatic (Some o) = is_automatic_storage o.storage

-- the objects of a block are automatic ones, none of which is declared round it or twice in it
abbrev pub declares : Scope → List ℕ → Bool
declares scope [] = true
declares scope (id ∷ ids) =
    is_automatic (unit.object_of scope.core.objects id) && not (is_among scope.ids id) && not (is_among ids id) && declares scope ids

-- a function of this number and of a compatible type; one with internal linkage, or of a literal, is defined
abbrev pub function_is : CType → Option unit.Function → Bool
function_is type None = false
function_is type (Some g) = compatible g.type type && (g.is_external || not (is_undefined g.body))

-- the address of an object is taken only where the object says so
abbrev pub is_taken : Origin → Option unit.DeclaredObject → Bool
is_taken Written (Some o) = o.is_address_taken
is_taken origin o = true

abbrev pub address_is_noted : Scope → Origin → unit.Lvalue → Bool
address_is_noted scope origin (unit.Object id type mark) = is_taken origin (unit.object_of scope.core.objects id)
address_is_noted scope origin object = true

-- a pointer to a complete type, for what isn't a pointer nothing is asked
abbrev pub can_move : List Structure → Form → Bool
can_move structs form = if is_pointer form then is_complete structs (pointee form) else true

-- a pointer that is moved points to a complete type
abbrev pub moves_fit : List Structure → BinOp → Form → Form → Bool
moves_fit structs Add f g = can_move structs f && can_move structs g
moves_fit structs Sub f g = can_move structs f && can_move structs g
moves_fit structs op f g = true

abbrev pub is_usable : List Structure → CType → Bool
is_usable structs type = is_void type || is_complete structs type

abbrev pub are_complete : List Structure → Types → Bool
are_complete structs no_types = true
are_complete structs (more_types type types) = is_complete structs type && are_complete structs types

-- what a call hands over and gives is complete
abbrev pub call_is_usable : List Structure → Form → Bool
call_is_usable structs (Function result parameters is_variadic) = is_usable structs result && are_complete structs parameters
call_is_usable structs form = false

abbrev pub assigned_is : List Structure → unit.Assignment → unit.Lvalue → Bool
assigned_is structs unit.Plain object = is_complete structs (object_type object) && not (is_const_somewhere structs (object_type object))
assigned_is structs (unit.Compound op type) object = can_move structs (object_form object)

abbrev mutual
  -- an expression stands in its unit: what it names is there with its type, and complete where it has to be,
  -- and its types are possible
  pub expr_stands : Scope → unit.Expr → Bool
  expr_stands s (unit.Constant value type mark) = is_possible s.core.structs type
  expr_stands s (unit.Load object mark) = lvalue_stands s object && is_complete s.core.structs (object_type object)
  expr_stands s (unit.Address origin object mark) = lvalue_stands s object && address_is_noted s origin object
  expr_stands s (unit.FunctionRef id type by_name mark) = is_possible s.core.structs type && function_is type (unit.function_by_id s.core.functions id)
  expr_stands s (unit.Unary op e mark) = expr_stands s e
  expr_stands s (unit.Binary op a b mark) = expr_stands s a && expr_stands s b && moves_fit s.core.structs op (form_of a) (form_of b)
  expr_stands s (unit.Logic op a b mark) = expr_stands s a && expr_stands s b
  expr_stands s (unit.Choice c a b mark) = expr_stands s c && expr_stands s a && expr_stands s b
  expr_stands s (unit.Convert origin type e mark) = is_possible s.core.structs type && expr_stands s e
  expr_stands s (unit.Call function arguments mark) =
      expr_stands s function && exprs_stand s arguments && call_is_usable s.core.structs (form_of_type (pointee (form_of function)))
  expr_stands s (unit.Assign assignment object value mark) = lvalue_stands s object && expr_stands s value && assigned_is s.core.structs assignment object
  expr_stands s (unit.Step op side type object mark) = lvalue_stands s object && can_move s.core.structs (object_form object)
  expr_stands s (unit.MemberValue structure rank type name mark) = expr_stands s structure && member_value_is s.core.structs (type_of structure) rank type
  expr_stands s (unit.Comma a b mark) = expr_stands s a && expr_stands s b

  pub lvalue_stands : Scope → unit.Lvalue → Bool
  lvalue_stands s (unit.Object id type mark) = is_possible s.core.structs type && object_is s id type (unit.object_of s.core.objects id)
  lvalue_stands s (unit.Deref pointer mark) = expr_stands s pointer && can_move s.core.structs (form_of pointer)
  lvalue_stands s (unit.Index is_second a b mark) =
      expr_stands s a && expr_stands s b && can_move s.core.structs (form_of (if is_second then b else a))
  lvalue_stands s (unit.Field structure rank type name mark) = lvalue_stands s structure && member_is s.core.structs (object_type structure) rank type
  lvalue_stands s (unit.Arrow pointer rank type name mark) = expr_stands s pointer && member_is s.core.structs (pointee (form_of pointer)) rank type
  lvalue_stands s (unit.Literal origin id type values mark) =
      object_is s id type (unit.object_of s.core.objects id) && is_automatic (unit.object_of s.core.objects id)
      && is_possible s.core.structs type && is_complete s.core.structs type && values_stand s values && parts_fit s.core.structs type values

  pub exprs_stand : Scope → unit.Exprs → Bool
  exprs_stand s unit.no_exprs = true
  exprs_stand s (unit.more_exprs e es) = expr_stands s e && exprs_stand s es

  pub values_stand : Scope → unit.Initials → Bool
  values_stand s unit.no_initials = true
  values_stand s (unit.more_initials path offset type e others) = expr_stands s e && values_stand s others
