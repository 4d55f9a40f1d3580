-- When an expression of a core is typed by itself (ISO/IEC 9899:2024, 6.5).
use Rattle.std.specs.Prelude.{Bool, true, false, ◌&&◌, not, [], if◌then◌else◌}
use Rattle.model_types.specs.declared.marks.Origin.{Origin}
use Rattle.model_types.specs.declared.marks.Origin.TheVariants.{Written, Implied}
use Rattle.model_types.specs.Types.{Form, form_of_type}
use Rattle.model_core.specs.CoreTypes.{type_of, types_of, object_type, is_pointer, pointee}
use Rattle.model_core.specs.SameTypes.{same_value_type, is_integer, is_null_constant}
use Rattle.model_core.specs.TypedParts.{is_array, is_function, is_struct, is_scalar, is_object_pointer, takes, takes_one, converts, origin_fits, constant_fits, is_storable, may_be_assigned, done_fits, step_fits, call_fits}
use Rattle.model_core.specs.Core as unit

abbrev pub form_of : unit.Expr → Form
form_of e = form_of_type (type_of e)

abbrev pub object_form : unit.Lvalue → Form
object_form object = form_of_type (object_type object)

abbrev pub address_fits : Origin → Form → Bool
address_fits Written form = not (is_function form)
address_fits Implied form = is_array form

abbrev pub assignment_fits : unit.Assignment → unit.Lvalue → unit.Expr → Bool
assignment_fits unit.Plain object value = same_value_type (object_type object) (type_of value)
assignment_fits (unit.Compound op type) object value = done_fits op (form_of_type type) (object_form object) (form_of value)

-- one value, for the whole object
abbrev pub is_one_value : unit.Initials → Bool
is_one_value (unit.more_initials [] offset type e unit.no_initials) = true
is_one_value values = false

-- the object of an implied literal holds a structure's value
abbrev pub values_fit : Origin → Form → unit.Initials → Bool
values_fit Written form values = true
values_fit Implied form values = is_struct form && is_one_value values

abbrev mutual
  pub is_typed : unit.Expr → Bool
  is_typed (unit.Constant value type mark) = constant_fits value (form_of_type type)
  is_typed (unit.Load object mark) = is_typed_lvalue object && is_storable (object_form object)
  is_typed (unit.Address origin object mark) = is_typed_lvalue object && address_fits origin (object_form object)
  is_typed (unit.FunctionRef id type by_name mark) = is_function (form_of_type type)
  is_typed (unit.Unary op e mark) = is_typed e && takes_one op (form_of e)
  is_typed (unit.Binary op a b mark) = is_typed a && is_typed b && takes op (form_of a) (form_of b)
  is_typed (unit.Logic op a b mark) = is_typed a && is_typed b && is_scalar (form_of a) && is_scalar (form_of b)
  is_typed (unit.Choice c a b mark) = is_typed c && is_typed a && is_typed b && is_scalar (form_of c) && same_value_type (type_of a) (type_of b)
  is_typed (unit.Convert origin type e mark) =
      is_typed e && converts (is_null_constant e) (form_of e) (form_of_type type) && origin_fits origin (is_null_constant e) (form_of e) (form_of_type type)
  is_typed (unit.Call function arguments mark) =
      is_typed function && are_typed arguments && call_fits (form_of_type (pointee (form_of function))) (types_of arguments)
  is_typed (unit.Assign assignment object value mark) =
      is_typed_lvalue object && is_typed value && may_be_assigned (object_type object) && assignment_fits assignment object value
  is_typed (unit.Step op side type object mark) =
      is_typed_lvalue object && may_be_assigned (object_type object) && step_fits (form_of_type type) (object_form object)
  is_typed (unit.MemberValue structure rank type name mark) = is_typed structure && is_struct (form_of structure) && is_storable (form_of_type type)
  is_typed (unit.Comma a b mark) = is_typed a && is_typed b

  pub is_typed_lvalue : unit.Lvalue → Bool
  is_typed_lvalue (unit.Object id type mark) = not (is_function (form_of_type type))
  is_typed_lvalue (unit.Deref pointer mark) = is_typed pointer && is_object_pointer (form_of pointer)
  is_typed_lvalue (unit.Index is_second a b mark) =
      is_typed a && is_typed b
      && (if is_second then is_integer (form_of a) && is_object_pointer (form_of b) else is_object_pointer (form_of a) && is_integer (form_of b))
  is_typed_lvalue (unit.Field structure rank type name mark) = is_typed_lvalue structure && is_struct (object_form structure)
  is_typed_lvalue (unit.Arrow pointer rank type name mark) =
      is_typed pointer && is_pointer (form_of pointer) && is_struct (form_of_type (pointee (form_of pointer)))
  is_typed_lvalue (unit.Literal origin id type values mark) = values_fit origin (form_of_type type) values && are_typed_values values

  pub are_typed : unit.Exprs → Bool
  are_typed unit.no_exprs = true
  are_typed (unit.more_exprs e es) = is_typed e && are_typed es

  -- each initial value has the type of the scalar or structure that it is for
  pub are_typed_values : unit.Initials → Bool
  are_typed_values unit.no_initials = true
  are_typed_values (unit.more_initials path offset type e others) =
      is_typed e && is_storable (form_of_type type) && same_value_type type (type_of e) && are_typed_values others
