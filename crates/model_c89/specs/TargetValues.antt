-- The values of a C89 program's expressions and the objects that they designate (ISO/IEC 9899:1990, 6.2.2.1,
-- 6.3), operands from left to right.
use Rattle.std.specs.Prelude.{pos, Bool, true, false, List, [], ◌∷◌, None, if◌then◌else◌}
use Rattle.model_types.specs.declared.outcomes.Cause.TheVariants.{Kind}
use Rattle.model_core.specs.Types89.{Void, Type89, Based, Function}
use Rattle.model_runs.specs.Memory.{Named, Scalar, Number, Address, Code, Value, Missing}
use Rattle.model_runs.specs.Applied.{is_true}
use Rattle.model_runs.specs.Run.{Act, ◌▷◌, just, ends, choose, used, scalar_of, Undefined}
use Rattle.model_c89.specs.TargetTypes.{type_of, value_type, is_pointer, pointee}
use Rattle.model_runs.specs.Operands.{Location, pointed_location, logical_value, just_scalar}
use Rattle.model_c89.specs.TargetFrame.{Frame, block_of}
use Rattle.model_c89.specs.TargetOperations.{member_at, element_at, read_place, value_as, operated_on, applied_prefix, member_value}
use Rattle.model_core.specs.Program89 as text

-- the scalar that an expression has to have
abbrev pub operand : Act Value → Act Scalar
operand m = m ▷ scalar_of None

-- the value that it has to have
abbrev pub needed : Act Value → Act Value
needed m = m ▷ used None

abbrev pub is_function : Type89 → Bool
is_function (Function result parameters is_variadic) = true
is_function _ = false

abbrev pub is_void : Type89 → Bool
is_void (Based is_const Void) = true
is_void _ = false

-- an expression that designates an object
abbrev pub is_place : text.Expr → Bool
is_place (text.Name name) = true
is_place (text.Index left right) = true
is_place (text.Arrow pointer name) = true
is_place (text.Dot structure name) = is_place structure
is_place (text.Unary text.Deref operand) = true
is_place _ = false

-- one value of two, as one of their common type; where that is void none is used
abbrev pub chosen : (first_type second_type type : Type89) → Bool → Act Value → Act Value → Act Value
chosen first_type second_type type condition first second =
    if is_void type then choose condition first second ▷ (λ v. just Missing)
    else choose condition (needed first ▷ (λ v. just (value_as first_type type v))) (needed second ▷ (λ v. just (value_as second_type type v)))

-- a value that is cast to a type; to void, none is used
abbrev pub cast_to : (from to : Type89) → Act Value → Act Value
cast_to from to m = if is_void to then m ▷ (λ v. just Missing) else needed m ▷ (λ v. just (value_as from to v))

-- the element of an index: one of the operands is the pointer
abbrev pub indexed : Frame → (left right : Type89) → Scalar → Scalar → Act Location
indexed f left right x y = if is_pointer left then element_at f left x y else element_at f right y x

abbrev pub types_of : Frame → text.Exprs → List Type89
types_of f text.no_exprs = []
types_of f (text.more_exprs e es) = value_type f.names e ∷ types_of f es

abbrev mutual
  -- the value of an expression
  pub evaluate : Frame → text.Expr → Act Value
  evaluate f (text.Name name) =
      if is_function (type_of f.names (text.Name name)) then just_scalar (Code (Named name))
      else read_place f (type_of f.names (text.Name name)) (record { block = block_of f name; offset = pos 0 })
  evaluate f (text.Constant number suffix) = just_scalar (Number (pos number))
  evaluate f (text.Index a b) =
      operand (evaluate f a)
      ▷ (λ x. operand (evaluate f b)
      ▷ (λ y. indexed f (value_type f.names a) (value_type f.names b) x y ▷ read_place f (type_of f.names (text.Index a b))))
  evaluate f (text.Dot structure name) =
      if is_place structure
      then locate f structure ▷ (λ l. read_place f (type_of f.names (text.Dot structure name)) (member_at f.program.structures (type_of f.names structure) name l))
      else needed (evaluate f structure) ▷ member_value f (type_of f.names structure) name
  evaluate f (text.Arrow pointer name) =
      operand (evaluate f pointer)
      ▷ (λ p. pointed_location None p
      ▷ (λ l. read_place f (type_of f.names (text.Arrow pointer name)) (member_at f.program.structures (pointee (value_type f.names pointer)) name l)))
  evaluate f (text.Call function arguments) =
      operand (evaluate f function) ▷ (λ p. values_of f arguments ▷ f.callee p (value_type f.names function) (types_of f arguments))
  evaluate f (text.Unary text.Deref pointer) =
      if is_function (type_of f.names (text.Unary text.Deref pointer)) then evaluate f pointer
      else operand (evaluate f pointer) ▷ (λ p. pointed_location None p ▷ read_place f (type_of f.names (text.Unary text.Deref pointer)))
  evaluate f (text.Unary text.AddressOf object) =
      if is_function (type_of f.names object) then evaluate f object else locate f object ▷ (λ l. just_scalar (Address l.block l.offset))
  evaluate f (text.Unary op a) = operand (evaluate f a) ▷ (λ x. applied_prefix op (value_type f.names a) x ▷ just_scalar)
  evaluate f (text.Binary op a b) =
      operand (evaluate f a) ▷ (λ x. operand (evaluate f b) ▷ (λ y. operated_on f op (value_type f.names a) (value_type f.names b) x y ▷ just_scalar))
  evaluate f (text.Logic op a b) = operand (evaluate f a) ▷ (λ x. logical_value op (is_true x) (operand (evaluate f b)) ▷ just_scalar)
  evaluate f (text.Choice condition a b) =
      operand (evaluate f condition) ▷ (λ x. chosen (value_type f.names a) (value_type f.names b) (type_of f.names (text.Choice condition a b)) (is_true x) (evaluate f a) (evaluate f b))
  evaluate f (text.Cast type a) = cast_to (value_type f.names a) type (evaluate f a)

  -- the object that it designates
  pub locate : Frame → text.Expr → Act Location
  locate f (text.Name name) = just (record { block = block_of f name; offset = pos 0 })
  locate f (text.Index a b) =
      operand (evaluate f a) ▷ (λ x. operand (evaluate f b) ▷ indexed f (value_type f.names a) (value_type f.names b) x)
  locate f (text.Dot structure name) =
      locate f structure ▷ (λ l. just (member_at f.program.structures (type_of f.names structure) name l))
  locate f (text.Arrow pointer name) =
      operand (evaluate f pointer)
      ▷ (λ p. pointed_location None p ▷ (λ l. just (member_at f.program.structures (pointee (value_type f.names pointer)) name l)))
  locate f (text.Unary text.Deref pointer) = operand (evaluate f pointer) ▷ pointed_location None
  locate f _ = ends (Undefined Kind None)

  -- the values of arguments
  pub values_of : Frame → text.Exprs → Act (List Value)
  values_of f text.no_exprs = just []
  values_of f (text.more_exprs e es) = needed (evaluate f e) ▷ (λ v. values_of f es ▷ (λ vs. just (v ∷ vs)))
