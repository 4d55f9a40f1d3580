-- The values of a unit's expressions and the objects that its lvalues designate (ISO/IEC 9899:2024,
-- 6.3.3.1, 6.5): operands go from left to right, the left place of an assignment first. A compound
-- assignment makes its place, evaluates its right side, and only then loads (6.5.17.3): what a call there
-- stores is what it loads.
use Rattle.std.specs.Prelude.{pos, ◌*ℤ◌, Bool, List, [], ◌∷◌, if◌then◌else◌}
use Rattle.model_types.specs.declared.marks.Mark.{Mark}
use Rattle.model_types.specs.Types.{CType, form_of_type}
use Rattle.model_runs.specs.Memory.{Numbered, Block, Scalar, Number, Address, Code, Value, Missing, Single}
use Rattle.model_runs.specs.Applied.{applied_unary, is_true}
use Rattle.model_runs.specs.Accesses.{store_to}
use Rattle.model_runs.specs.Run.{Act, ◌▷◌, just, unless_undefined, choose, used, scalar_of}
use Rattle.model_core.specs.CoreTypes.{type_of, called_type, object_type, types_of, int_type, basic_of, shape_of, element_size, pointee, is_void}
use Rattle.model_runs.specs.Operands.{Location, pointed_location, moved_location, index_value, logical_value, just_scalar}
use Rattle.model_runs.specs.SourceFrame.{Frame, block_of}
use Rattle.model_core.specs.SourceMarks.{expr_mark, lvalue_mark, at_mark, tested_at}
use Rattle.model_runs.specs.SourceOperations.{member_at, constant, called_value, to_value, load_object, store_object, operated_on, step_op, by_side, member_value, stepped}
use Rattle.model_core.specs.Core as unit

-- the scalar that an expression has to have
abbrev pub operand : unit.Expr → Act Value → Act Scalar
operand e m = m ▷ scalar_of (at_mark (expr_mark e))

-- the value that it has to have
abbrev pub needed : unit.Expr → Act Value → Act Value
needed e m = m ▷ used (at_mark (expr_mark e))

-- a value converted to a type; where that is void, none is used
abbrev pub converted_value : CType → unit.Expr → Act Value → Act Value
converted_value type e m = if is_void type then m ▷ (λ v. just Missing) else needed e m ▷ (λ v. just (to_value type v))

-- one value of two, which is used; where the type is void none is
abbrev pub chosen : CType → (first second : unit.Expr) → Bool → Act Value → Act Value → Act Value
chosen type a b condition first second =
    if is_void type then choose condition first second ▷ (λ v. just Missing) else choose condition (needed a first) (needed b second)

-- what a pointer points to: it is tested when the place is made
abbrev pub followed : unit.Expr → Mark → Act Value → Act Location
followed e mark m = operand e m ▷ pointed_location (tested_at e (at_mark mark))

-- the element of an index
abbrev pub indexed : Frame → unit.Expr → Mark → (pointer index : Scalar) → Act Location
indexed f e mark pointer index =
    pointed_location (tested_at e (at_mark mark)) pointer ▷ (λ l. just (moved_location (index_value index *ℤ pos (element_size f.core.structs (type_of e))) l))

abbrev mutual
  -- the value of an expression
  pub evaluate : Frame → unit.Expr → Act Value
  evaluate f (unit.Constant value type mark) = just_scalar (constant value type)
  evaluate f (unit.Load object mark) = locate f object ▷ load_object f object
  evaluate f (unit.Address origin object mark) = locate f object ▷ (λ l. just_scalar (Address l.block l.offset))
  evaluate f (unit.FunctionRef id type by_name mark) = just_scalar (Code (Numbered id))
  evaluate f (unit.Unary op a mark) =
      operand a (evaluate f a) ▷ (λ x. unless_undefined (at_mark mark) (applied_unary op (basic_of (form_of_type (type_of a))) x) ▷ just_scalar)
  evaluate f (unit.Binary op a b mark) =
      operand a (evaluate f a) ▷ (λ x. operand b (evaluate f b) ▷ (λ y. operated_on f op mark (type_of a) (type_of b) x y ▷ just_scalar))
  evaluate f (unit.Logic op a b mark) = operand a (evaluate f a) ▷ (λ x. logical_value op (is_true x) (operand b (evaluate f b)) ▷ just_scalar)
  evaluate f (unit.Choice condition a b mark) =
      operand condition (evaluate f condition) ▷ (λ x. chosen (type_of a) a b (is_true x) (evaluate f a) (evaluate f b))
  evaluate f (unit.Convert origin type a mark) = converted_value type a (evaluate f a)
  evaluate f (unit.Call function arguments mark) =
      operand function (evaluate f function)
      ▷ (λ p. values_of f arguments
      ▷ f.callee (at_mark mark) (tested_at function (at_mark mark)) p (type_of function) (types_of arguments)
      ▷ (λ v. just (called_value (called_type (form_of_type (type_of function))) v)))
  evaluate f (unit.Assign unit.Plain object value mark) =
      locate f object ▷ (λ l. needed value (evaluate f value) ▷ store_object f object l)
  evaluate f (unit.Assign (unit.Compound op type) object value mark) =
      locate f object
      ▷ (λ l. operand value (evaluate f value)
      ▷ (λ y. load_object f object l ▷ scalar_of (at_mark (lvalue_mark object))
      ▷ (λ old. stepped f op mark type (object_type object) (type_of value) old y ▷ (λ new. store_object f object l (Single new)))))
  evaluate f (unit.Step op side type object mark) =
      locate f object
      ▷ (λ l. load_object f object l ▷ scalar_of (at_mark (lvalue_mark object))
      ▷ (λ old. stepped f (step_op op) mark type (object_type object) int_type old (Number (pos 1))
      ▷ (λ new. store_object f object l (Single new) ▷ (λ v. just (by_side side (Single old) v)))))
  evaluate f (unit.MemberValue structure rank type name mark) =
      needed structure (evaluate f structure) ▷ member_value f mark (type_of structure) type rank
  evaluate f (unit.Comma a b mark) = evaluate f a ▷ (λ v. evaluate f b)

  -- the object that an lvalue designates
  pub locate : Frame → unit.Lvalue → Act Location
  locate f (unit.Object id type mark) = just (record { block = block_of f.core f.call id; offset = pos 0 })
  locate f (unit.Deref pointer mark) = followed pointer mark (evaluate f pointer)
  locate f (unit.Index is_second a b mark) =
      operand a (evaluate f a)
      ▷ (λ x. operand b (evaluate f b) ▷ (λ y. if is_second then indexed f b mark y x else indexed f a mark x y))
  locate f (unit.Field structure rank type name mark) =
      locate f structure ▷ (λ l. just (member_at f.core.structs (object_type structure) rank l))
  locate f (unit.Arrow pointer rank type name mark) =
      followed pointer mark (evaluate f pointer) ▷ (λ l. just (member_at f.core.structs (pointee (form_of_type (type_of pointer))) rank l))
  locate f (unit.Literal origin id type values mark) =
      initialise f (block_of f.core f.call id) values ▷ (λ u. just (record { block = block_of f.core f.call id; offset = pos 0 }))

  -- the values of arguments
  pub values_of : Frame → unit.Exprs → Act (List Value)
  values_of f unit.no_exprs = just []
  values_of f (unit.more_exprs e es) = needed e (evaluate f e) ▷ (λ v. values_of f es ▷ (λ vs. just (v ∷ vs)))

  -- a block gets initial values, each of which is stored at once
  pub initialise : Frame → Block → unit.Initials → Act (Unit {0})
  initialise f block unit.no_initials = just tt
  initialise f block (unit.more_initials path offset type e others) =
      needed e (evaluate f e)
      ▷ (λ v. store_to (at_mark (expr_mark e)) (shape_of f.core.structs type) block (pos offset) v ▷ (λ u. initialise f block others))
