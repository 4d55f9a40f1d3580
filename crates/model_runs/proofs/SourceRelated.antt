-- Parts of a unit's run with calls that are related: they differ in nothing else.
use Rattle.std.proofs.Common.{ℕ, pos, Bool, true, false, List, [], ◌∷◌, Option}
use Rattle.cake_base.specs.declared.places.Place.{Place}
use Rattle.model_types.specs.declared.operators.LogicOp.{LogicOp}
use Rattle.model_types.specs.declared.operators.LogicOp.TheVariants.{And, Or}
use Rattle.model_types.specs.declared.numbers.BinOp.{BinOp}
use Rattle.model_types.specs.declared.marks.Mark.{Mark}
use Rattle.model_types.specs.Types.{CType, form_of_type}
use Rattle.model_runs.specs.Memory.{Block, Scalar, Number, Null, Address, Code, Value, Missing, Single, StructureValue}
use Rattle.model_runs.specs.Applied.{is_true, applied, applied_unary}
use Rattle.model_runs.specs.Run.{Act}
use Rattle.model_core.specs.CoreTypes.{is_void, type_of, types_of, object_type, shape_of, basic_of, step_size, int_type}
use Rattle.model_runs.specs.Operands.{Location, pointed_location, logical_value, just_scalar}
use Rattle.model_runs.specs.SourceFrame.{Callee, Frame, block_of}
use Rattle.std.specs.Option.{unwrap_or}
use Rattle.model_types.specs.Layout.{member_offset}
use Rattle.model_runs.specs.Loads.{value_at}
use Rattle.model_core.specs.SourceMarks.{at_mark, lvalue_mark, expr_mark, tested_at}
use Rattle.model_runs.specs.SourceOperations.{to_type, step_op, load_object, store_object, operated_on, member_value, stepped}
use Rattle.model_runs.specs.SourceValues.{operand, needed, converted_value, chosen, followed, indexed, evaluate, locate, values_of, initialise}
use Rattle.model_core.specs.Core as unit
use Rattle.model_runs.proofs.Related.{Rel, then_related, just_related, ends_related, unless_undefined_related, if_related, choose_related, used_related, scalar_related, load_related, store_related}

-- the frame of a call, with other calls
abbrev pub with_callee : Frame → Callee → Frame
with_callee f callee = record f { callee = callee }

abbrev pub CalleeRel : (j d : ℕ) → Callee → Callee → Type 0
CalleeRel j d c c' =
    (place null_place : Option Place) (p : Scalar) (type : CType) (types : List CType) (vs : List Value) → Rel j d (c place null_place p type types vs) (c' place null_place p type types vs)

module _ (j d : ℕ) where
  pointed_location_related : (place : Option Place) (p : Scalar) → Rel j d (pointed_location place p) (pointed_location place p)
  pointed_location_related place Null = ends_related j d _
  pointed_location_related place (Address block offset) = just_related j d _
  pointed_location_related place (Number value) = ends_related j d _
  pointed_location_related place (Code function) = ends_related j d _

  pub operand_related : (e : unit.Expr) (m n : Act Value) → Rel j d m n → Rel j d (operand e m) (operand e n)
  operand_related e m n related = then_related j d _ _ _ _ related (λ v. scalar_related j d (at_mark (expr_mark e)) v)

  pub needed_related : (e : unit.Expr) (m n : Act Value) → Rel j d m n → Rel j d (needed e m) (needed e n)
  needed_related e m n related = then_related j d _ _ _ _ related (λ v. used_related j d (at_mark (expr_mark e)) v)

  converted_related : (type : CType) (e : unit.Expr) (m n : Act Value) → Rel j d m n → Rel j d (converted_value type e m) (converted_value type e n)
  converted_related type e m n related =
      if_related j d (is_void type) _ _ _ _ (then_related j d _ _ _ _ related (λ v. just_related j d Missing)) (then_related j d _ _ _ _ (needed_related e m n related) (λ v. just_related j d _))

  followed_related : (e : unit.Expr) (mark : Mark) (m n : Act Value) → Rel j d m n → Rel j d (followed e mark m) (followed e mark n)
  followed_related e mark m n related = then_related j d _ _ _ _ (operand_related e m n related) (λ p. pointed_location_related (tested_at e (at_mark mark)) p)

  logical_value_related : (op : LogicOp) (b : Bool) (m n : Act Scalar) → Rel j d m n → Rel j d (logical_value op b m) (logical_value op b n)
  logical_value_related And true m n related = then_related j d _ _ _ _ related (λ v. just_related j d _)
  logical_value_related And false m n related = just_related j d _
  logical_value_related Or true m n related = just_related j d _
  logical_value_related Or false m n related = then_related j d _ _ _ _ related (λ v. just_related j d _)

  chosen_related : (type : CType) (x y : unit.Expr) (b : Bool) (m m' n n' : Act Value) → Rel j d m m' → Rel j d n n' → Rel j d (chosen type x y b m n) (chosen type x y b m' n')
  chosen_related type x y b m m' n n' first second =
      if_related j d (is_void type) _ _ _ _ (then_related j d _ _ _ _ (choose_related j d b _ _ _ _ first second) (λ v. just_related j d Missing))
      (choose_related j d b _ _ _ _ (needed_related x m m' first) (needed_related y n n' second))

  just_scalar_related : (x : Scalar) → Rel j d (just_scalar x) (just_scalar x)
  just_scalar_related x = just_related j d (Single x)

  module _ (f : Frame) (c : Callee) (calls : CalleeRel j d f.callee c) where
    abbrev g : Frame
    g = with_callee f c

    object_loaded : (object : unit.Lvalue) (l : Location) → Rel j d (load_object f object l) (load_object g object l)
    object_loaded object l = load_related j d (at_mark (lvalue_mark object)) (shape_of f.core.structs (object_type object)) l.block l.offset

    object_stored : (object : unit.Lvalue) (l : Location) (v : Value) → Rel j d (store_object f object l v) (store_object g object l v)
    object_stored object l v = then_related j d _ _ _ _ (store_related j d (at_mark (lvalue_mark object)) (shape_of f.core.structs (object_type object)) l.block l.offset v) (λ u. just_related j d v)

    operated_related : (op : BinOp) (mark : Mark) (t u : CType) (x y : Scalar) → Rel j d (operated_on f op mark t u x y) (operated_on g op mark t u x y)
    operated_related op mark t u x y = unless_undefined_related j d (at_mark mark) (applied op (basic_of (form_of_type t)) (step_size f.core.structs t u) x y)

    stepped_related : (op : BinOp) (mark : Mark) (t u w : CType) (x y : Scalar) → Rel j d (stepped f op mark t u w x y) (stepped g op mark t u w x y)
    stepped_related op mark t u w x y = then_related j d _ _ _ _ (operated_related op mark t w (to_type t x) y) (λ z. just_related j d _)

    member_related : (mark : Mark) (t u : CType) (rank : ℕ) (v : Value) → Rel j d (member_value f mark t u rank v) (member_value g mark t u rank v)
    member_related mark t u rank Missing = ends_related j d _
    member_related mark t u rank (Single x) = ends_related j d _
    member_related mark t u rank (StructureValue cells) = unless_undefined_related j d (at_mark mark) (value_at (shape_of f.core.structs u) cells (unwrap_or (member_offset f.core.structs t rank) 0))

    indexed_related : (e : unit.Expr) (mark : Mark) (p x : Scalar) → Rel j d (indexed f e mark p x) (indexed g e mark p x)
    indexed_related e mark p x = then_related j d _ _ _ _ (pointed_location_related (tested_at e (at_mark mark)) p) (λ l. just_related j d _)

    mutual
      pub evaluate_related : (e : unit.Expr) → Rel j d (evaluate f e) (evaluate g e)
      evaluate_related (unit.Constant value type mark) = just_scalar_related _
      evaluate_related (unit.Load object mark) = then_related j d _ _ _ _ (locate_related object) (object_loaded object)
      evaluate_related (unit.Address origin object mark) = then_related j d _ _ _ _ (locate_related object) (λ l. just_scalar_related _)
      evaluate_related (unit.FunctionRef id type by_name mark) = just_scalar_related _
      evaluate_related (unit.Unary op a mark) =
          then_related j d _ _ _ _ (operand_related a _ _ (evaluate_related a)) (λ x. then_related j d _ _ _ _ (unless_undefined_related j d (at_mark mark) (applied_unary op (basic_of (form_of_type (type_of a))) x)) just_scalar_related)
      evaluate_related (unit.Binary op a b mark) =
          then_related j d _ _ _ _ (operand_related a _ _ (evaluate_related a))
          (λ x. then_related j d _ _ _ _ (operand_related b _ _ (evaluate_related b))
          (λ y. then_related j d _ _ _ _ (operated_related op mark (type_of a) (type_of b) x y) just_scalar_related))
      evaluate_related (unit.Logic op a b mark) =
          then_related j d _ _ _ _ (operand_related a _ _ (evaluate_related a))
          (λ x. then_related j d _ _ _ _ (logical_value_related op (is_true x) _ _ (operand_related b _ _ (evaluate_related b))) just_scalar_related)
      evaluate_related (unit.Choice c a b mark) =
          then_related j d _ _ _ _ (operand_related c _ _ (evaluate_related c))
          (λ x. chosen_related (type_of a) a b (is_true x) _ _ _ _ (evaluate_related a) (evaluate_related b))
      evaluate_related (unit.Convert origin type a mark) = converted_related type a _ _ (evaluate_related a)
      evaluate_related (unit.Call h arguments mark) =
          then_related j d _ _ _ _ (operand_related h _ _ (evaluate_related h))
          (λ p. then_related j d _ _ _ _ (then_related j d _ _ _ _ (values_related arguments) (λ vs. calls (at_mark mark) (tested_at h (at_mark mark)) p (type_of h) (types_of arguments) vs)) (λ v. just_related j d _))
      evaluate_related (unit.Assign unit.Plain object value mark) =
          then_related j d _ _ _ _ (locate_related object)
          (λ l. then_related j d _ _ _ _ (needed_related value _ _ (evaluate_related value)) (object_stored object l))
      evaluate_related (unit.Assign (unit.Compound op type) object value mark) =
          then_related j d _ _ _ _ (locate_related object)
          (λ l. then_related j d _ _ _ _ (operand_related value _ _ (evaluate_related value))
          (λ y. then_related j d _ _ _ _ (then_related j d _ _ _ _ (object_loaded object l) (λ v. scalar_related j d (at_mark (lvalue_mark object)) v))
          (λ old. then_related j d _ _ _ _ (stepped_related op mark type (object_type object) (type_of value) old y) (λ new. object_stored object l (Single new)))))
      evaluate_related (unit.Step op side type object mark) =
          then_related j d _ _ _ _ (locate_related object)
          (λ l. then_related j d _ _ _ _ (then_related j d _ _ _ _ (object_loaded object l) (λ v. scalar_related j d (at_mark (lvalue_mark object)) v))
          (λ old. then_related j d _ _ _ _ (stepped_related (step_op op) mark type (object_type object) int_type old (Number (pos 1)))
          (λ new. then_related j d _ _ _ _ (object_stored object l (Single new)) (λ v. just_related j d _))))
      evaluate_related (unit.MemberValue structure rank type name mark) =
          then_related j d _ _ _ _ (needed_related structure _ _ (evaluate_related structure)) (λ v. member_related mark (type_of structure) type rank v)
      evaluate_related (unit.Comma a b mark) = then_related j d _ _ _ _ (evaluate_related a) (λ v. evaluate_related b)

      pub locate_related : (object : unit.Lvalue) → Rel j d (locate f object) (locate g object)
      locate_related (unit.Object id type mark) = just_related j d _
      locate_related (unit.Deref pointer mark) = followed_related pointer mark _ _ (evaluate_related pointer)
      locate_related (unit.Index is_second a b mark) =
          then_related j d _ _ _ _ (operand_related a _ _ (evaluate_related a))
          (λ x. then_related j d _ _ _ _ (operand_related b _ _ (evaluate_related b))
          (λ y. if_related j d is_second _ _ _ _ (indexed_related b mark y x) (indexed_related a mark x y)))
      locate_related (unit.Field structure rank type name mark) = then_related j d _ _ _ _ (locate_related structure) (λ l. just_related j d _)
      locate_related (unit.Arrow pointer rank type name mark) =
          then_related j d _ _ _ _ (followed_related pointer mark _ _ (evaluate_related pointer)) (λ l. just_related j d _)
      locate_related (unit.Literal origin id type values mark) = then_related j d _ _ _ _ (initialise_related (block_of f.core f.call id) values) (λ u. just_related j d _)

      pub values_related : (es : unit.Exprs) → Rel j d (values_of f es) (values_of g es)
      values_related unit.no_exprs = just_related j d []
      values_related (unit.more_exprs e es) =
          then_related j d _ _ _ _ (needed_related e _ _ (evaluate_related e))
          (λ v. then_related j d _ _ _ _ (values_related es) (λ vs. just_related j d (v ∷ vs)))

      pub initialise_related : (block : Block) (values : unit.Initials) → Rel j d (initialise f block values) (initialise g block values)
      initialise_related block unit.no_initials = just_related j d tt
      initialise_related block (unit.more_initials path offset type e others) =
          then_related j d _ _ _ _ (needed_related e _ _ (evaluate_related e))
          (λ v. then_related j d _ _ _ _ (store_related j d (at_mark (expr_mark e)) (shape_of f.core.structs type) block (pos offset) v) (λ u. initialise_related block others))
