-- The core of a first unit is typed: it has no lvalues, so that its places tell them apart.
use Rattle.std.proofs.Common.{◌≡◌, ℕ, zero, suc, pos, Bool, true, false, ◌&&◌, List, [], ◌∷◌, ◌++◌, refl, subst, sym, ap, ◌∙◌, arith, true≢false}
use Rattle.std.specs.Prelude.{Contains}
use Rattle.std.specs.List.{list_all}
use Rattle.std.proofs.lemmas.List.Folds.{list_all-append}
use Rattle.cake_base.specs.declared.places.Place.{Place}
use Rattle.model_types.specs.declared.numbers.Basic.TheVariants.{Int}
use Rattle.model_types.specs.declared.numbers.BinOp.{BinOp}
use Rattle.model_types.specs.declared.numbers.BinOp.TheVariants.{Mul, Add, Sub}
use Rattle.model_types.specs.Operations.{fits}
use Rattle.model_types.specs.Types.{Integer}
use Rattle.model_types.specs.Structures.{Structure}
use Rattle.model_core.specs.CoreTypes.{int_type, type_of, binary_type}
use Rattle.model_core.specs.TypedParts.{takes}
use Rattle.model_core.specs.TypedExpr.{is_typed}
use Rattle.model_core.specs.TypedScope.{Scope, moves_fit, expr_stands}
use Rattle.model_core.specs.PartsIn.{Part, Designates, Operates, in_expr, parts_in, PlacesTell}
use Rattle.model_core.specs.TypedCore.{TypedCore}
use Rattle.model_tokens.specs.declared.tokens.CTok.{CTok}
use Rattle.c_model.specs.FirstUnit.{IsSum, IsProduct, IsPrimary, IsConstant, one_product, added, subtracted, one_primary, multiplied, constant, parenthesised, IsUnit, UnitPlaces, places_of, returning, int_constant, int_operation, in_parentheses}
use Rattle.model_core.specs.Core as unit

abbrev is_operation : Part → Bool
is_operation (Designates object) = false
is_operation (Operates operation) = true

both : (a b : Bool) → a ≡ true → b ≡ true → (a && b) ≡ true
both true b is too = too
both false b is too = is

all_are : (xs ys : List Part) → list_all is_operation xs ≡ true → list_all is_operation ys ≡ true → list_all is_operation (xs ++ ys) ≡ true
all_are xs ys are too = list_all-append is_operation xs ys ∙ both _ _ are too

no_lvalue : (xs : List Part) (object : unit.Lvalue) → list_all is_operation xs ≡ true → Contains xs (Designates object) → ⊥
no_lvalue [] object are (k, below, is) = omega (arith, below)
no_lvalue (Designates other ∷ xs) object are there = true≢false (sym are)
no_lvalue (Operates operation ∷ xs) object are (zero, below, is) = true≢false (ap is_operation is)
no_lvalue (Operates operation ∷ xs) object are (suc k, below, is) = no_lvalue xs object are (k, omega (arith, below), is)

record IsInt (e : unit.Expr) : Type 0 where
  type : type_of e ≡ int_type
  typed : is_typed e ≡ true
  bound : (s : Scope) → expr_stands s e ≡ true
  parts : list_all is_operation (in_expr e) ≡ true

constant_is_int : (number : ℕ) (p : Place) → fits Int (pos number) ≡ true → IsInt (int_constant (pos number) p)
constant_is_int number p in_range = record { type = refl; typed = in_range; bound = λ s. refl; parts = refl }

int_fits : {number : ℕ} {token : CTok} (is : IsConstant token number) → fits Int (pos number) ≡ true
int_fits {number} is = subst (λ b. fits b (pos number) ≡ true) is.basic (subst (λ v. fits is.constant.basic v ≡ true) is.value is.constant.in_range)

operation_is_int : (op : BinOp) → takes op (Integer Int) (Integer Int) ≡ true → binary_type op int_type int_type ≡ int_type → ((structs : List Structure) → moves_fit structs op (Integer Int) (Integer Int) ≡ true) → (a b : unit.Expr) (p : Place) → IsInt a → IsInt b → IsInt (int_operation op a b p)
operation_is_int op taken result moves a b p x y = record {
  type = rw (x.type, y.type) result;
  typed = rw (x.typed, y.typed, x.type, y.type) taken;
  bound = λ s. rw (x.bound s, y.bound s, x.type, y.type) (moves s.core.structs);
  parts = all_are (in_expr a) (in_expr b) x.parts y.parts;
}

-- parentheses leave what is asked of an expression
parenthesised_is_int : (p : Place) (e : unit.Expr) → IsInt e → IsInt (in_parentheses p e)
parenthesised_is_int p (unit.Constant value type mark) is = record { type = is.type; typed = is.typed; bound = is.bound; parts = is.parts }
parenthesised_is_int p (unit.Binary op a b mark) is = record { type = is.type; typed = is.typed; bound = is.bound; parts = is.parts }
parenthesised_is_int p (unit.Load object mark) is = is
parenthesised_is_int p (unit.Address origin object mark) is = is
parenthesised_is_int p (unit.FunctionRef id type by_name mark) is = is
parenthesised_is_int p (unit.Unary op operand mark) is = is
parenthesised_is_int p (unit.Logic op left right mark) is = is
parenthesised_is_int p (unit.Choice condition first second mark) is = is
parenthesised_is_int p (unit.Convert origin type operand mark) is = is
parenthesised_is_int p (unit.Call function arguments mark) is = is
parenthesised_is_int p (unit.Assign assignment object value mark) is = is
parenthesised_is_int p (unit.Step op side type object mark) is = is
parenthesised_is_int p (unit.MemberValue structure rank type name mark) is = is
parenthesised_is_int p (unit.Comma first second mark) is = is

mutual
  sum_is_int : (ts : List CTok) (e : unit.Expr) → IsSum ts e → IsInt e
  sum_is_int ts e (one_product us e' p) = product_is_int us e' p
  sum_is_int ts e (added us left right t a b sign l r is) = operation_is_int Add refl refl (λ structs. refl) a b t.place (sum_is_int left a l) (product_is_int right b r)
  sum_is_int ts e (subtracted us left right t a b sign l r is) = operation_is_int Sub refl refl (λ structs. refl) a b t.place (sum_is_int left a l) (product_is_int right b r)

  product_is_int : (ts : List CTok) (e : unit.Expr) → IsProduct ts e → IsInt e
  product_is_int ts e (one_primary us e' p) = primary_is_int us e' p
  product_is_int ts e (multiplied us left right t a b sign l r is) = operation_is_int Mul refl refl (λ structs. refl) a b t.place (product_is_int left a l) (primary_is_int right b r)

  primary_is_int : (ts : List CTok) (e : unit.Expr) → IsPrimary ts e → IsInt e
  primary_is_int ts e (constant us t number is one) = constant_is_int number t.place (int_fits is)
  primary_is_int ts e (parenthesised us open_ close inner e' o c s is) = parenthesised_is_int open_.place e' (sum_is_int inner e' s)

returning_has_no_lvalue : (e : unit.Expr) (p : UnitPlaces) → IsInt e → (object : unit.Lvalue) → Contains (parts_in (returning e p)) (Designates object) → ⊥
returning_has_no_lvalue e p is object = no_lvalue (parts_in (returning e p)) object (all_are (in_expr e ++ []) [] (all_are (in_expr e) [] is.parts refl) refl)

returning_tells : (e : unit.Expr) (p : UnitPlaces) → IsInt e → PlacesTell (returning e p)
returning_tells e p is = record {
  lvalues = λ object other there too same. absurd (returning_has_no_lvalue e p is object there);
  operations = λ operation object there too same. absurd (returning_has_no_lvalue e p is object too);
}

returning_is_typed : (e : unit.Expr) (p : UnitPlaces) → IsInt e → TypedCore (returning e p)
returning_is_typed e p is = record { parts = rw (is.typed, is.bound _, is.type) refl; places = returning_tells e p is }

pub first_unit_is_typed : (ts : List CTok) (core : unit.Core) → IsUnit ts core → TypedCore core
first_unit_is_typed ts core is = subst TypedCore (sym is.core_is) (returning_is_typed is.value (places_of is.head is.return_ is.brace) (sum_is_int is.sum is.value is.sum_is))
