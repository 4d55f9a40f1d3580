-- How the logic stores what the nodes of the trees are made of.
use Rattle.std.specs.Prelude.{◌≡◌, ℕ, zero, suc, ℤ, pos, negsuc, List, [], ◌∷◌, refl}
use base.Stored.{Gv, gnil, gnum, gcons}
use Rattle.cake_base.specs.declared.places.Place.{Place}
use Rattle.model_types.specs.declared.marks.Mark.{Mark}
use Rattle.model_types.specs.declared.marks.Span.{Span}
use Rattle.model_types.specs.declared.marks.Origin.{Origin}
use Rattle.model_types.specs.declared.marks.Origin.TheVariants as origin
use Rattle.model_types.specs.declared.numbers.BinOp.{BinOp}
use Rattle.model_types.specs.declared.numbers.BinOp.TheVariants as binary
use Rattle.model_types.specs.declared.operators.UnaryOp.{UnaryOp}
use Rattle.model_types.specs.declared.operators.UnaryOp.TheVariants as unary
use Rattle.model_types.specs.declared.operators.LogicOp.{LogicOp}
use Rattle.model_types.specs.declared.operators.LogicOp.TheVariants as logic
use Rattle.model_types.specs.declared.operators.StepOp.{StepOp}
use Rattle.model_types.specs.declared.operators.StepOp.TheVariants as step
use Rattle.model_types.specs.declared.operators.StepSide.{StepSide}
use Rattle.model_types.specs.declared.operators.StepSide.TheVariants as side

abbrev pub put_nat : ℕ → Gv
put_nat n = gnum n

abbrev pub get_nat : Gv → ℕ
get_nat (gnum n) = n
get_nat _ = 0

abbrev pub put_int : ℤ → Gv
put_int (pos n) = gcons gnil (gnum n)
put_int (negsuc n) = gnum n

abbrev pub get_int : Gv → ℤ
get_int (gcons a b) = pos (get_nat b)
get_int a = negsuc (get_nat a)

pub int_back : (x : ℤ) → get_int (put_int x) ≡ x
int_back (pos n) = refl
int_back (negsuc n) = refl

abbrev pub put_text : List ℕ → Gv
put_text [] = gnil
put_text (n ∷ ns) = gcons (gnum n) (put_text ns)

abbrev pub get_text : Gv → List ℕ
get_text (gcons a b) = get_nat a ∷ get_text b
get_text _ = []

pub text_back : (x : List ℕ) → get_text (put_text x) ≡ x
text_back [] = refl
text_back (n ∷ ns) = λ i. n ∷ text_back ns i

abbrev pub put_place : Place → Gv
put_place p = gcons (gnum p.file) (gcons (gnum p.line) (gcons (gnum p.column) (gnum p.order)))

abbrev pub get_place : Gv → Place
get_place (gcons a (gcons b (gcons c d))) = record { file = get_nat a; line = get_nat b; column = get_nat c; order = get_nat d }
get_place _ = record { file = 0; line = 0; column = 0; order = 0 }

abbrev pub put_mark : Mark → Gv
put_mark m = gcons (put_place m.at) (gcons (put_place m.first) (put_place m.outer))

abbrev pub get_mark : Gv → Mark
get_mark (gcons a (gcons b c)) = record { at = get_place a; first = get_place b; outer = get_place c }
get_mark _ = record { at = get_place gnil; first = get_place gnil; outer = get_place gnil }

abbrev pub put_span : Span → Gv
put_span s = gcons (put_place s.first) (put_place s.last)

abbrev pub get_span : Gv → Span
get_span (gcons a b) = record { first = get_place a; last = get_place b }
get_span _ = record { first = get_place gnil; last = get_place gnil }

abbrev pub put_origin : Origin → Gv
put_origin origin.Written = gnum 0
put_origin origin.Implied = gnum 1

abbrev pub get_origin : Gv → Origin
get_origin (gnum zero) = origin.Written
get_origin _ = origin.Implied

pub origin_back : (x : Origin) → get_origin (put_origin x) ≡ x
origin_back origin.Written = refl
origin_back origin.Implied = refl

abbrev pub put_binary : BinOp → Gv
put_binary binary.Mul = gnum 0
put_binary binary.Div = gnum 1
put_binary binary.Rem = gnum 2
put_binary binary.Add = gnum 3
put_binary binary.Sub = gnum 4
put_binary binary.ShiftLeft = gnum 5
put_binary binary.ShiftRight = gnum 6
put_binary binary.Less = gnum 7
put_binary binary.Greater = gnum 8
put_binary binary.LessEqual = gnum 9
put_binary binary.GreaterEqual = gnum 10
put_binary binary.Equal = gnum 11
put_binary binary.NotEqual = gnum 12
put_binary binary.BitAnd = gnum 13
put_binary binary.BitXor = gnum 14
put_binary binary.BitOr = gnum 15

abbrev pub get_binary : Gv → BinOp
get_binary (gnum zero) = binary.Mul
get_binary (gnum (suc zero)) = binary.Div
get_binary (gnum (suc (suc zero))) = binary.Rem
get_binary (gnum (suc (suc (suc zero)))) = binary.Add
get_binary (gnum (suc (suc (suc (suc zero))))) = binary.Sub
get_binary (gnum (suc (suc (suc (suc (suc zero)))))) = binary.ShiftLeft
get_binary (gnum (suc (suc (suc (suc (suc (suc zero))))))) = binary.ShiftRight
get_binary (gnum (suc (suc (suc (suc (suc (suc (suc zero)))))))) = binary.Less
get_binary (gnum (suc (suc (suc (suc (suc (suc (suc (suc zero))))))))) = binary.Greater
get_binary (gnum (suc (suc (suc (suc (suc (suc (suc (suc (suc zero)))))))))) = binary.LessEqual
get_binary (gnum (suc (suc (suc (suc (suc (suc (suc (suc (suc (suc zero))))))))))) = binary.GreaterEqual
get_binary (gnum (suc (suc (suc (suc (suc (suc (suc (suc (suc (suc (suc zero)))))))))))) = binary.Equal
get_binary (gnum (suc (suc (suc (suc (suc (suc (suc (suc (suc (suc (suc (suc zero))))))))))))) = binary.NotEqual
get_binary (gnum (suc (suc (suc (suc (suc (suc (suc (suc (suc (suc (suc (suc (suc zero)))))))))))))) = binary.BitAnd
get_binary (gnum (suc (suc (suc (suc (suc (suc (suc (suc (suc (suc (suc (suc (suc (suc zero))))))))))))))) = binary.BitXor
get_binary _ = binary.BitOr

pub binary_back : (x : BinOp) → get_binary (put_binary x) ≡ x
binary_back binary.Mul = refl
binary_back binary.Div = refl
binary_back binary.Rem = refl
binary_back binary.Add = refl
binary_back binary.Sub = refl
binary_back binary.ShiftLeft = refl
binary_back binary.ShiftRight = refl
binary_back binary.Less = refl
binary_back binary.Greater = refl
binary_back binary.LessEqual = refl
binary_back binary.GreaterEqual = refl
binary_back binary.Equal = refl
binary_back binary.NotEqual = refl
binary_back binary.BitAnd = refl
binary_back binary.BitXor = refl
binary_back binary.BitOr = refl

abbrev pub put_unary : UnaryOp → Gv
put_unary unary.Minus = gnum 0
put_unary unary.Complement = gnum 1
put_unary unary.Not = gnum 2

abbrev pub get_unary : Gv → UnaryOp
get_unary (gnum zero) = unary.Minus
get_unary (gnum (suc zero)) = unary.Complement
get_unary _ = unary.Not

pub unary_back : (x : UnaryOp) → get_unary (put_unary x) ≡ x
unary_back unary.Minus = refl
unary_back unary.Complement = refl
unary_back unary.Not = refl

abbrev pub put_logic : LogicOp → Gv
put_logic logic.And = gnum 0
put_logic logic.Or = gnum 1

abbrev pub get_logic : Gv → LogicOp
get_logic (gnum zero) = logic.And
get_logic _ = logic.Or

pub logic_back : (x : LogicOp) → get_logic (put_logic x) ≡ x
logic_back logic.And = refl
logic_back logic.Or = refl

abbrev pub put_step : StepOp → Gv
put_step step.Increment = gnum 0
put_step step.Decrement = gnum 1

abbrev pub get_step : Gv → StepOp
get_step (gnum zero) = step.Increment
get_step _ = step.Decrement

pub step_back : (x : StepOp) → get_step (put_step x) ≡ x
step_back step.Increment = refl
step_back step.Decrement = refl

abbrev pub put_side : StepSide → Gv
put_side side.Prefix = gnum 0
put_side side.Postfix = gnum 1

abbrev pub get_side : Gv → StepSide
get_side (gnum zero) = side.Prefix
get_side _ = side.Postfix

pub side_back : (x : StepSide) → get_side (put_side x) ≡ x
side_back side.Prefix = refl
side_back side.Postfix = refl
