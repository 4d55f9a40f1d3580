-- What the operators of integers take.
use Rattle.std.proofs.Common.{◌≡◌, true, ◌&&◌}
use Rattle.std.proofs.lemmas.Bool.{and_from}
use Rattle.model_types.specs.declared.numbers.BinOp.{BinOp}
use Rattle.model_types.specs.declared.numbers.BinOp.TheVariants as op
use Rattle.model_types.specs.Conversions.{is_shift}
use Rattle.model_core.specs.TypedParts.{is_promoted, takes}
use Rattle.model_core.specs.TypedExpr.{form_of}
use Rattle.model_core.specs.Core as unit
use Rattle.model_checking.specs.MadeCore.{promoted_value}
use Rattle.typed_rule_laws.proofs.Converted.{promoted_value_promoted}

both_promoted : (a b : unit.Expr) → is_promoted (form_of (promoted_value a)) && is_promoted (form_of (promoted_value b)) ≡ true
both_promoted a b =
    and_from (is_promoted (form_of (promoted_value a))) (is_promoted (form_of (promoted_value b))) (promoted_value_promoted a) (promoted_value_promoted b)

pub shift_takes : (o : BinOp) (a b : unit.Expr) → is_shift o ≡ true → takes o (form_of (promoted_value a)) (form_of (promoted_value b)) ≡ true
shift_takes op.ShiftLeft a b h = both_promoted a b
shift_takes op.ShiftRight a b h = both_promoted a b
shift_takes op.Mul a b h = cc
shift_takes op.Div a b h = cc
shift_takes op.Rem a b h = cc
shift_takes op.Add a b h = cc
shift_takes op.Sub a b h = cc
shift_takes op.Less a b h = cc
shift_takes op.Greater a b h = cc
shift_takes op.LessEqual a b h = cc
shift_takes op.GreaterEqual a b h = cc
shift_takes op.Equal a b h = cc
shift_takes op.NotEqual a b h = cc
shift_takes op.BitAnd a b h = cc
shift_takes op.BitXor a b h = cc
shift_takes op.BitOr a b h = cc
