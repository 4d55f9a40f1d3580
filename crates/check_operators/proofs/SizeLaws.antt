-- Sizes and alignments are values of their type.
use Rattle.std.proofs.Common.{◌≡◌, refl, pos, ℕ, Bool, true, false, ◌&&◌, Ok, List}
use Rattle.std.specs.Option.{unwrap_or}
use Rattle.std.specs.Result.{IfOk}
use Rattle.std.proofs.lemmas.Bool.{and_parts}
use Rattle.cake_base.specs.declared.places.Place.{Place}
use Rattle.model_types.specs.declared.marks.Mark.{Mark}
use Rattle.model_types.specs.declared.numbers.Basic.TheVariants.{UnsignedLong}
use Rattle.model_types.specs.Operations.{fits}
use Rattle.model_types.specs.Types.{CType}
use Rattle.model_types.specs.Structures.{Structure}
use Rattle.model_types.specs.Layout.{is_complete, align_of}
use Rattle.model_core.specs.CoreTypes.{size_in}
use Rattle.model_core.specs.BuiltinTypes.{size_type}
use Rattle.model_core.specs.TypedExpr.{is_typed}
use Rattle.model_checking.specs.State.{unless}
use Rattle.model_checking.specs.Meanings.{a_value}
use Rattle.model_checking.specs.Faults.{wants}
use Rattle.model_checking.specs.MadeCore.{constant}
use Rattle.typed_rule_laws.specs.TypedMeanings.{is_typed_meaning}
use Rattle.typed_rule_laws.proofs.ConstantForms as typed

pub size_is_typed : (n : ℕ) (mark : Mark) → fits UnsignedLong (pos n) ≡ true → is_typed (constant (pos n) size_type mark) ≡ true
size_is_typed n mark h = h

fits_by : (structs : List Structure) (mark : Mark) (first : Place) (n : ℕ) (complete : Bool) → complete ≡ true →
    IfOk (unless (wants complete first 22) (Ok (a_value (constant (pos n) size_type mark)))) (λ m. is_typed_meaning structs m ≡ true) →
    fits UnsignedLong (pos n) ≡ true
fits_by structs mark first n true e h = (and_parts (fits UnsignedLong (pos n)) true h).0
fits_by structs mark first n false e h = cc

pub size_fits : (structs : List Structure) (mark : Mark) (first : Place) (t : CType) → is_complete structs t ≡ true → fits UnsignedLong (pos (size_in structs t)) ≡ true
size_fits structs mark first t h = fits_by structs mark first (size_in structs t) (is_complete structs t) h (typed.size_is_typed structs mark first t)

pub alignment_fits : (structs : List Structure) (mark : Mark) (first : Place) (t : CType) → is_complete structs t ≡ true →
    fits UnsignedLong (pos (unwrap_or (align_of structs t) 1)) ≡ true
alignment_fits structs mark first t h =
    fits_by structs mark first (unwrap_or (align_of structs t) 1) (is_complete structs t) h (typed.alignment_is_typed structs mark first t)
