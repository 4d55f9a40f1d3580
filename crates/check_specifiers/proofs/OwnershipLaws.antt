-- Qualifiers on a type that is no array.
use Rattle.std.proofs.Common.{◌≡◌, false, ◌&&◌, ◌||◌, not, List, refl}
use Rattle.model_types.specs.Types.{CType, typed, Void, Integer, Enum, Pointer, Array, Struct, Function, form_of_type, quals_of_type}
use Rattle.model_core.specs.CoreTypes.{no_quals}
use Rattle.model_core.specs.TypedParts.{is_array, is_object_pointer}
use Rattle.model_grammar.specs.declared.syntax.Qualifier.{Qualifier}
use Rattle.model_checking.specs.Qualified.{with_all, wants_pointer, do_meet, is_misplaced}

pub no_array_misplaced : (list : List Qualifier) (t : CType) → is_array (form_of_type t) ≡ false
    → (wants_pointer (with_all list no_quals) && not (is_object_pointer (form_of_type t)) || do_meet (with_all list (quals_of_type t))) ≡ is_misplaced list t
no_array_misplaced list (typed Void q) h = refl
no_array_misplaced list (typed (Integer b) q) h = refl
no_array_misplaced list (typed (Enum b o) q) h = refl
no_array_misplaced list (typed (Pointer t) q) h = refl
no_array_misplaced list (typed (Struct s) q) h = refl
no_array_misplaced list (typed (Function r ps v) q) h = refl
no_array_misplaced list (typed (Array t n) q) h = cc
