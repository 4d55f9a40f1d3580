-- Lists of the parts of a state, as what they stand for.
use Rattle.std.proofs.Common.{◌≡◌, ◌∙◌, ℕ, List, [], ◌∷◌, ◌++◌, length, map, Option, ap, sym, refl, slice_get}
use Rattle.std.specs.Option.{option_map}
use Rattle.std.proofs.lemmas.List.{map-append, length-map, append-nil, same_from_push}
use Rattle.std.proofs.lemmas.Option.{slice_get-map}
use Rattle.model_types.specs.declared.marks.DeclId.{DeclId}
use Rattle.core_tree.specs.declared.core_unit.CoreNamedType.{CoreNamedType}
use Rattle.core_tree.specs.CoreStatForms.{ids}
use Rattle.core_tree.specs.CoreUnitForms.{named_types_of}
use Rattle.check_state.specs.declared.literals.Waiting.{Waiting}
use Rattle.check_state.specs.declared.made.Made.{Made}
use Rattle.check_state.specs.declared.values.Valued.{Valued}
use Rattle.check_state.specs.declared.values.Body.{Body}
use Rattle.check_state.specs.declared.values.IdRange.{IdRange}
use Rattle.check_state.specs.Seen.{waiting_of, made_of}
use Rattle.check_state.specs.SeenValues.{valued_of, body_of, range_of}

pub one_waits : (xs : List Waiting) (x : Waiting) → map waiting_of (xs ++ x ∷ []) ≡ map waiting_of xs ++ waiting_of x ∷ []
one_waits xs x = map-append waiting_of xs (x ∷ [])

pub one_made : (xs : List Made) (x : Made) → map made_of (xs ++ x ∷ []) ≡ map made_of xs ++ made_of x ∷ []
one_made xs x = map-append made_of xs (x ∷ [])

pub mapped_length : {A B : Type 0} (f : A → B) (xs : List A) → length (map f xs) ≡ length xs
mapped_length f xs = length-map xs f

pub mapped_get : {A B : Type 0} (f : A → B) (xs : List A) (at : ℕ) → slice_get (map f xs) at ≡ option_map f (slice_get xs at)
mapped_get f xs at = slice_get-map f xs at

pub one_id : (xs : List DeclId) (x : DeclId) → ids (xs ++ x ∷ []) ≡ ids xs ++ x.0 ∷ []
one_id [] x = refl
one_id (y ∷ ys) x = ap (λ zs. y.0 ∷ zs) (one_id ys x)

pub one_named : (xs : List CoreNamedType) (x : CoreNamedType) → named_types_of (xs ++ x ∷ []) ≡ named_types_of xs ++ (x.place, x.ty) ∷ []
one_named [] x = refl
one_named (y ∷ ys) x = ap (λ zs. (y.place, y.ty) ∷ zs) (one_named ys x)

pub one_valued : (xs : List Valued) (x : Valued) → map valued_of (xs ++ x ∷ []) ≡ map valued_of xs ++ valued_of x ∷ []
one_valued xs x = map-append valued_of xs (x ∷ [])

pub one_body : (xs : List Body) (x : Body) → map body_of (xs ++ x ∷ []) ≡ map body_of xs ++ body_of x ∷ []
one_body xs x = map-append body_of xs (x ∷ [])

pub one_range : (xs : List IdRange) (x : IdRange) → map range_of (xs ++ x ∷ []) ≡ map range_of xs ++ range_of x ∷ []
one_range xs x = map-append range_of xs (x ∷ [])

-- what is taken away again leaves what was there before
pub none_more : (xs ys : List DeclId) (x y : DeclId) → xs ++ x ∷ [] ≡ ys ++ y ∷ [] → xs ≡ ys
none_more xs ys x y h = let same = same_from_push xs ys x y h in same.0

pub no_id_more : (xs : List ℕ) → xs ++ [] ≡ xs
no_id_more xs = append-nil xs
