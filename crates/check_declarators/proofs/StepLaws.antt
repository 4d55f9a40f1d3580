-- Lists of steps, one step after another.
use Rattle.std.proofs.Common.{◌≡◌, ◌∙◌, ap, sym, refl, arith, ℕ, suc, ◌+◌, ◌<◌, Bool, List, [], ◌∷◌, ◌++◌, append_assoc, length, drop, get_or, Option, Some, None}
use Rattle.std.proofs.lemmas.List.{drop_more}
use Rattle.cake_base.specs.declared.places.Place.{Place}
use Rattle.cake_base.specs.declared.rules.Fault.{Fault}
use Rattle.model_types.specs.Types.{CType}
use Rattle.model_types.specs.Structures.{Structure}
use Rattle.model_scopes.specs.Declarations.{Declaration}
use Rattle.model_grammar.specs.declared.syntax.Pointer.{Pointer}
use Rattle.model_grammar.specs.SyntaxForms as syntax
use Rattle.c_tree.specs.SyntaxViews.{parameters_of, suffix_of, suffixes_of}
use Rattle.c_tree.specs.declared.syntax_declarators.Parameter.{Parameter}
use Rattle.c_tree.specs.declared.syntax_declarators.Suffix.{Suffix}
use Rattle.model_checking.specs.FaultsBeside.{first_of_faults}
use Rattle.model_checking.specs.Derivations as m
use Rattle.model_checking.specs.DeclaratorTypes.{beside, step_from, derived, void_fault, void_faults, inner_void_faults}
use Rattle.check_declarators.specs.declared.derivations.Derivation.{Derivation}
use Rattle.check_declarators.specs.Steps.{derivation_of, derivations_of}

pub one_more : (xs : List Derivation) (x : Derivation) → derivations_of (xs ++ x ∷ []) ≡ derivations_of xs ++ derivation_of x ∷ []
one_more [] x = refl
one_more (y ∷ ys) x = ap (λ ds. derivation_of y ∷ ds) (one_more ys x)

left_over : (ds : List Derivation) (at : ℕ) (d : Derivation) → at < length ds → d ≡ get_or ds at d
    → derivations_of (drop at ds) ≡ derivation_of d ∷ derivations_of (drop (at + 1) ds)
left_over ds at d l is = ap derivations_of (drop_more ds at d l ∙ ap (λ y. y ∷ drop (at + 1) ds) (sym is))

-- ---- the step next to the name

pub function_by_first : (d : m.Derivation) (ds : List m.Derivation) → m.is_function_step (d ∷ ds) ≡ m.is_function_step (d ∷ [])
function_by_first (m.a_pointer qualifiers) ds = refl
function_by_first (m.an_array length) ds = refl
function_by_first (m.a_function parameters is_variadic entries) ds = refl
function_by_first m.a_faulty_array ds = refl
function_by_first (m.a_faulty_function count parameters is_variadic entries) ds = refl

pub entries_by_first : (d : m.Derivation) (ds : List m.Derivation) → m.entries_of (d ∷ ds) ≡ m.entries_of (d ∷ [])
entries_by_first (m.a_pointer qualifiers) ds = refl
entries_by_first (m.an_array length) ds = refl
entries_by_first (m.a_function parameters is_variadic entries) ds = refl
entries_by_first m.a_faulty_array ds = refl
entries_by_first (m.a_faulty_function count parameters is_variadic entries) ds = refl

-- ---- pointers

pub pointers_from : (ps : List Pointer) (at : ℕ) (p : Pointer) (ds : List m.Derivation) → at < length ps → p ≡ get_or ps at p
    → m.with_pointers (drop at ps) ds ≡ m.with_pointers (drop (at + 1) ps) ds ++ m.a_pointer p.qualifiers ∷ []
pointers_from ps at p ds l is = ap (λ qs. m.with_pointers qs ds) (drop_more ps at p l ∙ ap (λ y. y ∷ drop (at + 1) ps) (sym is))

pub pointers_behind : (ps : List Pointer) (xs ys : List m.Derivation) → m.with_pointers ps (xs ++ ys) ≡ xs ++ m.with_pointers ps ys
pointers_behind [] xs ys = refl
pointers_behind (p ∷ ps) xs ys = ap (λ ds. ds ++ m.a_pointer p.qualifiers ∷ []) (pointers_behind ps xs ys) ∙ append_assoc xs (m.with_pointers ps ys) (m.a_pointer p.qualifiers ∷ [])

pub grouped_behind : (ps : List Pointer) (xs ys zs : List m.Derivation) → m.with_pointers ps ((xs ++ ys) ++ zs) ≡ xs ++ m.with_pointers ps (ys ++ zs)
grouped_behind ps xs ys zs = ap (m.with_pointers ps) (append_assoc xs ys zs) ∙ pointers_behind ps xs (ys ++ zs)

-- ---- what the tree shows

pub parameters_counted : (ps : List Parameter) → length ps ≡ m.count_of_parameters (parameters_of ps)
parameters_counted [] = refl
parameters_counted (p ∷ ps) = let e : suc (length ps) ≡ 1 + length ps = omega arith in e ∙ ap (λ n. 1 + n) (parameters_counted ps)

pub suffixes_from : (xs : List Suffix) (at : ℕ) (x : Suffix) → at < length xs → x ≡ get_or xs at x
    → m.outline_of_suffixes (suffixes_of (drop at xs)) ≡ m.outline_of_suffix (suffix_of x) ∷ m.outline_of_suffixes (suffixes_of (drop (at + 1) xs))
suffixes_from xs at x l is = ap (λ ys. m.outline_of_suffixes (suffixes_of ys)) (drop_more xs at x l ∙ ap (λ y. y ∷ drop (at + 1) xs) (sym is))

-- ---- types and faults

pub types_from : (xs : List CType) (at : ℕ) (x : CType) (made : List CType) → at < length xs → x ≡ get_or xs at x
    → (made ++ x ∷ []) ++ drop (at + 1) xs ≡ made ++ drop at xs
types_from xs at x made l is = append_assoc made (x ∷ []) (drop (at + 1) xs) ∙ ap (λ ys. made ++ ys) (sym (drop_more xs at x l ∙ ap (λ y. y ∷ drop (at + 1) xs) (sym is)))

pub derived_from : (structs : List Structure) (first : Place) (base : Option CType) (ds : List Derivation) (at : ℕ) (d : Derivation) → at < length ds → d ≡ get_or ds at d
    → derived structs first base (derivations_of (drop at ds))
    ≡ beside (derived structs first base (derivations_of (drop (at + 1) ds))).fault (step_from structs first (derivation_of d) (derived structs first base (derivations_of (drop (at + 1) ds))).type)
derived_from structs first base ds at d l is = ap (derived structs first base) (left_over ds at d l is)

pub voids_from : (ds : List Derivation) (at : ℕ) (d : Derivation) → at < length ds → d ≡ get_or ds at d
    → void_faults (derivations_of (drop at ds)) ≡ first_of_faults (void_fault (m.entries_of (derivation_of d ∷ []))) (void_faults (derivations_of (drop (at + 1) ds)))
voids_from ds at d l is = ap void_faults (left_over ds at d l is)
