-- The step next to a declarator's name, of the steps that its tree shows.
use Rattle.std.proofs.Common.{◌≡◌, ◌∙◌, ap, refl, arith, ℕ, suc, ◌+◌, Bool, true, false, List, [], ◌∷◌, ◌++◌, length, Option}
use Rattle.model_types.specs.Types.{CType}
use Rattle.cake_base.specs.declared.places.Place.{Place}
use Rattle.model_grammar.specs.declared.syntax.Pointer.{Pointer}
use Rattle.model_grammar.specs.SyntaxForms as syntax
use Rattle.c_tree.specs.SyntaxViews.{parameters_of}
use Rattle.c_tree.specs.declared.syntax_declarators.Parameter.{Parameter}
use Rattle.model_checking.specs.Derivations.{Derivation, a_pointer, an_array, a_function, a_faulty_array, a_faulty_function}
use Rattle.model_checking.specs.Derivations.{with_pointers, count_of_parameters, outline_of_suffix, is_function_step, is_variadic_step, parameter_count}
use Rattle.model_checking.specs.DeclaredNames.{is_function_by, is_function_if_any}
use Rattle.check_specifiers.specs.declared.nearest.Nearest.{Nearest}
use Rattle.check_specifiers.specs.declared.nearest.Nearest.TheVariants.{Nothing, Function, Other}
use Rattle.check_specifiers.specs.NearestSteps.{nearest_of, nearest, nearest_pointer, or_nearest}

parameters_counted : (ps : List Parameter) → length ps ≡ count_of_parameters (parameters_of ps)
parameters_counted [] = refl
parameters_counted (p ∷ ps) = let e : suc (length ps) ≡ 1 + length ps = omega arith in e ∙ ap (λ n. 1 + n) (parameters_counted ps)

pub function_is_nearest : (ps : List Parameter) (n : ℕ) (is_variadic : Bool) (place : Place) → n ≡ length ps
    → Function n is_variadic ≡ nearest_of (outline_of_suffix (syntax.FunctionSuffix (parameters_of ps) is_variadic place))
function_is_nearest ps n is_variadic place e = ap (λ k. Function k is_variadic) (e ∙ parameters_counted ps)

pub one_or_other : (xs ys : List Derivation) → nearest (xs ++ ys) ≡ or_nearest (nearest xs) (nearest ys)
one_or_other [] ys = refl
one_or_other (x ∷ xs) ys = kept x (nearest ys)
  where
    kept : (x : Derivation) (behind : Nearest) → nearest_of x ≡ or_nearest (nearest_of x) behind
    kept (a_pointer qualifiers) behind = refl
    kept (an_array length) behind = refl
    kept (a_function parameters is_variadic entries) behind = refl
    kept a_faulty_array behind = refl
    kept (a_faulty_function count parameters is_variadic entries) behind = refl

other_last : (n m : Nearest) (ps : List Pointer) → m ≡ or_nearest n (nearest_pointer ps) → or_nearest m Other ≡ or_nearest n Other
other_last n m ps e = ap (λ k. or_nearest k Other) e ∙ twice n ps
  where
    twice : (n : Nearest) (ps : List Pointer) → or_nearest (or_nearest n (nearest_pointer ps)) Other ≡ or_nearest n Other
    twice Nothing [] = refl
    twice Nothing (p ∷ ps) = refl
    twice (Function count is_variadic) ps = refl
    twice Other ps = refl

no_pointer : (n : Nearest) → n ≡ or_nearest n Nothing
no_pointer Nothing = refl
no_pointer (Function count is_variadic) = refl
no_pointer Other = refl

pub pointers_behind : (ps : List Pointer) (ds : List Derivation) → nearest (with_pointers ps ds) ≡ or_nearest (nearest ds) (nearest_pointer ps)
pointers_behind [] ds = no_pointer (nearest ds)
pointers_behind (p ∷ ps) ds =
    one_or_other (with_pointers ps ds) (a_pointer p.qualifiers ∷ [])
    ∙ other_last (nearest ds) (nearest (with_pointers ps ds)) ps (pointers_behind ps ds)

abbrev is_function_nearest : Nearest → Bool
is_function_nearest Nothing = false
is_function_nearest (Function count is_variadic) = true
is_function_nearest Other = false

abbrev is_variadic_nearest : Nearest → Bool
is_variadic_nearest Nothing = false
is_variadic_nearest (Function count is_variadic) = is_variadic
is_variadic_nearest Other = false

abbrev count_nearest : Nearest → ℕ
count_nearest Nothing = 0
count_nearest (Function count is_variadic) = count
count_nearest Other = 0

abbrev declares_nearest : Nearest → Option CType → Bool
declares_nearest Nothing given = is_function_if_any given
declares_nearest (Function count is_variadic) given = true
declares_nearest Other given = false

pub function_by_nearest : (ds : List Derivation) → is_function_step ds ≡ is_function_nearest (nearest ds)
function_by_nearest [] = refl
function_by_nearest (a_pointer qualifiers ∷ ds) = refl
function_by_nearest (an_array length ∷ ds) = refl
function_by_nearest (a_function parameters is_variadic entries ∷ ds) = refl
function_by_nearest (a_faulty_array ∷ ds) = refl
function_by_nearest (a_faulty_function count parameters is_variadic entries ∷ ds) = refl

pub variadic_by_nearest : (ds : List Derivation) → is_variadic_step ds ≡ is_variadic_nearest (nearest ds)
variadic_by_nearest [] = refl
variadic_by_nearest (a_pointer qualifiers ∷ ds) = refl
variadic_by_nearest (an_array length ∷ ds) = refl
variadic_by_nearest (a_function parameters is_variadic entries ∷ ds) = refl
variadic_by_nearest (a_faulty_array ∷ ds) = refl
variadic_by_nearest (a_faulty_function count parameters is_variadic entries ∷ ds) = refl

pub count_by_nearest : (ds : List Derivation) → parameter_count ds ≡ count_nearest (nearest ds)
count_by_nearest [] = refl
count_by_nearest (a_pointer qualifiers ∷ ds) = refl
count_by_nearest (an_array length ∷ ds) = refl
count_by_nearest (a_function parameters is_variadic entries ∷ ds) = refl
count_by_nearest (a_faulty_array ∷ ds) = refl
count_by_nearest (a_faulty_function count parameters is_variadic entries ∷ ds) = refl

pub declares_by_nearest : (ds : List Derivation) (given : Option CType) → is_function_by ds given ≡ declares_nearest (nearest ds) given
declares_by_nearest [] given = refl
declares_by_nearest (a_pointer qualifiers ∷ ds) given = refl
declares_by_nearest (an_array length ∷ ds) given = refl
declares_by_nearest (a_function parameters is_variadic entries ∷ ds) given = refl
declares_by_nearest (a_faulty_array ∷ ds) given = refl
declares_by_nearest (a_faulty_function count parameters is_variadic entries ∷ ds) given = refl
