-- What declarators break by the types that they derive (ISO/IEC 9899:2024, 6.7.7.2 to 6.7.7.4): each constraint is asked
-- where the type that it is about is known.
use Rattle.std.specs.Prelude.{ℕ, ℤ, ◌&&◌, not, int_lt, pos, List, [], ◌∷◌, Option, Some, None}
use Rattle.cake_base.specs.declared.places.Place.{Place}
use Rattle.model_types.specs.Types.{CType, form_of_type}
use Rattle.model_types.specs.Structures.{Structure}
use Rattle.model_types.specs.Layout.{is_complete}
use Rattle.model_scopes.specs.Declarations.{Declaration}
use Rattle.model_grammar.specs.SyntaxForms as syntax
use Rattle.c_tree.specs.SyntaxPlaces.{expr_first}
use Rattle.model_core.specs.CoreTypes.{no_quals, pointer_to, is_void}
use Rattle.model_core.specs.PossibleTypes.{length_fits, is_value_form}
use Rattle.model_core.specs.TypedParts.{is_function}
use Rattle.model_checking.specs.Derivations.{Derivation, a_pointer, an_array, a_function, a_faulty_array, a_faulty_function, Steps, entries_of}
use Rattle.model_checking.specs.DeclaratorTypes.{derived}
use Rattle.model_checking.specs.Qualified.{ownership_place, do_meet, with_all}
use Rattle.model_constraints.specs.Pairs.{Pairs, Nothing, At, At_if_any, Beside}
use Rattle.model_constraints.specs.BrokenSpecifiers.{broken_qualifiers}

-- ---- one step; the first token is that of the declarator

-- C28: elements are no functions; C22: they are complete
abbrev pub broken_elements : List Structure → (first : Place) → (element : CType) → Pairs
broken_elements structs first element =
    Beside (At first 28 (is_function (form_of_type element)))
    (At first 22 (not (is_function (form_of_type element)) && not (is_complete structs element)))

-- C25: an array isn't too large
abbrev pub broken_size : List Structure → (first : Place) → (element : CType) → (length : Option ℕ) → Pairs
broken_size structs first element length =
    At first 25 (not (is_function (form_of_type element)) && is_complete structs element && not (length_fits structs element length))

-- C28: a function gives neither an array nor a function
abbrev pub broken_result : (first : Place) → (result : CType) → Pairs
broken_result first result = At first 28 (not (is_value_form (form_of_type result)))

abbrev pub broken_derivation : List Structure → (first : Place) → Derivation → CType → Pairs
broken_derivation structs first (a_pointer qualifiers) type = broken_qualifiers qualifiers (pointer_to type)
broken_derivation structs first (an_array length) type = Beside (broken_elements structs first type) (broken_size structs first type length)
broken_derivation structs first a_faulty_array type = broken_elements structs first type
broken_derivation structs first (a_function parameters is_variadic entries) type = broken_result first type
broken_derivation structs first (a_faulty_function count parameters is_variadic entries) type = broken_result first type

-- of a type that isn't known: C29 where `_Owner` and `_View` meet
abbrev pub broken_from_unknown : Derivation → Pairs
broken_from_unknown (a_pointer qualifiers) = At_if_any (ownership_place qualifiers) 29 (do_meet (with_all qualifiers no_quals))
broken_from_unknown step = Nothing

abbrev pub broken_derivation_from : List Structure → (first : Place) → Derivation → Option CType → Pairs
broken_derivation_from structs first step (Some type) = broken_derivation structs first step type
broken_derivation_from structs first step None = broken_from_unknown step

-- the steps of a declarator, the last one first, from the type of the specifiers
abbrev pub broken_derived : List Structure → (first : Place) → Option CType → List Derivation → Pairs
broken_derived structs first base [] = Nothing
broken_derived structs first base (d ∷ ds) =
    Beside (broken_derived structs first base ds) (broken_derivation_from structs first d (derived structs first base ds).type)

-- ---- C28: a parameter of type void, at the parameter

abbrev pub broken_void : List Declaration → Pairs
broken_void [] = Nothing
broken_void (d ∷ ds) = Beside (At d.place 28 (is_void d.ty)) (broken_void ds)

abbrev broken_void_in : List Derivation → Pairs
broken_void_in [] = Nothing
broken_void_in (d ∷ ds) = Beside (broken_void (entries_of (d ∷ []))) (broken_void_in ds)

-- those next to the name are asked where it is known whether they are those of a definition
abbrev broken_inner_void : List Derivation → Pairs
broken_inner_void [] = Nothing
broken_inner_void (d ∷ ds) = broken_void_in ds

-- what a declarator breaks: its lengths and parameters by themselves, and its type, with the steps that it derives from
-- the type of the specifiers, if that is known
abbrev pub broken_declarator : List Structure → (first : Place) → (base : Option CType) → (own : Pairs) → Steps → Pairs
broken_declarator structs first base own x = Beside own (Beside (broken_inner_void x.steps) (broken_derived structs first base x.steps))

-- ---- C25: a length is positive, at its first token

abbrev pub broken_length : syntax.MaybeExpr → Option ℤ → Pairs
broken_length (syntax.an_expr e) (Some value) = At (expr_first e) 25 (not (int_lt (pos 0) value))
broken_length length value = Nothing
