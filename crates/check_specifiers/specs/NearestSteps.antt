-- The step next to a declarator's name.
use Rattle.std.specs.Prelude.{List, [], ◌∷◌}
use Rattle.model_grammar.specs.declared.syntax.Pointer.{Pointer}
use Rattle.model_checking.specs.Derivations.{Derivation, a_pointer, an_array, a_function, a_faulty_array, a_faulty_function}
use Rattle.check_specifiers.specs.declared.nearest.Nearest.{Nearest}
use Rattle.check_specifiers.specs.declared.nearest.Nearest.TheVariants.{Nothing, Function, Other}

abbrev pub nearest_of : Derivation → Nearest
nearest_of (a_pointer qualifiers) = Other
nearest_of (an_array length) = Other
nearest_of (a_function parameters is_variadic entries) = Function 0 is_variadic
nearest_of a_faulty_array = Other
nearest_of (a_faulty_function count parameters is_variadic entries) = Function count is_variadic

abbrev pub nearest : List Derivation → Nearest
nearest [] = Nothing
nearest (d ∷ ds) = nearest_of d

abbrev pub nearest_pointer : List Pointer → Nearest
nearest_pointer [] = Nothing
nearest_pointer (p ∷ ps) = Other

abbrev pub or_nearest : Nearest → Nearest → Nearest
or_nearest Nothing behind = behind
or_nearest (Function count is_variadic) behind = Function count is_variadic
or_nearest Other behind = Other
