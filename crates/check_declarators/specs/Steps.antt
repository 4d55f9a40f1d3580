-- What the twins of the steps of a declarator stand for.
use Rattle.std.specs.Prelude.{List, [], ◌∷◌}
use Rattle.model_checking.specs.Derivations as m
use Rattle.check_declarators.specs.declared.derivations.Derivation.{Derivation}
use Rattle.check_declarators.specs.declared.derivations.Derivation.TheVariants as derivation
use Rattle.check_declarators.specs.declared.derivations.Steps.{Steps}

abbrev pub derivation_of : Derivation → m.Derivation
derivation_of (derivation.Pointer qualifiers) = m.a_pointer qualifiers
derivation_of (derivation.Array extent) = m.an_array extent
derivation_of (derivation.Function parameters) = m.a_function parameters.types parameters.is_variadic parameters.entries
derivation_of derivation.FaultyArray = m.a_faulty_array
derivation_of (derivation.FaultyFunction count parameters) = m.a_faulty_function count parameters.types parameters.is_variadic parameters.entries

abbrev pub derivations_of : List Derivation → List m.Derivation
derivations_of [] = []
derivations_of (d ∷ ds) = derivation_of d ∷ derivations_of ds

abbrev pub steps_of : Steps → m.Steps
steps_of x = record { steps = derivations_of x.steps; fault = x.fault }
