-- What a conditional tests, and the conditional that a line goes on.
use Rattle.std.specs.Prelude.{◌≡◌, true, false, List, [], ◌∷◌, Result, Ok, Err}
use Rattle.model_preprocessing.specs.declared.directives.Conditional.{Conditional}
use Rattle.model_preprocessing.specs.Directives.{Part}
use Rattle.model_preprocessing.specs.Conditionals.{Conditionals}
use Rattle.model_preprocessing.specs.Sources.{State, here}
use Rattle.model_preprocessing.specs.ConditionalLines.{Test, expression_holds, name_is_defined, name_is_undefined}
use Rattle.pp_definitions.specs.Answers.{rule_at}
use Rattle.pp_directives.specs.declared.branches.Test as tests
use Rattle.pp_directives.specs.declared.branches.Test.TheVariants.{Expression, Defined, Undefined}
use Rattle.pp_directives.specs.declared.errors.PrepError.{PrepError}
use Rattle.pp_directives.specs.declared.errors.PrepError.TheVariants as prep_error

abbrev pub test_of : tests.Test → Part → Test
test_of Expression p = expression_holds p
test_of Defined p = name_is_defined p
test_of Undefined p = name_is_undefined p

-- whether `#else` was seen
abbrev pub HasNone : Conditionals → Type 0
HasNone [] = Unit {0}
HasNone (c ∷ cs) = c.last ≡ true

abbrev pub Reached : State → Part → Conditionals → Result Conditional PrepError → Type 0
Reached s p cs (Ok c) = (rest : Conditionals) × (cs ≡ c ∷ rest) × (c.last ≡ false)
Reached s p cs (Err (prep_error.Fault fault)) = HasNone cs × (fault ≡ rule_at (here s p.at) 12)
Reached s p cs (Err (prep_error.Limit hit)) = ⊥
Reached s p cs (Err (prep_error.Read file cause)) = ⊥
Reached s p cs (Err prep_error.NoMemory) = ⊥
