-- The given initializer that each form makes: one level, over those of its parts.
use Rattle.std.specs.Prelude.{List, [], ◌∷◌, map}
use Rattle.model_checking.specs.Parts as m
use Rattle.check_base.specs.Meanings.{value_in}
use Rattle.given_tree.specs.declared.given.GivenStep.{GivenStep}
use Rattle.given_tree.specs.declared.given.GivenStep.TheVariants as step
use Rattle.given_tree.specs.declared.given.GivenForm.{GivenForm}
use Rattle.given_tree.specs.declared.given.GivenForm.TheVariants as form
use Rattle.given_tree.specs.declared.given.GivenItem.{GivenItem}

abbrev pub step_of : GivenStep → m.GivenStep
step_of (step.Element index place) = m.to_element index place
step_of (step.NoElement place) = m.to_no_element place
step_of (step.Member name place) = m.to_member name place
step_of (step.FaultyIndex fault place) = m.faulty_index fault place

abbrev pub steps_of : List GivenStep → List m.GivenStep
steps_of [] = []
steps_of (x ∷ xs) = step_of x ∷ steps_of xs

abbrev pub items_of : List GivenItem → m.GivenItems
items_of [] = m.no_given
items_of (x ∷ xs) = m.more_given (steps_of x.steps) x.first (items_of xs)

abbrev pub given_of : GivenForm → m.Given
given_of (form.Value operand later) = m.a_value (value_in operand.value) operand.first later
given_of (form.Text object bytes address first) = m.a_text object.0 bytes address first
given_of (form.Braces items place) = m.in_braces (items_of items) place
given_of (form.Faulty fault first) = m.faulty fault first
