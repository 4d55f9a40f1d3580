-- Each initializer in a form has fewer nodes than what the form stands for.
use Rattle.std.specs.Prelude.{◌+◌, ◌≤◌, max, List, [], ◌∷◌}
use Rattle.std.proofs.Common.{arith}
use denote.Param.Weighed.{most, w_this}
use Rattle.given_tree.specs.declared.given.GivenForm.{GivenForm}
use Rattle.given_tree.specs.declared.given.GivenForm.TheVariants as form
use Rattle.given_tree.specs.declared.given.GivenItem.{GivenItem}
use Rattle.given_tree.specs.declared.given.Given.TheDeep.{deep-GivenForm, deep-GivenItem}
use Rattle.given_tree.specs.GivenViews.{given_of, items_of}
use Rattle.given_tree.specs.apparatus.GivenSizes.{given_nodes, items_nodes}

most_items : (xs : List GivenItem) → most (w_this.weight GivenItem deep-GivenItem) xs ≤ items_nodes (items_of xs)
most_items [] = omega arith
most_items (x ∷ xs) = omega (arith, most_items xs)

pub given_falls : (f : GivenForm) → max (deep-GivenForm f) 0 ≤ given_nodes (given_of f)
given_falls (form.Value operand later) = omega arith
given_falls (form.Text object bytes address first) = omega arith
given_falls (form.Braces items place) = omega (arith, most_items items)
given_falls (form.Faulty fault first) = omega arith
