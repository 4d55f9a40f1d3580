-- How many nodes a given initializer has, each cell of a list counted: the measure of a recursion over nodes.
use Rattle.std.specs.Prelude.{ℕ, ◌+◌}
use Rattle.model_checking.specs.Parts as m

abbrev mutual
  pub given_nodes : m.Given → ℕ
  given_nodes (m.a_value value first later) = 1
  given_nodes (m.a_text id bytes value first) = 1
  given_nodes (m.in_braces items place) = 1 + items_nodes items
  given_nodes (m.faulty fault first) = 1

  pub items_nodes : m.GivenItems → ℕ
  items_nodes m.no_given = 0
  items_nodes (m.more_given steps first others) = 2 + given_nodes first + items_nodes others
