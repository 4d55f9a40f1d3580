-- The given initializer that a node is. A node is seen as that initializer itself, and contracts of the crates above say
-- this word, so that nodes which stand for initializers otherwise change nothing but it.
use Rattle.model_checking.specs.Parts as m

abbrev pub given_tree : m.Given → m.Given
given_tree node = node
