-- The tree of the grammar that a node is. A node is seen as that tree itself, and contracts of the crates above say these
-- words, so that nodes which stand for trees otherwise change nothing but them.
use Rattle.std.specs.Prelude.{List}
use Rattle.model_grammar.specs.SyntaxForms as m

abbrev pub expr_tree : m.Expr → m.Expr
expr_tree node = node

abbrev pub type_name_tree : m.TypeName → m.TypeName
type_name_tree node = node

abbrev pub specs_tree : m.Specs → m.Specs
specs_tree node = node

abbrev pub declarator_tree : m.Declarator → m.Declarator
declarator_tree node = node

abbrev pub initializer_tree : m.Initializer → m.Initializer
initializer_tree node = node

abbrev pub declaration_tree : m.Declaration → m.Declaration
declaration_tree node = node

abbrev pub statement_tree : m.Statement → m.Statement
statement_tree node = node

-- of a whole tree, its unit
abbrev pub unit_of : List m.External → List m.External
unit_of tree = tree
