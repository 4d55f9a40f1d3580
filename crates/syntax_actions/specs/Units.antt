-- The unit that a tree is.
use Rattle.std.specs.Prelude.{List, Option, Some, None}
use Rattle.model_grammar.specs.SyntaxForms as m
use Rattle.c_tree.specs.SyntaxTrees.{unit_of}

-- the unit that a tree is, where there is one
abbrev pub unit_seen : Option (List m.External) → Option (List m.External)
unit_seen None = None
unit_seen (Some tree) = Some (unit_of tree)
