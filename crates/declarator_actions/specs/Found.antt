-- What is found first.
use Rattle.std.specs.Prelude.{Option, Some, None}
use Rattle.model_grammar.specs.SyntaxForms as m
use Rattle.c_tree.specs.declared.syntax_declarators.DeclaratorForm.{DeclaratorForm}
use Rattle.c_tree.specs.SyntaxViews.{declarator_of}

-- the declarator that is found, or else another
abbrev pub found_or : Option DeclaratorForm → m.Declarator → m.Declarator
found_or (Some form) other = declarator_of form
found_or None other = other
