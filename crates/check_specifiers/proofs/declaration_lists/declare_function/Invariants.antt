use Rattle.std.proofs.Common.{◌≡◌, drop}
use Rattle.std.specs.Option.{option_copied}
use Rattle.c_tree.specs.SyntaxViews.{init_declarators_of}
use Rattle.model_checking.specs.DeclarationSpecifiers as m
use Rattle.check_specifiers.proofs.declaration_lists.declare_function.Given as goal

abbrev pub invariant-loop-declarator : goal.invariant-loop-declarator
invariant-loop-declarator l =
    m.declare_function (option_copied l.given) (init_declarators_of (drop l.declarator-index l.declarators))
    ≡ m.declare_function (option_copied l.given) (init_declarators_of l.declarators)
