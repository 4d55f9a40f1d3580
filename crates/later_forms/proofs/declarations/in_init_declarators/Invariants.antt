use Rattle.std.proofs.Common.{◌≡◌, drop}
use Rattle.c_tree.specs.SyntaxViews as v
use Rattle.model_checking.specs.LaterForms as later
use Rattle.later_forms.proofs.declarations.in_init_declarators.Given as goal

abbrev pub invariant-loop-init_declarator : goal.invariant-loop-init_declarator
invariant-loop-init_declarator l = later.in_init_declarators (v.init_declarators_of (drop l.init_declarator-index l.init_declarators)) ≡ later.in_init_declarators (v.init_declarators_of l.init_declarators)
