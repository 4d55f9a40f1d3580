use Rattle.std.proofs.Common.{◌≡◌, drop}
use Rattle.c_tree.specs.SyntaxViews as v
use Rattle.model_checking.specs.LaterForms as later
use Rattle.later_forms.proofs.units.in_externals.Given as goal

abbrev pub invariant-loop-external : goal.invariant-loop-external
invariant-loop-external l = later.in_externals (v.externals_of (drop l.external-index l.externals)) ≡ later.in_externals (v.externals_of l.externals)
