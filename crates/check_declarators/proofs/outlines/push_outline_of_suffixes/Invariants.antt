use Rattle.std.proofs.Common.{◌≡◌, ◌++◌, drop}
use Rattle.c_tree.specs.SyntaxViews.{suffixes_of}
use Rattle.model_checking.specs.Derivations as m
use Rattle.check_declarators.specs.Steps.{derivations_of}
use Rattle.check_declarators.proofs.outlines.push_outline_of_suffixes.Given as goal

abbrev pub invariant-loop-suffix : goal.invariant-loop-suffix
invariant-loop-suffix l =
    derivations_of l.steps ++ m.outline_of_suffixes (suffixes_of (drop l.suffix-index l.suffixes))
    ≡ derivations_of l.fn.steps ++ m.outline_of_suffixes (suffixes_of l.suffixes)
