use Rattle.std.proofs.Common.{◌∙◌, ap, sym, length}
use Rattle.c_tree.specs.SyntaxViews as v
use Rattle.model_checking.specs.Derivations as d
use Rattle.check_specifiers.specs.NearestSteps as n
use Rattle.check_specifiers.proofs.NearestLaws.{function_is_nearest}
use Rattle.check_specifiers.proofs.nearest.nearest_of_suffix.Goals as goal

pub returns-in-Function : goal.returns-in-Function
returns-in-Function c =
    function_is_nearest c.in-Function.parameters _ c.in-Function.is_variadic c.in-Function.place (ap length c.as_slice.ensures)
    ∙ ap (λ s. n.nearest_of (d.outline_of_suffix (v.suffix_of s))) (sym c.in-Function.is)
