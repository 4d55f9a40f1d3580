use Rattle.std.proofs.Common.{◌≡◌, drop}
use Rattle.model_types.specs.Types.{types}
use Rattle.model_core.specs.TypedScope.{are_complete}
use Rattle.check_assignments.proofs.calls.are_complete.Given as goal

abbrev pub invariant-loop-parameter : goal.invariant-loop-parameter
invariant-loop-parameter l =
    are_complete l.structs (types (drop l.parameter-index l.parameters)) ≡ are_complete l.structs (types l.parameters)
