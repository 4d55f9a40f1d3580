use Rattle.std.proofs.Common.{◌≡◌, ◌++◌, drop}
use Rattle.check_declarators.proofs.types.types_copied.Given as goal

abbrev pub invariant-loop-ty : goal.invariant-loop-ty
invariant-loop-ty l = l.made ++ drop l.ty-index l.types ≡ l.types
