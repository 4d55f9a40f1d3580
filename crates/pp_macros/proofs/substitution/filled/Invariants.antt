use Rattle.std.proofs.Common.{◌≡◌, drop, Some}
use Rattle.model_macros.specs.Substitution.{filled, empty_filling}
use Rattle.pp_macros.specs.Filling.{source_of}
use Rattle.pp_macros.proofs.substitution.filled.Given as goal

abbrev pub invariant-loop-piece : goal.invariant-loop-piece
invariant-loop-piece l = filled (source_of l.source) (Some l.filling) (drop l.piece-index l.body) ≡ filled (source_of l.source) (Some empty_filling) l.body
