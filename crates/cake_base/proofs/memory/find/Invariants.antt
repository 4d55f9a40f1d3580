use Rattle.std.proofs.Common.{◌≡◌, drop, map}
use Rattle.cake_base.specs.Outside.{bytes_under}
use Rattle.cake_base.proofs.memory.find.Given as goal

abbrev pub invariant-loop-file : goal.invariant-loop-file
invariant-loop-file l = bytes_under (map (λ e. (e.name, e.bytes)) (drop l.file-index l.held)) l.name ≡ bytes_under (map (λ e. (e.name, e.bytes)) l.held) l.name
