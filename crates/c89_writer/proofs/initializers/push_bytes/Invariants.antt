use Rattle.std.proofs.Common.{◌≡◌, ◌++◌, drop}
use Rattle.model_c89.specs.Spelling89.{bytes_text}
use Rattle.c89_writer.proofs.initializers.push_bytes.Given as goal

abbrev pub invariant-loop-byte : goal.invariant-loop-byte
invariant-loop-byte l = l.out ++ bytes_text (drop l.byte-index l.bytes) ≡ l.initial.out ++ bytes_text l.bytes
