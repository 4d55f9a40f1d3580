-- Bits in words of 64.
use Rattle.std.specs.Prelude.{ℕ, ◌/◌, ◌%◌, ◌==◌, Bool, List, map, slice_index}
use Rattle.std.specs.Int.{bit_at}
use Rattle.std.specs.List.{range_with_len}

-- bit `at` is set, in the word at / 64
abbrev pub is_set : List ℕ → ℕ → Bool
is_set words at = bit_at (slice_index words (at / 64)) (at % 64) == 1

-- the first `count` bits
abbrev pub bits_of : List ℕ → ℕ → List Bool
bits_of words count = map (is_set words) (range_with_len 0 count)
