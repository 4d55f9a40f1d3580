-- The value of digits, byte by byte.
use Rattle.std.specs.Prelude.{ℕ, ◌+◌, ◌*◌, ◌==◌, if◌then◌else◌}
use Rattle.model_tokens.specs.Digits.{digit_value}

-- the value after one more byte
abbrev pub next_value : ℕ → ℕ → ℕ → ℕ
next_value radix value b = if b == 39 then value else value * radix + digit_value b
