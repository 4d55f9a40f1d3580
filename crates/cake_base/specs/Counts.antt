-- Counts of what happened outside: they go up by one and never fall.
use Rattle.std.specs.Prelude.{ℕ, ◌+◌, ◌-◌, ◌^◌, ◌≤◌, min}

-- the last value of a counter, at which it stays
abbrev pub last_count : ℕ
last_count = 2 ^ 64 - 1

-- one more, up to the last value
abbrev pub counted : ℕ → ℕ
counted n = min (n + 1) last_count

-- the count rose, or stands at the last value of its counter
abbrev pub Rose : (before now : ℕ) → Type 0
Rose before now = counted before ≤ now
