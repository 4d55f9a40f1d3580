-- Sizes and alignments as the code keeps them: a size past the limit is kept as one more than that.
use Rattle.std.specs.Prelude.{ℕ, ◌+◌, ◌*◌, ◌≤◌, ◌<◌, min, max, List}
use Rattle.std.specs.Int.{next_multiple_of}
use Rattle.std.specs.List.{fold}
use Rattle.model_types.specs.Layout.{Layout, size_limit}
use Rattle.c_types.specs.declared.extents.Extent.{Extent}

abbrev pub past_limit : ℕ
past_limit = size_limit + 1

abbrev pub limited : ℕ → ℕ
limited n = min n past_limit

-- the bounds that hold of each
pub record IsBounded (e : Extent) : Type 0 where
  pub size : e.size ≤ past_limit
  pub positive : 0 < e.align
  pub small : e.align ≤ 8

-- what is kept of a layout
abbrev pub kept : Layout → Extent
kept l = record { size = limited l.size; align = l.align }

abbrev pub repeated : ℕ → Extent → Extent
repeated n e = record { size = limited (n * e.size); align = e.align }

abbrev pub followed_by : Extent → Extent → Extent
followed_by before e = record { size = limited (next_multiple_of before.size e.align + e.size); align = max before.align e.align }

abbrev pub padded : Extent → Extent
padded e = record { size = limited (next_multiple_of e.size e.align); align = e.align }

-- no member yet
abbrev pub no_member : Extent
no_member = record { size = 0; align = 1 }

-- members behind those so far
abbrev pub more_behind : Extent → List Layout → Extent
more_behind = fold (λ before l. followed_by before (kept l))
