-- Which of two broken rules is named.
use Rattle.std.specs.Prelude.{nat_eq, nat_lt, Bool, ◌&&◌, ◌||◌, if◌then◌else◌}
use Rattle.cake_base.specs.declared.rules.Fault.{Fault}

abbrev pub comes_first : Fault → Fault → Bool
comes_first f g = nat_lt f.place.order g.place.order || nat_eq f.place.order g.place.order && nat_lt f.rule.number g.rule.number

-- the one whose place comes first; at one place the one with the smaller number
abbrev pub first_fault : Fault → Fault → Fault
first_fault f g = if comes_first g f then g else f
