-- Conditional inclusion (ISO/IEC 9899:2024, 6.10.2): the conditionals of a file that are open at a line,
-- the innermost first.
use Rattle.std.specs.Prelude.{Bool, true, false, List, [], ◌∷◌, if◌then◌else◌, Option, Some, None}
use Rattle.cake_base.specs.declared.places.Place.{Place}
use Rattle.model_preprocessing.specs.declared.directives.Group.{Group}
use Rattle.model_preprocessing.specs.declared.directives.Group.TheVariants.{Taken, Sought, Passed}
use Rattle.model_preprocessing.specs.declared.directives.Conditional.{Conditional}

abbrev pub Conditionals : Type 0
Conditionals = List Conditional

abbrev pub is_taken : Group → Bool
is_taken Taken = true
is_taken Sought = false
is_taken Passed = false

-- whether a line here is translated; a conditional in a skipped group takes none of its own
abbrev pub is_translated : Conditionals → Bool
is_translated [] = true
is_translated (c ∷ cs) = is_taken c.group

-- a conditional whose first condition holds or doesn't
abbrev pub opened : Place → Bool → Conditionals → Conditionals
opened at holds cs = record { at = at; group = if holds then Taken else Sought; last = false } ∷ cs

-- a conditional in a skipped group
abbrev pub opened_in_skipped : Place → Conditionals → Conditionals
opened_in_skipped at cs = record { at = at; group = Passed; last = false } ∷ cs

-- the next group of a conditional, where that has a condition
abbrev pub next_group : Conditional → Bool → Conditional
next_group c holds = record c { group = if holds then Taken else Sought }

-- a conditional whose later groups are skipped
abbrev pub passed : Conditional → Conditional
passed c = record c { group = Passed }

-- the group after `#else`
abbrev pub else_group : Group → Group
else_group Taken = Passed
else_group Sought = Taken
else_group Passed = Passed

abbrev pub at_else : Conditional → Conditional
at_else c = record c { group = else_group c.group; last = true }

-- the `#` of the outermost one
abbrev pub outermost : Conditionals → Option Place
outermost [] = None
outermost (c ∷ []) = Some c.at
outermost (c ∷ (d ∷ cs)) = outermost (d ∷ cs)
