-- The runs that use an owner after it was freed misuse it.
use Rattle.std.proofs.Common.{Some, refl, lit<}
use Rattle.model_core.specs.Core as unit
use Rattle.c_model.specs.FirstUnit.{mark_at}
use Rattle.c_model.specs.ExampleParts.{load}
use Rattle.c_model.specs.ExampleReleases.{at_line, owner_at, freed_in_loop, dead_in_loop, freed_twice, released_twice}
use Rattle.model_runs.specs.Ownership.{Misuse, IsReachedAt}

star : IsReachedAt freed_in_loop (at_line 7 9 2)
star = record {
  object = unit.Deref (load (owner_at (at_line 7 10 3))) (mark_at (at_line 7 9 2));
  pointer = record { id = 10; place = at_line 7 10 3 };
  stands = (6, lit< tt, refl);
  at = refl;
  through = refl;
  owner = refl;
}

pub dead_owner_is_misused : Misuse freed_in_loop dead_in_loop.ending
dead_owner_is_misused = Misuse.dead_reached (at_line 7 9 2) star

pub second_release_is_misuse : Misuse freed_twice released_twice.ending
second_release_is_misuse = Misuse.bad_release (Some (at_line 8 13 6))
