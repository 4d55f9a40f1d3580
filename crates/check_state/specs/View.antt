-- All of a state but the scopes, as contracts see it.
use Rattle.std.specs.Prelude.{map}
use Rattle.core_tree.specs.CoreStatForms.{ids}
use Rattle.core_tree.specs.CoreUnitForms.{named_types_of}
use Rattle.check_state.specs.declared.pending.Pending.TheInside.{Inside}
use Rattle.check_state.specs.Kept.{Kept}
use Rattle.check_state.specs.SeenValues.{valued_of, body_of, range_of}

abbrev pub kept_of : Inside → Kept
kept_of a = record {
  waiting = a.waiting;
  made = a.made;
  automatic = ids a.automatic;
  taken = ids a.taken;
  named = named_types_of a.named;
  values = map valued_of a.values;
  bodies = map body_of a.bodies;
  left_out = map range_of a.left_out;
  limit = a.limit;
}
