-- Tracked places (this profile's own, over the objects of 6.2.4): automatic pointer objects and parameters
-- that are owners, and those that are optional views and whose address is taken nowhere. The object of a
-- compound literal has no name, and isn't tracked.
use Rattle.std.specs.Prelude.{ℕ, Bool, true, false, ◌&&◌, ◌||◌, not, List, [], ◌++◌, Option, Some, None, filter, is_some}
use Rattle.model_types.specs.Types.{CType, form_of_type, quals_of_type}
use Rattle.model_core.specs.CoreTypes.{is_pointer}
use Rattle.model_core.specs.Core as unit

-- a pointer that owns what it points to
abbrev pub is_owner_type : CType → Bool
is_owner_type type = is_pointer (form_of_type type) && (quals_of_type type).has_owner

-- a pointer that may be null, and owns nothing
abbrev pub is_optional_view_type : CType → Bool
is_optional_view_type type = is_pointer (form_of_type type) && (quals_of_type type).has_opt && not (quals_of_type type).has_owner

-- a parameter, or a named object of automatic storage
abbrev pub is_local : unit.Storage → Option (List ℕ) → Bool
is_local unit.Automatic name = is_some name
is_local unit.Parameter name = true
is_local storage name = false

abbrev pub is_tracked_object : unit.DeclaredObject → Bool
is_tracked_object o = is_local o.storage o.name && (is_owner_type o.type || is_optional_view_type o.type && not o.is_address_taken)

abbrev pub is_owner_object : unit.DeclaredObject → Bool
is_owner_object o = is_local o.storage o.name && is_owner_type o.type

abbrev pub is_one : (unit.DeclaredObject → Bool) → Option unit.DeclaredObject → Bool
is_one test None = false
is_one test (Some o) = test o

-- the object of a number is tracked, or is an owner
abbrev pub is_tracked : unit.Core → (id : ℕ) → Bool
is_tracked core id = is_one is_tracked_object (unit.object_of core.objects id)

abbrev pub is_owner : unit.Core → (id : ℕ) → Bool
is_owner core id = is_one is_owner_object (unit.object_of core.objects id)

abbrev mutual
  -- the objects that a statement declares, at any depth, in the order of their scopes
  pub declared_in : unit.Stat → List ℕ
  declared_in (unit.Evaluate value span) = []
  declared_in (unit.Start id type values mark) = []
  declared_in (unit.Block objects body span) = objects ++ all_declared_in body
  declared_in (unit.If condition first second span) = declared_in first ++ maybe_declared_in second
  declared_in (unit.Switch value objects body span) = objects ++ cases_declare body
  declared_in (unit.While condition body span) = declared_in body
  declared_in (unit.DoWhile body condition span) = declared_in body
  declared_in (unit.For first condition step body span) = declared_in body
  declared_in (unit.Break place) = []
  declared_in (unit.Continue place) = []
  declared_in (unit.Return value place) = []
  declared_in (unit.Defer body place span) = declared_in body

  pub maybe_declared_in : unit.MaybeStat → List ℕ
  maybe_declared_in unit.no_stat = []
  maybe_declared_in (unit.a_stat stat) = declared_in stat

  pub all_declared_in : unit.Stats → List ℕ
  all_declared_in unit.no_stats = []
  all_declared_in (unit.more_stats stat stats) = declared_in stat ++ all_declared_in stats

  pub cases_declare : unit.Cases → List ℕ
  cases_declare unit.no_cases = []
  cases_declare (unit.a_case value place others) = cases_declare others
  cases_declare (unit.a_default place others) = cases_declare others
  cases_declare (unit.a_stat_then stat others) = declared_in stat ++ cases_declare others

-- the tracked places of a function: its parameters, then the objects of its body
abbrev pub tracked_places : unit.Core → unit.Function → List ℕ
tracked_places core g = filter (is_tracked core) (g.parameters ++ maybe_declared_in g.body)
