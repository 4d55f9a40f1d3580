-- What a run does with owned blocks (this profile's own, over 6.2.4 and 7.24.3): what it leaves of them, when
-- the outside is honest, and when an undefined run misuses a tracked place.
use Rattle.std.specs.Prelude.{◌≡◌, ℕ, ℤ, pos, Bool, false, ◌&&◌, not, if◌then◌else◌, List, [], ◌∷◌, Option, Some, None, IsTrue, Contains}
use Rattle.std.specs.List.{list_all}
use Rattle.std.specs.Ordering.{int_eq}
use Rattle.cake_base.specs.declared.places.Place.{Place}
use Rattle.model_types.specs.declared.marks.Origin.TheVariants.{Implied}
use Rattle.model_types.specs.declared.outcomes.Cause.TheVariants as cause
use Rattle.model_types.specs.Types.{CType, form_of_type, quals_of_type}
use Rattle.model_runs.specs.Memory.{Block, Memory, Value}
use Rattle.model_runs.specs.Run.{Event, Run, Ending, Undefined, Step, Goes, Ends}
use Rattle.model_core.specs.CoreTypes.{is_pointer, result_of_form}
use Rattle.model_core.specs.SourceMarks.{lvalue_mark}
use Rattle.model_core.specs.Tracked.{is_owner_type, is_tracked, is_owner}
use Rattle.model_core.specs.PartsIn.{Designates, parts_in}
use Rattle.model_core.specs.Core as unit

-- the blocks with the mark owned and without the mark released
abbrev pub owned_in : Memory → List Block
owned_in [] = []
owned_in (entry ∷ memory) = if entry.1.owned && not entry.1.released then entry.0 ∷ owned_in memory else owned_in memory

-- what a run that returned has left; any other run leaves nothing that counts
abbrev pub left_by : Step Value → List Block
left_by (Goes value s) = owned_in s.memory
left_by (Ends ending s) = []

-- a result that owns what it points to and is never null
abbrev pub is_sure_owner : CType → Bool
is_sure_owner type = is_owner_type type && not (quals_of_type type).has_opt

abbrev pub gives_sure_owner : Option unit.Function → Bool
gives_sure_owner None = false
gives_sure_owner (Some g) = is_sure_owner (result_of_form (form_of_type g.type))

abbrev pub is_null_answer : Option ℤ → Bool
is_null_answer None = false
is_null_answer (Some answer) = int_eq answer (pos 0)

-- an outside function that promises an owner, not null, answered so
abbrev pub keeps_promise : unit.Core → Event → Bool
keeps_promise core event = not (gives_sure_owner (unit.function_of core.functions event.name) && is_null_answer event.answer)

-- every outside function did
abbrev pub Honest : unit.Core → Run → Type 0
Honest core run = IsTrue (list_all (keeps_promise core) run.events)

-- the object that a pointer is read from, through casts between pointer types, and where its name stands
pub record ReadName : Type 0 where
  pub id : ℕ
  pub place : Place

abbrev pub object_name : unit.Lvalue → Option ReadName
object_name (unit.Object id type mark) = Some (record { id = id; place = mark.at })
object_name object = None

abbrev pub read_name : unit.Expr → Option ReadName
read_name (unit.Load object mark) = object_name object
read_name (unit.Convert origin type e mark) = if is_pointer (form_of_type type) then read_name e else None
read_name e = None

-- the pointer of `*p`, `p->m` or `p[i]`
abbrev pub followed_name : unit.Lvalue → Option ReadName
followed_name (unit.Deref pointer mark) = read_name pointer
followed_name (unit.Index is_second a b mark) = if is_second then read_name b else read_name a
followed_name (unit.Arrow pointer rank type name mark) = read_name pointer
followed_name object = None

abbrev mutual
  -- the pointer through which an object is reached: that of `*p`, `p->m` or `p[i]`, or of such a place of
  -- which it is a member or an element, by `.` and by indexing array members alone
  pub reached_through : unit.Lvalue → Option ReadName
  reached_through (unit.Object id type mark) = None
  reached_through (unit.Deref pointer mark) = read_name pointer
  reached_through (unit.Index is_second a b mark) = if is_second then indexed_through b else indexed_through a
  reached_through (unit.Field structure rank type name mark) = reached_through structure
  reached_through (unit.Arrow pointer rank type name mark) = read_name pointer
  reached_through (unit.Literal origin id type values mark) = None

  pub indexed_through : unit.Expr → Option ReadName
  indexed_through (unit.Address Implied array mark) = reached_through array
  indexed_through (unit.Convert origin type e mark) = if is_pointer (form_of_type type) then indexed_through e else None
  indexed_through (unit.Load object mark) = object_name object
  indexed_through e = None

-- the name of a tracked place stands there
pub record IsReadAt (core : unit.Core) (place : Place) : Type 0 where
  pub object : unit.Lvalue
  pub id : ℕ
  pub stands : Contains (parts_in core) (Designates object)
  pub named : object_name object ≡ Some (record { id = id; place = place })
  pub tracked : IsTrue (is_tracked core id)

-- the name of a tracked p of `*p`, `p->m` or `p[i]` stands there
pub record IsFollowedAt (core : unit.Core) (place : Place) : Type 0 where
  pub object : unit.Lvalue
  pub id : ℕ
  pub stands : Contains (parts_in core) (Designates object)
  pub named : followed_name object ≡ Some (record { id = id; place = place })
  pub tracked : IsTrue (is_tracked core id)

-- an object that is reached through an owner stands there
pub record IsReachedAt (core : unit.Core) (place : Place) : Type 0 where
  pub object : unit.Lvalue
  pub pointer : ReadName
  pub stands : Contains (parts_in core) (Designates object)
  pub at : (lvalue_mark object).at ≡ place
  pub through : reached_through object ≡ Some pointer
  pub owner : IsTrue (is_owner core pointer.id)

-- an undefined ending that misuses an owner or a tracked place: a bad release; a read of a tracked place
-- that has no value; a null one that is followed; a dead block that is reached through an owner
pub data Misuse (core : unit.Core) : Ending → Type 0 where
  bad_release : (place : Option Place) → Misuse core (Undefined cause.BadRelease place)
  no_value : (place : Place) → IsReadAt core place → Misuse core (Undefined cause.Uninitialised (Some place))
  null_followed : (place : Place) → IsFollowedAt core place → Misuse core (Undefined cause.Null (Some place))
  dead_reached : (place : Place) → IsReachedAt core place → Misuse core (Undefined cause.Dead (Some place))
