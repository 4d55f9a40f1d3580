-- The table of structures as the code keeps it.
use Rattle.std.specs.Prelude.{◌≡◌, ◌<◌, ◌≤◌, ◌^◌, ℕ, zero, suc, nat_lt, if◌then◌else◌, List, [], ◌∷◌, length, map, Option, Some, None, IfSome, slice_get, IsTrue}
use Rattle.std.specs.Option.{option_map, option_and_then}
use Rattle.model_types.specs.declared.types.StructId.{StructId}
use Rattle.model_types.specs.Types.{CType}
use Rattle.model_types.specs.Structures.{Member, Structure, is_closed}
use Rattle.model_types.specs.Layout.{Layout, layout_in, layout_of, member_layouts, in_a_row, size_limit, offset_in}
use Rattle.c_types.specs.declared.extents.Extent.{Extent}
use Rattle.c_types.specs.declared.structs.Body.{Body}
use Rattle.c_types.specs.declared.structs.Entry.{Entry}
use Rattle.c_types.specs.Extents.{kept}

-- an entry as a structure
abbrev pub structure_of : Entry → Structure
structure_of e = record { tag = e.tag; outer = e.outer; place = e.place; members = option_map (λ b. b.members) e.body }

-- the structures of the entries
abbrev pub structures : List Entry → List Structure
structures entries = map structure_of entries

-- the body of an entry that is there and complete
abbrev pub body_of : Option Entry → Option Body
body_of None = None
body_of (Some e) = e.body

-- the entries with a body for that of a rank
abbrev pub with_body : List Entry → ℕ → Body → List Entry
with_body [] k b = []
with_body (e ∷ es) zero b = record e { body = Some b } ∷ es
with_body (e ∷ es) (suc k) b = e ∷ with_body es k b

-- the size and alignment that the table keeps for a structure
abbrev pub extent_in : List Entry → StructId → Option Extent
extent_in entries s = option_map (λ b. b.extent) (body_of (slice_get entries s.0))

-- the offset that is kept for the member of a rank
abbrev pub offset_kept : List Member → List ℕ → (rank : ℕ) → Option ℕ
offset_kept ms offsets k = if nat_lt k (length ms) then slice_get offsets k else None

-- the members have layouts, and where the structure doesn't pass the limit their kept offsets are theirs
pub record ArePlaced (of : CType → Option Layout) (ms : List Member) (offsets : List ℕ) : Type 0 where
  pub layouts : List Layout
  pub laid : member_layouts of ms ≡ Some layouts
  pub each : (in_a_row layouts).size ≤ size_limit → (k o : ℕ) → offset_kept ms offsets k ≡ Some o → offset_in layouts k ≡ Some o

-- what an answer says of the offset of a rank among these members, where there are any
abbrev pub IsOffset : List Structure → Option (List Member) → (rank : ℕ) → Option ℕ → Type 0
IsOffset structs ms k answer = (ls : List Layout) → option_and_then (member_layouts (layout_of structs)) ms ≡ Some ls → (in_a_row ls).size ≤ size_limit → IfSome answer (λ o. offset_in ls k ≡ Some o)

-- there are at most so many entries, each keeps the size and alignment that its structure has, and
-- offsets of its members, and no member names a structure that isn't there
pub record IsTable (entries : List Entry) : Type 0 where
  pub few : length entries < 2 ^ 32
  pub laid : (s : StructId) → extent_in entries s ≡ option_map kept (layout_in (structures entries) s)
  pub placed : (s : StructId) (b : Body) → body_of (slice_get entries s.0) ≡ Some b → ArePlaced (layout_of (structures entries)) b.members b.offsets
  pub closed : IsTrue (is_closed (structures entries))
