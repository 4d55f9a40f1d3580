-- The names of a text (this profile's own): external names are kept; each other object, function, structure and member
-- has its own, or `x`, with a number that is counted over the unit; and no name that isn't external is one of an external.
use Rattle.std.specs.Prelude.{ℕ, zero, suc, nat_eq, Bool, true, false, ◌&&◌, if◌then◌else◌, List, [], ◌∷◌, ◌++◌, length, take, Option, Some, None, codes, slice_get}
use Rattle.std.specs.List.{list_all}
use Rattle.std.specs.Fmt.{decimal}
use Rattle.model_types.specs.ByteClasses.{is_nondigit, is_word_byte, begins_with}
use Rattle.model_types.specs.Structures.{Member, Structure}
use Rattle.model_core.specs.TypedCore.{external_functions, external_objects}
use Rattle.model_core.specs.Core as source
use Rattle.model_c89.specs.Names89.{is_among}
use Rattle.c_model.specs.Renamed.{Naming}

abbrev pub external_names : source.Core → List (List ℕ)
external_names core = external_functions core.functions ++ external_objects core.objects

-- ---- one name

abbrev pub is_identifier : List ℕ → Bool
is_identifier name = begins_with is_nondigit name && list_all is_word_byte name

-- what stands before the number
abbrev pub stem : Option (List ℕ) → List ℕ
stem None = codes "x"
stem (Some name) = if is_identifier name then take 20 name else codes "x"

abbrev pub numbered : List ℕ → (number : ℕ) → List ℕ
numbered front number = front ++ (codes "_" ++ decimal number)

-- a name that stands for nothing of the source
abbrev pub made : List ℕ → (number : ℕ) → List ℕ
made front number = front ++ decimal number

-- the first number from one on whose name isn't external, of which there are so many
abbrev pub free_number : (tries : ℕ) → (externals : List (List ℕ)) → (name_of : ℕ → List ℕ) → (number : ℕ) → ℕ
free_number zero externals name_of number = number
free_number (suc tries) externals name_of number =
    if is_among externals (name_of number) then free_number tries externals name_of (suc number) else number

abbrev pub free_from : (externals : List (List ℕ)) → (name_of : ℕ → List ℕ) → (number : ℕ) → ℕ
free_from externals = free_number (length externals) externals

-- the number of a made name behind so many others
abbrev pub made_number : (externals : List (List ℕ)) → (front : List ℕ) → (before : ℕ) → ℕ
made_number externals front zero = free_from externals (made front) 1
made_number externals front (suc before) = free_from externals (made front) (suc (made_number externals front before))

abbrev pub made_name : (externals : List (List ℕ)) → (front : List ℕ) → (before : ℕ) → List ℕ
made_name externals front before = made front (made_number externals front before)

-- ---- names of a list, and the first number behind them

pub record Counted (A : Type 0) : Type 0 where
  pub made : A
  pub next : ℕ

abbrev pub counted : {A : Type 0} → A → ℕ → Counted A
counted made next = record { made = made; next = next }

abbrev pub and_then : {A B : Type 0} → Counted A → (A → ℕ → Counted B) → Counted B
and_then x others = others x.made x.next

-- what becomes of a name
pub data Wish : Type 0 where
  Keeps : (name : List ℕ) → Wish
  Wants : (front : List ℕ) → Wish

abbrev pub named : (externals : List (List ℕ)) → (next : ℕ) → Wish → Counted (List ℕ)
named externals next (Keeps name) = counted name next
named externals next (Wants front) =
    let number = free_from externals (numbered front) next in counted (numbered front number) (suc number)

abbrev pub all_named : (externals : List (List ℕ)) → (next : ℕ) → List Wish → Counted (List (List ℕ))
all_named externals next [] = counted [] next
all_named externals next (w ∷ ws) =
    and_then (named externals next w) (λ name behind.
    and_then (all_named externals behind ws) (λ names last. counted (name ∷ names) last))

-- ---- objects and functions, by their ids

abbrev pub wish_if : (is_external : Bool) → Option (List ℕ) → Wish
wish_if true (Some name) = Keeps name
wish_if true None = Wants (stem None)
wish_if false name = Wants (stem name)

-- the strings of a unit are counted by themselves
abbrev pub object_wish : (externals : List (List ℕ)) → (strings : ℕ) → source.DeclaredObject → source.Storage → Wish
object_wish externals strings o (source.Text bytes) = Keeps (made_name externals (codes "cake_s") strings)
object_wish externals strings o storage = wish_if o.is_external o.name

abbrev pub is_string : source.Storage → Bool
is_string (source.Text bytes) = true
is_string storage = false

abbrev pub object_wishes : (externals : List (List ℕ)) → (strings : ℕ) → List source.DeclaredObject → List Wish
object_wishes externals strings [] = []
object_wishes externals strings (o ∷ os) =
    object_wish externals strings o o.storage ∷ object_wishes externals (if is_string o.storage then suc strings else strings) os

abbrev pub name_of_function : source.FunctionName → Option (List ℕ)
name_of_function (source.Named name) = Some name
name_of_function (source.Lambda place) = None

abbrev pub function_wishes : List source.Function → List Wish
function_wishes [] = []
function_wishes (g ∷ gs) = wish_if g.is_external (name_of_function g.name) ∷ function_wishes gs

abbrev pub object_ids : List source.DeclaredObject → List ℕ
object_ids [] = []
object_ids (o ∷ os) = o.id ∷ object_ids os

abbrev pub function_ids : List source.Function → List ℕ
function_ids [] = []
function_ids (g ∷ gs) = g.id ∷ function_ids gs

-- ---- structures and members, by their ranks

abbrev pub structure_wishes : List Structure → List Wish
structure_wishes [] = []
structure_wishes (s ∷ ss) = Wants (stem s.tag) ∷ structure_wishes ss

abbrev pub wishes_of_members : List Member → List Wish
wishes_of_members [] = []
wishes_of_members (m ∷ ms) = Wants (stem (Some m.name)) ∷ wishes_of_members ms

abbrev pub member_wishes : Option (List Member) → List Wish
member_wishes None = []
member_wishes (Some members) = wishes_of_members members

abbrev pub members_named : (externals : List (List ℕ)) → (next : ℕ) → List Structure → List (List (List ℕ))
members_named externals next [] = []
members_named externals next (s ∷ ss) =
    let these = all_named externals next (member_wishes s.members) in these.made ∷ members_named externals these.next ss

-- ---- the unit

abbrev pub found : (ids : List ℕ) → (names : List (List ℕ)) → (id : ℕ) → List ℕ
found (first ∷ ids) (name ∷ names) id = if nat_eq first id then name else found ids names id
found ids names id = []

abbrev pub or_empty : Option (List ℕ) → List ℕ
or_empty None = []
or_empty (Some name) = name

abbrev pub names_or_none : Option (List (List ℕ)) → List (List ℕ)
names_or_none None = []
names_or_none (Some names) = names

abbrev pub made_naming : source.Core → (declared structures : List (List ℕ)) → (members : List (List (List ℕ))) → Naming
made_naming core declared structures members = record {
  declared = found (object_ids core.objects ++ function_ids core.functions) declared;
  structure = λ id. or_empty (slice_get structures id.0);
  member = λ id rank. or_empty (slice_get (names_or_none (slice_get members id.0)) rank);
  temporary = made_name (external_names core) (codes "cake_t");
}

-- objects, functions, structures and members are counted in this order
abbrev pub naming_of : source.Core → Naming
naming_of core =
    let externals = external_names core in
    let declared = all_named externals 1 (object_wishes externals 0 core.objects ++ function_wishes core.functions) in
    let structures = all_named externals declared.next (structure_wishes core.structs) in
    made_naming core declared.made structures.made (members_named externals structures.next core.structs)
