-- The ways from an object to its subobjects (ISO/IEC 9899:2024, 6.7.11): which one comes behind another, and which one
-- takes a value that stands without braces.
use Rattle.std.specs.Prelude.{ℕ, zero, suc, ◌+◌, nat_lt, Bool, true, false, ◌||◌, ◌&&◌, if◌then◌else◌, List, [], ◌∷◌, map, reverse, Option, Some, None, option_map, find}
use Rattle.std.specs.Option.{option_or}
use Rattle.model_types.specs.declared.numbers.Basic.TheVariants as basic
use Rattle.model_types.specs.declared.types.StructId.{StructId}
use Rattle.model_types.specs.Types.{CType, typed, Form, Integer, Array, Struct, form_of_type}
use Rattle.model_types.specs.Structures.{Member, Structure, members_of}
use Rattle.model_types.specs.Layout.{complete_count}
use Rattle.model_types.specs.Texts.{same_text}
use Rattle.model_core.specs.MemberTypes.{member_type, member_in}
use Rattle.model_core.specs.SameTypes.{same_form}
use Rattle.model_core.specs.TypedParts.{is_scalar, is_struct}

-- a step from an array or structure to its element or member of a rank
pub record Step : Type 0 where
  pub whole : CType
  pub rank : ℕ
  pub part : CType

-- the type of the subobject to which steps lead, the last one standing first
abbrev pub reached : (object : CType) → List Step → CType
reached object [] = object
reached object (last ∷ outer) = last.part

-- the ranks of the steps, the first one first
abbrev pub ranks : List Step → List ℕ
ranks way = map (λ (s : Step). s.rank) (reverse way)

-- ---- elements and members

-- an array of unknown length has an element of each rank
abbrev pub element_type : CType → (length : Option ℕ) → (rank : ℕ) → Option CType
element_type type None rank = Some type
element_type type (Some length) rank = if nat_lt rank length then Some type else None

abbrev pub part_type : List Structure → (whole : CType) → (rank : ℕ) → Option CType
part_type structs (typed (Array type length) quals) rank = element_type type length rank
part_type structs (typed (Struct id) quals) rank = option_map (λ m. member_type quals m.ty) (member_in rank (members_of structs id))
part_type structs (typed form quals) rank = None

abbrev pub step : List Structure → (whole : CType) → (rank : ℕ) → Option Step
step structs whole rank = option_map (λ part. record { whole = whole; rank = rank; part = part }) (part_type structs whole rank)

-- a way, and one step more
abbrev pub step_to : List Structure → (whole : CType) → (rank : ℕ) → List Step → Option (List Step)
step_to structs whole rank way = option_map (λ last. last ∷ way) (step structs whole rank)

abbrev pub is_aggregate : Form → Bool
is_aggregate (Array type length) = true
is_aggregate (Struct id) = true
is_aggregate form = false

-- where a list in braces begins: with the first element or member, of a scalar with itself
abbrev pub start : List Structure → (object : CType) → Option (List Step)
start structs object = if is_aggregate (form_of_type object) then step_to structs object 0 [] else Some []

-- the subobject behind another: the next element or member, and behind the last one what is behind the whole
abbrev pub behind : List Structure → List Step → Option (List Step)
behind structs [] = None
behind structs (last ∷ outer) = option_or (step_to structs last.whole (last.rank + 1) outer) (behind structs outer)

-- ---- designated members (6.7.11, paragraph 7)

abbrev pub rank_from : (name : List ℕ) → (rank : ℕ) → List Member → Option ℕ
rank_from name rank [] = None
rank_from name rank (m ∷ ms) = if same_text m.name name then Some rank else rank_from name (rank + 1) ms

abbrev pub rank_among : (name : List ℕ) → Option (List Member) → Option ℕ
rank_among name None = None
rank_among name (Some members) = rank_from name 0 members

-- the rank of a structure's member by its name
abbrev pub member_rank : List Structure → Form → (name : List ℕ) → Option ℕ
member_rank structs (Struct id) name = rank_among name (members_of structs id)
member_rank structs form name = None

-- ---- what takes a value without braces (6.7.11, paragraphs 14 to 16 and 23)

-- what stands without braces: a string, or a value of a type
pub data Bare : Type 0 where
  a_string : Bare
  a_value_of : (type : CType) → Bare

-- a character type (6.2.5)
abbrev pub is_character : Form → Bool
is_character (Integer basic.Char) = true
is_character (Integer basic.SignedChar) = true
is_character (Integer basic.UnsignedChar) = true
is_character form = false

abbrev pub is_character_array : Form → Bool
is_character_array (Array type length) = is_character (form_of_type type)
is_character_array form = false

-- an array of characters takes a string, and a structure a value of its own type
abbrev pub takes_whole : Bare → Form → Bool
takes_whole a_string form = is_character_array form
takes_whole (a_value_of type) form = is_struct form && same_form form (form_of_type type)

-- a scalar takes each
abbrev pub takes : Bare → Form → Bool
takes bare form = is_scalar form || takes_whole bare form

abbrev mutual
  -- a way to an object, and those to its first element or member, to the first of that, and so on; in structures they
  -- are given
  pub inward : (given : CType → StructId → List Step → List (List Step)) → CType → List Step → List (List Step)
  inward given (typed form quals) way = way ∷ inward_form given (typed form quals) form way

  pub inward_form : (given : CType → StructId → List Step → List (List Step)) → (whole : CType) → Form → List Step → List (List Step)
  inward_form given whole (Array type length) way = inward given type (record { whole = whole; rank = 0; part = type } ∷ way)
  inward_form given whole (Struct id) way = given whole id way
  inward_form given whole form way = []

abbrev pub inward_step : (given : CType → StructId → List Step → List (List Step)) → Option Step → List Step → List (List Step)
inward_step given None way = []
inward_step given (Some last) way = inward given last.part (last ∷ way)

-- in structures that lie in one another at most this deep
abbrev pub inward_struct : (depth : ℕ) → List Structure → (whole : CType) → StructId → List Step → List (List Step)
inward_struct zero structs whole id way = []
inward_struct (suc depth) structs whole id way = inward_step (inward_struct depth structs) (step structs whole 0) way

-- on the way from a subobject inward, the first one that takes what stands there
abbrev pub taker : List Structure → Bare → (object : CType) → List Step → Option (List Step)
taker structs bare object way =
    find (λ further. takes bare (form_of_type (reached object further))) (inward (inward_struct (complete_count structs) structs) (reached object way) way)
