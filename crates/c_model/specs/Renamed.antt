-- A state of a unit beside a state of a text in which what the unit numbers has names: the same blocks under
-- other names, with the same bytes (ISO/IEC 9899:2024, 5.1.2.4, 6.2.4, 6.2.6.1).
use Rattle.std.specs.Prelude.{◌≡◌, ℕ, suc, Bool, true, false, List, [], ◌∷◌, ◌++◌, Option, Some, None, codes}
use Rattle.std.specs.Fmt.{decimal}
use Rattle.model_types.specs.declared.types.StructId.{StructId}
use Rattle.model_core.specs.Core as source
use Rattle.model_runs.specs.Memory.{Numbered, Named, Block, Global, Local, Heap, HandleOf, Outside, Scalar, Address, Code, Value, Missing, Single, StructureValue, Cell, Contents, contents_of}
use Rattle.model_runs.specs.Loads.{stored_at}
use Rattle.model_runs.specs.Run.{State, Step, Goes, Ends, Undefined}
use Rattle.c_model.specs.Seen.{Seen, SeenAs, SameBytes}

-- the names of objects and functions, of structures and their members, and of temporaries
pub record Naming : Type 0 where
  pub declared : (id : ℕ) → List ℕ
  pub structure : StructId → List ℕ
  pub member : StructId → (rank : ℕ) → List ℕ
  pub temporary : (number : ℕ) → List ℕ

-- those of an expression by itself
abbrev pub provisional : Naming
provisional = record {
  declared = λ id. codes "d" ++ decimal id;
  structure = λ id. codes "s" ++ decimal id.0;
  member = λ id rank. codes "m" ++ decimal rank;
  temporary = λ number. codes "cake_t" ++ decimal (suc number);
}

-- an outside object has the name of its number
abbrev pub outside_name : Naming → (name : List ℕ) → Option source.DeclaredObject → List ℕ
outside_name n name None = name
outside_name n name (Some o) = n.declared o.id

abbrev pub renamed : Naming → source.Core → Block → Block
renamed n core (Global (Numbered id)) = Global (Named (n.declared id))
renamed n core (Local call (Numbered id)) = Local call (Named (n.declared id))
renamed n core (Outside name) = Outside (outside_name n name (source.external_object core.objects name))
renamed n core (HandleOf name) = HandleOf (outside_name n name (source.external_object core.objects name))
renamed n core block = block

abbrev pub renamed_scalar : Naming → source.Core → Scalar → Scalar
renamed_scalar n core (Address block offset) = Address (renamed n core block) offset
renamed_scalar n core (Code (Numbered id)) = Code (Named (n.declared id))
renamed_scalar n core scalar = scalar

abbrev pub seen_renamed : Naming → source.Core → Scalar → Seen
seen_renamed n core scalar = SeenAs (renamed_scalar n core scalar)

-- an object, and an external object, of the unit
abbrev pub IsObject : source.Core → (id : ℕ) → Type 0
IsObject core id = (o : source.DeclaredObject) × (source.object_of core.objects id ≡ Some o)

abbrev pub IsExternal : source.Core → (name : List ℕ) → Type 0
IsExternal core name = (o : source.DeclaredObject) × (source.external_object core.objects name ≡ Some o)

-- a block that runs of the unit can have, so that no other one has its name
abbrev pub IsKnown : source.Core → Block → Type 0
IsKnown core (Global (Numbered id)) = IsObject core id
IsKnown core (Local call (Numbered id)) = IsObject core id
IsKnown core (Global (Named name)) = ⊥
IsKnown core (Local call (Named name)) = ⊥
IsKnown core (Outside name) = IsExternal core name
IsKnown core (HandleOf name) = IsExternal core name
IsKnown core block = Unit {0}

abbrev pub IsKnownScalar : source.Core → Scalar → Type 0
IsKnownScalar core (Address block offset) = IsKnown core block
IsKnownScalar core (Code (Numbered id)) = (g : source.Function) × (source.function_by_id core.functions id ≡ Some g)
IsKnownScalar core (Code (Named name)) = ⊥
IsKnownScalar core scalar = Unit {0}

-- the same bytes under the names of the text
pub record AlikeBytes (n : Naming) (core : source.Core) (cells others : List Cell) : Type 0 where
  pub same : SameBytes (seen_renamed n core) SeenAs cells others
  pub known : (offset size : ℕ) (scalar : Scalar) → stored_at cells offset size ≡ Some scalar → IsKnownScalar core scalar

abbrev pub is_heap : Block → Bool
is_heap (Heap number) = true
is_heap block = false

-- what can be done with a block of the unit can be done with that of the text; outside calls release in the
-- unit alone
pub record AlikeContents (n : Naming) (core : source.Core) (block : Block) (contents other : Contents) : Type 0 where
  pub size : contents.size ≡ other.size
  pub live : contents.live ≡ true → other.live ≡ true
  pub writable : contents.read_only ≡ false → other.read_only ≡ false
  pub owned : is_heap block ≡ true → contents.owned ≡ other.owned
  pub kept : is_heap block ≡ true → contents.released ≡ false → other.released ≡ false
  pub bytes : AlikeBytes n core contents.cells other.cells

-- the text's state is the unit's, apart from names, and from blocks that the unit doesn't have
pub record AlikeStates (n : Naming) (core : source.Core) (s t : State) : Type 0 where
  pub turns : s.turns ≡ t.turns
  pub world : s.world ≡ t.world
  pub calls : s.calls ≡ t.calls
  pub heaps : s.heaps ≡ t.heaps
  pub handles : s.handles ≡ t.handles
  pub events : s.events ≡ t.events
  pub moves : s.moves ≡ t.moves
  pub known : (block : Block) (contents : Contents) → contents_of s.memory block ≡ Some contents → IsKnown core block
  pub memory : (block : Block) (contents : Contents) → contents_of s.memory block ≡ Some contents →
      (other : Contents) × (contents_of t.memory (renamed n core block) ≡ Some other) × AlikeContents n core block contents other

abbrev pub AlikeValue : Naming → source.Core → Value → Value → Type 0
AlikeValue n core Missing Missing = Unit {0}
AlikeValue n core (Single scalar) (Single other) = IsKnownScalar core scalar × (renamed_scalar n core scalar ≡ other)
AlikeValue n core (StructureValue cells) (StructureValue others) = AlikeBytes n core cells others
AlikeValue n core value other = ⊥

abbrev pub AlikeValues : Naming → source.Core → List Value → List Value → Type 0
AlikeValues n core [] [] = Unit {0}
AlikeValues n core (v ∷ vs) (w ∷ ws) = AlikeValue n core v w × AlikeValues n core vs ws
AlikeValues n core values others = ⊥

-- a part of the text's run follows one of the unit's: nothing is asked where that is undefined; else both go
-- on, related so, or end in the same way with the same events and moves
abbrev pub Follows : {A B : Type 0} → (A → State → B → State → Type 0) → Step A → Step B → Type 0
Follows R (Goes a s) (Goes b t) = R a s b t
Follows R (Ends (Undefined cause place) s) step = Unit {0}
Follows R (Ends ending s) (Ends other t) = (ending ≡ other) × (s.events ≡ t.events) × (s.moves ≡ t.moves)
Follows R step other = ⊥
