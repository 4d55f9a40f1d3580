-- What steps of a text with a value do for an expression of a unit (ISO/IEC 9899:2024, 6.5; ISO/IEC
-- 9899:1990, 6.3): its effects, events and moves, and its value, in each unit that holds it.
use Rattle.std.specs.Prelude.{◌≡◌, ◌⊎◌, ℕ, suc, ◌+◌, ◌<◌, Bool, true, false, List, [], ◌∷◌, map, length, Option, Some, None, slice_get, IsTrue, if◌then◌else◌}
use Rattle.std.specs.Option.{option_map}
use Rattle.cake_base.specs.declared.places.Place.{Place}
use Rattle.model_types.specs.declared.outcomes.Cause.TheVariants.{Kind}
use Rattle.model_types.specs.declared.types.StructId.{StructId}
use Rattle.model_types.specs.Operations.{fits}
use Rattle.model_types.specs.Types.{CType, Form, Integer, Enum, Pointer, Struct, form_of_type}
use Rattle.model_types.specs.Structures.{Member, members_of}
use Rattle.model_core.specs.CoreTypes.{type_of, called_type, pointee, is_void}
use Rattle.model_core.specs.TypedParts.{call_fits}
use Rattle.model_core.specs.TypedExpr.{is_typed}
use Rattle.model_core.specs.TypedScope.{Scope, is_in_scope, expr_stands}
use Rattle.model_core.specs.TypedCore.{TypedCore}
use Rattle.model_core.specs.Core as source
use Rattle.model_core.specs.Types89.{Type89}
use Rattle.model_core.specs.Program89 as target
use Rattle.model_runs.specs.Memory.{Named, Local, Scalar, Number, Value, Missing, Single, StructureValue, Contents, contents_of}
use Rattle.model_runs.specs.Loads.{loaded_type}
use Rattle.model_runs.specs.Run.{Flow, Falls, State, Act, ◌▷◌, just, ends, Undefined}
use Rattle.model_runs.specs.SourceOperations.{called_value}
use Rattle.model_runs.specs.SourceFrame as source_frame
use Rattle.model_runs.specs.SourceValues as source_values
use Rattle.model_c89.specs.Flat89.{NoCall, FlatStats}
use Rattle.model_c89.specs.TargetLayout.{members_in, size_of}
use Rattle.model_c89.specs.TargetTypes.{find_name, value_type}
use Rattle.model_c89.specs.TargetFrame as target_frame
use Rattle.model_c89.specs.TargetValues as target_values
use Rattle.model_c89.specs.TargetStatements.{perform_all}
use Rattle.c_model.specs.WrittenType.{written_type, written_value}
use Rattle.c_model.specs.Renamed.{Naming, IsObject, renamed, renamed_scalar, AlikeStates, AlikeValue, AlikeValues, Follows}

-- an id of the unit
abbrev pub IsDeclared : source.Core → (id : ℕ) → Type 0
IsDeclared core id =
    IsObject core id ⊎ ((g : source.Function) × (source.function_by_id core.functions id ≡ Some g))

-- no two things of a unit have one name, and none has that of one of so many temporaries
pub record Lawful (n : Naming) (core : source.Core) (count : ℕ) : Type 0 where
  pub declared : (id other : ℕ) → IsDeclared core id → IsDeclared core other → n.declared id ≡ n.declared other → id ≡ other
  pub structures : (id other : StructId) → id.0 < length core.structs → other.0 < length core.structs → n.structure id ≡ n.structure other → id ≡ other
  pub members : (id : StructId) (members : List Member) (rank other : ℕ) → members_of core.structs id ≡ Some members →
      rank < length members → other < length members → n.member id rank ≡ n.member id other → rank ≡ other
  pub temporaries : (number other : ℕ) → number < count → other < count → n.temporary number ≡ n.temporary other → number ≡ other
  pub apart : (id number : ℕ) → IsDeclared core id → number < count → n.declared id ≡ n.temporary number → ⊥

-- the members of a structure, from a rank on, as the text declares them
abbrev pub written_members : Naming → StructId → (rank : ℕ) → List Member → List target.Declaration
written_members n id rank [] = []
written_members n id rank (m ∷ ms) = record { type = written_type n.structure m.ty; name = n.member id rank } ∷ written_members n id (suc rank) ms

-- a value that an object of a type can hold: an integer within its range, of bool within that of a byte; a
-- pointer; a structure
abbrev pub Suits : Form → Value → Type 0
Suits (Integer basic) (Single (Number value)) = IsTrue (fits (loaded_type basic) value)
Suits (Enum basic order) (Single (Number value)) = IsTrue (fits (loaded_type basic) value)
Suits (Pointer type) (Single (Number value)) = ⊥
Suits (Pointer type) (Single scalar) = Unit {0}
Suits (Struct id) (StructureValue cells) = Unit {0}
Suits form value = ⊥

abbrev pub AllSuit : List CType → List Value → Type 0
AllSuit [] [] = Unit {0}
AllSuit (type ∷ types) (v ∷ vs) = Suits (form_of_type type) v × AllSuit types vs
AllSuit types vs = ⊥

-- what a call gives: none or a value of its type, the same in the text, apart from how a bool is shown; and
-- states that agree, with the temporaries of the calling function as they were
pub record ReturnsAlike (n : Naming) (core : source.Core) (call : ℕ) (result : CType) (before : State) (v : Value) (s : State) (w : Value) (t : State) : Type 0 where
  pub suits : (v ≡ Missing) ⊎ Suits (form_of_type result) v
  pub value : AlikeValue n core (called_value result v) (called_value result w)
  pub states : AlikeStates n core s t
  pub temporaries : (number : ℕ) →
      contents_of t.memory (Local call (Named (n.temporary number))) ≡ contents_of before.memory (Local call (Named (n.temporary number)))

-- calls do alike through a pointer and its renamed one, with arguments that fit
abbrev pub SameCalls : Naming → source.Core → (call : ℕ) → source_frame.Callee → target_frame.Callee → Type 0
SameCalls n core call calls other =
    (place null_place : Option Place) (p : Scalar) (type : CType) (types : List CType) (vs ws : List Value) (s t : State) →
    IsTrue (call_fits (form_of_type (pointee (form_of_type type))) types) → AllSuit types vs → AlikeValues n core vs ws → AlikeStates n core s t →
    Follows (ReturnsAlike n core call (called_type (form_of_type type)) t)
    (calls place null_place p type types vs s)
    (other (renamed_scalar n core p) (written_value n.structure type) (map (written_value n.structure) types) ws t)

-- the frame of the text's function declares what the unit's has in scope, and these temporaries from a number
-- on
pub record Mirrors (n : Naming) (scope : Scope) (first : ℕ) (temporaries : List Type89) (f : source_frame.Frame) (g : target_frame.Frame) : Type 0 where
  pub core : f.core ≡ scope.core
  pub call : g.call ≡ f.call
  pub names : g.names.structures ≡ g.program.structures
  pub structures : (id : StructId) → id.0 < length scope.core.structs →
      members_in g.program.structures (n.structure id) ≡ option_map (written_members n id 0) (members_of scope.core.structs id)
  pub objects : (id : ℕ) (o : source.DeclaredObject) → source.object_of scope.core.objects id ≡ Some o → IsTrue (is_in_scope scope o.storage id) →
      find_name g.names.declared (n.declared id) ≡ Some (written_type n.structure o.type)
  pub blocks : (id : ℕ) (o : source.DeclaredObject) → source.object_of scope.core.objects id ≡ Some o → IsTrue (is_in_scope scope o.storage id) →
      target_frame.block_of g (n.declared id) ≡ renamed n scope.core (source_frame.block_of scope.core f.call id)
  pub functions : (id : ℕ) (h : source.Function) → source.function_by_id scope.core.functions id ≡ Some h →
      find_name g.names.declared (n.declared id) ≡ Some (written_type n.structure h.type)
  pub temporary_types : (rank : ℕ) (type : Type89) → slice_get temporaries rank ≡ Some type →
      find_name g.names.declared (n.temporary (first + rank)) ≡ Some type
  pub temporary_blocks : (rank : ℕ) (type : Type89) → slice_get temporaries rank ≡ Some type →
      target_frame.block_of g (n.temporary (first + rank)) ≡ Local g.call (Named (n.temporary (first + rank)))
  pub calls : SameCalls n scope.core f.call f.callee g.callee

-- a temporary lives and can be stored to
pub record IsReady (size : ℕ) (contents : Option Contents) : Type 0 where
  pub held : Contents
  pub there : contents ≡ Some held
  pub sized : held.size ≡ size
  pub live : held.live ≡ true
  pub writable : held.read_only ≡ false

abbrev pub AreReady : Naming → (first : ℕ) → List Type89 → target_frame.Frame → State → Type 0
AreReady n first temporaries g t =
    (rank : ℕ) (type : Type89) → slice_get temporaries rank ≡ Some type →
    IsReady (size_of g.program.structures type) (contents_of t.memory (Local g.call (Named (n.temporary (first + rank)))))

-- the value that an expression has to have, unless its type is void
abbrev pub wanted : source_frame.Frame → source.Expr → Act Value
wanted f e = if is_void (type_of e) then source_values.evaluate f e else source_values.needed e (source_values.evaluate f e)

-- where the type is void only the steps count
abbrev pub value_behind : (is_void : Bool) → target_frame.Frame → target.Expr → Flow → Act Value
value_behind true g value Falls = just Missing
value_behind false g value Falls = target_values.needed (target_values.evaluate g value)
value_behind is_void g value flow = ends (Undefined Kind None)

-- steps, and then a value
abbrev pub steps_then_value : (is_void : Bool) → target_frame.Frame → (bound : ℕ) → target.Stats → target.Expr → Act Value
steps_then_value is_void g bound steps value = perform_all g bound steps ▷ value_behind is_void g value

-- the value is the same, the states agree, and temporaries before the first are as they were
pub record GivesAlike (n : Naming) (core : source.Core) (call first : ℕ) (before : State) (v : Value) (s : State) (w : Value) (t : State) : Type 0 where
  pub value : AlikeValue n core v w
  pub states : AlikeStates n core s t
  pub kept : (number : ℕ) → number < first →
      contents_of t.memory (Local call (Named (n.temporary number))) ≡ contents_of before.memory (Local call (Named (n.temporary number)))

-- steps and a value, with temporaries of these types from a number on, are those of an expression: no step
-- holds a call beside its own, and the value none; and in each typed unit that holds the expression they do
-- what it does and give its value, with its type, wherever it has a meaning
pub record Flattens (n : Naming) (e : source.Expr) (first : ℕ) (temporaries : List Type89) (steps : target.Stats) (value : target.Expr) : Type 0 where
  pub steps_flat : FlatStats steps
  pub value_flat : NoCall value
  pub typed : (scope : Scope) (f : source_frame.Frame) (g : target_frame.Frame) → TypedCore scope.core → Lawful n scope.core (first + length temporaries) → IsTrue (is_typed e) →
      IsTrue (expr_stands scope e) → Mirrors n scope first temporaries f g → is_void (type_of e) ≡ false →
      value_type g.names value ≡ written_value n.structure (type_of e)
  pub runs : (scope : Scope) (f : source_frame.Frame) (g : target_frame.Frame) (bound : ℕ) (s t : State) → TypedCore scope.core → Lawful n scope.core (first + length temporaries) →
      IsTrue (is_typed e) → IsTrue (expr_stands scope e) → Mirrors n scope first temporaries f g → AlikeStates n scope.core s t →
      AreReady n first temporaries g t →
      Follows (GivesAlike n scope.core g.call first t) (wanted f e s) (steps_then_value (is_void (type_of e)) g bound steps value t)
