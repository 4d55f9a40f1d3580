-- What is the same from given blocks is the same; and what one unit shares with its text, a unit that runs as
-- it does shares with that text too.
use Rattle.std.proofs.Common.{◌≡◌, ℕ, false, List, [], ◌∷◌, map, length, ◌<◌, sym, ap, subst, ◌∙◌, inl, inr, ⊎_elim}
use Rattle.std.specs.Option.{option_map}
use Rattle.model_types.specs.declared.types.StructId.{StructId}
use Rattle.model_types.specs.Types.{CType, Form, Void, Integer, Enum, Pointer, Array, Struct, Function, Types, no_types, more_types, form_of_type}
use Rattle.model_types.specs.Structures.{Member, Structure, members_of}
use Rattle.model_core.specs.CoreTypes.{result_of_form}
use Rattle.model_core.specs.Types89.{Type89}
use Rattle.model_core.specs.Core as source
use Rattle.model_core.specs.Program89 as target
use Rattle.model_runs.specs.Memory.{Scalar, Cell, Value, Missing, Single, StructureValue, Number}
use Rattle.model_runs.specs.Run.{Run, Event, Move, Ending, Returned, Step, Goes, Ends, run_of}
use Rattle.c_model.specs.WrittenType.{StructNames, written_type}
use Rattle.c_model.specs.Seen.{Seen, SameBytes}
use Rattle.c_model.specs.ExportedTypes.{Reaches, HasMembers}
use Rattle.c_model.specs.Translation.{Defines23, Defines89, Holds23, Holds89, Agree, IsExported, Exports, IsUndefined, IsInteger, IsResult, AreIntegers, IsEntryForm, Same}
use Rattle.c_model.specs.GivenBlocks.{IsArgument, AreArguments, TakesArguments, SameResult, SameEnd, SameStep, result_form, SameFrom, ended_from23}
use Rattle.c_model.specs.TwoUnits.{SameRuns, Alike, SameExternals}

-- integers are arguments

integer_is_argument : (form : Form) (v : Value) → IsInteger form v → IsArgument form v
integer_is_argument (Integer basic) (Single (Number value)) is = is
integer_is_argument (Enum basic order) (Single (Number value)) is = is
integer_is_argument form v is = absurd is

integers_are_arguments : (types : Types) (vs : List Value) → AreIntegers types vs → AreArguments types vs
integers_are_arguments no_types [] are = tt
integers_are_arguments no_types (v ∷ vs) are = absurd are
integers_are_arguments (more_types type types) [] are = absurd are
integers_are_arguments (more_types type types) (v ∷ vs) (is, are) = (integer_is_argument (form_of_type type) v is, integers_are_arguments types vs are)

entry_takes : (form : Form) (vs : List Value) → IsEntryForm form vs → TakesArguments form vs
entry_takes (Function result parameters false) vs (is, are) = integers_are_arguments parameters vs are
entry_takes form vs is = absurd is

entry_gives : (form : Form) (vs : List Value) → IsEntryForm form vs → IsResult (form_of_type (result_of_form form))
entry_gives (Function result parameters false) vs (is, are) = is
entry_gives form vs is = absurd is

-- a result that is an integer or none is compared as it is

same_value : (form : Form) → IsResult form → (v w : Value) → SameResult form v w → w ≡ v
same_value Void is v w e = sym e
same_value (Integer basic) is v w e = sym e
same_value (Enum basic order) is v w e = sym e
same_value form is v w e = absurd is

abbrev run_with : List Event → List Move → Ending → Run
run_with events moves ending = record { events = events; moves = moves; ending = ending }

run_by : (events others : List Event) (moves further : List Move) (ending other : Ending) → events ≡ others → moves ≡ further → ending ≡ other → run_with others further other ≡ run_with events moves ending
run_by events others moves further ending other e m n =
    ap (λ x. run_with x further other) (sym e) ∙ ap (λ x. run_with events x other) (sym m) ∙ ap (run_with events moves) (sym n)

same_run : (form : Form) → IsResult form → (l r : Step Value) → SameStep form l r → run_of r ≡ run_of l
same_run form is (Goes v s) (Goes w t) same = run_by s.events t.events s.moves t.moves (Returned v) (Returned w) same.events same.moves (sym (ap Returned (same_value form is v w same.end.0)))
same_run form is (Goes v s) (Ends e t) same = absurd same.end
same_run form is (Ends e s) (Goes w t) same = absurd same.end
same_run form is (Ends e s) (Ends f t) same = run_by s.events t.events s.moves t.moves e f same.events same.moves same.end

pub same_from_is_same : (core : source.Core) (program : target.Program) → SameFrom core program → Same core program
same_from_is_same core program from n entry arguments world (type, defines, form) =
    ⊎_elim inl (λ same. inr (same_run (result_form type) (entry_gives (form_of_type type) arguments form) _ _ same))
    (from n entry type [] arguments world defines tt (entry_takes (form_of_type type) arguments form))

-- bytes, results and ends follow one another

same_bytes_follow : (f g h : Scalar → Seen) (a b c : List Cell) → SameBytes f g a b → SameBytes g h b c → SameBytes f h a c
same_bytes_follow f g h a b c first second = record {
  stored = λ offset size. first.stored offset size ∙ second.stored offset size;
  zero = λ offset. first.zero offset ∙ second.zero offset;
}

abbrev IsScalar : Value → Type 0
IsScalar (Single scalar) = Unit {0}
IsScalar value = ⊥

abbrev IsStructure : Value → Type 0
IsStructure (StructureValue cells) = Unit {0}
IsStructure value = ⊥

results_follow : (form : Form) (u v w : Value) → SameResult form u v → SameResult form v w → SameResult form u w
results_follow (Pointer type) (Single x) (Single y) (Single z) first second = first ∙ second
results_follow (Pointer type) (Single x) (Single y) Missing first second = absurd (subst IsScalar second tt)
results_follow (Pointer type) (Single x) (Single y) (StructureValue cells) first second = absurd (subst IsScalar second tt)
results_follow (Pointer type) (Single x) Missing w first second = absurd (subst IsScalar first tt)
results_follow (Pointer type) (Single x) (StructureValue cells) w first second = absurd (subst IsScalar first tt)
results_follow (Pointer type) Missing v w first second = subst (λ x. SameResult (Pointer type) x w) (sym first) second
results_follow (Pointer type) (StructureValue cells) v w first second = subst (λ x. SameResult (Pointer type) x w) (sym first) second
results_follow (Struct id) (StructureValue a) (StructureValue b) (StructureValue c) first second = same_bytes_follow _ _ _ a b c first second
results_follow (Struct id) (StructureValue a) (StructureValue b) Missing first second = absurd (subst IsStructure second tt)
results_follow (Struct id) (StructureValue a) (StructureValue b) (Single z) first second = absurd (subst IsStructure second tt)
results_follow (Struct id) (StructureValue a) Missing w first second = absurd (subst IsStructure first tt)
results_follow (Struct id) (StructureValue a) (Single y) w first second = absurd (subst IsStructure first tt)
results_follow (Struct id) Missing v w first second = subst (λ x. SameResult (Struct id) x w) (sym first) second
results_follow (Struct id) (Single x) v w first second = subst (λ y. SameResult (Struct id) y w) (sym first) second
results_follow Void u v w first second = first ∙ second
results_follow (Integer basic) u v w first second = first ∙ second
results_follow (Enum basic order) u v w first second = first ∙ second
results_follow (Array type count) u v w first second = first ∙ second
results_follow (Function result parameters is_variadic) u v w first second = first ∙ second

ends_follow : (form : Form) (x y z : Step Value) → SameEnd form x y → SameEnd form y z → SameEnd form x z
ends_follow form (Goes u s) (Goes v t) (Goes w r) first second =
    (results_follow form u v w first.0 second.0, λ number. same_bytes_follow _ _ _ _ _ _ (first.1 number) (second.1 number))
ends_follow form (Goes u s) (Goes v t) (Ends e r) first second = absurd second
ends_follow form (Goes u s) (Ends e t) z first second = absurd first
ends_follow form (Ends e s) (Goes v t) z first second = absurd first
ends_follow form (Ends e s) (Ends f t) (Goes w r) first second = absurd second
ends_follow form (Ends e s) (Ends f t) (Ends g r) first second = first ∙ second

steps_follow : (form : Form) (x y z : Step Value) → SameStep form x y → SameStep form y z → SameStep form x z
steps_follow form x y z first second = record {
  events = first.events ∙ second.events;
  moves = first.moves ∙ second.moves;
  end = ends_follow form x y z first.end second.end;
}

-- a run that ends as one without a meaning has none

abbrev IsReturned : Ending → Type 0
IsReturned (Returned value) = Unit {0}
IsReturned ending = ⊥

undefined_too : (form : Form) (x y : Step Value) → SameEnd form x y → IsUndefined (run_of y) → IsUndefined (run_of x)
undefined_too form (Goes u s) (Goes v t) same (cause, place, is) = absurd (subst IsReturned is tt)
undefined_too form (Goes u s) (Ends e t) same undefined = absurd same
undefined_too form (Ends e s) (Goes v t) same undefined = absurd same
undefined_too form (Ends e s) (Ends f t) same (cause, place, is) = (cause, place, same ∙ is)

pub same_runs_carry : (core other : source.Core) (program : target.Program) → SameRuns core other → SameExternals core other → SameFrom other program → SameFrom core program
same_runs_carry core other program runs externals from n entry type given arguments world defines are takes =
    ⊎_elim inl
    (λ (first : SameStep (result_form type) (ended_from23 n core given entry arguments world) (ended_from23 n other given entry arguments world)).
    ⊎_elim (λ u. inl (undefined_too (result_form type) _ (ended_from23 n other given entry arguments world) first.end u))
    (λ second. inr (steps_follow (result_form type) _ (ended_from23 n other given entry arguments world) _ first second))
    (from n entry type given arguments world ((externals.functions entry type).0 defines) are takes))
    (runs n entry type given arguments world defines are takes)

-- exports

agree_too : (names : StructNames) (D E : List ℕ → CType → Type 0) (W : List ℕ → Type89 → Type 0) → Alike D E → Agree names E W → Agree names D W
agree_too names D E W alike agree name = (
  λ type d. (agree name).0 type ((alike name type).0 d),
  λ written w. let q = (agree name).1 written w in (q.0, (alike name q.0).1 q.1, q.2),
)

exported_too : (core other : source.Core) (type : CType) → SameExternals core other → IsExported core type → IsExported other type
exported_too core other type externals (name, inl defines) = (name, inl ((externals.functions name type).0 defines))
exported_too core other type externals (name, inr held) = (name, inr ((externals.objects name type).0 held))

members_too : (names : StructNames) (core other : source.Core) (program : target.Program) (id : StructId) → core.structs ≡ other.structs → HasMembers names other program id → HasMembers names core program id
members_too names core other program id structs has =
    has ∙ ap (λ (table : List Structure). option_map (map (λ (m : Member). written_type names m.ty)) (members_of table id)) (sym structs)

pub exports_carry : (core other : source.Core) (program : target.Program) → SameExternals core other → Exports other program → Exports core program
exports_carry core other program externals exports = record {
  names = exports.names;
  functions = agree_too exports.names (Defines23 core) (Defines23 other) (Defines89 program) externals.functions exports.functions;
  objects = agree_too exports.names (Holds23 core) (Holds23 other) (Holds89 program) externals.objects exports.objects;
  tags = λ id second below too. exports.tags id second (subst (λ (table : List Structure). id.0 < length table) externals.structs below) (subst (λ (table : List Structure). second.0 < length table) externals.structs too);
  members = λ type id exported reaches. members_too exports.names core other program id externals.structs (exports.members type id (exported_too core other type externals exported) (subst (λ (table : List Structure). Reaches table type id) externals.structs reaches));
  values = λ name type held.
      let kept = (externals.objects name type).0 held in
      same_bytes_follow _ _ _ _ _ _ (externals.values name type held kept) (exports.values name type kept);
}
