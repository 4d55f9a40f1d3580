-- What code answers for a member behind others of its structure.
use Rattle.std.specs.Prelude.{◌≡◌, List, Result, Ok, Err}
use Rattle.cake_base.specs.declared.places.Place.{Place}
use Rattle.model_types.specs.Types.{CType}
use Rattle.model_types.specs.Structures.{Member, Structure}
use Rattle.model_grammar.specs.declared.syntax.Name.{Name}
use Rattle.model_checking.specs.State.{Use, State, gives, note_type}
use Rattle.model_checking.specs.Structures.{with_member}
use Rattle.check_base.specs.declared.errors.CheckError.{CheckError}
use Rattle.check_base.specs.Broken.{Broken}

-- in whatever state with these structures the members are those that are due, with the type noted, or the fault is
abbrev pub AddsMember : {A : Type 0} → List Structure → (old : List Member) → Name → CType → (first : Place) → Result A CheckError → (new : List Member) → Type 0
AddsMember structs old name type first (Ok done) new =
    (u : Use) (s : State) → s.scopes.structs ≡ structs → with_member u old name type first s ≡ gives new (note_type u name.place type s)
AddsMember structs old name type first (Err e) new =
    (u : Use) (s : State) → s.scopes.structs ≡ structs → Broken e (with_member u old name type first s)
