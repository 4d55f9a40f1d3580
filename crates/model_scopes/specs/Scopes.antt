-- The scopes at a point of a unit, and what is declared there (ISO/IEC 9899:2024, 6.2.1 to 6.2.3).
use Rattle.std.specs.Prelude.{ℕ, ◌+◌, nat_eq, Bool, true, false, if◌then◌else◌, List, [], ◌∷◌, ◌++◌, Option, Some, None, is_some}
use Rattle.cake_base.specs.declared.places.Place.{Place}
use Rattle.model_types.specs.Types.{CType}
use Rattle.model_types.specs.Structures.{Member, Structure, completed}
use Rattle.model_scopes.specs.Declarations.{Declaration}

-- what has an id: its latest declaration; the composite type of those before it, where there are any
-- and it has linkage; the number of the scope of the latest one; the places of the name in its first
-- declaration, in the first that defines it (a tentative definition of an object counts) and in the one with its
-- initializer or body; and the first of its noted uses in place order
pub record Declared : Type 0 where
  pub latest : Declaration
  pub before : Option CType
  pub scope : ℕ
  pub first : Place
  pub defining : Option Place
  pub initialized : Option Place
  pub used : Option Place

-- a scope: its number, whether it is that of the parameters of a function literal, and the ids of the
-- tags and of the other names that are declared in it, two name spaces
pub record Level : Type 0 where
  pub number : ℕ
  pub literal : Bool
  pub names : List (List ℕ × ℕ)
  pub tags : List (List ℕ × ℕ)

-- the scopes at a point, from the innermost outwards to that of the file; the ids of the names that
-- were declared with linkage, visible or not; what is declared, by its id; the structures; and how
-- many ids were drawn, and how many scopes were entered
pub record Scopes : Type 0 where
  pub innermost : Level
  pub around : List Level
  pub linked : List (List ℕ × ℕ)
  pub declared : List (ℕ × Declared)
  pub structs : List Structure
  pub ids : ℕ
  pub entered : ℕ

-- a scope in which nothing is declared
abbrev pub empty_level : (number : ℕ) → (literal : Bool) → Level
empty_level number literal = record { number = number; literal = literal; names = []; tags = [] }

-- before the first declaration of a unit
abbrev pub file_scope : Scopes
file_scope = record { innermost = empty_level 0 false; around = []; linked = []; declared = []; structs = []; ids = 0; entered = 1 }

-- in a new scope
abbrev pub enter : (literal : Bool) → Scopes → Scopes
enter literal s = record s { innermost = empty_level s.entered literal; around = s.innermost ∷ s.around; entered = s.entered + 1 }

abbrev pub leave_to : List Level → Scopes → Scopes
leave_to [] s = s
leave_to (l ∷ ls) s = record s { innermost = l; around = ls }

-- behind the innermost scope
abbrev pub leave : Scopes → Scopes
leave s = leave_to s.around s

-- ---- ids

-- what has that id
abbrev pub with_id : ℕ → List (ℕ × Declared) → Option Declared
with_id id [] = None
with_id id (e ∷ es) = if nat_eq id e.0 then Some e.1 else with_id id es

abbrev pub is_declared : ℕ → List (ℕ × Declared) → Bool
is_declared id es = is_some (with_id id es)

-- what has that id, changed
abbrev pub changed : (Declared → Declared) → ℕ → List (ℕ × Declared) → List (ℕ × Declared)
changed f id [] = []
changed f id (e ∷ es) = if nat_eq id e.0 then (e.0, f e.1) ∷ es else e ∷ changed f id es

-- one more id, without a name
abbrev pub drawn : Scopes → Scopes
drawn s = record s { ids = s.ids + 1 }

-- a declaration of the id defines it, or has the braces of a tag
abbrev pub is_defined : Declared → Bool
is_defined d = is_some d.defining

-- ---- structures

abbrev pub is_outermost : List Level → Bool
is_outermost [] = true
is_outermost (l ∷ ls) = false

-- with one more incomplete structure
abbrev pub with_struct : (tag : Option (List ℕ)) → Place → Scopes → Scopes
with_struct tag place s =
    record s { structs = s.structs ++ record { tag = tag; outer = is_outermost s.around; place = place; members = None } ∷ [] }

abbrev pub with_members : (rank : ℕ) → List Member → Scopes → Scopes
with_members rank members s = record s { structs = completed s.structs rank members }
