-- What checking knows at a point of a unit, and what it has made so far (ISO/IEC 9899:2024, 6.2.1, 6.2.4, 6.5.3.6).
use Rattle.std.specs.Prelude.{ℕ, Bool, List, [], ◌∷◌, ◌++◌, Option, Some, None, Result, Ok, Err}
use Rattle.cake_base.specs.declared.places.Place.{Place}
use Rattle.cake_base.specs.declared.rules.Fault.{Fault}
use Rattle.model_types.specs.Types.{CType}
use Rattle.model_scopes.specs.Declarations.{Declaration}
use Rattle.model_scopes.specs.Scopes.{Scopes}
use Rattle.model_scopes.specs.DeclarationRules.{constraint_at}
use Rattle.model_grammar.specs.SyntaxForms as syntax
use Rattle.model_core.specs.Core as unit
use Rattle.model_checking.specs.FaultsBeside.{with_fault}

-- whether a part is evaluated, or stands in `sizeof`, `alignof` or `typeof`
pub data Use : Type 0 where
  Evaluated : Use
  Unevaluated : Use

-- a function literal whose body waits for the end of its full expression, with the id of its function, its type, and
-- what is declared in the scope of its parameters
pub record Waiting : Type 0 where
  pub evaluation : Use
  pub id : ℕ
  pub literal : syntax.Expr
  pub type : CType
  pub parameters : List Declaration

-- the object of a string, with its bytes, or of a compound literal; and of a compound literal at file scope, whose
-- storage is static, its values
pub record Made : Type 0 where
  pub id : ℕ
  pub type : CType
  pub place : Place
  pub text : Option (List ℕ)
  pub values : Option unit.Initials
  pub is_evaluated : Bool

-- the values of an object of static storage, with the type that it has where it is initialised
pub record Valued : Type 0 where
  pub id : ℕ
  pub type : CType
  pub values : unit.Initials

-- the body of a function that is defined, with the ids of its parameters; of a function literal also the place of its `(`
pub record Body : Type 0 where
  pub id : ℕ
  pub literal : Option Place
  pub type : CType
  pub parameters : List ℕ
  pub body : unit.Stat

-- the scopes; the function literals that wait, and the objects that strings and compound literals made, in the order of
-- the source; the automatic objects of the innermost block so far; the objects whose address was taken by a written `&`
-- in a part that is evaluated; the types that are named, with their places; the values of objects of static storage; the
-- bodies of functions; the ids, from a first up to another, that were drawn in lists of parameters and in bodies that
-- aren't evaluated, whose objects no block has; and the first object whose values are too many
pub record State : Type 0 where
  pub scopes : Scopes
  pub waiting : List Waiting
  pub made : List Made
  pub automatic : List ℕ
  pub taken : List ℕ
  pub named : List (Place × CType)
  pub values : List Valued
  pub bodies : List Body
  pub left_out : List (ℕ × ℕ)
  pub limit : Option Place

-- what a part is, with the state behind it
pub record Both (A : Type 0) : Type 0 where
  pub made : A
  pub state : State

abbrev pub both : {A : Type 0} → A → State → Both A
both x s = record { made = x; state = s }

abbrev pub with_both : {A B : Type 0} → Both A → (A → State → B) → B
with_both x go = go x.made x.state

-- what a part is, or its first fault
abbrev pub Answer : Type 0 → Type 0
Answer A = Result (Both A) Fault

abbrev pub gives : {A : Type 0} → A → State → Answer A
gives x s = Ok (record { made = x; state = s })

abbrev pub breaks : {A : Type 0} → (place : Place) → (rule : ℕ) → Result A Fault
breaks place rule = Err (constraint_at place rule)

-- one part and then another
abbrev pub then_do : {A B : Type 0} → Answer A → (A → State → Answer B) → Answer B
then_do (Ok both) go = go both.made both.state
then_do (Err fault) go = Err fault

-- the state behind a part that makes nothing, or its first fault
abbrev pub Reached : Type 0
Reached = Result State Fault

abbrev pub and_then : {B : Type 0} → Reached → (State → Answer B) → Answer B
and_then (Ok s) go = go s
and_then (Err fault) go = Err fault

-- a fault, where there is one, before what comes behind
abbrev pub unless : {A : Type 0} → Option Fault → Result A Fault → Result A Fault
unless None behind = behind
unless (Some fault) behind = Err fault

-- a right part, and what is made of it; what the left part breaks alone counts whether the right one is faulty or not
abbrev pub beside : {A B : Type 0} → (left : Option Fault) → Answer A → (A → State → Answer B) → Answer B
beside left right go = with_fault left (then_do right go)

-- what the rules make of plain values, in a state that they leave alone
abbrev pub with_state : {A : Type 0} → Result A Fault → State → Answer A
with_state (Ok x) s = gives x s
with_state (Err fault) s = Err fault

-- before the first declaration of a unit
abbrev pub start : Scopes → State
start scopes = record {
  scopes = scopes;
  waiting = [];
  made = [];
  automatic = [];
  taken = [];
  named = [];
  values = [];
  bodies = [];
  left_out = [];
  limit = None;
}

-- the state with other scopes
abbrev pub in_scopes : Scopes → State → State
in_scopes scopes s = record s { scopes = scopes }

-- a type that is named, where it is evaluated
abbrev pub note_type : Use → Place → CType → State → State
note_type Evaluated place type s = record s { named = s.named ++ (place, type) ∷ [] }
note_type Unevaluated place type s = s
