-- What specifiers, declarators and braces give before what stands round them is known (ISO/IEC 9899:2024, 6.7).
use Rattle.std.specs.Prelude.{ℕ, Bool, List, Option}
use Rattle.cake_base.specs.declared.places.Place.{Place}
use Rattle.cake_base.specs.declared.rules.Fault.{Fault}
use Rattle.model_types.specs.Types.{CType}
use Rattle.model_scopes.specs.Declarations.{Declaration}
use Rattle.model_core.specs.Core as unit

-- the words of storage that stand among specifiers (6.7.2, 6.7.5)
pub record Storage : Type 0 where
  pub has_typedef : Bool
  pub has_extern : Bool
  pub has_static : Bool
  pub has_auto : Bool
  pub has_register : Bool
  pub has_constexpr : Bool
  pub has_inline : Bool

-- what specifiers give: a type, but where it is to be inferred
pub record Specified : Type 0 where
  pub type : Option CType
  pub storage : Storage

-- what a declarator gives: its name, if it has one, with the place; its type, but where it is to be inferred; its
-- first token, or that of the specifiers where it has none; of a function, what is declared in the scope of its
-- parameters; and its first fault. Of a faulty one there is a type of the same form, as far as that is known
pub record Declared : Type 0 where
  pub name : Option (List ℕ)
  pub place : Place
  pub type : Option CType
  pub storage : Storage
  pub first : Place
  pub parameters : List Declaration
  pub fault : Option Fault

-- where a designator leads (6.7.11); a negative index leads nowhere
pub data GivenStep : Type 0 where
  to_element : (index : ℕ) (place : Place) → GivenStep
  to_no_element : (place : Place) → GivenStep
  to_member : (name : List ℕ) (place : Place) → GivenStep
  faulty_index : (fault : Fault) (place : Place) → GivenStep

mutual
  -- an initializer with its values elaborated, before it is known what they are for: a value, with its first token and
  -- the first fault of the bodies of its function literals; a string, with the id and the address of the object that it
  -- is where it doesn't fill an array; braces; or the first fault, behind which nothing follows
  pub data Given : Type 0 where
    a_value : (value : unit.Expr) (first : Place) (later : Option Fault) → Given
    a_text : (id : ℕ) (bytes : List ℕ) (value : unit.Expr) (first : Place) → Given
    in_braces : (items : GivenItems) (place : Place) → Given
    faulty : (fault : Fault) (first : Place) → Given

  pub data GivenItems : Type 0 where
    no_given : GivenItems
    more_given : (steps : List GivenStep) (first : Given) (others : GivenItems) → GivenItems
