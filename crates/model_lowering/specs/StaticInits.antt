-- The values that objects of static storage begin with, as a text writes them (ISO/IEC 9899:1990, 6.5.7): braces for each
-- array and structure up to its last part that has a value, with a zero for each part that has none.
use Rattle.std.specs.Prelude.{ℕ, zero, suc, nat_eq, nat_le, max, pos, Bool, true, false, if◌then◌else◌, List, [], ◌∷◌, length, Option, Some, None, slice_get}
use Rattle.model_types.specs.declared.numbers.Basic.TheVariants as basic
use Rattle.model_types.specs.declared.types.StructId.{StructId}
use Rattle.model_types.specs.Operations.{convert}
use Rattle.model_types.specs.Types.{CType, typed, Form, Array, Struct}
use Rattle.model_types.specs.Structures.{Member, Structure, members_of}
use Rattle.model_core.specs.Core as source
use Rattle.model_core.specs.Program89 as text
use Rattle.model_lowering.specs.TextValues.{number, integer}
use Rattle.model_lowering.specs.Steps.{Setting}
use Rattle.model_lowering.specs.FlatExpressions.{Anywhere, flat}

-- a value for the part that ranks lead to
pub record Given : Type 0 where
  pub path : List ℕ
  pub value : text.Expr

-- a constant expression has no steps
abbrev pub all_given : Setting → source.Initials → List Given
all_given s source.no_initials = []
all_given s (source.more_initials path offset type e others) = record { path = path; value = (flat s Anywhere 0 e).value } ∷ all_given s others

-- those for parts of the part of a rank
abbrev under_if : (is_there : Bool) → (path : List ℕ) → text.Expr → List Given → List Given
under_if true path value others = record { path = path; value = value } ∷ others
under_if false path value others = others

abbrev under_of : (rank : ℕ) → (path : List ℕ) → text.Expr → List Given → List Given
under_of rank [] value others = others
under_of rank (first ∷ path) value others = under_if (nat_eq first rank) path value others

abbrev pub under : (rank : ℕ) → List Given → List Given
under rank [] = []
under rank (g ∷ gs) = under_of rank g.path g.value (under rank gs)

abbrev rank_of : (path : List ℕ) → ℕ
rank_of [] = 0
rank_of (rank ∷ ranks) = rank

-- the last part that has a value, or the first one
abbrev pub last_rank : List Given → ℕ
last_rank [] = 0
last_rank (g ∷ gs) = max (rank_of g.path) (last_rank gs)

abbrev value_or_zero : List Given → text.Init
value_or_zero [] = text.Value (number 0)
value_or_zero (g ∷ gs) = text.Value g.value

-- so many parts from a rank on
abbrev inits_from : (rank left : ℕ) → (of : ℕ → text.Init) → text.Inits
inits_from rank zero of = text.no_inits
inits_from rank (suc left) of = text.more_inits (of rank) (inits_from (suc rank) left of)

-- the parts up to one
abbrev pub parts_up_to : (last : ℕ) → (of : ℕ → text.Init) → text.Init
parts_up_to last of = text.Braces (of 0) (inits_from 1 last of)

abbrev mutual
  -- an object of a type, by what structures begin with
  pub init_in : (of_struct : StructId → List Given → text.Init) → CType → List Given → text.Init
  init_in of_struct (typed form quals) given = init_of_form of_struct form given

  pub init_of_form : (of_struct : StructId → List Given → text.Init) → Form → List Given → text.Init
  init_of_form of_struct (Array element count) given = parts_up_to (last_rank given) (λ rank. init_in of_struct element (under rank given))
  init_of_form of_struct (Struct id) given = of_struct id given
  init_of_form of_struct form given = value_or_zero given

abbrev member_init : (of_struct : StructId → List Given → text.Init) → Option Member → List Given → text.Init
member_init of_struct None given = value_or_zero given
member_init of_struct (Some m) given = init_in of_struct m.ty given

abbrev member_at : Option (List Member) → (rank : ℕ) → Option Member
member_at None rank = None
member_at (Some members) rank = slice_get members rank

-- structures, which lie in one another at most this deep
abbrev pub struct_init : (depth : ℕ) → List Structure → StructId → List Given → text.Init
struct_init zero structs id given = value_or_zero given
struct_init (suc depth) structs id given =
    parts_up_to (last_rank given) (λ rank. member_init (struct_init depth structs) (member_at (members_of structs id) rank) (under rank given))

abbrev init_unless_none : Setting → CType → List Given → Option text.Init
init_unless_none s type [] = None
init_unless_none s type (g ∷ gs) = Some (init_in (struct_init (length s.structs) s.structs) type (g ∷ gs))

-- no value, no braces
abbrev pub static_init : Setting → CType → source.Initials → Option text.Init
static_init s type values = init_unless_none s type (all_given s values)

-- ---- strings

abbrev byte_values : List ℕ → text.Inits
byte_values [] = text.no_inits
byte_values (byte ∷ bytes) = text.more_inits (text.Value (integer basic.Int (convert basic.Char (pos byte)))) (byte_values bytes)

abbrev braces_of : text.Inits → text.Init
braces_of text.no_inits = text.Text []
braces_of (text.more_inits first others) = text.Braces first others

-- a string that is longer than C89 lets one be is a list of numbers (5.2.4.1)
abbrev pub text_init : (bytes : List ℕ) → text.Init
text_init bytes = if nat_le (length bytes) 509 then text.Text bytes else braces_of (byte_values bytes)
