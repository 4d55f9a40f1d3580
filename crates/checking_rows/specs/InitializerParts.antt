-- What the worked examples of initializers are made of. A place is the rank of its token in the example's line.
use Rattle.std.specs.Prelude.{ℕ, ◌+◌, ℤ, true, false, List, [], ◌∷◌, codes, length, Some, None}
use Rattle.cake_base.specs.declared.places.Place.{Place}
use Rattle.cake_base.specs.declared.rules.Fault.{Fault}
use Rattle.model_types.specs.declared.numbers.Basic.{Basic}
use Rattle.model_types.specs.declared.numbers.Basic.TheVariants as basic
use Rattle.model_types.specs.declared.marks.Mark.{Mark}
use Rattle.model_types.specs.declared.marks.Origin.TheVariants.{Written, Implied}
use Rattle.model_types.specs.Types.{CType, typed, Void, Integer, Array, Struct, Function, no_types}
use Rattle.model_types.specs.Structures.{Member, Structure}
use Rattle.model_core.specs.CoreTypes.{no_quals, plain, int_type, pointer_to}
use Rattle.model_core.specs.Core as unit
use Rattle.model_scopes.specs.DeclarationRules.{constraint_at}
use Rattle.model_checking.specs.Parts.{GivenStep, Given, a_value, a_text, in_braces, GivenItems, no_given, more_given}

abbrev pub at : ℕ → Place
at order = record { file = 0; line = 1; column = order + 1; order = order }

abbrev pub mark : ℕ → Mark
mark order = record { at = at order; first = at order; outer = at order }

abbrev pub broken : (rule order : ℕ) → Fault
broken rule order = constraint_at (at order) rule

-- ---- types

abbrev pub integer : Basic → CType
integer basic = plain (Integer basic)

abbrev pub char_type : CType
char_type = integer basic.Char

abbrev pub signed_char_type : CType
signed_char_type = integer basic.SignedChar

abbrev pub unsigned_char_type : CType
unsigned_char_type = integer basic.UnsignedChar

abbrev pub bool_type : CType
bool_type = integer basic.Bool

abbrev pub long_type : CType
long_type = integer basic.Long

abbrev pub void_type : CType
void_type = plain Void

abbrev pub array : ℕ → CType → CType
array count type = plain (Array type (Some count))

abbrev pub unsized : CType → CType
unsized type = plain (Array type None)

abbrev pub const_char_pointer : CType
const_char_pointer = pointer_to (typed (Integer basic.Char) (record no_quals { has_const = true }))

abbrev pub char_pointer : CType
char_pointer = pointer_to char_type

abbrev pub int_pointer : CType
int_pointer = pointer_to int_type

abbrev pub structure : ℕ → CType
structure id = plain (Struct (record { 0 = id }))

-- struct pair { int a[2]; int b; };
abbrev pub pair : CType
pair = structure 0

-- struct point { int x; int y; };
abbrev pub point : CType
point = structure 1

-- struct line { struct point from; struct point to; };
abbrev pub line : CType
line = structure 2

-- struct named { char text[4]; int n; };
abbrev pub named : CType
named = structure 3

-- struct item { const char *text; struct point at; };
abbrev pub item : CType
item = structure 4

-- struct grid { struct pair rows[2]; char tag[3]; };
abbrev pub grid : CType
grid = structure 5

abbrev pub member : List ℕ → CType → Member
member name type = record { name = name; ty = type; place = at 0 }

abbrev pub struct_of : List Member → Structure
struct_of members = record { tag = None; outer = true; place = at 0; members = Some members }

abbrev pub structures : List Structure
structures =
    struct_of (member (codes "a") (array 2 int_type) ∷ member (codes "b") int_type ∷ [])
    ∷ struct_of (member (codes "x") int_type ∷ member (codes "y") int_type ∷ [])
    ∷ struct_of (member (codes "from") point ∷ member (codes "to") point ∷ [])
    ∷ struct_of (member (codes "text") (array 4 char_type) ∷ member (codes "n") int_type ∷ [])
    ∷ struct_of (member (codes "text") const_char_pointer ∷ member (codes "at") point ∷ [])
    ∷ struct_of (member (codes "rows") (array 2 pair) ∷ member (codes "tag") (array 3 char_type) ∷ [])
    ∷ []

-- ---- values

abbrev pub constant : ℤ → (order : ℕ) → unit.Expr
constant value order = unit.Constant value int_type (mark order)

abbrev pub loaded : (id : ℕ) → CType → (order : ℕ) → unit.Expr
loaded id type order = unit.Load (unit.Object id type (mark order)) (mark order)

abbrev pub decayed : (id : ℕ) → CType → (order : ℕ) → unit.Expr
decayed id type order = unit.Address Implied (unit.Object id type (mark order)) (mark order)

abbrev pub address : unit.Lvalue → (order : ℕ) → unit.Expr
address object order = unit.Address Written object (mark order)

abbrev pub called : (id : ℕ) → CType → (order : ℕ) → unit.Expr
called id result order = unit.Call (unit.FunctionRef id (plain (Function result no_types false)) true (mark order)) unit.no_exprs (mark order)

-- the address of a string of this length
abbrev pub string_address : (id length order : ℕ) → unit.Expr
string_address id length order = decayed id (array (length + 1) char_type) order

-- ---- initializers

abbrev pub value : unit.Expr → (order : ℕ) → Given
value e order = a_value e (at order) None

abbrev pub number : ℤ → (order : ℕ) → Given
number n order = value (constant n order) order

abbrev pub text : (id : ℕ) → List ℕ → (order : ℕ) → Given
text id bytes order = a_text id bytes (string_address id (length bytes) order) (at order)

abbrev pub items : List (List GivenStep × Given) → GivenItems
items [] = no_given
items (i ∷ is) = more_given i.0 i.1 (items is)

abbrev pub list : List (List GivenStep × Given) → (order : ℕ) → Given
list is order = in_braces (items is) (at order)

abbrev pub next : Given → List GivenStep × Given
next given = ([], given)

abbrev pub to : List GivenStep → Given → List GivenStep × Given
to steps given = (steps, given)
