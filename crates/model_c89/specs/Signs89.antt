-- The signs and words of the C89 text (ISO/IEC 9899:1990, 6.1.1, 6.1.5, 6.3.3 to 6.3.14, 6.5.2).
use Rattle.std.specs.Prelude.{ℕ, Bool, true, false, List, [], ◌++◌, codes}
use Rattle.model_types.specs.declared.numbers.BinOp.{BinOp}
use Rattle.model_types.specs.declared.numbers.BinOp.TheVariants.{Mul, Div, Rem, Add, Sub, ShiftLeft, ShiftRight, Less, Greater, LessEqual, GreaterEqual, Equal, NotEqual, BitAnd, BitXor, BitOr}
use Rattle.model_types.specs.declared.operators.LogicOp.{LogicOp}
use Rattle.model_types.specs.declared.operators.LogicOp.TheVariants.{And, Or}
use Rattle.model_core.specs.Types89.{Base, Void, Char, SignedChar, UnsignedChar, Short, UnsignedShort, Int, UnsignedInt, Long, UnsignedLong, Struct}
use Rattle.model_core.specs.Program89.{Prefix, Minus, Complement, Not, Deref, AddressOf, Suffix, Plain, U, L, UL, Storage, Plainly, Static, Extern}

abbrev pub sign_text : BinOp → List ℕ
sign_text Mul = codes "*"
sign_text Div = codes "/"
sign_text Rem = codes "%"
sign_text Add = codes "+"
sign_text Sub = codes "-"
sign_text ShiftLeft = codes "<<"
sign_text ShiftRight = codes ">>"
sign_text Less = codes "<"
sign_text Greater = codes ">"
sign_text LessEqual = codes "<="
sign_text GreaterEqual = codes ">="
sign_text Equal = codes "=="
sign_text NotEqual = codes "!="
sign_text BitAnd = codes "&"
sign_text BitXor = codes "^"
sign_text BitOr = codes "|"

-- the words of the bases, with the blank or name that parts them
abbrev pub base_text : Base → List ℕ
base_text Void = codes "void"
base_text Char = codes "char"
base_text SignedChar = codes "signed char"
base_text UnsignedChar = codes "unsigned char"
base_text Short = codes "short"
base_text UnsignedShort = codes "unsigned short"
base_text Int = codes "int"
base_text UnsignedInt = codes "unsigned int"
base_text Long = codes "long"
base_text UnsignedLong = codes "unsigned long"
base_text (Struct name) = codes "struct " ++ name

abbrev pub prefix_text : Prefix → List ℕ
prefix_text Minus = codes "-"
prefix_text Complement = codes "~"
prefix_text Not = codes "!"
prefix_text Deref = codes "*"
prefix_text AddressOf = codes "&"

abbrev pub logic_text : LogicOp → List ℕ
logic_text And = codes "&&"
logic_text Or = codes "||"

abbrev pub suffix_text : Suffix → List ℕ
suffix_text Plain = []
suffix_text U = codes "U"
suffix_text L = codes "L"
suffix_text UL = codes "UL"

abbrev pub storage_text : Storage → List ℕ
storage_text Plainly = []
storage_text Static = codes "static "
storage_text Extern = codes "extern "

-- the storage class of a function that is defined
abbrev pub storage_of : (is_static : Bool) → Storage
storage_of true = Static
storage_of false = Plainly
