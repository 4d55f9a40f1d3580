-- The kinds of tokens of the grammar as numbers: the keywords and then the punctuators, each by its number in the
-- vocabulary, then identifiers, constants and string literals (ISO/IEC 9899:2024, 6.4).
use Rattle.std.specs.Prelude.{ℕ}

-- `static_assert`
abbrev pub StaticAssert : ℕ
StaticAssert = 1

-- `_Static_assert`
abbrev pub OldStaticAssert : ℕ
OldStaticAssert = 2

-- `inline`
abbrev pub Inline : ℕ
Inline = 3

-- `_Noreturn`
abbrev pub Noreturn : ℕ
Noreturn = 4

-- `typedef`
abbrev pub Typedef : ℕ
Typedef = 5

-- `extern`
abbrev pub Extern : ℕ
Extern = 6

-- `static`
abbrev pub Static : ℕ
Static = 7

-- `auto`
abbrev pub Auto : ℕ
Auto = 8

-- `register`
abbrev pub Register : ℕ
Register = 9

-- `constexpr`
abbrev pub Constexpr : ℕ
Constexpr = 10

-- `void`
abbrev pub Void : ℕ
Void = 11

-- `char`
abbrev pub Char : ℕ
Char = 12

-- `short`
abbrev pub Short : ℕ
Short = 13

-- `int`
abbrev pub Int : ℕ
Int = 14

-- `long`
abbrev pub Long : ℕ
Long = 15

-- `signed`
abbrev pub Signed : ℕ
Signed = 16

-- `unsigned`
abbrev pub Unsigned : ℕ
Unsigned = 17

-- `bool`
abbrev pub Bool : ℕ
Bool = 18

-- `_Bool`
abbrev pub OldBool : ℕ
OldBool = 19

-- `typeof`
abbrev pub Typeof : ℕ
Typeof = 20

-- `typeof_unqual`
abbrev pub TypeofUnqual : ℕ
TypeofUnqual = 21

-- `const`
abbrev pub Const : ℕ
Const = 22

-- `restrict`
abbrev pub Restrict : ℕ
Restrict = 23

-- `_Owner`
abbrev pub Owner : ℕ
Owner = 24

-- `_View`
abbrev pub View : ℕ
View = 25

-- `_Opt`
abbrev pub Opt : ℕ
Opt = 26

-- `struct`
abbrev pub Struct : ℕ
Struct = 27

-- `enum`
abbrev pub Enum : ℕ
Enum = 28

-- `case`
abbrev pub Case : ℕ
Case = 29

-- `default`
abbrev pub Default : ℕ
Default = 30

-- `if`
abbrev pub If : ℕ
If = 31

-- `else`
abbrev pub Else : ℕ
Else = 32

-- `switch`
abbrev pub Switch : ℕ
Switch = 33

-- `while`
abbrev pub While : ℕ
While = 34

-- `do`
abbrev pub Do : ℕ
Do = 35

-- `for`
abbrev pub For : ℕ
For = 36

-- `break`
abbrev pub Break : ℕ
Break = 37

-- `continue`
abbrev pub Continue : ℕ
Continue = 38

-- `return`
abbrev pub Return : ℕ
Return = 39

-- `defer`
abbrev pub Defer : ℕ
Defer = 40

-- `sizeof`
abbrev pub Sizeof : ℕ
Sizeof = 41

-- `alignof`
abbrev pub Alignof : ℕ
Alignof = 42

-- `_Alignof`
abbrev pub OldAlignof : ℕ
OldAlignof = 43

-- `true`
abbrev pub True : ℕ
True = 44

-- `false`
abbrev pub False : ℕ
False = 45

-- `nullptr`
abbrev pub Nullptr : ℕ
Nullptr = 46

-- `alignas`
abbrev pub Alignas : ℕ
Alignas = 47

-- `_Alignas`
abbrev pub OldAlignas : ℕ
OldAlignas = 48

-- `_Atomic`
abbrev pub Atomic : ℕ
Atomic = 49

-- `_BitInt`
abbrev pub BitInt : ℕ
BitInt = 50

-- `_Complex`
abbrev pub Complex : ℕ
Complex = 51

-- `_Decimal32`
abbrev pub Decimal32 : ℕ
Decimal32 = 52

-- `_Decimal64`
abbrev pub Decimal64 : ℕ
Decimal64 = 53

-- `_Decimal128`
abbrev pub Decimal128 : ℕ
Decimal128 = 54

-- `double`
abbrev pub Double : ℕ
Double = 55

-- `float`
abbrev pub Float : ℕ
Float = 56

-- `_Generic`
abbrev pub Generic : ℕ
Generic = 57

-- `goto`
abbrev pub Goto : ℕ
Goto = 58

-- `_Imaginary`
abbrev pub Imaginary : ℕ
Imaginary = 59

-- `thread_local`
abbrev pub ThreadLocal : ℕ
ThreadLocal = 60

-- `_Thread_local`
abbrev pub OldThreadLocal : ℕ
OldThreadLocal = 61

-- `union`
abbrev pub Union : ℕ
Union = 62

-- `volatile`
abbrev pub Volatile : ℕ
Volatile = 63

-- `,`
abbrev pub Comma : ℕ
Comma = 64

-- `;`
abbrev pub Semicolon : ℕ
Semicolon = 65

-- `(`
abbrev pub OpenParenthesis : ℕ
OpenParenthesis = 66

-- `)`
abbrev pub CloseParenthesis : ℕ
CloseParenthesis = 67

-- `[`
abbrev pub OpenBracket : ℕ
OpenBracket = 68

-- `]`
abbrev pub CloseBracket : ℕ
CloseBracket = 69

-- `{`
abbrev pub OpenBrace : ℕ
OpenBrace = 70

-- `}`
abbrev pub CloseBrace : ℕ
CloseBrace = 71

-- `:`
abbrev pub Colon : ℕ
Colon = 72

-- `=`
abbrev pub Equals : ℕ
Equals = 73

-- `*`
abbrev pub Star : ℕ
Star = 74

-- `...`
abbrev pub Ellipsis : ℕ
Ellipsis = 75

-- `.`
abbrev pub Dot : ℕ
Dot = 76

-- `*=`
abbrev pub StarEquals : ℕ
StarEquals = 77

-- `/=`
abbrev pub SlashEquals : ℕ
SlashEquals = 78

-- `%=`
abbrev pub PercentEquals : ℕ
PercentEquals = 79

-- `+=`
abbrev pub PlusEquals : ℕ
PlusEquals = 80

-- `-=`
abbrev pub MinusEquals : ℕ
MinusEquals = 81

-- `<<=`
abbrev pub ShiftLeftEquals : ℕ
ShiftLeftEquals = 82

-- `>>=`
abbrev pub ShiftRightEquals : ℕ
ShiftRightEquals = 83

-- `&=`
abbrev pub AmpersandEquals : ℕ
AmpersandEquals = 84

-- `^=`
abbrev pub CaretEquals : ℕ
CaretEquals = 85

-- `|=`
abbrev pub BarEquals : ℕ
BarEquals = 86

-- `?`
abbrev pub Question : ℕ
Question = 87

-- `||`
abbrev pub BarBar : ℕ
BarBar = 88

-- `&&`
abbrev pub AmpersandAmpersand : ℕ
AmpersandAmpersand = 89

-- `|`
abbrev pub Bar : ℕ
Bar = 90

-- `^`
abbrev pub Caret : ℕ
Caret = 91

-- `&`
abbrev pub Ampersand : ℕ
Ampersand = 92

-- `==`
abbrev pub EqualsEquals : ℕ
EqualsEquals = 93

-- `!=`
abbrev pub ExclamationEquals : ℕ
ExclamationEquals = 94

-- `<`
abbrev pub Less : ℕ
Less = 95

-- `>`
abbrev pub Greater : ℕ
Greater = 96

-- `<=`
abbrev pub LessEquals : ℕ
LessEquals = 97

-- `>=`
abbrev pub GreaterEquals : ℕ
GreaterEquals = 98

-- `<<`
abbrev pub ShiftLeft : ℕ
ShiftLeft = 99

-- `>>`
abbrev pub ShiftRight : ℕ
ShiftRight = 100

-- `+`
abbrev pub Plus : ℕ
Plus = 101

-- `-`
abbrev pub Minus : ℕ
Minus = 102

-- `/`
abbrev pub Slash : ℕ
Slash = 103

-- `%`
abbrev pub Percent : ℕ
Percent = 104

-- `++`
abbrev pub PlusPlus : ℕ
PlusPlus = 105

-- `--`
abbrev pub MinusMinus : ℕ
MinusMinus = 106

-- `~`
abbrev pub Tilde : ℕ
Tilde = 107

-- `!`
abbrev pub Exclamation : ℕ
Exclamation = 108

-- `->`
abbrev pub Arrow : ℕ
Arrow = 109

-- `::`
abbrev pub ColonColon : ℕ
ColonColon = 110

-- an identifier that is no typedef name
abbrev pub Name : ℕ
Name = 111

-- a typedef name (6.7.9) that a list of specifiers would take
abbrev pub TypedefName : ℕ
TypedefName = 112

-- a typedef name that no list of specifiers takes, and a declarator may declare anew
abbrev pub DeclaredName : ℕ
DeclaredName = 113

-- an integer constant or a character constant
abbrev pub Integer : ℕ
Integer = 114

-- a string literal
abbrev pub StringLiteral : ℕ
StringLiteral = 115

-- a closing bracket that matches the last open one inside an attribute
abbrev pub Closing : ℕ
Closing = 116

-- a closing bracket that matches no open one there
abbrev pub Stray : ℕ
Stray = 117
