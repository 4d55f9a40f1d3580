-- constant and static values: units of one line, as trees.
use Rattle.std.specs.Prelude.{List, [], ◌∷◌, Some, None, false, pos, codes}
use Rattle.model_grammar.specs.SyntaxForms as syntax
use Rattle.model_types.specs.declared.numbers.Basic.TheVariants as basic
use Rattle.model_types.specs.declared.numbers.BinOp.TheVariants as op
use Rattle.model_types.specs.declared.operators.LogicOp.TheVariants as logic
use Rattle.model_grammar.specs.declared.syntax.StorageWord.TheVariants as storage
use Rattle.model_grammar.specs.declared.syntax.TypeWord.TheVariants as type
use Rattle.model_grammar.specs.declared.syntax.QualifierWord.TheVariants as qual
use Rattle.model_grammar.specs.declared.syntax.PrefixOp.TheVariants as prefix
use Rattle.checking_units.specs.Parts.{at, name, specs, qualifier, pointer, suffixes, parameters, members, enumerators, declared, block_items, span}

-- int a[1 ? 2 : 1/0]; int b[0 && 1/0 ? -1 : 1]; int c[1 || 1/0]; int d[(char)300]; int e[(bool)5];
abbrev pub constant_and_static_values_1 : List syntax.External
constant_and_static_values_1 = (syntax.ExternalDeclaration (syntax.SimpleDeclaration (specs (syntax.TypeSpec type.Int (at 1 0) ∷ [])) (declared (syntax.init_declarator (syntax.Named [] (name (codes "a") (at 5 1)) (suffixes (syntax.ArraySuffix (syntax.an_expr (syntax.Conditional (syntax.Constant (pos 1) basic.Int (at 7 3)) (syntax.Constant (pos 2) basic.Int (at 11 5)) (syntax.Binary op.Div (syntax.Constant (pos 1) basic.Int (at 15 7)) (syntax.Constant (pos 0) basic.Int (at 17 9)) (at 16 8)) (at 9 4))) (at 6 2) ∷ []))) syntax.no_initializer ∷ []))) ∷ syntax.ExternalDeclaration (syntax.SimpleDeclaration (specs (syntax.TypeSpec type.Int (at 21 12) ∷ [])) (declared (syntax.init_declarator (syntax.Named [] (name (codes "b") (at 25 13)) (suffixes (syntax.ArraySuffix (syntax.an_expr (syntax.Conditional (syntax.Logic logic.And (syntax.Constant (pos 0) basic.Int (at 27 15)) (syntax.Binary op.Div (syntax.Constant (pos 1) basic.Int (at 32 17)) (syntax.Constant (pos 0) basic.Int (at 34 19)) (at 33 18)) (at 29 16)) (syntax.Unary prefix.Minus (syntax.Constant (pos 1) basic.Int (at 39 22)) (at 38 21)) (syntax.Constant (pos 1) basic.Int (at 43 24)) (at 36 20))) (at 26 14) ∷ []))) syntax.no_initializer ∷ []))) ∷ syntax.ExternalDeclaration (syntax.SimpleDeclaration (specs (syntax.TypeSpec type.Int (at 47 27) ∷ [])) (declared (syntax.init_declarator (syntax.Named [] (name (codes "c") (at 51 28)) (suffixes (syntax.ArraySuffix (syntax.an_expr (syntax.Logic logic.Or (syntax.Constant (pos 1) basic.Int (at 53 30)) (syntax.Binary op.Div (syntax.Constant (pos 1) basic.Int (at 58 32)) (syntax.Constant (pos 0) basic.Int (at 60 34)) (at 59 33)) (at 55 31))) (at 52 29) ∷ []))) syntax.no_initializer ∷ []))) ∷ syntax.ExternalDeclaration (syntax.SimpleDeclaration (specs (syntax.TypeSpec type.Int (at 64 37) ∷ [])) (declared (syntax.init_declarator (syntax.Named [] (name (codes "d") (at 68 38)) (suffixes (syntax.ArraySuffix (syntax.an_expr (syntax.Cast (syntax.type_name (specs (syntax.TypeSpec type.Char (at 71 41) ∷ [])) (syntax.Unnamed [] (suffixes []))) (syntax.Constant (pos 300) basic.Int (at 76 43)) (at 70 40))) (at 69 39) ∷ []))) syntax.no_initializer ∷ []))) ∷ syntax.ExternalDeclaration (syntax.SimpleDeclaration (specs (syntax.TypeSpec type.Int (at 82 46) ∷ [])) (declared (syntax.init_declarator (syntax.Named [] (name (codes "e") (at 86 47)) (suffixes (syntax.ArraySuffix (syntax.an_expr (syntax.Cast (syntax.type_name (specs (syntax.TypeSpec type.Bool (at 89 50) ∷ [])) (syntax.Unnamed [] (suffixes []))) (syntax.Constant (pos 5) basic.Int (at 94 52)) (at 88 49))) (at 87 48) ∷ []))) syntax.no_initializer ∷ []))) ∷ [])

-- int a[-(-2147483647 - 1)];
abbrev pub constant_and_static_values_2 : List syntax.External
constant_and_static_values_2 = (syntax.ExternalDeclaration (syntax.SimpleDeclaration (specs (syntax.TypeSpec type.Int (at 1 0) ∷ [])) (declared (syntax.init_declarator (syntax.Named [] (name (codes "a") (at 5 1)) (suffixes (syntax.ArraySuffix (syntax.an_expr (syntax.Unary prefix.Minus (syntax.Parenthesized (syntax.Binary op.Sub (syntax.Unary prefix.Minus (syntax.Constant (pos 2147483647) basic.Int (at 10 6)) (at 9 5)) (syntax.Constant (pos 1) basic.Int (at 23 8)) (at 21 7)) (at 8 4)) (at 7 3))) (at 6 2) ∷ []))) syntax.no_initializer ∷ []))) ∷ [])

-- int a[1 << 32];
abbrev pub constant_and_static_values_3 : List syntax.External
constant_and_static_values_3 = (syntax.ExternalDeclaration (syntax.SimpleDeclaration (specs (syntax.TypeSpec type.Int (at 1 0) ∷ [])) (declared (syntax.init_declarator (syntax.Named [] (name (codes "a") (at 5 1)) (suffixes (syntax.ArraySuffix (syntax.an_expr (syntax.Binary op.ShiftLeft (syntax.Constant (pos 1) basic.Int (at 7 3)) (syntax.Constant (pos 32) basic.Int (at 12 5)) (at 9 4))) (at 6 2) ∷ []))) syntax.no_initializer ∷ []))) ∷ [])

-- int a[2147483647 + 1];
abbrev pub constant_and_static_values_4 : List syntax.External
constant_and_static_values_4 = (syntax.ExternalDeclaration (syntax.SimpleDeclaration (specs (syntax.TypeSpec type.Int (at 1 0) ∷ [])) (declared (syntax.init_declarator (syntax.Named [] (name (codes "a") (at 5 1)) (suffixes (syntax.ArraySuffix (syntax.an_expr (syntax.Binary op.Add (syntax.Constant (pos 2147483647) basic.Int (at 7 3)) (syntax.Constant (pos 1) basic.Int (at 20 5)) (at 18 4))) (at 6 2) ∷ []))) syntax.no_initializer ∷ []))) ∷ [])

-- int a[(char)128];
abbrev pub constant_and_static_values_5 : List syntax.External
constant_and_static_values_5 = (syntax.ExternalDeclaration (syntax.SimpleDeclaration (specs (syntax.TypeSpec type.Int (at 1 0) ∷ [])) (declared (syntax.init_declarator (syntax.Named [] (name (codes "a") (at 5 1)) (suffixes (syntax.ArraySuffix (syntax.an_expr (syntax.Cast (syntax.type_name (specs (syntax.TypeSpec type.Char (at 8 4) ∷ [])) (syntax.Unnamed [] (suffixes []))) (syntax.Constant (pos 128) basic.Int (at 13 6)) (at 7 3))) (at 6 2) ∷ []))) syntax.no_initializer ∷ []))) ∷ [])

-- int a[nullptr ? 1 : 1];
abbrev pub constant_and_static_values_6 : List syntax.External
constant_and_static_values_6 = (syntax.ExternalDeclaration (syntax.SimpleDeclaration (specs (syntax.TypeSpec type.Int (at 1 0) ∷ [])) (declared (syntax.init_declarator (syntax.Named [] (name (codes "a") (at 5 1)) (suffixes (syntax.ArraySuffix (syntax.an_expr (syntax.Conditional (syntax.Nullptr (at 7 3)) (syntax.Constant (pos 1) basic.Int (at 17 5)) (syntax.Constant (pos 1) basic.Int (at 21 7)) (at 15 4))) (at 6 2) ∷ []))) syntax.no_initializer ∷ []))) ∷ [])

-- enum : unsigned char { A = 255, B };
abbrev pub constant_and_static_values_7 : List syntax.External
constant_and_static_values_7 = (syntax.ExternalDeclaration (syntax.SimpleDeclaration (specs (syntax.Enum None (syntax.some_specs (specs (syntax.TypeSpec type.Unsigned (at 8 2) ∷ syntax.TypeSpec type.Char (at 17 3) ∷ []))) (enumerators (syntax.enumerator (name (codes "A") (at 24 5)) (syntax.an_expr (syntax.Constant (pos 255) basic.Int (at 28 7))) ∷ syntax.enumerator (name (codes "B") (at 33 9)) syntax.no_expr ∷ [])) (at 1 0) ∷ [])) (declared [])) ∷ [])

-- int a[2]; static int *p = a + 1, *q = 1 + a, *r = &a[1], *s = &1[a], *t = a - 0;
abbrev pub constant_and_static_values_8 : List syntax.External
constant_and_static_values_8 = (syntax.ExternalDeclaration (syntax.SimpleDeclaration (specs (syntax.TypeSpec type.Int (at 1 0) ∷ [])) (declared (syntax.init_declarator (syntax.Named [] (name (codes "a") (at 5 1)) (suffixes (syntax.ArraySuffix (syntax.an_expr (syntax.Constant (pos 2) basic.Int (at 7 3))) (at 6 2) ∷ []))) syntax.no_initializer ∷ []))) ∷ syntax.ExternalDeclaration (syntax.SimpleDeclaration (specs (syntax.StorageSpec storage.Static (at 11 6) ∷ syntax.TypeSpec type.Int (at 18 7) ∷ [])) (declared (syntax.init_declarator (syntax.Named (pointer (at 22 8) [] ∷ []) (name (codes "p") (at 23 9)) (suffixes [])) (syntax.an_initializer (syntax.Single (syntax.Binary op.Add (syntax.Identifier (name (codes "a") (at 27 11))) (syntax.Constant (pos 1) basic.Int (at 31 13)) (at 29 12)))) ∷ syntax.init_declarator (syntax.Named (pointer (at 34 15) [] ∷ []) (name (codes "q") (at 35 16)) (suffixes [])) (syntax.an_initializer (syntax.Single (syntax.Binary op.Add (syntax.Constant (pos 1) basic.Int (at 39 18)) (syntax.Identifier (name (codes "a") (at 43 20))) (at 41 19)))) ∷ syntax.init_declarator (syntax.Named (pointer (at 46 22) [] ∷ []) (name (codes "r") (at 47 23)) (suffixes [])) (syntax.an_initializer (syntax.Single (syntax.Unary prefix.Address (syntax.Index (syntax.Identifier (name (codes "a") (at 52 26))) (syntax.Constant (pos 1) basic.Int (at 54 28)) (at 53 27)) (at 51 25)))) ∷ syntax.init_declarator (syntax.Named (pointer (at 58 31) [] ∷ []) (name (codes "s") (at 59 32)) (suffixes [])) (syntax.an_initializer (syntax.Single (syntax.Unary prefix.Address (syntax.Index (syntax.Constant (pos 1) basic.Int (at 64 35)) (syntax.Identifier (name (codes "a") (at 66 37))) (at 65 36)) (at 63 34)))) ∷ syntax.init_declarator (syntax.Named (pointer (at 70 40) [] ∷ []) (name (codes "t") (at 71 41)) (suffixes [])) (syntax.an_initializer (syntax.Single (syntax.Binary op.Sub (syntax.Identifier (name (codes "a") (at 75 43))) (syntax.Constant (pos 0) basic.Int (at 79 45)) (at 77 44)))) ∷ []))) ∷ [])

-- struct s { int a[2]; } x; static int *p = &x.a[1], *q = x.a, *r = &(&x)->a[0]; static char *c = (char *)&x; static void *v = &x;
abbrev pub constant_and_static_values_9 : List syntax.External
constant_and_static_values_9 = (syntax.ExternalDeclaration (syntax.SimpleDeclaration (specs (syntax.Struct (Some (name (codes "s") (at 8 1))) (members (syntax.MemberDeclarators (specs (syntax.TypeSpec type.Int (at 12 3) ∷ [])) (syntax.declarators ((syntax.Named [] (name (codes "a") (at 16 4)) (suffixes (syntax.ArraySuffix (syntax.an_expr (syntax.Constant (pos 2) basic.Int (at 18 6))) (at 17 5) ∷ []))) ∷ [])) ∷ [])) (at 1 0) ∷ [])) (declared (syntax.init_declarator (syntax.Named [] (name (codes "x") (at 24 10)) (suffixes [])) syntax.no_initializer ∷ []))) ∷ syntax.ExternalDeclaration (syntax.SimpleDeclaration (specs (syntax.StorageSpec storage.Static (at 27 12) ∷ syntax.TypeSpec type.Int (at 34 13) ∷ [])) (declared (syntax.init_declarator (syntax.Named (pointer (at 38 14) [] ∷ []) (name (codes "p") (at 39 15)) (suffixes [])) (syntax.an_initializer (syntax.Single (syntax.Unary prefix.Address (syntax.Index (syntax.Member (syntax.Identifier (name (codes "x") (at 44 18))) (name (codes "a") (at 46 20)) (at 45 19)) (syntax.Constant (pos 1) basic.Int (at 48 22)) (at 47 21)) (at 43 17)))) ∷ syntax.init_declarator (syntax.Named (pointer (at 52 25) [] ∷ []) (name (codes "q") (at 53 26)) (suffixes [])) (syntax.an_initializer (syntax.Single (syntax.Member (syntax.Identifier (name (codes "x") (at 57 28))) (name (codes "a") (at 59 30)) (at 58 29)))) ∷ syntax.init_declarator (syntax.Named (pointer (at 62 32) [] ∷ []) (name (codes "r") (at 63 33)) (suffixes [])) (syntax.an_initializer (syntax.Single (syntax.Unary prefix.Address (syntax.Index (syntax.Arrow (syntax.Parenthesized (syntax.Unary prefix.Address (syntax.Identifier (name (codes "x") (at 70 38))) (at 69 37)) (at 68 36)) (name (codes "a") (at 74 41)) (at 72 40)) (syntax.Constant (pos 0) basic.Int (at 76 43)) (at 75 42)) (at 67 35)))) ∷ []))) ∷ syntax.ExternalDeclaration (syntax.SimpleDeclaration (specs (syntax.StorageSpec storage.Static (at 80 46) ∷ syntax.TypeSpec type.Char (at 87 47) ∷ [])) (declared (syntax.init_declarator (syntax.Named (pointer (at 92 48) [] ∷ []) (name (codes "c") (at 93 49)) (suffixes [])) (syntax.an_initializer (syntax.Single (syntax.Cast (syntax.type_name (specs (syntax.TypeSpec type.Char (at 98 52) ∷ [])) (syntax.Unnamed (pointer (at 103 53) [] ∷ []) (suffixes []))) (syntax.Unary prefix.Address (syntax.Identifier (name (codes "x") (at 106 56))) (at 105 55)) (at 97 51)))) ∷ []))) ∷ syntax.ExternalDeclaration (syntax.SimpleDeclaration (specs (syntax.StorageSpec storage.Static (at 109 58) ∷ syntax.TypeSpec type.Void (at 116 59) ∷ [])) (declared (syntax.init_declarator (syntax.Named (pointer (at 121 60) [] ∷ []) (name (codes "v") (at 122 61)) (suffixes [])) (syntax.an_initializer (syntax.Single (syntax.Unary prefix.Address (syntax.Identifier (name (codes "x") (at 127 64))) (at 126 63)))) ∷ []))) ∷ [])

-- void f(void); static void (*p)(void) = f, (*q)(void) = &f, (*r)(void) = *f;
abbrev pub constant_and_static_values_10 : List syntax.External
constant_and_static_values_10 = (syntax.ExternalDeclaration (syntax.SimpleDeclaration (specs (syntax.TypeSpec type.Void (at 1 0) ∷ [])) (declared (syntax.init_declarator (syntax.Named [] (name (codes "f") (at 6 1)) (suffixes (syntax.FunctionSuffix (parameters (syntax.parameter (specs (syntax.TypeSpec type.Void (at 8 3) ∷ [])) (syntax.Unnamed [] (suffixes [])) (at 8 3) ∷ [])) false (at 7 2) ∷ []))) syntax.no_initializer ∷ []))) ∷ syntax.ExternalDeclaration (syntax.SimpleDeclaration (specs (syntax.StorageSpec storage.Static (at 15 6) ∷ syntax.TypeSpec type.Void (at 22 7) ∷ [])) (declared (syntax.init_declarator (syntax.Grouped [] (syntax.Named (pointer (at 28 9) [] ∷ []) (name (codes "p") (at 29 10)) (suffixes [])) (suffixes (syntax.FunctionSuffix (parameters (syntax.parameter (specs (syntax.TypeSpec type.Void (at 32 13) ∷ [])) (syntax.Unnamed [] (suffixes [])) (at 32 13) ∷ [])) false (at 31 12) ∷ [])) (at 27 8)) (syntax.an_initializer (syntax.Single (syntax.Identifier (name (codes "f") (at 40 16))))) ∷ syntax.init_declarator (syntax.Grouped [] (syntax.Named (pointer (at 44 19) [] ∷ []) (name (codes "q") (at 45 20)) (suffixes [])) (suffixes (syntax.FunctionSuffix (parameters (syntax.parameter (specs (syntax.TypeSpec type.Void (at 48 23) ∷ [])) (syntax.Unnamed [] (suffixes [])) (at 48 23) ∷ [])) false (at 47 22) ∷ [])) (at 43 18)) (syntax.an_initializer (syntax.Single (syntax.Unary prefix.Address (syntax.Identifier (name (codes "f") (at 57 27))) (at 56 26)))) ∷ syntax.init_declarator (syntax.Grouped [] (syntax.Named (pointer (at 61 30) [] ∷ []) (name (codes "r") (at 62 31)) (suffixes [])) (suffixes (syntax.FunctionSuffix (parameters (syntax.parameter (specs (syntax.TypeSpec type.Void (at 65 34) ∷ [])) (syntax.Unnamed [] (suffixes [])) (at 65 34) ∷ [])) false (at 64 33) ∷ [])) (at 60 29)) (syntax.an_initializer (syntax.Single (syntax.Unary prefix.Indirection (syntax.Identifier (name (codes "f") (at 74 38))) (at 73 37)))) ∷ []))) ∷ [])

-- static const char *p = "abc", *q = "abc" + 1, *r = &"abc"[1];
abbrev pub constant_and_static_values_11 : List syntax.External
constant_and_static_values_11 = (syntax.ExternalDeclaration (syntax.SimpleDeclaration (specs (syntax.StorageSpec storage.Static (at 1 0) ∷ syntax.QualifierSpec (qualifier qual.Const (at 8 1)) ∷ syntax.TypeSpec type.Char (at 14 2) ∷ [])) (declared (syntax.init_declarator (syntax.Named (pointer (at 19 3) [] ∷ []) (name (codes "p") (at 20 4)) (suffixes [])) (syntax.an_initializer (syntax.Single (syntax.Text (codes "abc") (at 24 6)))) ∷ syntax.init_declarator (syntax.Named (pointer (at 31 8) [] ∷ []) (name (codes "q") (at 32 9)) (suffixes [])) (syntax.an_initializer (syntax.Single (syntax.Binary op.Add (syntax.Text (codes "abc") (at 36 11)) (syntax.Constant (pos 1) basic.Int (at 44 13)) (at 42 12)))) ∷ syntax.init_declarator (syntax.Named (pointer (at 47 15) [] ∷ []) (name (codes "r") (at 48 16)) (suffixes [])) (syntax.an_initializer (syntax.Single (syntax.Unary prefix.Address (syntax.Index (syntax.Text (codes "abc") (at 53 19)) (syntax.Constant (pos 1) basic.Int (at 59 21)) (at 58 20)) (at 52 18)))) ∷ []))) ∷ [])

-- static bool b = "abc";
abbrev pub constant_and_static_values_12 : List syntax.External
constant_and_static_values_12 = (syntax.ExternalDeclaration (syntax.SimpleDeclaration (specs (syntax.StorageSpec storage.Static (at 1 0) ∷ syntax.TypeSpec type.Bool (at 8 1) ∷ [])) (declared (syntax.init_declarator (syntax.Named [] (name (codes "b") (at 13 2)) (suffixes [])) (syntax.an_initializer (syntax.Single (syntax.Text (codes "abc") (at 17 4)))) ∷ []))) ∷ [])

-- void g(void) { static int n = 1, *p = &n; static int *q = p; }
abbrev pub constant_and_static_values_13 : List syntax.External
constant_and_static_values_13 = (syntax.FunctionDefinition (specs (syntax.TypeSpec type.Void (at 1 0) ∷ [])) (syntax.Named [] (name (codes "g") (at 6 1)) (suffixes (syntax.FunctionSuffix (parameters (syntax.parameter (specs (syntax.TypeSpec type.Void (at 8 3) ∷ [])) (syntax.Unnamed [] (suffixes [])) (at 8 3) ∷ [])) false (at 7 2) ∷ []))) (syntax.block (block_items (syntax.DeclarationItem (syntax.SimpleDeclaration (specs (syntax.StorageSpec storage.Static (at 16 6) ∷ syntax.TypeSpec type.Int (at 23 7) ∷ [])) (declared (syntax.init_declarator (syntax.Named [] (name (codes "n") (at 27 8)) (suffixes [])) (syntax.an_initializer (syntax.Single (syntax.Constant (pos 1) basic.Int (at 31 10)))) ∷ syntax.init_declarator (syntax.Named (pointer (at 34 12) [] ∷ []) (name (codes "p") (at 35 13)) (suffixes [])) (syntax.an_initializer (syntax.Single (syntax.Unary prefix.Address (syntax.Identifier (name (codes "n") (at 40 16))) (at 39 15)))) ∷ []))) ∷ syntax.DeclarationItem (syntax.SimpleDeclaration (specs (syntax.StorageSpec storage.Static (at 43 18) ∷ syntax.TypeSpec type.Int (at 50 19) ∷ [])) (declared (syntax.init_declarator (syntax.Named (pointer (at 54 20) [] ∷ []) (name (codes "q") (at 55 21)) (suffixes [])) (syntax.an_initializer (syntax.Single (syntax.Identifier (name (codes "p") (at 59 23))))) ∷ []))) ∷ [])) (span (at 14 5) (at 62 25))) ∷ [])

-- extern int y; static int *p = &y; constexpr int c = 5; static int z = c;
abbrev pub constant_and_static_values_14 : List syntax.External
constant_and_static_values_14 = (syntax.ExternalDeclaration (syntax.SimpleDeclaration (specs (syntax.StorageSpec storage.Extern (at 1 0) ∷ syntax.TypeSpec type.Int (at 8 1) ∷ [])) (declared (syntax.init_declarator (syntax.Named [] (name (codes "y") (at 12 2)) (suffixes [])) syntax.no_initializer ∷ []))) ∷ syntax.ExternalDeclaration (syntax.SimpleDeclaration (specs (syntax.StorageSpec storage.Static (at 15 4) ∷ syntax.TypeSpec type.Int (at 22 5) ∷ [])) (declared (syntax.init_declarator (syntax.Named (pointer (at 26 6) [] ∷ []) (name (codes "p") (at 27 7)) (suffixes [])) (syntax.an_initializer (syntax.Single (syntax.Unary prefix.Address (syntax.Identifier (name (codes "y") (at 32 10))) (at 31 9)))) ∷ []))) ∷ syntax.ExternalDeclaration (syntax.SimpleDeclaration (specs (syntax.StorageSpec storage.Constexpr (at 35 12) ∷ syntax.TypeSpec type.Int (at 45 13) ∷ [])) (declared (syntax.init_declarator (syntax.Named [] (name (codes "c") (at 49 14)) (suffixes [])) (syntax.an_initializer (syntax.Single (syntax.Constant (pos 5) basic.Int (at 53 16)))) ∷ []))) ∷ syntax.ExternalDeclaration (syntax.SimpleDeclaration (specs (syntax.StorageSpec storage.Static (at 56 18) ∷ syntax.TypeSpec type.Int (at 63 19) ∷ [])) (declared (syntax.init_declarator (syntax.Named [] (name (codes "z") (at 67 20)) (suffixes [])) (syntax.an_initializer (syntax.Single (syntax.Identifier (name (codes "c") (at 71 22))))) ∷ []))) ∷ [])

-- const int c = 5; static int y = c;
abbrev pub constant_and_static_values_15 : List syntax.External
constant_and_static_values_15 = (syntax.ExternalDeclaration (syntax.SimpleDeclaration (specs (syntax.QualifierSpec (qualifier qual.Const (at 1 0)) ∷ syntax.TypeSpec type.Int (at 7 1) ∷ [])) (declared (syntax.init_declarator (syntax.Named [] (name (codes "c") (at 11 2)) (suffixes [])) (syntax.an_initializer (syntax.Single (syntax.Constant (pos 5) basic.Int (at 15 4)))) ∷ []))) ∷ syntax.ExternalDeclaration (syntax.SimpleDeclaration (specs (syntax.StorageSpec storage.Static (at 18 6) ∷ syntax.TypeSpec type.Int (at 25 7) ∷ [])) (declared (syntax.init_declarator (syntax.Named [] (name (codes "y") (at 29 8)) (suffixes [])) (syntax.an_initializer (syntax.Single (syntax.Identifier (name (codes "c") (at 33 10))))) ∷ []))) ∷ [])
