-- accepted: declarations: units of one line, as trees.
use Rattle.std.specs.Prelude.{List, [], ◌∷◌, Some, None, false, pos, codes}
use Rattle.model_grammar.specs.SyntaxForms as syntax
use Rattle.model_types.specs.declared.numbers.Basic.TheVariants as basic
use Rattle.model_types.specs.declared.numbers.BinOp.TheVariants as op
use Rattle.model_types.specs.declared.operators.LogicOp.TheVariants as logic
use Rattle.model_grammar.specs.declared.syntax.StorageWord.TheVariants as storage
use Rattle.model_grammar.specs.declared.syntax.FunctionWord.TheVariants as function
use Rattle.model_grammar.specs.declared.syntax.TypeWord.TheVariants as type
use Rattle.model_grammar.specs.declared.syntax.QualifierWord.TheVariants as qual
use Rattle.model_grammar.specs.declared.syntax.PrefixOp.TheVariants as prefix
use Rattle.checking_units.specs.Parts.{at, name, specs, qualifier, pointer, suffixes, parameters, members, enumerators, declared, block_items, span}

-- struct s { struct s *a; };
abbrev pub accepted_declarations_25 : List syntax.External
accepted_declarations_25 = (syntax.ExternalDeclaration (syntax.SimpleDeclaration (specs (syntax.Struct (Some (name (codes "s") (at 8 1))) (members (syntax.MemberDeclarators (specs (syntax.StructTag (name (codes "s") (at 19 4)) (at 12 3) ∷ [])) (syntax.declarators ((syntax.Named (pointer (at 21 5) [] ∷ []) (name (codes "a") (at 22 6)) (suffixes [])) ∷ [])) ∷ [])) (at 1 0) ∷ [])) (declared [])) ∷ [])

-- enum e : long { A }; enum : enum e { B }; int a[sizeof(B) == 8 ? 1 : -1];
abbrev pub accepted_declarations_26 : List syntax.External
accepted_declarations_26 = (syntax.ExternalDeclaration (syntax.SimpleDeclaration (specs (syntax.Enum (Some (name (codes "e") (at 6 1))) (syntax.some_specs (specs (syntax.TypeSpec type.Long (at 10 3) ∷ []))) (enumerators (syntax.enumerator (name (codes "A") (at 17 5)) syntax.no_expr ∷ [])) (at 1 0) ∷ [])) (declared [])) ∷ syntax.ExternalDeclaration (syntax.SimpleDeclaration (specs (syntax.Enum None (syntax.some_specs (specs (syntax.EnumTag (name (codes "e") (at 34 11)) syntax.none_of_specs (at 29 10) ∷ []))) (enumerators (syntax.enumerator (name (codes "B") (at 38 13)) syntax.no_expr ∷ [])) (at 22 8) ∷ [])) (declared [])) ∷ syntax.ExternalDeclaration (syntax.SimpleDeclaration (specs (syntax.TypeSpec type.Int (at 43 16) ∷ [])) (declared (syntax.init_declarator (syntax.Named [] (name (codes "a") (at 47 17)) (suffixes (syntax.ArraySuffix (syntax.an_expr (syntax.Conditional (syntax.Binary op.Equal (syntax.SizeofExpr (syntax.Parenthesized (syntax.Identifier (name (codes "B") (at 56 21))) (at 55 20)) (at 49 19)) (syntax.Constant (pos 8) basic.Int (at 62 24)) (at 59 23)) (syntax.Constant (pos 1) basic.Int (at 66 26)) (syntax.Unary prefix.Minus (syntax.Constant (pos 1) basic.Int (at 71 29)) (at 70 28)) (at 64 25))) (at 48 18) ∷ []))) syntax.no_initializer ∷ []))) ∷ [])

-- enum : bool { A, B };
abbrev pub accepted_declarations_27 : List syntax.External
accepted_declarations_27 = (syntax.ExternalDeclaration (syntax.SimpleDeclaration (specs (syntax.Enum None (syntax.some_specs (specs (syntax.TypeSpec type.Bool (at 8 2) ∷ []))) (enumerators (syntax.enumerator (name (codes "A") (at 15 4)) syntax.no_expr ∷ syntax.enumerator (name (codes "B") (at 18 6)) syntax.no_expr ∷ [])) (at 1 0) ∷ [])) (declared [])) ∷ [])

-- enum { A = 5, B, C = 1 }; int a[B == 6 && C == 1 ? 1 : -1];
abbrev pub accepted_declarations_28 : List syntax.External
accepted_declarations_28 = (syntax.ExternalDeclaration (syntax.SimpleDeclaration (specs (syntax.Enum None syntax.none_of_specs (enumerators (syntax.enumerator (name (codes "A") (at 8 2)) (syntax.an_expr (syntax.Constant (pos 5) basic.Int (at 12 4))) ∷ syntax.enumerator (name (codes "B") (at 15 6)) syntax.no_expr ∷ syntax.enumerator (name (codes "C") (at 18 8)) (syntax.an_expr (syntax.Constant (pos 1) basic.Int (at 22 10))) ∷ [])) (at 1 0) ∷ [])) (declared [])) ∷ syntax.ExternalDeclaration (syntax.SimpleDeclaration (specs (syntax.TypeSpec type.Int (at 27 13) ∷ [])) (declared (syntax.init_declarator (syntax.Named [] (name (codes "a") (at 31 14)) (suffixes (syntax.ArraySuffix (syntax.an_expr (syntax.Conditional (syntax.Logic logic.And (syntax.Binary op.Equal (syntax.Identifier (name (codes "B") (at 33 16))) (syntax.Constant (pos 6) basic.Int (at 38 18)) (at 35 17)) (syntax.Binary op.Equal (syntax.Identifier (name (codes "C") (at 43 20))) (syntax.Constant (pos 1) basic.Int (at 48 22)) (at 45 21)) (at 40 19)) (syntax.Constant (pos 1) basic.Int (at 52 24)) (syntax.Unary prefix.Minus (syntax.Constant (pos 1) basic.Int (at 57 27)) (at 56 26)) (at 50 23))) (at 32 15) ∷ []))) syntax.no_initializer ∷ []))) ∷ [])

-- enum : long { A = 2147483647, B }; int a[B == 2147483648 ? 1 : -1];
abbrev pub accepted_declarations_29 : List syntax.External
accepted_declarations_29 = (syntax.ExternalDeclaration (syntax.SimpleDeclaration (specs (syntax.Enum None (syntax.some_specs (specs (syntax.TypeSpec type.Long (at 8 2) ∷ []))) (enumerators (syntax.enumerator (name (codes "A") (at 15 4)) (syntax.an_expr (syntax.Constant (pos 2147483647) basic.Int (at 19 6))) ∷ syntax.enumerator (name (codes "B") (at 31 8)) syntax.no_expr ∷ [])) (at 1 0) ∷ [])) (declared [])) ∷ syntax.ExternalDeclaration (syntax.SimpleDeclaration (specs (syntax.TypeSpec type.Int (at 36 11) ∷ [])) (declared (syntax.init_declarator (syntax.Named [] (name (codes "a") (at 40 12)) (suffixes (syntax.ArraySuffix (syntax.an_expr (syntax.Conditional (syntax.Binary op.Equal (syntax.Identifier (name (codes "B") (at 42 14))) (syntax.Constant (pos 2147483648) basic.Long (at 47 16)) (at 44 15)) (syntax.Constant (pos 1) basic.Int (at 60 18)) (syntax.Unary prefix.Minus (syntax.Constant (pos 1) basic.Int (at 65 21)) (at 64 20)) (at 58 17))) (at 41 13) ∷ []))) syntax.no_initializer ∷ []))) ∷ [])

-- enum e : long; void f(void) { enum e : int; int a[sizeof(enum e) == 4 ? 1 : -1]; }
abbrev pub accepted_declarations_30 : List syntax.External
accepted_declarations_30 = (syntax.ExternalDeclaration (syntax.SimpleDeclaration (specs (syntax.EnumTag (name (codes "e") (at 6 1)) (syntax.some_specs (specs (syntax.TypeSpec type.Long (at 10 3) ∷ []))) (at 1 0) ∷ [])) (declared [])) ∷ syntax.FunctionDefinition (specs (syntax.TypeSpec type.Void (at 16 5) ∷ [])) (syntax.Named [] (name (codes "f") (at 21 6)) (suffixes (syntax.FunctionSuffix (parameters (syntax.parameter (specs (syntax.TypeSpec type.Void (at 23 8) ∷ [])) (syntax.Unnamed [] (suffixes [])) (at 23 8) ∷ [])) false (at 22 7) ∷ []))) (syntax.block (block_items (syntax.DeclarationItem (syntax.SimpleDeclaration (specs (syntax.EnumTag (name (codes "e") (at 36 12)) (syntax.some_specs (specs (syntax.TypeSpec type.Int (at 40 14) ∷ []))) (at 31 11) ∷ [])) (declared [])) ∷ syntax.DeclarationItem (syntax.SimpleDeclaration (specs (syntax.TypeSpec type.Int (at 45 16) ∷ [])) (declared (syntax.init_declarator (syntax.Named [] (name (codes "a") (at 49 17)) (suffixes (syntax.ArraySuffix (syntax.an_expr (syntax.Conditional (syntax.Binary op.Equal (syntax.SizeofType (syntax.type_name (specs (syntax.EnumTag (name (codes "e") (at 63 22)) syntax.none_of_specs (at 58 21) ∷ [])) (syntax.Unnamed [] (suffixes []))) (at 51 19)) (syntax.Constant (pos 4) basic.Int (at 69 25)) (at 66 24)) (syntax.Constant (pos 1) basic.Int (at 73 27)) (syntax.Unary prefix.Minus (syntax.Constant (pos 1) basic.Int (at 78 30)) (at 77 29)) (at 71 26))) (at 50 18) ∷ []))) syntax.no_initializer ∷ []))) ∷ [])) (span (at 29 10) (at 82 33))) ∷ [])

-- static_assert(sizeof(int) == 4);
abbrev pub accepted_declarations_31 : List syntax.External
accepted_declarations_31 = (syntax.ExternalDeclaration (syntax.AssertDeclaration (syntax.asserted (syntax.Binary op.Equal (syntax.SizeofType (syntax.type_name (specs (syntax.TypeSpec type.Int (at 22 4) ∷ [])) (syntax.Unnamed [] (suffixes []))) (at 15 2)) (syntax.Constant (pos 4) basic.Int (at 30 7)) (at 27 6)) None (at 1 0))) ∷ [])

-- int a[sizeof(long unsigned int long) == 8 ? 1 : -1]; short signed b; int signed c; char unsigned d;
abbrev pub accepted_declarations_32 : List syntax.External
accepted_declarations_32 = (syntax.ExternalDeclaration (syntax.SimpleDeclaration (specs (syntax.TypeSpec type.Int (at 1 0) ∷ [])) (declared (syntax.init_declarator (syntax.Named [] (name (codes "a") (at 5 1)) (suffixes (syntax.ArraySuffix (syntax.an_expr (syntax.Conditional (syntax.Binary op.Equal (syntax.SizeofType (syntax.type_name (specs (syntax.TypeSpec type.Long (at 14 5) ∷ syntax.TypeSpec type.Unsigned (at 19 6) ∷ syntax.TypeSpec type.Int (at 28 7) ∷ syntax.TypeSpec type.Long (at 32 8) ∷ [])) (syntax.Unnamed [] (suffixes []))) (at 7 3)) (syntax.Constant (pos 8) basic.Int (at 41 11)) (at 38 10)) (syntax.Constant (pos 1) basic.Int (at 45 13)) (syntax.Unary prefix.Minus (syntax.Constant (pos 1) basic.Int (at 50 16)) (at 49 15)) (at 43 12))) (at 6 2) ∷ []))) syntax.no_initializer ∷ []))) ∷ syntax.ExternalDeclaration (syntax.SimpleDeclaration (specs (syntax.TypeSpec type.Short (at 54 19) ∷ syntax.TypeSpec type.Signed (at 60 20) ∷ [])) (declared (syntax.init_declarator (syntax.Named [] (name (codes "b") (at 67 21)) (suffixes [])) syntax.no_initializer ∷ []))) ∷ syntax.ExternalDeclaration (syntax.SimpleDeclaration (specs (syntax.TypeSpec type.Int (at 70 23) ∷ syntax.TypeSpec type.Signed (at 74 24) ∷ [])) (declared (syntax.init_declarator (syntax.Named [] (name (codes "c") (at 81 25)) (suffixes [])) syntax.no_initializer ∷ []))) ∷ syntax.ExternalDeclaration (syntax.SimpleDeclaration (specs (syntax.TypeSpec type.Char (at 84 27) ∷ syntax.TypeSpec type.Unsigned (at 89 28) ∷ [])) (declared (syntax.init_declarator (syntax.Named [] (name (codes "d") (at 98 29)) (suffixes [])) syntax.no_initializer ∷ []))) ∷ [])

-- constexpr static int x = 1;
abbrev pub accepted_declarations_33 : List syntax.External
accepted_declarations_33 = (syntax.ExternalDeclaration (syntax.SimpleDeclaration (specs (syntax.StorageSpec storage.Constexpr (at 1 0) ∷ syntax.StorageSpec storage.Static (at 11 1) ∷ syntax.TypeSpec type.Int (at 18 2) ∷ [])) (declared (syntax.init_declarator (syntax.Named [] (name (codes "x") (at 22 3)) (suffixes [])) (syntax.an_initializer (syntax.Single (syntax.Constant (pos 1) basic.Int (at 26 5)))) ∷ []))) ∷ [])

-- auto constexpr static x = 1;
abbrev pub accepted_declarations_34 : List syntax.External
accepted_declarations_34 = (syntax.ExternalDeclaration (syntax.SimpleDeclaration (specs (syntax.StorageSpec storage.Auto (at 1 0) ∷ syntax.StorageSpec storage.Constexpr (at 6 1) ∷ syntax.StorageSpec storage.Static (at 16 2) ∷ [])) (declared (syntax.init_declarator (syntax.Named [] (name (codes "x") (at 23 3)) (suffixes [])) (syntax.an_initializer (syntax.Single (syntax.Constant (pos 1) basic.Int (at 27 5)))) ∷ []))) ∷ [])

-- void f(void) { register constexpr int x = 1; }
abbrev pub accepted_declarations_35 : List syntax.External
accepted_declarations_35 = (syntax.FunctionDefinition (specs (syntax.TypeSpec type.Void (at 1 0) ∷ [])) (syntax.Named [] (name (codes "f") (at 6 1)) (suffixes (syntax.FunctionSuffix (parameters (syntax.parameter (specs (syntax.TypeSpec type.Void (at 8 3) ∷ [])) (syntax.Unnamed [] (suffixes [])) (at 8 3) ∷ [])) false (at 7 2) ∷ []))) (syntax.block (block_items (syntax.DeclarationItem (syntax.SimpleDeclaration (specs (syntax.StorageSpec storage.Register (at 16 6) ∷ syntax.StorageSpec storage.Constexpr (at 25 7) ∷ syntax.TypeSpec type.Int (at 35 8) ∷ [])) (declared (syntax.init_declarator (syntax.Named [] (name (codes "x") (at 39 9)) (suffixes [])) (syntax.an_initializer (syntax.Single (syntax.Constant (pos 1) basic.Int (at 43 11)))) ∷ []))) ∷ [])) (span (at 14 5) (at 46 13))) ∷ [])

-- int f(register int x);
abbrev pub accepted_declarations_36 : List syntax.External
accepted_declarations_36 = (syntax.ExternalDeclaration (syntax.SimpleDeclaration (specs (syntax.TypeSpec type.Int (at 1 0) ∷ [])) (declared (syntax.init_declarator (syntax.Named [] (name (codes "f") (at 5 1)) (suffixes (syntax.FunctionSuffix (parameters (syntax.parameter (specs (syntax.StorageSpec storage.Register (at 7 3) ∷ syntax.TypeSpec type.Int (at 16 4) ∷ [])) (syntax.Named [] (name (codes "x") (at 20 5)) (suffixes [])) (at 7 3) ∷ [])) false (at 6 2) ∷ []))) syntax.no_initializer ∷ []))) ∷ [])

-- void f(void) { auto int x; }
abbrev pub accepted_declarations_37 : List syntax.External
accepted_declarations_37 = (syntax.FunctionDefinition (specs (syntax.TypeSpec type.Void (at 1 0) ∷ [])) (syntax.Named [] (name (codes "f") (at 6 1)) (suffixes (syntax.FunctionSuffix (parameters (syntax.parameter (specs (syntax.TypeSpec type.Void (at 8 3) ∷ [])) (syntax.Unnamed [] (suffixes [])) (at 8 3) ∷ [])) false (at 7 2) ∷ []))) (syntax.block (block_items (syntax.DeclarationItem (syntax.SimpleDeclaration (specs (syntax.StorageSpec storage.Auto (at 16 6) ∷ syntax.TypeSpec type.Int (at 21 7) ∷ [])) (declared (syntax.init_declarator (syntax.Named [] (name (codes "x") (at 25 8)) (suffixes [])) syntax.no_initializer ∷ []))) ∷ [])) (span (at 14 5) (at 28 10))) ∷ [])

-- auto x = 1; int a[sizeof x == 4 ? 1 : -1];
abbrev pub accepted_declarations_38 : List syntax.External
accepted_declarations_38 = (syntax.ExternalDeclaration (syntax.SimpleDeclaration (specs (syntax.StorageSpec storage.Auto (at 1 0) ∷ [])) (declared (syntax.init_declarator (syntax.Named [] (name (codes "x") (at 6 1)) (suffixes [])) (syntax.an_initializer (syntax.Single (syntax.Constant (pos 1) basic.Int (at 10 3)))) ∷ []))) ∷ syntax.ExternalDeclaration (syntax.SimpleDeclaration (specs (syntax.TypeSpec type.Int (at 13 5) ∷ [])) (declared (syntax.init_declarator (syntax.Named [] (name (codes "a") (at 17 6)) (suffixes (syntax.ArraySuffix (syntax.an_expr (syntax.Conditional (syntax.Binary op.Equal (syntax.SizeofExpr (syntax.Identifier (name (codes "x") (at 26 9))) (at 19 8)) (syntax.Constant (pos 4) basic.Int (at 31 11)) (at 28 10)) (syntax.Constant (pos 1) basic.Int (at 35 13)) (syntax.Unary prefix.Minus (syntax.Constant (pos 1) basic.Int (at 40 16)) (at 39 15)) (at 33 12))) (at 18 7) ∷ []))) syntax.no_initializer ∷ []))) ∷ [])

-- void f(void) { for (register int i = 0; i < 1; ) ; }
abbrev pub accepted_declarations_39 : List syntax.External
accepted_declarations_39 = (syntax.FunctionDefinition (specs (syntax.TypeSpec type.Void (at 1 0) ∷ [])) (syntax.Named [] (name (codes "f") (at 6 1)) (suffixes (syntax.FunctionSuffix (parameters (syntax.parameter (specs (syntax.TypeSpec type.Void (at 8 3) ∷ [])) (syntax.Unnamed [] (suffixes [])) (at 8 3) ∷ [])) false (at 7 2) ∷ []))) (syntax.block (block_items (syntax.StatementItem (syntax.ForDeclaration (syntax.SimpleDeclaration (specs (syntax.StorageSpec storage.Register (at 21 8) ∷ syntax.TypeSpec type.Int (at 30 9) ∷ [])) (declared (syntax.init_declarator (syntax.Named [] (name (codes "i") (at 34 10)) (suffixes [])) (syntax.an_initializer (syntax.Single (syntax.Constant (pos 0) basic.Int (at 38 12)))) ∷ []))) (syntax.an_expr (syntax.Binary op.Less (syntax.Identifier (name (codes "i") (at 41 14))) (syntax.Constant (pos 1) basic.Int (at 45 16)) (at 43 15))) syntax.no_expr (syntax.ExpressionStatement syntax.no_expr (span (at 50 19) (at 50 19))) (span (at 16 6) (at 50 19))) ∷ [])) (span (at 14 5) (at 52 20))) ∷ [])

-- void f(void) { if (constexpr int i = 1; i) ; }
abbrev pub accepted_declarations_40 : List syntax.External
accepted_declarations_40 = (syntax.FunctionDefinition (specs (syntax.TypeSpec type.Void (at 1 0) ∷ [])) (syntax.Named [] (name (codes "f") (at 6 1)) (suffixes (syntax.FunctionSuffix (parameters (syntax.parameter (specs (syntax.TypeSpec type.Void (at 8 3) ∷ [])) (syntax.Unnamed [] (suffixes [])) (at 8 3) ∷ [])) false (at 7 2) ∷ []))) (syntax.block (block_items (syntax.StatementItem (syntax.If (syntax.a_declaration (syntax.SimpleDeclaration (specs (syntax.StorageSpec storage.Constexpr (at 20 8) ∷ syntax.TypeSpec type.Int (at 30 9) ∷ [])) (declared (syntax.init_declarator (syntax.Named [] (name (codes "i") (at 34 10)) (suffixes [])) (syntax.an_initializer (syntax.Single (syntax.Constant (pos 1) basic.Int (at 38 12)))) ∷ [])))) (syntax.Identifier (name (codes "i") (at 41 14))) (syntax.ExpressionStatement syntax.no_expr (span (at 44 16) (at 44 16))) syntax.no_statement (span (at 16 6) (at 44 16))) ∷ [])) (span (at 14 5) (at 46 17))) ∷ [])

-- void f(void) { extern int g(void); }
abbrev pub accepted_declarations_41 : List syntax.External
accepted_declarations_41 = (syntax.FunctionDefinition (specs (syntax.TypeSpec type.Void (at 1 0) ∷ [])) (syntax.Named [] (name (codes "f") (at 6 1)) (suffixes (syntax.FunctionSuffix (parameters (syntax.parameter (specs (syntax.TypeSpec type.Void (at 8 3) ∷ [])) (syntax.Unnamed [] (suffixes [])) (at 8 3) ∷ [])) false (at 7 2) ∷ []))) (syntax.block (block_items (syntax.DeclarationItem (syntax.SimpleDeclaration (specs (syntax.StorageSpec storage.Extern (at 16 6) ∷ syntax.TypeSpec type.Int (at 23 7) ∷ [])) (declared (syntax.init_declarator (syntax.Named [] (name (codes "g") (at 27 8)) (suffixes (syntax.FunctionSuffix (parameters (syntax.parameter (specs (syntax.TypeSpec type.Void (at 29 10) ∷ [])) (syntax.Unnamed [] (suffixes [])) (at 29 10) ∷ [])) false (at 28 9) ∷ []))) syntax.no_initializer ∷ []))) ∷ [])) (span (at 14 5) (at 36 13))) ∷ [])

-- void f(void) { int g(void); }
abbrev pub accepted_declarations_42 : List syntax.External
accepted_declarations_42 = (syntax.FunctionDefinition (specs (syntax.TypeSpec type.Void (at 1 0) ∷ [])) (syntax.Named [] (name (codes "f") (at 6 1)) (suffixes (syntax.FunctionSuffix (parameters (syntax.parameter (specs (syntax.TypeSpec type.Void (at 8 3) ∷ [])) (syntax.Unnamed [] (suffixes [])) (at 8 3) ∷ [])) false (at 7 2) ∷ []))) (syntax.block (block_items (syntax.DeclarationItem (syntax.SimpleDeclaration (specs (syntax.TypeSpec type.Int (at 16 6) ∷ [])) (declared (syntax.init_declarator (syntax.Named [] (name (codes "g") (at 20 7)) (suffixes (syntax.FunctionSuffix (parameters (syntax.parameter (specs (syntax.TypeSpec type.Void (at 22 9) ∷ [])) (syntax.Unnamed [] (suffixes [])) (at 22 9) ∷ [])) false (at 21 8) ∷ []))) syntax.no_initializer ∷ []))) ∷ [])) (span (at 14 5) (at 29 12))) ∷ [])

-- void f(void) { typedef int g(void); }
abbrev pub accepted_declarations_43 : List syntax.External
accepted_declarations_43 = (syntax.FunctionDefinition (specs (syntax.TypeSpec type.Void (at 1 0) ∷ [])) (syntax.Named [] (name (codes "f") (at 6 1)) (suffixes (syntax.FunctionSuffix (parameters (syntax.parameter (specs (syntax.TypeSpec type.Void (at 8 3) ∷ [])) (syntax.Unnamed [] (suffixes [])) (at 8 3) ∷ [])) false (at 7 2) ∷ []))) (syntax.block (block_items (syntax.DeclarationItem (syntax.SimpleDeclaration (specs (syntax.StorageSpec storage.Typedef (at 16 6) ∷ syntax.TypeSpec type.Int (at 24 7) ∷ [])) (declared (syntax.init_declarator (syntax.Named [] (name (codes "g") (at 28 8)) (suffixes (syntax.FunctionSuffix (parameters (syntax.parameter (specs (syntax.TypeSpec type.Void (at 30 10) ∷ [])) (syntax.Unnamed [] (suffixes [])) (at 30 10) ∷ [])) false (at 29 9) ∷ []))) syntax.no_initializer ∷ []))) ∷ [])) (span (at 14 5) (at 37 13))) ∷ [])

-- constexpr int f(void);
abbrev pub accepted_declarations_44 : List syntax.External
accepted_declarations_44 = (syntax.ExternalDeclaration (syntax.SimpleDeclaration (specs (syntax.StorageSpec storage.Constexpr (at 1 0) ∷ syntax.TypeSpec type.Int (at 11 1) ∷ [])) (declared (syntax.init_declarator (syntax.Named [] (name (codes "f") (at 15 2)) (suffixes (syntax.FunctionSuffix (parameters (syntax.parameter (specs (syntax.TypeSpec type.Void (at 17 4) ∷ [])) (syntax.Unnamed [] (suffixes [])) (at 17 4) ∷ [])) false (at 16 3) ∷ []))) syntax.no_initializer ∷ []))) ∷ [])

-- static inline int f(void) { return 0; } int g(void) { return f(); }
abbrev pub accepted_declarations_45 : List syntax.External
accepted_declarations_45 = (syntax.FunctionDefinition (specs (syntax.StorageSpec storage.Static (at 1 0) ∷ syntax.FunctionSpec function.Inline (at 8 1) ∷ syntax.TypeSpec type.Int (at 15 2) ∷ [])) (syntax.Named [] (name (codes "f") (at 19 3)) (suffixes (syntax.FunctionSuffix (parameters (syntax.parameter (specs (syntax.TypeSpec type.Void (at 21 5) ∷ [])) (syntax.Unnamed [] (suffixes [])) (at 21 5) ∷ [])) false (at 20 4) ∷ []))) (syntax.block (block_items (syntax.StatementItem (syntax.Return (syntax.an_expr (syntax.Constant (pos 0) basic.Int (at 36 9))) (at 29 8) (span (at 29 8) (at 37 10))) ∷ [])) (span (at 27 7) (at 39 11))) ∷ syntax.FunctionDefinition (specs (syntax.TypeSpec type.Int (at 41 12) ∷ [])) (syntax.Named [] (name (codes "g") (at 45 13)) (suffixes (syntax.FunctionSuffix (parameters (syntax.parameter (specs (syntax.TypeSpec type.Void (at 47 15) ∷ [])) (syntax.Unnamed [] (suffixes [])) (at 47 15) ∷ [])) false (at 46 14) ∷ []))) (syntax.block (block_items (syntax.StatementItem (syntax.Return (syntax.an_expr (syntax.Call (syntax.Identifier (name (codes "f") (at 62 19))) (syntax.exprs []) (at 63 20))) (at 55 18) (span (at 55 18) (at 65 22))) ∷ [])) (span (at 53 17) (at 67 23))) ∷ [])

-- _Noreturn void f(void);
abbrev pub accepted_declarations_46 : List syntax.External
accepted_declarations_46 = (syntax.ExternalDeclaration (syntax.SimpleDeclaration (specs (syntax.FunctionSpec function.Noreturn (at 1 0) ∷ syntax.TypeSpec type.Void (at 11 1) ∷ [])) (declared (syntax.init_declarator (syntax.Named [] (name (codes "f") (at 16 2)) (suffixes (syntax.FunctionSuffix (parameters (syntax.parameter (specs (syntax.TypeSpec type.Void (at 18 4) ∷ [])) (syntax.Unnamed [] (suffixes [])) (at 18 4) ∷ [])) false (at 17 3) ∷ []))) syntax.no_initializer ∷ []))) ∷ [])

-- extern char * _Owner p;
abbrev pub accepted_declarations_47 : List syntax.External
accepted_declarations_47 = (syntax.ExternalDeclaration (syntax.SimpleDeclaration (specs (syntax.StorageSpec storage.Extern (at 1 0) ∷ syntax.TypeSpec type.Char (at 8 1) ∷ [])) (declared (syntax.init_declarator (syntax.Named (pointer (at 13 2) ((qualifier qual.Owner (at 15 3)) ∷ []) ∷ []) (name (codes "p") (at 22 4)) (suffixes [])) syntax.no_initializer ∷ []))) ∷ [])

-- extern void * _Owner _Opt p;
abbrev pub accepted_declarations_48 : List syntax.External
accepted_declarations_48 = (syntax.ExternalDeclaration (syntax.SimpleDeclaration (specs (syntax.StorageSpec storage.Extern (at 1 0) ∷ syntax.TypeSpec type.Void (at 8 1) ∷ [])) (declared (syntax.init_declarator (syntax.Named (pointer (at 13 2) ((qualifier qual.Owner (at 15 3)) ∷ (qualifier qual.Opt (at 22 4)) ∷ []) ∷ []) (name (codes "p") (at 27 5)) (suffixes [])) syntax.no_initializer ∷ []))) ∷ [])
