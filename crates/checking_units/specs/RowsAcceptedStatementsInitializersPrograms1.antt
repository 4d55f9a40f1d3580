-- accepted: statements, initializers, programs: units of one line, as trees.
use Rattle.std.specs.Prelude.{List, [], ◌∷◌, Some, None, false, pos, codes}
use Rattle.model_grammar.specs.SyntaxForms as syntax
use Rattle.model_types.specs.declared.numbers.Basic.TheVariants as basic
use Rattle.model_types.specs.declared.numbers.BinOp.TheVariants as op
use Rattle.model_types.specs.declared.operators.StepOp.TheVariants as step
use Rattle.model_types.specs.declared.operators.StepSide.TheVariants as side
use Rattle.model_grammar.specs.declared.syntax.StorageWord.TheVariants as storage
use Rattle.model_grammar.specs.declared.syntax.TypeWord.TheVariants as type
use Rattle.model_grammar.specs.declared.syntax.QualifierWord.TheVariants as qual
use Rattle.model_grammar.specs.declared.syntax.PrefixOp.TheVariants as prefix
use Rattle.checking_units.specs.Parts.{at, name, specs, qualifier, pointer, suffixes, parameters, members, enumerators, declared, items, designators, block_items, span}

-- int main(void) { return 1 + 2; }
abbrev pub accepted_statements_initializers_programs_1 : List syntax.External
accepted_statements_initializers_programs_1 = (syntax.FunctionDefinition (specs (syntax.TypeSpec type.Int (at 1 0) ∷ [])) (syntax.Named [] (name (codes "main") (at 5 1)) (suffixes (syntax.FunctionSuffix (parameters (syntax.parameter (specs (syntax.TypeSpec type.Void (at 10 3) ∷ [])) (syntax.Unnamed [] (suffixes [])) (at 10 3) ∷ [])) false (at 9 2) ∷ []))) (syntax.block (block_items (syntax.StatementItem (syntax.Return (syntax.an_expr (syntax.Binary op.Add (syntax.Constant (pos 1) basic.Int (at 25 7)) (syntax.Constant (pos 2) basic.Int (at 29 9)) (at 27 8))) (at 18 6) (span (at 18 6) (at 30 10))) ∷ [])) (span (at 16 5) (at 32 11))) ∷ [])

-- void g(void) { int free; struct s { int free; }; }
abbrev pub accepted_statements_initializers_programs_2 : List syntax.External
accepted_statements_initializers_programs_2 = (syntax.FunctionDefinition (specs (syntax.TypeSpec type.Void (at 1 0) ∷ [])) (syntax.Named [] (name (codes "g") (at 6 1)) (suffixes (syntax.FunctionSuffix (parameters (syntax.parameter (specs (syntax.TypeSpec type.Void (at 8 3) ∷ [])) (syntax.Unnamed [] (suffixes [])) (at 8 3) ∷ [])) false (at 7 2) ∷ []))) (syntax.block (block_items (syntax.DeclarationItem (syntax.SimpleDeclaration (specs (syntax.TypeSpec type.Int (at 16 6) ∷ [])) (declared (syntax.init_declarator (syntax.Named [] (name (codes "free") (at 20 7)) (suffixes [])) syntax.no_initializer ∷ []))) ∷ syntax.DeclarationItem (syntax.SimpleDeclaration (specs (syntax.Struct (Some (name (codes "s") (at 33 10))) (members (syntax.MemberDeclarators (specs (syntax.TypeSpec type.Int (at 37 12) ∷ [])) (syntax.declarators ((syntax.Named [] (name (codes "free") (at 41 13)) (suffixes [])) ∷ [])) ∷ [])) (at 26 9) ∷ [])) (declared [])) ∷ [])) (span (at 14 5) (at 50 17))) ∷ [])

-- static int main(void) { }
abbrev pub accepted_statements_initializers_programs_3 : List syntax.External
accepted_statements_initializers_programs_3 = (syntax.FunctionDefinition (specs (syntax.StorageSpec storage.Static (at 1 0) ∷ syntax.TypeSpec type.Int (at 8 1) ∷ [])) (syntax.Named [] (name (codes "main") (at 12 2)) (suffixes (syntax.FunctionSuffix (parameters (syntax.parameter (specs (syntax.TypeSpec type.Void (at 17 4) ∷ [])) (syntax.Unnamed [] (suffixes [])) (at 17 4) ∷ [])) false (at 16 3) ∷ []))) (syntax.block (block_items []) (span (at 23 6) (at 25 7))) ∷ [])

-- extern int a[]; int a[3];
abbrev pub accepted_statements_initializers_programs_4 : List syntax.External
accepted_statements_initializers_programs_4 = (syntax.ExternalDeclaration (syntax.SimpleDeclaration (specs (syntax.StorageSpec storage.Extern (at 1 0) ∷ syntax.TypeSpec type.Int (at 8 1) ∷ [])) (declared (syntax.init_declarator (syntax.Named [] (name (codes "a") (at 12 2)) (suffixes (syntax.ArraySuffix syntax.no_expr (at 13 3) ∷ []))) syntax.no_initializer ∷ []))) ∷ syntax.ExternalDeclaration (syntax.SimpleDeclaration (specs (syntax.TypeSpec type.Int (at 17 6) ∷ [])) (declared (syntax.init_declarator (syntax.Named [] (name (codes "a") (at 21 7)) (suffixes (syntax.ArraySuffix (syntax.an_expr (syntax.Constant (pos 3) basic.Int (at 23 9))) (at 22 8) ∷ []))) syntax.no_initializer ∷ []))) ∷ [])

-- void g(void) { extern int x = 1; }
abbrev pub accepted_statements_initializers_programs_5 : List syntax.External
accepted_statements_initializers_programs_5 = (syntax.FunctionDefinition (specs (syntax.TypeSpec type.Void (at 1 0) ∷ [])) (syntax.Named [] (name (codes "g") (at 6 1)) (suffixes (syntax.FunctionSuffix (parameters (syntax.parameter (specs (syntax.TypeSpec type.Void (at 8 3) ∷ [])) (syntax.Unnamed [] (suffixes [])) (at 8 3) ∷ [])) false (at 7 2) ∷ []))) (syntax.block (block_items (syntax.DeclarationItem (syntax.SimpleDeclaration (specs (syntax.StorageSpec storage.Extern (at 16 6) ∷ syntax.TypeSpec type.Int (at 23 7) ∷ [])) (declared (syntax.init_declarator (syntax.Named [] (name (codes "x") (at 27 8)) (suffixes [])) (syntax.an_initializer (syntax.Single (syntax.Constant (pos 1) basic.Int (at 31 10)))) ∷ []))) ∷ [])) (span (at 14 5) (at 34 12))) ∷ [])

-- int; static int; const extern int;
abbrev pub accepted_statements_initializers_programs_6 : List syntax.External
accepted_statements_initializers_programs_6 = (syntax.ExternalDeclaration (syntax.SimpleDeclaration (specs (syntax.TypeSpec type.Int (at 1 0) ∷ [])) (declared [])) ∷ syntax.ExternalDeclaration (syntax.SimpleDeclaration (specs (syntax.StorageSpec storage.Static (at 6 2) ∷ syntax.TypeSpec type.Int (at 13 3) ∷ [])) (declared [])) ∷ syntax.ExternalDeclaration (syntax.SimpleDeclaration (specs (syntax.QualifierSpec (qualifier qual.Const (at 18 5)) ∷ syntax.StorageSpec storage.Extern (at 24 6) ∷ syntax.TypeSpec type.Int (at 31 7) ∷ [])) (declared [])) ∷ [])

-- enum e : int; enum e : char; enum e x;
abbrev pub accepted_statements_initializers_programs_7 : List syntax.External
accepted_statements_initializers_programs_7 = (syntax.ExternalDeclaration (syntax.SimpleDeclaration (specs (syntax.EnumTag (name (codes "e") (at 6 1)) (syntax.some_specs (specs (syntax.TypeSpec type.Int (at 10 3) ∷ []))) (at 1 0) ∷ [])) (declared [])) ∷ syntax.ExternalDeclaration (syntax.SimpleDeclaration (specs (syntax.EnumTag (name (codes "e") (at 20 6)) (syntax.some_specs (specs (syntax.TypeSpec type.Char (at 24 8) ∷ []))) (at 15 5) ∷ [])) (declared [])) ∷ syntax.ExternalDeclaration (syntax.SimpleDeclaration (specs (syntax.EnumTag (name (codes "e") (at 35 11)) syntax.none_of_specs (at 30 10) ∷ [])) (declared (syntax.init_declarator (syntax.Named [] (name (codes "x") (at 37 12)) (suffixes [])) syntax.no_initializer ∷ []))) ∷ [])

-- typedef void V; int f(V);
abbrev pub accepted_statements_initializers_programs_8 : List syntax.External
accepted_statements_initializers_programs_8 = (syntax.ExternalDeclaration (syntax.SimpleDeclaration (specs (syntax.StorageSpec storage.Typedef (at 1 0) ∷ syntax.TypeSpec type.Void (at 9 1) ∷ [])) (declared (syntax.init_declarator (syntax.Named [] (name (codes "V") (at 14 2)) (suffixes [])) syntax.no_initializer ∷ []))) ∷ syntax.ExternalDeclaration (syntax.SimpleDeclaration (specs (syntax.TypeSpec type.Int (at 17 4) ∷ [])) (declared (syntax.init_declarator (syntax.Named [] (name (codes "f") (at 21 5)) (suffixes (syntax.FunctionSuffix (parameters (syntax.parameter (specs (syntax.TypedefName (name (codes "V") (at 23 7)) ∷ [])) (syntax.Unnamed [] (suffixes [])) (at 23 7) ∷ [])) false (at 22 6) ∷ []))) syntax.no_initializer ∷ []))) ∷ [])

-- void g(int (*p)[3]) { const int (*q)[3] = p; }
abbrev pub accepted_statements_initializers_programs_9 : List syntax.External
accepted_statements_initializers_programs_9 = (syntax.FunctionDefinition (specs (syntax.TypeSpec type.Void (at 1 0) ∷ [])) (syntax.Named [] (name (codes "g") (at 6 1)) (suffixes (syntax.FunctionSuffix (parameters (syntax.parameter (specs (syntax.TypeSpec type.Int (at 8 3) ∷ [])) (syntax.Grouped [] (syntax.Named (pointer (at 13 5) [] ∷ []) (name (codes "p") (at 14 6)) (suffixes [])) (suffixes (syntax.ArraySuffix (syntax.an_expr (syntax.Constant (pos 3) basic.Int (at 17 9))) (at 16 8) ∷ [])) (at 12 4)) (at 8 3) ∷ [])) false (at 7 2) ∷ []))) (syntax.block (block_items (syntax.DeclarationItem (syntax.SimpleDeclaration (specs (syntax.QualifierSpec (qualifier qual.Const (at 23 13)) ∷ syntax.TypeSpec type.Int (at 29 14) ∷ [])) (declared (syntax.init_declarator (syntax.Grouped [] (syntax.Named (pointer (at 34 16) [] ∷ []) (name (codes "q") (at 35 17)) (suffixes [])) (suffixes (syntax.ArraySuffix (syntax.an_expr (syntax.Constant (pos 3) basic.Int (at 38 20))) (at 37 19) ∷ [])) (at 33 15)) (syntax.an_initializer (syntax.Single (syntax.Identifier (name (codes "p") (at 43 23))))) ∷ []))) ∷ [])) (span (at 21 12) (at 46 25))) ∷ [])

-- void g(void) { auto x = 1; int y = x; }
abbrev pub accepted_statements_initializers_programs_10 : List syntax.External
accepted_statements_initializers_programs_10 = (syntax.FunctionDefinition (specs (syntax.TypeSpec type.Void (at 1 0) ∷ [])) (syntax.Named [] (name (codes "g") (at 6 1)) (suffixes (syntax.FunctionSuffix (parameters (syntax.parameter (specs (syntax.TypeSpec type.Void (at 8 3) ∷ [])) (syntax.Unnamed [] (suffixes [])) (at 8 3) ∷ [])) false (at 7 2) ∷ []))) (syntax.block (block_items (syntax.DeclarationItem (syntax.SimpleDeclaration (specs (syntax.StorageSpec storage.Auto (at 16 6) ∷ [])) (declared (syntax.init_declarator (syntax.Named [] (name (codes "x") (at 21 7)) (suffixes [])) (syntax.an_initializer (syntax.Single (syntax.Constant (pos 1) basic.Int (at 25 9)))) ∷ []))) ∷ syntax.DeclarationItem (syntax.SimpleDeclaration (specs (syntax.TypeSpec type.Int (at 28 11) ∷ [])) (declared (syntax.init_declarator (syntax.Named [] (name (codes "y") (at 32 12)) (suffixes [])) (syntax.an_initializer (syntax.Single (syntax.Identifier (name (codes "x") (at 36 14))))) ∷ []))) ∷ [])) (span (at 14 5) (at 39 16))) ∷ [])

-- void f(void); void g(void) { *f; **f; (*f)(); }
abbrev pub accepted_statements_initializers_programs_11 : List syntax.External
accepted_statements_initializers_programs_11 = (syntax.ExternalDeclaration (syntax.SimpleDeclaration (specs (syntax.TypeSpec type.Void (at 1 0) ∷ [])) (declared (syntax.init_declarator (syntax.Named [] (name (codes "f") (at 6 1)) (suffixes (syntax.FunctionSuffix (parameters (syntax.parameter (specs (syntax.TypeSpec type.Void (at 8 3) ∷ [])) (syntax.Unnamed [] (suffixes [])) (at 8 3) ∷ [])) false (at 7 2) ∷ []))) syntax.no_initializer ∷ []))) ∷ syntax.FunctionDefinition (specs (syntax.TypeSpec type.Void (at 15 6) ∷ [])) (syntax.Named [] (name (codes "g") (at 20 7)) (suffixes (syntax.FunctionSuffix (parameters (syntax.parameter (specs (syntax.TypeSpec type.Void (at 22 9) ∷ [])) (syntax.Unnamed [] (suffixes [])) (at 22 9) ∷ [])) false (at 21 8) ∷ []))) (syntax.block (block_items (syntax.StatementItem (syntax.ExpressionStatement (syntax.an_expr (syntax.Unary prefix.Indirection (syntax.Identifier (name (codes "f") (at 31 13))) (at 30 12))) (span (at 30 12) (at 32 14))) ∷ syntax.StatementItem (syntax.ExpressionStatement (syntax.an_expr (syntax.Unary prefix.Indirection (syntax.Unary prefix.Indirection (syntax.Identifier (name (codes "f") (at 36 17))) (at 35 16)) (at 34 15))) (span (at 34 15) (at 37 18))) ∷ syntax.StatementItem (syntax.ExpressionStatement (syntax.an_expr (syntax.Call (syntax.Parenthesized (syntax.Unary prefix.Indirection (syntax.Identifier (name (codes "f") (at 41 21))) (at 40 20)) (at 39 19)) (syntax.exprs []) (at 43 23))) (span (at 39 19) (at 45 25))) ∷ [])) (span (at 28 11) (at 47 26))) ∷ [])

-- int g(int *p) { return p < 0; }
abbrev pub accepted_statements_initializers_programs_12 : List syntax.External
accepted_statements_initializers_programs_12 = (syntax.FunctionDefinition (specs (syntax.TypeSpec type.Int (at 1 0) ∷ [])) (syntax.Named [] (name (codes "g") (at 5 1)) (suffixes (syntax.FunctionSuffix (parameters (syntax.parameter (specs (syntax.TypeSpec type.Int (at 7 3) ∷ [])) (syntax.Named (pointer (at 11 4) [] ∷ []) (name (codes "p") (at 12 5)) (suffixes [])) (at 7 3) ∷ [])) false (at 6 2) ∷ []))) (syntax.block (block_items (syntax.StatementItem (syntax.Return (syntax.an_expr (syntax.Binary op.Less (syntax.Identifier (name (codes "p") (at 24 9))) (syntax.Constant (pos 0) basic.Int (at 28 11)) (at 26 10))) (at 17 8) (span (at 17 8) (at 29 12))) ∷ [])) (span (at 15 7) (at 31 13))) ∷ [])

-- void g(void) { enum { Z }; void (*f)(void) = Z; int *p = 1 - 1; p = '\0'; p = false; }
abbrev pub accepted_statements_initializers_programs_13 : List syntax.External
accepted_statements_initializers_programs_13 = (syntax.FunctionDefinition (specs (syntax.TypeSpec type.Void (at 1 0) ∷ [])) (syntax.Named [] (name (codes "g") (at 6 1)) (suffixes (syntax.FunctionSuffix (parameters (syntax.parameter (specs (syntax.TypeSpec type.Void (at 8 3) ∷ [])) (syntax.Unnamed [] (suffixes [])) (at 8 3) ∷ [])) false (at 7 2) ∷ []))) (syntax.block (block_items (syntax.DeclarationItem (syntax.SimpleDeclaration (specs (syntax.Enum None syntax.none_of_specs (enumerators (syntax.enumerator (name (codes "Z") (at 23 8)) syntax.no_expr ∷ [])) (at 16 6) ∷ [])) (declared [])) ∷ syntax.DeclarationItem (syntax.SimpleDeclaration (specs (syntax.TypeSpec type.Void (at 28 11) ∷ [])) (declared (syntax.init_declarator (syntax.Grouped [] (syntax.Named (pointer (at 34 13) [] ∷ []) (name (codes "f") (at 35 14)) (suffixes [])) (suffixes (syntax.FunctionSuffix (parameters (syntax.parameter (specs (syntax.TypeSpec type.Void (at 38 17) ∷ [])) (syntax.Unnamed [] (suffixes [])) (at 38 17) ∷ [])) false (at 37 16) ∷ [])) (at 33 12)) (syntax.an_initializer (syntax.Single (syntax.Identifier (name (codes "Z") (at 46 20))))) ∷ []))) ∷ syntax.DeclarationItem (syntax.SimpleDeclaration (specs (syntax.TypeSpec type.Int (at 49 22) ∷ [])) (declared (syntax.init_declarator (syntax.Named (pointer (at 53 23) [] ∷ []) (name (codes "p") (at 54 24)) (suffixes [])) (syntax.an_initializer (syntax.Single (syntax.Binary op.Sub (syntax.Constant (pos 1) basic.Int (at 58 26)) (syntax.Constant (pos 1) basic.Int (at 62 28)) (at 60 27)))) ∷ []))) ∷ syntax.StatementItem (syntax.ExpressionStatement (syntax.an_expr (syntax.Assign (syntax.Identifier (name (codes "p") (at 65 30))) (syntax.Constant (pos 0) basic.Int (at 69 32)) (at 67 31))) (span (at 65 30) (at 73 33))) ∷ syntax.StatementItem (syntax.ExpressionStatement (syntax.an_expr (syntax.Assign (syntax.Identifier (name (codes "p") (at 75 34))) (syntax.Truth false (at 79 36)) (at 77 35))) (span (at 75 34) (at 84 37))) ∷ [])) (span (at 14 5) (at 86 38))) ∷ [])

-- void g(void) { register int x; &x; }
abbrev pub accepted_statements_initializers_programs_14 : List syntax.External
accepted_statements_initializers_programs_14 = (syntax.FunctionDefinition (specs (syntax.TypeSpec type.Void (at 1 0) ∷ [])) (syntax.Named [] (name (codes "g") (at 6 1)) (suffixes (syntax.FunctionSuffix (parameters (syntax.parameter (specs (syntax.TypeSpec type.Void (at 8 3) ∷ [])) (syntax.Unnamed [] (suffixes [])) (at 8 3) ∷ [])) false (at 7 2) ∷ []))) (syntax.block (block_items (syntax.DeclarationItem (syntax.SimpleDeclaration (specs (syntax.StorageSpec storage.Register (at 16 6) ∷ syntax.TypeSpec type.Int (at 25 7) ∷ [])) (declared (syntax.init_declarator (syntax.Named [] (name (codes "x") (at 29 8)) (suffixes [])) syntax.no_initializer ∷ []))) ∷ syntax.StatementItem (syntax.ExpressionStatement (syntax.an_expr (syntax.Unary prefix.Address (syntax.Identifier (name (codes "x") (at 33 11))) (at 32 10))) (span (at 32 10) (at 34 12))) ∷ [])) (span (at 14 5) (at 36 13))) ∷ [])

-- static int f(void); int g(void) { return sizeof(f()); }
abbrev pub accepted_statements_initializers_programs_15 : List syntax.External
accepted_statements_initializers_programs_15 = (syntax.ExternalDeclaration (syntax.SimpleDeclaration (specs (syntax.StorageSpec storage.Static (at 1 0) ∷ syntax.TypeSpec type.Int (at 8 1) ∷ [])) (declared (syntax.init_declarator (syntax.Named [] (name (codes "f") (at 12 2)) (suffixes (syntax.FunctionSuffix (parameters (syntax.parameter (specs (syntax.TypeSpec type.Void (at 14 4) ∷ [])) (syntax.Unnamed [] (suffixes [])) (at 14 4) ∷ [])) false (at 13 3) ∷ []))) syntax.no_initializer ∷ []))) ∷ syntax.FunctionDefinition (specs (syntax.TypeSpec type.Int (at 21 7) ∷ [])) (syntax.Named [] (name (codes "g") (at 25 8)) (suffixes (syntax.FunctionSuffix (parameters (syntax.parameter (specs (syntax.TypeSpec type.Void (at 27 10) ∷ [])) (syntax.Unnamed [] (suffixes [])) (at 27 10) ∷ [])) false (at 26 9) ∷ []))) (syntax.block (block_items (syntax.StatementItem (syntax.Return (syntax.an_expr (syntax.SizeofExpr (syntax.Parenthesized (syntax.Call (syntax.Identifier (name (codes "f") (at 49 16))) (syntax.exprs []) (at 50 17)) (at 48 15)) (at 42 14))) (at 35 13) (span (at 35 13) (at 53 20))) ∷ [])) (span (at 33 12) (at 55 21))) ∷ [])

-- constexpr int x = {}; constexpr int y = {5};
abbrev pub accepted_statements_initializers_programs_16 : List syntax.External
accepted_statements_initializers_programs_16 = (syntax.ExternalDeclaration (syntax.SimpleDeclaration (specs (syntax.StorageSpec storage.Constexpr (at 1 0) ∷ syntax.TypeSpec type.Int (at 11 1) ∷ [])) (declared (syntax.init_declarator (syntax.Named [] (name (codes "x") (at 15 2)) (suffixes [])) (syntax.an_initializer (syntax.Braced (syntax.braces (items []) (at 19 4)))) ∷ []))) ∷ syntax.ExternalDeclaration (syntax.SimpleDeclaration (specs (syntax.StorageSpec storage.Constexpr (at 23 7) ∷ syntax.TypeSpec type.Int (at 33 8) ∷ [])) (declared (syntax.init_declarator (syntax.Named [] (name (codes "y") (at 37 9)) (suffixes [])) (syntax.an_initializer (syntax.Braced (syntax.braces (items (syntax.item (designators []) (syntax.Single (syntax.Constant (pos 5) basic.Int (at 42 12))) ∷ [])) (at 41 11)))) ∷ []))) ∷ [])

-- unsigned char a[2] = "x"; signed char b[] = "x"; char c[] = {"x"};
abbrev pub accepted_statements_initializers_programs_17 : List syntax.External
accepted_statements_initializers_programs_17 = (syntax.ExternalDeclaration (syntax.SimpleDeclaration (specs (syntax.TypeSpec type.Unsigned (at 1 0) ∷ syntax.TypeSpec type.Char (at 10 1) ∷ [])) (declared (syntax.init_declarator (syntax.Named [] (name (codes "a") (at 15 2)) (suffixes (syntax.ArraySuffix (syntax.an_expr (syntax.Constant (pos 2) basic.Int (at 17 4))) (at 16 3) ∷ []))) (syntax.an_initializer (syntax.Single (syntax.Text (codes "x") (at 22 7)))) ∷ []))) ∷ syntax.ExternalDeclaration (syntax.SimpleDeclaration (specs (syntax.TypeSpec type.Signed (at 27 9) ∷ syntax.TypeSpec type.Char (at 34 10) ∷ [])) (declared (syntax.init_declarator (syntax.Named [] (name (codes "b") (at 39 11)) (suffixes (syntax.ArraySuffix syntax.no_expr (at 40 12) ∷ []))) (syntax.an_initializer (syntax.Single (syntax.Text (codes "x") (at 45 15)))) ∷ []))) ∷ syntax.ExternalDeclaration (syntax.SimpleDeclaration (specs (syntax.TypeSpec type.Char (at 50 17) ∷ [])) (declared (syntax.init_declarator (syntax.Named [] (name (codes "c") (at 55 18)) (suffixes (syntax.ArraySuffix syntax.no_expr (at 56 19) ∷ []))) (syntax.an_initializer (syntax.Braced (syntax.braces (items (syntax.item (designators []) (syntax.Single (syntax.Text (codes "x") (at 62 23))) ∷ [])) (at 61 22)))) ∷ []))) ∷ [])

-- char c[3] = "abc";
abbrev pub accepted_statements_initializers_programs_18 : List syntax.External
accepted_statements_initializers_programs_18 = (syntax.ExternalDeclaration (syntax.SimpleDeclaration (specs (syntax.TypeSpec type.Char (at 1 0) ∷ [])) (declared (syntax.init_declarator (syntax.Named [] (name (codes "c") (at 6 1)) (suffixes (syntax.ArraySuffix (syntax.an_expr (syntax.Constant (pos 3) basic.Int (at 8 3))) (at 7 2) ∷ []))) (syntax.an_initializer (syntax.Single (syntax.Text (codes "abc") (at 13 6)))) ∷ []))) ∷ [])

-- int x = {{1}};
abbrev pub accepted_statements_initializers_programs_19 : List syntax.External
accepted_statements_initializers_programs_19 = (syntax.ExternalDeclaration (syntax.SimpleDeclaration (specs (syntax.TypeSpec type.Int (at 1 0) ∷ [])) (declared (syntax.init_declarator (syntax.Named [] (name (codes "x") (at 5 1)) (suffixes [])) (syntax.an_initializer (syntax.Braced (syntax.braces (items (syntax.item (designators []) (syntax.Braced (syntax.braces (items (syntax.item (designators []) (syntax.Single (syntax.Constant (pos 1) basic.Int (at 11 5))) ∷ [])) (at 10 4))) ∷ [])) (at 9 3)))) ∷ []))) ∷ [])

-- int *p = (int []){1, 2};
abbrev pub accepted_statements_initializers_programs_20 : List syntax.External
accepted_statements_initializers_programs_20 = (syntax.ExternalDeclaration (syntax.SimpleDeclaration (specs (syntax.TypeSpec type.Int (at 1 0) ∷ [])) (declared (syntax.init_declarator (syntax.Named (pointer (at 5 1) [] ∷ []) (name (codes "p") (at 6 2)) (suffixes [])) (syntax.an_initializer (syntax.Single (syntax.CompoundLiteral (syntax.type_name (specs (syntax.TypeSpec type.Int (at 11 5) ∷ [])) (syntax.Unnamed [] (suffixes (syntax.ArraySuffix syntax.no_expr (at 15 6) ∷ [])))) (syntax.braces (items (syntax.item (designators []) (syntax.Single (syntax.Constant (pos 1) basic.Int (at 19 10))) ∷ syntax.item (designators []) (syntax.Single (syntax.Constant (pos 2) basic.Int (at 22 12))) ∷ [])) (at 18 9)) (at 10 4)))) ∷ []))) ∷ [])

-- void f(void); void g(int c) { if (c) defer f(); while (c) defer f(); defer defer f(); }
abbrev pub accepted_statements_initializers_programs_21 : List syntax.External
accepted_statements_initializers_programs_21 = (syntax.ExternalDeclaration (syntax.SimpleDeclaration (specs (syntax.TypeSpec type.Void (at 1 0) ∷ [])) (declared (syntax.init_declarator (syntax.Named [] (name (codes "f") (at 6 1)) (suffixes (syntax.FunctionSuffix (parameters (syntax.parameter (specs (syntax.TypeSpec type.Void (at 8 3) ∷ [])) (syntax.Unnamed [] (suffixes [])) (at 8 3) ∷ [])) false (at 7 2) ∷ []))) syntax.no_initializer ∷ []))) ∷ syntax.FunctionDefinition (specs (syntax.TypeSpec type.Void (at 15 6) ∷ [])) (syntax.Named [] (name (codes "g") (at 20 7)) (suffixes (syntax.FunctionSuffix (parameters (syntax.parameter (specs (syntax.TypeSpec type.Int (at 22 9) ∷ [])) (syntax.Named [] (name (codes "c") (at 26 10)) (suffixes [])) (at 22 9) ∷ [])) false (at 21 8) ∷ []))) (syntax.block (block_items (syntax.StatementItem (syntax.If syntax.no_declaration (syntax.Identifier (name (codes "c") (at 35 15))) (syntax.Defer (syntax.ExpressionStatement (syntax.an_expr (syntax.Call (syntax.Identifier (name (codes "f") (at 44 18))) (syntax.exprs []) (at 45 19))) (span (at 44 18) (at 47 21))) (at 38 17) (span (at 38 17) (at 47 21))) syntax.no_statement (span (at 31 13) (at 47 21))) ∷ syntax.StatementItem (syntax.While (syntax.Identifier (name (codes "c") (at 56 24))) (syntax.Defer (syntax.ExpressionStatement (syntax.an_expr (syntax.Call (syntax.Identifier (name (codes "f") (at 65 27))) (syntax.exprs []) (at 66 28))) (span (at 65 27) (at 68 30))) (at 59 26) (span (at 59 26) (at 68 30))) (span (at 49 22) (at 68 30))) ∷ syntax.StatementItem (syntax.Defer (syntax.Defer (syntax.ExpressionStatement (syntax.an_expr (syntax.Call (syntax.Identifier (name (codes "f") (at 82 33))) (syntax.exprs []) (at 83 34))) (span (at 82 33) (at 85 36))) (at 76 32) (span (at 76 32) (at 85 36))) (at 70 31) (span (at 70 31) (at 85 36))) ∷ [])) (span (at 29 12) (at 87 37))) ∷ [])

-- int g(int n) { for (int i = 0; i < n; i++) { if (i == 3) continue; switch (i) { case 1: break; default: n -= i; } } do n--; while (n > 0); return n; }
abbrev pub accepted_statements_initializers_programs_22 : List syntax.External
accepted_statements_initializers_programs_22 = (syntax.FunctionDefinition (specs (syntax.TypeSpec type.Int (at 1 0) ∷ [])) (syntax.Named [] (name (codes "g") (at 5 1)) (suffixes (syntax.FunctionSuffix (parameters (syntax.parameter (specs (syntax.TypeSpec type.Int (at 7 3) ∷ [])) (syntax.Named [] (name (codes "n") (at 11 4)) (suffixes [])) (at 7 3) ∷ [])) false (at 6 2) ∷ []))) (syntax.block (block_items (syntax.StatementItem (syntax.ForDeclaration (syntax.SimpleDeclaration (specs (syntax.TypeSpec type.Int (at 21 9) ∷ [])) (declared (syntax.init_declarator (syntax.Named [] (name (codes "i") (at 25 10)) (suffixes [])) (syntax.an_initializer (syntax.Single (syntax.Constant (pos 0) basic.Int (at 29 12)))) ∷ []))) (syntax.an_expr (syntax.Binary op.Less (syntax.Identifier (name (codes "i") (at 32 14))) (syntax.Identifier (name (codes "n") (at 36 16))) (at 34 15))) (syntax.an_expr (syntax.Step step.Increment side.Postfix (syntax.Identifier (name (codes "i") (at 39 18))) (at 40 19))) (syntax.CompoundStatement (syntax.block (block_items (syntax.StatementItem (syntax.If syntax.no_declaration (syntax.Binary op.Equal (syntax.Identifier (name (codes "i") (at 50 24))) (syntax.Constant (pos 3) basic.Int (at 55 26)) (at 52 25)) (syntax.Continue (at 58 28) (span (at 58 28) (at 66 29))) syntax.no_statement (span (at 46 22) (at 66 29))) ∷ syntax.StatementItem (syntax.Switch (syntax.Identifier (name (codes "i") (at 76 32))) (syntax.CompoundStatement (syntax.block (block_items (syntax.CaseLabel (syntax.Constant (pos 1) basic.Int (at 86 36)) (at 81 35) ∷ syntax.StatementItem (syntax.Break (at 89 38) (span (at 89 38) (at 94 39))) ∷ syntax.DefaultLabel (at 96 40) ∷ syntax.StatementItem (syntax.ExpressionStatement (syntax.an_expr (syntax.AssignBy op.Sub (syntax.Identifier (name (codes "n") (at 105 42))) (syntax.Identifier (name (codes "i") (at 110 44))) (at 107 43))) (span (at 105 42) (at 111 45))) ∷ [])) (span (at 79 34) (at 113 46))) (span (at 79 34) (at 113 46))) (span (at 68 30) (at 113 46))) ∷ [])) (span (at 44 21) (at 115 47))) (span (at 44 21) (at 115 47))) (span (at 16 7) (at 115 47))) ∷ syntax.StatementItem (syntax.DoWhile (syntax.ExpressionStatement (syntax.an_expr (syntax.Step step.Decrement side.Postfix (syntax.Identifier (name (codes "n") (at 120 49))) (at 121 50))) (span (at 120 49) (at 123 51))) (syntax.Binary op.Greater (syntax.Identifier (name (codes "n") (at 132 54))) (syntax.Constant (pos 0) basic.Int (at 136 56)) (at 134 55)) (span (at 117 48) (at 138 58))) ∷ syntax.StatementItem (syntax.Return (syntax.an_expr (syntax.Identifier (name (codes "n") (at 147 60)))) (at 140 59) (span (at 140 59) (at 148 61))) ∷ [])) (span (at 14 6) (at 150 62))) ∷ [])

-- static int h(int); static int h(int x) { return x; } int g(void) { return h(3); }
abbrev pub accepted_statements_initializers_programs_23 : List syntax.External
accepted_statements_initializers_programs_23 = (syntax.ExternalDeclaration (syntax.SimpleDeclaration (specs (syntax.StorageSpec storage.Static (at 1 0) ∷ syntax.TypeSpec type.Int (at 8 1) ∷ [])) (declared (syntax.init_declarator (syntax.Named [] (name (codes "h") (at 12 2)) (suffixes (syntax.FunctionSuffix (parameters (syntax.parameter (specs (syntax.TypeSpec type.Int (at 14 4) ∷ [])) (syntax.Unnamed [] (suffixes [])) (at 14 4) ∷ [])) false (at 13 3) ∷ []))) syntax.no_initializer ∷ []))) ∷ syntax.FunctionDefinition (specs (syntax.StorageSpec storage.Static (at 20 7) ∷ syntax.TypeSpec type.Int (at 27 8) ∷ [])) (syntax.Named [] (name (codes "h") (at 31 9)) (suffixes (syntax.FunctionSuffix (parameters (syntax.parameter (specs (syntax.TypeSpec type.Int (at 33 11) ∷ [])) (syntax.Named [] (name (codes "x") (at 37 12)) (suffixes [])) (at 33 11) ∷ [])) false (at 32 10) ∷ []))) (syntax.block (block_items (syntax.StatementItem (syntax.Return (syntax.an_expr (syntax.Identifier (name (codes "x") (at 49 16)))) (at 42 15) (span (at 42 15) (at 50 17))) ∷ [])) (span (at 40 14) (at 52 18))) ∷ syntax.FunctionDefinition (specs (syntax.TypeSpec type.Int (at 54 19) ∷ [])) (syntax.Named [] (name (codes "g") (at 58 20)) (suffixes (syntax.FunctionSuffix (parameters (syntax.parameter (specs (syntax.TypeSpec type.Void (at 60 22) ∷ [])) (syntax.Unnamed [] (suffixes [])) (at 60 22) ∷ [])) false (at 59 21) ∷ []))) (syntax.block (block_items (syntax.StatementItem (syntax.Return (syntax.an_expr (syntax.Call (syntax.Identifier (name (codes "h") (at 75 26))) (syntax.exprs ((syntax.Constant (pos 3) basic.Int (at 77 28)) ∷ [])) (at 76 27))) (at 68 25) (span (at 68 25) (at 79 30))) ∷ [])) (span (at 66 24) (at 81 31))) ∷ [])

-- struct s { int a; struct s *next; }; struct s t[2] = { [1] = { .a = 1, .next = t }, [0] = { 2, &t[1] } };
abbrev pub accepted_statements_initializers_programs_24 : List syntax.External
accepted_statements_initializers_programs_24 = (syntax.ExternalDeclaration (syntax.SimpleDeclaration (specs (syntax.Struct (Some (name (codes "s") (at 8 1))) (members (syntax.MemberDeclarators (specs (syntax.TypeSpec type.Int (at 12 3) ∷ [])) (syntax.declarators ((syntax.Named [] (name (codes "a") (at 16 4)) (suffixes [])) ∷ [])) ∷ syntax.MemberDeclarators (specs (syntax.StructTag (name (codes "s") (at 26 7)) (at 19 6) ∷ [])) (syntax.declarators ((syntax.Named (pointer (at 28 8) [] ∷ []) (name (codes "next") (at 29 9)) (suffixes [])) ∷ [])) ∷ [])) (at 1 0) ∷ [])) (declared [])) ∷ syntax.ExternalDeclaration (syntax.SimpleDeclaration (specs (syntax.StructTag (name (codes "s") (at 45 14)) (at 38 13) ∷ [])) (declared (syntax.init_declarator (syntax.Named [] (name (codes "t") (at 47 15)) (suffixes (syntax.ArraySuffix (syntax.an_expr (syntax.Constant (pos 2) basic.Int (at 49 17))) (at 48 16) ∷ []))) (syntax.an_initializer (syntax.Braced (syntax.braces (items (syntax.item (designators (syntax.ElementDesignator (syntax.Constant (pos 1) basic.Int (at 57 22)) (at 56 21) ∷ [])) (syntax.Braced (syntax.braces (items (syntax.item (designators (syntax.MemberDesignator (name (codes "a") (at 65 27)) (at 64 26) ∷ [])) (syntax.Single (syntax.Constant (pos 1) basic.Int (at 69 29))) ∷ syntax.item (designators (syntax.MemberDesignator (name (codes "next") (at 73 32)) (at 72 31) ∷ [])) (syntax.Single (syntax.Identifier (name (codes "t") (at 80 34)))) ∷ [])) (at 62 25))) ∷ syntax.item (designators (syntax.ElementDesignator (syntax.Constant (pos 0) basic.Int (at 86 38)) (at 85 37) ∷ [])) (syntax.Braced (syntax.braces (items (syntax.item (designators []) (syntax.Single (syntax.Constant (pos 2) basic.Int (at 93 42))) ∷ syntax.item (designators []) (syntax.Single (syntax.Unary prefix.Address (syntax.Index (syntax.Identifier (name (codes "t") (at 97 45))) (syntax.Constant (pos 1) basic.Int (at 99 47)) (at 98 46)) (at 96 44))) ∷ [])) (at 91 41))) ∷ [])) (at 54 20)))) ∷ []))) ∷ [])
