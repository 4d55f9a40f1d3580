-- accepted: declarations: units of one line, as trees.
use Rattle.std.specs.Prelude.{List, [], ◌∷◌, Some, true, false, pos, codes}
use Rattle.model_grammar.specs.SyntaxForms as syntax
use Rattle.model_types.specs.declared.numbers.Basic.TheVariants as basic
use Rattle.model_types.specs.declared.numbers.BinOp.TheVariants as op
use Rattle.model_grammar.specs.declared.syntax.StorageWord.TheVariants as storage
use Rattle.model_grammar.specs.declared.syntax.TypeWord.TheVariants as type
use Rattle.model_grammar.specs.declared.syntax.QualifierWord.TheVariants as qual
use Rattle.model_grammar.specs.declared.syntax.TypeofWord.TheVariants as word
use Rattle.model_grammar.specs.declared.syntax.PrefixOp.TheVariants as prefix
use Rattle.checking_units.specs.Parts.{at, name, specs, qualifier, pointer, suffixes, parameters, members, declared, items, designators, block_items, span}

-- typedef void V; int f(V); int f();
abbrev pub accepted_declarations_73 : List syntax.External
accepted_declarations_73 = (syntax.ExternalDeclaration (syntax.SimpleDeclaration (specs (syntax.StorageSpec storage.Typedef (at 1 0) ∷ syntax.TypeSpec type.Void (at 9 1) ∷ [])) (declared (syntax.init_declarator (syntax.Named [] (name (codes "V") (at 14 2)) (suffixes [])) syntax.no_initializer ∷ []))) ∷ syntax.ExternalDeclaration (syntax.SimpleDeclaration (specs (syntax.TypeSpec type.Int (at 17 4) ∷ [])) (declared (syntax.init_declarator (syntax.Named [] (name (codes "f") (at 21 5)) (suffixes (syntax.FunctionSuffix (parameters (syntax.parameter (specs (syntax.TypedefName (name (codes "V") (at 23 7)) ∷ [])) (syntax.Unnamed [] (suffixes [])) (at 23 7) ∷ [])) false (at 22 6) ∷ []))) syntax.no_initializer ∷ []))) ∷ syntax.ExternalDeclaration (syntax.SimpleDeclaration (specs (syntax.TypeSpec type.Int (at 27 10) ∷ [])) (declared (syntax.init_declarator (syntax.Named [] (name (codes "f") (at 31 11)) (suffixes (syntax.FunctionSuffix (parameters []) false (at 32 12) ∷ []))) syntax.no_initializer ∷ []))) ∷ [])

-- int f(struct s { int a; } *p);
abbrev pub accepted_declarations_74 : List syntax.External
accepted_declarations_74 = (syntax.ExternalDeclaration (syntax.SimpleDeclaration (specs (syntax.TypeSpec type.Int (at 1 0) ∷ [])) (declared (syntax.init_declarator (syntax.Named [] (name (codes "f") (at 5 1)) (suffixes (syntax.FunctionSuffix (parameters (syntax.parameter (specs (syntax.Struct (Some (name (codes "s") (at 14 4))) (members (syntax.MemberDeclarators (specs (syntax.TypeSpec type.Int (at 18 6) ∷ [])) (syntax.declarators ((syntax.Named [] (name (codes "a") (at 22 7)) (suffixes [])) ∷ [])) ∷ [])) (at 7 3) ∷ [])) (syntax.Named (pointer (at 27 10) [] ∷ []) (name (codes "p") (at 28 11)) (suffixes [])) (at 7 3) ∷ [])) false (at 6 2) ∷ []))) syntax.no_initializer ∷ []))) ∷ [])

-- int f(char * _Owner p);
abbrev pub accepted_declarations_75 : List syntax.External
accepted_declarations_75 = (syntax.ExternalDeclaration (syntax.SimpleDeclaration (specs (syntax.TypeSpec type.Int (at 1 0) ∷ [])) (declared (syntax.init_declarator (syntax.Named [] (name (codes "f") (at 5 1)) (suffixes (syntax.FunctionSuffix (parameters (syntax.parameter (specs (syntax.TypeSpec type.Char (at 7 3) ∷ [])) (syntax.Named (pointer (at 12 4) ((qualifier qual.Owner (at 14 5)) ∷ []) ∷ []) (name (codes "p") (at 21 6)) (suffixes [])) (at 7 3) ∷ [])) false (at 6 2) ∷ []))) syntax.no_initializer ∷ []))) ∷ [])

-- int ((x)); int x;
abbrev pub accepted_declarations_76 : List syntax.External
accepted_declarations_76 = (syntax.ExternalDeclaration (syntax.SimpleDeclaration (specs (syntax.TypeSpec type.Int (at 1 0) ∷ [])) (declared (syntax.init_declarator (syntax.Grouped [] (syntax.Grouped [] (syntax.Named [] (name (codes "x") (at 7 3)) (suffixes [])) (suffixes []) (at 6 2)) (suffixes []) (at 5 1)) syntax.no_initializer ∷ []))) ∷ syntax.ExternalDeclaration (syntax.SimpleDeclaration (specs (syntax.TypeSpec type.Int (at 12 7) ∷ [])) (declared (syntax.init_declarator (syntax.Named [] (name (codes "x") (at 16 8)) (suffixes [])) syntax.no_initializer ∷ []))) ∷ [])

-- int (*p)(int), *q, f(int);
abbrev pub accepted_declarations_77 : List syntax.External
accepted_declarations_77 = (syntax.ExternalDeclaration (syntax.SimpleDeclaration (specs (syntax.TypeSpec type.Int (at 1 0) ∷ [])) (declared (syntax.init_declarator (syntax.Grouped [] (syntax.Named (pointer (at 6 2) [] ∷ []) (name (codes "p") (at 7 3)) (suffixes [])) (suffixes (syntax.FunctionSuffix (parameters (syntax.parameter (specs (syntax.TypeSpec type.Int (at 10 6) ∷ [])) (syntax.Unnamed [] (suffixes [])) (at 10 6) ∷ [])) false (at 9 5) ∷ [])) (at 5 1)) syntax.no_initializer ∷ syntax.init_declarator (syntax.Named (pointer (at 16 9) [] ∷ []) (name (codes "q") (at 17 10)) (suffixes [])) syntax.no_initializer ∷ syntax.init_declarator (syntax.Named [] (name (codes "f") (at 20 12)) (suffixes (syntax.FunctionSuffix (parameters (syntax.parameter (specs (syntax.TypeSpec type.Int (at 22 14) ∷ [])) (syntax.Unnamed [] (suffixes [])) (at 22 14) ∷ [])) false (at 21 13) ∷ []))) syntax.no_initializer ∷ []))) ∷ [])

-- int (*p[3])(void);
abbrev pub accepted_declarations_78 : List syntax.External
accepted_declarations_78 = (syntax.ExternalDeclaration (syntax.SimpleDeclaration (specs (syntax.TypeSpec type.Int (at 1 0) ∷ [])) (declared (syntax.init_declarator (syntax.Grouped [] (syntax.Named (pointer (at 6 2) [] ∷ []) (name (codes "p") (at 7 3)) (suffixes (syntax.ArraySuffix (syntax.an_expr (syntax.Constant (pos 3) basic.Int (at 9 5))) (at 8 4) ∷ []))) (suffixes (syntax.FunctionSuffix (parameters (syntax.parameter (specs (syntax.TypeSpec type.Void (at 13 9) ∷ [])) (syntax.Unnamed [] (suffixes [])) (at 13 9) ∷ [])) false (at 12 8) ∷ [])) (at 5 1)) syntax.no_initializer ∷ []))) ∷ [])

-- const int c = 1; typeof(c) d = 2; typeof_unqual(c) e = 3; void f(void) { e = 4; }
abbrev pub accepted_declarations_79 : List syntax.External
accepted_declarations_79 = (syntax.ExternalDeclaration (syntax.SimpleDeclaration (specs (syntax.QualifierSpec (qualifier qual.Const (at 1 0)) ∷ syntax.TypeSpec type.Int (at 7 1) ∷ [])) (declared (syntax.init_declarator (syntax.Named [] (name (codes "c") (at 11 2)) (suffixes [])) (syntax.an_initializer (syntax.Single (syntax.Constant (pos 1) basic.Int (at 15 4)))) ∷ []))) ∷ syntax.ExternalDeclaration (syntax.SimpleDeclaration (specs (syntax.TypeofExpr word.Typeof (syntax.Identifier (name (codes "c") (at 25 8))) (at 18 6) ∷ [])) (declared (syntax.init_declarator (syntax.Named [] (name (codes "d") (at 28 10)) (suffixes [])) (syntax.an_initializer (syntax.Single (syntax.Constant (pos 2) basic.Int (at 32 12)))) ∷ []))) ∷ syntax.ExternalDeclaration (syntax.SimpleDeclaration (specs (syntax.TypeofExpr word.TypeofUnqual (syntax.Identifier (name (codes "c") (at 49 16))) (at 35 14) ∷ [])) (declared (syntax.init_declarator (syntax.Named [] (name (codes "e") (at 52 18)) (suffixes [])) (syntax.an_initializer (syntax.Single (syntax.Constant (pos 3) basic.Int (at 56 20)))) ∷ []))) ∷ syntax.FunctionDefinition (specs (syntax.TypeSpec type.Void (at 59 22) ∷ [])) (syntax.Named [] (name (codes "f") (at 64 23)) (suffixes (syntax.FunctionSuffix (parameters (syntax.parameter (specs (syntax.TypeSpec type.Void (at 66 25) ∷ [])) (syntax.Unnamed [] (suffixes [])) (at 66 25) ∷ [])) false (at 65 24) ∷ []))) (syntax.block (block_items (syntax.StatementItem (syntax.ExpressionStatement (syntax.an_expr (syntax.Assign (syntax.Identifier (name (codes "e") (at 74 28))) (syntax.Constant (pos 4) basic.Int (at 78 30)) (at 76 29))) (span (at 74 28) (at 79 31))) ∷ [])) (span (at 72 27) (at 81 32))) ∷ [])

-- typedef int A[]; A x = {1}, y = {1, 2}; int b[sizeof y == 8 ? 1 : -1];
abbrev pub accepted_declarations_80 : List syntax.External
accepted_declarations_80 = (syntax.ExternalDeclaration (syntax.SimpleDeclaration (specs (syntax.StorageSpec storage.Typedef (at 1 0) ∷ syntax.TypeSpec type.Int (at 9 1) ∷ [])) (declared (syntax.init_declarator (syntax.Named [] (name (codes "A") (at 13 2)) (suffixes (syntax.ArraySuffix syntax.no_expr (at 14 3) ∷ []))) syntax.no_initializer ∷ []))) ∷ syntax.ExternalDeclaration (syntax.SimpleDeclaration (specs (syntax.TypedefName (name (codes "A") (at 18 6)) ∷ [])) (declared (syntax.init_declarator (syntax.Named [] (name (codes "x") (at 20 7)) (suffixes [])) (syntax.an_initializer (syntax.Braced (syntax.braces (items (syntax.item (designators []) (syntax.Single (syntax.Constant (pos 1) basic.Int (at 25 10))) ∷ [])) (at 24 9)))) ∷ syntax.init_declarator (syntax.Named [] (name (codes "y") (at 29 13)) (suffixes [])) (syntax.an_initializer (syntax.Braced (syntax.braces (items (syntax.item (designators []) (syntax.Single (syntax.Constant (pos 1) basic.Int (at 34 16))) ∷ syntax.item (designators []) (syntax.Single (syntax.Constant (pos 2) basic.Int (at 37 18))) ∷ [])) (at 33 15)))) ∷ []))) ∷ syntax.ExternalDeclaration (syntax.SimpleDeclaration (specs (syntax.TypeSpec type.Int (at 41 21) ∷ [])) (declared (syntax.init_declarator (syntax.Named [] (name (codes "b") (at 45 22)) (suffixes (syntax.ArraySuffix (syntax.an_expr (syntax.Conditional (syntax.Binary op.Equal (syntax.SizeofExpr (syntax.Identifier (name (codes "y") (at 54 25))) (at 47 24)) (syntax.Constant (pos 8) basic.Int (at 59 27)) (at 56 26)) (syntax.Constant (pos 1) basic.Int (at 63 29)) (syntax.Unary prefix.Minus (syntax.Constant (pos 1) basic.Int (at 68 32)) (at 67 31)) (at 61 28))) (at 46 23) ∷ []))) syntax.no_initializer ∷ []))) ∷ [])

-- int x; int x = 1;
abbrev pub accepted_declarations_81 : List syntax.External
accepted_declarations_81 = (syntax.ExternalDeclaration (syntax.SimpleDeclaration (specs (syntax.TypeSpec type.Int (at 1 0) ∷ [])) (declared (syntax.init_declarator (syntax.Named [] (name (codes "x") (at 5 1)) (suffixes [])) syntax.no_initializer ∷ []))) ∷ syntax.ExternalDeclaration (syntax.SimpleDeclaration (specs (syntax.TypeSpec type.Int (at 8 3) ∷ [])) (declared (syntax.init_declarator (syntax.Named [] (name (codes "x") (at 12 4)) (suffixes [])) (syntax.an_initializer (syntax.Single (syntax.Constant (pos 1) basic.Int (at 16 6)))) ∷ []))) ∷ [])

-- int x = 1; extern int x; int x;
abbrev pub accepted_declarations_82 : List syntax.External
accepted_declarations_82 = (syntax.ExternalDeclaration (syntax.SimpleDeclaration (specs (syntax.TypeSpec type.Int (at 1 0) ∷ [])) (declared (syntax.init_declarator (syntax.Named [] (name (codes "x") (at 5 1)) (suffixes [])) (syntax.an_initializer (syntax.Single (syntax.Constant (pos 1) basic.Int (at 9 3)))) ∷ []))) ∷ syntax.ExternalDeclaration (syntax.SimpleDeclaration (specs (syntax.StorageSpec storage.Extern (at 12 5) ∷ syntax.TypeSpec type.Int (at 19 6) ∷ [])) (declared (syntax.init_declarator (syntax.Named [] (name (codes "x") (at 23 7)) (suffixes [])) syntax.no_initializer ∷ []))) ∷ syntax.ExternalDeclaration (syntax.SimpleDeclaration (specs (syntax.TypeSpec type.Int (at 26 9) ∷ [])) (declared (syntax.init_declarator (syntax.Named [] (name (codes "x") (at 30 10)) (suffixes [])) syntax.no_initializer ∷ []))) ∷ [])

-- extern int a[];
abbrev pub accepted_declarations_83 : List syntax.External
accepted_declarations_83 = (syntax.ExternalDeclaration (syntax.SimpleDeclaration (specs (syntax.StorageSpec storage.Extern (at 1 0) ∷ syntax.TypeSpec type.Int (at 8 1) ∷ [])) (declared (syntax.init_declarator (syntax.Named [] (name (codes "a") (at 12 2)) (suffixes (syntax.ArraySuffix syntax.no_expr (at 13 3) ∷ []))) syntax.no_initializer ∷ []))) ∷ [])

-- extern struct s x;
abbrev pub accepted_declarations_84 : List syntax.External
accepted_declarations_84 = (syntax.ExternalDeclaration (syntax.SimpleDeclaration (specs (syntax.StorageSpec storage.Extern (at 1 0) ∷ syntax.StructTag (name (codes "s") (at 15 2)) (at 8 1) ∷ [])) (declared (syntax.init_declarator (syntax.Named [] (name (codes "x") (at 17 3)) (suffixes [])) syntax.no_initializer ∷ []))) ∷ [])

-- extern void x;
abbrev pub accepted_declarations_85 : List syntax.External
accepted_declarations_85 = (syntax.ExternalDeclaration (syntax.SimpleDeclaration (specs (syntax.StorageSpec storage.Extern (at 1 0) ∷ syntax.TypeSpec type.Void (at 8 1) ∷ [])) (declared (syntax.init_declarator (syntax.Named [] (name (codes "x") (at 13 2)) (suffixes [])) syntax.no_initializer ∷ []))) ∷ [])

-- int x; void f(void) { extern int x = 1; }
abbrev pub accepted_declarations_86 : List syntax.External
accepted_declarations_86 = (syntax.ExternalDeclaration (syntax.SimpleDeclaration (specs (syntax.TypeSpec type.Int (at 1 0) ∷ [])) (declared (syntax.init_declarator (syntax.Named [] (name (codes "x") (at 5 1)) (suffixes [])) syntax.no_initializer ∷ []))) ∷ syntax.FunctionDefinition (specs (syntax.TypeSpec type.Void (at 8 3) ∷ [])) (syntax.Named [] (name (codes "f") (at 13 4)) (suffixes (syntax.FunctionSuffix (parameters (syntax.parameter (specs (syntax.TypeSpec type.Void (at 15 6) ∷ [])) (syntax.Unnamed [] (suffixes [])) (at 15 6) ∷ [])) false (at 14 5) ∷ []))) (syntax.block (block_items (syntax.DeclarationItem (syntax.SimpleDeclaration (specs (syntax.StorageSpec storage.Extern (at 23 9) ∷ syntax.TypeSpec type.Int (at 30 10) ∷ [])) (declared (syntax.init_declarator (syntax.Named [] (name (codes "x") (at 34 11)) (suffixes [])) (syntax.an_initializer (syntax.Single (syntax.Constant (pos 1) basic.Int (at 38 13)))) ∷ []))) ∷ [])) (span (at 21 8) (at 41 15))) ∷ [])

-- typedef int T = 1;
abbrev pub accepted_declarations_87 : List syntax.External
accepted_declarations_87 = (syntax.ExternalDeclaration (syntax.SimpleDeclaration (specs (syntax.StorageSpec storage.Typedef (at 1 0) ∷ syntax.TypeSpec type.Int (at 9 1) ∷ [])) (declared (syntax.init_declarator (syntax.Named [] (name (codes "T") (at 13 2)) (suffixes [])) (syntax.an_initializer (syntax.Single (syntax.Constant (pos 1) basic.Int (at 17 4)))) ∷ []))) ∷ [])

-- int;
abbrev pub accepted_declarations_88 : List syntax.External
accepted_declarations_88 = (syntax.ExternalDeclaration (syntax.SimpleDeclaration (specs (syntax.TypeSpec type.Int (at 1 0) ∷ [])) (declared [])) ∷ [])

-- static int;
abbrev pub accepted_declarations_89 : List syntax.External
accepted_declarations_89 = (syntax.ExternalDeclaration (syntax.SimpleDeclaration (specs (syntax.StorageSpec storage.Static (at 1 0) ∷ syntax.TypeSpec type.Int (at 8 1) ∷ [])) (declared [])) ∷ [])

-- const extern int;
abbrev pub accepted_declarations_90 : List syntax.External
accepted_declarations_90 = (syntax.ExternalDeclaration (syntax.SimpleDeclaration (specs (syntax.QualifierSpec (qualifier qual.Const (at 1 0)) ∷ syntax.StorageSpec storage.Extern (at 7 1) ∷ syntax.TypeSpec type.Int (at 14 2) ∷ [])) (declared [])) ∷ [])

-- int a[] = {1, 2}; int b[sizeof a == 8 ? 1 : -1];
abbrev pub accepted_declarations_91 : List syntax.External
accepted_declarations_91 = (syntax.ExternalDeclaration (syntax.SimpleDeclaration (specs (syntax.TypeSpec type.Int (at 1 0) ∷ [])) (declared (syntax.init_declarator (syntax.Named [] (name (codes "a") (at 5 1)) (suffixes (syntax.ArraySuffix syntax.no_expr (at 6 2) ∷ []))) (syntax.an_initializer (syntax.Braced (syntax.braces (items (syntax.item (designators []) (syntax.Single (syntax.Constant (pos 1) basic.Int (at 12 6))) ∷ syntax.item (designators []) (syntax.Single (syntax.Constant (pos 2) basic.Int (at 15 8))) ∷ [])) (at 11 5)))) ∷ []))) ∷ syntax.ExternalDeclaration (syntax.SimpleDeclaration (specs (syntax.TypeSpec type.Int (at 19 11) ∷ [])) (declared (syntax.init_declarator (syntax.Named [] (name (codes "b") (at 23 12)) (suffixes (syntax.ArraySuffix (syntax.an_expr (syntax.Conditional (syntax.Binary op.Equal (syntax.SizeofExpr (syntax.Identifier (name (codes "a") (at 32 15))) (at 25 14)) (syntax.Constant (pos 8) basic.Int (at 37 17)) (at 34 16)) (syntax.Constant (pos 1) basic.Int (at 41 19)) (syntax.Unary prefix.Minus (syntax.Constant (pos 1) basic.Int (at 46 22)) (at 45 21)) (at 39 18))) (at 24 13) ∷ []))) syntax.no_initializer ∷ []))) ∷ [])

-- char a[] = "ab"; int b[sizeof a == 3 ? 1 : -1];
abbrev pub accepted_declarations_92 : List syntax.External
accepted_declarations_92 = (syntax.ExternalDeclaration (syntax.SimpleDeclaration (specs (syntax.TypeSpec type.Char (at 1 0) ∷ [])) (declared (syntax.init_declarator (syntax.Named [] (name (codes "a") (at 6 1)) (suffixes (syntax.ArraySuffix syntax.no_expr (at 7 2) ∷ []))) (syntax.an_initializer (syntax.Single (syntax.Text (codes "ab") (at 12 5)))) ∷ []))) ∷ syntax.ExternalDeclaration (syntax.SimpleDeclaration (specs (syntax.TypeSpec type.Int (at 18 7) ∷ [])) (declared (syntax.init_declarator (syntax.Named [] (name (codes "b") (at 22 8)) (suffixes (syntax.ArraySuffix (syntax.an_expr (syntax.Conditional (syntax.Binary op.Equal (syntax.SizeofExpr (syntax.Identifier (name (codes "a") (at 31 11))) (at 24 10)) (syntax.Constant (pos 3) basic.Int (at 36 13)) (at 33 12)) (syntax.Constant (pos 1) basic.Int (at 40 15)) (syntax.Unary prefix.Minus (syntax.Constant (pos 1) basic.Int (at 45 18)) (at 44 17)) (at 38 14))) (at 23 9) ∷ []))) syntax.no_initializer ∷ []))) ∷ [])

-- int f(struct s x);
abbrev pub accepted_declarations_93 : List syntax.External
accepted_declarations_93 = (syntax.ExternalDeclaration (syntax.SimpleDeclaration (specs (syntax.TypeSpec type.Int (at 1 0) ∷ [])) (declared (syntax.init_declarator (syntax.Named [] (name (codes "f") (at 5 1)) (suffixes (syntax.FunctionSuffix (parameters (syntax.parameter (specs (syntax.StructTag (name (codes "s") (at 14 4)) (at 7 3) ∷ [])) (syntax.Named [] (name (codes "x") (at 16 5)) (suffixes [])) (at 7 3) ∷ [])) false (at 6 2) ∷ []))) syntax.no_initializer ∷ []))) ∷ [])

-- int f(struct s { int a; } x) { return x.a; }
abbrev pub accepted_declarations_94 : List syntax.External
accepted_declarations_94 = (syntax.FunctionDefinition (specs (syntax.TypeSpec type.Int (at 1 0) ∷ [])) (syntax.Named [] (name (codes "f") (at 5 1)) (suffixes (syntax.FunctionSuffix (parameters (syntax.parameter (specs (syntax.Struct (Some (name (codes "s") (at 14 4))) (members (syntax.MemberDeclarators (specs (syntax.TypeSpec type.Int (at 18 6) ∷ [])) (syntax.declarators ((syntax.Named [] (name (codes "a") (at 22 7)) (suffixes [])) ∷ [])) ∷ [])) (at 7 3) ∷ [])) (syntax.Named [] (name (codes "x") (at 27 10)) (suffixes [])) (at 7 3) ∷ [])) false (at 6 2) ∷ []))) (syntax.block (block_items (syntax.StatementItem (syntax.Return (syntax.an_expr (syntax.Member (syntax.Identifier (name (codes "x") (at 39 14))) (name (codes "a") (at 41 16)) (at 40 15))) (at 32 13) (span (at 32 13) (at 42 17))) ∷ [])) (span (at 30 12) (at 44 18))) ∷ [])

-- int f(int, int a) { return a; }
abbrev pub accepted_declarations_95 : List syntax.External
accepted_declarations_95 = (syntax.FunctionDefinition (specs (syntax.TypeSpec type.Int (at 1 0) ∷ [])) (syntax.Named [] (name (codes "f") (at 5 1)) (suffixes (syntax.FunctionSuffix (parameters (syntax.parameter (specs (syntax.TypeSpec type.Int (at 7 3) ∷ [])) (syntax.Unnamed [] (suffixes [])) (at 7 3) ∷ syntax.parameter (specs (syntax.TypeSpec type.Int (at 12 5) ∷ [])) (syntax.Named [] (name (codes "a") (at 16 6)) (suffixes [])) (at 12 5) ∷ [])) false (at 6 2) ∷ []))) (syntax.block (block_items (syntax.StatementItem (syntax.Return (syntax.an_expr (syntax.Identifier (name (codes "a") (at 28 10)))) (at 21 9) (span (at 21 9) (at 29 11))) ∷ [])) (span (at 19 8) (at 31 12))) ∷ [])

-- int f(int n, ...);
abbrev pub accepted_declarations_96 : List syntax.External
accepted_declarations_96 = (syntax.ExternalDeclaration (syntax.SimpleDeclaration (specs (syntax.TypeSpec type.Int (at 1 0) ∷ [])) (declared (syntax.init_declarator (syntax.Named [] (name (codes "f") (at 5 1)) (suffixes (syntax.FunctionSuffix (parameters (syntax.parameter (specs (syntax.TypeSpec type.Int (at 7 3) ∷ [])) (syntax.Named [] (name (codes "n") (at 11 4)) (suffixes [])) (at 7 3) ∷ [])) true (at 6 2) ∷ []))) syntax.no_initializer ∷ []))) ∷ [])
