-- accepted: declarations: units of one line, as trees.
use Rattle.std.specs.Prelude.{List, [], ◌∷◌, Some, false, pos, codes}
use Rattle.model_grammar.specs.SyntaxForms as syntax
use Rattle.model_types.specs.declared.numbers.Basic.TheVariants as basic
use Rattle.model_types.specs.declared.numbers.BinOp.TheVariants as op
use Rattle.model_grammar.specs.declared.syntax.StorageWord.TheVariants as storage
use Rattle.model_grammar.specs.declared.syntax.TypeWord.TheVariants as type
use Rattle.model_grammar.specs.declared.syntax.QualifierWord.TheVariants as qual
use Rattle.model_grammar.specs.declared.syntax.PrefixOp.TheVariants as prefix
use Rattle.checking_units.specs.Parts.{at, name, specs, qualifier, pointer, suffixes, parameters, members, enumerators, declared, block_items, span}

-- int f(int, int);
abbrev pub accepted_declarations_1 : List syntax.External
accepted_declarations_1 = (syntax.ExternalDeclaration (syntax.SimpleDeclaration (specs (syntax.TypeSpec type.Int (at 1 0) ∷ [])) (declared (syntax.init_declarator (syntax.Named [] (name (codes "f") (at 5 1)) (suffixes (syntax.FunctionSuffix (parameters (syntax.parameter (specs (syntax.TypeSpec type.Int (at 7 3) ∷ [])) (syntax.Unnamed [] (suffixes [])) (at 7 3) ∷ syntax.parameter (specs (syntax.TypeSpec type.Int (at 12 5) ∷ [])) (syntax.Unnamed [] (suffixes [])) (at 12 5) ∷ [])) false (at 6 2) ∷ []))) syntax.no_initializer ∷ []))) ∷ [])

-- int my_cake_x;
abbrev pub accepted_declarations_2 : List syntax.External
accepted_declarations_2 = (syntax.ExternalDeclaration (syntax.SimpleDeclaration (specs (syntax.TypeSpec type.Int (at 1 0) ∷ [])) (declared (syntax.init_declarator (syntax.Named [] (name (codes "my_cake_x") (at 5 1)) (suffixes [])) syntax.no_initializer ∷ []))) ∷ [])

-- struct s { int s; } s;
abbrev pub accepted_declarations_3 : List syntax.External
accepted_declarations_3 = (syntax.ExternalDeclaration (syntax.SimpleDeclaration (specs (syntax.Struct (Some (name (codes "s") (at 8 1))) (members (syntax.MemberDeclarators (specs (syntax.TypeSpec type.Int (at 12 3) ∷ [])) (syntax.declarators ((syntax.Named [] (name (codes "s") (at 16 4)) (suffixes [])) ∷ [])) ∷ [])) (at 1 0) ∷ [])) (declared (syntax.init_declarator (syntax.Named [] (name (codes "s") (at 21 7)) (suffixes [])) syntax.no_initializer ∷ []))) ∷ [])

-- struct x { int a; }; int x;
abbrev pub accepted_declarations_4 : List syntax.External
accepted_declarations_4 = (syntax.ExternalDeclaration (syntax.SimpleDeclaration (specs (syntax.Struct (Some (name (codes "x") (at 8 1))) (members (syntax.MemberDeclarators (specs (syntax.TypeSpec type.Int (at 12 3) ∷ [])) (syntax.declarators ((syntax.Named [] (name (codes "a") (at 16 4)) (suffixes [])) ∷ [])) ∷ [])) (at 1 0) ∷ [])) (declared [])) ∷ syntax.ExternalDeclaration (syntax.SimpleDeclaration (specs (syntax.TypeSpec type.Int (at 22 8) ∷ [])) (declared (syntax.init_declarator (syntax.Named [] (name (codes "x") (at 26 9)) (suffixes [])) syntax.no_initializer ∷ []))) ∷ [])

-- void f(void) { int x; { int x; } }
abbrev pub accepted_declarations_5 : List syntax.External
accepted_declarations_5 = (syntax.FunctionDefinition (specs (syntax.TypeSpec type.Void (at 1 0) ∷ [])) (syntax.Named [] (name (codes "f") (at 6 1)) (suffixes (syntax.FunctionSuffix (parameters (syntax.parameter (specs (syntax.TypeSpec type.Void (at 8 3) ∷ [])) (syntax.Unnamed [] (suffixes [])) (at 8 3) ∷ [])) false (at 7 2) ∷ []))) (syntax.block (block_items (syntax.DeclarationItem (syntax.SimpleDeclaration (specs (syntax.TypeSpec type.Int (at 16 6) ∷ [])) (declared (syntax.init_declarator (syntax.Named [] (name (codes "x") (at 20 7)) (suffixes [])) syntax.no_initializer ∷ []))) ∷ syntax.StatementItem (syntax.CompoundStatement (syntax.block (block_items (syntax.DeclarationItem (syntax.SimpleDeclaration (specs (syntax.TypeSpec type.Int (at 25 10) ∷ [])) (declared (syntax.init_declarator (syntax.Named [] (name (codes "x") (at 29 11)) (suffixes [])) syntax.no_initializer ∷ []))) ∷ [])) (span (at 23 9) (at 32 13))) (span (at 23 9) (at 32 13))) ∷ [])) (span (at 14 5) (at 34 14))) ∷ [])

-- int f(int a); int f(const int a);
abbrev pub accepted_declarations_6 : List syntax.External
accepted_declarations_6 = (syntax.ExternalDeclaration (syntax.SimpleDeclaration (specs (syntax.TypeSpec type.Int (at 1 0) ∷ [])) (declared (syntax.init_declarator (syntax.Named [] (name (codes "f") (at 5 1)) (suffixes (syntax.FunctionSuffix (parameters (syntax.parameter (specs (syntax.TypeSpec type.Int (at 7 3) ∷ [])) (syntax.Named [] (name (codes "a") (at 11 4)) (suffixes [])) (at 7 3) ∷ [])) false (at 6 2) ∷ []))) syntax.no_initializer ∷ []))) ∷ syntax.ExternalDeclaration (syntax.SimpleDeclaration (specs (syntax.TypeSpec type.Int (at 15 7) ∷ [])) (declared (syntax.init_declarator (syntax.Named [] (name (codes "f") (at 19 8)) (suffixes (syntax.FunctionSuffix (parameters (syntax.parameter (specs (syntax.QualifierSpec (qualifier qual.Const (at 21 10)) ∷ syntax.TypeSpec type.Int (at 27 11) ∷ [])) (syntax.Named [] (name (codes "a") (at 31 12)) (suffixes [])) (at 21 10) ∷ [])) false (at 20 9) ∷ []))) syntax.no_initializer ∷ []))) ∷ [])

-- typedef int T(const int); typedef int T(int);
abbrev pub accepted_declarations_7 : List syntax.External
accepted_declarations_7 = (syntax.ExternalDeclaration (syntax.SimpleDeclaration (specs (syntax.StorageSpec storage.Typedef (at 1 0) ∷ syntax.TypeSpec type.Int (at 9 1) ∷ [])) (declared (syntax.init_declarator (syntax.Named [] (name (codes "T") (at 13 2)) (suffixes (syntax.FunctionSuffix (parameters (syntax.parameter (specs (syntax.QualifierSpec (qualifier qual.Const (at 15 4)) ∷ syntax.TypeSpec type.Int (at 21 5) ∷ [])) (syntax.Unnamed [] (suffixes [])) (at 15 4) ∷ [])) false (at 14 3) ∷ []))) syntax.no_initializer ∷ []))) ∷ syntax.ExternalDeclaration (syntax.SimpleDeclaration (specs (syntax.StorageSpec storage.Typedef (at 27 8) ∷ syntax.TypeSpec type.Int (at 35 9) ∷ [])) (declared (syntax.init_declarator (syntax.Named [] (name (codes "T") (at 39 10)) (suffixes (syntax.FunctionSuffix (parameters (syntax.parameter (specs (syntax.TypeSpec type.Int (at 41 12) ∷ [])) (syntax.Unnamed [] (suffixes [])) (at 41 12) ∷ [])) false (at 40 11) ∷ []))) syntax.no_initializer ∷ []))) ∷ [])

-- int (*f(void))[]; int (*f(void))[3]; int (*f(void))[];
abbrev pub accepted_declarations_8 : List syntax.External
accepted_declarations_8 = (syntax.ExternalDeclaration (syntax.SimpleDeclaration (specs (syntax.TypeSpec type.Int (at 1 0) ∷ [])) (declared (syntax.init_declarator (syntax.Grouped [] (syntax.Named (pointer (at 6 2) [] ∷ []) (name (codes "f") (at 7 3)) (suffixes (syntax.FunctionSuffix (parameters (syntax.parameter (specs (syntax.TypeSpec type.Void (at 9 5) ∷ [])) (syntax.Unnamed [] (suffixes [])) (at 9 5) ∷ [])) false (at 8 4) ∷ []))) (suffixes (syntax.ArraySuffix syntax.no_expr (at 15 8) ∷ [])) (at 5 1)) syntax.no_initializer ∷ []))) ∷ syntax.ExternalDeclaration (syntax.SimpleDeclaration (specs (syntax.TypeSpec type.Int (at 19 11) ∷ [])) (declared (syntax.init_declarator (syntax.Grouped [] (syntax.Named (pointer (at 24 13) [] ∷ []) (name (codes "f") (at 25 14)) (suffixes (syntax.FunctionSuffix (parameters (syntax.parameter (specs (syntax.TypeSpec type.Void (at 27 16) ∷ [])) (syntax.Unnamed [] (suffixes [])) (at 27 16) ∷ [])) false (at 26 15) ∷ []))) (suffixes (syntax.ArraySuffix (syntax.an_expr (syntax.Constant (pos 3) basic.Int (at 34 20))) (at 33 19) ∷ [])) (at 23 12)) syntax.no_initializer ∷ []))) ∷ syntax.ExternalDeclaration (syntax.SimpleDeclaration (specs (syntax.TypeSpec type.Int (at 38 23) ∷ [])) (declared (syntax.init_declarator (syntax.Grouped [] (syntax.Named (pointer (at 43 25) [] ∷ []) (name (codes "f") (at 44 26)) (suffixes (syntax.FunctionSuffix (parameters (syntax.parameter (specs (syntax.TypeSpec type.Void (at 46 28) ∷ [])) (syntax.Unnamed [] (suffixes [])) (at 46 28) ∷ [])) false (at 45 27) ∷ []))) (suffixes (syntax.ArraySuffix syntax.no_expr (at 52 31) ∷ [])) (at 42 24)) syntax.no_initializer ∷ []))) ∷ [])

-- extern int a[]; int a[3]; int b[sizeof a == 12 ? 1 : -1];
abbrev pub accepted_declarations_9 : List syntax.External
accepted_declarations_9 = (syntax.ExternalDeclaration (syntax.SimpleDeclaration (specs (syntax.StorageSpec storage.Extern (at 1 0) ∷ syntax.TypeSpec type.Int (at 8 1) ∷ [])) (declared (syntax.init_declarator (syntax.Named [] (name (codes "a") (at 12 2)) (suffixes (syntax.ArraySuffix syntax.no_expr (at 13 3) ∷ []))) syntax.no_initializer ∷ []))) ∷ syntax.ExternalDeclaration (syntax.SimpleDeclaration (specs (syntax.TypeSpec type.Int (at 17 6) ∷ [])) (declared (syntax.init_declarator (syntax.Named [] (name (codes "a") (at 21 7)) (suffixes (syntax.ArraySuffix (syntax.an_expr (syntax.Constant (pos 3) basic.Int (at 23 9))) (at 22 8) ∷ []))) syntax.no_initializer ∷ []))) ∷ syntax.ExternalDeclaration (syntax.SimpleDeclaration (specs (syntax.TypeSpec type.Int (at 27 12) ∷ [])) (declared (syntax.init_declarator (syntax.Named [] (name (codes "b") (at 31 13)) (suffixes (syntax.ArraySuffix (syntax.an_expr (syntax.Conditional (syntax.Binary op.Equal (syntax.SizeofExpr (syntax.Identifier (name (codes "a") (at 40 16))) (at 33 15)) (syntax.Constant (pos 12) basic.Int (at 45 18)) (at 42 17)) (syntax.Constant (pos 1) basic.Int (at 50 20)) (syntax.Unary prefix.Minus (syntax.Constant (pos 1) basic.Int (at 55 23)) (at 54 22)) (at 48 19))) (at 32 14) ∷ []))) syntax.no_initializer ∷ []))) ∷ [])

-- static int f(void); int f(void); int f(void) { return 0; }
abbrev pub accepted_declarations_10 : List syntax.External
accepted_declarations_10 = (syntax.ExternalDeclaration (syntax.SimpleDeclaration (specs (syntax.StorageSpec storage.Static (at 1 0) ∷ syntax.TypeSpec type.Int (at 8 1) ∷ [])) (declared (syntax.init_declarator (syntax.Named [] (name (codes "f") (at 12 2)) (suffixes (syntax.FunctionSuffix (parameters (syntax.parameter (specs (syntax.TypeSpec type.Void (at 14 4) ∷ [])) (syntax.Unnamed [] (suffixes [])) (at 14 4) ∷ [])) false (at 13 3) ∷ []))) syntax.no_initializer ∷ []))) ∷ syntax.ExternalDeclaration (syntax.SimpleDeclaration (specs (syntax.TypeSpec type.Int (at 21 7) ∷ [])) (declared (syntax.init_declarator (syntax.Named [] (name (codes "f") (at 25 8)) (suffixes (syntax.FunctionSuffix (parameters (syntax.parameter (specs (syntax.TypeSpec type.Void (at 27 10) ∷ [])) (syntax.Unnamed [] (suffixes [])) (at 27 10) ∷ [])) false (at 26 9) ∷ []))) syntax.no_initializer ∷ []))) ∷ syntax.FunctionDefinition (specs (syntax.TypeSpec type.Int (at 34 13) ∷ [])) (syntax.Named [] (name (codes "f") (at 38 14)) (suffixes (syntax.FunctionSuffix (parameters (syntax.parameter (specs (syntax.TypeSpec type.Void (at 40 16) ∷ [])) (syntax.Unnamed [] (suffixes [])) (at 40 16) ∷ [])) false (at 39 15) ∷ []))) (syntax.block (block_items (syntax.StatementItem (syntax.Return (syntax.an_expr (syntax.Constant (pos 0) basic.Int (at 55 20))) (at 48 19) (span (at 48 19) (at 56 21))) ∷ [])) (span (at 46 18) (at 58 22))) ∷ [])

-- static int x; extern int x;
abbrev pub accepted_declarations_11 : List syntax.External
accepted_declarations_11 = (syntax.ExternalDeclaration (syntax.SimpleDeclaration (specs (syntax.StorageSpec storage.Static (at 1 0) ∷ syntax.TypeSpec type.Int (at 8 1) ∷ [])) (declared (syntax.init_declarator (syntax.Named [] (name (codes "x") (at 12 2)) (suffixes [])) syntax.no_initializer ∷ []))) ∷ syntax.ExternalDeclaration (syntax.SimpleDeclaration (specs (syntax.StorageSpec storage.Extern (at 15 4) ∷ syntax.TypeSpec type.Int (at 22 5) ∷ [])) (declared (syntax.init_declarator (syntax.Named [] (name (codes "x") (at 26 6)) (suffixes [])) syntax.no_initializer ∷ []))) ∷ [])

-- void f(void) { int free; }
abbrev pub accepted_declarations_12 : List syntax.External
accepted_declarations_12 = (syntax.FunctionDefinition (specs (syntax.TypeSpec type.Void (at 1 0) ∷ [])) (syntax.Named [] (name (codes "f") (at 6 1)) (suffixes (syntax.FunctionSuffix (parameters (syntax.parameter (specs (syntax.TypeSpec type.Void (at 8 3) ∷ [])) (syntax.Unnamed [] (suffixes [])) (at 8 3) ∷ [])) false (at 7 2) ∷ []))) (syntax.block (block_items (syntax.DeclarationItem (syntax.SimpleDeclaration (specs (syntax.TypeSpec type.Int (at 16 6) ∷ [])) (declared (syntax.init_declarator (syntax.Named [] (name (codes "free") (at 20 7)) (suffixes [])) syntax.no_initializer ∷ []))) ∷ [])) (span (at 14 5) (at 26 9))) ∷ [])

-- void f(int free);
abbrev pub accepted_declarations_13 : List syntax.External
accepted_declarations_13 = (syntax.ExternalDeclaration (syntax.SimpleDeclaration (specs (syntax.TypeSpec type.Void (at 1 0) ∷ [])) (declared (syntax.init_declarator (syntax.Named [] (name (codes "f") (at 6 1)) (suffixes (syntax.FunctionSuffix (parameters (syntax.parameter (specs (syntax.TypeSpec type.Int (at 8 3) ∷ [])) (syntax.Named [] (name (codes "free") (at 12 4)) (suffixes [])) (at 8 3) ∷ [])) false (at 7 2) ∷ []))) syntax.no_initializer ∷ []))) ∷ [])

-- struct s { int free; };
abbrev pub accepted_declarations_14 : List syntax.External
accepted_declarations_14 = (syntax.ExternalDeclaration (syntax.SimpleDeclaration (specs (syntax.Struct (Some (name (codes "s") (at 8 1))) (members (syntax.MemberDeclarators (specs (syntax.TypeSpec type.Int (at 12 3) ∷ [])) (syntax.declarators ((syntax.Named [] (name (codes "free") (at 16 4)) (suffixes [])) ∷ [])) ∷ [])) (at 1 0) ∷ [])) (declared [])) ∷ [])

-- typedef int free;
abbrev pub accepted_declarations_15 : List syntax.External
accepted_declarations_15 = (syntax.ExternalDeclaration (syntax.SimpleDeclaration (specs (syntax.StorageSpec storage.Typedef (at 1 0) ∷ syntax.TypeSpec type.Int (at 9 1) ∷ [])) (declared (syntax.init_declarator (syntax.Named [] (name (codes "free") (at 13 2)) (suffixes [])) syntax.no_initializer ∷ []))) ∷ [])

-- void free(void * _Owner _Opt p);
abbrev pub accepted_declarations_16 : List syntax.External
accepted_declarations_16 = (syntax.ExternalDeclaration (syntax.SimpleDeclaration (specs (syntax.TypeSpec type.Void (at 1 0) ∷ [])) (declared (syntax.init_declarator (syntax.Named [] (name (codes "free") (at 6 1)) (suffixes (syntax.FunctionSuffix (parameters (syntax.parameter (specs (syntax.TypeSpec type.Void (at 11 3) ∷ [])) (syntax.Named (pointer (at 16 4) ((qualifier qual.Owner (at 18 5)) ∷ (qualifier qual.Opt (at 25 6)) ∷ []) ∷ []) (name (codes "p") (at 30 7)) (suffixes [])) (at 11 3) ∷ [])) false (at 10 2) ∷ []))) syntax.no_initializer ∷ []))) ∷ [])

-- static int main(void) { return 0; }
abbrev pub accepted_declarations_17 : List syntax.External
accepted_declarations_17 = (syntax.FunctionDefinition (specs (syntax.StorageSpec storage.Static (at 1 0) ∷ syntax.TypeSpec type.Int (at 8 1) ∷ [])) (syntax.Named [] (name (codes "main") (at 12 2)) (suffixes (syntax.FunctionSuffix (parameters (syntax.parameter (specs (syntax.TypeSpec type.Void (at 17 4) ∷ [])) (syntax.Unnamed [] (suffixes [])) (at 17 4) ∷ [])) false (at 16 3) ∷ []))) (syntax.block (block_items (syntax.StatementItem (syntax.Return (syntax.an_expr (syntax.Constant (pos 0) basic.Int (at 32 8))) (at 25 7) (span (at 25 7) (at 33 9))) ∷ [])) (span (at 23 6) (at 35 10))) ∷ [])

-- int main(int n, char **v) { return n; }
abbrev pub accepted_declarations_18 : List syntax.External
accepted_declarations_18 = (syntax.FunctionDefinition (specs (syntax.TypeSpec type.Int (at 1 0) ∷ [])) (syntax.Named [] (name (codes "main") (at 5 1)) (suffixes (syntax.FunctionSuffix (parameters (syntax.parameter (specs (syntax.TypeSpec type.Int (at 10 3) ∷ [])) (syntax.Named [] (name (codes "n") (at 14 4)) (suffixes [])) (at 10 3) ∷ syntax.parameter (specs (syntax.TypeSpec type.Char (at 17 6) ∷ [])) (syntax.Named (pointer (at 22 7) [] ∷ pointer (at 23 8) [] ∷ []) (name (codes "v") (at 24 9)) (suffixes [])) (at 17 6) ∷ [])) false (at 9 2) ∷ []))) (syntax.block (block_items (syntax.StatementItem (syntax.Return (syntax.an_expr (syntax.Identifier (name (codes "n") (at 36 13)))) (at 29 12) (span (at 29 12) (at 37 14))) ∷ [])) (span (at 27 11) (at 39 15))) ∷ [])

-- void f(void) { int main; }
abbrev pub accepted_declarations_19 : List syntax.External
accepted_declarations_19 = (syntax.FunctionDefinition (specs (syntax.TypeSpec type.Void (at 1 0) ∷ [])) (syntax.Named [] (name (codes "f") (at 6 1)) (suffixes (syntax.FunctionSuffix (parameters (syntax.parameter (specs (syntax.TypeSpec type.Void (at 8 3) ∷ [])) (syntax.Unnamed [] (suffixes [])) (at 8 3) ∷ [])) false (at 7 2) ∷ []))) (syntax.block (block_items (syntax.DeclarationItem (syntax.SimpleDeclaration (specs (syntax.TypeSpec type.Int (at 16 6) ∷ [])) (declared (syntax.init_declarator (syntax.Named [] (name (codes "main") (at 20 7)) (suffixes [])) syntax.no_initializer ∷ []))) ∷ [])) (span (at 14 5) (at 26 9))) ∷ [])

-- typedef int main;
abbrev pub accepted_declarations_20 : List syntax.External
accepted_declarations_20 = (syntax.ExternalDeclaration (syntax.SimpleDeclaration (specs (syntax.StorageSpec storage.Typedef (at 1 0) ∷ syntax.TypeSpec type.Int (at 9 1) ∷ [])) (declared (syntax.init_declarator (syntax.Named [] (name (codes "main") (at 13 2)) (suffixes [])) syntax.no_initializer ∷ []))) ∷ [])

-- enum e : int; enum e : long; int a[sizeof(enum e) == 4 ? 1 : -1];
abbrev pub accepted_declarations_21 : List syntax.External
accepted_declarations_21 = (syntax.ExternalDeclaration (syntax.SimpleDeclaration (specs (syntax.EnumTag (name (codes "e") (at 6 1)) (syntax.some_specs (specs (syntax.TypeSpec type.Int (at 10 3) ∷ []))) (at 1 0) ∷ [])) (declared [])) ∷ syntax.ExternalDeclaration (syntax.SimpleDeclaration (specs (syntax.EnumTag (name (codes "e") (at 20 6)) (syntax.some_specs (specs (syntax.TypeSpec type.Long (at 24 8) ∷ []))) (at 15 5) ∷ [])) (declared [])) ∷ syntax.ExternalDeclaration (syntax.SimpleDeclaration (specs (syntax.TypeSpec type.Int (at 30 10) ∷ [])) (declared (syntax.init_declarator (syntax.Named [] (name (codes "a") (at 34 11)) (suffixes (syntax.ArraySuffix (syntax.an_expr (syntax.Conditional (syntax.Binary op.Equal (syntax.SizeofType (syntax.type_name (specs (syntax.EnumTag (name (codes "e") (at 48 16)) syntax.none_of_specs (at 43 15) ∷ [])) (syntax.Unnamed [] (suffixes []))) (at 36 13)) (syntax.Constant (pos 4) basic.Int (at 54 19)) (at 51 18)) (syntax.Constant (pos 1) basic.Int (at 58 21)) (syntax.Unary prefix.Minus (syntax.Constant (pos 1) basic.Int (at 63 24)) (at 62 23)) (at 56 20))) (at 35 12) ∷ []))) syntax.no_initializer ∷ []))) ∷ [])

-- struct s { int a; }; void f(void) { struct s; struct s { long b; } x; x.b = 1; }
abbrev pub accepted_declarations_22 : List syntax.External
accepted_declarations_22 = (syntax.ExternalDeclaration (syntax.SimpleDeclaration (specs (syntax.Struct (Some (name (codes "s") (at 8 1))) (members (syntax.MemberDeclarators (specs (syntax.TypeSpec type.Int (at 12 3) ∷ [])) (syntax.declarators ((syntax.Named [] (name (codes "a") (at 16 4)) (suffixes [])) ∷ [])) ∷ [])) (at 1 0) ∷ [])) (declared [])) ∷ syntax.FunctionDefinition (specs (syntax.TypeSpec type.Void (at 22 8) ∷ [])) (syntax.Named [] (name (codes "f") (at 27 9)) (suffixes (syntax.FunctionSuffix (parameters (syntax.parameter (specs (syntax.TypeSpec type.Void (at 29 11) ∷ [])) (syntax.Unnamed [] (suffixes [])) (at 29 11) ∷ [])) false (at 28 10) ∷ []))) (syntax.block (block_items (syntax.DeclarationItem (syntax.SimpleDeclaration (specs (syntax.StructTag (name (codes "s") (at 44 15)) (at 37 14) ∷ [])) (declared [])) ∷ syntax.DeclarationItem (syntax.SimpleDeclaration (specs (syntax.Struct (Some (name (codes "s") (at 54 18))) (members (syntax.MemberDeclarators (specs (syntax.TypeSpec type.Long (at 58 20) ∷ [])) (syntax.declarators ((syntax.Named [] (name (codes "b") (at 63 21)) (suffixes [])) ∷ [])) ∷ [])) (at 47 17) ∷ [])) (declared (syntax.init_declarator (syntax.Named [] (name (codes "x") (at 68 24)) (suffixes [])) syntax.no_initializer ∷ []))) ∷ syntax.StatementItem (syntax.ExpressionStatement (syntax.an_expr (syntax.Assign (syntax.Member (syntax.Identifier (name (codes "x") (at 71 26))) (name (codes "b") (at 73 28)) (at 72 27)) (syntax.Constant (pos 1) basic.Int (at 77 30)) (at 75 29))) (span (at 71 26) (at 78 31))) ∷ [])) (span (at 35 13) (at 80 32))) ∷ [])

-- struct s { int a; }; void f(void) { struct s x; x.a = 1; }
abbrev pub accepted_declarations_23 : List syntax.External
accepted_declarations_23 = (syntax.ExternalDeclaration (syntax.SimpleDeclaration (specs (syntax.Struct (Some (name (codes "s") (at 8 1))) (members (syntax.MemberDeclarators (specs (syntax.TypeSpec type.Int (at 12 3) ∷ [])) (syntax.declarators ((syntax.Named [] (name (codes "a") (at 16 4)) (suffixes [])) ∷ [])) ∷ [])) (at 1 0) ∷ [])) (declared [])) ∷ syntax.FunctionDefinition (specs (syntax.TypeSpec type.Void (at 22 8) ∷ [])) (syntax.Named [] (name (codes "f") (at 27 9)) (suffixes (syntax.FunctionSuffix (parameters (syntax.parameter (specs (syntax.TypeSpec type.Void (at 29 11) ∷ [])) (syntax.Unnamed [] (suffixes [])) (at 29 11) ∷ [])) false (at 28 10) ∷ []))) (syntax.block (block_items (syntax.DeclarationItem (syntax.SimpleDeclaration (specs (syntax.StructTag (name (codes "s") (at 44 15)) (at 37 14) ∷ [])) (declared (syntax.init_declarator (syntax.Named [] (name (codes "x") (at 46 16)) (suffixes [])) syntax.no_initializer ∷ []))) ∷ syntax.StatementItem (syntax.ExpressionStatement (syntax.an_expr (syntax.Assign (syntax.Member (syntax.Identifier (name (codes "x") (at 49 18))) (name (codes "a") (at 51 20)) (at 50 19)) (syntax.Constant (pos 1) basic.Int (at 55 22)) (at 53 21))) (span (at 49 18) (at 56 23))) ∷ [])) (span (at 35 13) (at 58 24))) ∷ [])

-- enum s { A }; void f(void) { struct s; struct s { int a; } x; x.a = 1; }
abbrev pub accepted_declarations_24 : List syntax.External
accepted_declarations_24 = (syntax.ExternalDeclaration (syntax.SimpleDeclaration (specs (syntax.Enum (Some (name (codes "s") (at 6 1))) syntax.none_of_specs (enumerators (syntax.enumerator (name (codes "A") (at 10 3)) syntax.no_expr ∷ [])) (at 1 0) ∷ [])) (declared [])) ∷ syntax.FunctionDefinition (specs (syntax.TypeSpec type.Void (at 15 6) ∷ [])) (syntax.Named [] (name (codes "f") (at 20 7)) (suffixes (syntax.FunctionSuffix (parameters (syntax.parameter (specs (syntax.TypeSpec type.Void (at 22 9) ∷ [])) (syntax.Unnamed [] (suffixes [])) (at 22 9) ∷ [])) false (at 21 8) ∷ []))) (syntax.block (block_items (syntax.DeclarationItem (syntax.SimpleDeclaration (specs (syntax.StructTag (name (codes "s") (at 37 13)) (at 30 12) ∷ [])) (declared [])) ∷ syntax.DeclarationItem (syntax.SimpleDeclaration (specs (syntax.Struct (Some (name (codes "s") (at 47 16))) (members (syntax.MemberDeclarators (specs (syntax.TypeSpec type.Int (at 51 18) ∷ [])) (syntax.declarators ((syntax.Named [] (name (codes "a") (at 55 19)) (suffixes [])) ∷ [])) ∷ [])) (at 40 15) ∷ [])) (declared (syntax.init_declarator (syntax.Named [] (name (codes "x") (at 60 22)) (suffixes [])) syntax.no_initializer ∷ []))) ∷ syntax.StatementItem (syntax.ExpressionStatement (syntax.an_expr (syntax.Assign (syntax.Member (syntax.Identifier (name (codes "x") (at 63 24))) (name (codes "a") (at 65 26)) (at 64 25)) (syntax.Constant (pos 1) basic.Int (at 69 28)) (at 67 27))) (span (at 63 24) (at 70 29))) ∷ [])) (span (at 28 11) (at 72 30))) ∷ [])
