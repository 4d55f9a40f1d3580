-- which fault comes first: units of one line, as trees.
use Rattle.std.specs.Prelude.{List, [], ◌∷◌, Some, None, false, pos, codes}
use Rattle.model_grammar.specs.SyntaxForms as syntax
use Rattle.model_types.specs.declared.numbers.Basic.TheVariants as basic
use Rattle.model_types.specs.declared.numbers.BinOp.TheVariants as op
use Rattle.model_grammar.specs.declared.syntax.StorageWord.TheVariants as storage
use Rattle.model_grammar.specs.declared.syntax.TypeWord.TheVariants as type
use Rattle.model_grammar.specs.declared.syntax.QualifierWord.TheVariants as qual
use Rattle.checking_units.specs.Parts.{at, name, specs, qualifier, pointer, suffixes, parameters, members, enumerators, declared, block_items, span}

-- void g(void) { static int f(void), h[n]; }
abbrev pub which_fault_comes_first_1 : List syntax.External
which_fault_comes_first_1 = (syntax.FunctionDefinition (specs (syntax.TypeSpec type.Void (at 1 0) ∷ [])) (syntax.Named [] (name (codes "g") (at 6 1)) (suffixes (syntax.FunctionSuffix (parameters (syntax.parameter (specs (syntax.TypeSpec type.Void (at 8 3) ∷ [])) (syntax.Unnamed [] (suffixes [])) (at 8 3) ∷ [])) false (at 7 2) ∷ []))) (syntax.block (block_items (syntax.DeclarationItem (syntax.SimpleDeclaration (specs (syntax.StorageSpec storage.Static (at 16 6) ∷ syntax.TypeSpec type.Int (at 23 7) ∷ [])) (declared (syntax.init_declarator (syntax.Named [] (name (codes "f") (at 27 8)) (suffixes (syntax.FunctionSuffix (parameters (syntax.parameter (specs (syntax.TypeSpec type.Void (at 29 10) ∷ [])) (syntax.Unnamed [] (suffixes [])) (at 29 10) ∷ [])) false (at 28 9) ∷ []))) syntax.no_initializer ∷ syntax.init_declarator (syntax.Named [] (name (codes "h") (at 36 13)) (suffixes (syntax.ArraySuffix (syntax.an_expr (syntax.Identifier (name (codes "n") (at 38 15)))) (at 37 14) ∷ []))) syntax.no_initializer ∷ []))) ∷ [])) (span (at 14 5) (at 42 18))) ∷ [])

-- static static struct { int a; int a; } x;
abbrev pub which_fault_comes_first_2 : List syntax.External
which_fault_comes_first_2 = (syntax.ExternalDeclaration (syntax.SimpleDeclaration (specs (syntax.StorageSpec storage.Static (at 1 0) ∷ syntax.StorageSpec storage.Static (at 8 1) ∷ syntax.Struct None (members (syntax.MemberDeclarators (specs (syntax.TypeSpec type.Int (at 24 4) ∷ [])) (syntax.declarators ((syntax.Named [] (name (codes "a") (at 28 5)) (suffixes [])) ∷ [])) ∷ syntax.MemberDeclarators (specs (syntax.TypeSpec type.Int (at 31 7) ∷ [])) (syntax.declarators ((syntax.Named [] (name (codes "a") (at 35 8)) (suffixes [])) ∷ [])) ∷ [])) (at 15 2) ∷ [])) (declared (syntax.init_declarator (syntax.Named [] (name (codes "x") (at 40 11)) (suffixes [])) syntax.no_initializer ∷ []))) ∷ [])

-- struct { int a; int a; } static static x;
abbrev pub which_fault_comes_first_3 : List syntax.External
which_fault_comes_first_3 = (syntax.ExternalDeclaration (syntax.SimpleDeclaration (specs (syntax.Struct None (members (syntax.MemberDeclarators (specs (syntax.TypeSpec type.Int (at 10 2) ∷ [])) (syntax.declarators ((syntax.Named [] (name (codes "a") (at 14 3)) (suffixes [])) ∷ [])) ∷ syntax.MemberDeclarators (specs (syntax.TypeSpec type.Int (at 17 5) ∷ [])) (syntax.declarators ((syntax.Named [] (name (codes "a") (at 21 6)) (suffixes [])) ∷ [])) ∷ [])) (at 1 0) ∷ syntax.StorageSpec storage.Static (at 26 9) ∷ syntax.StorageSpec storage.Static (at 33 10) ∷ [])) (declared (syntax.init_declarator (syntax.Named [] (name (codes "x") (at 40 11)) (suffixes [])) syntax.no_initializer ∷ []))) ∷ [])

-- void f(void) { int x; int x[n]; }
abbrev pub which_fault_comes_first_4 : List syntax.External
which_fault_comes_first_4 = (syntax.FunctionDefinition (specs (syntax.TypeSpec type.Void (at 1 0) ∷ [])) (syntax.Named [] (name (codes "f") (at 6 1)) (suffixes (syntax.FunctionSuffix (parameters (syntax.parameter (specs (syntax.TypeSpec type.Void (at 8 3) ∷ [])) (syntax.Unnamed [] (suffixes [])) (at 8 3) ∷ [])) false (at 7 2) ∷ []))) (syntax.block (block_items (syntax.DeclarationItem (syntax.SimpleDeclaration (specs (syntax.TypeSpec type.Int (at 16 6) ∷ [])) (declared (syntax.init_declarator (syntax.Named [] (name (codes "x") (at 20 7)) (suffixes [])) syntax.no_initializer ∷ []))) ∷ syntax.DeclarationItem (syntax.SimpleDeclaration (specs (syntax.TypeSpec type.Int (at 23 9) ∷ [])) (declared (syntax.init_declarator (syntax.Named [] (name (codes "x") (at 27 10)) (suffixes (syntax.ArraySuffix (syntax.an_expr (syntax.Identifier (name (codes "n") (at 29 12)))) (at 28 11) ∷ []))) syntax.no_initializer ∷ []))) ∷ [])) (span (at 14 5) (at 33 15))) ∷ [])

-- void f(void) { int x; void (x)[2]; }
abbrev pub which_fault_comes_first_5 : List syntax.External
which_fault_comes_first_5 = (syntax.FunctionDefinition (specs (syntax.TypeSpec type.Void (at 1 0) ∷ [])) (syntax.Named [] (name (codes "f") (at 6 1)) (suffixes (syntax.FunctionSuffix (parameters (syntax.parameter (specs (syntax.TypeSpec type.Void (at 8 3) ∷ [])) (syntax.Unnamed [] (suffixes [])) (at 8 3) ∷ [])) false (at 7 2) ∷ []))) (syntax.block (block_items (syntax.DeclarationItem (syntax.SimpleDeclaration (specs (syntax.TypeSpec type.Int (at 16 6) ∷ [])) (declared (syntax.init_declarator (syntax.Named [] (name (codes "x") (at 20 7)) (suffixes [])) syntax.no_initializer ∷ []))) ∷ syntax.DeclarationItem (syntax.SimpleDeclaration (specs (syntax.TypeSpec type.Void (at 23 9) ∷ [])) (declared (syntax.init_declarator (syntax.Grouped [] (syntax.Named [] (name (codes "x") (at 29 11)) (suffixes [])) (suffixes (syntax.ArraySuffix (syntax.an_expr (syntax.Constant (pos 2) basic.Int (at 32 14))) (at 31 13) ∷ [])) (at 28 10)) syntax.no_initializer ∷ []))) ∷ [])) (span (at 14 5) (at 36 17))) ∷ [])

-- void f(void) { int x; void x[2]; }
abbrev pub which_fault_comes_first_6 : List syntax.External
which_fault_comes_first_6 = (syntax.FunctionDefinition (specs (syntax.TypeSpec type.Void (at 1 0) ∷ [])) (syntax.Named [] (name (codes "f") (at 6 1)) (suffixes (syntax.FunctionSuffix (parameters (syntax.parameter (specs (syntax.TypeSpec type.Void (at 8 3) ∷ [])) (syntax.Unnamed [] (suffixes [])) (at 8 3) ∷ [])) false (at 7 2) ∷ []))) (syntax.block (block_items (syntax.DeclarationItem (syntax.SimpleDeclaration (specs (syntax.TypeSpec type.Int (at 16 6) ∷ [])) (declared (syntax.init_declarator (syntax.Named [] (name (codes "x") (at 20 7)) (suffixes [])) syntax.no_initializer ∷ []))) ∷ syntax.DeclarationItem (syntax.SimpleDeclaration (specs (syntax.TypeSpec type.Void (at 23 9) ∷ [])) (declared (syntax.init_declarator (syntax.Named [] (name (codes "x") (at 28 10)) (suffixes (syntax.ArraySuffix (syntax.an_expr (syntax.Constant (pos 2) basic.Int (at 30 12))) (at 29 11) ∷ []))) syntax.no_initializer ∷ []))) ∷ [])) (span (at 14 5) (at 34 15))) ∷ [])

-- extern int x; void x[2];
abbrev pub which_fault_comes_first_7 : List syntax.External
which_fault_comes_first_7 = (syntax.ExternalDeclaration (syntax.SimpleDeclaration (specs (syntax.StorageSpec storage.Extern (at 1 0) ∷ syntax.TypeSpec type.Int (at 8 1) ∷ [])) (declared (syntax.init_declarator (syntax.Named [] (name (codes "x") (at 12 2)) (suffixes [])) syntax.no_initializer ∷ []))) ∷ syntax.ExternalDeclaration (syntax.SimpleDeclaration (specs (syntax.TypeSpec type.Void (at 15 4) ∷ [])) (declared (syntax.init_declarator (syntax.Named [] (name (codes "x") (at 20 5)) (suffixes (syntax.ArraySuffix (syntax.an_expr (syntax.Constant (pos 2) basic.Int (at 22 7))) (at 21 6) ∷ []))) syntax.no_initializer ∷ []))) ∷ [])

-- extern int x; extern struct s x;
abbrev pub which_fault_comes_first_8 : List syntax.External
which_fault_comes_first_8 = (syntax.ExternalDeclaration (syntax.SimpleDeclaration (specs (syntax.StorageSpec storage.Extern (at 1 0) ∷ syntax.TypeSpec type.Int (at 8 1) ∷ [])) (declared (syntax.init_declarator (syntax.Named [] (name (codes "x") (at 12 2)) (suffixes [])) syntax.no_initializer ∷ []))) ∷ syntax.ExternalDeclaration (syntax.SimpleDeclaration (specs (syntax.StorageSpec storage.Extern (at 15 4) ∷ syntax.StructTag (name (codes "s") (at 29 6)) (at 22 5) ∷ [])) (declared (syntax.init_declarator (syntax.Named [] (name (codes "x") (at 31 7)) (suffixes [])) syntax.no_initializer ∷ []))) ∷ [])

-- extern int x; struct s x;
abbrev pub which_fault_comes_first_9 : List syntax.External
which_fault_comes_first_9 = (syntax.ExternalDeclaration (syntax.SimpleDeclaration (specs (syntax.StorageSpec storage.Extern (at 1 0) ∷ syntax.TypeSpec type.Int (at 8 1) ∷ [])) (declared (syntax.init_declarator (syntax.Named [] (name (codes "x") (at 12 2)) (suffixes [])) syntax.no_initializer ∷ []))) ∷ syntax.ExternalDeclaration (syntax.SimpleDeclaration (specs (syntax.StructTag (name (codes "s") (at 22 5)) (at 15 4) ∷ [])) (declared (syntax.init_declarator (syntax.Named [] (name (codes "x") (at 24 6)) (suffixes [])) syntax.no_initializer ∷ []))) ∷ [])

-- void f(void) { int x; { extern int y; } } static int z; void g(void) { int z; { extern int z[n]; } }
abbrev pub which_fault_comes_first_10 : List syntax.External
which_fault_comes_first_10 = (syntax.FunctionDefinition (specs (syntax.TypeSpec type.Void (at 1 0) ∷ [])) (syntax.Named [] (name (codes "f") (at 6 1)) (suffixes (syntax.FunctionSuffix (parameters (syntax.parameter (specs (syntax.TypeSpec type.Void (at 8 3) ∷ [])) (syntax.Unnamed [] (suffixes [])) (at 8 3) ∷ [])) false (at 7 2) ∷ []))) (syntax.block (block_items (syntax.DeclarationItem (syntax.SimpleDeclaration (specs (syntax.TypeSpec type.Int (at 16 6) ∷ [])) (declared (syntax.init_declarator (syntax.Named [] (name (codes "x") (at 20 7)) (suffixes [])) syntax.no_initializer ∷ []))) ∷ syntax.StatementItem (syntax.CompoundStatement (syntax.block (block_items (syntax.DeclarationItem (syntax.SimpleDeclaration (specs (syntax.StorageSpec storage.Extern (at 25 10) ∷ syntax.TypeSpec type.Int (at 32 11) ∷ [])) (declared (syntax.init_declarator (syntax.Named [] (name (codes "y") (at 36 12)) (suffixes [])) syntax.no_initializer ∷ []))) ∷ [])) (span (at 23 9) (at 39 14))) (span (at 23 9) (at 39 14))) ∷ [])) (span (at 14 5) (at 41 15))) ∷ syntax.ExternalDeclaration (syntax.SimpleDeclaration (specs (syntax.StorageSpec storage.Static (at 43 16) ∷ syntax.TypeSpec type.Int (at 50 17) ∷ [])) (declared (syntax.init_declarator (syntax.Named [] (name (codes "z") (at 54 18)) (suffixes [])) syntax.no_initializer ∷ []))) ∷ syntax.FunctionDefinition (specs (syntax.TypeSpec type.Void (at 57 20) ∷ [])) (syntax.Named [] (name (codes "g") (at 62 21)) (suffixes (syntax.FunctionSuffix (parameters (syntax.parameter (specs (syntax.TypeSpec type.Void (at 64 23) ∷ [])) (syntax.Unnamed [] (suffixes [])) (at 64 23) ∷ [])) false (at 63 22) ∷ []))) (syntax.block (block_items (syntax.DeclarationItem (syntax.SimpleDeclaration (specs (syntax.TypeSpec type.Int (at 72 26) ∷ [])) (declared (syntax.init_declarator (syntax.Named [] (name (codes "z") (at 76 27)) (suffixes [])) syntax.no_initializer ∷ []))) ∷ syntax.StatementItem (syntax.CompoundStatement (syntax.block (block_items (syntax.DeclarationItem (syntax.SimpleDeclaration (specs (syntax.StorageSpec storage.Extern (at 81 30) ∷ syntax.TypeSpec type.Int (at 88 31) ∷ [])) (declared (syntax.init_declarator (syntax.Named [] (name (codes "z") (at 92 32)) (suffixes (syntax.ArraySuffix (syntax.an_expr (syntax.Identifier (name (codes "n") (at 94 34)))) (at 93 33) ∷ []))) syntax.no_initializer ∷ []))) ∷ [])) (span (at 79 29) (at 98 37))) (span (at 79 29) (at 98 37))) ∷ [])) (span (at 70 25) (at 100 38))) ∷ [])

-- struct { int a[n]; } cake_x;
abbrev pub which_fault_comes_first_11 : List syntax.External
which_fault_comes_first_11 = (syntax.ExternalDeclaration (syntax.SimpleDeclaration (specs (syntax.Struct None (members (syntax.MemberDeclarators (specs (syntax.TypeSpec type.Int (at 10 2) ∷ [])) (syntax.declarators ((syntax.Named [] (name (codes "a") (at 14 3)) (suffixes (syntax.ArraySuffix (syntax.an_expr (syntax.Identifier (name (codes "n") (at 16 5)))) (at 15 4) ∷ []))) ∷ [])) ∷ [])) (at 1 0) ∷ [])) (declared (syntax.init_declarator (syntax.Named [] (name (codes "cake_x") (at 22 9)) (suffixes [])) syntax.no_initializer ∷ []))) ∷ [])

-- int x[n], cake_y;
abbrev pub which_fault_comes_first_12 : List syntax.External
which_fault_comes_first_12 = (syntax.ExternalDeclaration (syntax.SimpleDeclaration (specs (syntax.TypeSpec type.Int (at 1 0) ∷ [])) (declared (syntax.init_declarator (syntax.Named [] (name (codes "x") (at 5 1)) (suffixes (syntax.ArraySuffix (syntax.an_expr (syntax.Identifier (name (codes "n") (at 7 3)))) (at 6 2) ∷ []))) syntax.no_initializer ∷ syntax.init_declarator (syntax.Named [] (name (codes "cake_y") (at 11 6)) (suffixes [])) syntax.no_initializer ∷ []))) ∷ [])

-- void f(void) { int x; int (* _Owner x)(void); }
abbrev pub which_fault_comes_first_13 : List syntax.External
which_fault_comes_first_13 = (syntax.FunctionDefinition (specs (syntax.TypeSpec type.Void (at 1 0) ∷ [])) (syntax.Named [] (name (codes "f") (at 6 1)) (suffixes (syntax.FunctionSuffix (parameters (syntax.parameter (specs (syntax.TypeSpec type.Void (at 8 3) ∷ [])) (syntax.Unnamed [] (suffixes [])) (at 8 3) ∷ [])) false (at 7 2) ∷ []))) (syntax.block (block_items (syntax.DeclarationItem (syntax.SimpleDeclaration (specs (syntax.TypeSpec type.Int (at 16 6) ∷ [])) (declared (syntax.init_declarator (syntax.Named [] (name (codes "x") (at 20 7)) (suffixes [])) syntax.no_initializer ∷ []))) ∷ syntax.DeclarationItem (syntax.SimpleDeclaration (specs (syntax.TypeSpec type.Int (at 23 9) ∷ [])) (declared (syntax.init_declarator (syntax.Grouped [] (syntax.Named (pointer (at 28 11) ((qualifier qual.Owner (at 30 12)) ∷ []) ∷ []) (name (codes "x") (at 37 13)) (suffixes [])) (suffixes (syntax.FunctionSuffix (parameters (syntax.parameter (specs (syntax.TypeSpec type.Void (at 40 16) ∷ [])) (syntax.Unnamed [] (suffixes [])) (at 40 16) ∷ [])) false (at 39 15) ∷ [])) (at 27 10)) syntax.no_initializer ∷ []))) ∷ [])) (span (at 14 5) (at 47 19))) ∷ [])

-- static auto p = (int (int n)) { return n ? p(n - 1) : 0; }; int f(void) { return p(3); }
abbrev pub which_fault_comes_first_14 : List syntax.External
which_fault_comes_first_14 = (syntax.ExternalDeclaration (syntax.SimpleDeclaration (specs (syntax.StorageSpec storage.Static (at 1 0) ∷ syntax.StorageSpec storage.Auto (at 8 1) ∷ [])) (declared (syntax.init_declarator (syntax.Named [] (name (codes "p") (at 13 2)) (suffixes [])) (syntax.an_initializer (syntax.Single (syntax.FunctionLiteral (syntax.type_name (specs (syntax.TypeSpec type.Int (at 18 5) ∷ [])) (syntax.Unnamed [] (suffixes (syntax.FunctionSuffix (parameters (syntax.parameter (specs (syntax.TypeSpec type.Int (at 23 7) ∷ [])) (syntax.Named [] (name (codes "n") (at 27 8)) (suffixes [])) (at 23 7) ∷ [])) false (at 22 6) ∷ [])))) (syntax.block (block_items (syntax.StatementItem (syntax.Return (syntax.an_expr (syntax.Conditional (syntax.Identifier (name (codes "n") (at 40 13))) (syntax.Call (syntax.Identifier (name (codes "p") (at 44 15))) (syntax.exprs ((syntax.Binary op.Sub (syntax.Identifier (name (codes "n") (at 46 17))) (syntax.Constant (pos 1) basic.Int (at 50 19)) (at 48 18)) ∷ [])) (at 45 16)) (syntax.Constant (pos 0) basic.Int (at 55 22)) (at 42 14))) (at 33 12) (span (at 33 12) (at 56 23))) ∷ [])) (span (at 31 11) (at 58 24))) (at 17 4)))) ∷ []))) ∷ syntax.FunctionDefinition (specs (syntax.TypeSpec type.Int (at 61 26) ∷ [])) (syntax.Named [] (name (codes "f") (at 65 27)) (suffixes (syntax.FunctionSuffix (parameters (syntax.parameter (specs (syntax.TypeSpec type.Void (at 67 29) ∷ [])) (syntax.Unnamed [] (suffixes [])) (at 67 29) ∷ [])) false (at 66 28) ∷ []))) (syntax.block (block_items (syntax.StatementItem (syntax.Return (syntax.an_expr (syntax.Call (syntax.Identifier (name (codes "p") (at 82 33))) (syntax.exprs ((syntax.Constant (pos 3) basic.Int (at 84 35)) ∷ [])) (at 83 34))) (at 75 32) (span (at 75 32) (at 86 37))) ∷ [])) (span (at 73 31) (at 88 38))) ∷ [])

-- void f(void) { auto p = (int (int n)) { return p(n); }; }
abbrev pub which_fault_comes_first_15 : List syntax.External
which_fault_comes_first_15 = (syntax.FunctionDefinition (specs (syntax.TypeSpec type.Void (at 1 0) ∷ [])) (syntax.Named [] (name (codes "f") (at 6 1)) (suffixes (syntax.FunctionSuffix (parameters (syntax.parameter (specs (syntax.TypeSpec type.Void (at 8 3) ∷ [])) (syntax.Unnamed [] (suffixes [])) (at 8 3) ∷ [])) false (at 7 2) ∷ []))) (syntax.block (block_items (syntax.DeclarationItem (syntax.SimpleDeclaration (specs (syntax.StorageSpec storage.Auto (at 16 6) ∷ [])) (declared (syntax.init_declarator (syntax.Named [] (name (codes "p") (at 21 7)) (suffixes [])) (syntax.an_initializer (syntax.Single (syntax.FunctionLiteral (syntax.type_name (specs (syntax.TypeSpec type.Int (at 26 10) ∷ [])) (syntax.Unnamed [] (suffixes (syntax.FunctionSuffix (parameters (syntax.parameter (specs (syntax.TypeSpec type.Int (at 31 12) ∷ [])) (syntax.Named [] (name (codes "n") (at 35 13)) (suffixes [])) (at 31 12) ∷ [])) false (at 30 11) ∷ [])))) (syntax.block (block_items (syntax.StatementItem (syntax.Return (syntax.an_expr (syntax.Call (syntax.Identifier (name (codes "p") (at 48 18))) (syntax.exprs ((syntax.Identifier (name (codes "n") (at 50 20))) ∷ [])) (at 49 19))) (at 41 17) (span (at 41 17) (at 52 22))) ∷ [])) (span (at 39 16) (at 54 23))) (at 25 9)))) ∷ []))) ∷ [])) (span (at 14 5) (at 57 25))) ∷ [])

-- void f(void) { int (*p)(void) = (int (void)) { return a; }, x = b; }
abbrev pub which_fault_comes_first_16 : List syntax.External
which_fault_comes_first_16 = (syntax.FunctionDefinition (specs (syntax.TypeSpec type.Void (at 1 0) ∷ [])) (syntax.Named [] (name (codes "f") (at 6 1)) (suffixes (syntax.FunctionSuffix (parameters (syntax.parameter (specs (syntax.TypeSpec type.Void (at 8 3) ∷ [])) (syntax.Unnamed [] (suffixes [])) (at 8 3) ∷ [])) false (at 7 2) ∷ []))) (syntax.block (block_items (syntax.DeclarationItem (syntax.SimpleDeclaration (specs (syntax.TypeSpec type.Int (at 16 6) ∷ [])) (declared (syntax.init_declarator (syntax.Grouped [] (syntax.Named (pointer (at 21 8) [] ∷ []) (name (codes "p") (at 22 9)) (suffixes [])) (suffixes (syntax.FunctionSuffix (parameters (syntax.parameter (specs (syntax.TypeSpec type.Void (at 25 12) ∷ [])) (syntax.Unnamed [] (suffixes [])) (at 25 12) ∷ [])) false (at 24 11) ∷ [])) (at 20 7)) (syntax.an_initializer (syntax.Single (syntax.FunctionLiteral (syntax.type_name (specs (syntax.TypeSpec type.Int (at 34 16) ∷ [])) (syntax.Unnamed [] (suffixes (syntax.FunctionSuffix (parameters (syntax.parameter (specs (syntax.TypeSpec type.Void (at 39 18) ∷ [])) (syntax.Unnamed [] (suffixes [])) (at 39 18) ∷ [])) false (at 38 17) ∷ [])))) (syntax.block (block_items (syntax.StatementItem (syntax.Return (syntax.an_expr (syntax.Identifier (name (codes "a") (at 55 23)))) (at 48 22) (span (at 48 22) (at 56 24))) ∷ [])) (span (at 46 21) (at 58 25))) (at 33 15)))) ∷ syntax.init_declarator (syntax.Named [] (name (codes "x") (at 61 27)) (suffixes [])) (syntax.an_initializer (syntax.Single (syntax.Identifier (name (codes "b") (at 65 29))))) ∷ []))) ∷ [])) (span (at 14 5) (at 68 31))) ∷ [])

-- int x = n, y[m];
abbrev pub which_fault_comes_first_17 : List syntax.External
which_fault_comes_first_17 = (syntax.ExternalDeclaration (syntax.SimpleDeclaration (specs (syntax.TypeSpec type.Int (at 1 0) ∷ [])) (declared (syntax.init_declarator (syntax.Named [] (name (codes "x") (at 5 1)) (suffixes [])) (syntax.an_initializer (syntax.Single (syntax.Identifier (name (codes "n") (at 9 3))))) ∷ syntax.init_declarator (syntax.Named [] (name (codes "y") (at 12 5)) (suffixes (syntax.ArraySuffix (syntax.an_expr (syntax.Identifier (name (codes "m") (at 14 7)))) (at 13 6) ∷ []))) syntax.no_initializer ∷ []))) ∷ [])

-- constexpr int x[n];
abbrev pub which_fault_comes_first_18 : List syntax.External
which_fault_comes_first_18 = (syntax.ExternalDeclaration (syntax.SimpleDeclaration (specs (syntax.StorageSpec storage.Constexpr (at 1 0) ∷ syntax.TypeSpec type.Int (at 11 1) ∷ [])) (declared (syntax.init_declarator (syntax.Named [] (name (codes "x") (at 15 2)) (suffixes (syntax.ArraySuffix (syntax.an_expr (syntax.Identifier (name (codes "n") (at 17 4)))) (at 16 3) ∷ []))) syntax.no_initializer ∷ []))) ∷ [])

-- _Owner auto cake_x = 1;
abbrev pub which_fault_comes_first_19 : List syntax.External
which_fault_comes_first_19 = (syntax.ExternalDeclaration (syntax.SimpleDeclaration (specs (syntax.QualifierSpec (qualifier qual.Owner (at 1 0)) ∷ syntax.StorageSpec storage.Auto (at 8 1) ∷ [])) (declared (syntax.init_declarator (syntax.Named [] (name (codes "cake_x") (at 13 2)) (suffixes [])) (syntax.an_initializer (syntax.Single (syntax.Constant (pos 1) basic.Int (at 22 4)))) ∷ []))) ∷ [])

-- auto register;
abbrev pub which_fault_comes_first_20 : List syntax.External
which_fault_comes_first_20 = (syntax.ExternalDeclaration (syntax.SimpleDeclaration (specs (syntax.StorageSpec storage.Auto (at 1 0) ∷ syntax.StorageSpec storage.Register (at 6 1) ∷ [])) (declared [])) ∷ [])

-- auto f(int a[n]) { }
abbrev pub which_fault_comes_first_21 : List syntax.External
which_fault_comes_first_21 = (syntax.FunctionDefinition (specs (syntax.StorageSpec storage.Auto (at 1 0) ∷ [])) (syntax.Named [] (name (codes "f") (at 6 1)) (suffixes (syntax.FunctionSuffix (parameters (syntax.parameter (specs (syntax.TypeSpec type.Int (at 8 3) ∷ [])) (syntax.Named [] (name (codes "a") (at 12 4)) (suffixes (syntax.ArraySuffix (syntax.an_expr (syntax.Identifier (name (codes "n") (at 14 6)))) (at 13 5) ∷ []))) (at 8 3) ∷ [])) false (at 7 2) ∷ []))) (syntax.block (block_items []) (span (at 18 9) (at 20 10))) ∷ [])

-- enum e { A }; enum e main(void) { }
abbrev pub which_fault_comes_first_22 : List syntax.External
which_fault_comes_first_22 = (syntax.ExternalDeclaration (syntax.SimpleDeclaration (specs (syntax.Enum (Some (name (codes "e") (at 6 1))) syntax.none_of_specs (enumerators (syntax.enumerator (name (codes "A") (at 10 3)) syntax.no_expr ∷ [])) (at 1 0) ∷ [])) (declared [])) ∷ syntax.FunctionDefinition (specs (syntax.EnumTag (name (codes "e") (at 20 7)) syntax.none_of_specs (at 15 6) ∷ [])) (syntax.Named [] (name (codes "main") (at 22 8)) (suffixes (syntax.FunctionSuffix (parameters (syntax.parameter (specs (syntax.TypeSpec type.Void (at 27 10) ∷ [])) (syntax.Unnamed [] (suffixes [])) (at 27 10) ∷ [])) false (at 26 9) ∷ []))) (syntax.block (block_items []) (span (at 33 12) (at 35 13))) ∷ [])

-- typedef int T = 1; typedef int T = 1;
abbrev pub which_fault_comes_first_23 : List syntax.External
which_fault_comes_first_23 = (syntax.ExternalDeclaration (syntax.SimpleDeclaration (specs (syntax.StorageSpec storage.Typedef (at 1 0) ∷ syntax.TypeSpec type.Int (at 9 1) ∷ [])) (declared (syntax.init_declarator (syntax.Named [] (name (codes "T") (at 13 2)) (suffixes [])) (syntax.an_initializer (syntax.Single (syntax.Constant (pos 1) basic.Int (at 17 4)))) ∷ []))) ∷ syntax.ExternalDeclaration (syntax.SimpleDeclaration (specs (syntax.StorageSpec storage.Typedef (at 20 6) ∷ syntax.TypeSpec type.Int (at 28 7) ∷ [])) (declared (syntax.init_declarator (syntax.Named [] (name (codes "T") (at 32 8)) (suffixes [])) (syntax.an_initializer (syntax.Single (syntax.Constant (pos 1) basic.Int (at 36 10)))) ∷ []))) ∷ [])
