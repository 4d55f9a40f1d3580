-- faulty declarators: units of one line, as trees.
use Rattle.std.specs.Prelude.{List, [], ◌∷◌, Some, false, pos, codes}
use Rattle.model_grammar.specs.SyntaxForms as syntax
use Rattle.model_types.specs.declared.numbers.Basic.TheVariants as basic
use Rattle.model_grammar.specs.declared.syntax.StorageWord.TheVariants as storage
use Rattle.model_grammar.specs.declared.syntax.TypeWord.TheVariants as type
use Rattle.model_grammar.specs.declared.syntax.QualifierWord.TheVariants as qual
use Rattle.model_grammar.specs.declared.syntax.TypeofWord.TheVariants as word
use Rattle.checking_units.specs.Parts.{at, name, specs, qualifier, pointer, suffixes, parameters, members, declared, block_items, span}

-- void f(void x, int a[n]);
abbrev pub faulty_declarators_1 : List syntax.External
faulty_declarators_1 = (syntax.ExternalDeclaration (syntax.SimpleDeclaration (specs (syntax.TypeSpec type.Void (at 1 0) ∷ [])) (declared (syntax.init_declarator (syntax.Named [] (name (codes "f") (at 6 1)) (suffixes (syntax.FunctionSuffix (parameters (syntax.parameter (specs (syntax.TypeSpec type.Void (at 8 3) ∷ [])) (syntax.Named [] (name (codes "x") (at 13 4)) (suffixes [])) (at 8 3) ∷ syntax.parameter (specs (syntax.TypeSpec type.Int (at 16 6) ∷ [])) (syntax.Named [] (name (codes "a") (at 20 7)) (suffixes (syntax.ArraySuffix (syntax.an_expr (syntax.Identifier (name (codes "n") (at 22 9)))) (at 21 8) ∷ []))) (at 16 6) ∷ [])) false (at 7 2) ∷ []))) syntax.no_initializer ∷ []))) ∷ [])

-- void f(void x, int a[n]), y;
abbrev pub faulty_declarators_2 : List syntax.External
faulty_declarators_2 = (syntax.ExternalDeclaration (syntax.SimpleDeclaration (specs (syntax.TypeSpec type.Void (at 1 0) ∷ [])) (declared (syntax.init_declarator (syntax.Named [] (name (codes "f") (at 6 1)) (suffixes (syntax.FunctionSuffix (parameters (syntax.parameter (specs (syntax.TypeSpec type.Void (at 8 3) ∷ [])) (syntax.Named [] (name (codes "x") (at 13 4)) (suffixes [])) (at 8 3) ∷ syntax.parameter (specs (syntax.TypeSpec type.Int (at 16 6) ∷ [])) (syntax.Named [] (name (codes "a") (at 20 7)) (suffixes (syntax.ArraySuffix (syntax.an_expr (syntax.Identifier (name (codes "n") (at 22 9)))) (at 21 8) ∷ []))) (at 16 6) ∷ [])) false (at 7 2) ∷ []))) syntax.no_initializer ∷ syntax.init_declarator (syntax.Named [] (name (codes "y") (at 27 13)) (suffixes [])) syntax.no_initializer ∷ []))) ∷ [])

-- void f(void x, int a[n]) { }
abbrev pub faulty_declarators_3 : List syntax.External
faulty_declarators_3 = (syntax.FunctionDefinition (specs (syntax.TypeSpec type.Void (at 1 0) ∷ [])) (syntax.Named [] (name (codes "f") (at 6 1)) (suffixes (syntax.FunctionSuffix (parameters (syntax.parameter (specs (syntax.TypeSpec type.Void (at 8 3) ∷ [])) (syntax.Named [] (name (codes "x") (at 13 4)) (suffixes [])) (at 8 3) ∷ syntax.parameter (specs (syntax.TypeSpec type.Int (at 16 6) ∷ [])) (syntax.Named [] (name (codes "a") (at 20 7)) (suffixes (syntax.ArraySuffix (syntax.an_expr (syntax.Identifier (name (codes "n") (at 22 9)))) (at 21 8) ∷ []))) (at 16 6) ∷ [])) false (at 7 2) ∷ []))) (syntax.block (block_items []) (span (at 26 12) (at 28 13))) ∷ [])

-- void g(void) { (int (void x, int a[n])) { return 0; }; }
abbrev pub faulty_declarators_4 : List syntax.External
faulty_declarators_4 = (syntax.FunctionDefinition (specs (syntax.TypeSpec type.Void (at 1 0) ∷ [])) (syntax.Named [] (name (codes "g") (at 6 1)) (suffixes (syntax.FunctionSuffix (parameters (syntax.parameter (specs (syntax.TypeSpec type.Void (at 8 3) ∷ [])) (syntax.Unnamed [] (suffixes [])) (at 8 3) ∷ [])) false (at 7 2) ∷ []))) (syntax.block (block_items (syntax.StatementItem (syntax.ExpressionStatement (syntax.an_expr (syntax.FunctionLiteral (syntax.type_name (specs (syntax.TypeSpec type.Int (at 17 7) ∷ [])) (syntax.Unnamed [] (suffixes (syntax.FunctionSuffix (parameters (syntax.parameter (specs (syntax.TypeSpec type.Void (at 22 9) ∷ [])) (syntax.Named [] (name (codes "x") (at 27 10)) (suffixes [])) (at 22 9) ∷ syntax.parameter (specs (syntax.TypeSpec type.Int (at 30 12) ∷ [])) (syntax.Named [] (name (codes "a") (at 34 13)) (suffixes (syntax.ArraySuffix (syntax.an_expr (syntax.Identifier (name (codes "n") (at 36 15)))) (at 35 14) ∷ []))) (at 30 12) ∷ [])) false (at 21 8) ∷ [])))) (syntax.block (block_items (syntax.StatementItem (syntax.Return (syntax.an_expr (syntax.Constant (pos 0) basic.Int (at 50 21))) (at 43 20) (span (at 43 20) (at 51 22))) ∷ [])) (span (at 41 19) (at 53 23))) (at 16 6))) (span (at 16 6) (at 54 24))) ∷ [])) (span (at 14 5) (at 56 25))) ∷ [])

-- int f(int a[n], void x) { return 0; }
abbrev pub faulty_declarators_5 : List syntax.External
faulty_declarators_5 = (syntax.FunctionDefinition (specs (syntax.TypeSpec type.Int (at 1 0) ∷ [])) (syntax.Named [] (name (codes "f") (at 5 1)) (suffixes (syntax.FunctionSuffix (parameters (syntax.parameter (specs (syntax.TypeSpec type.Int (at 7 3) ∷ [])) (syntax.Named [] (name (codes "a") (at 11 4)) (suffixes (syntax.ArraySuffix (syntax.an_expr (syntax.Identifier (name (codes "n") (at 13 6)))) (at 12 5) ∷ []))) (at 7 3) ∷ syntax.parameter (specs (syntax.TypeSpec type.Void (at 17 9) ∷ [])) (syntax.Named [] (name (codes "x") (at 22 10)) (suffixes [])) (at 17 9) ∷ [])) false (at 6 2) ∷ []))) (syntax.block (block_items (syntax.StatementItem (syntax.Return (syntax.an_expr (syntax.Constant (pos 0) basic.Int (at 34 14))) (at 27 13) (span (at 27 13) (at 35 15))) ∷ [])) (span (at 25 12) (at 37 16))) ∷ [])

-- int f(int a[n], int a);
abbrev pub faulty_declarators_6 : List syntax.External
faulty_declarators_6 = (syntax.ExternalDeclaration (syntax.SimpleDeclaration (specs (syntax.TypeSpec type.Int (at 1 0) ∷ [])) (declared (syntax.init_declarator (syntax.Named [] (name (codes "f") (at 5 1)) (suffixes (syntax.FunctionSuffix (parameters (syntax.parameter (specs (syntax.TypeSpec type.Int (at 7 3) ∷ [])) (syntax.Named [] (name (codes "a") (at 11 4)) (suffixes (syntax.ArraySuffix (syntax.an_expr (syntax.Identifier (name (codes "n") (at 13 6)))) (at 12 5) ∷ []))) (at 7 3) ∷ syntax.parameter (specs (syntax.TypeSpec type.Int (at 17 9) ∷ [])) (syntax.Named [] (name (codes "a") (at 21 10)) (suffixes [])) (at 17 9) ∷ [])) false (at 6 2) ∷ []))) syntax.no_initializer ∷ []))) ∷ [])

-- int f(int g(void x, int a[n]));
abbrev pub faulty_declarators_7 : List syntax.External
faulty_declarators_7 = (syntax.ExternalDeclaration (syntax.SimpleDeclaration (specs (syntax.TypeSpec type.Int (at 1 0) ∷ [])) (declared (syntax.init_declarator (syntax.Named [] (name (codes "f") (at 5 1)) (suffixes (syntax.FunctionSuffix (parameters (syntax.parameter (specs (syntax.TypeSpec type.Int (at 7 3) ∷ [])) (syntax.Named [] (name (codes "g") (at 11 4)) (suffixes (syntax.FunctionSuffix (parameters (syntax.parameter (specs (syntax.TypeSpec type.Void (at 13 6) ∷ [])) (syntax.Named [] (name (codes "x") (at 18 7)) (suffixes [])) (at 13 6) ∷ syntax.parameter (specs (syntax.TypeSpec type.Int (at 21 9) ∷ [])) (syntax.Named [] (name (codes "a") (at 25 10)) (suffixes (syntax.ArraySuffix (syntax.an_expr (syntax.Identifier (name (codes "n") (at 27 12)))) (at 26 11) ∷ []))) (at 21 9) ∷ [])) false (at 12 5) ∷ []))) (at 7 3) ∷ [])) false (at 6 2) ∷ []))) syntax.no_initializer ∷ []))) ∷ [])

-- struct s { int (*p)(void x, int a[n]); };
abbrev pub faulty_declarators_8 : List syntax.External
faulty_declarators_8 = (syntax.ExternalDeclaration (syntax.SimpleDeclaration (specs (syntax.Struct (Some (name (codes "s") (at 8 1))) (members (syntax.MemberDeclarators (specs (syntax.TypeSpec type.Int (at 12 3) ∷ [])) (syntax.declarators ((syntax.Grouped [] (syntax.Named (pointer (at 17 5) [] ∷ []) (name (codes "p") (at 18 6)) (suffixes [])) (suffixes (syntax.FunctionSuffix (parameters (syntax.parameter (specs (syntax.TypeSpec type.Void (at 21 9) ∷ [])) (syntax.Named [] (name (codes "x") (at 26 10)) (suffixes [])) (at 21 9) ∷ syntax.parameter (specs (syntax.TypeSpec type.Int (at 29 12) ∷ [])) (syntax.Named [] (name (codes "a") (at 33 13)) (suffixes (syntax.ArraySuffix (syntax.an_expr (syntax.Identifier (name (codes "n") (at 35 15)))) (at 34 14) ∷ []))) (at 29 12) ∷ [])) false (at 20 8) ∷ [])) (at 16 4)) ∷ [])) ∷ [])) (at 1 0) ∷ [])) (declared [])) ∷ [])

-- typeof(int (void x, int a[n])) *p;
abbrev pub faulty_declarators_9 : List syntax.External
faulty_declarators_9 = (syntax.ExternalDeclaration (syntax.SimpleDeclaration (specs (syntax.TypeofType word.Typeof (syntax.type_name (specs (syntax.TypeSpec type.Int (at 8 2) ∷ [])) (syntax.Unnamed [] (suffixes (syntax.FunctionSuffix (parameters (syntax.parameter (specs (syntax.TypeSpec type.Void (at 13 4) ∷ [])) (syntax.Named [] (name (codes "x") (at 18 5)) (suffixes [])) (at 13 4) ∷ syntax.parameter (specs (syntax.TypeSpec type.Int (at 21 7) ∷ [])) (syntax.Named [] (name (codes "a") (at 25 8)) (suffixes (syntax.ArraySuffix (syntax.an_expr (syntax.Identifier (name (codes "n") (at 27 10)))) (at 26 9) ∷ []))) (at 21 7) ∷ [])) false (at 12 3) ∷ [])))) (at 1 0) ∷ [])) (declared (syntax.init_declarator (syntax.Named (pointer (at 32 14) [] ∷ []) (name (codes "p") (at 33 15)) (suffixes [])) syntax.no_initializer ∷ []))) ∷ [])

-- void g(void) { (int (*)(void x, int a[n]))0; }
abbrev pub faulty_declarators_10 : List syntax.External
faulty_declarators_10 = (syntax.FunctionDefinition (specs (syntax.TypeSpec type.Void (at 1 0) ∷ [])) (syntax.Named [] (name (codes "g") (at 6 1)) (suffixes (syntax.FunctionSuffix (parameters (syntax.parameter (specs (syntax.TypeSpec type.Void (at 8 3) ∷ [])) (syntax.Unnamed [] (suffixes [])) (at 8 3) ∷ [])) false (at 7 2) ∷ []))) (syntax.block (block_items (syntax.StatementItem (syntax.ExpressionStatement (syntax.an_expr (syntax.Cast (syntax.type_name (specs (syntax.TypeSpec type.Int (at 17 7) ∷ [])) (syntax.Grouped [] (syntax.Unnamed (pointer (at 22 9) [] ∷ []) (suffixes [])) (suffixes (syntax.FunctionSuffix (parameters (syntax.parameter (specs (syntax.TypeSpec type.Void (at 25 12) ∷ [])) (syntax.Named [] (name (codes "x") (at 30 13)) (suffixes [])) (at 25 12) ∷ syntax.parameter (specs (syntax.TypeSpec type.Int (at 33 15) ∷ [])) (syntax.Named [] (name (codes "a") (at 37 16)) (suffixes (syntax.ArraySuffix (syntax.an_expr (syntax.Identifier (name (codes "n") (at 39 18)))) (at 38 17) ∷ []))) (at 33 15) ∷ [])) false (at 24 11) ∷ [])) (at 21 8))) (syntax.Constant (pos 0) basic.Int (at 43 22)) (at 16 6))) (span (at 16 6) (at 44 23))) ∷ [])) (span (at 14 5) (at 46 24))) ∷ [])

-- int (* _Owner f)(int a[n]);
abbrev pub faulty_declarators_11 : List syntax.External
faulty_declarators_11 = (syntax.ExternalDeclaration (syntax.SimpleDeclaration (specs (syntax.TypeSpec type.Int (at 1 0) ∷ [])) (declared (syntax.init_declarator (syntax.Grouped [] (syntax.Named (pointer (at 6 2) ((qualifier qual.Owner (at 8 3)) ∷ []) ∷ []) (name (codes "f") (at 15 4)) (suffixes [])) (suffixes (syntax.FunctionSuffix (parameters (syntax.parameter (specs (syntax.TypeSpec type.Int (at 18 7) ∷ [])) (syntax.Named [] (name (codes "a") (at 22 8)) (suffixes (syntax.ArraySuffix (syntax.an_expr (syntax.Identifier (name (codes "n") (at 24 10)))) (at 23 9) ∷ []))) (at 18 7) ∷ [])) false (at 17 6) ∷ [])) (at 5 1)) syntax.no_initializer ∷ []))) ∷ [])

-- int f(int (* _Owner p)(int a[n]));
abbrev pub faulty_declarators_12 : List syntax.External
faulty_declarators_12 = (syntax.ExternalDeclaration (syntax.SimpleDeclaration (specs (syntax.TypeSpec type.Int (at 1 0) ∷ [])) (declared (syntax.init_declarator (syntax.Named [] (name (codes "f") (at 5 1)) (suffixes (syntax.FunctionSuffix (parameters (syntax.parameter (specs (syntax.TypeSpec type.Int (at 7 3) ∷ [])) (syntax.Grouped [] (syntax.Named (pointer (at 12 5) ((qualifier qual.Owner (at 14 6)) ∷ []) ∷ []) (name (codes "p") (at 21 7)) (suffixes [])) (suffixes (syntax.FunctionSuffix (parameters (syntax.parameter (specs (syntax.TypeSpec type.Int (at 24 10) ∷ [])) (syntax.Named [] (name (codes "a") (at 28 11)) (suffixes (syntax.ArraySuffix (syntax.an_expr (syntax.Identifier (name (codes "n") (at 30 13)))) (at 29 12) ∷ []))) (at 24 10) ∷ [])) false (at 23 9) ∷ [])) (at 11 4)) (at 7 3) ∷ [])) false (at 6 2) ∷ []))) syntax.no_initializer ∷ []))) ∷ [])

-- struct s { int (* _Owner p)(int a[n]); };
abbrev pub faulty_declarators_13 : List syntax.External
faulty_declarators_13 = (syntax.ExternalDeclaration (syntax.SimpleDeclaration (specs (syntax.Struct (Some (name (codes "s") (at 8 1))) (members (syntax.MemberDeclarators (specs (syntax.TypeSpec type.Int (at 12 3) ∷ [])) (syntax.declarators ((syntax.Grouped [] (syntax.Named (pointer (at 17 5) ((qualifier qual.Owner (at 19 6)) ∷ []) ∷ []) (name (codes "p") (at 26 7)) (suffixes [])) (suffixes (syntax.FunctionSuffix (parameters (syntax.parameter (specs (syntax.TypeSpec type.Int (at 29 10) ∷ [])) (syntax.Named [] (name (codes "a") (at 33 11)) (suffixes (syntax.ArraySuffix (syntax.an_expr (syntax.Identifier (name (codes "n") (at 35 13)))) (at 34 12) ∷ []))) (at 29 10) ∷ [])) false (at 28 9) ∷ [])) (at 16 4)) ∷ [])) ∷ [])) (at 1 0) ∷ [])) (declared [])) ∷ [])

-- void g(void) { (int (* _Owner)(int a[n]))0; }
abbrev pub faulty_declarators_14 : List syntax.External
faulty_declarators_14 = (syntax.FunctionDefinition (specs (syntax.TypeSpec type.Void (at 1 0) ∷ [])) (syntax.Named [] (name (codes "g") (at 6 1)) (suffixes (syntax.FunctionSuffix (parameters (syntax.parameter (specs (syntax.TypeSpec type.Void (at 8 3) ∷ [])) (syntax.Unnamed [] (suffixes [])) (at 8 3) ∷ [])) false (at 7 2) ∷ []))) (syntax.block (block_items (syntax.StatementItem (syntax.ExpressionStatement (syntax.an_expr (syntax.Cast (syntax.type_name (specs (syntax.TypeSpec type.Int (at 17 7) ∷ [])) (syntax.Grouped [] (syntax.Unnamed (pointer (at 22 9) ((qualifier qual.Owner (at 24 10)) ∷ []) ∷ []) (suffixes [])) (suffixes (syntax.FunctionSuffix (parameters (syntax.parameter (specs (syntax.TypeSpec type.Int (at 32 13) ∷ [])) (syntax.Named [] (name (codes "a") (at 36 14)) (suffixes (syntax.ArraySuffix (syntax.an_expr (syntax.Identifier (name (codes "n") (at 38 16)))) (at 37 15) ∷ []))) (at 32 13) ∷ [])) false (at 31 12) ∷ [])) (at 21 8))) (syntax.Constant (pos 0) basic.Int (at 42 20)) (at 16 6))) (span (at 16 6) (at 43 21))) ∷ [])) (span (at 14 5) (at 45 22))) ∷ [])

-- int (* _Owner p)[n];
abbrev pub faulty_declarators_15 : List syntax.External
faulty_declarators_15 = (syntax.ExternalDeclaration (syntax.SimpleDeclaration (specs (syntax.TypeSpec type.Int (at 1 0) ∷ [])) (declared (syntax.init_declarator (syntax.Grouped [] (syntax.Named (pointer (at 6 2) ((qualifier qual.Owner (at 8 3)) ∷ []) ∷ []) (name (codes "p") (at 15 4)) (suffixes [])) (suffixes (syntax.ArraySuffix (syntax.an_expr (syntax.Identifier (name (codes "n") (at 18 7)))) (at 17 6) ∷ [])) (at 5 1)) syntax.no_initializer ∷ []))) ∷ [])

-- int (*a[2000000000])[n];
abbrev pub faulty_declarators_16 : List syntax.External
faulty_declarators_16 = (syntax.ExternalDeclaration (syntax.SimpleDeclaration (specs (syntax.TypeSpec type.Int (at 1 0) ∷ [])) (declared (syntax.init_declarator (syntax.Grouped [] (syntax.Named (pointer (at 6 2) [] ∷ []) (name (codes "a") (at 7 3)) (suffixes (syntax.ArraySuffix (syntax.an_expr (syntax.Constant (pos 2000000000) basic.Int (at 9 5))) (at 8 4) ∷ []))) (suffixes (syntax.ArraySuffix (syntax.an_expr (syntax.Identifier (name (codes "n") (at 22 9)))) (at 21 8) ∷ [])) (at 5 1)) syntax.no_initializer ∷ []))) ∷ [])

-- char (*x[1000000000])[n];
abbrev pub faulty_declarators_17 : List syntax.External
faulty_declarators_17 = (syntax.ExternalDeclaration (syntax.SimpleDeclaration (specs (syntax.TypeSpec type.Char (at 1 0) ∷ [])) (declared (syntax.init_declarator (syntax.Grouped [] (syntax.Named (pointer (at 7 2) [] ∷ []) (name (codes "x") (at 8 3)) (suffixes (syntax.ArraySuffix (syntax.an_expr (syntax.Constant (pos 1000000000) basic.Int (at 10 5))) (at 9 4) ∷ []))) (suffixes (syntax.ArraySuffix (syntax.an_expr (syntax.Identifier (name (codes "n") (at 23 9)))) (at 22 8) ∷ [])) (at 6 1)) syntax.no_initializer ∷ []))) ∷ [])

-- char a[2000000000][n];
abbrev pub faulty_declarators_18 : List syntax.External
faulty_declarators_18 = (syntax.ExternalDeclaration (syntax.SimpleDeclaration (specs (syntax.TypeSpec type.Char (at 1 0) ∷ [])) (declared (syntax.init_declarator (syntax.Named [] (name (codes "a") (at 6 1)) (suffixes (syntax.ArraySuffix (syntax.an_expr (syntax.Constant (pos 2000000000) basic.Int (at 8 3))) (at 7 2) ∷ syntax.ArraySuffix (syntax.an_expr (syntax.Identifier (name (codes "n") (at 20 6)))) (at 19 5) ∷ []))) syntax.no_initializer ∷ []))) ∷ [])

-- char (*x[n])[2000000000];
abbrev pub faulty_declarators_19 : List syntax.External
faulty_declarators_19 = (syntax.ExternalDeclaration (syntax.SimpleDeclaration (specs (syntax.TypeSpec type.Char (at 1 0) ∷ [])) (declared (syntax.init_declarator (syntax.Grouped [] (syntax.Named (pointer (at 7 2) [] ∷ []) (name (codes "x") (at 8 3)) (suffixes (syntax.ArraySuffix (syntax.an_expr (syntax.Identifier (name (codes "n") (at 10 5)))) (at 9 4) ∷ []))) (suffixes (syntax.ArraySuffix (syntax.an_expr (syntax.Constant (pos 2000000000) basic.Int (at 14 9))) (at 13 8) ∷ [])) (at 6 1)) syntax.no_initializer ∷ []))) ∷ [])

-- int f(void)[n];
abbrev pub faulty_declarators_20 : List syntax.External
faulty_declarators_20 = (syntax.ExternalDeclaration (syntax.SimpleDeclaration (specs (syntax.TypeSpec type.Int (at 1 0) ∷ [])) (declared (syntax.init_declarator (syntax.Named [] (name (codes "f") (at 5 1)) (suffixes (syntax.FunctionSuffix (parameters (syntax.parameter (specs (syntax.TypeSpec type.Void (at 7 3) ∷ [])) (syntax.Unnamed [] (suffixes [])) (at 7 3) ∷ [])) false (at 6 2) ∷ syntax.ArraySuffix (syntax.an_expr (syntax.Identifier (name (codes "n") (at 13 6)))) (at 12 5) ∷ []))) syntax.no_initializer ∷ []))) ∷ [])

-- int f[3](int a[n]);
abbrev pub faulty_declarators_21 : List syntax.External
faulty_declarators_21 = (syntax.ExternalDeclaration (syntax.SimpleDeclaration (specs (syntax.TypeSpec type.Int (at 1 0) ∷ [])) (declared (syntax.init_declarator (syntax.Named [] (name (codes "f") (at 5 1)) (suffixes (syntax.ArraySuffix (syntax.an_expr (syntax.Constant (pos 3) basic.Int (at 7 3))) (at 6 2) ∷ syntax.FunctionSuffix (parameters (syntax.parameter (specs (syntax.TypeSpec type.Int (at 10 6) ∷ [])) (syntax.Named [] (name (codes "a") (at 14 7)) (suffixes (syntax.ArraySuffix (syntax.an_expr (syntax.Identifier (name (codes "n") (at 16 9)))) (at 15 8) ∷ []))) (at 10 6) ∷ [])) false (at 9 5) ∷ []))) syntax.no_initializer ∷ []))) ∷ [])

-- int (*f(int a[n]))(void)[3];
abbrev pub faulty_declarators_22 : List syntax.External
faulty_declarators_22 = (syntax.ExternalDeclaration (syntax.SimpleDeclaration (specs (syntax.TypeSpec type.Int (at 1 0) ∷ [])) (declared (syntax.init_declarator (syntax.Grouped [] (syntax.Named (pointer (at 6 2) [] ∷ []) (name (codes "f") (at 7 3)) (suffixes (syntax.FunctionSuffix (parameters (syntax.parameter (specs (syntax.TypeSpec type.Int (at 9 5) ∷ [])) (syntax.Named [] (name (codes "a") (at 13 6)) (suffixes (syntax.ArraySuffix (syntax.an_expr (syntax.Identifier (name (codes "n") (at 15 8)))) (at 14 7) ∷ []))) (at 9 5) ∷ [])) false (at 8 4) ∷ []))) (suffixes (syntax.FunctionSuffix (parameters (syntax.parameter (specs (syntax.TypeSpec type.Void (at 20 13) ∷ [])) (syntax.Unnamed [] (suffixes [])) (at 20 13) ∷ [])) false (at 19 12) ∷ syntax.ArraySuffix (syntax.an_expr (syntax.Constant (pos 3) basic.Int (at 26 16))) (at 25 15) ∷ [])) (at 5 1)) syntax.no_initializer ∷ []))) ∷ [])

-- int (*x[])[n];
abbrev pub faulty_declarators_23 : List syntax.External
faulty_declarators_23 = (syntax.ExternalDeclaration (syntax.SimpleDeclaration (specs (syntax.TypeSpec type.Int (at 1 0) ∷ [])) (declared (syntax.init_declarator (syntax.Grouped [] (syntax.Named (pointer (at 6 2) [] ∷ []) (name (codes "x") (at 7 3)) (suffixes (syntax.ArraySuffix syntax.no_expr (at 8 4) ∷ []))) (suffixes (syntax.ArraySuffix (syntax.an_expr (syntax.Identifier (name (codes "n") (at 12 8)))) (at 11 7) ∷ [])) (at 5 1)) syntax.no_initializer ∷ []))) ∷ [])

-- extern int (*x[])[n];
abbrev pub faulty_declarators_24 : List syntax.External
faulty_declarators_24 = (syntax.ExternalDeclaration (syntax.SimpleDeclaration (specs (syntax.StorageSpec storage.Extern (at 1 0) ∷ syntax.TypeSpec type.Int (at 8 1) ∷ [])) (declared (syntax.init_declarator (syntax.Grouped [] (syntax.Named (pointer (at 13 3) [] ∷ []) (name (codes "x") (at 14 4)) (suffixes (syntax.ArraySuffix syntax.no_expr (at 15 5) ∷ []))) (suffixes (syntax.ArraySuffix (syntax.an_expr (syntax.Identifier (name (codes "n") (at 19 9)))) (at 18 8) ∷ [])) (at 12 2)) syntax.no_initializer ∷ []))) ∷ [])
