-- C48: storage class is not allowed here: units of one line, as trees.
use Rattle.std.specs.Prelude.{List, [], ◌∷◌, None, false, pos, codes}
use Rattle.model_grammar.specs.SyntaxForms as syntax
use Rattle.model_types.specs.declared.numbers.Basic.TheVariants as basic
use Rattle.model_types.specs.declared.numbers.BinOp.TheVariants as op
use Rattle.model_grammar.specs.declared.syntax.StorageWord.TheVariants as storage
use Rattle.model_grammar.specs.declared.syntax.FunctionWord.TheVariants as function
use Rattle.model_grammar.specs.declared.syntax.TypeWord.TheVariants as type
use Rattle.checking_units.specs.Parts.{at, name, specs, pointer, suffixes, parameters, members, declared, block_items, span}

-- int f(auto x);
abbrev pub c48_1 : List syntax.External
c48_1 = (syntax.ExternalDeclaration (syntax.SimpleDeclaration (specs (syntax.TypeSpec type.Int (at 1 0) ∷ [])) (declared (syntax.init_declarator (syntax.Named [] (name (codes "f") (at 5 1)) (suffixes (syntax.FunctionSuffix (parameters (syntax.parameter (specs (syntax.StorageSpec storage.Auto (at 7 3) ∷ [])) (syntax.Named [] (name (codes "x") (at 12 4)) (suffixes [])) (at 7 3) ∷ [])) false (at 6 2) ∷ []))) syntax.no_initializer ∷ []))) ∷ [])

-- int f(static int x);
abbrev pub c48_2 : List syntax.External
c48_2 = (syntax.ExternalDeclaration (syntax.SimpleDeclaration (specs (syntax.TypeSpec type.Int (at 1 0) ∷ [])) (declared (syntax.init_declarator (syntax.Named [] (name (codes "f") (at 5 1)) (suffixes (syntax.FunctionSuffix (parameters (syntax.parameter (specs (syntax.StorageSpec storage.Static (at 7 3) ∷ syntax.TypeSpec type.Int (at 14 4) ∷ [])) (syntax.Named [] (name (codes "x") (at 18 5)) (suffixes [])) (at 7 3) ∷ [])) false (at 6 2) ∷ []))) syntax.no_initializer ∷ []))) ∷ [])

-- int f(constexpr int x);
abbrev pub c48_3 : List syntax.External
c48_3 = (syntax.ExternalDeclaration (syntax.SimpleDeclaration (specs (syntax.TypeSpec type.Int (at 1 0) ∷ [])) (declared (syntax.init_declarator (syntax.Named [] (name (codes "f") (at 5 1)) (suffixes (syntax.FunctionSuffix (parameters (syntax.parameter (specs (syntax.StorageSpec storage.Constexpr (at 7 3) ∷ syntax.TypeSpec type.Int (at 17 4) ∷ [])) (syntax.Named [] (name (codes "x") (at 21 5)) (suffixes [])) (at 7 3) ∷ [])) false (at 6 2) ∷ []))) syntax.no_initializer ∷ []))) ∷ [])

-- int f(typedef int x);
abbrev pub c48_4 : List syntax.External
c48_4 = (syntax.ExternalDeclaration (syntax.SimpleDeclaration (specs (syntax.TypeSpec type.Int (at 1 0) ∷ [])) (declared (syntax.init_declarator (syntax.Named [] (name (codes "f") (at 5 1)) (suffixes (syntax.FunctionSuffix (parameters (syntax.parameter (specs (syntax.StorageSpec storage.Typedef (at 7 3) ∷ syntax.TypeSpec type.Int (at 15 4) ∷ [])) (syntax.Named [] (name (codes "x") (at 19 5)) (suffixes [])) (at 7 3) ∷ [])) false (at 6 2) ∷ []))) syntax.no_initializer ∷ []))) ∷ [])

-- register int x;
abbrev pub c48_5 : List syntax.External
c48_5 = (syntax.ExternalDeclaration (syntax.SimpleDeclaration (specs (syntax.StorageSpec storage.Register (at 1 0) ∷ syntax.TypeSpec type.Int (at 10 1) ∷ [])) (declared (syntax.init_declarator (syntax.Named [] (name (codes "x") (at 14 2)) (suffixes [])) syntax.no_initializer ∷ []))) ∷ [])

-- auto int x;
abbrev pub c48_6 : List syntax.External
c48_6 = (syntax.ExternalDeclaration (syntax.SimpleDeclaration (specs (syntax.StorageSpec storage.Auto (at 1 0) ∷ syntax.TypeSpec type.Int (at 6 1) ∷ [])) (declared (syntax.init_declarator (syntax.Named [] (name (codes "x") (at 10 2)) (suffixes [])) syntax.no_initializer ∷ []))) ∷ [])

-- void f(void) { for (static int i = 0; i < 1; ) ; }
abbrev pub c48_7 : List syntax.External
c48_7 = (syntax.FunctionDefinition (specs (syntax.TypeSpec type.Void (at 1 0) ∷ [])) (syntax.Named [] (name (codes "f") (at 6 1)) (suffixes (syntax.FunctionSuffix (parameters (syntax.parameter (specs (syntax.TypeSpec type.Void (at 8 3) ∷ [])) (syntax.Unnamed [] (suffixes [])) (at 8 3) ∷ [])) false (at 7 2) ∷ []))) (syntax.block (block_items (syntax.StatementItem (syntax.ForDeclaration (syntax.SimpleDeclaration (specs (syntax.StorageSpec storage.Static (at 21 8) ∷ syntax.TypeSpec type.Int (at 28 9) ∷ [])) (declared (syntax.init_declarator (syntax.Named [] (name (codes "i") (at 32 10)) (suffixes [])) (syntax.an_initializer (syntax.Single (syntax.Constant (pos 0) basic.Int (at 36 12)))) ∷ []))) (syntax.an_expr (syntax.Binary op.Less (syntax.Identifier (name (codes "i") (at 39 14))) (syntax.Constant (pos 1) basic.Int (at 43 16)) (at 41 15))) syntax.no_expr (syntax.ExpressionStatement syntax.no_expr (span (at 48 19) (at 48 19))) (span (at 16 6) (at 48 19))) ∷ [])) (span (at 14 5) (at 50 20))) ∷ [])

-- void f(void) { if (typedef int T; 1) ; }
abbrev pub c48_8 : List syntax.External
c48_8 = (syntax.FunctionDefinition (specs (syntax.TypeSpec type.Void (at 1 0) ∷ [])) (syntax.Named [] (name (codes "f") (at 6 1)) (suffixes (syntax.FunctionSuffix (parameters (syntax.parameter (specs (syntax.TypeSpec type.Void (at 8 3) ∷ [])) (syntax.Unnamed [] (suffixes [])) (at 8 3) ∷ [])) false (at 7 2) ∷ []))) (syntax.block (block_items (syntax.StatementItem (syntax.If (syntax.a_declaration (syntax.SimpleDeclaration (specs (syntax.StorageSpec storage.Typedef (at 20 8) ∷ syntax.TypeSpec type.Int (at 28 9) ∷ [])) (declared (syntax.init_declarator (syntax.Named [] (name (codes "T") (at 32 10)) (suffixes [])) syntax.no_initializer ∷ [])))) (syntax.Constant (pos 1) basic.Int (at 35 12)) (syntax.ExpressionStatement syntax.no_expr (span (at 38 14) (at 38 14))) syntax.no_statement (span (at 16 6) (at 38 14))) ∷ [])) (span (at 14 5) (at 40 15))) ∷ [])

-- void f(void) { static int g(void); }
abbrev pub c48_9 : List syntax.External
c48_9 = (syntax.FunctionDefinition (specs (syntax.TypeSpec type.Void (at 1 0) ∷ [])) (syntax.Named [] (name (codes "f") (at 6 1)) (suffixes (syntax.FunctionSuffix (parameters (syntax.parameter (specs (syntax.TypeSpec type.Void (at 8 3) ∷ [])) (syntax.Unnamed [] (suffixes [])) (at 8 3) ∷ [])) false (at 7 2) ∷ []))) (syntax.block (block_items (syntax.DeclarationItem (syntax.SimpleDeclaration (specs (syntax.StorageSpec storage.Static (at 16 6) ∷ syntax.TypeSpec type.Int (at 23 7) ∷ [])) (declared (syntax.init_declarator (syntax.Named [] (name (codes "g") (at 27 8)) (suffixes (syntax.FunctionSuffix (parameters (syntax.parameter (specs (syntax.TypeSpec type.Void (at 29 10) ∷ [])) (syntax.Unnamed [] (suffixes [])) (at 29 10) ∷ [])) false (at 28 9) ∷ []))) syntax.no_initializer ∷ []))) ∷ [])) (span (at 14 5) (at 36 13))) ∷ [])

-- void f(void) { register int g(void); }
abbrev pub c48_10 : List syntax.External
c48_10 = (syntax.FunctionDefinition (specs (syntax.TypeSpec type.Void (at 1 0) ∷ [])) (syntax.Named [] (name (codes "f") (at 6 1)) (suffixes (syntax.FunctionSuffix (parameters (syntax.parameter (specs (syntax.TypeSpec type.Void (at 8 3) ∷ [])) (syntax.Unnamed [] (suffixes [])) (at 8 3) ∷ [])) false (at 7 2) ∷ []))) (syntax.block (block_items (syntax.DeclarationItem (syntax.SimpleDeclaration (specs (syntax.StorageSpec storage.Register (at 16 6) ∷ syntax.TypeSpec type.Int (at 25 7) ∷ [])) (declared (syntax.init_declarator (syntax.Named [] (name (codes "g") (at 29 8)) (suffixes (syntax.FunctionSuffix (parameters (syntax.parameter (specs (syntax.TypeSpec type.Void (at 31 10) ∷ [])) (syntax.Unnamed [] (suffixes [])) (at 31 10) ∷ [])) false (at 30 9) ∷ []))) syntax.no_initializer ∷ []))) ∷ [])) (span (at 14 5) (at 38 13))) ∷ [])

-- void f(void) { constexpr int g(void); }
abbrev pub c48_11 : List syntax.External
c48_11 = (syntax.FunctionDefinition (specs (syntax.TypeSpec type.Void (at 1 0) ∷ [])) (syntax.Named [] (name (codes "f") (at 6 1)) (suffixes (syntax.FunctionSuffix (parameters (syntax.parameter (specs (syntax.TypeSpec type.Void (at 8 3) ∷ [])) (syntax.Unnamed [] (suffixes [])) (at 8 3) ∷ [])) false (at 7 2) ∷ []))) (syntax.block (block_items (syntax.DeclarationItem (syntax.SimpleDeclaration (specs (syntax.StorageSpec storage.Constexpr (at 16 6) ∷ syntax.TypeSpec type.Int (at 26 7) ∷ [])) (declared (syntax.init_declarator (syntax.Named [] (name (codes "g") (at 30 8)) (suffixes (syntax.FunctionSuffix (parameters (syntax.parameter (specs (syntax.TypeSpec type.Void (at 32 10) ∷ [])) (syntax.Unnamed [] (suffixes [])) (at 32 10) ∷ [])) false (at 31 9) ∷ []))) syntax.no_initializer ∷ []))) ∷ [])) (span (at 14 5) (at 39 13))) ∷ [])

-- void f(void) { static int g(void), h[n]; }
abbrev pub c48_12 : List syntax.External
c48_12 = (syntax.FunctionDefinition (specs (syntax.TypeSpec type.Void (at 1 0) ∷ [])) (syntax.Named [] (name (codes "f") (at 6 1)) (suffixes (syntax.FunctionSuffix (parameters (syntax.parameter (specs (syntax.TypeSpec type.Void (at 8 3) ∷ [])) (syntax.Unnamed [] (suffixes [])) (at 8 3) ∷ [])) false (at 7 2) ∷ []))) (syntax.block (block_items (syntax.DeclarationItem (syntax.SimpleDeclaration (specs (syntax.StorageSpec storage.Static (at 16 6) ∷ syntax.TypeSpec type.Int (at 23 7) ∷ [])) (declared (syntax.init_declarator (syntax.Named [] (name (codes "g") (at 27 8)) (suffixes (syntax.FunctionSuffix (parameters (syntax.parameter (specs (syntax.TypeSpec type.Void (at 29 10) ∷ [])) (syntax.Unnamed [] (suffixes [])) (at 29 10) ∷ [])) false (at 28 9) ∷ []))) syntax.no_initializer ∷ syntax.init_declarator (syntax.Named [] (name (codes "h") (at 36 13)) (suffixes (syntax.ArraySuffix (syntax.an_expr (syntax.Identifier (name (codes "n") (at 38 15)))) (at 37 14) ∷ []))) syntax.no_initializer ∷ []))) ∷ [])) (span (at 14 5) (at 42 18))) ∷ [])

-- void f(void) { static int h[n], g(void); }
abbrev pub c48_13 : List syntax.External
c48_13 = (syntax.FunctionDefinition (specs (syntax.TypeSpec type.Void (at 1 0) ∷ [])) (syntax.Named [] (name (codes "f") (at 6 1)) (suffixes (syntax.FunctionSuffix (parameters (syntax.parameter (specs (syntax.TypeSpec type.Void (at 8 3) ∷ [])) (syntax.Unnamed [] (suffixes [])) (at 8 3) ∷ [])) false (at 7 2) ∷ []))) (syntax.block (block_items (syntax.DeclarationItem (syntax.SimpleDeclaration (specs (syntax.StorageSpec storage.Static (at 16 6) ∷ syntax.TypeSpec type.Int (at 23 7) ∷ [])) (declared (syntax.init_declarator (syntax.Named [] (name (codes "h") (at 27 8)) (suffixes (syntax.ArraySuffix (syntax.an_expr (syntax.Identifier (name (codes "n") (at 29 10)))) (at 28 9) ∷ []))) syntax.no_initializer ∷ syntax.init_declarator (syntax.Named [] (name (codes "g") (at 33 13)) (suffixes (syntax.FunctionSuffix (parameters (syntax.parameter (specs (syntax.TypeSpec type.Void (at 35 15) ∷ [])) (syntax.Unnamed [] (suffixes [])) (at 35 15) ∷ [])) false (at 34 14) ∷ []))) syntax.no_initializer ∷ []))) ∷ [])) (span (at 14 5) (at 42 18))) ∷ [])

-- typedef int F(void); void f(void) { static F g; }
abbrev pub c48_14 : List syntax.External
c48_14 = (syntax.ExternalDeclaration (syntax.SimpleDeclaration (specs (syntax.StorageSpec storage.Typedef (at 1 0) ∷ syntax.TypeSpec type.Int (at 9 1) ∷ [])) (declared (syntax.init_declarator (syntax.Named [] (name (codes "F") (at 13 2)) (suffixes (syntax.FunctionSuffix (parameters (syntax.parameter (specs (syntax.TypeSpec type.Void (at 15 4) ∷ [])) (syntax.Unnamed [] (suffixes [])) (at 15 4) ∷ [])) false (at 14 3) ∷ []))) syntax.no_initializer ∷ []))) ∷ syntax.FunctionDefinition (specs (syntax.TypeSpec type.Void (at 22 7) ∷ [])) (syntax.Named [] (name (codes "f") (at 27 8)) (suffixes (syntax.FunctionSuffix (parameters (syntax.parameter (specs (syntax.TypeSpec type.Void (at 29 10) ∷ [])) (syntax.Unnamed [] (suffixes [])) (at 29 10) ∷ [])) false (at 28 9) ∷ []))) (syntax.block (block_items (syntax.DeclarationItem (syntax.SimpleDeclaration (specs (syntax.StorageSpec storage.Static (at 37 13) ∷ syntax.TypedefName (name (codes "F") (at 44 14)) ∷ [])) (declared (syntax.init_declarator (syntax.Named [] (name (codes "g") (at 46 15)) (suffixes [])) syntax.no_initializer ∷ []))) ∷ [])) (span (at 35 12) (at 49 17))) ∷ [])

-- void f(void) { static struct { int a; int a; } *g(void); }
abbrev pub c48_15 : List syntax.External
c48_15 = (syntax.FunctionDefinition (specs (syntax.TypeSpec type.Void (at 1 0) ∷ [])) (syntax.Named [] (name (codes "f") (at 6 1)) (suffixes (syntax.FunctionSuffix (parameters (syntax.parameter (specs (syntax.TypeSpec type.Void (at 8 3) ∷ [])) (syntax.Unnamed [] (suffixes [])) (at 8 3) ∷ [])) false (at 7 2) ∷ []))) (syntax.block (block_items (syntax.DeclarationItem (syntax.SimpleDeclaration (specs (syntax.StorageSpec storage.Static (at 16 6) ∷ syntax.Struct None (members (syntax.MemberDeclarators (specs (syntax.TypeSpec type.Int (at 32 9) ∷ [])) (syntax.declarators ((syntax.Named [] (name (codes "a") (at 36 10)) (suffixes [])) ∷ [])) ∷ syntax.MemberDeclarators (specs (syntax.TypeSpec type.Int (at 39 12) ∷ [])) (syntax.declarators ((syntax.Named [] (name (codes "a") (at 43 13)) (suffixes [])) ∷ [])) ∷ [])) (at 23 7) ∷ [])) (declared (syntax.init_declarator (syntax.Named (pointer (at 48 16) [] ∷ []) (name (codes "g") (at 49 17)) (suffixes (syntax.FunctionSuffix (parameters (syntax.parameter (specs (syntax.TypeSpec type.Void (at 51 19) ∷ [])) (syntax.Unnamed [] (suffixes [])) (at 51 19) ∷ [])) false (at 50 18) ∷ []))) syntax.no_initializer ∷ []))) ∷ [])) (span (at 14 5) (at 58 22))) ∷ [])

-- inline int f(void);
abbrev pub c48_16 : List syntax.External
c48_16 = (syntax.ExternalDeclaration (syntax.SimpleDeclaration (specs (syntax.FunctionSpec function.Inline (at 1 0) ∷ syntax.TypeSpec type.Int (at 8 1) ∷ [])) (declared (syntax.init_declarator (syntax.Named [] (name (codes "f") (at 12 2)) (suffixes (syntax.FunctionSuffix (parameters (syntax.parameter (specs (syntax.TypeSpec type.Void (at 14 4) ∷ [])) (syntax.Unnamed [] (suffixes [])) (at 14 4) ∷ [])) false (at 13 3) ∷ []))) syntax.no_initializer ∷ []))) ∷ [])

-- void f(void) { int g(void); { static int h(void); } }
abbrev pub c48_17 : List syntax.External
c48_17 = (syntax.FunctionDefinition (specs (syntax.TypeSpec type.Void (at 1 0) ∷ [])) (syntax.Named [] (name (codes "f") (at 6 1)) (suffixes (syntax.FunctionSuffix (parameters (syntax.parameter (specs (syntax.TypeSpec type.Void (at 8 3) ∷ [])) (syntax.Unnamed [] (suffixes [])) (at 8 3) ∷ [])) false (at 7 2) ∷ []))) (syntax.block (block_items (syntax.DeclarationItem (syntax.SimpleDeclaration (specs (syntax.TypeSpec type.Int (at 16 6) ∷ [])) (declared (syntax.init_declarator (syntax.Named [] (name (codes "g") (at 20 7)) (suffixes (syntax.FunctionSuffix (parameters (syntax.parameter (specs (syntax.TypeSpec type.Void (at 22 9) ∷ [])) (syntax.Unnamed [] (suffixes [])) (at 22 9) ∷ [])) false (at 21 8) ∷ []))) syntax.no_initializer ∷ []))) ∷ syntax.StatementItem (syntax.CompoundStatement (syntax.block (block_items (syntax.DeclarationItem (syntax.SimpleDeclaration (specs (syntax.StorageSpec storage.Static (at 31 13) ∷ syntax.TypeSpec type.Int (at 38 14) ∷ [])) (declared (syntax.init_declarator (syntax.Named [] (name (codes "h") (at 42 15)) (suffixes (syntax.FunctionSuffix (parameters (syntax.parameter (specs (syntax.TypeSpec type.Void (at 44 17) ∷ [])) (syntax.Unnamed [] (suffixes [])) (at 44 17) ∷ [])) false (at 43 16) ∷ []))) syntax.no_initializer ∷ []))) ∷ [])) (span (at 29 12) (at 51 20))) (span (at 29 12) (at 51 20))) ∷ [])) (span (at 14 5) (at 53 21))) ∷ [])

-- void g(void) { static int a(void), h[n]; }
abbrev pub c48_18 : List syntax.External
c48_18 = (syntax.FunctionDefinition (specs (syntax.TypeSpec type.Void (at 1 0) ∷ [])) (syntax.Named [] (name (codes "g") (at 6 1)) (suffixes (syntax.FunctionSuffix (parameters (syntax.parameter (specs (syntax.TypeSpec type.Void (at 8 3) ∷ [])) (syntax.Unnamed [] (suffixes [])) (at 8 3) ∷ [])) false (at 7 2) ∷ []))) (syntax.block (block_items (syntax.DeclarationItem (syntax.SimpleDeclaration (specs (syntax.StorageSpec storage.Static (at 16 6) ∷ syntax.TypeSpec type.Int (at 23 7) ∷ [])) (declared (syntax.init_declarator (syntax.Named [] (name (codes "a") (at 27 8)) (suffixes (syntax.FunctionSuffix (parameters (syntax.parameter (specs (syntax.TypeSpec type.Void (at 29 10) ∷ [])) (syntax.Unnamed [] (suffixes [])) (at 29 10) ∷ [])) false (at 28 9) ∷ []))) syntax.no_initializer ∷ syntax.init_declarator (syntax.Named [] (name (codes "h") (at 36 13)) (suffixes (syntax.ArraySuffix (syntax.an_expr (syntax.Identifier (name (codes "n") (at 38 15)))) (at 37 14) ∷ []))) syntax.no_initializer ∷ []))) ∷ [])) (span (at 14 5) (at 42 18))) ∷ [])

-- void f(auto int x);
abbrev pub c48_19 : List syntax.External
c48_19 = (syntax.ExternalDeclaration (syntax.SimpleDeclaration (specs (syntax.TypeSpec type.Void (at 1 0) ∷ [])) (declared (syntax.init_declarator (syntax.Named [] (name (codes "f") (at 6 1)) (suffixes (syntax.FunctionSuffix (parameters (syntax.parameter (specs (syntax.StorageSpec storage.Auto (at 8 3) ∷ syntax.TypeSpec type.Int (at 13 4) ∷ [])) (syntax.Named [] (name (codes "x") (at 17 5)) (suffixes [])) (at 8 3) ∷ [])) false (at 7 2) ∷ []))) syntax.no_initializer ∷ []))) ∷ [])

-- void g(void) { constexpr int f(void); }
abbrev pub c48_20 : List syntax.External
c48_20 = (syntax.FunctionDefinition (specs (syntax.TypeSpec type.Void (at 1 0) ∷ [])) (syntax.Named [] (name (codes "g") (at 6 1)) (suffixes (syntax.FunctionSuffix (parameters (syntax.parameter (specs (syntax.TypeSpec type.Void (at 8 3) ∷ [])) (syntax.Unnamed [] (suffixes [])) (at 8 3) ∷ [])) false (at 7 2) ∷ []))) (syntax.block (block_items (syntax.DeclarationItem (syntax.SimpleDeclaration (specs (syntax.StorageSpec storage.Constexpr (at 16 6) ∷ syntax.TypeSpec type.Int (at 26 7) ∷ [])) (declared (syntax.init_declarator (syntax.Named [] (name (codes "f") (at 30 8)) (suffixes (syntax.FunctionSuffix (parameters (syntax.parameter (specs (syntax.TypeSpec type.Void (at 32 10) ∷ [])) (syntax.Unnamed [] (suffixes [])) (at 32 10) ∷ [])) false (at 31 9) ∷ []))) syntax.no_initializer ∷ []))) ∷ [])) (span (at 14 5) (at 39 13))) ∷ [])

-- void g(void) { for (static int i = 0; ; ) ; }
abbrev pub c48_21 : List syntax.External
c48_21 = (syntax.FunctionDefinition (specs (syntax.TypeSpec type.Void (at 1 0) ∷ [])) (syntax.Named [] (name (codes "g") (at 6 1)) (suffixes (syntax.FunctionSuffix (parameters (syntax.parameter (specs (syntax.TypeSpec type.Void (at 8 3) ∷ [])) (syntax.Unnamed [] (suffixes [])) (at 8 3) ∷ [])) false (at 7 2) ∷ []))) (syntax.block (block_items (syntax.StatementItem (syntax.ForDeclaration (syntax.SimpleDeclaration (specs (syntax.StorageSpec storage.Static (at 21 8) ∷ syntax.TypeSpec type.Int (at 28 9) ∷ [])) (declared (syntax.init_declarator (syntax.Named [] (name (codes "i") (at 32 10)) (suffixes [])) (syntax.an_initializer (syntax.Single (syntax.Constant (pos 0) basic.Int (at 36 12)))) ∷ []))) syntax.no_expr syntax.no_expr (syntax.ExpressionStatement syntax.no_expr (span (at 43 16) (at 43 16))) (span (at 16 6) (at 43 16))) ∷ [])) (span (at 14 5) (at 45 17))) ∷ [])

-- void g(void) { if (static int i = 0; i) ; }
abbrev pub c48_22 : List syntax.External
c48_22 = (syntax.FunctionDefinition (specs (syntax.TypeSpec type.Void (at 1 0) ∷ [])) (syntax.Named [] (name (codes "g") (at 6 1)) (suffixes (syntax.FunctionSuffix (parameters (syntax.parameter (specs (syntax.TypeSpec type.Void (at 8 3) ∷ [])) (syntax.Unnamed [] (suffixes [])) (at 8 3) ∷ [])) false (at 7 2) ∷ []))) (syntax.block (block_items (syntax.StatementItem (syntax.If (syntax.a_declaration (syntax.SimpleDeclaration (specs (syntax.StorageSpec storage.Static (at 20 8) ∷ syntax.TypeSpec type.Int (at 27 9) ∷ [])) (declared (syntax.init_declarator (syntax.Named [] (name (codes "i") (at 31 10)) (suffixes [])) (syntax.an_initializer (syntax.Single (syntax.Constant (pos 0) basic.Int (at 35 12)))) ∷ [])))) (syntax.Identifier (name (codes "i") (at 38 14))) (syntax.ExpressionStatement syntax.no_expr (span (at 41 16) (at 41 16))) syntax.no_statement (span (at 16 6) (at 41 16))) ∷ [])) (span (at 14 5) (at 43 17))) ∷ [])

-- void g(void) { static int f(void); }
abbrev pub c48_23 : List syntax.External
c48_23 = (syntax.FunctionDefinition (specs (syntax.TypeSpec type.Void (at 1 0) ∷ [])) (syntax.Named [] (name (codes "g") (at 6 1)) (suffixes (syntax.FunctionSuffix (parameters (syntax.parameter (specs (syntax.TypeSpec type.Void (at 8 3) ∷ [])) (syntax.Unnamed [] (suffixes [])) (at 8 3) ∷ [])) false (at 7 2) ∷ []))) (syntax.block (block_items (syntax.DeclarationItem (syntax.SimpleDeclaration (specs (syntax.StorageSpec storage.Static (at 16 6) ∷ syntax.TypeSpec type.Int (at 23 7) ∷ [])) (declared (syntax.init_declarator (syntax.Named [] (name (codes "f") (at 27 8)) (suffixes (syntax.FunctionSuffix (parameters (syntax.parameter (specs (syntax.TypeSpec type.Void (at 29 10) ∷ [])) (syntax.Unnamed [] (suffixes [])) (at 29 10) ∷ [])) false (at 28 9) ∷ []))) syntax.no_initializer ∷ []))) ∷ [])) (span (at 14 5) (at 36 13))) ∷ [])

-- void g(void) { extern int x; static int f(void); }
abbrev pub c48_24 : List syntax.External
c48_24 = (syntax.FunctionDefinition (specs (syntax.TypeSpec type.Void (at 1 0) ∷ [])) (syntax.Named [] (name (codes "g") (at 6 1)) (suffixes (syntax.FunctionSuffix (parameters (syntax.parameter (specs (syntax.TypeSpec type.Void (at 8 3) ∷ [])) (syntax.Unnamed [] (suffixes [])) (at 8 3) ∷ [])) false (at 7 2) ∷ []))) (syntax.block (block_items (syntax.DeclarationItem (syntax.SimpleDeclaration (specs (syntax.StorageSpec storage.Extern (at 16 6) ∷ syntax.TypeSpec type.Int (at 23 7) ∷ [])) (declared (syntax.init_declarator (syntax.Named [] (name (codes "x") (at 27 8)) (suffixes [])) syntax.no_initializer ∷ []))) ∷ syntax.DeclarationItem (syntax.SimpleDeclaration (specs (syntax.StorageSpec storage.Static (at 30 10) ∷ syntax.TypeSpec type.Int (at 37 11) ∷ [])) (declared (syntax.init_declarator (syntax.Named [] (name (codes "f") (at 41 12)) (suffixes (syntax.FunctionSuffix (parameters (syntax.parameter (specs (syntax.TypeSpec type.Void (at 43 14) ∷ [])) (syntax.Unnamed [] (suffixes [])) (at 43 14) ∷ [])) false (at 42 13) ∷ []))) syntax.no_initializer ∷ []))) ∷ [])) (span (at 14 5) (at 50 17))) ∷ [])
