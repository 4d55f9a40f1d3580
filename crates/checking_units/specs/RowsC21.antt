-- C21: value of type void is used: units of one line, as trees.
use Rattle.std.specs.Prelude.{List, [], ◌∷◌, true, false, pos, codes}
use Rattle.model_grammar.specs.SyntaxForms as syntax
use Rattle.model_types.specs.declared.numbers.Basic.TheVariants as basic
use Rattle.model_types.specs.declared.numbers.BinOp.TheVariants as op
use Rattle.model_grammar.specs.declared.syntax.StorageWord.TheVariants as storage
use Rattle.model_grammar.specs.declared.syntax.TypeWord.TheVariants as type
use Rattle.model_grammar.specs.declared.syntax.QualifierWord.TheVariants as qual
use Rattle.checking_units.specs.Parts.{at, name, specs, qualifier, pointer, suffixes, parameters, declared, block_items, span}

-- void v(void); void g(void) { int x = v() + 1; }
abbrev pub c21_1 : List syntax.External
c21_1 = (syntax.ExternalDeclaration (syntax.SimpleDeclaration (specs (syntax.TypeSpec type.Void (at 1 0) ∷ [])) (declared (syntax.init_declarator (syntax.Named [] (name (codes "v") (at 6 1)) (suffixes (syntax.FunctionSuffix (parameters (syntax.parameter (specs (syntax.TypeSpec type.Void (at 8 3) ∷ [])) (syntax.Unnamed [] (suffixes [])) (at 8 3) ∷ [])) false (at 7 2) ∷ []))) syntax.no_initializer ∷ []))) ∷ syntax.FunctionDefinition (specs (syntax.TypeSpec type.Void (at 15 6) ∷ [])) (syntax.Named [] (name (codes "g") (at 20 7)) (suffixes (syntax.FunctionSuffix (parameters (syntax.parameter (specs (syntax.TypeSpec type.Void (at 22 9) ∷ [])) (syntax.Unnamed [] (suffixes [])) (at 22 9) ∷ [])) false (at 21 8) ∷ []))) (syntax.block (block_items (syntax.DeclarationItem (syntax.SimpleDeclaration (specs (syntax.TypeSpec type.Int (at 30 12) ∷ [])) (declared (syntax.init_declarator (syntax.Named [] (name (codes "x") (at 34 13)) (suffixes [])) (syntax.an_initializer (syntax.Single (syntax.Binary op.Add (syntax.Call (syntax.Identifier (name (codes "v") (at 38 15))) (syntax.exprs []) (at 39 16)) (syntax.Constant (pos 1) basic.Int (at 44 19)) (at 42 18)))) ∷ []))) ∷ [])) (span (at 28 11) (at 47 21))) ∷ [])

-- extern void v; void g(void) { v; }
abbrev pub c21_2 : List syntax.External
c21_2 = (syntax.ExternalDeclaration (syntax.SimpleDeclaration (specs (syntax.StorageSpec storage.Extern (at 1 0) ∷ syntax.TypeSpec type.Void (at 8 1) ∷ [])) (declared (syntax.init_declarator (syntax.Named [] (name (codes "v") (at 13 2)) (suffixes [])) syntax.no_initializer ∷ []))) ∷ syntax.FunctionDefinition (specs (syntax.TypeSpec type.Void (at 16 4) ∷ [])) (syntax.Named [] (name (codes "g") (at 21 5)) (suffixes (syntax.FunctionSuffix (parameters (syntax.parameter (specs (syntax.TypeSpec type.Void (at 23 7) ∷ [])) (syntax.Unnamed [] (suffixes [])) (at 23 7) ∷ [])) false (at 22 6) ∷ []))) (syntax.block (block_items (syntax.StatementItem (syntax.ExpressionStatement (syntax.an_expr (syntax.Identifier (name (codes "v") (at 31 10)))) (span (at 31 10) (at 32 11))) ∷ [])) (span (at 29 9) (at 34 12))) ∷ [])

-- extern void v; void g(void) { v, 1; }
abbrev pub c21_3 : List syntax.External
c21_3 = (syntax.ExternalDeclaration (syntax.SimpleDeclaration (specs (syntax.StorageSpec storage.Extern (at 1 0) ∷ syntax.TypeSpec type.Void (at 8 1) ∷ [])) (declared (syntax.init_declarator (syntax.Named [] (name (codes "v") (at 13 2)) (suffixes [])) syntax.no_initializer ∷ []))) ∷ syntax.FunctionDefinition (specs (syntax.TypeSpec type.Void (at 16 4) ∷ [])) (syntax.Named [] (name (codes "g") (at 21 5)) (suffixes (syntax.FunctionSuffix (parameters (syntax.parameter (specs (syntax.TypeSpec type.Void (at 23 7) ∷ [])) (syntax.Unnamed [] (suffixes [])) (at 23 7) ∷ [])) false (at 22 6) ∷ []))) (syntax.block (block_items (syntax.StatementItem (syntax.ExpressionStatement (syntax.an_expr (syntax.Comma (syntax.Identifier (name (codes "v") (at 31 10))) (syntax.Constant (pos 1) basic.Int (at 34 12)) (at 32 11))) (span (at 31 10) (at 35 13))) ∷ [])) (span (at 29 9) (at 37 14))) ∷ [])

-- extern void v; void g(void) { (void)v; }
abbrev pub c21_4 : List syntax.External
c21_4 = (syntax.ExternalDeclaration (syntax.SimpleDeclaration (specs (syntax.StorageSpec storage.Extern (at 1 0) ∷ syntax.TypeSpec type.Void (at 8 1) ∷ [])) (declared (syntax.init_declarator (syntax.Named [] (name (codes "v") (at 13 2)) (suffixes [])) syntax.no_initializer ∷ []))) ∷ syntax.FunctionDefinition (specs (syntax.TypeSpec type.Void (at 16 4) ∷ [])) (syntax.Named [] (name (codes "g") (at 21 5)) (suffixes (syntax.FunctionSuffix (parameters (syntax.parameter (specs (syntax.TypeSpec type.Void (at 23 7) ∷ [])) (syntax.Unnamed [] (suffixes [])) (at 23 7) ∷ [])) false (at 22 6) ∷ []))) (syntax.block (block_items (syntax.StatementItem (syntax.ExpressionStatement (syntax.an_expr (syntax.Cast (syntax.type_name (specs (syntax.TypeSpec type.Void (at 32 11) ∷ [])) (syntax.Unnamed [] (suffixes []))) (syntax.Identifier (name (codes "v") (at 37 13))) (at 31 10))) (span (at 31 10) (at 38 14))) ∷ [])) (span (at 29 9) (at 40 15))) ∷ [])

-- extern void v; void g(int c) { c ? v : v; }
abbrev pub c21_5 : List syntax.External
c21_5 = (syntax.ExternalDeclaration (syntax.SimpleDeclaration (specs (syntax.StorageSpec storage.Extern (at 1 0) ∷ syntax.TypeSpec type.Void (at 8 1) ∷ [])) (declared (syntax.init_declarator (syntax.Named [] (name (codes "v") (at 13 2)) (suffixes [])) syntax.no_initializer ∷ []))) ∷ syntax.FunctionDefinition (specs (syntax.TypeSpec type.Void (at 16 4) ∷ [])) (syntax.Named [] (name (codes "g") (at 21 5)) (suffixes (syntax.FunctionSuffix (parameters (syntax.parameter (specs (syntax.TypeSpec type.Int (at 23 7) ∷ [])) (syntax.Named [] (name (codes "c") (at 27 8)) (suffixes [])) (at 23 7) ∷ [])) false (at 22 6) ∷ []))) (syntax.block (block_items (syntax.StatementItem (syntax.ExpressionStatement (syntax.an_expr (syntax.Conditional (syntax.Identifier (name (codes "c") (at 32 11))) (syntax.Identifier (name (codes "v") (at 36 13))) (syntax.Identifier (name (codes "v") (at 40 15))) (at 34 12))) (span (at 32 11) (at 41 16))) ∷ [])) (span (at 30 10) (at 43 17))) ∷ [])

-- extern void v; void g(int c) { c ? v : y; }
abbrev pub c21_6 : List syntax.External
c21_6 = (syntax.ExternalDeclaration (syntax.SimpleDeclaration (specs (syntax.StorageSpec storage.Extern (at 1 0) ∷ syntax.TypeSpec type.Void (at 8 1) ∷ [])) (declared (syntax.init_declarator (syntax.Named [] (name (codes "v") (at 13 2)) (suffixes [])) syntax.no_initializer ∷ []))) ∷ syntax.FunctionDefinition (specs (syntax.TypeSpec type.Void (at 16 4) ∷ [])) (syntax.Named [] (name (codes "g") (at 21 5)) (suffixes (syntax.FunctionSuffix (parameters (syntax.parameter (specs (syntax.TypeSpec type.Int (at 23 7) ∷ [])) (syntax.Named [] (name (codes "c") (at 27 8)) (suffixes [])) (at 23 7) ∷ [])) false (at 22 6) ∷ []))) (syntax.block (block_items (syntax.StatementItem (syntax.ExpressionStatement (syntax.an_expr (syntax.Conditional (syntax.Identifier (name (codes "c") (at 32 11))) (syntax.Identifier (name (codes "v") (at 36 13))) (syntax.Identifier (name (codes "y") (at 40 15))) (at 34 12))) (span (at 32 11) (at 41 16))) ∷ [])) (span (at 30 10) (at 43 17))) ∷ [])

-- int printf(const char *t, ...); void v(void); void g(void) { printf("a", v()); }
abbrev pub c21_7 : List syntax.External
c21_7 = (syntax.ExternalDeclaration (syntax.SimpleDeclaration (specs (syntax.TypeSpec type.Int (at 1 0) ∷ [])) (declared (syntax.init_declarator (syntax.Named [] (name (codes "printf") (at 5 1)) (suffixes (syntax.FunctionSuffix (parameters (syntax.parameter (specs (syntax.QualifierSpec (qualifier qual.Const (at 12 3)) ∷ syntax.TypeSpec type.Char (at 18 4) ∷ [])) (syntax.Named (pointer (at 23 5) [] ∷ []) (name (codes "t") (at 24 6)) (suffixes [])) (at 12 3) ∷ [])) true (at 11 2) ∷ []))) syntax.no_initializer ∷ []))) ∷ syntax.ExternalDeclaration (syntax.SimpleDeclaration (specs (syntax.TypeSpec type.Void (at 33 11) ∷ [])) (declared (syntax.init_declarator (syntax.Named [] (name (codes "v") (at 38 12)) (suffixes (syntax.FunctionSuffix (parameters (syntax.parameter (specs (syntax.TypeSpec type.Void (at 40 14) ∷ [])) (syntax.Unnamed [] (suffixes [])) (at 40 14) ∷ [])) false (at 39 13) ∷ []))) syntax.no_initializer ∷ []))) ∷ syntax.FunctionDefinition (specs (syntax.TypeSpec type.Void (at 47 17) ∷ [])) (syntax.Named [] (name (codes "g") (at 52 18)) (suffixes (syntax.FunctionSuffix (parameters (syntax.parameter (specs (syntax.TypeSpec type.Void (at 54 20) ∷ [])) (syntax.Unnamed [] (suffixes [])) (at 54 20) ∷ [])) false (at 53 19) ∷ []))) (syntax.block (block_items (syntax.StatementItem (syntax.ExpressionStatement (syntax.an_expr (syntax.Call (syntax.Identifier (name (codes "printf") (at 62 23))) (syntax.exprs ((syntax.Text (codes "a") (at 69 25)) ∷ (syntax.Call (syntax.Identifier (name (codes "v") (at 74 27))) (syntax.exprs []) (at 75 28)) ∷ [])) (at 68 24))) (span (at 62 23) (at 78 31))) ∷ [])) (span (at 60 22) (at 80 32))) ∷ [])

-- void v(void); void g(void) { if (v()) ; }
abbrev pub c21_8 : List syntax.External
c21_8 = (syntax.ExternalDeclaration (syntax.SimpleDeclaration (specs (syntax.TypeSpec type.Void (at 1 0) ∷ [])) (declared (syntax.init_declarator (syntax.Named [] (name (codes "v") (at 6 1)) (suffixes (syntax.FunctionSuffix (parameters (syntax.parameter (specs (syntax.TypeSpec type.Void (at 8 3) ∷ [])) (syntax.Unnamed [] (suffixes [])) (at 8 3) ∷ [])) false (at 7 2) ∷ []))) syntax.no_initializer ∷ []))) ∷ syntax.FunctionDefinition (specs (syntax.TypeSpec type.Void (at 15 6) ∷ [])) (syntax.Named [] (name (codes "g") (at 20 7)) (suffixes (syntax.FunctionSuffix (parameters (syntax.parameter (specs (syntax.TypeSpec type.Void (at 22 9) ∷ [])) (syntax.Unnamed [] (suffixes [])) (at 22 9) ∷ [])) false (at 21 8) ∷ []))) (syntax.block (block_items (syntax.StatementItem (syntax.If syntax.no_declaration (syntax.Call (syntax.Identifier (name (codes "v") (at 34 14))) (syntax.exprs []) (at 35 15)) (syntax.ExpressionStatement syntax.no_expr (span (at 39 18) (at 39 18))) syntax.no_statement (span (at 30 12) (at 39 18))) ∷ [])) (span (at 28 11) (at 41 19))) ∷ [])

-- void v(void); void g(void) { v() ? y : 1; }
abbrev pub c21_9 : List syntax.External
c21_9 = (syntax.ExternalDeclaration (syntax.SimpleDeclaration (specs (syntax.TypeSpec type.Void (at 1 0) ∷ [])) (declared (syntax.init_declarator (syntax.Named [] (name (codes "v") (at 6 1)) (suffixes (syntax.FunctionSuffix (parameters (syntax.parameter (specs (syntax.TypeSpec type.Void (at 8 3) ∷ [])) (syntax.Unnamed [] (suffixes [])) (at 8 3) ∷ [])) false (at 7 2) ∷ []))) syntax.no_initializer ∷ []))) ∷ syntax.FunctionDefinition (specs (syntax.TypeSpec type.Void (at 15 6) ∷ [])) (syntax.Named [] (name (codes "g") (at 20 7)) (suffixes (syntax.FunctionSuffix (parameters (syntax.parameter (specs (syntax.TypeSpec type.Void (at 22 9) ∷ [])) (syntax.Unnamed [] (suffixes [])) (at 22 9) ∷ [])) false (at 21 8) ∷ []))) (syntax.block (block_items (syntax.StatementItem (syntax.ExpressionStatement (syntax.an_expr (syntax.Conditional (syntax.Call (syntax.Identifier (name (codes "v") (at 30 12))) (syntax.exprs []) (at 31 13)) (syntax.Identifier (name (codes "y") (at 36 16))) (syntax.Constant (pos 1) basic.Int (at 40 18)) (at 34 15))) (span (at 30 12) (at 41 19))) ∷ [])) (span (at 28 11) (at 43 20))) ∷ [])

-- void v(void); int x = v() + 1;
abbrev pub c21_10 : List syntax.External
c21_10 = (syntax.ExternalDeclaration (syntax.SimpleDeclaration (specs (syntax.TypeSpec type.Void (at 1 0) ∷ [])) (declared (syntax.init_declarator (syntax.Named [] (name (codes "v") (at 6 1)) (suffixes (syntax.FunctionSuffix (parameters (syntax.parameter (specs (syntax.TypeSpec type.Void (at 8 3) ∷ [])) (syntax.Unnamed [] (suffixes [])) (at 8 3) ∷ [])) false (at 7 2) ∷ []))) syntax.no_initializer ∷ []))) ∷ syntax.ExternalDeclaration (syntax.SimpleDeclaration (specs (syntax.TypeSpec type.Int (at 15 6) ∷ [])) (declared (syntax.init_declarator (syntax.Named [] (name (codes "x") (at 19 7)) (suffixes [])) (syntax.an_initializer (syntax.Single (syntax.Binary op.Add (syntax.Call (syntax.Identifier (name (codes "v") (at 23 9))) (syntax.exprs []) (at 24 10)) (syntax.Constant (pos 1) basic.Int (at 29 13)) (at 27 12)))) ∷ []))) ∷ [])

-- void v(void); void g(void) { while (v()) ; }
abbrev pub c21_11 : List syntax.External
c21_11 = (syntax.ExternalDeclaration (syntax.SimpleDeclaration (specs (syntax.TypeSpec type.Void (at 1 0) ∷ [])) (declared (syntax.init_declarator (syntax.Named [] (name (codes "v") (at 6 1)) (suffixes (syntax.FunctionSuffix (parameters (syntax.parameter (specs (syntax.TypeSpec type.Void (at 8 3) ∷ [])) (syntax.Unnamed [] (suffixes [])) (at 8 3) ∷ [])) false (at 7 2) ∷ []))) syntax.no_initializer ∷ []))) ∷ syntax.FunctionDefinition (specs (syntax.TypeSpec type.Void (at 15 6) ∷ [])) (syntax.Named [] (name (codes "g") (at 20 7)) (suffixes (syntax.FunctionSuffix (parameters (syntax.parameter (specs (syntax.TypeSpec type.Void (at 22 9) ∷ [])) (syntax.Unnamed [] (suffixes [])) (at 22 9) ∷ [])) false (at 21 8) ∷ []))) (syntax.block (block_items (syntax.StatementItem (syntax.While (syntax.Call (syntax.Identifier (name (codes "v") (at 37 14))) (syntax.exprs []) (at 38 15)) (syntax.ExpressionStatement syntax.no_expr (span (at 42 18) (at 42 18))) (span (at 30 12) (at 42 18))) ∷ [])) (span (at 28 11) (at 44 19))) ∷ [])

-- extern void w; void g(void) { w; }
abbrev pub c21_12 : List syntax.External
c21_12 = (syntax.ExternalDeclaration (syntax.SimpleDeclaration (specs (syntax.StorageSpec storage.Extern (at 1 0) ∷ syntax.TypeSpec type.Void (at 8 1) ∷ [])) (declared (syntax.init_declarator (syntax.Named [] (name (codes "w") (at 13 2)) (suffixes [])) syntax.no_initializer ∷ []))) ∷ syntax.FunctionDefinition (specs (syntax.TypeSpec type.Void (at 16 4) ∷ [])) (syntax.Named [] (name (codes "g") (at 21 5)) (suffixes (syntax.FunctionSuffix (parameters (syntax.parameter (specs (syntax.TypeSpec type.Void (at 23 7) ∷ [])) (syntax.Unnamed [] (suffixes [])) (at 23 7) ∷ [])) false (at 22 6) ∷ []))) (syntax.block (block_items (syntax.StatementItem (syntax.ExpressionStatement (syntax.an_expr (syntax.Identifier (name (codes "w") (at 31 10)))) (span (at 31 10) (at 32 11))) ∷ [])) (span (at 29 9) (at 34 12))) ∷ [])
