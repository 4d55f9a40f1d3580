-- C20: operands of ?: do not agree: units of one line, as trees.
use Rattle.std.specs.Prelude.{List, [], ◌∷◌, false, pos, codes}
use Rattle.model_grammar.specs.SyntaxForms as syntax
use Rattle.model_types.specs.declared.numbers.Basic.TheVariants as basic
use Rattle.model_grammar.specs.declared.syntax.StorageWord.TheVariants as storage
use Rattle.model_grammar.specs.declared.syntax.TypeWord.TheVariants as type
use Rattle.checking_units.specs.Parts.{at, name, specs, pointer, suffixes, parameters, declared, block_items, span}

-- void v(void); void g(int c) { c ? v() : 1; }
abbrev pub c20_1 : List syntax.External
c20_1 = (syntax.ExternalDeclaration (syntax.SimpleDeclaration (specs (syntax.TypeSpec type.Void (at 1 0) ∷ [])) (declared (syntax.init_declarator (syntax.Named [] (name (codes "v") (at 6 1)) (suffixes (syntax.FunctionSuffix (parameters (syntax.parameter (specs (syntax.TypeSpec type.Void (at 8 3) ∷ [])) (syntax.Unnamed [] (suffixes [])) (at 8 3) ∷ [])) false (at 7 2) ∷ []))) syntax.no_initializer ∷ []))) ∷ syntax.FunctionDefinition (specs (syntax.TypeSpec type.Void (at 15 6) ∷ [])) (syntax.Named [] (name (codes "g") (at 20 7)) (suffixes (syntax.FunctionSuffix (parameters (syntax.parameter (specs (syntax.TypeSpec type.Int (at 22 9) ∷ [])) (syntax.Named [] (name (codes "c") (at 26 10)) (suffixes [])) (at 22 9) ∷ [])) false (at 21 8) ∷ []))) (syntax.block (block_items (syntax.StatementItem (syntax.ExpressionStatement (syntax.an_expr (syntax.Conditional (syntax.Identifier (name (codes "c") (at 31 13))) (syntax.Call (syntax.Identifier (name (codes "v") (at 35 15))) (syntax.exprs []) (at 36 16)) (syntax.Constant (pos 1) basic.Int (at 41 19)) (at 33 14))) (span (at 31 13) (at 42 20))) ∷ [])) (span (at 29 12) (at 44 21))) ∷ [])

-- int f(void); void g(void *q, int c) { c ? f : q; }
abbrev pub c20_2 : List syntax.External
c20_2 = (syntax.ExternalDeclaration (syntax.SimpleDeclaration (specs (syntax.TypeSpec type.Int (at 1 0) ∷ [])) (declared (syntax.init_declarator (syntax.Named [] (name (codes "f") (at 5 1)) (suffixes (syntax.FunctionSuffix (parameters (syntax.parameter (specs (syntax.TypeSpec type.Void (at 7 3) ∷ [])) (syntax.Unnamed [] (suffixes [])) (at 7 3) ∷ [])) false (at 6 2) ∷ []))) syntax.no_initializer ∷ []))) ∷ syntax.FunctionDefinition (specs (syntax.TypeSpec type.Void (at 14 6) ∷ [])) (syntax.Named [] (name (codes "g") (at 19 7)) (suffixes (syntax.FunctionSuffix (parameters (syntax.parameter (specs (syntax.TypeSpec type.Void (at 21 9) ∷ [])) (syntax.Named (pointer (at 26 10) [] ∷ []) (name (codes "q") (at 27 11)) (suffixes [])) (at 21 9) ∷ syntax.parameter (specs (syntax.TypeSpec type.Int (at 30 13) ∷ [])) (syntax.Named [] (name (codes "c") (at 34 14)) (suffixes [])) (at 30 13) ∷ [])) false (at 20 8) ∷ []))) (syntax.block (block_items (syntax.StatementItem (syntax.ExpressionStatement (syntax.an_expr (syntax.Conditional (syntax.Identifier (name (codes "c") (at 39 17))) (syntax.Identifier (name (codes "f") (at 43 19))) (syntax.Identifier (name (codes "q") (at 47 21))) (at 41 18))) (span (at 39 17) (at 48 22))) ∷ [])) (span (at 37 16) (at 50 23))) ∷ [])

-- extern void v; void g(int c) { c ? v : 1; }
abbrev pub c20_3 : List syntax.External
c20_3 = (syntax.ExternalDeclaration (syntax.SimpleDeclaration (specs (syntax.StorageSpec storage.Extern (at 1 0) ∷ syntax.TypeSpec type.Void (at 8 1) ∷ [])) (declared (syntax.init_declarator (syntax.Named [] (name (codes "v") (at 13 2)) (suffixes [])) syntax.no_initializer ∷ []))) ∷ syntax.FunctionDefinition (specs (syntax.TypeSpec type.Void (at 16 4) ∷ [])) (syntax.Named [] (name (codes "g") (at 21 5)) (suffixes (syntax.FunctionSuffix (parameters (syntax.parameter (specs (syntax.TypeSpec type.Int (at 23 7) ∷ [])) (syntax.Named [] (name (codes "c") (at 27 8)) (suffixes [])) (at 23 7) ∷ [])) false (at 22 6) ∷ []))) (syntax.block (block_items (syntax.StatementItem (syntax.ExpressionStatement (syntax.an_expr (syntax.Conditional (syntax.Identifier (name (codes "c") (at 32 11))) (syntax.Identifier (name (codes "v") (at 36 13))) (syntax.Constant (pos 1) basic.Int (at 40 15)) (at 34 12))) (span (at 32 11) (at 41 16))) ∷ [])) (span (at 30 10) (at 43 17))) ∷ [])

-- void g(int *p, int c) { c ? p : 1; }
abbrev pub c20_4 : List syntax.External
c20_4 = (syntax.FunctionDefinition (specs (syntax.TypeSpec type.Void (at 1 0) ∷ [])) (syntax.Named [] (name (codes "g") (at 6 1)) (suffixes (syntax.FunctionSuffix (parameters (syntax.parameter (specs (syntax.TypeSpec type.Int (at 8 3) ∷ [])) (syntax.Named (pointer (at 12 4) [] ∷ []) (name (codes "p") (at 13 5)) (suffixes [])) (at 8 3) ∷ syntax.parameter (specs (syntax.TypeSpec type.Int (at 16 7) ∷ [])) (syntax.Named [] (name (codes "c") (at 20 8)) (suffixes [])) (at 16 7) ∷ [])) false (at 7 2) ∷ []))) (syntax.block (block_items (syntax.StatementItem (syntax.ExpressionStatement (syntax.an_expr (syntax.Conditional (syntax.Identifier (name (codes "c") (at 25 11))) (syntax.Identifier (name (codes "p") (at 29 13))) (syntax.Constant (pos 1) basic.Int (at 33 15)) (at 27 12))) (span (at 25 11) (at 34 16))) ∷ [])) (span (at 23 10) (at 36 17))) ∷ [])

-- void v(void); int g(int c) { return c ? v() : 1; }
abbrev pub c20_5 : List syntax.External
c20_5 = (syntax.ExternalDeclaration (syntax.SimpleDeclaration (specs (syntax.TypeSpec type.Void (at 1 0) ∷ [])) (declared (syntax.init_declarator (syntax.Named [] (name (codes "v") (at 6 1)) (suffixes (syntax.FunctionSuffix (parameters (syntax.parameter (specs (syntax.TypeSpec type.Void (at 8 3) ∷ [])) (syntax.Unnamed [] (suffixes [])) (at 8 3) ∷ [])) false (at 7 2) ∷ []))) syntax.no_initializer ∷ []))) ∷ syntax.FunctionDefinition (specs (syntax.TypeSpec type.Int (at 15 6) ∷ [])) (syntax.Named [] (name (codes "g") (at 19 7)) (suffixes (syntax.FunctionSuffix (parameters (syntax.parameter (specs (syntax.TypeSpec type.Int (at 21 9) ∷ [])) (syntax.Named [] (name (codes "c") (at 25 10)) (suffixes [])) (at 21 9) ∷ [])) false (at 20 8) ∷ []))) (syntax.block (block_items (syntax.StatementItem (syntax.Return (syntax.an_expr (syntax.Conditional (syntax.Identifier (name (codes "c") (at 37 14))) (syntax.Call (syntax.Identifier (name (codes "v") (at 41 16))) (syntax.exprs []) (at 42 17)) (syntax.Constant (pos 1) basic.Int (at 47 20)) (at 39 15))) (at 30 13) (span (at 30 13) (at 48 21))) ∷ [])) (span (at 28 12) (at 50 22))) ∷ [])
