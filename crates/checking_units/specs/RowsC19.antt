-- C19: pointers do not agree: units of one line, as trees.
use Rattle.std.specs.Prelude.{List, [], ◌∷◌, false, codes}
use Rattle.model_grammar.specs.SyntaxForms as syntax
use Rattle.model_types.specs.declared.numbers.BinOp.TheVariants as op
use Rattle.model_grammar.specs.declared.syntax.TypeWord.TheVariants as type
use Rattle.model_grammar.specs.declared.syntax.QualifierWord.TheVariants as qual
use Rattle.checking_units.specs.Parts.{at, name, specs, qualifier, pointer, suffixes, parameters, declared, block_items, span}

-- int f(void); void g(void *q) { f == q; }
abbrev pub c19_1 : List syntax.External
c19_1 = (syntax.ExternalDeclaration (syntax.SimpleDeclaration (specs (syntax.TypeSpec type.Int (at 1 0) ∷ [])) (declared (syntax.init_declarator (syntax.Named [] (name (codes "f") (at 5 1)) (suffixes (syntax.FunctionSuffix (parameters (syntax.parameter (specs (syntax.TypeSpec type.Void (at 7 3) ∷ [])) (syntax.Unnamed [] (suffixes [])) (at 7 3) ∷ [])) false (at 6 2) ∷ []))) syntax.no_initializer ∷ []))) ∷ syntax.FunctionDefinition (specs (syntax.TypeSpec type.Void (at 14 6) ∷ [])) (syntax.Named [] (name (codes "g") (at 19 7)) (suffixes (syntax.FunctionSuffix (parameters (syntax.parameter (specs (syntax.TypeSpec type.Void (at 21 9) ∷ [])) (syntax.Named (pointer (at 26 10) [] ∷ []) (name (codes "q") (at 27 11)) (suffixes [])) (at 21 9) ∷ [])) false (at 20 8) ∷ []))) (syntax.block (block_items (syntax.StatementItem (syntax.ExpressionStatement (syntax.an_expr (syntax.Binary op.Equal (syntax.Identifier (name (codes "f") (at 32 14))) (syntax.Identifier (name (codes "q") (at 37 16))) (at 34 15))) (span (at 32 14) (at 38 17))) ∷ [])) (span (at 30 13) (at 40 18))) ∷ [])

-- void g(char **p, const char **q) { p == q; }
abbrev pub c19_2 : List syntax.External
c19_2 = (syntax.FunctionDefinition (specs (syntax.TypeSpec type.Void (at 1 0) ∷ [])) (syntax.Named [] (name (codes "g") (at 6 1)) (suffixes (syntax.FunctionSuffix (parameters (syntax.parameter (specs (syntax.TypeSpec type.Char (at 8 3) ∷ [])) (syntax.Named (pointer (at 13 4) [] ∷ pointer (at 14 5) [] ∷ []) (name (codes "p") (at 15 6)) (suffixes [])) (at 8 3) ∷ syntax.parameter (specs (syntax.QualifierSpec (qualifier qual.Const (at 18 8)) ∷ syntax.TypeSpec type.Char (at 24 9) ∷ [])) (syntax.Named (pointer (at 29 10) [] ∷ pointer (at 30 11) [] ∷ []) (name (codes "q") (at 31 12)) (suffixes [])) (at 18 8) ∷ [])) false (at 7 2) ∷ []))) (syntax.block (block_items (syntax.StatementItem (syntax.ExpressionStatement (syntax.an_expr (syntax.Binary op.Equal (syntax.Identifier (name (codes "p") (at 36 15))) (syntax.Identifier (name (codes "q") (at 41 17))) (at 38 16))) (span (at 36 15) (at 42 18))) ∷ [])) (span (at 34 14) (at 44 19))) ∷ [])

-- int (*p)(void), (*q)(void); void g(void) { p < q; }
abbrev pub c19_3 : List syntax.External
c19_3 = (syntax.ExternalDeclaration (syntax.SimpleDeclaration (specs (syntax.TypeSpec type.Int (at 1 0) ∷ [])) (declared (syntax.init_declarator (syntax.Grouped [] (syntax.Named (pointer (at 6 2) [] ∷ []) (name (codes "p") (at 7 3)) (suffixes [])) (suffixes (syntax.FunctionSuffix (parameters (syntax.parameter (specs (syntax.TypeSpec type.Void (at 10 6) ∷ [])) (syntax.Unnamed [] (suffixes [])) (at 10 6) ∷ [])) false (at 9 5) ∷ [])) (at 5 1)) syntax.no_initializer ∷ syntax.init_declarator (syntax.Grouped [] (syntax.Named (pointer (at 18 10) [] ∷ []) (name (codes "q") (at 19 11)) (suffixes [])) (suffixes (syntax.FunctionSuffix (parameters (syntax.parameter (specs (syntax.TypeSpec type.Void (at 22 14) ∷ [])) (syntax.Unnamed [] (suffixes [])) (at 22 14) ∷ [])) false (at 21 13) ∷ [])) (at 17 9)) syntax.no_initializer ∷ []))) ∷ syntax.FunctionDefinition (specs (syntax.TypeSpec type.Void (at 29 17) ∷ [])) (syntax.Named [] (name (codes "g") (at 34 18)) (suffixes (syntax.FunctionSuffix (parameters (syntax.parameter (specs (syntax.TypeSpec type.Void (at 36 20) ∷ [])) (syntax.Unnamed [] (suffixes [])) (at 36 20) ∷ [])) false (at 35 19) ∷ []))) (syntax.block (block_items (syntax.StatementItem (syntax.ExpressionStatement (syntax.an_expr (syntax.Binary op.Less (syntax.Identifier (name (codes "p") (at 44 23))) (syntax.Identifier (name (codes "q") (at 48 25))) (at 46 24))) (span (at 44 23) (at 49 26))) ∷ [])) (span (at 42 22) (at 51 27))) ∷ [])

-- void g(int *p, char *q) { p - q; }
abbrev pub c19_4 : List syntax.External
c19_4 = (syntax.FunctionDefinition (specs (syntax.TypeSpec type.Void (at 1 0) ∷ [])) (syntax.Named [] (name (codes "g") (at 6 1)) (suffixes (syntax.FunctionSuffix (parameters (syntax.parameter (specs (syntax.TypeSpec type.Int (at 8 3) ∷ [])) (syntax.Named (pointer (at 12 4) [] ∷ []) (name (codes "p") (at 13 5)) (suffixes [])) (at 8 3) ∷ syntax.parameter (specs (syntax.TypeSpec type.Char (at 16 7) ∷ [])) (syntax.Named (pointer (at 21 8) [] ∷ []) (name (codes "q") (at 22 9)) (suffixes [])) (at 16 7) ∷ [])) false (at 7 2) ∷ []))) (syntax.block (block_items (syntax.StatementItem (syntax.ExpressionStatement (syntax.an_expr (syntax.Binary op.Sub (syntax.Identifier (name (codes "p") (at 27 12))) (syntax.Identifier (name (codes "q") (at 31 14))) (at 29 13))) (span (at 27 12) (at 32 15))) ∷ [])) (span (at 25 11) (at 34 16))) ∷ [])

-- void f(void); int g(void *p) { return f == p; }
abbrev pub c19_5 : List syntax.External
c19_5 = (syntax.ExternalDeclaration (syntax.SimpleDeclaration (specs (syntax.TypeSpec type.Void (at 1 0) ∷ [])) (declared (syntax.init_declarator (syntax.Named [] (name (codes "f") (at 6 1)) (suffixes (syntax.FunctionSuffix (parameters (syntax.parameter (specs (syntax.TypeSpec type.Void (at 8 3) ∷ [])) (syntax.Unnamed [] (suffixes [])) (at 8 3) ∷ [])) false (at 7 2) ∷ []))) syntax.no_initializer ∷ []))) ∷ syntax.FunctionDefinition (specs (syntax.TypeSpec type.Int (at 15 6) ∷ [])) (syntax.Named [] (name (codes "g") (at 19 7)) (suffixes (syntax.FunctionSuffix (parameters (syntax.parameter (specs (syntax.TypeSpec type.Void (at 21 9) ∷ [])) (syntax.Named (pointer (at 26 10) [] ∷ []) (name (codes "p") (at 27 11)) (suffixes [])) (at 21 9) ∷ [])) false (at 20 8) ∷ []))) (syntax.block (block_items (syntax.StatementItem (syntax.Return (syntax.an_expr (syntax.Binary op.Equal (syntax.Identifier (name (codes "f") (at 39 15))) (syntax.Identifier (name (codes "p") (at 44 17))) (at 41 16))) (at 32 14) (span (at 32 14) (at 45 18))) ∷ [])) (span (at 30 13) (at 47 19))) ∷ [])

-- int g(char **a, const char **b) { return a == b; }
abbrev pub c19_6 : List syntax.External
c19_6 = (syntax.FunctionDefinition (specs (syntax.TypeSpec type.Int (at 1 0) ∷ [])) (syntax.Named [] (name (codes "g") (at 5 1)) (suffixes (syntax.FunctionSuffix (parameters (syntax.parameter (specs (syntax.TypeSpec type.Char (at 7 3) ∷ [])) (syntax.Named (pointer (at 12 4) [] ∷ pointer (at 13 5) [] ∷ []) (name (codes "a") (at 14 6)) (suffixes [])) (at 7 3) ∷ syntax.parameter (specs (syntax.QualifierSpec (qualifier qual.Const (at 17 8)) ∷ syntax.TypeSpec type.Char (at 23 9) ∷ [])) (syntax.Named (pointer (at 28 10) [] ∷ pointer (at 29 11) [] ∷ []) (name (codes "b") (at 30 12)) (suffixes [])) (at 17 8) ∷ [])) false (at 6 2) ∷ []))) (syntax.block (block_items (syntax.StatementItem (syntax.Return (syntax.an_expr (syntax.Binary op.Equal (syntax.Identifier (name (codes "a") (at 42 16))) (syntax.Identifier (name (codes "b") (at 47 18))) (at 44 17))) (at 35 15) (span (at 35 15) (at 48 19))) ∷ [])) (span (at 33 14) (at 50 20))) ∷ [])

-- void f(void); void h(void); int g(void) { return f < h; }
abbrev pub c19_7 : List syntax.External
c19_7 = (syntax.ExternalDeclaration (syntax.SimpleDeclaration (specs (syntax.TypeSpec type.Void (at 1 0) ∷ [])) (declared (syntax.init_declarator (syntax.Named [] (name (codes "f") (at 6 1)) (suffixes (syntax.FunctionSuffix (parameters (syntax.parameter (specs (syntax.TypeSpec type.Void (at 8 3) ∷ [])) (syntax.Unnamed [] (suffixes [])) (at 8 3) ∷ [])) false (at 7 2) ∷ []))) syntax.no_initializer ∷ []))) ∷ syntax.ExternalDeclaration (syntax.SimpleDeclaration (specs (syntax.TypeSpec type.Void (at 15 6) ∷ [])) (declared (syntax.init_declarator (syntax.Named [] (name (codes "h") (at 20 7)) (suffixes (syntax.FunctionSuffix (parameters (syntax.parameter (specs (syntax.TypeSpec type.Void (at 22 9) ∷ [])) (syntax.Unnamed [] (suffixes [])) (at 22 9) ∷ [])) false (at 21 8) ∷ []))) syntax.no_initializer ∷ []))) ∷ syntax.FunctionDefinition (specs (syntax.TypeSpec type.Int (at 29 12) ∷ [])) (syntax.Named [] (name (codes "g") (at 33 13)) (suffixes (syntax.FunctionSuffix (parameters (syntax.parameter (specs (syntax.TypeSpec type.Void (at 35 15) ∷ [])) (syntax.Unnamed [] (suffixes [])) (at 35 15) ∷ [])) false (at 34 14) ∷ []))) (syntax.block (block_items (syntax.StatementItem (syntax.Return (syntax.an_expr (syntax.Binary op.Less (syntax.Identifier (name (codes "f") (at 50 19))) (syntax.Identifier (name (codes "h") (at 54 21))) (at 52 20))) (at 43 18) (span (at 43 18) (at 55 22))) ∷ [])) (span (at 41 17) (at 57 23))) ∷ [])
