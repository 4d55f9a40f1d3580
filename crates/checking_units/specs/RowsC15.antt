-- C15: wrong number of arguments: units of one line, as trees.
use Rattle.std.specs.Prelude.{List, [], ◌∷◌, true, false, pos, codes}
use Rattle.model_grammar.specs.SyntaxForms as syntax
use Rattle.model_types.specs.declared.numbers.Basic.TheVariants as basic
use Rattle.model_grammar.specs.declared.syntax.TypeWord.TheVariants as type
use Rattle.model_grammar.specs.declared.syntax.QualifierWord.TheVariants as qual
use Rattle.checking_units.specs.Parts.{at, name, specs, qualifier, pointer, suffixes, parameters, declared, block_items, span}

-- int f(void); int g(void) { return f(y); }
abbrev pub c15_1 : List syntax.External
c15_1 = (syntax.ExternalDeclaration (syntax.SimpleDeclaration (specs (syntax.TypeSpec type.Int (at 1 0) ∷ [])) (declared (syntax.init_declarator (syntax.Named [] (name (codes "f") (at 5 1)) (suffixes (syntax.FunctionSuffix (parameters (syntax.parameter (specs (syntax.TypeSpec type.Void (at 7 3) ∷ [])) (syntax.Unnamed [] (suffixes [])) (at 7 3) ∷ [])) false (at 6 2) ∷ []))) syntax.no_initializer ∷ []))) ∷ syntax.FunctionDefinition (specs (syntax.TypeSpec type.Int (at 14 6) ∷ [])) (syntax.Named [] (name (codes "g") (at 18 7)) (suffixes (syntax.FunctionSuffix (parameters (syntax.parameter (specs (syntax.TypeSpec type.Void (at 20 9) ∷ [])) (syntax.Unnamed [] (suffixes [])) (at 20 9) ∷ [])) false (at 19 8) ∷ []))) (syntax.block (block_items (syntax.StatementItem (syntax.Return (syntax.an_expr (syntax.Call (syntax.Identifier (name (codes "f") (at 35 13))) (syntax.exprs ((syntax.Identifier (name (codes "y") (at 37 15))) ∷ [])) (at 36 14))) (at 28 12) (span (at 28 12) (at 39 17))) ∷ [])) (span (at 26 11) (at 41 18))) ∷ [])

-- int f(void); int main(void) { f(1); return 0; }
abbrev pub c15_2 : List syntax.External
c15_2 = (syntax.ExternalDeclaration (syntax.SimpleDeclaration (specs (syntax.TypeSpec type.Int (at 1 0) ∷ [])) (declared (syntax.init_declarator (syntax.Named [] (name (codes "f") (at 5 1)) (suffixes (syntax.FunctionSuffix (parameters (syntax.parameter (specs (syntax.TypeSpec type.Void (at 7 3) ∷ [])) (syntax.Unnamed [] (suffixes [])) (at 7 3) ∷ [])) false (at 6 2) ∷ []))) syntax.no_initializer ∷ []))) ∷ syntax.FunctionDefinition (specs (syntax.TypeSpec type.Int (at 14 6) ∷ [])) (syntax.Named [] (name (codes "main") (at 18 7)) (suffixes (syntax.FunctionSuffix (parameters (syntax.parameter (specs (syntax.TypeSpec type.Void (at 23 9) ∷ [])) (syntax.Unnamed [] (suffixes [])) (at 23 9) ∷ [])) false (at 22 8) ∷ []))) (syntax.block (block_items (syntax.StatementItem (syntax.ExpressionStatement (syntax.an_expr (syntax.Call (syntax.Identifier (name (codes "f") (at 31 12))) (syntax.exprs ((syntax.Constant (pos 1) basic.Int (at 33 14)) ∷ [])) (at 32 13))) (span (at 31 12) (at 35 16))) ∷ syntax.StatementItem (syntax.Return (syntax.an_expr (syntax.Constant (pos 0) basic.Int (at 44 18))) (at 37 17) (span (at 37 17) (at 45 19))) ∷ [])) (span (at 29 11) (at 47 20))) ∷ [])

-- int printf(const char *t, ...); void g(void) { printf(); }
abbrev pub c15_3 : List syntax.External
c15_3 = (syntax.ExternalDeclaration (syntax.SimpleDeclaration (specs (syntax.TypeSpec type.Int (at 1 0) ∷ [])) (declared (syntax.init_declarator (syntax.Named [] (name (codes "printf") (at 5 1)) (suffixes (syntax.FunctionSuffix (parameters (syntax.parameter (specs (syntax.QualifierSpec (qualifier qual.Const (at 12 3)) ∷ syntax.TypeSpec type.Char (at 18 4) ∷ [])) (syntax.Named (pointer (at 23 5) [] ∷ []) (name (codes "t") (at 24 6)) (suffixes [])) (at 12 3) ∷ [])) true (at 11 2) ∷ []))) syntax.no_initializer ∷ []))) ∷ syntax.FunctionDefinition (specs (syntax.TypeSpec type.Void (at 33 11) ∷ [])) (syntax.Named [] (name (codes "g") (at 38 12)) (suffixes (syntax.FunctionSuffix (parameters (syntax.parameter (specs (syntax.TypeSpec type.Void (at 40 14) ∷ [])) (syntax.Unnamed [] (suffixes [])) (at 40 14) ∷ [])) false (at 39 13) ∷ []))) (syntax.block (block_items (syntax.StatementItem (syntax.ExpressionStatement (syntax.an_expr (syntax.Call (syntax.Identifier (name (codes "printf") (at 48 17))) (syntax.exprs []) (at 54 18))) (span (at 48 17) (at 56 20))) ∷ [])) (span (at 46 16) (at 58 21))) ∷ [])
