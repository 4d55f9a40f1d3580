-- C43: defer stands directly in a switch body: units of one line, as trees.
use Rattle.std.specs.Prelude.{List, [], ◌∷◌, false, pos, codes}
use Rattle.model_grammar.specs.SyntaxForms as syntax
use Rattle.model_types.specs.declared.numbers.Basic.TheVariants as basic
use Rattle.model_grammar.specs.declared.syntax.TypeWord.TheVariants as type
use Rattle.checking_units.specs.Parts.{at, name, specs, suffixes, parameters, declared, block_items, span}

-- void f(void); void g(int x) { switch (x) defer f(); }
abbrev pub c43_1 : List syntax.External
c43_1 = (syntax.ExternalDeclaration (syntax.SimpleDeclaration (specs (syntax.TypeSpec type.Void (at 1 0) ∷ [])) (declared (syntax.init_declarator (syntax.Named [] (name (codes "f") (at 6 1)) (suffixes (syntax.FunctionSuffix (parameters (syntax.parameter (specs (syntax.TypeSpec type.Void (at 8 3) ∷ [])) (syntax.Unnamed [] (suffixes [])) (at 8 3) ∷ [])) false (at 7 2) ∷ []))) syntax.no_initializer ∷ []))) ∷ syntax.FunctionDefinition (specs (syntax.TypeSpec type.Void (at 15 6) ∷ [])) (syntax.Named [] (name (codes "g") (at 20 7)) (suffixes (syntax.FunctionSuffix (parameters (syntax.parameter (specs (syntax.TypeSpec type.Int (at 22 9) ∷ [])) (syntax.Named [] (name (codes "x") (at 26 10)) (suffixes [])) (at 22 9) ∷ [])) false (at 21 8) ∷ []))) (syntax.block (block_items (syntax.StatementItem (syntax.Switch (syntax.Identifier (name (codes "x") (at 39 15))) (syntax.Defer (syntax.ExpressionStatement (syntax.an_expr (syntax.Call (syntax.Identifier (name (codes "f") (at 48 18))) (syntax.exprs []) (at 49 19))) (span (at 48 18) (at 51 21))) (at 42 17) (span (at 42 17) (at 51 21))) (span (at 31 13) (at 51 21))) ∷ [])) (span (at 29 12) (at 53 22))) ∷ [])

-- void f(void); void g(int c) { switch (c) { case 1: defer f(); } }
abbrev pub c43_2 : List syntax.External
c43_2 = (syntax.ExternalDeclaration (syntax.SimpleDeclaration (specs (syntax.TypeSpec type.Void (at 1 0) ∷ [])) (declared (syntax.init_declarator (syntax.Named [] (name (codes "f") (at 6 1)) (suffixes (syntax.FunctionSuffix (parameters (syntax.parameter (specs (syntax.TypeSpec type.Void (at 8 3) ∷ [])) (syntax.Unnamed [] (suffixes [])) (at 8 3) ∷ [])) false (at 7 2) ∷ []))) syntax.no_initializer ∷ []))) ∷ syntax.FunctionDefinition (specs (syntax.TypeSpec type.Void (at 15 6) ∷ [])) (syntax.Named [] (name (codes "g") (at 20 7)) (suffixes (syntax.FunctionSuffix (parameters (syntax.parameter (specs (syntax.TypeSpec type.Int (at 22 9) ∷ [])) (syntax.Named [] (name (codes "c") (at 26 10)) (suffixes [])) (at 22 9) ∷ [])) false (at 21 8) ∷ []))) (syntax.block (block_items (syntax.StatementItem (syntax.Switch (syntax.Identifier (name (codes "c") (at 39 15))) (syntax.CompoundStatement (syntax.block (block_items (syntax.CaseLabel (syntax.Constant (pos 1) basic.Int (at 49 19)) (at 44 18) ∷ syntax.StatementItem (syntax.Defer (syntax.ExpressionStatement (syntax.an_expr (syntax.Call (syntax.Identifier (name (codes "f") (at 58 22))) (syntax.exprs []) (at 59 23))) (span (at 58 22) (at 61 25))) (at 52 21) (span (at 52 21) (at 61 25))) ∷ [])) (span (at 42 17) (at 63 26))) (span (at 42 17) (at 63 26))) (span (at 31 13) (at 63 26))) ∷ [])) (span (at 29 12) (at 65 27))) ∷ [])
