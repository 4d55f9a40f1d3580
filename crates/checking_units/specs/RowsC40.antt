-- C40: case or default stands outside a switch body: units of one line, as trees.
use Rattle.std.specs.Prelude.{List, [], ◌∷◌, false, pos, codes}
use Rattle.model_grammar.specs.SyntaxForms as syntax
use Rattle.model_types.specs.declared.numbers.Basic.TheVariants as basic
use Rattle.model_grammar.specs.declared.syntax.TypeWord.TheVariants as type
use Rattle.checking_units.specs.Parts.{at, name, specs, suffixes, parameters, block_items, span}

-- void g(int x) { switch (x) { { case 1: ; } } }
abbrev pub c40_1 : List syntax.External
c40_1 = (syntax.FunctionDefinition (specs (syntax.TypeSpec type.Void (at 1 0) ∷ [])) (syntax.Named [] (name (codes "g") (at 6 1)) (suffixes (syntax.FunctionSuffix (parameters (syntax.parameter (specs (syntax.TypeSpec type.Int (at 8 3) ∷ [])) (syntax.Named [] (name (codes "x") (at 12 4)) (suffixes [])) (at 8 3) ∷ [])) false (at 7 2) ∷ []))) (syntax.block (block_items (syntax.StatementItem (syntax.Switch (syntax.Identifier (name (codes "x") (at 25 9))) (syntax.CompoundStatement (syntax.block (block_items (syntax.StatementItem (syntax.CompoundStatement (syntax.block (block_items (syntax.CaseLabel (syntax.Constant (pos 1) basic.Int (at 37 14)) (at 32 13) ∷ syntax.StatementItem (syntax.ExpressionStatement syntax.no_expr (span (at 40 16) (at 40 16))) ∷ [])) (span (at 30 12) (at 42 17))) (span (at 30 12) (at 42 17))) ∷ [])) (span (at 28 11) (at 44 18))) (span (at 28 11) (at 44 18))) (span (at 17 7) (at 44 18))) ∷ [])) (span (at 15 6) (at 46 19))) ∷ [])

-- void g(int x) { case y: ; }
abbrev pub c40_2 : List syntax.External
c40_2 = (syntax.FunctionDefinition (specs (syntax.TypeSpec type.Void (at 1 0) ∷ [])) (syntax.Named [] (name (codes "g") (at 6 1)) (suffixes (syntax.FunctionSuffix (parameters (syntax.parameter (specs (syntax.TypeSpec type.Int (at 8 3) ∷ [])) (syntax.Named [] (name (codes "x") (at 12 4)) (suffixes [])) (at 8 3) ∷ [])) false (at 7 2) ∷ []))) (syntax.block (block_items (syntax.CaseLabel (syntax.Identifier (name (codes "y") (at 22 8))) (at 17 7) ∷ syntax.StatementItem (syntax.ExpressionStatement syntax.no_expr (span (at 25 10) (at 25 10))) ∷ [])) (span (at 15 6) (at 27 11))) ∷ [])

-- void g(void) { case 1: ; }
abbrev pub c40_3 : List syntax.External
c40_3 = (syntax.FunctionDefinition (specs (syntax.TypeSpec type.Void (at 1 0) ∷ [])) (syntax.Named [] (name (codes "g") (at 6 1)) (suffixes (syntax.FunctionSuffix (parameters (syntax.parameter (specs (syntax.TypeSpec type.Void (at 8 3) ∷ [])) (syntax.Unnamed [] (suffixes [])) (at 8 3) ∷ [])) false (at 7 2) ∷ []))) (syntax.block (block_items (syntax.CaseLabel (syntax.Constant (pos 1) basic.Int (at 21 7)) (at 16 6) ∷ syntax.StatementItem (syntax.ExpressionStatement syntax.no_expr (span (at 24 9) (at 24 9))) ∷ [])) (span (at 14 5) (at 26 10))) ∷ [])

-- void g(void) { default: ; }
abbrev pub c40_4 : List syntax.External
c40_4 = (syntax.FunctionDefinition (specs (syntax.TypeSpec type.Void (at 1 0) ∷ [])) (syntax.Named [] (name (codes "g") (at 6 1)) (suffixes (syntax.FunctionSuffix (parameters (syntax.parameter (specs (syntax.TypeSpec type.Void (at 8 3) ∷ [])) (syntax.Unnamed [] (suffixes [])) (at 8 3) ∷ [])) false (at 7 2) ∷ []))) (syntax.block (block_items (syntax.DefaultLabel (at 16 6) ∷ syntax.StatementItem (syntax.ExpressionStatement syntax.no_expr (span (at 25 8) (at 25 8))) ∷ [])) (span (at 14 5) (at 27 9))) ∷ [])
