-- C42: break or continue stands outside: units of one line, as trees.
use Rattle.std.specs.Prelude.{List, [], ◌∷◌, false, pos, codes}
use Rattle.model_grammar.specs.SyntaxForms as syntax
use Rattle.model_types.specs.declared.numbers.Basic.TheVariants as basic
use Rattle.model_grammar.specs.declared.syntax.TypeWord.TheVariants as type
use Rattle.checking_units.specs.Parts.{at, name, specs, suffixes, parameters, block_items, span}

-- void g(void) { defer { break; } }
abbrev pub c42_1 : List syntax.External
c42_1 = (syntax.FunctionDefinition (specs (syntax.TypeSpec type.Void (at 1 0) ∷ [])) (syntax.Named [] (name (codes "g") (at 6 1)) (suffixes (syntax.FunctionSuffix (parameters (syntax.parameter (specs (syntax.TypeSpec type.Void (at 8 3) ∷ [])) (syntax.Unnamed [] (suffixes [])) (at 8 3) ∷ [])) false (at 7 2) ∷ []))) (syntax.block (block_items (syntax.StatementItem (syntax.Defer (syntax.CompoundStatement (syntax.block (block_items (syntax.StatementItem (syntax.Break (at 24 8) (span (at 24 8) (at 29 9))) ∷ [])) (span (at 22 7) (at 31 10))) (span (at 22 7) (at 31 10))) (at 16 6) (span (at 16 6) (at 31 10))) ∷ [])) (span (at 14 5) (at 33 11))) ∷ [])

-- void g(void) { continue; }
abbrev pub c42_2 : List syntax.External
c42_2 = (syntax.FunctionDefinition (specs (syntax.TypeSpec type.Void (at 1 0) ∷ [])) (syntax.Named [] (name (codes "g") (at 6 1)) (suffixes (syntax.FunctionSuffix (parameters (syntax.parameter (specs (syntax.TypeSpec type.Void (at 8 3) ∷ [])) (syntax.Unnamed [] (suffixes [])) (at 8 3) ∷ [])) false (at 7 2) ∷ []))) (syntax.block (block_items (syntax.StatementItem (syntax.Continue (at 16 6) (span (at 16 6) (at 24 7))) ∷ [])) (span (at 14 5) (at 26 8))) ∷ [])

-- void g(int x) { switch (x) { case 1: continue; } }
abbrev pub c42_3 : List syntax.External
c42_3 = (syntax.FunctionDefinition (specs (syntax.TypeSpec type.Void (at 1 0) ∷ [])) (syntax.Named [] (name (codes "g") (at 6 1)) (suffixes (syntax.FunctionSuffix (parameters (syntax.parameter (specs (syntax.TypeSpec type.Int (at 8 3) ∷ [])) (syntax.Named [] (name (codes "x") (at 12 4)) (suffixes [])) (at 8 3) ∷ [])) false (at 7 2) ∷ []))) (syntax.block (block_items (syntax.StatementItem (syntax.Switch (syntax.Identifier (name (codes "x") (at 25 9))) (syntax.CompoundStatement (syntax.block (block_items (syntax.CaseLabel (syntax.Constant (pos 1) basic.Int (at 35 13)) (at 30 12) ∷ syntax.StatementItem (syntax.Continue (at 38 15) (span (at 38 15) (at 46 16))) ∷ [])) (span (at 28 11) (at 48 17))) (span (at 28 11) (at 48 17))) (span (at 17 7) (at 48 17))) ∷ [])) (span (at 15 6) (at 50 18))) ∷ [])
