-- C44: deferred statement is left: units of one line, as trees.
use Rattle.std.specs.Prelude.{List, [], ◌∷◌, false, pos, codes}
use Rattle.model_grammar.specs.SyntaxForms as syntax
use Rattle.model_types.specs.declared.numbers.Basic.TheVariants as basic
use Rattle.model_grammar.specs.declared.syntax.TypeWord.TheVariants as type
use Rattle.checking_units.specs.Parts.{at, name, specs, suffixes, parameters, block_items, span}

-- void g(void) { while (1) defer { break; } }
abbrev pub c44_1 : List syntax.External
c44_1 = (syntax.FunctionDefinition (specs (syntax.TypeSpec type.Void (at 1 0) ∷ [])) (syntax.Named [] (name (codes "g") (at 6 1)) (suffixes (syntax.FunctionSuffix (parameters (syntax.parameter (specs (syntax.TypeSpec type.Void (at 8 3) ∷ [])) (syntax.Unnamed [] (suffixes [])) (at 8 3) ∷ [])) false (at 7 2) ∷ []))) (syntax.block (block_items (syntax.StatementItem (syntax.While (syntax.Constant (pos 1) basic.Int (at 23 8)) (syntax.Defer (syntax.CompoundStatement (syntax.block (block_items (syntax.StatementItem (syntax.Break (at 34 12) (span (at 34 12) (at 39 13))) ∷ [])) (span (at 32 11) (at 41 14))) (span (at 32 11) (at 41 14))) (at 26 10) (span (at 26 10) (at 41 14))) (span (at 16 6) (at 41 14))) ∷ [])) (span (at 14 5) (at 43 15))) ∷ [])

-- void g(void) { defer { return 1; } }
abbrev pub c44_2 : List syntax.External
c44_2 = (syntax.FunctionDefinition (specs (syntax.TypeSpec type.Void (at 1 0) ∷ [])) (syntax.Named [] (name (codes "g") (at 6 1)) (suffixes (syntax.FunctionSuffix (parameters (syntax.parameter (specs (syntax.TypeSpec type.Void (at 8 3) ∷ [])) (syntax.Unnamed [] (suffixes [])) (at 8 3) ∷ [])) false (at 7 2) ∷ []))) (syntax.block (block_items (syntax.StatementItem (syntax.Defer (syntax.CompoundStatement (syntax.block (block_items (syntax.StatementItem (syntax.Return (syntax.an_expr (syntax.Constant (pos 1) basic.Int (at 31 9))) (at 24 8) (span (at 24 8) (at 32 10))) ∷ [])) (span (at 22 7) (at 34 11))) (span (at 22 7) (at 34 11))) (at 16 6) (span (at 16 6) (at 34 11))) ∷ [])) (span (at 14 5) (at 36 12))) ∷ [])

-- int g(void) { for (;;) defer { for (;;) break; continue; } }
abbrev pub c44_3 : List syntax.External
c44_3 = (syntax.FunctionDefinition (specs (syntax.TypeSpec type.Int (at 1 0) ∷ [])) (syntax.Named [] (name (codes "g") (at 5 1)) (suffixes (syntax.FunctionSuffix (parameters (syntax.parameter (specs (syntax.TypeSpec type.Void (at 7 3) ∷ [])) (syntax.Unnamed [] (suffixes [])) (at 7 3) ∷ [])) false (at 6 2) ∷ []))) (syntax.block (block_items (syntax.StatementItem (syntax.For syntax.no_expr syntax.no_expr syntax.no_expr (syntax.Defer (syntax.CompoundStatement (syntax.block (block_items (syntax.StatementItem (syntax.For syntax.no_expr syntax.no_expr syntax.no_expr (syntax.Break (at 41 18) (span (at 41 18) (at 46 19))) (span (at 32 13) (at 46 19))) ∷ syntax.StatementItem (syntax.Continue (at 48 20) (span (at 48 20) (at 56 21))) ∷ [])) (span (at 30 12) (at 58 22))) (span (at 30 12) (at 58 22))) (at 24 11) (span (at 24 11) (at 58 22))) (span (at 15 6) (at 58 22))) ∷ [])) (span (at 13 5) (at 60 23))) ∷ [])

-- int g(void) { defer return 1; return 0; }
abbrev pub c44_4 : List syntax.External
c44_4 = (syntax.FunctionDefinition (specs (syntax.TypeSpec type.Int (at 1 0) ∷ [])) (syntax.Named [] (name (codes "g") (at 5 1)) (suffixes (syntax.FunctionSuffix (parameters (syntax.parameter (specs (syntax.TypeSpec type.Void (at 7 3) ∷ [])) (syntax.Unnamed [] (suffixes [])) (at 7 3) ∷ [])) false (at 6 2) ∷ []))) (syntax.block (block_items (syntax.StatementItem (syntax.Defer (syntax.Return (syntax.an_expr (syntax.Constant (pos 1) basic.Int (at 28 8))) (at 21 7) (span (at 21 7) (at 29 9))) (at 15 6) (span (at 15 6) (at 29 9))) ∷ syntax.StatementItem (syntax.Return (syntax.an_expr (syntax.Constant (pos 0) basic.Int (at 38 11))) (at 31 10) (span (at 31 10) (at 39 12))) ∷ [])) (span (at 13 5) (at 41 13))) ∷ [])

-- void g(void) { for (;;) { defer if (1) break; } }
abbrev pub c44_5 : List syntax.External
c44_5 = (syntax.FunctionDefinition (specs (syntax.TypeSpec type.Void (at 1 0) ∷ [])) (syntax.Named [] (name (codes "g") (at 6 1)) (suffixes (syntax.FunctionSuffix (parameters (syntax.parameter (specs (syntax.TypeSpec type.Void (at 8 3) ∷ [])) (syntax.Unnamed [] (suffixes [])) (at 8 3) ∷ [])) false (at 7 2) ∷ []))) (syntax.block (block_items (syntax.StatementItem (syntax.For syntax.no_expr syntax.no_expr syntax.no_expr (syntax.CompoundStatement (syntax.block (block_items (syntax.StatementItem (syntax.Defer (syntax.If syntax.no_declaration (syntax.Constant (pos 1) basic.Int (at 37 15)) (syntax.Break (at 40 17) (span (at 40 17) (at 45 18))) syntax.no_statement (span (at 33 13) (at 45 18))) (at 27 12) (span (at 27 12) (at 45 18))) ∷ [])) (span (at 25 11) (at 47 19))) (span (at 25 11) (at 47 19))) (span (at 16 6) (at 47 19))) ∷ [])) (span (at 14 5) (at 49 20))) ∷ [])
