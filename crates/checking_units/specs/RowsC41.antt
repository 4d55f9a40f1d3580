-- C41: case value is repeated: units of one line, as trees.
use Rattle.std.specs.Prelude.{List, [], ◌∷◌, false, pos, codes}
use Rattle.model_grammar.specs.SyntaxForms as syntax
use Rattle.model_types.specs.declared.numbers.Basic.TheVariants as basic
use Rattle.model_grammar.specs.declared.syntax.TypeWord.TheVariants as type
use Rattle.model_grammar.specs.declared.syntax.PrefixOp.TheVariants as prefix
use Rattle.checking_units.specs.Parts.{at, name, specs, suffixes, parameters, block_items, span}

-- void g(unsigned x) { switch (x) { case -1: case 4294967295: ; } }
abbrev pub c41_1 : List syntax.External
c41_1 = (syntax.FunctionDefinition (specs (syntax.TypeSpec type.Void (at 1 0) ∷ [])) (syntax.Named [] (name (codes "g") (at 6 1)) (suffixes (syntax.FunctionSuffix (parameters (syntax.parameter (specs (syntax.TypeSpec type.Unsigned (at 8 3) ∷ [])) (syntax.Named [] (name (codes "x") (at 17 4)) (suffixes [])) (at 8 3) ∷ [])) false (at 7 2) ∷ []))) (syntax.block (block_items (syntax.StatementItem (syntax.Switch (syntax.Identifier (name (codes "x") (at 30 9))) (syntax.CompoundStatement (syntax.block (block_items (syntax.CaseLabel (syntax.Unary prefix.Minus (syntax.Constant (pos 1) basic.Int (at 41 14)) (at 40 13)) (at 35 12) ∷ syntax.CaseLabel (syntax.Constant (pos 4294967295) basic.Long (at 49 17)) (at 44 16) ∷ syntax.StatementItem (syntax.ExpressionStatement syntax.no_expr (span (at 61 19) (at 61 19))) ∷ [])) (span (at 33 11) (at 63 20))) (span (at 33 11) (at 63 20))) (span (at 22 7) (at 63 20))) ∷ [])) (span (at 20 6) (at 65 21))) ∷ [])

-- int g(int c) { switch (c) { default: ; case 1: ; default: ; } return 0; }
abbrev pub c41_2 : List syntax.External
c41_2 = (syntax.FunctionDefinition (specs (syntax.TypeSpec type.Int (at 1 0) ∷ [])) (syntax.Named [] (name (codes "g") (at 5 1)) (suffixes (syntax.FunctionSuffix (parameters (syntax.parameter (specs (syntax.TypeSpec type.Int (at 7 3) ∷ [])) (syntax.Named [] (name (codes "c") (at 11 4)) (suffixes [])) (at 7 3) ∷ [])) false (at 6 2) ∷ []))) (syntax.block (block_items (syntax.StatementItem (syntax.Switch (syntax.Identifier (name (codes "c") (at 24 9))) (syntax.CompoundStatement (syntax.block (block_items (syntax.DefaultLabel (at 29 12) ∷ syntax.StatementItem (syntax.ExpressionStatement syntax.no_expr (span (at 38 14) (at 38 14))) ∷ syntax.CaseLabel (syntax.Constant (pos 1) basic.Int (at 45 16)) (at 40 15) ∷ syntax.StatementItem (syntax.ExpressionStatement syntax.no_expr (span (at 48 18) (at 48 18))) ∷ syntax.DefaultLabel (at 50 19) ∷ syntax.StatementItem (syntax.ExpressionStatement syntax.no_expr (span (at 59 21) (at 59 21))) ∷ [])) (span (at 27 11) (at 61 22))) (span (at 27 11) (at 61 22))) (span (at 16 7) (at 61 22))) ∷ syntax.StatementItem (syntax.Return (syntax.an_expr (syntax.Constant (pos 0) basic.Int (at 70 24))) (at 63 23) (span (at 63 23) (at 71 25))) ∷ [])) (span (at 14 6) (at 73 26))) ∷ [])

-- void g(int x) { switch (x) { case 1: ; case 1: ; } }
abbrev pub c41_3 : List syntax.External
c41_3 = (syntax.FunctionDefinition (specs (syntax.TypeSpec type.Void (at 1 0) ∷ [])) (syntax.Named [] (name (codes "g") (at 6 1)) (suffixes (syntax.FunctionSuffix (parameters (syntax.parameter (specs (syntax.TypeSpec type.Int (at 8 3) ∷ [])) (syntax.Named [] (name (codes "x") (at 12 4)) (suffixes [])) (at 8 3) ∷ [])) false (at 7 2) ∷ []))) (syntax.block (block_items (syntax.StatementItem (syntax.Switch (syntax.Identifier (name (codes "x") (at 25 9))) (syntax.CompoundStatement (syntax.block (block_items (syntax.CaseLabel (syntax.Constant (pos 1) basic.Int (at 35 13)) (at 30 12) ∷ syntax.StatementItem (syntax.ExpressionStatement syntax.no_expr (span (at 38 15) (at 38 15))) ∷ syntax.CaseLabel (syntax.Constant (pos 1) basic.Int (at 45 17)) (at 40 16) ∷ syntax.StatementItem (syntax.ExpressionStatement syntax.no_expr (span (at 48 19) (at 48 19))) ∷ [])) (span (at 28 11) (at 50 20))) (span (at 28 11) (at 50 20))) (span (at 17 7) (at 50 20))) ∷ [])) (span (at 15 6) (at 52 21))) ∷ [])

-- void g(int x) { switch (x) { case 1: ; case 1: y; } }
abbrev pub c41_4 : List syntax.External
c41_4 = (syntax.FunctionDefinition (specs (syntax.TypeSpec type.Void (at 1 0) ∷ [])) (syntax.Named [] (name (codes "g") (at 6 1)) (suffixes (syntax.FunctionSuffix (parameters (syntax.parameter (specs (syntax.TypeSpec type.Int (at 8 3) ∷ [])) (syntax.Named [] (name (codes "x") (at 12 4)) (suffixes [])) (at 8 3) ∷ [])) false (at 7 2) ∷ []))) (syntax.block (block_items (syntax.StatementItem (syntax.Switch (syntax.Identifier (name (codes "x") (at 25 9))) (syntax.CompoundStatement (syntax.block (block_items (syntax.CaseLabel (syntax.Constant (pos 1) basic.Int (at 35 13)) (at 30 12) ∷ syntax.StatementItem (syntax.ExpressionStatement syntax.no_expr (span (at 38 15) (at 38 15))) ∷ syntax.CaseLabel (syntax.Constant (pos 1) basic.Int (at 45 17)) (at 40 16) ∷ syntax.StatementItem (syntax.ExpressionStatement (syntax.an_expr (syntax.Identifier (name (codes "y") (at 48 19)))) (span (at 48 19) (at 49 20))) ∷ [])) (span (at 28 11) (at 51 21))) (span (at 28 11) (at 51 21))) (span (at 17 7) (at 51 21))) ∷ [])) (span (at 15 6) (at 53 22))) ∷ [])
