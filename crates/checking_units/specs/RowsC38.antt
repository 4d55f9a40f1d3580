-- C38: variadic function is defined: units of one line, as trees.
use Rattle.std.specs.Prelude.{List, [], ◌∷◌, true, false, pos, codes}
use Rattle.model_grammar.specs.SyntaxForms as syntax
use Rattle.model_types.specs.declared.numbers.Basic.TheVariants as basic
use Rattle.model_grammar.specs.declared.syntax.StorageWord.TheVariants as storage
use Rattle.model_grammar.specs.declared.syntax.TypeWord.TheVariants as type
use Rattle.checking_units.specs.Parts.{at, name, specs, suffixes, parameters, declared, block_items, span}

-- int f(int n, ...) { return 0; }
abbrev pub c38_1 : List syntax.External
c38_1 = (syntax.FunctionDefinition (specs (syntax.TypeSpec type.Int (at 1 0) ∷ [])) (syntax.Named [] (name (codes "f") (at 5 1)) (suffixes (syntax.FunctionSuffix (parameters (syntax.parameter (specs (syntax.TypeSpec type.Int (at 7 3) ∷ [])) (syntax.Named [] (name (codes "n") (at 11 4)) (suffixes [])) (at 7 3) ∷ [])) true (at 6 2) ∷ []))) (syntax.block (block_items (syntax.StatementItem (syntax.Return (syntax.an_expr (syntax.Constant (pos 0) basic.Int (at 28 10))) (at 21 9) (span (at 21 9) (at 29 11))) ∷ [])) (span (at 19 8) (at 31 12))) ∷ [])

-- void f(void) { auto p = (int (int a, ...)) { return 0; }; }
abbrev pub c38_2 : List syntax.External
c38_2 = (syntax.FunctionDefinition (specs (syntax.TypeSpec type.Void (at 1 0) ∷ [])) (syntax.Named [] (name (codes "f") (at 6 1)) (suffixes (syntax.FunctionSuffix (parameters (syntax.parameter (specs (syntax.TypeSpec type.Void (at 8 3) ∷ [])) (syntax.Unnamed [] (suffixes [])) (at 8 3) ∷ [])) false (at 7 2) ∷ []))) (syntax.block (block_items (syntax.DeclarationItem (syntax.SimpleDeclaration (specs (syntax.StorageSpec storage.Auto (at 16 6) ∷ [])) (declared (syntax.init_declarator (syntax.Named [] (name (codes "p") (at 21 7)) (suffixes [])) (syntax.an_initializer (syntax.Single (syntax.FunctionLiteral (syntax.type_name (specs (syntax.TypeSpec type.Int (at 26 10) ∷ [])) (syntax.Unnamed [] (suffixes (syntax.FunctionSuffix (parameters (syntax.parameter (specs (syntax.TypeSpec type.Int (at 31 12) ∷ [])) (syntax.Named [] (name (codes "a") (at 35 13)) (suffixes [])) (at 31 12) ∷ [])) true (at 30 11) ∷ [])))) (syntax.block (block_items (syntax.StatementItem (syntax.Return (syntax.an_expr (syntax.Constant (pos 0) basic.Int (at 53 20))) (at 46 19) (span (at 46 19) (at 54 21))) ∷ [])) (span (at 44 18) (at 56 22))) (at 25 9)))) ∷ []))) ∷ [])) (span (at 14 5) (at 59 24))) ∷ [])

-- int f(int a, ...) { return 0; }
abbrev pub c38_3 : List syntax.External
c38_3 = (syntax.FunctionDefinition (specs (syntax.TypeSpec type.Int (at 1 0) ∷ [])) (syntax.Named [] (name (codes "f") (at 5 1)) (suffixes (syntax.FunctionSuffix (parameters (syntax.parameter (specs (syntax.TypeSpec type.Int (at 7 3) ∷ [])) (syntax.Named [] (name (codes "a") (at 11 4)) (suffixes [])) (at 7 3) ∷ [])) true (at 6 2) ∷ []))) (syntax.block (block_items (syntax.StatementItem (syntax.Return (syntax.an_expr (syntax.Constant (pos 0) basic.Int (at 28 10))) (at 21 9) (span (at 21 9) (at 29 11))) ∷ [])) (span (at 19 8) (at 31 12))) ∷ [])

-- void g(void) { (int (int a, ...)) { return a; }; }
abbrev pub c38_4 : List syntax.External
c38_4 = (syntax.FunctionDefinition (specs (syntax.TypeSpec type.Void (at 1 0) ∷ [])) (syntax.Named [] (name (codes "g") (at 6 1)) (suffixes (syntax.FunctionSuffix (parameters (syntax.parameter (specs (syntax.TypeSpec type.Void (at 8 3) ∷ [])) (syntax.Unnamed [] (suffixes [])) (at 8 3) ∷ [])) false (at 7 2) ∷ []))) (syntax.block (block_items (syntax.StatementItem (syntax.ExpressionStatement (syntax.an_expr (syntax.FunctionLiteral (syntax.type_name (specs (syntax.TypeSpec type.Int (at 17 7) ∷ [])) (syntax.Unnamed [] (suffixes (syntax.FunctionSuffix (parameters (syntax.parameter (specs (syntax.TypeSpec type.Int (at 22 9) ∷ [])) (syntax.Named [] (name (codes "a") (at 26 10)) (suffixes [])) (at 22 9) ∷ [])) true (at 21 8) ∷ [])))) (syntax.block (block_items (syntax.StatementItem (syntax.Return (syntax.an_expr (syntax.Identifier (name (codes "a") (at 44 17)))) (at 37 16) (span (at 37 16) (at 45 18))) ∷ [])) (span (at 35 15) (at 47 19))) (at 16 6))) (span (at 16 6) (at 48 20))) ∷ [])) (span (at 14 5) (at 50 21))) ∷ [])
