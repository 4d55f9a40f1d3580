-- C47: main has the wrong type: units of one line, as trees.
use Rattle.std.specs.Prelude.{List, [], ◌∷◌, true, false, pos, codes}
use Rattle.model_grammar.specs.SyntaxForms as syntax
use Rattle.model_types.specs.declared.numbers.Basic.TheVariants as basic
use Rattle.model_grammar.specs.declared.syntax.TypeWord.TheVariants as type
use Rattle.checking_units.specs.Parts.{at, name, specs, pointer, suffixes, parameters, declared, block_items, span}

-- int main;
abbrev pub c47_1 : List syntax.External
c47_1 = (syntax.ExternalDeclaration (syntax.SimpleDeclaration (specs (syntax.TypeSpec type.Int (at 1 0) ∷ [])) (declared (syntax.init_declarator (syntax.Named [] (name (codes "main") (at 5 1)) (suffixes [])) syntax.no_initializer ∷ []))) ∷ [])

-- void main(void);
abbrev pub c47_2 : List syntax.External
c47_2 = (syntax.ExternalDeclaration (syntax.SimpleDeclaration (specs (syntax.TypeSpec type.Void (at 1 0) ∷ [])) (declared (syntax.init_declarator (syntax.Named [] (name (codes "main") (at 6 1)) (suffixes (syntax.FunctionSuffix (parameters (syntax.parameter (specs (syntax.TypeSpec type.Void (at 11 3) ∷ [])) (syntax.Unnamed [] (suffixes [])) (at 11 3) ∷ [])) false (at 10 2) ∷ []))) syntax.no_initializer ∷ []))) ∷ [])

-- int main(int n, char **v, ...);
abbrev pub c47_3 : List syntax.External
c47_3 = (syntax.ExternalDeclaration (syntax.SimpleDeclaration (specs (syntax.TypeSpec type.Int (at 1 0) ∷ [])) (declared (syntax.init_declarator (syntax.Named [] (name (codes "main") (at 5 1)) (suffixes (syntax.FunctionSuffix (parameters (syntax.parameter (specs (syntax.TypeSpec type.Int (at 10 3) ∷ [])) (syntax.Named [] (name (codes "n") (at 14 4)) (suffixes [])) (at 10 3) ∷ syntax.parameter (specs (syntax.TypeSpec type.Char (at 17 6) ∷ [])) (syntax.Named (pointer (at 22 7) [] ∷ pointer (at 23 8) [] ∷ []) (name (codes "v") (at 24 9)) (suffixes [])) (at 17 6) ∷ [])) true (at 9 2) ∷ []))) syntax.no_initializer ∷ []))) ∷ [])

-- int main(int x) { return x; }
abbrev pub c47_4 : List syntax.External
c47_4 = (syntax.FunctionDefinition (specs (syntax.TypeSpec type.Int (at 1 0) ∷ [])) (syntax.Named [] (name (codes "main") (at 5 1)) (suffixes (syntax.FunctionSuffix (parameters (syntax.parameter (specs (syntax.TypeSpec type.Int (at 10 3) ∷ [])) (syntax.Named [] (name (codes "x") (at 14 4)) (suffixes [])) (at 10 3) ∷ [])) false (at 9 2) ∷ []))) (syntax.block (block_items (syntax.StatementItem (syntax.Return (syntax.an_expr (syntax.Identifier (name (codes "x") (at 26 8)))) (at 19 7) (span (at 19 7) (at 27 9))) ∷ [])) (span (at 17 6) (at 29 10))) ∷ [])

-- int main(int argc) { return 0; }
abbrev pub c47_5 : List syntax.External
c47_5 = (syntax.FunctionDefinition (specs (syntax.TypeSpec type.Int (at 1 0) ∷ [])) (syntax.Named [] (name (codes "main") (at 5 1)) (suffixes (syntax.FunctionSuffix (parameters (syntax.parameter (specs (syntax.TypeSpec type.Int (at 10 3) ∷ [])) (syntax.Named [] (name (codes "argc") (at 14 4)) (suffixes [])) (at 10 3) ∷ [])) false (at 9 2) ∷ []))) (syntax.block (block_items (syntax.StatementItem (syntax.Return (syntax.an_expr (syntax.Constant (pos 0) basic.Int (at 29 8))) (at 22 7) (span (at 22 7) (at 30 9))) ∷ [])) (span (at 20 6) (at 32 10))) ∷ [])
