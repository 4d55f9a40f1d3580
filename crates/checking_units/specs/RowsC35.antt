-- C35: initializer does not fit the type: units of one line, as trees.
use Rattle.std.specs.Prelude.{List, [], ◌∷◌, Some, pos, codes}
use Rattle.model_grammar.specs.SyntaxForms as syntax
use Rattle.model_types.specs.declared.numbers.Basic.TheVariants as basic
use Rattle.model_grammar.specs.declared.syntax.TypeWord.TheVariants as type
use Rattle.checking_units.specs.Parts.{at, name, specs, suffixes, members, declared}

-- char c[2] = ("x");
abbrev pub c35_1 : List syntax.External
c35_1 = (syntax.ExternalDeclaration (syntax.SimpleDeclaration (specs (syntax.TypeSpec type.Char (at 1 0) ∷ [])) (declared (syntax.init_declarator (syntax.Named [] (name (codes "c") (at 6 1)) (suffixes (syntax.ArraySuffix (syntax.an_expr (syntax.Constant (pos 2) basic.Int (at 8 3))) (at 7 2) ∷ []))) (syntax.an_initializer (syntax.Single (syntax.Parenthesized (syntax.Text (codes "x") (at 14 7)) (at 13 6)))) ∷ []))) ∷ [])

-- struct s { int a; } x = 1;
abbrev pub c35_2 : List syntax.External
c35_2 = (syntax.ExternalDeclaration (syntax.SimpleDeclaration (specs (syntax.Struct (Some (name (codes "s") (at 8 1))) (members (syntax.MemberDeclarators (specs (syntax.TypeSpec type.Int (at 12 3) ∷ [])) (syntax.declarators ((syntax.Named [] (name (codes "a") (at 16 4)) (suffixes [])) ∷ [])) ∷ [])) (at 1 0) ∷ [])) (declared (syntax.init_declarator (syntax.Named [] (name (codes "x") (at 21 7)) (suffixes [])) (syntax.an_initializer (syntax.Single (syntax.Constant (pos 1) basic.Int (at 25 9)))) ∷ []))) ∷ [])

-- int a[2] = 1;
abbrev pub c35_3 : List syntax.External
c35_3 = (syntax.ExternalDeclaration (syntax.SimpleDeclaration (specs (syntax.TypeSpec type.Int (at 1 0) ∷ [])) (declared (syntax.init_declarator (syntax.Named [] (name (codes "a") (at 5 1)) (suffixes (syntax.ArraySuffix (syntax.an_expr (syntax.Constant (pos 2) basic.Int (at 7 3))) (at 6 2) ∷ []))) (syntax.an_initializer (syntax.Single (syntax.Constant (pos 1) basic.Int (at 12 6)))) ∷ []))) ∷ [])
