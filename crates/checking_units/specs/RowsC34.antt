-- C34: designator does not fit: units of one line, as trees.
use Rattle.std.specs.Prelude.{List, [], ◌∷◌, Some, pos, codes}
use Rattle.model_grammar.specs.SyntaxForms as syntax
use Rattle.model_types.specs.declared.numbers.Basic.TheVariants as basic
use Rattle.model_grammar.specs.declared.syntax.TypeWord.TheVariants as type
use Rattle.checking_units.specs.Parts.{at, name, specs, suffixes, members, declared, items, designators}

-- int x = {[0] = 1};
abbrev pub c34_1 : List syntax.External
c34_1 = (syntax.ExternalDeclaration (syntax.SimpleDeclaration (specs (syntax.TypeSpec type.Int (at 1 0) ∷ [])) (declared (syntax.init_declarator (syntax.Named [] (name (codes "x") (at 5 1)) (suffixes [])) (syntax.an_initializer (syntax.Braced (syntax.braces (items (syntax.item (designators (syntax.ElementDesignator (syntax.Constant (pos 0) basic.Int (at 11 5)) (at 10 4) ∷ [])) (syntax.Single (syntax.Constant (pos 1) basic.Int (at 16 8))) ∷ [])) (at 9 3)))) ∷ []))) ∷ [])

-- struct s { int a; } x = { .b = 1 };
abbrev pub c34_2 : List syntax.External
c34_2 = (syntax.ExternalDeclaration (syntax.SimpleDeclaration (specs (syntax.Struct (Some (name (codes "s") (at 8 1))) (members (syntax.MemberDeclarators (specs (syntax.TypeSpec type.Int (at 12 3) ∷ [])) (syntax.declarators ((syntax.Named [] (name (codes "a") (at 16 4)) (suffixes [])) ∷ [])) ∷ [])) (at 1 0) ∷ [])) (declared (syntax.init_declarator (syntax.Named [] (name (codes "x") (at 21 7)) (suffixes [])) (syntax.an_initializer (syntax.Braced (syntax.braces (items (syntax.item (designators (syntax.MemberDesignator (name (codes "b") (at 28 11)) (at 27 10) ∷ [])) (syntax.Single (syntax.Constant (pos 1) basic.Int (at 32 13))) ∷ [])) (at 25 9)))) ∷ []))) ∷ [])

-- int a[2] = { [2] = 1 };
abbrev pub c34_3 : List syntax.External
c34_3 = (syntax.ExternalDeclaration (syntax.SimpleDeclaration (specs (syntax.TypeSpec type.Int (at 1 0) ∷ [])) (declared (syntax.init_declarator (syntax.Named [] (name (codes "a") (at 5 1)) (suffixes (syntax.ArraySuffix (syntax.an_expr (syntax.Constant (pos 2) basic.Int (at 7 3))) (at 6 2) ∷ []))) (syntax.an_initializer (syntax.Braced (syntax.braces (items (syntax.item (designators (syntax.ElementDesignator (syntax.Constant (pos 2) basic.Int (at 15 8)) (at 14 7) ∷ [])) (syntax.Single (syntax.Constant (pos 1) basic.Int (at 20 11))) ∷ [])) (at 12 6)))) ∷ []))) ∷ [])

-- struct s { int a; } x = { .b = y };
abbrev pub c34_4 : List syntax.External
c34_4 = (syntax.ExternalDeclaration (syntax.SimpleDeclaration (specs (syntax.Struct (Some (name (codes "s") (at 8 1))) (members (syntax.MemberDeclarators (specs (syntax.TypeSpec type.Int (at 12 3) ∷ [])) (syntax.declarators ((syntax.Named [] (name (codes "a") (at 16 4)) (suffixes [])) ∷ [])) ∷ [])) (at 1 0) ∷ [])) (declared (syntax.init_declarator (syntax.Named [] (name (codes "x") (at 21 7)) (suffixes [])) (syntax.an_initializer (syntax.Braced (syntax.braces (items (syntax.item (designators (syntax.MemberDesignator (name (codes "b") (at 28 11)) (at 27 10) ∷ [])) (syntax.Single (syntax.Identifier (name (codes "y") (at 32 13)))) ∷ [])) (at 25 9)))) ∷ []))) ∷ [])
