-- C30: enumerator is out of range: units of one line, as trees.
use Rattle.std.specs.Prelude.{List, [], ◌∷◌, Some, None, pos, codes}
use Rattle.model_grammar.specs.SyntaxForms as syntax
use Rattle.model_types.specs.declared.numbers.Basic.TheVariants as basic
use Rattle.model_grammar.specs.declared.syntax.TypeWord.TheVariants as type
use Rattle.checking_units.specs.Parts.{at, name, specs, enumerators, declared}

-- enum e : signed char; enum e : int { A = 300 };
abbrev pub c30_1 : List syntax.External
c30_1 = (syntax.ExternalDeclaration (syntax.SimpleDeclaration (specs (syntax.EnumTag (name (codes "e") (at 6 1)) (syntax.some_specs (specs (syntax.TypeSpec type.Signed (at 10 3) ∷ syntax.TypeSpec type.Char (at 17 4) ∷ []))) (at 1 0) ∷ [])) (declared [])) ∷ syntax.ExternalDeclaration (syntax.SimpleDeclaration (specs (syntax.Enum (Some (name (codes "e") (at 28 7))) (syntax.some_specs (specs (syntax.TypeSpec type.Int (at 32 9) ∷ []))) (enumerators (syntax.enumerator (name (codes "A") (at 38 11)) (syntax.an_expr (syntax.Constant (pos 300) basic.Int (at 42 13))) ∷ [])) (at 23 6) ∷ [])) (declared [])) ∷ [])

-- enum : bool { A, B, C };
abbrev pub c30_2 : List syntax.External
c30_2 = (syntax.ExternalDeclaration (syntax.SimpleDeclaration (specs (syntax.Enum None (syntax.some_specs (specs (syntax.TypeSpec type.Bool (at 8 2) ∷ []))) (enumerators (syntax.enumerator (name (codes "A") (at 15 4)) syntax.no_expr ∷ syntax.enumerator (name (codes "B") (at 18 6)) syntax.no_expr ∷ syntax.enumerator (name (codes "C") (at 21 8)) syntax.no_expr ∷ [])) (at 1 0) ∷ [])) (declared [])) ∷ [])

-- enum { A = 2147483648 };
abbrev pub c30_3 : List syntax.External
c30_3 = (syntax.ExternalDeclaration (syntax.SimpleDeclaration (specs (syntax.Enum None syntax.none_of_specs (enumerators (syntax.enumerator (name (codes "A") (at 8 2)) (syntax.an_expr (syntax.Constant (pos 2147483648) basic.Long (at 12 4))) ∷ [])) (at 1 0) ∷ [])) (declared [])) ∷ [])

-- enum { A = 2147483647, B };
abbrev pub c30_4 : List syntax.External
c30_4 = (syntax.ExternalDeclaration (syntax.SimpleDeclaration (specs (syntax.Enum None syntax.none_of_specs (enumerators (syntax.enumerator (name (codes "A") (at 8 2)) (syntax.an_expr (syntax.Constant (pos 2147483647) basic.Int (at 12 4))) ∷ syntax.enumerator (name (codes "B") (at 24 6)) syntax.no_expr ∷ [])) (at 1 0) ∷ [])) (declared [])) ∷ [])

-- enum : char { A = 128 };
abbrev pub c30_5 : List syntax.External
c30_5 = (syntax.ExternalDeclaration (syntax.SimpleDeclaration (specs (syntax.Enum None (syntax.some_specs (specs (syntax.TypeSpec type.Char (at 8 2) ∷ []))) (enumerators (syntax.enumerator (name (codes "A") (at 15 4)) (syntax.an_expr (syntax.Constant (pos 128) basic.Int (at 19 6))) ∷ [])) (at 1 0) ∷ [])) (declared [])) ∷ [])
