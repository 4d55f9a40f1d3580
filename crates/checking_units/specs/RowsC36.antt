-- C36: static_assert failed: units of one line, as trees.
use Rattle.std.specs.Prelude.{List, [], ◌∷◌, Some, None, false, pos, codes}
use Rattle.model_grammar.specs.SyntaxForms as syntax
use Rattle.model_types.specs.declared.numbers.Basic.TheVariants as basic
use Rattle.model_types.specs.declared.numbers.BinOp.TheVariants as op
use Rattle.model_grammar.specs.declared.syntax.TypeWord.TheVariants as type
use Rattle.checking_units.specs.Parts.{at, name, specs, suffixes, parameters, members, declared, block_items, span}

-- static_assert(1 == 2);
abbrev pub c36_1 : List syntax.External
c36_1 = (syntax.ExternalDeclaration (syntax.AssertDeclaration (syntax.asserted (syntax.Binary op.Equal (syntax.Constant (pos 1) basic.Int (at 15 2)) (syntax.Constant (pos 2) basic.Int (at 20 4)) (at 17 3)) None (at 1 0))) ∷ [])

-- struct s { int a; _Static_assert(0, "no"); };
abbrev pub c36_2 : List syntax.External
c36_2 = (syntax.ExternalDeclaration (syntax.SimpleDeclaration (specs (syntax.Struct (Some (name (codes "s") (at 8 1))) (members (syntax.MemberDeclarators (specs (syntax.TypeSpec type.Int (at 12 3) ∷ [])) (syntax.declarators ((syntax.Named [] (name (codes "a") (at 16 4)) (suffixes [])) ∷ [])) ∷ syntax.MemberAssertion (syntax.asserted (syntax.Constant (pos 0) basic.Int (at 34 8)) (Some (codes "no")) (at 19 6)) ∷ [])) (at 1 0) ∷ [])) (declared [])) ∷ [])

-- static_assert(0, "no");
abbrev pub c36_3 : List syntax.External
c36_3 = (syntax.ExternalDeclaration (syntax.AssertDeclaration (syntax.asserted (syntax.Constant (pos 0) basic.Int (at 15 2)) (Some (codes "no")) (at 1 0))) ∷ [])

-- void g(void) { static_assert(1 - 1); }
abbrev pub c36_4 : List syntax.External
c36_4 = (syntax.FunctionDefinition (specs (syntax.TypeSpec type.Void (at 1 0) ∷ [])) (syntax.Named [] (name (codes "g") (at 6 1)) (suffixes (syntax.FunctionSuffix (parameters (syntax.parameter (specs (syntax.TypeSpec type.Void (at 8 3) ∷ [])) (syntax.Unnamed [] (suffixes [])) (at 8 3) ∷ [])) false (at 7 2) ∷ []))) (syntax.block (block_items (syntax.DeclarationItem (syntax.AssertDeclaration (syntax.asserted (syntax.Binary op.Sub (syntax.Constant (pos 1) basic.Int (at 30 8)) (syntax.Constant (pos 1) basic.Int (at 34 10)) (at 32 9)) None (at 16 6))) ∷ [])) (span (at 14 5) (at 38 13))) ∷ [])

-- struct s { int a; static_assert(sizeof(int) == 8); };
abbrev pub c36_5 : List syntax.External
c36_5 = (syntax.ExternalDeclaration (syntax.SimpleDeclaration (specs (syntax.Struct (Some (name (codes "s") (at 8 1))) (members (syntax.MemberDeclarators (specs (syntax.TypeSpec type.Int (at 12 3) ∷ [])) (syntax.declarators ((syntax.Named [] (name (codes "a") (at 16 4)) (suffixes [])) ∷ [])) ∷ syntax.MemberAssertion (syntax.asserted (syntax.Binary op.Equal (syntax.SizeofType (syntax.type_name (specs (syntax.TypeSpec type.Int (at 40 10) ∷ [])) (syntax.Unnamed [] (suffixes []))) (at 33 8)) (syntax.Constant (pos 8) basic.Int (at 48 13)) (at 45 12)) None (at 19 6)) ∷ [])) (at 1 0) ∷ [])) (declared [])) ∷ [])
