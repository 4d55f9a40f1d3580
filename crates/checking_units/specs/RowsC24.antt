-- C24: constant expression is undefined: units of one line, as trees.
use Rattle.std.specs.Prelude.{List, [], ◌∷◌, None, false, pos, codes}
use Rattle.model_grammar.specs.SyntaxForms as syntax
use Rattle.model_types.specs.declared.numbers.Basic.TheVariants as basic
use Rattle.model_types.specs.declared.numbers.BinOp.TheVariants as op
use Rattle.model_grammar.specs.declared.syntax.StorageWord.TheVariants as storage
use Rattle.model_grammar.specs.declared.syntax.TypeWord.TheVariants as type
use Rattle.model_grammar.specs.declared.syntax.PrefixOp.TheVariants as prefix
use Rattle.checking_units.specs.Parts.{at, name, specs, pointer, suffixes, parameters, enumerators, declared, block_items, span}

-- enum { A = 1 / 0 };
abbrev pub c24_1 : List syntax.External
c24_1 = (syntax.ExternalDeclaration (syntax.SimpleDeclaration (specs (syntax.Enum None syntax.none_of_specs (enumerators (syntax.enumerator (name (codes "A") (at 8 2)) (syntax.an_expr (syntax.Binary op.Div (syntax.Constant (pos 1) basic.Int (at 12 4)) (syntax.Constant (pos 0) basic.Int (at 16 6)) (at 14 5))) ∷ [])) (at 1 0) ∷ [])) (declared [])) ∷ [])

-- constexpr int x = 1 / 0;
abbrev pub c24_2 : List syntax.External
c24_2 = (syntax.ExternalDeclaration (syntax.SimpleDeclaration (specs (syntax.StorageSpec storage.Constexpr (at 1 0) ∷ syntax.TypeSpec type.Int (at 11 1) ∷ [])) (declared (syntax.init_declarator (syntax.Named [] (name (codes "x") (at 15 2)) (suffixes [])) (syntax.an_initializer (syntax.Single (syntax.Binary op.Div (syntax.Constant (pos 1) basic.Int (at 19 4)) (syntax.Constant (pos 0) basic.Int (at 23 6)) (at 21 5)))) ∷ []))) ∷ [])

-- int x[1 / 0];
abbrev pub c24_3 : List syntax.External
c24_3 = (syntax.ExternalDeclaration (syntax.SimpleDeclaration (specs (syntax.TypeSpec type.Int (at 1 0) ∷ [])) (declared (syntax.init_declarator (syntax.Named [] (name (codes "x") (at 5 1)) (suffixes (syntax.ArraySuffix (syntax.an_expr (syntax.Binary op.Div (syntax.Constant (pos 1) basic.Int (at 7 3)) (syntax.Constant (pos 0) basic.Int (at 11 5)) (at 9 4))) (at 6 2) ∷ []))) syntax.no_initializer ∷ []))) ∷ [])

-- int a[2]; static int *p = &a[1/0];
abbrev pub c24_4 : List syntax.External
c24_4 = (syntax.ExternalDeclaration (syntax.SimpleDeclaration (specs (syntax.TypeSpec type.Int (at 1 0) ∷ [])) (declared (syntax.init_declarator (syntax.Named [] (name (codes "a") (at 5 1)) (suffixes (syntax.ArraySuffix (syntax.an_expr (syntax.Constant (pos 2) basic.Int (at 7 3))) (at 6 2) ∷ []))) syntax.no_initializer ∷ []))) ∷ syntax.ExternalDeclaration (syntax.SimpleDeclaration (specs (syntax.StorageSpec storage.Static (at 11 6) ∷ syntax.TypeSpec type.Int (at 18 7) ∷ [])) (declared (syntax.init_declarator (syntax.Named (pointer (at 22 8) [] ∷ []) (name (codes "p") (at 23 9)) (suffixes [])) (syntax.an_initializer (syntax.Single (syntax.Unary prefix.Address (syntax.Index (syntax.Identifier (name (codes "a") (at 28 12))) (syntax.Binary op.Div (syntax.Constant (pos 1) basic.Int (at 30 14)) (syntax.Constant (pos 0) basic.Int (at 32 16)) (at 31 15)) (at 29 13)) (at 27 11)))) ∷ []))) ∷ [])

-- int x = 1 / 0;
abbrev pub c24_5 : List syntax.External
c24_5 = (syntax.ExternalDeclaration (syntax.SimpleDeclaration (specs (syntax.TypeSpec type.Int (at 1 0) ∷ [])) (declared (syntax.init_declarator (syntax.Named [] (name (codes "x") (at 5 1)) (suffixes [])) (syntax.an_initializer (syntax.Single (syntax.Binary op.Div (syntax.Constant (pos 1) basic.Int (at 9 3)) (syntax.Constant (pos 0) basic.Int (at 13 5)) (at 11 4)))) ∷ []))) ∷ [])

-- static int a[2]; static int *p = &a[1/0];
abbrev pub c24_6 : List syntax.External
c24_6 = (syntax.ExternalDeclaration (syntax.SimpleDeclaration (specs (syntax.StorageSpec storage.Static (at 1 0) ∷ syntax.TypeSpec type.Int (at 8 1) ∷ [])) (declared (syntax.init_declarator (syntax.Named [] (name (codes "a") (at 12 2)) (suffixes (syntax.ArraySuffix (syntax.an_expr (syntax.Constant (pos 2) basic.Int (at 14 4))) (at 13 3) ∷ []))) syntax.no_initializer ∷ []))) ∷ syntax.ExternalDeclaration (syntax.SimpleDeclaration (specs (syntax.StorageSpec storage.Static (at 18 7) ∷ syntax.TypeSpec type.Int (at 25 8) ∷ [])) (declared (syntax.init_declarator (syntax.Named (pointer (at 29 9) [] ∷ []) (name (codes "p") (at 30 10)) (suffixes [])) (syntax.an_initializer (syntax.Single (syntax.Unary prefix.Address (syntax.Index (syntax.Identifier (name (codes "a") (at 35 13))) (syntax.Binary op.Div (syntax.Constant (pos 1) basic.Int (at 37 15)) (syntax.Constant (pos 0) basic.Int (at 39 17)) (at 38 16)) (at 36 14)) (at 34 12)))) ∷ []))) ∷ [])

-- int g(int c) { switch (c) { case 1/0: ; } return 0; }
abbrev pub c24_7 : List syntax.External
c24_7 = (syntax.FunctionDefinition (specs (syntax.TypeSpec type.Int (at 1 0) ∷ [])) (syntax.Named [] (name (codes "g") (at 5 1)) (suffixes (syntax.FunctionSuffix (parameters (syntax.parameter (specs (syntax.TypeSpec type.Int (at 7 3) ∷ [])) (syntax.Named [] (name (codes "c") (at 11 4)) (suffixes [])) (at 7 3) ∷ [])) false (at 6 2) ∷ []))) (syntax.block (block_items (syntax.StatementItem (syntax.Switch (syntax.Identifier (name (codes "c") (at 24 9))) (syntax.CompoundStatement (syntax.block (block_items (syntax.CaseLabel (syntax.Binary op.Div (syntax.Constant (pos 1) basic.Int (at 34 13)) (syntax.Constant (pos 0) basic.Int (at 36 15)) (at 35 14)) (at 29 12) ∷ syntax.StatementItem (syntax.ExpressionStatement syntax.no_expr (span (at 39 17) (at 39 17))) ∷ [])) (span (at 27 11) (at 41 18))) (span (at 27 11) (at 41 18))) (span (at 16 7) (at 41 18))) ∷ syntax.StatementItem (syntax.Return (syntax.an_expr (syntax.Constant (pos 0) basic.Int (at 50 20))) (at 43 19) (span (at 43 19) (at 51 21))) ∷ [])) (span (at 14 6) (at 53 22))) ∷ [])
