-- C18: cast is not allowed: units of one line, as trees.
use Rattle.std.specs.Prelude.{List, [], ◌∷◌, Some, false, pos, codes}
use Rattle.model_grammar.specs.SyntaxForms as syntax
use Rattle.model_types.specs.declared.numbers.Basic.TheVariants as basic
use Rattle.model_grammar.specs.declared.syntax.TypeWord.TheVariants as type
use Rattle.checking_units.specs.Parts.{at, name, specs, pointer, suffixes, parameters, members, declared, block_items, span}

-- void v(void); void g(void) { int x = (int)v(); }
abbrev pub c18_1 : List syntax.External
c18_1 = (syntax.ExternalDeclaration (syntax.SimpleDeclaration (specs (syntax.TypeSpec type.Void (at 1 0) ∷ [])) (declared (syntax.init_declarator (syntax.Named [] (name (codes "v") (at 6 1)) (suffixes (syntax.FunctionSuffix (parameters (syntax.parameter (specs (syntax.TypeSpec type.Void (at 8 3) ∷ [])) (syntax.Unnamed [] (suffixes [])) (at 8 3) ∷ [])) false (at 7 2) ∷ []))) syntax.no_initializer ∷ []))) ∷ syntax.FunctionDefinition (specs (syntax.TypeSpec type.Void (at 15 6) ∷ [])) (syntax.Named [] (name (codes "g") (at 20 7)) (suffixes (syntax.FunctionSuffix (parameters (syntax.parameter (specs (syntax.TypeSpec type.Void (at 22 9) ∷ [])) (syntax.Unnamed [] (suffixes [])) (at 22 9) ∷ [])) false (at 21 8) ∷ []))) (syntax.block (block_items (syntax.DeclarationItem (syntax.SimpleDeclaration (specs (syntax.TypeSpec type.Int (at 30 12) ∷ [])) (declared (syntax.init_declarator (syntax.Named [] (name (codes "x") (at 34 13)) (suffixes [])) (syntax.an_initializer (syntax.Single (syntax.Cast (syntax.type_name (specs (syntax.TypeSpec type.Int (at 39 16) ∷ [])) (syntax.Unnamed [] (suffixes []))) (syntax.Call (syntax.Identifier (name (codes "v") (at 43 18))) (syntax.exprs []) (at 44 19)) (at 38 15)))) ∷ []))) ∷ [])) (span (at 28 11) (at 48 22))) ∷ [])

-- void g(int *p) { (long)p; }
abbrev pub c18_2 : List syntax.External
c18_2 = (syntax.FunctionDefinition (specs (syntax.TypeSpec type.Void (at 1 0) ∷ [])) (syntax.Named [] (name (codes "g") (at 6 1)) (suffixes (syntax.FunctionSuffix (parameters (syntax.parameter (specs (syntax.TypeSpec type.Int (at 8 3) ∷ [])) (syntax.Named (pointer (at 12 4) [] ∷ []) (name (codes "p") (at 13 5)) (suffixes [])) (at 8 3) ∷ [])) false (at 7 2) ∷ []))) (syntax.block (block_items (syntax.StatementItem (syntax.ExpressionStatement (syntax.an_expr (syntax.Cast (syntax.type_name (specs (syntax.TypeSpec type.Long (at 19 9) ∷ [])) (syntax.Unnamed [] (suffixes []))) (syntax.Identifier (name (codes "p") (at 24 11))) (at 18 8))) (span (at 18 8) (at 25 12))) ∷ [])) (span (at 16 7) (at 27 13))) ∷ [])

-- void g(void) { (int *)1; }
abbrev pub c18_3 : List syntax.External
c18_3 = (syntax.FunctionDefinition (specs (syntax.TypeSpec type.Void (at 1 0) ∷ [])) (syntax.Named [] (name (codes "g") (at 6 1)) (suffixes (syntax.FunctionSuffix (parameters (syntax.parameter (specs (syntax.TypeSpec type.Void (at 8 3) ∷ [])) (syntax.Unnamed [] (suffixes [])) (at 8 3) ∷ [])) false (at 7 2) ∷ []))) (syntax.block (block_items (syntax.StatementItem (syntax.ExpressionStatement (syntax.an_expr (syntax.Cast (syntax.type_name (specs (syntax.TypeSpec type.Int (at 17 7) ∷ [])) (syntax.Unnamed (pointer (at 21 8) [] ∷ []) (suffixes []))) (syntax.Constant (pos 1) basic.Int (at 23 10)) (at 16 6))) (span (at 16 6) (at 24 11))) ∷ [])) (span (at 14 5) (at 26 12))) ∷ [])

-- struct s { int a; }; void g(struct s a) { (struct s)a; }
abbrev pub c18_4 : List syntax.External
c18_4 = (syntax.ExternalDeclaration (syntax.SimpleDeclaration (specs (syntax.Struct (Some (name (codes "s") (at 8 1))) (members (syntax.MemberDeclarators (specs (syntax.TypeSpec type.Int (at 12 3) ∷ [])) (syntax.declarators ((syntax.Named [] (name (codes "a") (at 16 4)) (suffixes [])) ∷ [])) ∷ [])) (at 1 0) ∷ [])) (declared [])) ∷ syntax.FunctionDefinition (specs (syntax.TypeSpec type.Void (at 22 8) ∷ [])) (syntax.Named [] (name (codes "g") (at 27 9)) (suffixes (syntax.FunctionSuffix (parameters (syntax.parameter (specs (syntax.StructTag (name (codes "s") (at 36 12)) (at 29 11) ∷ [])) (syntax.Named [] (name (codes "a") (at 38 13)) (suffixes [])) (at 29 11) ∷ [])) false (at 28 10) ∷ []))) (syntax.block (block_items (syntax.StatementItem (syntax.ExpressionStatement (syntax.an_expr (syntax.Cast (syntax.type_name (specs (syntax.StructTag (name (codes "s") (at 51 18)) (at 44 17) ∷ [])) (syntax.Unnamed [] (suffixes []))) (syntax.Identifier (name (codes "a") (at 53 20))) (at 43 16))) (span (at 43 16) (at 54 21))) ∷ [])) (span (at 41 15) (at 56 22))) ∷ [])

-- void v(void); int x = (int)v();
abbrev pub c18_5 : List syntax.External
c18_5 = (syntax.ExternalDeclaration (syntax.SimpleDeclaration (specs (syntax.TypeSpec type.Void (at 1 0) ∷ [])) (declared (syntax.init_declarator (syntax.Named [] (name (codes "v") (at 6 1)) (suffixes (syntax.FunctionSuffix (parameters (syntax.parameter (specs (syntax.TypeSpec type.Void (at 8 3) ∷ [])) (syntax.Unnamed [] (suffixes [])) (at 8 3) ∷ [])) false (at 7 2) ∷ []))) syntax.no_initializer ∷ []))) ∷ syntax.ExternalDeclaration (syntax.SimpleDeclaration (specs (syntax.TypeSpec type.Int (at 15 6) ∷ [])) (declared (syntax.init_declarator (syntax.Named [] (name (codes "x") (at 19 7)) (suffixes [])) (syntax.an_initializer (syntax.Single (syntax.Cast (syntax.type_name (specs (syntax.TypeSpec type.Int (at 24 10) ∷ [])) (syntax.Unnamed [] (suffixes []))) (syntax.Call (syntax.Identifier (name (codes "v") (at 28 12))) (syntax.exprs []) (at 29 13)) (at 23 9)))) ∷ []))) ∷ [])
