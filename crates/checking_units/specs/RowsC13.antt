-- C13: no such member: units of one line, as trees.
use Rattle.std.specs.Prelude.{List, [], ◌∷◌, Some, false, codes}
use Rattle.model_grammar.specs.SyntaxForms as syntax
use Rattle.model_grammar.specs.declared.syntax.StorageWord.TheVariants as storage
use Rattle.model_grammar.specs.declared.syntax.TypeWord.TheVariants as type
use Rattle.checking_units.specs.Parts.{at, name, specs, pointer, suffixes, parameters, members, declared, block_items, span}

-- void g(int *p) { p->a; }
abbrev pub c13_1 : List syntax.External
c13_1 = (syntax.FunctionDefinition (specs (syntax.TypeSpec type.Void (at 1 0) ∷ [])) (syntax.Named [] (name (codes "g") (at 6 1)) (suffixes (syntax.FunctionSuffix (parameters (syntax.parameter (specs (syntax.TypeSpec type.Int (at 8 3) ∷ [])) (syntax.Named (pointer (at 12 4) [] ∷ []) (name (codes "p") (at 13 5)) (suffixes [])) (at 8 3) ∷ [])) false (at 7 2) ∷ []))) (syntax.block (block_items (syntax.StatementItem (syntax.ExpressionStatement (syntax.an_expr (syntax.Arrow (syntax.Identifier (name (codes "p") (at 18 8))) (name (codes "a") (at 21 10)) (at 19 9))) (span (at 18 8) (at 22 11))) ∷ [])) (span (at 16 7) (at 24 12))) ∷ [])

-- struct h; extern struct h x; void g(void) { x.a; }
abbrev pub c13_2 : List syntax.External
c13_2 = (syntax.ExternalDeclaration (syntax.SimpleDeclaration (specs (syntax.StructTag (name (codes "h") (at 8 1)) (at 1 0) ∷ [])) (declared [])) ∷ syntax.ExternalDeclaration (syntax.SimpleDeclaration (specs (syntax.StorageSpec storage.Extern (at 11 3) ∷ syntax.StructTag (name (codes "h") (at 25 5)) (at 18 4) ∷ [])) (declared (syntax.init_declarator (syntax.Named [] (name (codes "x") (at 27 6)) (suffixes [])) syntax.no_initializer ∷ []))) ∷ syntax.FunctionDefinition (specs (syntax.TypeSpec type.Void (at 30 8) ∷ [])) (syntax.Named [] (name (codes "g") (at 35 9)) (suffixes (syntax.FunctionSuffix (parameters (syntax.parameter (specs (syntax.TypeSpec type.Void (at 37 11) ∷ [])) (syntax.Unnamed [] (suffixes [])) (at 37 11) ∷ [])) false (at 36 10) ∷ []))) (syntax.block (block_items (syntax.StatementItem (syntax.ExpressionStatement (syntax.an_expr (syntax.Member (syntax.Identifier (name (codes "x") (at 45 14))) (name (codes "a") (at 47 16)) (at 46 15))) (span (at 45 14) (at 48 17))) ∷ [])) (span (at 43 13) (at 50 18))) ∷ [])

-- struct s { int a; }; void g(struct s *p) { p->b; }
abbrev pub c13_3 : List syntax.External
c13_3 = (syntax.ExternalDeclaration (syntax.SimpleDeclaration (specs (syntax.Struct (Some (name (codes "s") (at 8 1))) (members (syntax.MemberDeclarators (specs (syntax.TypeSpec type.Int (at 12 3) ∷ [])) (syntax.declarators ((syntax.Named [] (name (codes "a") (at 16 4)) (suffixes [])) ∷ [])) ∷ [])) (at 1 0) ∷ [])) (declared [])) ∷ syntax.FunctionDefinition (specs (syntax.TypeSpec type.Void (at 22 8) ∷ [])) (syntax.Named [] (name (codes "g") (at 27 9)) (suffixes (syntax.FunctionSuffix (parameters (syntax.parameter (specs (syntax.StructTag (name (codes "s") (at 36 12)) (at 29 11) ∷ [])) (syntax.Named (pointer (at 38 13) [] ∷ []) (name (codes "p") (at 39 14)) (suffixes [])) (at 29 11) ∷ [])) false (at 28 10) ∷ []))) (syntax.block (block_items (syntax.StatementItem (syntax.ExpressionStatement (syntax.an_expr (syntax.Arrow (syntax.Identifier (name (codes "p") (at 44 17))) (name (codes "b") (at 47 19)) (at 45 18))) (span (at 44 17) (at 48 20))) ∷ [])) (span (at 42 16) (at 50 21))) ∷ [])

-- extern struct s x; void g(void) { x.a; }
abbrev pub c13_4 : List syntax.External
c13_4 = (syntax.ExternalDeclaration (syntax.SimpleDeclaration (specs (syntax.StorageSpec storage.Extern (at 1 0) ∷ syntax.StructTag (name (codes "s") (at 15 2)) (at 8 1) ∷ [])) (declared (syntax.init_declarator (syntax.Named [] (name (codes "x") (at 17 3)) (suffixes [])) syntax.no_initializer ∷ []))) ∷ syntax.FunctionDefinition (specs (syntax.TypeSpec type.Void (at 20 5) ∷ [])) (syntax.Named [] (name (codes "g") (at 25 6)) (suffixes (syntax.FunctionSuffix (parameters (syntax.parameter (specs (syntax.TypeSpec type.Void (at 27 8) ∷ [])) (syntax.Unnamed [] (suffixes [])) (at 27 8) ∷ [])) false (at 26 7) ∷ []))) (syntax.block (block_items (syntax.StatementItem (syntax.ExpressionStatement (syntax.an_expr (syntax.Member (syntax.Identifier (name (codes "x") (at 35 11))) (name (codes "a") (at 37 13)) (at 36 12))) (span (at 35 11) (at 38 14))) ∷ [])) (span (at 33 10) (at 40 15))) ∷ [])
