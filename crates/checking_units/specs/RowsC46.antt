-- C46: condition has the wrong type: units of one line, as trees.
use Rattle.std.specs.Prelude.{List, [], ◌∷◌, Some, false, pos, codes}
use Rattle.model_grammar.specs.SyntaxForms as syntax
use Rattle.model_types.specs.declared.numbers.Basic.TheVariants as basic
use Rattle.model_grammar.specs.declared.syntax.TypeWord.TheVariants as type
use Rattle.checking_units.specs.Parts.{at, name, specs, pointer, suffixes, parameters, members, declared, block_items, span}

-- struct s { int a; }; void g(struct s a) { if (a) ; }
abbrev pub c46_1 : List syntax.External
c46_1 = (syntax.ExternalDeclaration (syntax.SimpleDeclaration (specs (syntax.Struct (Some (name (codes "s") (at 8 1))) (members (syntax.MemberDeclarators (specs (syntax.TypeSpec type.Int (at 12 3) ∷ [])) (syntax.declarators ((syntax.Named [] (name (codes "a") (at 16 4)) (suffixes [])) ∷ [])) ∷ [])) (at 1 0) ∷ [])) (declared [])) ∷ syntax.FunctionDefinition (specs (syntax.TypeSpec type.Void (at 22 8) ∷ [])) (syntax.Named [] (name (codes "g") (at 27 9)) (suffixes (syntax.FunctionSuffix (parameters (syntax.parameter (specs (syntax.StructTag (name (codes "s") (at 36 12)) (at 29 11) ∷ [])) (syntax.Named [] (name (codes "a") (at 38 13)) (suffixes [])) (at 29 11) ∷ [])) false (at 28 10) ∷ []))) (syntax.block (block_items (syntax.StatementItem (syntax.If syntax.no_declaration (syntax.Identifier (name (codes "a") (at 47 18))) (syntax.ExpressionStatement syntax.no_expr (span (at 50 20) (at 50 20))) syntax.no_statement (span (at 43 16) (at 50 20))) ∷ [])) (span (at 41 15) (at 52 21))) ∷ [])

-- struct s { int a; } a; void g(void) { if (a) ; }
abbrev pub c46_2 : List syntax.External
c46_2 = (syntax.ExternalDeclaration (syntax.SimpleDeclaration (specs (syntax.Struct (Some (name (codes "s") (at 8 1))) (members (syntax.MemberDeclarators (specs (syntax.TypeSpec type.Int (at 12 3) ∷ [])) (syntax.declarators ((syntax.Named [] (name (codes "a") (at 16 4)) (suffixes [])) ∷ [])) ∷ [])) (at 1 0) ∷ [])) (declared (syntax.init_declarator (syntax.Named [] (name (codes "a") (at 21 7)) (suffixes [])) syntax.no_initializer ∷ []))) ∷ syntax.FunctionDefinition (specs (syntax.TypeSpec type.Void (at 24 9) ∷ [])) (syntax.Named [] (name (codes "g") (at 29 10)) (suffixes (syntax.FunctionSuffix (parameters (syntax.parameter (specs (syntax.TypeSpec type.Void (at 31 12) ∷ [])) (syntax.Unnamed [] (suffixes [])) (at 31 12) ∷ [])) false (at 30 11) ∷ []))) (syntax.block (block_items (syntax.StatementItem (syntax.If syntax.no_declaration (syntax.Identifier (name (codes "a") (at 43 17))) (syntax.ExpressionStatement syntax.no_expr (span (at 46 19) (at 46 19))) syntax.no_statement (span (at 39 15) (at 46 19))) ∷ [])) (span (at 37 14) (at 48 20))) ∷ [])

-- int g(int *c) { switch (c) { } return 0; }
abbrev pub c46_3 : List syntax.External
c46_3 = (syntax.FunctionDefinition (specs (syntax.TypeSpec type.Int (at 1 0) ∷ [])) (syntax.Named [] (name (codes "g") (at 5 1)) (suffixes (syntax.FunctionSuffix (parameters (syntax.parameter (specs (syntax.TypeSpec type.Int (at 7 3) ∷ [])) (syntax.Named (pointer (at 11 4) [] ∷ []) (name (codes "c") (at 12 5)) (suffixes [])) (at 7 3) ∷ [])) false (at 6 2) ∷ []))) (syntax.block (block_items (syntax.StatementItem (syntax.Switch (syntax.Identifier (name (codes "c") (at 25 10))) (syntax.CompoundStatement (syntax.block (block_items []) (span (at 28 12) (at 30 13))) (span (at 28 12) (at 30 13))) (span (at 17 8) (at 30 13))) ∷ syntax.StatementItem (syntax.Return (syntax.an_expr (syntax.Constant (pos 0) basic.Int (at 39 15))) (at 32 14) (span (at 32 14) (at 40 16))) ∷ [])) (span (at 15 7) (at 42 17))) ∷ [])

-- void g(void) { struct s { int a; } s; while (s) ; }
abbrev pub c46_4 : List syntax.External
c46_4 = (syntax.FunctionDefinition (specs (syntax.TypeSpec type.Void (at 1 0) ∷ [])) (syntax.Named [] (name (codes "g") (at 6 1)) (suffixes (syntax.FunctionSuffix (parameters (syntax.parameter (specs (syntax.TypeSpec type.Void (at 8 3) ∷ [])) (syntax.Unnamed [] (suffixes [])) (at 8 3) ∷ [])) false (at 7 2) ∷ []))) (syntax.block (block_items (syntax.DeclarationItem (syntax.SimpleDeclaration (specs (syntax.Struct (Some (name (codes "s") (at 23 7))) (members (syntax.MemberDeclarators (specs (syntax.TypeSpec type.Int (at 27 9) ∷ [])) (syntax.declarators ((syntax.Named [] (name (codes "a") (at 31 10)) (suffixes [])) ∷ [])) ∷ [])) (at 16 6) ∷ [])) (declared (syntax.init_declarator (syntax.Named [] (name (codes "s") (at 36 13)) (suffixes [])) syntax.no_initializer ∷ []))) ∷ syntax.StatementItem (syntax.While (syntax.Identifier (name (codes "s") (at 46 17))) (syntax.ExpressionStatement syntax.no_expr (span (at 49 19) (at 49 19))) (span (at 39 15) (at 49 19))) ∷ [])) (span (at 14 5) (at 51 20))) ∷ [])
