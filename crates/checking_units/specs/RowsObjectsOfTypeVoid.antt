-- objects of type void: units of one line, as trees.
use Rattle.std.specs.Prelude.{List, [], ◌∷◌, false, pos, codes}
use Rattle.model_grammar.specs.SyntaxForms as syntax
use Rattle.model_types.specs.declared.numbers.Basic.TheVariants as basic
use Rattle.model_grammar.specs.declared.syntax.StorageWord.TheVariants as storage
use Rattle.model_grammar.specs.declared.syntax.TypeWord.TheVariants as type
use Rattle.model_grammar.specs.declared.syntax.PrefixOp.TheVariants as prefix
use Rattle.checking_units.specs.Parts.{at, name, specs, pointer, suffixes, parameters, declared, block_items, span}

-- extern void w;
abbrev pub objects_of_type_void_1 : List syntax.External
objects_of_type_void_1 = (syntax.ExternalDeclaration (syntax.SimpleDeclaration (specs (syntax.StorageSpec storage.Extern (at 1 0) ∷ syntax.TypeSpec type.Void (at 8 1) ∷ [])) (declared (syntax.init_declarator (syntax.Named [] (name (codes "w") (at 13 2)) (suffixes [])) syntax.no_initializer ∷ []))) ∷ [])

-- extern void w; void g(void) { &w; }
abbrev pub objects_of_type_void_2 : List syntax.External
objects_of_type_void_2 = (syntax.ExternalDeclaration (syntax.SimpleDeclaration (specs (syntax.StorageSpec storage.Extern (at 1 0) ∷ syntax.TypeSpec type.Void (at 8 1) ∷ [])) (declared (syntax.init_declarator (syntax.Named [] (name (codes "w") (at 13 2)) (suffixes [])) syntax.no_initializer ∷ []))) ∷ syntax.FunctionDefinition (specs (syntax.TypeSpec type.Void (at 16 4) ∷ [])) (syntax.Named [] (name (codes "g") (at 21 5)) (suffixes (syntax.FunctionSuffix (parameters (syntax.parameter (specs (syntax.TypeSpec type.Void (at 23 7) ∷ [])) (syntax.Unnamed [] (suffixes [])) (at 23 7) ∷ [])) false (at 22 6) ∷ []))) (syntax.block (block_items (syntax.StatementItem (syntax.ExpressionStatement (syntax.an_expr (syntax.Unary prefix.Address (syntax.Identifier (name (codes "w") (at 32 11))) (at 31 10))) (span (at 31 10) (at 33 12))) ∷ [])) (span (at 29 9) (at 35 13))) ∷ [])

-- extern void w; void *p = &w;
abbrev pub objects_of_type_void_3 : List syntax.External
objects_of_type_void_3 = (syntax.ExternalDeclaration (syntax.SimpleDeclaration (specs (syntax.StorageSpec storage.Extern (at 1 0) ∷ syntax.TypeSpec type.Void (at 8 1) ∷ [])) (declared (syntax.init_declarator (syntax.Named [] (name (codes "w") (at 13 2)) (suffixes [])) syntax.no_initializer ∷ []))) ∷ syntax.ExternalDeclaration (syntax.SimpleDeclaration (specs (syntax.TypeSpec type.Void (at 16 4) ∷ [])) (declared (syntax.init_declarator (syntax.Named (pointer (at 21 5) [] ∷ []) (name (codes "p") (at 22 6)) (suffixes [])) (syntax.an_initializer (syntax.Single (syntax.Unary prefix.Address (syntax.Identifier (name (codes "w") (at 27 9))) (at 26 8)))) ∷ []))) ∷ [])

-- extern void w; void g(void) { w = 1; }
abbrev pub objects_of_type_void_4 : List syntax.External
objects_of_type_void_4 = (syntax.ExternalDeclaration (syntax.SimpleDeclaration (specs (syntax.StorageSpec storage.Extern (at 1 0) ∷ syntax.TypeSpec type.Void (at 8 1) ∷ [])) (declared (syntax.init_declarator (syntax.Named [] (name (codes "w") (at 13 2)) (suffixes [])) syntax.no_initializer ∷ []))) ∷ syntax.FunctionDefinition (specs (syntax.TypeSpec type.Void (at 16 4) ∷ [])) (syntax.Named [] (name (codes "g") (at 21 5)) (suffixes (syntax.FunctionSuffix (parameters (syntax.parameter (specs (syntax.TypeSpec type.Void (at 23 7) ∷ [])) (syntax.Unnamed [] (suffixes [])) (at 23 7) ∷ [])) false (at 22 6) ∷ []))) (syntax.block (block_items (syntax.StatementItem (syntax.ExpressionStatement (syntax.an_expr (syntax.Assign (syntax.Identifier (name (codes "w") (at 31 10))) (syntax.Constant (pos 1) basic.Int (at 35 12)) (at 33 11))) (span (at 31 10) (at 36 13))) ∷ [])) (span (at 29 9) (at 38 14))) ∷ [])

-- extern void w; void g(void) { sizeof w; }
abbrev pub objects_of_type_void_5 : List syntax.External
objects_of_type_void_5 = (syntax.ExternalDeclaration (syntax.SimpleDeclaration (specs (syntax.StorageSpec storage.Extern (at 1 0) ∷ syntax.TypeSpec type.Void (at 8 1) ∷ [])) (declared (syntax.init_declarator (syntax.Named [] (name (codes "w") (at 13 2)) (suffixes [])) syntax.no_initializer ∷ []))) ∷ syntax.FunctionDefinition (specs (syntax.TypeSpec type.Void (at 16 4) ∷ [])) (syntax.Named [] (name (codes "g") (at 21 5)) (suffixes (syntax.FunctionSuffix (parameters (syntax.parameter (specs (syntax.TypeSpec type.Void (at 23 7) ∷ [])) (syntax.Unnamed [] (suffixes [])) (at 23 7) ∷ [])) false (at 22 6) ∷ []))) (syntax.block (block_items (syntax.StatementItem (syntax.ExpressionStatement (syntax.an_expr (syntax.SizeofExpr (syntax.Identifier (name (codes "w") (at 38 11))) (at 31 10))) (span (at 31 10) (at 39 12))) ∷ [])) (span (at 29 9) (at 41 13))) ∷ [])

-- static void w;
abbrev pub objects_of_type_void_6 : List syntax.External
objects_of_type_void_6 = (syntax.ExternalDeclaration (syntax.SimpleDeclaration (specs (syntax.StorageSpec storage.Static (at 1 0) ∷ syntax.TypeSpec type.Void (at 8 1) ∷ [])) (declared (syntax.init_declarator (syntax.Named [] (name (codes "w") (at 13 2)) (suffixes [])) syntax.no_initializer ∷ []))) ∷ [])
