-- C04: linkage of declarations disagrees: units of one line, as trees.
use Rattle.std.specs.Prelude.{List, [], ◌∷◌, false, pos, codes}
use Rattle.model_grammar.specs.SyntaxForms as syntax
use Rattle.model_types.specs.declared.numbers.Basic.TheVariants as basic
use Rattle.model_grammar.specs.declared.syntax.StorageWord.TheVariants as storage
use Rattle.model_grammar.specs.declared.syntax.TypeWord.TheVariants as type
use Rattle.model_grammar.specs.declared.syntax.QualifierWord.TheVariants as qual
use Rattle.checking_units.specs.Parts.{at, name, specs, qualifier, suffixes, parameters, declared, block_items, span}

-- int x; static int x;
abbrev pub c04_1 : List syntax.External
c04_1 = (syntax.ExternalDeclaration (syntax.SimpleDeclaration (specs (syntax.TypeSpec type.Int (at 1 0) ∷ [])) (declared (syntax.init_declarator (syntax.Named [] (name (codes "x") (at 5 1)) (suffixes [])) syntax.no_initializer ∷ []))) ∷ syntax.ExternalDeclaration (syntax.SimpleDeclaration (specs (syntax.StorageSpec storage.Static (at 8 3) ∷ syntax.TypeSpec type.Int (at 15 4) ∷ [])) (declared (syntax.init_declarator (syntax.Named [] (name (codes "x") (at 19 5)) (suffixes [])) syntax.no_initializer ∷ []))) ∷ [])

-- int f(void); static int f(void);
abbrev pub c04_2 : List syntax.External
c04_2 = (syntax.ExternalDeclaration (syntax.SimpleDeclaration (specs (syntax.TypeSpec type.Int (at 1 0) ∷ [])) (declared (syntax.init_declarator (syntax.Named [] (name (codes "f") (at 5 1)) (suffixes (syntax.FunctionSuffix (parameters (syntax.parameter (specs (syntax.TypeSpec type.Void (at 7 3) ∷ [])) (syntax.Unnamed [] (suffixes [])) (at 7 3) ∷ [])) false (at 6 2) ∷ []))) syntax.no_initializer ∷ []))) ∷ syntax.ExternalDeclaration (syntax.SimpleDeclaration (specs (syntax.StorageSpec storage.Static (at 14 6) ∷ syntax.TypeSpec type.Int (at 21 7) ∷ [])) (declared (syntax.init_declarator (syntax.Named [] (name (codes "f") (at 25 8)) (suffixes (syntax.FunctionSuffix (parameters (syntax.parameter (specs (syntax.TypeSpec type.Void (at 27 10) ∷ [])) (syntax.Unnamed [] (suffixes [])) (at 27 10) ∷ [])) false (at 26 9) ∷ []))) syntax.no_initializer ∷ []))) ∷ [])

-- static int x; void f(void) { int x; { extern int x; } }
abbrev pub c04_3 : List syntax.External
c04_3 = (syntax.ExternalDeclaration (syntax.SimpleDeclaration (specs (syntax.StorageSpec storage.Static (at 1 0) ∷ syntax.TypeSpec type.Int (at 8 1) ∷ [])) (declared (syntax.init_declarator (syntax.Named [] (name (codes "x") (at 12 2)) (suffixes [])) syntax.no_initializer ∷ []))) ∷ syntax.FunctionDefinition (specs (syntax.TypeSpec type.Void (at 15 4) ∷ [])) (syntax.Named [] (name (codes "f") (at 20 5)) (suffixes (syntax.FunctionSuffix (parameters (syntax.parameter (specs (syntax.TypeSpec type.Void (at 22 7) ∷ [])) (syntax.Unnamed [] (suffixes [])) (at 22 7) ∷ [])) false (at 21 6) ∷ []))) (syntax.block (block_items (syntax.DeclarationItem (syntax.SimpleDeclaration (specs (syntax.TypeSpec type.Int (at 30 10) ∷ [])) (declared (syntax.init_declarator (syntax.Named [] (name (codes "x") (at 34 11)) (suffixes [])) syntax.no_initializer ∷ []))) ∷ syntax.StatementItem (syntax.CompoundStatement (syntax.block (block_items (syntax.DeclarationItem (syntax.SimpleDeclaration (specs (syntax.StorageSpec storage.Extern (at 39 14) ∷ syntax.TypeSpec type.Int (at 46 15) ∷ [])) (declared (syntax.init_declarator (syntax.Named [] (name (codes "x") (at 50 16)) (suffixes [])) syntax.no_initializer ∷ []))) ∷ [])) (span (at 37 13) (at 53 18))) (span (at 37 13) (at 53 18))) ∷ [])) (span (at 28 9) (at 55 19))) ∷ [])

-- constexpr int x = 1; const int x;
abbrev pub c04_4 : List syntax.External
c04_4 = (syntax.ExternalDeclaration (syntax.SimpleDeclaration (specs (syntax.StorageSpec storage.Constexpr (at 1 0) ∷ syntax.TypeSpec type.Int (at 11 1) ∷ [])) (declared (syntax.init_declarator (syntax.Named [] (name (codes "x") (at 15 2)) (suffixes [])) (syntax.an_initializer (syntax.Single (syntax.Constant (pos 1) basic.Int (at 19 4)))) ∷ []))) ∷ syntax.ExternalDeclaration (syntax.SimpleDeclaration (specs (syntax.QualifierSpec (qualifier qual.Const (at 22 6)) ∷ syntax.TypeSpec type.Int (at 28 7) ∷ [])) (declared (syntax.init_declarator (syntax.Named [] (name (codes "x") (at 32 8)) (suffixes [])) syntax.no_initializer ∷ []))) ∷ [])

-- static int x[2]; extern int y; void f(void) { int x; { extern int x[n]; } }
abbrev pub c04_5 : List syntax.External
c04_5 = (syntax.ExternalDeclaration (syntax.SimpleDeclaration (specs (syntax.StorageSpec storage.Static (at 1 0) ∷ syntax.TypeSpec type.Int (at 8 1) ∷ [])) (declared (syntax.init_declarator (syntax.Named [] (name (codes "x") (at 12 2)) (suffixes (syntax.ArraySuffix (syntax.an_expr (syntax.Constant (pos 2) basic.Int (at 14 4))) (at 13 3) ∷ []))) syntax.no_initializer ∷ []))) ∷ syntax.ExternalDeclaration (syntax.SimpleDeclaration (specs (syntax.StorageSpec storage.Extern (at 18 7) ∷ syntax.TypeSpec type.Int (at 25 8) ∷ [])) (declared (syntax.init_declarator (syntax.Named [] (name (codes "y") (at 29 9)) (suffixes [])) syntax.no_initializer ∷ []))) ∷ syntax.FunctionDefinition (specs (syntax.TypeSpec type.Void (at 32 11) ∷ [])) (syntax.Named [] (name (codes "f") (at 37 12)) (suffixes (syntax.FunctionSuffix (parameters (syntax.parameter (specs (syntax.TypeSpec type.Void (at 39 14) ∷ [])) (syntax.Unnamed [] (suffixes [])) (at 39 14) ∷ [])) false (at 38 13) ∷ []))) (syntax.block (block_items (syntax.DeclarationItem (syntax.SimpleDeclaration (specs (syntax.TypeSpec type.Int (at 47 17) ∷ [])) (declared (syntax.init_declarator (syntax.Named [] (name (codes "x") (at 51 18)) (suffixes [])) syntax.no_initializer ∷ []))) ∷ syntax.StatementItem (syntax.CompoundStatement (syntax.block (block_items (syntax.DeclarationItem (syntax.SimpleDeclaration (specs (syntax.StorageSpec storage.Extern (at 56 21) ∷ syntax.TypeSpec type.Int (at 63 22) ∷ [])) (declared (syntax.init_declarator (syntax.Named [] (name (codes "x") (at 67 23)) (suffixes (syntax.ArraySuffix (syntax.an_expr (syntax.Identifier (name (codes "n") (at 69 25)))) (at 68 24) ∷ []))) syntax.no_initializer ∷ []))) ∷ [])) (span (at 54 20) (at 73 28))) (span (at 54 20) (at 73 28))) ∷ [])) (span (at 45 16) (at 75 29))) ∷ [])
