-- C29: ownership qualifier is misplaced: units of one line, as trees.
use Rattle.std.specs.Prelude.{List, [], ◌∷◌, Some, false, pos, codes}
use Rattle.model_grammar.specs.SyntaxForms as syntax
use Rattle.model_types.specs.declared.numbers.Basic.TheVariants as basic
use Rattle.model_grammar.specs.declared.syntax.StorageWord.TheVariants as storage
use Rattle.model_grammar.specs.declared.syntax.TypeWord.TheVariants as type
use Rattle.model_grammar.specs.declared.syntax.QualifierWord.TheVariants as qual
use Rattle.checking_units.specs.Parts.{at, name, specs, qualifier, pointer, suffixes, parameters, members, declared, block_items, span}

-- _Owner int x;
abbrev pub c29_1 : List syntax.External
c29_1 = (syntax.ExternalDeclaration (syntax.SimpleDeclaration (specs (syntax.QualifierSpec (qualifier qual.Owner (at 1 0)) ∷ syntax.TypeSpec type.Int (at 8 1) ∷ [])) (declared (syntax.init_declarator (syntax.Named [] (name (codes "x") (at 12 2)) (suffixes [])) syntax.no_initializer ∷ []))) ∷ [])

-- int _Opt x;
abbrev pub c29_2 : List syntax.External
c29_2 = (syntax.ExternalDeclaration (syntax.SimpleDeclaration (specs (syntax.TypeSpec type.Int (at 1 0) ∷ syntax.QualifierSpec (qualifier qual.Opt (at 5 1)) ∷ [])) (declared (syntax.init_declarator (syntax.Named [] (name (codes "x") (at 10 2)) (suffixes [])) syntax.no_initializer ∷ []))) ∷ [])

-- _Owner struct s { int a; int a; } x;
abbrev pub c29_3 : List syntax.External
c29_3 = (syntax.ExternalDeclaration (syntax.SimpleDeclaration (specs (syntax.QualifierSpec (qualifier qual.Owner (at 1 0)) ∷ syntax.Struct (Some (name (codes "s") (at 15 2))) (members (syntax.MemberDeclarators (specs (syntax.TypeSpec type.Int (at 19 4) ∷ [])) (syntax.declarators ((syntax.Named [] (name (codes "a") (at 23 5)) (suffixes [])) ∷ [])) ∷ syntax.MemberDeclarators (specs (syntax.TypeSpec type.Int (at 26 7) ∷ [])) (syntax.declarators ((syntax.Named [] (name (codes "a") (at 30 8)) (suffixes [])) ∷ [])) ∷ [])) (at 8 1) ∷ [])) (declared (syntax.init_declarator (syntax.Named [] (name (codes "x") (at 35 11)) (suffixes [])) syntax.no_initializer ∷ []))) ∷ [])

-- typedef char *P; _Owner _View P x;
abbrev pub c29_4 : List syntax.External
c29_4 = (syntax.ExternalDeclaration (syntax.SimpleDeclaration (specs (syntax.StorageSpec storage.Typedef (at 1 0) ∷ syntax.TypeSpec type.Char (at 9 1) ∷ [])) (declared (syntax.init_declarator (syntax.Named (pointer (at 14 2) [] ∷ []) (name (codes "P") (at 15 3)) (suffixes [])) syntax.no_initializer ∷ []))) ∷ syntax.ExternalDeclaration (syntax.SimpleDeclaration (specs (syntax.QualifierSpec (qualifier qual.Owner (at 18 5)) ∷ syntax.QualifierSpec (qualifier qual.View (at 25 6)) ∷ syntax.TypedefName (name (codes "P") (at 31 7)) ∷ [])) (declared (syntax.init_declarator (syntax.Named [] (name (codes "x") (at 33 8)) (suffixes [])) syntax.no_initializer ∷ []))) ∷ [])

-- typedef char * _Owner P; extern _View P x;
abbrev pub c29_5 : List syntax.External
c29_5 = (syntax.ExternalDeclaration (syntax.SimpleDeclaration (specs (syntax.StorageSpec storage.Typedef (at 1 0) ∷ syntax.TypeSpec type.Char (at 9 1) ∷ [])) (declared (syntax.init_declarator (syntax.Named (pointer (at 14 2) ((qualifier qual.Owner (at 16 3)) ∷ []) ∷ []) (name (codes "P") (at 23 4)) (suffixes [])) syntax.no_initializer ∷ []))) ∷ syntax.ExternalDeclaration (syntax.SimpleDeclaration (specs (syntax.StorageSpec storage.Extern (at 26 6) ∷ syntax.QualifierSpec (qualifier qual.View (at 33 7)) ∷ syntax.TypedefName (name (codes "P") (at 39 8)) ∷ [])) (declared (syntax.init_declarator (syntax.Named [] (name (codes "x") (at 41 9)) (suffixes [])) syntax.no_initializer ∷ []))) ∷ [])

-- typedef int A[2]; extern _Owner A x;
abbrev pub c29_6 : List syntax.External
c29_6 = (syntax.ExternalDeclaration (syntax.SimpleDeclaration (specs (syntax.StorageSpec storage.Typedef (at 1 0) ∷ syntax.TypeSpec type.Int (at 9 1) ∷ [])) (declared (syntax.init_declarator (syntax.Named [] (name (codes "A") (at 13 2)) (suffixes (syntax.ArraySuffix (syntax.an_expr (syntax.Constant (pos 2) basic.Int (at 15 4))) (at 14 3) ∷ []))) syntax.no_initializer ∷ []))) ∷ syntax.ExternalDeclaration (syntax.SimpleDeclaration (specs (syntax.StorageSpec storage.Extern (at 19 7) ∷ syntax.QualifierSpec (qualifier qual.Owner (at 26 8)) ∷ syntax.TypedefName (name (codes "A") (at 33 9)) ∷ [])) (declared (syntax.init_declarator (syntax.Named [] (name (codes "x") (at 35 10)) (suffixes [])) syntax.no_initializer ∷ []))) ∷ [])

-- extern int (* _Owner p)(void);
abbrev pub c29_7 : List syntax.External
c29_7 = (syntax.ExternalDeclaration (syntax.SimpleDeclaration (specs (syntax.StorageSpec storage.Extern (at 1 0) ∷ syntax.TypeSpec type.Int (at 8 1) ∷ [])) (declared (syntax.init_declarator (syntax.Grouped [] (syntax.Named (pointer (at 13 3) ((qualifier qual.Owner (at 15 4)) ∷ []) ∷ []) (name (codes "p") (at 22 5)) (suffixes [])) (suffixes (syntax.FunctionSuffix (parameters (syntax.parameter (specs (syntax.TypeSpec type.Void (at 25 8) ∷ [])) (syntax.Unnamed [] (suffixes [])) (at 25 8) ∷ [])) false (at 24 7) ∷ [])) (at 12 2)) syntax.no_initializer ∷ []))) ∷ [])

-- extern char * _View _Owner p;
abbrev pub c29_8 : List syntax.External
c29_8 = (syntax.ExternalDeclaration (syntax.SimpleDeclaration (specs (syntax.StorageSpec storage.Extern (at 1 0) ∷ syntax.TypeSpec type.Char (at 8 1) ∷ [])) (declared (syntax.init_declarator (syntax.Named (pointer (at 13 2) ((qualifier qual.View (at 15 3)) ∷ (qualifier qual.Owner (at 21 4)) ∷ []) ∷ []) (name (codes "p") (at 28 5)) (suffixes [])) syntax.no_initializer ∷ []))) ∷ [])

-- extern const _Opt int _Owner x;
abbrev pub c29_9 : List syntax.External
c29_9 = (syntax.ExternalDeclaration (syntax.SimpleDeclaration (specs (syntax.StorageSpec storage.Extern (at 1 0) ∷ syntax.QualifierSpec (qualifier qual.Const (at 8 1)) ∷ syntax.QualifierSpec (qualifier qual.Opt (at 14 2)) ∷ syntax.TypeSpec type.Int (at 19 3) ∷ syntax.QualifierSpec (qualifier qual.Owner (at 23 4)) ∷ [])) (declared (syntax.init_declarator (syntax.Named [] (name (codes "x") (at 30 5)) (suffixes [])) syntax.no_initializer ∷ []))) ∷ [])

-- typedef int F(void); extern _Owner F f;
abbrev pub c29_10 : List syntax.External
c29_10 = (syntax.ExternalDeclaration (syntax.SimpleDeclaration (specs (syntax.StorageSpec storage.Typedef (at 1 0) ∷ syntax.TypeSpec type.Int (at 9 1) ∷ [])) (declared (syntax.init_declarator (syntax.Named [] (name (codes "F") (at 13 2)) (suffixes (syntax.FunctionSuffix (parameters (syntax.parameter (specs (syntax.TypeSpec type.Void (at 15 4) ∷ [])) (syntax.Unnamed [] (suffixes [])) (at 15 4) ∷ [])) false (at 14 3) ∷ []))) syntax.no_initializer ∷ []))) ∷ syntax.ExternalDeclaration (syntax.SimpleDeclaration (specs (syntax.StorageSpec storage.Extern (at 22 7) ∷ syntax.QualifierSpec (qualifier qual.Owner (at 29 8)) ∷ syntax.TypedefName (name (codes "F") (at 36 9)) ∷ [])) (declared (syntax.init_declarator (syntax.Named [] (name (codes "f") (at 38 10)) (suffixes [])) syntax.no_initializer ∷ []))) ∷ [])

-- _Owner static static int x;
abbrev pub c29_11 : List syntax.External
c29_11 = (syntax.ExternalDeclaration (syntax.SimpleDeclaration (specs (syntax.QualifierSpec (qualifier qual.Owner (at 1 0)) ∷ syntax.StorageSpec storage.Static (at 8 1) ∷ syntax.StorageSpec storage.Static (at 15 2) ∷ syntax.TypeSpec type.Int (at 22 3) ∷ [])) (declared (syntax.init_declarator (syntax.Named [] (name (codes "x") (at 26 4)) (suffixes [])) syntax.no_initializer ∷ []))) ∷ [])

-- void f(void) { _Owner auto p = 1; }
abbrev pub c29_12 : List syntax.External
c29_12 = (syntax.FunctionDefinition (specs (syntax.TypeSpec type.Void (at 1 0) ∷ [])) (syntax.Named [] (name (codes "f") (at 6 1)) (suffixes (syntax.FunctionSuffix (parameters (syntax.parameter (specs (syntax.TypeSpec type.Void (at 8 3) ∷ [])) (syntax.Unnamed [] (suffixes [])) (at 8 3) ∷ [])) false (at 7 2) ∷ []))) (syntax.block (block_items (syntax.DeclarationItem (syntax.SimpleDeclaration (specs (syntax.QualifierSpec (qualifier qual.Owner (at 16 6)) ∷ syntax.StorageSpec storage.Auto (at 23 7) ∷ [])) (declared (syntax.init_declarator (syntax.Named [] (name (codes "p") (at 28 8)) (suffixes [])) (syntax.an_initializer (syntax.Single (syntax.Constant (pos 1) basic.Int (at 32 10)))) ∷ []))) ∷ [])) (span (at 14 5) (at 35 12))) ∷ [])

-- int (* _Owner f)(void);
abbrev pub c29_13 : List syntax.External
c29_13 = (syntax.ExternalDeclaration (syntax.SimpleDeclaration (specs (syntax.TypeSpec type.Int (at 1 0) ∷ [])) (declared (syntax.init_declarator (syntax.Grouped [] (syntax.Named (pointer (at 6 2) ((qualifier qual.Owner (at 8 3)) ∷ []) ∷ []) (name (codes "f") (at 15 4)) (suffixes [])) (suffixes (syntax.FunctionSuffix (parameters (syntax.parameter (specs (syntax.TypeSpec type.Void (at 18 7) ∷ [])) (syntax.Unnamed [] (suffixes [])) (at 18 7) ∷ [])) false (at 17 6) ∷ [])) (at 5 1)) syntax.no_initializer ∷ []))) ∷ [])

-- int _Owner x;
abbrev pub c29_14 : List syntax.External
c29_14 = (syntax.ExternalDeclaration (syntax.SimpleDeclaration (specs (syntax.TypeSpec type.Int (at 1 0) ∷ syntax.QualifierSpec (qualifier qual.Owner (at 5 1)) ∷ [])) (declared (syntax.init_declarator (syntax.Named [] (name (codes "x") (at 12 2)) (suffixes [])) syntax.no_initializer ∷ []))) ∷ [])

-- int * _Owner _View x;
abbrev pub c29_15 : List syntax.External
c29_15 = (syntax.ExternalDeclaration (syntax.SimpleDeclaration (specs (syntax.TypeSpec type.Int (at 1 0) ∷ [])) (declared (syntax.init_declarator (syntax.Named (pointer (at 5 1) ((qualifier qual.Owner (at 7 2)) ∷ (qualifier qual.View (at 14 3)) ∷ []) ∷ []) (name (codes "x") (at 20 4)) (suffixes [])) syntax.no_initializer ∷ []))) ∷ [])
