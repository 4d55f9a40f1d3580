-- C27: specifiers do not combine: units of one line, as trees.
use Rattle.std.specs.Prelude.{List, [], ◌∷◌, Some, None, false, pos, codes}
use Rattle.model_grammar.specs.SyntaxForms as syntax
use Rattle.model_types.specs.declared.numbers.Basic.TheVariants as basic
use Rattle.model_grammar.specs.declared.syntax.StorageWord.TheVariants as storage
use Rattle.model_grammar.specs.declared.syntax.TypeWord.TheVariants as type
use Rattle.model_grammar.specs.declared.syntax.QualifierWord.TheVariants as qual
use Rattle.checking_units.specs.Parts.{at, name, specs, qualifier, pointer, suffixes, parameters, members, enumerators, declared, block_items, span}

-- enum : struct s { A };
abbrev pub c27_1 : List syntax.External
c27_1 = (syntax.ExternalDeclaration (syntax.SimpleDeclaration (specs (syntax.Enum None (syntax.some_specs (specs (syntax.StructTag (name (codes "s") (at 15 3)) (at 8 2) ∷ []))) (enumerators (syntax.enumerator (name (codes "A") (at 19 5)) syntax.no_expr ∷ [])) (at 1 0) ∷ [])) (declared [])) ∷ [])

-- typedef int *P; enum : P { A };
abbrev pub c27_2 : List syntax.External
c27_2 = (syntax.ExternalDeclaration (syntax.SimpleDeclaration (specs (syntax.StorageSpec storage.Typedef (at 1 0) ∷ syntax.TypeSpec type.Int (at 9 1) ∷ [])) (declared (syntax.init_declarator (syntax.Named (pointer (at 13 2) [] ∷ []) (name (codes "P") (at 14 3)) (suffixes [])) syntax.no_initializer ∷ []))) ∷ syntax.ExternalDeclaration (syntax.SimpleDeclaration (specs (syntax.Enum None (syntax.some_specs (specs (syntax.TypedefName (name (codes "P") (at 24 7)) ∷ []))) (enumerators (syntax.enumerator (name (codes "A") (at 28 9)) syntax.no_expr ∷ [])) (at 17 5) ∷ [])) (declared [])) ∷ [])

-- enum : void { A };
abbrev pub c27_3 : List syntax.External
c27_3 = (syntax.ExternalDeclaration (syntax.SimpleDeclaration (specs (syntax.Enum None (syntax.some_specs (specs (syntax.TypeSpec type.Void (at 8 2) ∷ []))) (enumerators (syntax.enumerator (name (codes "A") (at 15 4)) syntax.no_expr ∷ [])) (at 1 0) ∷ [])) (declared [])) ∷ [])

-- short long x;
abbrev pub c27_4 : List syntax.External
c27_4 = (syntax.ExternalDeclaration (syntax.SimpleDeclaration (specs (syntax.TypeSpec type.Short (at 1 0) ∷ syntax.TypeSpec type.Long (at 7 1) ∷ [])) (declared (syntax.init_declarator (syntax.Named [] (name (codes "x") (at 12 2)) (suffixes [])) syntax.no_initializer ∷ []))) ∷ [])

-- long long long x;
abbrev pub c27_5 : List syntax.External
c27_5 = (syntax.ExternalDeclaration (syntax.SimpleDeclaration (specs (syntax.TypeSpec type.Long (at 1 0) ∷ syntax.TypeSpec type.Long (at 6 1) ∷ syntax.TypeSpec type.Long (at 11 2) ∷ [])) (declared (syntax.init_declarator (syntax.Named [] (name (codes "x") (at 16 3)) (suffixes [])) syntax.no_initializer ∷ []))) ∷ [])

-- signed int unsigned x;
abbrev pub c27_6 : List syntax.External
c27_6 = (syntax.ExternalDeclaration (syntax.SimpleDeclaration (specs (syntax.TypeSpec type.Signed (at 1 0) ∷ syntax.TypeSpec type.Int (at 8 1) ∷ syntax.TypeSpec type.Unsigned (at 12 2) ∷ [])) (declared (syntax.init_declarator (syntax.Named [] (name (codes "x") (at 21 3)) (suffixes [])) syntax.no_initializer ∷ []))) ∷ [])

-- char int x;
abbrev pub c27_7 : List syntax.External
c27_7 = (syntax.ExternalDeclaration (syntax.SimpleDeclaration (specs (syntax.TypeSpec type.Char (at 1 0) ∷ syntax.TypeSpec type.Int (at 6 1) ∷ [])) (declared (syntax.init_declarator (syntax.Named [] (name (codes "x") (at 10 2)) (suffixes [])) syntax.no_initializer ∷ []))) ∷ [])

-- void int f(void);
abbrev pub c27_8 : List syntax.External
c27_8 = (syntax.ExternalDeclaration (syntax.SimpleDeclaration (specs (syntax.TypeSpec type.Void (at 1 0) ∷ syntax.TypeSpec type.Int (at 6 1) ∷ [])) (declared (syntax.init_declarator (syntax.Named [] (name (codes "f") (at 10 2)) (suffixes (syntax.FunctionSuffix (parameters (syntax.parameter (specs (syntax.TypeSpec type.Void (at 12 4) ∷ [])) (syntax.Unnamed [] (suffixes [])) (at 12 4) ∷ [])) false (at 11 3) ∷ []))) syntax.no_initializer ∷ []))) ∷ [])

-- unsigned bool x;
abbrev pub c27_9 : List syntax.External
c27_9 = (syntax.ExternalDeclaration (syntax.SimpleDeclaration (specs (syntax.TypeSpec type.Unsigned (at 1 0) ∷ syntax.TypeSpec type.Bool (at 10 1) ∷ [])) (declared (syntax.init_declarator (syntax.Named [] (name (codes "x") (at 15 2)) (suffixes [])) syntax.no_initializer ∷ []))) ∷ [])

-- typedef int T; T int x;
abbrev pub c27_10 : List syntax.External
c27_10 = (syntax.ExternalDeclaration (syntax.SimpleDeclaration (specs (syntax.StorageSpec storage.Typedef (at 1 0) ∷ syntax.TypeSpec type.Int (at 9 1) ∷ [])) (declared (syntax.init_declarator (syntax.Named [] (name (codes "T") (at 13 2)) (suffixes [])) syntax.no_initializer ∷ []))) ∷ syntax.ExternalDeclaration (syntax.SimpleDeclaration (specs (syntax.TypedefName (name (codes "T") (at 16 4)) ∷ syntax.TypeSpec type.Int (at 18 5) ∷ [])) (declared (syntax.init_declarator (syntax.Named [] (name (codes "x") (at 22 6)) (suffixes [])) syntax.no_initializer ∷ []))) ∷ [])

-- int struct s { int a; } x;
abbrev pub c27_11 : List syntax.External
c27_11 = (syntax.ExternalDeclaration (syntax.SimpleDeclaration (specs (syntax.TypeSpec type.Int (at 1 0) ∷ syntax.Struct (Some (name (codes "s") (at 12 2))) (members (syntax.MemberDeclarators (specs (syntax.TypeSpec type.Int (at 16 4) ∷ [])) (syntax.declarators ((syntax.Named [] (name (codes "a") (at 20 5)) (suffixes [])) ∷ [])) ∷ [])) (at 5 1) ∷ [])) (declared (syntax.init_declarator (syntax.Named [] (name (codes "x") (at 25 8)) (suffixes [])) syntax.no_initializer ∷ []))) ∷ [])

-- struct s { int a; } int x;
abbrev pub c27_12 : List syntax.External
c27_12 = (syntax.ExternalDeclaration (syntax.SimpleDeclaration (specs (syntax.Struct (Some (name (codes "s") (at 8 1))) (members (syntax.MemberDeclarators (specs (syntax.TypeSpec type.Int (at 12 3) ∷ [])) (syntax.declarators ((syntax.Named [] (name (codes "a") (at 16 4)) (suffixes [])) ∷ [])) ∷ [])) (at 1 0) ∷ syntax.TypeSpec type.Int (at 21 7) ∷ [])) (declared (syntax.init_declarator (syntax.Named [] (name (codes "x") (at 25 8)) (suffixes [])) syntax.no_initializer ∷ []))) ∷ [])

-- int char long x;
abbrev pub c27_13 : List syntax.External
c27_13 = (syntax.ExternalDeclaration (syntax.SimpleDeclaration (specs (syntax.TypeSpec type.Int (at 1 0) ∷ syntax.TypeSpec type.Char (at 5 1) ∷ syntax.TypeSpec type.Long (at 10 2) ∷ [])) (declared (syntax.init_declarator (syntax.Named [] (name (codes "x") (at 15 3)) (suffixes [])) syntax.no_initializer ∷ []))) ∷ [])

-- static static int x;
abbrev pub c27_14 : List syntax.External
c27_14 = (syntax.ExternalDeclaration (syntax.SimpleDeclaration (specs (syntax.StorageSpec storage.Static (at 1 0) ∷ syntax.StorageSpec storage.Static (at 8 1) ∷ syntax.TypeSpec type.Int (at 15 2) ∷ [])) (declared (syntax.init_declarator (syntax.Named [] (name (codes "x") (at 19 3)) (suffixes [])) syntax.no_initializer ∷ []))) ∷ [])

-- static extern int x;
abbrev pub c27_15 : List syntax.External
c27_15 = (syntax.ExternalDeclaration (syntax.SimpleDeclaration (specs (syntax.StorageSpec storage.Static (at 1 0) ∷ syntax.StorageSpec storage.Extern (at 8 1) ∷ syntax.TypeSpec type.Int (at 15 2) ∷ [])) (declared (syntax.init_declarator (syntax.Named [] (name (codes "x") (at 19 3)) (suffixes [])) syntax.no_initializer ∷ []))) ∷ [])

-- typedef auto x;
abbrev pub c27_16 : List syntax.External
c27_16 = (syntax.ExternalDeclaration (syntax.SimpleDeclaration (specs (syntax.StorageSpec storage.Typedef (at 1 0) ∷ syntax.StorageSpec storage.Auto (at 9 1) ∷ [])) (declared (syntax.init_declarator (syntax.Named [] (name (codes "x") (at 14 2)) (suffixes [])) syntax.no_initializer ∷ []))) ∷ [])

-- constexpr extern int x = 1;
abbrev pub c27_17 : List syntax.External
c27_17 = (syntax.ExternalDeclaration (syntax.SimpleDeclaration (specs (syntax.StorageSpec storage.Constexpr (at 1 0) ∷ syntax.StorageSpec storage.Extern (at 11 1) ∷ syntax.TypeSpec type.Int (at 18 2) ∷ [])) (declared (syntax.init_declarator (syntax.Named [] (name (codes "x") (at 22 3)) (suffixes [])) (syntax.an_initializer (syntax.Single (syntax.Constant (pos 1) basic.Int (at 26 5)))) ∷ []))) ∷ [])

-- void f(void) { static x = 1; }
abbrev pub c27_18 : List syntax.External
c27_18 = (syntax.FunctionDefinition (specs (syntax.TypeSpec type.Void (at 1 0) ∷ [])) (syntax.Named [] (name (codes "f") (at 6 1)) (suffixes (syntax.FunctionSuffix (parameters (syntax.parameter (specs (syntax.TypeSpec type.Void (at 8 3) ∷ [])) (syntax.Unnamed [] (suffixes [])) (at 8 3) ∷ [])) false (at 7 2) ∷ []))) (syntax.block (block_items (syntax.DeclarationItem (syntax.SimpleDeclaration (specs (syntax.StorageSpec storage.Static (at 16 6) ∷ [])) (declared (syntax.init_declarator (syntax.Named [] (name (codes "x") (at 23 7)) (suffixes [])) (syntax.an_initializer (syntax.Single (syntax.Constant (pos 1) basic.Int (at 27 9)))) ∷ []))) ∷ [])) (span (at 14 5) (at 30 11))) ∷ [])

-- const x = 1;
abbrev pub c27_19 : List syntax.External
c27_19 = (syntax.ExternalDeclaration (syntax.SimpleDeclaration (specs (syntax.QualifierSpec (qualifier qual.Const (at 1 0)) ∷ [])) (declared (syntax.init_declarator (syntax.Named [] (name (codes "x") (at 7 1)) (suffixes [])) (syntax.an_initializer (syntax.Single (syntax.Constant (pos 1) basic.Int (at 11 3)))) ∷ []))) ∷ [])

-- void f(void) { static static x = 1; }
abbrev pub c27_20 : List syntax.External
c27_20 = (syntax.FunctionDefinition (specs (syntax.TypeSpec type.Void (at 1 0) ∷ [])) (syntax.Named [] (name (codes "f") (at 6 1)) (suffixes (syntax.FunctionSuffix (parameters (syntax.parameter (specs (syntax.TypeSpec type.Void (at 8 3) ∷ [])) (syntax.Unnamed [] (suffixes [])) (at 8 3) ∷ [])) false (at 7 2) ∷ []))) (syntax.block (block_items (syntax.DeclarationItem (syntax.SimpleDeclaration (specs (syntax.StorageSpec storage.Static (at 16 6) ∷ syntax.StorageSpec storage.Static (at 23 7) ∷ [])) (declared (syntax.init_declarator (syntax.Named [] (name (codes "x") (at 30 8)) (suffixes [])) (syntax.an_initializer (syntax.Single (syntax.Constant (pos 1) basic.Int (at 34 10)))) ∷ []))) ∷ [])) (span (at 14 5) (at 37 12))) ∷ [])

-- void f(void) { for (static i = 0; ; ) ; }
abbrev pub c27_21 : List syntax.External
c27_21 = (syntax.FunctionDefinition (specs (syntax.TypeSpec type.Void (at 1 0) ∷ [])) (syntax.Named [] (name (codes "f") (at 6 1)) (suffixes (syntax.FunctionSuffix (parameters (syntax.parameter (specs (syntax.TypeSpec type.Void (at 8 3) ∷ [])) (syntax.Unnamed [] (suffixes [])) (at 8 3) ∷ [])) false (at 7 2) ∷ []))) (syntax.block (block_items (syntax.StatementItem (syntax.ForDeclaration (syntax.SimpleDeclaration (specs (syntax.StorageSpec storage.Static (at 21 8) ∷ [])) (declared (syntax.init_declarator (syntax.Named [] (name (codes "i") (at 28 9)) (suffixes [])) (syntax.an_initializer (syntax.Single (syntax.Constant (pos 0) basic.Int (at 32 11)))) ∷ []))) syntax.no_expr syntax.no_expr (syntax.ExpressionStatement syntax.no_expr (span (at 39 15) (at 39 15))) (span (at 16 6) (at 39 15))) ∷ [])) (span (at 14 5) (at 41 16))) ∷ [])

-- _Owner int char x;
abbrev pub c27_22 : List syntax.External
c27_22 = (syntax.ExternalDeclaration (syntax.SimpleDeclaration (specs (syntax.QualifierSpec (qualifier qual.Owner (at 1 0)) ∷ syntax.TypeSpec type.Int (at 8 1) ∷ syntax.TypeSpec type.Char (at 12 2) ∷ [])) (declared (syntax.init_declarator (syntax.Named [] (name (codes "x") (at 17 3)) (suffixes [])) syntax.no_initializer ∷ []))) ∷ [])

-- void g(void) { static x = 1; }
abbrev pub c27_23 : List syntax.External
c27_23 = (syntax.FunctionDefinition (specs (syntax.TypeSpec type.Void (at 1 0) ∷ [])) (syntax.Named [] (name (codes "g") (at 6 1)) (suffixes (syntax.FunctionSuffix (parameters (syntax.parameter (specs (syntax.TypeSpec type.Void (at 8 3) ∷ [])) (syntax.Unnamed [] (suffixes [])) (at 8 3) ∷ [])) false (at 7 2) ∷ []))) (syntax.block (block_items (syntax.DeclarationItem (syntax.SimpleDeclaration (specs (syntax.StorageSpec storage.Static (at 16 6) ∷ [])) (declared (syntax.init_declarator (syntax.Named [] (name (codes "x") (at 23 7)) (suffixes [])) (syntax.an_initializer (syntax.Single (syntax.Constant (pos 1) basic.Int (at 27 9)))) ∷ []))) ∷ [])) (span (at 14 5) (at 30 11))) ∷ [])
