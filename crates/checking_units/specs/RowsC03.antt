-- C03: redeclared with another type: units of one line, as trees.
use Rattle.std.specs.Prelude.{List, [], ◌∷◌, Some, false, pos, codes}
use Rattle.model_grammar.specs.SyntaxForms as syntax
use Rattle.model_types.specs.declared.numbers.Basic.TheVariants as basic
use Rattle.model_grammar.specs.declared.syntax.StorageWord.TheVariants as storage
use Rattle.model_grammar.specs.declared.syntax.TypeWord.TheVariants as type
use Rattle.checking_units.specs.Parts.{at, name, specs, pointer, suffixes, parameters, enumerators, declared, block_items, span}

-- int x; long x;
abbrev pub c03_1 : List syntax.External
c03_1 = (syntax.ExternalDeclaration (syntax.SimpleDeclaration (specs (syntax.TypeSpec type.Int (at 1 0) ∷ [])) (declared (syntax.init_declarator (syntax.Named [] (name (codes "x") (at 5 1)) (suffixes [])) syntax.no_initializer ∷ []))) ∷ syntax.ExternalDeclaration (syntax.SimpleDeclaration (specs (syntax.TypeSpec type.Long (at 8 3) ∷ [])) (declared (syntax.init_declarator (syntax.Named [] (name (codes "x") (at 13 4)) (suffixes [])) syntax.no_initializer ∷ []))) ∷ [])

-- void f(void) { extern int x; } long x;
abbrev pub c03_2 : List syntax.External
c03_2 = (syntax.FunctionDefinition (specs (syntax.TypeSpec type.Void (at 1 0) ∷ [])) (syntax.Named [] (name (codes "f") (at 6 1)) (suffixes (syntax.FunctionSuffix (parameters (syntax.parameter (specs (syntax.TypeSpec type.Void (at 8 3) ∷ [])) (syntax.Unnamed [] (suffixes [])) (at 8 3) ∷ [])) false (at 7 2) ∷ []))) (syntax.block (block_items (syntax.DeclarationItem (syntax.SimpleDeclaration (specs (syntax.StorageSpec storage.Extern (at 16 6) ∷ syntax.TypeSpec type.Int (at 23 7) ∷ [])) (declared (syntax.init_declarator (syntax.Named [] (name (codes "x") (at 27 8)) (suffixes [])) syntax.no_initializer ∷ []))) ∷ [])) (span (at 14 5) (at 30 10))) ∷ syntax.ExternalDeclaration (syntax.SimpleDeclaration (specs (syntax.TypeSpec type.Long (at 32 11) ∷ [])) (declared (syntax.init_declarator (syntax.Named [] (name (codes "x") (at 37 12)) (suffixes [])) syntax.no_initializer ∷ []))) ∷ [])

-- int f(int a); int f(long a);
abbrev pub c03_3 : List syntax.External
c03_3 = (syntax.ExternalDeclaration (syntax.SimpleDeclaration (specs (syntax.TypeSpec type.Int (at 1 0) ∷ [])) (declared (syntax.init_declarator (syntax.Named [] (name (codes "f") (at 5 1)) (suffixes (syntax.FunctionSuffix (parameters (syntax.parameter (specs (syntax.TypeSpec type.Int (at 7 3) ∷ [])) (syntax.Named [] (name (codes "a") (at 11 4)) (suffixes [])) (at 7 3) ∷ [])) false (at 6 2) ∷ []))) syntax.no_initializer ∷ []))) ∷ syntax.ExternalDeclaration (syntax.SimpleDeclaration (specs (syntax.TypeSpec type.Int (at 15 7) ∷ [])) (declared (syntax.init_declarator (syntax.Named [] (name (codes "f") (at 19 8)) (suffixes (syntax.FunctionSuffix (parameters (syntax.parameter (specs (syntax.TypeSpec type.Long (at 21 10) ∷ [])) (syntax.Named [] (name (codes "a") (at 26 11)) (suffixes [])) (at 21 10) ∷ [])) false (at 20 9) ∷ []))) syntax.no_initializer ∷ []))) ∷ [])

-- typedef int T[]; typedef int T[3];
abbrev pub c03_4 : List syntax.External
c03_4 = (syntax.ExternalDeclaration (syntax.SimpleDeclaration (specs (syntax.StorageSpec storage.Typedef (at 1 0) ∷ syntax.TypeSpec type.Int (at 9 1) ∷ [])) (declared (syntax.init_declarator (syntax.Named [] (name (codes "T") (at 13 2)) (suffixes (syntax.ArraySuffix syntax.no_expr (at 14 3) ∷ []))) syntax.no_initializer ∷ []))) ∷ syntax.ExternalDeclaration (syntax.SimpleDeclaration (specs (syntax.StorageSpec storage.Typedef (at 18 6) ∷ syntax.TypeSpec type.Int (at 26 7) ∷ [])) (declared (syntax.init_declarator (syntax.Named [] (name (codes "T") (at 30 8)) (suffixes (syntax.ArraySuffix (syntax.an_expr (syntax.Constant (pos 3) basic.Int (at 32 10))) (at 31 9) ∷ []))) syntax.no_initializer ∷ []))) ∷ [])

-- enum e { A }; typedef int T; typedef enum e T;
abbrev pub c03_5 : List syntax.External
c03_5 = (syntax.ExternalDeclaration (syntax.SimpleDeclaration (specs (syntax.Enum (Some (name (codes "e") (at 6 1))) syntax.none_of_specs (enumerators (syntax.enumerator (name (codes "A") (at 10 3)) syntax.no_expr ∷ [])) (at 1 0) ∷ [])) (declared [])) ∷ syntax.ExternalDeclaration (syntax.SimpleDeclaration (specs (syntax.StorageSpec storage.Typedef (at 15 6) ∷ syntax.TypeSpec type.Int (at 23 7) ∷ [])) (declared (syntax.init_declarator (syntax.Named [] (name (codes "T") (at 27 8)) (suffixes [])) syntax.no_initializer ∷ []))) ∷ syntax.ExternalDeclaration (syntax.SimpleDeclaration (specs (syntax.StorageSpec storage.Typedef (at 30 10) ∷ syntax.EnumTag (name (codes "e") (at 43 12)) syntax.none_of_specs (at 38 11) ∷ [])) (declared (syntax.init_declarator (syntax.Named [] (name (codes "T") (at 45 13)) (suffixes [])) syntax.no_initializer ∷ []))) ∷ [])

-- int (*f(void))[]; int (*f(void))[3]; int (*f(void))[]; int (*f(void))[4];
abbrev pub c03_6 : List syntax.External
c03_6 = (syntax.ExternalDeclaration (syntax.SimpleDeclaration (specs (syntax.TypeSpec type.Int (at 1 0) ∷ [])) (declared (syntax.init_declarator (syntax.Grouped [] (syntax.Named (pointer (at 6 2) [] ∷ []) (name (codes "f") (at 7 3)) (suffixes (syntax.FunctionSuffix (parameters (syntax.parameter (specs (syntax.TypeSpec type.Void (at 9 5) ∷ [])) (syntax.Unnamed [] (suffixes [])) (at 9 5) ∷ [])) false (at 8 4) ∷ []))) (suffixes (syntax.ArraySuffix syntax.no_expr (at 15 8) ∷ [])) (at 5 1)) syntax.no_initializer ∷ []))) ∷ syntax.ExternalDeclaration (syntax.SimpleDeclaration (specs (syntax.TypeSpec type.Int (at 19 11) ∷ [])) (declared (syntax.init_declarator (syntax.Grouped [] (syntax.Named (pointer (at 24 13) [] ∷ []) (name (codes "f") (at 25 14)) (suffixes (syntax.FunctionSuffix (parameters (syntax.parameter (specs (syntax.TypeSpec type.Void (at 27 16) ∷ [])) (syntax.Unnamed [] (suffixes [])) (at 27 16) ∷ [])) false (at 26 15) ∷ []))) (suffixes (syntax.ArraySuffix (syntax.an_expr (syntax.Constant (pos 3) basic.Int (at 34 20))) (at 33 19) ∷ [])) (at 23 12)) syntax.no_initializer ∷ []))) ∷ syntax.ExternalDeclaration (syntax.SimpleDeclaration (specs (syntax.TypeSpec type.Int (at 38 23) ∷ [])) (declared (syntax.init_declarator (syntax.Grouped [] (syntax.Named (pointer (at 43 25) [] ∷ []) (name (codes "f") (at 44 26)) (suffixes (syntax.FunctionSuffix (parameters (syntax.parameter (specs (syntax.TypeSpec type.Void (at 46 28) ∷ [])) (syntax.Unnamed [] (suffixes [])) (at 46 28) ∷ [])) false (at 45 27) ∷ []))) (suffixes (syntax.ArraySuffix syntax.no_expr (at 52 31) ∷ [])) (at 42 24)) syntax.no_initializer ∷ []))) ∷ syntax.ExternalDeclaration (syntax.SimpleDeclaration (specs (syntax.TypeSpec type.Int (at 56 34) ∷ [])) (declared (syntax.init_declarator (syntax.Grouped [] (syntax.Named (pointer (at 61 36) [] ∷ []) (name (codes "f") (at 62 37)) (suffixes (syntax.FunctionSuffix (parameters (syntax.parameter (specs (syntax.TypeSpec type.Void (at 64 39) ∷ [])) (syntax.Unnamed [] (suffixes [])) (at 64 39) ∷ [])) false (at 63 38) ∷ []))) (suffixes (syntax.ArraySuffix (syntax.an_expr (syntax.Constant (pos 4) basic.Int (at 71 43))) (at 70 42) ∷ [])) (at 60 35)) syntax.no_initializer ∷ []))) ∷ [])

-- constexpr int x = 1; int x;
abbrev pub c03_7 : List syntax.External
c03_7 = (syntax.ExternalDeclaration (syntax.SimpleDeclaration (specs (syntax.StorageSpec storage.Constexpr (at 1 0) ∷ syntax.TypeSpec type.Int (at 11 1) ∷ [])) (declared (syntax.init_declarator (syntax.Named [] (name (codes "x") (at 15 2)) (suffixes [])) (syntax.an_initializer (syntax.Single (syntax.Constant (pos 1) basic.Int (at 19 4)))) ∷ []))) ∷ syntax.ExternalDeclaration (syntax.SimpleDeclaration (specs (syntax.TypeSpec type.Int (at 22 6) ∷ [])) (declared (syntax.init_declarator (syntax.Named [] (name (codes "x") (at 26 7)) (suffixes [])) syntax.no_initializer ∷ []))) ∷ [])

-- extern int x; auto x = 1L;
abbrev pub c03_8 : List syntax.External
c03_8 = (syntax.ExternalDeclaration (syntax.SimpleDeclaration (specs (syntax.StorageSpec storage.Extern (at 1 0) ∷ syntax.TypeSpec type.Int (at 8 1) ∷ [])) (declared (syntax.init_declarator (syntax.Named [] (name (codes "x") (at 12 2)) (suffixes [])) syntax.no_initializer ∷ []))) ∷ syntax.ExternalDeclaration (syntax.SimpleDeclaration (specs (syntax.StorageSpec storage.Auto (at 15 4) ∷ [])) (declared (syntax.init_declarator (syntax.Named [] (name (codes "x") (at 20 5)) (suffixes [])) (syntax.an_initializer (syntax.Single (syntax.Constant (pos 1) basic.Long (at 24 7)))) ∷ []))) ∷ [])

-- int f(int); int f(long);
abbrev pub c03_9 : List syntax.External
c03_9 = (syntax.ExternalDeclaration (syntax.SimpleDeclaration (specs (syntax.TypeSpec type.Int (at 1 0) ∷ [])) (declared (syntax.init_declarator (syntax.Named [] (name (codes "f") (at 5 1)) (suffixes (syntax.FunctionSuffix (parameters (syntax.parameter (specs (syntax.TypeSpec type.Int (at 7 3) ∷ [])) (syntax.Unnamed [] (suffixes [])) (at 7 3) ∷ [])) false (at 6 2) ∷ []))) syntax.no_initializer ∷ []))) ∷ syntax.ExternalDeclaration (syntax.SimpleDeclaration (specs (syntax.TypeSpec type.Int (at 13 6) ∷ [])) (declared (syntax.init_declarator (syntax.Named [] (name (codes "f") (at 17 7)) (suffixes (syntax.FunctionSuffix (parameters (syntax.parameter (specs (syntax.TypeSpec type.Long (at 19 9) ∷ [])) (syntax.Unnamed [] (suffixes [])) (at 19 9) ∷ [])) false (at 18 8) ∷ []))) syntax.no_initializer ∷ []))) ∷ [])
