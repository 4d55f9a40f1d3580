-- C28: type is impossible: units of one line, as trees.
use Rattle.std.specs.Prelude.{List, [], ◌∷◌, Some, None, true, false, pos, codes}
use Rattle.model_grammar.specs.SyntaxForms as syntax
use Rattle.model_types.specs.declared.numbers.Basic.TheVariants as basic
use Rattle.model_grammar.specs.declared.syntax.StorageWord.TheVariants as storage
use Rattle.model_grammar.specs.declared.syntax.TypeWord.TheVariants as type
use Rattle.model_grammar.specs.declared.syntax.QualifierWord.TheVariants as qual
use Rattle.checking_units.specs.Parts.{at, name, specs, qualifier, pointer, suffixes, parameters, members, enumerators, declared, block_items, span}

-- struct s { static_assert(1); };
abbrev pub c28_1 : List syntax.External
c28_1 = (syntax.ExternalDeclaration (syntax.SimpleDeclaration (specs (syntax.Struct (Some (name (codes "s") (at 8 1))) (members (syntax.MemberAssertion (syntax.asserted (syntax.Constant (pos 1) basic.Int (at 26 5)) None (at 12 3)) ∷ [])) (at 1 0) ∷ [])) (declared [])) ∷ [])

-- enum s { A }; struct s { static_assert(1); };
abbrev pub c28_2 : List syntax.External
c28_2 = (syntax.ExternalDeclaration (syntax.SimpleDeclaration (specs (syntax.Enum (Some (name (codes "s") (at 6 1))) syntax.none_of_specs (enumerators (syntax.enumerator (name (codes "A") (at 10 3)) syntax.no_expr ∷ [])) (at 1 0) ∷ [])) (declared [])) ∷ syntax.ExternalDeclaration (syntax.SimpleDeclaration (specs (syntax.Struct (Some (name (codes "s") (at 22 7))) (members (syntax.MemberAssertion (syntax.asserted (syntax.Constant (pos 1) basic.Int (at 40 11)) None (at 26 9)) ∷ [])) (at 15 6) ∷ [])) (declared [])) ∷ [])

-- int x[2](void);
abbrev pub c28_3 : List syntax.External
c28_3 = (syntax.ExternalDeclaration (syntax.SimpleDeclaration (specs (syntax.TypeSpec type.Int (at 1 0) ∷ [])) (declared (syntax.init_declarator (syntax.Named [] (name (codes "x") (at 5 1)) (suffixes (syntax.ArraySuffix (syntax.an_expr (syntax.Constant (pos 2) basic.Int (at 7 3))) (at 6 2) ∷ syntax.FunctionSuffix (parameters (syntax.parameter (specs (syntax.TypeSpec type.Void (at 10 6) ∷ [])) (syntax.Unnamed [] (suffixes [])) (at 10 6) ∷ [])) false (at 9 5) ∷ []))) syntax.no_initializer ∷ []))) ∷ [])

-- typedef int F(void); F x[2];
abbrev pub c28_4 : List syntax.External
c28_4 = (syntax.ExternalDeclaration (syntax.SimpleDeclaration (specs (syntax.StorageSpec storage.Typedef (at 1 0) ∷ syntax.TypeSpec type.Int (at 9 1) ∷ [])) (declared (syntax.init_declarator (syntax.Named [] (name (codes "F") (at 13 2)) (suffixes (syntax.FunctionSuffix (parameters (syntax.parameter (specs (syntax.TypeSpec type.Void (at 15 4) ∷ [])) (syntax.Unnamed [] (suffixes [])) (at 15 4) ∷ [])) false (at 14 3) ∷ []))) syntax.no_initializer ∷ []))) ∷ syntax.ExternalDeclaration (syntax.SimpleDeclaration (specs (syntax.TypedefName (name (codes "F") (at 22 7)) ∷ [])) (declared (syntax.init_declarator (syntax.Named [] (name (codes "x") (at 24 8)) (suffixes (syntax.ArraySuffix (syntax.an_expr (syntax.Constant (pos 2) basic.Int (at 26 10))) (at 25 9) ∷ []))) syntax.no_initializer ∷ []))) ∷ [])

-- int f(void)[2];
abbrev pub c28_5 : List syntax.External
c28_5 = (syntax.ExternalDeclaration (syntax.SimpleDeclaration (specs (syntax.TypeSpec type.Int (at 1 0) ∷ [])) (declared (syntax.init_declarator (syntax.Named [] (name (codes "f") (at 5 1)) (suffixes (syntax.FunctionSuffix (parameters (syntax.parameter (specs (syntax.TypeSpec type.Void (at 7 3) ∷ [])) (syntax.Unnamed [] (suffixes [])) (at 7 3) ∷ [])) false (at 6 2) ∷ syntax.ArraySuffix (syntax.an_expr (syntax.Constant (pos 2) basic.Int (at 13 6))) (at 12 5) ∷ []))) syntax.no_initializer ∷ []))) ∷ [])

-- int f(void)(void);
abbrev pub c28_6 : List syntax.External
c28_6 = (syntax.ExternalDeclaration (syntax.SimpleDeclaration (specs (syntax.TypeSpec type.Int (at 1 0) ∷ [])) (declared (syntax.init_declarator (syntax.Named [] (name (codes "f") (at 5 1)) (suffixes (syntax.FunctionSuffix (parameters (syntax.parameter (specs (syntax.TypeSpec type.Void (at 7 3) ∷ [])) (syntax.Unnamed [] (suffixes [])) (at 7 3) ∷ [])) false (at 6 2) ∷ syntax.FunctionSuffix (parameters (syntax.parameter (specs (syntax.TypeSpec type.Void (at 13 6) ∷ [])) (syntax.Unnamed [] (suffixes [])) (at 13 6) ∷ [])) false (at 12 5) ∷ []))) syntax.no_initializer ∷ []))) ∷ [])

-- int a[sizeof(int (*)(void)[2])];
abbrev pub c28_7 : List syntax.External
c28_7 = (syntax.ExternalDeclaration (syntax.SimpleDeclaration (specs (syntax.TypeSpec type.Int (at 1 0) ∷ [])) (declared (syntax.init_declarator (syntax.Named [] (name (codes "a") (at 5 1)) (suffixes (syntax.ArraySuffix (syntax.an_expr (syntax.SizeofType (syntax.type_name (specs (syntax.TypeSpec type.Int (at 14 5) ∷ [])) (syntax.Grouped [] (syntax.Unnamed (pointer (at 19 7) [] ∷ []) (suffixes [])) (suffixes (syntax.FunctionSuffix (parameters (syntax.parameter (specs (syntax.TypeSpec type.Void (at 22 10) ∷ [])) (syntax.Unnamed [] (suffixes [])) (at 22 10) ∷ [])) false (at 21 9) ∷ syntax.ArraySuffix (syntax.an_expr (syntax.Constant (pos 2) basic.Int (at 28 13))) (at 27 12) ∷ [])) (at 18 6))) (at 7 3))) (at 6 2) ∷ []))) syntax.no_initializer ∷ []))) ∷ [])

-- typedef int F(void); F x[n];
abbrev pub c28_8 : List syntax.External
c28_8 = (syntax.ExternalDeclaration (syntax.SimpleDeclaration (specs (syntax.StorageSpec storage.Typedef (at 1 0) ∷ syntax.TypeSpec type.Int (at 9 1) ∷ [])) (declared (syntax.init_declarator (syntax.Named [] (name (codes "F") (at 13 2)) (suffixes (syntax.FunctionSuffix (parameters (syntax.parameter (specs (syntax.TypeSpec type.Void (at 15 4) ∷ [])) (syntax.Unnamed [] (suffixes [])) (at 15 4) ∷ [])) false (at 14 3) ∷ []))) syntax.no_initializer ∷ []))) ∷ syntax.ExternalDeclaration (syntax.SimpleDeclaration (specs (syntax.TypedefName (name (codes "F") (at 22 7)) ∷ [])) (declared (syntax.init_declarator (syntax.Named [] (name (codes "x") (at 24 8)) (suffixes (syntax.ArraySuffix (syntax.an_expr (syntax.Identifier (name (codes "n") (at 26 10)))) (at 25 9) ∷ []))) syntax.no_initializer ∷ []))) ∷ [])

-- int f(const void);
abbrev pub c28_9 : List syntax.External
c28_9 = (syntax.ExternalDeclaration (syntax.SimpleDeclaration (specs (syntax.TypeSpec type.Int (at 1 0) ∷ [])) (declared (syntax.init_declarator (syntax.Named [] (name (codes "f") (at 5 1)) (suffixes (syntax.FunctionSuffix (parameters (syntax.parameter (specs (syntax.QualifierSpec (qualifier qual.Const (at 7 3)) ∷ syntax.TypeSpec type.Void (at 13 4) ∷ [])) (syntax.Unnamed [] (suffixes [])) (at 7 3) ∷ [])) false (at 6 2) ∷ []))) syntax.no_initializer ∷ []))) ∷ [])

-- int f(void, int a);
abbrev pub c28_10 : List syntax.External
c28_10 = (syntax.ExternalDeclaration (syntax.SimpleDeclaration (specs (syntax.TypeSpec type.Int (at 1 0) ∷ [])) (declared (syntax.init_declarator (syntax.Named [] (name (codes "f") (at 5 1)) (suffixes (syntax.FunctionSuffix (parameters (syntax.parameter (specs (syntax.TypeSpec type.Void (at 7 3) ∷ [])) (syntax.Unnamed [] (suffixes [])) (at 7 3) ∷ syntax.parameter (specs (syntax.TypeSpec type.Int (at 13 5) ∷ [])) (syntax.Named [] (name (codes "a") (at 17 6)) (suffixes [])) (at 13 5) ∷ [])) false (at 6 2) ∷ []))) syntax.no_initializer ∷ []))) ∷ [])

-- int f(void x);
abbrev pub c28_11 : List syntax.External
c28_11 = (syntax.ExternalDeclaration (syntax.SimpleDeclaration (specs (syntax.TypeSpec type.Int (at 1 0) ∷ [])) (declared (syntax.init_declarator (syntax.Named [] (name (codes "f") (at 5 1)) (suffixes (syntax.FunctionSuffix (parameters (syntax.parameter (specs (syntax.TypeSpec type.Void (at 7 3) ∷ [])) (syntax.Named [] (name (codes "x") (at 12 4)) (suffixes [])) (at 7 3) ∷ [])) false (at 6 2) ∷ []))) syntax.no_initializer ∷ []))) ∷ [])

-- int f(void, ...);
abbrev pub c28_12 : List syntax.External
c28_12 = (syntax.ExternalDeclaration (syntax.SimpleDeclaration (specs (syntax.TypeSpec type.Int (at 1 0) ∷ [])) (declared (syntax.init_declarator (syntax.Named [] (name (codes "f") (at 5 1)) (suffixes (syntax.FunctionSuffix (parameters (syntax.parameter (specs (syntax.TypeSpec type.Void (at 7 3) ∷ [])) (syntax.Unnamed [] (suffixes [])) (at 7 3) ∷ [])) true (at 6 2) ∷ []))) syntax.no_initializer ∷ []))) ∷ [])

-- int f([[a]] void, int a);
abbrev pub c28_13 : List syntax.External
c28_13 = (syntax.ExternalDeclaration (syntax.SimpleDeclaration (specs (syntax.TypeSpec type.Int (at 1 0) ∷ [])) (declared (syntax.init_declarator (syntax.Named [] (name (codes "f") (at 5 1)) (suffixes (syntax.FunctionSuffix (parameters (syntax.parameter (specs (syntax.TypeSpec type.Void (at 13 8) ∷ [])) (syntax.Unnamed [] (suffixes [])) (at 7 3) ∷ syntax.parameter (specs (syntax.TypeSpec type.Int (at 19 10) ∷ [])) (syntax.Named [] (name (codes "a") (at 23 11)) (suffixes [])) (at 19 10) ∷ [])) false (at 6 2) ∷ []))) syntax.no_initializer ∷ []))) ∷ [])

-- int (*p)(const void);
abbrev pub c28_14 : List syntax.External
c28_14 = (syntax.ExternalDeclaration (syntax.SimpleDeclaration (specs (syntax.TypeSpec type.Int (at 1 0) ∷ [])) (declared (syntax.init_declarator (syntax.Grouped [] (syntax.Named (pointer (at 6 2) [] ∷ []) (name (codes "p") (at 7 3)) (suffixes [])) (suffixes (syntax.FunctionSuffix (parameters (syntax.parameter (specs (syntax.QualifierSpec (qualifier qual.Const (at 10 6)) ∷ syntax.TypeSpec type.Void (at 16 7) ∷ [])) (syntax.Unnamed [] (suffixes [])) (at 10 6) ∷ [])) false (at 9 5) ∷ [])) (at 5 1)) syntax.no_initializer ∷ []))) ∷ [])

-- int f(int g(const void));
abbrev pub c28_15 : List syntax.External
c28_15 = (syntax.ExternalDeclaration (syntax.SimpleDeclaration (specs (syntax.TypeSpec type.Int (at 1 0) ∷ [])) (declared (syntax.init_declarator (syntax.Named [] (name (codes "f") (at 5 1)) (suffixes (syntax.FunctionSuffix (parameters (syntax.parameter (specs (syntax.TypeSpec type.Int (at 7 3) ∷ [])) (syntax.Named [] (name (codes "g") (at 11 4)) (suffixes (syntax.FunctionSuffix (parameters (syntax.parameter (specs (syntax.QualifierSpec (qualifier qual.Const (at 13 6)) ∷ syntax.TypeSpec type.Void (at 19 7) ∷ [])) (syntax.Unnamed [] (suffixes [])) (at 13 6) ∷ [])) false (at 12 5) ∷ []))) (at 7 3) ∷ [])) false (at 6 2) ∷ []))) syntax.no_initializer ∷ []))) ∷ [])

-- typedef int F(int a, void b);
abbrev pub c28_16 : List syntax.External
c28_16 = (syntax.ExternalDeclaration (syntax.SimpleDeclaration (specs (syntax.StorageSpec storage.Typedef (at 1 0) ∷ syntax.TypeSpec type.Int (at 9 1) ∷ [])) (declared (syntax.init_declarator (syntax.Named [] (name (codes "F") (at 13 2)) (suffixes (syntax.FunctionSuffix (parameters (syntax.parameter (specs (syntax.TypeSpec type.Int (at 15 4) ∷ [])) (syntax.Named [] (name (codes "a") (at 19 5)) (suffixes [])) (at 15 4) ∷ syntax.parameter (specs (syntax.TypeSpec type.Void (at 22 7) ∷ [])) (syntax.Named [] (name (codes "b") (at 27 8)) (suffixes [])) (at 22 7) ∷ [])) false (at 14 3) ∷ []))) syntax.no_initializer ∷ []))) ∷ [])

-- int (*f(void))(const void);
abbrev pub c28_17 : List syntax.External
c28_17 = (syntax.ExternalDeclaration (syntax.SimpleDeclaration (specs (syntax.TypeSpec type.Int (at 1 0) ∷ [])) (declared (syntax.init_declarator (syntax.Grouped [] (syntax.Named (pointer (at 6 2) [] ∷ []) (name (codes "f") (at 7 3)) (suffixes (syntax.FunctionSuffix (parameters (syntax.parameter (specs (syntax.TypeSpec type.Void (at 9 5) ∷ [])) (syntax.Unnamed [] (suffixes [])) (at 9 5) ∷ [])) false (at 8 4) ∷ []))) (suffixes (syntax.FunctionSuffix (parameters (syntax.parameter (specs (syntax.QualifierSpec (qualifier qual.Const (at 16 9)) ∷ syntax.TypeSpec type.Void (at 22 10) ∷ [])) (syntax.Unnamed [] (suffixes [])) (at 16 9) ∷ [])) false (at 15 8) ∷ [])) (at 5 1)) syntax.no_initializer ∷ []))) ∷ [])

-- int (*f(void))(const void) { return 0; }
abbrev pub c28_18 : List syntax.External
c28_18 = (syntax.FunctionDefinition (specs (syntax.TypeSpec type.Int (at 1 0) ∷ [])) (syntax.Grouped [] (syntax.Named (pointer (at 6 2) [] ∷ []) (name (codes "f") (at 7 3)) (suffixes (syntax.FunctionSuffix (parameters (syntax.parameter (specs (syntax.TypeSpec type.Void (at 9 5) ∷ [])) (syntax.Unnamed [] (suffixes [])) (at 9 5) ∷ [])) false (at 8 4) ∷ []))) (suffixes (syntax.FunctionSuffix (parameters (syntax.parameter (specs (syntax.QualifierSpec (qualifier qual.Const (at 16 9)) ∷ syntax.TypeSpec type.Void (at 22 10) ∷ [])) (syntax.Unnamed [] (suffixes [])) (at 16 9) ∷ [])) false (at 15 8) ∷ [])) (at 5 1)) (syntax.block (block_items (syntax.StatementItem (syntax.Return (syntax.an_expr (syntax.Constant (pos 0) basic.Int (at 37 14))) (at 30 13) (span (at 30 13) (at 38 15))) ∷ [])) (span (at 28 12) (at 40 16))) ∷ [])

-- int f(void)[3];
abbrev pub c28_19 : List syntax.External
c28_19 = (syntax.ExternalDeclaration (syntax.SimpleDeclaration (specs (syntax.TypeSpec type.Int (at 1 0) ∷ [])) (declared (syntax.init_declarator (syntax.Named [] (name (codes "f") (at 5 1)) (suffixes (syntax.FunctionSuffix (parameters (syntax.parameter (specs (syntax.TypeSpec type.Void (at 7 3) ∷ [])) (syntax.Unnamed [] (suffixes [])) (at 7 3) ∷ [])) false (at 6 2) ∷ syntax.ArraySuffix (syntax.an_expr (syntax.Constant (pos 3) basic.Int (at 13 6))) (at 12 5) ∷ []))) syntax.no_initializer ∷ []))) ∷ [])
