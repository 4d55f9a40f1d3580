-- C01: name begins with cake_: units of one line, as trees.
use Rattle.std.specs.Prelude.{List, [], ◌∷◌, Some, None, false, pos, codes}
use Rattle.model_grammar.specs.SyntaxForms as syntax
use Rattle.model_types.specs.declared.numbers.Basic.TheVariants as basic
use Rattle.model_grammar.specs.declared.syntax.StorageWord.TheVariants as storage
use Rattle.model_grammar.specs.declared.syntax.TypeWord.TheVariants as type
use Rattle.checking_units.specs.Parts.{at, name, specs, pointer, suffixes, parameters, members, enumerators, declared, block_items, span}

-- struct s { int cake_x; };
abbrev pub c01_1 : List syntax.External
c01_1 = (syntax.ExternalDeclaration (syntax.SimpleDeclaration (specs (syntax.Struct (Some (name (codes "s") (at 8 1))) (members (syntax.MemberDeclarators (specs (syntax.TypeSpec type.Int (at 12 3) ∷ [])) (syntax.declarators ((syntax.Named [] (name (codes "cake_x") (at 16 4)) (suffixes [])) ∷ [])) ∷ [])) (at 1 0) ∷ [])) (declared [])) ∷ [])

-- struct cake_s { int x; };
abbrev pub c01_2 : List syntax.External
c01_2 = (syntax.ExternalDeclaration (syntax.SimpleDeclaration (specs (syntax.Struct (Some (name (codes "cake_s") (at 8 1))) (members (syntax.MemberDeclarators (specs (syntax.TypeSpec type.Int (at 17 3) ∷ [])) (syntax.declarators ((syntax.Named [] (name (codes "x") (at 21 4)) (suffixes [])) ∷ [])) ∷ [])) (at 1 0) ∷ [])) (declared [])) ∷ [])

-- struct cake_s *p;
abbrev pub c01_3 : List syntax.External
c01_3 = (syntax.ExternalDeclaration (syntax.SimpleDeclaration (specs (syntax.StructTag (name (codes "cake_s") (at 8 1)) (at 1 0) ∷ [])) (declared (syntax.init_declarator (syntax.Named (pointer (at 15 2) [] ∷ []) (name (codes "p") (at 16 3)) (suffixes [])) syntax.no_initializer ∷ []))) ∷ [])

-- enum cake_e { A };
abbrev pub c01_4 : List syntax.External
c01_4 = (syntax.ExternalDeclaration (syntax.SimpleDeclaration (specs (syntax.Enum (Some (name (codes "cake_e") (at 6 1))) syntax.none_of_specs (enumerators (syntax.enumerator (name (codes "A") (at 15 3)) syntax.no_expr ∷ [])) (at 1 0) ∷ [])) (declared [])) ∷ [])

-- int f(int cake_x);
abbrev pub c01_5 : List syntax.External
c01_5 = (syntax.ExternalDeclaration (syntax.SimpleDeclaration (specs (syntax.TypeSpec type.Int (at 1 0) ∷ [])) (declared (syntax.init_declarator (syntax.Named [] (name (codes "f") (at 5 1)) (suffixes (syntax.FunctionSuffix (parameters (syntax.parameter (specs (syntax.TypeSpec type.Int (at 7 3) ∷ [])) (syntax.Named [] (name (codes "cake_x") (at 11 4)) (suffixes [])) (at 7 3) ∷ [])) false (at 6 2) ∷ []))) syntax.no_initializer ∷ []))) ∷ [])

-- enum { cake_A };
abbrev pub c01_6 : List syntax.External
c01_6 = (syntax.ExternalDeclaration (syntax.SimpleDeclaration (specs (syntax.Enum None syntax.none_of_specs (enumerators (syntax.enumerator (name (codes "cake_A") (at 8 2)) syntax.no_expr ∷ [])) (at 1 0) ∷ [])) (declared [])) ∷ [])

-- typedef int cake_t;
abbrev pub c01_7 : List syntax.External
c01_7 = (syntax.ExternalDeclaration (syntax.SimpleDeclaration (specs (syntax.StorageSpec storage.Typedef (at 1 0) ∷ syntax.TypeSpec type.Int (at 9 1) ∷ [])) (declared (syntax.init_declarator (syntax.Named [] (name (codes "cake_t") (at 13 2)) (suffixes [])) syntax.no_initializer ∷ []))) ∷ [])

-- void f(void) { int cake_x; }
abbrev pub c01_8 : List syntax.External
c01_8 = (syntax.FunctionDefinition (specs (syntax.TypeSpec type.Void (at 1 0) ∷ [])) (syntax.Named [] (name (codes "f") (at 6 1)) (suffixes (syntax.FunctionSuffix (parameters (syntax.parameter (specs (syntax.TypeSpec type.Void (at 8 3) ∷ [])) (syntax.Unnamed [] (suffixes [])) (at 8 3) ∷ [])) false (at 7 2) ∷ []))) (syntax.block (block_items (syntax.DeclarationItem (syntax.SimpleDeclaration (specs (syntax.TypeSpec type.Int (at 16 6) ∷ [])) (declared (syntax.init_declarator (syntax.Named [] (name (codes "cake_x") (at 20 7)) (suffixes [])) syntax.no_initializer ∷ []))) ∷ [])) (span (at 14 5) (at 28 9))) ∷ [])

-- void f(void) { struct s cake_x; }
abbrev pub c01_9 : List syntax.External
c01_9 = (syntax.FunctionDefinition (specs (syntax.TypeSpec type.Void (at 1 0) ∷ [])) (syntax.Named [] (name (codes "f") (at 6 1)) (suffixes (syntax.FunctionSuffix (parameters (syntax.parameter (specs (syntax.TypeSpec type.Void (at 8 3) ∷ [])) (syntax.Unnamed [] (suffixes [])) (at 8 3) ∷ [])) false (at 7 2) ∷ []))) (syntax.block (block_items (syntax.DeclarationItem (syntax.SimpleDeclaration (specs (syntax.StructTag (name (codes "s") (at 23 7)) (at 16 6) ∷ [])) (declared (syntax.init_declarator (syntax.Named [] (name (codes "cake_x") (at 25 8)) (suffixes [])) syntax.no_initializer ∷ []))) ∷ [])) (span (at 14 5) (at 33 10))) ∷ [])

-- struct s { void cake_a; };
abbrev pub c01_10 : List syntax.External
c01_10 = (syntax.ExternalDeclaration (syntax.SimpleDeclaration (specs (syntax.Struct (Some (name (codes "s") (at 8 1))) (members (syntax.MemberDeclarators (specs (syntax.TypeSpec type.Void (at 12 3) ∷ [])) (syntax.declarators ((syntax.Named [] (name (codes "cake_a") (at 17 4)) (suffixes [])) ∷ [])) ∷ [])) (at 1 0) ∷ [])) (declared [])) ∷ [])

-- enum { cake_A = 2147483648 };
abbrev pub c01_11 : List syntax.External
c01_11 = (syntax.ExternalDeclaration (syntax.SimpleDeclaration (specs (syntax.Enum None syntax.none_of_specs (enumerators (syntax.enumerator (name (codes "cake_A") (at 8 2)) (syntax.an_expr (syntax.Constant (pos 2147483648) basic.Long (at 17 4))) ∷ [])) (at 1 0) ∷ [])) (declared [])) ∷ [])

-- auto cake_x;
abbrev pub c01_12 : List syntax.External
c01_12 = (syntax.ExternalDeclaration (syntax.SimpleDeclaration (specs (syntax.StorageSpec storage.Auto (at 1 0) ∷ [])) (declared (syntax.init_declarator (syntax.Named [] (name (codes "cake_x") (at 6 1)) (suffixes [])) syntax.no_initializer ∷ []))) ∷ [])
