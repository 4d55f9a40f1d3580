-- C22: complete object type is needed: units of one line, as trees.
use Rattle.std.specs.Prelude.{List, [], ◌∷◌, Some, false, pos, codes}
use Rattle.model_grammar.specs.SyntaxForms as syntax
use Rattle.model_types.specs.declared.numbers.Basic.TheVariants as basic
use Rattle.model_grammar.specs.declared.syntax.StorageWord.TheVariants as storage
use Rattle.model_grammar.specs.declared.syntax.TypeWord.TheVariants as type
use Rattle.checking_units.specs.Parts.{at, name, specs, pointer, suffixes, parameters, members, declared, items, block_items, span}

-- struct s { int a; }; void f(void) { struct s; struct s x; }
abbrev pub c22_1 : List syntax.External
c22_1 = (syntax.ExternalDeclaration (syntax.SimpleDeclaration (specs (syntax.Struct (Some (name (codes "s") (at 8 1))) (members (syntax.MemberDeclarators (specs (syntax.TypeSpec type.Int (at 12 3) ∷ [])) (syntax.declarators ((syntax.Named [] (name (codes "a") (at 16 4)) (suffixes [])) ∷ [])) ∷ [])) (at 1 0) ∷ [])) (declared [])) ∷ syntax.FunctionDefinition (specs (syntax.TypeSpec type.Void (at 22 8) ∷ [])) (syntax.Named [] (name (codes "f") (at 27 9)) (suffixes (syntax.FunctionSuffix (parameters (syntax.parameter (specs (syntax.TypeSpec type.Void (at 29 11) ∷ [])) (syntax.Unnamed [] (suffixes [])) (at 29 11) ∷ [])) false (at 28 10) ∷ []))) (syntax.block (block_items (syntax.DeclarationItem (syntax.SimpleDeclaration (specs (syntax.StructTag (name (codes "s") (at 44 15)) (at 37 14) ∷ [])) (declared [])) ∷ syntax.DeclarationItem (syntax.SimpleDeclaration (specs (syntax.StructTag (name (codes "s") (at 54 18)) (at 47 17) ∷ [])) (declared (syntax.init_declarator (syntax.Named [] (name (codes "x") (at 56 19)) (suffixes [])) syntax.no_initializer ∷ []))) ∷ [])) (span (at 35 13) (at 59 21))) ∷ [])

-- struct s { struct s a; };
abbrev pub c22_2 : List syntax.External
c22_2 = (syntax.ExternalDeclaration (syntax.SimpleDeclaration (specs (syntax.Struct (Some (name (codes "s") (at 8 1))) (members (syntax.MemberDeclarators (specs (syntax.StructTag (name (codes "s") (at 19 4)) (at 12 3) ∷ [])) (syntax.declarators ((syntax.Named [] (name (codes "a") (at 21 5)) (suffixes [])) ∷ [])) ∷ [])) (at 1 0) ∷ [])) (declared [])) ∷ [])

-- struct s { void a; };
abbrev pub c22_3 : List syntax.External
c22_3 = (syntax.ExternalDeclaration (syntax.SimpleDeclaration (specs (syntax.Struct (Some (name (codes "s") (at 8 1))) (members (syntax.MemberDeclarators (specs (syntax.TypeSpec type.Void (at 12 3) ∷ [])) (syntax.declarators ((syntax.Named [] (name (codes "a") (at 17 4)) (suffixes [])) ∷ [])) ∷ [])) (at 1 0) ∷ [])) (declared [])) ∷ [])

-- struct s { int f(void); };
abbrev pub c22_4 : List syntax.External
c22_4 = (syntax.ExternalDeclaration (syntax.SimpleDeclaration (specs (syntax.Struct (Some (name (codes "s") (at 8 1))) (members (syntax.MemberDeclarators (specs (syntax.TypeSpec type.Int (at 12 3) ∷ [])) (syntax.declarators ((syntax.Named [] (name (codes "f") (at 16 4)) (suffixes (syntax.FunctionSuffix (parameters (syntax.parameter (specs (syntax.TypeSpec type.Void (at 18 6) ∷ [])) (syntax.Unnamed [] (suffixes [])) (at 18 6) ∷ [])) false (at 17 5) ∷ []))) ∷ [])) ∷ [])) (at 1 0) ∷ [])) (declared [])) ∷ [])

-- struct s { int a[]; };
abbrev pub c22_5 : List syntax.External
c22_5 = (syntax.ExternalDeclaration (syntax.SimpleDeclaration (specs (syntax.Struct (Some (name (codes "s") (at 8 1))) (members (syntax.MemberDeclarators (specs (syntax.TypeSpec type.Int (at 12 3) ∷ [])) (syntax.declarators ((syntax.Named [] (name (codes "a") (at 16 4)) (suffixes (syntax.ArraySuffix syntax.no_expr (at 17 5) ∷ []))) ∷ [])) ∷ [])) (at 1 0) ∷ [])) (declared [])) ∷ [])

-- void v(void); void f(void) { auto x = v(); }
abbrev pub c22_6 : List syntax.External
c22_6 = (syntax.ExternalDeclaration (syntax.SimpleDeclaration (specs (syntax.TypeSpec type.Void (at 1 0) ∷ [])) (declared (syntax.init_declarator (syntax.Named [] (name (codes "v") (at 6 1)) (suffixes (syntax.FunctionSuffix (parameters (syntax.parameter (specs (syntax.TypeSpec type.Void (at 8 3) ∷ [])) (syntax.Unnamed [] (suffixes [])) (at 8 3) ∷ [])) false (at 7 2) ∷ []))) syntax.no_initializer ∷ []))) ∷ syntax.FunctionDefinition (specs (syntax.TypeSpec type.Void (at 15 6) ∷ [])) (syntax.Named [] (name (codes "f") (at 20 7)) (suffixes (syntax.FunctionSuffix (parameters (syntax.parameter (specs (syntax.TypeSpec type.Void (at 22 9) ∷ [])) (syntax.Unnamed [] (suffixes [])) (at 22 9) ∷ [])) false (at 21 8) ∷ []))) (syntax.block (block_items (syntax.DeclarationItem (syntax.SimpleDeclaration (specs (syntax.StorageSpec storage.Auto (at 30 12) ∷ [])) (declared (syntax.init_declarator (syntax.Named [] (name (codes "x") (at 35 13)) (suffixes [])) (syntax.an_initializer (syntax.Single (syntax.Call (syntax.Identifier (name (codes "v") (at 39 15))) (syntax.exprs []) (at 40 16)))) ∷ []))) ∷ [])) (span (at 28 11) (at 44 19))) ∷ [])

-- constexpr void x = 1;
abbrev pub c22_7 : List syntax.External
c22_7 = (syntax.ExternalDeclaration (syntax.SimpleDeclaration (specs (syntax.StorageSpec storage.Constexpr (at 1 0) ∷ syntax.TypeSpec type.Void (at 11 1) ∷ [])) (declared (syntax.init_declarator (syntax.Named [] (name (codes "x") (at 16 2)) (suffixes [])) (syntax.an_initializer (syntax.Single (syntax.Constant (pos 1) basic.Int (at 20 4)))) ∷ []))) ∷ [])

-- struct s (*(*f)[])[];
abbrev pub c22_8 : List syntax.External
c22_8 = (syntax.ExternalDeclaration (syntax.SimpleDeclaration (specs (syntax.StructTag (name (codes "s") (at 8 1)) (at 1 0) ∷ [])) (declared (syntax.init_declarator (syntax.Grouped [] (syntax.Grouped (pointer (at 11 3) [] ∷ []) (syntax.Named (pointer (at 13 5) [] ∷ []) (name (codes "f") (at 14 6)) (suffixes [])) (suffixes (syntax.ArraySuffix syntax.no_expr (at 16 8) ∷ [])) (at 12 4)) (suffixes (syntax.ArraySuffix syntax.no_expr (at 19 11) ∷ [])) (at 10 2)) syntax.no_initializer ∷ []))) ∷ [])

-- void x[2];
abbrev pub c22_9 : List syntax.External
c22_9 = (syntax.ExternalDeclaration (syntax.SimpleDeclaration (specs (syntax.TypeSpec type.Void (at 1 0) ∷ [])) (declared (syntax.init_declarator (syntax.Named [] (name (codes "x") (at 6 1)) (suffixes (syntax.ArraySuffix (syntax.an_expr (syntax.Constant (pos 2) basic.Int (at 8 3))) (at 7 2) ∷ []))) syntax.no_initializer ∷ []))) ∷ [])

-- void x[n];
abbrev pub c22_10 : List syntax.External
c22_10 = (syntax.ExternalDeclaration (syntax.SimpleDeclaration (specs (syntax.TypeSpec type.Void (at 1 0) ∷ [])) (declared (syntax.init_declarator (syntax.Named [] (name (codes "x") (at 6 1)) (suffixes (syntax.ArraySuffix (syntax.an_expr (syntax.Identifier (name (codes "n") (at 8 3)))) (at 7 2) ∷ []))) syntax.no_initializer ∷ []))) ∷ [])

-- int x[2][];
abbrev pub c22_11 : List syntax.External
c22_11 = (syntax.ExternalDeclaration (syntax.SimpleDeclaration (specs (syntax.TypeSpec type.Int (at 1 0) ∷ [])) (declared (syntax.init_declarator (syntax.Named [] (name (codes "x") (at 5 1)) (suffixes (syntax.ArraySuffix (syntax.an_expr (syntax.Constant (pos 2) basic.Int (at 7 3))) (at 6 2) ∷ syntax.ArraySuffix syntax.no_expr (at 9 5) ∷ []))) syntax.no_initializer ∷ []))) ∷ [])

-- int x[n][];
abbrev pub c22_12 : List syntax.External
c22_12 = (syntax.ExternalDeclaration (syntax.SimpleDeclaration (specs (syntax.TypeSpec type.Int (at 1 0) ∷ [])) (declared (syntax.init_declarator (syntax.Named [] (name (codes "x") (at 5 1)) (suffixes (syntax.ArraySuffix (syntax.an_expr (syntax.Identifier (name (codes "n") (at 7 3)))) (at 6 2) ∷ syntax.ArraySuffix syntax.no_expr (at 9 5) ∷ []))) syntax.no_initializer ∷ []))) ∷ [])

-- extern struct s x[2];
abbrev pub c22_13 : List syntax.External
c22_13 = (syntax.ExternalDeclaration (syntax.SimpleDeclaration (specs (syntax.StorageSpec storage.Extern (at 1 0) ∷ syntax.StructTag (name (codes "s") (at 15 2)) (at 8 1) ∷ [])) (declared (syntax.init_declarator (syntax.Named [] (name (codes "x") (at 17 3)) (suffixes (syntax.ArraySuffix (syntax.an_expr (syntax.Constant (pos 2) basic.Int (at 19 5))) (at 18 4) ∷ []))) syntax.no_initializer ∷ []))) ∷ [])

-- int f(struct s x[2]);
abbrev pub c22_14 : List syntax.External
c22_14 = (syntax.ExternalDeclaration (syntax.SimpleDeclaration (specs (syntax.TypeSpec type.Int (at 1 0) ∷ [])) (declared (syntax.init_declarator (syntax.Named [] (name (codes "f") (at 5 1)) (suffixes (syntax.FunctionSuffix (parameters (syntax.parameter (specs (syntax.StructTag (name (codes "s") (at 14 4)) (at 7 3) ∷ [])) (syntax.Named [] (name (codes "x") (at 16 5)) (suffixes (syntax.ArraySuffix (syntax.an_expr (syntax.Constant (pos 2) basic.Int (at 18 7))) (at 17 6) ∷ []))) (at 7 3) ∷ [])) false (at 6 2) ∷ []))) syntax.no_initializer ∷ []))) ∷ [])

-- int a[sizeof(void (*)[2])];
abbrev pub c22_15 : List syntax.External
c22_15 = (syntax.ExternalDeclaration (syntax.SimpleDeclaration (specs (syntax.TypeSpec type.Int (at 1 0) ∷ [])) (declared (syntax.init_declarator (syntax.Named [] (name (codes "a") (at 5 1)) (suffixes (syntax.ArraySuffix (syntax.an_expr (syntax.SizeofType (syntax.type_name (specs (syntax.TypeSpec type.Void (at 14 5) ∷ [])) (syntax.Grouped [] (syntax.Unnamed (pointer (at 20 7) [] ∷ []) (suffixes [])) (suffixes (syntax.ArraySuffix (syntax.an_expr (syntax.Constant (pos 2) basic.Int (at 23 10))) (at 22 9) ∷ [])) (at 19 6))) (at 7 3))) (at 6 2) ∷ []))) syntax.no_initializer ∷ []))) ∷ [])

-- int x, y[], z;
abbrev pub c22_16 : List syntax.External
c22_16 = (syntax.ExternalDeclaration (syntax.SimpleDeclaration (specs (syntax.TypeSpec type.Int (at 1 0) ∷ [])) (declared (syntax.init_declarator (syntax.Named [] (name (codes "x") (at 5 1)) (suffixes [])) syntax.no_initializer ∷ syntax.init_declarator (syntax.Named [] (name (codes "y") (at 8 3)) (suffixes (syntax.ArraySuffix syntax.no_expr (at 9 4) ∷ []))) syntax.no_initializer ∷ syntax.init_declarator (syntax.Named [] (name (codes "z") (at 13 7)) (suffixes [])) syntax.no_initializer ∷ []))) ∷ [])

-- struct s x; struct s { int a; };
abbrev pub c22_17 : List syntax.External
c22_17 = (syntax.ExternalDeclaration (syntax.SimpleDeclaration (specs (syntax.StructTag (name (codes "s") (at 8 1)) (at 1 0) ∷ [])) (declared (syntax.init_declarator (syntax.Named [] (name (codes "x") (at 10 2)) (suffixes [])) syntax.no_initializer ∷ []))) ∷ syntax.ExternalDeclaration (syntax.SimpleDeclaration (specs (syntax.Struct (Some (name (codes "s") (at 20 5))) (members (syntax.MemberDeclarators (specs (syntax.TypeSpec type.Int (at 24 7) ∷ [])) (syntax.declarators ((syntax.Named [] (name (codes "a") (at 28 8)) (suffixes [])) ∷ [])) ∷ [])) (at 13 4) ∷ [])) (declared [])) ∷ [])

-- int a[];
abbrev pub c22_18 : List syntax.External
c22_18 = (syntax.ExternalDeclaration (syntax.SimpleDeclaration (specs (syntax.TypeSpec type.Int (at 1 0) ∷ [])) (declared (syntax.init_declarator (syntax.Named [] (name (codes "a") (at 5 1)) (suffixes (syntax.ArraySuffix syntax.no_expr (at 6 2) ∷ []))) syntax.no_initializer ∷ []))) ∷ [])

-- void f(void) { static int a[]; }
abbrev pub c22_19 : List syntax.External
c22_19 = (syntax.FunctionDefinition (specs (syntax.TypeSpec type.Void (at 1 0) ∷ [])) (syntax.Named [] (name (codes "f") (at 6 1)) (suffixes (syntax.FunctionSuffix (parameters (syntax.parameter (specs (syntax.TypeSpec type.Void (at 8 3) ∷ [])) (syntax.Unnamed [] (suffixes [])) (at 8 3) ∷ [])) false (at 7 2) ∷ []))) (syntax.block (block_items (syntax.DeclarationItem (syntax.SimpleDeclaration (specs (syntax.StorageSpec storage.Static (at 16 6) ∷ syntax.TypeSpec type.Int (at 23 7) ∷ [])) (declared (syntax.init_declarator (syntax.Named [] (name (codes "a") (at 27 8)) (suffixes (syntax.ArraySuffix syntax.no_expr (at 28 9) ∷ []))) syntax.no_initializer ∷ []))) ∷ [])) (span (at 14 5) (at 32 12))) ∷ [])

-- void x;
abbrev pub c22_20 : List syntax.External
c22_20 = (syntax.ExternalDeclaration (syntax.SimpleDeclaration (specs (syntax.TypeSpec type.Void (at 1 0) ∷ [])) (declared (syntax.init_declarator (syntax.Named [] (name (codes "x") (at 6 1)) (suffixes [])) syntax.no_initializer ∷ []))) ∷ [])

-- void (x);
abbrev pub c22_21 : List syntax.External
c22_21 = (syntax.ExternalDeclaration (syntax.SimpleDeclaration (specs (syntax.TypeSpec type.Void (at 1 0) ∷ [])) (declared (syntax.init_declarator (syntax.Grouped [] (syntax.Named [] (name (codes "x") (at 7 2)) (suffixes [])) (suffixes []) (at 6 1)) syntax.no_initializer ∷ []))) ∷ [])

-- int f(void) = 1;
abbrev pub c22_22 : List syntax.External
c22_22 = (syntax.ExternalDeclaration (syntax.SimpleDeclaration (specs (syntax.TypeSpec type.Int (at 1 0) ∷ [])) (declared (syntax.init_declarator (syntax.Named [] (name (codes "f") (at 5 1)) (suffixes (syntax.FunctionSuffix (parameters (syntax.parameter (specs (syntax.TypeSpec type.Void (at 7 3) ∷ [])) (syntax.Unnamed [] (suffixes [])) (at 7 3) ∷ [])) false (at 6 2) ∷ []))) (syntax.an_initializer (syntax.Single (syntax.Constant (pos 1) basic.Int (at 15 6)))) ∷ []))) ∷ [])

-- int a[] = {};
abbrev pub c22_23 : List syntax.External
c22_23 = (syntax.ExternalDeclaration (syntax.SimpleDeclaration (specs (syntax.TypeSpec type.Int (at 1 0) ∷ [])) (declared (syntax.init_declarator (syntax.Named [] (name (codes "a") (at 5 1)) (suffixes (syntax.ArraySuffix syntax.no_expr (at 6 2) ∷ []))) (syntax.an_initializer (syntax.Braced (syntax.braces (items []) (at 11 5)))) ∷ []))) ∷ [])

-- int a[] = 5;
abbrev pub c22_24 : List syntax.External
c22_24 = (syntax.ExternalDeclaration (syntax.SimpleDeclaration (specs (syntax.TypeSpec type.Int (at 1 0) ∷ [])) (declared (syntax.init_declarator (syntax.Named [] (name (codes "a") (at 5 1)) (suffixes (syntax.ArraySuffix syntax.no_expr (at 6 2) ∷ []))) (syntax.an_initializer (syntax.Single (syntax.Constant (pos 5) basic.Int (at 11 5)))) ∷ []))) ∷ [])
