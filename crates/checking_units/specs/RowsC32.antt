-- C32: constexpr object needs a constant of its type: units of one line, as trees.
use Rattle.std.specs.Prelude.{List, [], ◌∷◌, Some, false, pos, codes}
use Rattle.model_grammar.specs.SyntaxForms as syntax
use Rattle.model_types.specs.declared.numbers.Basic.TheVariants as basic
use Rattle.model_types.specs.declared.numbers.BinOp.TheVariants as op
use Rattle.model_grammar.specs.declared.syntax.StorageWord.TheVariants as storage
use Rattle.model_grammar.specs.declared.syntax.TypeWord.TheVariants as type
use Rattle.model_grammar.specs.declared.syntax.PrefixOp.TheVariants as prefix
use Rattle.checking_units.specs.Parts.{at, name, specs, pointer, suffixes, parameters, members, declared, items, designators, block_items, span}

-- constexpr int x;
abbrev pub c32_1 : List syntax.External
c32_1 = (syntax.ExternalDeclaration (syntax.SimpleDeclaration (specs (syntax.StorageSpec storage.Constexpr (at 1 0) ∷ syntax.TypeSpec type.Int (at 11 1) ∷ [])) (declared (syntax.init_declarator (syntax.Named [] (name (codes "x") (at 15 2)) (suffixes [])) syntax.no_initializer ∷ []))) ∷ [])

-- void f(void) { constexpr int x = x; }
abbrev pub c32_2 : List syntax.External
c32_2 = (syntax.FunctionDefinition (specs (syntax.TypeSpec type.Void (at 1 0) ∷ [])) (syntax.Named [] (name (codes "f") (at 6 1)) (suffixes (syntax.FunctionSuffix (parameters (syntax.parameter (specs (syntax.TypeSpec type.Void (at 8 3) ∷ [])) (syntax.Unnamed [] (suffixes [])) (at 8 3) ∷ [])) false (at 7 2) ∷ []))) (syntax.block (block_items (syntax.DeclarationItem (syntax.SimpleDeclaration (specs (syntax.StorageSpec storage.Constexpr (at 16 6) ∷ syntax.TypeSpec type.Int (at 26 7) ∷ [])) (declared (syntax.init_declarator (syntax.Named [] (name (codes "x") (at 30 8)) (suffixes [])) (syntax.an_initializer (syntax.Single (syntax.Identifier (name (codes "x") (at 34 10))))) ∷ []))) ∷ [])) (span (at 14 5) (at 37 12))) ∷ [])

-- int n; void f(void) { constexpr int x = n; }
abbrev pub c32_3 : List syntax.External
c32_3 = (syntax.ExternalDeclaration (syntax.SimpleDeclaration (specs (syntax.TypeSpec type.Int (at 1 0) ∷ [])) (declared (syntax.init_declarator (syntax.Named [] (name (codes "n") (at 5 1)) (suffixes [])) syntax.no_initializer ∷ []))) ∷ syntax.FunctionDefinition (specs (syntax.TypeSpec type.Void (at 8 3) ∷ [])) (syntax.Named [] (name (codes "f") (at 13 4)) (suffixes (syntax.FunctionSuffix (parameters (syntax.parameter (specs (syntax.TypeSpec type.Void (at 15 6) ∷ [])) (syntax.Unnamed [] (suffixes [])) (at 15 6) ∷ [])) false (at 14 5) ∷ []))) (syntax.block (block_items (syntax.DeclarationItem (syntax.SimpleDeclaration (specs (syntax.StorageSpec storage.Constexpr (at 23 9) ∷ syntax.TypeSpec type.Int (at 33 10) ∷ [])) (declared (syntax.init_declarator (syntax.Named [] (name (codes "x") (at 37 11)) (suffixes [])) (syntax.an_initializer (syntax.Single (syntax.Identifier (name (codes "n") (at 41 13))))) ∷ []))) ∷ [])) (span (at 21 8) (at 44 15))) ∷ [])

-- void f(void) { constexpr int x = 1 / 0; }
abbrev pub c32_4 : List syntax.External
c32_4 = (syntax.FunctionDefinition (specs (syntax.TypeSpec type.Void (at 1 0) ∷ [])) (syntax.Named [] (name (codes "f") (at 6 1)) (suffixes (syntax.FunctionSuffix (parameters (syntax.parameter (specs (syntax.TypeSpec type.Void (at 8 3) ∷ [])) (syntax.Unnamed [] (suffixes [])) (at 8 3) ∷ [])) false (at 7 2) ∷ []))) (syntax.block (block_items (syntax.DeclarationItem (syntax.SimpleDeclaration (specs (syntax.StorageSpec storage.Constexpr (at 16 6) ∷ syntax.TypeSpec type.Int (at 26 7) ∷ [])) (declared (syntax.init_declarator (syntax.Named [] (name (codes "x") (at 30 8)) (suffixes [])) (syntax.an_initializer (syntax.Single (syntax.Binary op.Div (syntax.Constant (pos 1) basic.Int (at 34 10)) (syntax.Constant (pos 0) basic.Int (at 38 12)) (at 36 11)))) ∷ []))) ∷ [])) (span (at 14 5) (at 41 14))) ∷ [])

-- constexpr unsigned char x = 256;
abbrev pub c32_5 : List syntax.External
c32_5 = (syntax.ExternalDeclaration (syntax.SimpleDeclaration (specs (syntax.StorageSpec storage.Constexpr (at 1 0) ∷ syntax.TypeSpec type.Unsigned (at 11 1) ∷ syntax.TypeSpec type.Char (at 20 2) ∷ [])) (declared (syntax.init_declarator (syntax.Named [] (name (codes "x") (at 25 3)) (suffixes [])) (syntax.an_initializer (syntax.Single (syntax.Constant (pos 256) basic.Int (at 29 5)))) ∷ []))) ∷ [])

-- constexpr bool b = 2;
abbrev pub c32_6 : List syntax.External
c32_6 = (syntax.ExternalDeclaration (syntax.SimpleDeclaration (specs (syntax.StorageSpec storage.Constexpr (at 1 0) ∷ syntax.TypeSpec type.Bool (at 11 1) ∷ [])) (declared (syntax.init_declarator (syntax.Named [] (name (codes "b") (at 16 2)) (suffixes [])) (syntax.an_initializer (syntax.Single (syntax.Constant (pos 2) basic.Int (at 20 4)))) ∷ []))) ∷ [])

-- int n; constexpr int x = {n};
abbrev pub c32_7 : List syntax.External
c32_7 = (syntax.ExternalDeclaration (syntax.SimpleDeclaration (specs (syntax.TypeSpec type.Int (at 1 0) ∷ [])) (declared (syntax.init_declarator (syntax.Named [] (name (codes "n") (at 5 1)) (suffixes [])) syntax.no_initializer ∷ []))) ∷ syntax.ExternalDeclaration (syntax.SimpleDeclaration (specs (syntax.StorageSpec storage.Constexpr (at 8 3) ∷ syntax.TypeSpec type.Int (at 18 4) ∷ [])) (declared (syntax.init_declarator (syntax.Named [] (name (codes "x") (at 22 5)) (suffixes [])) (syntax.an_initializer (syntax.Braced (syntax.braces (items (syntax.item (designators []) (syntax.Single (syntax.Identifier (name (codes "n") (at 27 8)))) ∷ [])) (at 26 7)))) ∷ []))) ∷ [])

-- constexpr int a[2] = {1, 2};
abbrev pub c32_8 : List syntax.External
c32_8 = (syntax.ExternalDeclaration (syntax.SimpleDeclaration (specs (syntax.StorageSpec storage.Constexpr (at 1 0) ∷ syntax.TypeSpec type.Int (at 11 1) ∷ [])) (declared (syntax.init_declarator (syntax.Named [] (name (codes "a") (at 15 2)) (suffixes (syntax.ArraySuffix (syntax.an_expr (syntax.Constant (pos 2) basic.Int (at 17 4))) (at 16 3) ∷ []))) (syntax.an_initializer (syntax.Braced (syntax.braces (items (syntax.item (designators []) (syntax.Single (syntax.Constant (pos 1) basic.Int (at 23 8))) ∷ syntax.item (designators []) (syntax.Single (syntax.Constant (pos 2) basic.Int (at 26 10))) ∷ [])) (at 22 7)))) ∷ []))) ∷ [])

-- constexpr int a[2] = {n};
abbrev pub c32_9 : List syntax.External
c32_9 = (syntax.ExternalDeclaration (syntax.SimpleDeclaration (specs (syntax.StorageSpec storage.Constexpr (at 1 0) ∷ syntax.TypeSpec type.Int (at 11 1) ∷ [])) (declared (syntax.init_declarator (syntax.Named [] (name (codes "a") (at 15 2)) (suffixes (syntax.ArraySuffix (syntax.an_expr (syntax.Constant (pos 2) basic.Int (at 17 4))) (at 16 3) ∷ []))) (syntax.an_initializer (syntax.Braced (syntax.braces (items (syntax.item (designators []) (syntax.Single (syntax.Identifier (name (codes "n") (at 23 8)))) ∷ [])) (at 22 7)))) ∷ []))) ∷ [])

-- struct s { int a; }; constexpr struct s x = {1};
abbrev pub c32_10 : List syntax.External
c32_10 = (syntax.ExternalDeclaration (syntax.SimpleDeclaration (specs (syntax.Struct (Some (name (codes "s") (at 8 1))) (members (syntax.MemberDeclarators (specs (syntax.TypeSpec type.Int (at 12 3) ∷ [])) (syntax.declarators ((syntax.Named [] (name (codes "a") (at 16 4)) (suffixes [])) ∷ [])) ∷ [])) (at 1 0) ∷ [])) (declared [])) ∷ syntax.ExternalDeclaration (syntax.SimpleDeclaration (specs (syntax.StorageSpec storage.Constexpr (at 22 8) ∷ syntax.StructTag (name (codes "s") (at 39 10)) (at 32 9) ∷ [])) (declared (syntax.init_declarator (syntax.Named [] (name (codes "x") (at 41 11)) (suffixes [])) (syntax.an_initializer (syntax.Braced (syntax.braces (items (syntax.item (designators []) (syntax.Single (syntax.Constant (pos 1) basic.Int (at 46 14))) ∷ [])) (at 45 13)))) ∷ []))) ∷ [])

-- int n; constexpr int *p = &n;
abbrev pub c32_11 : List syntax.External
c32_11 = (syntax.ExternalDeclaration (syntax.SimpleDeclaration (specs (syntax.TypeSpec type.Int (at 1 0) ∷ [])) (declared (syntax.init_declarator (syntax.Named [] (name (codes "n") (at 5 1)) (suffixes [])) syntax.no_initializer ∷ []))) ∷ syntax.ExternalDeclaration (syntax.SimpleDeclaration (specs (syntax.StorageSpec storage.Constexpr (at 8 3) ∷ syntax.TypeSpec type.Int (at 18 4) ∷ [])) (declared (syntax.init_declarator (syntax.Named (pointer (at 22 5) [] ∷ []) (name (codes "p") (at 23 6)) (suffixes [])) (syntax.an_initializer (syntax.Single (syntax.Unary prefix.Address (syntax.Identifier (name (codes "n") (at 28 9))) (at 27 8)))) ∷ []))) ∷ [])

-- void g(int n) { constexpr int x = n; }
abbrev pub c32_12 : List syntax.External
c32_12 = (syntax.FunctionDefinition (specs (syntax.TypeSpec type.Void (at 1 0) ∷ [])) (syntax.Named [] (name (codes "g") (at 6 1)) (suffixes (syntax.FunctionSuffix (parameters (syntax.parameter (specs (syntax.TypeSpec type.Int (at 8 3) ∷ [])) (syntax.Named [] (name (codes "n") (at 12 4)) (suffixes [])) (at 8 3) ∷ [])) false (at 7 2) ∷ []))) (syntax.block (block_items (syntax.DeclarationItem (syntax.SimpleDeclaration (specs (syntax.StorageSpec storage.Constexpr (at 17 7) ∷ syntax.TypeSpec type.Int (at 27 8) ∷ [])) (declared (syntax.init_declarator (syntax.Named [] (name (codes "x") (at 31 9)) (suffixes [])) (syntax.an_initializer (syntax.Single (syntax.Identifier (name (codes "n") (at 35 11))))) ∷ []))) ∷ [])) (span (at 15 6) (at 38 13))) ∷ [])

-- void g(void) { constexpr int x = x; }
abbrev pub c32_13 : List syntax.External
c32_13 = (syntax.FunctionDefinition (specs (syntax.TypeSpec type.Void (at 1 0) ∷ [])) (syntax.Named [] (name (codes "g") (at 6 1)) (suffixes (syntax.FunctionSuffix (parameters (syntax.parameter (specs (syntax.TypeSpec type.Void (at 8 3) ∷ [])) (syntax.Unnamed [] (suffixes [])) (at 8 3) ∷ [])) false (at 7 2) ∷ []))) (syntax.block (block_items (syntax.DeclarationItem (syntax.SimpleDeclaration (specs (syntax.StorageSpec storage.Constexpr (at 16 6) ∷ syntax.TypeSpec type.Int (at 26 7) ∷ [])) (declared (syntax.init_declarator (syntax.Named [] (name (codes "x") (at 30 8)) (suffixes [])) (syntax.an_initializer (syntax.Single (syntax.Identifier (name (codes "x") (at 34 10))))) ∷ []))) ∷ [])) (span (at 14 5) (at 37 12))) ∷ [])
