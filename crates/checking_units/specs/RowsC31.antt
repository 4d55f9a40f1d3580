-- C31: auto needs one plain initializer: units of one line, as trees.
use Rattle.std.specs.Prelude.{List, [], ◌∷◌, false, pos, codes}
use Rattle.model_grammar.specs.SyntaxForms as syntax
use Rattle.model_types.specs.declared.numbers.Basic.TheVariants as basic
use Rattle.model_grammar.specs.declared.syntax.StorageWord.TheVariants as storage
use Rattle.model_grammar.specs.declared.syntax.TypeWord.TheVariants as type
use Rattle.checking_units.specs.Parts.{at, name, specs, pointer, suffixes, parameters, declared, items, designators, block_items, span}

-- auto x;
abbrev pub c31_1 : List syntax.External
c31_1 = (syntax.ExternalDeclaration (syntax.SimpleDeclaration (specs (syntax.StorageSpec storage.Auto (at 1 0) ∷ [])) (declared (syntax.init_declarator (syntax.Named [] (name (codes "x") (at 6 1)) (suffixes [])) syntax.no_initializer ∷ []))) ∷ [])

-- int *q; auto *x = q;
abbrev pub c31_2 : List syntax.External
c31_2 = (syntax.ExternalDeclaration (syntax.SimpleDeclaration (specs (syntax.TypeSpec type.Int (at 1 0) ∷ [])) (declared (syntax.init_declarator (syntax.Named (pointer (at 5 1) [] ∷ []) (name (codes "q") (at 6 2)) (suffixes [])) syntax.no_initializer ∷ []))) ∷ syntax.ExternalDeclaration (syntax.SimpleDeclaration (specs (syntax.StorageSpec storage.Auto (at 9 4) ∷ [])) (declared (syntax.init_declarator (syntax.Named (pointer (at 14 5) [] ∷ []) (name (codes "x") (at 15 6)) (suffixes [])) (syntax.an_initializer (syntax.Single (syntax.Identifier (name (codes "q") (at 19 8))))) ∷ []))) ∷ [])

-- auto (x) = 1;
abbrev pub c31_3 : List syntax.External
c31_3 = (syntax.ExternalDeclaration (syntax.SimpleDeclaration (specs (syntax.StorageSpec storage.Auto (at 1 0) ∷ [])) (declared (syntax.init_declarator (syntax.Grouped [] (syntax.Named [] (name (codes "x") (at 7 2)) (suffixes [])) (suffixes []) (at 6 1)) (syntax.an_initializer (syntax.Single (syntax.Constant (pos 1) basic.Int (at 12 5)))) ∷ []))) ∷ [])

-- auto x = {1};
abbrev pub c31_4 : List syntax.External
c31_4 = (syntax.ExternalDeclaration (syntax.SimpleDeclaration (specs (syntax.StorageSpec storage.Auto (at 1 0) ∷ [])) (declared (syntax.init_declarator (syntax.Named [] (name (codes "x") (at 6 1)) (suffixes [])) (syntax.an_initializer (syntax.Braced (syntax.braces (items (syntax.item (designators []) (syntax.Single (syntax.Constant (pos 1) basic.Int (at 11 4))) ∷ [])) (at 10 3)))) ∷ []))) ∷ [])

-- auto x = 1, y = 2;
abbrev pub c31_5 : List syntax.External
c31_5 = (syntax.ExternalDeclaration (syntax.SimpleDeclaration (specs (syntax.StorageSpec storage.Auto (at 1 0) ∷ [])) (declared (syntax.init_declarator (syntax.Named [] (name (codes "x") (at 6 1)) (suffixes [])) (syntax.an_initializer (syntax.Single (syntax.Constant (pos 1) basic.Int (at 10 3)))) ∷ syntax.init_declarator (syntax.Named [] (name (codes "y") (at 13 5)) (suffixes [])) (syntax.an_initializer (syntax.Single (syntax.Constant (pos 2) basic.Int (at 17 7)))) ∷ []))) ∷ [])

-- auto;
abbrev pub c31_6 : List syntax.External
c31_6 = (syntax.ExternalDeclaration (syntax.SimpleDeclaration (specs (syntax.StorageSpec storage.Auto (at 1 0) ∷ [])) (declared [])) ∷ [])

-- auto f(void) { }
abbrev pub c31_7 : List syntax.External
c31_7 = (syntax.FunctionDefinition (specs (syntax.StorageSpec storage.Auto (at 1 0) ∷ [])) (syntax.Named [] (name (codes "f") (at 6 1)) (suffixes (syntax.FunctionSuffix (parameters (syntax.parameter (specs (syntax.TypeSpec type.Void (at 8 3) ∷ [])) (syntax.Unnamed [] (suffixes [])) (at 8 3) ∷ [])) false (at 7 2) ∷ []))) (syntax.block (block_items []) (span (at 14 5) (at 16 6))) ∷ [])

-- auto *cake_x;
abbrev pub c31_8 : List syntax.External
c31_8 = (syntax.ExternalDeclaration (syntax.SimpleDeclaration (specs (syntax.StorageSpec storage.Auto (at 1 0) ∷ [])) (declared (syntax.init_declarator (syntax.Named (pointer (at 6 1) [] ∷ []) (name (codes "cake_x") (at 7 2)) (suffixes [])) syntax.no_initializer ∷ []))) ∷ [])

-- void f(void) { auto x = x; }
abbrev pub c31_9 : List syntax.External
c31_9 = (syntax.FunctionDefinition (specs (syntax.TypeSpec type.Void (at 1 0) ∷ [])) (syntax.Named [] (name (codes "f") (at 6 1)) (suffixes (syntax.FunctionSuffix (parameters (syntax.parameter (specs (syntax.TypeSpec type.Void (at 8 3) ∷ [])) (syntax.Unnamed [] (suffixes [])) (at 8 3) ∷ [])) false (at 7 2) ∷ []))) (syntax.block (block_items (syntax.DeclarationItem (syntax.SimpleDeclaration (specs (syntax.StorageSpec storage.Auto (at 16 6) ∷ [])) (declared (syntax.init_declarator (syntax.Named [] (name (codes "x") (at 21 7)) (suffixes [])) (syntax.an_initializer (syntax.Single (syntax.Identifier (name (codes "x") (at 25 9))))) ∷ []))) ∷ [])) (span (at 14 5) (at 28 11))) ∷ [])

-- void f(void) { auto x = sizeof x; }
abbrev pub c31_10 : List syntax.External
c31_10 = (syntax.FunctionDefinition (specs (syntax.TypeSpec type.Void (at 1 0) ∷ [])) (syntax.Named [] (name (codes "f") (at 6 1)) (suffixes (syntax.FunctionSuffix (parameters (syntax.parameter (specs (syntax.TypeSpec type.Void (at 8 3) ∷ [])) (syntax.Unnamed [] (suffixes [])) (at 8 3) ∷ [])) false (at 7 2) ∷ []))) (syntax.block (block_items (syntax.DeclarationItem (syntax.SimpleDeclaration (specs (syntax.StorageSpec storage.Auto (at 16 6) ∷ [])) (declared (syntax.init_declarator (syntax.Named [] (name (codes "x") (at 21 7)) (suffixes [])) (syntax.an_initializer (syntax.Single (syntax.SizeofExpr (syntax.Identifier (name (codes "x") (at 32 10))) (at 25 9)))) ∷ []))) ∷ [])) (span (at 14 5) (at 35 12))) ∷ [])

-- void g(void) { auto (x) = 1; }
abbrev pub c31_11 : List syntax.External
c31_11 = (syntax.FunctionDefinition (specs (syntax.TypeSpec type.Void (at 1 0) ∷ [])) (syntax.Named [] (name (codes "g") (at 6 1)) (suffixes (syntax.FunctionSuffix (parameters (syntax.parameter (specs (syntax.TypeSpec type.Void (at 8 3) ∷ [])) (syntax.Unnamed [] (suffixes [])) (at 8 3) ∷ [])) false (at 7 2) ∷ []))) (syntax.block (block_items (syntax.DeclarationItem (syntax.SimpleDeclaration (specs (syntax.StorageSpec storage.Auto (at 16 6) ∷ [])) (declared (syntax.init_declarator (syntax.Grouped [] (syntax.Named [] (name (codes "x") (at 22 8)) (suffixes [])) (suffixes []) (at 21 7)) (syntax.an_initializer (syntax.Single (syntax.Constant (pos 1) basic.Int (at 27 11)))) ∷ []))) ∷ [])) (span (at 14 5) (at 30 13))) ∷ [])

-- void g(void) { auto x = x; }
abbrev pub c31_12 : List syntax.External
c31_12 = (syntax.FunctionDefinition (specs (syntax.TypeSpec type.Void (at 1 0) ∷ [])) (syntax.Named [] (name (codes "g") (at 6 1)) (suffixes (syntax.FunctionSuffix (parameters (syntax.parameter (specs (syntax.TypeSpec type.Void (at 8 3) ∷ [])) (syntax.Unnamed [] (suffixes [])) (at 8 3) ∷ [])) false (at 7 2) ∷ []))) (syntax.block (block_items (syntax.DeclarationItem (syntax.SimpleDeclaration (specs (syntax.StorageSpec storage.Auto (at 16 6) ∷ [])) (declared (syntax.init_declarator (syntax.Named [] (name (codes "x") (at 21 7)) (suffixes [])) (syntax.an_initializer (syntax.Single (syntax.Identifier (name (codes "x") (at 25 9))))) ∷ []))) ∷ [])) (span (at 14 5) (at 28 11))) ∷ [])

-- void g(void) { auto x = 1, y = 2; }
abbrev pub c31_13 : List syntax.External
c31_13 = (syntax.FunctionDefinition (specs (syntax.TypeSpec type.Void (at 1 0) ∷ [])) (syntax.Named [] (name (codes "g") (at 6 1)) (suffixes (syntax.FunctionSuffix (parameters (syntax.parameter (specs (syntax.TypeSpec type.Void (at 8 3) ∷ [])) (syntax.Unnamed [] (suffixes [])) (at 8 3) ∷ [])) false (at 7 2) ∷ []))) (syntax.block (block_items (syntax.DeclarationItem (syntax.SimpleDeclaration (specs (syntax.StorageSpec storage.Auto (at 16 6) ∷ [])) (declared (syntax.init_declarator (syntax.Named [] (name (codes "x") (at 21 7)) (suffixes [])) (syntax.an_initializer (syntax.Single (syntax.Constant (pos 1) basic.Int (at 25 9)))) ∷ syntax.init_declarator (syntax.Named [] (name (codes "y") (at 28 11)) (suffixes [])) (syntax.an_initializer (syntax.Single (syntax.Constant (pos 2) basic.Int (at 32 13)))) ∷ []))) ∷ [])) (span (at 14 5) (at 35 15))) ∷ [])
