-- enumerators in values: units of one line, as trees.
use Rattle.std.specs.Prelude.{List, [], ◌∷◌, None, false, pos, codes}
use Rattle.model_grammar.specs.SyntaxForms as syntax
use Rattle.model_types.specs.declared.numbers.Basic.TheVariants as basic
use Rattle.model_types.specs.declared.numbers.BinOp.TheVariants as op
use Rattle.model_grammar.specs.declared.syntax.StorageWord.TheVariants as storage
use Rattle.model_grammar.specs.declared.syntax.TypeWord.TheVariants as type
use Rattle.checking_units.specs.Parts.{at, name, specs, pointer, suffixes, parameters, enumerators, declared, block_items, span}

-- auto x = sizeof(enum { x });
abbrev pub enumerators_in_values_1 : List syntax.External
enumerators_in_values_1 = (syntax.ExternalDeclaration (syntax.SimpleDeclaration (specs (syntax.StorageSpec storage.Auto (at 1 0) ∷ [])) (declared (syntax.init_declarator (syntax.Named [] (name (codes "x") (at 6 1)) (suffixes [])) (syntax.an_initializer (syntax.Single (syntax.SizeofType (syntax.type_name (specs (syntax.Enum None syntax.none_of_specs (enumerators (syntax.enumerator (name (codes "x") (at 24 7)) syntax.no_expr ∷ [])) (at 17 5) ∷ [])) (syntax.Unnamed [] (suffixes []))) (at 10 3)))) ∷ []))) ∷ [])

-- void f(void) { auto x = sizeof(enum { x }); }
abbrev pub enumerators_in_values_2 : List syntax.External
enumerators_in_values_2 = (syntax.FunctionDefinition (specs (syntax.TypeSpec type.Void (at 1 0) ∷ [])) (syntax.Named [] (name (codes "f") (at 6 1)) (suffixes (syntax.FunctionSuffix (parameters (syntax.parameter (specs (syntax.TypeSpec type.Void (at 8 3) ∷ [])) (syntax.Unnamed [] (suffixes [])) (at 8 3) ∷ [])) false (at 7 2) ∷ []))) (syntax.block (block_items (syntax.DeclarationItem (syntax.SimpleDeclaration (specs (syntax.StorageSpec storage.Auto (at 16 6) ∷ [])) (declared (syntax.init_declarator (syntax.Named [] (name (codes "x") (at 21 7)) (suffixes [])) (syntax.an_initializer (syntax.Single (syntax.SizeofType (syntax.type_name (specs (syntax.Enum None syntax.none_of_specs (enumerators (syntax.enumerator (name (codes "x") (at 39 13)) syntax.no_expr ∷ [])) (at 32 11) ∷ [])) (syntax.Unnamed [] (suffixes []))) (at 25 9)))) ∷ []))) ∷ [])) (span (at 14 5) (at 45 17))) ∷ [])

-- auto x = sizeof(enum { x }) + y;
abbrev pub enumerators_in_values_3 : List syntax.External
enumerators_in_values_3 = (syntax.ExternalDeclaration (syntax.SimpleDeclaration (specs (syntax.StorageSpec storage.Auto (at 1 0) ∷ [])) (declared (syntax.init_declarator (syntax.Named [] (name (codes "x") (at 6 1)) (suffixes [])) (syntax.an_initializer (syntax.Single (syntax.Binary op.Add (syntax.SizeofType (syntax.type_name (specs (syntax.Enum None syntax.none_of_specs (enumerators (syntax.enumerator (name (codes "x") (at 24 7)) syntax.no_expr ∷ [])) (at 17 5) ∷ [])) (syntax.Unnamed [] (suffixes []))) (at 10 3)) (syntax.Identifier (name (codes "y") (at 31 11))) (at 29 10)))) ∷ []))) ∷ [])

-- auto x = sizeof(enum { x }) + x;
abbrev pub enumerators_in_values_4 : List syntax.External
enumerators_in_values_4 = (syntax.ExternalDeclaration (syntax.SimpleDeclaration (specs (syntax.StorageSpec storage.Auto (at 1 0) ∷ [])) (declared (syntax.init_declarator (syntax.Named [] (name (codes "x") (at 6 1)) (suffixes [])) (syntax.an_initializer (syntax.Single (syntax.Binary op.Add (syntax.SizeofType (syntax.type_name (specs (syntax.Enum None syntax.none_of_specs (enumerators (syntax.enumerator (name (codes "x") (at 24 7)) syntax.no_expr ∷ [])) (at 17 5) ∷ [])) (syntax.Unnamed [] (suffixes []))) (at 10 3)) (syntax.Identifier (name (codes "x") (at 31 11))) (at 29 10)))) ∷ []))) ∷ [])

-- auto x = y + sizeof(enum { x });
abbrev pub enumerators_in_values_5 : List syntax.External
enumerators_in_values_5 = (syntax.ExternalDeclaration (syntax.SimpleDeclaration (specs (syntax.StorageSpec storage.Auto (at 1 0) ∷ [])) (declared (syntax.init_declarator (syntax.Named [] (name (codes "x") (at 6 1)) (suffixes [])) (syntax.an_initializer (syntax.Single (syntax.Binary op.Add (syntax.Identifier (name (codes "y") (at 10 3))) (syntax.SizeofType (syntax.type_name (specs (syntax.Enum None syntax.none_of_specs (enumerators (syntax.enumerator (name (codes "x") (at 28 9)) syntax.no_expr ∷ [])) (at 21 7) ∷ [])) (syntax.Unnamed [] (suffixes []))) (at 14 5)) (at 12 4)))) ∷ []))) ∷ [])

-- auto x = x + sizeof(enum { x });
abbrev pub enumerators_in_values_6 : List syntax.External
enumerators_in_values_6 = (syntax.ExternalDeclaration (syntax.SimpleDeclaration (specs (syntax.StorageSpec storage.Auto (at 1 0) ∷ [])) (declared (syntax.init_declarator (syntax.Named [] (name (codes "x") (at 6 1)) (suffixes [])) (syntax.an_initializer (syntax.Single (syntax.Binary op.Add (syntax.Identifier (name (codes "x") (at 10 3))) (syntax.SizeofType (syntax.type_name (specs (syntax.Enum None syntax.none_of_specs (enumerators (syntax.enumerator (name (codes "x") (at 28 9)) syntax.no_expr ∷ [])) (at 21 7) ∷ [])) (syntax.Unnamed [] (suffixes []))) (at 14 5)) (at 12 4)))) ∷ []))) ∷ [])

-- void f(void) { int x; auto x = sizeof(enum { x }); }
abbrev pub enumerators_in_values_7 : List syntax.External
enumerators_in_values_7 = (syntax.FunctionDefinition (specs (syntax.TypeSpec type.Void (at 1 0) ∷ [])) (syntax.Named [] (name (codes "f") (at 6 1)) (suffixes (syntax.FunctionSuffix (parameters (syntax.parameter (specs (syntax.TypeSpec type.Void (at 8 3) ∷ [])) (syntax.Unnamed [] (suffixes [])) (at 8 3) ∷ [])) false (at 7 2) ∷ []))) (syntax.block (block_items (syntax.DeclarationItem (syntax.SimpleDeclaration (specs (syntax.TypeSpec type.Int (at 16 6) ∷ [])) (declared (syntax.init_declarator (syntax.Named [] (name (codes "x") (at 20 7)) (suffixes [])) syntax.no_initializer ∷ []))) ∷ syntax.DeclarationItem (syntax.SimpleDeclaration (specs (syntax.StorageSpec storage.Auto (at 23 9) ∷ [])) (declared (syntax.init_declarator (syntax.Named [] (name (codes "x") (at 28 10)) (suffixes [])) (syntax.an_initializer (syntax.Single (syntax.SizeofType (syntax.type_name (specs (syntax.Enum None syntax.none_of_specs (enumerators (syntax.enumerator (name (codes "x") (at 46 16)) syntax.no_expr ∷ [])) (at 39 14) ∷ [])) (syntax.Unnamed [] (suffixes []))) (at 32 12)))) ∷ []))) ∷ [])) (span (at 14 5) (at 52 20))) ∷ [])

-- constexpr int x = sizeof(enum { x });
abbrev pub enumerators_in_values_8 : List syntax.External
enumerators_in_values_8 = (syntax.ExternalDeclaration (syntax.SimpleDeclaration (specs (syntax.StorageSpec storage.Constexpr (at 1 0) ∷ syntax.TypeSpec type.Int (at 11 1) ∷ [])) (declared (syntax.init_declarator (syntax.Named [] (name (codes "x") (at 15 2)) (suffixes [])) (syntax.an_initializer (syntax.Single (syntax.SizeofType (syntax.type_name (specs (syntax.Enum None syntax.none_of_specs (enumerators (syntax.enumerator (name (codes "x") (at 33 8)) syntax.no_expr ∷ [])) (at 26 6) ∷ [])) (syntax.Unnamed [] (suffixes []))) (at 19 4)))) ∷ []))) ∷ [])

-- int x = sizeof(enum { x });
abbrev pub enumerators_in_values_9 : List syntax.External
enumerators_in_values_9 = (syntax.ExternalDeclaration (syntax.SimpleDeclaration (specs (syntax.TypeSpec type.Int (at 1 0) ∷ [])) (declared (syntax.init_declarator (syntax.Named [] (name (codes "x") (at 5 1)) (suffixes [])) (syntax.an_initializer (syntax.Single (syntax.SizeofType (syntax.type_name (specs (syntax.Enum None syntax.none_of_specs (enumerators (syntax.enumerator (name (codes "x") (at 23 7)) syntax.no_expr ∷ [])) (at 16 5) ∷ [])) (syntax.Unnamed [] (suffixes []))) (at 9 3)))) ∷ []))) ∷ [])

-- auto x = (int (*)(enum { x } p))0;
abbrev pub enumerators_in_values_10 : List syntax.External
enumerators_in_values_10 = (syntax.ExternalDeclaration (syntax.SimpleDeclaration (specs (syntax.StorageSpec storage.Auto (at 1 0) ∷ [])) (declared (syntax.init_declarator (syntax.Named [] (name (codes "x") (at 6 1)) (suffixes [])) (syntax.an_initializer (syntax.Single (syntax.Cast (syntax.type_name (specs (syntax.TypeSpec type.Int (at 11 4) ∷ [])) (syntax.Grouped [] (syntax.Unnamed (pointer (at 16 6) [] ∷ []) (suffixes [])) (suffixes (syntax.FunctionSuffix (parameters (syntax.parameter (specs (syntax.Enum None syntax.none_of_specs (enumerators (syntax.enumerator (name (codes "x") (at 26 11)) syntax.no_expr ∷ [])) (at 19 9) ∷ [])) (syntax.Named [] (name (codes "p") (at 30 13)) (suffixes [])) (at 19 9) ∷ [])) false (at 18 8) ∷ [])) (at 15 5))) (syntax.Constant (pos 0) basic.Int (at 33 16)) (at 10 3)))) ∷ []))) ∷ [])

-- auto x = sizeof(enum { A, B });
abbrev pub enumerators_in_values_11 : List syntax.External
enumerators_in_values_11 = (syntax.ExternalDeclaration (syntax.SimpleDeclaration (specs (syntax.StorageSpec storage.Auto (at 1 0) ∷ [])) (declared (syntax.init_declarator (syntax.Named [] (name (codes "x") (at 6 1)) (suffixes [])) (syntax.an_initializer (syntax.Single (syntax.SizeofType (syntax.type_name (specs (syntax.Enum None syntax.none_of_specs (enumerators (syntax.enumerator (name (codes "A") (at 24 7)) syntax.no_expr ∷ syntax.enumerator (name (codes "B") (at 27 9)) syntax.no_expr ∷ [])) (at 17 5) ∷ [])) (syntax.Unnamed [] (suffixes []))) (at 10 3)))) ∷ []))) ∷ [])
