-- initializers by form: units of one line, as trees.
use Rattle.std.specs.Prelude.{List, [], ◌∷◌, None, false, pos, codes}
use Rattle.model_grammar.specs.SyntaxForms as syntax
use Rattle.model_types.specs.declared.numbers.Basic.TheVariants as basic
use Rattle.model_types.specs.declared.numbers.BinOp.TheVariants as op
use Rattle.model_grammar.specs.declared.syntax.StorageWord.TheVariants as storage
use Rattle.model_grammar.specs.declared.syntax.TypeWord.TheVariants as type
use Rattle.model_grammar.specs.declared.syntax.QualifierWord.TheVariants as qual
use Rattle.checking_units.specs.Parts.{at, name, specs, qualifier, pointer, suffixes, parameters, enumerators, declared, items, designators, block_items, span}

-- void g(void) { (void){ 1 }; }
abbrev pub initializers_by_form_25 : List syntax.External
initializers_by_form_25 = (syntax.FunctionDefinition (specs (syntax.TypeSpec type.Void (at 1 0) ∷ [])) (syntax.Named [] (name (codes "g") (at 6 1)) (suffixes (syntax.FunctionSuffix (parameters (syntax.parameter (specs (syntax.TypeSpec type.Void (at 8 3) ∷ [])) (syntax.Unnamed [] (suffixes [])) (at 8 3) ∷ [])) false (at 7 2) ∷ []))) (syntax.block (block_items (syntax.StatementItem (syntax.ExpressionStatement (syntax.an_expr (syntax.CompoundLiteral (syntax.type_name (specs (syntax.TypeSpec type.Void (at 17 7) ∷ [])) (syntax.Unnamed [] (suffixes []))) (syntax.braces (items (syntax.item (designators []) (syntax.Single (syntax.Constant (pos 1) basic.Int (at 24 10))) ∷ [])) (at 22 9)) (at 16 6))) (span (at 16 6) (at 27 12))) ∷ [])) (span (at 14 5) (at 29 13))) ∷ [])

-- typedef int F(void); void g(void) { (F){ 1 }; }
abbrev pub initializers_by_form_26 : List syntax.External
initializers_by_form_26 = (syntax.ExternalDeclaration (syntax.SimpleDeclaration (specs (syntax.StorageSpec storage.Typedef (at 1 0) ∷ syntax.TypeSpec type.Int (at 9 1) ∷ [])) (declared (syntax.init_declarator (syntax.Named [] (name (codes "F") (at 13 2)) (suffixes (syntax.FunctionSuffix (parameters (syntax.parameter (specs (syntax.TypeSpec type.Void (at 15 4) ∷ [])) (syntax.Unnamed [] (suffixes [])) (at 15 4) ∷ [])) false (at 14 3) ∷ []))) syntax.no_initializer ∷ []))) ∷ syntax.FunctionDefinition (specs (syntax.TypeSpec type.Void (at 22 7) ∷ [])) (syntax.Named [] (name (codes "g") (at 27 8)) (suffixes (syntax.FunctionSuffix (parameters (syntax.parameter (specs (syntax.TypeSpec type.Void (at 29 10) ∷ [])) (syntax.Unnamed [] (suffixes [])) (at 29 10) ∷ [])) false (at 28 9) ∷ []))) (syntax.block (block_items (syntax.StatementItem (syntax.ExpressionStatement (syntax.an_expr (syntax.CompoundLiteral (syntax.type_name (specs (syntax.TypedefName (name (codes "F") (at 38 14)) ∷ [])) (syntax.Unnamed [] (suffixes []))) (syntax.braces (items (syntax.item (designators []) (syntax.Single (syntax.Constant (pos 1) basic.Int (at 42 17))) ∷ [])) (at 40 16)) (at 37 13))) (span (at 37 13) (at 45 19))) ∷ [])) (span (at 35 12) (at 47 20))) ∷ [])

-- void g(int n) { static int *p = (int[]){ 1 }; }
abbrev pub initializers_by_form_27 : List syntax.External
initializers_by_form_27 = (syntax.FunctionDefinition (specs (syntax.TypeSpec type.Void (at 1 0) ∷ [])) (syntax.Named [] (name (codes "g") (at 6 1)) (suffixes (syntax.FunctionSuffix (parameters (syntax.parameter (specs (syntax.TypeSpec type.Int (at 8 3) ∷ [])) (syntax.Named [] (name (codes "n") (at 12 4)) (suffixes [])) (at 8 3) ∷ [])) false (at 7 2) ∷ []))) (syntax.block (block_items (syntax.DeclarationItem (syntax.SimpleDeclaration (specs (syntax.StorageSpec storage.Static (at 17 7) ∷ syntax.TypeSpec type.Int (at 24 8) ∷ [])) (declared (syntax.init_declarator (syntax.Named (pointer (at 28 9) [] ∷ []) (name (codes "p") (at 29 10)) (suffixes [])) (syntax.an_initializer (syntax.Single (syntax.CompoundLiteral (syntax.type_name (specs (syntax.TypeSpec type.Int (at 34 13) ∷ [])) (syntax.Unnamed [] (suffixes (syntax.ArraySuffix syntax.no_expr (at 37 14) ∷ [])))) (syntax.braces (items (syntax.item (designators []) (syntax.Single (syntax.Constant (pos 1) basic.Int (at 42 18))) ∷ [])) (at 40 17)) (at 33 12)))) ∷ []))) ∷ [])) (span (at 15 6) (at 47 21))) ∷ [])

-- constexpr int x = 1, y = x + 1; static_assert(y == 2); int a[y]; constexpr unsigned char c = 255; constexpr long l = c; enum { A = c };
abbrev pub initializers_by_form_28 : List syntax.External
initializers_by_form_28 = (syntax.ExternalDeclaration (syntax.SimpleDeclaration (specs (syntax.StorageSpec storage.Constexpr (at 1 0) ∷ syntax.TypeSpec type.Int (at 11 1) ∷ [])) (declared (syntax.init_declarator (syntax.Named [] (name (codes "x") (at 15 2)) (suffixes [])) (syntax.an_initializer (syntax.Single (syntax.Constant (pos 1) basic.Int (at 19 4)))) ∷ syntax.init_declarator (syntax.Named [] (name (codes "y") (at 22 6)) (suffixes [])) (syntax.an_initializer (syntax.Single (syntax.Binary op.Add (syntax.Identifier (name (codes "x") (at 26 8))) (syntax.Constant (pos 1) basic.Int (at 30 10)) (at 28 9)))) ∷ []))) ∷ syntax.ExternalDeclaration (syntax.AssertDeclaration (syntax.asserted (syntax.Binary op.Equal (syntax.Identifier (name (codes "y") (at 47 14))) (syntax.Constant (pos 2) basic.Int (at 52 16)) (at 49 15)) None (at 33 12))) ∷ syntax.ExternalDeclaration (syntax.SimpleDeclaration (specs (syntax.TypeSpec type.Int (at 56 19) ∷ [])) (declared (syntax.init_declarator (syntax.Named [] (name (codes "a") (at 60 20)) (suffixes (syntax.ArraySuffix (syntax.an_expr (syntax.Identifier (name (codes "y") (at 62 22)))) (at 61 21) ∷ []))) syntax.no_initializer ∷ []))) ∷ syntax.ExternalDeclaration (syntax.SimpleDeclaration (specs (syntax.StorageSpec storage.Constexpr (at 66 25) ∷ syntax.TypeSpec type.Unsigned (at 76 26) ∷ syntax.TypeSpec type.Char (at 85 27) ∷ [])) (declared (syntax.init_declarator (syntax.Named [] (name (codes "c") (at 90 28)) (suffixes [])) (syntax.an_initializer (syntax.Single (syntax.Constant (pos 255) basic.Int (at 94 30)))) ∷ []))) ∷ syntax.ExternalDeclaration (syntax.SimpleDeclaration (specs (syntax.StorageSpec storage.Constexpr (at 99 32) ∷ syntax.TypeSpec type.Long (at 109 33) ∷ [])) (declared (syntax.init_declarator (syntax.Named [] (name (codes "l") (at 114 34)) (suffixes [])) (syntax.an_initializer (syntax.Single (syntax.Identifier (name (codes "c") (at 118 36))))) ∷ []))) ∷ syntax.ExternalDeclaration (syntax.SimpleDeclaration (specs (syntax.Enum None syntax.none_of_specs (enumerators (syntax.enumerator (name (codes "A") (at 128 40)) (syntax.an_expr (syntax.Identifier (name (codes "c") (at 132 42)))) ∷ [])) (at 121 38) ∷ [])) (declared [])) ∷ [])

-- constexpr int *p = nullptr, *q = 0; constexpr void *r = (void *)0;
abbrev pub initializers_by_form_29 : List syntax.External
initializers_by_form_29 = (syntax.ExternalDeclaration (syntax.SimpleDeclaration (specs (syntax.StorageSpec storage.Constexpr (at 1 0) ∷ syntax.TypeSpec type.Int (at 11 1) ∷ [])) (declared (syntax.init_declarator (syntax.Named (pointer (at 15 2) [] ∷ []) (name (codes "p") (at 16 3)) (suffixes [])) (syntax.an_initializer (syntax.Single (syntax.Nullptr (at 20 5)))) ∷ syntax.init_declarator (syntax.Named (pointer (at 29 7) [] ∷ []) (name (codes "q") (at 30 8)) (suffixes [])) (syntax.an_initializer (syntax.Single (syntax.Constant (pos 0) basic.Int (at 34 10)))) ∷ []))) ∷ syntax.ExternalDeclaration (syntax.SimpleDeclaration (specs (syntax.StorageSpec storage.Constexpr (at 37 12) ∷ syntax.TypeSpec type.Void (at 47 13) ∷ [])) (declared (syntax.init_declarator (syntax.Named (pointer (at 52 14) [] ∷ []) (name (codes "r") (at 53 15)) (suffixes [])) (syntax.an_initializer (syntax.Single (syntax.Cast (syntax.type_name (specs (syntax.TypeSpec type.Void (at 58 18) ∷ [])) (syntax.Unnamed (pointer (at 63 19) [] ∷ []) (suffixes []))) (syntax.Constant (pos 0) basic.Int (at 65 21)) (at 57 17)))) ∷ []))) ∷ [])

-- constexpr int x = { "a" };
abbrev pub initializers_by_form_30 : List syntax.External
initializers_by_form_30 = (syntax.ExternalDeclaration (syntax.SimpleDeclaration (specs (syntax.StorageSpec storage.Constexpr (at 1 0) ∷ syntax.TypeSpec type.Int (at 11 1) ∷ [])) (declared (syntax.init_declarator (syntax.Named [] (name (codes "x") (at 15 2)) (suffixes [])) (syntax.an_initializer (syntax.Braced (syntax.braces (items (syntax.item (designators []) (syntax.Single (syntax.Text (codes "a") (at 21 5))) ∷ [])) (at 19 4)))) ∷ []))) ∷ [])

-- char a[] = { [2000000000] = 1 };
abbrev pub initializers_by_form_31 : List syntax.External
initializers_by_form_31 = (syntax.ExternalDeclaration (syntax.SimpleDeclaration (specs (syntax.TypeSpec type.Char (at 1 0) ∷ [])) (declared (syntax.init_declarator (syntax.Named [] (name (codes "a") (at 6 1)) (suffixes (syntax.ArraySuffix syntax.no_expr (at 7 2) ∷ []))) (syntax.an_initializer (syntax.Braced (syntax.braces (items (syntax.item (designators (syntax.ElementDesignator (syntax.Constant (pos 2000000000) basic.Int (at 15 7)) (at 14 6) ∷ [])) (syntax.Single (syntax.Constant (pos 1) basic.Int (at 29 10))) ∷ [])) (at 12 5)))) ∷ []))) ∷ [])

-- int n; int a[2] = { [n] = 1 };
abbrev pub initializers_by_form_32 : List syntax.External
initializers_by_form_32 = (syntax.ExternalDeclaration (syntax.SimpleDeclaration (specs (syntax.TypeSpec type.Int (at 1 0) ∷ [])) (declared (syntax.init_declarator (syntax.Named [] (name (codes "n") (at 5 1)) (suffixes [])) syntax.no_initializer ∷ []))) ∷ syntax.ExternalDeclaration (syntax.SimpleDeclaration (specs (syntax.TypeSpec type.Int (at 8 3) ∷ [])) (declared (syntax.init_declarator (syntax.Named [] (name (codes "a") (at 12 4)) (suffixes (syntax.ArraySuffix (syntax.an_expr (syntax.Constant (pos 2) basic.Int (at 14 6))) (at 13 5) ∷ []))) (syntax.an_initializer (syntax.Braced (syntax.braces (items (syntax.item (designators (syntax.ElementDesignator (syntax.Identifier (name (codes "n") (at 22 11))) (at 21 10) ∷ [])) (syntax.Single (syntax.Constant (pos 1) basic.Int (at 27 14))) ∷ [])) (at 19 9)))) ∷ []))) ∷ [])

-- int a[2]; const int *p; void g(void) { int *q[2] = { a, p }; }
abbrev pub initializers_by_form_33 : List syntax.External
initializers_by_form_33 = (syntax.ExternalDeclaration (syntax.SimpleDeclaration (specs (syntax.TypeSpec type.Int (at 1 0) ∷ [])) (declared (syntax.init_declarator (syntax.Named [] (name (codes "a") (at 5 1)) (suffixes (syntax.ArraySuffix (syntax.an_expr (syntax.Constant (pos 2) basic.Int (at 7 3))) (at 6 2) ∷ []))) syntax.no_initializer ∷ []))) ∷ syntax.ExternalDeclaration (syntax.SimpleDeclaration (specs (syntax.QualifierSpec (qualifier qual.Const (at 11 6)) ∷ syntax.TypeSpec type.Int (at 17 7) ∷ [])) (declared (syntax.init_declarator (syntax.Named (pointer (at 21 8) [] ∷ []) (name (codes "p") (at 22 9)) (suffixes [])) syntax.no_initializer ∷ []))) ∷ syntax.FunctionDefinition (specs (syntax.TypeSpec type.Void (at 25 11) ∷ [])) (syntax.Named [] (name (codes "g") (at 30 12)) (suffixes (syntax.FunctionSuffix (parameters (syntax.parameter (specs (syntax.TypeSpec type.Void (at 32 14) ∷ [])) (syntax.Unnamed [] (suffixes [])) (at 32 14) ∷ [])) false (at 31 13) ∷ []))) (syntax.block (block_items (syntax.DeclarationItem (syntax.SimpleDeclaration (specs (syntax.TypeSpec type.Int (at 40 17) ∷ [])) (declared (syntax.init_declarator (syntax.Named (pointer (at 44 18) [] ∷ []) (name (codes "q") (at 45 19)) (suffixes (syntax.ArraySuffix (syntax.an_expr (syntax.Constant (pos 2) basic.Int (at 47 21))) (at 46 20) ∷ []))) (syntax.an_initializer (syntax.Braced (syntax.braces (items (syntax.item (designators []) (syntax.Single (syntax.Identifier (name (codes "a") (at 54 25)))) ∷ syntax.item (designators []) (syntax.Single (syntax.Identifier (name (codes "p") (at 57 27)))) ∷ [])) (at 52 24)))) ∷ []))) ∷ [])) (span (at 38 16) (at 62 30))) ∷ [])

-- void v(void); void g(void) { int a[v()]; }
abbrev pub initializers_by_form_34 : List syntax.External
initializers_by_form_34 = (syntax.ExternalDeclaration (syntax.SimpleDeclaration (specs (syntax.TypeSpec type.Void (at 1 0) ∷ [])) (declared (syntax.init_declarator (syntax.Named [] (name (codes "v") (at 6 1)) (suffixes (syntax.FunctionSuffix (parameters (syntax.parameter (specs (syntax.TypeSpec type.Void (at 8 3) ∷ [])) (syntax.Unnamed [] (suffixes [])) (at 8 3) ∷ [])) false (at 7 2) ∷ []))) syntax.no_initializer ∷ []))) ∷ syntax.FunctionDefinition (specs (syntax.TypeSpec type.Void (at 15 6) ∷ [])) (syntax.Named [] (name (codes "g") (at 20 7)) (suffixes (syntax.FunctionSuffix (parameters (syntax.parameter (specs (syntax.TypeSpec type.Void (at 22 9) ∷ [])) (syntax.Unnamed [] (suffixes [])) (at 22 9) ∷ [])) false (at 21 8) ∷ []))) (syntax.block (block_items (syntax.DeclarationItem (syntax.SimpleDeclaration (specs (syntax.TypeSpec type.Int (at 30 12) ∷ [])) (declared (syntax.init_declarator (syntax.Named [] (name (codes "a") (at 34 13)) (suffixes (syntax.ArraySuffix (syntax.an_expr (syntax.Call (syntax.Identifier (name (codes "v") (at 36 15))) (syntax.exprs []) (at 37 16))) (at 35 14) ∷ []))) syntax.no_initializer ∷ []))) ∷ [])) (span (at 28 11) (at 42 20))) ∷ [])
