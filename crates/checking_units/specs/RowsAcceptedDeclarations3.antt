-- accepted: declarations: units of one line, as trees.
use Rattle.std.specs.Prelude.{List, [], ◌∷◌, None, false, pos, codes}
use Rattle.model_grammar.specs.SyntaxForms as syntax
use Rattle.model_types.specs.declared.numbers.Basic.TheVariants as basic
use Rattle.model_types.specs.declared.numbers.BinOp.TheVariants as op
use Rattle.model_grammar.specs.declared.syntax.StorageWord.TheVariants as storage
use Rattle.model_grammar.specs.declared.syntax.TypeWord.TheVariants as type
use Rattle.model_grammar.specs.declared.syntax.QualifierWord.TheVariants as qual
use Rattle.model_grammar.specs.declared.syntax.PrefixOp.TheVariants as prefix
use Rattle.checking_units.specs.Parts.{at, name, specs, qualifier, pointer, suffixes, parameters, enumerators, declared, items, designators, block_items, span}

-- typedef char *P; extern _Owner P x;
abbrev pub accepted_declarations_49 : List syntax.External
accepted_declarations_49 = (syntax.ExternalDeclaration (syntax.SimpleDeclaration (specs (syntax.StorageSpec storage.Typedef (at 1 0) ∷ syntax.TypeSpec type.Char (at 9 1) ∷ [])) (declared (syntax.init_declarator (syntax.Named (pointer (at 14 2) [] ∷ []) (name (codes "P") (at 15 3)) (suffixes [])) syntax.no_initializer ∷ []))) ∷ syntax.ExternalDeclaration (syntax.SimpleDeclaration (specs (syntax.StorageSpec storage.Extern (at 18 5) ∷ syntax.QualifierSpec (qualifier qual.Owner (at 25 6)) ∷ syntax.TypedefName (name (codes "P") (at 32 7)) ∷ [])) (declared (syntax.init_declarator (syntax.Named [] (name (codes "x") (at 34 8)) (suffixes [])) syntax.no_initializer ∷ []))) ∷ [])

-- typedef char *A[2]; extern _Owner A x;
abbrev pub accepted_declarations_50 : List syntax.External
accepted_declarations_50 = (syntax.ExternalDeclaration (syntax.SimpleDeclaration (specs (syntax.StorageSpec storage.Typedef (at 1 0) ∷ syntax.TypeSpec type.Char (at 9 1) ∷ [])) (declared (syntax.init_declarator (syntax.Named (pointer (at 14 2) [] ∷ []) (name (codes "A") (at 15 3)) (suffixes (syntax.ArraySuffix (syntax.an_expr (syntax.Constant (pos 2) basic.Int (at 17 5))) (at 16 4) ∷ []))) syntax.no_initializer ∷ []))) ∷ syntax.ExternalDeclaration (syntax.SimpleDeclaration (specs (syntax.StorageSpec storage.Extern (at 21 8) ∷ syntax.QualifierSpec (qualifier qual.Owner (at 28 9)) ∷ syntax.TypedefName (name (codes "A") (at 35 10)) ∷ [])) (declared (syntax.init_declarator (syntax.Named [] (name (codes "x") (at 37 11)) (suffixes [])) syntax.no_initializer ∷ []))) ∷ [])

-- typedef int F(void); _View F f; const F g;
abbrev pub accepted_declarations_51 : List syntax.External
accepted_declarations_51 = (syntax.ExternalDeclaration (syntax.SimpleDeclaration (specs (syntax.StorageSpec storage.Typedef (at 1 0) ∷ syntax.TypeSpec type.Int (at 9 1) ∷ [])) (declared (syntax.init_declarator (syntax.Named [] (name (codes "F") (at 13 2)) (suffixes (syntax.FunctionSuffix (parameters (syntax.parameter (specs (syntax.TypeSpec type.Void (at 15 4) ∷ [])) (syntax.Unnamed [] (suffixes [])) (at 15 4) ∷ [])) false (at 14 3) ∷ []))) syntax.no_initializer ∷ []))) ∷ syntax.ExternalDeclaration (syntax.SimpleDeclaration (specs (syntax.QualifierSpec (qualifier qual.View (at 22 7)) ∷ syntax.TypedefName (name (codes "F") (at 28 8)) ∷ [])) (declared (syntax.init_declarator (syntax.Named [] (name (codes "f") (at 30 9)) (suffixes [])) syntax.no_initializer ∷ []))) ∷ syntax.ExternalDeclaration (syntax.SimpleDeclaration (specs (syntax.QualifierSpec (qualifier qual.Const (at 33 11)) ∷ syntax.TypedefName (name (codes "F") (at 39 12)) ∷ [])) (declared (syntax.init_declarator (syntax.Named [] (name (codes "g") (at 41 13)) (suffixes [])) syntax.no_initializer ∷ []))) ∷ [])

-- restrict int x;
abbrev pub accepted_declarations_52 : List syntax.External
accepted_declarations_52 = (syntax.ExternalDeclaration (syntax.SimpleDeclaration (specs (syntax.QualifierSpec (qualifier qual.Restrict (at 1 0)) ∷ syntax.TypeSpec type.Int (at 10 1) ∷ [])) (declared (syntax.init_declarator (syntax.Named [] (name (codes "x") (at 14 2)) (suffixes [])) syntax.no_initializer ∷ []))) ∷ [])

-- void *g(void); void f(void) { auto _Owner p = g(); }
abbrev pub accepted_declarations_53 : List syntax.External
accepted_declarations_53 = (syntax.ExternalDeclaration (syntax.SimpleDeclaration (specs (syntax.TypeSpec type.Void (at 1 0) ∷ [])) (declared (syntax.init_declarator (syntax.Named (pointer (at 6 1) [] ∷ []) (name (codes "g") (at 7 2)) (suffixes (syntax.FunctionSuffix (parameters (syntax.parameter (specs (syntax.TypeSpec type.Void (at 9 4) ∷ [])) (syntax.Unnamed [] (suffixes [])) (at 9 4) ∷ [])) false (at 8 3) ∷ []))) syntax.no_initializer ∷ []))) ∷ syntax.FunctionDefinition (specs (syntax.TypeSpec type.Void (at 16 7) ∷ [])) (syntax.Named [] (name (codes "f") (at 21 8)) (suffixes (syntax.FunctionSuffix (parameters (syntax.parameter (specs (syntax.TypeSpec type.Void (at 23 10) ∷ [])) (syntax.Unnamed [] (suffixes [])) (at 23 10) ∷ [])) false (at 22 9) ∷ []))) (syntax.block (block_items (syntax.DeclarationItem (syntax.SimpleDeclaration (specs (syntax.StorageSpec storage.Auto (at 31 13) ∷ syntax.QualifierSpec (qualifier qual.Owner (at 36 14)) ∷ [])) (declared (syntax.init_declarator (syntax.Named [] (name (codes "p") (at 43 15)) (suffixes [])) (syntax.an_initializer (syntax.Single (syntax.Call (syntax.Identifier (name (codes "g") (at 47 17))) (syntax.exprs []) (at 48 18)))) ∷ []))) ∷ [])) (span (at 29 12) (at 52 21))) ∷ [])

-- auto x [[a]] = 1;
abbrev pub accepted_declarations_54 : List syntax.External
accepted_declarations_54 = (syntax.ExternalDeclaration (syntax.SimpleDeclaration (specs (syntax.StorageSpec storage.Auto (at 1 0) ∷ [])) (declared (syntax.init_declarator (syntax.Named [] (name (codes "x") (at 6 1)) (suffixes [])) (syntax.an_initializer (syntax.Single (syntax.Constant (pos 1) basic.Int (at 16 8)))) ∷ []))) ∷ [])

-- int x; void f(void) { auto y = x; }
abbrev pub accepted_declarations_55 : List syntax.External
accepted_declarations_55 = (syntax.ExternalDeclaration (syntax.SimpleDeclaration (specs (syntax.TypeSpec type.Int (at 1 0) ∷ [])) (declared (syntax.init_declarator (syntax.Named [] (name (codes "x") (at 5 1)) (suffixes [])) syntax.no_initializer ∷ []))) ∷ syntax.FunctionDefinition (specs (syntax.TypeSpec type.Void (at 8 3) ∷ [])) (syntax.Named [] (name (codes "f") (at 13 4)) (suffixes (syntax.FunctionSuffix (parameters (syntax.parameter (specs (syntax.TypeSpec type.Void (at 15 6) ∷ [])) (syntax.Unnamed [] (suffixes [])) (at 15 6) ∷ [])) false (at 14 5) ∷ []))) (syntax.block (block_items (syntax.DeclarationItem (syntax.SimpleDeclaration (specs (syntax.StorageSpec storage.Auto (at 23 9) ∷ [])) (declared (syntax.init_declarator (syntax.Named [] (name (codes "y") (at 28 10)) (suffixes [])) (syntax.an_initializer (syntax.Single (syntax.Identifier (name (codes "x") (at 32 12))))) ∷ []))) ∷ [])) (span (at 21 8) (at 35 14))) ∷ [])

-- int g(void); void f(void) { auto p = g; p(); }
abbrev pub accepted_declarations_56 : List syntax.External
accepted_declarations_56 = (syntax.ExternalDeclaration (syntax.SimpleDeclaration (specs (syntax.TypeSpec type.Int (at 1 0) ∷ [])) (declared (syntax.init_declarator (syntax.Named [] (name (codes "g") (at 5 1)) (suffixes (syntax.FunctionSuffix (parameters (syntax.parameter (specs (syntax.TypeSpec type.Void (at 7 3) ∷ [])) (syntax.Unnamed [] (suffixes [])) (at 7 3) ∷ [])) false (at 6 2) ∷ []))) syntax.no_initializer ∷ []))) ∷ syntax.FunctionDefinition (specs (syntax.TypeSpec type.Void (at 14 6) ∷ [])) (syntax.Named [] (name (codes "f") (at 19 7)) (suffixes (syntax.FunctionSuffix (parameters (syntax.parameter (specs (syntax.TypeSpec type.Void (at 21 9) ∷ [])) (syntax.Unnamed [] (suffixes [])) (at 21 9) ∷ [])) false (at 20 8) ∷ []))) (syntax.block (block_items (syntax.DeclarationItem (syntax.SimpleDeclaration (specs (syntax.StorageSpec storage.Auto (at 29 12) ∷ [])) (declared (syntax.init_declarator (syntax.Named [] (name (codes "p") (at 34 13)) (suffixes [])) (syntax.an_initializer (syntax.Single (syntax.Identifier (name (codes "g") (at 38 15))))) ∷ []))) ∷ syntax.StatementItem (syntax.ExpressionStatement (syntax.an_expr (syntax.Call (syntax.Identifier (name (codes "p") (at 41 17))) (syntax.exprs []) (at 42 18))) (span (at 41 17) (at 44 20))) ∷ [])) (span (at 27 11) (at 46 21))) ∷ [])

-- void f(void) { auto p = "ab"; int a[sizeof p == 8 ? 1 : -1]; }
abbrev pub accepted_declarations_57 : List syntax.External
accepted_declarations_57 = (syntax.FunctionDefinition (specs (syntax.TypeSpec type.Void (at 1 0) ∷ [])) (syntax.Named [] (name (codes "f") (at 6 1)) (suffixes (syntax.FunctionSuffix (parameters (syntax.parameter (specs (syntax.TypeSpec type.Void (at 8 3) ∷ [])) (syntax.Unnamed [] (suffixes [])) (at 8 3) ∷ [])) false (at 7 2) ∷ []))) (syntax.block (block_items (syntax.DeclarationItem (syntax.SimpleDeclaration (specs (syntax.StorageSpec storage.Auto (at 16 6) ∷ [])) (declared (syntax.init_declarator (syntax.Named [] (name (codes "p") (at 21 7)) (suffixes [])) (syntax.an_initializer (syntax.Single (syntax.Text (codes "ab") (at 25 9)))) ∷ []))) ∷ syntax.DeclarationItem (syntax.SimpleDeclaration (specs (syntax.TypeSpec type.Int (at 31 11) ∷ [])) (declared (syntax.init_declarator (syntax.Named [] (name (codes "a") (at 35 12)) (suffixes (syntax.ArraySuffix (syntax.an_expr (syntax.Conditional (syntax.Binary op.Equal (syntax.SizeofExpr (syntax.Identifier (name (codes "p") (at 44 15))) (at 37 14)) (syntax.Constant (pos 8) basic.Int (at 49 17)) (at 46 16)) (syntax.Constant (pos 1) basic.Int (at 53 19)) (syntax.Unary prefix.Minus (syntax.Constant (pos 1) basic.Int (at 58 22)) (at 57 21)) (at 51 18))) (at 36 13) ∷ []))) syntax.no_initializer ∷ []))) ∷ [])) (span (at 14 5) (at 62 25))) ∷ [])

-- const int c = 1; void f(void) { auto x = c; x = 2; }
abbrev pub accepted_declarations_58 : List syntax.External
accepted_declarations_58 = (syntax.ExternalDeclaration (syntax.SimpleDeclaration (specs (syntax.QualifierSpec (qualifier qual.Const (at 1 0)) ∷ syntax.TypeSpec type.Int (at 7 1) ∷ [])) (declared (syntax.init_declarator (syntax.Named [] (name (codes "c") (at 11 2)) (suffixes [])) (syntax.an_initializer (syntax.Single (syntax.Constant (pos 1) basic.Int (at 15 4)))) ∷ []))) ∷ syntax.FunctionDefinition (specs (syntax.TypeSpec type.Void (at 18 6) ∷ [])) (syntax.Named [] (name (codes "f") (at 23 7)) (suffixes (syntax.FunctionSuffix (parameters (syntax.parameter (specs (syntax.TypeSpec type.Void (at 25 9) ∷ [])) (syntax.Unnamed [] (suffixes [])) (at 25 9) ∷ [])) false (at 24 8) ∷ []))) (syntax.block (block_items (syntax.DeclarationItem (syntax.SimpleDeclaration (specs (syntax.StorageSpec storage.Auto (at 33 12) ∷ [])) (declared (syntax.init_declarator (syntax.Named [] (name (codes "x") (at 38 13)) (suffixes [])) (syntax.an_initializer (syntax.Single (syntax.Identifier (name (codes "c") (at 42 15))))) ∷ []))) ∷ syntax.StatementItem (syntax.ExpressionStatement (syntax.an_expr (syntax.Assign (syntax.Identifier (name (codes "x") (at 45 17))) (syntax.Constant (pos 2) basic.Int (at 49 19)) (at 47 18))) (span (at 45 17) (at 50 20))) ∷ [])) (span (at 31 11) (at 52 21))) ∷ [])

-- constexpr int x = {}; int a[x == 0 ? 1 : -1];
abbrev pub accepted_declarations_59 : List syntax.External
accepted_declarations_59 = (syntax.ExternalDeclaration (syntax.SimpleDeclaration (specs (syntax.StorageSpec storage.Constexpr (at 1 0) ∷ syntax.TypeSpec type.Int (at 11 1) ∷ [])) (declared (syntax.init_declarator (syntax.Named [] (name (codes "x") (at 15 2)) (suffixes [])) (syntax.an_initializer (syntax.Braced (syntax.braces (items []) (at 19 4)))) ∷ []))) ∷ syntax.ExternalDeclaration (syntax.SimpleDeclaration (specs (syntax.TypeSpec type.Int (at 23 7) ∷ [])) (declared (syntax.init_declarator (syntax.Named [] (name (codes "a") (at 27 8)) (suffixes (syntax.ArraySuffix (syntax.an_expr (syntax.Conditional (syntax.Binary op.Equal (syntax.Identifier (name (codes "x") (at 29 10))) (syntax.Constant (pos 0) basic.Int (at 34 12)) (at 31 11)) (syntax.Constant (pos 1) basic.Int (at 38 14)) (syntax.Unary prefix.Minus (syntax.Constant (pos 1) basic.Int (at 43 17)) (at 42 16)) (at 36 13))) (at 28 9) ∷ []))) syntax.no_initializer ∷ []))) ∷ [])

-- constexpr int x = {5}; int a[x == 5 ? 1 : -1];
abbrev pub accepted_declarations_60 : List syntax.External
accepted_declarations_60 = (syntax.ExternalDeclaration (syntax.SimpleDeclaration (specs (syntax.StorageSpec storage.Constexpr (at 1 0) ∷ syntax.TypeSpec type.Int (at 11 1) ∷ [])) (declared (syntax.init_declarator (syntax.Named [] (name (codes "x") (at 15 2)) (suffixes [])) (syntax.an_initializer (syntax.Braced (syntax.braces (items (syntax.item (designators []) (syntax.Single (syntax.Constant (pos 5) basic.Int (at 20 5))) ∷ [])) (at 19 4)))) ∷ []))) ∷ syntax.ExternalDeclaration (syntax.SimpleDeclaration (specs (syntax.TypeSpec type.Int (at 24 8) ∷ [])) (declared (syntax.init_declarator (syntax.Named [] (name (codes "a") (at 28 9)) (suffixes (syntax.ArraySuffix (syntax.an_expr (syntax.Conditional (syntax.Binary op.Equal (syntax.Identifier (name (codes "x") (at 30 11))) (syntax.Constant (pos 5) basic.Int (at 35 13)) (at 32 12)) (syntax.Constant (pos 1) basic.Int (at 39 15)) (syntax.Unary prefix.Minus (syntax.Constant (pos 1) basic.Int (at 44 18)) (at 43 17)) (at 37 14))) (at 29 10) ∷ []))) syntax.no_initializer ∷ []))) ∷ [])

-- constexpr int *p = nullptr; constexpr int *q = 0; constexpr void *r = {};
abbrev pub accepted_declarations_61 : List syntax.External
accepted_declarations_61 = (syntax.ExternalDeclaration (syntax.SimpleDeclaration (specs (syntax.StorageSpec storage.Constexpr (at 1 0) ∷ syntax.TypeSpec type.Int (at 11 1) ∷ [])) (declared (syntax.init_declarator (syntax.Named (pointer (at 15 2) [] ∷ []) (name (codes "p") (at 16 3)) (suffixes [])) (syntax.an_initializer (syntax.Single (syntax.Nullptr (at 20 5)))) ∷ []))) ∷ syntax.ExternalDeclaration (syntax.SimpleDeclaration (specs (syntax.StorageSpec storage.Constexpr (at 29 7) ∷ syntax.TypeSpec type.Int (at 39 8) ∷ [])) (declared (syntax.init_declarator (syntax.Named (pointer (at 43 9) [] ∷ []) (name (codes "q") (at 44 10)) (suffixes [])) (syntax.an_initializer (syntax.Single (syntax.Constant (pos 0) basic.Int (at 48 12)))) ∷ []))) ∷ syntax.ExternalDeclaration (syntax.SimpleDeclaration (specs (syntax.StorageSpec storage.Constexpr (at 51 14) ∷ syntax.TypeSpec type.Void (at 61 15) ∷ [])) (declared (syntax.init_declarator (syntax.Named (pointer (at 66 16) [] ∷ []) (name (codes "r") (at 67 17)) (suffixes [])) (syntax.an_initializer (syntax.Braced (syntax.braces (items []) (at 71 19)))) ∷ []))) ∷ [])

-- constexpr auto x = 5; int a[x];
abbrev pub accepted_declarations_62 : List syntax.External
accepted_declarations_62 = (syntax.ExternalDeclaration (syntax.SimpleDeclaration (specs (syntax.StorageSpec storage.Constexpr (at 1 0) ∷ syntax.StorageSpec storage.Auto (at 11 1) ∷ [])) (declared (syntax.init_declarator (syntax.Named [] (name (codes "x") (at 16 2)) (suffixes [])) (syntax.an_initializer (syntax.Single (syntax.Constant (pos 5) basic.Int (at 20 4)))) ∷ []))) ∷ syntax.ExternalDeclaration (syntax.SimpleDeclaration (specs (syntax.TypeSpec type.Int (at 23 6) ∷ [])) (declared (syntax.init_declarator (syntax.Named [] (name (codes "a") (at 27 7)) (suffixes (syntax.ArraySuffix (syntax.an_expr (syntax.Identifier (name (codes "x") (at 29 9)))) (at 28 8) ∷ []))) syntax.no_initializer ∷ []))) ∷ [])

-- enum { A = 3 }; constexpr int x = A; int a[x == 3 ? 1 : -1];
abbrev pub accepted_declarations_63 : List syntax.External
accepted_declarations_63 = (syntax.ExternalDeclaration (syntax.SimpleDeclaration (specs (syntax.Enum None syntax.none_of_specs (enumerators (syntax.enumerator (name (codes "A") (at 8 2)) (syntax.an_expr (syntax.Constant (pos 3) basic.Int (at 12 4))) ∷ [])) (at 1 0) ∷ [])) (declared [])) ∷ syntax.ExternalDeclaration (syntax.SimpleDeclaration (specs (syntax.StorageSpec storage.Constexpr (at 17 7) ∷ syntax.TypeSpec type.Int (at 27 8) ∷ [])) (declared (syntax.init_declarator (syntax.Named [] (name (codes "x") (at 31 9)) (suffixes [])) (syntax.an_initializer (syntax.Single (syntax.Identifier (name (codes "A") (at 35 11))))) ∷ []))) ∷ syntax.ExternalDeclaration (syntax.SimpleDeclaration (specs (syntax.TypeSpec type.Int (at 38 13) ∷ [])) (declared (syntax.init_declarator (syntax.Named [] (name (codes "a") (at 42 14)) (suffixes (syntax.ArraySuffix (syntax.an_expr (syntax.Conditional (syntax.Binary op.Equal (syntax.Identifier (name (codes "x") (at 44 16))) (syntax.Constant (pos 3) basic.Int (at 49 18)) (at 46 17)) (syntax.Constant (pos 1) basic.Int (at 53 20)) (syntax.Unary prefix.Minus (syntax.Constant (pos 1) basic.Int (at 58 23)) (at 57 22)) (at 51 19))) (at 43 15) ∷ []))) syntax.no_initializer ∷ []))) ∷ [])

-- void f(void) { constexpr int x = 3; int a[x]; a[2] = 1; }
abbrev pub accepted_declarations_64 : List syntax.External
accepted_declarations_64 = (syntax.FunctionDefinition (specs (syntax.TypeSpec type.Void (at 1 0) ∷ [])) (syntax.Named [] (name (codes "f") (at 6 1)) (suffixes (syntax.FunctionSuffix (parameters (syntax.parameter (specs (syntax.TypeSpec type.Void (at 8 3) ∷ [])) (syntax.Unnamed [] (suffixes [])) (at 8 3) ∷ [])) false (at 7 2) ∷ []))) (syntax.block (block_items (syntax.DeclarationItem (syntax.SimpleDeclaration (specs (syntax.StorageSpec storage.Constexpr (at 16 6) ∷ syntax.TypeSpec type.Int (at 26 7) ∷ [])) (declared (syntax.init_declarator (syntax.Named [] (name (codes "x") (at 30 8)) (suffixes [])) (syntax.an_initializer (syntax.Single (syntax.Constant (pos 3) basic.Int (at 34 10)))) ∷ []))) ∷ syntax.DeclarationItem (syntax.SimpleDeclaration (specs (syntax.TypeSpec type.Int (at 37 12) ∷ [])) (declared (syntax.init_declarator (syntax.Named [] (name (codes "a") (at 41 13)) (suffixes (syntax.ArraySuffix (syntax.an_expr (syntax.Identifier (name (codes "x") (at 43 15)))) (at 42 14) ∷ []))) syntax.no_initializer ∷ []))) ∷ syntax.StatementItem (syntax.ExpressionStatement (syntax.an_expr (syntax.Assign (syntax.Index (syntax.Identifier (name (codes "a") (at 47 18))) (syntax.Constant (pos 2) basic.Int (at 49 20)) (at 48 19)) (syntax.Constant (pos 1) basic.Int (at 54 23)) (at 52 22))) (span (at 47 18) (at 55 24))) ∷ [])) (span (at 14 5) (at 57 25))) ∷ [])

-- struct s *x[2];
abbrev pub accepted_declarations_65 : List syntax.External
accepted_declarations_65 = (syntax.ExternalDeclaration (syntax.SimpleDeclaration (specs (syntax.StructTag (name (codes "s") (at 8 1)) (at 1 0) ∷ [])) (declared (syntax.init_declarator (syntax.Named (pointer (at 10 2) [] ∷ []) (name (codes "x") (at 11 3)) (suffixes (syntax.ArraySuffix (syntax.an_expr (syntax.Constant (pos 2) basic.Int (at 13 5))) (at 12 4) ∷ []))) syntax.no_initializer ∷ []))) ∷ [])

-- enum { N = 3 }; int x[N];
abbrev pub accepted_declarations_66 : List syntax.External
accepted_declarations_66 = (syntax.ExternalDeclaration (syntax.SimpleDeclaration (specs (syntax.Enum None syntax.none_of_specs (enumerators (syntax.enumerator (name (codes "N") (at 8 2)) (syntax.an_expr (syntax.Constant (pos 3) basic.Int (at 12 4))) ∷ [])) (at 1 0) ∷ [])) (declared [])) ∷ syntax.ExternalDeclaration (syntax.SimpleDeclaration (specs (syntax.TypeSpec type.Int (at 17 7) ∷ [])) (declared (syntax.init_declarator (syntax.Named [] (name (codes "x") (at 21 8)) (suffixes (syntax.ArraySuffix (syntax.an_expr (syntax.Identifier (name (codes "N") (at 23 10)))) (at 22 9) ∷ []))) syntax.no_initializer ∷ []))) ∷ [])

-- char x[1073741824];
abbrev pub accepted_declarations_67 : List syntax.External
accepted_declarations_67 = (syntax.ExternalDeclaration (syntax.SimpleDeclaration (specs (syntax.TypeSpec type.Char (at 1 0) ∷ [])) (declared (syntax.init_declarator (syntax.Named [] (name (codes "x") (at 6 1)) (suffixes (syntax.ArraySuffix (syntax.an_expr (syntax.Constant (pos 1073741824) basic.Int (at 8 3))) (at 7 2) ∷ []))) syntax.no_initializer ∷ []))) ∷ [])

-- int (*f(void))[2];
abbrev pub accepted_declarations_68 : List syntax.External
accepted_declarations_68 = (syntax.ExternalDeclaration (syntax.SimpleDeclaration (specs (syntax.TypeSpec type.Int (at 1 0) ∷ [])) (declared (syntax.init_declarator (syntax.Grouped [] (syntax.Named (pointer (at 6 2) [] ∷ []) (name (codes "f") (at 7 3)) (suffixes (syntax.FunctionSuffix (parameters (syntax.parameter (specs (syntax.TypeSpec type.Void (at 9 5) ∷ [])) (syntax.Unnamed [] (suffixes [])) (at 9 5) ∷ [])) false (at 8 4) ∷ []))) (suffixes (syntax.ArraySuffix (syntax.an_expr (syntax.Constant (pos 2) basic.Int (at 16 9))) (at 15 8) ∷ [])) (at 5 1)) syntax.no_initializer ∷ []))) ∷ [])

-- int (*(*f)[])[];
abbrev pub accepted_declarations_69 : List syntax.External
accepted_declarations_69 = (syntax.ExternalDeclaration (syntax.SimpleDeclaration (specs (syntax.TypeSpec type.Int (at 1 0) ∷ [])) (declared (syntax.init_declarator (syntax.Grouped [] (syntax.Grouped (pointer (at 6 2) [] ∷ []) (syntax.Named (pointer (at 8 4) [] ∷ []) (name (codes "f") (at 9 5)) (suffixes [])) (suffixes (syntax.ArraySuffix syntax.no_expr (at 11 7) ∷ [])) (at 7 3)) (suffixes (syntax.ArraySuffix syntax.no_expr (at 14 10) ∷ [])) (at 5 1)) syntax.no_initializer ∷ []))) ∷ [])

-- int f(int a[], int b[3]); int f(int *a, int *b);
abbrev pub accepted_declarations_70 : List syntax.External
accepted_declarations_70 = (syntax.ExternalDeclaration (syntax.SimpleDeclaration (specs (syntax.TypeSpec type.Int (at 1 0) ∷ [])) (declared (syntax.init_declarator (syntax.Named [] (name (codes "f") (at 5 1)) (suffixes (syntax.FunctionSuffix (parameters (syntax.parameter (specs (syntax.TypeSpec type.Int (at 7 3) ∷ [])) (syntax.Named [] (name (codes "a") (at 11 4)) (suffixes (syntax.ArraySuffix syntax.no_expr (at 12 5) ∷ []))) (at 7 3) ∷ syntax.parameter (specs (syntax.TypeSpec type.Int (at 16 8) ∷ [])) (syntax.Named [] (name (codes "b") (at 20 9)) (suffixes (syntax.ArraySuffix (syntax.an_expr (syntax.Constant (pos 3) basic.Int (at 22 11))) (at 21 10) ∷ []))) (at 16 8) ∷ [])) false (at 6 2) ∷ []))) syntax.no_initializer ∷ []))) ∷ syntax.ExternalDeclaration (syntax.SimpleDeclaration (specs (syntax.TypeSpec type.Int (at 27 15) ∷ [])) (declared (syntax.init_declarator (syntax.Named [] (name (codes "f") (at 31 16)) (suffixes (syntax.FunctionSuffix (parameters (syntax.parameter (specs (syntax.TypeSpec type.Int (at 33 18) ∷ [])) (syntax.Named (pointer (at 37 19) [] ∷ []) (name (codes "a") (at 38 20)) (suffixes [])) (at 33 18) ∷ syntax.parameter (specs (syntax.TypeSpec type.Int (at 41 22) ∷ [])) (syntax.Named (pointer (at 45 23) [] ∷ []) (name (codes "b") (at 46 24)) (suffixes [])) (at 41 22) ∷ [])) false (at 32 17) ∷ []))) syntax.no_initializer ∷ []))) ∷ [])

-- int f(int g(void)); int f(int (*g)(void));
abbrev pub accepted_declarations_71 : List syntax.External
accepted_declarations_71 = (syntax.ExternalDeclaration (syntax.SimpleDeclaration (specs (syntax.TypeSpec type.Int (at 1 0) ∷ [])) (declared (syntax.init_declarator (syntax.Named [] (name (codes "f") (at 5 1)) (suffixes (syntax.FunctionSuffix (parameters (syntax.parameter (specs (syntax.TypeSpec type.Int (at 7 3) ∷ [])) (syntax.Named [] (name (codes "g") (at 11 4)) (suffixes (syntax.FunctionSuffix (parameters (syntax.parameter (specs (syntax.TypeSpec type.Void (at 13 6) ∷ [])) (syntax.Unnamed [] (suffixes [])) (at 13 6) ∷ [])) false (at 12 5) ∷ []))) (at 7 3) ∷ [])) false (at 6 2) ∷ []))) syntax.no_initializer ∷ []))) ∷ syntax.ExternalDeclaration (syntax.SimpleDeclaration (specs (syntax.TypeSpec type.Int (at 21 10) ∷ [])) (declared (syntax.init_declarator (syntax.Named [] (name (codes "f") (at 25 11)) (suffixes (syntax.FunctionSuffix (parameters (syntax.parameter (specs (syntax.TypeSpec type.Int (at 27 13) ∷ [])) (syntax.Grouped [] (syntax.Named (pointer (at 32 15) [] ∷ []) (name (codes "g") (at 33 16)) (suffixes [])) (suffixes (syntax.FunctionSuffix (parameters (syntax.parameter (specs (syntax.TypeSpec type.Void (at 36 19) ∷ [])) (syntax.Unnamed [] (suffixes [])) (at 36 19) ∷ [])) false (at 35 18) ∷ [])) (at 31 14)) (at 27 13) ∷ [])) false (at 26 12) ∷ []))) syntax.no_initializer ∷ []))) ∷ [])

-- int f(void); int f();
abbrev pub accepted_declarations_72 : List syntax.External
accepted_declarations_72 = (syntax.ExternalDeclaration (syntax.SimpleDeclaration (specs (syntax.TypeSpec type.Int (at 1 0) ∷ [])) (declared (syntax.init_declarator (syntax.Named [] (name (codes "f") (at 5 1)) (suffixes (syntax.FunctionSuffix (parameters (syntax.parameter (specs (syntax.TypeSpec type.Void (at 7 3) ∷ [])) (syntax.Unnamed [] (suffixes [])) (at 7 3) ∷ [])) false (at 6 2) ∷ []))) syntax.no_initializer ∷ []))) ∷ syntax.ExternalDeclaration (syntax.SimpleDeclaration (specs (syntax.TypeSpec type.Int (at 14 6) ∷ [])) (declared (syntax.init_declarator (syntax.Named [] (name (codes "f") (at 18 7)) (suffixes (syntax.FunctionSuffix (parameters []) false (at 19 8) ∷ []))) syntax.no_initializer ∷ []))) ∷ [])
