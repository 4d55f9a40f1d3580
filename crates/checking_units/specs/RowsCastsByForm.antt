-- casts by form: units of one line, as trees.
use Rattle.std.specs.Prelude.{List, [], ◌∷◌, false, pos, codes}
use Rattle.model_grammar.specs.SyntaxForms as syntax
use Rattle.model_types.specs.declared.numbers.Basic.TheVariants as basic
use Rattle.model_grammar.specs.declared.syntax.TypeWord.TheVariants as type
use Rattle.model_grammar.specs.declared.syntax.QualifierWord.TheVariants as qual
use Rattle.checking_units.specs.Parts.{at, name, specs, qualifier, pointer, suffixes, parameters, declared, block_items, span}

-- void g(void) { (int (*)[n])0; }
abbrev pub casts_by_form_1 : List syntax.External
casts_by_form_1 = (syntax.FunctionDefinition (specs (syntax.TypeSpec type.Void (at 1 0) ∷ [])) (syntax.Named [] (name (codes "g") (at 6 1)) (suffixes (syntax.FunctionSuffix (parameters (syntax.parameter (specs (syntax.TypeSpec type.Void (at 8 3) ∷ [])) (syntax.Unnamed [] (suffixes [])) (at 8 3) ∷ [])) false (at 7 2) ∷ []))) (syntax.block (block_items (syntax.StatementItem (syntax.ExpressionStatement (syntax.an_expr (syntax.Cast (syntax.type_name (specs (syntax.TypeSpec type.Int (at 17 7) ∷ [])) (syntax.Grouped [] (syntax.Unnamed (pointer (at 22 9) [] ∷ []) (suffixes [])) (suffixes (syntax.ArraySuffix (syntax.an_expr (syntax.Identifier (name (codes "n") (at 25 12)))) (at 24 11) ∷ [])) (at 21 8))) (syntax.Constant (pos 0) basic.Int (at 28 15)) (at 16 6))) (span (at 16 6) (at 29 16))) ∷ [])) (span (at 14 5) (at 31 17))) ∷ [])

-- void g(void) { (int (*)[n])y; }
abbrev pub casts_by_form_2 : List syntax.External
casts_by_form_2 = (syntax.FunctionDefinition (specs (syntax.TypeSpec type.Void (at 1 0) ∷ [])) (syntax.Named [] (name (codes "g") (at 6 1)) (suffixes (syntax.FunctionSuffix (parameters (syntax.parameter (specs (syntax.TypeSpec type.Void (at 8 3) ∷ [])) (syntax.Unnamed [] (suffixes [])) (at 8 3) ∷ [])) false (at 7 2) ∷ []))) (syntax.block (block_items (syntax.StatementItem (syntax.ExpressionStatement (syntax.an_expr (syntax.Cast (syntax.type_name (specs (syntax.TypeSpec type.Int (at 17 7) ∷ [])) (syntax.Grouped [] (syntax.Unnamed (pointer (at 22 9) [] ∷ []) (suffixes [])) (suffixes (syntax.ArraySuffix (syntax.an_expr (syntax.Identifier (name (codes "n") (at 25 12)))) (at 24 11) ∷ [])) (at 21 8))) (syntax.Identifier (name (codes "y") (at 28 15))) (at 16 6))) (span (at 16 6) (at 29 16))) ∷ [])) (span (at 14 5) (at 31 17))) ∷ [])

-- void g(void) { (int (void x))0; }
abbrev pub casts_by_form_3 : List syntax.External
casts_by_form_3 = (syntax.FunctionDefinition (specs (syntax.TypeSpec type.Void (at 1 0) ∷ [])) (syntax.Named [] (name (codes "g") (at 6 1)) (suffixes (syntax.FunctionSuffix (parameters (syntax.parameter (specs (syntax.TypeSpec type.Void (at 8 3) ∷ [])) (syntax.Unnamed [] (suffixes [])) (at 8 3) ∷ [])) false (at 7 2) ∷ []))) (syntax.block (block_items (syntax.StatementItem (syntax.ExpressionStatement (syntax.an_expr (syntax.Cast (syntax.type_name (specs (syntax.TypeSpec type.Int (at 17 7) ∷ [])) (syntax.Unnamed [] (suffixes (syntax.FunctionSuffix (parameters (syntax.parameter (specs (syntax.TypeSpec type.Void (at 22 9) ∷ [])) (syntax.Named [] (name (codes "x") (at 27 10)) (suffixes [])) (at 22 9) ∷ [])) false (at 21 8) ∷ [])))) (syntax.Constant (pos 0) basic.Int (at 30 13)) (at 16 6))) (span (at 16 6) (at 31 14))) ∷ [])) (span (at 14 5) (at 33 15))) ∷ [])

-- void g(void) { (int [])0; }
abbrev pub casts_by_form_4 : List syntax.External
casts_by_form_4 = (syntax.FunctionDefinition (specs (syntax.TypeSpec type.Void (at 1 0) ∷ [])) (syntax.Named [] (name (codes "g") (at 6 1)) (suffixes (syntax.FunctionSuffix (parameters (syntax.parameter (specs (syntax.TypeSpec type.Void (at 8 3) ∷ [])) (syntax.Unnamed [] (suffixes [])) (at 8 3) ∷ [])) false (at 7 2) ∷ []))) (syntax.block (block_items (syntax.StatementItem (syntax.ExpressionStatement (syntax.an_expr (syntax.Cast (syntax.type_name (specs (syntax.TypeSpec type.Int (at 17 7) ∷ [])) (syntax.Unnamed [] (suffixes (syntax.ArraySuffix syntax.no_expr (at 21 8) ∷ [])))) (syntax.Constant (pos 0) basic.Int (at 24 11)) (at 16 6))) (span (at 16 6) (at 25 12))) ∷ [])) (span (at 14 5) (at 27 13))) ∷ [])

-- void g(void) { (void [2])0; }
abbrev pub casts_by_form_5 : List syntax.External
casts_by_form_5 = (syntax.FunctionDefinition (specs (syntax.TypeSpec type.Void (at 1 0) ∷ [])) (syntax.Named [] (name (codes "g") (at 6 1)) (suffixes (syntax.FunctionSuffix (parameters (syntax.parameter (specs (syntax.TypeSpec type.Void (at 8 3) ∷ [])) (syntax.Unnamed [] (suffixes [])) (at 8 3) ∷ [])) false (at 7 2) ∷ []))) (syntax.block (block_items (syntax.StatementItem (syntax.ExpressionStatement (syntax.an_expr (syntax.Cast (syntax.type_name (specs (syntax.TypeSpec type.Void (at 17 7) ∷ [])) (syntax.Unnamed [] (suffixes (syntax.ArraySuffix (syntax.an_expr (syntax.Constant (pos 2) basic.Int (at 23 9))) (at 22 8) ∷ [])))) (syntax.Constant (pos 0) basic.Int (at 26 12)) (at 16 6))) (span (at 16 6) (at 27 13))) ∷ [])) (span (at 14 5) (at 29 14))) ∷ [])

-- int f(void); void g(void) { (void *)f; }
abbrev pub casts_by_form_6 : List syntax.External
casts_by_form_6 = (syntax.ExternalDeclaration (syntax.SimpleDeclaration (specs (syntax.TypeSpec type.Int (at 1 0) ∷ [])) (declared (syntax.init_declarator (syntax.Named [] (name (codes "f") (at 5 1)) (suffixes (syntax.FunctionSuffix (parameters (syntax.parameter (specs (syntax.TypeSpec type.Void (at 7 3) ∷ [])) (syntax.Unnamed [] (suffixes [])) (at 7 3) ∷ [])) false (at 6 2) ∷ []))) syntax.no_initializer ∷ []))) ∷ syntax.FunctionDefinition (specs (syntax.TypeSpec type.Void (at 14 6) ∷ [])) (syntax.Named [] (name (codes "g") (at 19 7)) (suffixes (syntax.FunctionSuffix (parameters (syntax.parameter (specs (syntax.TypeSpec type.Void (at 21 9) ∷ [])) (syntax.Unnamed [] (suffixes [])) (at 21 9) ∷ [])) false (at 20 8) ∷ []))) (syntax.block (block_items (syntax.StatementItem (syntax.ExpressionStatement (syntax.an_expr (syntax.Cast (syntax.type_name (specs (syntax.TypeSpec type.Void (at 30 13) ∷ [])) (syntax.Unnamed (pointer (at 35 14) [] ∷ []) (suffixes []))) (syntax.Identifier (name (codes "f") (at 37 16))) (at 29 12))) (span (at 29 12) (at 38 17))) ∷ [])) (span (at 27 11) (at 40 18))) ∷ [])

-- void g(void) { (int)nullptr; }
abbrev pub casts_by_form_7 : List syntax.External
casts_by_form_7 = (syntax.FunctionDefinition (specs (syntax.TypeSpec type.Void (at 1 0) ∷ [])) (syntax.Named [] (name (codes "g") (at 6 1)) (suffixes (syntax.FunctionSuffix (parameters (syntax.parameter (specs (syntax.TypeSpec type.Void (at 8 3) ∷ [])) (syntax.Unnamed [] (suffixes [])) (at 8 3) ∷ [])) false (at 7 2) ∷ []))) (syntax.block (block_items (syntax.StatementItem (syntax.ExpressionStatement (syntax.an_expr (syntax.Cast (syntax.type_name (specs (syntax.TypeSpec type.Int (at 17 7) ∷ [])) (syntax.Unnamed [] (suffixes []))) (syntax.Nullptr (at 21 9)) (at 16 6))) (span (at 16 6) (at 28 10))) ∷ [])) (span (at 14 5) (at 30 11))) ∷ [])

-- void g(int *p) { (void (*)(int))nullptr; (bool)p; (const char *)p; (void)0; (void *)p; }
abbrev pub casts_by_form_8 : List syntax.External
casts_by_form_8 = (syntax.FunctionDefinition (specs (syntax.TypeSpec type.Void (at 1 0) ∷ [])) (syntax.Named [] (name (codes "g") (at 6 1)) (suffixes (syntax.FunctionSuffix (parameters (syntax.parameter (specs (syntax.TypeSpec type.Int (at 8 3) ∷ [])) (syntax.Named (pointer (at 12 4) [] ∷ []) (name (codes "p") (at 13 5)) (suffixes [])) (at 8 3) ∷ [])) false (at 7 2) ∷ []))) (syntax.block (block_items (syntax.StatementItem (syntax.ExpressionStatement (syntax.an_expr (syntax.Cast (syntax.type_name (specs (syntax.TypeSpec type.Void (at 19 9) ∷ [])) (syntax.Grouped [] (syntax.Unnamed (pointer (at 25 11) [] ∷ []) (suffixes [])) (suffixes (syntax.FunctionSuffix (parameters (syntax.parameter (specs (syntax.TypeSpec type.Int (at 28 14) ∷ [])) (syntax.Unnamed [] (suffixes [])) (at 28 14) ∷ [])) false (at 27 13) ∷ [])) (at 24 10))) (syntax.Nullptr (at 33 17)) (at 18 8))) (span (at 18 8) (at 40 18))) ∷ syntax.StatementItem (syntax.ExpressionStatement (syntax.an_expr (syntax.Cast (syntax.type_name (specs (syntax.TypeSpec type.Bool (at 43 20) ∷ [])) (syntax.Unnamed [] (suffixes []))) (syntax.Identifier (name (codes "p") (at 48 22))) (at 42 19))) (span (at 42 19) (at 49 23))) ∷ syntax.StatementItem (syntax.ExpressionStatement (syntax.an_expr (syntax.Cast (syntax.type_name (specs (syntax.QualifierSpec (qualifier qual.Const (at 52 25)) ∷ syntax.TypeSpec type.Char (at 58 26) ∷ [])) (syntax.Unnamed (pointer (at 63 27) [] ∷ []) (suffixes []))) (syntax.Identifier (name (codes "p") (at 65 29))) (at 51 24))) (span (at 51 24) (at 66 30))) ∷ syntax.StatementItem (syntax.ExpressionStatement (syntax.an_expr (syntax.Cast (syntax.type_name (specs (syntax.TypeSpec type.Void (at 69 32) ∷ [])) (syntax.Unnamed [] (suffixes []))) (syntax.Constant (pos 0) basic.Int (at 74 34)) (at 68 31))) (span (at 68 31) (at 75 35))) ∷ syntax.StatementItem (syntax.ExpressionStatement (syntax.an_expr (syntax.Cast (syntax.type_name (specs (syntax.TypeSpec type.Void (at 78 37) ∷ [])) (syntax.Unnamed (pointer (at 83 38) [] ∷ []) (suffixes []))) (syntax.Identifier (name (codes "p") (at 85 40))) (at 77 36))) (span (at 77 36) (at 86 41))) ∷ [])) (span (at 16 7) (at 88 42))) ∷ [])

-- struct h; void g(void) { (void)y; }
abbrev pub casts_by_form_9 : List syntax.External
casts_by_form_9 = (syntax.ExternalDeclaration (syntax.SimpleDeclaration (specs (syntax.StructTag (name (codes "h") (at 8 1)) (at 1 0) ∷ [])) (declared [])) ∷ syntax.FunctionDefinition (specs (syntax.TypeSpec type.Void (at 11 3) ∷ [])) (syntax.Named [] (name (codes "g") (at 16 4)) (suffixes (syntax.FunctionSuffix (parameters (syntax.parameter (specs (syntax.TypeSpec type.Void (at 18 6) ∷ [])) (syntax.Unnamed [] (suffixes [])) (at 18 6) ∷ [])) false (at 17 5) ∷ []))) (syntax.block (block_items (syntax.StatementItem (syntax.ExpressionStatement (syntax.an_expr (syntax.Cast (syntax.type_name (specs (syntax.TypeSpec type.Void (at 27 10) ∷ [])) (syntax.Unnamed [] (suffixes []))) (syntax.Identifier (name (codes "y") (at 32 12))) (at 26 9))) (span (at 26 9) (at 33 13))) ∷ [])) (span (at 24 8) (at 35 14))) ∷ [])
