-- casts to faulty types: units of one line, as trees.
use Rattle.std.specs.Prelude.{List, [], ◌∷◌, Some, false, pos, codes}
use Rattle.model_grammar.specs.SyntaxForms as syntax
use Rattle.model_types.specs.declared.numbers.Basic.TheVariants as basic
use Rattle.model_grammar.specs.declared.syntax.TypeWord.TheVariants as type
use Rattle.checking_units.specs.Parts.{at, name, specs, pointer, suffixes, parameters, members, declared, block_items, span}

-- struct s { int a; }; void g(void) { (struct s)y; }
abbrev pub casts_to_faulty_types_1 : List syntax.External
casts_to_faulty_types_1 = (syntax.ExternalDeclaration (syntax.SimpleDeclaration (specs (syntax.Struct (Some (name (codes "s") (at 8 1))) (members (syntax.MemberDeclarators (specs (syntax.TypeSpec type.Int (at 12 3) ∷ [])) (syntax.declarators ((syntax.Named [] (name (codes "a") (at 16 4)) (suffixes [])) ∷ [])) ∷ [])) (at 1 0) ∷ [])) (declared [])) ∷ syntax.FunctionDefinition (specs (syntax.TypeSpec type.Void (at 22 8) ∷ [])) (syntax.Named [] (name (codes "g") (at 27 9)) (suffixes (syntax.FunctionSuffix (parameters (syntax.parameter (specs (syntax.TypeSpec type.Void (at 29 11) ∷ [])) (syntax.Unnamed [] (suffixes [])) (at 29 11) ∷ [])) false (at 28 10) ∷ []))) (syntax.block (block_items (syntax.StatementItem (syntax.ExpressionStatement (syntax.an_expr (syntax.Cast (syntax.type_name (specs (syntax.StructTag (name (codes "s") (at 45 16)) (at 38 15) ∷ [])) (syntax.Unnamed [] (suffixes []))) (syntax.Identifier (name (codes "y") (at 47 18))) (at 37 14))) (span (at 37 14) (at 48 19))) ∷ [])) (span (at 35 13) (at 50 20))) ∷ [])

-- void g(void) { (int (int a[n]))0; }
abbrev pub casts_to_faulty_types_2 : List syntax.External
casts_to_faulty_types_2 = (syntax.FunctionDefinition (specs (syntax.TypeSpec type.Void (at 1 0) ∷ [])) (syntax.Named [] (name (codes "g") (at 6 1)) (suffixes (syntax.FunctionSuffix (parameters (syntax.parameter (specs (syntax.TypeSpec type.Void (at 8 3) ∷ [])) (syntax.Unnamed [] (suffixes [])) (at 8 3) ∷ [])) false (at 7 2) ∷ []))) (syntax.block (block_items (syntax.StatementItem (syntax.ExpressionStatement (syntax.an_expr (syntax.Cast (syntax.type_name (specs (syntax.TypeSpec type.Int (at 17 7) ∷ [])) (syntax.Unnamed [] (suffixes (syntax.FunctionSuffix (parameters (syntax.parameter (specs (syntax.TypeSpec type.Int (at 22 9) ∷ [])) (syntax.Named [] (name (codes "a") (at 26 10)) (suffixes (syntax.ArraySuffix (syntax.an_expr (syntax.Identifier (name (codes "n") (at 28 12)))) (at 27 11) ∷ []))) (at 22 9) ∷ [])) false (at 21 8) ∷ [])))) (syntax.Constant (pos 0) basic.Int (at 32 16)) (at 16 6))) (span (at 16 6) (at 33 17))) ∷ [])) (span (at 14 5) (at 35 18))) ∷ [])

-- void g(void) { (int [n])0; }
abbrev pub casts_to_faulty_types_3 : List syntax.External
casts_to_faulty_types_3 = (syntax.FunctionDefinition (specs (syntax.TypeSpec type.Void (at 1 0) ∷ [])) (syntax.Named [] (name (codes "g") (at 6 1)) (suffixes (syntax.FunctionSuffix (parameters (syntax.parameter (specs (syntax.TypeSpec type.Void (at 8 3) ∷ [])) (syntax.Unnamed [] (suffixes [])) (at 8 3) ∷ [])) false (at 7 2) ∷ []))) (syntax.block (block_items (syntax.StatementItem (syntax.ExpressionStatement (syntax.an_expr (syntax.Cast (syntax.type_name (specs (syntax.TypeSpec type.Int (at 17 7) ∷ [])) (syntax.Unnamed [] (suffixes (syntax.ArraySuffix (syntax.an_expr (syntax.Identifier (name (codes "n") (at 22 9)))) (at 21 8) ∷ [])))) (syntax.Constant (pos 0) basic.Int (at 25 12)) (at 16 6))) (span (at 16 6) (at 26 13))) ∷ [])) (span (at 14 5) (at 28 14))) ∷ [])

-- void g(void) { (int (*)[n])1; }
abbrev pub casts_to_faulty_types_4 : List syntax.External
casts_to_faulty_types_4 = (syntax.FunctionDefinition (specs (syntax.TypeSpec type.Void (at 1 0) ∷ [])) (syntax.Named [] (name (codes "g") (at 6 1)) (suffixes (syntax.FunctionSuffix (parameters (syntax.parameter (specs (syntax.TypeSpec type.Void (at 8 3) ∷ [])) (syntax.Unnamed [] (suffixes [])) (at 8 3) ∷ [])) false (at 7 2) ∷ []))) (syntax.block (block_items (syntax.StatementItem (syntax.ExpressionStatement (syntax.an_expr (syntax.Cast (syntax.type_name (specs (syntax.TypeSpec type.Int (at 17 7) ∷ [])) (syntax.Grouped [] (syntax.Unnamed (pointer (at 22 9) [] ∷ []) (suffixes [])) (suffixes (syntax.ArraySuffix (syntax.an_expr (syntax.Identifier (name (codes "n") (at 25 12)))) (at 24 11) ∷ [])) (at 21 8))) (syntax.Constant (pos 1) basic.Int (at 28 15)) (at 16 6))) (span (at 16 6) (at 29 16))) ∷ [])) (span (at 14 5) (at 31 17))) ∷ [])

-- void g(int *p) { (void (*)(int a[n]))p; }
abbrev pub casts_to_faulty_types_5 : List syntax.External
casts_to_faulty_types_5 = (syntax.FunctionDefinition (specs (syntax.TypeSpec type.Void (at 1 0) ∷ [])) (syntax.Named [] (name (codes "g") (at 6 1)) (suffixes (syntax.FunctionSuffix (parameters (syntax.parameter (specs (syntax.TypeSpec type.Int (at 8 3) ∷ [])) (syntax.Named (pointer (at 12 4) [] ∷ []) (name (codes "p") (at 13 5)) (suffixes [])) (at 8 3) ∷ [])) false (at 7 2) ∷ []))) (syntax.block (block_items (syntax.StatementItem (syntax.ExpressionStatement (syntax.an_expr (syntax.Cast (syntax.type_name (specs (syntax.TypeSpec type.Void (at 19 9) ∷ [])) (syntax.Grouped [] (syntax.Unnamed (pointer (at 25 11) [] ∷ []) (suffixes [])) (suffixes (syntax.FunctionSuffix (parameters (syntax.parameter (specs (syntax.TypeSpec type.Int (at 28 14) ∷ [])) (syntax.Named [] (name (codes "a") (at 32 15)) (suffixes (syntax.ArraySuffix (syntax.an_expr (syntax.Identifier (name (codes "n") (at 34 17)))) (at 33 16) ∷ []))) (at 28 14) ∷ [])) false (at 27 13) ∷ [])) (at 24 10))) (syntax.Identifier (name (codes "p") (at 38 21))) (at 18 8))) (span (at 18 8) (at 39 22))) ∷ [])) (span (at 16 7) (at 41 23))) ∷ [])
