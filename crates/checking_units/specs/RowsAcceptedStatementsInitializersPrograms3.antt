-- accepted: statements, initializers, programs: units of one line, as trees.
use Rattle.std.specs.Prelude.{List, [], ◌∷◌, Some, None, false, pos, codes}
use Rattle.model_grammar.specs.SyntaxForms as syntax
use Rattle.model_types.specs.declared.numbers.Basic.TheVariants as basic
use Rattle.model_types.specs.declared.numbers.BinOp.TheVariants as op
use Rattle.model_types.specs.declared.operators.LogicOp.TheVariants as logic
use Rattle.model_types.specs.declared.operators.StepOp.TheVariants as step
use Rattle.model_types.specs.declared.operators.StepSide.TheVariants as side
use Rattle.model_grammar.specs.declared.syntax.StorageWord.TheVariants as storage
use Rattle.model_grammar.specs.declared.syntax.TypeWord.TheVariants as type
use Rattle.model_grammar.specs.declared.syntax.QualifierWord.TheVariants as qual
use Rattle.model_grammar.specs.declared.syntax.PrefixOp.TheVariants as prefix
use Rattle.checking_units.specs.Parts.{at, name, specs, qualifier, pointer, suffixes, parameters, members, enumerators, declared, items, designators, block_items, span}

-- int g(int c) { switch (c) { case 1: { int x = 2; return x; } case 2: for (;;) { if (c) break; continue; } default: ; } return 0; }
abbrev pub accepted_statements_initializers_programs_49 : List syntax.External
accepted_statements_initializers_programs_49 = (syntax.FunctionDefinition (specs (syntax.TypeSpec type.Int (at 1 0) ∷ [])) (syntax.Named [] (name (codes "g") (at 5 1)) (suffixes (syntax.FunctionSuffix (parameters (syntax.parameter (specs (syntax.TypeSpec type.Int (at 7 3) ∷ [])) (syntax.Named [] (name (codes "c") (at 11 4)) (suffixes [])) (at 7 3) ∷ [])) false (at 6 2) ∷ []))) (syntax.block (block_items (syntax.StatementItem (syntax.Switch (syntax.Identifier (name (codes "c") (at 24 9))) (syntax.CompoundStatement (syntax.block (block_items (syntax.CaseLabel (syntax.Constant (pos 1) basic.Int (at 34 13)) (at 29 12) ∷ syntax.StatementItem (syntax.CompoundStatement (syntax.block (block_items (syntax.DeclarationItem (syntax.SimpleDeclaration (specs (syntax.TypeSpec type.Int (at 39 16) ∷ [])) (declared (syntax.init_declarator (syntax.Named [] (name (codes "x") (at 43 17)) (suffixes [])) (syntax.an_initializer (syntax.Single (syntax.Constant (pos 2) basic.Int (at 47 19)))) ∷ []))) ∷ syntax.StatementItem (syntax.Return (syntax.an_expr (syntax.Identifier (name (codes "x") (at 57 22)))) (at 50 21) (span (at 50 21) (at 58 23))) ∷ [])) (span (at 37 15) (at 60 24))) (span (at 37 15) (at 60 24))) ∷ syntax.CaseLabel (syntax.Constant (pos 2) basic.Int (at 67 26)) (at 62 25) ∷ syntax.StatementItem (syntax.For syntax.no_expr syntax.no_expr syntax.no_expr (syntax.CompoundStatement (syntax.block (block_items (syntax.StatementItem (syntax.If syntax.no_declaration (syntax.Identifier (name (codes "c") (at 85 36))) (syntax.Break (at 88 38) (span (at 88 38) (at 93 39))) syntax.no_statement (span (at 81 34) (at 93 39))) ∷ syntax.StatementItem (syntax.Continue (at 95 40) (span (at 95 40) (at 103 41))) ∷ [])) (span (at 79 33) (at 105 42))) (span (at 79 33) (at 105 42))) (span (at 70 28) (at 105 42))) ∷ syntax.DefaultLabel (at 107 43) ∷ syntax.StatementItem (syntax.ExpressionStatement syntax.no_expr (span (at 116 45) (at 116 45))) ∷ [])) (span (at 27 11) (at 118 46))) (span (at 27 11) (at 118 46))) (span (at 16 7) (at 118 46))) ∷ syntax.StatementItem (syntax.Return (syntax.an_expr (syntax.Constant (pos 0) basic.Int (at 127 48))) (at 120 47) (span (at 120 47) (at 128 49))) ∷ [])) (span (at 14 6) (at 130 50))) ∷ [])

-- enum e { A, B }; int g(enum e c) { switch (c) { case A: return 1; case B: return 2; } return 0; }
abbrev pub accepted_statements_initializers_programs_50 : List syntax.External
accepted_statements_initializers_programs_50 = (syntax.ExternalDeclaration (syntax.SimpleDeclaration (specs (syntax.Enum (Some (name (codes "e") (at 6 1))) syntax.none_of_specs (enumerators (syntax.enumerator (name (codes "A") (at 10 3)) syntax.no_expr ∷ syntax.enumerator (name (codes "B") (at 13 5)) syntax.no_expr ∷ [])) (at 1 0) ∷ [])) (declared [])) ∷ syntax.FunctionDefinition (specs (syntax.TypeSpec type.Int (at 18 8) ∷ [])) (syntax.Named [] (name (codes "g") (at 22 9)) (suffixes (syntax.FunctionSuffix (parameters (syntax.parameter (specs (syntax.EnumTag (name (codes "e") (at 29 12)) syntax.none_of_specs (at 24 11) ∷ [])) (syntax.Named [] (name (codes "c") (at 31 13)) (suffixes [])) (at 24 11) ∷ [])) false (at 23 10) ∷ []))) (syntax.block (block_items (syntax.StatementItem (syntax.Switch (syntax.Identifier (name (codes "c") (at 44 18))) (syntax.CompoundStatement (syntax.block (block_items (syntax.CaseLabel (syntax.Identifier (name (codes "A") (at 54 22))) (at 49 21) ∷ syntax.StatementItem (syntax.Return (syntax.an_expr (syntax.Constant (pos 1) basic.Int (at 64 25))) (at 57 24) (span (at 57 24) (at 65 26))) ∷ syntax.CaseLabel (syntax.Identifier (name (codes "B") (at 72 28))) (at 67 27) ∷ syntax.StatementItem (syntax.Return (syntax.an_expr (syntax.Constant (pos 2) basic.Int (at 82 31))) (at 75 30) (span (at 75 30) (at 83 32))) ∷ [])) (span (at 47 20) (at 85 33))) (span (at 47 20) (at 85 33))) (span (at 36 16) (at 85 33))) ∷ syntax.StatementItem (syntax.Return (syntax.an_expr (syntax.Constant (pos 0) basic.Int (at 94 35))) (at 87 34) (span (at 87 34) (at 95 36))) ∷ [])) (span (at 34 15) (at 97 37))) ∷ [])

-- void f(void); void g(int c) { switch (c) { case 1: { defer f(); } if (c) defer f(); } }
abbrev pub accepted_statements_initializers_programs_51 : List syntax.External
accepted_statements_initializers_programs_51 = (syntax.ExternalDeclaration (syntax.SimpleDeclaration (specs (syntax.TypeSpec type.Void (at 1 0) ∷ [])) (declared (syntax.init_declarator (syntax.Named [] (name (codes "f") (at 6 1)) (suffixes (syntax.FunctionSuffix (parameters (syntax.parameter (specs (syntax.TypeSpec type.Void (at 8 3) ∷ [])) (syntax.Unnamed [] (suffixes [])) (at 8 3) ∷ [])) false (at 7 2) ∷ []))) syntax.no_initializer ∷ []))) ∷ syntax.FunctionDefinition (specs (syntax.TypeSpec type.Void (at 15 6) ∷ [])) (syntax.Named [] (name (codes "g") (at 20 7)) (suffixes (syntax.FunctionSuffix (parameters (syntax.parameter (specs (syntax.TypeSpec type.Int (at 22 9) ∷ [])) (syntax.Named [] (name (codes "c") (at 26 10)) (suffixes [])) (at 22 9) ∷ [])) false (at 21 8) ∷ []))) (syntax.block (block_items (syntax.StatementItem (syntax.Switch (syntax.Identifier (name (codes "c") (at 39 15))) (syntax.CompoundStatement (syntax.block (block_items (syntax.CaseLabel (syntax.Constant (pos 1) basic.Int (at 49 19)) (at 44 18) ∷ syntax.StatementItem (syntax.CompoundStatement (syntax.block (block_items (syntax.StatementItem (syntax.Defer (syntax.ExpressionStatement (syntax.an_expr (syntax.Call (syntax.Identifier (name (codes "f") (at 60 23))) (syntax.exprs []) (at 61 24))) (span (at 60 23) (at 63 26))) (at 54 22) (span (at 54 22) (at 63 26))) ∷ [])) (span (at 52 21) (at 65 27))) (span (at 52 21) (at 65 27))) ∷ syntax.StatementItem (syntax.If syntax.no_declaration (syntax.Identifier (name (codes "c") (at 71 30))) (syntax.Defer (syntax.ExpressionStatement (syntax.an_expr (syntax.Call (syntax.Identifier (name (codes "f") (at 80 33))) (syntax.exprs []) (at 81 34))) (span (at 80 33) (at 83 36))) (at 74 32) (span (at 74 32) (at 83 36))) syntax.no_statement (span (at 67 28) (at 83 36))) ∷ [])) (span (at 42 17) (at 85 37))) (span (at 42 17) (at 85 37))) (span (at 31 13) (at 85 37))) ∷ [])) (span (at 29 12) (at 87 38))) ∷ [])

-- void g(void) { for (;;) { defer { for (;;) { break; } } break; } }
abbrev pub accepted_statements_initializers_programs_52 : List syntax.External
accepted_statements_initializers_programs_52 = (syntax.FunctionDefinition (specs (syntax.TypeSpec type.Void (at 1 0) ∷ [])) (syntax.Named [] (name (codes "g") (at 6 1)) (suffixes (syntax.FunctionSuffix (parameters (syntax.parameter (specs (syntax.TypeSpec type.Void (at 8 3) ∷ [])) (syntax.Unnamed [] (suffixes [])) (at 8 3) ∷ [])) false (at 7 2) ∷ []))) (syntax.block (block_items (syntax.StatementItem (syntax.For syntax.no_expr syntax.no_expr syntax.no_expr (syntax.CompoundStatement (syntax.block (block_items (syntax.StatementItem (syntax.Defer (syntax.CompoundStatement (syntax.block (block_items (syntax.StatementItem (syntax.For syntax.no_expr syntax.no_expr syntax.no_expr (syntax.CompoundStatement (syntax.block (block_items (syntax.StatementItem (syntax.Break (at 46 20) (span (at 46 20) (at 51 21))) ∷ [])) (span (at 44 19) (at 53 22))) (span (at 44 19) (at 53 22))) (span (at 35 14) (at 53 22))) ∷ [])) (span (at 33 13) (at 55 23))) (span (at 33 13) (at 55 23))) (at 27 12) (span (at 27 12) (at 55 23))) ∷ syntax.StatementItem (syntax.Break (at 57 24) (span (at 57 24) (at 62 25))) ∷ [])) (span (at 25 11) (at 64 26))) (span (at 25 11) (at 64 26))) (span (at 16 6) (at 64 26))) ∷ [])) (span (at 14 5) (at 66 27))) ∷ [])

-- void f(void); void g(int c) { c ? f() : f(); (void)c; f(), c; }
abbrev pub accepted_statements_initializers_programs_53 : List syntax.External
accepted_statements_initializers_programs_53 = (syntax.ExternalDeclaration (syntax.SimpleDeclaration (specs (syntax.TypeSpec type.Void (at 1 0) ∷ [])) (declared (syntax.init_declarator (syntax.Named [] (name (codes "f") (at 6 1)) (suffixes (syntax.FunctionSuffix (parameters (syntax.parameter (specs (syntax.TypeSpec type.Void (at 8 3) ∷ [])) (syntax.Unnamed [] (suffixes [])) (at 8 3) ∷ [])) false (at 7 2) ∷ []))) syntax.no_initializer ∷ []))) ∷ syntax.FunctionDefinition (specs (syntax.TypeSpec type.Void (at 15 6) ∷ [])) (syntax.Named [] (name (codes "g") (at 20 7)) (suffixes (syntax.FunctionSuffix (parameters (syntax.parameter (specs (syntax.TypeSpec type.Int (at 22 9) ∷ [])) (syntax.Named [] (name (codes "c") (at 26 10)) (suffixes [])) (at 22 9) ∷ [])) false (at 21 8) ∷ []))) (syntax.block (block_items (syntax.StatementItem (syntax.ExpressionStatement (syntax.an_expr (syntax.Conditional (syntax.Identifier (name (codes "c") (at 31 13))) (syntax.Call (syntax.Identifier (name (codes "f") (at 35 15))) (syntax.exprs []) (at 36 16)) (syntax.Call (syntax.Identifier (name (codes "f") (at 41 19))) (syntax.exprs []) (at 42 20)) (at 33 14))) (span (at 31 13) (at 44 22))) ∷ syntax.StatementItem (syntax.ExpressionStatement (syntax.an_expr (syntax.Cast (syntax.type_name (specs (syntax.TypeSpec type.Void (at 47 24) ∷ [])) (syntax.Unnamed [] (suffixes []))) (syntax.Identifier (name (codes "c") (at 52 26))) (at 46 23))) (span (at 46 23) (at 53 27))) ∷ syntax.StatementItem (syntax.ExpressionStatement (syntax.an_expr (syntax.Comma (syntax.Call (syntax.Identifier (name (codes "f") (at 55 28))) (syntax.exprs []) (at 56 29)) (syntax.Identifier (name (codes "c") (at 60 32))) (at 58 31))) (span (at 55 28) (at 61 33))) ∷ [])) (span (at 29 12) (at 63 34))) ∷ [])

-- struct z; struct z f(void);
abbrev pub accepted_statements_initializers_programs_54 : List syntax.External
accepted_statements_initializers_programs_54 = (syntax.ExternalDeclaration (syntax.SimpleDeclaration (specs (syntax.StructTag (name (codes "z") (at 8 1)) (at 1 0) ∷ [])) (declared [])) ∷ syntax.ExternalDeclaration (syntax.SimpleDeclaration (specs (syntax.StructTag (name (codes "z") (at 18 4)) (at 11 3) ∷ [])) (declared (syntax.init_declarator (syntax.Named [] (name (codes "f") (at 20 5)) (suffixes (syntax.FunctionSuffix (parameters (syntax.parameter (specs (syntax.TypeSpec type.Void (at 22 7) ∷ [])) (syntax.Unnamed [] (suffixes [])) (at 22 7) ∷ [])) false (at 21 6) ∷ []))) syntax.no_initializer ∷ []))) ∷ [])

-- typedef int T; int g(T T) { return T; }
abbrev pub accepted_statements_initializers_programs_55 : List syntax.External
accepted_statements_initializers_programs_55 = (syntax.ExternalDeclaration (syntax.SimpleDeclaration (specs (syntax.StorageSpec storage.Typedef (at 1 0) ∷ syntax.TypeSpec type.Int (at 9 1) ∷ [])) (declared (syntax.init_declarator (syntax.Named [] (name (codes "T") (at 13 2)) (suffixes [])) syntax.no_initializer ∷ []))) ∷ syntax.FunctionDefinition (specs (syntax.TypeSpec type.Int (at 16 4) ∷ [])) (syntax.Named [] (name (codes "g") (at 20 5)) (suffixes (syntax.FunctionSuffix (parameters (syntax.parameter (specs (syntax.TypedefName (name (codes "T") (at 22 7)) ∷ [])) (syntax.Named [] (name (codes "T") (at 24 8)) (suffixes [])) (at 22 7) ∷ [])) false (at 21 6) ∷ []))) (syntax.block (block_items (syntax.StatementItem (syntax.Return (syntax.an_expr (syntax.Identifier (name (codes "T") (at 36 12)))) (at 29 11) (span (at 29 11) (at 37 13))) ∷ [])) (span (at 27 10) (at 39 14))) ∷ [])

-- typedef int F(int); F f; int g(void) { return f(1); } int f(int x) { return x; }
abbrev pub accepted_statements_initializers_programs_56 : List syntax.External
accepted_statements_initializers_programs_56 = (syntax.ExternalDeclaration (syntax.SimpleDeclaration (specs (syntax.StorageSpec storage.Typedef (at 1 0) ∷ syntax.TypeSpec type.Int (at 9 1) ∷ [])) (declared (syntax.init_declarator (syntax.Named [] (name (codes "F") (at 13 2)) (suffixes (syntax.FunctionSuffix (parameters (syntax.parameter (specs (syntax.TypeSpec type.Int (at 15 4) ∷ [])) (syntax.Unnamed [] (suffixes [])) (at 15 4) ∷ [])) false (at 14 3) ∷ []))) syntax.no_initializer ∷ []))) ∷ syntax.ExternalDeclaration (syntax.SimpleDeclaration (specs (syntax.TypedefName (name (codes "F") (at 21 7)) ∷ [])) (declared (syntax.init_declarator (syntax.Named [] (name (codes "f") (at 23 8)) (suffixes [])) syntax.no_initializer ∷ []))) ∷ syntax.FunctionDefinition (specs (syntax.TypeSpec type.Int (at 26 10) ∷ [])) (syntax.Named [] (name (codes "g") (at 30 11)) (suffixes (syntax.FunctionSuffix (parameters (syntax.parameter (specs (syntax.TypeSpec type.Void (at 32 13) ∷ [])) (syntax.Unnamed [] (suffixes [])) (at 32 13) ∷ [])) false (at 31 12) ∷ []))) (syntax.block (block_items (syntax.StatementItem (syntax.Return (syntax.an_expr (syntax.Call (syntax.Identifier (name (codes "f") (at 47 17))) (syntax.exprs ((syntax.Constant (pos 1) basic.Int (at 49 19)) ∷ [])) (at 48 18))) (at 40 16) (span (at 40 16) (at 51 21))) ∷ [])) (span (at 38 15) (at 53 22))) ∷ syntax.FunctionDefinition (specs (syntax.TypeSpec type.Int (at 55 23) ∷ [])) (syntax.Named [] (name (codes "f") (at 59 24)) (suffixes (syntax.FunctionSuffix (parameters (syntax.parameter (specs (syntax.TypeSpec type.Int (at 61 26) ∷ [])) (syntax.Named [] (name (codes "x") (at 65 27)) (suffixes [])) (at 61 26) ∷ [])) false (at 60 25) ∷ []))) (syntax.block (block_items (syntax.StatementItem (syntax.Return (syntax.an_expr (syntax.Identifier (name (codes "x") (at 77 31)))) (at 70 30) (span (at 70 30) (at 78 32))) ∷ [])) (span (at 68 29) (at 80 33))) ∷ [])

-- int g(void) { static int n; enum { E = 2 }; return ((int (void)) { return n + E; })(); }
abbrev pub accepted_statements_initializers_programs_57 : List syntax.External
accepted_statements_initializers_programs_57 = (syntax.FunctionDefinition (specs (syntax.TypeSpec type.Int (at 1 0) ∷ [])) (syntax.Named [] (name (codes "g") (at 5 1)) (suffixes (syntax.FunctionSuffix (parameters (syntax.parameter (specs (syntax.TypeSpec type.Void (at 7 3) ∷ [])) (syntax.Unnamed [] (suffixes [])) (at 7 3) ∷ [])) false (at 6 2) ∷ []))) (syntax.block (block_items (syntax.DeclarationItem (syntax.SimpleDeclaration (specs (syntax.StorageSpec storage.Static (at 15 6) ∷ syntax.TypeSpec type.Int (at 22 7) ∷ [])) (declared (syntax.init_declarator (syntax.Named [] (name (codes "n") (at 26 8)) (suffixes [])) syntax.no_initializer ∷ []))) ∷ syntax.DeclarationItem (syntax.SimpleDeclaration (specs (syntax.Enum None syntax.none_of_specs (enumerators (syntax.enumerator (name (codes "E") (at 36 12)) (syntax.an_expr (syntax.Constant (pos 2) basic.Int (at 40 14))) ∷ [])) (at 29 10) ∷ [])) (declared [])) ∷ syntax.StatementItem (syntax.Return (syntax.an_expr (syntax.Call (syntax.Parenthesized (syntax.FunctionLiteral (syntax.type_name (specs (syntax.TypeSpec type.Int (at 54 20) ∷ [])) (syntax.Unnamed [] (suffixes (syntax.FunctionSuffix (parameters (syntax.parameter (specs (syntax.TypeSpec type.Void (at 59 22) ∷ [])) (syntax.Unnamed [] (suffixes [])) (at 59 22) ∷ [])) false (at 58 21) ∷ [])))) (syntax.block (block_items (syntax.StatementItem (syntax.Return (syntax.an_expr (syntax.Binary op.Add (syntax.Identifier (name (codes "n") (at 75 27))) (syntax.Identifier (name (codes "E") (at 79 29))) (at 77 28))) (at 68 26) (span (at 68 26) (at 80 30))) ∷ [])) (span (at 66 25) (at 82 31))) (at 53 19)) (at 52 18)) (syntax.exprs []) (at 84 33))) (at 45 17) (span (at 45 17) (at 86 35))) ∷ [])) (span (at 13 5) (at 88 36))) ∷ [])

-- const char *const names[] = { "a", "bc", [3] = "def" }; int n = sizeof(names) / sizeof(names[0]);
abbrev pub accepted_statements_initializers_programs_58 : List syntax.External
accepted_statements_initializers_programs_58 = (syntax.ExternalDeclaration (syntax.SimpleDeclaration (specs (syntax.QualifierSpec (qualifier qual.Const (at 1 0)) ∷ syntax.TypeSpec type.Char (at 7 1) ∷ [])) (declared (syntax.init_declarator (syntax.Named (pointer (at 12 2) ((qualifier qual.Const (at 13 3)) ∷ []) ∷ []) (name (codes "names") (at 19 4)) (suffixes (syntax.ArraySuffix syntax.no_expr (at 24 5) ∷ []))) (syntax.an_initializer (syntax.Braced (syntax.braces (items (syntax.item (designators []) (syntax.Single (syntax.Text (codes "a") (at 31 9))) ∷ syntax.item (designators []) (syntax.Single (syntax.Text (codes "bc") (at 36 11))) ∷ syntax.item (designators (syntax.ElementDesignator (syntax.Constant (pos 3) basic.Int (at 43 14)) (at 42 13) ∷ [])) (syntax.Single (syntax.Text (codes "def") (at 48 17))) ∷ [])) (at 29 8)))) ∷ []))) ∷ syntax.ExternalDeclaration (syntax.SimpleDeclaration (specs (syntax.TypeSpec type.Int (at 57 20) ∷ [])) (declared (syntax.init_declarator (syntax.Named [] (name (codes "n") (at 61 21)) (suffixes [])) (syntax.an_initializer (syntax.Single (syntax.Binary op.Div (syntax.SizeofExpr (syntax.Parenthesized (syntax.Identifier (name (codes "names") (at 72 25))) (at 71 24)) (at 65 23)) (syntax.SizeofExpr (syntax.Parenthesized (syntax.Index (syntax.Identifier (name (codes "names") (at 88 30))) (syntax.Constant (pos 0) basic.Int (at 94 32)) (at 93 31)) (at 87 29)) (at 81 28)) (at 79 27)))) ∷ []))) ∷ [])

-- int main(int argc, char **argv) { return argc > 1 && argv[1] != nullptr; }
abbrev pub accepted_statements_initializers_programs_59 : List syntax.External
accepted_statements_initializers_programs_59 = (syntax.FunctionDefinition (specs (syntax.TypeSpec type.Int (at 1 0) ∷ [])) (syntax.Named [] (name (codes "main") (at 5 1)) (suffixes (syntax.FunctionSuffix (parameters (syntax.parameter (specs (syntax.TypeSpec type.Int (at 10 3) ∷ [])) (syntax.Named [] (name (codes "argc") (at 14 4)) (suffixes [])) (at 10 3) ∷ syntax.parameter (specs (syntax.TypeSpec type.Char (at 20 6) ∷ [])) (syntax.Named (pointer (at 25 7) [] ∷ pointer (at 26 8) [] ∷ []) (name (codes "argv") (at 27 9)) (suffixes [])) (at 20 6) ∷ [])) false (at 9 2) ∷ []))) (syntax.block (block_items (syntax.StatementItem (syntax.Return (syntax.an_expr (syntax.Logic logic.And (syntax.Binary op.Greater (syntax.Identifier (name (codes "argc") (at 42 13))) (syntax.Constant (pos 1) basic.Int (at 49 15)) (at 47 14)) (syntax.Binary op.NotEqual (syntax.Index (syntax.Identifier (name (codes "argv") (at 54 17))) (syntax.Constant (pos 1) basic.Int (at 59 19)) (at 58 18)) (syntax.Nullptr (at 65 22)) (at 62 21)) (at 51 16))) (at 35 12) (span (at 35 12) (at 72 23))) ∷ [])) (span (at 33 11) (at 74 24))) ∷ [])

-- int main(void) { ; }
abbrev pub accepted_statements_initializers_programs_60 : List syntax.External
accepted_statements_initializers_programs_60 = (syntax.FunctionDefinition (specs (syntax.TypeSpec type.Int (at 1 0) ∷ [])) (syntax.Named [] (name (codes "main") (at 5 1)) (suffixes (syntax.FunctionSuffix (parameters (syntax.parameter (specs (syntax.TypeSpec type.Void (at 10 3) ∷ [])) (syntax.Unnamed [] (suffixes [])) (at 10 3) ∷ [])) false (at 9 2) ∷ []))) (syntax.block (block_items (syntax.StatementItem (syntax.ExpressionStatement syntax.no_expr (span (at 18 6) (at 18 6))) ∷ [])) (span (at 16 5) (at 20 7))) ∷ [])

-- void g(int n) { int *p = (int[3]){1, 2}; p = n ? (int[]){n} : p; }
abbrev pub accepted_statements_initializers_programs_61 : List syntax.External
accepted_statements_initializers_programs_61 = (syntax.FunctionDefinition (specs (syntax.TypeSpec type.Void (at 1 0) ∷ [])) (syntax.Named [] (name (codes "g") (at 6 1)) (suffixes (syntax.FunctionSuffix (parameters (syntax.parameter (specs (syntax.TypeSpec type.Int (at 8 3) ∷ [])) (syntax.Named [] (name (codes "n") (at 12 4)) (suffixes [])) (at 8 3) ∷ [])) false (at 7 2) ∷ []))) (syntax.block (block_items (syntax.DeclarationItem (syntax.SimpleDeclaration (specs (syntax.TypeSpec type.Int (at 17 7) ∷ [])) (declared (syntax.init_declarator (syntax.Named (pointer (at 21 8) [] ∷ []) (name (codes "p") (at 22 9)) (suffixes [])) (syntax.an_initializer (syntax.Single (syntax.CompoundLiteral (syntax.type_name (specs (syntax.TypeSpec type.Int (at 27 12) ∷ [])) (syntax.Unnamed [] (suffixes (syntax.ArraySuffix (syntax.an_expr (syntax.Constant (pos 3) basic.Int (at 31 14))) (at 30 13) ∷ [])))) (syntax.braces (items (syntax.item (designators []) (syntax.Single (syntax.Constant (pos 1) basic.Int (at 35 18))) ∷ syntax.item (designators []) (syntax.Single (syntax.Constant (pos 2) basic.Int (at 38 20))) ∷ [])) (at 34 17)) (at 26 11)))) ∷ []))) ∷ syntax.StatementItem (syntax.ExpressionStatement (syntax.an_expr (syntax.Assign (syntax.Identifier (name (codes "p") (at 42 23))) (syntax.Conditional (syntax.Identifier (name (codes "n") (at 46 25))) (syntax.CompoundLiteral (syntax.type_name (specs (syntax.TypeSpec type.Int (at 51 28) ∷ [])) (syntax.Unnamed [] (suffixes (syntax.ArraySuffix syntax.no_expr (at 54 29) ∷ [])))) (syntax.braces (items (syntax.item (designators []) (syntax.Single (syntax.Identifier (name (codes "n") (at 58 33)))) ∷ [])) (at 57 32)) (at 50 27)) (syntax.Identifier (name (codes "p") (at 63 36))) (at 48 26)) (at 44 24))) (span (at 42 23) (at 64 37))) ∷ [])) (span (at 15 6) (at 66 38))) ∷ [])

-- void g(void) { int f(void); extern int h(void); f(); h(); }
abbrev pub accepted_statements_initializers_programs_62 : List syntax.External
accepted_statements_initializers_programs_62 = (syntax.FunctionDefinition (specs (syntax.TypeSpec type.Void (at 1 0) ∷ [])) (syntax.Named [] (name (codes "g") (at 6 1)) (suffixes (syntax.FunctionSuffix (parameters (syntax.parameter (specs (syntax.TypeSpec type.Void (at 8 3) ∷ [])) (syntax.Unnamed [] (suffixes [])) (at 8 3) ∷ [])) false (at 7 2) ∷ []))) (syntax.block (block_items (syntax.DeclarationItem (syntax.SimpleDeclaration (specs (syntax.TypeSpec type.Int (at 16 6) ∷ [])) (declared (syntax.init_declarator (syntax.Named [] (name (codes "f") (at 20 7)) (suffixes (syntax.FunctionSuffix (parameters (syntax.parameter (specs (syntax.TypeSpec type.Void (at 22 9) ∷ [])) (syntax.Unnamed [] (suffixes [])) (at 22 9) ∷ [])) false (at 21 8) ∷ []))) syntax.no_initializer ∷ []))) ∷ syntax.DeclarationItem (syntax.SimpleDeclaration (specs (syntax.StorageSpec storage.Extern (at 29 12) ∷ syntax.TypeSpec type.Int (at 36 13) ∷ [])) (declared (syntax.init_declarator (syntax.Named [] (name (codes "h") (at 40 14)) (suffixes (syntax.FunctionSuffix (parameters (syntax.parameter (specs (syntax.TypeSpec type.Void (at 42 16) ∷ [])) (syntax.Unnamed [] (suffixes [])) (at 42 16) ∷ [])) false (at 41 15) ∷ []))) syntax.no_initializer ∷ []))) ∷ syntax.StatementItem (syntax.ExpressionStatement (syntax.an_expr (syntax.Call (syntax.Identifier (name (codes "f") (at 49 19))) (syntax.exprs []) (at 50 20))) (span (at 49 19) (at 52 22))) ∷ syntax.StatementItem (syntax.ExpressionStatement (syntax.an_expr (syntax.Call (syntax.Identifier (name (codes "h") (at 54 23))) (syntax.exprs []) (at 55 24))) (span (at 54 23) (at 57 26))) ∷ [])) (span (at 14 5) (at 59 27))) ∷ [])

-- static int f(void); int f(void) { return 1; } extern int f(void);
abbrev pub accepted_statements_initializers_programs_63 : List syntax.External
accepted_statements_initializers_programs_63 = (syntax.ExternalDeclaration (syntax.SimpleDeclaration (specs (syntax.StorageSpec storage.Static (at 1 0) ∷ syntax.TypeSpec type.Int (at 8 1) ∷ [])) (declared (syntax.init_declarator (syntax.Named [] (name (codes "f") (at 12 2)) (suffixes (syntax.FunctionSuffix (parameters (syntax.parameter (specs (syntax.TypeSpec type.Void (at 14 4) ∷ [])) (syntax.Unnamed [] (suffixes [])) (at 14 4) ∷ [])) false (at 13 3) ∷ []))) syntax.no_initializer ∷ []))) ∷ syntax.FunctionDefinition (specs (syntax.TypeSpec type.Int (at 21 7) ∷ [])) (syntax.Named [] (name (codes "f") (at 25 8)) (suffixes (syntax.FunctionSuffix (parameters (syntax.parameter (specs (syntax.TypeSpec type.Void (at 27 10) ∷ [])) (syntax.Unnamed [] (suffixes [])) (at 27 10) ∷ [])) false (at 26 9) ∷ []))) (syntax.block (block_items (syntax.StatementItem (syntax.Return (syntax.an_expr (syntax.Constant (pos 1) basic.Int (at 42 14))) (at 35 13) (span (at 35 13) (at 43 15))) ∷ [])) (span (at 33 12) (at 45 16))) ∷ syntax.ExternalDeclaration (syntax.SimpleDeclaration (specs (syntax.StorageSpec storage.Extern (at 47 17) ∷ syntax.TypeSpec type.Int (at 54 18) ∷ [])) (declared (syntax.init_declarator (syntax.Named [] (name (codes "f") (at 58 19)) (suffixes (syntax.FunctionSuffix (parameters (syntax.parameter (specs (syntax.TypeSpec type.Void (at 60 21) ∷ [])) (syntax.Unnamed [] (suffixes [])) (at 60 21) ∷ [])) false (at 59 20) ∷ []))) syntax.no_initializer ∷ []))) ∷ [])

-- int f(); int f(void) { return 0; }
abbrev pub accepted_statements_initializers_programs_64 : List syntax.External
accepted_statements_initializers_programs_64 = (syntax.ExternalDeclaration (syntax.SimpleDeclaration (specs (syntax.TypeSpec type.Int (at 1 0) ∷ [])) (declared (syntax.init_declarator (syntax.Named [] (name (codes "f") (at 5 1)) (suffixes (syntax.FunctionSuffix (parameters []) false (at 6 2) ∷ []))) syntax.no_initializer ∷ []))) ∷ syntax.FunctionDefinition (specs (syntax.TypeSpec type.Int (at 10 5) ∷ [])) (syntax.Named [] (name (codes "f") (at 14 6)) (suffixes (syntax.FunctionSuffix (parameters (syntax.parameter (specs (syntax.TypeSpec type.Void (at 16 8) ∷ [])) (syntax.Unnamed [] (suffixes [])) (at 16 8) ∷ [])) false (at 15 7) ∷ []))) (syntax.block (block_items (syntax.StatementItem (syntax.Return (syntax.an_expr (syntax.Constant (pos 0) basic.Int (at 31 12))) (at 24 11) (span (at 24 11) (at 32 13))) ∷ [])) (span (at 22 10) (at 34 14))) ∷ [])

-- enum { A = 1, B = A + 1, C = sizeof(int) }; int x[C];
abbrev pub accepted_statements_initializers_programs_65 : List syntax.External
accepted_statements_initializers_programs_65 = (syntax.ExternalDeclaration (syntax.SimpleDeclaration (specs (syntax.Enum None syntax.none_of_specs (enumerators (syntax.enumerator (name (codes "A") (at 8 2)) (syntax.an_expr (syntax.Constant (pos 1) basic.Int (at 12 4))) ∷ syntax.enumerator (name (codes "B") (at 15 6)) (syntax.an_expr (syntax.Binary op.Add (syntax.Identifier (name (codes "A") (at 19 8))) (syntax.Constant (pos 1) basic.Int (at 23 10)) (at 21 9))) ∷ syntax.enumerator (name (codes "C") (at 26 12)) (syntax.an_expr (syntax.SizeofType (syntax.type_name (specs (syntax.TypeSpec type.Int (at 37 16) ∷ [])) (syntax.Unnamed [] (suffixes []))) (at 30 14))) ∷ [])) (at 1 0) ∷ [])) (declared [])) ∷ syntax.ExternalDeclaration (syntax.SimpleDeclaration (specs (syntax.TypeSpec type.Int (at 45 20) ∷ [])) (declared (syntax.init_declarator (syntax.Named [] (name (codes "x") (at 49 21)) (suffixes (syntax.ArraySuffix (syntax.an_expr (syntax.Identifier (name (codes "C") (at 51 23)))) (at 50 22) ∷ []))) syntax.no_initializer ∷ []))) ∷ [])

-- void * _Owner _Opt malloc(unsigned long); void free(void * _Owner _Opt); static int f0(int x) { char * _Owner _Opt p = malloc(1); if (!p) return x; defer free(p); *p = 1; return x + 0; } int main(void) { int s = 0; s = f0(s); return s; }
abbrev pub accepted_statements_initializers_programs_66 : List syntax.External
accepted_statements_initializers_programs_66 = (syntax.ExternalDeclaration (syntax.SimpleDeclaration (specs (syntax.TypeSpec type.Void (at 1 0) ∷ [])) (declared (syntax.init_declarator (syntax.Named (pointer (at 6 1) ((qualifier qual.Owner (at 8 2)) ∷ (qualifier qual.Opt (at 15 3)) ∷ []) ∷ []) (name (codes "malloc") (at 20 4)) (suffixes (syntax.FunctionSuffix (parameters (syntax.parameter (specs (syntax.TypeSpec type.Unsigned (at 27 6) ∷ syntax.TypeSpec type.Long (at 36 7) ∷ [])) (syntax.Unnamed [] (suffixes [])) (at 27 6) ∷ [])) false (at 26 5) ∷ []))) syntax.no_initializer ∷ []))) ∷ syntax.ExternalDeclaration (syntax.SimpleDeclaration (specs (syntax.TypeSpec type.Void (at 43 10) ∷ [])) (declared (syntax.init_declarator (syntax.Named [] (name (codes "free") (at 48 11)) (suffixes (syntax.FunctionSuffix (parameters (syntax.parameter (specs (syntax.TypeSpec type.Void (at 53 13) ∷ [])) (syntax.Unnamed (pointer (at 58 14) ((qualifier qual.Owner (at 60 15)) ∷ (qualifier qual.Opt (at 67 16)) ∷ []) ∷ []) (suffixes [])) (at 53 13) ∷ [])) false (at 52 12) ∷ []))) syntax.no_initializer ∷ []))) ∷ syntax.FunctionDefinition (specs (syntax.StorageSpec storage.Static (at 74 19) ∷ syntax.TypeSpec type.Int (at 81 20) ∷ [])) (syntax.Named [] (name (codes "f0") (at 85 21)) (suffixes (syntax.FunctionSuffix (parameters (syntax.parameter (specs (syntax.TypeSpec type.Int (at 88 23) ∷ [])) (syntax.Named [] (name (codes "x") (at 92 24)) (suffixes [])) (at 88 23) ∷ [])) false (at 87 22) ∷ []))) (syntax.block (block_items (syntax.DeclarationItem (syntax.SimpleDeclaration (specs (syntax.TypeSpec type.Char (at 97 27) ∷ [])) (declared (syntax.init_declarator (syntax.Named (pointer (at 102 28) ((qualifier qual.Owner (at 104 29)) ∷ (qualifier qual.Opt (at 111 30)) ∷ []) ∷ []) (name (codes "p") (at 116 31)) (suffixes [])) (syntax.an_initializer (syntax.Single (syntax.Call (syntax.Identifier (name (codes "malloc") (at 120 33))) (syntax.exprs ((syntax.Constant (pos 1) basic.Int (at 127 35)) ∷ [])) (at 126 34)))) ∷ []))) ∷ syntax.StatementItem (syntax.If syntax.no_declaration (syntax.Unary prefix.Not (syntax.Identifier (name (codes "p") (at 136 41))) (at 135 40)) (syntax.Return (syntax.an_expr (syntax.Identifier (name (codes "x") (at 146 44)))) (at 139 43) (span (at 139 43) (at 147 45))) syntax.no_statement (span (at 131 38) (at 147 45))) ∷ syntax.StatementItem (syntax.Defer (syntax.ExpressionStatement (syntax.an_expr (syntax.Call (syntax.Identifier (name (codes "free") (at 155 47))) (syntax.exprs ((syntax.Identifier (name (codes "p") (at 160 49))) ∷ [])) (at 159 48))) (span (at 155 47) (at 162 51))) (at 149 46) (span (at 149 46) (at 162 51))) ∷ syntax.StatementItem (syntax.ExpressionStatement (syntax.an_expr (syntax.Assign (syntax.Unary prefix.Indirection (syntax.Identifier (name (codes "p") (at 165 53))) (at 164 52)) (syntax.Constant (pos 1) basic.Int (at 169 55)) (at 167 54))) (span (at 164 52) (at 170 56))) ∷ syntax.StatementItem (syntax.Return (syntax.an_expr (syntax.Binary op.Add (syntax.Identifier (name (codes "x") (at 179 58))) (syntax.Constant (pos 0) basic.Int (at 183 60)) (at 181 59))) (at 172 57) (span (at 172 57) (at 184 61))) ∷ [])) (span (at 95 26) (at 186 62))) ∷ syntax.FunctionDefinition (specs (syntax.TypeSpec type.Int (at 188 63) ∷ [])) (syntax.Named [] (name (codes "main") (at 192 64)) (suffixes (syntax.FunctionSuffix (parameters (syntax.parameter (specs (syntax.TypeSpec type.Void (at 197 66) ∷ [])) (syntax.Unnamed [] (suffixes [])) (at 197 66) ∷ [])) false (at 196 65) ∷ []))) (syntax.block (block_items (syntax.DeclarationItem (syntax.SimpleDeclaration (specs (syntax.TypeSpec type.Int (at 205 69) ∷ [])) (declared (syntax.init_declarator (syntax.Named [] (name (codes "s") (at 209 70)) (suffixes [])) (syntax.an_initializer (syntax.Single (syntax.Constant (pos 0) basic.Int (at 213 72)))) ∷ []))) ∷ syntax.StatementItem (syntax.ExpressionStatement (syntax.an_expr (syntax.Assign (syntax.Identifier (name (codes "s") (at 216 74))) (syntax.Call (syntax.Identifier (name (codes "f0") (at 220 76))) (syntax.exprs ((syntax.Identifier (name (codes "s") (at 223 78))) ∷ [])) (at 222 77)) (at 218 75))) (span (at 216 74) (at 225 80))) ∷ syntax.StatementItem (syntax.Return (syntax.an_expr (syntax.Identifier (name (codes "s") (at 234 82)))) (at 227 81) (span (at 227 81) (at 235 83))) ∷ [])) (span (at 203 68) (at 237 84))) ∷ [])

-- struct node { int value; struct node *next; }; static struct node *reverse(struct node *list) { struct node *done = nullptr; while (list) { struct node *next = list->next; list->next = done; done = list; list = next; } return done; } int sum(const struct node *list) { int total = 0; for (const struct node *n = list; n != nullptr; n = n->next) total += n->value; return total; } int main(void) { struct node a[3] = { { 1, &a[1] }, { 2, &a[2] }, { .value = 3 } }; return sum(reverse(a)) == 6 ? 0 : 1; }
abbrev pub accepted_statements_initializers_programs_67 : List syntax.External
accepted_statements_initializers_programs_67 = (syntax.ExternalDeclaration (syntax.SimpleDeclaration (specs (syntax.Struct (Some (name (codes "node") (at 8 1))) (members (syntax.MemberDeclarators (specs (syntax.TypeSpec type.Int (at 15 3) ∷ [])) (syntax.declarators ((syntax.Named [] (name (codes "value") (at 19 4)) (suffixes [])) ∷ [])) ∷ syntax.MemberDeclarators (specs (syntax.StructTag (name (codes "node") (at 33 7)) (at 26 6) ∷ [])) (syntax.declarators ((syntax.Named (pointer (at 38 8) [] ∷ []) (name (codes "next") (at 39 9)) (suffixes [])) ∷ [])) ∷ [])) (at 1 0) ∷ [])) (declared [])) ∷ syntax.FunctionDefinition (specs (syntax.StorageSpec storage.Static (at 48 13) ∷ syntax.StructTag (name (codes "node") (at 62 15)) (at 55 14) ∷ [])) (syntax.Named (pointer (at 67 16) [] ∷ []) (name (codes "reverse") (at 68 17)) (suffixes (syntax.FunctionSuffix (parameters (syntax.parameter (specs (syntax.StructTag (name (codes "node") (at 83 20)) (at 76 19) ∷ [])) (syntax.Named (pointer (at 88 21) [] ∷ []) (name (codes "list") (at 89 22)) (suffixes [])) (at 76 19) ∷ [])) false (at 75 18) ∷ []))) (syntax.block (block_items (syntax.DeclarationItem (syntax.SimpleDeclaration (specs (syntax.StructTag (name (codes "node") (at 104 26)) (at 97 25) ∷ [])) (declared (syntax.init_declarator (syntax.Named (pointer (at 109 27) [] ∷ []) (name (codes "done") (at 110 28)) (suffixes [])) (syntax.an_initializer (syntax.Single (syntax.Nullptr (at 117 30)))) ∷ []))) ∷ syntax.StatementItem (syntax.While (syntax.Identifier (name (codes "list") (at 133 34))) (syntax.CompoundStatement (syntax.block (block_items (syntax.DeclarationItem (syntax.SimpleDeclaration (specs (syntax.StructTag (name (codes "node") (at 148 38)) (at 141 37) ∷ [])) (declared (syntax.init_declarator (syntax.Named (pointer (at 153 39) [] ∷ []) (name (codes "next") (at 154 40)) (suffixes [])) (syntax.an_initializer (syntax.Single (syntax.Arrow (syntax.Identifier (name (codes "list") (at 161 42))) (name (codes "next") (at 167 44)) (at 165 43)))) ∷ []))) ∷ syntax.StatementItem (syntax.ExpressionStatement (syntax.an_expr (syntax.Assign (syntax.Arrow (syntax.Identifier (name (codes "list") (at 173 46))) (name (codes "next") (at 179 48)) (at 177 47)) (syntax.Identifier (name (codes "done") (at 186 50))) (at 184 49))) (span (at 173 46) (at 190 51))) ∷ syntax.StatementItem (syntax.ExpressionStatement (syntax.an_expr (syntax.Assign (syntax.Identifier (name (codes "done") (at 192 52))) (syntax.Identifier (name (codes "list") (at 199 54))) (at 197 53))) (span (at 192 52) (at 203 55))) ∷ syntax.StatementItem (syntax.ExpressionStatement (syntax.an_expr (syntax.Assign (syntax.Identifier (name (codes "list") (at 205 56))) (syntax.Identifier (name (codes "next") (at 212 58))) (at 210 57))) (span (at 205 56) (at 216 59))) ∷ [])) (span (at 139 36) (at 218 60))) (span (at 139 36) (at 218 60))) (span (at 126 32) (at 218 60))) ∷ syntax.StatementItem (syntax.Return (syntax.an_expr (syntax.Identifier (name (codes "done") (at 227 62)))) (at 220 61) (span (at 220 61) (at 231 63))) ∷ [])) (span (at 95 24) (at 233 64))) ∷ syntax.FunctionDefinition (specs (syntax.TypeSpec type.Int (at 235 65) ∷ [])) (syntax.Named [] (name (codes "sum") (at 239 66)) (suffixes (syntax.FunctionSuffix (parameters (syntax.parameter (specs (syntax.QualifierSpec (qualifier qual.Const (at 243 68)) ∷ syntax.StructTag (name (codes "node") (at 256 70)) (at 249 69) ∷ [])) (syntax.Named (pointer (at 261 71) [] ∷ []) (name (codes "list") (at 262 72)) (suffixes [])) (at 243 68) ∷ [])) false (at 242 67) ∷ []))) (syntax.block (block_items (syntax.DeclarationItem (syntax.SimpleDeclaration (specs (syntax.TypeSpec type.Int (at 270 75) ∷ [])) (declared (syntax.init_declarator (syntax.Named [] (name (codes "total") (at 274 76)) (suffixes [])) (syntax.an_initializer (syntax.Single (syntax.Constant (pos 0) basic.Int (at 282 78)))) ∷ []))) ∷ syntax.StatementItem (syntax.ForDeclaration (syntax.SimpleDeclaration (specs (syntax.QualifierSpec (qualifier qual.Const (at 290 82)) ∷ syntax.StructTag (name (codes "node") (at 303 84)) (at 296 83) ∷ [])) (declared (syntax.init_declarator (syntax.Named (pointer (at 308 85) [] ∷ []) (name (codes "n") (at 309 86)) (suffixes [])) (syntax.an_initializer (syntax.Single (syntax.Identifier (name (codes "list") (at 313 88))))) ∷ []))) (syntax.an_expr (syntax.Binary op.NotEqual (syntax.Identifier (name (codes "n") (at 319 90))) (syntax.Nullptr (at 324 92)) (at 321 91))) (syntax.an_expr (syntax.Assign (syntax.Identifier (name (codes "n") (at 333 94))) (syntax.Arrow (syntax.Identifier (name (codes "n") (at 337 96))) (name (codes "next") (at 340 98)) (at 338 97)) (at 335 95))) (syntax.ExpressionStatement (syntax.an_expr (syntax.AssignBy op.Add (syntax.Identifier (name (codes "total") (at 346 100))) (syntax.Arrow (syntax.Identifier (name (codes "n") (at 355 102))) (name (codes "value") (at 358 104)) (at 356 103)) (at 352 101))) (span (at 346 100) (at 363 105))) (span (at 285 80) (at 363 105))) ∷ syntax.StatementItem (syntax.Return (syntax.an_expr (syntax.Identifier (name (codes "total") (at 372 107)))) (at 365 106) (span (at 365 106) (at 377 108))) ∷ [])) (span (at 268 74) (at 379 109))) ∷ syntax.FunctionDefinition (specs (syntax.TypeSpec type.Int (at 381 110) ∷ [])) (syntax.Named [] (name (codes "main") (at 385 111)) (suffixes (syntax.FunctionSuffix (parameters (syntax.parameter (specs (syntax.TypeSpec type.Void (at 390 113) ∷ [])) (syntax.Unnamed [] (suffixes [])) (at 390 113) ∷ [])) false (at 389 112) ∷ []))) (syntax.block (block_items (syntax.DeclarationItem (syntax.SimpleDeclaration (specs (syntax.StructTag (name (codes "node") (at 405 117)) (at 398 116) ∷ [])) (declared (syntax.init_declarator (syntax.Named [] (name (codes "a") (at 410 118)) (suffixes (syntax.ArraySuffix (syntax.an_expr (syntax.Constant (pos 3) basic.Int (at 412 120))) (at 411 119) ∷ []))) (syntax.an_initializer (syntax.Braced (syntax.braces (items (syntax.item (designators []) (syntax.Braced (syntax.braces (items (syntax.item (designators []) (syntax.Single (syntax.Constant (pos 1) basic.Int (at 421 125))) ∷ syntax.item (designators []) (syntax.Single (syntax.Unary prefix.Address (syntax.Index (syntax.Identifier (name (codes "a") (at 425 128))) (syntax.Constant (pos 1) basic.Int (at 427 130)) (at 426 129)) (at 424 127))) ∷ [])) (at 419 124))) ∷ syntax.item (designators []) (syntax.Braced (syntax.braces (items (syntax.item (designators []) (syntax.Single (syntax.Constant (pos 2) basic.Int (at 435 135))) ∷ syntax.item (designators []) (syntax.Single (syntax.Unary prefix.Address (syntax.Index (syntax.Identifier (name (codes "a") (at 439 138))) (syntax.Constant (pos 2) basic.Int (at 441 140)) (at 440 139)) (at 438 137))) ∷ [])) (at 433 134))) ∷ syntax.item (designators []) (syntax.Braced (syntax.braces (items (syntax.item (designators (syntax.MemberDesignator (name (codes "value") (at 450 146)) (at 449 145) ∷ [])) (syntax.Single (syntax.Constant (pos 3) basic.Int (at 458 148))) ∷ [])) (at 447 144))) ∷ [])) (at 417 123)))) ∷ []))) ∷ syntax.StatementItem (syntax.Return (syntax.an_expr (syntax.Conditional (syntax.Binary op.Equal (syntax.Call (syntax.Identifier (name (codes "sum") (at 472 153))) (syntax.exprs ((syntax.Call (syntax.Identifier (name (codes "reverse") (at 476 155))) (syntax.exprs ((syntax.Identifier (name (codes "a") (at 484 157))) ∷ [])) (at 483 156)) ∷ [])) (at 475 154)) (syntax.Constant (pos 6) basic.Int (at 491 161)) (at 488 160)) (syntax.Constant (pos 0) basic.Int (at 495 163)) (syntax.Constant (pos 1) basic.Int (at 499 165)) (at 493 162))) (at 465 152) (span (at 465 152) (at 500 166))) ∷ [])) (span (at 396 115) (at 502 167))) ∷ [])

-- typedef unsigned long size_t; static size_t length(const char *s) { size_t n = 0; while (*s++) n++; return n; } static void copy(char *restrict to, const char *restrict from) { while ((*to++ = *from++)) ; } int main(void) { char b[16]; copy(b, "hello"); return (int)length(b) - 5; }
abbrev pub accepted_statements_initializers_programs_68 : List syntax.External
accepted_statements_initializers_programs_68 = (syntax.ExternalDeclaration (syntax.SimpleDeclaration (specs (syntax.StorageSpec storage.Typedef (at 1 0) ∷ syntax.TypeSpec type.Unsigned (at 9 1) ∷ syntax.TypeSpec type.Long (at 18 2) ∷ [])) (declared (syntax.init_declarator (syntax.Named [] (name (codes "size_t") (at 23 3)) (suffixes [])) syntax.no_initializer ∷ []))) ∷ syntax.FunctionDefinition (specs (syntax.StorageSpec storage.Static (at 31 5) ∷ syntax.TypedefName (name (codes "size_t") (at 38 6)) ∷ [])) (syntax.Named [] (name (codes "length") (at 45 7)) (suffixes (syntax.FunctionSuffix (parameters (syntax.parameter (specs (syntax.QualifierSpec (qualifier qual.Const (at 52 9)) ∷ syntax.TypeSpec type.Char (at 58 10) ∷ [])) (syntax.Named (pointer (at 63 11) [] ∷ []) (name (codes "s") (at 64 12)) (suffixes [])) (at 52 9) ∷ [])) false (at 51 8) ∷ []))) (syntax.block (block_items (syntax.DeclarationItem (syntax.SimpleDeclaration (specs (syntax.TypedefName (name (codes "size_t") (at 69 15)) ∷ [])) (declared (syntax.init_declarator (syntax.Named [] (name (codes "n") (at 76 16)) (suffixes [])) (syntax.an_initializer (syntax.Single (syntax.Constant (pos 0) basic.Int (at 80 18)))) ∷ []))) ∷ syntax.StatementItem (syntax.While (syntax.Unary prefix.Indirection (syntax.Step step.Increment side.Postfix (syntax.Identifier (name (codes "s") (at 91 23))) (at 92 24)) (at 90 22)) (syntax.ExpressionStatement (syntax.an_expr (syntax.Step step.Increment side.Postfix (syntax.Identifier (name (codes "n") (at 96 26))) (at 97 27))) (span (at 96 26) (at 99 28))) (span (at 83 20) (at 99 28))) ∷ syntax.StatementItem (syntax.Return (syntax.an_expr (syntax.Identifier (name (codes "n") (at 108 30)))) (at 101 29) (span (at 101 29) (at 109 31))) ∷ [])) (span (at 67 14) (at 111 32))) ∷ syntax.FunctionDefinition (specs (syntax.StorageSpec storage.Static (at 113 33) ∷ syntax.TypeSpec type.Void (at 120 34) ∷ [])) (syntax.Named [] (name (codes "copy") (at 125 35)) (suffixes (syntax.FunctionSuffix (parameters (syntax.parameter (specs (syntax.TypeSpec type.Char (at 130 37) ∷ [])) (syntax.Named (pointer (at 135 38) ((qualifier qual.Restrict (at 136 39)) ∷ []) ∷ []) (name (codes "to") (at 145 40)) (suffixes [])) (at 130 37) ∷ syntax.parameter (specs (syntax.QualifierSpec (qualifier qual.Const (at 149 42)) ∷ syntax.TypeSpec type.Char (at 155 43) ∷ [])) (syntax.Named (pointer (at 160 44) ((qualifier qual.Restrict (at 161 45)) ∷ []) ∷ []) (name (codes "from") (at 170 46)) (suffixes [])) (at 149 42) ∷ [])) false (at 129 36) ∷ []))) (syntax.block (block_items (syntax.StatementItem (syntax.While (syntax.Parenthesized (syntax.Assign (syntax.Unary prefix.Indirection (syntax.Step step.Increment side.Postfix (syntax.Identifier (name (codes "to") (at 187 53))) (at 189 54)) (at 186 52)) (syntax.Unary prefix.Indirection (syntax.Step step.Increment side.Postfix (syntax.Identifier (name (codes "from") (at 195 57))) (at 199 58)) (at 194 56)) (at 192 55)) (at 185 51)) (syntax.ExpressionStatement syntax.no_expr (span (at 204 61) (at 204 61))) (span (at 178 49) (at 204 61))) ∷ [])) (span (at 176 48) (at 206 62))) ∷ syntax.FunctionDefinition (specs (syntax.TypeSpec type.Int (at 208 63) ∷ [])) (syntax.Named [] (name (codes "main") (at 212 64)) (suffixes (syntax.FunctionSuffix (parameters (syntax.parameter (specs (syntax.TypeSpec type.Void (at 217 66) ∷ [])) (syntax.Unnamed [] (suffixes [])) (at 217 66) ∷ [])) false (at 216 65) ∷ []))) (syntax.block (block_items (syntax.DeclarationItem (syntax.SimpleDeclaration (specs (syntax.TypeSpec type.Char (at 225 69) ∷ [])) (declared (syntax.init_declarator (syntax.Named [] (name (codes "b") (at 230 70)) (suffixes (syntax.ArraySuffix (syntax.an_expr (syntax.Constant (pos 16) basic.Int (at 232 72))) (at 231 71) ∷ []))) syntax.no_initializer ∷ []))) ∷ syntax.StatementItem (syntax.ExpressionStatement (syntax.an_expr (syntax.Call (syntax.Identifier (name (codes "copy") (at 237 75))) (syntax.exprs ((syntax.Identifier (name (codes "b") (at 242 77))) ∷ (syntax.Text (codes "hello") (at 245 79)) ∷ [])) (at 241 76))) (span (at 237 75) (at 253 81))) ∷ syntax.StatementItem (syntax.Return (syntax.an_expr (syntax.Binary op.Sub (syntax.Cast (syntax.type_name (specs (syntax.TypeSpec type.Int (at 263 84) ∷ [])) (syntax.Unnamed [] (suffixes []))) (syntax.Call (syntax.Identifier (name (codes "length") (at 267 86))) (syntax.exprs ((syntax.Identifier (name (codes "b") (at 274 88))) ∷ [])) (at 273 87)) (at 262 83)) (syntax.Constant (pos 5) basic.Int (at 279 91)) (at 277 90))) (at 255 82) (span (at 255 82) (at 280 92))) ∷ [])) (span (at 223 68) (at 282 93))) ∷ [])

-- enum op { ADD, SUB, MUL }; typedef int binary(int, int); static int add(int a, int b) { return a + b; } static int sub(int a, int b) { return a - b; } static binary *const table[] = { [ADD] = add, [SUB] = sub, [MUL] = (int (int a, int b)) { return a * b; } }; int run(enum op o, int a, int b) { return table[o](a, b); }
abbrev pub accepted_statements_initializers_programs_69 : List syntax.External
accepted_statements_initializers_programs_69 = (syntax.ExternalDeclaration (syntax.SimpleDeclaration (specs (syntax.Enum (Some (name (codes "op") (at 6 1))) syntax.none_of_specs (enumerators (syntax.enumerator (name (codes "ADD") (at 11 3)) syntax.no_expr ∷ syntax.enumerator (name (codes "SUB") (at 16 5)) syntax.no_expr ∷ syntax.enumerator (name (codes "MUL") (at 21 7)) syntax.no_expr ∷ [])) (at 1 0) ∷ [])) (declared [])) ∷ syntax.ExternalDeclaration (syntax.SimpleDeclaration (specs (syntax.StorageSpec storage.Typedef (at 28 10) ∷ syntax.TypeSpec type.Int (at 36 11) ∷ [])) (declared (syntax.init_declarator (syntax.Named [] (name (codes "binary") (at 40 12)) (suffixes (syntax.FunctionSuffix (parameters (syntax.parameter (specs (syntax.TypeSpec type.Int (at 47 14) ∷ [])) (syntax.Unnamed [] (suffixes [])) (at 47 14) ∷ syntax.parameter (specs (syntax.TypeSpec type.Int (at 52 16) ∷ [])) (syntax.Unnamed [] (suffixes [])) (at 52 16) ∷ [])) false (at 46 13) ∷ []))) syntax.no_initializer ∷ []))) ∷ syntax.FunctionDefinition (specs (syntax.StorageSpec storage.Static (at 58 19) ∷ syntax.TypeSpec type.Int (at 65 20) ∷ [])) (syntax.Named [] (name (codes "add") (at 69 21)) (suffixes (syntax.FunctionSuffix (parameters (syntax.parameter (specs (syntax.TypeSpec type.Int (at 73 23) ∷ [])) (syntax.Named [] (name (codes "a") (at 77 24)) (suffixes [])) (at 73 23) ∷ syntax.parameter (specs (syntax.TypeSpec type.Int (at 80 26) ∷ [])) (syntax.Named [] (name (codes "b") (at 84 27)) (suffixes [])) (at 80 26) ∷ [])) false (at 72 22) ∷ []))) (syntax.block (block_items (syntax.StatementItem (syntax.Return (syntax.an_expr (syntax.Binary op.Add (syntax.Identifier (name (codes "a") (at 96 31))) (syntax.Identifier (name (codes "b") (at 100 33))) (at 98 32))) (at 89 30) (span (at 89 30) (at 101 34))) ∷ [])) (span (at 87 29) (at 103 35))) ∷ syntax.FunctionDefinition (specs (syntax.StorageSpec storage.Static (at 105 36) ∷ syntax.TypeSpec type.Int (at 112 37) ∷ [])) (syntax.Named [] (name (codes "sub") (at 116 38)) (suffixes (syntax.FunctionSuffix (parameters (syntax.parameter (specs (syntax.TypeSpec type.Int (at 120 40) ∷ [])) (syntax.Named [] (name (codes "a") (at 124 41)) (suffixes [])) (at 120 40) ∷ syntax.parameter (specs (syntax.TypeSpec type.Int (at 127 43) ∷ [])) (syntax.Named [] (name (codes "b") (at 131 44)) (suffixes [])) (at 127 43) ∷ [])) false (at 119 39) ∷ []))) (syntax.block (block_items (syntax.StatementItem (syntax.Return (syntax.an_expr (syntax.Binary op.Sub (syntax.Identifier (name (codes "a") (at 143 48))) (syntax.Identifier (name (codes "b") (at 147 50))) (at 145 49))) (at 136 47) (span (at 136 47) (at 148 51))) ∷ [])) (span (at 134 46) (at 150 52))) ∷ syntax.ExternalDeclaration (syntax.SimpleDeclaration (specs (syntax.StorageSpec storage.Static (at 152 53) ∷ syntax.TypedefName (name (codes "binary") (at 159 54)) ∷ [])) (declared (syntax.init_declarator (syntax.Named (pointer (at 166 55) ((qualifier qual.Const (at 167 56)) ∷ []) ∷ []) (name (codes "table") (at 173 57)) (suffixes (syntax.ArraySuffix syntax.no_expr (at 178 58) ∷ []))) (syntax.an_initializer (syntax.Braced (syntax.braces (items (syntax.item (designators (syntax.ElementDesignator (syntax.Identifier (name (codes "ADD") (at 186 63))) (at 185 62) ∷ [])) (syntax.Single (syntax.Identifier (name (codes "add") (at 193 66)))) ∷ syntax.item (designators (syntax.ElementDesignator (syntax.Identifier (name (codes "SUB") (at 199 69))) (at 198 68) ∷ [])) (syntax.Single (syntax.Identifier (name (codes "sub") (at 206 72)))) ∷ syntax.item (designators (syntax.ElementDesignator (syntax.Identifier (name (codes "MUL") (at 212 75))) (at 211 74) ∷ [])) (syntax.Single (syntax.FunctionLiteral (syntax.type_name (specs (syntax.TypeSpec type.Int (at 220 79) ∷ [])) (syntax.Unnamed [] (suffixes (syntax.FunctionSuffix (parameters (syntax.parameter (specs (syntax.TypeSpec type.Int (at 225 81) ∷ [])) (syntax.Named [] (name (codes "a") (at 229 82)) (suffixes [])) (at 225 81) ∷ syntax.parameter (specs (syntax.TypeSpec type.Int (at 232 84) ∷ [])) (syntax.Named [] (name (codes "b") (at 236 85)) (suffixes [])) (at 232 84) ∷ [])) false (at 224 80) ∷ [])))) (syntax.block (block_items (syntax.StatementItem (syntax.Return (syntax.an_expr (syntax.Binary op.Mul (syntax.Identifier (name (codes "a") (at 249 90))) (syntax.Identifier (name (codes "b") (at 253 92))) (at 251 91))) (at 242 89) (span (at 242 89) (at 254 93))) ∷ [])) (span (at 240 88) (at 256 94))) (at 219 78))) ∷ [])) (at 183 61)))) ∷ []))) ∷ syntax.FunctionDefinition (specs (syntax.TypeSpec type.Int (at 261 97) ∷ [])) (syntax.Named [] (name (codes "run") (at 265 98)) (suffixes (syntax.FunctionSuffix (parameters (syntax.parameter (specs (syntax.EnumTag (name (codes "op") (at 274 101)) syntax.none_of_specs (at 269 100) ∷ [])) (syntax.Named [] (name (codes "o") (at 277 102)) (suffixes [])) (at 269 100) ∷ syntax.parameter (specs (syntax.TypeSpec type.Int (at 280 104) ∷ [])) (syntax.Named [] (name (codes "a") (at 284 105)) (suffixes [])) (at 280 104) ∷ syntax.parameter (specs (syntax.TypeSpec type.Int (at 287 107) ∷ [])) (syntax.Named [] (name (codes "b") (at 291 108)) (suffixes [])) (at 287 107) ∷ [])) false (at 268 99) ∷ []))) (syntax.block (block_items (syntax.StatementItem (syntax.Return (syntax.an_expr (syntax.Call (syntax.Index (syntax.Identifier (name (codes "table") (at 303 112))) (syntax.Identifier (name (codes "o") (at 309 114))) (at 308 113)) (syntax.exprs ((syntax.Identifier (name (codes "a") (at 312 117))) ∷ (syntax.Identifier (name (codes "b") (at 315 119))) ∷ [])) (at 311 116))) (at 296 111) (span (at 296 111) (at 317 121))) ∷ [])) (span (at 294 110) (at 319 122))) ∷ [])

-- static int fib[10] = { 0, 1 }; static void fill(void) { for (unsigned i = 2; i < sizeof fib / sizeof *fib; ++i) fib[i] = fib[i - 1] + fib[i - 2]; } int main(void) { fill(); switch (fib[9]) { case 34: return 0; default: break; } return 1; }
abbrev pub accepted_statements_initializers_programs_70 : List syntax.External
accepted_statements_initializers_programs_70 = (syntax.ExternalDeclaration (syntax.SimpleDeclaration (specs (syntax.StorageSpec storage.Static (at 1 0) ∷ syntax.TypeSpec type.Int (at 8 1) ∷ [])) (declared (syntax.init_declarator (syntax.Named [] (name (codes "fib") (at 12 2)) (suffixes (syntax.ArraySuffix (syntax.an_expr (syntax.Constant (pos 10) basic.Int (at 16 4))) (at 15 3) ∷ []))) (syntax.an_initializer (syntax.Braced (syntax.braces (items (syntax.item (designators []) (syntax.Single (syntax.Constant (pos 0) basic.Int (at 24 8))) ∷ syntax.item (designators []) (syntax.Single (syntax.Constant (pos 1) basic.Int (at 27 10))) ∷ [])) (at 22 7)))) ∷ []))) ∷ syntax.FunctionDefinition (specs (syntax.StorageSpec storage.Static (at 32 13) ∷ syntax.TypeSpec type.Void (at 39 14) ∷ [])) (syntax.Named [] (name (codes "fill") (at 44 15)) (suffixes (syntax.FunctionSuffix (parameters (syntax.parameter (specs (syntax.TypeSpec type.Void (at 49 17) ∷ [])) (syntax.Unnamed [] (suffixes [])) (at 49 17) ∷ [])) false (at 48 16) ∷ []))) (syntax.block (block_items (syntax.StatementItem (syntax.ForDeclaration (syntax.SimpleDeclaration (specs (syntax.TypeSpec type.Unsigned (at 62 22) ∷ [])) (declared (syntax.init_declarator (syntax.Named [] (name (codes "i") (at 71 23)) (suffixes [])) (syntax.an_initializer (syntax.Single (syntax.Constant (pos 2) basic.Int (at 75 25)))) ∷ []))) (syntax.an_expr (syntax.Binary op.Less (syntax.Identifier (name (codes "i") (at 78 27))) (syntax.Binary op.Div (syntax.SizeofExpr (syntax.Identifier (name (codes "fib") (at 89 30))) (at 82 29)) (syntax.SizeofExpr (syntax.Unary prefix.Indirection (syntax.Identifier (name (codes "fib") (at 103 34))) (at 102 33)) (at 95 32)) (at 93 31)) (at 80 28))) (syntax.an_expr (syntax.Step step.Increment side.Prefix (syntax.Identifier (name (codes "i") (at 110 37))) (at 108 36))) (syntax.ExpressionStatement (syntax.an_expr (syntax.Assign (syntax.Index (syntax.Identifier (name (codes "fib") (at 113 39))) (syntax.Identifier (name (codes "i") (at 117 41))) (at 116 40)) (syntax.Binary op.Add (syntax.Index (syntax.Identifier (name (codes "fib") (at 122 44))) (syntax.Binary op.Sub (syntax.Identifier (name (codes "i") (at 126 46))) (syntax.Constant (pos 1) basic.Int (at 130 48)) (at 128 47)) (at 125 45)) (syntax.Index (syntax.Identifier (name (codes "fib") (at 135 51))) (syntax.Binary op.Sub (syntax.Identifier (name (codes "i") (at 139 53))) (syntax.Constant (pos 2) basic.Int (at 143 55)) (at 141 54)) (at 138 52)) (at 133 50)) (at 120 43))) (span (at 113 39) (at 145 57))) (span (at 57 20) (at 145 57))) ∷ [])) (span (at 55 19) (at 147 58))) ∷ syntax.FunctionDefinition (specs (syntax.TypeSpec type.Int (at 149 59) ∷ [])) (syntax.Named [] (name (codes "main") (at 153 60)) (suffixes (syntax.FunctionSuffix (parameters (syntax.parameter (specs (syntax.TypeSpec type.Void (at 158 62) ∷ [])) (syntax.Unnamed [] (suffixes [])) (at 158 62) ∷ [])) false (at 157 61) ∷ []))) (syntax.block (block_items (syntax.StatementItem (syntax.ExpressionStatement (syntax.an_expr (syntax.Call (syntax.Identifier (name (codes "fill") (at 166 65))) (syntax.exprs []) (at 170 66))) (span (at 166 65) (at 172 68))) ∷ syntax.StatementItem (syntax.Switch (syntax.Index (syntax.Identifier (name (codes "fib") (at 182 71))) (syntax.Constant (pos 9) basic.Int (at 186 73)) (at 185 72)) (syntax.CompoundStatement (syntax.block (block_items (syntax.CaseLabel (syntax.Constant (pos 34) basic.Int (at 197 78)) (at 192 77) ∷ syntax.StatementItem (syntax.Return (syntax.an_expr (syntax.Constant (pos 0) basic.Int (at 208 81))) (at 201 80) (span (at 201 80) (at 209 82))) ∷ syntax.DefaultLabel (at 211 83) ∷ syntax.StatementItem (syntax.Break (at 220 85) (span (at 220 85) (at 225 86))) ∷ [])) (span (at 190 76) (at 227 87))) (span (at 190 76) (at 227 87))) (span (at 174 69) (at 227 87))) ∷ syntax.StatementItem (syntax.Return (syntax.an_expr (syntax.Constant (pos 1) basic.Int (at 236 89))) (at 229 88) (span (at 229 88) (at 237 90))) ∷ [])) (span (at 164 64) (at 239 91))) ∷ [])

-- struct p { int x, y; }; struct r { struct p a, b[2]; char name[4]; }; static struct r g = { .a = { 1, 2 }, .b[1].x = 3, .name = "abc" }; int f(struct r v) { struct r w = { v.a, { v.b[0], { 5, 6 } }, "x" }; w.a = (struct p){ .y = 2 }; return w.a.y + v.b[1].x + g.name[1]; }
abbrev pub accepted_statements_initializers_programs_71 : List syntax.External
accepted_statements_initializers_programs_71 = (syntax.ExternalDeclaration (syntax.SimpleDeclaration (specs (syntax.Struct (Some (name (codes "p") (at 8 1))) (members (syntax.MemberDeclarators (specs (syntax.TypeSpec type.Int (at 12 3) ∷ [])) (syntax.declarators ((syntax.Named [] (name (codes "x") (at 16 4)) (suffixes [])) ∷ (syntax.Named [] (name (codes "y") (at 19 6)) (suffixes [])) ∷ [])) ∷ [])) (at 1 0) ∷ [])) (declared [])) ∷ syntax.ExternalDeclaration (syntax.SimpleDeclaration (specs (syntax.Struct (Some (name (codes "r") (at 32 11))) (members (syntax.MemberDeclarators (specs (syntax.StructTag (name (codes "p") (at 43 14)) (at 36 13) ∷ [])) (syntax.declarators ((syntax.Named [] (name (codes "a") (at 45 15)) (suffixes [])) ∷ (syntax.Named [] (name (codes "b") (at 48 17)) (suffixes (syntax.ArraySuffix (syntax.an_expr (syntax.Constant (pos 2) basic.Int (at 50 19))) (at 49 18) ∷ []))) ∷ [])) ∷ syntax.MemberDeclarators (specs (syntax.TypeSpec type.Char (at 54 22) ∷ [])) (syntax.declarators ((syntax.Named [] (name (codes "name") (at 59 23)) (suffixes (syntax.ArraySuffix (syntax.an_expr (syntax.Constant (pos 4) basic.Int (at 64 25))) (at 63 24) ∷ []))) ∷ [])) ∷ [])) (at 25 10) ∷ [])) (declared [])) ∷ syntax.ExternalDeclaration (syntax.SimpleDeclaration (specs (syntax.StorageSpec storage.Static (at 71 30) ∷ syntax.StructTag (name (codes "r") (at 85 32)) (at 78 31) ∷ [])) (declared (syntax.init_declarator (syntax.Named [] (name (codes "g") (at 87 33)) (suffixes [])) (syntax.an_initializer (syntax.Braced (syntax.braces (items (syntax.item (designators (syntax.MemberDesignator (name (codes "a") (at 94 37)) (at 93 36) ∷ [])) (syntax.Braced (syntax.braces (items (syntax.item (designators []) (syntax.Single (syntax.Constant (pos 1) basic.Int (at 100 40))) ∷ syntax.item (designators []) (syntax.Single (syntax.Constant (pos 2) basic.Int (at 103 42))) ∷ [])) (at 98 39))) ∷ syntax.item (designators (syntax.MemberDesignator (name (codes "b") (at 109 46)) (at 108 45) ∷ syntax.ElementDesignator (syntax.Constant (pos 1) basic.Int (at 111 48)) (at 110 47) ∷ syntax.MemberDesignator (name (codes "x") (at 114 51)) (at 113 50) ∷ [])) (syntax.Single (syntax.Constant (pos 3) basic.Int (at 118 53))) ∷ syntax.item (designators (syntax.MemberDesignator (name (codes "name") (at 122 56)) (at 121 55) ∷ [])) (syntax.Single (syntax.Text (codes "abc") (at 129 58))) ∷ [])) (at 91 35)))) ∷ []))) ∷ syntax.FunctionDefinition (specs (syntax.TypeSpec type.Int (at 138 61) ∷ [])) (syntax.Named [] (name (codes "f") (at 142 62)) (suffixes (syntax.FunctionSuffix (parameters (syntax.parameter (specs (syntax.StructTag (name (codes "r") (at 151 65)) (at 144 64) ∷ [])) (syntax.Named [] (name (codes "v") (at 153 66)) (suffixes [])) (at 144 64) ∷ [])) false (at 143 63) ∷ []))) (syntax.block (block_items (syntax.DeclarationItem (syntax.SimpleDeclaration (specs (syntax.StructTag (name (codes "r") (at 165 70)) (at 158 69) ∷ [])) (declared (syntax.init_declarator (syntax.Named [] (name (codes "w") (at 167 71)) (suffixes [])) (syntax.an_initializer (syntax.Braced (syntax.braces (items (syntax.item (designators []) (syntax.Single (syntax.Member (syntax.Identifier (name (codes "v") (at 173 74))) (name (codes "a") (at 175 76)) (at 174 75))) ∷ syntax.item (designators []) (syntax.Braced (syntax.braces (items (syntax.item (designators []) (syntax.Single (syntax.Index (syntax.Member (syntax.Identifier (name (codes "v") (at 180 79))) (name (codes "b") (at 182 81)) (at 181 80)) (syntax.Constant (pos 0) basic.Int (at 184 83)) (at 183 82))) ∷ syntax.item (designators []) (syntax.Braced (syntax.braces (items (syntax.item (designators []) (syntax.Single (syntax.Constant (pos 5) basic.Int (at 190 87))) ∷ syntax.item (designators []) (syntax.Single (syntax.Constant (pos 6) basic.Int (at 193 89))) ∷ [])) (at 188 86))) ∷ [])) (at 178 78))) ∷ syntax.item (designators []) (syntax.Single (syntax.Text (codes "x") (at 200 93))) ∷ [])) (at 171 73)))) ∷ []))) ∷ syntax.StatementItem (syntax.ExpressionStatement (syntax.an_expr (syntax.Assign (syntax.Member (syntax.Identifier (name (codes "w") (at 207 96))) (name (codes "a") (at 209 98)) (at 208 97)) (syntax.CompoundLiteral (syntax.type_name (specs (syntax.StructTag (name (codes "p") (at 221 102)) (at 214 101) ∷ [])) (syntax.Unnamed [] (suffixes []))) (syntax.braces (items (syntax.item (designators (syntax.MemberDesignator (name (codes "y") (at 226 106)) (at 225 105) ∷ [])) (syntax.Single (syntax.Constant (pos 2) basic.Int (at 230 108))) ∷ [])) (at 223 104)) (at 213 100)) (at 211 99))) (span (at 207 96) (at 233 110))) ∷ syntax.StatementItem (syntax.Return (syntax.an_expr (syntax.Binary op.Add (syntax.Binary op.Add (syntax.Member (syntax.Member (syntax.Identifier (name (codes "w") (at 242 112))) (name (codes "a") (at 244 114)) (at 243 113)) (name (codes "y") (at 246 116)) (at 245 115)) (syntax.Member (syntax.Index (syntax.Member (syntax.Identifier (name (codes "v") (at 250 118))) (name (codes "b") (at 252 120)) (at 251 119)) (syntax.Constant (pos 1) basic.Int (at 254 122)) (at 253 121)) (name (codes "x") (at 257 125)) (at 256 124)) (at 248 117)) (syntax.Index (syntax.Member (syntax.Identifier (name (codes "g") (at 261 127))) (name (codes "name") (at 263 129)) (at 262 128)) (syntax.Constant (pos 1) basic.Int (at 268 131)) (at 267 130)) (at 259 126))) (at 235 111) (span (at 235 111) (at 270 133))) ∷ [])) (span (at 156 68) (at 272 134))) ∷ [])

-- unsigned h(const unsigned char *p, int n) { unsigned v = 5381u; do { v = (v << 5) + v ^ *p++; } while (--n > 0 && v != 0u); return ~v % 7u; } long long k(long a, short b, signed char c) { a += b; a <<= c; b = a > c ? b : c; return -a / (b ? b : 1) & 0x7f; }
abbrev pub accepted_statements_initializers_programs_72 : List syntax.External
accepted_statements_initializers_programs_72 = (syntax.FunctionDefinition (specs (syntax.TypeSpec type.Unsigned (at 1 0) ∷ [])) (syntax.Named [] (name (codes "h") (at 10 1)) (suffixes (syntax.FunctionSuffix (parameters (syntax.parameter (specs (syntax.QualifierSpec (qualifier qual.Const (at 12 3)) ∷ syntax.TypeSpec type.Unsigned (at 18 4) ∷ syntax.TypeSpec type.Char (at 27 5) ∷ [])) (syntax.Named (pointer (at 32 6) [] ∷ []) (name (codes "p") (at 33 7)) (suffixes [])) (at 12 3) ∷ syntax.parameter (specs (syntax.TypeSpec type.Int (at 36 9) ∷ [])) (syntax.Named [] (name (codes "n") (at 40 10)) (suffixes [])) (at 36 9) ∷ [])) false (at 11 2) ∷ []))) (syntax.block (block_items (syntax.DeclarationItem (syntax.SimpleDeclaration (specs (syntax.TypeSpec type.Unsigned (at 45 13) ∷ [])) (declared (syntax.init_declarator (syntax.Named [] (name (codes "v") (at 54 14)) (suffixes [])) (syntax.an_initializer (syntax.Single (syntax.Constant (pos 5381) basic.Unsigned (at 58 16)))) ∷ []))) ∷ syntax.StatementItem (syntax.DoWhile (syntax.CompoundStatement (syntax.block (block_items (syntax.StatementItem (syntax.ExpressionStatement (syntax.an_expr (syntax.Assign (syntax.Identifier (name (codes "v") (at 70 20))) (syntax.Binary op.BitXor (syntax.Binary op.Add (syntax.Parenthesized (syntax.Binary op.ShiftLeft (syntax.Identifier (name (codes "v") (at 75 23))) (syntax.Constant (pos 5) basic.Int (at 80 25)) (at 77 24)) (at 74 22)) (syntax.Identifier (name (codes "v") (at 85 28))) (at 83 27)) (syntax.Unary prefix.Indirection (syntax.Step step.Increment side.Postfix (syntax.Identifier (name (codes "p") (at 90 31))) (at 91 32)) (at 89 30)) (at 87 29)) (at 72 21))) (span (at 70 20) (at 93 33))) ∷ [])) (span (at 68 19) (at 95 34))) (span (at 68 19) (at 95 34))) (syntax.Logic logic.And (syntax.Binary op.Greater (syntax.Step step.Decrement side.Prefix (syntax.Identifier (name (codes "n") (at 106 38))) (at 104 37)) (syntax.Constant (pos 0) basic.Int (at 110 40)) (at 108 39)) (syntax.Binary op.NotEqual (syntax.Identifier (name (codes "v") (at 115 42))) (syntax.Constant (pos 0) basic.Unsigned (at 120 44)) (at 117 43)) (at 112 41)) (span (at 65 18) (at 123 46))) ∷ syntax.StatementItem (syntax.Return (syntax.an_expr (syntax.Binary op.Rem (syntax.Unary prefix.Complement (syntax.Identifier (name (codes "v") (at 133 49))) (at 132 48)) (syntax.Constant (pos 7) basic.Unsigned (at 137 51)) (at 135 50))) (at 125 47) (span (at 125 47) (at 139 52))) ∷ [])) (span (at 43 12) (at 141 53))) ∷ syntax.FunctionDefinition (specs (syntax.TypeSpec type.Long (at 143 54) ∷ syntax.TypeSpec type.Long (at 148 55) ∷ [])) (syntax.Named [] (name (codes "k") (at 153 56)) (suffixes (syntax.FunctionSuffix (parameters (syntax.parameter (specs (syntax.TypeSpec type.Long (at 155 58) ∷ [])) (syntax.Named [] (name (codes "a") (at 160 59)) (suffixes [])) (at 155 58) ∷ syntax.parameter (specs (syntax.TypeSpec type.Short (at 163 61) ∷ [])) (syntax.Named [] (name (codes "b") (at 169 62)) (suffixes [])) (at 163 61) ∷ syntax.parameter (specs (syntax.TypeSpec type.Signed (at 172 64) ∷ syntax.TypeSpec type.Char (at 179 65) ∷ [])) (syntax.Named [] (name (codes "c") (at 184 66)) (suffixes [])) (at 172 64) ∷ [])) false (at 154 57) ∷ []))) (syntax.block (block_items (syntax.StatementItem (syntax.ExpressionStatement (syntax.an_expr (syntax.AssignBy op.Add (syntax.Identifier (name (codes "a") (at 189 69))) (syntax.Identifier (name (codes "b") (at 194 71))) (at 191 70))) (span (at 189 69) (at 195 72))) ∷ syntax.StatementItem (syntax.ExpressionStatement (syntax.an_expr (syntax.AssignBy op.ShiftLeft (syntax.Identifier (name (codes "a") (at 197 73))) (syntax.Identifier (name (codes "c") (at 203 75))) (at 199 74))) (span (at 197 73) (at 204 76))) ∷ syntax.StatementItem (syntax.ExpressionStatement (syntax.an_expr (syntax.Assign (syntax.Identifier (name (codes "b") (at 206 77))) (syntax.Conditional (syntax.Binary op.Greater (syntax.Identifier (name (codes "a") (at 210 79))) (syntax.Identifier (name (codes "c") (at 214 81))) (at 212 80)) (syntax.Identifier (name (codes "b") (at 218 83))) (syntax.Identifier (name (codes "c") (at 222 85))) (at 216 82)) (at 208 78))) (span (at 206 77) (at 223 86))) ∷ syntax.StatementItem (syntax.Return (syntax.an_expr (syntax.Binary op.BitAnd (syntax.Binary op.Div (syntax.Unary prefix.Minus (syntax.Identifier (name (codes "a") (at 233 89))) (at 232 88)) (syntax.Parenthesized (syntax.Conditional (syntax.Identifier (name (codes "b") (at 238 92))) (syntax.Identifier (name (codes "b") (at 242 94))) (syntax.Constant (pos 1) basic.Int (at 246 96)) (at 240 93)) (at 237 91)) (at 235 90)) (syntax.Constant (pos 127) basic.Int (at 251 99)) (at 249 98))) (at 225 87) (span (at 225 87) (at 255 100))) ∷ [])) (span (at 187 68) (at 257 101))) ∷ [])
