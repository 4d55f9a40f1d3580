-- accepted: statements, initializers, programs: units of one line, as trees.
use Rattle.std.specs.Prelude.{List, [], ◌∷◌, Some, None, false, pos, codes}
use Rattle.model_grammar.specs.SyntaxForms as syntax
use Rattle.model_types.specs.declared.numbers.Basic.TheVariants as basic
use Rattle.model_types.specs.declared.numbers.BinOp.TheVariants as op
use Rattle.model_types.specs.declared.operators.StepOp.TheVariants as step
use Rattle.model_types.specs.declared.operators.StepSide.TheVariants as side
use Rattle.model_grammar.specs.declared.syntax.StorageWord.TheVariants as storage
use Rattle.model_grammar.specs.declared.syntax.TypeWord.TheVariants as type
use Rattle.model_grammar.specs.declared.syntax.QualifierWord.TheVariants as qual
use Rattle.model_grammar.specs.declared.syntax.TypeofWord.TheVariants as word
use Rattle.model_grammar.specs.declared.syntax.PrefixOp.TheVariants as prefix
use Rattle.checking_units.specs.Parts.{at, name, specs, qualifier, pointer, suffixes, parameters, members, enumerators, declared, items, designators, block_items, span}

-- void f(int a, int, int (*b)(int)) { static int x = 1; extern int y; y = b(x) + a; }
abbrev pub accepted_statements_initializers_programs_25 : List syntax.External
accepted_statements_initializers_programs_25 = (syntax.FunctionDefinition (specs (syntax.TypeSpec type.Void (at 1 0) ∷ [])) (syntax.Named [] (name (codes "f") (at 6 1)) (suffixes (syntax.FunctionSuffix (parameters (syntax.parameter (specs (syntax.TypeSpec type.Int (at 8 3) ∷ [])) (syntax.Named [] (name (codes "a") (at 12 4)) (suffixes [])) (at 8 3) ∷ syntax.parameter (specs (syntax.TypeSpec type.Int (at 15 6) ∷ [])) (syntax.Unnamed [] (suffixes [])) (at 15 6) ∷ syntax.parameter (specs (syntax.TypeSpec type.Int (at 20 8) ∷ [])) (syntax.Grouped [] (syntax.Named (pointer (at 25 10) [] ∷ []) (name (codes "b") (at 26 11)) (suffixes [])) (suffixes (syntax.FunctionSuffix (parameters (syntax.parameter (specs (syntax.TypeSpec type.Int (at 29 14) ∷ [])) (syntax.Unnamed [] (suffixes [])) (at 29 14) ∷ [])) false (at 28 13) ∷ [])) (at 24 9)) (at 20 8) ∷ [])) false (at 7 2) ∷ []))) (syntax.block (block_items (syntax.DeclarationItem (syntax.SimpleDeclaration (specs (syntax.StorageSpec storage.Static (at 37 18) ∷ syntax.TypeSpec type.Int (at 44 19) ∷ [])) (declared (syntax.init_declarator (syntax.Named [] (name (codes "x") (at 48 20)) (suffixes [])) (syntax.an_initializer (syntax.Single (syntax.Constant (pos 1) basic.Int (at 52 22)))) ∷ []))) ∷ syntax.DeclarationItem (syntax.SimpleDeclaration (specs (syntax.StorageSpec storage.Extern (at 55 24) ∷ syntax.TypeSpec type.Int (at 62 25) ∷ [])) (declared (syntax.init_declarator (syntax.Named [] (name (codes "y") (at 66 26)) (suffixes [])) syntax.no_initializer ∷ []))) ∷ syntax.StatementItem (syntax.ExpressionStatement (syntax.an_expr (syntax.Assign (syntax.Identifier (name (codes "y") (at 69 28))) (syntax.Binary op.Add (syntax.Call (syntax.Identifier (name (codes "b") (at 73 30))) (syntax.exprs ((syntax.Identifier (name (codes "x") (at 75 32))) ∷ [])) (at 74 31)) (syntax.Identifier (name (codes "a") (at 80 35))) (at 78 34)) (at 71 29))) (span (at 69 28) (at 81 36))) ∷ [])) (span (at 35 17) (at 83 37))) ∷ [])

-- int g(void) { return ((int (int a, int b)) { return a + b; })(1, 2); }
abbrev pub accepted_statements_initializers_programs_26 : List syntax.External
accepted_statements_initializers_programs_26 = (syntax.FunctionDefinition (specs (syntax.TypeSpec type.Int (at 1 0) ∷ [])) (syntax.Named [] (name (codes "g") (at 5 1)) (suffixes (syntax.FunctionSuffix (parameters (syntax.parameter (specs (syntax.TypeSpec type.Void (at 7 3) ∷ [])) (syntax.Unnamed [] (suffixes [])) (at 7 3) ∷ [])) false (at 6 2) ∷ []))) (syntax.block (block_items (syntax.StatementItem (syntax.Return (syntax.an_expr (syntax.Call (syntax.Parenthesized (syntax.FunctionLiteral (syntax.type_name (specs (syntax.TypeSpec type.Int (at 24 9) ∷ [])) (syntax.Unnamed [] (suffixes (syntax.FunctionSuffix (parameters (syntax.parameter (specs (syntax.TypeSpec type.Int (at 29 11) ∷ [])) (syntax.Named [] (name (codes "a") (at 33 12)) (suffixes [])) (at 29 11) ∷ syntax.parameter (specs (syntax.TypeSpec type.Int (at 36 14) ∷ [])) (syntax.Named [] (name (codes "b") (at 40 15)) (suffixes [])) (at 36 14) ∷ [])) false (at 28 10) ∷ [])))) (syntax.block (block_items (syntax.StatementItem (syntax.Return (syntax.an_expr (syntax.Binary op.Add (syntax.Identifier (name (codes "a") (at 53 20))) (syntax.Identifier (name (codes "b") (at 57 22))) (at 55 21))) (at 46 19) (span (at 46 19) (at 58 23))) ∷ [])) (span (at 44 18) (at 60 24))) (at 23 8)) (at 22 7)) (syntax.exprs ((syntax.Constant (pos 1) basic.Int (at 63 27)) ∷ (syntax.Constant (pos 2) basic.Int (at 66 29)) ∷ [])) (at 62 26))) (at 15 6) (span (at 15 6) (at 68 31))) ∷ [])) (span (at 13 5) (at 70 32))) ∷ [])

-- int g(int n) { if (int x = n * 2; x > 3) return x; return (int []){1, 2, 3}[n]; }
abbrev pub accepted_statements_initializers_programs_27 : List syntax.External
accepted_statements_initializers_programs_27 = (syntax.FunctionDefinition (specs (syntax.TypeSpec type.Int (at 1 0) ∷ [])) (syntax.Named [] (name (codes "g") (at 5 1)) (suffixes (syntax.FunctionSuffix (parameters (syntax.parameter (specs (syntax.TypeSpec type.Int (at 7 3) ∷ [])) (syntax.Named [] (name (codes "n") (at 11 4)) (suffixes [])) (at 7 3) ∷ [])) false (at 6 2) ∷ []))) (syntax.block (block_items (syntax.StatementItem (syntax.If (syntax.a_declaration (syntax.SimpleDeclaration (specs (syntax.TypeSpec type.Int (at 20 9) ∷ [])) (declared (syntax.init_declarator (syntax.Named [] (name (codes "x") (at 24 10)) (suffixes [])) (syntax.an_initializer (syntax.Single (syntax.Binary op.Mul (syntax.Identifier (name (codes "n") (at 28 12))) (syntax.Constant (pos 2) basic.Int (at 32 14)) (at 30 13)))) ∷ [])))) (syntax.Binary op.Greater (syntax.Identifier (name (codes "x") (at 35 16))) (syntax.Constant (pos 3) basic.Int (at 39 18)) (at 37 17)) (syntax.Return (syntax.an_expr (syntax.Identifier (name (codes "x") (at 49 21)))) (at 42 20) (span (at 42 20) (at 50 22))) syntax.no_statement (span (at 16 7) (at 50 22))) ∷ syntax.StatementItem (syntax.Return (syntax.an_expr (syntax.Index (syntax.CompoundLiteral (syntax.type_name (specs (syntax.TypeSpec type.Int (at 60 25) ∷ [])) (syntax.Unnamed [] (suffixes (syntax.ArraySuffix syntax.no_expr (at 64 26) ∷ [])))) (syntax.braces (items (syntax.item (designators []) (syntax.Single (syntax.Constant (pos 1) basic.Int (at 68 30))) ∷ syntax.item (designators []) (syntax.Single (syntax.Constant (pos 2) basic.Int (at 71 32))) ∷ syntax.item (designators []) (syntax.Single (syntax.Constant (pos 3) basic.Int (at 74 34))) ∷ [])) (at 67 29)) (at 59 24)) (syntax.Identifier (name (codes "n") (at 77 37))) (at 76 36))) (at 52 23) (span (at 52 23) (at 79 39))) ∷ [])) (span (at 14 6) (at 81 40))) ∷ [])

-- void p(const char *); void g(void) { p("abc"); char s[] = "xyz"; s[0] = 'a'; }
abbrev pub accepted_statements_initializers_programs_28 : List syntax.External
accepted_statements_initializers_programs_28 = (syntax.ExternalDeclaration (syntax.SimpleDeclaration (specs (syntax.TypeSpec type.Void (at 1 0) ∷ [])) (declared (syntax.init_declarator (syntax.Named [] (name (codes "p") (at 6 1)) (suffixes (syntax.FunctionSuffix (parameters (syntax.parameter (specs (syntax.QualifierSpec (qualifier qual.Const (at 8 3)) ∷ syntax.TypeSpec type.Char (at 14 4) ∷ [])) (syntax.Unnamed (pointer (at 19 5) [] ∷ []) (suffixes [])) (at 8 3) ∷ [])) false (at 7 2) ∷ []))) syntax.no_initializer ∷ []))) ∷ syntax.FunctionDefinition (specs (syntax.TypeSpec type.Void (at 23 8) ∷ [])) (syntax.Named [] (name (codes "g") (at 28 9)) (suffixes (syntax.FunctionSuffix (parameters (syntax.parameter (specs (syntax.TypeSpec type.Void (at 30 11) ∷ [])) (syntax.Unnamed [] (suffixes [])) (at 30 11) ∷ [])) false (at 29 10) ∷ []))) (syntax.block (block_items (syntax.StatementItem (syntax.ExpressionStatement (syntax.an_expr (syntax.Call (syntax.Identifier (name (codes "p") (at 38 14))) (syntax.exprs ((syntax.Text (codes "abc") (at 40 16)) ∷ [])) (at 39 15))) (span (at 38 14) (at 46 18))) ∷ syntax.DeclarationItem (syntax.SimpleDeclaration (specs (syntax.TypeSpec type.Char (at 48 19) ∷ [])) (declared (syntax.init_declarator (syntax.Named [] (name (codes "s") (at 53 20)) (suffixes (syntax.ArraySuffix syntax.no_expr (at 54 21) ∷ []))) (syntax.an_initializer (syntax.Single (syntax.Text (codes "xyz") (at 59 24)))) ∷ []))) ∷ syntax.StatementItem (syntax.ExpressionStatement (syntax.an_expr (syntax.Assign (syntax.Index (syntax.Identifier (name (codes "s") (at 66 26))) (syntax.Constant (pos 0) basic.Int (at 68 28)) (at 67 27)) (syntax.Constant (pos 97) basic.Int (at 73 31)) (at 71 30))) (span (at 66 26) (at 76 32))) ∷ [])) (span (at 36 13) (at 78 33))) ∷ [])

-- typedef struct { int x, y; } P; P add(P a, P b) { return (P){a.x + b.x, a.y + b.y}; }
abbrev pub accepted_statements_initializers_programs_29 : List syntax.External
accepted_statements_initializers_programs_29 = (syntax.ExternalDeclaration (syntax.SimpleDeclaration (specs (syntax.StorageSpec storage.Typedef (at 1 0) ∷ syntax.Struct None (members (syntax.MemberDeclarators (specs (syntax.TypeSpec type.Int (at 18 3) ∷ [])) (syntax.declarators ((syntax.Named [] (name (codes "x") (at 22 4)) (suffixes [])) ∷ (syntax.Named [] (name (codes "y") (at 25 6)) (suffixes [])) ∷ [])) ∷ [])) (at 9 1) ∷ [])) (declared (syntax.init_declarator (syntax.Named [] (name (codes "P") (at 30 9)) (suffixes [])) syntax.no_initializer ∷ []))) ∷ syntax.FunctionDefinition (specs (syntax.TypedefName (name (codes "P") (at 33 11)) ∷ [])) (syntax.Named [] (name (codes "add") (at 35 12)) (suffixes (syntax.FunctionSuffix (parameters (syntax.parameter (specs (syntax.TypedefName (name (codes "P") (at 39 14)) ∷ [])) (syntax.Named [] (name (codes "a") (at 41 15)) (suffixes [])) (at 39 14) ∷ syntax.parameter (specs (syntax.TypedefName (name (codes "P") (at 44 17)) ∷ [])) (syntax.Named [] (name (codes "b") (at 46 18)) (suffixes [])) (at 44 17) ∷ [])) false (at 38 13) ∷ []))) (syntax.block (block_items (syntax.StatementItem (syntax.Return (syntax.an_expr (syntax.CompoundLiteral (syntax.type_name (specs (syntax.TypedefName (name (codes "P") (at 59 23)) ∷ [])) (syntax.Unnamed [] (suffixes []))) (syntax.braces (items (syntax.item (designators []) (syntax.Single (syntax.Binary op.Add (syntax.Member (syntax.Identifier (name (codes "a") (at 62 26))) (name (codes "x") (at 64 28)) (at 63 27)) (syntax.Member (syntax.Identifier (name (codes "b") (at 68 30))) (name (codes "x") (at 70 32)) (at 69 31)) (at 66 29))) ∷ syntax.item (designators []) (syntax.Single (syntax.Binary op.Add (syntax.Member (syntax.Identifier (name (codes "a") (at 73 34))) (name (codes "y") (at 75 36)) (at 74 35)) (syntax.Member (syntax.Identifier (name (codes "b") (at 79 38))) (name (codes "y") (at 81 40)) (at 80 39)) (at 77 37))) ∷ [])) (at 61 25)) (at 58 22))) (at 51 21) (span (at 51 21) (at 83 42))) ∷ [])) (span (at 49 20) (at 85 43))) ∷ [])

-- void f(struct t { int a; } *p) { struct t x = *p; x.a = 1; }
abbrev pub accepted_statements_initializers_programs_30 : List syntax.External
accepted_statements_initializers_programs_30 = (syntax.FunctionDefinition (specs (syntax.TypeSpec type.Void (at 1 0) ∷ [])) (syntax.Named [] (name (codes "f") (at 6 1)) (suffixes (syntax.FunctionSuffix (parameters (syntax.parameter (specs (syntax.Struct (Some (name (codes "t") (at 15 4))) (members (syntax.MemberDeclarators (specs (syntax.TypeSpec type.Int (at 19 6) ∷ [])) (syntax.declarators ((syntax.Named [] (name (codes "a") (at 23 7)) (suffixes [])) ∷ [])) ∷ [])) (at 8 3) ∷ [])) (syntax.Named (pointer (at 28 10) [] ∷ []) (name (codes "p") (at 29 11)) (suffixes [])) (at 8 3) ∷ [])) false (at 7 2) ∷ []))) (syntax.block (block_items (syntax.DeclarationItem (syntax.SimpleDeclaration (specs (syntax.StructTag (name (codes "t") (at 41 15)) (at 34 14) ∷ [])) (declared (syntax.init_declarator (syntax.Named [] (name (codes "x") (at 43 16)) (suffixes [])) (syntax.an_initializer (syntax.Single (syntax.Unary prefix.Indirection (syntax.Identifier (name (codes "p") (at 48 19))) (at 47 18)))) ∷ []))) ∷ syntax.StatementItem (syntax.ExpressionStatement (syntax.an_expr (syntax.Assign (syntax.Member (syntax.Identifier (name (codes "x") (at 51 21))) (name (codes "a") (at 53 23)) (at 52 22)) (syntax.Constant (pos 1) basic.Int (at 57 25)) (at 55 24))) (span (at 51 21) (at 58 26))) ∷ [])) (span (at 32 13) (at 60 27))) ∷ [])

-- int g(int c) { switch (c) { int y; case 1: y = 2; return y; case 2: ; } while (c) c = (int []){0}[0]; return 0; }
abbrev pub accepted_statements_initializers_programs_31 : List syntax.External
accepted_statements_initializers_programs_31 = (syntax.FunctionDefinition (specs (syntax.TypeSpec type.Int (at 1 0) ∷ [])) (syntax.Named [] (name (codes "g") (at 5 1)) (suffixes (syntax.FunctionSuffix (parameters (syntax.parameter (specs (syntax.TypeSpec type.Int (at 7 3) ∷ [])) (syntax.Named [] (name (codes "c") (at 11 4)) (suffixes [])) (at 7 3) ∷ [])) false (at 6 2) ∷ []))) (syntax.block (block_items (syntax.StatementItem (syntax.Switch (syntax.Identifier (name (codes "c") (at 24 9))) (syntax.CompoundStatement (syntax.block (block_items (syntax.DeclarationItem (syntax.SimpleDeclaration (specs (syntax.TypeSpec type.Int (at 29 12) ∷ [])) (declared (syntax.init_declarator (syntax.Named [] (name (codes "y") (at 33 13)) (suffixes [])) syntax.no_initializer ∷ []))) ∷ syntax.CaseLabel (syntax.Constant (pos 1) basic.Int (at 41 16)) (at 36 15) ∷ syntax.StatementItem (syntax.ExpressionStatement (syntax.an_expr (syntax.Assign (syntax.Identifier (name (codes "y") (at 44 18))) (syntax.Constant (pos 2) basic.Int (at 48 20)) (at 46 19))) (span (at 44 18) (at 49 21))) ∷ syntax.StatementItem (syntax.Return (syntax.an_expr (syntax.Identifier (name (codes "y") (at 58 23)))) (at 51 22) (span (at 51 22) (at 59 24))) ∷ syntax.CaseLabel (syntax.Constant (pos 2) basic.Int (at 66 26)) (at 61 25) ∷ syntax.StatementItem (syntax.ExpressionStatement syntax.no_expr (span (at 69 28) (at 69 28))) ∷ [])) (span (at 27 11) (at 71 29))) (span (at 27 11) (at 71 29))) (span (at 16 7) (at 71 29))) ∷ syntax.StatementItem (syntax.While (syntax.Identifier (name (codes "c") (at 80 32))) (syntax.ExpressionStatement (syntax.an_expr (syntax.Assign (syntax.Identifier (name (codes "c") (at 83 34))) (syntax.Index (syntax.CompoundLiteral (syntax.type_name (specs (syntax.TypeSpec type.Int (at 88 37) ∷ [])) (syntax.Unnamed [] (suffixes (syntax.ArraySuffix syntax.no_expr (at 92 38) ∷ [])))) (syntax.braces (items (syntax.item (designators []) (syntax.Single (syntax.Constant (pos 0) basic.Int (at 96 42))) ∷ [])) (at 95 41)) (at 87 36)) (syntax.Constant (pos 0) basic.Int (at 99 45)) (at 98 44)) (at 85 35))) (span (at 83 34) (at 101 47))) (span (at 73 30) (at 101 47))) ∷ syntax.StatementItem (syntax.Return (syntax.an_expr (syntax.Constant (pos 0) basic.Int (at 110 49))) (at 103 48) (span (at 103 48) (at 111 50))) ∷ [])) (span (at 14 6) (at 113 51))) ∷ [])

-- void free(void * _Owner _Opt p); void * _Owner _Opt malloc(unsigned long n); int g(void) { char * _Owner _Opt p = malloc(1); if (!p) return 1; defer free(p); *p = 1; return 0; }
abbrev pub accepted_statements_initializers_programs_32 : List syntax.External
accepted_statements_initializers_programs_32 = (syntax.ExternalDeclaration (syntax.SimpleDeclaration (specs (syntax.TypeSpec type.Void (at 1 0) ∷ [])) (declared (syntax.init_declarator (syntax.Named [] (name (codes "free") (at 6 1)) (suffixes (syntax.FunctionSuffix (parameters (syntax.parameter (specs (syntax.TypeSpec type.Void (at 11 3) ∷ [])) (syntax.Named (pointer (at 16 4) ((qualifier qual.Owner (at 18 5)) ∷ (qualifier qual.Opt (at 25 6)) ∷ []) ∷ []) (name (codes "p") (at 30 7)) (suffixes [])) (at 11 3) ∷ [])) false (at 10 2) ∷ []))) syntax.no_initializer ∷ []))) ∷ syntax.ExternalDeclaration (syntax.SimpleDeclaration (specs (syntax.TypeSpec type.Void (at 34 10) ∷ [])) (declared (syntax.init_declarator (syntax.Named (pointer (at 39 11) ((qualifier qual.Owner (at 41 12)) ∷ (qualifier qual.Opt (at 48 13)) ∷ []) ∷ []) (name (codes "malloc") (at 53 14)) (suffixes (syntax.FunctionSuffix (parameters (syntax.parameter (specs (syntax.TypeSpec type.Unsigned (at 60 16) ∷ syntax.TypeSpec type.Long (at 69 17) ∷ [])) (syntax.Named [] (name (codes "n") (at 74 18)) (suffixes [])) (at 60 16) ∷ [])) false (at 59 15) ∷ []))) syntax.no_initializer ∷ []))) ∷ syntax.FunctionDefinition (specs (syntax.TypeSpec type.Int (at 78 21) ∷ [])) (syntax.Named [] (name (codes "g") (at 82 22)) (suffixes (syntax.FunctionSuffix (parameters (syntax.parameter (specs (syntax.TypeSpec type.Void (at 84 24) ∷ [])) (syntax.Unnamed [] (suffixes [])) (at 84 24) ∷ [])) false (at 83 23) ∷ []))) (syntax.block (block_items (syntax.DeclarationItem (syntax.SimpleDeclaration (specs (syntax.TypeSpec type.Char (at 92 27) ∷ [])) (declared (syntax.init_declarator (syntax.Named (pointer (at 97 28) ((qualifier qual.Owner (at 99 29)) ∷ (qualifier qual.Opt (at 106 30)) ∷ []) ∷ []) (name (codes "p") (at 111 31)) (suffixes [])) (syntax.an_initializer (syntax.Single (syntax.Call (syntax.Identifier (name (codes "malloc") (at 115 33))) (syntax.exprs ((syntax.Constant (pos 1) basic.Int (at 122 35)) ∷ [])) (at 121 34)))) ∷ []))) ∷ syntax.StatementItem (syntax.If syntax.no_declaration (syntax.Unary prefix.Not (syntax.Identifier (name (codes "p") (at 131 41))) (at 130 40)) (syntax.Return (syntax.an_expr (syntax.Constant (pos 1) basic.Int (at 141 44))) (at 134 43) (span (at 134 43) (at 142 45))) syntax.no_statement (span (at 126 38) (at 142 45))) ∷ syntax.StatementItem (syntax.Defer (syntax.ExpressionStatement (syntax.an_expr (syntax.Call (syntax.Identifier (name (codes "free") (at 150 47))) (syntax.exprs ((syntax.Identifier (name (codes "p") (at 155 49))) ∷ [])) (at 154 48))) (span (at 150 47) (at 157 51))) (at 144 46) (span (at 144 46) (at 157 51))) ∷ syntax.StatementItem (syntax.ExpressionStatement (syntax.an_expr (syntax.Assign (syntax.Unary prefix.Indirection (syntax.Identifier (name (codes "p") (at 160 53))) (at 159 52)) (syntax.Constant (pos 1) basic.Int (at 164 55)) (at 162 54))) (span (at 159 52) (at 165 56))) ∷ syntax.StatementItem (syntax.Return (syntax.an_expr (syntax.Constant (pos 0) basic.Int (at 174 58))) (at 167 57) (span (at 167 57) (at 175 59))) ∷ [])) (span (at 90 26) (at 177 60))) ∷ [])

-- typeof(1) x; typeof_unqual(const int) y; int z = sizeof(typeof(x)[3]);
abbrev pub accepted_statements_initializers_programs_33 : List syntax.External
accepted_statements_initializers_programs_33 = (syntax.ExternalDeclaration (syntax.SimpleDeclaration (specs (syntax.TypeofExpr word.Typeof (syntax.Constant (pos 1) basic.Int (at 8 2)) (at 1 0) ∷ [])) (declared (syntax.init_declarator (syntax.Named [] (name (codes "x") (at 11 4)) (suffixes [])) syntax.no_initializer ∷ []))) ∷ syntax.ExternalDeclaration (syntax.SimpleDeclaration (specs (syntax.TypeofType word.TypeofUnqual (syntax.type_name (specs (syntax.QualifierSpec (qualifier qual.Const (at 28 8)) ∷ syntax.TypeSpec type.Int (at 34 9) ∷ [])) (syntax.Unnamed [] (suffixes []))) (at 14 6) ∷ [])) (declared (syntax.init_declarator (syntax.Named [] (name (codes "y") (at 39 11)) (suffixes [])) syntax.no_initializer ∷ []))) ∷ syntax.ExternalDeclaration (syntax.SimpleDeclaration (specs (syntax.TypeSpec type.Int (at 42 13) ∷ [])) (declared (syntax.init_declarator (syntax.Named [] (name (codes "z") (at 46 14)) (suffixes [])) (syntax.an_initializer (syntax.Single (syntax.SizeofType (syntax.type_name (specs (syntax.TypeofExpr word.Typeof (syntax.Identifier (name (codes "x") (at 64 20))) (at 57 18) ∷ [])) (syntax.Unnamed [] (suffixes (syntax.ArraySuffix (syntax.an_expr (syntax.Constant (pos 3) basic.Int (at 67 23))) (at 66 22) ∷ [])))) (at 50 16)))) ∷ []))) ∷ [])

-- enum e : unsigned char { A = 255 }; enum e v = A; enum { B = A, C } w = C;
abbrev pub accepted_statements_initializers_programs_34 : List syntax.External
accepted_statements_initializers_programs_34 = (syntax.ExternalDeclaration (syntax.SimpleDeclaration (specs (syntax.Enum (Some (name (codes "e") (at 6 1))) (syntax.some_specs (specs (syntax.TypeSpec type.Unsigned (at 10 3) ∷ syntax.TypeSpec type.Char (at 19 4) ∷ []))) (enumerators (syntax.enumerator (name (codes "A") (at 26 6)) (syntax.an_expr (syntax.Constant (pos 255) basic.Int (at 30 8))) ∷ [])) (at 1 0) ∷ [])) (declared [])) ∷ syntax.ExternalDeclaration (syntax.SimpleDeclaration (specs (syntax.EnumTag (name (codes "e") (at 42 12)) syntax.none_of_specs (at 37 11) ∷ [])) (declared (syntax.init_declarator (syntax.Named [] (name (codes "v") (at 44 13)) (suffixes [])) (syntax.an_initializer (syntax.Single (syntax.Identifier (name (codes "A") (at 48 15))))) ∷ []))) ∷ syntax.ExternalDeclaration (syntax.SimpleDeclaration (specs (syntax.Enum None syntax.none_of_specs (enumerators (syntax.enumerator (name (codes "B") (at 58 19)) (syntax.an_expr (syntax.Identifier (name (codes "A") (at 62 21)))) ∷ syntax.enumerator (name (codes "C") (at 65 23)) syntax.no_expr ∷ [])) (at 51 17) ∷ [])) (declared (syntax.init_declarator (syntax.Named [] (name (codes "w") (at 69 25)) (suffixes [])) (syntax.an_initializer (syntax.Single (syntax.Identifier (name (codes "C") (at 73 27))))) ∷ []))) ∷ [])

-- unsigned long g(void) { return sizeof((int (int a, int)) { static int x = 1; int y = a; extern int z; return x + y + z; }(1, 2)); }
abbrev pub accepted_statements_initializers_programs_35 : List syntax.External
accepted_statements_initializers_programs_35 = (syntax.FunctionDefinition (specs (syntax.TypeSpec type.Unsigned (at 1 0) ∷ syntax.TypeSpec type.Long (at 10 1) ∷ [])) (syntax.Named [] (name (codes "g") (at 15 2)) (suffixes (syntax.FunctionSuffix (parameters (syntax.parameter (specs (syntax.TypeSpec type.Void (at 17 4) ∷ [])) (syntax.Unnamed [] (suffixes [])) (at 17 4) ∷ [])) false (at 16 3) ∷ []))) (syntax.block (block_items (syntax.StatementItem (syntax.Return (syntax.an_expr (syntax.SizeofExpr (syntax.Parenthesized (syntax.Call (syntax.FunctionLiteral (syntax.type_name (specs (syntax.TypeSpec type.Int (at 40 11) ∷ [])) (syntax.Unnamed [] (suffixes (syntax.FunctionSuffix (parameters (syntax.parameter (specs (syntax.TypeSpec type.Int (at 45 13) ∷ [])) (syntax.Named [] (name (codes "a") (at 49 14)) (suffixes [])) (at 45 13) ∷ syntax.parameter (specs (syntax.TypeSpec type.Int (at 52 16) ∷ [])) (syntax.Unnamed [] (suffixes [])) (at 52 16) ∷ [])) false (at 44 12) ∷ [])))) (syntax.block (block_items (syntax.DeclarationItem (syntax.SimpleDeclaration (specs (syntax.StorageSpec storage.Static (at 60 20) ∷ syntax.TypeSpec type.Int (at 67 21) ∷ [])) (declared (syntax.init_declarator (syntax.Named [] (name (codes "x") (at 71 22)) (suffixes [])) (syntax.an_initializer (syntax.Single (syntax.Constant (pos 1) basic.Int (at 75 24)))) ∷ []))) ∷ syntax.DeclarationItem (syntax.SimpleDeclaration (specs (syntax.TypeSpec type.Int (at 78 26) ∷ [])) (declared (syntax.init_declarator (syntax.Named [] (name (codes "y") (at 82 27)) (suffixes [])) (syntax.an_initializer (syntax.Single (syntax.Identifier (name (codes "a") (at 86 29))))) ∷ []))) ∷ syntax.DeclarationItem (syntax.SimpleDeclaration (specs (syntax.StorageSpec storage.Extern (at 89 31) ∷ syntax.TypeSpec type.Int (at 96 32) ∷ [])) (declared (syntax.init_declarator (syntax.Named [] (name (codes "z") (at 100 33)) (suffixes [])) syntax.no_initializer ∷ []))) ∷ syntax.StatementItem (syntax.Return (syntax.an_expr (syntax.Binary op.Add (syntax.Binary op.Add (syntax.Identifier (name (codes "x") (at 110 36))) (syntax.Identifier (name (codes "y") (at 114 38))) (at 112 37)) (syntax.Identifier (name (codes "z") (at 118 40))) (at 116 39))) (at 103 35) (span (at 103 35) (at 119 41))) ∷ [])) (span (at 58 19) (at 121 42))) (at 39 10)) (syntax.exprs ((syntax.Constant (pos 1) basic.Int (at 123 44)) ∷ (syntax.Constant (pos 2) basic.Int (at 126 46)) ∷ [])) (at 122 43)) (at 38 9)) (at 32 8))) (at 25 7) (span (at 25 7) (at 129 49))) ∷ [])) (span (at 23 6) (at 131 50))) ∷ [])

-- int g(void) { return ((int (int a)) { return ((int (int b)) { return b + 1; })(a); })(2); }
abbrev pub accepted_statements_initializers_programs_36 : List syntax.External
accepted_statements_initializers_programs_36 = (syntax.FunctionDefinition (specs (syntax.TypeSpec type.Int (at 1 0) ∷ [])) (syntax.Named [] (name (codes "g") (at 5 1)) (suffixes (syntax.FunctionSuffix (parameters (syntax.parameter (specs (syntax.TypeSpec type.Void (at 7 3) ∷ [])) (syntax.Unnamed [] (suffixes [])) (at 7 3) ∷ [])) false (at 6 2) ∷ []))) (syntax.block (block_items (syntax.StatementItem (syntax.Return (syntax.an_expr (syntax.Call (syntax.Parenthesized (syntax.FunctionLiteral (syntax.type_name (specs (syntax.TypeSpec type.Int (at 24 9) ∷ [])) (syntax.Unnamed [] (suffixes (syntax.FunctionSuffix (parameters (syntax.parameter (specs (syntax.TypeSpec type.Int (at 29 11) ∷ [])) (syntax.Named [] (name (codes "a") (at 33 12)) (suffixes [])) (at 29 11) ∷ [])) false (at 28 10) ∷ [])))) (syntax.block (block_items (syntax.StatementItem (syntax.Return (syntax.an_expr (syntax.Call (syntax.Parenthesized (syntax.FunctionLiteral (syntax.type_name (specs (syntax.TypeSpec type.Int (at 48 19) ∷ [])) (syntax.Unnamed [] (suffixes (syntax.FunctionSuffix (parameters (syntax.parameter (specs (syntax.TypeSpec type.Int (at 53 21) ∷ [])) (syntax.Named [] (name (codes "b") (at 57 22)) (suffixes [])) (at 53 21) ∷ [])) false (at 52 20) ∷ [])))) (syntax.block (block_items (syntax.StatementItem (syntax.Return (syntax.an_expr (syntax.Binary op.Add (syntax.Identifier (name (codes "b") (at 70 27))) (syntax.Constant (pos 1) basic.Int (at 74 29)) (at 72 28))) (at 63 26) (span (at 63 26) (at 75 30))) ∷ [])) (span (at 61 25) (at 77 31))) (at 47 18)) (at 46 17)) (syntax.exprs ((syntax.Identifier (name (codes "a") (at 80 34))) ∷ [])) (at 79 33))) (at 39 16) (span (at 39 16) (at 82 36))) ∷ [])) (span (at 37 15) (at 84 37))) (at 23 8)) (at 22 7)) (syntax.exprs ((syntax.Constant (pos 2) basic.Int (at 87 40)) ∷ [])) (at 86 39))) (at 15 6) (span (at 15 6) (at 89 42))) ∷ [])) (span (at 13 5) (at 91 43))) ∷ [])

-- int (*p)(void) = (int (void)) { static int n; return ++n; };
abbrev pub accepted_statements_initializers_programs_37 : List syntax.External
accepted_statements_initializers_programs_37 = (syntax.ExternalDeclaration (syntax.SimpleDeclaration (specs (syntax.TypeSpec type.Int (at 1 0) ∷ [])) (declared (syntax.init_declarator (syntax.Grouped [] (syntax.Named (pointer (at 6 2) [] ∷ []) (name (codes "p") (at 7 3)) (suffixes [])) (suffixes (syntax.FunctionSuffix (parameters (syntax.parameter (specs (syntax.TypeSpec type.Void (at 10 6) ∷ [])) (syntax.Unnamed [] (suffixes [])) (at 10 6) ∷ [])) false (at 9 5) ∷ [])) (at 5 1)) (syntax.an_initializer (syntax.Single (syntax.FunctionLiteral (syntax.type_name (specs (syntax.TypeSpec type.Int (at 19 10) ∷ [])) (syntax.Unnamed [] (suffixes (syntax.FunctionSuffix (parameters (syntax.parameter (specs (syntax.TypeSpec type.Void (at 24 12) ∷ [])) (syntax.Unnamed [] (suffixes [])) (at 24 12) ∷ [])) false (at 23 11) ∷ [])))) (syntax.block (block_items (syntax.DeclarationItem (syntax.SimpleDeclaration (specs (syntax.StorageSpec storage.Static (at 33 16) ∷ syntax.TypeSpec type.Int (at 40 17) ∷ [])) (declared (syntax.init_declarator (syntax.Named [] (name (codes "n") (at 44 18)) (suffixes [])) syntax.no_initializer ∷ []))) ∷ syntax.StatementItem (syntax.Return (syntax.an_expr (syntax.Step step.Increment side.Prefix (syntax.Identifier (name (codes "n") (at 56 22))) (at 54 21))) (at 47 20) (span (at 47 20) (at 57 23))) ∷ [])) (span (at 31 15) (at 59 24))) (at 18 9)))) ∷ []))) ∷ [])

-- int f(int *p); int g(int n) { for (int i = f((int []){1}); i < f((int []){2}); i += f((int []){3})) f((int []){4}); while (f((int []){5})) ; do f((int []){6}); while (f((int []){7})); if (f((int []){8})) f((int []){9}); else f((int []){10}); switch (f((int []){11})) f((int []){12}); return f((int []){13}); }
abbrev pub accepted_statements_initializers_programs_38 : List syntax.External
accepted_statements_initializers_programs_38 = (syntax.ExternalDeclaration (syntax.SimpleDeclaration (specs (syntax.TypeSpec type.Int (at 1 0) ∷ [])) (declared (syntax.init_declarator (syntax.Named [] (name (codes "f") (at 5 1)) (suffixes (syntax.FunctionSuffix (parameters (syntax.parameter (specs (syntax.TypeSpec type.Int (at 7 3) ∷ [])) (syntax.Named (pointer (at 11 4) [] ∷ []) (name (codes "p") (at 12 5)) (suffixes [])) (at 7 3) ∷ [])) false (at 6 2) ∷ []))) syntax.no_initializer ∷ []))) ∷ syntax.FunctionDefinition (specs (syntax.TypeSpec type.Int (at 16 8) ∷ [])) (syntax.Named [] (name (codes "g") (at 20 9)) (suffixes (syntax.FunctionSuffix (parameters (syntax.parameter (specs (syntax.TypeSpec type.Int (at 22 11) ∷ [])) (syntax.Named [] (name (codes "n") (at 26 12)) (suffixes [])) (at 22 11) ∷ [])) false (at 21 10) ∷ []))) (syntax.block (block_items (syntax.StatementItem (syntax.ForDeclaration (syntax.SimpleDeclaration (specs (syntax.TypeSpec type.Int (at 36 17) ∷ [])) (declared (syntax.init_declarator (syntax.Named [] (name (codes "i") (at 40 18)) (suffixes [])) (syntax.an_initializer (syntax.Single (syntax.Call (syntax.Identifier (name (codes "f") (at 44 20))) (syntax.exprs ((syntax.CompoundLiteral (syntax.type_name (specs (syntax.TypeSpec type.Int (at 47 23) ∷ [])) (syntax.Unnamed [] (suffixes (syntax.ArraySuffix syntax.no_expr (at 51 24) ∷ [])))) (syntax.braces (items (syntax.item (designators []) (syntax.Single (syntax.Constant (pos 1) basic.Int (at 55 28))) ∷ [])) (at 54 27)) (at 46 22)) ∷ [])) (at 45 21)))) ∷ []))) (syntax.an_expr (syntax.Binary op.Less (syntax.Identifier (name (codes "i") (at 60 32))) (syntax.Call (syntax.Identifier (name (codes "f") (at 64 34))) (syntax.exprs ((syntax.CompoundLiteral (syntax.type_name (specs (syntax.TypeSpec type.Int (at 67 37) ∷ [])) (syntax.Unnamed [] (suffixes (syntax.ArraySuffix syntax.no_expr (at 71 38) ∷ [])))) (syntax.braces (items (syntax.item (designators []) (syntax.Single (syntax.Constant (pos 2) basic.Int (at 75 42))) ∷ [])) (at 74 41)) (at 66 36)) ∷ [])) (at 65 35)) (at 62 33))) (syntax.an_expr (syntax.AssignBy op.Add (syntax.Identifier (name (codes "i") (at 80 46))) (syntax.Call (syntax.Identifier (name (codes "f") (at 85 48))) (syntax.exprs ((syntax.CompoundLiteral (syntax.type_name (specs (syntax.TypeSpec type.Int (at 88 51) ∷ [])) (syntax.Unnamed [] (suffixes (syntax.ArraySuffix syntax.no_expr (at 92 52) ∷ [])))) (syntax.braces (items (syntax.item (designators []) (syntax.Single (syntax.Constant (pos 3) basic.Int (at 96 56))) ∷ [])) (at 95 55)) (at 87 50)) ∷ [])) (at 86 49)) (at 82 47))) (syntax.ExpressionStatement (syntax.an_expr (syntax.Call (syntax.Identifier (name (codes "f") (at 101 60))) (syntax.exprs ((syntax.CompoundLiteral (syntax.type_name (specs (syntax.TypeSpec type.Int (at 104 63) ∷ [])) (syntax.Unnamed [] (suffixes (syntax.ArraySuffix syntax.no_expr (at 108 64) ∷ [])))) (syntax.braces (items (syntax.item (designators []) (syntax.Single (syntax.Constant (pos 4) basic.Int (at 112 68))) ∷ [])) (at 111 67)) (at 103 62)) ∷ [])) (at 102 61))) (span (at 101 60) (at 115 71))) (span (at 31 15) (at 115 71))) ∷ syntax.StatementItem (syntax.While (syntax.Call (syntax.Identifier (name (codes "f") (at 124 74))) (syntax.exprs ((syntax.CompoundLiteral (syntax.type_name (specs (syntax.TypeSpec type.Int (at 127 77) ∷ [])) (syntax.Unnamed [] (suffixes (syntax.ArraySuffix syntax.no_expr (at 131 78) ∷ [])))) (syntax.braces (items (syntax.item (designators []) (syntax.Single (syntax.Constant (pos 5) basic.Int (at 135 82))) ∷ [])) (at 134 81)) (at 126 76)) ∷ [])) (at 125 75)) (syntax.ExpressionStatement syntax.no_expr (span (at 140 86) (at 140 86))) (span (at 117 72) (at 140 86))) ∷ syntax.StatementItem (syntax.DoWhile (syntax.ExpressionStatement (syntax.an_expr (syntax.Call (syntax.Identifier (name (codes "f") (at 145 88))) (syntax.exprs ((syntax.CompoundLiteral (syntax.type_name (specs (syntax.TypeSpec type.Int (at 148 91) ∷ [])) (syntax.Unnamed [] (suffixes (syntax.ArraySuffix syntax.no_expr (at 152 92) ∷ [])))) (syntax.braces (items (syntax.item (designators []) (syntax.Single (syntax.Constant (pos 6) basic.Int (at 156 96))) ∷ [])) (at 155 95)) (at 147 90)) ∷ [])) (at 146 89))) (span (at 145 88) (at 159 99))) (syntax.Call (syntax.Identifier (name (codes "f") (at 168 102))) (syntax.exprs ((syntax.CompoundLiteral (syntax.type_name (specs (syntax.TypeSpec type.Int (at 171 105) ∷ [])) (syntax.Unnamed [] (suffixes (syntax.ArraySuffix syntax.no_expr (at 175 106) ∷ [])))) (syntax.braces (items (syntax.item (designators []) (syntax.Single (syntax.Constant (pos 7) basic.Int (at 179 110))) ∷ [])) (at 178 109)) (at 170 104)) ∷ [])) (at 169 103)) (span (at 142 87) (at 183 114))) ∷ syntax.StatementItem (syntax.If syntax.no_declaration (syntax.Call (syntax.Identifier (name (codes "f") (at 189 117))) (syntax.exprs ((syntax.CompoundLiteral (syntax.type_name (specs (syntax.TypeSpec type.Int (at 192 120) ∷ [])) (syntax.Unnamed [] (suffixes (syntax.ArraySuffix syntax.no_expr (at 196 121) ∷ [])))) (syntax.braces (items (syntax.item (designators []) (syntax.Single (syntax.Constant (pos 8) basic.Int (at 200 125))) ∷ [])) (at 199 124)) (at 191 119)) ∷ [])) (at 190 118)) (syntax.ExpressionStatement (syntax.an_expr (syntax.Call (syntax.Identifier (name (codes "f") (at 205 129))) (syntax.exprs ((syntax.CompoundLiteral (syntax.type_name (specs (syntax.TypeSpec type.Int (at 208 132) ∷ [])) (syntax.Unnamed [] (suffixes (syntax.ArraySuffix syntax.no_expr (at 212 133) ∷ [])))) (syntax.braces (items (syntax.item (designators []) (syntax.Single (syntax.Constant (pos 9) basic.Int (at 216 137))) ∷ [])) (at 215 136)) (at 207 131)) ∷ [])) (at 206 130))) (span (at 205 129) (at 219 140))) (syntax.a_statement (syntax.ExpressionStatement (syntax.an_expr (syntax.Call (syntax.Identifier (name (codes "f") (at 226 142))) (syntax.exprs ((syntax.CompoundLiteral (syntax.type_name (specs (syntax.TypeSpec type.Int (at 229 145) ∷ [])) (syntax.Unnamed [] (suffixes (syntax.ArraySuffix syntax.no_expr (at 233 146) ∷ [])))) (syntax.braces (items (syntax.item (designators []) (syntax.Single (syntax.Constant (pos 10) basic.Int (at 237 150))) ∷ [])) (at 236 149)) (at 228 144)) ∷ [])) (at 227 143))) (span (at 226 142) (at 241 153)))) (span (at 185 115) (at 241 153))) ∷ syntax.StatementItem (syntax.Switch (syntax.Call (syntax.Identifier (name (codes "f") (at 251 156))) (syntax.exprs ((syntax.CompoundLiteral (syntax.type_name (specs (syntax.TypeSpec type.Int (at 254 159) ∷ [])) (syntax.Unnamed [] (suffixes (syntax.ArraySuffix syntax.no_expr (at 258 160) ∷ [])))) (syntax.braces (items (syntax.item (designators []) (syntax.Single (syntax.Constant (pos 11) basic.Int (at 262 164))) ∷ [])) (at 261 163)) (at 253 158)) ∷ [])) (at 252 157)) (syntax.ExpressionStatement (syntax.an_expr (syntax.Call (syntax.Identifier (name (codes "f") (at 268 168))) (syntax.exprs ((syntax.CompoundLiteral (syntax.type_name (specs (syntax.TypeSpec type.Int (at 271 171) ∷ [])) (syntax.Unnamed [] (suffixes (syntax.ArraySuffix syntax.no_expr (at 275 172) ∷ [])))) (syntax.braces (items (syntax.item (designators []) (syntax.Single (syntax.Constant (pos 12) basic.Int (at 279 176))) ∷ [])) (at 278 175)) (at 270 170)) ∷ [])) (at 269 169))) (span (at 268 168) (at 283 179))) (span (at 243 154) (at 283 179))) ∷ syntax.StatementItem (syntax.Return (syntax.an_expr (syntax.Call (syntax.Identifier (name (codes "f") (at 292 181))) (syntax.exprs ((syntax.CompoundLiteral (syntax.type_name (specs (syntax.TypeSpec type.Int (at 295 184) ∷ [])) (syntax.Unnamed [] (suffixes (syntax.ArraySuffix syntax.no_expr (at 299 185) ∷ [])))) (syntax.braces (items (syntax.item (designators []) (syntax.Single (syntax.Constant (pos 13) basic.Int (at 303 189))) ∷ [])) (at 302 188)) (at 294 183)) ∷ [])) (at 293 182))) (at 285 180) (span (at 285 180) (at 307 192))) ∷ [])) (span (at 29 14) (at 309 193))) ∷ [])

-- void f(int a) { { int a; } }
abbrev pub accepted_statements_initializers_programs_39 : List syntax.External
accepted_statements_initializers_programs_39 = (syntax.FunctionDefinition (specs (syntax.TypeSpec type.Void (at 1 0) ∷ [])) (syntax.Named [] (name (codes "f") (at 6 1)) (suffixes (syntax.FunctionSuffix (parameters (syntax.parameter (specs (syntax.TypeSpec type.Int (at 8 3) ∷ [])) (syntax.Named [] (name (codes "a") (at 12 4)) (suffixes [])) (at 8 3) ∷ [])) false (at 7 2) ∷ []))) (syntax.block (block_items (syntax.StatementItem (syntax.CompoundStatement (syntax.block (block_items (syntax.DeclarationItem (syntax.SimpleDeclaration (specs (syntax.TypeSpec type.Int (at 19 8) ∷ [])) (declared (syntax.init_declarator (syntax.Named [] (name (codes "a") (at 23 9)) (suffixes [])) syntax.no_initializer ∷ []))) ∷ [])) (span (at 17 7) (at 26 11))) (span (at 17 7) (at 26 11))) ∷ [])) (span (at 15 6) (at 28 12))) ∷ [])

-- void f(void) { for (int i = 0; i < 2; i++) { int i = 3; } if (int i = 1; i) { int i; } }
abbrev pub accepted_statements_initializers_programs_40 : List syntax.External
accepted_statements_initializers_programs_40 = (syntax.FunctionDefinition (specs (syntax.TypeSpec type.Void (at 1 0) ∷ [])) (syntax.Named [] (name (codes "f") (at 6 1)) (suffixes (syntax.FunctionSuffix (parameters (syntax.parameter (specs (syntax.TypeSpec type.Void (at 8 3) ∷ [])) (syntax.Unnamed [] (suffixes [])) (at 8 3) ∷ [])) false (at 7 2) ∷ []))) (syntax.block (block_items (syntax.StatementItem (syntax.ForDeclaration (syntax.SimpleDeclaration (specs (syntax.TypeSpec type.Int (at 21 8) ∷ [])) (declared (syntax.init_declarator (syntax.Named [] (name (codes "i") (at 25 9)) (suffixes [])) (syntax.an_initializer (syntax.Single (syntax.Constant (pos 0) basic.Int (at 29 11)))) ∷ []))) (syntax.an_expr (syntax.Binary op.Less (syntax.Identifier (name (codes "i") (at 32 13))) (syntax.Constant (pos 2) basic.Int (at 36 15)) (at 34 14))) (syntax.an_expr (syntax.Step step.Increment side.Postfix (syntax.Identifier (name (codes "i") (at 39 17))) (at 40 18))) (syntax.CompoundStatement (syntax.block (block_items (syntax.DeclarationItem (syntax.SimpleDeclaration (specs (syntax.TypeSpec type.Int (at 46 21) ∷ [])) (declared (syntax.init_declarator (syntax.Named [] (name (codes "i") (at 50 22)) (suffixes [])) (syntax.an_initializer (syntax.Single (syntax.Constant (pos 3) basic.Int (at 54 24)))) ∷ []))) ∷ [])) (span (at 44 20) (at 57 26))) (span (at 44 20) (at 57 26))) (span (at 16 6) (at 57 26))) ∷ syntax.StatementItem (syntax.If (syntax.a_declaration (syntax.SimpleDeclaration (specs (syntax.TypeSpec type.Int (at 63 29) ∷ [])) (declared (syntax.init_declarator (syntax.Named [] (name (codes "i") (at 67 30)) (suffixes [])) (syntax.an_initializer (syntax.Single (syntax.Constant (pos 1) basic.Int (at 71 32)))) ∷ [])))) (syntax.Identifier (name (codes "i") (at 74 34))) (syntax.CompoundStatement (syntax.block (block_items (syntax.DeclarationItem (syntax.SimpleDeclaration (specs (syntax.TypeSpec type.Int (at 79 37) ∷ [])) (declared (syntax.init_declarator (syntax.Named [] (name (codes "i") (at 83 38)) (suffixes [])) syntax.no_initializer ∷ []))) ∷ [])) (span (at 77 36) (at 86 40))) (span (at 77 36) (at 86 40))) syntax.no_statement (span (at 59 27) (at 86 40))) ∷ [])) (span (at 14 5) (at 88 41))) ∷ [])

-- int (*p)[3] = 0; extern int (*p)[];
abbrev pub accepted_statements_initializers_programs_41 : List syntax.External
accepted_statements_initializers_programs_41 = (syntax.ExternalDeclaration (syntax.SimpleDeclaration (specs (syntax.TypeSpec type.Int (at 1 0) ∷ [])) (declared (syntax.init_declarator (syntax.Grouped [] (syntax.Named (pointer (at 6 2) [] ∷ []) (name (codes "p") (at 7 3)) (suffixes [])) (suffixes (syntax.ArraySuffix (syntax.an_expr (syntax.Constant (pos 3) basic.Int (at 10 6))) (at 9 5) ∷ [])) (at 5 1)) (syntax.an_initializer (syntax.Single (syntax.Constant (pos 0) basic.Int (at 15 9)))) ∷ []))) ∷ syntax.ExternalDeclaration (syntax.SimpleDeclaration (specs (syntax.StorageSpec storage.Extern (at 18 11) ∷ syntax.TypeSpec type.Int (at 25 12) ∷ [])) (declared (syntax.init_declarator (syntax.Grouped [] (syntax.Named (pointer (at 30 14) [] ∷ []) (name (codes "p") (at 31 15)) (suffixes [])) (suffixes (syntax.ArraySuffix syntax.no_expr (at 33 17) ∷ [])) (at 29 13)) syntax.no_initializer ∷ []))) ∷ [])

-- void f(int (*a)[3]) { } void f(int (*a)[]);
abbrev pub accepted_statements_initializers_programs_42 : List syntax.External
accepted_statements_initializers_programs_42 = (syntax.FunctionDefinition (specs (syntax.TypeSpec type.Void (at 1 0) ∷ [])) (syntax.Named [] (name (codes "f") (at 6 1)) (suffixes (syntax.FunctionSuffix (parameters (syntax.parameter (specs (syntax.TypeSpec type.Int (at 8 3) ∷ [])) (syntax.Grouped [] (syntax.Named (pointer (at 13 5) [] ∷ []) (name (codes "a") (at 14 6)) (suffixes [])) (suffixes (syntax.ArraySuffix (syntax.an_expr (syntax.Constant (pos 3) basic.Int (at 17 9))) (at 16 8) ∷ [])) (at 12 4)) (at 8 3) ∷ [])) false (at 7 2) ∷ []))) (syntax.block (block_items []) (span (at 21 12) (at 23 13))) ∷ syntax.ExternalDeclaration (syntax.SimpleDeclaration (specs (syntax.TypeSpec type.Void (at 25 14) ∷ [])) (declared (syntax.init_declarator (syntax.Named [] (name (codes "f") (at 30 15)) (suffixes (syntax.FunctionSuffix (parameters (syntax.parameter (specs (syntax.TypeSpec type.Int (at 32 17) ∷ [])) (syntax.Grouped [] (syntax.Named (pointer (at 37 19) [] ∷ []) (name (codes "a") (at 38 20)) (suffixes [])) (suffixes (syntax.ArraySuffix syntax.no_expr (at 40 22) ∷ [])) (at 36 18)) (at 32 17) ∷ [])) false (at 31 16) ∷ []))) syntax.no_initializer ∷ []))) ∷ [])

-- void f(int (*a)[]); void f(int (*a)[3]) { (*a)[1] = 2; }
abbrev pub accepted_statements_initializers_programs_43 : List syntax.External
accepted_statements_initializers_programs_43 = (syntax.ExternalDeclaration (syntax.SimpleDeclaration (specs (syntax.TypeSpec type.Void (at 1 0) ∷ [])) (declared (syntax.init_declarator (syntax.Named [] (name (codes "f") (at 6 1)) (suffixes (syntax.FunctionSuffix (parameters (syntax.parameter (specs (syntax.TypeSpec type.Int (at 8 3) ∷ [])) (syntax.Grouped [] (syntax.Named (pointer (at 13 5) [] ∷ []) (name (codes "a") (at 14 6)) (suffixes [])) (suffixes (syntax.ArraySuffix syntax.no_expr (at 16 8) ∷ [])) (at 12 4)) (at 8 3) ∷ [])) false (at 7 2) ∷ []))) syntax.no_initializer ∷ []))) ∷ syntax.FunctionDefinition (specs (syntax.TypeSpec type.Void (at 21 12) ∷ [])) (syntax.Named [] (name (codes "f") (at 26 13)) (suffixes (syntax.FunctionSuffix (parameters (syntax.parameter (specs (syntax.TypeSpec type.Int (at 28 15) ∷ [])) (syntax.Grouped [] (syntax.Named (pointer (at 33 17) [] ∷ []) (name (codes "a") (at 34 18)) (suffixes [])) (suffixes (syntax.ArraySuffix (syntax.an_expr (syntax.Constant (pos 3) basic.Int (at 37 21))) (at 36 20) ∷ [])) (at 32 16)) (at 28 15) ∷ [])) false (at 27 14) ∷ []))) (syntax.block (block_items (syntax.StatementItem (syntax.ExpressionStatement (syntax.an_expr (syntax.Assign (syntax.Index (syntax.Parenthesized (syntax.Unary prefix.Indirection (syntax.Identifier (name (codes "a") (at 45 27))) (at 44 26)) (at 43 25)) (syntax.Constant (pos 1) basic.Int (at 48 30)) (at 47 29)) (syntax.Constant (pos 2) basic.Int (at 53 33)) (at 51 32))) (span (at 43 25) (at 54 34))) ∷ [])) (span (at 41 24) (at 56 35))) ∷ [])

-- static auto p = (int (void)) { return 1; }; int g(void) { return p(); }
abbrev pub accepted_statements_initializers_programs_44 : List syntax.External
accepted_statements_initializers_programs_44 = (syntax.ExternalDeclaration (syntax.SimpleDeclaration (specs (syntax.StorageSpec storage.Static (at 1 0) ∷ syntax.StorageSpec storage.Auto (at 8 1) ∷ [])) (declared (syntax.init_declarator (syntax.Named [] (name (codes "p") (at 13 2)) (suffixes [])) (syntax.an_initializer (syntax.Single (syntax.FunctionLiteral (syntax.type_name (specs (syntax.TypeSpec type.Int (at 18 5) ∷ [])) (syntax.Unnamed [] (suffixes (syntax.FunctionSuffix (parameters (syntax.parameter (specs (syntax.TypeSpec type.Void (at 23 7) ∷ [])) (syntax.Unnamed [] (suffixes [])) (at 23 7) ∷ [])) false (at 22 6) ∷ [])))) (syntax.block (block_items (syntax.StatementItem (syntax.Return (syntax.an_expr (syntax.Constant (pos 1) basic.Int (at 39 12))) (at 32 11) (span (at 32 11) (at 40 13))) ∷ [])) (span (at 30 10) (at 42 14))) (at 17 4)))) ∷ []))) ∷ syntax.FunctionDefinition (specs (syntax.TypeSpec type.Int (at 45 16) ∷ [])) (syntax.Named [] (name (codes "g") (at 49 17)) (suffixes (syntax.FunctionSuffix (parameters (syntax.parameter (specs (syntax.TypeSpec type.Void (at 51 19) ∷ [])) (syntax.Unnamed [] (suffixes [])) (at 51 19) ∷ [])) false (at 50 18) ∷ []))) (syntax.block (block_items (syntax.StatementItem (syntax.Return (syntax.an_expr (syntax.Call (syntax.Identifier (name (codes "p") (at 66 23))) (syntax.exprs []) (at 67 24))) (at 59 22) (span (at 59 22) (at 69 26))) ∷ [])) (span (at 57 21) (at 71 27))) ∷ [])

-- int a[] = { 1, 2, 3 }; extern int a[3]; int n = sizeof(a);
abbrev pub accepted_statements_initializers_programs_45 : List syntax.External
accepted_statements_initializers_programs_45 = (syntax.ExternalDeclaration (syntax.SimpleDeclaration (specs (syntax.TypeSpec type.Int (at 1 0) ∷ [])) (declared (syntax.init_declarator (syntax.Named [] (name (codes "a") (at 5 1)) (suffixes (syntax.ArraySuffix syntax.no_expr (at 6 2) ∷ []))) (syntax.an_initializer (syntax.Braced (syntax.braces (items (syntax.item (designators []) (syntax.Single (syntax.Constant (pos 1) basic.Int (at 13 6))) ∷ syntax.item (designators []) (syntax.Single (syntax.Constant (pos 2) basic.Int (at 16 8))) ∷ syntax.item (designators []) (syntax.Single (syntax.Constant (pos 3) basic.Int (at 19 10))) ∷ [])) (at 11 5)))) ∷ []))) ∷ syntax.ExternalDeclaration (syntax.SimpleDeclaration (specs (syntax.StorageSpec storage.Extern (at 24 13) ∷ syntax.TypeSpec type.Int (at 31 14) ∷ [])) (declared (syntax.init_declarator (syntax.Named [] (name (codes "a") (at 35 15)) (suffixes (syntax.ArraySuffix (syntax.an_expr (syntax.Constant (pos 3) basic.Int (at 37 17))) (at 36 16) ∷ []))) syntax.no_initializer ∷ []))) ∷ syntax.ExternalDeclaration (syntax.SimpleDeclaration (specs (syntax.TypeSpec type.Int (at 41 20) ∷ [])) (declared (syntax.init_declarator (syntax.Named [] (name (codes "n") (at 45 21)) (suffixes [])) (syntax.an_initializer (syntax.Single (syntax.SizeofExpr (syntax.Parenthesized (syntax.Identifier (name (codes "a") (at 56 25))) (at 55 24)) (at 49 23)))) ∷ []))) ∷ [])

-- struct s; struct s *f(struct s *p) { return p; } struct s { int a; }; int g(struct s *p) { return f(p)->a; }
abbrev pub accepted_statements_initializers_programs_46 : List syntax.External
accepted_statements_initializers_programs_46 = (syntax.ExternalDeclaration (syntax.SimpleDeclaration (specs (syntax.StructTag (name (codes "s") (at 8 1)) (at 1 0) ∷ [])) (declared [])) ∷ syntax.FunctionDefinition (specs (syntax.StructTag (name (codes "s") (at 18 4)) (at 11 3) ∷ [])) (syntax.Named (pointer (at 20 5) [] ∷ []) (name (codes "f") (at 21 6)) (suffixes (syntax.FunctionSuffix (parameters (syntax.parameter (specs (syntax.StructTag (name (codes "s") (at 30 9)) (at 23 8) ∷ [])) (syntax.Named (pointer (at 32 10) [] ∷ []) (name (codes "p") (at 33 11)) (suffixes [])) (at 23 8) ∷ [])) false (at 22 7) ∷ []))) (syntax.block (block_items (syntax.StatementItem (syntax.Return (syntax.an_expr (syntax.Identifier (name (codes "p") (at 45 15)))) (at 38 14) (span (at 38 14) (at 46 16))) ∷ [])) (span (at 36 13) (at 48 17))) ∷ syntax.ExternalDeclaration (syntax.SimpleDeclaration (specs (syntax.Struct (Some (name (codes "s") (at 57 19))) (members (syntax.MemberDeclarators (specs (syntax.TypeSpec type.Int (at 61 21) ∷ [])) (syntax.declarators ((syntax.Named [] (name (codes "a") (at 65 22)) (suffixes [])) ∷ [])) ∷ [])) (at 50 18) ∷ [])) (declared [])) ∷ syntax.FunctionDefinition (specs (syntax.TypeSpec type.Int (at 71 26) ∷ [])) (syntax.Named [] (name (codes "g") (at 75 27)) (suffixes (syntax.FunctionSuffix (parameters (syntax.parameter (specs (syntax.StructTag (name (codes "s") (at 84 30)) (at 77 29) ∷ [])) (syntax.Named (pointer (at 86 31) [] ∷ []) (name (codes "p") (at 87 32)) (suffixes [])) (at 77 29) ∷ [])) false (at 76 28) ∷ []))) (syntax.block (block_items (syntax.StatementItem (syntax.Return (syntax.an_expr (syntax.Arrow (syntax.Call (syntax.Identifier (name (codes "f") (at 99 36))) (syntax.exprs ((syntax.Identifier (name (codes "p") (at 101 38))) ∷ [])) (at 100 37)) (name (codes "a") (at 105 41)) (at 103 40))) (at 92 35) (span (at 92 35) (at 106 42))) ∷ [])) (span (at 90 34) (at 108 43))) ∷ [])

-- void g(void) { struct s { int a; } x = { 1 }, y = x; { struct s { char c; } z = { 2 }; } x = y; }
abbrev pub accepted_statements_initializers_programs_47 : List syntax.External
accepted_statements_initializers_programs_47 = (syntax.FunctionDefinition (specs (syntax.TypeSpec type.Void (at 1 0) ∷ [])) (syntax.Named [] (name (codes "g") (at 6 1)) (suffixes (syntax.FunctionSuffix (parameters (syntax.parameter (specs (syntax.TypeSpec type.Void (at 8 3) ∷ [])) (syntax.Unnamed [] (suffixes [])) (at 8 3) ∷ [])) false (at 7 2) ∷ []))) (syntax.block (block_items (syntax.DeclarationItem (syntax.SimpleDeclaration (specs (syntax.Struct (Some (name (codes "s") (at 23 7))) (members (syntax.MemberDeclarators (specs (syntax.TypeSpec type.Int (at 27 9) ∷ [])) (syntax.declarators ((syntax.Named [] (name (codes "a") (at 31 10)) (suffixes [])) ∷ [])) ∷ [])) (at 16 6) ∷ [])) (declared (syntax.init_declarator (syntax.Named [] (name (codes "x") (at 36 13)) (suffixes [])) (syntax.an_initializer (syntax.Braced (syntax.braces (items (syntax.item (designators []) (syntax.Single (syntax.Constant (pos 1) basic.Int (at 42 16))) ∷ [])) (at 40 15)))) ∷ syntax.init_declarator (syntax.Named [] (name (codes "y") (at 47 19)) (suffixes [])) (syntax.an_initializer (syntax.Single (syntax.Identifier (name (codes "x") (at 51 21))))) ∷ []))) ∷ syntax.StatementItem (syntax.CompoundStatement (syntax.block (block_items (syntax.DeclarationItem (syntax.SimpleDeclaration (specs (syntax.Struct (Some (name (codes "s") (at 63 25))) (members (syntax.MemberDeclarators (specs (syntax.TypeSpec type.Char (at 67 27) ∷ [])) (syntax.declarators ((syntax.Named [] (name (codes "c") (at 72 28)) (suffixes [])) ∷ [])) ∷ [])) (at 56 24) ∷ [])) (declared (syntax.init_declarator (syntax.Named [] (name (codes "z") (at 77 31)) (suffixes [])) (syntax.an_initializer (syntax.Braced (syntax.braces (items (syntax.item (designators []) (syntax.Single (syntax.Constant (pos 2) basic.Int (at 83 34))) ∷ [])) (at 81 33)))) ∷ []))) ∷ [])) (span (at 54 23) (at 88 37))) (span (at 54 23) (at 88 37))) ∷ syntax.StatementItem (syntax.ExpressionStatement (syntax.an_expr (syntax.Assign (syntax.Identifier (name (codes "x") (at 90 38))) (syntax.Identifier (name (codes "y") (at 94 40))) (at 92 39))) (span (at 90 38) (at 95 41))) ∷ [])) (span (at 14 5) (at 97 42))) ∷ [])

-- int g(void) { int x = 1; int *p = &x; static int y; static int *q = &y; return *p + *q; }
abbrev pub accepted_statements_initializers_programs_48 : List syntax.External
accepted_statements_initializers_programs_48 = (syntax.FunctionDefinition (specs (syntax.TypeSpec type.Int (at 1 0) ∷ [])) (syntax.Named [] (name (codes "g") (at 5 1)) (suffixes (syntax.FunctionSuffix (parameters (syntax.parameter (specs (syntax.TypeSpec type.Void (at 7 3) ∷ [])) (syntax.Unnamed [] (suffixes [])) (at 7 3) ∷ [])) false (at 6 2) ∷ []))) (syntax.block (block_items (syntax.DeclarationItem (syntax.SimpleDeclaration (specs (syntax.TypeSpec type.Int (at 15 6) ∷ [])) (declared (syntax.init_declarator (syntax.Named [] (name (codes "x") (at 19 7)) (suffixes [])) (syntax.an_initializer (syntax.Single (syntax.Constant (pos 1) basic.Int (at 23 9)))) ∷ []))) ∷ syntax.DeclarationItem (syntax.SimpleDeclaration (specs (syntax.TypeSpec type.Int (at 26 11) ∷ [])) (declared (syntax.init_declarator (syntax.Named (pointer (at 30 12) [] ∷ []) (name (codes "p") (at 31 13)) (suffixes [])) (syntax.an_initializer (syntax.Single (syntax.Unary prefix.Address (syntax.Identifier (name (codes "x") (at 36 16))) (at 35 15)))) ∷ []))) ∷ syntax.DeclarationItem (syntax.SimpleDeclaration (specs (syntax.StorageSpec storage.Static (at 39 18) ∷ syntax.TypeSpec type.Int (at 46 19) ∷ [])) (declared (syntax.init_declarator (syntax.Named [] (name (codes "y") (at 50 20)) (suffixes [])) syntax.no_initializer ∷ []))) ∷ syntax.DeclarationItem (syntax.SimpleDeclaration (specs (syntax.StorageSpec storage.Static (at 53 22) ∷ syntax.TypeSpec type.Int (at 60 23) ∷ [])) (declared (syntax.init_declarator (syntax.Named (pointer (at 64 24) [] ∷ []) (name (codes "q") (at 65 25)) (suffixes [])) (syntax.an_initializer (syntax.Single (syntax.Unary prefix.Address (syntax.Identifier (name (codes "y") (at 70 28))) (at 69 27)))) ∷ []))) ∷ syntax.StatementItem (syntax.Return (syntax.an_expr (syntax.Binary op.Add (syntax.Unary prefix.Indirection (syntax.Identifier (name (codes "p") (at 81 32))) (at 80 31)) (syntax.Unary prefix.Indirection (syntax.Identifier (name (codes "q") (at 86 35))) (at 85 34)) (at 83 33))) (at 73 30) (span (at 73 30) (at 87 36))) ∷ [])) (span (at 13 5) (at 89 37))) ∷ [])
