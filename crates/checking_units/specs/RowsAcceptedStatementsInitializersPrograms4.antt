-- accepted: statements, initializers, programs: units of one line, as trees.
use Rattle.std.specs.Prelude.{List, [], ◌∷◌, Some, None, false, pos, codes}
use Rattle.model_grammar.specs.SyntaxForms as syntax
use Rattle.model_types.specs.declared.numbers.Basic.TheVariants as basic
use Rattle.model_types.specs.declared.numbers.BinOp.TheVariants as op
use Rattle.model_types.specs.declared.operators.LogicOp.TheVariants as logic
use Rattle.model_types.specs.declared.operators.StepOp.TheVariants as step
use Rattle.model_types.specs.declared.operators.StepSide.TheVariants as side
use Rattle.model_grammar.specs.declared.syntax.StorageWord.TheVariants as storage
use Rattle.model_grammar.specs.declared.syntax.TypeWord.TheVariants as type
use Rattle.model_grammar.specs.declared.syntax.QualifierWord.TheVariants as qual
use Rattle.model_grammar.specs.declared.syntax.TypeofWord.TheVariants as word
use Rattle.model_grammar.specs.declared.syntax.PrefixOp.TheVariants as prefix
use Rattle.checking_units.specs.Parts.{at, name, specs, qualifier, pointer, suffixes, parameters, members, declared, items, designators, block_items, span}

-- extern int puts(const char *); int exits(int c) { { defer puts("a"); defer { puts("b"); if (c) puts("c"); } if (c > 1) return c; while (c--) { defer puts("d"); if (c == 3) continue; if (c == 2) break; } } return 0; }
abbrev pub accepted_statements_initializers_programs_73 : List syntax.External
accepted_statements_initializers_programs_73 = (syntax.ExternalDeclaration (syntax.SimpleDeclaration (specs (syntax.StorageSpec storage.Extern (at 1 0) ∷ syntax.TypeSpec type.Int (at 8 1) ∷ [])) (declared (syntax.init_declarator (syntax.Named [] (name (codes "puts") (at 12 2)) (suffixes (syntax.FunctionSuffix (parameters (syntax.parameter (specs (syntax.QualifierSpec (qualifier qual.Const (at 17 4)) ∷ syntax.TypeSpec type.Char (at 23 5) ∷ [])) (syntax.Unnamed (pointer (at 28 6) [] ∷ []) (suffixes [])) (at 17 4) ∷ [])) false (at 16 3) ∷ []))) syntax.no_initializer ∷ []))) ∷ syntax.FunctionDefinition (specs (syntax.TypeSpec type.Int (at 32 9) ∷ [])) (syntax.Named [] (name (codes "exits") (at 36 10)) (suffixes (syntax.FunctionSuffix (parameters (syntax.parameter (specs (syntax.TypeSpec type.Int (at 42 12) ∷ [])) (syntax.Named [] (name (codes "c") (at 46 13)) (suffixes [])) (at 42 12) ∷ [])) false (at 41 11) ∷ []))) (syntax.block (block_items (syntax.StatementItem (syntax.CompoundStatement (syntax.block (block_items (syntax.StatementItem (syntax.Defer (syntax.ExpressionStatement (syntax.an_expr (syntax.Call (syntax.Identifier (name (codes "puts") (at 59 18))) (syntax.exprs ((syntax.Text (codes "a") (at 64 20)) ∷ [])) (at 63 19))) (span (at 59 18) (at 68 22))) (at 53 17) (span (at 53 17) (at 68 22))) ∷ syntax.StatementItem (syntax.Defer (syntax.CompoundStatement (syntax.block (block_items (syntax.StatementItem (syntax.ExpressionStatement (syntax.an_expr (syntax.Call (syntax.Identifier (name (codes "puts") (at 78 25))) (syntax.exprs ((syntax.Text (codes "b") (at 83 27)) ∷ [])) (at 82 26))) (span (at 78 25) (at 87 29))) ∷ syntax.StatementItem (syntax.If syntax.no_declaration (syntax.Identifier (name (codes "c") (at 93 32))) (syntax.ExpressionStatement (syntax.an_expr (syntax.Call (syntax.Identifier (name (codes "puts") (at 96 34))) (syntax.exprs ((syntax.Text (codes "c") (at 101 36)) ∷ [])) (at 100 35))) (span (at 96 34) (at 105 38))) syntax.no_statement (span (at 89 30) (at 105 38))) ∷ [])) (span (at 76 24) (at 107 39))) (span (at 76 24) (at 107 39))) (at 70 23) (span (at 70 23) (at 107 39))) ∷ syntax.StatementItem (syntax.If syntax.no_declaration (syntax.Binary op.Greater (syntax.Identifier (name (codes "c") (at 113 42))) (syntax.Constant (pos 1) basic.Int (at 117 44)) (at 115 43)) (syntax.Return (syntax.an_expr (syntax.Identifier (name (codes "c") (at 127 47)))) (at 120 46) (span (at 120 46) (at 128 48))) syntax.no_statement (span (at 109 40) (at 128 48))) ∷ syntax.StatementItem (syntax.While (syntax.Step step.Decrement side.Postfix (syntax.Identifier (name (codes "c") (at 137 51))) (at 138 52)) (syntax.CompoundStatement (syntax.block (block_items (syntax.StatementItem (syntax.Defer (syntax.ExpressionStatement (syntax.an_expr (syntax.Call (syntax.Identifier (name (codes "puts") (at 150 56))) (syntax.exprs ((syntax.Text (codes "d") (at 155 58)) ∷ [])) (at 154 57))) (span (at 150 56) (at 159 60))) (at 144 55) (span (at 144 55) (at 159 60))) ∷ syntax.StatementItem (syntax.If syntax.no_declaration (syntax.Binary op.Equal (syntax.Identifier (name (codes "c") (at 165 63))) (syntax.Constant (pos 3) basic.Int (at 170 65)) (at 167 64)) (syntax.Continue (at 173 67) (span (at 173 67) (at 181 68))) syntax.no_statement (span (at 161 61) (at 181 68))) ∷ syntax.StatementItem (syntax.If syntax.no_declaration (syntax.Binary op.Equal (syntax.Identifier (name (codes "c") (at 187 71))) (syntax.Constant (pos 2) basic.Int (at 192 73)) (at 189 72)) (syntax.Break (at 195 75) (span (at 195 75) (at 200 76))) syntax.no_statement (span (at 183 69) (at 200 76))) ∷ [])) (span (at 142 54) (at 202 77))) (span (at 142 54) (at 202 77))) (span (at 130 49) (at 202 77))) ∷ [])) (span (at 51 16) (at 204 78))) (span (at 51 16) (at 204 78))) ∷ syntax.StatementItem (syntax.Return (syntax.an_expr (syntax.Constant (pos 0) basic.Int (at 213 80))) (at 206 79) (span (at 206 79) (at 214 81))) ∷ [])) (span (at 49 15) (at 216 82))) ∷ [])

-- constexpr int N = 4; static const int a[N] = { 1, [N - 1] = N }; static_assert(sizeof a == N * sizeof(int), "size"); int f(void) { constexpr auto k = N + 1; typeof(a[0]) t = k; bool b = t; return b ? k : a[t & 3]; }
abbrev pub accepted_statements_initializers_programs_74 : List syntax.External
accepted_statements_initializers_programs_74 = (syntax.ExternalDeclaration (syntax.SimpleDeclaration (specs (syntax.StorageSpec storage.Constexpr (at 1 0) ∷ syntax.TypeSpec type.Int (at 11 1) ∷ [])) (declared (syntax.init_declarator (syntax.Named [] (name (codes "N") (at 15 2)) (suffixes [])) (syntax.an_initializer (syntax.Single (syntax.Constant (pos 4) basic.Int (at 19 4)))) ∷ []))) ∷ syntax.ExternalDeclaration (syntax.SimpleDeclaration (specs (syntax.StorageSpec storage.Static (at 22 6) ∷ syntax.QualifierSpec (qualifier qual.Const (at 29 7)) ∷ syntax.TypeSpec type.Int (at 35 8) ∷ [])) (declared (syntax.init_declarator (syntax.Named [] (name (codes "a") (at 39 9)) (suffixes (syntax.ArraySuffix (syntax.an_expr (syntax.Identifier (name (codes "N") (at 41 11)))) (at 40 10) ∷ []))) (syntax.an_initializer (syntax.Braced (syntax.braces (items (syntax.item (designators []) (syntax.Single (syntax.Constant (pos 1) basic.Int (at 48 15))) ∷ syntax.item (designators (syntax.ElementDesignator (syntax.Binary op.Sub (syntax.Identifier (name (codes "N") (at 52 18))) (syntax.Constant (pos 1) basic.Int (at 56 20)) (at 54 19)) (at 51 17) ∷ [])) (syntax.Single (syntax.Identifier (name (codes "N") (at 61 23)))) ∷ [])) (at 46 14)))) ∷ []))) ∷ syntax.ExternalDeclaration (syntax.AssertDeclaration (syntax.asserted (syntax.Binary op.Equal (syntax.SizeofExpr (syntax.Identifier (name (codes "a") (at 87 29))) (at 80 28)) (syntax.Binary op.Mul (syntax.Identifier (name (codes "N") (at 92 31))) (syntax.SizeofType (syntax.type_name (specs (syntax.TypeSpec type.Int (at 103 35) ∷ [])) (syntax.Unnamed [] (suffixes []))) (at 96 33)) (at 94 32)) (at 89 30)) (Some (codes "size")) (at 66 26))) ∷ syntax.FunctionDefinition (specs (syntax.TypeSpec type.Int (at 118 41) ∷ [])) (syntax.Named [] (name (codes "f") (at 122 42)) (suffixes (syntax.FunctionSuffix (parameters (syntax.parameter (specs (syntax.TypeSpec type.Void (at 124 44) ∷ [])) (syntax.Unnamed [] (suffixes [])) (at 124 44) ∷ [])) false (at 123 43) ∷ []))) (syntax.block (block_items (syntax.DeclarationItem (syntax.SimpleDeclaration (specs (syntax.StorageSpec storage.Constexpr (at 132 47) ∷ syntax.StorageSpec storage.Auto (at 142 48) ∷ [])) (declared (syntax.init_declarator (syntax.Named [] (name (codes "k") (at 147 49)) (suffixes [])) (syntax.an_initializer (syntax.Single (syntax.Binary op.Add (syntax.Identifier (name (codes "N") (at 151 51))) (syntax.Constant (pos 1) basic.Int (at 155 53)) (at 153 52)))) ∷ []))) ∷ syntax.DeclarationItem (syntax.SimpleDeclaration (specs (syntax.TypeofExpr word.Typeof (syntax.Index (syntax.Identifier (name (codes "a") (at 165 57))) (syntax.Constant (pos 0) basic.Int (at 167 59)) (at 166 58)) (at 158 55) ∷ [])) (declared (syntax.init_declarator (syntax.Named [] (name (codes "t") (at 171 62)) (suffixes [])) (syntax.an_initializer (syntax.Single (syntax.Identifier (name (codes "k") (at 175 64))))) ∷ []))) ∷ syntax.DeclarationItem (syntax.SimpleDeclaration (specs (syntax.TypeSpec type.Bool (at 178 66) ∷ [])) (declared (syntax.init_declarator (syntax.Named [] (name (codes "b") (at 183 67)) (suffixes [])) (syntax.an_initializer (syntax.Single (syntax.Identifier (name (codes "t") (at 187 69))))) ∷ []))) ∷ syntax.StatementItem (syntax.Return (syntax.an_expr (syntax.Conditional (syntax.Identifier (name (codes "b") (at 197 72))) (syntax.Identifier (name (codes "k") (at 201 74))) (syntax.Index (syntax.Identifier (name (codes "a") (at 205 76))) (syntax.Binary op.BitAnd (syntax.Identifier (name (codes "t") (at 207 78))) (syntax.Constant (pos 3) basic.Int (at 211 80)) (at 209 79)) (at 206 77)) (at 199 73))) (at 190 71) (span (at 190 71) (at 213 82))) ∷ [])) (span (at 130 46) (at 215 83))) ∷ [])

-- typedef struct FILE FILE; extern FILE *stdout; int fputs(const char *, FILE *); int fclose(FILE * _Owner); FILE * _Owner _Opt fopen(const char *, const char *); int main(void) { FILE * _Owner _Opt f = fopen("a", "w"); if (f == nullptr) return 1; fputs("x", f); fputs("y", stdout); return fclose(f); }
abbrev pub accepted_statements_initializers_programs_75 : List syntax.External
accepted_statements_initializers_programs_75 = (syntax.ExternalDeclaration (syntax.SimpleDeclaration (specs (syntax.StorageSpec storage.Typedef (at 1 0) ∷ syntax.StructTag (name (codes "FILE") (at 16 2)) (at 9 1) ∷ [])) (declared (syntax.init_declarator (syntax.Named [] (name (codes "FILE") (at 21 3)) (suffixes [])) syntax.no_initializer ∷ []))) ∷ syntax.ExternalDeclaration (syntax.SimpleDeclaration (specs (syntax.StorageSpec storage.Extern (at 27 5) ∷ syntax.TypedefName (name (codes "FILE") (at 34 6)) ∷ [])) (declared (syntax.init_declarator (syntax.Named (pointer (at 39 7) [] ∷ []) (name (codes "stdout") (at 40 8)) (suffixes [])) syntax.no_initializer ∷ []))) ∷ syntax.ExternalDeclaration (syntax.SimpleDeclaration (specs (syntax.TypeSpec type.Int (at 48 10) ∷ [])) (declared (syntax.init_declarator (syntax.Named [] (name (codes "fputs") (at 52 11)) (suffixes (syntax.FunctionSuffix (parameters (syntax.parameter (specs (syntax.QualifierSpec (qualifier qual.Const (at 58 13)) ∷ syntax.TypeSpec type.Char (at 64 14) ∷ [])) (syntax.Unnamed (pointer (at 69 15) [] ∷ []) (suffixes [])) (at 58 13) ∷ syntax.parameter (specs (syntax.TypedefName (name (codes "FILE") (at 72 17)) ∷ [])) (syntax.Unnamed (pointer (at 77 18) [] ∷ []) (suffixes [])) (at 72 17) ∷ [])) false (at 57 12) ∷ []))) syntax.no_initializer ∷ []))) ∷ syntax.ExternalDeclaration (syntax.SimpleDeclaration (specs (syntax.TypeSpec type.Int (at 81 21) ∷ [])) (declared (syntax.init_declarator (syntax.Named [] (name (codes "fclose") (at 85 22)) (suffixes (syntax.FunctionSuffix (parameters (syntax.parameter (specs (syntax.TypedefName (name (codes "FILE") (at 92 24)) ∷ [])) (syntax.Unnamed (pointer (at 97 25) ((qualifier qual.Owner (at 99 26)) ∷ []) ∷ []) (suffixes [])) (at 92 24) ∷ [])) false (at 91 23) ∷ []))) syntax.no_initializer ∷ []))) ∷ syntax.ExternalDeclaration (syntax.SimpleDeclaration (specs (syntax.TypedefName (name (codes "FILE") (at 108 29)) ∷ [])) (declared (syntax.init_declarator (syntax.Named (pointer (at 113 30) ((qualifier qual.Owner (at 115 31)) ∷ (qualifier qual.Opt (at 122 32)) ∷ []) ∷ []) (name (codes "fopen") (at 127 33)) (suffixes (syntax.FunctionSuffix (parameters (syntax.parameter (specs (syntax.QualifierSpec (qualifier qual.Const (at 133 35)) ∷ syntax.TypeSpec type.Char (at 139 36) ∷ [])) (syntax.Unnamed (pointer (at 144 37) [] ∷ []) (suffixes [])) (at 133 35) ∷ syntax.parameter (specs (syntax.QualifierSpec (qualifier qual.Const (at 147 39)) ∷ syntax.TypeSpec type.Char (at 153 40) ∷ [])) (syntax.Unnamed (pointer (at 158 41) [] ∷ []) (suffixes [])) (at 147 39) ∷ [])) false (at 132 34) ∷ []))) syntax.no_initializer ∷ []))) ∷ syntax.FunctionDefinition (specs (syntax.TypeSpec type.Int (at 162 44) ∷ [])) (syntax.Named [] (name (codes "main") (at 166 45)) (suffixes (syntax.FunctionSuffix (parameters (syntax.parameter (specs (syntax.TypeSpec type.Void (at 171 47) ∷ [])) (syntax.Unnamed [] (suffixes [])) (at 171 47) ∷ [])) false (at 170 46) ∷ []))) (syntax.block (block_items (syntax.DeclarationItem (syntax.SimpleDeclaration (specs (syntax.TypedefName (name (codes "FILE") (at 179 50)) ∷ [])) (declared (syntax.init_declarator (syntax.Named (pointer (at 184 51) ((qualifier qual.Owner (at 186 52)) ∷ (qualifier qual.Opt (at 193 53)) ∷ []) ∷ []) (name (codes "f") (at 198 54)) (suffixes [])) (syntax.an_initializer (syntax.Single (syntax.Call (syntax.Identifier (name (codes "fopen") (at 202 56))) (syntax.exprs ((syntax.Text (codes "a") (at 208 58)) ∷ (syntax.Text (codes "w") (at 213 60)) ∷ [])) (at 207 57)))) ∷ []))) ∷ syntax.StatementItem (syntax.If syntax.no_declaration (syntax.Binary op.Equal (syntax.Identifier (name (codes "f") (at 223 65))) (syntax.Nullptr (at 228 67)) (at 225 66)) (syntax.Return (syntax.an_expr (syntax.Constant (pos 1) basic.Int (at 244 70))) (at 237 69) (span (at 237 69) (at 245 71))) syntax.no_statement (span (at 219 63) (at 245 71))) ∷ syntax.StatementItem (syntax.ExpressionStatement (syntax.an_expr (syntax.Call (syntax.Identifier (name (codes "fputs") (at 247 72))) (syntax.exprs ((syntax.Text (codes "x") (at 253 74)) ∷ (syntax.Identifier (name (codes "f") (at 258 76))) ∷ [])) (at 252 73))) (span (at 247 72) (at 260 78))) ∷ syntax.StatementItem (syntax.ExpressionStatement (syntax.an_expr (syntax.Call (syntax.Identifier (name (codes "fputs") (at 262 79))) (syntax.exprs ((syntax.Text (codes "y") (at 268 81)) ∷ (syntax.Identifier (name (codes "stdout") (at 273 83))) ∷ [])) (at 267 80))) (span (at 262 79) (at 280 85))) ∷ syntax.StatementItem (syntax.Return (syntax.an_expr (syntax.Call (syntax.Identifier (name (codes "fclose") (at 289 87))) (syntax.exprs ((syntax.Identifier (name (codes "f") (at 296 89))) ∷ [])) (at 295 88))) (at 282 86) (span (at 282 86) (at 298 91))) ∷ [])) (span (at 177 49) (at 300 92))) ∷ [])

-- int (*choose(int c))(int) { if (c) return (int (int x)) { return x + 1; }; return (int (int x)) { return x - 1; }; } int main(void) { return choose(1)(2) + choose(0)(2); }
abbrev pub accepted_statements_initializers_programs_76 : List syntax.External
accepted_statements_initializers_programs_76 = (syntax.FunctionDefinition (specs (syntax.TypeSpec type.Int (at 1 0) ∷ [])) (syntax.Grouped [] (syntax.Named (pointer (at 6 2) [] ∷ []) (name (codes "choose") (at 7 3)) (suffixes (syntax.FunctionSuffix (parameters (syntax.parameter (specs (syntax.TypeSpec type.Int (at 14 5) ∷ [])) (syntax.Named [] (name (codes "c") (at 18 6)) (suffixes [])) (at 14 5) ∷ [])) false (at 13 4) ∷ []))) (suffixes (syntax.FunctionSuffix (parameters (syntax.parameter (specs (syntax.TypeSpec type.Int (at 22 10) ∷ [])) (syntax.Unnamed [] (suffixes [])) (at 22 10) ∷ [])) false (at 21 9) ∷ [])) (at 5 1)) (syntax.block (block_items (syntax.StatementItem (syntax.If syntax.no_declaration (syntax.Identifier (name (codes "c") (at 33 15))) (syntax.Return (syntax.an_expr (syntax.FunctionLiteral (syntax.type_name (specs (syntax.TypeSpec type.Int (at 44 19) ∷ [])) (syntax.Unnamed [] (suffixes (syntax.FunctionSuffix (parameters (syntax.parameter (specs (syntax.TypeSpec type.Int (at 49 21) ∷ [])) (syntax.Named [] (name (codes "x") (at 53 22)) (suffixes [])) (at 49 21) ∷ [])) false (at 48 20) ∷ [])))) (syntax.block (block_items (syntax.StatementItem (syntax.Return (syntax.an_expr (syntax.Binary op.Add (syntax.Identifier (name (codes "x") (at 66 27))) (syntax.Constant (pos 1) basic.Int (at 70 29)) (at 68 28))) (at 59 26) (span (at 59 26) (at 71 30))) ∷ [])) (span (at 57 25) (at 73 31))) (at 43 18))) (at 36 17) (span (at 36 17) (at 74 32))) syntax.no_statement (span (at 29 13) (at 74 32))) ∷ syntax.StatementItem (syntax.Return (syntax.an_expr (syntax.FunctionLiteral (syntax.type_name (specs (syntax.TypeSpec type.Int (at 84 35) ∷ [])) (syntax.Unnamed [] (suffixes (syntax.FunctionSuffix (parameters (syntax.parameter (specs (syntax.TypeSpec type.Int (at 89 37) ∷ [])) (syntax.Named [] (name (codes "x") (at 93 38)) (suffixes [])) (at 89 37) ∷ [])) false (at 88 36) ∷ [])))) (syntax.block (block_items (syntax.StatementItem (syntax.Return (syntax.an_expr (syntax.Binary op.Sub (syntax.Identifier (name (codes "x") (at 106 43))) (syntax.Constant (pos 1) basic.Int (at 110 45)) (at 108 44))) (at 99 42) (span (at 99 42) (at 111 46))) ∷ [])) (span (at 97 41) (at 113 47))) (at 83 34))) (at 76 33) (span (at 76 33) (at 114 48))) ∷ [])) (span (at 27 12) (at 116 49))) ∷ syntax.FunctionDefinition (specs (syntax.TypeSpec type.Int (at 118 50) ∷ [])) (syntax.Named [] (name (codes "main") (at 122 51)) (suffixes (syntax.FunctionSuffix (parameters (syntax.parameter (specs (syntax.TypeSpec type.Void (at 127 53) ∷ [])) (syntax.Unnamed [] (suffixes [])) (at 127 53) ∷ [])) false (at 126 52) ∷ []))) (syntax.block (block_items (syntax.StatementItem (syntax.Return (syntax.an_expr (syntax.Binary op.Add (syntax.Call (syntax.Call (syntax.Identifier (name (codes "choose") (at 142 57))) (syntax.exprs ((syntax.Constant (pos 1) basic.Int (at 149 59)) ∷ [])) (at 148 58)) (syntax.exprs ((syntax.Constant (pos 2) basic.Int (at 152 62)) ∷ [])) (at 151 61)) (syntax.Call (syntax.Call (syntax.Identifier (name (codes "choose") (at 157 65))) (syntax.exprs ((syntax.Constant (pos 0) basic.Int (at 164 67)) ∷ [])) (at 163 66)) (syntax.exprs ((syntax.Constant (pos 2) basic.Int (at 167 70)) ∷ [])) (at 166 69)) (at 155 64))) (at 135 56) (span (at 135 56) (at 169 72))) ∷ [])) (span (at 133 55) (at 171 73))) ∷ [])

-- int f(int a, int b) { int *p = &a, **q = &p; **q += b; p[0]++; --*p; return *p == a && !(a != b) || (a, b); }
abbrev pub accepted_statements_initializers_programs_77 : List syntax.External
accepted_statements_initializers_programs_77 = (syntax.FunctionDefinition (specs (syntax.TypeSpec type.Int (at 1 0) ∷ [])) (syntax.Named [] (name (codes "f") (at 5 1)) (suffixes (syntax.FunctionSuffix (parameters (syntax.parameter (specs (syntax.TypeSpec type.Int (at 7 3) ∷ [])) (syntax.Named [] (name (codes "a") (at 11 4)) (suffixes [])) (at 7 3) ∷ syntax.parameter (specs (syntax.TypeSpec type.Int (at 14 6) ∷ [])) (syntax.Named [] (name (codes "b") (at 18 7)) (suffixes [])) (at 14 6) ∷ [])) false (at 6 2) ∷ []))) (syntax.block (block_items (syntax.DeclarationItem (syntax.SimpleDeclaration (specs (syntax.TypeSpec type.Int (at 23 10) ∷ [])) (declared (syntax.init_declarator (syntax.Named (pointer (at 27 11) [] ∷ []) (name (codes "p") (at 28 12)) (suffixes [])) (syntax.an_initializer (syntax.Single (syntax.Unary prefix.Address (syntax.Identifier (name (codes "a") (at 33 15))) (at 32 14)))) ∷ syntax.init_declarator (syntax.Named (pointer (at 36 17) [] ∷ pointer (at 37 18) [] ∷ []) (name (codes "q") (at 38 19)) (suffixes [])) (syntax.an_initializer (syntax.Single (syntax.Unary prefix.Address (syntax.Identifier (name (codes "p") (at 43 22))) (at 42 21)))) ∷ []))) ∷ syntax.StatementItem (syntax.ExpressionStatement (syntax.an_expr (syntax.AssignBy op.Add (syntax.Unary prefix.Indirection (syntax.Unary prefix.Indirection (syntax.Identifier (name (codes "q") (at 48 26))) (at 47 25)) (at 46 24)) (syntax.Identifier (name (codes "b") (at 53 28))) (at 50 27))) (span (at 46 24) (at 54 29))) ∷ syntax.StatementItem (syntax.ExpressionStatement (syntax.an_expr (syntax.Step step.Increment side.Postfix (syntax.Index (syntax.Identifier (name (codes "p") (at 56 30))) (syntax.Constant (pos 0) basic.Int (at 58 32)) (at 57 31)) (at 60 34))) (span (at 56 30) (at 62 35))) ∷ syntax.StatementItem (syntax.ExpressionStatement (syntax.an_expr (syntax.Step step.Decrement side.Prefix (syntax.Unary prefix.Indirection (syntax.Identifier (name (codes "p") (at 67 38))) (at 66 37)) (at 64 36))) (span (at 64 36) (at 68 39))) ∷ syntax.StatementItem (syntax.Return (syntax.an_expr (syntax.Logic logic.Or (syntax.Logic logic.And (syntax.Binary op.Equal (syntax.Unary prefix.Indirection (syntax.Identifier (name (codes "p") (at 78 42))) (at 77 41)) (syntax.Identifier (name (codes "a") (at 83 44))) (at 80 43)) (syntax.Unary prefix.Not (syntax.Parenthesized (syntax.Binary op.NotEqual (syntax.Identifier (name (codes "a") (at 90 48))) (syntax.Identifier (name (codes "b") (at 95 50))) (at 92 49)) (at 89 47)) (at 88 46)) (at 85 45)) (syntax.Parenthesized (syntax.Comma (syntax.Identifier (name (codes "a") (at 102 54))) (syntax.Identifier (name (codes "b") (at 105 56))) (at 103 55)) (at 101 53)) (at 98 52))) (at 70 40) (span (at 70 40) (at 107 58))) ∷ [])) (span (at 21 9) (at 109 59))) ∷ [])

-- struct big { int v[100]; }; struct big make(int n) { struct big b = {}; b.v[n] = n; return b; } int get(int n) { return make(n).v[n] + ((struct big){ .v[2] = 7 }).v[2]; }
abbrev pub accepted_statements_initializers_programs_78 : List syntax.External
accepted_statements_initializers_programs_78 = (syntax.ExternalDeclaration (syntax.SimpleDeclaration (specs (syntax.Struct (Some (name (codes "big") (at 8 1))) (members (syntax.MemberDeclarators (specs (syntax.TypeSpec type.Int (at 14 3) ∷ [])) (syntax.declarators ((syntax.Named [] (name (codes "v") (at 18 4)) (suffixes (syntax.ArraySuffix (syntax.an_expr (syntax.Constant (pos 100) basic.Int (at 20 6))) (at 19 5) ∷ []))) ∷ [])) ∷ [])) (at 1 0) ∷ [])) (declared [])) ∷ syntax.FunctionDefinition (specs (syntax.StructTag (name (codes "big") (at 36 12)) (at 29 11) ∷ [])) (syntax.Named [] (name (codes "make") (at 40 13)) (suffixes (syntax.FunctionSuffix (parameters (syntax.parameter (specs (syntax.TypeSpec type.Int (at 45 15) ∷ [])) (syntax.Named [] (name (codes "n") (at 49 16)) (suffixes [])) (at 45 15) ∷ [])) false (at 44 14) ∷ []))) (syntax.block (block_items (syntax.DeclarationItem (syntax.SimpleDeclaration (specs (syntax.StructTag (name (codes "big") (at 61 20)) (at 54 19) ∷ [])) (declared (syntax.init_declarator (syntax.Named [] (name (codes "b") (at 65 21)) (suffixes [])) (syntax.an_initializer (syntax.Braced (syntax.braces (items []) (at 69 23)))) ∷ []))) ∷ syntax.StatementItem (syntax.ExpressionStatement (syntax.an_expr (syntax.Assign (syntax.Index (syntax.Member (syntax.Identifier (name (codes "b") (at 73 26))) (name (codes "v") (at 75 28)) (at 74 27)) (syntax.Identifier (name (codes "n") (at 77 30))) (at 76 29)) (syntax.Identifier (name (codes "n") (at 82 33))) (at 80 32))) (span (at 73 26) (at 83 34))) ∷ syntax.StatementItem (syntax.Return (syntax.an_expr (syntax.Identifier (name (codes "b") (at 92 36)))) (at 85 35) (span (at 85 35) (at 93 37))) ∷ [])) (span (at 52 18) (at 95 38))) ∷ syntax.FunctionDefinition (specs (syntax.TypeSpec type.Int (at 97 39) ∷ [])) (syntax.Named [] (name (codes "get") (at 101 40)) (suffixes (syntax.FunctionSuffix (parameters (syntax.parameter (specs (syntax.TypeSpec type.Int (at 105 42) ∷ [])) (syntax.Named [] (name (codes "n") (at 109 43)) (suffixes [])) (at 105 42) ∷ [])) false (at 104 41) ∷ []))) (syntax.block (block_items (syntax.StatementItem (syntax.Return (syntax.an_expr (syntax.Binary op.Add (syntax.Index (syntax.Member (syntax.Call (syntax.Identifier (name (codes "make") (at 121 47))) (syntax.exprs ((syntax.Identifier (name (codes "n") (at 126 49))) ∷ [])) (at 125 48)) (name (codes "v") (at 129 52)) (at 128 51)) (syntax.Identifier (name (codes "n") (at 131 54))) (at 130 53)) (syntax.Index (syntax.Member (syntax.Parenthesized (syntax.CompoundLiteral (syntax.type_name (specs (syntax.StructTag (name (codes "big") (at 145 60)) (at 138 59) ∷ [])) (syntax.Unnamed [] (suffixes []))) (syntax.braces (items (syntax.item (designators (syntax.MemberDesignator (name (codes "v") (at 152 64)) (at 151 63) ∷ syntax.ElementDesignator (syntax.Constant (pos 2) basic.Int (at 154 66)) (at 153 65) ∷ [])) (syntax.Single (syntax.Constant (pos 7) basic.Int (at 159 69))) ∷ [])) (at 149 62)) (at 137 58)) (at 136 57)) (name (codes "v") (at 164 73)) (at 163 72)) (syntax.Constant (pos 2) basic.Int (at 166 75)) (at 165 74)) (at 134 56))) (at 114 46) (span (at 114 46) (at 168 77))) ∷ [])) (span (at 112 45) (at 170 78))) ∷ [])

-- void swap(void **a, void **b) { void *t = *a; *a = *b; *b = t; } int cmp(const void *a, const void *b) { const int *x = a, *y = b; return (*x > *y) - (*x < *y); } void sort(void *base, unsigned long n, unsigned long size, int (*compare)(const void *, const void *)); void g(void) { int v[] = { 3, 1, 2 }; sort(v, sizeof v / sizeof v[0], sizeof v[0], cmp); sort(v, 3, 4, &cmp); }
abbrev pub accepted_statements_initializers_programs_79 : List syntax.External
accepted_statements_initializers_programs_79 = (syntax.FunctionDefinition (specs (syntax.TypeSpec type.Void (at 1 0) ∷ [])) (syntax.Named [] (name (codes "swap") (at 6 1)) (suffixes (syntax.FunctionSuffix (parameters (syntax.parameter (specs (syntax.TypeSpec type.Void (at 11 3) ∷ [])) (syntax.Named (pointer (at 16 4) [] ∷ pointer (at 17 5) [] ∷ []) (name (codes "a") (at 18 6)) (suffixes [])) (at 11 3) ∷ syntax.parameter (specs (syntax.TypeSpec type.Void (at 21 8) ∷ [])) (syntax.Named (pointer (at 26 9) [] ∷ pointer (at 27 10) [] ∷ []) (name (codes "b") (at 28 11)) (suffixes [])) (at 21 8) ∷ [])) false (at 10 2) ∷ []))) (syntax.block (block_items (syntax.DeclarationItem (syntax.SimpleDeclaration (specs (syntax.TypeSpec type.Void (at 33 14) ∷ [])) (declared (syntax.init_declarator (syntax.Named (pointer (at 38 15) [] ∷ []) (name (codes "t") (at 39 16)) (suffixes [])) (syntax.an_initializer (syntax.Single (syntax.Unary prefix.Indirection (syntax.Identifier (name (codes "a") (at 44 19))) (at 43 18)))) ∷ []))) ∷ syntax.StatementItem (syntax.ExpressionStatement (syntax.an_expr (syntax.Assign (syntax.Unary prefix.Indirection (syntax.Identifier (name (codes "a") (at 48 22))) (at 47 21)) (syntax.Unary prefix.Indirection (syntax.Identifier (name (codes "b") (at 53 25))) (at 52 24)) (at 50 23))) (span (at 47 21) (at 54 26))) ∷ syntax.StatementItem (syntax.ExpressionStatement (syntax.an_expr (syntax.Assign (syntax.Unary prefix.Indirection (syntax.Identifier (name (codes "b") (at 57 28))) (at 56 27)) (syntax.Identifier (name (codes "t") (at 61 30))) (at 59 29))) (span (at 56 27) (at 62 31))) ∷ [])) (span (at 31 13) (at 64 32))) ∷ syntax.FunctionDefinition (specs (syntax.TypeSpec type.Int (at 66 33) ∷ [])) (syntax.Named [] (name (codes "cmp") (at 70 34)) (suffixes (syntax.FunctionSuffix (parameters (syntax.parameter (specs (syntax.QualifierSpec (qualifier qual.Const (at 74 36)) ∷ syntax.TypeSpec type.Void (at 80 37) ∷ [])) (syntax.Named (pointer (at 85 38) [] ∷ []) (name (codes "a") (at 86 39)) (suffixes [])) (at 74 36) ∷ syntax.parameter (specs (syntax.QualifierSpec (qualifier qual.Const (at 89 41)) ∷ syntax.TypeSpec type.Void (at 95 42) ∷ [])) (syntax.Named (pointer (at 100 43) [] ∷ []) (name (codes "b") (at 101 44)) (suffixes [])) (at 89 41) ∷ [])) false (at 73 35) ∷ []))) (syntax.block (block_items (syntax.DeclarationItem (syntax.SimpleDeclaration (specs (syntax.QualifierSpec (qualifier qual.Const (at 106 47)) ∷ syntax.TypeSpec type.Int (at 112 48) ∷ [])) (declared (syntax.init_declarator (syntax.Named (pointer (at 116 49) [] ∷ []) (name (codes "x") (at 117 50)) (suffixes [])) (syntax.an_initializer (syntax.Single (syntax.Identifier (name (codes "a") (at 121 52))))) ∷ syntax.init_declarator (syntax.Named (pointer (at 124 54) [] ∷ []) (name (codes "y") (at 125 55)) (suffixes [])) (syntax.an_initializer (syntax.Single (syntax.Identifier (name (codes "b") (at 129 57))))) ∷ []))) ∷ syntax.StatementItem (syntax.Return (syntax.an_expr (syntax.Binary op.Sub (syntax.Parenthesized (syntax.Binary op.Greater (syntax.Unary prefix.Indirection (syntax.Identifier (name (codes "x") (at 141 62))) (at 140 61)) (syntax.Unary prefix.Indirection (syntax.Identifier (name (codes "y") (at 146 65))) (at 145 64)) (at 143 63)) (at 139 60)) (syntax.Parenthesized (syntax.Binary op.Less (syntax.Unary prefix.Indirection (syntax.Identifier (name (codes "x") (at 153 70))) (at 152 69)) (syntax.Unary prefix.Indirection (syntax.Identifier (name (codes "y") (at 158 73))) (at 157 72)) (at 155 71)) (at 151 68)) (at 149 67))) (at 132 59) (span (at 132 59) (at 160 75))) ∷ [])) (span (at 104 46) (at 162 76))) ∷ syntax.ExternalDeclaration (syntax.SimpleDeclaration (specs (syntax.TypeSpec type.Void (at 164 77) ∷ [])) (declared (syntax.init_declarator (syntax.Named [] (name (codes "sort") (at 169 78)) (suffixes (syntax.FunctionSuffix (parameters (syntax.parameter (specs (syntax.TypeSpec type.Void (at 174 80) ∷ [])) (syntax.Named (pointer (at 179 81) [] ∷ []) (name (codes "base") (at 180 82)) (suffixes [])) (at 174 80) ∷ syntax.parameter (specs (syntax.TypeSpec type.Unsigned (at 186 84) ∷ syntax.TypeSpec type.Long (at 195 85) ∷ [])) (syntax.Named [] (name (codes "n") (at 200 86)) (suffixes [])) (at 186 84) ∷ syntax.parameter (specs (syntax.TypeSpec type.Unsigned (at 203 88) ∷ syntax.TypeSpec type.Long (at 212 89) ∷ [])) (syntax.Named [] (name (codes "size") (at 217 90)) (suffixes [])) (at 203 88) ∷ syntax.parameter (specs (syntax.TypeSpec type.Int (at 223 92) ∷ [])) (syntax.Grouped [] (syntax.Named (pointer (at 228 94) [] ∷ []) (name (codes "compare") (at 229 95)) (suffixes [])) (suffixes (syntax.FunctionSuffix (parameters (syntax.parameter (specs (syntax.QualifierSpec (qualifier qual.Const (at 238 98)) ∷ syntax.TypeSpec type.Void (at 244 99) ∷ [])) (syntax.Unnamed (pointer (at 249 100) [] ∷ []) (suffixes [])) (at 238 98) ∷ syntax.parameter (specs (syntax.QualifierSpec (qualifier qual.Const (at 252 102)) ∷ syntax.TypeSpec type.Void (at 258 103) ∷ [])) (syntax.Unnamed (pointer (at 263 104) [] ∷ []) (suffixes [])) (at 252 102) ∷ [])) false (at 237 97) ∷ [])) (at 227 93)) (at 223 92) ∷ [])) false (at 173 79) ∷ []))) syntax.no_initializer ∷ []))) ∷ syntax.FunctionDefinition (specs (syntax.TypeSpec type.Void (at 268 108) ∷ [])) (syntax.Named [] (name (codes "g") (at 273 109)) (suffixes (syntax.FunctionSuffix (parameters (syntax.parameter (specs (syntax.TypeSpec type.Void (at 275 111) ∷ [])) (syntax.Unnamed [] (suffixes [])) (at 275 111) ∷ [])) false (at 274 110) ∷ []))) (syntax.block (block_items (syntax.DeclarationItem (syntax.SimpleDeclaration (specs (syntax.TypeSpec type.Int (at 283 114) ∷ [])) (declared (syntax.init_declarator (syntax.Named [] (name (codes "v") (at 287 115)) (suffixes (syntax.ArraySuffix syntax.no_expr (at 288 116) ∷ []))) (syntax.an_initializer (syntax.Braced (syntax.braces (items (syntax.item (designators []) (syntax.Single (syntax.Constant (pos 3) basic.Int (at 295 120))) ∷ syntax.item (designators []) (syntax.Single (syntax.Constant (pos 1) basic.Int (at 298 122))) ∷ syntax.item (designators []) (syntax.Single (syntax.Constant (pos 2) basic.Int (at 301 124))) ∷ [])) (at 293 119)))) ∷ []))) ∷ syntax.StatementItem (syntax.ExpressionStatement (syntax.an_expr (syntax.Call (syntax.Identifier (name (codes "sort") (at 306 127))) (syntax.exprs ((syntax.Identifier (name (codes "v") (at 311 129))) ∷ (syntax.Binary op.Div (syntax.SizeofExpr (syntax.Identifier (name (codes "v") (at 321 132))) (at 314 131)) (syntax.SizeofExpr (syntax.Index (syntax.Identifier (name (codes "v") (at 332 135))) (syntax.Constant (pos 0) basic.Int (at 334 137)) (at 333 136)) (at 325 134)) (at 323 133)) ∷ (syntax.SizeofExpr (syntax.Index (syntax.Identifier (name (codes "v") (at 345 141))) (syntax.Constant (pos 0) basic.Int (at 347 143)) (at 346 142)) (at 338 140)) ∷ (syntax.Identifier (name (codes "cmp") (at 351 146))) ∷ [])) (at 310 128))) (span (at 306 127) (at 355 148))) ∷ syntax.StatementItem (syntax.ExpressionStatement (syntax.an_expr (syntax.Call (syntax.Identifier (name (codes "sort") (at 357 149))) (syntax.exprs ((syntax.Identifier (name (codes "v") (at 362 151))) ∷ (syntax.Constant (pos 3) basic.Int (at 365 153)) ∷ (syntax.Constant (pos 4) basic.Int (at 368 155)) ∷ (syntax.Unary prefix.Address (syntax.Identifier (name (codes "cmp") (at 372 158))) (at 371 157)) ∷ [])) (at 361 150))) (span (at 357 149) (at 376 160))) ∷ [])) (span (at 281 113) (at 378 161))) ∷ [])

-- int a[2] = { 1, 2 }; struct s { int a; } x = { 1 };
abbrev pub accepted_statements_initializers_programs_80 : List syntax.External
accepted_statements_initializers_programs_80 = (syntax.ExternalDeclaration (syntax.SimpleDeclaration (specs (syntax.TypeSpec type.Int (at 1 0) ∷ [])) (declared (syntax.init_declarator (syntax.Named [] (name (codes "a") (at 5 1)) (suffixes (syntax.ArraySuffix (syntax.an_expr (syntax.Constant (pos 2) basic.Int (at 7 3))) (at 6 2) ∷ []))) (syntax.an_initializer (syntax.Braced (syntax.braces (items (syntax.item (designators []) (syntax.Single (syntax.Constant (pos 1) basic.Int (at 14 7))) ∷ syntax.item (designators []) (syntax.Single (syntax.Constant (pos 2) basic.Int (at 17 9))) ∷ [])) (at 12 6)))) ∷ []))) ∷ syntax.ExternalDeclaration (syntax.SimpleDeclaration (specs (syntax.Struct (Some (name (codes "s") (at 29 13))) (members (syntax.MemberDeclarators (specs (syntax.TypeSpec type.Int (at 33 15) ∷ [])) (syntax.declarators ((syntax.Named [] (name (codes "a") (at 37 16)) (suffixes [])) ∷ [])) ∷ [])) (at 22 12) ∷ [])) (declared (syntax.init_declarator (syntax.Named [] (name (codes "x") (at 42 19)) (suffixes [])) (syntax.an_initializer (syntax.Braced (syntax.braces (items (syntax.item (designators []) (syntax.Single (syntax.Constant (pos 1) basic.Int (at 48 22))) ∷ [])) (at 46 21)))) ∷ []))) ∷ [])

-- struct s { int a; } x = { .a = 1 }; int a[2] = { [1] = 1 };
abbrev pub accepted_statements_initializers_programs_81 : List syntax.External
accepted_statements_initializers_programs_81 = (syntax.ExternalDeclaration (syntax.SimpleDeclaration (specs (syntax.Struct (Some (name (codes "s") (at 8 1))) (members (syntax.MemberDeclarators (specs (syntax.TypeSpec type.Int (at 12 3) ∷ [])) (syntax.declarators ((syntax.Named [] (name (codes "a") (at 16 4)) (suffixes [])) ∷ [])) ∷ [])) (at 1 0) ∷ [])) (declared (syntax.init_declarator (syntax.Named [] (name (codes "x") (at 21 7)) (suffixes [])) (syntax.an_initializer (syntax.Braced (syntax.braces (items (syntax.item (designators (syntax.MemberDesignator (name (codes "a") (at 28 11)) (at 27 10) ∷ [])) (syntax.Single (syntax.Constant (pos 1) basic.Int (at 32 13))) ∷ [])) (at 25 9)))) ∷ []))) ∷ syntax.ExternalDeclaration (syntax.SimpleDeclaration (specs (syntax.TypeSpec type.Int (at 37 16) ∷ [])) (declared (syntax.init_declarator (syntax.Named [] (name (codes "a") (at 41 17)) (suffixes (syntax.ArraySuffix (syntax.an_expr (syntax.Constant (pos 2) basic.Int (at 43 19))) (at 42 18) ∷ []))) (syntax.an_initializer (syntax.Braced (syntax.braces (items (syntax.item (designators (syntax.ElementDesignator (syntax.Constant (pos 1) basic.Int (at 51 24)) (at 50 23) ∷ [])) (syntax.Single (syntax.Constant (pos 1) basic.Int (at 56 27))) ∷ [])) (at 48 22)))) ∷ []))) ∷ [])

-- void g(int x) { switch (x) { case 1: ; default: ; } }
abbrev pub accepted_statements_initializers_programs_82 : List syntax.External
accepted_statements_initializers_programs_82 = (syntax.FunctionDefinition (specs (syntax.TypeSpec type.Void (at 1 0) ∷ [])) (syntax.Named [] (name (codes "g") (at 6 1)) (suffixes (syntax.FunctionSuffix (parameters (syntax.parameter (specs (syntax.TypeSpec type.Int (at 8 3) ∷ [])) (syntax.Named [] (name (codes "x") (at 12 4)) (suffixes [])) (at 8 3) ∷ [])) false (at 7 2) ∷ []))) (syntax.block (block_items (syntax.StatementItem (syntax.Switch (syntax.Identifier (name (codes "x") (at 25 9))) (syntax.CompoundStatement (syntax.block (block_items (syntax.CaseLabel (syntax.Constant (pos 1) basic.Int (at 35 13)) (at 30 12) ∷ syntax.StatementItem (syntax.ExpressionStatement syntax.no_expr (span (at 38 15) (at 38 15))) ∷ syntax.DefaultLabel (at 40 16) ∷ syntax.StatementItem (syntax.ExpressionStatement syntax.no_expr (span (at 49 18) (at 49 18))) ∷ [])) (span (at 28 11) (at 51 19))) (span (at 28 11) (at 51 19))) (span (at 17 7) (at 51 19))) ∷ [])) (span (at 15 6) (at 53 20))) ∷ [])

-- void g(int x) { switch (x) { case 1: ; case 2: ; } }
abbrev pub accepted_statements_initializers_programs_83 : List syntax.External
accepted_statements_initializers_programs_83 = (syntax.FunctionDefinition (specs (syntax.TypeSpec type.Void (at 1 0) ∷ [])) (syntax.Named [] (name (codes "g") (at 6 1)) (suffixes (syntax.FunctionSuffix (parameters (syntax.parameter (specs (syntax.TypeSpec type.Int (at 8 3) ∷ [])) (syntax.Named [] (name (codes "x") (at 12 4)) (suffixes [])) (at 8 3) ∷ [])) false (at 7 2) ∷ []))) (syntax.block (block_items (syntax.StatementItem (syntax.Switch (syntax.Identifier (name (codes "x") (at 25 9))) (syntax.CompoundStatement (syntax.block (block_items (syntax.CaseLabel (syntax.Constant (pos 1) basic.Int (at 35 13)) (at 30 12) ∷ syntax.StatementItem (syntax.ExpressionStatement syntax.no_expr (span (at 38 15) (at 38 15))) ∷ syntax.CaseLabel (syntax.Constant (pos 2) basic.Int (at 45 17)) (at 40 16) ∷ syntax.StatementItem (syntax.ExpressionStatement syntax.no_expr (span (at 48 19) (at 48 19))) ∷ [])) (span (at 28 11) (at 50 20))) (span (at 28 11) (at 50 20))) (span (at 17 7) (at 50 20))) ∷ [])) (span (at 15 6) (at 52 21))) ∷ [])

-- void g(int x) { switch (x) { case 1: break; } while (x) continue; }
abbrev pub accepted_statements_initializers_programs_84 : List syntax.External
accepted_statements_initializers_programs_84 = (syntax.FunctionDefinition (specs (syntax.TypeSpec type.Void (at 1 0) ∷ [])) (syntax.Named [] (name (codes "g") (at 6 1)) (suffixes (syntax.FunctionSuffix (parameters (syntax.parameter (specs (syntax.TypeSpec type.Int (at 8 3) ∷ [])) (syntax.Named [] (name (codes "x") (at 12 4)) (suffixes [])) (at 8 3) ∷ [])) false (at 7 2) ∷ []))) (syntax.block (block_items (syntax.StatementItem (syntax.Switch (syntax.Identifier (name (codes "x") (at 25 9))) (syntax.CompoundStatement (syntax.block (block_items (syntax.CaseLabel (syntax.Constant (pos 1) basic.Int (at 35 13)) (at 30 12) ∷ syntax.StatementItem (syntax.Break (at 38 15) (span (at 38 15) (at 43 16))) ∷ [])) (span (at 28 11) (at 45 17))) (span (at 28 11) (at 45 17))) (span (at 17 7) (at 45 17))) ∷ syntax.StatementItem (syntax.While (syntax.Identifier (name (codes "x") (at 54 20))) (syntax.Continue (at 57 22) (span (at 57 22) (at 65 23))) (span (at 47 18) (at 65 23))) ∷ [])) (span (at 15 6) (at 67 24))) ∷ [])

-- static_assert(1, "yes"); static_assert(sizeof(int) == 4);
abbrev pub accepted_statements_initializers_programs_85 : List syntax.External
accepted_statements_initializers_programs_85 = (syntax.ExternalDeclaration (syntax.AssertDeclaration (syntax.asserted (syntax.Constant (pos 1) basic.Int (at 15 2)) (Some (codes "yes")) (at 1 0))) ∷ syntax.ExternalDeclaration (syntax.AssertDeclaration (syntax.asserted (syntax.Binary op.Equal (syntax.SizeofType (syntax.type_name (specs (syntax.TypeSpec type.Int (at 47 11) ∷ [])) (syntax.Unnamed [] (suffixes []))) (at 40 9)) (syntax.Constant (pos 4) basic.Int (at 55 14)) (at 52 13)) None (at 26 7))) ∷ [])

-- static int f(void); int g(void) { return f(); } static int f(void) { return 1; }
abbrev pub accepted_statements_initializers_programs_86 : List syntax.External
accepted_statements_initializers_programs_86 = (syntax.ExternalDeclaration (syntax.SimpleDeclaration (specs (syntax.StorageSpec storage.Static (at 1 0) ∷ syntax.TypeSpec type.Int (at 8 1) ∷ [])) (declared (syntax.init_declarator (syntax.Named [] (name (codes "f") (at 12 2)) (suffixes (syntax.FunctionSuffix (parameters (syntax.parameter (specs (syntax.TypeSpec type.Void (at 14 4) ∷ [])) (syntax.Unnamed [] (suffixes [])) (at 14 4) ∷ [])) false (at 13 3) ∷ []))) syntax.no_initializer ∷ []))) ∷ syntax.FunctionDefinition (specs (syntax.TypeSpec type.Int (at 21 7) ∷ [])) (syntax.Named [] (name (codes "g") (at 25 8)) (suffixes (syntax.FunctionSuffix (parameters (syntax.parameter (specs (syntax.TypeSpec type.Void (at 27 10) ∷ [])) (syntax.Unnamed [] (suffixes [])) (at 27 10) ∷ [])) false (at 26 9) ∷ []))) (syntax.block (block_items (syntax.StatementItem (syntax.Return (syntax.an_expr (syntax.Call (syntax.Identifier (name (codes "f") (at 42 14))) (syntax.exprs []) (at 43 15))) (at 35 13) (span (at 35 13) (at 45 17))) ∷ [])) (span (at 33 12) (at 47 18))) ∷ syntax.FunctionDefinition (specs (syntax.StorageSpec storage.Static (at 49 19) ∷ syntax.TypeSpec type.Int (at 56 20) ∷ [])) (syntax.Named [] (name (codes "f") (at 60 21)) (suffixes (syntax.FunctionSuffix (parameters (syntax.parameter (specs (syntax.TypeSpec type.Void (at 62 23) ∷ [])) (syntax.Unnamed [] (suffixes [])) (at 62 23) ∷ [])) false (at 61 22) ∷ []))) (syntax.block (block_items (syntax.StatementItem (syntax.Return (syntax.an_expr (syntax.Constant (pos 1) basic.Int (at 77 27))) (at 70 26) (span (at 70 26) (at 78 28))) ∷ [])) (span (at 68 25) (at 80 29))) ∷ [])

-- int g(int (*p)(void)) { return p() + (*p)(); }
abbrev pub accepted_statements_initializers_programs_87 : List syntax.External
accepted_statements_initializers_programs_87 = (syntax.FunctionDefinition (specs (syntax.TypeSpec type.Int (at 1 0) ∷ [])) (syntax.Named [] (name (codes "g") (at 5 1)) (suffixes (syntax.FunctionSuffix (parameters (syntax.parameter (specs (syntax.TypeSpec type.Int (at 7 3) ∷ [])) (syntax.Grouped [] (syntax.Named (pointer (at 12 5) [] ∷ []) (name (codes "p") (at 13 6)) (suffixes [])) (suffixes (syntax.FunctionSuffix (parameters (syntax.parameter (specs (syntax.TypeSpec type.Void (at 16 9) ∷ [])) (syntax.Unnamed [] (suffixes [])) (at 16 9) ∷ [])) false (at 15 8) ∷ [])) (at 11 4)) (at 7 3) ∷ [])) false (at 6 2) ∷ []))) (syntax.block (block_items (syntax.StatementItem (syntax.Return (syntax.an_expr (syntax.Binary op.Add (syntax.Call (syntax.Identifier (name (codes "p") (at 32 14))) (syntax.exprs []) (at 33 15)) (syntax.Call (syntax.Parenthesized (syntax.Unary prefix.Indirection (syntax.Identifier (name (codes "p") (at 40 20))) (at 39 19)) (at 38 18)) (syntax.exprs []) (at 42 22)) (at 36 17))) (at 25 13) (span (at 25 13) (at 44 24))) ∷ [])) (span (at 23 12) (at 46 25))) ∷ [])

-- struct s { int a; }; int g(struct s *p) { return p->a; }
abbrev pub accepted_statements_initializers_programs_88 : List syntax.External
accepted_statements_initializers_programs_88 = (syntax.ExternalDeclaration (syntax.SimpleDeclaration (specs (syntax.Struct (Some (name (codes "s") (at 8 1))) (members (syntax.MemberDeclarators (specs (syntax.TypeSpec type.Int (at 12 3) ∷ [])) (syntax.declarators ((syntax.Named [] (name (codes "a") (at 16 4)) (suffixes [])) ∷ [])) ∷ [])) (at 1 0) ∷ [])) (declared [])) ∷ syntax.FunctionDefinition (specs (syntax.TypeSpec type.Int (at 22 8) ∷ [])) (syntax.Named [] (name (codes "g") (at 26 9)) (suffixes (syntax.FunctionSuffix (parameters (syntax.parameter (specs (syntax.StructTag (name (codes "s") (at 35 12)) (at 28 11) ∷ [])) (syntax.Named (pointer (at 37 13) [] ∷ []) (name (codes "p") (at 38 14)) (suffixes [])) (at 28 11) ∷ [])) false (at 27 10) ∷ []))) (syntax.block (block_items (syntax.StatementItem (syntax.Return (syntax.an_expr (syntax.Arrow (syntax.Identifier (name (codes "p") (at 50 18))) (name (codes "a") (at 53 20)) (at 51 19))) (at 43 17) (span (at 43 17) (at 54 21))) ∷ [])) (span (at 41 16) (at 56 22))) ∷ [])

-- int g(void) { return 1; } void h(void) { return; }
abbrev pub accepted_statements_initializers_programs_89 : List syntax.External
accepted_statements_initializers_programs_89 = (syntax.FunctionDefinition (specs (syntax.TypeSpec type.Int (at 1 0) ∷ [])) (syntax.Named [] (name (codes "g") (at 5 1)) (suffixes (syntax.FunctionSuffix (parameters (syntax.parameter (specs (syntax.TypeSpec type.Void (at 7 3) ∷ [])) (syntax.Unnamed [] (suffixes [])) (at 7 3) ∷ [])) false (at 6 2) ∷ []))) (syntax.block (block_items (syntax.StatementItem (syntax.Return (syntax.an_expr (syntax.Constant (pos 1) basic.Int (at 22 7))) (at 15 6) (span (at 15 6) (at 23 8))) ∷ [])) (span (at 13 5) (at 25 9))) ∷ syntax.FunctionDefinition (specs (syntax.TypeSpec type.Void (at 27 10) ∷ [])) (syntax.Named [] (name (codes "h") (at 32 11)) (suffixes (syntax.FunctionSuffix (parameters (syntax.parameter (specs (syntax.TypeSpec type.Void (at 34 13) ∷ [])) (syntax.Unnamed [] (suffixes [])) (at 34 13) ∷ [])) false (at 33 12) ∷ []))) (syntax.block (block_items (syntax.StatementItem (syntax.Return syntax.no_expr (at 42 16) (span (at 42 16) (at 48 17))) ∷ [])) (span (at 40 15) (at 50 18))) ∷ [])
