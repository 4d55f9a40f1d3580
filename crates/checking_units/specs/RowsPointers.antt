-- pointers: units of one line, as trees.
use Rattle.std.specs.Prelude.{List, [], ◌∷◌, false, pos, codes}
use Rattle.model_grammar.specs.SyntaxForms as syntax
use Rattle.model_types.specs.declared.numbers.Basic.TheVariants as basic
use Rattle.model_types.specs.declared.numbers.BinOp.TheVariants as op
use Rattle.model_types.specs.declared.operators.StepOp.TheVariants as step
use Rattle.model_types.specs.declared.operators.StepSide.TheVariants as side
use Rattle.model_grammar.specs.declared.syntax.TypeWord.TheVariants as type
use Rattle.model_grammar.specs.declared.syntax.QualifierWord.TheVariants as qual
use Rattle.model_grammar.specs.declared.syntax.PrefixOp.TheVariants as prefix
use Rattle.checking_units.specs.Parts.{at, name, specs, qualifier, pointer, suffixes, parameters, declared, block_items, span}

-- void g(const int *p, int *q) { p - q; p == q; p < q; nullptr == nullptr; nullptr == 0; 0 == q; }
abbrev pub pointers_1 : List syntax.External
pointers_1 = (syntax.FunctionDefinition (specs (syntax.TypeSpec type.Void (at 1 0) ∷ [])) (syntax.Named [] (name (codes "g") (at 6 1)) (suffixes (syntax.FunctionSuffix (parameters (syntax.parameter (specs (syntax.QualifierSpec (qualifier qual.Const (at 8 3)) ∷ syntax.TypeSpec type.Int (at 14 4) ∷ [])) (syntax.Named (pointer (at 18 5) [] ∷ []) (name (codes "p") (at 19 6)) (suffixes [])) (at 8 3) ∷ syntax.parameter (specs (syntax.TypeSpec type.Int (at 22 8) ∷ [])) (syntax.Named (pointer (at 26 9) [] ∷ []) (name (codes "q") (at 27 10)) (suffixes [])) (at 22 8) ∷ [])) false (at 7 2) ∷ []))) (syntax.block (block_items (syntax.StatementItem (syntax.ExpressionStatement (syntax.an_expr (syntax.Binary op.Sub (syntax.Identifier (name (codes "p") (at 32 13))) (syntax.Identifier (name (codes "q") (at 36 15))) (at 34 14))) (span (at 32 13) (at 37 16))) ∷ syntax.StatementItem (syntax.ExpressionStatement (syntax.an_expr (syntax.Binary op.Equal (syntax.Identifier (name (codes "p") (at 39 17))) (syntax.Identifier (name (codes "q") (at 44 19))) (at 41 18))) (span (at 39 17) (at 45 20))) ∷ syntax.StatementItem (syntax.ExpressionStatement (syntax.an_expr (syntax.Binary op.Less (syntax.Identifier (name (codes "p") (at 47 21))) (syntax.Identifier (name (codes "q") (at 51 23))) (at 49 22))) (span (at 47 21) (at 52 24))) ∷ syntax.StatementItem (syntax.ExpressionStatement (syntax.an_expr (syntax.Binary op.Equal (syntax.Nullptr (at 54 25)) (syntax.Nullptr (at 65 27)) (at 62 26))) (span (at 54 25) (at 72 28))) ∷ syntax.StatementItem (syntax.ExpressionStatement (syntax.an_expr (syntax.Binary op.Equal (syntax.Nullptr (at 74 29)) (syntax.Constant (pos 0) basic.Int (at 85 31)) (at 82 30))) (span (at 74 29) (at 86 32))) ∷ syntax.StatementItem (syntax.ExpressionStatement (syntax.an_expr (syntax.Binary op.Equal (syntax.Constant (pos 0) basic.Int (at 88 33)) (syntax.Identifier (name (codes "q") (at 93 35))) (at 90 34))) (span (at 88 33) (at 94 36))) ∷ [])) (span (at 30 12) (at 96 37))) ∷ [])

-- void g(int *p) { p + p; }
abbrev pub pointers_2 : List syntax.External
pointers_2 = (syntax.FunctionDefinition (specs (syntax.TypeSpec type.Void (at 1 0) ∷ [])) (syntax.Named [] (name (codes "g") (at 6 1)) (suffixes (syntax.FunctionSuffix (parameters (syntax.parameter (specs (syntax.TypeSpec type.Int (at 8 3) ∷ [])) (syntax.Named (pointer (at 12 4) [] ∷ []) (name (codes "p") (at 13 5)) (suffixes [])) (at 8 3) ∷ [])) false (at 7 2) ∷ []))) (syntax.block (block_items (syntax.StatementItem (syntax.ExpressionStatement (syntax.an_expr (syntax.Binary op.Add (syntax.Identifier (name (codes "p") (at 18 8))) (syntax.Identifier (name (codes "p") (at 22 10))) (at 20 9))) (span (at 18 8) (at 23 11))) ∷ [])) (span (at 16 7) (at 25 12))) ∷ [])

-- void g(int *p) { p * 2; }
abbrev pub pointers_3 : List syntax.External
pointers_3 = (syntax.FunctionDefinition (specs (syntax.TypeSpec type.Void (at 1 0) ∷ [])) (syntax.Named [] (name (codes "g") (at 6 1)) (suffixes (syntax.FunctionSuffix (parameters (syntax.parameter (specs (syntax.TypeSpec type.Int (at 8 3) ∷ [])) (syntax.Named (pointer (at 12 4) [] ∷ []) (name (codes "p") (at 13 5)) (suffixes [])) (at 8 3) ∷ [])) false (at 7 2) ∷ []))) (syntax.block (block_items (syntax.StatementItem (syntax.ExpressionStatement (syntax.an_expr (syntax.Binary op.Mul (syntax.Identifier (name (codes "p") (at 18 8))) (syntax.Constant (pos 2) basic.Int (at 22 10)) (at 20 9))) (span (at 18 8) (at 23 11))) ∷ [])) (span (at 16 7) (at 25 12))) ∷ [])

-- void g(int *p) { -p; }
abbrev pub pointers_4 : List syntax.External
pointers_4 = (syntax.FunctionDefinition (specs (syntax.TypeSpec type.Void (at 1 0) ∷ [])) (syntax.Named [] (name (codes "g") (at 6 1)) (suffixes (syntax.FunctionSuffix (parameters (syntax.parameter (specs (syntax.TypeSpec type.Int (at 8 3) ∷ [])) (syntax.Named (pointer (at 12 4) [] ∷ []) (name (codes "p") (at 13 5)) (suffixes [])) (at 8 3) ∷ [])) false (at 7 2) ∷ []))) (syntax.block (block_items (syntax.StatementItem (syntax.ExpressionStatement (syntax.an_expr (syntax.Unary prefix.Minus (syntax.Identifier (name (codes "p") (at 19 9))) (at 18 8))) (span (at 18 8) (at 20 10))) ∷ [])) (span (at 16 7) (at 22 11))) ∷ [])

-- void g(int *p) { p << 1; }
abbrev pub pointers_5 : List syntax.External
pointers_5 = (syntax.FunctionDefinition (specs (syntax.TypeSpec type.Void (at 1 0) ∷ [])) (syntax.Named [] (name (codes "g") (at 6 1)) (suffixes (syntax.FunctionSuffix (parameters (syntax.parameter (specs (syntax.TypeSpec type.Int (at 8 3) ∷ [])) (syntax.Named (pointer (at 12 4) [] ∷ []) (name (codes "p") (at 13 5)) (suffixes [])) (at 8 3) ∷ [])) false (at 7 2) ∷ []))) (syntax.block (block_items (syntax.StatementItem (syntax.ExpressionStatement (syntax.an_expr (syntax.Binary op.ShiftLeft (syntax.Identifier (name (codes "p") (at 18 8))) (syntax.Constant (pos 1) basic.Int (at 23 10)) (at 20 9))) (span (at 18 8) (at 24 11))) ∷ [])) (span (at 16 7) (at 26 12))) ∷ [])

-- void g(int *p) { p &= 1; }
abbrev pub pointers_6 : List syntax.External
pointers_6 = (syntax.FunctionDefinition (specs (syntax.TypeSpec type.Void (at 1 0) ∷ [])) (syntax.Named [] (name (codes "g") (at 6 1)) (suffixes (syntax.FunctionSuffix (parameters (syntax.parameter (specs (syntax.TypeSpec type.Int (at 8 3) ∷ [])) (syntax.Named (pointer (at 12 4) [] ∷ []) (name (codes "p") (at 13 5)) (suffixes [])) (at 8 3) ∷ [])) false (at 7 2) ∷ []))) (syntax.block (block_items (syntax.StatementItem (syntax.ExpressionStatement (syntax.an_expr (syntax.AssignBy op.BitAnd (syntax.Identifier (name (codes "p") (at 18 8))) (syntax.Constant (pos 1) basic.Int (at 23 10)) (at 20 9))) (span (at 18 8) (at 24 11))) ∷ [])) (span (at 16 7) (at 26 12))) ∷ [])

-- void g(int *p) { p += 1; p -= 1L; p *= 2; }
abbrev pub pointers_7 : List syntax.External
pointers_7 = (syntax.FunctionDefinition (specs (syntax.TypeSpec type.Void (at 1 0) ∷ [])) (syntax.Named [] (name (codes "g") (at 6 1)) (suffixes (syntax.FunctionSuffix (parameters (syntax.parameter (specs (syntax.TypeSpec type.Int (at 8 3) ∷ [])) (syntax.Named (pointer (at 12 4) [] ∷ []) (name (codes "p") (at 13 5)) (suffixes [])) (at 8 3) ∷ [])) false (at 7 2) ∷ []))) (syntax.block (block_items (syntax.StatementItem (syntax.ExpressionStatement (syntax.an_expr (syntax.AssignBy op.Add (syntax.Identifier (name (codes "p") (at 18 8))) (syntax.Constant (pos 1) basic.Int (at 23 10)) (at 20 9))) (span (at 18 8) (at 24 11))) ∷ syntax.StatementItem (syntax.ExpressionStatement (syntax.an_expr (syntax.AssignBy op.Sub (syntax.Identifier (name (codes "p") (at 26 12))) (syntax.Constant (pos 1) basic.Long (at 31 14)) (at 28 13))) (span (at 26 12) (at 33 15))) ∷ syntax.StatementItem (syntax.ExpressionStatement (syntax.an_expr (syntax.AssignBy op.Mul (syntax.Identifier (name (codes "p") (at 35 16))) (syntax.Constant (pos 2) basic.Int (at 40 18)) (at 37 17))) (span (at 35 16) (at 41 19))) ∷ [])) (span (at 16 7) (at 43 20))) ∷ [])

-- struct h; void g(struct h *p) { p++; }
abbrev pub pointers_8 : List syntax.External
pointers_8 = (syntax.ExternalDeclaration (syntax.SimpleDeclaration (specs (syntax.StructTag (name (codes "h") (at 8 1)) (at 1 0) ∷ [])) (declared [])) ∷ syntax.FunctionDefinition (specs (syntax.TypeSpec type.Void (at 11 3) ∷ [])) (syntax.Named [] (name (codes "g") (at 16 4)) (suffixes (syntax.FunctionSuffix (parameters (syntax.parameter (specs (syntax.StructTag (name (codes "h") (at 25 7)) (at 18 6) ∷ [])) (syntax.Named (pointer (at 27 8) [] ∷ []) (name (codes "p") (at 28 9)) (suffixes [])) (at 18 6) ∷ [])) false (at 17 5) ∷ []))) (syntax.block (block_items (syntax.StatementItem (syntax.ExpressionStatement (syntax.an_expr (syntax.Step step.Increment side.Postfix (syntax.Identifier (name (codes "p") (at 33 12))) (at 34 13))) (span (at 33 12) (at 36 14))) ∷ [])) (span (at 31 11) (at 38 15))) ∷ [])

-- struct h; void g(struct h *p) { ++p; }
abbrev pub pointers_9 : List syntax.External
pointers_9 = (syntax.ExternalDeclaration (syntax.SimpleDeclaration (specs (syntax.StructTag (name (codes "h") (at 8 1)) (at 1 0) ∷ [])) (declared [])) ∷ syntax.FunctionDefinition (specs (syntax.TypeSpec type.Void (at 11 3) ∷ [])) (syntax.Named [] (name (codes "g") (at 16 4)) (suffixes (syntax.FunctionSuffix (parameters (syntax.parameter (specs (syntax.StructTag (name (codes "h") (at 25 7)) (at 18 6) ∷ [])) (syntax.Named (pointer (at 27 8) [] ∷ []) (name (codes "p") (at 28 9)) (suffixes [])) (at 18 6) ∷ [])) false (at 17 5) ∷ []))) (syntax.block (block_items (syntax.StatementItem (syntax.ExpressionStatement (syntax.an_expr (syntax.Step step.Increment side.Prefix (syntax.Identifier (name (codes "p") (at 35 13))) (at 33 12))) (span (at 33 12) (at 36 14))) ∷ [])) (span (at 31 11) (at 38 15))) ∷ [])

-- struct h; void g(struct h *p) { p[0]; }
abbrev pub pointers_10 : List syntax.External
pointers_10 = (syntax.ExternalDeclaration (syntax.SimpleDeclaration (specs (syntax.StructTag (name (codes "h") (at 8 1)) (at 1 0) ∷ [])) (declared [])) ∷ syntax.FunctionDefinition (specs (syntax.TypeSpec type.Void (at 11 3) ∷ [])) (syntax.Named [] (name (codes "g") (at 16 4)) (suffixes (syntax.FunctionSuffix (parameters (syntax.parameter (specs (syntax.StructTag (name (codes "h") (at 25 7)) (at 18 6) ∷ [])) (syntax.Named (pointer (at 27 8) [] ∷ []) (name (codes "p") (at 28 9)) (suffixes [])) (at 18 6) ∷ [])) false (at 17 5) ∷ []))) (syntax.block (block_items (syntax.StatementItem (syntax.ExpressionStatement (syntax.an_expr (syntax.Index (syntax.Identifier (name (codes "p") (at 33 12))) (syntax.Constant (pos 0) basic.Int (at 35 14)) (at 34 13))) (span (at 33 12) (at 37 16))) ∷ [])) (span (at 31 11) (at 39 17))) ∷ [])

-- struct h; void g(struct h *p) { *p; }
abbrev pub pointers_11 : List syntax.External
pointers_11 = (syntax.ExternalDeclaration (syntax.SimpleDeclaration (specs (syntax.StructTag (name (codes "h") (at 8 1)) (at 1 0) ∷ [])) (declared [])) ∷ syntax.FunctionDefinition (specs (syntax.TypeSpec type.Void (at 11 3) ∷ [])) (syntax.Named [] (name (codes "g") (at 16 4)) (suffixes (syntax.FunctionSuffix (parameters (syntax.parameter (specs (syntax.StructTag (name (codes "h") (at 25 7)) (at 18 6) ∷ [])) (syntax.Named (pointer (at 27 8) [] ∷ []) (name (codes "p") (at 28 9)) (suffixes [])) (at 18 6) ∷ [])) false (at 17 5) ∷ []))) (syntax.block (block_items (syntax.StatementItem (syntax.ExpressionStatement (syntax.an_expr (syntax.Unary prefix.Indirection (syntax.Identifier (name (codes "p") (at 34 13))) (at 33 12))) (span (at 33 12) (at 35 14))) ∷ [])) (span (at 31 11) (at 37 15))) ∷ [])

-- int f(void); void g(void) { f + 1; }
abbrev pub pointers_12 : List syntax.External
pointers_12 = (syntax.ExternalDeclaration (syntax.SimpleDeclaration (specs (syntax.TypeSpec type.Int (at 1 0) ∷ [])) (declared (syntax.init_declarator (syntax.Named [] (name (codes "f") (at 5 1)) (suffixes (syntax.FunctionSuffix (parameters (syntax.parameter (specs (syntax.TypeSpec type.Void (at 7 3) ∷ [])) (syntax.Unnamed [] (suffixes [])) (at 7 3) ∷ [])) false (at 6 2) ∷ []))) syntax.no_initializer ∷ []))) ∷ syntax.FunctionDefinition (specs (syntax.TypeSpec type.Void (at 14 6) ∷ [])) (syntax.Named [] (name (codes "g") (at 19 7)) (suffixes (syntax.FunctionSuffix (parameters (syntax.parameter (specs (syntax.TypeSpec type.Void (at 21 9) ∷ [])) (syntax.Unnamed [] (suffixes [])) (at 21 9) ∷ [])) false (at 20 8) ∷ []))) (syntax.block (block_items (syntax.StatementItem (syntax.ExpressionStatement (syntax.an_expr (syntax.Binary op.Add (syntax.Identifier (name (codes "f") (at 29 12))) (syntax.Constant (pos 1) basic.Int (at 33 14)) (at 31 13))) (span (at 29 12) (at 34 15))) ∷ [])) (span (at 27 11) (at 36 16))) ∷ [])

-- void g(int (*p)[]) { p + 1; }
abbrev pub pointers_13 : List syntax.External
pointers_13 = (syntax.FunctionDefinition (specs (syntax.TypeSpec type.Void (at 1 0) ∷ [])) (syntax.Named [] (name (codes "g") (at 6 1)) (suffixes (syntax.FunctionSuffix (parameters (syntax.parameter (specs (syntax.TypeSpec type.Int (at 8 3) ∷ [])) (syntax.Grouped [] (syntax.Named (pointer (at 13 5) [] ∷ []) (name (codes "p") (at 14 6)) (suffixes [])) (suffixes (syntax.ArraySuffix syntax.no_expr (at 16 8) ∷ [])) (at 12 4)) (at 8 3) ∷ [])) false (at 7 2) ∷ []))) (syntax.block (block_items (syntax.StatementItem (syntax.ExpressionStatement (syntax.an_expr (syntax.Binary op.Add (syntax.Identifier (name (codes "p") (at 22 12))) (syntax.Constant (pos 1) basic.Int (at 26 14)) (at 24 13))) (span (at 22 12) (at 27 15))) ∷ [])) (span (at 20 11) (at 29 16))) ∷ [])

-- void g(int (*p)[]) { (*p)[0]; }
abbrev pub pointers_14 : List syntax.External
pointers_14 = (syntax.FunctionDefinition (specs (syntax.TypeSpec type.Void (at 1 0) ∷ [])) (syntax.Named [] (name (codes "g") (at 6 1)) (suffixes (syntax.FunctionSuffix (parameters (syntax.parameter (specs (syntax.TypeSpec type.Int (at 8 3) ∷ [])) (syntax.Grouped [] (syntax.Named (pointer (at 13 5) [] ∷ []) (name (codes "p") (at 14 6)) (suffixes [])) (suffixes (syntax.ArraySuffix syntax.no_expr (at 16 8) ∷ [])) (at 12 4)) (at 8 3) ∷ [])) false (at 7 2) ∷ []))) (syntax.block (block_items (syntax.StatementItem (syntax.ExpressionStatement (syntax.an_expr (syntax.Index (syntax.Parenthesized (syntax.Unary prefix.Indirection (syntax.Identifier (name (codes "p") (at 24 14))) (at 23 13)) (at 22 12)) (syntax.Constant (pos 0) basic.Int (at 27 17)) (at 26 16))) (span (at 22 12) (at 29 19))) ∷ [])) (span (at 20 11) (at 31 20))) ∷ [])

-- void g(int *p) { p - p - p; }
abbrev pub pointers_15 : List syntax.External
pointers_15 = (syntax.FunctionDefinition (specs (syntax.TypeSpec type.Void (at 1 0) ∷ [])) (syntax.Named [] (name (codes "g") (at 6 1)) (suffixes (syntax.FunctionSuffix (parameters (syntax.parameter (specs (syntax.TypeSpec type.Int (at 8 3) ∷ [])) (syntax.Named (pointer (at 12 4) [] ∷ []) (name (codes "p") (at 13 5)) (suffixes [])) (at 8 3) ∷ [])) false (at 7 2) ∷ []))) (syntax.block (block_items (syntax.StatementItem (syntax.ExpressionStatement (syntax.an_expr (syntax.Binary op.Sub (syntax.Binary op.Sub (syntax.Identifier (name (codes "p") (at 18 8))) (syntax.Identifier (name (codes "p") (at 22 10))) (at 20 9)) (syntax.Identifier (name (codes "p") (at 26 12))) (at 24 11))) (span (at 18 8) (at 27 13))) ∷ [])) (span (at 16 7) (at 29 14))) ∷ [])
