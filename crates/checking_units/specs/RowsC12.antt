-- C12: pointer to a complete object is needed: units of one line, as trees.
use Rattle.std.specs.Prelude.{List, [], ◌∷◌, false, pos, codes}
use Rattle.model_grammar.specs.SyntaxForms as syntax
use Rattle.model_types.specs.declared.numbers.Basic.TheVariants as basic
use Rattle.model_types.specs.declared.numbers.BinOp.TheVariants as op
use Rattle.model_types.specs.declared.operators.StepOp.TheVariants as step
use Rattle.model_types.specs.declared.operators.StepSide.TheVariants as side
use Rattle.model_grammar.specs.declared.syntax.TypeWord.TheVariants as type
use Rattle.model_grammar.specs.declared.syntax.QualifierWord.TheVariants as qual
use Rattle.model_grammar.specs.declared.syntax.PrefixOp.TheVariants as prefix
use Rattle.checking_units.specs.Parts.{at, name, specs, qualifier, pointer, suffixes, parameters, declared, block_items, span}

-- void g(void *p) { *p; }
abbrev pub c12_1 : List syntax.External
c12_1 = (syntax.FunctionDefinition (specs (syntax.TypeSpec type.Void (at 1 0) ∷ [])) (syntax.Named [] (name (codes "g") (at 6 1)) (suffixes (syntax.FunctionSuffix (parameters (syntax.parameter (specs (syntax.TypeSpec type.Void (at 8 3) ∷ [])) (syntax.Named (pointer (at 13 4) [] ∷ []) (name (codes "p") (at 14 5)) (suffixes [])) (at 8 3) ∷ [])) false (at 7 2) ∷ []))) (syntax.block (block_items (syntax.StatementItem (syntax.ExpressionStatement (syntax.an_expr (syntax.Unary prefix.Indirection (syntax.Identifier (name (codes "p") (at 20 9))) (at 19 8))) (span (at 19 8) (at 21 10))) ∷ [])) (span (at 17 7) (at 23 11))) ∷ [])

-- void g(void *p) { &*p; }
abbrev pub c12_2 : List syntax.External
c12_2 = (syntax.FunctionDefinition (specs (syntax.TypeSpec type.Void (at 1 0) ∷ [])) (syntax.Named [] (name (codes "g") (at 6 1)) (suffixes (syntax.FunctionSuffix (parameters (syntax.parameter (specs (syntax.TypeSpec type.Void (at 8 3) ∷ [])) (syntax.Named (pointer (at 13 4) [] ∷ []) (name (codes "p") (at 14 5)) (suffixes [])) (at 8 3) ∷ [])) false (at 7 2) ∷ []))) (syntax.block (block_items (syntax.StatementItem (syntax.ExpressionStatement (syntax.an_expr (syntax.Unary prefix.Address (syntax.Unary prefix.Indirection (syntax.Identifier (name (codes "p") (at 21 10))) (at 20 9)) (at 19 8))) (span (at 19 8) (at 22 11))) ∷ [])) (span (at 17 7) (at 24 12))) ∷ [])

-- void g(char *p) { p - nullptr; }
abbrev pub c12_3 : List syntax.External
c12_3 = (syntax.FunctionDefinition (specs (syntax.TypeSpec type.Void (at 1 0) ∷ [])) (syntax.Named [] (name (codes "g") (at 6 1)) (suffixes (syntax.FunctionSuffix (parameters (syntax.parameter (specs (syntax.TypeSpec type.Char (at 8 3) ∷ [])) (syntax.Named (pointer (at 13 4) [] ∷ []) (name (codes "p") (at 14 5)) (suffixes [])) (at 8 3) ∷ [])) false (at 7 2) ∷ []))) (syntax.block (block_items (syntax.StatementItem (syntax.ExpressionStatement (syntax.an_expr (syntax.Binary op.Sub (syntax.Identifier (name (codes "p") (at 19 8))) (syntax.Nullptr (at 23 10)) (at 21 9))) (span (at 19 8) (at 30 11))) ∷ [])) (span (at 17 7) (at 32 12))) ∷ [])

-- void v(void); void g(void) { *v(); }
abbrev pub c12_4 : List syntax.External
c12_4 = (syntax.ExternalDeclaration (syntax.SimpleDeclaration (specs (syntax.TypeSpec type.Void (at 1 0) ∷ [])) (declared (syntax.init_declarator (syntax.Named [] (name (codes "v") (at 6 1)) (suffixes (syntax.FunctionSuffix (parameters (syntax.parameter (specs (syntax.TypeSpec type.Void (at 8 3) ∷ [])) (syntax.Unnamed [] (suffixes [])) (at 8 3) ∷ [])) false (at 7 2) ∷ []))) syntax.no_initializer ∷ []))) ∷ syntax.FunctionDefinition (specs (syntax.TypeSpec type.Void (at 15 6) ∷ [])) (syntax.Named [] (name (codes "g") (at 20 7)) (suffixes (syntax.FunctionSuffix (parameters (syntax.parameter (specs (syntax.TypeSpec type.Void (at 22 9) ∷ [])) (syntax.Unnamed [] (suffixes [])) (at 22 9) ∷ [])) false (at 21 8) ∷ []))) (syntax.block (block_items (syntax.StatementItem (syntax.ExpressionStatement (syntax.an_expr (syntax.Unary prefix.Indirection (syntax.Call (syntax.Identifier (name (codes "v") (at 31 13))) (syntax.exprs []) (at 32 14)) (at 30 12))) (span (at 30 12) (at 34 16))) ∷ [])) (span (at 28 11) (at 36 17))) ∷ [])

-- void g(void *const p) { p++; }
abbrev pub c12_5 : List syntax.External
c12_5 = (syntax.FunctionDefinition (specs (syntax.TypeSpec type.Void (at 1 0) ∷ [])) (syntax.Named [] (name (codes "g") (at 6 1)) (suffixes (syntax.FunctionSuffix (parameters (syntax.parameter (specs (syntax.TypeSpec type.Void (at 8 3) ∷ [])) (syntax.Named (pointer (at 13 4) ((qualifier qual.Const (at 14 5)) ∷ []) ∷ []) (name (codes "p") (at 20 6)) (suffixes [])) (at 8 3) ∷ [])) false (at 7 2) ∷ []))) (syntax.block (block_items (syntax.StatementItem (syntax.ExpressionStatement (syntax.an_expr (syntax.Step step.Increment side.Postfix (syntax.Identifier (name (codes "p") (at 25 9))) (at 26 10))) (span (at 25 9) (at 28 11))) ∷ [])) (span (at 23 8) (at 30 12))) ∷ [])

-- int f(void); void g(void) { f++; }
abbrev pub c12_6 : List syntax.External
c12_6 = (syntax.ExternalDeclaration (syntax.SimpleDeclaration (specs (syntax.TypeSpec type.Int (at 1 0) ∷ [])) (declared (syntax.init_declarator (syntax.Named [] (name (codes "f") (at 5 1)) (suffixes (syntax.FunctionSuffix (parameters (syntax.parameter (specs (syntax.TypeSpec type.Void (at 7 3) ∷ [])) (syntax.Unnamed [] (suffixes [])) (at 7 3) ∷ [])) false (at 6 2) ∷ []))) syntax.no_initializer ∷ []))) ∷ syntax.FunctionDefinition (specs (syntax.TypeSpec type.Void (at 14 6) ∷ [])) (syntax.Named [] (name (codes "g") (at 19 7)) (suffixes (syntax.FunctionSuffix (parameters (syntax.parameter (specs (syntax.TypeSpec type.Void (at 21 9) ∷ [])) (syntax.Unnamed [] (suffixes [])) (at 21 9) ∷ [])) false (at 20 8) ∷ []))) (syntax.block (block_items (syntax.StatementItem (syntax.ExpressionStatement (syntax.an_expr (syntax.Step step.Increment side.Postfix (syntax.Identifier (name (codes "f") (at 29 12))) (at 30 13))) (span (at 29 12) (at 32 14))) ∷ [])) (span (at 27 11) (at 34 15))) ∷ [])

-- void g(void *p) { 1 + p; }
abbrev pub c12_7 : List syntax.External
c12_7 = (syntax.FunctionDefinition (specs (syntax.TypeSpec type.Void (at 1 0) ∷ [])) (syntax.Named [] (name (codes "g") (at 6 1)) (suffixes (syntax.FunctionSuffix (parameters (syntax.parameter (specs (syntax.TypeSpec type.Void (at 8 3) ∷ [])) (syntax.Named (pointer (at 13 4) [] ∷ []) (name (codes "p") (at 14 5)) (suffixes [])) (at 8 3) ∷ [])) false (at 7 2) ∷ []))) (syntax.block (block_items (syntax.StatementItem (syntax.ExpressionStatement (syntax.an_expr (syntax.Binary op.Add (syntax.Constant (pos 1) basic.Int (at 19 8)) (syntax.Identifier (name (codes "p") (at 23 10))) (at 21 9))) (span (at 19 8) (at 24 11))) ∷ [])) (span (at 17 7) (at 26 12))) ∷ [])

-- struct h; void g(struct h *p) { p->a; }
abbrev pub c12_8 : List syntax.External
c12_8 = (syntax.ExternalDeclaration (syntax.SimpleDeclaration (specs (syntax.StructTag (name (codes "h") (at 8 1)) (at 1 0) ∷ [])) (declared [])) ∷ syntax.FunctionDefinition (specs (syntax.TypeSpec type.Void (at 11 3) ∷ [])) (syntax.Named [] (name (codes "g") (at 16 4)) (suffixes (syntax.FunctionSuffix (parameters (syntax.parameter (specs (syntax.StructTag (name (codes "h") (at 25 7)) (at 18 6) ∷ [])) (syntax.Named (pointer (at 27 8) [] ∷ []) (name (codes "p") (at 28 9)) (suffixes [])) (at 18 6) ∷ [])) false (at 17 5) ∷ []))) (syntax.block (block_items (syntax.StatementItem (syntax.ExpressionStatement (syntax.an_expr (syntax.Arrow (syntax.Identifier (name (codes "p") (at 33 12))) (name (codes "a") (at 36 14)) (at 34 13))) (span (at 33 12) (at 37 15))) ∷ [])) (span (at 31 11) (at 39 16))) ∷ [])

-- struct h; void g(struct h *p) { ((p))->a; }
abbrev pub c12_9 : List syntax.External
c12_9 = (syntax.ExternalDeclaration (syntax.SimpleDeclaration (specs (syntax.StructTag (name (codes "h") (at 8 1)) (at 1 0) ∷ [])) (declared [])) ∷ syntax.FunctionDefinition (specs (syntax.TypeSpec type.Void (at 11 3) ∷ [])) (syntax.Named [] (name (codes "g") (at 16 4)) (suffixes (syntax.FunctionSuffix (parameters (syntax.parameter (specs (syntax.StructTag (name (codes "h") (at 25 7)) (at 18 6) ∷ [])) (syntax.Named (pointer (at 27 8) [] ∷ []) (name (codes "p") (at 28 9)) (suffixes [])) (at 18 6) ∷ [])) false (at 17 5) ∷ []))) (syntax.block (block_items (syntax.StatementItem (syntax.ExpressionStatement (syntax.an_expr (syntax.Arrow (syntax.Parenthesized (syntax.Parenthesized (syntax.Identifier (name (codes "p") (at 35 14))) (at 34 13)) (at 33 12)) (name (codes "a") (at 40 18)) (at 38 17))) (span (at 33 12) (at 41 19))) ∷ [])) (span (at 31 11) (at 43 20))) ∷ [])

-- long g(int *p) { return p - nullptr; }
abbrev pub c12_10 : List syntax.External
c12_10 = (syntax.FunctionDefinition (specs (syntax.TypeSpec type.Long (at 1 0) ∷ [])) (syntax.Named [] (name (codes "g") (at 6 1)) (suffixes (syntax.FunctionSuffix (parameters (syntax.parameter (specs (syntax.TypeSpec type.Int (at 8 3) ∷ [])) (syntax.Named (pointer (at 12 4) [] ∷ []) (name (codes "p") (at 13 5)) (suffixes [])) (at 8 3) ∷ [])) false (at 7 2) ∷ []))) (syntax.block (block_items (syntax.StatementItem (syntax.Return (syntax.an_expr (syntax.Binary op.Sub (syntax.Identifier (name (codes "p") (at 25 9))) (syntax.Nullptr (at 29 11)) (at 27 10))) (at 18 8) (span (at 18 8) (at 36 12))) ∷ [])) (span (at 16 7) (at 38 13))) ∷ [])
