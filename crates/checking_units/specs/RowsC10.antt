-- C10: left side cannot be changed: units of one line, as trees.
use Rattle.std.specs.Prelude.{List, [], ◌∷◌, Some, false, pos, codes}
use Rattle.model_grammar.specs.SyntaxForms as syntax
use Rattle.model_types.specs.declared.numbers.Basic.TheVariants as basic
use Rattle.model_types.specs.declared.numbers.BinOp.TheVariants as op
use Rattle.model_types.specs.declared.operators.StepOp.TheVariants as step
use Rattle.model_types.specs.declared.operators.StepSide.TheVariants as side
use Rattle.model_grammar.specs.declared.syntax.StorageWord.TheVariants as storage
use Rattle.model_grammar.specs.declared.syntax.TypeWord.TheVariants as type
use Rattle.model_grammar.specs.declared.syntax.QualifierWord.TheVariants as qual
use Rattle.model_grammar.specs.declared.syntax.TypeofWord.TheVariants as word
use Rattle.model_grammar.specs.declared.syntax.PrefixOp.TheVariants as prefix
use Rattle.checking_units.specs.Parts.{at, name, specs, qualifier, pointer, suffixes, parameters, members, declared, block_items, span}

-- typedef int A[2]; const A a; void f(void) { a[0] = 1; }
abbrev pub c10_1 : List syntax.External
c10_1 = (syntax.ExternalDeclaration (syntax.SimpleDeclaration (specs (syntax.StorageSpec storage.Typedef (at 1 0) ∷ syntax.TypeSpec type.Int (at 9 1) ∷ [])) (declared (syntax.init_declarator (syntax.Named [] (name (codes "A") (at 13 2)) (suffixes (syntax.ArraySuffix (syntax.an_expr (syntax.Constant (pos 2) basic.Int (at 15 4))) (at 14 3) ∷ []))) syntax.no_initializer ∷ []))) ∷ syntax.ExternalDeclaration (syntax.SimpleDeclaration (specs (syntax.QualifierSpec (qualifier qual.Const (at 19 7)) ∷ syntax.TypedefName (name (codes "A") (at 25 8)) ∷ [])) (declared (syntax.init_declarator (syntax.Named [] (name (codes "a") (at 27 9)) (suffixes [])) syntax.no_initializer ∷ []))) ∷ syntax.FunctionDefinition (specs (syntax.TypeSpec type.Void (at 30 11) ∷ [])) (syntax.Named [] (name (codes "f") (at 35 12)) (suffixes (syntax.FunctionSuffix (parameters (syntax.parameter (specs (syntax.TypeSpec type.Void (at 37 14) ∷ [])) (syntax.Unnamed [] (suffixes [])) (at 37 14) ∷ [])) false (at 36 13) ∷ []))) (syntax.block (block_items (syntax.StatementItem (syntax.ExpressionStatement (syntax.an_expr (syntax.Assign (syntax.Index (syntax.Identifier (name (codes "a") (at 45 17))) (syntax.Constant (pos 0) basic.Int (at 47 19)) (at 46 18)) (syntax.Constant (pos 1) basic.Int (at 52 22)) (at 50 21))) (span (at 45 17) (at 53 23))) ∷ [])) (span (at 43 16) (at 55 24))) ∷ [])

-- void f(void) { const auto x = 1; x = 2; }
abbrev pub c10_2 : List syntax.External
c10_2 = (syntax.FunctionDefinition (specs (syntax.TypeSpec type.Void (at 1 0) ∷ [])) (syntax.Named [] (name (codes "f") (at 6 1)) (suffixes (syntax.FunctionSuffix (parameters (syntax.parameter (specs (syntax.TypeSpec type.Void (at 8 3) ∷ [])) (syntax.Unnamed [] (suffixes [])) (at 8 3) ∷ [])) false (at 7 2) ∷ []))) (syntax.block (block_items (syntax.DeclarationItem (syntax.SimpleDeclaration (specs (syntax.QualifierSpec (qualifier qual.Const (at 16 6)) ∷ syntax.StorageSpec storage.Auto (at 22 7) ∷ [])) (declared (syntax.init_declarator (syntax.Named [] (name (codes "x") (at 27 8)) (suffixes [])) (syntax.an_initializer (syntax.Single (syntax.Constant (pos 1) basic.Int (at 31 10)))) ∷ []))) ∷ syntax.StatementItem (syntax.ExpressionStatement (syntax.an_expr (syntax.Assign (syntax.Identifier (name (codes "x") (at 34 12))) (syntax.Constant (pos 2) basic.Int (at 38 14)) (at 36 13))) (span (at 34 12) (at 39 15))) ∷ [])) (span (at 14 5) (at 41 16))) ∷ [])

-- const int c = 1; typeof(c) d = 2; void f(void) { d = 4; }
abbrev pub c10_3 : List syntax.External
c10_3 = (syntax.ExternalDeclaration (syntax.SimpleDeclaration (specs (syntax.QualifierSpec (qualifier qual.Const (at 1 0)) ∷ syntax.TypeSpec type.Int (at 7 1) ∷ [])) (declared (syntax.init_declarator (syntax.Named [] (name (codes "c") (at 11 2)) (suffixes [])) (syntax.an_initializer (syntax.Single (syntax.Constant (pos 1) basic.Int (at 15 4)))) ∷ []))) ∷ syntax.ExternalDeclaration (syntax.SimpleDeclaration (specs (syntax.TypeofExpr word.Typeof (syntax.Identifier (name (codes "c") (at 25 8))) (at 18 6) ∷ [])) (declared (syntax.init_declarator (syntax.Named [] (name (codes "d") (at 28 10)) (suffixes [])) (syntax.an_initializer (syntax.Single (syntax.Constant (pos 2) basic.Int (at 32 12)))) ∷ []))) ∷ syntax.FunctionDefinition (specs (syntax.TypeSpec type.Void (at 35 14) ∷ [])) (syntax.Named [] (name (codes "f") (at 40 15)) (suffixes (syntax.FunctionSuffix (parameters (syntax.parameter (specs (syntax.TypeSpec type.Void (at 42 17) ∷ [])) (syntax.Unnamed [] (suffixes [])) (at 42 17) ∷ [])) false (at 41 16) ∷ []))) (syntax.block (block_items (syntax.StatementItem (syntax.ExpressionStatement (syntax.an_expr (syntax.Assign (syntax.Identifier (name (codes "d") (at 50 20))) (syntax.Constant (pos 4) basic.Int (at 54 22)) (at 52 21))) (span (at 50 20) (at 55 23))) ∷ [])) (span (at 48 19) (at 57 24))) ∷ [])

-- void g(void) { 1 = y; }
abbrev pub c10_4 : List syntax.External
c10_4 = (syntax.FunctionDefinition (specs (syntax.TypeSpec type.Void (at 1 0) ∷ [])) (syntax.Named [] (name (codes "g") (at 6 1)) (suffixes (syntax.FunctionSuffix (parameters (syntax.parameter (specs (syntax.TypeSpec type.Void (at 8 3) ∷ [])) (syntax.Unnamed [] (suffixes [])) (at 8 3) ∷ [])) false (at 7 2) ∷ []))) (syntax.block (block_items (syntax.StatementItem (syntax.ExpressionStatement (syntax.an_expr (syntax.Assign (syntax.Constant (pos 1) basic.Int (at 16 6)) (syntax.Identifier (name (codes "y") (at 20 8))) (at 18 7))) (span (at 16 6) (at 21 9))) ∷ [])) (span (at 14 5) (at 23 10))) ∷ [])

-- void g(void) { 1 += y; }
abbrev pub c10_5 : List syntax.External
c10_5 = (syntax.FunctionDefinition (specs (syntax.TypeSpec type.Void (at 1 0) ∷ [])) (syntax.Named [] (name (codes "g") (at 6 1)) (suffixes (syntax.FunctionSuffix (parameters (syntax.parameter (specs (syntax.TypeSpec type.Void (at 8 3) ∷ [])) (syntax.Unnamed [] (suffixes [])) (at 8 3) ∷ [])) false (at 7 2) ∷ []))) (syntax.block (block_items (syntax.StatementItem (syntax.ExpressionStatement (syntax.an_expr (syntax.AssignBy op.Add (syntax.Constant (pos 1) basic.Int (at 16 6)) (syntax.Identifier (name (codes "y") (at 21 8))) (at 18 7))) (span (at 16 6) (at 22 9))) ∷ [])) (span (at 14 5) (at 24 10))) ∷ [])

-- struct k { const int c; }; struct o { struct k k[2]; }; void g(struct o *p, struct o *q) { *p = *q; }
abbrev pub c10_6 : List syntax.External
c10_6 = (syntax.ExternalDeclaration (syntax.SimpleDeclaration (specs (syntax.Struct (Some (name (codes "k") (at 8 1))) (members (syntax.MemberDeclarators (specs (syntax.QualifierSpec (qualifier qual.Const (at 12 3)) ∷ syntax.TypeSpec type.Int (at 18 4) ∷ [])) (syntax.declarators ((syntax.Named [] (name (codes "c") (at 22 5)) (suffixes [])) ∷ [])) ∷ [])) (at 1 0) ∷ [])) (declared [])) ∷ syntax.ExternalDeclaration (syntax.SimpleDeclaration (specs (syntax.Struct (Some (name (codes "o") (at 35 10))) (members (syntax.MemberDeclarators (specs (syntax.StructTag (name (codes "k") (at 46 13)) (at 39 12) ∷ [])) (syntax.declarators ((syntax.Named [] (name (codes "k") (at 48 14)) (suffixes (syntax.ArraySuffix (syntax.an_expr (syntax.Constant (pos 2) basic.Int (at 50 16))) (at 49 15) ∷ []))) ∷ [])) ∷ [])) (at 28 9) ∷ [])) (declared [])) ∷ syntax.FunctionDefinition (specs (syntax.TypeSpec type.Void (at 57 21) ∷ [])) (syntax.Named [] (name (codes "g") (at 62 22)) (suffixes (syntax.FunctionSuffix (parameters (syntax.parameter (specs (syntax.StructTag (name (codes "o") (at 71 25)) (at 64 24) ∷ [])) (syntax.Named (pointer (at 73 26) [] ∷ []) (name (codes "p") (at 74 27)) (suffixes [])) (at 64 24) ∷ syntax.parameter (specs (syntax.StructTag (name (codes "o") (at 84 30)) (at 77 29) ∷ [])) (syntax.Named (pointer (at 86 31) [] ∷ []) (name (codes "q") (at 87 32)) (suffixes [])) (at 77 29) ∷ [])) false (at 63 23) ∷ []))) (syntax.block (block_items (syntax.StatementItem (syntax.ExpressionStatement (syntax.an_expr (syntax.Assign (syntax.Unary prefix.Indirection (syntax.Identifier (name (codes "p") (at 93 36))) (at 92 35)) (syntax.Unary prefix.Indirection (syntax.Identifier (name (codes "q") (at 98 39))) (at 97 38)) (at 95 37))) (span (at 92 35) (at 99 40))) ∷ [])) (span (at 90 34) (at 101 41))) ∷ [])

-- struct s { int a; }; void g(const struct s *p) { p->a = 1; }
abbrev pub c10_7 : List syntax.External
c10_7 = (syntax.ExternalDeclaration (syntax.SimpleDeclaration (specs (syntax.Struct (Some (name (codes "s") (at 8 1))) (members (syntax.MemberDeclarators (specs (syntax.TypeSpec type.Int (at 12 3) ∷ [])) (syntax.declarators ((syntax.Named [] (name (codes "a") (at 16 4)) (suffixes [])) ∷ [])) ∷ [])) (at 1 0) ∷ [])) (declared [])) ∷ syntax.FunctionDefinition (specs (syntax.TypeSpec type.Void (at 22 8) ∷ [])) (syntax.Named [] (name (codes "g") (at 27 9)) (suffixes (syntax.FunctionSuffix (parameters (syntax.parameter (specs (syntax.QualifierSpec (qualifier qual.Const (at 29 11)) ∷ syntax.StructTag (name (codes "s") (at 42 13)) (at 35 12) ∷ [])) (syntax.Named (pointer (at 44 14) [] ∷ []) (name (codes "p") (at 45 15)) (suffixes [])) (at 29 11) ∷ [])) false (at 28 10) ∷ []))) (syntax.block (block_items (syntax.StatementItem (syntax.ExpressionStatement (syntax.an_expr (syntax.Assign (syntax.Arrow (syntax.Identifier (name (codes "p") (at 50 18))) (name (codes "a") (at 53 20)) (at 51 19)) (syntax.Constant (pos 1) basic.Int (at 57 22)) (at 55 21))) (span (at 50 18) (at 58 23))) ∷ [])) (span (at 48 17) (at 60 24))) ∷ [])

-- struct h; extern struct h x, y; void g(void) { x = (sizeof(struct h { int a; }), y); }
abbrev pub c10_8 : List syntax.External
c10_8 = (syntax.ExternalDeclaration (syntax.SimpleDeclaration (specs (syntax.StructTag (name (codes "h") (at 8 1)) (at 1 0) ∷ [])) (declared [])) ∷ syntax.ExternalDeclaration (syntax.SimpleDeclaration (specs (syntax.StorageSpec storage.Extern (at 11 3) ∷ syntax.StructTag (name (codes "h") (at 25 5)) (at 18 4) ∷ [])) (declared (syntax.init_declarator (syntax.Named [] (name (codes "x") (at 27 6)) (suffixes [])) syntax.no_initializer ∷ syntax.init_declarator (syntax.Named [] (name (codes "y") (at 30 8)) (suffixes [])) syntax.no_initializer ∷ []))) ∷ syntax.FunctionDefinition (specs (syntax.TypeSpec type.Void (at 33 10) ∷ [])) (syntax.Named [] (name (codes "g") (at 38 11)) (suffixes (syntax.FunctionSuffix (parameters (syntax.parameter (specs (syntax.TypeSpec type.Void (at 40 13) ∷ [])) (syntax.Unnamed [] (suffixes [])) (at 40 13) ∷ [])) false (at 39 12) ∷ []))) (syntax.block (block_items (syntax.StatementItem (syntax.ExpressionStatement (syntax.an_expr (syntax.Assign (syntax.Identifier (name (codes "x") (at 48 16))) (syntax.Parenthesized (syntax.Comma (syntax.SizeofType (syntax.type_name (specs (syntax.Struct (Some (name (codes "h") (at 67 22))) (members (syntax.MemberDeclarators (specs (syntax.TypeSpec type.Int (at 71 24) ∷ [])) (syntax.declarators ((syntax.Named [] (name (codes "a") (at 75 25)) (suffixes [])) ∷ [])) ∷ [])) (at 60 21) ∷ [])) (syntax.Unnamed [] (suffixes []))) (at 53 19)) (syntax.Identifier (name (codes "y") (at 82 30))) (at 80 29)) (at 52 18)) (at 50 17))) (span (at 48 16) (at 84 32))) ∷ [])) (span (at 46 15) (at 86 33))) ∷ [])

-- void g(void *const p) { ++p; }
abbrev pub c10_9 : List syntax.External
c10_9 = (syntax.FunctionDefinition (specs (syntax.TypeSpec type.Void (at 1 0) ∷ [])) (syntax.Named [] (name (codes "g") (at 6 1)) (suffixes (syntax.FunctionSuffix (parameters (syntax.parameter (specs (syntax.TypeSpec type.Void (at 8 3) ∷ [])) (syntax.Named (pointer (at 13 4) ((qualifier qual.Const (at 14 5)) ∷ []) ∷ []) (name (codes "p") (at 20 6)) (suffixes [])) (at 8 3) ∷ [])) false (at 7 2) ∷ []))) (syntax.block (block_items (syntax.StatementItem (syntax.ExpressionStatement (syntax.an_expr (syntax.Step step.Increment side.Prefix (syntax.Identifier (name (codes "p") (at 27 10))) (at 25 9))) (span (at 25 9) (at 28 11))) ∷ [])) (span (at 23 8) (at 30 12))) ∷ [])

-- int a[2]; void g(void) { a++; }
abbrev pub c10_10 : List syntax.External
c10_10 = (syntax.ExternalDeclaration (syntax.SimpleDeclaration (specs (syntax.TypeSpec type.Int (at 1 0) ∷ [])) (declared (syntax.init_declarator (syntax.Named [] (name (codes "a") (at 5 1)) (suffixes (syntax.ArraySuffix (syntax.an_expr (syntax.Constant (pos 2) basic.Int (at 7 3))) (at 6 2) ∷ []))) syntax.no_initializer ∷ []))) ∷ syntax.FunctionDefinition (specs (syntax.TypeSpec type.Void (at 11 6) ∷ [])) (syntax.Named [] (name (codes "g") (at 16 7)) (suffixes (syntax.FunctionSuffix (parameters (syntax.parameter (specs (syntax.TypeSpec type.Void (at 18 9) ∷ [])) (syntax.Unnamed [] (suffixes [])) (at 18 9) ∷ [])) false (at 17 8) ∷ []))) (syntax.block (block_items (syntax.StatementItem (syntax.ExpressionStatement (syntax.an_expr (syntax.Step step.Increment side.Postfix (syntax.Identifier (name (codes "a") (at 26 12))) (at 27 13))) (span (at 26 12) (at 29 14))) ∷ [])) (span (at 24 11) (at 31 15))) ∷ [])

-- int f(void); void g(void) { f = 1; }
abbrev pub c10_11 : List syntax.External
c10_11 = (syntax.ExternalDeclaration (syntax.SimpleDeclaration (specs (syntax.TypeSpec type.Int (at 1 0) ∷ [])) (declared (syntax.init_declarator (syntax.Named [] (name (codes "f") (at 5 1)) (suffixes (syntax.FunctionSuffix (parameters (syntax.parameter (specs (syntax.TypeSpec type.Void (at 7 3) ∷ [])) (syntax.Unnamed [] (suffixes [])) (at 7 3) ∷ [])) false (at 6 2) ∷ []))) syntax.no_initializer ∷ []))) ∷ syntax.FunctionDefinition (specs (syntax.TypeSpec type.Void (at 14 6) ∷ [])) (syntax.Named [] (name (codes "g") (at 19 7)) (suffixes (syntax.FunctionSuffix (parameters (syntax.parameter (specs (syntax.TypeSpec type.Void (at 21 9) ∷ [])) (syntax.Unnamed [] (suffixes [])) (at 21 9) ∷ [])) false (at 20 8) ∷ []))) (syntax.block (block_items (syntax.StatementItem (syntax.ExpressionStatement (syntax.an_expr (syntax.Assign (syntax.Identifier (name (codes "f") (at 29 12))) (syntax.Constant (pos 1) basic.Int (at 33 14)) (at 31 13))) (span (at 29 12) (at 34 15))) ∷ [])) (span (at 27 11) (at 36 16))) ∷ [])

-- const int x; void g(void) { x = 1; }
abbrev pub c10_12 : List syntax.External
c10_12 = (syntax.ExternalDeclaration (syntax.SimpleDeclaration (specs (syntax.QualifierSpec (qualifier qual.Const (at 1 0)) ∷ syntax.TypeSpec type.Int (at 7 1) ∷ [])) (declared (syntax.init_declarator (syntax.Named [] (name (codes "x") (at 11 2)) (suffixes [])) syntax.no_initializer ∷ []))) ∷ syntax.FunctionDefinition (specs (syntax.TypeSpec type.Void (at 14 4) ∷ [])) (syntax.Named [] (name (codes "g") (at 19 5)) (suffixes (syntax.FunctionSuffix (parameters (syntax.parameter (specs (syntax.TypeSpec type.Void (at 21 7) ∷ [])) (syntax.Unnamed [] (suffixes [])) (at 21 7) ∷ [])) false (at 20 6) ∷ []))) (syntax.block (block_items (syntax.StatementItem (syntax.ExpressionStatement (syntax.an_expr (syntax.Assign (syntax.Identifier (name (codes "x") (at 29 10))) (syntax.Constant (pos 1) basic.Int (at 33 12)) (at 31 11))) (span (at 29 10) (at 34 13))) ∷ [])) (span (at 27 9) (at 36 14))) ∷ [])

-- struct t { const int a; }; struct s { struct t b[2]; }; void g(struct s x, struct s y) { x = y; }
abbrev pub c10_13 : List syntax.External
c10_13 = (syntax.ExternalDeclaration (syntax.SimpleDeclaration (specs (syntax.Struct (Some (name (codes "t") (at 8 1))) (members (syntax.MemberDeclarators (specs (syntax.QualifierSpec (qualifier qual.Const (at 12 3)) ∷ syntax.TypeSpec type.Int (at 18 4) ∷ [])) (syntax.declarators ((syntax.Named [] (name (codes "a") (at 22 5)) (suffixes [])) ∷ [])) ∷ [])) (at 1 0) ∷ [])) (declared [])) ∷ syntax.ExternalDeclaration (syntax.SimpleDeclaration (specs (syntax.Struct (Some (name (codes "s") (at 35 10))) (members (syntax.MemberDeclarators (specs (syntax.StructTag (name (codes "t") (at 46 13)) (at 39 12) ∷ [])) (syntax.declarators ((syntax.Named [] (name (codes "b") (at 48 14)) (suffixes (syntax.ArraySuffix (syntax.an_expr (syntax.Constant (pos 2) basic.Int (at 50 16))) (at 49 15) ∷ []))) ∷ [])) ∷ [])) (at 28 9) ∷ [])) (declared [])) ∷ syntax.FunctionDefinition (specs (syntax.TypeSpec type.Void (at 57 21) ∷ [])) (syntax.Named [] (name (codes "g") (at 62 22)) (suffixes (syntax.FunctionSuffix (parameters (syntax.parameter (specs (syntax.StructTag (name (codes "s") (at 71 25)) (at 64 24) ∷ [])) (syntax.Named [] (name (codes "x") (at 73 26)) (suffixes [])) (at 64 24) ∷ syntax.parameter (specs (syntax.StructTag (name (codes "s") (at 83 29)) (at 76 28) ∷ [])) (syntax.Named [] (name (codes "y") (at 85 30)) (suffixes [])) (at 76 28) ∷ [])) false (at 63 23) ∷ []))) (syntax.block (block_items (syntax.StatementItem (syntax.ExpressionStatement (syntax.an_expr (syntax.Assign (syntax.Identifier (name (codes "x") (at 90 33))) (syntax.Identifier (name (codes "y") (at 94 35))) (at 92 34))) (span (at 90 33) (at 95 36))) ∷ [])) (span (at 88 32) (at 97 37))) ∷ [])
