-- calls and members: units of one line, as trees.
use Rattle.std.specs.Prelude.{List, [], ◌∷◌, Some, true, false, pos, codes}
use Rattle.model_grammar.specs.SyntaxForms as syntax
use Rattle.model_types.specs.declared.numbers.Basic.TheVariants as basic
use Rattle.model_types.specs.declared.numbers.BinOp.TheVariants as op
use Rattle.model_grammar.specs.declared.syntax.StorageWord.TheVariants as storage
use Rattle.model_grammar.specs.declared.syntax.TypeWord.TheVariants as type
use Rattle.model_grammar.specs.declared.syntax.PrefixOp.TheVariants as prefix
use Rattle.checking_units.specs.Parts.{at, name, specs, pointer, suffixes, parameters, members, declared, block_items, span}

-- void f(int a, ...); void g(void) { f(1, 2, "a"); f(); }
abbrev pub calls_and_members_1 : List syntax.External
calls_and_members_1 = (syntax.ExternalDeclaration (syntax.SimpleDeclaration (specs (syntax.TypeSpec type.Void (at 1 0) ∷ [])) (declared (syntax.init_declarator (syntax.Named [] (name (codes "f") (at 6 1)) (suffixes (syntax.FunctionSuffix (parameters (syntax.parameter (specs (syntax.TypeSpec type.Int (at 8 3) ∷ [])) (syntax.Named [] (name (codes "a") (at 12 4)) (suffixes [])) (at 8 3) ∷ [])) true (at 7 2) ∷ []))) syntax.no_initializer ∷ []))) ∷ syntax.FunctionDefinition (specs (syntax.TypeSpec type.Void (at 21 9) ∷ [])) (syntax.Named [] (name (codes "g") (at 26 10)) (suffixes (syntax.FunctionSuffix (parameters (syntax.parameter (specs (syntax.TypeSpec type.Void (at 28 12) ∷ [])) (syntax.Unnamed [] (suffixes [])) (at 28 12) ∷ [])) false (at 27 11) ∷ []))) (syntax.block (block_items (syntax.StatementItem (syntax.ExpressionStatement (syntax.an_expr (syntax.Call (syntax.Identifier (name (codes "f") (at 36 15))) (syntax.exprs ((syntax.Constant (pos 1) basic.Int (at 38 17)) ∷ (syntax.Constant (pos 2) basic.Int (at 41 19)) ∷ (syntax.Text (codes "a") (at 44 21)) ∷ [])) (at 37 16))) (span (at 36 15) (at 48 23))) ∷ syntax.StatementItem (syntax.ExpressionStatement (syntax.an_expr (syntax.Call (syntax.Identifier (name (codes "f") (at 50 24))) (syntax.exprs []) (at 51 25))) (span (at 50 24) (at 53 27))) ∷ [])) (span (at 34 14) (at 55 28))) ∷ [])

-- void g(void (*p)(int)) { p(1); (*p)(2); (**p)(); }
abbrev pub calls_and_members_2 : List syntax.External
calls_and_members_2 = (syntax.FunctionDefinition (specs (syntax.TypeSpec type.Void (at 1 0) ∷ [])) (syntax.Named [] (name (codes "g") (at 6 1)) (suffixes (syntax.FunctionSuffix (parameters (syntax.parameter (specs (syntax.TypeSpec type.Void (at 8 3) ∷ [])) (syntax.Grouped [] (syntax.Named (pointer (at 14 5) [] ∷ []) (name (codes "p") (at 15 6)) (suffixes [])) (suffixes (syntax.FunctionSuffix (parameters (syntax.parameter (specs (syntax.TypeSpec type.Int (at 18 9) ∷ [])) (syntax.Unnamed [] (suffixes [])) (at 18 9) ∷ [])) false (at 17 8) ∷ [])) (at 13 4)) (at 8 3) ∷ [])) false (at 7 2) ∷ []))) (syntax.block (block_items (syntax.StatementItem (syntax.ExpressionStatement (syntax.an_expr (syntax.Call (syntax.Identifier (name (codes "p") (at 26 13))) (syntax.exprs ((syntax.Constant (pos 1) basic.Int (at 28 15)) ∷ [])) (at 27 14))) (span (at 26 13) (at 30 17))) ∷ syntax.StatementItem (syntax.ExpressionStatement (syntax.an_expr (syntax.Call (syntax.Parenthesized (syntax.Unary prefix.Indirection (syntax.Identifier (name (codes "p") (at 34 20))) (at 33 19)) (at 32 18)) (syntax.exprs ((syntax.Constant (pos 2) basic.Int (at 37 23)) ∷ [])) (at 36 22))) (span (at 32 18) (at 39 25))) ∷ syntax.StatementItem (syntax.ExpressionStatement (syntax.an_expr (syntax.Call (syntax.Parenthesized (syntax.Unary prefix.Indirection (syntax.Unary prefix.Indirection (syntax.Identifier (name (codes "p") (at 44 29))) (at 43 28)) (at 42 27)) (at 41 26)) (syntax.exprs []) (at 46 31))) (span (at 41 26) (at 48 33))) ∷ [])) (span (at 24 12) (at 50 34))) ∷ [])

-- int f(int); void g(void) { f(nullptr); }
abbrev pub calls_and_members_3 : List syntax.External
calls_and_members_3 = (syntax.ExternalDeclaration (syntax.SimpleDeclaration (specs (syntax.TypeSpec type.Int (at 1 0) ∷ [])) (declared (syntax.init_declarator (syntax.Named [] (name (codes "f") (at 5 1)) (suffixes (syntax.FunctionSuffix (parameters (syntax.parameter (specs (syntax.TypeSpec type.Int (at 7 3) ∷ [])) (syntax.Unnamed [] (suffixes [])) (at 7 3) ∷ [])) false (at 6 2) ∷ []))) syntax.no_initializer ∷ []))) ∷ syntax.FunctionDefinition (specs (syntax.TypeSpec type.Void (at 13 6) ∷ [])) (syntax.Named [] (name (codes "g") (at 18 7)) (suffixes (syntax.FunctionSuffix (parameters (syntax.parameter (specs (syntax.TypeSpec type.Void (at 20 9) ∷ [])) (syntax.Unnamed [] (suffixes [])) (at 20 9) ∷ [])) false (at 19 8) ∷ []))) (syntax.block (block_items (syntax.StatementItem (syntax.ExpressionStatement (syntax.an_expr (syntax.Call (syntax.Identifier (name (codes "f") (at 28 12))) (syntax.exprs ((syntax.Nullptr (at 30 14)) ∷ [])) (at 29 13))) (span (at 28 12) (at 38 16))) ∷ [])) (span (at 26 11) (at 40 17))) ∷ [])

-- struct h; extern struct h x; int f(int, ...); void g(void) { f(1, x); }
abbrev pub calls_and_members_4 : List syntax.External
calls_and_members_4 = (syntax.ExternalDeclaration (syntax.SimpleDeclaration (specs (syntax.StructTag (name (codes "h") (at 8 1)) (at 1 0) ∷ [])) (declared [])) ∷ syntax.ExternalDeclaration (syntax.SimpleDeclaration (specs (syntax.StorageSpec storage.Extern (at 11 3) ∷ syntax.StructTag (name (codes "h") (at 25 5)) (at 18 4) ∷ [])) (declared (syntax.init_declarator (syntax.Named [] (name (codes "x") (at 27 6)) (suffixes [])) syntax.no_initializer ∷ []))) ∷ syntax.ExternalDeclaration (syntax.SimpleDeclaration (specs (syntax.TypeSpec type.Int (at 30 8) ∷ [])) (declared (syntax.init_declarator (syntax.Named [] (name (codes "f") (at 34 9)) (suffixes (syntax.FunctionSuffix (parameters (syntax.parameter (specs (syntax.TypeSpec type.Int (at 36 11) ∷ [])) (syntax.Unnamed [] (suffixes [])) (at 36 11) ∷ [])) true (at 35 10) ∷ []))) syntax.no_initializer ∷ []))) ∷ syntax.FunctionDefinition (specs (syntax.TypeSpec type.Void (at 47 16) ∷ [])) (syntax.Named [] (name (codes "g") (at 52 17)) (suffixes (syntax.FunctionSuffix (parameters (syntax.parameter (specs (syntax.TypeSpec type.Void (at 54 19) ∷ [])) (syntax.Unnamed [] (suffixes [])) (at 54 19) ∷ [])) false (at 53 18) ∷ []))) (syntax.block (block_items (syntax.StatementItem (syntax.ExpressionStatement (syntax.an_expr (syntax.Call (syntax.Identifier (name (codes "f") (at 62 22))) (syntax.exprs ((syntax.Constant (pos 1) basic.Int (at 64 24)) ∷ (syntax.Identifier (name (codes "x") (at 67 26))) ∷ [])) (at 63 23))) (span (at 62 22) (at 69 28))) ∷ [])) (span (at 60 21) (at 71 29))) ∷ [])

-- struct s { struct t { int c; } t; int a[2]; }; int g(struct s *p) { return p->t.c + p->a[1] + (*p).t.c; }
abbrev pub calls_and_members_5 : List syntax.External
calls_and_members_5 = (syntax.ExternalDeclaration (syntax.SimpleDeclaration (specs (syntax.Struct (Some (name (codes "s") (at 8 1))) (members (syntax.MemberDeclarators (specs (syntax.Struct (Some (name (codes "t") (at 19 4))) (members (syntax.MemberDeclarators (specs (syntax.TypeSpec type.Int (at 23 6) ∷ [])) (syntax.declarators ((syntax.Named [] (name (codes "c") (at 27 7)) (suffixes [])) ∷ [])) ∷ [])) (at 12 3) ∷ [])) (syntax.declarators ((syntax.Named [] (name (codes "t") (at 32 10)) (suffixes [])) ∷ [])) ∷ syntax.MemberDeclarators (specs (syntax.TypeSpec type.Int (at 35 12) ∷ [])) (syntax.declarators ((syntax.Named [] (name (codes "a") (at 39 13)) (suffixes (syntax.ArraySuffix (syntax.an_expr (syntax.Constant (pos 2) basic.Int (at 41 15))) (at 40 14) ∷ []))) ∷ [])) ∷ [])) (at 1 0) ∷ [])) (declared [])) ∷ syntax.FunctionDefinition (specs (syntax.TypeSpec type.Int (at 48 20) ∷ [])) (syntax.Named [] (name (codes "g") (at 52 21)) (suffixes (syntax.FunctionSuffix (parameters (syntax.parameter (specs (syntax.StructTag (name (codes "s") (at 61 24)) (at 54 23) ∷ [])) (syntax.Named (pointer (at 63 25) [] ∷ []) (name (codes "p") (at 64 26)) (suffixes [])) (at 54 23) ∷ [])) false (at 53 22) ∷ []))) (syntax.block (block_items (syntax.StatementItem (syntax.Return (syntax.an_expr (syntax.Binary op.Add (syntax.Binary op.Add (syntax.Member (syntax.Arrow (syntax.Identifier (name (codes "p") (at 76 30))) (name (codes "t") (at 79 32)) (at 77 31)) (name (codes "c") (at 81 34)) (at 80 33)) (syntax.Index (syntax.Arrow (syntax.Identifier (name (codes "p") (at 85 36))) (name (codes "a") (at 88 38)) (at 86 37)) (syntax.Constant (pos 1) basic.Int (at 90 40)) (at 89 39)) (at 83 35)) (syntax.Member (syntax.Member (syntax.Parenthesized (syntax.Unary prefix.Indirection (syntax.Identifier (name (codes "p") (at 97 45))) (at 96 44)) (at 95 43)) (name (codes "t") (at 100 48)) (at 99 47)) (name (codes "c") (at 102 50)) (at 101 49)) (at 93 42))) (at 69 29) (span (at 69 29) (at 103 51))) ∷ [])) (span (at 67 28) (at 105 52))) ∷ [])

-- struct s { int a; }; void g(struct s *p) { p.a; }
abbrev pub calls_and_members_6 : List syntax.External
calls_and_members_6 = (syntax.ExternalDeclaration (syntax.SimpleDeclaration (specs (syntax.Struct (Some (name (codes "s") (at 8 1))) (members (syntax.MemberDeclarators (specs (syntax.TypeSpec type.Int (at 12 3) ∷ [])) (syntax.declarators ((syntax.Named [] (name (codes "a") (at 16 4)) (suffixes [])) ∷ [])) ∷ [])) (at 1 0) ∷ [])) (declared [])) ∷ syntax.FunctionDefinition (specs (syntax.TypeSpec type.Void (at 22 8) ∷ [])) (syntax.Named [] (name (codes "g") (at 27 9)) (suffixes (syntax.FunctionSuffix (parameters (syntax.parameter (specs (syntax.StructTag (name (codes "s") (at 36 12)) (at 29 11) ∷ [])) (syntax.Named (pointer (at 38 13) [] ∷ []) (name (codes "p") (at 39 14)) (suffixes [])) (at 29 11) ∷ [])) false (at 28 10) ∷ []))) (syntax.block (block_items (syntax.StatementItem (syntax.ExpressionStatement (syntax.an_expr (syntax.Member (syntax.Identifier (name (codes "p") (at 44 17))) (name (codes "a") (at 46 19)) (at 45 18))) (span (at 44 17) (at 47 20))) ∷ [])) (span (at 42 16) (at 49 21))) ∷ [])

-- struct s { int a; } x; void g(void) { x->a; }
abbrev pub calls_and_members_7 : List syntax.External
calls_and_members_7 = (syntax.ExternalDeclaration (syntax.SimpleDeclaration (specs (syntax.Struct (Some (name (codes "s") (at 8 1))) (members (syntax.MemberDeclarators (specs (syntax.TypeSpec type.Int (at 12 3) ∷ [])) (syntax.declarators ((syntax.Named [] (name (codes "a") (at 16 4)) (suffixes [])) ∷ [])) ∷ [])) (at 1 0) ∷ [])) (declared (syntax.init_declarator (syntax.Named [] (name (codes "x") (at 21 7)) (suffixes [])) syntax.no_initializer ∷ []))) ∷ syntax.FunctionDefinition (specs (syntax.TypeSpec type.Void (at 24 9) ∷ [])) (syntax.Named [] (name (codes "g") (at 29 10)) (suffixes (syntax.FunctionSuffix (parameters (syntax.parameter (specs (syntax.TypeSpec type.Void (at 31 12) ∷ [])) (syntax.Unnamed [] (suffixes [])) (at 31 12) ∷ [])) false (at 30 11) ∷ []))) (syntax.block (block_items (syntax.StatementItem (syntax.ExpressionStatement (syntax.an_expr (syntax.Arrow (syntax.Identifier (name (codes "x") (at 39 15))) (name (codes "a") (at 42 17)) (at 40 16))) (span (at 39 15) (at 43 18))) ∷ [])) (span (at 37 14) (at 45 19))) ∷ [])

-- struct s { int a; } x, y; void g(int c) { x = c ? x : y; (c ? x : y).a; }
abbrev pub calls_and_members_8 : List syntax.External
calls_and_members_8 = (syntax.ExternalDeclaration (syntax.SimpleDeclaration (specs (syntax.Struct (Some (name (codes "s") (at 8 1))) (members (syntax.MemberDeclarators (specs (syntax.TypeSpec type.Int (at 12 3) ∷ [])) (syntax.declarators ((syntax.Named [] (name (codes "a") (at 16 4)) (suffixes [])) ∷ [])) ∷ [])) (at 1 0) ∷ [])) (declared (syntax.init_declarator (syntax.Named [] (name (codes "x") (at 21 7)) (suffixes [])) syntax.no_initializer ∷ syntax.init_declarator (syntax.Named [] (name (codes "y") (at 24 9)) (suffixes [])) syntax.no_initializer ∷ []))) ∷ syntax.FunctionDefinition (specs (syntax.TypeSpec type.Void (at 27 11) ∷ [])) (syntax.Named [] (name (codes "g") (at 32 12)) (suffixes (syntax.FunctionSuffix (parameters (syntax.parameter (specs (syntax.TypeSpec type.Int (at 34 14) ∷ [])) (syntax.Named [] (name (codes "c") (at 38 15)) (suffixes [])) (at 34 14) ∷ [])) false (at 33 13) ∷ []))) (syntax.block (block_items (syntax.StatementItem (syntax.ExpressionStatement (syntax.an_expr (syntax.Assign (syntax.Identifier (name (codes "x") (at 43 18))) (syntax.Conditional (syntax.Identifier (name (codes "c") (at 47 20))) (syntax.Identifier (name (codes "x") (at 51 22))) (syntax.Identifier (name (codes "y") (at 55 24))) (at 49 21)) (at 45 19))) (span (at 43 18) (at 56 25))) ∷ syntax.StatementItem (syntax.ExpressionStatement (syntax.an_expr (syntax.Member (syntax.Parenthesized (syntax.Conditional (syntax.Identifier (name (codes "c") (at 59 27))) (syntax.Identifier (name (codes "x") (at 63 29))) (syntax.Identifier (name (codes "y") (at 67 31))) (at 61 28)) (at 58 26)) (name (codes "a") (at 70 34)) (at 69 33))) (span (at 58 26) (at 71 35))) ∷ [])) (span (at 41 17) (at 73 36))) ∷ [])

-- void g(int c, void (*f)(void)) { int *p = c ? nullptr : 0; int *q = c ? 0 : (void *)0; void (*h)(void) = c ? f : 0; }
abbrev pub calls_and_members_9 : List syntax.External
calls_and_members_9 = (syntax.FunctionDefinition (specs (syntax.TypeSpec type.Void (at 1 0) ∷ [])) (syntax.Named [] (name (codes "g") (at 6 1)) (suffixes (syntax.FunctionSuffix (parameters (syntax.parameter (specs (syntax.TypeSpec type.Int (at 8 3) ∷ [])) (syntax.Named [] (name (codes "c") (at 12 4)) (suffixes [])) (at 8 3) ∷ syntax.parameter (specs (syntax.TypeSpec type.Void (at 15 6) ∷ [])) (syntax.Grouped [] (syntax.Named (pointer (at 21 8) [] ∷ []) (name (codes "f") (at 22 9)) (suffixes [])) (suffixes (syntax.FunctionSuffix (parameters (syntax.parameter (specs (syntax.TypeSpec type.Void (at 25 12) ∷ [])) (syntax.Unnamed [] (suffixes [])) (at 25 12) ∷ [])) false (at 24 11) ∷ [])) (at 20 7)) (at 15 6) ∷ [])) false (at 7 2) ∷ []))) (syntax.block (block_items (syntax.DeclarationItem (syntax.SimpleDeclaration (specs (syntax.TypeSpec type.Int (at 34 16) ∷ [])) (declared (syntax.init_declarator (syntax.Named (pointer (at 38 17) [] ∷ []) (name (codes "p") (at 39 18)) (suffixes [])) (syntax.an_initializer (syntax.Single (syntax.Conditional (syntax.Identifier (name (codes "c") (at 43 20))) (syntax.Nullptr (at 47 22)) (syntax.Constant (pos 0) basic.Int (at 57 24)) (at 45 21)))) ∷ []))) ∷ syntax.DeclarationItem (syntax.SimpleDeclaration (specs (syntax.TypeSpec type.Int (at 60 26) ∷ [])) (declared (syntax.init_declarator (syntax.Named (pointer (at 64 27) [] ∷ []) (name (codes "q") (at 65 28)) (suffixes [])) (syntax.an_initializer (syntax.Single (syntax.Conditional (syntax.Identifier (name (codes "c") (at 69 30))) (syntax.Constant (pos 0) basic.Int (at 73 32)) (syntax.Cast (syntax.type_name (specs (syntax.TypeSpec type.Void (at 78 35) ∷ [])) (syntax.Unnamed (pointer (at 83 36) [] ∷ []) (suffixes []))) (syntax.Constant (pos 0) basic.Int (at 85 38)) (at 77 34)) (at 71 31)))) ∷ []))) ∷ syntax.DeclarationItem (syntax.SimpleDeclaration (specs (syntax.TypeSpec type.Void (at 88 40) ∷ [])) (declared (syntax.init_declarator (syntax.Grouped [] (syntax.Named (pointer (at 94 42) [] ∷ []) (name (codes "h") (at 95 43)) (suffixes [])) (suffixes (syntax.FunctionSuffix (parameters (syntax.parameter (specs (syntax.TypeSpec type.Void (at 98 46) ∷ [])) (syntax.Unnamed [] (suffixes [])) (at 98 46) ∷ [])) false (at 97 45) ∷ [])) (at 93 41)) (syntax.an_initializer (syntax.Single (syntax.Conditional (syntax.Identifier (name (codes "c") (at 106 49))) (syntax.Identifier (name (codes "f") (at 110 51))) (syntax.Constant (pos 0) basic.Int (at 114 53)) (at 108 50)))) ∷ []))) ∷ [])) (span (at 32 15) (at 117 55))) ∷ [])

-- void g(int c, int (*p)[], int (*q)[3]) { int (*r)[3] = c ? p : q; }
abbrev pub calls_and_members_10 : List syntax.External
calls_and_members_10 = (syntax.FunctionDefinition (specs (syntax.TypeSpec type.Void (at 1 0) ∷ [])) (syntax.Named [] (name (codes "g") (at 6 1)) (suffixes (syntax.FunctionSuffix (parameters (syntax.parameter (specs (syntax.TypeSpec type.Int (at 8 3) ∷ [])) (syntax.Named [] (name (codes "c") (at 12 4)) (suffixes [])) (at 8 3) ∷ syntax.parameter (specs (syntax.TypeSpec type.Int (at 15 6) ∷ [])) (syntax.Grouped [] (syntax.Named (pointer (at 20 8) [] ∷ []) (name (codes "p") (at 21 9)) (suffixes [])) (suffixes (syntax.ArraySuffix syntax.no_expr (at 23 11) ∷ [])) (at 19 7)) (at 15 6) ∷ syntax.parameter (specs (syntax.TypeSpec type.Int (at 27 14) ∷ [])) (syntax.Grouped [] (syntax.Named (pointer (at 32 16) [] ∷ []) (name (codes "q") (at 33 17)) (suffixes [])) (suffixes (syntax.ArraySuffix (syntax.an_expr (syntax.Constant (pos 3) basic.Int (at 36 20))) (at 35 19) ∷ [])) (at 31 15)) (at 27 14) ∷ [])) false (at 7 2) ∷ []))) (syntax.block (block_items (syntax.DeclarationItem (syntax.SimpleDeclaration (specs (syntax.TypeSpec type.Int (at 42 24) ∷ [])) (declared (syntax.init_declarator (syntax.Grouped [] (syntax.Named (pointer (at 47 26) [] ∷ []) (name (codes "r") (at 48 27)) (suffixes [])) (suffixes (syntax.ArraySuffix (syntax.an_expr (syntax.Constant (pos 3) basic.Int (at 51 30))) (at 50 29) ∷ [])) (at 46 25)) (syntax.an_initializer (syntax.Single (syntax.Conditional (syntax.Identifier (name (codes "c") (at 56 33))) (syntax.Identifier (name (codes "p") (at 60 35))) (syntax.Identifier (name (codes "q") (at 64 37))) (at 58 34)))) ∷ []))) ∷ [])) (span (at 40 23) (at 67 39))) ∷ [])
