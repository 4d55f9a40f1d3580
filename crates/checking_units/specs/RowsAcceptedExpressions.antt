-- accepted: expressions: units of one line, as trees.
use Rattle.std.specs.Prelude.{List, [], ◌∷◌, Some, true, false, pos, codes}
use Rattle.model_grammar.specs.SyntaxForms as syntax
use Rattle.model_types.specs.declared.numbers.Basic.TheVariants as basic
use Rattle.model_types.specs.declared.numbers.BinOp.TheVariants as op
use Rattle.model_grammar.specs.declared.syntax.StorageWord.TheVariants as storage
use Rattle.model_grammar.specs.declared.syntax.TypeWord.TheVariants as type
use Rattle.model_grammar.specs.declared.syntax.QualifierWord.TheVariants as qual
use Rattle.model_grammar.specs.declared.syntax.PrefixOp.TheVariants as prefix
use Rattle.checking_units.specs.Parts.{at, name, specs, qualifier, pointer, suffixes, parameters, members, enumerators, declared, block_items, span}

-- int f(void); void g(void) { *f; **f; (***f)(); (&f)(); }
abbrev pub accepted_expressions_1 : List syntax.External
accepted_expressions_1 = (syntax.ExternalDeclaration (syntax.SimpleDeclaration (specs (syntax.TypeSpec type.Int (at 1 0) ∷ [])) (declared (syntax.init_declarator (syntax.Named [] (name (codes "f") (at 5 1)) (suffixes (syntax.FunctionSuffix (parameters (syntax.parameter (specs (syntax.TypeSpec type.Void (at 7 3) ∷ [])) (syntax.Unnamed [] (suffixes [])) (at 7 3) ∷ [])) false (at 6 2) ∷ []))) syntax.no_initializer ∷ []))) ∷ syntax.FunctionDefinition (specs (syntax.TypeSpec type.Void (at 14 6) ∷ [])) (syntax.Named [] (name (codes "g") (at 19 7)) (suffixes (syntax.FunctionSuffix (parameters (syntax.parameter (specs (syntax.TypeSpec type.Void (at 21 9) ∷ [])) (syntax.Unnamed [] (suffixes [])) (at 21 9) ∷ [])) false (at 20 8) ∷ []))) (syntax.block (block_items (syntax.StatementItem (syntax.ExpressionStatement (syntax.an_expr (syntax.Unary prefix.Indirection (syntax.Identifier (name (codes "f") (at 30 13))) (at 29 12))) (span (at 29 12) (at 31 14))) ∷ syntax.StatementItem (syntax.ExpressionStatement (syntax.an_expr (syntax.Unary prefix.Indirection (syntax.Unary prefix.Indirection (syntax.Identifier (name (codes "f") (at 35 17))) (at 34 16)) (at 33 15))) (span (at 33 15) (at 36 18))) ∷ syntax.StatementItem (syntax.ExpressionStatement (syntax.an_expr (syntax.Call (syntax.Parenthesized (syntax.Unary prefix.Indirection (syntax.Unary prefix.Indirection (syntax.Unary prefix.Indirection (syntax.Identifier (name (codes "f") (at 42 23))) (at 41 22)) (at 40 21)) (at 39 20)) (at 38 19)) (syntax.exprs []) (at 44 25))) (span (at 38 19) (at 46 27))) ∷ syntax.StatementItem (syntax.ExpressionStatement (syntax.an_expr (syntax.Call (syntax.Parenthesized (syntax.Unary prefix.Address (syntax.Identifier (name (codes "f") (at 50 30))) (at 49 29)) (at 48 28)) (syntax.exprs []) (at 52 32))) (span (at 48 28) (at 54 34))) ∷ [])) (span (at 27 11) (at 56 35))) ∷ [])

-- int f(void); int (*p)(void); void g(void) { *p; **p; (*p)(); p = *f; p = &f; p = &*p; }
abbrev pub accepted_expressions_2 : List syntax.External
accepted_expressions_2 = (syntax.ExternalDeclaration (syntax.SimpleDeclaration (specs (syntax.TypeSpec type.Int (at 1 0) ∷ [])) (declared (syntax.init_declarator (syntax.Named [] (name (codes "f") (at 5 1)) (suffixes (syntax.FunctionSuffix (parameters (syntax.parameter (specs (syntax.TypeSpec type.Void (at 7 3) ∷ [])) (syntax.Unnamed [] (suffixes [])) (at 7 3) ∷ [])) false (at 6 2) ∷ []))) syntax.no_initializer ∷ []))) ∷ syntax.ExternalDeclaration (syntax.SimpleDeclaration (specs (syntax.TypeSpec type.Int (at 14 6) ∷ [])) (declared (syntax.init_declarator (syntax.Grouped [] (syntax.Named (pointer (at 19 8) [] ∷ []) (name (codes "p") (at 20 9)) (suffixes [])) (suffixes (syntax.FunctionSuffix (parameters (syntax.parameter (specs (syntax.TypeSpec type.Void (at 23 12) ∷ [])) (syntax.Unnamed [] (suffixes [])) (at 23 12) ∷ [])) false (at 22 11) ∷ [])) (at 18 7)) syntax.no_initializer ∷ []))) ∷ syntax.FunctionDefinition (specs (syntax.TypeSpec type.Void (at 30 15) ∷ [])) (syntax.Named [] (name (codes "g") (at 35 16)) (suffixes (syntax.FunctionSuffix (parameters (syntax.parameter (specs (syntax.TypeSpec type.Void (at 37 18) ∷ [])) (syntax.Unnamed [] (suffixes [])) (at 37 18) ∷ [])) false (at 36 17) ∷ []))) (syntax.block (block_items (syntax.StatementItem (syntax.ExpressionStatement (syntax.an_expr (syntax.Unary prefix.Indirection (syntax.Identifier (name (codes "p") (at 46 22))) (at 45 21))) (span (at 45 21) (at 47 23))) ∷ syntax.StatementItem (syntax.ExpressionStatement (syntax.an_expr (syntax.Unary prefix.Indirection (syntax.Unary prefix.Indirection (syntax.Identifier (name (codes "p") (at 51 26))) (at 50 25)) (at 49 24))) (span (at 49 24) (at 52 27))) ∷ syntax.StatementItem (syntax.ExpressionStatement (syntax.an_expr (syntax.Call (syntax.Parenthesized (syntax.Unary prefix.Indirection (syntax.Identifier (name (codes "p") (at 56 30))) (at 55 29)) (at 54 28)) (syntax.exprs []) (at 58 32))) (span (at 54 28) (at 60 34))) ∷ syntax.StatementItem (syntax.ExpressionStatement (syntax.an_expr (syntax.Assign (syntax.Identifier (name (codes "p") (at 62 35))) (syntax.Unary prefix.Indirection (syntax.Identifier (name (codes "f") (at 67 38))) (at 66 37)) (at 64 36))) (span (at 62 35) (at 68 39))) ∷ syntax.StatementItem (syntax.ExpressionStatement (syntax.an_expr (syntax.Assign (syntax.Identifier (name (codes "p") (at 70 40))) (syntax.Unary prefix.Address (syntax.Identifier (name (codes "f") (at 75 43))) (at 74 42)) (at 72 41))) (span (at 70 40) (at 76 44))) ∷ syntax.StatementItem (syntax.ExpressionStatement (syntax.an_expr (syntax.Assign (syntax.Identifier (name (codes "p") (at 78 45))) (syntax.Unary prefix.Address (syntax.Unary prefix.Indirection (syntax.Identifier (name (codes "p") (at 84 49))) (at 83 48)) (at 82 47)) (at 80 46))) (span (at 78 45) (at 85 50))) ∷ [])) (span (at 43 20) (at 87 51))) ∷ [])

-- int (*p)(void); unsigned long g(void) { return sizeof p; }
abbrev pub accepted_expressions_3 : List syntax.External
accepted_expressions_3 = (syntax.ExternalDeclaration (syntax.SimpleDeclaration (specs (syntax.TypeSpec type.Int (at 1 0) ∷ [])) (declared (syntax.init_declarator (syntax.Grouped [] (syntax.Named (pointer (at 6 2) [] ∷ []) (name (codes "p") (at 7 3)) (suffixes [])) (suffixes (syntax.FunctionSuffix (parameters (syntax.parameter (specs (syntax.TypeSpec type.Void (at 10 6) ∷ [])) (syntax.Unnamed [] (suffixes [])) (at 10 6) ∷ [])) false (at 9 5) ∷ [])) (at 5 1)) syntax.no_initializer ∷ []))) ∷ syntax.FunctionDefinition (specs (syntax.TypeSpec type.Unsigned (at 17 9) ∷ syntax.TypeSpec type.Long (at 26 10) ∷ [])) (syntax.Named [] (name (codes "g") (at 31 11)) (suffixes (syntax.FunctionSuffix (parameters (syntax.parameter (specs (syntax.TypeSpec type.Void (at 33 13) ∷ [])) (syntax.Unnamed [] (suffixes [])) (at 33 13) ∷ [])) false (at 32 12) ∷ []))) (syntax.block (block_items (syntax.StatementItem (syntax.Return (syntax.an_expr (syntax.SizeofExpr (syntax.Identifier (name (codes "p") (at 55 18))) (at 48 17))) (at 41 16) (span (at 41 16) (at 56 19))) ∷ [])) (span (at 39 15) (at 58 20))) ∷ [])

-- void g(char *p, const char *q) { p == q; }
abbrev pub accepted_expressions_4 : List syntax.External
accepted_expressions_4 = (syntax.FunctionDefinition (specs (syntax.TypeSpec type.Void (at 1 0) ∷ [])) (syntax.Named [] (name (codes "g") (at 6 1)) (suffixes (syntax.FunctionSuffix (parameters (syntax.parameter (specs (syntax.TypeSpec type.Char (at 8 3) ∷ [])) (syntax.Named (pointer (at 13 4) [] ∷ []) (name (codes "p") (at 14 5)) (suffixes [])) (at 8 3) ∷ syntax.parameter (specs (syntax.QualifierSpec (qualifier qual.Const (at 17 7)) ∷ syntax.TypeSpec type.Char (at 23 8) ∷ [])) (syntax.Named (pointer (at 28 9) [] ∷ []) (name (codes "q") (at 29 10)) (suffixes [])) (at 17 7) ∷ [])) false (at 7 2) ∷ []))) (syntax.block (block_items (syntax.StatementItem (syntax.ExpressionStatement (syntax.an_expr (syntax.Binary op.Equal (syntax.Identifier (name (codes "p") (at 34 13))) (syntax.Identifier (name (codes "q") (at 39 15))) (at 36 14))) (span (at 34 13) (at 40 16))) ∷ [])) (span (at 32 12) (at 42 17))) ∷ [])

-- void g(char *p) { p < 0; }
abbrev pub accepted_expressions_5 : List syntax.External
accepted_expressions_5 = (syntax.FunctionDefinition (specs (syntax.TypeSpec type.Void (at 1 0) ∷ [])) (syntax.Named [] (name (codes "g") (at 6 1)) (suffixes (syntax.FunctionSuffix (parameters (syntax.parameter (specs (syntax.TypeSpec type.Char (at 8 3) ∷ [])) (syntax.Named (pointer (at 13 4) [] ∷ []) (name (codes "p") (at 14 5)) (suffixes [])) (at 8 3) ∷ [])) false (at 7 2) ∷ []))) (syntax.block (block_items (syntax.StatementItem (syntax.ExpressionStatement (syntax.an_expr (syntax.Binary op.Less (syntax.Identifier (name (codes "p") (at 19 8))) (syntax.Constant (pos 0) basic.Int (at 23 10)) (at 21 9))) (span (at 19 8) (at 24 11))) ∷ [])) (span (at 17 7) (at 26 12))) ∷ [])

-- void g(void) { constexpr void *np = nullptr; int *f = np; }
abbrev pub accepted_expressions_6 : List syntax.External
accepted_expressions_6 = (syntax.FunctionDefinition (specs (syntax.TypeSpec type.Void (at 1 0) ∷ [])) (syntax.Named [] (name (codes "g") (at 6 1)) (suffixes (syntax.FunctionSuffix (parameters (syntax.parameter (specs (syntax.TypeSpec type.Void (at 8 3) ∷ [])) (syntax.Unnamed [] (suffixes [])) (at 8 3) ∷ [])) false (at 7 2) ∷ []))) (syntax.block (block_items (syntax.DeclarationItem (syntax.SimpleDeclaration (specs (syntax.StorageSpec storage.Constexpr (at 16 6) ∷ syntax.TypeSpec type.Void (at 26 7) ∷ [])) (declared (syntax.init_declarator (syntax.Named (pointer (at 31 8) [] ∷ []) (name (codes "np") (at 32 9)) (suffixes [])) (syntax.an_initializer (syntax.Single (syntax.Nullptr (at 37 11)))) ∷ []))) ∷ syntax.DeclarationItem (syntax.SimpleDeclaration (specs (syntax.TypeSpec type.Int (at 46 13) ∷ [])) (declared (syntax.init_declarator (syntax.Named (pointer (at 50 14) [] ∷ []) (name (codes "f") (at 51 15)) (suffixes [])) (syntax.an_initializer (syntax.Single (syntax.Identifier (name (codes "np") (at 55 17))))) ∷ []))) ∷ [])) (span (at 14 5) (at 59 19))) ∷ [])

-- void g(void) { void (*f)(void) = (void *)0; void (*h)(void) = '\0'; void (*i)(void) = false; void (*k)(void) = 1 - 1; }
abbrev pub accepted_expressions_7 : List syntax.External
accepted_expressions_7 = (syntax.FunctionDefinition (specs (syntax.TypeSpec type.Void (at 1 0) ∷ [])) (syntax.Named [] (name (codes "g") (at 6 1)) (suffixes (syntax.FunctionSuffix (parameters (syntax.parameter (specs (syntax.TypeSpec type.Void (at 8 3) ∷ [])) (syntax.Unnamed [] (suffixes [])) (at 8 3) ∷ [])) false (at 7 2) ∷ []))) (syntax.block (block_items (syntax.DeclarationItem (syntax.SimpleDeclaration (specs (syntax.TypeSpec type.Void (at 16 6) ∷ [])) (declared (syntax.init_declarator (syntax.Grouped [] (syntax.Named (pointer (at 22 8) [] ∷ []) (name (codes "f") (at 23 9)) (suffixes [])) (suffixes (syntax.FunctionSuffix (parameters (syntax.parameter (specs (syntax.TypeSpec type.Void (at 26 12) ∷ [])) (syntax.Unnamed [] (suffixes [])) (at 26 12) ∷ [])) false (at 25 11) ∷ [])) (at 21 7)) (syntax.an_initializer (syntax.Single (syntax.Cast (syntax.type_name (specs (syntax.TypeSpec type.Void (at 35 16) ∷ [])) (syntax.Unnamed (pointer (at 40 17) [] ∷ []) (suffixes []))) (syntax.Constant (pos 0) basic.Int (at 42 19)) (at 34 15)))) ∷ []))) ∷ syntax.DeclarationItem (syntax.SimpleDeclaration (specs (syntax.TypeSpec type.Void (at 45 21) ∷ [])) (declared (syntax.init_declarator (syntax.Grouped [] (syntax.Named (pointer (at 51 23) [] ∷ []) (name (codes "h") (at 52 24)) (suffixes [])) (suffixes (syntax.FunctionSuffix (parameters (syntax.parameter (specs (syntax.TypeSpec type.Void (at 55 27) ∷ [])) (syntax.Unnamed [] (suffixes [])) (at 55 27) ∷ [])) false (at 54 26) ∷ [])) (at 50 22)) (syntax.an_initializer (syntax.Single (syntax.Constant (pos 0) basic.Int (at 63 30)))) ∷ []))) ∷ syntax.DeclarationItem (syntax.SimpleDeclaration (specs (syntax.TypeSpec type.Void (at 69 32) ∷ [])) (declared (syntax.init_declarator (syntax.Grouped [] (syntax.Named (pointer (at 75 34) [] ∷ []) (name (codes "i") (at 76 35)) (suffixes [])) (suffixes (syntax.FunctionSuffix (parameters (syntax.parameter (specs (syntax.TypeSpec type.Void (at 79 38) ∷ [])) (syntax.Unnamed [] (suffixes [])) (at 79 38) ∷ [])) false (at 78 37) ∷ [])) (at 74 33)) (syntax.an_initializer (syntax.Single (syntax.Truth false (at 87 41)))) ∷ []))) ∷ syntax.DeclarationItem (syntax.SimpleDeclaration (specs (syntax.TypeSpec type.Void (at 94 43) ∷ [])) (declared (syntax.init_declarator (syntax.Grouped [] (syntax.Named (pointer (at 100 45) [] ∷ []) (name (codes "k") (at 101 46)) (suffixes [])) (suffixes (syntax.FunctionSuffix (parameters (syntax.parameter (specs (syntax.TypeSpec type.Void (at 104 49) ∷ [])) (syntax.Unnamed [] (suffixes [])) (at 104 49) ∷ [])) false (at 103 48) ∷ [])) (at 99 44)) (syntax.an_initializer (syntax.Single (syntax.Binary op.Sub (syntax.Constant (pos 1) basic.Int (at 112 52)) (syntax.Constant (pos 1) basic.Int (at 116 54)) (at 114 53)))) ∷ []))) ∷ [])) (span (at 14 5) (at 119 56))) ∷ [])

-- enum e { A }; void g(void) { constexpr int z = 0; void (*f)(void) = A; void (*h)(void) = z; }
abbrev pub accepted_expressions_8 : List syntax.External
accepted_expressions_8 = (syntax.ExternalDeclaration (syntax.SimpleDeclaration (specs (syntax.Enum (Some (name (codes "e") (at 6 1))) syntax.none_of_specs (enumerators (syntax.enumerator (name (codes "A") (at 10 3)) syntax.no_expr ∷ [])) (at 1 0) ∷ [])) (declared [])) ∷ syntax.FunctionDefinition (specs (syntax.TypeSpec type.Void (at 15 6) ∷ [])) (syntax.Named [] (name (codes "g") (at 20 7)) (suffixes (syntax.FunctionSuffix (parameters (syntax.parameter (specs (syntax.TypeSpec type.Void (at 22 9) ∷ [])) (syntax.Unnamed [] (suffixes [])) (at 22 9) ∷ [])) false (at 21 8) ∷ []))) (syntax.block (block_items (syntax.DeclarationItem (syntax.SimpleDeclaration (specs (syntax.StorageSpec storage.Constexpr (at 30 12) ∷ syntax.TypeSpec type.Int (at 40 13) ∷ [])) (declared (syntax.init_declarator (syntax.Named [] (name (codes "z") (at 44 14)) (suffixes [])) (syntax.an_initializer (syntax.Single (syntax.Constant (pos 0) basic.Int (at 48 16)))) ∷ []))) ∷ syntax.DeclarationItem (syntax.SimpleDeclaration (specs (syntax.TypeSpec type.Void (at 51 18) ∷ [])) (declared (syntax.init_declarator (syntax.Grouped [] (syntax.Named (pointer (at 57 20) [] ∷ []) (name (codes "f") (at 58 21)) (suffixes [])) (suffixes (syntax.FunctionSuffix (parameters (syntax.parameter (specs (syntax.TypeSpec type.Void (at 61 24) ∷ [])) (syntax.Unnamed [] (suffixes [])) (at 61 24) ∷ [])) false (at 60 23) ∷ [])) (at 56 19)) (syntax.an_initializer (syntax.Single (syntax.Identifier (name (codes "A") (at 69 27))))) ∷ []))) ∷ syntax.DeclarationItem (syntax.SimpleDeclaration (specs (syntax.TypeSpec type.Void (at 72 29) ∷ [])) (declared (syntax.init_declarator (syntax.Grouped [] (syntax.Named (pointer (at 78 31) [] ∷ []) (name (codes "h") (at 79 32)) (suffixes [])) (suffixes (syntax.FunctionSuffix (parameters (syntax.parameter (specs (syntax.TypeSpec type.Void (at 82 35) ∷ [])) (syntax.Unnamed [] (suffixes [])) (at 82 35) ∷ [])) false (at 81 34) ∷ [])) (at 77 30)) (syntax.an_initializer (syntax.Single (syntax.Identifier (name (codes "z") (at 90 38))))) ∷ []))) ∷ [])) (span (at 28 11) (at 93 40))) ∷ [])

-- struct s { int a[2]; }; struct s f(void); int g(void) { return f().a[0]; }
abbrev pub accepted_expressions_9 : List syntax.External
accepted_expressions_9 = (syntax.ExternalDeclaration (syntax.SimpleDeclaration (specs (syntax.Struct (Some (name (codes "s") (at 8 1))) (members (syntax.MemberDeclarators (specs (syntax.TypeSpec type.Int (at 12 3) ∷ [])) (syntax.declarators ((syntax.Named [] (name (codes "a") (at 16 4)) (suffixes (syntax.ArraySuffix (syntax.an_expr (syntax.Constant (pos 2) basic.Int (at 18 6))) (at 17 5) ∷ []))) ∷ [])) ∷ [])) (at 1 0) ∷ [])) (declared [])) ∷ syntax.ExternalDeclaration (syntax.SimpleDeclaration (specs (syntax.StructTag (name (codes "s") (at 32 12)) (at 25 11) ∷ [])) (declared (syntax.init_declarator (syntax.Named [] (name (codes "f") (at 34 13)) (suffixes (syntax.FunctionSuffix (parameters (syntax.parameter (specs (syntax.TypeSpec type.Void (at 36 15) ∷ [])) (syntax.Unnamed [] (suffixes [])) (at 36 15) ∷ [])) false (at 35 14) ∷ []))) syntax.no_initializer ∷ []))) ∷ syntax.FunctionDefinition (specs (syntax.TypeSpec type.Int (at 43 18) ∷ [])) (syntax.Named [] (name (codes "g") (at 47 19)) (suffixes (syntax.FunctionSuffix (parameters (syntax.parameter (specs (syntax.TypeSpec type.Void (at 49 21) ∷ [])) (syntax.Unnamed [] (suffixes [])) (at 49 21) ∷ [])) false (at 48 20) ∷ []))) (syntax.block (block_items (syntax.StatementItem (syntax.Return (syntax.an_expr (syntax.Index (syntax.Member (syntax.Call (syntax.Identifier (name (codes "f") (at 64 25))) (syntax.exprs []) (at 65 26)) (name (codes "a") (at 68 29)) (at 67 28)) (syntax.Constant (pos 0) basic.Int (at 70 31)) (at 69 30))) (at 57 24) (span (at 57 24) (at 72 33))) ∷ [])) (span (at 55 23) (at 74 34))) ∷ [])

-- struct s { int a[2]; }; struct s f(void); unsigned long g(void) { return sizeof f().a; }
abbrev pub accepted_expressions_10 : List syntax.External
accepted_expressions_10 = (syntax.ExternalDeclaration (syntax.SimpleDeclaration (specs (syntax.Struct (Some (name (codes "s") (at 8 1))) (members (syntax.MemberDeclarators (specs (syntax.TypeSpec type.Int (at 12 3) ∷ [])) (syntax.declarators ((syntax.Named [] (name (codes "a") (at 16 4)) (suffixes (syntax.ArraySuffix (syntax.an_expr (syntax.Constant (pos 2) basic.Int (at 18 6))) (at 17 5) ∷ []))) ∷ [])) ∷ [])) (at 1 0) ∷ [])) (declared [])) ∷ syntax.ExternalDeclaration (syntax.SimpleDeclaration (specs (syntax.StructTag (name (codes "s") (at 32 12)) (at 25 11) ∷ [])) (declared (syntax.init_declarator (syntax.Named [] (name (codes "f") (at 34 13)) (suffixes (syntax.FunctionSuffix (parameters (syntax.parameter (specs (syntax.TypeSpec type.Void (at 36 15) ∷ [])) (syntax.Unnamed [] (suffixes [])) (at 36 15) ∷ [])) false (at 35 14) ∷ []))) syntax.no_initializer ∷ []))) ∷ syntax.FunctionDefinition (specs (syntax.TypeSpec type.Unsigned (at 43 18) ∷ syntax.TypeSpec type.Long (at 52 19) ∷ [])) (syntax.Named [] (name (codes "g") (at 57 20)) (suffixes (syntax.FunctionSuffix (parameters (syntax.parameter (specs (syntax.TypeSpec type.Void (at 59 22) ∷ [])) (syntax.Unnamed [] (suffixes [])) (at 59 22) ∷ [])) false (at 58 21) ∷ []))) (syntax.block (block_items (syntax.StatementItem (syntax.Return (syntax.an_expr (syntax.SizeofExpr (syntax.Member (syntax.Call (syntax.Identifier (name (codes "f") (at 81 27))) (syntax.exprs []) (at 82 28)) (name (codes "a") (at 85 31)) (at 84 30)) (at 74 26))) (at 67 25) (span (at 67 25) (at 86 32))) ∷ [])) (span (at 65 24) (at 88 33))) ∷ [])

-- static int f(void); unsigned long g(void) { return sizeof f(); }
abbrev pub accepted_expressions_11 : List syntax.External
accepted_expressions_11 = (syntax.ExternalDeclaration (syntax.SimpleDeclaration (specs (syntax.StorageSpec storage.Static (at 1 0) ∷ syntax.TypeSpec type.Int (at 8 1) ∷ [])) (declared (syntax.init_declarator (syntax.Named [] (name (codes "f") (at 12 2)) (suffixes (syntax.FunctionSuffix (parameters (syntax.parameter (specs (syntax.TypeSpec type.Void (at 14 4) ∷ [])) (syntax.Unnamed [] (suffixes [])) (at 14 4) ∷ [])) false (at 13 3) ∷ []))) syntax.no_initializer ∷ []))) ∷ syntax.FunctionDefinition (specs (syntax.TypeSpec type.Unsigned (at 21 7) ∷ syntax.TypeSpec type.Long (at 30 8) ∷ [])) (syntax.Named [] (name (codes "g") (at 35 9)) (suffixes (syntax.FunctionSuffix (parameters (syntax.parameter (specs (syntax.TypeSpec type.Void (at 37 11) ∷ [])) (syntax.Unnamed [] (suffixes [])) (at 37 11) ∷ [])) false (at 36 10) ∷ []))) (syntax.block (block_items (syntax.StatementItem (syntax.Return (syntax.an_expr (syntax.SizeofExpr (syntax.Call (syntax.Identifier (name (codes "f") (at 59 16))) (syntax.exprs []) (at 60 17)) (at 52 15))) (at 45 14) (span (at 45 14) (at 62 19))) ∷ [])) (span (at 43 13) (at 64 20))) ∷ [])

-- int (*p)(void), (*q)(void); void g(void) { p == q; p != q; p == 0; }
abbrev pub accepted_expressions_12 : List syntax.External
accepted_expressions_12 = (syntax.ExternalDeclaration (syntax.SimpleDeclaration (specs (syntax.TypeSpec type.Int (at 1 0) ∷ [])) (declared (syntax.init_declarator (syntax.Grouped [] (syntax.Named (pointer (at 6 2) [] ∷ []) (name (codes "p") (at 7 3)) (suffixes [])) (suffixes (syntax.FunctionSuffix (parameters (syntax.parameter (specs (syntax.TypeSpec type.Void (at 10 6) ∷ [])) (syntax.Unnamed [] (suffixes [])) (at 10 6) ∷ [])) false (at 9 5) ∷ [])) (at 5 1)) syntax.no_initializer ∷ syntax.init_declarator (syntax.Grouped [] (syntax.Named (pointer (at 18 10) [] ∷ []) (name (codes "q") (at 19 11)) (suffixes [])) (suffixes (syntax.FunctionSuffix (parameters (syntax.parameter (specs (syntax.TypeSpec type.Void (at 22 14) ∷ [])) (syntax.Unnamed [] (suffixes [])) (at 22 14) ∷ [])) false (at 21 13) ∷ [])) (at 17 9)) syntax.no_initializer ∷ []))) ∷ syntax.FunctionDefinition (specs (syntax.TypeSpec type.Void (at 29 17) ∷ [])) (syntax.Named [] (name (codes "g") (at 34 18)) (suffixes (syntax.FunctionSuffix (parameters (syntax.parameter (specs (syntax.TypeSpec type.Void (at 36 20) ∷ [])) (syntax.Unnamed [] (suffixes [])) (at 36 20) ∷ [])) false (at 35 19) ∷ []))) (syntax.block (block_items (syntax.StatementItem (syntax.ExpressionStatement (syntax.an_expr (syntax.Binary op.Equal (syntax.Identifier (name (codes "p") (at 44 23))) (syntax.Identifier (name (codes "q") (at 49 25))) (at 46 24))) (span (at 44 23) (at 50 26))) ∷ syntax.StatementItem (syntax.ExpressionStatement (syntax.an_expr (syntax.Binary op.NotEqual (syntax.Identifier (name (codes "p") (at 52 27))) (syntax.Identifier (name (codes "q") (at 57 29))) (at 54 28))) (span (at 52 27) (at 58 30))) ∷ syntax.StatementItem (syntax.ExpressionStatement (syntax.an_expr (syntax.Binary op.Equal (syntax.Identifier (name (codes "p") (at 60 31))) (syntax.Constant (pos 0) basic.Int (at 65 33)) (at 62 32))) (span (at 60 31) (at 66 34))) ∷ [])) (span (at 42 22) (at 68 35))) ∷ [])

-- void g(void) { static int x; (int (void)) { return x; }; }
abbrev pub accepted_expressions_13 : List syntax.External
accepted_expressions_13 = (syntax.FunctionDefinition (specs (syntax.TypeSpec type.Void (at 1 0) ∷ [])) (syntax.Named [] (name (codes "g") (at 6 1)) (suffixes (syntax.FunctionSuffix (parameters (syntax.parameter (specs (syntax.TypeSpec type.Void (at 8 3) ∷ [])) (syntax.Unnamed [] (suffixes [])) (at 8 3) ∷ [])) false (at 7 2) ∷ []))) (syntax.block (block_items (syntax.DeclarationItem (syntax.SimpleDeclaration (specs (syntax.StorageSpec storage.Static (at 16 6) ∷ syntax.TypeSpec type.Int (at 23 7) ∷ [])) (declared (syntax.init_declarator (syntax.Named [] (name (codes "x") (at 27 8)) (suffixes [])) syntax.no_initializer ∷ []))) ∷ syntax.StatementItem (syntax.ExpressionStatement (syntax.an_expr (syntax.FunctionLiteral (syntax.type_name (specs (syntax.TypeSpec type.Int (at 31 11) ∷ [])) (syntax.Unnamed [] (suffixes (syntax.FunctionSuffix (parameters (syntax.parameter (specs (syntax.TypeSpec type.Void (at 36 13) ∷ [])) (syntax.Unnamed [] (suffixes [])) (at 36 13) ∷ [])) false (at 35 12) ∷ [])))) (syntax.block (block_items (syntax.StatementItem (syntax.Return (syntax.an_expr (syntax.Identifier (name (codes "x") (at 52 18)))) (at 45 17) (span (at 45 17) (at 53 19))) ∷ [])) (span (at 43 16) (at 55 20))) (at 30 10))) (span (at 30 10) (at 56 21))) ∷ [])) (span (at 14 5) (at 58 22))) ∷ [])

-- struct h; extern struct h x; void g(void) { &x; }
abbrev pub accepted_expressions_14 : List syntax.External
accepted_expressions_14 = (syntax.ExternalDeclaration (syntax.SimpleDeclaration (specs (syntax.StructTag (name (codes "h") (at 8 1)) (at 1 0) ∷ [])) (declared [])) ∷ syntax.ExternalDeclaration (syntax.SimpleDeclaration (specs (syntax.StorageSpec storage.Extern (at 11 3) ∷ syntax.StructTag (name (codes "h") (at 25 5)) (at 18 4) ∷ [])) (declared (syntax.init_declarator (syntax.Named [] (name (codes "x") (at 27 6)) (suffixes [])) syntax.no_initializer ∷ []))) ∷ syntax.FunctionDefinition (specs (syntax.TypeSpec type.Void (at 30 8) ∷ [])) (syntax.Named [] (name (codes "g") (at 35 9)) (suffixes (syntax.FunctionSuffix (parameters (syntax.parameter (specs (syntax.TypeSpec type.Void (at 37 11) ∷ [])) (syntax.Unnamed [] (suffixes [])) (at 37 11) ∷ [])) false (at 36 10) ∷ []))) (syntax.block (block_items (syntax.StatementItem (syntax.ExpressionStatement (syntax.an_expr (syntax.Unary prefix.Address (syntax.Identifier (name (codes "x") (at 46 15))) (at 45 14))) (span (at 45 14) (at 47 16))) ∷ [])) (span (at 43 13) (at 49 17))) ∷ [])

-- void g(char *_Owner p) { char *q = p; }
abbrev pub accepted_expressions_15 : List syntax.External
accepted_expressions_15 = (syntax.FunctionDefinition (specs (syntax.TypeSpec type.Void (at 1 0) ∷ [])) (syntax.Named [] (name (codes "g") (at 6 1)) (suffixes (syntax.FunctionSuffix (parameters (syntax.parameter (specs (syntax.TypeSpec type.Char (at 8 3) ∷ [])) (syntax.Named (pointer (at 13 4) ((qualifier qual.Owner (at 14 5)) ∷ []) ∷ []) (name (codes "p") (at 21 6)) (suffixes [])) (at 8 3) ∷ [])) false (at 7 2) ∷ []))) (syntax.block (block_items (syntax.DeclarationItem (syntax.SimpleDeclaration (specs (syntax.TypeSpec type.Char (at 26 9) ∷ [])) (declared (syntax.init_declarator (syntax.Named (pointer (at 31 10) [] ∷ []) (name (codes "q") (at 32 11)) (suffixes [])) (syntax.an_initializer (syntax.Single (syntax.Identifier (name (codes "p") (at 36 13))))) ∷ []))) ∷ [])) (span (at 24 8) (at 39 15))) ∷ [])

-- int printf(const char *t, ...); void g(char c, bool b) { printf("a", c, b, "x", g); }
abbrev pub accepted_expressions_16 : List syntax.External
accepted_expressions_16 = (syntax.ExternalDeclaration (syntax.SimpleDeclaration (specs (syntax.TypeSpec type.Int (at 1 0) ∷ [])) (declared (syntax.init_declarator (syntax.Named [] (name (codes "printf") (at 5 1)) (suffixes (syntax.FunctionSuffix (parameters (syntax.parameter (specs (syntax.QualifierSpec (qualifier qual.Const (at 12 3)) ∷ syntax.TypeSpec type.Char (at 18 4) ∷ [])) (syntax.Named (pointer (at 23 5) [] ∷ []) (name (codes "t") (at 24 6)) (suffixes [])) (at 12 3) ∷ [])) true (at 11 2) ∷ []))) syntax.no_initializer ∷ []))) ∷ syntax.FunctionDefinition (specs (syntax.TypeSpec type.Void (at 33 11) ∷ [])) (syntax.Named [] (name (codes "g") (at 38 12)) (suffixes (syntax.FunctionSuffix (parameters (syntax.parameter (specs (syntax.TypeSpec type.Char (at 40 14) ∷ [])) (syntax.Named [] (name (codes "c") (at 45 15)) (suffixes [])) (at 40 14) ∷ syntax.parameter (specs (syntax.TypeSpec type.Bool (at 48 17) ∷ [])) (syntax.Named [] (name (codes "b") (at 53 18)) (suffixes [])) (at 48 17) ∷ [])) false (at 39 13) ∷ []))) (syntax.block (block_items (syntax.StatementItem (syntax.ExpressionStatement (syntax.an_expr (syntax.Call (syntax.Identifier (name (codes "printf") (at 58 21))) (syntax.exprs ((syntax.Text (codes "a") (at 65 23)) ∷ (syntax.Identifier (name (codes "c") (at 70 25))) ∷ (syntax.Identifier (name (codes "b") (at 73 27))) ∷ (syntax.Text (codes "x") (at 76 29)) ∷ (syntax.Identifier (name (codes "g") (at 81 31))) ∷ [])) (at 64 22))) (span (at 58 21) (at 83 33))) ∷ [])) (span (at 56 20) (at 85 34))) ∷ [])

-- int a[2]; int g(int x) { return x[a] + a[x] + 1[a]; }
abbrev pub accepted_expressions_17 : List syntax.External
accepted_expressions_17 = (syntax.ExternalDeclaration (syntax.SimpleDeclaration (specs (syntax.TypeSpec type.Int (at 1 0) ∷ [])) (declared (syntax.init_declarator (syntax.Named [] (name (codes "a") (at 5 1)) (suffixes (syntax.ArraySuffix (syntax.an_expr (syntax.Constant (pos 2) basic.Int (at 7 3))) (at 6 2) ∷ []))) syntax.no_initializer ∷ []))) ∷ syntax.FunctionDefinition (specs (syntax.TypeSpec type.Int (at 11 6) ∷ [])) (syntax.Named [] (name (codes "g") (at 15 7)) (suffixes (syntax.FunctionSuffix (parameters (syntax.parameter (specs (syntax.TypeSpec type.Int (at 17 9) ∷ [])) (syntax.Named [] (name (codes "x") (at 21 10)) (suffixes [])) (at 17 9) ∷ [])) false (at 16 8) ∷ []))) (syntax.block (block_items (syntax.StatementItem (syntax.Return (syntax.an_expr (syntax.Binary op.Add (syntax.Binary op.Add (syntax.Index (syntax.Identifier (name (codes "x") (at 33 14))) (syntax.Identifier (name (codes "a") (at 35 16))) (at 34 15)) (syntax.Index (syntax.Identifier (name (codes "a") (at 40 19))) (syntax.Identifier (name (codes "x") (at 42 21))) (at 41 20)) (at 38 18)) (syntax.Index (syntax.Constant (pos 1) basic.Int (at 47 24)) (syntax.Identifier (name (codes "a") (at 49 26))) (at 48 25)) (at 45 23))) (at 26 13) (span (at 26 13) (at 51 28))) ∷ [])) (span (at 24 12) (at 53 29))) ∷ [])

-- int *g(int *p, int c) { return c ? p : 0; }
abbrev pub accepted_expressions_18 : List syntax.External
accepted_expressions_18 = (syntax.FunctionDefinition (specs (syntax.TypeSpec type.Int (at 1 0) ∷ [])) (syntax.Named (pointer (at 5 1) [] ∷ []) (name (codes "g") (at 6 2)) (suffixes (syntax.FunctionSuffix (parameters (syntax.parameter (specs (syntax.TypeSpec type.Int (at 8 4) ∷ [])) (syntax.Named (pointer (at 12 5) [] ∷ []) (name (codes "p") (at 13 6)) (suffixes [])) (at 8 4) ∷ syntax.parameter (specs (syntax.TypeSpec type.Int (at 16 8) ∷ [])) (syntax.Named [] (name (codes "c") (at 20 9)) (suffixes [])) (at 16 8) ∷ [])) false (at 7 3) ∷ []))) (syntax.block (block_items (syntax.StatementItem (syntax.Return (syntax.an_expr (syntax.Conditional (syntax.Identifier (name (codes "c") (at 32 13))) (syntax.Identifier (name (codes "p") (at 36 15))) (syntax.Constant (pos 0) basic.Int (at 40 17)) (at 34 14))) (at 25 12) (span (at 25 12) (at 41 18))) ∷ [])) (span (at 23 11) (at 43 19))) ∷ [])

-- void g(int *p) { (bool)p; (void)p; (char *)p; (int *)0; }
abbrev pub accepted_expressions_19 : List syntax.External
accepted_expressions_19 = (syntax.FunctionDefinition (specs (syntax.TypeSpec type.Void (at 1 0) ∷ [])) (syntax.Named [] (name (codes "g") (at 6 1)) (suffixes (syntax.FunctionSuffix (parameters (syntax.parameter (specs (syntax.TypeSpec type.Int (at 8 3) ∷ [])) (syntax.Named (pointer (at 12 4) [] ∷ []) (name (codes "p") (at 13 5)) (suffixes [])) (at 8 3) ∷ [])) false (at 7 2) ∷ []))) (syntax.block (block_items (syntax.StatementItem (syntax.ExpressionStatement (syntax.an_expr (syntax.Cast (syntax.type_name (specs (syntax.TypeSpec type.Bool (at 19 9) ∷ [])) (syntax.Unnamed [] (suffixes []))) (syntax.Identifier (name (codes "p") (at 24 11))) (at 18 8))) (span (at 18 8) (at 25 12))) ∷ syntax.StatementItem (syntax.ExpressionStatement (syntax.an_expr (syntax.Cast (syntax.type_name (specs (syntax.TypeSpec type.Void (at 28 14) ∷ [])) (syntax.Unnamed [] (suffixes []))) (syntax.Identifier (name (codes "p") (at 33 16))) (at 27 13))) (span (at 27 13) (at 34 17))) ∷ syntax.StatementItem (syntax.ExpressionStatement (syntax.an_expr (syntax.Cast (syntax.type_name (specs (syntax.TypeSpec type.Char (at 37 19) ∷ [])) (syntax.Unnamed (pointer (at 42 20) [] ∷ []) (suffixes []))) (syntax.Identifier (name (codes "p") (at 44 22))) (at 36 18))) (span (at 36 18) (at 45 23))) ∷ syntax.StatementItem (syntax.ExpressionStatement (syntax.an_expr (syntax.Cast (syntax.type_name (specs (syntax.TypeSpec type.Int (at 48 25) ∷ [])) (syntax.Unnamed (pointer (at 52 26) [] ∷ []) (suffixes []))) (syntax.Constant (pos 0) basic.Int (at 54 28)) (at 47 24))) (span (at 47 24) (at 55 29))) ∷ [])) (span (at 16 7) (at 57 30))) ∷ [])
