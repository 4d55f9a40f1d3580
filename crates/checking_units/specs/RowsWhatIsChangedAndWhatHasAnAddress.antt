-- what is changed and what has an address: units of one line, as trees.
use Rattle.std.specs.Prelude.{List, [], ◌∷◌, Some, None, false, pos, codes}
use Rattle.model_grammar.specs.SyntaxForms as syntax
use Rattle.model_types.specs.declared.numbers.Basic.TheVariants as basic
use Rattle.model_types.specs.declared.numbers.BinOp.TheVariants as op
use Rattle.model_types.specs.declared.operators.StepOp.TheVariants as step
use Rattle.model_types.specs.declared.operators.StepSide.TheVariants as side
use Rattle.model_grammar.specs.declared.syntax.StorageWord.TheVariants as storage
use Rattle.model_grammar.specs.declared.syntax.TypeWord.TheVariants as type
use Rattle.model_grammar.specs.declared.syntax.QualifierWord.TheVariants as qual
use Rattle.model_grammar.specs.declared.syntax.PrefixOp.TheVariants as prefix
use Rattle.checking_units.specs.Parts.{at, name, specs, qualifier, pointer, suffixes, parameters, members, enumerators, declared, items, designators, block_items, span}

-- void g(int x) { (x + 1)++; }
abbrev pub what_is_changed_and_what_has_an_address_1 : List syntax.External
what_is_changed_and_what_has_an_address_1 = (syntax.FunctionDefinition (specs (syntax.TypeSpec type.Void (at 1 0) ∷ [])) (syntax.Named [] (name (codes "g") (at 6 1)) (suffixes (syntax.FunctionSuffix (parameters (syntax.parameter (specs (syntax.TypeSpec type.Int (at 8 3) ∷ [])) (syntax.Named [] (name (codes "x") (at 12 4)) (suffixes [])) (at 8 3) ∷ [])) false (at 7 2) ∷ []))) (syntax.block (block_items (syntax.StatementItem (syntax.ExpressionStatement (syntax.an_expr (syntax.Step step.Increment side.Postfix (syntax.Parenthesized (syntax.Binary op.Add (syntax.Identifier (name (codes "x") (at 18 8))) (syntax.Constant (pos 1) basic.Int (at 22 10)) (at 20 9)) (at 17 7)) (at 24 12))) (span (at 17 7) (at 26 13))) ∷ [])) (span (at 15 6) (at 28 14))) ∷ [])

-- void g(void) { "abc"[0] = 'x'; (int){1} = 2; &(int){3}; (int){4}++; }
abbrev pub what_is_changed_and_what_has_an_address_2 : List syntax.External
what_is_changed_and_what_has_an_address_2 = (syntax.FunctionDefinition (specs (syntax.TypeSpec type.Void (at 1 0) ∷ [])) (syntax.Named [] (name (codes "g") (at 6 1)) (suffixes (syntax.FunctionSuffix (parameters (syntax.parameter (specs (syntax.TypeSpec type.Void (at 8 3) ∷ [])) (syntax.Unnamed [] (suffixes [])) (at 8 3) ∷ [])) false (at 7 2) ∷ []))) (syntax.block (block_items (syntax.StatementItem (syntax.ExpressionStatement (syntax.an_expr (syntax.Assign (syntax.Index (syntax.Text (codes "abc") (at 16 6)) (syntax.Constant (pos 0) basic.Int (at 22 8)) (at 21 7)) (syntax.Constant (pos 120) basic.Int (at 27 11)) (at 25 10))) (span (at 16 6) (at 30 12))) ∷ syntax.StatementItem (syntax.ExpressionStatement (syntax.an_expr (syntax.Assign (syntax.CompoundLiteral (syntax.type_name (specs (syntax.TypeSpec type.Int (at 33 14) ∷ [])) (syntax.Unnamed [] (suffixes []))) (syntax.braces (items (syntax.item (designators []) (syntax.Single (syntax.Constant (pos 1) basic.Int (at 38 17))) ∷ [])) (at 37 16)) (at 32 13)) (syntax.Constant (pos 2) basic.Int (at 43 20)) (at 41 19))) (span (at 32 13) (at 44 21))) ∷ syntax.StatementItem (syntax.ExpressionStatement (syntax.an_expr (syntax.Unary prefix.Address (syntax.CompoundLiteral (syntax.type_name (specs (syntax.TypeSpec type.Int (at 48 24) ∷ [])) (syntax.Unnamed [] (suffixes []))) (syntax.braces (items (syntax.item (designators []) (syntax.Single (syntax.Constant (pos 3) basic.Int (at 53 27))) ∷ [])) (at 52 26)) (at 47 23)) (at 46 22))) (span (at 46 22) (at 55 29))) ∷ syntax.StatementItem (syntax.ExpressionStatement (syntax.an_expr (syntax.Step step.Increment side.Postfix (syntax.CompoundLiteral (syntax.type_name (specs (syntax.TypeSpec type.Int (at 58 31) ∷ [])) (syntax.Unnamed [] (suffixes []))) (syntax.braces (items (syntax.item (designators []) (syntax.Single (syntax.Constant (pos 4) basic.Int (at 63 34))) ∷ [])) (at 62 33)) (at 57 30)) (at 65 36))) (span (at 57 30) (at 67 37))) ∷ [])) (span (at 14 5) (at 69 38))) ∷ [])

-- void g(void) { nullptr = 0; }
abbrev pub what_is_changed_and_what_has_an_address_3 : List syntax.External
what_is_changed_and_what_has_an_address_3 = (syntax.FunctionDefinition (specs (syntax.TypeSpec type.Void (at 1 0) ∷ [])) (syntax.Named [] (name (codes "g") (at 6 1)) (suffixes (syntax.FunctionSuffix (parameters (syntax.parameter (specs (syntax.TypeSpec type.Void (at 8 3) ∷ [])) (syntax.Unnamed [] (suffixes [])) (at 8 3) ∷ [])) false (at 7 2) ∷ []))) (syntax.block (block_items (syntax.StatementItem (syntax.ExpressionStatement (syntax.an_expr (syntax.Assign (syntax.Nullptr (at 16 6)) (syntax.Constant (pos 0) basic.Int (at 26 8)) (at 24 7))) (span (at 16 6) (at 27 9))) ∷ [])) (span (at 14 5) (at 29 10))) ∷ [])

-- enum { A }; void g(void) { A = 1; }
abbrev pub what_is_changed_and_what_has_an_address_4 : List syntax.External
what_is_changed_and_what_has_an_address_4 = (syntax.ExternalDeclaration (syntax.SimpleDeclaration (specs (syntax.Enum None syntax.none_of_specs (enumerators (syntax.enumerator (name (codes "A") (at 8 2)) syntax.no_expr ∷ [])) (at 1 0) ∷ [])) (declared [])) ∷ syntax.FunctionDefinition (specs (syntax.TypeSpec type.Void (at 13 5) ∷ [])) (syntax.Named [] (name (codes "g") (at 18 6)) (suffixes (syntax.FunctionSuffix (parameters (syntax.parameter (specs (syntax.TypeSpec type.Void (at 20 8) ∷ [])) (syntax.Unnamed [] (suffixes [])) (at 20 8) ∷ [])) false (at 19 7) ∷ []))) (syntax.block (block_items (syntax.StatementItem (syntax.ExpressionStatement (syntax.an_expr (syntax.Assign (syntax.Identifier (name (codes "A") (at 28 11))) (syntax.Constant (pos 1) basic.Int (at 32 13)) (at 30 12))) (span (at 28 11) (at 33 14))) ∷ [])) (span (at 26 10) (at 35 15))) ∷ [])

-- enum { A }; void g(void) { &A; }
abbrev pub what_is_changed_and_what_has_an_address_5 : List syntax.External
what_is_changed_and_what_has_an_address_5 = (syntax.ExternalDeclaration (syntax.SimpleDeclaration (specs (syntax.Enum None syntax.none_of_specs (enumerators (syntax.enumerator (name (codes "A") (at 8 2)) syntax.no_expr ∷ [])) (at 1 0) ∷ [])) (declared [])) ∷ syntax.FunctionDefinition (specs (syntax.TypeSpec type.Void (at 13 5) ∷ [])) (syntax.Named [] (name (codes "g") (at 18 6)) (suffixes (syntax.FunctionSuffix (parameters (syntax.parameter (specs (syntax.TypeSpec type.Void (at 20 8) ∷ [])) (syntax.Unnamed [] (suffixes [])) (at 20 8) ∷ [])) false (at 19 7) ∷ []))) (syntax.block (block_items (syntax.StatementItem (syntax.ExpressionStatement (syntax.an_expr (syntax.Unary prefix.Address (syntax.Identifier (name (codes "A") (at 29 12))) (at 28 11))) (span (at 28 11) (at 30 13))) ∷ [])) (span (at 26 10) (at 32 14))) ∷ [])

-- constexpr int c = 1; void g(void) { c = 2; }
abbrev pub what_is_changed_and_what_has_an_address_6 : List syntax.External
what_is_changed_and_what_has_an_address_6 = (syntax.ExternalDeclaration (syntax.SimpleDeclaration (specs (syntax.StorageSpec storage.Constexpr (at 1 0) ∷ syntax.TypeSpec type.Int (at 11 1) ∷ [])) (declared (syntax.init_declarator (syntax.Named [] (name (codes "c") (at 15 2)) (suffixes [])) (syntax.an_initializer (syntax.Single (syntax.Constant (pos 1) basic.Int (at 19 4)))) ∷ []))) ∷ syntax.FunctionDefinition (specs (syntax.TypeSpec type.Void (at 22 6) ∷ [])) (syntax.Named [] (name (codes "g") (at 27 7)) (suffixes (syntax.FunctionSuffix (parameters (syntax.parameter (specs (syntax.TypeSpec type.Void (at 29 9) ∷ [])) (syntax.Unnamed [] (suffixes [])) (at 29 9) ∷ [])) false (at 28 8) ∷ []))) (syntax.block (block_items (syntax.StatementItem (syntax.ExpressionStatement (syntax.an_expr (syntax.Assign (syntax.Identifier (name (codes "c") (at 37 12))) (syntax.Constant (pos 2) basic.Int (at 41 14)) (at 39 13))) (span (at 37 12) (at 42 15))) ∷ [])) (span (at 35 11) (at 44 16))) ∷ [])

-- void g(const int *p) { (*p)++; }
abbrev pub what_is_changed_and_what_has_an_address_7 : List syntax.External
what_is_changed_and_what_has_an_address_7 = (syntax.FunctionDefinition (specs (syntax.TypeSpec type.Void (at 1 0) ∷ [])) (syntax.Named [] (name (codes "g") (at 6 1)) (suffixes (syntax.FunctionSuffix (parameters (syntax.parameter (specs (syntax.QualifierSpec (qualifier qual.Const (at 8 3)) ∷ syntax.TypeSpec type.Int (at 14 4) ∷ [])) (syntax.Named (pointer (at 18 5) [] ∷ []) (name (codes "p") (at 19 6)) (suffixes [])) (at 8 3) ∷ [])) false (at 7 2) ∷ []))) (syntax.block (block_items (syntax.StatementItem (syntax.ExpressionStatement (syntax.an_expr (syntax.Step step.Increment side.Postfix (syntax.Parenthesized (syntax.Unary prefix.Indirection (syntax.Identifier (name (codes "p") (at 26 11))) (at 25 10)) (at 24 9)) (at 28 13))) (span (at 24 9) (at 30 14))) ∷ [])) (span (at 22 8) (at 32 15))) ∷ [])

-- struct s { int a[2]; }; struct s f(void); void g(void) { f().a[0] = 1; }
abbrev pub what_is_changed_and_what_has_an_address_8 : List syntax.External
what_is_changed_and_what_has_an_address_8 = (syntax.ExternalDeclaration (syntax.SimpleDeclaration (specs (syntax.Struct (Some (name (codes "s") (at 8 1))) (members (syntax.MemberDeclarators (specs (syntax.TypeSpec type.Int (at 12 3) ∷ [])) (syntax.declarators ((syntax.Named [] (name (codes "a") (at 16 4)) (suffixes (syntax.ArraySuffix (syntax.an_expr (syntax.Constant (pos 2) basic.Int (at 18 6))) (at 17 5) ∷ []))) ∷ [])) ∷ [])) (at 1 0) ∷ [])) (declared [])) ∷ syntax.ExternalDeclaration (syntax.SimpleDeclaration (specs (syntax.StructTag (name (codes "s") (at 32 12)) (at 25 11) ∷ [])) (declared (syntax.init_declarator (syntax.Named [] (name (codes "f") (at 34 13)) (suffixes (syntax.FunctionSuffix (parameters (syntax.parameter (specs (syntax.TypeSpec type.Void (at 36 15) ∷ [])) (syntax.Unnamed [] (suffixes [])) (at 36 15) ∷ [])) false (at 35 14) ∷ []))) syntax.no_initializer ∷ []))) ∷ syntax.FunctionDefinition (specs (syntax.TypeSpec type.Void (at 43 18) ∷ [])) (syntax.Named [] (name (codes "g") (at 48 19)) (suffixes (syntax.FunctionSuffix (parameters (syntax.parameter (specs (syntax.TypeSpec type.Void (at 50 21) ∷ [])) (syntax.Unnamed [] (suffixes [])) (at 50 21) ∷ [])) false (at 49 20) ∷ []))) (syntax.block (block_items (syntax.StatementItem (syntax.ExpressionStatement (syntax.an_expr (syntax.Assign (syntax.Index (syntax.Member (syntax.Call (syntax.Identifier (name (codes "f") (at 58 24))) (syntax.exprs []) (at 59 25)) (name (codes "a") (at 62 28)) (at 61 27)) (syntax.Constant (pos 0) basic.Int (at 64 30)) (at 63 29)) (syntax.Constant (pos 1) basic.Int (at 69 33)) (at 67 32))) (span (at 58 24) (at 70 34))) ∷ [])) (span (at 56 23) (at 72 35))) ∷ [])

-- struct s { int a; }; struct s f(void); void g(void) { f().a = 1; }
abbrev pub what_is_changed_and_what_has_an_address_9 : List syntax.External
what_is_changed_and_what_has_an_address_9 = (syntax.ExternalDeclaration (syntax.SimpleDeclaration (specs (syntax.Struct (Some (name (codes "s") (at 8 1))) (members (syntax.MemberDeclarators (specs (syntax.TypeSpec type.Int (at 12 3) ∷ [])) (syntax.declarators ((syntax.Named [] (name (codes "a") (at 16 4)) (suffixes [])) ∷ [])) ∷ [])) (at 1 0) ∷ [])) (declared [])) ∷ syntax.ExternalDeclaration (syntax.SimpleDeclaration (specs (syntax.StructTag (name (codes "s") (at 29 9)) (at 22 8) ∷ [])) (declared (syntax.init_declarator (syntax.Named [] (name (codes "f") (at 31 10)) (suffixes (syntax.FunctionSuffix (parameters (syntax.parameter (specs (syntax.TypeSpec type.Void (at 33 12) ∷ [])) (syntax.Unnamed [] (suffixes [])) (at 33 12) ∷ [])) false (at 32 11) ∷ []))) syntax.no_initializer ∷ []))) ∷ syntax.FunctionDefinition (specs (syntax.TypeSpec type.Void (at 40 15) ∷ [])) (syntax.Named [] (name (codes "g") (at 45 16)) (suffixes (syntax.FunctionSuffix (parameters (syntax.parameter (specs (syntax.TypeSpec type.Void (at 47 18) ∷ [])) (syntax.Unnamed [] (suffixes [])) (at 47 18) ∷ [])) false (at 46 17) ∷ []))) (syntax.block (block_items (syntax.StatementItem (syntax.ExpressionStatement (syntax.an_expr (syntax.Assign (syntax.Member (syntax.Call (syntax.Identifier (name (codes "f") (at 55 21))) (syntax.exprs []) (at 56 22)) (name (codes "a") (at 59 25)) (at 58 24)) (syntax.Constant (pos 1) basic.Int (at 63 27)) (at 61 26))) (span (at 55 21) (at 64 28))) ∷ [])) (span (at 53 20) (at 66 29))) ∷ [])

-- struct s { int a; }; struct s f(void); void g(void) { &f().a; }
abbrev pub what_is_changed_and_what_has_an_address_10 : List syntax.External
what_is_changed_and_what_has_an_address_10 = (syntax.ExternalDeclaration (syntax.SimpleDeclaration (specs (syntax.Struct (Some (name (codes "s") (at 8 1))) (members (syntax.MemberDeclarators (specs (syntax.TypeSpec type.Int (at 12 3) ∷ [])) (syntax.declarators ((syntax.Named [] (name (codes "a") (at 16 4)) (suffixes [])) ∷ [])) ∷ [])) (at 1 0) ∷ [])) (declared [])) ∷ syntax.ExternalDeclaration (syntax.SimpleDeclaration (specs (syntax.StructTag (name (codes "s") (at 29 9)) (at 22 8) ∷ [])) (declared (syntax.init_declarator (syntax.Named [] (name (codes "f") (at 31 10)) (suffixes (syntax.FunctionSuffix (parameters (syntax.parameter (specs (syntax.TypeSpec type.Void (at 33 12) ∷ [])) (syntax.Unnamed [] (suffixes [])) (at 33 12) ∷ [])) false (at 32 11) ∷ []))) syntax.no_initializer ∷ []))) ∷ syntax.FunctionDefinition (specs (syntax.TypeSpec type.Void (at 40 15) ∷ [])) (syntax.Named [] (name (codes "g") (at 45 16)) (suffixes (syntax.FunctionSuffix (parameters (syntax.parameter (specs (syntax.TypeSpec type.Void (at 47 18) ∷ [])) (syntax.Unnamed [] (suffixes [])) (at 47 18) ∷ [])) false (at 46 17) ∷ []))) (syntax.block (block_items (syntax.StatementItem (syntax.ExpressionStatement (syntax.an_expr (syntax.Unary prefix.Address (syntax.Member (syntax.Call (syntax.Identifier (name (codes "f") (at 56 22))) (syntax.exprs []) (at 57 23)) (name (codes "a") (at 60 26)) (at 59 25)) (at 55 21))) (span (at 55 21) (at 61 27))) ∷ [])) (span (at 53 20) (at 63 28))) ∷ [])

-- struct s { const int a; int b; }; void g(struct s *p) { p->b = 1; p->a = 1; }
abbrev pub what_is_changed_and_what_has_an_address_11 : List syntax.External
what_is_changed_and_what_has_an_address_11 = (syntax.ExternalDeclaration (syntax.SimpleDeclaration (specs (syntax.Struct (Some (name (codes "s") (at 8 1))) (members (syntax.MemberDeclarators (specs (syntax.QualifierSpec (qualifier qual.Const (at 12 3)) ∷ syntax.TypeSpec type.Int (at 18 4) ∷ [])) (syntax.declarators ((syntax.Named [] (name (codes "a") (at 22 5)) (suffixes [])) ∷ [])) ∷ syntax.MemberDeclarators (specs (syntax.TypeSpec type.Int (at 25 7) ∷ [])) (syntax.declarators ((syntax.Named [] (name (codes "b") (at 29 8)) (suffixes [])) ∷ [])) ∷ [])) (at 1 0) ∷ [])) (declared [])) ∷ syntax.FunctionDefinition (specs (syntax.TypeSpec type.Void (at 35 12) ∷ [])) (syntax.Named [] (name (codes "g") (at 40 13)) (suffixes (syntax.FunctionSuffix (parameters (syntax.parameter (specs (syntax.StructTag (name (codes "s") (at 49 16)) (at 42 15) ∷ [])) (syntax.Named (pointer (at 51 17) [] ∷ []) (name (codes "p") (at 52 18)) (suffixes [])) (at 42 15) ∷ [])) false (at 41 14) ∷ []))) (syntax.block (block_items (syntax.StatementItem (syntax.ExpressionStatement (syntax.an_expr (syntax.Assign (syntax.Arrow (syntax.Identifier (name (codes "p") (at 57 21))) (name (codes "b") (at 60 23)) (at 58 22)) (syntax.Constant (pos 1) basic.Int (at 64 25)) (at 62 24))) (span (at 57 21) (at 65 26))) ∷ syntax.StatementItem (syntax.ExpressionStatement (syntax.an_expr (syntax.Assign (syntax.Arrow (syntax.Identifier (name (codes "p") (at 67 27))) (name (codes "a") (at 70 29)) (at 68 28)) (syntax.Constant (pos 1) basic.Int (at 74 31)) (at 72 30))) (span (at 67 27) (at 75 32))) ∷ [])) (span (at 55 20) (at 77 33))) ∷ [])

-- void g(void) { int a[2], b[2]; a = b; }
abbrev pub what_is_changed_and_what_has_an_address_12 : List syntax.External
what_is_changed_and_what_has_an_address_12 = (syntax.FunctionDefinition (specs (syntax.TypeSpec type.Void (at 1 0) ∷ [])) (syntax.Named [] (name (codes "g") (at 6 1)) (suffixes (syntax.FunctionSuffix (parameters (syntax.parameter (specs (syntax.TypeSpec type.Void (at 8 3) ∷ [])) (syntax.Unnamed [] (suffixes [])) (at 8 3) ∷ [])) false (at 7 2) ∷ []))) (syntax.block (block_items (syntax.DeclarationItem (syntax.SimpleDeclaration (specs (syntax.TypeSpec type.Int (at 16 6) ∷ [])) (declared (syntax.init_declarator (syntax.Named [] (name (codes "a") (at 20 7)) (suffixes (syntax.ArraySuffix (syntax.an_expr (syntax.Constant (pos 2) basic.Int (at 22 9))) (at 21 8) ∷ []))) syntax.no_initializer ∷ syntax.init_declarator (syntax.Named [] (name (codes "b") (at 26 12)) (suffixes (syntax.ArraySuffix (syntax.an_expr (syntax.Constant (pos 2) basic.Int (at 28 14))) (at 27 13) ∷ []))) syntax.no_initializer ∷ []))) ∷ syntax.StatementItem (syntax.ExpressionStatement (syntax.an_expr (syntax.Assign (syntax.Identifier (name (codes "a") (at 32 17))) (syntax.Identifier (name (codes "b") (at 36 19))) (at 34 18))) (span (at 32 17) (at 37 20))) ∷ [])) (span (at 14 5) (at 39 21))) ∷ [])

-- void g(const int *p) { p++; p = 0; p += 1; }
abbrev pub what_is_changed_and_what_has_an_address_13 : List syntax.External
what_is_changed_and_what_has_an_address_13 = (syntax.FunctionDefinition (specs (syntax.TypeSpec type.Void (at 1 0) ∷ [])) (syntax.Named [] (name (codes "g") (at 6 1)) (suffixes (syntax.FunctionSuffix (parameters (syntax.parameter (specs (syntax.QualifierSpec (qualifier qual.Const (at 8 3)) ∷ syntax.TypeSpec type.Int (at 14 4) ∷ [])) (syntax.Named (pointer (at 18 5) [] ∷ []) (name (codes "p") (at 19 6)) (suffixes [])) (at 8 3) ∷ [])) false (at 7 2) ∷ []))) (syntax.block (block_items (syntax.StatementItem (syntax.ExpressionStatement (syntax.an_expr (syntax.Step step.Increment side.Postfix (syntax.Identifier (name (codes "p") (at 24 9))) (at 25 10))) (span (at 24 9) (at 27 11))) ∷ syntax.StatementItem (syntax.ExpressionStatement (syntax.an_expr (syntax.Assign (syntax.Identifier (name (codes "p") (at 29 12))) (syntax.Constant (pos 0) basic.Int (at 33 14)) (at 31 13))) (span (at 29 12) (at 34 15))) ∷ syntax.StatementItem (syntax.ExpressionStatement (syntax.an_expr (syntax.AssignBy op.Add (syntax.Identifier (name (codes "p") (at 36 16))) (syntax.Constant (pos 1) basic.Int (at 41 18)) (at 38 17))) (span (at 36 16) (at 42 19))) ∷ [])) (span (at 22 8) (at 44 20))) ∷ [])
