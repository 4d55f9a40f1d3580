-- C23: constant expression is needed: units of one line, as trees.
use Rattle.std.specs.Prelude.{List, [], ◌∷◌, Some, None, false, pos, codes}
use Rattle.model_grammar.specs.SyntaxForms as syntax
use Rattle.model_types.specs.declared.numbers.Basic.TheVariants as basic
use Rattle.model_types.specs.declared.numbers.BinOp.TheVariants as op
use Rattle.model_grammar.specs.declared.syntax.StorageWord.TheVariants as storage
use Rattle.model_grammar.specs.declared.syntax.TypeWord.TheVariants as type
use Rattle.model_grammar.specs.declared.syntax.PrefixOp.TheVariants as prefix
use Rattle.checking_units.specs.Parts.{at, name, specs, pointer, suffixes, parameters, members, enumerators, declared, items, designators, block_items, span}

-- int n; enum { A = n };
abbrev pub c23_1 : List syntax.External
c23_1 = (syntax.ExternalDeclaration (syntax.SimpleDeclaration (specs (syntax.TypeSpec type.Int (at 1 0) ∷ [])) (declared (syntax.init_declarator (syntax.Named [] (name (codes "n") (at 5 1)) (suffixes [])) syntax.no_initializer ∷ []))) ∷ syntax.ExternalDeclaration (syntax.SimpleDeclaration (specs (syntax.Enum None syntax.none_of_specs (enumerators (syntax.enumerator (name (codes "A") (at 15 5)) (syntax.an_expr (syntax.Identifier (name (codes "n") (at 19 7)))) ∷ [])) (at 8 3) ∷ [])) (declared [])) ∷ [])

-- int n; static_assert(n);
abbrev pub c23_2 : List syntax.External
c23_2 = (syntax.ExternalDeclaration (syntax.SimpleDeclaration (specs (syntax.TypeSpec type.Int (at 1 0) ∷ [])) (declared (syntax.init_declarator (syntax.Named [] (name (codes "n") (at 5 1)) (suffixes [])) syntax.no_initializer ∷ []))) ∷ syntax.ExternalDeclaration (syntax.AssertDeclaration (syntax.asserted (syntax.Identifier (name (codes "n") (at 22 5))) None (at 8 3))) ∷ [])

-- int n; constexpr int x = n;
abbrev pub c23_3 : List syntax.External
c23_3 = (syntax.ExternalDeclaration (syntax.SimpleDeclaration (specs (syntax.TypeSpec type.Int (at 1 0) ∷ [])) (declared (syntax.init_declarator (syntax.Named [] (name (codes "n") (at 5 1)) (suffixes [])) syntax.no_initializer ∷ []))) ∷ syntax.ExternalDeclaration (syntax.SimpleDeclaration (specs (syntax.StorageSpec storage.Constexpr (at 8 3) ∷ syntax.TypeSpec type.Int (at 18 4) ∷ [])) (declared (syntax.init_declarator (syntax.Named [] (name (codes "x") (at 22 5)) (suffixes [])) (syntax.an_initializer (syntax.Single (syntax.Identifier (name (codes "n") (at 26 7))))) ∷ []))) ∷ [])

-- int n; void f(void) { static constexpr int x = n; }
abbrev pub c23_4 : List syntax.External
c23_4 = (syntax.ExternalDeclaration (syntax.SimpleDeclaration (specs (syntax.TypeSpec type.Int (at 1 0) ∷ [])) (declared (syntax.init_declarator (syntax.Named [] (name (codes "n") (at 5 1)) (suffixes [])) syntax.no_initializer ∷ []))) ∷ syntax.FunctionDefinition (specs (syntax.TypeSpec type.Void (at 8 3) ∷ [])) (syntax.Named [] (name (codes "f") (at 13 4)) (suffixes (syntax.FunctionSuffix (parameters (syntax.parameter (specs (syntax.TypeSpec type.Void (at 15 6) ∷ [])) (syntax.Unnamed [] (suffixes [])) (at 15 6) ∷ [])) false (at 14 5) ∷ []))) (syntax.block (block_items (syntax.DeclarationItem (syntax.SimpleDeclaration (specs (syntax.StorageSpec storage.Static (at 23 9) ∷ syntax.StorageSpec storage.Constexpr (at 30 10) ∷ syntax.TypeSpec type.Int (at 40 11) ∷ [])) (declared (syntax.init_declarator (syntax.Named [] (name (codes "x") (at 44 12)) (suffixes [])) (syntax.an_initializer (syntax.Single (syntax.Identifier (name (codes "n") (at 48 14))))) ∷ []))) ∷ [])) (span (at 21 8) (at 51 16))) ∷ [])

-- int n; int x[n];
abbrev pub c23_5 : List syntax.External
c23_5 = (syntax.ExternalDeclaration (syntax.SimpleDeclaration (specs (syntax.TypeSpec type.Int (at 1 0) ∷ [])) (declared (syntax.init_declarator (syntax.Named [] (name (codes "n") (at 5 1)) (suffixes [])) syntax.no_initializer ∷ []))) ∷ syntax.ExternalDeclaration (syntax.SimpleDeclaration (specs (syntax.TypeSpec type.Int (at 8 3) ∷ [])) (declared (syntax.init_declarator (syntax.Named [] (name (codes "x") (at 12 4)) (suffixes (syntax.ArraySuffix (syntax.an_expr (syntax.Identifier (name (codes "n") (at 14 6)))) (at 13 5) ∷ []))) syntax.no_initializer ∷ []))) ∷ [])

-- static int x = (bool)nullptr;
abbrev pub c23_6 : List syntax.External
c23_6 = (syntax.ExternalDeclaration (syntax.SimpleDeclaration (specs (syntax.StorageSpec storage.Static (at 1 0) ∷ syntax.TypeSpec type.Int (at 8 1) ∷ [])) (declared (syntax.init_declarator (syntax.Named [] (name (codes "x") (at 12 2)) (suffixes [])) (syntax.an_initializer (syntax.Single (syntax.Cast (syntax.type_name (specs (syntax.TypeSpec type.Bool (at 17 5) ∷ [])) (syntax.Unnamed [] (suffixes []))) (syntax.Nullptr (at 22 7)) (at 16 4)))) ∷ []))) ∷ [])

-- static int x = nullptr == 0;
abbrev pub c23_7 : List syntax.External
c23_7 = (syntax.ExternalDeclaration (syntax.SimpleDeclaration (specs (syntax.StorageSpec storage.Static (at 1 0) ∷ syntax.TypeSpec type.Int (at 8 1) ∷ [])) (declared (syntax.init_declarator (syntax.Named [] (name (codes "x") (at 12 2)) (suffixes [])) (syntax.an_initializer (syntax.Single (syntax.Binary op.Equal (syntax.Nullptr (at 16 4)) (syntax.Constant (pos 0) basic.Int (at 27 6)) (at 24 5)))) ∷ []))) ∷ [])

-- int x; static int *p = 1 ? &x : 0;
abbrev pub c23_8 : List syntax.External
c23_8 = (syntax.ExternalDeclaration (syntax.SimpleDeclaration (specs (syntax.TypeSpec type.Int (at 1 0) ∷ [])) (declared (syntax.init_declarator (syntax.Named [] (name (codes "x") (at 5 1)) (suffixes [])) syntax.no_initializer ∷ []))) ∷ syntax.ExternalDeclaration (syntax.SimpleDeclaration (specs (syntax.StorageSpec storage.Static (at 8 3) ∷ syntax.TypeSpec type.Int (at 15 4) ∷ [])) (declared (syntax.init_declarator (syntax.Named (pointer (at 19 5) [] ∷ []) (name (codes "p") (at 20 6)) (suffixes [])) (syntax.an_initializer (syntax.Single (syntax.Conditional (syntax.Constant (pos 1) basic.Int (at 24 8)) (syntax.Unary prefix.Address (syntax.Identifier (name (codes "x") (at 29 11))) (at 28 10)) (syntax.Constant (pos 0) basic.Int (at 33 13)) (at 26 9)))) ∷ []))) ∷ [])

-- int a[2]; static long d = &a[1] - &a[0];
abbrev pub c23_9 : List syntax.External
c23_9 = (syntax.ExternalDeclaration (syntax.SimpleDeclaration (specs (syntax.TypeSpec type.Int (at 1 0) ∷ [])) (declared (syntax.init_declarator (syntax.Named [] (name (codes "a") (at 5 1)) (suffixes (syntax.ArraySuffix (syntax.an_expr (syntax.Constant (pos 2) basic.Int (at 7 3))) (at 6 2) ∷ []))) syntax.no_initializer ∷ []))) ∷ syntax.ExternalDeclaration (syntax.SimpleDeclaration (specs (syntax.StorageSpec storage.Static (at 11 6) ∷ syntax.TypeSpec type.Long (at 18 7) ∷ [])) (declared (syntax.init_declarator (syntax.Named [] (name (codes "d") (at 23 8)) (suffixes [])) (syntax.an_initializer (syntax.Single (syntax.Binary op.Sub (syntax.Unary prefix.Address (syntax.Index (syntax.Identifier (name (codes "a") (at 28 11))) (syntax.Constant (pos 1) basic.Int (at 30 13)) (at 29 12)) (at 27 10)) (syntax.Unary prefix.Address (syntax.Index (syntax.Identifier (name (codes "a") (at 36 17))) (syntax.Constant (pos 0) basic.Int (at 38 19)) (at 37 18)) (at 35 16)) (at 33 15)))) ∷ []))) ∷ [])

-- static int x = (0, 1);
abbrev pub c23_10 : List syntax.External
c23_10 = (syntax.ExternalDeclaration (syntax.SimpleDeclaration (specs (syntax.StorageSpec storage.Static (at 1 0) ∷ syntax.TypeSpec type.Int (at 8 1) ∷ [])) (declared (syntax.init_declarator (syntax.Named [] (name (codes "x") (at 12 2)) (suffixes [])) (syntax.an_initializer (syntax.Single (syntax.Parenthesized (syntax.Comma (syntax.Constant (pos 0) basic.Int (at 17 5)) (syntax.Constant (pos 1) basic.Int (at 20 7)) (at 18 6)) (at 16 4)))) ∷ []))) ∷ [])

-- struct s { int a; }; struct s y; static struct s x = y;
abbrev pub c23_11 : List syntax.External
c23_11 = (syntax.ExternalDeclaration (syntax.SimpleDeclaration (specs (syntax.Struct (Some (name (codes "s") (at 8 1))) (members (syntax.MemberDeclarators (specs (syntax.TypeSpec type.Int (at 12 3) ∷ [])) (syntax.declarators ((syntax.Named [] (name (codes "a") (at 16 4)) (suffixes [])) ∷ [])) ∷ [])) (at 1 0) ∷ [])) (declared [])) ∷ syntax.ExternalDeclaration (syntax.SimpleDeclaration (specs (syntax.StructTag (name (codes "s") (at 29 9)) (at 22 8) ∷ [])) (declared (syntax.init_declarator (syntax.Named [] (name (codes "y") (at 31 10)) (suffixes [])) syntax.no_initializer ∷ []))) ∷ syntax.ExternalDeclaration (syntax.SimpleDeclaration (specs (syntax.StorageSpec storage.Static (at 34 12) ∷ syntax.StructTag (name (codes "s") (at 48 14)) (at 41 13) ∷ [])) (declared (syntax.init_declarator (syntax.Named [] (name (codes "x") (at 50 15)) (suffixes [])) (syntax.an_initializer (syntax.Single (syntax.Identifier (name (codes "y") (at 54 17))))) ∷ []))) ∷ [])

-- int x[(bool)nullptr];
abbrev pub c23_12 : List syntax.External
c23_12 = (syntax.ExternalDeclaration (syntax.SimpleDeclaration (specs (syntax.TypeSpec type.Int (at 1 0) ∷ [])) (declared (syntax.init_declarator (syntax.Named [] (name (codes "x") (at 5 1)) (suffixes (syntax.ArraySuffix (syntax.an_expr (syntax.Cast (syntax.type_name (specs (syntax.TypeSpec type.Bool (at 8 4) ∷ [])) (syntax.Unnamed [] (suffixes []))) (syntax.Nullptr (at 13 6)) (at 7 3))) (at 6 2) ∷ []))) syntax.no_initializer ∷ []))) ∷ [])

-- int x[(0, 1)];
abbrev pub c23_13 : List syntax.External
c23_13 = (syntax.ExternalDeclaration (syntax.SimpleDeclaration (specs (syntax.TypeSpec type.Int (at 1 0) ∷ [])) (declared (syntax.init_declarator (syntax.Named [] (name (codes "x") (at 5 1)) (suffixes (syntax.ArraySuffix (syntax.an_expr (syntax.Parenthesized (syntax.Comma (syntax.Constant (pos 0) basic.Int (at 8 4)) (syntax.Constant (pos 1) basic.Int (at 11 6)) (at 9 5)) (at 7 3))) (at 6 2) ∷ []))) syntax.no_initializer ∷ []))) ∷ [])

-- struct s { int a; } y; static struct s x = y;
abbrev pub c23_14 : List syntax.External
c23_14 = (syntax.ExternalDeclaration (syntax.SimpleDeclaration (specs (syntax.Struct (Some (name (codes "s") (at 8 1))) (members (syntax.MemberDeclarators (specs (syntax.TypeSpec type.Int (at 12 3) ∷ [])) (syntax.declarators ((syntax.Named [] (name (codes "a") (at 16 4)) (suffixes [])) ∷ [])) ∷ [])) (at 1 0) ∷ [])) (declared (syntax.init_declarator (syntax.Named [] (name (codes "y") (at 21 7)) (suffixes [])) syntax.no_initializer ∷ []))) ∷ syntax.ExternalDeclaration (syntax.SimpleDeclaration (specs (syntax.StorageSpec storage.Static (at 24 9) ∷ syntax.StructTag (name (codes "s") (at 38 11)) (at 31 10) ∷ [])) (declared (syntax.init_declarator (syntax.Named [] (name (codes "x") (at 40 12)) (suffixes [])) (syntax.an_initializer (syntax.Single (syntax.Identifier (name (codes "y") (at 44 14))))) ∷ []))) ∷ [])

-- int *p = (int *){0};
abbrev pub c23_15 : List syntax.External
c23_15 = (syntax.ExternalDeclaration (syntax.SimpleDeclaration (specs (syntax.TypeSpec type.Int (at 1 0) ∷ [])) (declared (syntax.init_declarator (syntax.Named (pointer (at 5 1) [] ∷ []) (name (codes "p") (at 6 2)) (suffixes [])) (syntax.an_initializer (syntax.Single (syntax.CompoundLiteral (syntax.type_name (specs (syntax.TypeSpec type.Int (at 11 5) ∷ [])) (syntax.Unnamed (pointer (at 15 6) [] ∷ []) (suffixes []))) (syntax.braces (items (syntax.item (designators []) (syntax.Single (syntax.Constant (pos 0) basic.Int (at 18 9))) ∷ [])) (at 17 8)) (at 10 4)))) ∷ []))) ∷ [])

-- int g(void) { int x = 1; static int *q = &x; return *q; }
abbrev pub c23_16 : List syntax.External
c23_16 = (syntax.FunctionDefinition (specs (syntax.TypeSpec type.Int (at 1 0) ∷ [])) (syntax.Named [] (name (codes "g") (at 5 1)) (suffixes (syntax.FunctionSuffix (parameters (syntax.parameter (specs (syntax.TypeSpec type.Void (at 7 3) ∷ [])) (syntax.Unnamed [] (suffixes [])) (at 7 3) ∷ [])) false (at 6 2) ∷ []))) (syntax.block (block_items (syntax.DeclarationItem (syntax.SimpleDeclaration (specs (syntax.TypeSpec type.Int (at 15 6) ∷ [])) (declared (syntax.init_declarator (syntax.Named [] (name (codes "x") (at 19 7)) (suffixes [])) (syntax.an_initializer (syntax.Single (syntax.Constant (pos 1) basic.Int (at 23 9)))) ∷ []))) ∷ syntax.DeclarationItem (syntax.SimpleDeclaration (specs (syntax.StorageSpec storage.Static (at 26 11) ∷ syntax.TypeSpec type.Int (at 33 12) ∷ [])) (declared (syntax.init_declarator (syntax.Named (pointer (at 37 13) [] ∷ []) (name (codes "q") (at 38 14)) (suffixes [])) (syntax.an_initializer (syntax.Single (syntax.Unary prefix.Address (syntax.Identifier (name (codes "x") (at 43 17))) (at 42 16)))) ∷ []))) ∷ syntax.StatementItem (syntax.Return (syntax.an_expr (syntax.Unary prefix.Indirection (syntax.Identifier (name (codes "q") (at 54 21))) (at 53 20))) (at 46 19) (span (at 46 19) (at 55 22))) ∷ [])) (span (at 13 5) (at 57 23))) ∷ [])

-- int g(int c) { switch (c) { case c: ; } return 0; }
abbrev pub c23_17 : List syntax.External
c23_17 = (syntax.FunctionDefinition (specs (syntax.TypeSpec type.Int (at 1 0) ∷ [])) (syntax.Named [] (name (codes "g") (at 5 1)) (suffixes (syntax.FunctionSuffix (parameters (syntax.parameter (specs (syntax.TypeSpec type.Int (at 7 3) ∷ [])) (syntax.Named [] (name (codes "c") (at 11 4)) (suffixes [])) (at 7 3) ∷ [])) false (at 6 2) ∷ []))) (syntax.block (block_items (syntax.StatementItem (syntax.Switch (syntax.Identifier (name (codes "c") (at 24 9))) (syntax.CompoundStatement (syntax.block (block_items (syntax.CaseLabel (syntax.Identifier (name (codes "c") (at 34 13))) (at 29 12) ∷ syntax.StatementItem (syntax.ExpressionStatement syntax.no_expr (span (at 37 15) (at 37 15))) ∷ [])) (span (at 27 11) (at 39 16))) (span (at 27 11) (at 39 16))) (span (at 16 7) (at 39 16))) ∷ syntax.StatementItem (syntax.Return (syntax.an_expr (syntax.Constant (pos 0) basic.Int (at 48 18))) (at 41 17) (span (at 41 17) (at 49 19))) ∷ [])) (span (at 14 6) (at 51 20))) ∷ [])
