-- C05: name is not declared: units of one line, as trees.
use Rattle.std.specs.Prelude.{List, [], ◌∷◌, Some, None, false, pos, codes}
use Rattle.model_grammar.specs.SyntaxForms as syntax
use Rattle.model_types.specs.declared.numbers.Basic.TheVariants as basic
use Rattle.model_types.specs.declared.numbers.BinOp.TheVariants as op
use Rattle.model_grammar.specs.declared.syntax.StorageWord.TheVariants as storage
use Rattle.model_grammar.specs.declared.syntax.TypeWord.TheVariants as type
use Rattle.checking_units.specs.Parts.{at, name, specs, pointer, suffixes, parameters, members, enumerators, declared, items, designators, block_items, span}

-- int f(void) { return cake_x; }
abbrev pub c05_1 : List syntax.External
c05_1 = (syntax.FunctionDefinition (specs (syntax.TypeSpec type.Int (at 1 0) ∷ [])) (syntax.Named [] (name (codes "f") (at 5 1)) (suffixes (syntax.FunctionSuffix (parameters (syntax.parameter (specs (syntax.TypeSpec type.Void (at 7 3) ∷ [])) (syntax.Unnamed [] (suffixes [])) (at 7 3) ∷ [])) false (at 6 2) ∷ []))) (syntax.block (block_items (syntax.StatementItem (syntax.Return (syntax.an_expr (syntax.Identifier (name (codes "cake_x") (at 22 7)))) (at 15 6) (span (at 15 6) (at 28 8))) ∷ [])) (span (at 13 5) (at 30 9))) ∷ [])

-- enum e x;
abbrev pub c05_2 : List syntax.External
c05_2 = (syntax.ExternalDeclaration (syntax.SimpleDeclaration (specs (syntax.EnumTag (name (codes "e") (at 6 1)) syntax.none_of_specs (at 1 0) ∷ [])) (declared (syntax.init_declarator (syntax.Named [] (name (codes "x") (at 8 2)) (suffixes [])) syntax.no_initializer ∷ []))) ∷ [])

-- enum e;
abbrev pub c05_3 : List syntax.External
c05_3 = (syntax.ExternalDeclaration (syntax.SimpleDeclaration (specs (syntax.EnumTag (name (codes "e") (at 6 1)) syntax.none_of_specs (at 1 0) ∷ [])) (declared [])) ∷ [])

-- struct s { char a[1000000000]; char b[1000000000]; int c[n]; };
abbrev pub c05_4 : List syntax.External
c05_4 = (syntax.ExternalDeclaration (syntax.SimpleDeclaration (specs (syntax.Struct (Some (name (codes "s") (at 8 1))) (members (syntax.MemberDeclarators (specs (syntax.TypeSpec type.Char (at 12 3) ∷ [])) (syntax.declarators ((syntax.Named [] (name (codes "a") (at 17 4)) (suffixes (syntax.ArraySuffix (syntax.an_expr (syntax.Constant (pos 1000000000) basic.Int (at 19 6))) (at 18 5) ∷ []))) ∷ [])) ∷ syntax.MemberDeclarators (specs (syntax.TypeSpec type.Char (at 32 9) ∷ [])) (syntax.declarators ((syntax.Named [] (name (codes "b") (at 37 10)) (suffixes (syntax.ArraySuffix (syntax.an_expr (syntax.Constant (pos 1000000000) basic.Int (at 39 12))) (at 38 11) ∷ []))) ∷ [])) ∷ syntax.MemberDeclarators (specs (syntax.TypeSpec type.Int (at 52 15) ∷ [])) (syntax.declarators ((syntax.Named [] (name (codes "c") (at 56 16)) (suffixes (syntax.ArraySuffix (syntax.an_expr (syntax.Identifier (name (codes "n") (at 58 18)))) (at 57 17) ∷ []))) ∷ [])) ∷ [])) (at 1 0) ∷ [])) (declared [])) ∷ [])

-- enum { A = A };
abbrev pub c05_5 : List syntax.External
c05_5 = (syntax.ExternalDeclaration (syntax.SimpleDeclaration (specs (syntax.Enum None syntax.none_of_specs (enumerators (syntax.enumerator (name (codes "A") (at 8 2)) (syntax.an_expr (syntax.Identifier (name (codes "A") (at 12 4)))) ∷ [])) (at 1 0) ∷ [])) (declared [])) ∷ [])

-- auto x = n;
abbrev pub c05_6 : List syntax.External
c05_6 = (syntax.ExternalDeclaration (syntax.SimpleDeclaration (specs (syntax.StorageSpec storage.Auto (at 1 0) ∷ [])) (declared (syntax.init_declarator (syntax.Named [] (name (codes "x") (at 6 1)) (suffixes [])) (syntax.an_initializer (syntax.Single (syntax.Identifier (name (codes "n") (at 10 3))))) ∷ []))) ∷ [])

-- constexpr int x = {n};
abbrev pub c05_7 : List syntax.External
c05_7 = (syntax.ExternalDeclaration (syntax.SimpleDeclaration (specs (syntax.StorageSpec storage.Constexpr (at 1 0) ∷ syntax.TypeSpec type.Int (at 11 1) ∷ [])) (declared (syntax.init_declarator (syntax.Named [] (name (codes "x") (at 15 2)) (suffixes [])) (syntax.an_initializer (syntax.Braced (syntax.braces (items (syntax.item (designators []) (syntax.Single (syntax.Identifier (name (codes "n") (at 20 5)))) ∷ [])) (at 19 4)))) ∷ []))) ∷ [])

-- struct s { int a; }; constexpr struct s x = n;
abbrev pub c05_8 : List syntax.External
c05_8 = (syntax.ExternalDeclaration (syntax.SimpleDeclaration (specs (syntax.Struct (Some (name (codes "s") (at 8 1))) (members (syntax.MemberDeclarators (specs (syntax.TypeSpec type.Int (at 12 3) ∷ [])) (syntax.declarators ((syntax.Named [] (name (codes "a") (at 16 4)) (suffixes [])) ∷ [])) ∷ [])) (at 1 0) ∷ [])) (declared [])) ∷ syntax.ExternalDeclaration (syntax.SimpleDeclaration (specs (syntax.StorageSpec storage.Constexpr (at 22 8) ∷ syntax.StructTag (name (codes "s") (at 39 10)) (at 32 9) ∷ [])) (declared (syntax.init_declarator (syntax.Named [] (name (codes "x") (at 41 11)) (suffixes [])) (syntax.an_initializer (syntax.Single (syntax.Identifier (name (codes "n") (at 45 13))))) ∷ []))) ∷ [])

-- int x[n];
abbrev pub c05_9 : List syntax.External
c05_9 = (syntax.ExternalDeclaration (syntax.SimpleDeclaration (specs (syntax.TypeSpec type.Int (at 1 0) ∷ [])) (declared (syntax.init_declarator (syntax.Named [] (name (codes "x") (at 5 1)) (suffixes (syntax.ArraySuffix (syntax.an_expr (syntax.Identifier (name (codes "n") (at 7 3)))) (at 6 2) ∷ []))) syntax.no_initializer ∷ []))) ∷ [])

-- char (*x[n])[2000000000];
abbrev pub c05_10 : List syntax.External
c05_10 = (syntax.ExternalDeclaration (syntax.SimpleDeclaration (specs (syntax.TypeSpec type.Char (at 1 0) ∷ [])) (declared (syntax.init_declarator (syntax.Grouped [] (syntax.Named (pointer (at 7 2) [] ∷ []) (name (codes "x") (at 8 3)) (suffixes (syntax.ArraySuffix (syntax.an_expr (syntax.Identifier (name (codes "n") (at 10 5)))) (at 9 4) ∷ []))) (suffixes (syntax.ArraySuffix (syntax.an_expr (syntax.Constant (pos 2000000000) basic.Int (at 14 9))) (at 13 8) ∷ [])) (at 6 1)) syntax.no_initializer ∷ []))) ∷ [])

-- typedef int T = n;
abbrev pub c05_11 : List syntax.External
c05_11 = (syntax.ExternalDeclaration (syntax.SimpleDeclaration (specs (syntax.StorageSpec storage.Typedef (at 1 0) ∷ syntax.TypeSpec type.Int (at 9 1) ∷ [])) (declared (syntax.init_declarator (syntax.Named [] (name (codes "T") (at 13 2)) (suffixes [])) (syntax.an_initializer (syntax.Single (syntax.Identifier (name (codes "n") (at 17 4))))) ∷ []))) ∷ [])

-- int a[] = { n };
abbrev pub c05_12 : List syntax.External
c05_12 = (syntax.ExternalDeclaration (syntax.SimpleDeclaration (specs (syntax.TypeSpec type.Int (at 1 0) ∷ [])) (declared (syntax.init_declarator (syntax.Named [] (name (codes "a") (at 5 1)) (suffixes (syntax.ArraySuffix syntax.no_expr (at 6 2) ∷ []))) (syntax.an_initializer (syntax.Braced (syntax.braces (items (syntax.item (designators []) (syntax.Single (syntax.Identifier (name (codes "n") (at 13 6)))) ∷ [])) (at 11 5)))) ∷ []))) ∷ [])

-- struct s { int a; }; void g(void) { struct s a; a + y; }
abbrev pub c05_13 : List syntax.External
c05_13 = (syntax.ExternalDeclaration (syntax.SimpleDeclaration (specs (syntax.Struct (Some (name (codes "s") (at 8 1))) (members (syntax.MemberDeclarators (specs (syntax.TypeSpec type.Int (at 12 3) ∷ [])) (syntax.declarators ((syntax.Named [] (name (codes "a") (at 16 4)) (suffixes [])) ∷ [])) ∷ [])) (at 1 0) ∷ [])) (declared [])) ∷ syntax.FunctionDefinition (specs (syntax.TypeSpec type.Void (at 22 8) ∷ [])) (syntax.Named [] (name (codes "g") (at 27 9)) (suffixes (syntax.FunctionSuffix (parameters (syntax.parameter (specs (syntax.TypeSpec type.Void (at 29 11) ∷ [])) (syntax.Unnamed [] (suffixes [])) (at 29 11) ∷ [])) false (at 28 10) ∷ []))) (syntax.block (block_items (syntax.DeclarationItem (syntax.SimpleDeclaration (specs (syntax.StructTag (name (codes "s") (at 44 15)) (at 37 14) ∷ [])) (declared (syntax.init_declarator (syntax.Named [] (name (codes "a") (at 46 16)) (suffixes [])) syntax.no_initializer ∷ []))) ∷ syntax.StatementItem (syntax.ExpressionStatement (syntax.an_expr (syntax.Binary op.Add (syntax.Identifier (name (codes "a") (at 49 18))) (syntax.Identifier (name (codes "y") (at 53 20))) (at 51 19))) (span (at 49 18) (at 54 21))) ∷ [])) (span (at 35 13) (at 56 22))) ∷ [])

-- int main(void) { return x; }
abbrev pub c05_14 : List syntax.External
c05_14 = (syntax.FunctionDefinition (specs (syntax.TypeSpec type.Int (at 1 0) ∷ [])) (syntax.Named [] (name (codes "main") (at 5 1)) (suffixes (syntax.FunctionSuffix (parameters (syntax.parameter (specs (syntax.TypeSpec type.Void (at 10 3) ∷ [])) (syntax.Unnamed [] (suffixes [])) (at 10 3) ∷ [])) false (at 9 2) ∷ []))) (syntax.block (block_items (syntax.StatementItem (syntax.Return (syntax.an_expr (syntax.Identifier (name (codes "x") (at 25 7)))) (at 18 6) (span (at 18 6) (at 26 8))) ∷ [])) (span (at 16 5) (at 28 9))) ∷ [])

-- void g(void *p) { p + y; }
abbrev pub c05_15 : List syntax.External
c05_15 = (syntax.FunctionDefinition (specs (syntax.TypeSpec type.Void (at 1 0) ∷ [])) (syntax.Named [] (name (codes "g") (at 6 1)) (suffixes (syntax.FunctionSuffix (parameters (syntax.parameter (specs (syntax.TypeSpec type.Void (at 8 3) ∷ [])) (syntax.Named (pointer (at 13 4) [] ∷ []) (name (codes "p") (at 14 5)) (suffixes [])) (at 8 3) ∷ [])) false (at 7 2) ∷ []))) (syntax.block (block_items (syntax.StatementItem (syntax.ExpressionStatement (syntax.an_expr (syntax.Binary op.Add (syntax.Identifier (name (codes "p") (at 19 8))) (syntax.Identifier (name (codes "y") (at 23 10))) (at 21 9))) (span (at 19 8) (at 24 11))) ∷ [])) (span (at 17 7) (at 26 12))) ∷ [])

-- struct s { int m; } a; int g(void) { return a + y; }
abbrev pub c05_16 : List syntax.External
c05_16 = (syntax.ExternalDeclaration (syntax.SimpleDeclaration (specs (syntax.Struct (Some (name (codes "s") (at 8 1))) (members (syntax.MemberDeclarators (specs (syntax.TypeSpec type.Int (at 12 3) ∷ [])) (syntax.declarators ((syntax.Named [] (name (codes "m") (at 16 4)) (suffixes [])) ∷ [])) ∷ [])) (at 1 0) ∷ [])) (declared (syntax.init_declarator (syntax.Named [] (name (codes "a") (at 21 7)) (suffixes [])) syntax.no_initializer ∷ []))) ∷ syntax.FunctionDefinition (specs (syntax.TypeSpec type.Int (at 24 9) ∷ [])) (syntax.Named [] (name (codes "g") (at 28 10)) (suffixes (syntax.FunctionSuffix (parameters (syntax.parameter (specs (syntax.TypeSpec type.Void (at 30 12) ∷ [])) (syntax.Unnamed [] (suffixes [])) (at 30 12) ∷ [])) false (at 29 11) ∷ []))) (syntax.block (block_items (syntax.StatementItem (syntax.Return (syntax.an_expr (syntax.Binary op.Add (syntax.Identifier (name (codes "a") (at 45 16))) (syntax.Identifier (name (codes "y") (at 49 18))) (at 47 17))) (at 38 15) (span (at 38 15) (at 50 19))) ∷ [])) (span (at 36 14) (at 52 20))) ∷ [])

-- int a[] = { y };
abbrev pub c05_17 : List syntax.External
c05_17 = (syntax.ExternalDeclaration (syntax.SimpleDeclaration (specs (syntax.TypeSpec type.Int (at 1 0) ∷ [])) (declared (syntax.init_declarator (syntax.Named [] (name (codes "a") (at 5 1)) (suffixes (syntax.ArraySuffix syntax.no_expr (at 6 2) ∷ []))) (syntax.an_initializer (syntax.Braced (syntax.braces (items (syntax.item (designators []) (syntax.Single (syntax.Identifier (name (codes "y") (at 13 6)))) ∷ [])) (at 11 5)))) ∷ []))) ∷ [])

-- int (*t[2])(void) = { (int (void)) { return a; }, b };
abbrev pub c05_18 : List syntax.External
c05_18 = (syntax.ExternalDeclaration (syntax.SimpleDeclaration (specs (syntax.TypeSpec type.Int (at 1 0) ∷ [])) (declared (syntax.init_declarator (syntax.Grouped [] (syntax.Named (pointer (at 6 2) [] ∷ []) (name (codes "t") (at 7 3)) (suffixes (syntax.ArraySuffix (syntax.an_expr (syntax.Constant (pos 2) basic.Int (at 9 5))) (at 8 4) ∷ []))) (suffixes (syntax.FunctionSuffix (parameters (syntax.parameter (specs (syntax.TypeSpec type.Void (at 13 9) ∷ [])) (syntax.Unnamed [] (suffixes [])) (at 13 9) ∷ [])) false (at 12 8) ∷ [])) (at 5 1)) (syntax.an_initializer (syntax.Braced (syntax.braces (items (syntax.item (designators []) (syntax.Single (syntax.FunctionLiteral (syntax.type_name (specs (syntax.TypeSpec type.Int (at 24 14) ∷ [])) (syntax.Unnamed [] (suffixes (syntax.FunctionSuffix (parameters (syntax.parameter (specs (syntax.TypeSpec type.Void (at 29 16) ∷ [])) (syntax.Unnamed [] (suffixes [])) (at 29 16) ∷ [])) false (at 28 15) ∷ [])))) (syntax.block (block_items (syntax.StatementItem (syntax.Return (syntax.an_expr (syntax.Identifier (name (codes "a") (at 45 21)))) (at 38 20) (span (at 38 20) (at 46 22))) ∷ [])) (span (at 36 19) (at 48 23))) (at 23 13))) ∷ syntax.item (designators []) (syntax.Single (syntax.Identifier (name (codes "b") (at 51 25)))) ∷ [])) (at 21 12)))) ∷ []))) ∷ [])

-- void f(int (*p)(void), int q); void g(void) { f((int (void)) { return a; }, b); }
abbrev pub c05_19 : List syntax.External
c05_19 = (syntax.ExternalDeclaration (syntax.SimpleDeclaration (specs (syntax.TypeSpec type.Void (at 1 0) ∷ [])) (declared (syntax.init_declarator (syntax.Named [] (name (codes "f") (at 6 1)) (suffixes (syntax.FunctionSuffix (parameters (syntax.parameter (specs (syntax.TypeSpec type.Int (at 8 3) ∷ [])) (syntax.Grouped [] (syntax.Named (pointer (at 13 5) [] ∷ []) (name (codes "p") (at 14 6)) (suffixes [])) (suffixes (syntax.FunctionSuffix (parameters (syntax.parameter (specs (syntax.TypeSpec type.Void (at 17 9) ∷ [])) (syntax.Unnamed [] (suffixes [])) (at 17 9) ∷ [])) false (at 16 8) ∷ [])) (at 12 4)) (at 8 3) ∷ syntax.parameter (specs (syntax.TypeSpec type.Int (at 24 12) ∷ [])) (syntax.Named [] (name (codes "q") (at 28 13)) (suffixes [])) (at 24 12) ∷ [])) false (at 7 2) ∷ []))) syntax.no_initializer ∷ []))) ∷ syntax.FunctionDefinition (specs (syntax.TypeSpec type.Void (at 32 16) ∷ [])) (syntax.Named [] (name (codes "g") (at 37 17)) (suffixes (syntax.FunctionSuffix (parameters (syntax.parameter (specs (syntax.TypeSpec type.Void (at 39 19) ∷ [])) (syntax.Unnamed [] (suffixes [])) (at 39 19) ∷ [])) false (at 38 18) ∷ []))) (syntax.block (block_items (syntax.StatementItem (syntax.ExpressionStatement (syntax.an_expr (syntax.Call (syntax.Identifier (name (codes "f") (at 47 22))) (syntax.exprs ((syntax.FunctionLiteral (syntax.type_name (specs (syntax.TypeSpec type.Int (at 50 25) ∷ [])) (syntax.Unnamed [] (suffixes (syntax.FunctionSuffix (parameters (syntax.parameter (specs (syntax.TypeSpec type.Void (at 55 27) ∷ [])) (syntax.Unnamed [] (suffixes [])) (at 55 27) ∷ [])) false (at 54 26) ∷ [])))) (syntax.block (block_items (syntax.StatementItem (syntax.Return (syntax.an_expr (syntax.Identifier (name (codes "a") (at 71 32)))) (at 64 31) (span (at 64 31) (at 72 33))) ∷ [])) (span (at 62 30) (at 74 34))) (at 49 24)) ∷ (syntax.Identifier (name (codes "b") (at 77 36))) ∷ [])) (at 48 23))) (span (at 47 22) (at 79 38))) ∷ [])) (span (at 45 21) (at 81 39))) ∷ [])

-- int g(int c) { switch (c) { case x: ; } return 0; }
abbrev pub c05_20 : List syntax.External
c05_20 = (syntax.FunctionDefinition (specs (syntax.TypeSpec type.Int (at 1 0) ∷ [])) (syntax.Named [] (name (codes "g") (at 5 1)) (suffixes (syntax.FunctionSuffix (parameters (syntax.parameter (specs (syntax.TypeSpec type.Int (at 7 3) ∷ [])) (syntax.Named [] (name (codes "c") (at 11 4)) (suffixes [])) (at 7 3) ∷ [])) false (at 6 2) ∷ []))) (syntax.block (block_items (syntax.StatementItem (syntax.Switch (syntax.Identifier (name (codes "c") (at 24 9))) (syntax.CompoundStatement (syntax.block (block_items (syntax.CaseLabel (syntax.Identifier (name (codes "x") (at 34 13))) (at 29 12) ∷ syntax.StatementItem (syntax.ExpressionStatement syntax.no_expr (span (at 37 15) (at 37 15))) ∷ [])) (span (at 27 11) (at 39 16))) (span (at 27 11) (at 39 16))) (span (at 16 7) (at 39 16))) ∷ syntax.StatementItem (syntax.Return (syntax.an_expr (syntax.Constant (pos 0) basic.Int (at 48 18))) (at 41 17) (span (at 41 17) (at 49 19))) ∷ [])) (span (at 14 6) (at 51 20))) ∷ [])

-- int g(void) { int x = ((int (void)) { return a; })(), y = b; return x + y; }
abbrev pub c05_21 : List syntax.External
c05_21 = (syntax.FunctionDefinition (specs (syntax.TypeSpec type.Int (at 1 0) ∷ [])) (syntax.Named [] (name (codes "g") (at 5 1)) (suffixes (syntax.FunctionSuffix (parameters (syntax.parameter (specs (syntax.TypeSpec type.Void (at 7 3) ∷ [])) (syntax.Unnamed [] (suffixes [])) (at 7 3) ∷ [])) false (at 6 2) ∷ []))) (syntax.block (block_items (syntax.DeclarationItem (syntax.SimpleDeclaration (specs (syntax.TypeSpec type.Int (at 15 6) ∷ [])) (declared (syntax.init_declarator (syntax.Named [] (name (codes "x") (at 19 7)) (suffixes [])) (syntax.an_initializer (syntax.Single (syntax.Call (syntax.Parenthesized (syntax.FunctionLiteral (syntax.type_name (specs (syntax.TypeSpec type.Int (at 25 11) ∷ [])) (syntax.Unnamed [] (suffixes (syntax.FunctionSuffix (parameters (syntax.parameter (specs (syntax.TypeSpec type.Void (at 30 13) ∷ [])) (syntax.Unnamed [] (suffixes [])) (at 30 13) ∷ [])) false (at 29 12) ∷ [])))) (syntax.block (block_items (syntax.StatementItem (syntax.Return (syntax.an_expr (syntax.Identifier (name (codes "a") (at 46 18)))) (at 39 17) (span (at 39 17) (at 47 19))) ∷ [])) (span (at 37 16) (at 49 20))) (at 24 10)) (at 23 9)) (syntax.exprs []) (at 51 22)))) ∷ syntax.init_declarator (syntax.Named [] (name (codes "y") (at 55 25)) (suffixes [])) (syntax.an_initializer (syntax.Single (syntax.Identifier (name (codes "b") (at 59 27))))) ∷ []))) ∷ syntax.StatementItem (syntax.Return (syntax.an_expr (syntax.Binary op.Add (syntax.Identifier (name (codes "x") (at 69 30))) (syntax.Identifier (name (codes "y") (at 73 32))) (at 71 31))) (at 62 29) (span (at 62 29) (at 74 33))) ∷ [])) (span (at 13 5) (at 76 34))) ∷ [])

-- int g(void) { return ((int (void)) { return a; })() + b; }
abbrev pub c05_22 : List syntax.External
c05_22 = (syntax.FunctionDefinition (specs (syntax.TypeSpec type.Int (at 1 0) ∷ [])) (syntax.Named [] (name (codes "g") (at 5 1)) (suffixes (syntax.FunctionSuffix (parameters (syntax.parameter (specs (syntax.TypeSpec type.Void (at 7 3) ∷ [])) (syntax.Unnamed [] (suffixes [])) (at 7 3) ∷ [])) false (at 6 2) ∷ []))) (syntax.block (block_items (syntax.StatementItem (syntax.Return (syntax.an_expr (syntax.Binary op.Add (syntax.Call (syntax.Parenthesized (syntax.FunctionLiteral (syntax.type_name (specs (syntax.TypeSpec type.Int (at 24 9) ∷ [])) (syntax.Unnamed [] (suffixes (syntax.FunctionSuffix (parameters (syntax.parameter (specs (syntax.TypeSpec type.Void (at 29 11) ∷ [])) (syntax.Unnamed [] (suffixes [])) (at 29 11) ∷ [])) false (at 28 10) ∷ [])))) (syntax.block (block_items (syntax.StatementItem (syntax.Return (syntax.an_expr (syntax.Identifier (name (codes "a") (at 45 16)))) (at 38 15) (span (at 38 15) (at 46 17))) ∷ [])) (span (at 36 14) (at 48 18))) (at 23 8)) (at 22 7)) (syntax.exprs []) (at 50 20)) (syntax.Identifier (name (codes "b") (at 55 23))) (at 53 22))) (at 15 6) (span (at 15 6) (at 56 24))) ∷ [])) (span (at 13 5) (at 58 25))) ∷ [])

-- int g(int c) { if (((int (void)) { return a; })()) return b; return 0; }
abbrev pub c05_23 : List syntax.External
c05_23 = (syntax.FunctionDefinition (specs (syntax.TypeSpec type.Int (at 1 0) ∷ [])) (syntax.Named [] (name (codes "g") (at 5 1)) (suffixes (syntax.FunctionSuffix (parameters (syntax.parameter (specs (syntax.TypeSpec type.Int (at 7 3) ∷ [])) (syntax.Named [] (name (codes "c") (at 11 4)) (suffixes [])) (at 7 3) ∷ [])) false (at 6 2) ∷ []))) (syntax.block (block_items (syntax.StatementItem (syntax.If syntax.no_declaration (syntax.Call (syntax.Parenthesized (syntax.FunctionLiteral (syntax.type_name (specs (syntax.TypeSpec type.Int (at 22 11) ∷ [])) (syntax.Unnamed [] (suffixes (syntax.FunctionSuffix (parameters (syntax.parameter (specs (syntax.TypeSpec type.Void (at 27 13) ∷ [])) (syntax.Unnamed [] (suffixes [])) (at 27 13) ∷ [])) false (at 26 12) ∷ [])))) (syntax.block (block_items (syntax.StatementItem (syntax.Return (syntax.an_expr (syntax.Identifier (name (codes "a") (at 43 18)))) (at 36 17) (span (at 36 17) (at 44 19))) ∷ [])) (span (at 34 16) (at 46 20))) (at 21 10)) (at 20 9)) (syntax.exprs []) (at 48 22)) (syntax.Return (syntax.an_expr (syntax.Identifier (name (codes "b") (at 59 26)))) (at 52 25) (span (at 52 25) (at 60 27))) syntax.no_statement (span (at 16 7) (at 60 27))) ∷ syntax.StatementItem (syntax.Return (syntax.an_expr (syntax.Constant (pos 0) basic.Int (at 69 29))) (at 62 28) (span (at 62 28) (at 70 30))) ∷ [])) (span (at 14 6) (at 72 31))) ∷ [])

-- struct s { int a[sizeof((int (void)) { return u; }())]; } x[v];
abbrev pub c05_24 : List syntax.External
c05_24 = (syntax.ExternalDeclaration (syntax.SimpleDeclaration (specs (syntax.Struct (Some (name (codes "s") (at 8 1))) (members (syntax.MemberDeclarators (specs (syntax.TypeSpec type.Int (at 12 3) ∷ [])) (syntax.declarators ((syntax.Named [] (name (codes "a") (at 16 4)) (suffixes (syntax.ArraySuffix (syntax.an_expr (syntax.SizeofExpr (syntax.Parenthesized (syntax.Call (syntax.FunctionLiteral (syntax.type_name (specs (syntax.TypeSpec type.Int (at 26 9) ∷ [])) (syntax.Unnamed [] (suffixes (syntax.FunctionSuffix (parameters (syntax.parameter (specs (syntax.TypeSpec type.Void (at 31 11) ∷ [])) (syntax.Unnamed [] (suffixes [])) (at 31 11) ∷ [])) false (at 30 10) ∷ [])))) (syntax.block (block_items (syntax.StatementItem (syntax.Return (syntax.an_expr (syntax.Identifier (name (codes "u") (at 47 16)))) (at 40 15) (span (at 40 15) (at 48 17))) ∷ [])) (span (at 38 14) (at 50 18))) (at 25 8)) (syntax.exprs []) (at 51 19)) (at 24 7)) (at 18 6))) (at 17 5) ∷ []))) ∷ [])) ∷ [])) (at 1 0) ∷ [])) (declared (syntax.init_declarator (syntax.Named [] (name (codes "x") (at 59 25)) (suffixes (syntax.ArraySuffix (syntax.an_expr (syntax.Identifier (name (codes "v") (at 61 27)))) (at 60 26) ∷ []))) syntax.no_initializer ∷ []))) ∷ [])
