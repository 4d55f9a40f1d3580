-- C16: value cannot be converted to the wanted type: units of one line, as trees.
use Rattle.std.specs.Prelude.{List, [], ◌∷◌, Some, true, false, pos, codes}
use Rattle.model_grammar.specs.SyntaxForms as syntax
use Rattle.model_types.specs.declared.numbers.Basic.TheVariants as basic
use Rattle.model_types.specs.declared.numbers.BinOp.TheVariants as op
use Rattle.model_grammar.specs.declared.syntax.StorageWord.TheVariants as storage
use Rattle.model_grammar.specs.declared.syntax.TypeWord.TheVariants as type
use Rattle.model_grammar.specs.declared.syntax.QualifierWord.TheVariants as qual
use Rattle.checking_units.specs.Parts.{at, name, specs, qualifier, pointer, suffixes, parameters, members, declared, items, designators, block_items, span}

-- void f(int *p, int n); void g(void) { f(1, y); }
abbrev pub c16_1 : List syntax.External
c16_1 = (syntax.ExternalDeclaration (syntax.SimpleDeclaration (specs (syntax.TypeSpec type.Void (at 1 0) ∷ [])) (declared (syntax.init_declarator (syntax.Named [] (name (codes "f") (at 6 1)) (suffixes (syntax.FunctionSuffix (parameters (syntax.parameter (specs (syntax.TypeSpec type.Int (at 8 3) ∷ [])) (syntax.Named (pointer (at 12 4) [] ∷ []) (name (codes "p") (at 13 5)) (suffixes [])) (at 8 3) ∷ syntax.parameter (specs (syntax.TypeSpec type.Int (at 16 7) ∷ [])) (syntax.Named [] (name (codes "n") (at 20 8)) (suffixes [])) (at 16 7) ∷ [])) false (at 7 2) ∷ []))) syntax.no_initializer ∷ []))) ∷ syntax.FunctionDefinition (specs (syntax.TypeSpec type.Void (at 24 11) ∷ [])) (syntax.Named [] (name (codes "g") (at 29 12)) (suffixes (syntax.FunctionSuffix (parameters (syntax.parameter (specs (syntax.TypeSpec type.Void (at 31 14) ∷ [])) (syntax.Unnamed [] (suffixes [])) (at 31 14) ∷ [])) false (at 30 13) ∷ []))) (syntax.block (block_items (syntax.StatementItem (syntax.ExpressionStatement (syntax.an_expr (syntax.Call (syntax.Identifier (name (codes "f") (at 39 17))) (syntax.exprs ((syntax.Constant (pos 1) basic.Int (at 41 19)) ∷ (syntax.Identifier (name (codes "y") (at 44 21))) ∷ [])) (at 40 18))) (span (at 39 17) (at 46 23))) ∷ [])) (span (at 37 16) (at 48 24))) ∷ [])

-- void v(void); void g(void) { int x = v(); }
abbrev pub c16_2 : List syntax.External
c16_2 = (syntax.ExternalDeclaration (syntax.SimpleDeclaration (specs (syntax.TypeSpec type.Void (at 1 0) ∷ [])) (declared (syntax.init_declarator (syntax.Named [] (name (codes "v") (at 6 1)) (suffixes (syntax.FunctionSuffix (parameters (syntax.parameter (specs (syntax.TypeSpec type.Void (at 8 3) ∷ [])) (syntax.Unnamed [] (suffixes [])) (at 8 3) ∷ [])) false (at 7 2) ∷ []))) syntax.no_initializer ∷ []))) ∷ syntax.FunctionDefinition (specs (syntax.TypeSpec type.Void (at 15 6) ∷ [])) (syntax.Named [] (name (codes "g") (at 20 7)) (suffixes (syntax.FunctionSuffix (parameters (syntax.parameter (specs (syntax.TypeSpec type.Void (at 22 9) ∷ [])) (syntax.Unnamed [] (suffixes [])) (at 22 9) ∷ [])) false (at 21 8) ∷ []))) (syntax.block (block_items (syntax.DeclarationItem (syntax.SimpleDeclaration (specs (syntax.TypeSpec type.Int (at 30 12) ∷ [])) (declared (syntax.init_declarator (syntax.Named [] (name (codes "x") (at 34 13)) (suffixes [])) (syntax.an_initializer (syntax.Single (syntax.Call (syntax.Identifier (name (codes "v") (at 38 15))) (syntax.exprs []) (at 39 16)))) ∷ []))) ∷ [])) (span (at 28 11) (at 43 19))) ∷ [])

-- void g(int x, int *p) { x += p; }
abbrev pub c16_3 : List syntax.External
c16_3 = (syntax.FunctionDefinition (specs (syntax.TypeSpec type.Void (at 1 0) ∷ [])) (syntax.Named [] (name (codes "g") (at 6 1)) (suffixes (syntax.FunctionSuffix (parameters (syntax.parameter (specs (syntax.TypeSpec type.Int (at 8 3) ∷ [])) (syntax.Named [] (name (codes "x") (at 12 4)) (suffixes [])) (at 8 3) ∷ syntax.parameter (specs (syntax.TypeSpec type.Int (at 15 6) ∷ [])) (syntax.Named (pointer (at 19 7) [] ∷ []) (name (codes "p") (at 20 8)) (suffixes [])) (at 15 6) ∷ [])) false (at 7 2) ∷ []))) (syntax.block (block_items (syntax.StatementItem (syntax.ExpressionStatement (syntax.an_expr (syntax.AssignBy op.Add (syntax.Identifier (name (codes "x") (at 25 11))) (syntax.Identifier (name (codes "p") (at 30 13))) (at 27 12))) (span (at 25 11) (at 31 14))) ∷ [])) (span (at 23 10) (at 33 15))) ∷ [])

-- void g(int *q, int *p) { q -= p; }
abbrev pub c16_4 : List syntax.External
c16_4 = (syntax.FunctionDefinition (specs (syntax.TypeSpec type.Void (at 1 0) ∷ [])) (syntax.Named [] (name (codes "g") (at 6 1)) (suffixes (syntax.FunctionSuffix (parameters (syntax.parameter (specs (syntax.TypeSpec type.Int (at 8 3) ∷ [])) (syntax.Named (pointer (at 12 4) [] ∷ []) (name (codes "q") (at 13 5)) (suffixes [])) (at 8 3) ∷ syntax.parameter (specs (syntax.TypeSpec type.Int (at 16 7) ∷ [])) (syntax.Named (pointer (at 20 8) [] ∷ []) (name (codes "p") (at 21 9)) (suffixes [])) (at 16 7) ∷ [])) false (at 7 2) ∷ []))) (syntax.block (block_items (syntax.StatementItem (syntax.ExpressionStatement (syntax.an_expr (syntax.AssignBy op.Sub (syntax.Identifier (name (codes "q") (at 26 12))) (syntax.Identifier (name (codes "p") (at 31 14))) (at 28 13))) (span (at 26 12) (at 32 15))) ∷ [])) (span (at 24 11) (at 34 16))) ∷ [])

-- void g(void) { constexpr void *np = nullptr; void (*f)(void) = np; }
abbrev pub c16_5 : List syntax.External
c16_5 = (syntax.FunctionDefinition (specs (syntax.TypeSpec type.Void (at 1 0) ∷ [])) (syntax.Named [] (name (codes "g") (at 6 1)) (suffixes (syntax.FunctionSuffix (parameters (syntax.parameter (specs (syntax.TypeSpec type.Void (at 8 3) ∷ [])) (syntax.Unnamed [] (suffixes [])) (at 8 3) ∷ [])) false (at 7 2) ∷ []))) (syntax.block (block_items (syntax.DeclarationItem (syntax.SimpleDeclaration (specs (syntax.StorageSpec storage.Constexpr (at 16 6) ∷ syntax.TypeSpec type.Void (at 26 7) ∷ [])) (declared (syntax.init_declarator (syntax.Named (pointer (at 31 8) [] ∷ []) (name (codes "np") (at 32 9)) (suffixes [])) (syntax.an_initializer (syntax.Single (syntax.Nullptr (at 37 11)))) ∷ []))) ∷ syntax.DeclarationItem (syntax.SimpleDeclaration (specs (syntax.TypeSpec type.Void (at 46 13) ∷ [])) (declared (syntax.init_declarator (syntax.Grouped [] (syntax.Named (pointer (at 52 15) [] ∷ []) (name (codes "f") (at 53 16)) (suffixes [])) (suffixes (syntax.FunctionSuffix (parameters (syntax.parameter (specs (syntax.TypeSpec type.Void (at 56 19) ∷ [])) (syntax.Unnamed [] (suffixes [])) (at 56 19) ∷ [])) false (at 55 18) ∷ [])) (at 51 14)) (syntax.an_initializer (syntax.Single (syntax.Identifier (name (codes "np") (at 64 22))))) ∷ []))) ∷ [])) (span (at 14 5) (at 68 24))) ∷ [])

-- void g(void) { void (*f)(void) = (void *)nullptr; }
abbrev pub c16_6 : List syntax.External
c16_6 = (syntax.FunctionDefinition (specs (syntax.TypeSpec type.Void (at 1 0) ∷ [])) (syntax.Named [] (name (codes "g") (at 6 1)) (suffixes (syntax.FunctionSuffix (parameters (syntax.parameter (specs (syntax.TypeSpec type.Void (at 8 3) ∷ [])) (syntax.Unnamed [] (suffixes [])) (at 8 3) ∷ [])) false (at 7 2) ∷ []))) (syntax.block (block_items (syntax.DeclarationItem (syntax.SimpleDeclaration (specs (syntax.TypeSpec type.Void (at 16 6) ∷ [])) (declared (syntax.init_declarator (syntax.Grouped [] (syntax.Named (pointer (at 22 8) [] ∷ []) (name (codes "f") (at 23 9)) (suffixes [])) (suffixes (syntax.FunctionSuffix (parameters (syntax.parameter (specs (syntax.TypeSpec type.Void (at 26 12) ∷ [])) (syntax.Unnamed [] (suffixes [])) (at 26 12) ∷ [])) false (at 25 11) ∷ [])) (at 21 7)) (syntax.an_initializer (syntax.Single (syntax.Cast (syntax.type_name (specs (syntax.TypeSpec type.Void (at 35 16) ∷ [])) (syntax.Unnamed (pointer (at 40 17) [] ∷ []) (suffixes []))) (syntax.Nullptr (at 42 19)) (at 34 15)))) ∷ []))) ∷ [])) (span (at 14 5) (at 51 21))) ∷ [])

-- int printf(const char *t, ...); void g(void) { printf(1); }
abbrev pub c16_7 : List syntax.External
c16_7 = (syntax.ExternalDeclaration (syntax.SimpleDeclaration (specs (syntax.TypeSpec type.Int (at 1 0) ∷ [])) (declared (syntax.init_declarator (syntax.Named [] (name (codes "printf") (at 5 1)) (suffixes (syntax.FunctionSuffix (parameters (syntax.parameter (specs (syntax.QualifierSpec (qualifier qual.Const (at 12 3)) ∷ syntax.TypeSpec type.Char (at 18 4) ∷ [])) (syntax.Named (pointer (at 23 5) [] ∷ []) (name (codes "t") (at 24 6)) (suffixes [])) (at 12 3) ∷ [])) true (at 11 2) ∷ []))) syntax.no_initializer ∷ []))) ∷ syntax.FunctionDefinition (specs (syntax.TypeSpec type.Void (at 33 11) ∷ [])) (syntax.Named [] (name (codes "g") (at 38 12)) (suffixes (syntax.FunctionSuffix (parameters (syntax.parameter (specs (syntax.TypeSpec type.Void (at 40 14) ∷ [])) (syntax.Unnamed [] (suffixes [])) (at 40 14) ∷ [])) false (at 39 13) ∷ []))) (syntax.block (block_items (syntax.StatementItem (syntax.ExpressionStatement (syntax.an_expr (syntax.Call (syntax.Identifier (name (codes "printf") (at 48 17))) (syntax.exprs ((syntax.Constant (pos 1) basic.Int (at 55 19)) ∷ [])) (at 54 18))) (span (at 48 17) (at 57 21))) ∷ [])) (span (at 46 16) (at 59 22))) ∷ [])

-- struct t { int a; }; struct u { int b; } y; struct s { struct t t; }; void g(void) { struct s x = {.t = y}; }
abbrev pub c16_8 : List syntax.External
c16_8 = (syntax.ExternalDeclaration (syntax.SimpleDeclaration (specs (syntax.Struct (Some (name (codes "t") (at 8 1))) (members (syntax.MemberDeclarators (specs (syntax.TypeSpec type.Int (at 12 3) ∷ [])) (syntax.declarators ((syntax.Named [] (name (codes "a") (at 16 4)) (suffixes [])) ∷ [])) ∷ [])) (at 1 0) ∷ [])) (declared [])) ∷ syntax.ExternalDeclaration (syntax.SimpleDeclaration (specs (syntax.Struct (Some (name (codes "u") (at 29 9))) (members (syntax.MemberDeclarators (specs (syntax.TypeSpec type.Int (at 33 11) ∷ [])) (syntax.declarators ((syntax.Named [] (name (codes "b") (at 37 12)) (suffixes [])) ∷ [])) ∷ [])) (at 22 8) ∷ [])) (declared (syntax.init_declarator (syntax.Named [] (name (codes "y") (at 42 15)) (suffixes [])) syntax.no_initializer ∷ []))) ∷ syntax.ExternalDeclaration (syntax.SimpleDeclaration (specs (syntax.Struct (Some (name (codes "s") (at 52 18))) (members (syntax.MemberDeclarators (specs (syntax.StructTag (name (codes "t") (at 63 21)) (at 56 20) ∷ [])) (syntax.declarators ((syntax.Named [] (name (codes "t") (at 65 22)) (suffixes [])) ∷ [])) ∷ [])) (at 45 17) ∷ [])) (declared [])) ∷ syntax.FunctionDefinition (specs (syntax.TypeSpec type.Void (at 71 26) ∷ [])) (syntax.Named [] (name (codes "g") (at 76 27)) (suffixes (syntax.FunctionSuffix (parameters (syntax.parameter (specs (syntax.TypeSpec type.Void (at 78 29) ∷ [])) (syntax.Unnamed [] (suffixes [])) (at 78 29) ∷ [])) false (at 77 28) ∷ []))) (syntax.block (block_items (syntax.DeclarationItem (syntax.SimpleDeclaration (specs (syntax.StructTag (name (codes "s") (at 93 33)) (at 86 32) ∷ [])) (declared (syntax.init_declarator (syntax.Named [] (name (codes "x") (at 95 34)) (suffixes [])) (syntax.an_initializer (syntax.Braced (syntax.braces (items (syntax.item (designators (syntax.MemberDesignator (name (codes "t") (at 101 38)) (at 100 37) ∷ [])) (syntax.Single (syntax.Identifier (name (codes "y") (at 105 40)))) ∷ [])) (at 99 36)))) ∷ []))) ∷ [])) (span (at 84 31) (at 109 43))) ∷ [])

-- struct s { int a; } a; int g(void) { return a; }
abbrev pub c16_9 : List syntax.External
c16_9 = (syntax.ExternalDeclaration (syntax.SimpleDeclaration (specs (syntax.Struct (Some (name (codes "s") (at 8 1))) (members (syntax.MemberDeclarators (specs (syntax.TypeSpec type.Int (at 12 3) ∷ [])) (syntax.declarators ((syntax.Named [] (name (codes "a") (at 16 4)) (suffixes [])) ∷ [])) ∷ [])) (at 1 0) ∷ [])) (declared (syntax.init_declarator (syntax.Named [] (name (codes "a") (at 21 7)) (suffixes [])) syntax.no_initializer ∷ []))) ∷ syntax.FunctionDefinition (specs (syntax.TypeSpec type.Int (at 24 9) ∷ [])) (syntax.Named [] (name (codes "g") (at 28 10)) (suffixes (syntax.FunctionSuffix (parameters (syntax.parameter (specs (syntax.TypeSpec type.Void (at 30 12) ∷ [])) (syntax.Unnamed [] (suffixes [])) (at 30 12) ∷ [])) false (at 29 11) ∷ []))) (syntax.block (block_items (syntax.StatementItem (syntax.Return (syntax.an_expr (syntax.Identifier (name (codes "a") (at 45 16)))) (at 38 15) (span (at 38 15) (at 46 17))) ∷ [])) (span (at 36 14) (at 48 18))) ∷ [])
