-- C02: name is declared twice in one scope: units of one line, as trees.
use Rattle.std.specs.Prelude.{List, [], ◌∷◌, Some, None, false, pos, codes}
use Rattle.model_grammar.specs.SyntaxForms as syntax
use Rattle.model_types.specs.declared.numbers.Basic.TheVariants as basic
use Rattle.model_grammar.specs.declared.syntax.StorageWord.TheVariants as storage
use Rattle.model_grammar.specs.declared.syntax.TypeWord.TheVariants as type
use Rattle.checking_units.specs.Parts.{at, name, specs, suffixes, parameters, members, enumerators, declared, block_items, span}

-- struct s { int a; char a; };
abbrev pub c02_1 : List syntax.External
c02_1 = (syntax.ExternalDeclaration (syntax.SimpleDeclaration (specs (syntax.Struct (Some (name (codes "s") (at 8 1))) (members (syntax.MemberDeclarators (specs (syntax.TypeSpec type.Int (at 12 3) ∷ [])) (syntax.declarators ((syntax.Named [] (name (codes "a") (at 16 4)) (suffixes [])) ∷ [])) ∷ syntax.MemberDeclarators (specs (syntax.TypeSpec type.Char (at 19 6) ∷ [])) (syntax.declarators ((syntax.Named [] (name (codes "a") (at 24 7)) (suffixes [])) ∷ [])) ∷ [])) (at 1 0) ∷ [])) (declared [])) ∷ [])

-- int f(int a, int a);
abbrev pub c02_2 : List syntax.External
c02_2 = (syntax.ExternalDeclaration (syntax.SimpleDeclaration (specs (syntax.TypeSpec type.Int (at 1 0) ∷ [])) (declared (syntax.init_declarator (syntax.Named [] (name (codes "f") (at 5 1)) (suffixes (syntax.FunctionSuffix (parameters (syntax.parameter (specs (syntax.TypeSpec type.Int (at 7 3) ∷ [])) (syntax.Named [] (name (codes "a") (at 11 4)) (suffixes [])) (at 7 3) ∷ syntax.parameter (specs (syntax.TypeSpec type.Int (at 14 6) ∷ [])) (syntax.Named [] (name (codes "a") (at 18 7)) (suffixes [])) (at 14 6) ∷ [])) false (at 6 2) ∷ []))) syntax.no_initializer ∷ []))) ∷ [])

-- enum { A, A };
abbrev pub c02_3 : List syntax.External
c02_3 = (syntax.ExternalDeclaration (syntax.SimpleDeclaration (specs (syntax.Enum None syntax.none_of_specs (enumerators (syntax.enumerator (name (codes "A") (at 8 2)) syntax.no_expr ∷ syntax.enumerator (name (codes "A") (at 11 4)) syntax.no_expr ∷ [])) (at 1 0) ∷ [])) (declared [])) ∷ [])

-- void f(void) { int x; int x; }
abbrev pub c02_4 : List syntax.External
c02_4 = (syntax.FunctionDefinition (specs (syntax.TypeSpec type.Void (at 1 0) ∷ [])) (syntax.Named [] (name (codes "f") (at 6 1)) (suffixes (syntax.FunctionSuffix (parameters (syntax.parameter (specs (syntax.TypeSpec type.Void (at 8 3) ∷ [])) (syntax.Unnamed [] (suffixes [])) (at 8 3) ∷ [])) false (at 7 2) ∷ []))) (syntax.block (block_items (syntax.DeclarationItem (syntax.SimpleDeclaration (specs (syntax.TypeSpec type.Int (at 16 6) ∷ [])) (declared (syntax.init_declarator (syntax.Named [] (name (codes "x") (at 20 7)) (suffixes [])) syntax.no_initializer ∷ []))) ∷ syntax.DeclarationItem (syntax.SimpleDeclaration (specs (syntax.TypeSpec type.Int (at 23 9) ∷ [])) (declared (syntax.init_declarator (syntax.Named [] (name (codes "x") (at 27 10)) (suffixes [])) syntax.no_initializer ∷ []))) ∷ [])) (span (at 14 5) (at 30 12))) ∷ [])

-- int A; enum { A };
abbrev pub c02_5 : List syntax.External
c02_5 = (syntax.ExternalDeclaration (syntax.SimpleDeclaration (specs (syntax.TypeSpec type.Int (at 1 0) ∷ [])) (declared (syntax.init_declarator (syntax.Named [] (name (codes "A") (at 5 1)) (suffixes [])) syntax.no_initializer ∷ []))) ∷ syntax.ExternalDeclaration (syntax.SimpleDeclaration (specs (syntax.Enum None syntax.none_of_specs (enumerators (syntax.enumerator (name (codes "A") (at 15 5)) syntax.no_expr ∷ [])) (at 8 3) ∷ [])) (declared [])) ∷ [])

-- typedef int T; int T;
abbrev pub c02_6 : List syntax.External
c02_6 = (syntax.ExternalDeclaration (syntax.SimpleDeclaration (specs (syntax.StorageSpec storage.Typedef (at 1 0) ∷ syntax.TypeSpec type.Int (at 9 1) ∷ [])) (declared (syntax.init_declarator (syntax.Named [] (name (codes "T") (at 13 2)) (suffixes [])) syntax.no_initializer ∷ []))) ∷ syntax.ExternalDeclaration (syntax.SimpleDeclaration (specs (syntax.TypeSpec type.Int (at 16 4) ∷ [])) (declared (syntax.init_declarator (syntax.Named [] (name (codes "T") (at 20 5)) (suffixes [])) syntax.no_initializer ∷ []))) ∷ [])

-- void f(void) { int x; void x; }
abbrev pub c02_7 : List syntax.External
c02_7 = (syntax.FunctionDefinition (specs (syntax.TypeSpec type.Void (at 1 0) ∷ [])) (syntax.Named [] (name (codes "f") (at 6 1)) (suffixes (syntax.FunctionSuffix (parameters (syntax.parameter (specs (syntax.TypeSpec type.Void (at 8 3) ∷ [])) (syntax.Unnamed [] (suffixes [])) (at 8 3) ∷ [])) false (at 7 2) ∷ []))) (syntax.block (block_items (syntax.DeclarationItem (syntax.SimpleDeclaration (specs (syntax.TypeSpec type.Int (at 16 6) ∷ [])) (declared (syntax.init_declarator (syntax.Named [] (name (codes "x") (at 20 7)) (suffixes [])) syntax.no_initializer ∷ []))) ∷ syntax.DeclarationItem (syntax.SimpleDeclaration (specs (syntax.TypeSpec type.Void (at 23 9) ∷ [])) (declared (syntax.init_declarator (syntax.Named [] (name (codes "x") (at 28 10)) (suffixes [])) syntax.no_initializer ∷ []))) ∷ [])) (span (at 14 5) (at 31 12))) ∷ [])

-- struct s { int a; int a[n]; };
abbrev pub c02_8 : List syntax.External
c02_8 = (syntax.ExternalDeclaration (syntax.SimpleDeclaration (specs (syntax.Struct (Some (name (codes "s") (at 8 1))) (members (syntax.MemberDeclarators (specs (syntax.TypeSpec type.Int (at 12 3) ∷ [])) (syntax.declarators ((syntax.Named [] (name (codes "a") (at 16 4)) (suffixes [])) ∷ [])) ∷ syntax.MemberDeclarators (specs (syntax.TypeSpec type.Int (at 19 6) ∷ [])) (syntax.declarators ((syntax.Named [] (name (codes "a") (at 23 7)) (suffixes (syntax.ArraySuffix (syntax.an_expr (syntax.Identifier (name (codes "n") (at 25 9)))) (at 24 8) ∷ []))) ∷ [])) ∷ [])) (at 1 0) ∷ [])) (declared [])) ∷ [])

-- enum { A, A = n };
abbrev pub c02_9 : List syntax.External
c02_9 = (syntax.ExternalDeclaration (syntax.SimpleDeclaration (specs (syntax.Enum None syntax.none_of_specs (enumerators (syntax.enumerator (name (codes "A") (at 8 2)) syntax.no_expr ∷ syntax.enumerator (name (codes "A") (at 11 4)) (syntax.an_expr (syntax.Identifier (name (codes "n") (at 15 6)))) ∷ [])) (at 1 0) ∷ [])) (declared [])) ∷ [])

-- enum { A = sizeof(enum { A }) };
abbrev pub c02_10 : List syntax.External
c02_10 = (syntax.ExternalDeclaration (syntax.SimpleDeclaration (specs (syntax.Enum None syntax.none_of_specs (enumerators (syntax.enumerator (name (codes "A") (at 8 2)) (syntax.an_expr (syntax.SizeofType (syntax.type_name (specs (syntax.Enum None syntax.none_of_specs (enumerators (syntax.enumerator (name (codes "A") (at 26 8)) syntax.no_expr ∷ [])) (at 19 6) ∷ [])) (syntax.Unnamed [] (suffixes []))) (at 12 4))) ∷ [])) (at 1 0) ∷ [])) (declared [])) ∷ [])

-- int f(int a, int a[n]);
abbrev pub c02_11 : List syntax.External
c02_11 = (syntax.ExternalDeclaration (syntax.SimpleDeclaration (specs (syntax.TypeSpec type.Int (at 1 0) ∷ [])) (declared (syntax.init_declarator (syntax.Named [] (name (codes "f") (at 5 1)) (suffixes (syntax.FunctionSuffix (parameters (syntax.parameter (specs (syntax.TypeSpec type.Int (at 7 3) ∷ [])) (syntax.Named [] (name (codes "a") (at 11 4)) (suffixes [])) (at 7 3) ∷ syntax.parameter (specs (syntax.TypeSpec type.Int (at 14 6) ∷ [])) (syntax.Named [] (name (codes "a") (at 18 7)) (suffixes (syntax.ArraySuffix (syntax.an_expr (syntax.Identifier (name (codes "n") (at 20 9)))) (at 19 8) ∷ []))) (at 14 6) ∷ [])) false (at 6 2) ∷ []))) syntax.no_initializer ∷ []))) ∷ [])

-- int main(void) { int x; int x; return 0; }
abbrev pub c02_12 : List syntax.External
c02_12 = (syntax.FunctionDefinition (specs (syntax.TypeSpec type.Int (at 1 0) ∷ [])) (syntax.Named [] (name (codes "main") (at 5 1)) (suffixes (syntax.FunctionSuffix (parameters (syntax.parameter (specs (syntax.TypeSpec type.Void (at 10 3) ∷ [])) (syntax.Unnamed [] (suffixes [])) (at 10 3) ∷ [])) false (at 9 2) ∷ []))) (syntax.block (block_items (syntax.DeclarationItem (syntax.SimpleDeclaration (specs (syntax.TypeSpec type.Int (at 18 6) ∷ [])) (declared (syntax.init_declarator (syntax.Named [] (name (codes "x") (at 22 7)) (suffixes [])) syntax.no_initializer ∷ []))) ∷ syntax.DeclarationItem (syntax.SimpleDeclaration (specs (syntax.TypeSpec type.Int (at 25 9) ∷ [])) (declared (syntax.init_declarator (syntax.Named [] (name (codes "x") (at 29 10)) (suffixes [])) syntax.no_initializer ∷ []))) ∷ syntax.StatementItem (syntax.Return (syntax.an_expr (syntax.Constant (pos 0) basic.Int (at 39 13))) (at 32 12) (span (at 32 12) (at 40 14))) ∷ [])) (span (at 16 5) (at 42 15))) ∷ [])

-- struct s { int a; int a; };
abbrev pub c02_13 : List syntax.External
c02_13 = (syntax.ExternalDeclaration (syntax.SimpleDeclaration (specs (syntax.Struct (Some (name (codes "s") (at 8 1))) (members (syntax.MemberDeclarators (specs (syntax.TypeSpec type.Int (at 12 3) ∷ [])) (syntax.declarators ((syntax.Named [] (name (codes "a") (at 16 4)) (suffixes [])) ∷ [])) ∷ syntax.MemberDeclarators (specs (syntax.TypeSpec type.Int (at 19 6) ∷ [])) (syntax.declarators ((syntax.Named [] (name (codes "a") (at 23 7)) (suffixes [])) ∷ [])) ∷ [])) (at 1 0) ∷ [])) (declared [])) ∷ [])

-- void f(int a) { int a; }
abbrev pub c02_14 : List syntax.External
c02_14 = (syntax.FunctionDefinition (specs (syntax.TypeSpec type.Void (at 1 0) ∷ [])) (syntax.Named [] (name (codes "f") (at 6 1)) (suffixes (syntax.FunctionSuffix (parameters (syntax.parameter (specs (syntax.TypeSpec type.Int (at 8 3) ∷ [])) (syntax.Named [] (name (codes "a") (at 12 4)) (suffixes [])) (at 8 3) ∷ [])) false (at 7 2) ∷ []))) (syntax.block (block_items (syntax.DeclarationItem (syntax.SimpleDeclaration (specs (syntax.TypeSpec type.Int (at 17 7) ∷ [])) (declared (syntax.init_declarator (syntax.Named [] (name (codes "a") (at 21 8)) (suffixes [])) syntax.no_initializer ∷ []))) ∷ [])) (span (at 15 6) (at 24 10))) ∷ [])
