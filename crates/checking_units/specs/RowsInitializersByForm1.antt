-- initializers by form: units of one line, as trees.
use Rattle.std.specs.Prelude.{List, [], ◌∷◌, Some, None, false, pos, codes}
use Rattle.model_grammar.specs.SyntaxForms as syntax
use Rattle.model_types.specs.declared.numbers.Basic.TheVariants as basic
use Rattle.model_types.specs.declared.numbers.BinOp.TheVariants as op
use Rattle.model_grammar.specs.declared.syntax.TypeWord.TheVariants as type
use Rattle.model_grammar.specs.declared.syntax.PrefixOp.TheVariants as prefix
use Rattle.checking_units.specs.Parts.{at, name, specs, pointer, suffixes, parameters, members, declared, items, designators, block_items, span}

-- int a[2][2] = { 1, 2, 3, 4 }; int b[2][2] = { { 1 }, { 2, 3 } }; int c[2][2] = { { 1, 2 }, 3, 4 };
abbrev pub initializers_by_form_1 : List syntax.External
initializers_by_form_1 = (syntax.ExternalDeclaration (syntax.SimpleDeclaration (specs (syntax.TypeSpec type.Int (at 1 0) ∷ [])) (declared (syntax.init_declarator (syntax.Named [] (name (codes "a") (at 5 1)) (suffixes (syntax.ArraySuffix (syntax.an_expr (syntax.Constant (pos 2) basic.Int (at 7 3))) (at 6 2) ∷ syntax.ArraySuffix (syntax.an_expr (syntax.Constant (pos 2) basic.Int (at 10 6))) (at 9 5) ∷ []))) (syntax.an_initializer (syntax.Braced (syntax.braces (items (syntax.item (designators []) (syntax.Single (syntax.Constant (pos 1) basic.Int (at 17 10))) ∷ syntax.item (designators []) (syntax.Single (syntax.Constant (pos 2) basic.Int (at 20 12))) ∷ syntax.item (designators []) (syntax.Single (syntax.Constant (pos 3) basic.Int (at 23 14))) ∷ syntax.item (designators []) (syntax.Single (syntax.Constant (pos 4) basic.Int (at 26 16))) ∷ [])) (at 15 9)))) ∷ []))) ∷ syntax.ExternalDeclaration (syntax.SimpleDeclaration (specs (syntax.TypeSpec type.Int (at 31 19) ∷ [])) (declared (syntax.init_declarator (syntax.Named [] (name (codes "b") (at 35 20)) (suffixes (syntax.ArraySuffix (syntax.an_expr (syntax.Constant (pos 2) basic.Int (at 37 22))) (at 36 21) ∷ syntax.ArraySuffix (syntax.an_expr (syntax.Constant (pos 2) basic.Int (at 40 25))) (at 39 24) ∷ []))) (syntax.an_initializer (syntax.Braced (syntax.braces (items (syntax.item (designators []) (syntax.Braced (syntax.braces (items (syntax.item (designators []) (syntax.Single (syntax.Constant (pos 1) basic.Int (at 49 30))) ∷ [])) (at 47 29))) ∷ syntax.item (designators []) (syntax.Braced (syntax.braces (items (syntax.item (designators []) (syntax.Single (syntax.Constant (pos 2) basic.Int (at 56 34))) ∷ syntax.item (designators []) (syntax.Single (syntax.Constant (pos 3) basic.Int (at 59 36))) ∷ [])) (at 54 33))) ∷ [])) (at 45 28)))) ∷ []))) ∷ syntax.ExternalDeclaration (syntax.SimpleDeclaration (specs (syntax.TypeSpec type.Int (at 66 40) ∷ [])) (declared (syntax.init_declarator (syntax.Named [] (name (codes "c") (at 70 41)) (suffixes (syntax.ArraySuffix (syntax.an_expr (syntax.Constant (pos 2) basic.Int (at 72 43))) (at 71 42) ∷ syntax.ArraySuffix (syntax.an_expr (syntax.Constant (pos 2) basic.Int (at 75 46))) (at 74 45) ∷ []))) (syntax.an_initializer (syntax.Braced (syntax.braces (items (syntax.item (designators []) (syntax.Braced (syntax.braces (items (syntax.item (designators []) (syntax.Single (syntax.Constant (pos 1) basic.Int (at 84 51))) ∷ syntax.item (designators []) (syntax.Single (syntax.Constant (pos 2) basic.Int (at 87 53))) ∷ [])) (at 82 50))) ∷ syntax.item (designators []) (syntax.Single (syntax.Constant (pos 3) basic.Int (at 92 56))) ∷ syntax.item (designators []) (syntax.Single (syntax.Constant (pos 4) basic.Int (at 95 58))) ∷ [])) (at 80 49)))) ∷ []))) ∷ [])

-- int a[2][2] = { { 1, 2, 3 } };
abbrev pub initializers_by_form_2 : List syntax.External
initializers_by_form_2 = (syntax.ExternalDeclaration (syntax.SimpleDeclaration (specs (syntax.TypeSpec type.Int (at 1 0) ∷ [])) (declared (syntax.init_declarator (syntax.Named [] (name (codes "a") (at 5 1)) (suffixes (syntax.ArraySuffix (syntax.an_expr (syntax.Constant (pos 2) basic.Int (at 7 3))) (at 6 2) ∷ syntax.ArraySuffix (syntax.an_expr (syntax.Constant (pos 2) basic.Int (at 10 6))) (at 9 5) ∷ []))) (syntax.an_initializer (syntax.Braced (syntax.braces (items (syntax.item (designators []) (syntax.Braced (syntax.braces (items (syntax.item (designators []) (syntax.Single (syntax.Constant (pos 1) basic.Int (at 19 11))) ∷ syntax.item (designators []) (syntax.Single (syntax.Constant (pos 2) basic.Int (at 22 13))) ∷ syntax.item (designators []) (syntax.Single (syntax.Constant (pos 3) basic.Int (at 25 15))) ∷ [])) (at 17 10))) ∷ [])) (at 15 9)))) ∷ []))) ∷ [])

-- int a[2][2] = { 1, 2, 3, 4, 5 };
abbrev pub initializers_by_form_3 : List syntax.External
initializers_by_form_3 = (syntax.ExternalDeclaration (syntax.SimpleDeclaration (specs (syntax.TypeSpec type.Int (at 1 0) ∷ [])) (declared (syntax.init_declarator (syntax.Named [] (name (codes "a") (at 5 1)) (suffixes (syntax.ArraySuffix (syntax.an_expr (syntax.Constant (pos 2) basic.Int (at 7 3))) (at 6 2) ∷ syntax.ArraySuffix (syntax.an_expr (syntax.Constant (pos 2) basic.Int (at 10 6))) (at 9 5) ∷ []))) (syntax.an_initializer (syntax.Braced (syntax.braces (items (syntax.item (designators []) (syntax.Single (syntax.Constant (pos 1) basic.Int (at 17 10))) ∷ syntax.item (designators []) (syntax.Single (syntax.Constant (pos 2) basic.Int (at 20 12))) ∷ syntax.item (designators []) (syntax.Single (syntax.Constant (pos 3) basic.Int (at 23 14))) ∷ syntax.item (designators []) (syntax.Single (syntax.Constant (pos 4) basic.Int (at 26 16))) ∷ syntax.item (designators []) (syntax.Single (syntax.Constant (pos 5) basic.Int (at 29 18))) ∷ [])) (at 15 9)))) ∷ []))) ∷ [])

-- struct s { int a; struct { int b, c; } d; int e[2]; } x = { 1, 2, 3, 4, 5 }, y = { .d = { 1 }, 7 }, z = { .d.c = 1, 2, 3, 4 };
abbrev pub initializers_by_form_4 : List syntax.External
initializers_by_form_4 = (syntax.ExternalDeclaration (syntax.SimpleDeclaration (specs (syntax.Struct (Some (name (codes "s") (at 8 1))) (members (syntax.MemberDeclarators (specs (syntax.TypeSpec type.Int (at 12 3) ∷ [])) (syntax.declarators ((syntax.Named [] (name (codes "a") (at 16 4)) (suffixes [])) ∷ [])) ∷ syntax.MemberDeclarators (specs (syntax.Struct None (members (syntax.MemberDeclarators (specs (syntax.TypeSpec type.Int (at 28 8) ∷ [])) (syntax.declarators ((syntax.Named [] (name (codes "b") (at 32 9)) (suffixes [])) ∷ (syntax.Named [] (name (codes "c") (at 35 11)) (suffixes [])) ∷ [])) ∷ [])) (at 19 6) ∷ [])) (syntax.declarators ((syntax.Named [] (name (codes "d") (at 40 14)) (suffixes [])) ∷ [])) ∷ syntax.MemberDeclarators (specs (syntax.TypeSpec type.Int (at 43 16) ∷ [])) (syntax.declarators ((syntax.Named [] (name (codes "e") (at 47 17)) (suffixes (syntax.ArraySuffix (syntax.an_expr (syntax.Constant (pos 2) basic.Int (at 49 19))) (at 48 18) ∷ []))) ∷ [])) ∷ [])) (at 1 0) ∷ [])) (declared (syntax.init_declarator (syntax.Named [] (name (codes "x") (at 55 23)) (suffixes [])) (syntax.an_initializer (syntax.Braced (syntax.braces (items (syntax.item (designators []) (syntax.Single (syntax.Constant (pos 1) basic.Int (at 61 26))) ∷ syntax.item (designators []) (syntax.Single (syntax.Constant (pos 2) basic.Int (at 64 28))) ∷ syntax.item (designators []) (syntax.Single (syntax.Constant (pos 3) basic.Int (at 67 30))) ∷ syntax.item (designators []) (syntax.Single (syntax.Constant (pos 4) basic.Int (at 70 32))) ∷ syntax.item (designators []) (syntax.Single (syntax.Constant (pos 5) basic.Int (at 73 34))) ∷ [])) (at 59 25)))) ∷ syntax.init_declarator (syntax.Named [] (name (codes "y") (at 78 37)) (suffixes [])) (syntax.an_initializer (syntax.Braced (syntax.braces (items (syntax.item (designators (syntax.MemberDesignator (name (codes "d") (at 85 41)) (at 84 40) ∷ [])) (syntax.Braced (syntax.braces (items (syntax.item (designators []) (syntax.Single (syntax.Constant (pos 1) basic.Int (at 91 44))) ∷ [])) (at 89 43))) ∷ syntax.item (designators []) (syntax.Single (syntax.Constant (pos 7) basic.Int (at 96 47))) ∷ [])) (at 82 39)))) ∷ syntax.init_declarator (syntax.Named [] (name (codes "z") (at 101 50)) (suffixes [])) (syntax.an_initializer (syntax.Braced (syntax.braces (items (syntax.item (designators (syntax.MemberDesignator (name (codes "d") (at 108 54)) (at 107 53) ∷ syntax.MemberDesignator (name (codes "c") (at 110 56)) (at 109 55) ∷ [])) (syntax.Single (syntax.Constant (pos 1) basic.Int (at 114 58))) ∷ syntax.item (designators []) (syntax.Single (syntax.Constant (pos 2) basic.Int (at 117 60))) ∷ syntax.item (designators []) (syntax.Single (syntax.Constant (pos 3) basic.Int (at 120 62))) ∷ syntax.item (designators []) (syntax.Single (syntax.Constant (pos 4) basic.Int (at 123 64))) ∷ [])) (at 105 52)))) ∷ []))) ∷ [])

-- struct s { int a; } x = { 1 }, y[2] = { { 1 }, 2 }; struct t { struct s s; int b; } z = { 1, 2 }, w = { { 1 }, 2 };
abbrev pub initializers_by_form_5 : List syntax.External
initializers_by_form_5 = (syntax.ExternalDeclaration (syntax.SimpleDeclaration (specs (syntax.Struct (Some (name (codes "s") (at 8 1))) (members (syntax.MemberDeclarators (specs (syntax.TypeSpec type.Int (at 12 3) ∷ [])) (syntax.declarators ((syntax.Named [] (name (codes "a") (at 16 4)) (suffixes [])) ∷ [])) ∷ [])) (at 1 0) ∷ [])) (declared (syntax.init_declarator (syntax.Named [] (name (codes "x") (at 21 7)) (suffixes [])) (syntax.an_initializer (syntax.Braced (syntax.braces (items (syntax.item (designators []) (syntax.Single (syntax.Constant (pos 1) basic.Int (at 27 10))) ∷ [])) (at 25 9)))) ∷ syntax.init_declarator (syntax.Named [] (name (codes "y") (at 32 13)) (suffixes (syntax.ArraySuffix (syntax.an_expr (syntax.Constant (pos 2) basic.Int (at 34 15))) (at 33 14) ∷ []))) (syntax.an_initializer (syntax.Braced (syntax.braces (items (syntax.item (designators []) (syntax.Braced (syntax.braces (items (syntax.item (designators []) (syntax.Single (syntax.Constant (pos 1) basic.Int (at 43 20))) ∷ [])) (at 41 19))) ∷ syntax.item (designators []) (syntax.Single (syntax.Constant (pos 2) basic.Int (at 48 23))) ∷ [])) (at 39 18)))) ∷ []))) ∷ syntax.ExternalDeclaration (syntax.SimpleDeclaration (specs (syntax.Struct (Some (name (codes "t") (at 60 27))) (members (syntax.MemberDeclarators (specs (syntax.StructTag (name (codes "s") (at 71 30)) (at 64 29) ∷ [])) (syntax.declarators ((syntax.Named [] (name (codes "s") (at 73 31)) (suffixes [])) ∷ [])) ∷ syntax.MemberDeclarators (specs (syntax.TypeSpec type.Int (at 76 33) ∷ [])) (syntax.declarators ((syntax.Named [] (name (codes "b") (at 80 34)) (suffixes [])) ∷ [])) ∷ [])) (at 53 26) ∷ [])) (declared (syntax.init_declarator (syntax.Named [] (name (codes "z") (at 85 37)) (suffixes [])) (syntax.an_initializer (syntax.Braced (syntax.braces (items (syntax.item (designators []) (syntax.Single (syntax.Constant (pos 1) basic.Int (at 91 40))) ∷ syntax.item (designators []) (syntax.Single (syntax.Constant (pos 2) basic.Int (at 94 42))) ∷ [])) (at 89 39)))) ∷ syntax.init_declarator (syntax.Named [] (name (codes "w") (at 99 45)) (suffixes [])) (syntax.an_initializer (syntax.Braced (syntax.braces (items (syntax.item (designators []) (syntax.Braced (syntax.braces (items (syntax.item (designators []) (syntax.Single (syntax.Constant (pos 1) basic.Int (at 107 49))) ∷ [])) (at 105 48))) ∷ syntax.item (designators []) (syntax.Single (syntax.Constant (pos 2) basic.Int (at 112 52))) ∷ [])) (at 103 47)))) ∷ []))) ∷ [])

-- struct s { int a, b; }; struct t { struct s s; int c; }; void g(struct s v) { struct t x = { v, 1 }; struct t y = { .s = v, .s.a = 2 }; struct t z[2] = { v, 1, v, 2 }; }
abbrev pub initializers_by_form_6 : List syntax.External
initializers_by_form_6 = (syntax.ExternalDeclaration (syntax.SimpleDeclaration (specs (syntax.Struct (Some (name (codes "s") (at 8 1))) (members (syntax.MemberDeclarators (specs (syntax.TypeSpec type.Int (at 12 3) ∷ [])) (syntax.declarators ((syntax.Named [] (name (codes "a") (at 16 4)) (suffixes [])) ∷ (syntax.Named [] (name (codes "b") (at 19 6)) (suffixes [])) ∷ [])) ∷ [])) (at 1 0) ∷ [])) (declared [])) ∷ syntax.ExternalDeclaration (syntax.SimpleDeclaration (specs (syntax.Struct (Some (name (codes "t") (at 32 11))) (members (syntax.MemberDeclarators (specs (syntax.StructTag (name (codes "s") (at 43 14)) (at 36 13) ∷ [])) (syntax.declarators ((syntax.Named [] (name (codes "s") (at 45 15)) (suffixes [])) ∷ [])) ∷ syntax.MemberDeclarators (specs (syntax.TypeSpec type.Int (at 48 17) ∷ [])) (syntax.declarators ((syntax.Named [] (name (codes "c") (at 52 18)) (suffixes [])) ∷ [])) ∷ [])) (at 25 10) ∷ [])) (declared [])) ∷ syntax.FunctionDefinition (specs (syntax.TypeSpec type.Void (at 58 22) ∷ [])) (syntax.Named [] (name (codes "g") (at 63 23)) (suffixes (syntax.FunctionSuffix (parameters (syntax.parameter (specs (syntax.StructTag (name (codes "s") (at 72 26)) (at 65 25) ∷ [])) (syntax.Named [] (name (codes "v") (at 74 27)) (suffixes [])) (at 65 25) ∷ [])) false (at 64 24) ∷ []))) (syntax.block (block_items (syntax.DeclarationItem (syntax.SimpleDeclaration (specs (syntax.StructTag (name (codes "t") (at 86 31)) (at 79 30) ∷ [])) (declared (syntax.init_declarator (syntax.Named [] (name (codes "x") (at 88 32)) (suffixes [])) (syntax.an_initializer (syntax.Braced (syntax.braces (items (syntax.item (designators []) (syntax.Single (syntax.Identifier (name (codes "v") (at 94 35)))) ∷ syntax.item (designators []) (syntax.Single (syntax.Constant (pos 1) basic.Int (at 97 37))) ∷ [])) (at 92 34)))) ∷ []))) ∷ syntax.DeclarationItem (syntax.SimpleDeclaration (specs (syntax.StructTag (name (codes "t") (at 109 41)) (at 102 40) ∷ [])) (declared (syntax.init_declarator (syntax.Named [] (name (codes "y") (at 111 42)) (suffixes [])) (syntax.an_initializer (syntax.Braced (syntax.braces (items (syntax.item (designators (syntax.MemberDesignator (name (codes "s") (at 118 46)) (at 117 45) ∷ [])) (syntax.Single (syntax.Identifier (name (codes "v") (at 122 48)))) ∷ syntax.item (designators (syntax.MemberDesignator (name (codes "s") (at 126 51)) (at 125 50) ∷ syntax.MemberDesignator (name (codes "a") (at 128 53)) (at 127 52) ∷ [])) (syntax.Single (syntax.Constant (pos 2) basic.Int (at 132 55))) ∷ [])) (at 115 44)))) ∷ []))) ∷ syntax.DeclarationItem (syntax.SimpleDeclaration (specs (syntax.StructTag (name (codes "t") (at 144 59)) (at 137 58) ∷ [])) (declared (syntax.init_declarator (syntax.Named [] (name (codes "z") (at 146 60)) (suffixes (syntax.ArraySuffix (syntax.an_expr (syntax.Constant (pos 2) basic.Int (at 148 62))) (at 147 61) ∷ []))) (syntax.an_initializer (syntax.Braced (syntax.braces (items (syntax.item (designators []) (syntax.Single (syntax.Identifier (name (codes "v") (at 155 66)))) ∷ syntax.item (designators []) (syntax.Single (syntax.Constant (pos 1) basic.Int (at 158 68))) ∷ syntax.item (designators []) (syntax.Single (syntax.Identifier (name (codes "v") (at 161 70)))) ∷ syntax.item (designators []) (syntax.Single (syntax.Constant (pos 2) basic.Int (at 164 72))) ∷ [])) (at 153 65)))) ∷ []))) ∷ [])) (span (at 77 29) (at 169 75))) ∷ [])

-- char a[2][3] = { "ab", "abc" }, b[][2] = { "a", "b", "c" }; int c[sizeof b == 6 ? 1 : -1];
abbrev pub initializers_by_form_7 : List syntax.External
initializers_by_form_7 = (syntax.ExternalDeclaration (syntax.SimpleDeclaration (specs (syntax.TypeSpec type.Char (at 1 0) ∷ [])) (declared (syntax.init_declarator (syntax.Named [] (name (codes "a") (at 6 1)) (suffixes (syntax.ArraySuffix (syntax.an_expr (syntax.Constant (pos 2) basic.Int (at 8 3))) (at 7 2) ∷ syntax.ArraySuffix (syntax.an_expr (syntax.Constant (pos 3) basic.Int (at 11 6))) (at 10 5) ∷ []))) (syntax.an_initializer (syntax.Braced (syntax.braces (items (syntax.item (designators []) (syntax.Single (syntax.Text (codes "ab") (at 18 10))) ∷ syntax.item (designators []) (syntax.Single (syntax.Text (codes "abc") (at 24 12))) ∷ [])) (at 16 9)))) ∷ syntax.init_declarator (syntax.Named [] (name (codes "b") (at 33 15)) (suffixes (syntax.ArraySuffix syntax.no_expr (at 34 16) ∷ syntax.ArraySuffix (syntax.an_expr (syntax.Constant (pos 2) basic.Int (at 37 19))) (at 36 18) ∷ []))) (syntax.an_initializer (syntax.Braced (syntax.braces (items (syntax.item (designators []) (syntax.Single (syntax.Text (codes "a") (at 44 23))) ∷ syntax.item (designators []) (syntax.Single (syntax.Text (codes "b") (at 49 25))) ∷ syntax.item (designators []) (syntax.Single (syntax.Text (codes "c") (at 54 27))) ∷ [])) (at 42 22)))) ∷ []))) ∷ syntax.ExternalDeclaration (syntax.SimpleDeclaration (specs (syntax.TypeSpec type.Int (at 61 30) ∷ [])) (declared (syntax.init_declarator (syntax.Named [] (name (codes "c") (at 65 31)) (suffixes (syntax.ArraySuffix (syntax.an_expr (syntax.Conditional (syntax.Binary op.Equal (syntax.SizeofExpr (syntax.Identifier (name (codes "b") (at 74 34))) (at 67 33)) (syntax.Constant (pos 6) basic.Int (at 79 36)) (at 76 35)) (syntax.Constant (pos 1) basic.Int (at 83 38)) (syntax.Unary prefix.Minus (syntax.Constant (pos 1) basic.Int (at 88 41)) (at 87 40)) (at 81 37))) (at 66 32) ∷ []))) syntax.no_initializer ∷ []))) ∷ [])

-- struct s { char n[3]; int k; } x = { "ab", 1 }, y[] = { "a", 1, "b", 2 }; int c[sizeof y == 16 ? 1 : -1];
abbrev pub initializers_by_form_8 : List syntax.External
initializers_by_form_8 = (syntax.ExternalDeclaration (syntax.SimpleDeclaration (specs (syntax.Struct (Some (name (codes "s") (at 8 1))) (members (syntax.MemberDeclarators (specs (syntax.TypeSpec type.Char (at 12 3) ∷ [])) (syntax.declarators ((syntax.Named [] (name (codes "n") (at 17 4)) (suffixes (syntax.ArraySuffix (syntax.an_expr (syntax.Constant (pos 3) basic.Int (at 19 6))) (at 18 5) ∷ []))) ∷ [])) ∷ syntax.MemberDeclarators (specs (syntax.TypeSpec type.Int (at 23 9) ∷ [])) (syntax.declarators ((syntax.Named [] (name (codes "k") (at 27 10)) (suffixes [])) ∷ [])) ∷ [])) (at 1 0) ∷ [])) (declared (syntax.init_declarator (syntax.Named [] (name (codes "x") (at 32 13)) (suffixes [])) (syntax.an_initializer (syntax.Braced (syntax.braces (items (syntax.item (designators []) (syntax.Single (syntax.Text (codes "ab") (at 38 16))) ∷ syntax.item (designators []) (syntax.Single (syntax.Constant (pos 1) basic.Int (at 44 18))) ∷ [])) (at 36 15)))) ∷ syntax.init_declarator (syntax.Named [] (name (codes "y") (at 49 21)) (suffixes (syntax.ArraySuffix syntax.no_expr (at 50 22) ∷ []))) (syntax.an_initializer (syntax.Braced (syntax.braces (items (syntax.item (designators []) (syntax.Single (syntax.Text (codes "a") (at 57 26))) ∷ syntax.item (designators []) (syntax.Single (syntax.Constant (pos 1) basic.Int (at 62 28))) ∷ syntax.item (designators []) (syntax.Single (syntax.Text (codes "b") (at 65 30))) ∷ syntax.item (designators []) (syntax.Single (syntax.Constant (pos 2) basic.Int (at 70 32))) ∷ [])) (at 55 25)))) ∷ []))) ∷ syntax.ExternalDeclaration (syntax.SimpleDeclaration (specs (syntax.TypeSpec type.Int (at 75 35) ∷ [])) (declared (syntax.init_declarator (syntax.Named [] (name (codes "c") (at 79 36)) (suffixes (syntax.ArraySuffix (syntax.an_expr (syntax.Conditional (syntax.Binary op.Equal (syntax.SizeofExpr (syntax.Identifier (name (codes "y") (at 88 39))) (at 81 38)) (syntax.Constant (pos 16) basic.Int (at 93 41)) (at 90 40)) (syntax.Constant (pos 1) basic.Int (at 98 43)) (syntax.Unary prefix.Minus (syntax.Constant (pos 1) basic.Int (at 103 46)) (at 102 45)) (at 96 42))) (at 80 37) ∷ []))) syntax.no_initializer ∷ []))) ∷ [])

-- int a[] = { [3] = 1, 2 }; int b[sizeof a == 20 ? 1 : -1];
abbrev pub initializers_by_form_9 : List syntax.External
initializers_by_form_9 = (syntax.ExternalDeclaration (syntax.SimpleDeclaration (specs (syntax.TypeSpec type.Int (at 1 0) ∷ [])) (declared (syntax.init_declarator (syntax.Named [] (name (codes "a") (at 5 1)) (suffixes (syntax.ArraySuffix syntax.no_expr (at 6 2) ∷ []))) (syntax.an_initializer (syntax.Braced (syntax.braces (items (syntax.item (designators (syntax.ElementDesignator (syntax.Constant (pos 3) basic.Int (at 14 7)) (at 13 6) ∷ [])) (syntax.Single (syntax.Constant (pos 1) basic.Int (at 19 10))) ∷ syntax.item (designators []) (syntax.Single (syntax.Constant (pos 2) basic.Int (at 22 12))) ∷ [])) (at 11 5)))) ∷ []))) ∷ syntax.ExternalDeclaration (syntax.SimpleDeclaration (specs (syntax.TypeSpec type.Int (at 27 15) ∷ [])) (declared (syntax.init_declarator (syntax.Named [] (name (codes "b") (at 31 16)) (suffixes (syntax.ArraySuffix (syntax.an_expr (syntax.Conditional (syntax.Binary op.Equal (syntax.SizeofExpr (syntax.Identifier (name (codes "a") (at 40 19))) (at 33 18)) (syntax.Constant (pos 20) basic.Int (at 45 21)) (at 42 20)) (syntax.Constant (pos 1) basic.Int (at 50 23)) (syntax.Unary prefix.Minus (syntax.Constant (pos 1) basic.Int (at 55 26)) (at 54 25)) (at 48 22))) (at 32 17) ∷ []))) syntax.no_initializer ∷ []))) ∷ [])

-- int a[] = { [-1] = 1 };
abbrev pub initializers_by_form_10 : List syntax.External
initializers_by_form_10 = (syntax.ExternalDeclaration (syntax.SimpleDeclaration (specs (syntax.TypeSpec type.Int (at 1 0) ∷ [])) (declared (syntax.init_declarator (syntax.Named [] (name (codes "a") (at 5 1)) (suffixes (syntax.ArraySuffix syntax.no_expr (at 6 2) ∷ []))) (syntax.an_initializer (syntax.Braced (syntax.braces (items (syntax.item (designators (syntax.ElementDesignator (syntax.Unary prefix.Minus (syntax.Constant (pos 1) basic.Int (at 15 8)) (at 14 7)) (at 13 6) ∷ [])) (syntax.Single (syntax.Constant (pos 1) basic.Int (at 20 11))) ∷ [])) (at 11 5)))) ∷ []))) ∷ [])

-- struct s { int a[2]; } x = { .a[1] = 1, .a[0] = 2 }, y = { .a[2] = 1 };
abbrev pub initializers_by_form_11 : List syntax.External
initializers_by_form_11 = (syntax.ExternalDeclaration (syntax.SimpleDeclaration (specs (syntax.Struct (Some (name (codes "s") (at 8 1))) (members (syntax.MemberDeclarators (specs (syntax.TypeSpec type.Int (at 12 3) ∷ [])) (syntax.declarators ((syntax.Named [] (name (codes "a") (at 16 4)) (suffixes (syntax.ArraySuffix (syntax.an_expr (syntax.Constant (pos 2) basic.Int (at 18 6))) (at 17 5) ∷ []))) ∷ [])) ∷ [])) (at 1 0) ∷ [])) (declared (syntax.init_declarator (syntax.Named [] (name (codes "x") (at 24 10)) (suffixes [])) (syntax.an_initializer (syntax.Braced (syntax.braces (items (syntax.item (designators (syntax.MemberDesignator (name (codes "a") (at 31 14)) (at 30 13) ∷ syntax.ElementDesignator (syntax.Constant (pos 1) basic.Int (at 33 16)) (at 32 15) ∷ [])) (syntax.Single (syntax.Constant (pos 1) basic.Int (at 38 19))) ∷ syntax.item (designators (syntax.MemberDesignator (name (codes "a") (at 42 22)) (at 41 21) ∷ syntax.ElementDesignator (syntax.Constant (pos 0) basic.Int (at 44 24)) (at 43 23) ∷ [])) (syntax.Single (syntax.Constant (pos 2) basic.Int (at 49 27))) ∷ [])) (at 28 12)))) ∷ syntax.init_declarator (syntax.Named [] (name (codes "y") (at 54 30)) (suffixes [])) (syntax.an_initializer (syntax.Braced (syntax.braces (items (syntax.item (designators (syntax.MemberDesignator (name (codes "a") (at 61 34)) (at 60 33) ∷ syntax.ElementDesignator (syntax.Constant (pos 2) basic.Int (at 63 36)) (at 62 35) ∷ [])) (syntax.Single (syntax.Constant (pos 1) basic.Int (at 68 39))) ∷ [])) (at 58 32)))) ∷ []))) ∷ [])

-- struct s { int a; } x = { [0] = 1 };
abbrev pub initializers_by_form_12 : List syntax.External
initializers_by_form_12 = (syntax.ExternalDeclaration (syntax.SimpleDeclaration (specs (syntax.Struct (Some (name (codes "s") (at 8 1))) (members (syntax.MemberDeclarators (specs (syntax.TypeSpec type.Int (at 12 3) ∷ [])) (syntax.declarators ((syntax.Named [] (name (codes "a") (at 16 4)) (suffixes [])) ∷ [])) ∷ [])) (at 1 0) ∷ [])) (declared (syntax.init_declarator (syntax.Named [] (name (codes "x") (at 21 7)) (suffixes [])) (syntax.an_initializer (syntax.Braced (syntax.braces (items (syntax.item (designators (syntax.ElementDesignator (syntax.Constant (pos 0) basic.Int (at 28 11)) (at 27 10) ∷ [])) (syntax.Single (syntax.Constant (pos 1) basic.Int (at 33 14))) ∷ [])) (at 25 9)))) ∷ []))) ∷ [])

-- int a[2] = { .x = 1 };
abbrev pub initializers_by_form_13 : List syntax.External
initializers_by_form_13 = (syntax.ExternalDeclaration (syntax.SimpleDeclaration (specs (syntax.TypeSpec type.Int (at 1 0) ∷ [])) (declared (syntax.init_declarator (syntax.Named [] (name (codes "a") (at 5 1)) (suffixes (syntax.ArraySuffix (syntax.an_expr (syntax.Constant (pos 2) basic.Int (at 7 3))) (at 6 2) ∷ []))) (syntax.an_initializer (syntax.Braced (syntax.braces (items (syntax.item (designators (syntax.MemberDesignator (name (codes "x") (at 15 8)) (at 14 7) ∷ [])) (syntax.Single (syntax.Constant (pos 1) basic.Int (at 19 10))) ∷ [])) (at 12 6)))) ∷ []))) ∷ [])

-- char *p[] = { "a", "b" }; char q[2] = { 'a', "b" };
abbrev pub initializers_by_form_14 : List syntax.External
initializers_by_form_14 = (syntax.ExternalDeclaration (syntax.SimpleDeclaration (specs (syntax.TypeSpec type.Char (at 1 0) ∷ [])) (declared (syntax.init_declarator (syntax.Named (pointer (at 6 1) [] ∷ []) (name (codes "p") (at 7 2)) (suffixes (syntax.ArraySuffix syntax.no_expr (at 8 3) ∷ []))) (syntax.an_initializer (syntax.Braced (syntax.braces (items (syntax.item (designators []) (syntax.Single (syntax.Text (codes "a") (at 15 7))) ∷ syntax.item (designators []) (syntax.Single (syntax.Text (codes "b") (at 20 9))) ∷ [])) (at 13 6)))) ∷ []))) ∷ syntax.ExternalDeclaration (syntax.SimpleDeclaration (specs (syntax.TypeSpec type.Char (at 27 12) ∷ [])) (declared (syntax.init_declarator (syntax.Named [] (name (codes "q") (at 32 13)) (suffixes (syntax.ArraySuffix (syntax.an_expr (syntax.Constant (pos 2) basic.Int (at 34 15))) (at 33 14) ∷ []))) (syntax.an_initializer (syntax.Braced (syntax.braces (items (syntax.item (designators []) (syntax.Single (syntax.Constant (pos 97) basic.Int (at 41 19))) ∷ syntax.item (designators []) (syntax.Single (syntax.Text (codes "b") (at 46 21))) ∷ [])) (at 39 18)))) ∷ []))) ∷ [])

-- int *p = { 0 }; int *q = {}; struct s { int *r; } x = {};
abbrev pub initializers_by_form_15 : List syntax.External
initializers_by_form_15 = (syntax.ExternalDeclaration (syntax.SimpleDeclaration (specs (syntax.TypeSpec type.Int (at 1 0) ∷ [])) (declared (syntax.init_declarator (syntax.Named (pointer (at 5 1) [] ∷ []) (name (codes "p") (at 6 2)) (suffixes [])) (syntax.an_initializer (syntax.Braced (syntax.braces (items (syntax.item (designators []) (syntax.Single (syntax.Constant (pos 0) basic.Int (at 12 5))) ∷ [])) (at 10 4)))) ∷ []))) ∷ syntax.ExternalDeclaration (syntax.SimpleDeclaration (specs (syntax.TypeSpec type.Int (at 17 8) ∷ [])) (declared (syntax.init_declarator (syntax.Named (pointer (at 21 9) [] ∷ []) (name (codes "q") (at 22 10)) (suffixes [])) (syntax.an_initializer (syntax.Braced (syntax.braces (items []) (at 26 12)))) ∷ []))) ∷ syntax.ExternalDeclaration (syntax.SimpleDeclaration (specs (syntax.Struct (Some (name (codes "s") (at 37 16))) (members (syntax.MemberDeclarators (specs (syntax.TypeSpec type.Int (at 41 18) ∷ [])) (syntax.declarators ((syntax.Named (pointer (at 45 19) [] ∷ []) (name (codes "r") (at 46 20)) (suffixes [])) ∷ [])) ∷ [])) (at 30 15) ∷ [])) (declared (syntax.init_declarator (syntax.Named [] (name (codes "x") (at 51 23)) (suffixes [])) (syntax.an_initializer (syntax.Braced (syntax.braces (items []) (at 55 25)))) ∷ []))) ∷ [])

-- struct s { int a; }; void g(struct s v) { struct s x = (v), y = { v }; }
abbrev pub initializers_by_form_16 : List syntax.External
initializers_by_form_16 = (syntax.ExternalDeclaration (syntax.SimpleDeclaration (specs (syntax.Struct (Some (name (codes "s") (at 8 1))) (members (syntax.MemberDeclarators (specs (syntax.TypeSpec type.Int (at 12 3) ∷ [])) (syntax.declarators ((syntax.Named [] (name (codes "a") (at 16 4)) (suffixes [])) ∷ [])) ∷ [])) (at 1 0) ∷ [])) (declared [])) ∷ syntax.FunctionDefinition (specs (syntax.TypeSpec type.Void (at 22 8) ∷ [])) (syntax.Named [] (name (codes "g") (at 27 9)) (suffixes (syntax.FunctionSuffix (parameters (syntax.parameter (specs (syntax.StructTag (name (codes "s") (at 36 12)) (at 29 11) ∷ [])) (syntax.Named [] (name (codes "v") (at 38 13)) (suffixes [])) (at 29 11) ∷ [])) false (at 28 10) ∷ []))) (syntax.block (block_items (syntax.DeclarationItem (syntax.SimpleDeclaration (specs (syntax.StructTag (name (codes "s") (at 50 17)) (at 43 16) ∷ [])) (declared (syntax.init_declarator (syntax.Named [] (name (codes "x") (at 52 18)) (suffixes [])) (syntax.an_initializer (syntax.Single (syntax.Parenthesized (syntax.Identifier (name (codes "v") (at 57 21))) (at 56 20)))) ∷ syntax.init_declarator (syntax.Named [] (name (codes "y") (at 61 24)) (suffixes [])) (syntax.an_initializer (syntax.Braced (syntax.braces (items (syntax.item (designators []) (syntax.Single (syntax.Identifier (name (codes "v") (at 67 27)))) ∷ [])) (at 65 26)))) ∷ []))) ∷ [])) (span (at 41 15) (at 72 30))) ∷ [])

-- unsigned char c[] = "\xff"; int d[sizeof c == 2 ? 1 : -1];
abbrev pub initializers_by_form_17 : List syntax.External
initializers_by_form_17 = (syntax.ExternalDeclaration (syntax.SimpleDeclaration (specs (syntax.TypeSpec type.Unsigned (at 1 0) ∷ syntax.TypeSpec type.Char (at 10 1) ∷ [])) (declared (syntax.init_declarator (syntax.Named [] (name (codes "c") (at 15 2)) (suffixes (syntax.ArraySuffix syntax.no_expr (at 16 3) ∷ []))) (syntax.an_initializer (syntax.Single (syntax.Text (255 ∷ []) (at 21 6)))) ∷ []))) ∷ syntax.ExternalDeclaration (syntax.SimpleDeclaration (specs (syntax.TypeSpec type.Int (at 29 8) ∷ [])) (declared (syntax.init_declarator (syntax.Named [] (name (codes "d") (at 33 9)) (suffixes (syntax.ArraySuffix (syntax.an_expr (syntax.Conditional (syntax.Binary op.Equal (syntax.SizeofExpr (syntax.Identifier (name (codes "c") (at 42 12))) (at 35 11)) (syntax.Constant (pos 2) basic.Int (at 47 14)) (at 44 13)) (syntax.Constant (pos 1) basic.Int (at 51 16)) (syntax.Unary prefix.Minus (syntax.Constant (pos 1) basic.Int (at 56 19)) (at 55 18)) (at 49 15))) (at 34 10) ∷ []))) syntax.no_initializer ∷ []))) ∷ [])

-- char c[2] = { "abc" };
abbrev pub initializers_by_form_18 : List syntax.External
initializers_by_form_18 = (syntax.ExternalDeclaration (syntax.SimpleDeclaration (specs (syntax.TypeSpec type.Char (at 1 0) ∷ [])) (declared (syntax.init_declarator (syntax.Named [] (name (codes "c") (at 6 1)) (suffixes (syntax.ArraySuffix (syntax.an_expr (syntax.Constant (pos 2) basic.Int (at 8 3))) (at 7 2) ∷ []))) (syntax.an_initializer (syntax.Braced (syntax.braces (items (syntax.item (designators []) (syntax.Single (syntax.Text (codes "abc") (at 15 7))) ∷ [])) (at 13 6)))) ∷ []))) ∷ [])

-- int a[3] = { [0] = 1, [2] = 3, 4 };
abbrev pub initializers_by_form_19 : List syntax.External
initializers_by_form_19 = (syntax.ExternalDeclaration (syntax.SimpleDeclaration (specs (syntax.TypeSpec type.Int (at 1 0) ∷ [])) (declared (syntax.init_declarator (syntax.Named [] (name (codes "a") (at 5 1)) (suffixes (syntax.ArraySuffix (syntax.an_expr (syntax.Constant (pos 3) basic.Int (at 7 3))) (at 6 2) ∷ []))) (syntax.an_initializer (syntax.Braced (syntax.braces (items (syntax.item (designators (syntax.ElementDesignator (syntax.Constant (pos 0) basic.Int (at 15 8)) (at 14 7) ∷ [])) (syntax.Single (syntax.Constant (pos 1) basic.Int (at 20 11))) ∷ syntax.item (designators (syntax.ElementDesignator (syntax.Constant (pos 2) basic.Int (at 24 14)) (at 23 13) ∷ [])) (syntax.Single (syntax.Constant (pos 3) basic.Int (at 29 17))) ∷ syntax.item (designators []) (syntax.Single (syntax.Constant (pos 4) basic.Int (at 32 19))) ∷ [])) (at 12 6)))) ∷ []))) ∷ [])

-- int a[2] = { [0] = y, [0] = 1 };
abbrev pub initializers_by_form_20 : List syntax.External
initializers_by_form_20 = (syntax.ExternalDeclaration (syntax.SimpleDeclaration (specs (syntax.TypeSpec type.Int (at 1 0) ∷ [])) (declared (syntax.init_declarator (syntax.Named [] (name (codes "a") (at 5 1)) (suffixes (syntax.ArraySuffix (syntax.an_expr (syntax.Constant (pos 2) basic.Int (at 7 3))) (at 6 2) ∷ []))) (syntax.an_initializer (syntax.Braced (syntax.braces (items (syntax.item (designators (syntax.ElementDesignator (syntax.Constant (pos 0) basic.Int (at 15 8)) (at 14 7) ∷ [])) (syntax.Single (syntax.Identifier (name (codes "y") (at 20 11)))) ∷ syntax.item (designators (syntax.ElementDesignator (syntax.Constant (pos 0) basic.Int (at 24 14)) (at 23 13) ∷ [])) (syntax.Single (syntax.Constant (pos 1) basic.Int (at 29 17))) ∷ [])) (at 12 6)))) ∷ []))) ∷ [])

-- int a[2] = "ab";
abbrev pub initializers_by_form_21 : List syntax.External
initializers_by_form_21 = (syntax.ExternalDeclaration (syntax.SimpleDeclaration (specs (syntax.TypeSpec type.Int (at 1 0) ∷ [])) (declared (syntax.init_declarator (syntax.Named [] (name (codes "a") (at 5 1)) (suffixes (syntax.ArraySuffix (syntax.an_expr (syntax.Constant (pos 2) basic.Int (at 7 3))) (at 6 2) ∷ []))) (syntax.an_initializer (syntax.Single (syntax.Text (codes "ab") (at 12 6)))) ∷ []))) ∷ [])

-- char *p = "ab"; int q = "ab";
abbrev pub initializers_by_form_22 : List syntax.External
initializers_by_form_22 = (syntax.ExternalDeclaration (syntax.SimpleDeclaration (specs (syntax.TypeSpec type.Char (at 1 0) ∷ [])) (declared (syntax.init_declarator (syntax.Named (pointer (at 6 1) [] ∷ []) (name (codes "p") (at 7 2)) (suffixes [])) (syntax.an_initializer (syntax.Single (syntax.Text (codes "ab") (at 11 4)))) ∷ []))) ∷ syntax.ExternalDeclaration (syntax.SimpleDeclaration (specs (syntax.TypeSpec type.Int (at 17 6) ∷ [])) (declared (syntax.init_declarator (syntax.Named [] (name (codes "q") (at 21 7)) (suffixes [])) (syntax.an_initializer (syntax.Single (syntax.Text (codes "ab") (at 25 9)))) ∷ []))) ∷ [])

-- void g(int n) { (int[]){ n, n }; (int[]){}; }
abbrev pub initializers_by_form_23 : List syntax.External
initializers_by_form_23 = (syntax.FunctionDefinition (specs (syntax.TypeSpec type.Void (at 1 0) ∷ [])) (syntax.Named [] (name (codes "g") (at 6 1)) (suffixes (syntax.FunctionSuffix (parameters (syntax.parameter (specs (syntax.TypeSpec type.Int (at 8 3) ∷ [])) (syntax.Named [] (name (codes "n") (at 12 4)) (suffixes [])) (at 8 3) ∷ [])) false (at 7 2) ∷ []))) (syntax.block (block_items (syntax.StatementItem (syntax.ExpressionStatement (syntax.an_expr (syntax.CompoundLiteral (syntax.type_name (specs (syntax.TypeSpec type.Int (at 18 8) ∷ [])) (syntax.Unnamed [] (suffixes (syntax.ArraySuffix syntax.no_expr (at 21 9) ∷ [])))) (syntax.braces (items (syntax.item (designators []) (syntax.Single (syntax.Identifier (name (codes "n") (at 26 13)))) ∷ syntax.item (designators []) (syntax.Single (syntax.Identifier (name (codes "n") (at 29 15)))) ∷ [])) (at 24 12)) (at 17 7))) (span (at 17 7) (at 32 17))) ∷ syntax.StatementItem (syntax.ExpressionStatement (syntax.an_expr (syntax.CompoundLiteral (syntax.type_name (specs (syntax.TypeSpec type.Int (at 35 19) ∷ [])) (syntax.Unnamed [] (suffixes (syntax.ArraySuffix syntax.no_expr (at 38 20) ∷ [])))) (syntax.braces (items []) (at 41 23)) (at 34 18))) (span (at 34 18) (at 43 25))) ∷ [])) (span (at 15 6) (at 45 26))) ∷ [])

-- void g(void) { (struct u){ 1 }; }
abbrev pub initializers_by_form_24 : List syntax.External
initializers_by_form_24 = (syntax.FunctionDefinition (specs (syntax.TypeSpec type.Void (at 1 0) ∷ [])) (syntax.Named [] (name (codes "g") (at 6 1)) (suffixes (syntax.FunctionSuffix (parameters (syntax.parameter (specs (syntax.TypeSpec type.Void (at 8 3) ∷ [])) (syntax.Unnamed [] (suffixes [])) (at 8 3) ∷ [])) false (at 7 2) ∷ []))) (syntax.block (block_items (syntax.StatementItem (syntax.ExpressionStatement (syntax.an_expr (syntax.CompoundLiteral (syntax.type_name (specs (syntax.StructTag (name (codes "u") (at 24 8)) (at 17 7) ∷ [])) (syntax.Unnamed [] (suffixes []))) (syntax.braces (items (syntax.item (designators []) (syntax.Single (syntax.Constant (pos 1) basic.Int (at 28 11))) ∷ [])) (at 26 10)) (at 16 6))) (span (at 16 6) (at 31 13))) ∷ [])) (span (at 14 5) (at 33 14))) ∷ [])
