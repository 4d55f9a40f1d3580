-- sizes and types of operands: units of one line, as trees.
use Rattle.std.specs.Prelude.{List, [], ◌∷◌, Some, true, false, pos, codes}
use Rattle.model_grammar.specs.SyntaxForms as syntax
use Rattle.model_types.specs.declared.numbers.Basic.TheVariants as basic
use Rattle.model_types.specs.declared.numbers.BinOp.TheVariants as op
use Rattle.model_types.specs.declared.operators.LogicOp.TheVariants as logic
use Rattle.model_grammar.specs.declared.syntax.StorageWord.TheVariants as storage
use Rattle.model_grammar.specs.declared.syntax.TypeWord.TheVariants as type
use Rattle.model_grammar.specs.declared.syntax.PrefixOp.TheVariants as prefix
use Rattle.checking_units.specs.Parts.{at, name, specs, pointer, suffixes, parameters, members, declared, block_items, span}

-- int a[sizeof(int[3]) == 12 ? 1 : -1]; int b[alignof(long) == 8 ? 1 : -1]; struct s { char c; long d; short e; }; int c[sizeof(struct s) == 24 ? 1 : -1]; int d[alignof(struct s) == 8 ? 1 : -1];
abbrev pub sizes_and_types_of_operands_1 : List syntax.External
sizes_and_types_of_operands_1 = (syntax.ExternalDeclaration (syntax.SimpleDeclaration (specs (syntax.TypeSpec type.Int (at 1 0) ∷ [])) (declared (syntax.init_declarator (syntax.Named [] (name (codes "a") (at 5 1)) (suffixes (syntax.ArraySuffix (syntax.an_expr (syntax.Conditional (syntax.Binary op.Equal (syntax.SizeofType (syntax.type_name (specs (syntax.TypeSpec type.Int (at 14 5) ∷ [])) (syntax.Unnamed [] (suffixes (syntax.ArraySuffix (syntax.an_expr (syntax.Constant (pos 3) basic.Int (at 18 7))) (at 17 6) ∷ [])))) (at 7 3)) (syntax.Constant (pos 12) basic.Int (at 25 11)) (at 22 10)) (syntax.Constant (pos 1) basic.Int (at 30 13)) (syntax.Unary prefix.Minus (syntax.Constant (pos 1) basic.Int (at 35 16)) (at 34 15)) (at 28 12))) (at 6 2) ∷ []))) syntax.no_initializer ∷ []))) ∷ syntax.ExternalDeclaration (syntax.SimpleDeclaration (specs (syntax.TypeSpec type.Int (at 39 19) ∷ [])) (declared (syntax.init_declarator (syntax.Named [] (name (codes "b") (at 43 20)) (suffixes (syntax.ArraySuffix (syntax.an_expr (syntax.Conditional (syntax.Binary op.Equal (syntax.Alignof (syntax.type_name (specs (syntax.TypeSpec type.Long (at 53 24) ∷ [])) (syntax.Unnamed [] (suffixes []))) (at 45 22)) (syntax.Constant (pos 8) basic.Int (at 62 27)) (at 59 26)) (syntax.Constant (pos 1) basic.Int (at 66 29)) (syntax.Unary prefix.Minus (syntax.Constant (pos 1) basic.Int (at 71 32)) (at 70 31)) (at 64 28))) (at 44 21) ∷ []))) syntax.no_initializer ∷ []))) ∷ syntax.ExternalDeclaration (syntax.SimpleDeclaration (specs (syntax.Struct (Some (name (codes "s") (at 82 36))) (members (syntax.MemberDeclarators (specs (syntax.TypeSpec type.Char (at 86 38) ∷ [])) (syntax.declarators ((syntax.Named [] (name (codes "c") (at 91 39)) (suffixes [])) ∷ [])) ∷ syntax.MemberDeclarators (specs (syntax.TypeSpec type.Long (at 94 41) ∷ [])) (syntax.declarators ((syntax.Named [] (name (codes "d") (at 99 42)) (suffixes [])) ∷ [])) ∷ syntax.MemberDeclarators (specs (syntax.TypeSpec type.Short (at 102 44) ∷ [])) (syntax.declarators ((syntax.Named [] (name (codes "e") (at 108 45)) (suffixes [])) ∷ [])) ∷ [])) (at 75 35) ∷ [])) (declared [])) ∷ syntax.ExternalDeclaration (syntax.SimpleDeclaration (specs (syntax.TypeSpec type.Int (at 114 49) ∷ [])) (declared (syntax.init_declarator (syntax.Named [] (name (codes "c") (at 118 50)) (suffixes (syntax.ArraySuffix (syntax.an_expr (syntax.Conditional (syntax.Binary op.Equal (syntax.SizeofType (syntax.type_name (specs (syntax.StructTag (name (codes "s") (at 134 55)) (at 127 54) ∷ [])) (syntax.Unnamed [] (suffixes []))) (at 120 52)) (syntax.Constant (pos 24) basic.Int (at 140 58)) (at 137 57)) (syntax.Constant (pos 1) basic.Int (at 145 60)) (syntax.Unary prefix.Minus (syntax.Constant (pos 1) basic.Int (at 150 63)) (at 149 62)) (at 143 59))) (at 119 51) ∷ []))) syntax.no_initializer ∷ []))) ∷ syntax.ExternalDeclaration (syntax.SimpleDeclaration (specs (syntax.TypeSpec type.Int (at 154 66) ∷ [])) (declared (syntax.init_declarator (syntax.Named [] (name (codes "d") (at 158 67)) (suffixes (syntax.ArraySuffix (syntax.an_expr (syntax.Conditional (syntax.Binary op.Equal (syntax.Alignof (syntax.type_name (specs (syntax.StructTag (name (codes "s") (at 175 72)) (at 168 71) ∷ [])) (syntax.Unnamed [] (suffixes []))) (at 160 69)) (syntax.Constant (pos 8) basic.Int (at 181 75)) (at 178 74)) (syntax.Constant (pos 1) basic.Int (at 185 77)) (syntax.Unary prefix.Minus (syntax.Constant (pos 1) basic.Int (at 190 80)) (at 189 79)) (at 183 76))) (at 159 68) ∷ []))) syntax.no_initializer ∷ []))) ∷ [])

-- int a[sizeof 'a' == 4 ? 1 : -1]; int b[sizeof(1 == 1) == 4 ? 1 : -1]; int c[sizeof true == 1 ? 1 : -1]; int d[sizeof "abc" == 4 ? 1 : -1]; int e[sizeof(-1 < 0u) == 4 && !(-1 < 0u) ? 1 : -1];
abbrev pub sizes_and_types_of_operands_2 : List syntax.External
sizes_and_types_of_operands_2 = (syntax.ExternalDeclaration (syntax.SimpleDeclaration (specs (syntax.TypeSpec type.Int (at 1 0) ∷ [])) (declared (syntax.init_declarator (syntax.Named [] (name (codes "a") (at 5 1)) (suffixes (syntax.ArraySuffix (syntax.an_expr (syntax.Conditional (syntax.Binary op.Equal (syntax.SizeofExpr (syntax.Constant (pos 97) basic.Int (at 14 4)) (at 7 3)) (syntax.Constant (pos 4) basic.Int (at 21 6)) (at 18 5)) (syntax.Constant (pos 1) basic.Int (at 25 8)) (syntax.Unary prefix.Minus (syntax.Constant (pos 1) basic.Int (at 30 11)) (at 29 10)) (at 23 7))) (at 6 2) ∷ []))) syntax.no_initializer ∷ []))) ∷ syntax.ExternalDeclaration (syntax.SimpleDeclaration (specs (syntax.TypeSpec type.Int (at 34 14) ∷ [])) (declared (syntax.init_declarator (syntax.Named [] (name (codes "b") (at 38 15)) (suffixes (syntax.ArraySuffix (syntax.an_expr (syntax.Conditional (syntax.Binary op.Equal (syntax.SizeofExpr (syntax.Parenthesized (syntax.Binary op.Equal (syntax.Constant (pos 1) basic.Int (at 47 19)) (syntax.Constant (pos 1) basic.Int (at 52 21)) (at 49 20)) (at 46 18)) (at 40 17)) (syntax.Constant (pos 4) basic.Int (at 58 24)) (at 55 23)) (syntax.Constant (pos 1) basic.Int (at 62 26)) (syntax.Unary prefix.Minus (syntax.Constant (pos 1) basic.Int (at 67 29)) (at 66 28)) (at 60 25))) (at 39 16) ∷ []))) syntax.no_initializer ∷ []))) ∷ syntax.ExternalDeclaration (syntax.SimpleDeclaration (specs (syntax.TypeSpec type.Int (at 71 32) ∷ [])) (declared (syntax.init_declarator (syntax.Named [] (name (codes "c") (at 75 33)) (suffixes (syntax.ArraySuffix (syntax.an_expr (syntax.Conditional (syntax.Binary op.Equal (syntax.SizeofExpr (syntax.Truth true (at 84 36)) (at 77 35)) (syntax.Constant (pos 1) basic.Int (at 92 38)) (at 89 37)) (syntax.Constant (pos 1) basic.Int (at 96 40)) (syntax.Unary prefix.Minus (syntax.Constant (pos 1) basic.Int (at 101 43)) (at 100 42)) (at 94 39))) (at 76 34) ∷ []))) syntax.no_initializer ∷ []))) ∷ syntax.ExternalDeclaration (syntax.SimpleDeclaration (specs (syntax.TypeSpec type.Int (at 105 46) ∷ [])) (declared (syntax.init_declarator (syntax.Named [] (name (codes "d") (at 109 47)) (suffixes (syntax.ArraySuffix (syntax.an_expr (syntax.Conditional (syntax.Binary op.Equal (syntax.SizeofExpr (syntax.Text (codes "abc") (at 118 50)) (at 111 49)) (syntax.Constant (pos 4) basic.Int (at 127 52)) (at 124 51)) (syntax.Constant (pos 1) basic.Int (at 131 54)) (syntax.Unary prefix.Minus (syntax.Constant (pos 1) basic.Int (at 136 57)) (at 135 56)) (at 129 53))) (at 110 48) ∷ []))) syntax.no_initializer ∷ []))) ∷ syntax.ExternalDeclaration (syntax.SimpleDeclaration (specs (syntax.TypeSpec type.Int (at 140 60) ∷ [])) (declared (syntax.init_declarator (syntax.Named [] (name (codes "e") (at 144 61)) (suffixes (syntax.ArraySuffix (syntax.an_expr (syntax.Conditional (syntax.Logic logic.And (syntax.Binary op.Equal (syntax.SizeofExpr (syntax.Parenthesized (syntax.Binary op.Less (syntax.Unary prefix.Minus (syntax.Constant (pos 1) basic.Int (at 154 66)) (at 153 65)) (syntax.Constant (pos 0) basic.Unsigned (at 158 68)) (at 156 67)) (at 152 64)) (at 146 63)) (syntax.Constant (pos 4) basic.Int (at 165 71)) (at 162 70)) (syntax.Unary prefix.Not (syntax.Parenthesized (syntax.Binary op.Less (syntax.Unary prefix.Minus (syntax.Constant (pos 1) basic.Int (at 173 76)) (at 172 75)) (syntax.Constant (pos 0) basic.Unsigned (at 177 78)) (at 175 77)) (at 171 74)) (at 170 73)) (at 167 72)) (syntax.Constant (pos 1) basic.Int (at 183 81)) (syntax.Unary prefix.Minus (syntax.Constant (pos 1) basic.Int (at 188 84)) (at 187 83)) (at 181 80))) (at 145 62) ∷ []))) syntax.no_initializer ∷ []))) ∷ [])

-- int a[sizeof((char)1 + (char)1) == 4 ? 1 : -1]; int b[sizeof(1 << 1L) == 4 ? 1 : -1]; int c[sizeof(1 ? 1 : 1L) == 8 ? 1 : -1]; int d[sizeof(1, 2L) == 8 ? 1 : -1];
abbrev pub sizes_and_types_of_operands_3 : List syntax.External
sizes_and_types_of_operands_3 = (syntax.ExternalDeclaration (syntax.SimpleDeclaration (specs (syntax.TypeSpec type.Int (at 1 0) ∷ [])) (declared (syntax.init_declarator (syntax.Named [] (name (codes "a") (at 5 1)) (suffixes (syntax.ArraySuffix (syntax.an_expr (syntax.Conditional (syntax.Binary op.Equal (syntax.SizeofExpr (syntax.Parenthesized (syntax.Binary op.Add (syntax.Cast (syntax.type_name (specs (syntax.TypeSpec type.Char (at 15 6) ∷ [])) (syntax.Unnamed [] (suffixes []))) (syntax.Constant (pos 1) basic.Int (at 20 8)) (at 14 5)) (syntax.Cast (syntax.type_name (specs (syntax.TypeSpec type.Char (at 25 11) ∷ [])) (syntax.Unnamed [] (suffixes []))) (syntax.Constant (pos 1) basic.Int (at 30 13)) (at 24 10)) (at 22 9)) (at 13 4)) (at 7 3)) (syntax.Constant (pos 4) basic.Int (at 36 16)) (at 33 15)) (syntax.Constant (pos 1) basic.Int (at 40 18)) (syntax.Unary prefix.Minus (syntax.Constant (pos 1) basic.Int (at 45 21)) (at 44 20)) (at 38 17))) (at 6 2) ∷ []))) syntax.no_initializer ∷ []))) ∷ syntax.ExternalDeclaration (syntax.SimpleDeclaration (specs (syntax.TypeSpec type.Int (at 49 24) ∷ [])) (declared (syntax.init_declarator (syntax.Named [] (name (codes "b") (at 53 25)) (suffixes (syntax.ArraySuffix (syntax.an_expr (syntax.Conditional (syntax.Binary op.Equal (syntax.SizeofExpr (syntax.Parenthesized (syntax.Binary op.ShiftLeft (syntax.Constant (pos 1) basic.Int (at 62 29)) (syntax.Constant (pos 1) basic.Long (at 67 31)) (at 64 30)) (at 61 28)) (at 55 27)) (syntax.Constant (pos 4) basic.Int (at 74 34)) (at 71 33)) (syntax.Constant (pos 1) basic.Int (at 78 36)) (syntax.Unary prefix.Minus (syntax.Constant (pos 1) basic.Int (at 83 39)) (at 82 38)) (at 76 35))) (at 54 26) ∷ []))) syntax.no_initializer ∷ []))) ∷ syntax.ExternalDeclaration (syntax.SimpleDeclaration (specs (syntax.TypeSpec type.Int (at 87 42) ∷ [])) (declared (syntax.init_declarator (syntax.Named [] (name (codes "c") (at 91 43)) (suffixes (syntax.ArraySuffix (syntax.an_expr (syntax.Conditional (syntax.Binary op.Equal (syntax.SizeofExpr (syntax.Parenthesized (syntax.Conditional (syntax.Constant (pos 1) basic.Int (at 100 47)) (syntax.Constant (pos 1) basic.Int (at 104 49)) (syntax.Constant (pos 1) basic.Long (at 108 51)) (at 102 48)) (at 99 46)) (at 93 45)) (syntax.Constant (pos 8) basic.Int (at 115 54)) (at 112 53)) (syntax.Constant (pos 1) basic.Int (at 119 56)) (syntax.Unary prefix.Minus (syntax.Constant (pos 1) basic.Int (at 124 59)) (at 123 58)) (at 117 55))) (at 92 44) ∷ []))) syntax.no_initializer ∷ []))) ∷ syntax.ExternalDeclaration (syntax.SimpleDeclaration (specs (syntax.TypeSpec type.Int (at 128 62) ∷ [])) (declared (syntax.init_declarator (syntax.Named [] (name (codes "d") (at 132 63)) (suffixes (syntax.ArraySuffix (syntax.an_expr (syntax.Conditional (syntax.Binary op.Equal (syntax.SizeofExpr (syntax.Parenthesized (syntax.Comma (syntax.Constant (pos 1) basic.Int (at 141 67)) (syntax.Constant (pos 2) basic.Long (at 144 69)) (at 142 68)) (at 140 66)) (at 134 65)) (syntax.Constant (pos 8) basic.Int (at 151 72)) (at 148 71)) (syntax.Constant (pos 1) basic.Int (at 155 74)) (syntax.Unary prefix.Minus (syntax.Constant (pos 1) basic.Int (at 160 77)) (at 159 76)) (at 153 73))) (at 133 64) ∷ []))) syntax.no_initializer ∷ []))) ∷ [])

-- int a[2]; int b[sizeof(&a[1] - &a[0]) == 8 ? 1 : -1]; int c[sizeof(char)]; int d[sizeof(int *) == 8 ? 1 : -1];
abbrev pub sizes_and_types_of_operands_4 : List syntax.External
sizes_and_types_of_operands_4 = (syntax.ExternalDeclaration (syntax.SimpleDeclaration (specs (syntax.TypeSpec type.Int (at 1 0) ∷ [])) (declared (syntax.init_declarator (syntax.Named [] (name (codes "a") (at 5 1)) (suffixes (syntax.ArraySuffix (syntax.an_expr (syntax.Constant (pos 2) basic.Int (at 7 3))) (at 6 2) ∷ []))) syntax.no_initializer ∷ []))) ∷ syntax.ExternalDeclaration (syntax.SimpleDeclaration (specs (syntax.TypeSpec type.Int (at 11 6) ∷ [])) (declared (syntax.init_declarator (syntax.Named [] (name (codes "b") (at 15 7)) (suffixes (syntax.ArraySuffix (syntax.an_expr (syntax.Conditional (syntax.Binary op.Equal (syntax.SizeofExpr (syntax.Parenthesized (syntax.Binary op.Sub (syntax.Unary prefix.Address (syntax.Index (syntax.Identifier (name (codes "a") (at 25 12))) (syntax.Constant (pos 1) basic.Int (at 27 14)) (at 26 13)) (at 24 11)) (syntax.Unary prefix.Address (syntax.Index (syntax.Identifier (name (codes "a") (at 33 18))) (syntax.Constant (pos 0) basic.Int (at 35 20)) (at 34 19)) (at 32 17)) (at 30 16)) (at 23 10)) (at 17 9)) (syntax.Constant (pos 8) basic.Int (at 42 24)) (at 39 23)) (syntax.Constant (pos 1) basic.Int (at 46 26)) (syntax.Unary prefix.Minus (syntax.Constant (pos 1) basic.Int (at 51 29)) (at 50 28)) (at 44 25))) (at 16 8) ∷ []))) syntax.no_initializer ∷ []))) ∷ syntax.ExternalDeclaration (syntax.SimpleDeclaration (specs (syntax.TypeSpec type.Int (at 55 32) ∷ [])) (declared (syntax.init_declarator (syntax.Named [] (name (codes "c") (at 59 33)) (suffixes (syntax.ArraySuffix (syntax.an_expr (syntax.SizeofType (syntax.type_name (specs (syntax.TypeSpec type.Char (at 68 37) ∷ [])) (syntax.Unnamed [] (suffixes []))) (at 61 35))) (at 60 34) ∷ []))) syntax.no_initializer ∷ []))) ∷ syntax.ExternalDeclaration (syntax.SimpleDeclaration (specs (syntax.TypeSpec type.Int (at 76 41) ∷ [])) (declared (syntax.init_declarator (syntax.Named [] (name (codes "d") (at 80 42)) (suffixes (syntax.ArraySuffix (syntax.an_expr (syntax.Conditional (syntax.Binary op.Equal (syntax.SizeofType (syntax.type_name (specs (syntax.TypeSpec type.Int (at 89 46) ∷ [])) (syntax.Unnamed (pointer (at 93 47) [] ∷ []) (suffixes []))) (at 82 44)) (syntax.Constant (pos 8) basic.Int (at 99 50)) (at 96 49)) (syntax.Constant (pos 1) basic.Int (at 103 52)) (syntax.Unary prefix.Minus (syntax.Constant (pos 1) basic.Int (at 108 55)) (at 107 54)) (at 101 51))) (at 81 43) ∷ []))) syntax.no_initializer ∷ []))) ∷ [])

-- extern int a[]; void g(void) { sizeof a; }
abbrev pub sizes_and_types_of_operands_5 : List syntax.External
sizes_and_types_of_operands_5 = (syntax.ExternalDeclaration (syntax.SimpleDeclaration (specs (syntax.StorageSpec storage.Extern (at 1 0) ∷ syntax.TypeSpec type.Int (at 8 1) ∷ [])) (declared (syntax.init_declarator (syntax.Named [] (name (codes "a") (at 12 2)) (suffixes (syntax.ArraySuffix syntax.no_expr (at 13 3) ∷ []))) syntax.no_initializer ∷ []))) ∷ syntax.FunctionDefinition (specs (syntax.TypeSpec type.Void (at 17 6) ∷ [])) (syntax.Named [] (name (codes "g") (at 22 7)) (suffixes (syntax.FunctionSuffix (parameters (syntax.parameter (specs (syntax.TypeSpec type.Void (at 24 9) ∷ [])) (syntax.Unnamed [] (suffixes [])) (at 24 9) ∷ [])) false (at 23 8) ∷ []))) (syntax.block (block_items (syntax.StatementItem (syntax.ExpressionStatement (syntax.an_expr (syntax.SizeofExpr (syntax.Identifier (name (codes "a") (at 39 13))) (at 32 12))) (span (at 32 12) (at 40 14))) ∷ [])) (span (at 30 11) (at 42 15))) ∷ [])
