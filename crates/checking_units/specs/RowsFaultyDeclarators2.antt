-- faulty declarators: units of one line, as trees.
use Rattle.std.specs.Prelude.{List, [], ◌∷◌, Some, true, false, pos, codes}
use Rattle.model_grammar.specs.SyntaxForms as syntax
use Rattle.model_types.specs.declared.numbers.Basic.TheVariants as basic
use Rattle.model_grammar.specs.declared.syntax.StorageWord.TheVariants as storage
use Rattle.model_grammar.specs.declared.syntax.TypeWord.TheVariants as type
use Rattle.model_grammar.specs.declared.syntax.QualifierWord.TheVariants as qual
use Rattle.checking_units.specs.Parts.{at, name, specs, qualifier, pointer, suffixes, parameters, members, declared, items, designators, block_items, span}

-- int (*x[])[n] = {0};
abbrev pub faulty_declarators_25 : List syntax.External
faulty_declarators_25 = (syntax.ExternalDeclaration (syntax.SimpleDeclaration (specs (syntax.TypeSpec type.Int (at 1 0) ∷ [])) (declared (syntax.init_declarator (syntax.Grouped [] (syntax.Named (pointer (at 6 2) [] ∷ []) (name (codes "x") (at 7 3)) (suffixes (syntax.ArraySuffix syntax.no_expr (at 8 4) ∷ []))) (suffixes (syntax.ArraySuffix (syntax.an_expr (syntax.Identifier (name (codes "n") (at 12 8)))) (at 11 7) ∷ [])) (at 5 1)) (syntax.an_initializer (syntax.Braced (syntax.braces (items (syntax.item (designators []) (syntax.Single (syntax.Constant (pos 0) basic.Int (at 18 12))) ∷ [])) (at 17 11)))) ∷ []))) ∷ [])

-- void g(void) { static int (*x[])[n]; }
abbrev pub faulty_declarators_26 : List syntax.External
faulty_declarators_26 = (syntax.FunctionDefinition (specs (syntax.TypeSpec type.Void (at 1 0) ∷ [])) (syntax.Named [] (name (codes "g") (at 6 1)) (suffixes (syntax.FunctionSuffix (parameters (syntax.parameter (specs (syntax.TypeSpec type.Void (at 8 3) ∷ [])) (syntax.Unnamed [] (suffixes [])) (at 8 3) ∷ [])) false (at 7 2) ∷ []))) (syntax.block (block_items (syntax.DeclarationItem (syntax.SimpleDeclaration (specs (syntax.StorageSpec storage.Static (at 16 6) ∷ syntax.TypeSpec type.Int (at 23 7) ∷ [])) (declared (syntax.init_declarator (syntax.Grouped [] (syntax.Named (pointer (at 28 9) [] ∷ []) (name (codes "x") (at 29 10)) (suffixes (syntax.ArraySuffix syntax.no_expr (at 30 11) ∷ []))) (suffixes (syntax.ArraySuffix (syntax.an_expr (syntax.Identifier (name (codes "n") (at 34 15)))) (at 33 14) ∷ [])) (at 27 8)) syntax.no_initializer ∷ []))) ∷ [])) (span (at 14 5) (at 38 18))) ∷ [])

-- struct s { int (*m[])[n]; };
abbrev pub faulty_declarators_27 : List syntax.External
faulty_declarators_27 = (syntax.ExternalDeclaration (syntax.SimpleDeclaration (specs (syntax.Struct (Some (name (codes "s") (at 8 1))) (members (syntax.MemberDeclarators (specs (syntax.TypeSpec type.Int (at 12 3) ∷ [])) (syntax.declarators ((syntax.Grouped [] (syntax.Named (pointer (at 17 5) [] ∷ []) (name (codes "m") (at 18 6)) (suffixes (syntax.ArraySuffix syntax.no_expr (at 19 7) ∷ []))) (suffixes (syntax.ArraySuffix (syntax.an_expr (syntax.Identifier (name (codes "n") (at 23 11)))) (at 22 10) ∷ [])) (at 16 4)) ∷ [])) ∷ [])) (at 1 0) ∷ [])) (declared [])) ∷ [])

-- struct s { int f(int a[n]); };
abbrev pub faulty_declarators_28 : List syntax.External
faulty_declarators_28 = (syntax.ExternalDeclaration (syntax.SimpleDeclaration (specs (syntax.Struct (Some (name (codes "s") (at 8 1))) (members (syntax.MemberDeclarators (specs (syntax.TypeSpec type.Int (at 12 3) ∷ [])) (syntax.declarators ((syntax.Named [] (name (codes "f") (at 16 4)) (suffixes (syntax.FunctionSuffix (parameters (syntax.parameter (specs (syntax.TypeSpec type.Int (at 18 6) ∷ [])) (syntax.Named [] (name (codes "a") (at 22 7)) (suffixes (syntax.ArraySuffix (syntax.an_expr (syntax.Identifier (name (codes "n") (at 24 9)))) (at 23 8) ∷ []))) (at 18 6) ∷ [])) false (at 17 5) ∷ []))) ∷ [])) ∷ [])) (at 1 0) ∷ [])) (declared [])) ∷ [])

-- unsigned long g(void) { return sizeof(int (int a[n])); }
abbrev pub faulty_declarators_29 : List syntax.External
faulty_declarators_29 = (syntax.FunctionDefinition (specs (syntax.TypeSpec type.Unsigned (at 1 0) ∷ syntax.TypeSpec type.Long (at 10 1) ∷ [])) (syntax.Named [] (name (codes "g") (at 15 2)) (suffixes (syntax.FunctionSuffix (parameters (syntax.parameter (specs (syntax.TypeSpec type.Void (at 17 4) ∷ [])) (syntax.Unnamed [] (suffixes [])) (at 17 4) ∷ [])) false (at 16 3) ∷ []))) (syntax.block (block_items (syntax.StatementItem (syntax.Return (syntax.an_expr (syntax.SizeofType (syntax.type_name (specs (syntax.TypeSpec type.Int (at 39 10) ∷ [])) (syntax.Unnamed [] (suffixes (syntax.FunctionSuffix (parameters (syntax.parameter (specs (syntax.TypeSpec type.Int (at 44 12) ∷ [])) (syntax.Named [] (name (codes "a") (at 48 13)) (suffixes (syntax.ArraySuffix (syntax.an_expr (syntax.Identifier (name (codes "n") (at 50 15)))) (at 49 14) ∷ []))) (at 44 12) ∷ [])) false (at 43 11) ∷ [])))) (at 32 8))) (at 25 7) (span (at 25 7) (at 54 19))) ∷ [])) (span (at 23 6) (at 56 20))) ∷ [])

-- void g(void) { alignof(int (int a[n])); }
abbrev pub faulty_declarators_30 : List syntax.External
faulty_declarators_30 = (syntax.FunctionDefinition (specs (syntax.TypeSpec type.Void (at 1 0) ∷ [])) (syntax.Named [] (name (codes "g") (at 6 1)) (suffixes (syntax.FunctionSuffix (parameters (syntax.parameter (specs (syntax.TypeSpec type.Void (at 8 3) ∷ [])) (syntax.Unnamed [] (suffixes [])) (at 8 3) ∷ [])) false (at 7 2) ∷ []))) (syntax.block (block_items (syntax.StatementItem (syntax.ExpressionStatement (syntax.an_expr (syntax.Alignof (syntax.type_name (specs (syntax.TypeSpec type.Int (at 24 8) ∷ [])) (syntax.Unnamed [] (suffixes (syntax.FunctionSuffix (parameters (syntax.parameter (specs (syntax.TypeSpec type.Int (at 29 10) ∷ [])) (syntax.Named [] (name (codes "a") (at 33 11)) (suffixes (syntax.ArraySuffix (syntax.an_expr (syntax.Identifier (name (codes "n") (at 35 13)))) (at 34 12) ∷ []))) (at 29 10) ∷ [])) false (at 28 9) ∷ [])))) (at 16 6))) (span (at 16 6) (at 39 17))) ∷ [])) (span (at 14 5) (at 41 18))) ∷ [])

-- struct s f(int a[n]) { }
abbrev pub faulty_declarators_31 : List syntax.External
faulty_declarators_31 = (syntax.FunctionDefinition (specs (syntax.StructTag (name (codes "s") (at 8 1)) (at 1 0) ∷ [])) (syntax.Named [] (name (codes "f") (at 10 2)) (suffixes (syntax.FunctionSuffix (parameters (syntax.parameter (specs (syntax.TypeSpec type.Int (at 12 4) ∷ [])) (syntax.Named [] (name (codes "a") (at 16 5)) (suffixes (syntax.ArraySuffix (syntax.an_expr (syntax.Identifier (name (codes "n") (at 18 7)))) (at 17 6) ∷ []))) (at 12 4) ∷ [])) false (at 11 3) ∷ []))) (syntax.block (block_items []) (span (at 22 10) (at 24 11))) ∷ [])

-- void g(void) { struct s; (struct s (int a[n])) { }; }
abbrev pub faulty_declarators_32 : List syntax.External
faulty_declarators_32 = (syntax.FunctionDefinition (specs (syntax.TypeSpec type.Void (at 1 0) ∷ [])) (syntax.Named [] (name (codes "g") (at 6 1)) (suffixes (syntax.FunctionSuffix (parameters (syntax.parameter (specs (syntax.TypeSpec type.Void (at 8 3) ∷ [])) (syntax.Unnamed [] (suffixes [])) (at 8 3) ∷ [])) false (at 7 2) ∷ []))) (syntax.block (block_items (syntax.DeclarationItem (syntax.SimpleDeclaration (specs (syntax.StructTag (name (codes "s") (at 23 7)) (at 16 6) ∷ [])) (declared [])) ∷ syntax.StatementItem (syntax.ExpressionStatement (syntax.an_expr (syntax.FunctionLiteral (syntax.type_name (specs (syntax.StructTag (name (codes "s") (at 34 11)) (at 27 10) ∷ [])) (syntax.Unnamed [] (suffixes (syntax.FunctionSuffix (parameters (syntax.parameter (specs (syntax.TypeSpec type.Int (at 37 13) ∷ [])) (syntax.Named [] (name (codes "a") (at 41 14)) (suffixes (syntax.ArraySuffix (syntax.an_expr (syntax.Identifier (name (codes "n") (at 43 16)))) (at 42 15) ∷ []))) (at 37 13) ∷ [])) false (at 36 12) ∷ [])))) (syntax.block (block_items []) (span (at 48 20) (at 50 21))) (at 26 9))) (span (at 26 9) (at 51 22))) ∷ [])) (span (at 14 5) (at 53 23))) ∷ [])

-- int (* _Owner x[])(void);
abbrev pub faulty_declarators_33 : List syntax.External
faulty_declarators_33 = (syntax.ExternalDeclaration (syntax.SimpleDeclaration (specs (syntax.TypeSpec type.Int (at 1 0) ∷ [])) (declared (syntax.init_declarator (syntax.Grouped [] (syntax.Named (pointer (at 6 2) ((qualifier qual.Owner (at 8 3)) ∷ []) ∷ []) (name (codes "x") (at 15 4)) (suffixes (syntax.ArraySuffix syntax.no_expr (at 16 5) ∷ []))) (suffixes (syntax.FunctionSuffix (parameters (syntax.parameter (specs (syntax.TypeSpec type.Void (at 20 9) ∷ [])) (syntax.Unnamed [] (suffixes [])) (at 20 9) ∷ [])) false (at 19 8) ∷ [])) (at 5 1)) syntax.no_initializer ∷ []))) ∷ [])

-- int f(int a[n], ...) { return 0; }
abbrev pub faulty_declarators_34 : List syntax.External
faulty_declarators_34 = (syntax.FunctionDefinition (specs (syntax.TypeSpec type.Int (at 1 0) ∷ [])) (syntax.Named [] (name (codes "f") (at 5 1)) (suffixes (syntax.FunctionSuffix (parameters (syntax.parameter (specs (syntax.TypeSpec type.Int (at 7 3) ∷ [])) (syntax.Named [] (name (codes "a") (at 11 4)) (suffixes (syntax.ArraySuffix (syntax.an_expr (syntax.Identifier (name (codes "n") (at 13 6)))) (at 12 5) ∷ []))) (at 7 3) ∷ [])) true (at 6 2) ∷ []))) (syntax.block (block_items (syntax.StatementItem (syntax.Return (syntax.an_expr (syntax.Constant (pos 0) basic.Int (at 31 13))) (at 24 12) (span (at 24 12) (at 32 14))) ∷ [])) (span (at 22 11) (at 34 15))) ∷ [])

-- void g(void) { (int (int a[n], ...)) { return 0; }; }
abbrev pub faulty_declarators_35 : List syntax.External
faulty_declarators_35 = (syntax.FunctionDefinition (specs (syntax.TypeSpec type.Void (at 1 0) ∷ [])) (syntax.Named [] (name (codes "g") (at 6 1)) (suffixes (syntax.FunctionSuffix (parameters (syntax.parameter (specs (syntax.TypeSpec type.Void (at 8 3) ∷ [])) (syntax.Unnamed [] (suffixes [])) (at 8 3) ∷ [])) false (at 7 2) ∷ []))) (syntax.block (block_items (syntax.StatementItem (syntax.ExpressionStatement (syntax.an_expr (syntax.FunctionLiteral (syntax.type_name (specs (syntax.TypeSpec type.Int (at 17 7) ∷ [])) (syntax.Unnamed [] (suffixes (syntax.FunctionSuffix (parameters (syntax.parameter (specs (syntax.TypeSpec type.Int (at 22 9) ∷ [])) (syntax.Named [] (name (codes "a") (at 26 10)) (suffixes (syntax.ArraySuffix (syntax.an_expr (syntax.Identifier (name (codes "n") (at 28 12)))) (at 27 11) ∷ []))) (at 22 9) ∷ [])) true (at 21 8) ∷ [])))) (syntax.block (block_items (syntax.StatementItem (syntax.Return (syntax.an_expr (syntax.Constant (pos 0) basic.Int (at 47 20))) (at 40 19) (span (at 40 19) (at 48 21))) ∷ [])) (span (at 38 18) (at 50 22))) (at 16 6))) (span (at 16 6) (at 51 23))) ∷ [])) (span (at 14 5) (at 53 24))) ∷ [])

-- void main(int a[n]);
abbrev pub faulty_declarators_36 : List syntax.External
faulty_declarators_36 = (syntax.ExternalDeclaration (syntax.SimpleDeclaration (specs (syntax.TypeSpec type.Void (at 1 0) ∷ [])) (declared (syntax.init_declarator (syntax.Named [] (name (codes "main") (at 6 1)) (suffixes (syntax.FunctionSuffix (parameters (syntax.parameter (specs (syntax.TypeSpec type.Int (at 11 3) ∷ [])) (syntax.Named [] (name (codes "a") (at 15 4)) (suffixes (syntax.ArraySuffix (syntax.an_expr (syntax.Identifier (name (codes "n") (at 17 6)))) (at 16 5) ∷ []))) (at 11 3) ∷ [])) false (at 10 2) ∷ []))) syntax.no_initializer ∷ []))) ∷ [])

-- int main(int a[n]) { return 0; }
abbrev pub faulty_declarators_37 : List syntax.External
faulty_declarators_37 = (syntax.FunctionDefinition (specs (syntax.TypeSpec type.Int (at 1 0) ∷ [])) (syntax.Named [] (name (codes "main") (at 5 1)) (suffixes (syntax.FunctionSuffix (parameters (syntax.parameter (specs (syntax.TypeSpec type.Int (at 10 3) ∷ [])) (syntax.Named [] (name (codes "a") (at 14 4)) (suffixes (syntax.ArraySuffix (syntax.an_expr (syntax.Identifier (name (codes "n") (at 16 6)))) (at 15 5) ∷ []))) (at 10 3) ∷ [])) false (at 9 2) ∷ []))) (syntax.block (block_items (syntax.StatementItem (syntax.Return (syntax.an_expr (syntax.Constant (pos 0) basic.Int (at 29 11))) (at 22 10) (span (at 22 10) (at 30 12))) ∷ [])) (span (at 20 9) (at 32 13))) ∷ [])

-- int main[n];
abbrev pub faulty_declarators_38 : List syntax.External
faulty_declarators_38 = (syntax.ExternalDeclaration (syntax.SimpleDeclaration (specs (syntax.TypeSpec type.Int (at 1 0) ∷ [])) (declared (syntax.init_declarator (syntax.Named [] (name (codes "main") (at 5 1)) (suffixes (syntax.ArraySuffix (syntax.an_expr (syntax.Identifier (name (codes "n") (at 10 3)))) (at 9 2) ∷ []))) syntax.no_initializer ∷ []))) ∷ [])

-- int main(int a, char **b, int c[n]);
abbrev pub faulty_declarators_39 : List syntax.External
faulty_declarators_39 = (syntax.ExternalDeclaration (syntax.SimpleDeclaration (specs (syntax.TypeSpec type.Int (at 1 0) ∷ [])) (declared (syntax.init_declarator (syntax.Named [] (name (codes "main") (at 5 1)) (suffixes (syntax.FunctionSuffix (parameters (syntax.parameter (specs (syntax.TypeSpec type.Int (at 10 3) ∷ [])) (syntax.Named [] (name (codes "a") (at 14 4)) (suffixes [])) (at 10 3) ∷ syntax.parameter (specs (syntax.TypeSpec type.Char (at 17 6) ∷ [])) (syntax.Named (pointer (at 22 7) [] ∷ pointer (at 23 8) [] ∷ []) (name (codes "b") (at 24 9)) (suffixes [])) (at 17 6) ∷ syntax.parameter (specs (syntax.TypeSpec type.Int (at 27 11) ∷ [])) (syntax.Named [] (name (codes "c") (at 31 12)) (suffixes (syntax.ArraySuffix (syntax.an_expr (syntax.Identifier (name (codes "n") (at 33 14)))) (at 32 13) ∷ []))) (at 27 11) ∷ [])) false (at 9 2) ∷ []))) syntax.no_initializer ∷ []))) ∷ [])

-- int main(int argc, char **argv[n], ...);
abbrev pub faulty_declarators_40 : List syntax.External
faulty_declarators_40 = (syntax.ExternalDeclaration (syntax.SimpleDeclaration (specs (syntax.TypeSpec type.Int (at 1 0) ∷ [])) (declared (syntax.init_declarator (syntax.Named [] (name (codes "main") (at 5 1)) (suffixes (syntax.FunctionSuffix (parameters (syntax.parameter (specs (syntax.TypeSpec type.Int (at 10 3) ∷ [])) (syntax.Named [] (name (codes "argc") (at 14 4)) (suffixes [])) (at 10 3) ∷ syntax.parameter (specs (syntax.TypeSpec type.Char (at 20 6) ∷ [])) (syntax.Named (pointer (at 25 7) [] ∷ pointer (at 26 8) [] ∷ []) (name (codes "argv") (at 27 9)) (suffixes (syntax.ArraySuffix (syntax.an_expr (syntax.Identifier (name (codes "n") (at 32 11)))) (at 31 10) ∷ []))) (at 20 6) ∷ [])) true (at 9 2) ∷ []))) syntax.no_initializer ∷ []))) ∷ [])

-- long main(int argc, char **argv[n]);
abbrev pub faulty_declarators_41 : List syntax.External
faulty_declarators_41 = (syntax.ExternalDeclaration (syntax.SimpleDeclaration (specs (syntax.TypeSpec type.Long (at 1 0) ∷ [])) (declared (syntax.init_declarator (syntax.Named [] (name (codes "main") (at 6 1)) (suffixes (syntax.FunctionSuffix (parameters (syntax.parameter (specs (syntax.TypeSpec type.Int (at 11 3) ∷ [])) (syntax.Named [] (name (codes "argc") (at 15 4)) (suffixes [])) (at 11 3) ∷ syntax.parameter (specs (syntax.TypeSpec type.Char (at 21 6) ∷ [])) (syntax.Named (pointer (at 26 7) [] ∷ pointer (at 27 8) [] ∷ []) (name (codes "argv") (at 28 9)) (suffixes (syntax.ArraySuffix (syntax.an_expr (syntax.Identifier (name (codes "n") (at 33 11)))) (at 32 10) ∷ []))) (at 21 6) ∷ [])) false (at 10 2) ∷ []))) syntax.no_initializer ∷ []))) ∷ [])

-- int main(int argc, char *argv[n]);
abbrev pub faulty_declarators_42 : List syntax.External
faulty_declarators_42 = (syntax.ExternalDeclaration (syntax.SimpleDeclaration (specs (syntax.TypeSpec type.Int (at 1 0) ∷ [])) (declared (syntax.init_declarator (syntax.Named [] (name (codes "main") (at 5 1)) (suffixes (syntax.FunctionSuffix (parameters (syntax.parameter (specs (syntax.TypeSpec type.Int (at 10 3) ∷ [])) (syntax.Named [] (name (codes "argc") (at 14 4)) (suffixes [])) (at 10 3) ∷ syntax.parameter (specs (syntax.TypeSpec type.Char (at 20 6) ∷ [])) (syntax.Named (pointer (at 25 7) [] ∷ []) (name (codes "argv") (at 26 8)) (suffixes (syntax.ArraySuffix (syntax.an_expr (syntax.Identifier (name (codes "n") (at 31 10)))) (at 30 9) ∷ []))) (at 20 6) ∷ [])) false (at 9 2) ∷ []))) syntax.no_initializer ∷ []))) ∷ [])

-- int main(int a[n], char **argv);
abbrev pub faulty_declarators_43 : List syntax.External
faulty_declarators_43 = (syntax.ExternalDeclaration (syntax.SimpleDeclaration (specs (syntax.TypeSpec type.Int (at 1 0) ∷ [])) (declared (syntax.init_declarator (syntax.Named [] (name (codes "main") (at 5 1)) (suffixes (syntax.FunctionSuffix (parameters (syntax.parameter (specs (syntax.TypeSpec type.Int (at 10 3) ∷ [])) (syntax.Named [] (name (codes "a") (at 14 4)) (suffixes (syntax.ArraySuffix (syntax.an_expr (syntax.Identifier (name (codes "n") (at 16 6)))) (at 15 5) ∷ []))) (at 10 3) ∷ syntax.parameter (specs (syntax.TypeSpec type.Char (at 20 9) ∷ [])) (syntax.Named (pointer (at 25 10) [] ∷ pointer (at 26 11) [] ∷ []) (name (codes "argv") (at 27 12)) (suffixes [])) (at 20 9) ∷ [])) false (at 9 2) ∷ []))) syntax.no_initializer ∷ []))) ∷ [])

-- void g(void) { int main[n]; }
abbrev pub faulty_declarators_44 : List syntax.External
faulty_declarators_44 = (syntax.FunctionDefinition (specs (syntax.TypeSpec type.Void (at 1 0) ∷ [])) (syntax.Named [] (name (codes "g") (at 6 1)) (suffixes (syntax.FunctionSuffix (parameters (syntax.parameter (specs (syntax.TypeSpec type.Void (at 8 3) ∷ [])) (syntax.Unnamed [] (suffixes [])) (at 8 3) ∷ [])) false (at 7 2) ∷ []))) (syntax.block (block_items (syntax.DeclarationItem (syntax.SimpleDeclaration (specs (syntax.TypeSpec type.Int (at 16 6) ∷ [])) (declared (syntax.init_declarator (syntax.Named [] (name (codes "main") (at 20 7)) (suffixes (syntax.ArraySuffix (syntax.an_expr (syntax.Identifier (name (codes "n") (at 25 9)))) (at 24 8) ∷ []))) syntax.no_initializer ∷ []))) ∷ [])) (span (at 14 5) (at 29 12))) ∷ [])

-- constexpr int (*x)(int a[n]);
abbrev pub faulty_declarators_45 : List syntax.External
faulty_declarators_45 = (syntax.ExternalDeclaration (syntax.SimpleDeclaration (specs (syntax.StorageSpec storage.Constexpr (at 1 0) ∷ syntax.TypeSpec type.Int (at 11 1) ∷ [])) (declared (syntax.init_declarator (syntax.Grouped [] (syntax.Named (pointer (at 16 3) [] ∷ []) (name (codes "x") (at 17 4)) (suffixes [])) (suffixes (syntax.FunctionSuffix (parameters (syntax.parameter (specs (syntax.TypeSpec type.Int (at 20 7) ∷ [])) (syntax.Named [] (name (codes "a") (at 24 8)) (suffixes (syntax.ArraySuffix (syntax.an_expr (syntax.Identifier (name (codes "n") (at 26 10)))) (at 25 9) ∷ []))) (at 20 7) ∷ [])) false (at 19 6) ∷ [])) (at 15 2)) syntax.no_initializer ∷ []))) ∷ [])

-- auto (*x)(int a[n]) = 0;
abbrev pub faulty_declarators_46 : List syntax.External
faulty_declarators_46 = (syntax.ExternalDeclaration (syntax.SimpleDeclaration (specs (syntax.StorageSpec storage.Auto (at 1 0) ∷ [])) (declared (syntax.init_declarator (syntax.Grouped [] (syntax.Named (pointer (at 7 2) [] ∷ []) (name (codes "x") (at 8 3)) (suffixes [])) (suffixes (syntax.FunctionSuffix (parameters (syntax.parameter (specs (syntax.TypeSpec type.Int (at 11 6) ∷ [])) (syntax.Named [] (name (codes "a") (at 15 7)) (suffixes (syntax.ArraySuffix (syntax.an_expr (syntax.Identifier (name (codes "n") (at 17 9)))) (at 16 8) ∷ []))) (at 11 6) ∷ [])) false (at 10 5) ∷ [])) (at 6 1)) (syntax.an_initializer (syntax.Single (syntax.Constant (pos 0) basic.Int (at 23 13)))) ∷ []))) ∷ [])
