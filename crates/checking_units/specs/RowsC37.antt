-- C37: definition is no function or has a bad parameter: units of one line, as trees.
use Rattle.std.specs.Prelude.{List, [], ◌∷◌, Some, false, pos, codes}
use Rattle.model_grammar.specs.SyntaxForms as syntax
use Rattle.model_types.specs.declared.numbers.Basic.TheVariants as basic
use Rattle.model_grammar.specs.declared.syntax.StorageWord.TheVariants as storage
use Rattle.model_grammar.specs.declared.syntax.TypeWord.TheVariants as type
use Rattle.model_grammar.specs.declared.syntax.QualifierWord.TheVariants as qual
use Rattle.checking_units.specs.Parts.{at, name, specs, qualifier, suffixes, parameters, members, declared, block_items, span}

-- typedef int F(void); F f { return 0; }
abbrev pub c37_1 : List syntax.External
c37_1 = (syntax.ExternalDeclaration (syntax.SimpleDeclaration (specs (syntax.StorageSpec storage.Typedef (at 1 0) ∷ syntax.TypeSpec type.Int (at 9 1) ∷ [])) (declared (syntax.init_declarator (syntax.Named [] (name (codes "F") (at 13 2)) (suffixes (syntax.FunctionSuffix (parameters (syntax.parameter (specs (syntax.TypeSpec type.Void (at 15 4) ∷ [])) (syntax.Unnamed [] (suffixes [])) (at 15 4) ∷ [])) false (at 14 3) ∷ []))) syntax.no_initializer ∷ []))) ∷ syntax.FunctionDefinition (specs (syntax.TypedefName (name (codes "F") (at 22 7)) ∷ [])) (syntax.Named [] (name (codes "f") (at 24 8)) (suffixes [])) (syntax.block (block_items (syntax.StatementItem (syntax.Return (syntax.an_expr (syntax.Constant (pos 0) basic.Int (at 35 11))) (at 28 10) (span (at 28 10) (at 36 12))) ∷ [])) (span (at 26 9) (at 38 13))) ∷ [])

-- typedef int f(void) { return 0; }
abbrev pub c37_2 : List syntax.External
c37_2 = (syntax.FunctionDefinition (specs (syntax.StorageSpec storage.Typedef (at 1 0) ∷ syntax.TypeSpec type.Int (at 9 1) ∷ [])) (syntax.Named [] (name (codes "f") (at 13 2)) (suffixes (syntax.FunctionSuffix (parameters (syntax.parameter (specs (syntax.TypeSpec type.Void (at 15 4) ∷ [])) (syntax.Unnamed [] (suffixes [])) (at 15 4) ∷ [])) false (at 14 3) ∷ []))) (syntax.block (block_items (syntax.StatementItem (syntax.Return (syntax.an_expr (syntax.Constant (pos 0) basic.Int (at 30 8))) (at 23 7) (span (at 23 7) (at 31 9))) ∷ [])) (span (at 21 6) (at 33 10))) ∷ [])

-- int f(const void) { return 0; }
abbrev pub c37_3 : List syntax.External
c37_3 = (syntax.FunctionDefinition (specs (syntax.TypeSpec type.Int (at 1 0) ∷ [])) (syntax.Named [] (name (codes "f") (at 5 1)) (suffixes (syntax.FunctionSuffix (parameters (syntax.parameter (specs (syntax.QualifierSpec (qualifier qual.Const (at 7 3)) ∷ syntax.TypeSpec type.Void (at 13 4) ∷ [])) (syntax.Unnamed [] (suffixes [])) (at 7 3) ∷ [])) false (at 6 2) ∷ []))) (syntax.block (block_items (syntax.StatementItem (syntax.Return (syntax.an_expr (syntax.Constant (pos 0) basic.Int (at 28 8))) (at 21 7) (span (at 21 7) (at 29 9))) ∷ [])) (span (at 19 6) (at 31 10))) ∷ [])

-- int f(struct s x) { return 0; }
abbrev pub c37_4 : List syntax.External
c37_4 = (syntax.FunctionDefinition (specs (syntax.TypeSpec type.Int (at 1 0) ∷ [])) (syntax.Named [] (name (codes "f") (at 5 1)) (suffixes (syntax.FunctionSuffix (parameters (syntax.parameter (specs (syntax.StructTag (name (codes "s") (at 14 4)) (at 7 3) ∷ [])) (syntax.Named [] (name (codes "x") (at 16 5)) (suffixes [])) (at 7 3) ∷ [])) false (at 6 2) ∷ []))) (syntax.block (block_items (syntax.StatementItem (syntax.Return (syntax.an_expr (syntax.Constant (pos 0) basic.Int (at 28 9))) (at 21 8) (span (at 21 8) (at 29 10))) ∷ [])) (span (at 19 7) (at 31 11))) ∷ [])

-- int f[n] { return 0; }
abbrev pub c37_5 : List syntax.External
c37_5 = (syntax.FunctionDefinition (specs (syntax.TypeSpec type.Int (at 1 0) ∷ [])) (syntax.Named [] (name (codes "f") (at 5 1)) (suffixes (syntax.ArraySuffix (syntax.an_expr (syntax.Identifier (name (codes "n") (at 7 3)))) (at 6 2) ∷ []))) (syntax.block (block_items (syntax.StatementItem (syntax.Return (syntax.an_expr (syntax.Constant (pos 0) basic.Int (at 19 7))) (at 12 6) (span (at 12 6) (at 20 8))) ∷ [])) (span (at 10 5) (at 22 9))) ∷ [])

-- void f(void) { auto p = (int (const void)) { return 0; }; }
abbrev pub c37_6 : List syntax.External
c37_6 = (syntax.FunctionDefinition (specs (syntax.TypeSpec type.Void (at 1 0) ∷ [])) (syntax.Named [] (name (codes "f") (at 6 1)) (suffixes (syntax.FunctionSuffix (parameters (syntax.parameter (specs (syntax.TypeSpec type.Void (at 8 3) ∷ [])) (syntax.Unnamed [] (suffixes [])) (at 8 3) ∷ [])) false (at 7 2) ∷ []))) (syntax.block (block_items (syntax.DeclarationItem (syntax.SimpleDeclaration (specs (syntax.StorageSpec storage.Auto (at 16 6) ∷ [])) (declared (syntax.init_declarator (syntax.Named [] (name (codes "p") (at 21 7)) (suffixes [])) (syntax.an_initializer (syntax.Single (syntax.FunctionLiteral (syntax.type_name (specs (syntax.TypeSpec type.Int (at 26 10) ∷ [])) (syntax.Unnamed [] (suffixes (syntax.FunctionSuffix (parameters (syntax.parameter (specs (syntax.QualifierSpec (qualifier qual.Const (at 31 12)) ∷ syntax.TypeSpec type.Void (at 37 13) ∷ [])) (syntax.Unnamed [] (suffixes [])) (at 31 12) ∷ [])) false (at 30 11) ∷ [])))) (syntax.block (block_items (syntax.StatementItem (syntax.Return (syntax.an_expr (syntax.Constant (pos 0) basic.Int (at 53 18))) (at 46 17) (span (at 46 17) (at 54 19))) ∷ [])) (span (at 44 16) (at 56 20))) (at 25 9)))) ∷ []))) ∷ [])) (span (at 14 5) (at 59 22))) ∷ [])

-- void f(void) { auto p = (int (struct s x)) { return 0; }; }
abbrev pub c37_7 : List syntax.External
c37_7 = (syntax.FunctionDefinition (specs (syntax.TypeSpec type.Void (at 1 0) ∷ [])) (syntax.Named [] (name (codes "f") (at 6 1)) (suffixes (syntax.FunctionSuffix (parameters (syntax.parameter (specs (syntax.TypeSpec type.Void (at 8 3) ∷ [])) (syntax.Unnamed [] (suffixes [])) (at 8 3) ∷ [])) false (at 7 2) ∷ []))) (syntax.block (block_items (syntax.DeclarationItem (syntax.SimpleDeclaration (specs (syntax.StorageSpec storage.Auto (at 16 6) ∷ [])) (declared (syntax.init_declarator (syntax.Named [] (name (codes "p") (at 21 7)) (suffixes [])) (syntax.an_initializer (syntax.Single (syntax.FunctionLiteral (syntax.type_name (specs (syntax.TypeSpec type.Int (at 26 10) ∷ [])) (syntax.Unnamed [] (suffixes (syntax.FunctionSuffix (parameters (syntax.parameter (specs (syntax.StructTag (name (codes "s") (at 38 13)) (at 31 12) ∷ [])) (syntax.Named [] (name (codes "x") (at 40 14)) (suffixes [])) (at 31 12) ∷ [])) false (at 30 11) ∷ [])))) (syntax.block (block_items (syntax.StatementItem (syntax.Return (syntax.an_expr (syntax.Constant (pos 0) basic.Int (at 53 19))) (at 46 18) (span (at 46 18) (at 54 20))) ∷ [])) (span (at 44 17) (at 56 21))) (at 25 9)))) ∷ []))) ∷ [])) (span (at 14 5) (at 59 23))) ∷ [])

-- typedef int f(void) { }
abbrev pub c37_8 : List syntax.External
c37_8 = (syntax.FunctionDefinition (specs (syntax.StorageSpec storage.Typedef (at 1 0) ∷ syntax.TypeSpec type.Int (at 9 1) ∷ [])) (syntax.Named [] (name (codes "f") (at 13 2)) (suffixes (syntax.FunctionSuffix (parameters (syntax.parameter (specs (syntax.TypeSpec type.Void (at 15 4) ∷ [])) (syntax.Unnamed [] (suffixes [])) (at 15 4) ∷ [])) false (at 14 3) ∷ []))) (syntax.block (block_items []) (span (at 21 6) (at 23 7))) ∷ [])

-- struct s; int f(struct s x) { return 0; }
abbrev pub c37_9 : List syntax.External
c37_9 = (syntax.ExternalDeclaration (syntax.SimpleDeclaration (specs (syntax.StructTag (name (codes "s") (at 8 1)) (at 1 0) ∷ [])) (declared [])) ∷ syntax.FunctionDefinition (specs (syntax.TypeSpec type.Int (at 11 3) ∷ [])) (syntax.Named [] (name (codes "f") (at 15 4)) (suffixes (syntax.FunctionSuffix (parameters (syntax.parameter (specs (syntax.StructTag (name (codes "s") (at 24 7)) (at 17 6) ∷ [])) (syntax.Named [] (name (codes "x") (at 26 8)) (suffixes [])) (at 17 6) ∷ [])) false (at 16 5) ∷ []))) (syntax.block (block_items (syntax.StatementItem (syntax.Return (syntax.an_expr (syntax.Constant (pos 0) basic.Int (at 38 12))) (at 31 11) (span (at 31 11) (at 39 13))) ∷ [])) (span (at 29 10) (at 41 14))) ∷ [])

-- int k(struct z { int a[3]; } x, struct y q) { return 0; }
abbrev pub c37_10 : List syntax.External
c37_10 = (syntax.FunctionDefinition (specs (syntax.TypeSpec type.Int (at 1 0) ∷ [])) (syntax.Named [] (name (codes "k") (at 5 1)) (suffixes (syntax.FunctionSuffix (parameters (syntax.parameter (specs (syntax.Struct (Some (name (codes "z") (at 14 4))) (members (syntax.MemberDeclarators (specs (syntax.TypeSpec type.Int (at 18 6) ∷ [])) (syntax.declarators ((syntax.Named [] (name (codes "a") (at 22 7)) (suffixes (syntax.ArraySuffix (syntax.an_expr (syntax.Constant (pos 3) basic.Int (at 24 9))) (at 23 8) ∷ []))) ∷ [])) ∷ [])) (at 7 3) ∷ [])) (syntax.Named [] (name (codes "x") (at 30 13)) (suffixes [])) (at 7 3) ∷ syntax.parameter (specs (syntax.StructTag (name (codes "y") (at 40 16)) (at 33 15) ∷ [])) (syntax.Named [] (name (codes "q") (at 42 17)) (suffixes [])) (at 33 15) ∷ [])) false (at 6 2) ∷ []))) (syntax.block (block_items (syntax.StatementItem (syntax.Return (syntax.an_expr (syntax.Constant (pos 0) basic.Int (at 54 21))) (at 47 20) (span (at 47 20) (at 55 22))) ∷ [])) (span (at 45 19) (at 57 23))) ∷ [])

-- struct z; void g(void) { (int (struct z x)) { return 1; }; }
abbrev pub c37_11 : List syntax.External
c37_11 = (syntax.ExternalDeclaration (syntax.SimpleDeclaration (specs (syntax.StructTag (name (codes "z") (at 8 1)) (at 1 0) ∷ [])) (declared [])) ∷ syntax.FunctionDefinition (specs (syntax.TypeSpec type.Void (at 11 3) ∷ [])) (syntax.Named [] (name (codes "g") (at 16 4)) (suffixes (syntax.FunctionSuffix (parameters (syntax.parameter (specs (syntax.TypeSpec type.Void (at 18 6) ∷ [])) (syntax.Unnamed [] (suffixes [])) (at 18 6) ∷ [])) false (at 17 5) ∷ []))) (syntax.block (block_items (syntax.StatementItem (syntax.ExpressionStatement (syntax.an_expr (syntax.FunctionLiteral (syntax.type_name (specs (syntax.TypeSpec type.Int (at 27 10) ∷ [])) (syntax.Unnamed [] (suffixes (syntax.FunctionSuffix (parameters (syntax.parameter (specs (syntax.StructTag (name (codes "z") (at 39 13)) (at 32 12) ∷ [])) (syntax.Named [] (name (codes "x") (at 41 14)) (suffixes [])) (at 32 12) ∷ [])) false (at 31 11) ∷ [])))) (syntax.block (block_items (syntax.StatementItem (syntax.Return (syntax.an_expr (syntax.Constant (pos 1) basic.Int (at 54 19))) (at 47 18) (span (at 47 18) (at 55 20))) ∷ [])) (span (at 45 17) (at 57 21))) (at 26 9))) (span (at 26 9) (at 58 22))) ∷ [])) (span (at 24 8) (at 60 23))) ∷ [])
