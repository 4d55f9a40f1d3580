-- conversions by assignment: units of one line, as trees.
use Rattle.std.specs.Prelude.{List, [], ◌∷◌, Some, false, pos, codes}
use Rattle.model_grammar.specs.SyntaxForms as syntax
use Rattle.model_types.specs.declared.numbers.Basic.TheVariants as basic
use Rattle.model_grammar.specs.declared.syntax.TypeWord.TheVariants as type
use Rattle.model_grammar.specs.declared.syntax.QualifierWord.TheVariants as qual
use Rattle.model_grammar.specs.declared.syntax.PrefixOp.TheVariants as prefix
use Rattle.checking_units.specs.Parts.{at, name, specs, qualifier, pointer, suffixes, parameters, members, declared, block_items, span}

-- void g(int *p) { p = 5; }
abbrev pub conversions_by_assignment_1 : List syntax.External
conversions_by_assignment_1 = (syntax.FunctionDefinition (specs (syntax.TypeSpec type.Void (at 1 0) ∷ [])) (syntax.Named [] (name (codes "g") (at 6 1)) (suffixes (syntax.FunctionSuffix (parameters (syntax.parameter (specs (syntax.TypeSpec type.Int (at 8 3) ∷ [])) (syntax.Named (pointer (at 12 4) [] ∷ []) (name (codes "p") (at 13 5)) (suffixes [])) (at 8 3) ∷ [])) false (at 7 2) ∷ []))) (syntax.block (block_items (syntax.StatementItem (syntax.ExpressionStatement (syntax.an_expr (syntax.Assign (syntax.Identifier (name (codes "p") (at 18 8))) (syntax.Constant (pos 5) basic.Int (at 22 10)) (at 20 9))) (span (at 18 8) (at 23 11))) ∷ [])) (span (at 16 7) (at 25 12))) ∷ [])

-- void g(void *p) { void (*f)(void) = p; }
abbrev pub conversions_by_assignment_2 : List syntax.External
conversions_by_assignment_2 = (syntax.FunctionDefinition (specs (syntax.TypeSpec type.Void (at 1 0) ∷ [])) (syntax.Named [] (name (codes "g") (at 6 1)) (suffixes (syntax.FunctionSuffix (parameters (syntax.parameter (specs (syntax.TypeSpec type.Void (at 8 3) ∷ [])) (syntax.Named (pointer (at 13 4) [] ∷ []) (name (codes "p") (at 14 5)) (suffixes [])) (at 8 3) ∷ [])) false (at 7 2) ∷ []))) (syntax.block (block_items (syntax.DeclarationItem (syntax.SimpleDeclaration (specs (syntax.TypeSpec type.Void (at 19 8) ∷ [])) (declared (syntax.init_declarator (syntax.Grouped [] (syntax.Named (pointer (at 25 10) [] ∷ []) (name (codes "f") (at 26 11)) (suffixes [])) (suffixes (syntax.FunctionSuffix (parameters (syntax.parameter (specs (syntax.TypeSpec type.Void (at 29 14) ∷ [])) (syntax.Unnamed [] (suffixes [])) (at 29 14) ∷ [])) false (at 28 13) ∷ [])) (at 24 9)) (syntax.an_initializer (syntax.Single (syntax.Identifier (name (codes "p") (at 37 17))))) ∷ []))) ∷ [])) (span (at 17 7) (at 40 19))) ∷ [])

-- void g(int c, int *p, void *q) { int *r = c ? p : q; }
abbrev pub conversions_by_assignment_3 : List syntax.External
conversions_by_assignment_3 = (syntax.FunctionDefinition (specs (syntax.TypeSpec type.Void (at 1 0) ∷ [])) (syntax.Named [] (name (codes "g") (at 6 1)) (suffixes (syntax.FunctionSuffix (parameters (syntax.parameter (specs (syntax.TypeSpec type.Int (at 8 3) ∷ [])) (syntax.Named [] (name (codes "c") (at 12 4)) (suffixes [])) (at 8 3) ∷ syntax.parameter (specs (syntax.TypeSpec type.Int (at 15 6) ∷ [])) (syntax.Named (pointer (at 19 7) [] ∷ []) (name (codes "p") (at 20 8)) (suffixes [])) (at 15 6) ∷ syntax.parameter (specs (syntax.TypeSpec type.Void (at 23 10) ∷ [])) (syntax.Named (pointer (at 28 11) [] ∷ []) (name (codes "q") (at 29 12)) (suffixes [])) (at 23 10) ∷ [])) false (at 7 2) ∷ []))) (syntax.block (block_items (syntax.DeclarationItem (syntax.SimpleDeclaration (specs (syntax.TypeSpec type.Int (at 34 15) ∷ [])) (declared (syntax.init_declarator (syntax.Named (pointer (at 38 16) [] ∷ []) (name (codes "r") (at 39 17)) (suffixes [])) (syntax.an_initializer (syntax.Single (syntax.Conditional (syntax.Identifier (name (codes "c") (at 43 19))) (syntax.Identifier (name (codes "p") (at 47 21))) (syntax.Identifier (name (codes "q") (at 51 23))) (at 45 20)))) ∷ []))) ∷ [])) (span (at 32 14) (at 54 25))) ∷ [])

-- void g(const int *p, void *q, int c) { int *r = c ? p : q; }
abbrev pub conversions_by_assignment_4 : List syntax.External
conversions_by_assignment_4 = (syntax.FunctionDefinition (specs (syntax.TypeSpec type.Void (at 1 0) ∷ [])) (syntax.Named [] (name (codes "g") (at 6 1)) (suffixes (syntax.FunctionSuffix (parameters (syntax.parameter (specs (syntax.QualifierSpec (qualifier qual.Const (at 8 3)) ∷ syntax.TypeSpec type.Int (at 14 4) ∷ [])) (syntax.Named (pointer (at 18 5) [] ∷ []) (name (codes "p") (at 19 6)) (suffixes [])) (at 8 3) ∷ syntax.parameter (specs (syntax.TypeSpec type.Void (at 22 8) ∷ [])) (syntax.Named (pointer (at 27 9) [] ∷ []) (name (codes "q") (at 28 10)) (suffixes [])) (at 22 8) ∷ syntax.parameter (specs (syntax.TypeSpec type.Int (at 31 12) ∷ [])) (syntax.Named [] (name (codes "c") (at 35 13)) (suffixes [])) (at 31 12) ∷ [])) false (at 7 2) ∷ []))) (syntax.block (block_items (syntax.DeclarationItem (syntax.SimpleDeclaration (specs (syntax.TypeSpec type.Int (at 40 16) ∷ [])) (declared (syntax.init_declarator (syntax.Named (pointer (at 44 17) [] ∷ []) (name (codes "r") (at 45 18)) (suffixes [])) (syntax.an_initializer (syntax.Single (syntax.Conditional (syntax.Identifier (name (codes "c") (at 49 20))) (syntax.Identifier (name (codes "p") (at 53 22))) (syntax.Identifier (name (codes "q") (at 57 24))) (at 51 21)))) ∷ []))) ∷ [])) (span (at 38 15) (at 60 26))) ∷ [])

-- void g(int *p) { bool b = p; b = p; }
abbrev pub conversions_by_assignment_5 : List syntax.External
conversions_by_assignment_5 = (syntax.FunctionDefinition (specs (syntax.TypeSpec type.Void (at 1 0) ∷ [])) (syntax.Named [] (name (codes "g") (at 6 1)) (suffixes (syntax.FunctionSuffix (parameters (syntax.parameter (specs (syntax.TypeSpec type.Int (at 8 3) ∷ [])) (syntax.Named (pointer (at 12 4) [] ∷ []) (name (codes "p") (at 13 5)) (suffixes [])) (at 8 3) ∷ [])) false (at 7 2) ∷ []))) (syntax.block (block_items (syntax.DeclarationItem (syntax.SimpleDeclaration (specs (syntax.TypeSpec type.Bool (at 18 8) ∷ [])) (declared (syntax.init_declarator (syntax.Named [] (name (codes "b") (at 23 9)) (suffixes [])) (syntax.an_initializer (syntax.Single (syntax.Identifier (name (codes "p") (at 27 11))))) ∷ []))) ∷ syntax.StatementItem (syntax.ExpressionStatement (syntax.an_expr (syntax.Assign (syntax.Identifier (name (codes "b") (at 30 13))) (syntax.Identifier (name (codes "p") (at 34 15))) (at 32 14))) (span (at 30 13) (at 35 16))) ∷ [])) (span (at 16 7) (at 37 17))) ∷ [])

-- struct s { int a; } a; struct t { int a; } b; void g(void) { a = b; }
abbrev pub conversions_by_assignment_6 : List syntax.External
conversions_by_assignment_6 = (syntax.ExternalDeclaration (syntax.SimpleDeclaration (specs (syntax.Struct (Some (name (codes "s") (at 8 1))) (members (syntax.MemberDeclarators (specs (syntax.TypeSpec type.Int (at 12 3) ∷ [])) (syntax.declarators ((syntax.Named [] (name (codes "a") (at 16 4)) (suffixes [])) ∷ [])) ∷ [])) (at 1 0) ∷ [])) (declared (syntax.init_declarator (syntax.Named [] (name (codes "a") (at 21 7)) (suffixes [])) syntax.no_initializer ∷ []))) ∷ syntax.ExternalDeclaration (syntax.SimpleDeclaration (specs (syntax.Struct (Some (name (codes "t") (at 31 10))) (members (syntax.MemberDeclarators (specs (syntax.TypeSpec type.Int (at 35 12) ∷ [])) (syntax.declarators ((syntax.Named [] (name (codes "a") (at 39 13)) (suffixes [])) ∷ [])) ∷ [])) (at 24 9) ∷ [])) (declared (syntax.init_declarator (syntax.Named [] (name (codes "b") (at 44 16)) (suffixes [])) syntax.no_initializer ∷ []))) ∷ syntax.FunctionDefinition (specs (syntax.TypeSpec type.Void (at 47 18) ∷ [])) (syntax.Named [] (name (codes "g") (at 52 19)) (suffixes (syntax.FunctionSuffix (parameters (syntax.parameter (specs (syntax.TypeSpec type.Void (at 54 21) ∷ [])) (syntax.Unnamed [] (suffixes [])) (at 54 21) ∷ [])) false (at 53 20) ∷ []))) (syntax.block (block_items (syntax.StatementItem (syntax.ExpressionStatement (syntax.an_expr (syntax.Assign (syntax.Identifier (name (codes "a") (at 62 24))) (syntax.Identifier (name (codes "b") (at 66 26))) (at 64 25))) (span (at 62 24) (at 67 27))) ∷ [])) (span (at 60 23) (at 69 28))) ∷ [])

-- void g(char *_Owner _Opt *q) { char **r = q; }
abbrev pub conversions_by_assignment_7 : List syntax.External
conversions_by_assignment_7 = (syntax.FunctionDefinition (specs (syntax.TypeSpec type.Void (at 1 0) ∷ [])) (syntax.Named [] (name (codes "g") (at 6 1)) (suffixes (syntax.FunctionSuffix (parameters (syntax.parameter (specs (syntax.TypeSpec type.Char (at 8 3) ∷ [])) (syntax.Named (pointer (at 13 4) ((qualifier qual.Owner (at 14 5)) ∷ (qualifier qual.Opt (at 21 6)) ∷ []) ∷ pointer (at 26 7) [] ∷ []) (name (codes "q") (at 27 8)) (suffixes [])) (at 8 3) ∷ [])) false (at 7 2) ∷ []))) (syntax.block (block_items (syntax.DeclarationItem (syntax.SimpleDeclaration (specs (syntax.TypeSpec type.Char (at 32 11) ∷ [])) (declared (syntax.init_declarator (syntax.Named (pointer (at 37 12) [] ∷ pointer (at 38 13) [] ∷ []) (name (codes "r") (at 39 14)) (suffixes [])) (syntax.an_initializer (syntax.Single (syntax.Identifier (name (codes "q") (at 43 16))))) ∷ []))) ∷ [])) (span (at 30 10) (at 46 18))) ∷ [])

-- struct s { char *_Owner p; }; void g(_View struct s *v) { char *_Owner *q = &v->p; }
abbrev pub conversions_by_assignment_8 : List syntax.External
conversions_by_assignment_8 = (syntax.ExternalDeclaration (syntax.SimpleDeclaration (specs (syntax.Struct (Some (name (codes "s") (at 8 1))) (members (syntax.MemberDeclarators (specs (syntax.TypeSpec type.Char (at 12 3) ∷ [])) (syntax.declarators ((syntax.Named (pointer (at 17 4) ((qualifier qual.Owner (at 18 5)) ∷ []) ∷ []) (name (codes "p") (at 25 6)) (suffixes [])) ∷ [])) ∷ [])) (at 1 0) ∷ [])) (declared [])) ∷ syntax.FunctionDefinition (specs (syntax.TypeSpec type.Void (at 31 10) ∷ [])) (syntax.Named [] (name (codes "g") (at 36 11)) (suffixes (syntax.FunctionSuffix (parameters (syntax.parameter (specs (syntax.QualifierSpec (qualifier qual.View (at 38 13)) ∷ syntax.StructTag (name (codes "s") (at 51 15)) (at 44 14) ∷ [])) (syntax.Named (pointer (at 53 16) [] ∷ []) (name (codes "v") (at 54 17)) (suffixes [])) (at 38 13) ∷ [])) false (at 37 12) ∷ []))) (syntax.block (block_items (syntax.DeclarationItem (syntax.SimpleDeclaration (specs (syntax.TypeSpec type.Char (at 59 20) ∷ [])) (declared (syntax.init_declarator (syntax.Named (pointer (at 64 21) ((qualifier qual.Owner (at 65 22)) ∷ []) ∷ pointer (at 72 23) [] ∷ []) (name (codes "q") (at 73 24)) (suffixes [])) (syntax.an_initializer (syntax.Single (syntax.Unary prefix.Address (syntax.Arrow (syntax.Identifier (name (codes "v") (at 78 27))) (name (codes "p") (at 81 29)) (at 79 28)) (at 77 26)))) ∷ []))) ∷ [])) (span (at 57 19) (at 84 31))) ∷ [])

-- void g(int *restrict *p) { int **q = p; }
abbrev pub conversions_by_assignment_9 : List syntax.External
conversions_by_assignment_9 = (syntax.FunctionDefinition (specs (syntax.TypeSpec type.Void (at 1 0) ∷ [])) (syntax.Named [] (name (codes "g") (at 6 1)) (suffixes (syntax.FunctionSuffix (parameters (syntax.parameter (specs (syntax.TypeSpec type.Int (at 8 3) ∷ [])) (syntax.Named (pointer (at 12 4) ((qualifier qual.Restrict (at 13 5)) ∷ []) ∷ pointer (at 22 6) [] ∷ []) (name (codes "p") (at 23 7)) (suffixes [])) (at 8 3) ∷ [])) false (at 7 2) ∷ []))) (syntax.block (block_items (syntax.DeclarationItem (syntax.SimpleDeclaration (specs (syntax.TypeSpec type.Int (at 28 10) ∷ [])) (declared (syntax.init_declarator (syntax.Named (pointer (at 32 11) [] ∷ pointer (at 33 12) [] ∷ []) (name (codes "q") (at 34 13)) (suffixes [])) (syntax.an_initializer (syntax.Single (syntax.Identifier (name (codes "p") (at 38 15))))) ∷ []))) ∷ [])) (span (at 26 9) (at 41 17))) ∷ [])

-- void g(int c, const char *p, char *q) { const char *r = c ? p : q; char *s = c ? p : q; }
abbrev pub conversions_by_assignment_10 : List syntax.External
conversions_by_assignment_10 = (syntax.FunctionDefinition (specs (syntax.TypeSpec type.Void (at 1 0) ∷ [])) (syntax.Named [] (name (codes "g") (at 6 1)) (suffixes (syntax.FunctionSuffix (parameters (syntax.parameter (specs (syntax.TypeSpec type.Int (at 8 3) ∷ [])) (syntax.Named [] (name (codes "c") (at 12 4)) (suffixes [])) (at 8 3) ∷ syntax.parameter (specs (syntax.QualifierSpec (qualifier qual.Const (at 15 6)) ∷ syntax.TypeSpec type.Char (at 21 7) ∷ [])) (syntax.Named (pointer (at 26 8) [] ∷ []) (name (codes "p") (at 27 9)) (suffixes [])) (at 15 6) ∷ syntax.parameter (specs (syntax.TypeSpec type.Char (at 30 11) ∷ [])) (syntax.Named (pointer (at 35 12) [] ∷ []) (name (codes "q") (at 36 13)) (suffixes [])) (at 30 11) ∷ [])) false (at 7 2) ∷ []))) (syntax.block (block_items (syntax.DeclarationItem (syntax.SimpleDeclaration (specs (syntax.QualifierSpec (qualifier qual.Const (at 41 16)) ∷ syntax.TypeSpec type.Char (at 47 17) ∷ [])) (declared (syntax.init_declarator (syntax.Named (pointer (at 52 18) [] ∷ []) (name (codes "r") (at 53 19)) (suffixes [])) (syntax.an_initializer (syntax.Single (syntax.Conditional (syntax.Identifier (name (codes "c") (at 57 21))) (syntax.Identifier (name (codes "p") (at 61 23))) (syntax.Identifier (name (codes "q") (at 65 25))) (at 59 22)))) ∷ []))) ∷ syntax.DeclarationItem (syntax.SimpleDeclaration (specs (syntax.TypeSpec type.Char (at 68 27) ∷ [])) (declared (syntax.init_declarator (syntax.Named (pointer (at 73 28) [] ∷ []) (name (codes "s") (at 74 29)) (suffixes [])) (syntax.an_initializer (syntax.Single (syntax.Conditional (syntax.Identifier (name (codes "c") (at 78 31))) (syntax.Identifier (name (codes "p") (at 82 33))) (syntax.Identifier (name (codes "q") (at 86 35))) (at 80 32)))) ∷ []))) ∷ [])) (span (at 39 15) (at 89 37))) ∷ [])

-- void g(int *p) { bool b = p; int x = p; }
abbrev pub conversions_by_assignment_11 : List syntax.External
conversions_by_assignment_11 = (syntax.FunctionDefinition (specs (syntax.TypeSpec type.Void (at 1 0) ∷ [])) (syntax.Named [] (name (codes "g") (at 6 1)) (suffixes (syntax.FunctionSuffix (parameters (syntax.parameter (specs (syntax.TypeSpec type.Int (at 8 3) ∷ [])) (syntax.Named (pointer (at 12 4) [] ∷ []) (name (codes "p") (at 13 5)) (suffixes [])) (at 8 3) ∷ [])) false (at 7 2) ∷ []))) (syntax.block (block_items (syntax.DeclarationItem (syntax.SimpleDeclaration (specs (syntax.TypeSpec type.Bool (at 18 8) ∷ [])) (declared (syntax.init_declarator (syntax.Named [] (name (codes "b") (at 23 9)) (suffixes [])) (syntax.an_initializer (syntax.Single (syntax.Identifier (name (codes "p") (at 27 11))))) ∷ []))) ∷ syntax.DeclarationItem (syntax.SimpleDeclaration (specs (syntax.TypeSpec type.Int (at 30 13) ∷ [])) (declared (syntax.init_declarator (syntax.Named [] (name (codes "x") (at 34 14)) (suffixes [])) (syntax.an_initializer (syntax.Single (syntax.Identifier (name (codes "p") (at 38 16))))) ∷ []))) ∷ [])) (span (at 16 7) (at 41 18))) ∷ [])
