-- C06: tag is of another kind or defined twice: units of one line, as trees.
use Rattle.std.specs.Prelude.{List, [], ◌∷◌, Some, false, codes}
use Rattle.model_grammar.specs.SyntaxForms as syntax
use Rattle.model_grammar.specs.declared.syntax.TypeWord.TheVariants as type
use Rattle.model_grammar.specs.declared.syntax.TypeofWord.TheVariants as word
use Rattle.checking_units.specs.Parts.{at, name, specs, pointer, suffixes, parameters, members, enumerators, declared, block_items, span}

-- enum e { A }; struct e *p;
abbrev pub c06_1 : List syntax.External
c06_1 = (syntax.ExternalDeclaration (syntax.SimpleDeclaration (specs (syntax.Enum (Some (name (codes "e") (at 6 1))) syntax.none_of_specs (enumerators (syntax.enumerator (name (codes "A") (at 10 3)) syntax.no_expr ∷ [])) (at 1 0) ∷ [])) (declared [])) ∷ syntax.ExternalDeclaration (syntax.SimpleDeclaration (specs (syntax.StructTag (name (codes "e") (at 22 7)) (at 15 6) ∷ [])) (declared (syntax.init_declarator (syntax.Named (pointer (at 24 8) [] ∷ []) (name (codes "p") (at 25 9)) (suffixes [])) syntax.no_initializer ∷ []))) ∷ [])

-- struct s { int a; }; enum s x;
abbrev pub c06_2 : List syntax.External
c06_2 = (syntax.ExternalDeclaration (syntax.SimpleDeclaration (specs (syntax.Struct (Some (name (codes "s") (at 8 1))) (members (syntax.MemberDeclarators (specs (syntax.TypeSpec type.Int (at 12 3) ∷ [])) (syntax.declarators ((syntax.Named [] (name (codes "a") (at 16 4)) (suffixes [])) ∷ [])) ∷ [])) (at 1 0) ∷ [])) (declared [])) ∷ syntax.ExternalDeclaration (syntax.SimpleDeclaration (specs (syntax.EnumTag (name (codes "s") (at 27 9)) syntax.none_of_specs (at 22 8) ∷ [])) (declared (syntax.init_declarator (syntax.Named [] (name (codes "x") (at 29 10)) (suffixes [])) syntax.no_initializer ∷ []))) ∷ [])

-- struct s { int a; }; struct s { int a; };
abbrev pub c06_3 : List syntax.External
c06_3 = (syntax.ExternalDeclaration (syntax.SimpleDeclaration (specs (syntax.Struct (Some (name (codes "s") (at 8 1))) (members (syntax.MemberDeclarators (specs (syntax.TypeSpec type.Int (at 12 3) ∷ [])) (syntax.declarators ((syntax.Named [] (name (codes "a") (at 16 4)) (suffixes [])) ∷ [])) ∷ [])) (at 1 0) ∷ [])) (declared [])) ∷ syntax.ExternalDeclaration (syntax.SimpleDeclaration (specs (syntax.Struct (Some (name (codes "s") (at 29 9))) (members (syntax.MemberDeclarators (specs (syntax.TypeSpec type.Int (at 33 11) ∷ [])) (syntax.declarators ((syntax.Named [] (name (codes "a") (at 37 12)) (suffixes [])) ∷ [])) ∷ [])) (at 22 8) ∷ [])) (declared [])) ∷ [])

-- enum e { A }; enum e { B };
abbrev pub c06_4 : List syntax.External
c06_4 = (syntax.ExternalDeclaration (syntax.SimpleDeclaration (specs (syntax.Enum (Some (name (codes "e") (at 6 1))) syntax.none_of_specs (enumerators (syntax.enumerator (name (codes "A") (at 10 3)) syntax.no_expr ∷ [])) (at 1 0) ∷ [])) (declared [])) ∷ syntax.ExternalDeclaration (syntax.SimpleDeclaration (specs (syntax.Enum (Some (name (codes "e") (at 20 7))) syntax.none_of_specs (enumerators (syntax.enumerator (name (codes "B") (at 24 9)) syntax.no_expr ∷ [])) (at 15 6) ∷ [])) (declared [])) ∷ [])

-- struct s { struct s { int a; } b; };
abbrev pub c06_5 : List syntax.External
c06_5 = (syntax.ExternalDeclaration (syntax.SimpleDeclaration (specs (syntax.Struct (Some (name (codes "s") (at 8 1))) (members (syntax.MemberDeclarators (specs (syntax.Struct (Some (name (codes "s") (at 19 4))) (members (syntax.MemberDeclarators (specs (syntax.TypeSpec type.Int (at 23 6) ∷ [])) (syntax.declarators ((syntax.Named [] (name (codes "a") (at 27 7)) (suffixes [])) ∷ [])) ∷ [])) (at 12 3) ∷ [])) (syntax.declarators ((syntax.Named [] (name (codes "b") (at 32 10)) (suffixes [])) ∷ [])) ∷ [])) (at 1 0) ∷ [])) (declared [])) ∷ [])

-- enum s { A }; struct s;
abbrev pub c06_6 : List syntax.External
c06_6 = (syntax.ExternalDeclaration (syntax.SimpleDeclaration (specs (syntax.Enum (Some (name (codes "s") (at 6 1))) syntax.none_of_specs (enumerators (syntax.enumerator (name (codes "A") (at 10 3)) syntax.no_expr ∷ [])) (at 1 0) ∷ [])) (declared [])) ∷ syntax.ExternalDeclaration (syntax.SimpleDeclaration (specs (syntax.StructTag (name (codes "s") (at 22 7)) (at 15 6) ∷ [])) (declared [])) ∷ [])

-- struct s { int a; }; enum s : typeof(n) { A };
abbrev pub c06_7 : List syntax.External
c06_7 = (syntax.ExternalDeclaration (syntax.SimpleDeclaration (specs (syntax.Struct (Some (name (codes "s") (at 8 1))) (members (syntax.MemberDeclarators (specs (syntax.TypeSpec type.Int (at 12 3) ∷ [])) (syntax.declarators ((syntax.Named [] (name (codes "a") (at 16 4)) (suffixes [])) ∷ [])) ∷ [])) (at 1 0) ∷ [])) (declared [])) ∷ syntax.ExternalDeclaration (syntax.SimpleDeclaration (specs (syntax.Enum (Some (name (codes "s") (at 27 9))) (syntax.some_specs (specs (syntax.TypeofExpr word.Typeof (syntax.Identifier (name (codes "n") (at 38 13))) (at 31 11) ∷ []))) (enumerators (syntax.enumerator (name (codes "A") (at 43 16)) syntax.no_expr ∷ [])) (at 22 8) ∷ [])) (declared [])) ∷ [])

-- struct s; enum s x;
abbrev pub c06_8 : List syntax.External
c06_8 = (syntax.ExternalDeclaration (syntax.SimpleDeclaration (specs (syntax.StructTag (name (codes "s") (at 8 1)) (at 1 0) ∷ [])) (declared [])) ∷ syntax.ExternalDeclaration (syntax.SimpleDeclaration (specs (syntax.EnumTag (name (codes "s") (at 16 4)) syntax.none_of_specs (at 11 3) ∷ [])) (declared (syntax.init_declarator (syntax.Named [] (name (codes "x") (at 18 5)) (suffixes [])) syntax.no_initializer ∷ []))) ∷ [])

-- struct s { int a; }; struct s { int b; };
abbrev pub c06_9 : List syntax.External
c06_9 = (syntax.ExternalDeclaration (syntax.SimpleDeclaration (specs (syntax.Struct (Some (name (codes "s") (at 8 1))) (members (syntax.MemberDeclarators (specs (syntax.TypeSpec type.Int (at 12 3) ∷ [])) (syntax.declarators ((syntax.Named [] (name (codes "a") (at 16 4)) (suffixes [])) ∷ [])) ∷ [])) (at 1 0) ∷ [])) (declared [])) ∷ syntax.ExternalDeclaration (syntax.SimpleDeclaration (specs (syntax.Struct (Some (name (codes "s") (at 29 9))) (members (syntax.MemberDeclarators (specs (syntax.TypeSpec type.Int (at 33 11) ∷ [])) (syntax.declarators ((syntax.Named [] (name (codes "b") (at 37 12)) (suffixes [])) ∷ [])) ∷ [])) (at 22 8) ∷ [])) (declared [])) ∷ [])

-- void f(struct s *p, struct s { int a; } *q) { struct s { int b; }; }
abbrev pub c06_10 : List syntax.External
c06_10 = (syntax.FunctionDefinition (specs (syntax.TypeSpec type.Void (at 1 0) ∷ [])) (syntax.Named [] (name (codes "f") (at 6 1)) (suffixes (syntax.FunctionSuffix (parameters (syntax.parameter (specs (syntax.StructTag (name (codes "s") (at 15 4)) (at 8 3) ∷ [])) (syntax.Named (pointer (at 17 5) [] ∷ []) (name (codes "p") (at 18 6)) (suffixes [])) (at 8 3) ∷ syntax.parameter (specs (syntax.Struct (Some (name (codes "s") (at 28 9))) (members (syntax.MemberDeclarators (specs (syntax.TypeSpec type.Int (at 32 11) ∷ [])) (syntax.declarators ((syntax.Named [] (name (codes "a") (at 36 12)) (suffixes [])) ∷ [])) ∷ [])) (at 21 8) ∷ [])) (syntax.Named (pointer (at 41 15) [] ∷ []) (name (codes "q") (at 42 16)) (suffixes [])) (at 21 8) ∷ [])) false (at 7 2) ∷ []))) (syntax.block (block_items (syntax.DeclarationItem (syntax.SimpleDeclaration (specs (syntax.Struct (Some (name (codes "s") (at 54 20))) (members (syntax.MemberDeclarators (specs (syntax.TypeSpec type.Int (at 58 22) ∷ [])) (syntax.declarators ((syntax.Named [] (name (codes "b") (at 62 23)) (suffixes [])) ∷ [])) ∷ [])) (at 47 19) ∷ [])) (declared [])) ∷ [])) (span (at 45 18) (at 68 27))) ∷ [])
