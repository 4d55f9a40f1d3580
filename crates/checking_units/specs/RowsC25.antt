-- C25: array length or type size is out of range: units of one line, as trees.
use Rattle.std.specs.Prelude.{List, [], ◌∷◌, Some, false, pos, codes}
use Rattle.model_grammar.specs.SyntaxForms as syntax
use Rattle.model_types.specs.declared.numbers.Basic.TheVariants as basic
use Rattle.model_grammar.specs.declared.syntax.TypeWord.TheVariants as type
use Rattle.model_grammar.specs.declared.syntax.PrefixOp.TheVariants as prefix
use Rattle.checking_units.specs.Parts.{at, name, specs, pointer, suffixes, parameters, members, declared}

-- struct s { char a[1000000000]; char b[1000000000]; };
abbrev pub c25_1 : List syntax.External
c25_1 = (syntax.ExternalDeclaration (syntax.SimpleDeclaration (specs (syntax.Struct (Some (name (codes "s") (at 8 1))) (members (syntax.MemberDeclarators (specs (syntax.TypeSpec type.Char (at 12 3) ∷ [])) (syntax.declarators ((syntax.Named [] (name (codes "a") (at 17 4)) (suffixes (syntax.ArraySuffix (syntax.an_expr (syntax.Constant (pos 1000000000) basic.Int (at 19 6))) (at 18 5) ∷ []))) ∷ [])) ∷ syntax.MemberDeclarators (specs (syntax.TypeSpec type.Char (at 32 9) ∷ [])) (syntax.declarators ((syntax.Named [] (name (codes "b") (at 37 10)) (suffixes (syntax.ArraySuffix (syntax.an_expr (syntax.Constant (pos 1000000000) basic.Int (at 39 12))) (at 38 11) ∷ []))) ∷ [])) ∷ [])) (at 1 0) ∷ [])) (declared [])) ∷ [])

-- struct s { char a[2000000000]; };
abbrev pub c25_2 : List syntax.External
c25_2 = (syntax.ExternalDeclaration (syntax.SimpleDeclaration (specs (syntax.Struct (Some (name (codes "s") (at 8 1))) (members (syntax.MemberDeclarators (specs (syntax.TypeSpec type.Char (at 12 3) ∷ [])) (syntax.declarators ((syntax.Named [] (name (codes "a") (at 17 4)) (suffixes (syntax.ArraySuffix (syntax.an_expr (syntax.Constant (pos 2000000000) basic.Int (at 19 6))) (at 18 5) ∷ []))) ∷ [])) ∷ [])) (at 1 0) ∷ [])) (declared [])) ∷ [])

-- int x[0];
abbrev pub c25_3 : List syntax.External
c25_3 = (syntax.ExternalDeclaration (syntax.SimpleDeclaration (specs (syntax.TypeSpec type.Int (at 1 0) ∷ [])) (declared (syntax.init_declarator (syntax.Named [] (name (codes "x") (at 5 1)) (suffixes (syntax.ArraySuffix (syntax.an_expr (syntax.Constant (pos 0) basic.Int (at 7 3))) (at 6 2) ∷ []))) syntax.no_initializer ∷ []))) ∷ [])

-- int x[-1];
abbrev pub c25_4 : List syntax.External
c25_4 = (syntax.ExternalDeclaration (syntax.SimpleDeclaration (specs (syntax.TypeSpec type.Int (at 1 0) ∷ [])) (declared (syntax.init_declarator (syntax.Named [] (name (codes "x") (at 5 1)) (suffixes (syntax.ArraySuffix (syntax.an_expr (syntax.Unary prefix.Minus (syntax.Constant (pos 1) basic.Int (at 8 4)) (at 7 3))) (at 6 2) ∷ []))) syntax.no_initializer ∷ []))) ∷ [])

-- char x[2000000000];
abbrev pub c25_5 : List syntax.External
c25_5 = (syntax.ExternalDeclaration (syntax.SimpleDeclaration (specs (syntax.TypeSpec type.Char (at 1 0) ∷ [])) (declared (syntax.init_declarator (syntax.Named [] (name (codes "x") (at 6 1)) (suffixes (syntax.ArraySuffix (syntax.an_expr (syntax.Constant (pos 2000000000) basic.Int (at 8 3))) (at 7 2) ∷ []))) syntax.no_initializer ∷ []))) ∷ [])

-- int x[20000][20000];
abbrev pub c25_6 : List syntax.External
c25_6 = (syntax.ExternalDeclaration (syntax.SimpleDeclaration (specs (syntax.TypeSpec type.Int (at 1 0) ∷ [])) (declared (syntax.init_declarator (syntax.Named [] (name (codes "x") (at 5 1)) (suffixes (syntax.ArraySuffix (syntax.an_expr (syntax.Constant (pos 20000) basic.Int (at 7 3))) (at 6 2) ∷ syntax.ArraySuffix (syntax.an_expr (syntax.Constant (pos 20000) basic.Int (at 14 6))) (at 13 5) ∷ []))) syntax.no_initializer ∷ []))) ∷ [])

-- char (*x)[2000000000];
abbrev pub c25_7 : List syntax.External
c25_7 = (syntax.ExternalDeclaration (syntax.SimpleDeclaration (specs (syntax.TypeSpec type.Char (at 1 0) ∷ [])) (declared (syntax.init_declarator (syntax.Grouped [] (syntax.Named (pointer (at 7 2) [] ∷ []) (name (codes "x") (at 8 3)) (suffixes [])) (suffixes (syntax.ArraySuffix (syntax.an_expr (syntax.Constant (pos 2000000000) basic.Int (at 11 6))) (at 10 5) ∷ [])) (at 6 1)) syntax.no_initializer ∷ []))) ∷ [])

-- void f(char a[2000000000]);
abbrev pub c25_8 : List syntax.External
c25_8 = (syntax.ExternalDeclaration (syntax.SimpleDeclaration (specs (syntax.TypeSpec type.Void (at 1 0) ∷ [])) (declared (syntax.init_declarator (syntax.Named [] (name (codes "f") (at 6 1)) (suffixes (syntax.FunctionSuffix (parameters (syntax.parameter (specs (syntax.TypeSpec type.Char (at 8 3) ∷ [])) (syntax.Named [] (name (codes "a") (at 13 4)) (suffixes (syntax.ArraySuffix (syntax.an_expr (syntax.Constant (pos 2000000000) basic.Int (at 15 6))) (at 14 5) ∷ []))) (at 8 3) ∷ [])) false (at 7 2) ∷ []))) syntax.no_initializer ∷ []))) ∷ [])

-- int a[sizeof(int [0])];
abbrev pub c25_9 : List syntax.External
c25_9 = (syntax.ExternalDeclaration (syntax.SimpleDeclaration (specs (syntax.TypeSpec type.Int (at 1 0) ∷ [])) (declared (syntax.init_declarator (syntax.Named [] (name (codes "a") (at 5 1)) (suffixes (syntax.ArraySuffix (syntax.an_expr (syntax.SizeofType (syntax.type_name (specs (syntax.TypeSpec type.Int (at 14 5) ∷ [])) (syntax.Unnamed [] (suffixes (syntax.ArraySuffix (syntax.an_expr (syntax.Constant (pos 0) basic.Int (at 19 7))) (at 18 6) ∷ [])))) (at 7 3))) (at 6 2) ∷ []))) syntax.no_initializer ∷ []))) ∷ [])

-- struct s { char a[1073741824]; char b; };
abbrev pub c25_10 : List syntax.External
c25_10 = (syntax.ExternalDeclaration (syntax.SimpleDeclaration (specs (syntax.Struct (Some (name (codes "s") (at 8 1))) (members (syntax.MemberDeclarators (specs (syntax.TypeSpec type.Char (at 12 3) ∷ [])) (syntax.declarators ((syntax.Named [] (name (codes "a") (at 17 4)) (suffixes (syntax.ArraySuffix (syntax.an_expr (syntax.Constant (pos 1073741824) basic.Int (at 19 6))) (at 18 5) ∷ []))) ∷ [])) ∷ syntax.MemberDeclarators (specs (syntax.TypeSpec type.Char (at 32 9) ∷ [])) (syntax.declarators ((syntax.Named [] (name (codes "b") (at 37 10)) (suffixes [])) ∷ [])) ∷ [])) (at 1 0) ∷ [])) (declared [])) ∷ [])
