-- C09: operand has the wrong type: units of one line, as trees.
use Rattle.std.specs.Prelude.{List, [], ◌∷◌, Some, false, pos, codes}
use Rattle.model_grammar.specs.SyntaxForms as syntax
use Rattle.model_types.specs.declared.numbers.Basic.TheVariants as basic
use Rattle.model_types.specs.declared.numbers.BinOp.TheVariants as op
use Rattle.model_types.specs.declared.operators.StepOp.TheVariants as step
use Rattle.model_types.specs.declared.operators.StepSide.TheVariants as side
use Rattle.model_grammar.specs.declared.syntax.TypeWord.TheVariants as type
use Rattle.model_grammar.specs.declared.syntax.PrefixOp.TheVariants as prefix
use Rattle.checking_units.specs.Parts.{at, name, specs, pointer, suffixes, parameters, members, declared, block_items, span}

-- struct s { int a; }; void g(struct s a) { 1 += a; }
abbrev pub c09_1 : List syntax.External
c09_1 = (syntax.ExternalDeclaration (syntax.SimpleDeclaration (specs (syntax.Struct (Some (name (codes "s") (at 8 1))) (members (syntax.MemberDeclarators (specs (syntax.TypeSpec type.Int (at 12 3) ∷ [])) (syntax.declarators ((syntax.Named [] (name (codes "a") (at 16 4)) (suffixes [])) ∷ [])) ∷ [])) (at 1 0) ∷ [])) (declared [])) ∷ syntax.FunctionDefinition (specs (syntax.TypeSpec type.Void (at 22 8) ∷ [])) (syntax.Named [] (name (codes "g") (at 27 9)) (suffixes (syntax.FunctionSuffix (parameters (syntax.parameter (specs (syntax.StructTag (name (codes "s") (at 36 12)) (at 29 11) ∷ [])) (syntax.Named [] (name (codes "a") (at 38 13)) (suffixes [])) (at 29 11) ∷ [])) false (at 28 10) ∷ []))) (syntax.block (block_items (syntax.StatementItem (syntax.ExpressionStatement (syntax.an_expr (syntax.AssignBy op.Add (syntax.Constant (pos 1) basic.Int (at 43 16)) (syntax.Identifier (name (codes "a") (at 48 18))) (at 45 17))) (span (at 43 16) (at 49 19))) ∷ [])) (span (at 41 15) (at 51 20))) ∷ [])

-- void v(void); void g(void) { int x = 1 + v(); }
abbrev pub c09_2 : List syntax.External
c09_2 = (syntax.ExternalDeclaration (syntax.SimpleDeclaration (specs (syntax.TypeSpec type.Void (at 1 0) ∷ [])) (declared (syntax.init_declarator (syntax.Named [] (name (codes "v") (at 6 1)) (suffixes (syntax.FunctionSuffix (parameters (syntax.parameter (specs (syntax.TypeSpec type.Void (at 8 3) ∷ [])) (syntax.Unnamed [] (suffixes [])) (at 8 3) ∷ [])) false (at 7 2) ∷ []))) syntax.no_initializer ∷ []))) ∷ syntax.FunctionDefinition (specs (syntax.TypeSpec type.Void (at 15 6) ∷ [])) (syntax.Named [] (name (codes "g") (at 20 7)) (suffixes (syntax.FunctionSuffix (parameters (syntax.parameter (specs (syntax.TypeSpec type.Void (at 22 9) ∷ [])) (syntax.Unnamed [] (suffixes [])) (at 22 9) ∷ [])) false (at 21 8) ∷ []))) (syntax.block (block_items (syntax.DeclarationItem (syntax.SimpleDeclaration (specs (syntax.TypeSpec type.Int (at 30 12) ∷ [])) (declared (syntax.init_declarator (syntax.Named [] (name (codes "x") (at 34 13)) (suffixes [])) (syntax.an_initializer (syntax.Single (syntax.Binary op.Add (syntax.Constant (pos 1) basic.Int (at 38 15)) (syntax.Call (syntax.Identifier (name (codes "v") (at 42 17))) (syntax.exprs []) (at 43 18)) (at 40 16)))) ∷ []))) ∷ [])) (span (at 28 11) (at 47 21))) ∷ [])

-- struct s { int a; }; void g(struct s a) { a++; }
abbrev pub c09_3 : List syntax.External
c09_3 = (syntax.ExternalDeclaration (syntax.SimpleDeclaration (specs (syntax.Struct (Some (name (codes "s") (at 8 1))) (members (syntax.MemberDeclarators (specs (syntax.TypeSpec type.Int (at 12 3) ∷ [])) (syntax.declarators ((syntax.Named [] (name (codes "a") (at 16 4)) (suffixes [])) ∷ [])) ∷ [])) (at 1 0) ∷ [])) (declared [])) ∷ syntax.FunctionDefinition (specs (syntax.TypeSpec type.Void (at 22 8) ∷ [])) (syntax.Named [] (name (codes "g") (at 27 9)) (suffixes (syntax.FunctionSuffix (parameters (syntax.parameter (specs (syntax.StructTag (name (codes "s") (at 36 12)) (at 29 11) ∷ [])) (syntax.Named [] (name (codes "a") (at 38 13)) (suffixes [])) (at 29 11) ∷ [])) false (at 28 10) ∷ []))) (syntax.block (block_items (syntax.StatementItem (syntax.ExpressionStatement (syntax.an_expr (syntax.Step step.Increment side.Postfix (syntax.Identifier (name (codes "a") (at 43 16))) (at 44 17))) (span (at 43 16) (at 46 18))) ∷ [])) (span (at 41 15) (at 48 19))) ∷ [])

-- struct s { int a; }; void g(struct s a) { !a; }
abbrev pub c09_4 : List syntax.External
c09_4 = (syntax.ExternalDeclaration (syntax.SimpleDeclaration (specs (syntax.Struct (Some (name (codes "s") (at 8 1))) (members (syntax.MemberDeclarators (specs (syntax.TypeSpec type.Int (at 12 3) ∷ [])) (syntax.declarators ((syntax.Named [] (name (codes "a") (at 16 4)) (suffixes [])) ∷ [])) ∷ [])) (at 1 0) ∷ [])) (declared [])) ∷ syntax.FunctionDefinition (specs (syntax.TypeSpec type.Void (at 22 8) ∷ [])) (syntax.Named [] (name (codes "g") (at 27 9)) (suffixes (syntax.FunctionSuffix (parameters (syntax.parameter (specs (syntax.StructTag (name (codes "s") (at 36 12)) (at 29 11) ∷ [])) (syntax.Named [] (name (codes "a") (at 38 13)) (suffixes [])) (at 29 11) ∷ [])) false (at 28 10) ∷ []))) (syntax.block (block_items (syntax.StatementItem (syntax.ExpressionStatement (syntax.an_expr (syntax.Unary prefix.Not (syntax.Identifier (name (codes "a") (at 44 17))) (at 43 16))) (span (at 43 16) (at 45 18))) ∷ [])) (span (at 41 15) (at 47 19))) ∷ [])

-- void g(char *p) { ~p; }
abbrev pub c09_5 : List syntax.External
c09_5 = (syntax.FunctionDefinition (specs (syntax.TypeSpec type.Void (at 1 0) ∷ [])) (syntax.Named [] (name (codes "g") (at 6 1)) (suffixes (syntax.FunctionSuffix (parameters (syntax.parameter (specs (syntax.TypeSpec type.Char (at 8 3) ∷ [])) (syntax.Named (pointer (at 13 4) [] ∷ []) (name (codes "p") (at 14 5)) (suffixes [])) (at 8 3) ∷ [])) false (at 7 2) ∷ []))) (syntax.block (block_items (syntax.StatementItem (syntax.ExpressionStatement (syntax.an_expr (syntax.Unary prefix.Complement (syntax.Identifier (name (codes "p") (at 20 9))) (at 19 8))) (span (at 19 8) (at 21 10))) ∷ [])) (span (at 17 7) (at 23 11))) ∷ [])

-- void g(int x) { x[1]; }
abbrev pub c09_6 : List syntax.External
c09_6 = (syntax.FunctionDefinition (specs (syntax.TypeSpec type.Void (at 1 0) ∷ [])) (syntax.Named [] (name (codes "g") (at 6 1)) (suffixes (syntax.FunctionSuffix (parameters (syntax.parameter (specs (syntax.TypeSpec type.Int (at 8 3) ∷ [])) (syntax.Named [] (name (codes "x") (at 12 4)) (suffixes [])) (at 8 3) ∷ [])) false (at 7 2) ∷ []))) (syntax.block (block_items (syntax.StatementItem (syntax.ExpressionStatement (syntax.an_expr (syntax.Index (syntax.Identifier (name (codes "x") (at 17 7))) (syntax.Constant (pos 1) basic.Int (at 19 9)) (at 18 8))) (span (at 17 7) (at 21 11))) ∷ [])) (span (at 15 6) (at 23 12))) ∷ [])

-- void g(int *p) { 1 - p; }
abbrev pub c09_7 : List syntax.External
c09_7 = (syntax.FunctionDefinition (specs (syntax.TypeSpec type.Void (at 1 0) ∷ [])) (syntax.Named [] (name (codes "g") (at 6 1)) (suffixes (syntax.FunctionSuffix (parameters (syntax.parameter (specs (syntax.TypeSpec type.Int (at 8 3) ∷ [])) (syntax.Named (pointer (at 12 4) [] ∷ []) (name (codes "p") (at 13 5)) (suffixes [])) (at 8 3) ∷ [])) false (at 7 2) ∷ []))) (syntax.block (block_items (syntax.StatementItem (syntax.ExpressionStatement (syntax.an_expr (syntax.Binary op.Sub (syntax.Constant (pos 1) basic.Int (at 18 8)) (syntax.Identifier (name (codes "p") (at 22 10))) (at 20 9))) (span (at 18 8) (at 23 11))) ∷ [])) (span (at 16 7) (at 25 12))) ∷ [])

-- void g(int *p) { p == 1; }
abbrev pub c09_8 : List syntax.External
c09_8 = (syntax.FunctionDefinition (specs (syntax.TypeSpec type.Void (at 1 0) ∷ [])) (syntax.Named [] (name (codes "g") (at 6 1)) (suffixes (syntax.FunctionSuffix (parameters (syntax.parameter (specs (syntax.TypeSpec type.Int (at 8 3) ∷ [])) (syntax.Named (pointer (at 12 4) [] ∷ []) (name (codes "p") (at 13 5)) (suffixes [])) (at 8 3) ∷ [])) false (at 7 2) ∷ []))) (syntax.block (block_items (syntax.StatementItem (syntax.ExpressionStatement (syntax.an_expr (syntax.Binary op.Equal (syntax.Identifier (name (codes "p") (at 18 8))) (syntax.Constant (pos 1) basic.Int (at 23 10)) (at 20 9))) (span (at 18 8) (at 24 11))) ∷ [])) (span (at 16 7) (at 26 12))) ∷ [])

-- struct s { int a; }; void g(struct s a) { a ? y : 1; }
abbrev pub c09_9 : List syntax.External
c09_9 = (syntax.ExternalDeclaration (syntax.SimpleDeclaration (specs (syntax.Struct (Some (name (codes "s") (at 8 1))) (members (syntax.MemberDeclarators (specs (syntax.TypeSpec type.Int (at 12 3) ∷ [])) (syntax.declarators ((syntax.Named [] (name (codes "a") (at 16 4)) (suffixes [])) ∷ [])) ∷ [])) (at 1 0) ∷ [])) (declared [])) ∷ syntax.FunctionDefinition (specs (syntax.TypeSpec type.Void (at 22 8) ∷ [])) (syntax.Named [] (name (codes "g") (at 27 9)) (suffixes (syntax.FunctionSuffix (parameters (syntax.parameter (specs (syntax.StructTag (name (codes "s") (at 36 12)) (at 29 11) ∷ [])) (syntax.Named [] (name (codes "a") (at 38 13)) (suffixes [])) (at 29 11) ∷ [])) false (at 28 10) ∷ []))) (syntax.block (block_items (syntax.StatementItem (syntax.ExpressionStatement (syntax.an_expr (syntax.Conditional (syntax.Identifier (name (codes "a") (at 43 16))) (syntax.Identifier (name (codes "y") (at 47 18))) (syntax.Constant (pos 1) basic.Int (at 51 20)) (at 45 17))) (span (at 43 16) (at 52 21))) ∷ [])) (span (at 41 15) (at 54 22))) ∷ [])

-- void g(int x) { x.a; }
abbrev pub c09_10 : List syntax.External
c09_10 = (syntax.FunctionDefinition (specs (syntax.TypeSpec type.Void (at 1 0) ∷ [])) (syntax.Named [] (name (codes "g") (at 6 1)) (suffixes (syntax.FunctionSuffix (parameters (syntax.parameter (specs (syntax.TypeSpec type.Int (at 8 3) ∷ [])) (syntax.Named [] (name (codes "x") (at 12 4)) (suffixes [])) (at 8 3) ∷ [])) false (at 7 2) ∷ []))) (syntax.block (block_items (syntax.StatementItem (syntax.ExpressionStatement (syntax.an_expr (syntax.Member (syntax.Identifier (name (codes "x") (at 17 7))) (name (codes "a") (at 19 9)) (at 18 8))) (span (at 17 7) (at 20 10))) ∷ [])) (span (at 15 6) (at 22 11))) ∷ [])

-- void v(void); int x = 1 + v();
abbrev pub c09_11 : List syntax.External
c09_11 = (syntax.ExternalDeclaration (syntax.SimpleDeclaration (specs (syntax.TypeSpec type.Void (at 1 0) ∷ [])) (declared (syntax.init_declarator (syntax.Named [] (name (codes "v") (at 6 1)) (suffixes (syntax.FunctionSuffix (parameters (syntax.parameter (specs (syntax.TypeSpec type.Void (at 8 3) ∷ [])) (syntax.Unnamed [] (suffixes [])) (at 8 3) ∷ [])) false (at 7 2) ∷ []))) syntax.no_initializer ∷ []))) ∷ syntax.ExternalDeclaration (syntax.SimpleDeclaration (specs (syntax.TypeSpec type.Int (at 15 6) ∷ [])) (declared (syntax.init_declarator (syntax.Named [] (name (codes "x") (at 19 7)) (suffixes [])) (syntax.an_initializer (syntax.Single (syntax.Binary op.Add (syntax.Constant (pos 1) basic.Int (at 23 9)) (syntax.Call (syntax.Identifier (name (codes "v") (at 27 11))) (syntax.exprs []) (at 28 12)) (at 25 10)))) ∷ []))) ∷ [])
