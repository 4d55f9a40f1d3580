-- function literals in expressions: units of one line, as trees.
use Rattle.std.specs.Prelude.{List, [], ◌∷◌, false, pos, codes}
use Rattle.model_grammar.specs.SyntaxForms as syntax
use Rattle.model_types.specs.declared.numbers.Basic.TheVariants as basic
use Rattle.model_types.specs.declared.numbers.BinOp.TheVariants as op
use Rattle.model_grammar.specs.declared.syntax.StorageWord.TheVariants as storage
use Rattle.model_grammar.specs.declared.syntax.TypeWord.TheVariants as type
use Rattle.model_grammar.specs.declared.syntax.PrefixOp.TheVariants as prefix
use Rattle.checking_units.specs.Parts.{at, name, specs, pointer, suffixes, parameters, declared, block_items, span}

-- void g(void) { auto f = (int (int n)) { return n; }; f(&f); }
abbrev pub function_literals_in_expressions_1 : List syntax.External
function_literals_in_expressions_1 = (syntax.FunctionDefinition (specs (syntax.TypeSpec type.Void (at 1 0) ∷ [])) (syntax.Named [] (name (codes "g") (at 6 1)) (suffixes (syntax.FunctionSuffix (parameters (syntax.parameter (specs (syntax.TypeSpec type.Void (at 8 3) ∷ [])) (syntax.Unnamed [] (suffixes [])) (at 8 3) ∷ [])) false (at 7 2) ∷ []))) (syntax.block (block_items (syntax.DeclarationItem (syntax.SimpleDeclaration (specs (syntax.StorageSpec storage.Auto (at 16 6) ∷ [])) (declared (syntax.init_declarator (syntax.Named [] (name (codes "f") (at 21 7)) (suffixes [])) (syntax.an_initializer (syntax.Single (syntax.FunctionLiteral (syntax.type_name (specs (syntax.TypeSpec type.Int (at 26 10) ∷ [])) (syntax.Unnamed [] (suffixes (syntax.FunctionSuffix (parameters (syntax.parameter (specs (syntax.TypeSpec type.Int (at 31 12) ∷ [])) (syntax.Named [] (name (codes "n") (at 35 13)) (suffixes [])) (at 31 12) ∷ [])) false (at 30 11) ∷ [])))) (syntax.block (block_items (syntax.StatementItem (syntax.Return (syntax.an_expr (syntax.Identifier (name (codes "n") (at 48 18)))) (at 41 17) (span (at 41 17) (at 49 19))) ∷ [])) (span (at 39 16) (at 51 20))) (at 25 9)))) ∷ []))) ∷ syntax.StatementItem (syntax.ExpressionStatement (syntax.an_expr (syntax.Call (syntax.Identifier (name (codes "f") (at 54 22))) (syntax.exprs ((syntax.Unary prefix.Address (syntax.Identifier (name (codes "f") (at 57 25))) (at 56 24)) ∷ [])) (at 55 23))) (span (at 54 22) (at 59 27))) ∷ [])) (span (at 14 5) (at 61 28))) ∷ [])

-- int (*p)(int) = (int (int n)) { return n < 2 ? n : 1; }; void g(void) { (int (void)) { return 1; }(); (void (void)) { }(); }
abbrev pub function_literals_in_expressions_2 : List syntax.External
function_literals_in_expressions_2 = (syntax.ExternalDeclaration (syntax.SimpleDeclaration (specs (syntax.TypeSpec type.Int (at 1 0) ∷ [])) (declared (syntax.init_declarator (syntax.Grouped [] (syntax.Named (pointer (at 6 2) [] ∷ []) (name (codes "p") (at 7 3)) (suffixes [])) (suffixes (syntax.FunctionSuffix (parameters (syntax.parameter (specs (syntax.TypeSpec type.Int (at 10 6) ∷ [])) (syntax.Unnamed [] (suffixes [])) (at 10 6) ∷ [])) false (at 9 5) ∷ [])) (at 5 1)) (syntax.an_initializer (syntax.Single (syntax.FunctionLiteral (syntax.type_name (specs (syntax.TypeSpec type.Int (at 18 10) ∷ [])) (syntax.Unnamed [] (suffixes (syntax.FunctionSuffix (parameters (syntax.parameter (specs (syntax.TypeSpec type.Int (at 23 12) ∷ [])) (syntax.Named [] (name (codes "n") (at 27 13)) (suffixes [])) (at 23 12) ∷ [])) false (at 22 11) ∷ [])))) (syntax.block (block_items (syntax.StatementItem (syntax.Return (syntax.an_expr (syntax.Conditional (syntax.Binary op.Less (syntax.Identifier (name (codes "n") (at 40 18))) (syntax.Constant (pos 2) basic.Int (at 44 20)) (at 42 19)) (syntax.Identifier (name (codes "n") (at 48 22))) (syntax.Constant (pos 1) basic.Int (at 52 24)) (at 46 21))) (at 33 17) (span (at 33 17) (at 53 25))) ∷ [])) (span (at 31 16) (at 55 26))) (at 17 9)))) ∷ []))) ∷ syntax.FunctionDefinition (specs (syntax.TypeSpec type.Void (at 58 28) ∷ [])) (syntax.Named [] (name (codes "g") (at 63 29)) (suffixes (syntax.FunctionSuffix (parameters (syntax.parameter (specs (syntax.TypeSpec type.Void (at 65 31) ∷ [])) (syntax.Unnamed [] (suffixes [])) (at 65 31) ∷ [])) false (at 64 30) ∷ []))) (syntax.block (block_items (syntax.StatementItem (syntax.ExpressionStatement (syntax.an_expr (syntax.Call (syntax.FunctionLiteral (syntax.type_name (specs (syntax.TypeSpec type.Int (at 74 35) ∷ [])) (syntax.Unnamed [] (suffixes (syntax.FunctionSuffix (parameters (syntax.parameter (specs (syntax.TypeSpec type.Void (at 79 37) ∷ [])) (syntax.Unnamed [] (suffixes [])) (at 79 37) ∷ [])) false (at 78 36) ∷ [])))) (syntax.block (block_items (syntax.StatementItem (syntax.Return (syntax.an_expr (syntax.Constant (pos 1) basic.Int (at 95 42))) (at 88 41) (span (at 88 41) (at 96 43))) ∷ [])) (span (at 86 40) (at 98 44))) (at 73 34)) (syntax.exprs []) (at 99 45))) (span (at 73 34) (at 101 47))) ∷ syntax.StatementItem (syntax.ExpressionStatement (syntax.an_expr (syntax.Call (syntax.FunctionLiteral (syntax.type_name (specs (syntax.TypeSpec type.Void (at 104 49) ∷ [])) (syntax.Unnamed [] (suffixes (syntax.FunctionSuffix (parameters (syntax.parameter (specs (syntax.TypeSpec type.Void (at 110 51) ∷ [])) (syntax.Unnamed [] (suffixes [])) (at 110 51) ∷ [])) false (at 109 50) ∷ [])))) (syntax.block (block_items []) (span (at 117 54) (at 119 55))) (at 103 48)) (syntax.exprs []) (at 120 56))) (span (at 103 48) (at 122 58))) ∷ [])) (span (at 71 33) (at 124 59))) ∷ [])

-- void g(void) { int y = (int (void)) { return; }(); }
abbrev pub function_literals_in_expressions_3 : List syntax.External
function_literals_in_expressions_3 = (syntax.FunctionDefinition (specs (syntax.TypeSpec type.Void (at 1 0) ∷ [])) (syntax.Named [] (name (codes "g") (at 6 1)) (suffixes (syntax.FunctionSuffix (parameters (syntax.parameter (specs (syntax.TypeSpec type.Void (at 8 3) ∷ [])) (syntax.Unnamed [] (suffixes [])) (at 8 3) ∷ [])) false (at 7 2) ∷ []))) (syntax.block (block_items (syntax.DeclarationItem (syntax.SimpleDeclaration (specs (syntax.TypeSpec type.Int (at 16 6) ∷ [])) (declared (syntax.init_declarator (syntax.Named [] (name (codes "y") (at 20 7)) (suffixes [])) (syntax.an_initializer (syntax.Single (syntax.Call (syntax.FunctionLiteral (syntax.type_name (specs (syntax.TypeSpec type.Int (at 25 10) ∷ [])) (syntax.Unnamed [] (suffixes (syntax.FunctionSuffix (parameters (syntax.parameter (specs (syntax.TypeSpec type.Void (at 30 12) ∷ [])) (syntax.Unnamed [] (suffixes [])) (at 30 12) ∷ [])) false (at 29 11) ∷ [])))) (syntax.block (block_items (syntax.StatementItem (syntax.Return syntax.no_expr (at 39 16) (span (at 39 16) (at 45 17))) ∷ [])) (span (at 37 15) (at 47 18))) (at 24 9)) (syntax.exprs []) (at 48 19)))) ∷ []))) ∷ [])) (span (at 14 5) (at 52 22))) ∷ [])

-- int f(int n) { return (int (int n)) { return n; }(n); }
abbrev pub function_literals_in_expressions_4 : List syntax.External
function_literals_in_expressions_4 = (syntax.FunctionDefinition (specs (syntax.TypeSpec type.Int (at 1 0) ∷ [])) (syntax.Named [] (name (codes "f") (at 5 1)) (suffixes (syntax.FunctionSuffix (parameters (syntax.parameter (specs (syntax.TypeSpec type.Int (at 7 3) ∷ [])) (syntax.Named [] (name (codes "n") (at 11 4)) (suffixes [])) (at 7 3) ∷ [])) false (at 6 2) ∷ []))) (syntax.block (block_items (syntax.StatementItem (syntax.Return (syntax.an_expr (syntax.Call (syntax.FunctionLiteral (syntax.type_name (specs (syntax.TypeSpec type.Int (at 24 9) ∷ [])) (syntax.Unnamed [] (suffixes (syntax.FunctionSuffix (parameters (syntax.parameter (specs (syntax.TypeSpec type.Int (at 29 11) ∷ [])) (syntax.Named [] (name (codes "n") (at 33 12)) (suffixes [])) (at 29 11) ∷ [])) false (at 28 10) ∷ [])))) (syntax.block (block_items (syntax.StatementItem (syntax.Return (syntax.an_expr (syntax.Identifier (name (codes "n") (at 46 17)))) (at 39 16) (span (at 39 16) (at 47 18))) ∷ [])) (span (at 37 15) (at 49 19))) (at 23 8)) (syntax.exprs ((syntax.Identifier (name (codes "n") (at 51 21))) ∷ [])) (at 50 20))) (at 16 7) (span (at 16 7) (at 53 23))) ∷ [])) (span (at 14 6) (at 55 24))) ∷ [])

-- void g(void) { for (;;) { (void (void)) { break; }; } }
abbrev pub function_literals_in_expressions_5 : List syntax.External
function_literals_in_expressions_5 = (syntax.FunctionDefinition (specs (syntax.TypeSpec type.Void (at 1 0) ∷ [])) (syntax.Named [] (name (codes "g") (at 6 1)) (suffixes (syntax.FunctionSuffix (parameters (syntax.parameter (specs (syntax.TypeSpec type.Void (at 8 3) ∷ [])) (syntax.Unnamed [] (suffixes [])) (at 8 3) ∷ [])) false (at 7 2) ∷ []))) (syntax.block (block_items (syntax.StatementItem (syntax.For syntax.no_expr syntax.no_expr syntax.no_expr (syntax.CompoundStatement (syntax.block (block_items (syntax.StatementItem (syntax.ExpressionStatement (syntax.an_expr (syntax.FunctionLiteral (syntax.type_name (specs (syntax.TypeSpec type.Void (at 28 13) ∷ [])) (syntax.Unnamed [] (suffixes (syntax.FunctionSuffix (parameters (syntax.parameter (specs (syntax.TypeSpec type.Void (at 34 15) ∷ [])) (syntax.Unnamed [] (suffixes [])) (at 34 15) ∷ [])) false (at 33 14) ∷ [])))) (syntax.block (block_items (syntax.StatementItem (syntax.Break (at 43 19) (span (at 43 19) (at 48 20))) ∷ [])) (span (at 41 18) (at 50 21))) (at 27 12))) (span (at 27 12) (at 51 22))) ∷ [])) (span (at 25 11) (at 53 23))) (span (at 25 11) (at 53 23))) (span (at 16 6) (at 53 23))) ∷ [])) (span (at 14 5) (at 55 24))) ∷ [])

-- void g(int x) { switch (x) { case 1: (void (int y)) { case 2: ; }; } }
abbrev pub function_literals_in_expressions_6 : List syntax.External
function_literals_in_expressions_6 = (syntax.FunctionDefinition (specs (syntax.TypeSpec type.Void (at 1 0) ∷ [])) (syntax.Named [] (name (codes "g") (at 6 1)) (suffixes (syntax.FunctionSuffix (parameters (syntax.parameter (specs (syntax.TypeSpec type.Int (at 8 3) ∷ [])) (syntax.Named [] (name (codes "x") (at 12 4)) (suffixes [])) (at 8 3) ∷ [])) false (at 7 2) ∷ []))) (syntax.block (block_items (syntax.StatementItem (syntax.Switch (syntax.Identifier (name (codes "x") (at 25 9))) (syntax.CompoundStatement (syntax.block (block_items (syntax.CaseLabel (syntax.Constant (pos 1) basic.Int (at 35 13)) (at 30 12) ∷ syntax.StatementItem (syntax.ExpressionStatement (syntax.an_expr (syntax.FunctionLiteral (syntax.type_name (specs (syntax.TypeSpec type.Void (at 39 16) ∷ [])) (syntax.Unnamed [] (suffixes (syntax.FunctionSuffix (parameters (syntax.parameter (specs (syntax.TypeSpec type.Int (at 45 18) ∷ [])) (syntax.Named [] (name (codes "y") (at 49 19)) (suffixes [])) (at 45 18) ∷ [])) false (at 44 17) ∷ [])))) (syntax.block (block_items (syntax.CaseLabel (syntax.Constant (pos 2) basic.Int (at 60 24)) (at 55 23) ∷ syntax.StatementItem (syntax.ExpressionStatement syntax.no_expr (span (at 63 26) (at 63 26))) ∷ [])) (span (at 53 22) (at 65 27))) (at 38 15))) (span (at 38 15) (at 66 28))) ∷ [])) (span (at 28 11) (at 68 29))) (span (at 28 11) (at 68 29))) (span (at 17 7) (at 68 29))) ∷ [])) (span (at 15 6) (at 70 30))) ∷ [])

-- void g(void) { (int (void)) { return 1; } = 0; }
abbrev pub function_literals_in_expressions_7 : List syntax.External
function_literals_in_expressions_7 = (syntax.FunctionDefinition (specs (syntax.TypeSpec type.Void (at 1 0) ∷ [])) (syntax.Named [] (name (codes "g") (at 6 1)) (suffixes (syntax.FunctionSuffix (parameters (syntax.parameter (specs (syntax.TypeSpec type.Void (at 8 3) ∷ [])) (syntax.Unnamed [] (suffixes [])) (at 8 3) ∷ [])) false (at 7 2) ∷ []))) (syntax.block (block_items (syntax.StatementItem (syntax.ExpressionStatement (syntax.an_expr (syntax.Assign (syntax.FunctionLiteral (syntax.type_name (specs (syntax.TypeSpec type.Int (at 17 7) ∷ [])) (syntax.Unnamed [] (suffixes (syntax.FunctionSuffix (parameters (syntax.parameter (specs (syntax.TypeSpec type.Void (at 22 9) ∷ [])) (syntax.Unnamed [] (suffixes [])) (at 22 9) ∷ [])) false (at 21 8) ∷ [])))) (syntax.block (block_items (syntax.StatementItem (syntax.Return (syntax.an_expr (syntax.Constant (pos 1) basic.Int (at 38 14))) (at 31 13) (span (at 31 13) (at 39 15))) ∷ [])) (span (at 29 12) (at 41 16))) (at 16 6)) (syntax.Constant (pos 0) basic.Int (at 45 18)) (at 43 17))) (span (at 16 6) (at 46 19))) ∷ [])) (span (at 14 5) (at 48 20))) ∷ [])

-- void f(void); void g(void) { *f = 0; }
abbrev pub function_literals_in_expressions_8 : List syntax.External
function_literals_in_expressions_8 = (syntax.ExternalDeclaration (syntax.SimpleDeclaration (specs (syntax.TypeSpec type.Void (at 1 0) ∷ [])) (declared (syntax.init_declarator (syntax.Named [] (name (codes "f") (at 6 1)) (suffixes (syntax.FunctionSuffix (parameters (syntax.parameter (specs (syntax.TypeSpec type.Void (at 8 3) ∷ [])) (syntax.Unnamed [] (suffixes [])) (at 8 3) ∷ [])) false (at 7 2) ∷ []))) syntax.no_initializer ∷ []))) ∷ syntax.FunctionDefinition (specs (syntax.TypeSpec type.Void (at 15 6) ∷ [])) (syntax.Named [] (name (codes "g") (at 20 7)) (suffixes (syntax.FunctionSuffix (parameters (syntax.parameter (specs (syntax.TypeSpec type.Void (at 22 9) ∷ [])) (syntax.Unnamed [] (suffixes [])) (at 22 9) ∷ [])) false (at 21 8) ∷ []))) (syntax.block (block_items (syntax.StatementItem (syntax.ExpressionStatement (syntax.an_expr (syntax.Assign (syntax.Unary prefix.Indirection (syntax.Identifier (name (codes "f") (at 31 13))) (at 30 12)) (syntax.Constant (pos 0) basic.Int (at 35 15)) (at 33 14))) (span (at 30 12) (at 36 16))) ∷ [])) (span (at 28 11) (at 38 17))) ∷ [])

-- void g(void) { (int (int a)) { int a; return 0; }; }
abbrev pub function_literals_in_expressions_9 : List syntax.External
function_literals_in_expressions_9 = (syntax.FunctionDefinition (specs (syntax.TypeSpec type.Void (at 1 0) ∷ [])) (syntax.Named [] (name (codes "g") (at 6 1)) (suffixes (syntax.FunctionSuffix (parameters (syntax.parameter (specs (syntax.TypeSpec type.Void (at 8 3) ∷ [])) (syntax.Unnamed [] (suffixes [])) (at 8 3) ∷ [])) false (at 7 2) ∷ []))) (syntax.block (block_items (syntax.StatementItem (syntax.ExpressionStatement (syntax.an_expr (syntax.FunctionLiteral (syntax.type_name (specs (syntax.TypeSpec type.Int (at 17 7) ∷ [])) (syntax.Unnamed [] (suffixes (syntax.FunctionSuffix (parameters (syntax.parameter (specs (syntax.TypeSpec type.Int (at 22 9) ∷ [])) (syntax.Named [] (name (codes "a") (at 26 10)) (suffixes [])) (at 22 9) ∷ [])) false (at 21 8) ∷ [])))) (syntax.block (block_items (syntax.DeclarationItem (syntax.SimpleDeclaration (specs (syntax.TypeSpec type.Int (at 32 14) ∷ [])) (declared (syntax.init_declarator (syntax.Named [] (name (codes "a") (at 36 15)) (suffixes [])) syntax.no_initializer ∷ []))) ∷ syntax.StatementItem (syntax.Return (syntax.an_expr (syntax.Constant (pos 0) basic.Int (at 46 18))) (at 39 17) (span (at 39 17) (at 47 19))) ∷ [])) (span (at 30 13) (at 49 20))) (at 16 6))) (span (at 16 6) (at 50 21))) ∷ [])) (span (at 14 5) (at 52 22))) ∷ [])
