-- C26: function literal names an automatic object of its surroundings: units of one line, as trees.
use Rattle.std.specs.Prelude.{List, [], ◌∷◌, false, pos, codes}
use Rattle.model_grammar.specs.SyntaxForms as syntax
use Rattle.model_types.specs.declared.numbers.Basic.TheVariants as basic
use Rattle.model_types.specs.declared.numbers.BinOp.TheVariants as op
use Rattle.model_grammar.specs.declared.syntax.StorageWord.TheVariants as storage
use Rattle.model_grammar.specs.declared.syntax.TypeWord.TheVariants as type
use Rattle.checking_units.specs.Parts.{at, name, specs, suffixes, parameters, declared, block_items, span}

-- void g(void) { int x; (int (void)) { return x; }; }
abbrev pub c26_1 : List syntax.External
c26_1 = (syntax.FunctionDefinition (specs (syntax.TypeSpec type.Void (at 1 0) ∷ [])) (syntax.Named [] (name (codes "g") (at 6 1)) (suffixes (syntax.FunctionSuffix (parameters (syntax.parameter (specs (syntax.TypeSpec type.Void (at 8 3) ∷ [])) (syntax.Unnamed [] (suffixes [])) (at 8 3) ∷ [])) false (at 7 2) ∷ []))) (syntax.block (block_items (syntax.DeclarationItem (syntax.SimpleDeclaration (specs (syntax.TypeSpec type.Int (at 16 6) ∷ [])) (declared (syntax.init_declarator (syntax.Named [] (name (codes "x") (at 20 7)) (suffixes [])) syntax.no_initializer ∷ []))) ∷ syntax.StatementItem (syntax.ExpressionStatement (syntax.an_expr (syntax.FunctionLiteral (syntax.type_name (specs (syntax.TypeSpec type.Int (at 24 10) ∷ [])) (syntax.Unnamed [] (suffixes (syntax.FunctionSuffix (parameters (syntax.parameter (specs (syntax.TypeSpec type.Void (at 29 12) ∷ [])) (syntax.Unnamed [] (suffixes [])) (at 29 12) ∷ [])) false (at 28 11) ∷ [])))) (syntax.block (block_items (syntax.StatementItem (syntax.Return (syntax.an_expr (syntax.Identifier (name (codes "x") (at 45 17)))) (at 38 16) (span (at 38 16) (at 46 18))) ∷ [])) (span (at 36 15) (at 48 19))) (at 23 9))) (span (at 23 9) (at 49 20))) ∷ [])) (span (at 14 5) (at 51 21))) ∷ [])

-- void g(void) { constexpr int x = 1; (int (void)) { return x; }; }
abbrev pub c26_2 : List syntax.External
c26_2 = (syntax.FunctionDefinition (specs (syntax.TypeSpec type.Void (at 1 0) ∷ [])) (syntax.Named [] (name (codes "g") (at 6 1)) (suffixes (syntax.FunctionSuffix (parameters (syntax.parameter (specs (syntax.TypeSpec type.Void (at 8 3) ∷ [])) (syntax.Unnamed [] (suffixes [])) (at 8 3) ∷ [])) false (at 7 2) ∷ []))) (syntax.block (block_items (syntax.DeclarationItem (syntax.SimpleDeclaration (specs (syntax.StorageSpec storage.Constexpr (at 16 6) ∷ syntax.TypeSpec type.Int (at 26 7) ∷ [])) (declared (syntax.init_declarator (syntax.Named [] (name (codes "x") (at 30 8)) (suffixes [])) (syntax.an_initializer (syntax.Single (syntax.Constant (pos 1) basic.Int (at 34 10)))) ∷ []))) ∷ syntax.StatementItem (syntax.ExpressionStatement (syntax.an_expr (syntax.FunctionLiteral (syntax.type_name (specs (syntax.TypeSpec type.Int (at 38 13) ∷ [])) (syntax.Unnamed [] (suffixes (syntax.FunctionSuffix (parameters (syntax.parameter (specs (syntax.TypeSpec type.Void (at 43 15) ∷ [])) (syntax.Unnamed [] (suffixes [])) (at 43 15) ∷ [])) false (at 42 14) ∷ [])))) (syntax.block (block_items (syntax.StatementItem (syntax.Return (syntax.an_expr (syntax.Identifier (name (codes "x") (at 59 20)))) (at 52 19) (span (at 52 19) (at 60 21))) ∷ [])) (span (at 50 18) (at 62 22))) (at 37 12))) (span (at 37 12) (at 63 23))) ∷ [])) (span (at 14 5) (at 65 24))) ∷ [])

-- void g(void) { int x = 1; unsigned long n = sizeof((int (void)) { return x; }()); }
abbrev pub c26_3 : List syntax.External
c26_3 = (syntax.FunctionDefinition (specs (syntax.TypeSpec type.Void (at 1 0) ∷ [])) (syntax.Named [] (name (codes "g") (at 6 1)) (suffixes (syntax.FunctionSuffix (parameters (syntax.parameter (specs (syntax.TypeSpec type.Void (at 8 3) ∷ [])) (syntax.Unnamed [] (suffixes [])) (at 8 3) ∷ [])) false (at 7 2) ∷ []))) (syntax.block (block_items (syntax.DeclarationItem (syntax.SimpleDeclaration (specs (syntax.TypeSpec type.Int (at 16 6) ∷ [])) (declared (syntax.init_declarator (syntax.Named [] (name (codes "x") (at 20 7)) (suffixes [])) (syntax.an_initializer (syntax.Single (syntax.Constant (pos 1) basic.Int (at 24 9)))) ∷ []))) ∷ syntax.DeclarationItem (syntax.SimpleDeclaration (specs (syntax.TypeSpec type.Unsigned (at 27 11) ∷ syntax.TypeSpec type.Long (at 36 12) ∷ [])) (declared (syntax.init_declarator (syntax.Named [] (name (codes "n") (at 41 13)) (suffixes [])) (syntax.an_initializer (syntax.Single (syntax.SizeofExpr (syntax.Parenthesized (syntax.Call (syntax.FunctionLiteral (syntax.type_name (specs (syntax.TypeSpec type.Int (at 53 18) ∷ [])) (syntax.Unnamed [] (suffixes (syntax.FunctionSuffix (parameters (syntax.parameter (specs (syntax.TypeSpec type.Void (at 58 20) ∷ [])) (syntax.Unnamed [] (suffixes [])) (at 58 20) ∷ [])) false (at 57 19) ∷ [])))) (syntax.block (block_items (syntax.StatementItem (syntax.Return (syntax.an_expr (syntax.Identifier (name (codes "x") (at 74 25)))) (at 67 24) (span (at 67 24) (at 75 26))) ∷ [])) (span (at 65 23) (at 77 27))) (at 52 17)) (syntax.exprs []) (at 78 28)) (at 51 16)) (at 45 15)))) ∷ []))) ∷ [])) (span (at 14 5) (at 83 32))) ∷ [])

-- int g(int n) { return ((int (void)) { return n; })(); }
abbrev pub c26_4 : List syntax.External
c26_4 = (syntax.FunctionDefinition (specs (syntax.TypeSpec type.Int (at 1 0) ∷ [])) (syntax.Named [] (name (codes "g") (at 5 1)) (suffixes (syntax.FunctionSuffix (parameters (syntax.parameter (specs (syntax.TypeSpec type.Int (at 7 3) ∷ [])) (syntax.Named [] (name (codes "n") (at 11 4)) (suffixes [])) (at 7 3) ∷ [])) false (at 6 2) ∷ []))) (syntax.block (block_items (syntax.StatementItem (syntax.Return (syntax.an_expr (syntax.Call (syntax.Parenthesized (syntax.FunctionLiteral (syntax.type_name (specs (syntax.TypeSpec type.Int (at 25 10) ∷ [])) (syntax.Unnamed [] (suffixes (syntax.FunctionSuffix (parameters (syntax.parameter (specs (syntax.TypeSpec type.Void (at 30 12) ∷ [])) (syntax.Unnamed [] (suffixes [])) (at 30 12) ∷ [])) false (at 29 11) ∷ [])))) (syntax.block (block_items (syntax.StatementItem (syntax.Return (syntax.an_expr (syntax.Identifier (name (codes "n") (at 46 17)))) (at 39 16) (span (at 39 16) (at 47 18))) ∷ [])) (span (at 37 15) (at 49 19))) (at 24 9)) (at 23 8)) (syntax.exprs []) (at 51 21))) (at 16 7) (span (at 16 7) (at 53 23))) ∷ [])) (span (at 14 6) (at 55 24))) ∷ [])

-- int g(void) { static int n; constexpr int c = 3; return ((int (void)) { return n + c; })(); }
abbrev pub c26_5 : List syntax.External
c26_5 = (syntax.FunctionDefinition (specs (syntax.TypeSpec type.Int (at 1 0) ∷ [])) (syntax.Named [] (name (codes "g") (at 5 1)) (suffixes (syntax.FunctionSuffix (parameters (syntax.parameter (specs (syntax.TypeSpec type.Void (at 7 3) ∷ [])) (syntax.Unnamed [] (suffixes [])) (at 7 3) ∷ [])) false (at 6 2) ∷ []))) (syntax.block (block_items (syntax.DeclarationItem (syntax.SimpleDeclaration (specs (syntax.StorageSpec storage.Static (at 15 6) ∷ syntax.TypeSpec type.Int (at 22 7) ∷ [])) (declared (syntax.init_declarator (syntax.Named [] (name (codes "n") (at 26 8)) (suffixes [])) syntax.no_initializer ∷ []))) ∷ syntax.DeclarationItem (syntax.SimpleDeclaration (specs (syntax.StorageSpec storage.Constexpr (at 29 10) ∷ syntax.TypeSpec type.Int (at 39 11) ∷ [])) (declared (syntax.init_declarator (syntax.Named [] (name (codes "c") (at 43 12)) (suffixes [])) (syntax.an_initializer (syntax.Single (syntax.Constant (pos 3) basic.Int (at 47 14)))) ∷ []))) ∷ syntax.StatementItem (syntax.Return (syntax.an_expr (syntax.Call (syntax.Parenthesized (syntax.FunctionLiteral (syntax.type_name (specs (syntax.TypeSpec type.Int (at 59 19) ∷ [])) (syntax.Unnamed [] (suffixes (syntax.FunctionSuffix (parameters (syntax.parameter (specs (syntax.TypeSpec type.Void (at 64 21) ∷ [])) (syntax.Unnamed [] (suffixes [])) (at 64 21) ∷ [])) false (at 63 20) ∷ [])))) (syntax.block (block_items (syntax.StatementItem (syntax.Return (syntax.an_expr (syntax.Binary op.Add (syntax.Identifier (name (codes "n") (at 80 26))) (syntax.Identifier (name (codes "c") (at 84 28))) (at 82 27))) (at 73 25) (span (at 73 25) (at 85 29))) ∷ [])) (span (at 71 24) (at 87 30))) (at 58 18)) (at 57 17)) (syntax.exprs []) (at 89 32))) (at 50 16) (span (at 50 16) (at 91 34))) ∷ [])) (span (at 13 5) (at 93 35))) ∷ [])
