-- C08: internal function is used and not defined: units of one line, as trees.
use Rattle.std.specs.Prelude.{List, [], ◌∷◌, false, pos, codes}
use Rattle.model_grammar.specs.SyntaxForms as syntax
use Rattle.model_types.specs.declared.numbers.Basic.TheVariants as basic
use Rattle.model_types.specs.declared.numbers.BinOp.TheVariants as op
use Rattle.model_grammar.specs.declared.syntax.StorageWord.TheVariants as storage
use Rattle.model_grammar.specs.declared.syntax.TypeWord.TheVariants as type
use Rattle.checking_units.specs.Parts.{at, name, specs, pointer, suffixes, parameters, declared, block_items, span}

-- static int f(void); int g(void) { return f(); }
abbrev pub c08_1 : List syntax.External
c08_1 = (syntax.ExternalDeclaration (syntax.SimpleDeclaration (specs (syntax.StorageSpec storage.Static (at 1 0) ∷ syntax.TypeSpec type.Int (at 8 1) ∷ [])) (declared (syntax.init_declarator (syntax.Named [] (name (codes "f") (at 12 2)) (suffixes (syntax.FunctionSuffix (parameters (syntax.parameter (specs (syntax.TypeSpec type.Void (at 14 4) ∷ [])) (syntax.Unnamed [] (suffixes [])) (at 14 4) ∷ [])) false (at 13 3) ∷ []))) syntax.no_initializer ∷ []))) ∷ syntax.FunctionDefinition (specs (syntax.TypeSpec type.Int (at 21 7) ∷ [])) (syntax.Named [] (name (codes "g") (at 25 8)) (suffixes (syntax.FunctionSuffix (parameters (syntax.parameter (specs (syntax.TypeSpec type.Void (at 27 10) ∷ [])) (syntax.Unnamed [] (suffixes [])) (at 27 10) ∷ [])) false (at 26 9) ∷ []))) (syntax.block (block_items (syntax.StatementItem (syntax.Return (syntax.an_expr (syntax.Call (syntax.Identifier (name (codes "f") (at 42 14))) (syntax.exprs []) (at 43 15))) (at 35 13) (span (at 35 13) (at 45 17))) ∷ [])) (span (at 33 12) (at 47 18))) ∷ [])

-- static int f(void); static int h(void); int g(void) { return sizeof(f()) + h() + f(); }
abbrev pub c08_2 : List syntax.External
c08_2 = (syntax.ExternalDeclaration (syntax.SimpleDeclaration (specs (syntax.StorageSpec storage.Static (at 1 0) ∷ syntax.TypeSpec type.Int (at 8 1) ∷ [])) (declared (syntax.init_declarator (syntax.Named [] (name (codes "f") (at 12 2)) (suffixes (syntax.FunctionSuffix (parameters (syntax.parameter (specs (syntax.TypeSpec type.Void (at 14 4) ∷ [])) (syntax.Unnamed [] (suffixes [])) (at 14 4) ∷ [])) false (at 13 3) ∷ []))) syntax.no_initializer ∷ []))) ∷ syntax.ExternalDeclaration (syntax.SimpleDeclaration (specs (syntax.StorageSpec storage.Static (at 21 7) ∷ syntax.TypeSpec type.Int (at 28 8) ∷ [])) (declared (syntax.init_declarator (syntax.Named [] (name (codes "h") (at 32 9)) (suffixes (syntax.FunctionSuffix (parameters (syntax.parameter (specs (syntax.TypeSpec type.Void (at 34 11) ∷ [])) (syntax.Unnamed [] (suffixes [])) (at 34 11) ∷ [])) false (at 33 10) ∷ []))) syntax.no_initializer ∷ []))) ∷ syntax.FunctionDefinition (specs (syntax.TypeSpec type.Int (at 41 14) ∷ [])) (syntax.Named [] (name (codes "g") (at 45 15)) (suffixes (syntax.FunctionSuffix (parameters (syntax.parameter (specs (syntax.TypeSpec type.Void (at 47 17) ∷ [])) (syntax.Unnamed [] (suffixes [])) (at 47 17) ∷ [])) false (at 46 16) ∷ []))) (syntax.block (block_items (syntax.StatementItem (syntax.Return (syntax.an_expr (syntax.Binary op.Add (syntax.Binary op.Add (syntax.SizeofExpr (syntax.Parenthesized (syntax.Call (syntax.Identifier (name (codes "f") (at 69 23))) (syntax.exprs []) (at 70 24)) (at 68 22)) (at 62 21)) (syntax.Call (syntax.Identifier (name (codes "h") (at 76 28))) (syntax.exprs []) (at 77 29)) (at 74 27)) (syntax.Call (syntax.Identifier (name (codes "f") (at 82 32))) (syntax.exprs []) (at 83 33)) (at 80 31))) (at 55 20) (span (at 55 20) (at 85 35))) ∷ [])) (span (at 53 19) (at 87 36))) ∷ [])

-- static int f(void); int g(void) { return f(); } int k = 1; static int h(void); int (*q)(void) = h;
abbrev pub c08_3 : List syntax.External
c08_3 = (syntax.ExternalDeclaration (syntax.SimpleDeclaration (specs (syntax.StorageSpec storage.Static (at 1 0) ∷ syntax.TypeSpec type.Int (at 8 1) ∷ [])) (declared (syntax.init_declarator (syntax.Named [] (name (codes "f") (at 12 2)) (suffixes (syntax.FunctionSuffix (parameters (syntax.parameter (specs (syntax.TypeSpec type.Void (at 14 4) ∷ [])) (syntax.Unnamed [] (suffixes [])) (at 14 4) ∷ [])) false (at 13 3) ∷ []))) syntax.no_initializer ∷ []))) ∷ syntax.FunctionDefinition (specs (syntax.TypeSpec type.Int (at 21 7) ∷ [])) (syntax.Named [] (name (codes "g") (at 25 8)) (suffixes (syntax.FunctionSuffix (parameters (syntax.parameter (specs (syntax.TypeSpec type.Void (at 27 10) ∷ [])) (syntax.Unnamed [] (suffixes [])) (at 27 10) ∷ [])) false (at 26 9) ∷ []))) (syntax.block (block_items (syntax.StatementItem (syntax.Return (syntax.an_expr (syntax.Call (syntax.Identifier (name (codes "f") (at 42 14))) (syntax.exprs []) (at 43 15))) (at 35 13) (span (at 35 13) (at 45 17))) ∷ [])) (span (at 33 12) (at 47 18))) ∷ syntax.ExternalDeclaration (syntax.SimpleDeclaration (specs (syntax.TypeSpec type.Int (at 49 19) ∷ [])) (declared (syntax.init_declarator (syntax.Named [] (name (codes "k") (at 53 20)) (suffixes [])) (syntax.an_initializer (syntax.Single (syntax.Constant (pos 1) basic.Int (at 57 22)))) ∷ []))) ∷ syntax.ExternalDeclaration (syntax.SimpleDeclaration (specs (syntax.StorageSpec storage.Static (at 60 24) ∷ syntax.TypeSpec type.Int (at 67 25) ∷ [])) (declared (syntax.init_declarator (syntax.Named [] (name (codes "h") (at 71 26)) (suffixes (syntax.FunctionSuffix (parameters (syntax.parameter (specs (syntax.TypeSpec type.Void (at 73 28) ∷ [])) (syntax.Unnamed [] (suffixes [])) (at 73 28) ∷ [])) false (at 72 27) ∷ []))) syntax.no_initializer ∷ []))) ∷ syntax.ExternalDeclaration (syntax.SimpleDeclaration (specs (syntax.TypeSpec type.Int (at 80 31) ∷ [])) (declared (syntax.init_declarator (syntax.Grouped [] (syntax.Named (pointer (at 85 33) [] ∷ []) (name (codes "q") (at 86 34)) (suffixes [])) (suffixes (syntax.FunctionSuffix (parameters (syntax.parameter (specs (syntax.TypeSpec type.Void (at 89 37) ∷ [])) (syntax.Unnamed [] (suffixes [])) (at 89 37) ∷ [])) false (at 88 36) ∷ [])) (at 84 32)) (syntax.an_initializer (syntax.Single (syntax.Identifier (name (codes "h") (at 97 40))))) ∷ []))) ∷ [])
