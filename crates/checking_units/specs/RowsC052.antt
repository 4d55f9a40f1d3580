-- C05: name is not declared: units of one line, as trees.
use Rattle.std.specs.Prelude.{List, [], ◌∷◌, false, pos, codes}
use Rattle.model_grammar.specs.SyntaxForms as syntax
use Rattle.model_types.specs.declared.numbers.Basic.TheVariants as basic
use Rattle.model_types.specs.declared.numbers.BinOp.TheVariants as op
use Rattle.model_grammar.specs.declared.syntax.StorageWord.TheVariants as storage
use Rattle.model_grammar.specs.declared.syntax.TypeWord.TheVariants as type
use Rattle.checking_units.specs.Parts.{at, name, specs, suffixes, parameters, declared, items, designators, block_items, span}

-- static int f(void); int g(void) { return f() + x; }
abbrev pub c05_25 : List syntax.External
c05_25 = (syntax.ExternalDeclaration (syntax.SimpleDeclaration (specs (syntax.StorageSpec storage.Static (at 1 0) ∷ syntax.TypeSpec type.Int (at 8 1) ∷ [])) (declared (syntax.init_declarator (syntax.Named [] (name (codes "f") (at 12 2)) (suffixes (syntax.FunctionSuffix (parameters (syntax.parameter (specs (syntax.TypeSpec type.Void (at 14 4) ∷ [])) (syntax.Unnamed [] (suffixes [])) (at 14 4) ∷ [])) false (at 13 3) ∷ []))) syntax.no_initializer ∷ []))) ∷ syntax.FunctionDefinition (specs (syntax.TypeSpec type.Int (at 21 7) ∷ [])) (syntax.Named [] (name (codes "g") (at 25 8)) (suffixes (syntax.FunctionSuffix (parameters (syntax.parameter (specs (syntax.TypeSpec type.Void (at 27 10) ∷ [])) (syntax.Unnamed [] (suffixes [])) (at 27 10) ∷ [])) false (at 26 9) ∷ []))) (syntax.block (block_items (syntax.StatementItem (syntax.Return (syntax.an_expr (syntax.Binary op.Add (syntax.Call (syntax.Identifier (name (codes "f") (at 42 14))) (syntax.exprs []) (at 43 15)) (syntax.Identifier (name (codes "x") (at 48 18))) (at 46 17))) (at 35 13) (span (at 35 13) (at 49 19))) ∷ [])) (span (at 33 12) (at 51 20))) ∷ [])

-- void g(void) { int a[65537] = {1}; int b = x; }
abbrev pub c05_26 : List syntax.External
c05_26 = (syntax.FunctionDefinition (specs (syntax.TypeSpec type.Void (at 1 0) ∷ [])) (syntax.Named [] (name (codes "g") (at 6 1)) (suffixes (syntax.FunctionSuffix (parameters (syntax.parameter (specs (syntax.TypeSpec type.Void (at 8 3) ∷ [])) (syntax.Unnamed [] (suffixes [])) (at 8 3) ∷ [])) false (at 7 2) ∷ []))) (syntax.block (block_items (syntax.DeclarationItem (syntax.SimpleDeclaration (specs (syntax.TypeSpec type.Int (at 16 6) ∷ [])) (declared (syntax.init_declarator (syntax.Named [] (name (codes "a") (at 20 7)) (suffixes (syntax.ArraySuffix (syntax.an_expr (syntax.Constant (pos 65537) basic.Int (at 22 9))) (at 21 8) ∷ []))) (syntax.an_initializer (syntax.Braced (syntax.braces (items (syntax.item (designators []) (syntax.Single (syntax.Constant (pos 1) basic.Int (at 32 13))) ∷ [])) (at 31 12)))) ∷ []))) ∷ syntax.DeclarationItem (syntax.SimpleDeclaration (specs (syntax.TypeSpec type.Int (at 36 16) ∷ [])) (declared (syntax.init_declarator (syntax.Named [] (name (codes "b") (at 40 17)) (suffixes [])) (syntax.an_initializer (syntax.Single (syntax.Identifier (name (codes "x") (at 44 19))))) ∷ []))) ∷ [])) (span (at 14 5) (at 47 21))) ∷ [])

-- int a[1] = { 1, y };
abbrev pub c05_27 : List syntax.External
c05_27 = (syntax.ExternalDeclaration (syntax.SimpleDeclaration (specs (syntax.TypeSpec type.Int (at 1 0) ∷ [])) (declared (syntax.init_declarator (syntax.Named [] (name (codes "a") (at 5 1)) (suffixes (syntax.ArraySuffix (syntax.an_expr (syntax.Constant (pos 1) basic.Int (at 7 3))) (at 6 2) ∷ []))) (syntax.an_initializer (syntax.Braced (syntax.braces (items (syntax.item (designators []) (syntax.Single (syntax.Constant (pos 1) basic.Int (at 14 7))) ∷ syntax.item (designators []) (syntax.Single (syntax.Identifier (name (codes "y") (at 17 9)))) ∷ [])) (at 12 6)))) ∷ []))) ∷ [])

-- int a[2] = y;
abbrev pub c05_28 : List syntax.External
c05_28 = (syntax.ExternalDeclaration (syntax.SimpleDeclaration (specs (syntax.TypeSpec type.Int (at 1 0) ∷ [])) (declared (syntax.init_declarator (syntax.Named [] (name (codes "a") (at 5 1)) (suffixes (syntax.ArraySuffix (syntax.an_expr (syntax.Constant (pos 2) basic.Int (at 7 3))) (at 6 2) ∷ []))) (syntax.an_initializer (syntax.Single (syntax.Identifier (name (codes "y") (at 12 6))))) ∷ []))) ∷ [])

-- void g(void) { if (y) ; }
abbrev pub c05_29 : List syntax.External
c05_29 = (syntax.FunctionDefinition (specs (syntax.TypeSpec type.Void (at 1 0) ∷ [])) (syntax.Named [] (name (codes "g") (at 6 1)) (suffixes (syntax.FunctionSuffix (parameters (syntax.parameter (specs (syntax.TypeSpec type.Void (at 8 3) ∷ [])) (syntax.Unnamed [] (suffixes [])) (at 8 3) ∷ [])) false (at 7 2) ∷ []))) (syntax.block (block_items (syntax.StatementItem (syntax.If syntax.no_declaration (syntax.Identifier (name (codes "y") (at 20 8))) (syntax.ExpressionStatement syntax.no_expr (span (at 23 10) (at 23 10))) syntax.no_statement (span (at 16 6) (at 23 10))) ∷ [])) (span (at 14 5) (at 25 11))) ∷ [])
