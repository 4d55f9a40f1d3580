-- C39: function or object is defined twice: units of one line, as trees.
use Rattle.std.specs.Prelude.{List, [], ◌∷◌, false, pos, codes}
use Rattle.model_grammar.specs.SyntaxForms as syntax
use Rattle.model_types.specs.declared.numbers.Basic.TheVariants as basic
use Rattle.model_grammar.specs.declared.syntax.StorageWord.TheVariants as storage
use Rattle.model_grammar.specs.declared.syntax.TypeWord.TheVariants as type
use Rattle.checking_units.specs.Parts.{at, name, specs, suffixes, parameters, declared, items, designators, block_items, span}

-- int x = 1; int x = 1;
abbrev pub c39_1 : List syntax.External
c39_1 = (syntax.ExternalDeclaration (syntax.SimpleDeclaration (specs (syntax.TypeSpec type.Int (at 1 0) ∷ [])) (declared (syntax.init_declarator (syntax.Named [] (name (codes "x") (at 5 1)) (suffixes [])) (syntax.an_initializer (syntax.Single (syntax.Constant (pos 1) basic.Int (at 9 3)))) ∷ []))) ∷ syntax.ExternalDeclaration (syntax.SimpleDeclaration (specs (syntax.TypeSpec type.Int (at 12 5) ∷ [])) (declared (syntax.init_declarator (syntax.Named [] (name (codes "x") (at 16 6)) (suffixes [])) (syntax.an_initializer (syntax.Single (syntax.Constant (pos 1) basic.Int (at 20 8)))) ∷ []))) ∷ [])

-- int f(void) { return 0; } int f(void) { return 0; }
abbrev pub c39_2 : List syntax.External
c39_2 = (syntax.FunctionDefinition (specs (syntax.TypeSpec type.Int (at 1 0) ∷ [])) (syntax.Named [] (name (codes "f") (at 5 1)) (suffixes (syntax.FunctionSuffix (parameters (syntax.parameter (specs (syntax.TypeSpec type.Void (at 7 3) ∷ [])) (syntax.Unnamed [] (suffixes [])) (at 7 3) ∷ [])) false (at 6 2) ∷ []))) (syntax.block (block_items (syntax.StatementItem (syntax.Return (syntax.an_expr (syntax.Constant (pos 0) basic.Int (at 22 7))) (at 15 6) (span (at 15 6) (at 23 8))) ∷ [])) (span (at 13 5) (at 25 9))) ∷ syntax.FunctionDefinition (specs (syntax.TypeSpec type.Int (at 27 10) ∷ [])) (syntax.Named [] (name (codes "f") (at 31 11)) (suffixes (syntax.FunctionSuffix (parameters (syntax.parameter (specs (syntax.TypeSpec type.Void (at 33 13) ∷ [])) (syntax.Unnamed [] (suffixes [])) (at 33 13) ∷ [])) false (at 32 12) ∷ []))) (syntax.block (block_items (syntax.StatementItem (syntax.Return (syntax.an_expr (syntax.Constant (pos 0) basic.Int (at 48 17))) (at 41 16) (span (at 41 16) (at 49 18))) ∷ [])) (span (at 39 15) (at 51 19))) ∷ [])

-- int x = 1; void f(void) { extern int x = 1; }
abbrev pub c39_3 : List syntax.External
c39_3 = (syntax.ExternalDeclaration (syntax.SimpleDeclaration (specs (syntax.TypeSpec type.Int (at 1 0) ∷ [])) (declared (syntax.init_declarator (syntax.Named [] (name (codes "x") (at 5 1)) (suffixes [])) (syntax.an_initializer (syntax.Single (syntax.Constant (pos 1) basic.Int (at 9 3)))) ∷ []))) ∷ syntax.FunctionDefinition (specs (syntax.TypeSpec type.Void (at 12 5) ∷ [])) (syntax.Named [] (name (codes "f") (at 17 6)) (suffixes (syntax.FunctionSuffix (parameters (syntax.parameter (specs (syntax.TypeSpec type.Void (at 19 8) ∷ [])) (syntax.Unnamed [] (suffixes [])) (at 19 8) ∷ [])) false (at 18 7) ∷ []))) (syntax.block (block_items (syntax.DeclarationItem (syntax.SimpleDeclaration (specs (syntax.StorageSpec storage.Extern (at 27 11) ∷ syntax.TypeSpec type.Int (at 34 12) ∷ [])) (declared (syntax.init_declarator (syntax.Named [] (name (codes "x") (at 38 13)) (suffixes [])) (syntax.an_initializer (syntax.Single (syntax.Constant (pos 1) basic.Int (at 42 15)))) ∷ []))) ∷ [])) (span (at 25 10) (at 45 17))) ∷ [])

-- int x = 1; int x[n] = {1};
abbrev pub c39_4 : List syntax.External
c39_4 = (syntax.ExternalDeclaration (syntax.SimpleDeclaration (specs (syntax.TypeSpec type.Int (at 1 0) ∷ [])) (declared (syntax.init_declarator (syntax.Named [] (name (codes "x") (at 5 1)) (suffixes [])) (syntax.an_initializer (syntax.Single (syntax.Constant (pos 1) basic.Int (at 9 3)))) ∷ []))) ∷ syntax.ExternalDeclaration (syntax.SimpleDeclaration (specs (syntax.TypeSpec type.Int (at 12 5) ∷ [])) (declared (syntax.init_declarator (syntax.Named [] (name (codes "x") (at 16 6)) (suffixes (syntax.ArraySuffix (syntax.an_expr (syntax.Identifier (name (codes "n") (at 18 8)))) (at 17 7) ∷ []))) (syntax.an_initializer (syntax.Braced (syntax.braces (items (syntax.item (designators []) (syntax.Single (syntax.Constant (pos 1) basic.Int (at 24 12))) ∷ [])) (at 23 11)))) ∷ []))) ∷ [])

-- int x = 1; int x = y;
abbrev pub c39_5 : List syntax.External
c39_5 = (syntax.ExternalDeclaration (syntax.SimpleDeclaration (specs (syntax.TypeSpec type.Int (at 1 0) ∷ [])) (declared (syntax.init_declarator (syntax.Named [] (name (codes "x") (at 5 1)) (suffixes [])) (syntax.an_initializer (syntax.Single (syntax.Constant (pos 1) basic.Int (at 9 3)))) ∷ []))) ∷ syntax.ExternalDeclaration (syntax.SimpleDeclaration (specs (syntax.TypeSpec type.Int (at 12 5) ∷ [])) (declared (syntax.init_declarator (syntax.Named [] (name (codes "x") (at 16 6)) (suffixes [])) (syntax.an_initializer (syntax.Single (syntax.Identifier (name (codes "y") (at 20 8))))) ∷ []))) ∷ [])
