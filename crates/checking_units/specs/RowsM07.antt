-- M07: an object has more initial values than the limit: units of one line, as trees.
use Rattle.std.specs.Prelude.{List, [], ◌∷◌, false, pos, codes}
use Rattle.model_grammar.specs.SyntaxForms as syntax
use Rattle.model_types.specs.declared.numbers.Basic.TheVariants as basic
use Rattle.model_grammar.specs.declared.syntax.StorageWord.TheVariants as storage
use Rattle.model_grammar.specs.declared.syntax.TypeWord.TheVariants as type
use Rattle.model_grammar.specs.declared.syntax.PrefixOp.TheVariants as prefix
use Rattle.checking_units.specs.Parts.{at, name, specs, pointer, suffixes, parameters, declared, items, designators, block_items, span}

-- int main(void) { int a[65537] = {}; return 0; }
abbrev pub m07_1 : List syntax.External
m07_1 = (syntax.FunctionDefinition (specs (syntax.TypeSpec type.Int (at 1 0) ∷ [])) (syntax.Named [] (name (codes "main") (at 5 1)) (suffixes (syntax.FunctionSuffix (parameters (syntax.parameter (specs (syntax.TypeSpec type.Void (at 10 3) ∷ [])) (syntax.Unnamed [] (suffixes [])) (at 10 3) ∷ [])) false (at 9 2) ∷ []))) (syntax.block (block_items (syntax.DeclarationItem (syntax.SimpleDeclaration (specs (syntax.TypeSpec type.Int (at 18 6) ∷ [])) (declared (syntax.init_declarator (syntax.Named [] (name (codes "a") (at 22 7)) (suffixes (syntax.ArraySuffix (syntax.an_expr (syntax.Constant (pos 65537) basic.Int (at 24 9))) (at 23 8) ∷ []))) (syntax.an_initializer (syntax.Braced (syntax.braces (items []) (at 33 12)))) ∷ []))) ∷ syntax.StatementItem (syntax.Return (syntax.an_expr (syntax.Constant (pos 0) basic.Int (at 44 16))) (at 37 15) (span (at 37 15) (at 45 17))) ∷ [])) (span (at 16 5) (at 47 18))) ∷ [])

-- void g(void) { int (*p)[65537] = &(int [65537]){}; }
abbrev pub m07_2 : List syntax.External
m07_2 = (syntax.FunctionDefinition (specs (syntax.TypeSpec type.Void (at 1 0) ∷ [])) (syntax.Named [] (name (codes "g") (at 6 1)) (suffixes (syntax.FunctionSuffix (parameters (syntax.parameter (specs (syntax.TypeSpec type.Void (at 8 3) ∷ [])) (syntax.Unnamed [] (suffixes [])) (at 8 3) ∷ [])) false (at 7 2) ∷ []))) (syntax.block (block_items (syntax.DeclarationItem (syntax.SimpleDeclaration (specs (syntax.TypeSpec type.Int (at 16 6) ∷ [])) (declared (syntax.init_declarator (syntax.Grouped [] (syntax.Named (pointer (at 21 8) [] ∷ []) (name (codes "p") (at 22 9)) (suffixes [])) (suffixes (syntax.ArraySuffix (syntax.an_expr (syntax.Constant (pos 65537) basic.Int (at 25 12))) (at 24 11) ∷ [])) (at 20 7)) (syntax.an_initializer (syntax.Single (syntax.Unary prefix.Address (syntax.CompoundLiteral (syntax.type_name (specs (syntax.TypeSpec type.Int (at 36 17) ∷ [])) (syntax.Unnamed [] (suffixes (syntax.ArraySuffix (syntax.an_expr (syntax.Constant (pos 65537) basic.Int (at 41 19))) (at 40 18) ∷ [])))) (syntax.braces (items []) (at 48 22)) (at 35 16)) (at 34 15)))) ∷ []))) ∷ [])) (span (at 14 5) (at 52 25))) ∷ [])

-- void g(void) { int a[65537] = {1}; int b[65538] = {2}; }
abbrev pub m07_3 : List syntax.External
m07_3 = (syntax.FunctionDefinition (specs (syntax.TypeSpec type.Void (at 1 0) ∷ [])) (syntax.Named [] (name (codes "g") (at 6 1)) (suffixes (syntax.FunctionSuffix (parameters (syntax.parameter (specs (syntax.TypeSpec type.Void (at 8 3) ∷ [])) (syntax.Unnamed [] (suffixes [])) (at 8 3) ∷ [])) false (at 7 2) ∷ []))) (syntax.block (block_items (syntax.DeclarationItem (syntax.SimpleDeclaration (specs (syntax.TypeSpec type.Int (at 16 6) ∷ [])) (declared (syntax.init_declarator (syntax.Named [] (name (codes "a") (at 20 7)) (suffixes (syntax.ArraySuffix (syntax.an_expr (syntax.Constant (pos 65537) basic.Int (at 22 9))) (at 21 8) ∷ []))) (syntax.an_initializer (syntax.Braced (syntax.braces (items (syntax.item (designators []) (syntax.Single (syntax.Constant (pos 1) basic.Int (at 32 13))) ∷ [])) (at 31 12)))) ∷ []))) ∷ syntax.DeclarationItem (syntax.SimpleDeclaration (specs (syntax.TypeSpec type.Int (at 36 16) ∷ [])) (declared (syntax.init_declarator (syntax.Named [] (name (codes "b") (at 40 17)) (suffixes (syntax.ArraySuffix (syntax.an_expr (syntax.Constant (pos 65538) basic.Int (at 42 19))) (at 41 18) ∷ []))) (syntax.an_initializer (syntax.Braced (syntax.braces (items (syntax.item (designators []) (syntax.Single (syntax.Constant (pos 2) basic.Int (at 52 23))) ∷ [])) (at 51 22)))) ∷ []))) ∷ [])) (span (at 14 5) (at 56 26))) ∷ [])

-- int a[65537] = {1}; void g(void) { static int b[65537] = {2}; int c[65537]; c[0] = b[0]; }
abbrev pub m07_4 : List syntax.External
m07_4 = (syntax.ExternalDeclaration (syntax.SimpleDeclaration (specs (syntax.TypeSpec type.Int (at 1 0) ∷ [])) (declared (syntax.init_declarator (syntax.Named [] (name (codes "a") (at 5 1)) (suffixes (syntax.ArraySuffix (syntax.an_expr (syntax.Constant (pos 65537) basic.Int (at 7 3))) (at 6 2) ∷ []))) (syntax.an_initializer (syntax.Braced (syntax.braces (items (syntax.item (designators []) (syntax.Single (syntax.Constant (pos 1) basic.Int (at 17 7))) ∷ [])) (at 16 6)))) ∷ []))) ∷ syntax.FunctionDefinition (specs (syntax.TypeSpec type.Void (at 21 10) ∷ [])) (syntax.Named [] (name (codes "g") (at 26 11)) (suffixes (syntax.FunctionSuffix (parameters (syntax.parameter (specs (syntax.TypeSpec type.Void (at 28 13) ∷ [])) (syntax.Unnamed [] (suffixes [])) (at 28 13) ∷ [])) false (at 27 12) ∷ []))) (syntax.block (block_items (syntax.DeclarationItem (syntax.SimpleDeclaration (specs (syntax.StorageSpec storage.Static (at 36 16) ∷ syntax.TypeSpec type.Int (at 43 17) ∷ [])) (declared (syntax.init_declarator (syntax.Named [] (name (codes "b") (at 47 18)) (suffixes (syntax.ArraySuffix (syntax.an_expr (syntax.Constant (pos 65537) basic.Int (at 49 20))) (at 48 19) ∷ []))) (syntax.an_initializer (syntax.Braced (syntax.braces (items (syntax.item (designators []) (syntax.Single (syntax.Constant (pos 2) basic.Int (at 59 24))) ∷ [])) (at 58 23)))) ∷ []))) ∷ syntax.DeclarationItem (syntax.SimpleDeclaration (specs (syntax.TypeSpec type.Int (at 63 27) ∷ [])) (declared (syntax.init_declarator (syntax.Named [] (name (codes "c") (at 67 28)) (suffixes (syntax.ArraySuffix (syntax.an_expr (syntax.Constant (pos 65537) basic.Int (at 69 30))) (at 68 29) ∷ []))) syntax.no_initializer ∷ []))) ∷ syntax.StatementItem (syntax.ExpressionStatement (syntax.an_expr (syntax.Assign (syntax.Index (syntax.Identifier (name (codes "c") (at 77 33))) (syntax.Constant (pos 0) basic.Int (at 79 35)) (at 78 34)) (syntax.Index (syntax.Identifier (name (codes "b") (at 84 38))) (syntax.Constant (pos 0) basic.Int (at 86 40)) (at 85 39)) (at 82 37))) (span (at 77 33) (at 88 42))) ∷ [])) (span (at 34 15) (at 90 43))) ∷ [])
