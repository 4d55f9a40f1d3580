-- C07: built-in function is defined or declared otherwise: units of one line, as trees.
use Rattle.std.specs.Prelude.{List, [], ◌∷◌, false, codes}
use Rattle.model_grammar.specs.SyntaxForms as syntax
use Rattle.model_grammar.specs.declared.syntax.StorageWord.TheVariants as storage
use Rattle.model_grammar.specs.declared.syntax.TypeWord.TheVariants as type
use Rattle.checking_units.specs.Parts.{at, name, specs, pointer, suffixes, parameters, declared, block_items, span}

-- int exit;
abbrev pub c07_1 : List syntax.External
c07_1 = (syntax.ExternalDeclaration (syntax.SimpleDeclaration (specs (syntax.TypeSpec type.Int (at 1 0) ∷ [])) (declared (syntax.init_declarator (syntax.Named [] (name (codes "exit") (at 5 1)) (suffixes [])) syntax.no_initializer ∷ []))) ∷ [])

-- static void exit(int);
abbrev pub c07_2 : List syntax.External
c07_2 = (syntax.ExternalDeclaration (syntax.SimpleDeclaration (specs (syntax.StorageSpec storage.Static (at 1 0) ∷ syntax.TypeSpec type.Void (at 8 1) ∷ [])) (declared (syntax.init_declarator (syntax.Named [] (name (codes "exit") (at 13 2)) (suffixes (syntax.FunctionSuffix (parameters (syntax.parameter (specs (syntax.TypeSpec type.Int (at 18 4) ∷ [])) (syntax.Unnamed [] (suffixes [])) (at 18 4) ∷ [])) false (at 17 3) ∷ []))) syntax.no_initializer ∷ []))) ∷ [])

-- void free(void *p);
abbrev pub c07_3 : List syntax.External
c07_3 = (syntax.ExternalDeclaration (syntax.SimpleDeclaration (specs (syntax.TypeSpec type.Void (at 1 0) ∷ [])) (declared (syntax.init_declarator (syntax.Named [] (name (codes "free") (at 6 1)) (suffixes (syntax.FunctionSuffix (parameters (syntax.parameter (specs (syntax.TypeSpec type.Void (at 11 3) ∷ [])) (syntax.Named (pointer (at 16 4) [] ∷ []) (name (codes "p") (at 17 5)) (suffixes [])) (at 11 3) ∷ [])) false (at 10 2) ∷ []))) syntax.no_initializer ∷ []))) ∷ [])

-- void abort(void) { }
abbrev pub c07_4 : List syntax.External
c07_4 = (syntax.FunctionDefinition (specs (syntax.TypeSpec type.Void (at 1 0) ∷ [])) (syntax.Named [] (name (codes "abort") (at 6 1)) (suffixes (syntax.FunctionSuffix (parameters (syntax.parameter (specs (syntax.TypeSpec type.Void (at 12 3) ∷ [])) (syntax.Unnamed [] (suffixes [])) (at 12 3) ∷ [])) false (at 11 2) ∷ []))) (syntax.block (block_items []) (span (at 18 5) (at 20 6))) ∷ [])
