-- accepted: declarations: units of one line, as trees.
use Rattle.std.specs.Prelude.{List, [], ◌∷◌, false, codes}
use Rattle.model_grammar.specs.SyntaxForms as syntax
use Rattle.model_grammar.specs.declared.syntax.TypeWord.TheVariants as type
use Rattle.checking_units.specs.Parts.{at, name, specs, suffixes, parameters, declared}

-- struct s f(void);
abbrev pub accepted_declarations_97 : List syntax.External
accepted_declarations_97 = (syntax.ExternalDeclaration (syntax.SimpleDeclaration (specs (syntax.StructTag (name (codes "s") (at 8 1)) (at 1 0) ∷ [])) (declared (syntax.init_declarator (syntax.Named [] (name (codes "f") (at 10 2)) (suffixes (syntax.FunctionSuffix (parameters (syntax.parameter (specs (syntax.TypeSpec type.Void (at 12 4) ∷ [])) (syntax.Unnamed [] (suffixes [])) (at 12 4) ∷ [])) false (at 11 3) ∷ []))) syntax.no_initializer ∷ []))) ∷ [])
