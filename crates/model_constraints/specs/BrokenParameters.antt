-- What parameters break (ISO/IEC 9899:2024, 6.7.7.4): at their names, and where one has type void.
use Rattle.std.specs.Prelude.{Option, Some, None}
use Rattle.model_core.specs.CoreTypes.{int_type}
use Rattle.model_grammar.specs.declared.syntax.Name.{Name}
use Rattle.model_grammar.specs.SyntaxForms as syntax
use Rattle.model_checking.specs.DeclaratorNames.{declarator_name}
use Rattle.model_checking.specs.ParameterDeclarations.{parameter_declaration}
use Rattle.model_checking.specs.Parts.{Declared}
use Rattle.model_checking.specs.State.{State}
use Rattle.model_constraints.specs.Pairs.{Pairs, Nothing, Beside, IfAny}
use Rattle.model_constraints.specs.BrokenDeclarators.{broken_void}
use Rattle.model_constraints.specs.BrokenTags.{broken_declaration}

-- C01 and C02 at the name, whatever the parameter's type
abbrev pub broken_parameter_name : Option Name → State → Pairs
broken_parameter_name None s = Nothing
broken_parameter_name (Some name) s = broken_declaration (parameter_declaration name.text name.place int_type) s.scopes

-- C28 of the parameters of a parameter that is a function
abbrev pub broken_parameter : syntax.Declarator → Declared → State → Pairs
broken_parameter d x s = Beside (broken_parameter_name (declarator_name d) s) (IfAny x.type (λ type. broken_void x.parameters))
