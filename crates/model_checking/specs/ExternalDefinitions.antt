-- External definitions (ISO/IEC 9899:2024, 6.9): declarations at file scope, and functions with their bodies.
use Rattle.std.specs.Prelude.{Bool, false, None, Ok, Err, codes}
use Rattle.model_types.specs.Texts.{same_text}
use Rattle.model_scopes.specs.Declarations.{Declaration}
use Rattle.model_grammar.specs.SyntaxForms as syntax
use Rattle.model_checking.specs.State.{Evaluated, State, Answer, Reached, then_do}
use Rattle.model_checking.specs.DeclarationContexts.{at_file, of_definition}
use Rattle.model_checking.specs.SpecifierTypes.{specifiers}
use Rattle.model_checking.specs.DeclaratorTypes.{declarator}
use Rattle.model_checking.specs.Declaring.{Bound, bind_function}
use Rattle.model_checking.specs.Reading.{Ends, named_first}
use Rattle.model_checking.specs.Elaborated.{types_in, derivations}
use Rattle.model_checking.specs.FullExpressions.{ended}
use Rattle.model_checking.specs.Declarations.{declaration}
use Rattle.model_checking.specs.Bodies.{Head, span_of_block, elaborated_body}

abbrev then_reach : {A : Type 0} → Answer A → (A → State → Reached) → Reached
then_reach (Ok x) go = go x.made x.state
then_reach (Err fault) go = Err fault

abbrev is_main : Declaration → Bool
is_main d = same_text d.name (codes "main")

abbrev head_of : Bound → Head
head_of b = record {
  evaluation = Evaluated;
  id = b.id;
  literal = None;
  type = b.declared.ty;
  parameters = b.parameters;
  is_main = is_main b.declared;
}

-- its name is bound before its body
abbrev function_bound : Ends → State → syntax.Specs → syntax.Declarator → Answer Bound
function_bound r s specs d =
    then_do (ended r (specifiers of_definition specs (types_in Evaluated false s specs))) (λ given s.
    ended r (bind_function Evaluated given (named_first d) d s (declarator given (named_first d) d s (derivations Evaluated s d))))

abbrev pub external : Ends → State → syntax.External → Reached
external r s (syntax.FunctionDefinition specs d body) =
    then_reach (function_bound r s specs d) (λ b s. elaborated_body r (head_of b) (span_of_block body) body s)
external r s (syntax.ExternalDeclaration d) = then_reach (declaration r at_file Evaluated s d) (λ stats s. Ok s)
