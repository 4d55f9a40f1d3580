-- The first constraint that a unit breaks (ISO/IEC 9899:2024, 6.9): declaration by declaration, with the bodies of functions
-- behind their declarators and those of function literals behind the full expressions that they stand in; and C08 at the
-- end.
use Rattle.std.specs.Prelude.{ℕ, zero, suc, Bool, true, false, List, [], ◌∷◌, if◌then◌else◌}
use Rattle.cake_base.specs.declared.rules.Fault.{Fault}
use Rattle.model_types.specs.Types.{CType, form_of_type}
use Rattle.model_core.specs.CoreTypes.{result_of_form}
use Rattle.model_scopes.specs.Declarations.{Declaration}
use Rattle.model_scopes.specs.NotedUses.{is_undefined}
use Rattle.model_scopes.specs.Scopes.{Declared, file_scope}
use Rattle.model_grammar.specs.SyntaxForms as syntax
use Rattle.c_tree.specs.SyntaxDepth.{unit_depth}
use Rattle.model_checking.specs.Bodies.{literal_bodies}
use Rattle.model_checking.specs.DeclarationContexts.{at_file, of_definition}
use Rattle.model_checking.specs.DeclaratorTypes.{declarator}
use Rattle.model_checking.specs.DeclaredNames.{Setting, a_body}
use Rattle.model_checking.specs.Declaring.{Bound, bind_function}
use Rattle.model_checking.specs.Elaborated.{types_in, derivations}
use Rattle.model_checking.specs.ExternalDefinitions.{external}
use Rattle.model_checking.specs.FullExpressions.{ended}
use Rattle.model_checking.specs.ParameterDeclarations.{is_parameter, declare_entry}
use Rattle.model_checking.specs.Parts.{Specified}
use Rattle.model_checking.specs.Reading.{Ends, named_first}
use Rattle.model_checking.specs.Scoping.{entered}
use Rattle.model_checking.specs.SpecifierTypes.{specifiers}
use Rattle.model_checking.specs.State as checking
use Rattle.model_checking.specs.State.{Use, Evaluated, State, Answer, start, in_scopes, note_type}
use Rattle.model_checking.specs.Surroundings.{in_function}
use Rattle.model_constraints.specs.BrokenDeclarations.{broken_bound}
use Rattle.model_constraints.specs.BrokenParts.{broken_types}
use Rattle.model_constraints.specs.BrokenSpecifiers.{broken_specifiers}
use Rattle.model_constraints.specs.FirstDeclarations.{Waiting, waiting_behind, first_declaration}
use Rattle.model_constraints.specs.FirstStatements.{first_in_block}
use Rattle.model_constraints.specs.Firsts.{Firsts, NoFault, Afterwards, Then, Either, Whole}
use Rattle.model_constraints.specs.Pairs.{Pairs, Nothing, At_if_any, Beside, First}

-- ---- the body of a function

-- its parameters are declared again in its scope
abbrev noted : Use → Declaration → State → State
noted u d s = if is_parameter d then note_type u d.place d.ty s else s

abbrev with_parameters : Use → List Declaration → State → State
with_parameters u [] s = s
with_parameters u (d ∷ ds) s = with_parameters u ds (noted u d (in_scopes (declare_entry d s.scopes) s))

abbrev first_in_body : Ends → Waiting → Use → (is_literal : Bool) → CType → List Declaration → syntax.Block → State → Firsts
first_in_body r b u is_literal type parameters body s =
    first_in_block r b (in_function u (result_of_form (form_of_type type))) (with_parameters u parameters (entered is_literal s)) body

-- ---- the bodies of the function literals that wait

abbrev first_in_literal : Ends → Waiting → checking.Waiting → syntax.Expr → State → Firsts
first_in_literal r b w (syntax.FunctionLiteral name body place) s = first_in_body r b w.evaluation true w.type w.parameters body s
first_in_literal r b w e s = NoFault

-- in the order in which they wait; `levels` as in `literal_bodies`
abbrev first_in_each : (levels : ℕ) → Waiting → List checking.Waiting → State → Firsts
first_in_each levels b [] s = NoFault
first_in_each levels b (w ∷ ws) s =
    Either (first_in_literal (literal_bodies levels) b w w.literal s)
    (Afterwards (literal_bodies (suc levels) (record s { waiting = w ∷ [] })) (λ s. first_in_each levels b ws s))

abbrev pub first_in_bodies : (levels : ℕ) → Waiting
first_in_bodies zero s = NoFault
first_in_bodies (suc levels) s = first_in_each levels (first_in_bodies levels) s.waiting (record s { waiting = [] })

-- ---- external definitions

abbrev definition_specified : State → syntax.Specs → Answer Specified
definition_specified s specs = specifiers of_definition specs (types_in Evaluated false s specs)

abbrev function_bound : Specified → State → syntax.Declarator → Answer Bound
function_bound given s d = bind_function Evaluated given (named_first d) d s (declarator given (named_first d) d s (derivations Evaluated s d))

abbrev function_setting : Specified → Setting
function_setting given = record { context = of_definition; storage = given.storage; ending = a_body }

-- the specifiers of a function, its declarator and its body
abbrev first_external : Ends → Waiting → State → syntax.External → Firsts
first_external r b s (syntax.FunctionDefinition specs d body) =
    Then (Whole (broken_specifiers of_definition specs (types_in Evaluated false s specs) (broken_types Evaluated false s specs)) (waiting_behind b (definition_specified s specs)))
    (ended r (definition_specified s specs)) (λ given s.
    Then (Whole (broken_bound Evaluated (function_setting given) false given d s) (waiting_behind b (function_bound given s d)))
    (ended r (function_bound given s d)) (λ x s.
    first_in_body r b Evaluated false x.declared.ty x.parameters body s))
first_external r b s (syntax.ExternalDeclaration d) = first_declaration r b at_file Evaluated s d

-- ---- a unit

-- C08 at the first use of an internal function that isn't defined
abbrev broken_uses : List (ℕ × Declared) → Pairs
broken_uses [] = Nothing
broken_uses (e ∷ es) = Beside (At_if_any e.1.used 8 (is_undefined e.1)) (broken_uses es)

abbrev first_in_unit : Ends → Waiting → List syntax.External → State → Firsts
first_in_unit r b [] s = First (broken_uses s.scopes.declared)
first_in_unit r b (x ∷ xs) s = Either (first_external r b s x) (Afterwards (external r s x) (λ s. first_in_unit r b xs s))

-- the fault is the one that a unit is refused for
abbrev pub FirstBroken : List syntax.External → Fault → Type 0
FirstBroken trees = first_in_unit (literal_bodies (unit_depth trees)) (first_in_bodies (unit_depth trees)) trees (start file_scope)
