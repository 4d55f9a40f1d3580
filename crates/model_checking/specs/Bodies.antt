-- The bodies of functions and of function literals (ISO/IEC 9899:2024, 6.9.2; literals are this profile's own): one scope
-- with the parameters, which are declared in it again. `return 0;` stands at the `}` of `main` (5.1.2.3.4).
use Rattle.std.specs.Prelude.{ℕ, zero, suc, pos, Bool, true, false, if◌then◌else◌, List, [], ◌∷◌, ◌++◌, Option, Some, None, Ok, Err}
use Rattle.cake_base.specs.declared.places.Place.{Place}
use Rattle.model_types.specs.declared.marks.Span.{Span}
use Rattle.model_types.specs.Types.{CType, form_of_type}
use Rattle.model_scopes.specs.Declarations.{Declaration}
use Rattle.model_grammar.specs.SyntaxForms as syntax
use Rattle.model_core.specs.CoreTypes.{int_type, result_of_form}
use Rattle.model_core.specs.Core as unit
use Rattle.model_checking.specs.State.{Use, Evaluated, Unevaluated, State, Waiting, Body, Both, both, with_both, Answer, Reached, gives, then_do, in_scopes, note_type}
use Rattle.model_checking.specs.ParameterDeclarations.{is_parameter, declare_entry, leaves_out_since}
use Rattle.model_checking.specs.Reading.{Ends}
use Rattle.model_checking.specs.Scoping.{Scoped, entered, closed}
use Rattle.model_checking.specs.Surroundings.{in_function}
use Rattle.model_checking.specs.Statements.{block}

-- ---- parameters

-- the type of a parameter's object is named
abbrev note_parameter : Use → Declaration → State → State
note_parameter u d s = if is_parameter d then note_type u d.place d.ty s else s

abbrev with_parameter : Bool → (id : ℕ) → List ℕ → List ℕ
with_parameter true id ids = id ∷ ids
with_parameter false id ids = ids

-- what is declared in the scope of parameters, declared again; the ids of the parameters. Each draws one id
abbrev declared_again : Use → List Declaration → State → Both (List ℕ)
declared_again u [] s = both [] s
declared_again u (d ∷ ds) s =
    with_both (declared_again u ds (note_parameter u d (in_scopes (declare_entry d s.scopes) s))) (λ ids t. both (with_parameter (is_parameter d) s.scopes.ids ids) t)

-- ---- a body

abbrev zero_at : Place → unit.Stat
zero_at place = unit.Return (unit.an_expr (unit.Constant (pos 0) int_type (record { at = place; first = place; outer = place }))) place

-- what stands behind the statements of a body
abbrev ending : (is_main : Bool) → Span → List unit.Stat
ending true span = zero_at span.last ∷ []
ending false span = []

-- the ids of its parameters, and its statements
pub record Made : Type 0 where
  pub parameters : List ℕ
  pub stats : List unit.Stat

abbrev statements_in : Ends → Use → CType → syntax.Block → Both (List ℕ) → Answer Made
statements_in r u type body parameters =
    then_do (block r (in_function u (result_of_form (form_of_type type))) parameters.state body) (λ stats s.
    gives (record { parameters = parameters.made; stats = stats }) s)

-- a function with its body; one that isn't evaluated is left out
abbrev with_body : Use → Body → (before s : State) → State
with_body Evaluated body before s = record s { bodies = s.bodies ++ body ∷ [] }
with_body Unevaluated body before s = leaves_out_since before s

-- what is known of a function before its body
pub record Head : Type 0 where
  pub evaluation : Use
  pub id : ℕ
  pub literal : Option Place
  pub type : CType
  pub parameters : List Declaration
  pub is_main : Bool

abbrev body_of : Head → Span → Scoped Made → Body
body_of head span b = record {
  id = head.id;
  literal = head.literal;
  type = head.type;
  parameters = b.made.parameters;
  body = unit.Block b.objects (unit.stats (b.made.stats ++ ending head.is_main span)) span;
}

abbrev is_literal : Option Place → Bool
is_literal (Some place) = true
is_literal None = false

abbrev reached : Head → Span → (before : State) → Answer (Scoped Made) → Reached
reached head span before (Ok b) = Ok (with_body head.evaluation (body_of head span b.made) before b.state)
reached head span before (Err fault) = Err fault

abbrev pub elaborated_body : Ends → Head → Span → syntax.Block → State → Reached
elaborated_body r head span body s =
    reached head span s (closed s (statements_in r head.evaluation head.type body (declared_again head.evaluation head.parameters (entered (is_literal head.literal) s))))

-- ---- the function literals that wait

abbrev literal_head : Waiting → Place → Head
literal_head w place = record {
  evaluation = w.evaluation;
  id = w.id;
  literal = Some place;
  type = w.type;
  parameters = w.parameters;
  is_main = false;
}

abbrev pub span_of_block : syntax.Block → Span
span_of_block (syntax.block items span) = span

abbrev literal_body : Ends → Waiting → syntax.Expr → State → Reached
literal_body r w (syntax.FunctionLiteral name body place) s = elaborated_body r (literal_head w place) (span_of_block body) body s
literal_body r w _ s = Ok s

abbrev behind : Reached → (State → Reached) → Reached
behind (Ok s) go = go s
behind (Err fault) go = Err fault

abbrev each_body : Ends → List Waiting → State → Reached
each_body r [] s = Ok s
each_body r (w ∷ ws) s = behind (literal_body r w w.literal s) (λ s. each_body r ws s)

-- the bodies of what waits, in their order, and at the end of each full expression in them the bodies of what waits
-- there; function literals lie in one another at most as deep as there are levels
abbrev pub literal_bodies : (levels : ℕ) → Ends
literal_bodies zero s = Ok s
literal_bodies (suc levels) s = each_body (literal_bodies levels) s.waiting (record s { waiting = [] })
