-- What the parts of a state stand for.
use Rattle.std.specs.Prelude.{ℕ, List, [], ◌∷◌, Option, Some, None, option_map}
use Rattle.model_types.specs.declared.marks.DeclId.{DeclId}
use Rattle.core_tree.specs.CoreNodes.{initials}
use Rattle.model_checking.specs.State as m
use Rattle.check_state.specs.declared.uses.Use.{Use}
use Rattle.check_state.specs.declared.uses.Use.TheVariants as usage
use Rattle.check_state.specs.declared.literals.Waiting.{Waiting}
use Rattle.check_state.specs.declared.made.Made.{Made}

abbrev pub use_of : Use → m.Use
use_of usage.Evaluated = m.Evaluated
use_of usage.Unevaluated = m.Unevaluated

abbrev pub waiting_of : Waiting → m.Waiting
waiting_of w = record { evaluation = use_of w.evaluation; id = w.id.0; literal = w.literal.now; type = w.ty; parameters = w.params }

abbrev pub made_of : Made → m.Made
made_of x = record { id = x.id.0; type = x.ty; place = x.place; text = x.text; values = option_map initials x.values; is_evaluated = x.is_evaluated }

abbrev pub ids_if_any : Option DeclId → List ℕ
ids_if_any None = []
ids_if_any (Some id) = id.0 ∷ []
