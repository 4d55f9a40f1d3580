-- Flat C89 programs: no statement holds a call, but one that is nothing else or gives its value to a name.
use Rattle.std.specs.Prelude.{◌≡◌, Bool, true, false, ◌||◌, List, [], ◌∷◌}
use Rattle.model_core.specs.Program89 as text

abbrev mutual
  -- the expression holds a call
  pub holds_call : text.Expr → Bool
  holds_call (text.Name name) = false
  holds_call (text.Constant number suffix) = false
  holds_call (text.Index left right) = holds_call left || holds_call right
  holds_call (text.Dot structure name) = holds_call structure
  holds_call (text.Arrow pointer name) = holds_call pointer
  holds_call (text.Call function arguments) = true
  holds_call (text.Unary op operand) = holds_call operand
  holds_call (text.Binary op left right) = holds_call left || holds_call right
  holds_call (text.Logic op left right) = holds_call left || holds_call right
  holds_call (text.Choice condition first second) = holds_call condition || (holds_call first || holds_call second)
  holds_call (text.Cast type operand) = holds_call operand

  pub hold_call : text.Exprs → Bool
  hold_call text.no_exprs = false
  hold_call (text.more_exprs e es) = holds_call e || hold_call es

abbrev pub NoCall : text.Expr → Type 0
NoCall e = holds_call e ≡ false

-- a call of which neither the function nor an argument holds one; or no call
abbrev pub FlatValue : text.Expr → Type 0
FlatValue (text.Call function arguments) = NoCall function × (hold_call arguments ≡ false)
FlatValue e = NoCall e

abbrev pub is_name : text.Expr → Bool
is_name (text.Name name) = true
is_name _ = false

-- the value of a call goes to a name
abbrev pub FlatAssignment : (left : text.Expr) → text.Expr → Type 0
FlatAssignment left (text.Call function arguments) = (is_name left ≡ true) × NoCall function × (hold_call arguments ≡ false)
FlatAssignment left e = NoCall left × NoCall e

abbrev pub FlatLabels : List text.Label → Type 0
FlatLabels [] = Unit {0}
FlatLabels (text.Case e ∷ labels) = NoCall e × FlatLabels labels
FlatLabels (text.Default ∷ labels) = FlatLabels labels

abbrev mutual
  pub FlatStat : text.Stat → Type 0
  FlatStat (text.Evaluate e) = FlatValue e
  FlatStat (text.Assign left e) = FlatAssignment left e
  FlatStat text.Empty = Unit {0}
  FlatStat (text.Block objects body) = FlatStats body
  FlatStat (text.If e objects body) = NoCall e × FlatStats body
  FlatStat (text.IfElse e objects body other_objects other_body) = NoCall e × FlatStats body × FlatStats other_body
  FlatStat (text.Forever objects body) = FlatStats body
  FlatStat (text.Switch e items) = NoCall e × FlatItems items
  FlatStat text.Break = Unit {0}
  FlatStat text.Continue = Unit {0}
  FlatStat text.ReturnNothing = Unit {0}
  FlatStat (text.Return e) = NoCall e

  pub FlatStats : text.Stats → Type 0
  FlatStats text.no_stats = Unit {0}
  FlatStats (text.more_stats stat stats) = FlatStat stat × FlatStats stats

  pub FlatItems : text.Items → Type 0
  FlatItems text.no_items = Unit {0}
  FlatItems (text.an_item labels stat items) = FlatLabels labels × FlatStat stat × FlatItems items

abbrev pub FlatFunctions : List text.Function → Type 0
FlatFunctions [] = Unit {0}
FlatFunctions (f ∷ fs) = FlatStats f.body × FlatFunctions fs

abbrev pub Flat : text.Program → Type 0
Flat program = FlatFunctions program.functions
