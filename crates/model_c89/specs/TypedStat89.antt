-- When the expressions and statements of a C89 program are typed (ISO/IEC 9899:1990, 6.3, 6.6), with the types
-- of the names in scope.
use Rattle.std.specs.Prelude.{ℕ, Bool, true, false, ◌&&◌, ◌||◌, not, List, [], ◌∷◌, is_some, ℤ, ◌++◌, Option, Some, None}
use Rattle.std.specs.Ordering.{int_eq}
use Rattle.std.specs.List.{list_any, list_all}
use Rattle.model_types.specs.declared.numbers.Basic.{Basic}
use Rattle.model_types.specs.Conversions.{promoted}
use Rattle.model_core.specs.Types89.{Type89, Function as FunctionType, Types89, no_types, more_types}
use Rattle.model_c89.specs.TargetLayout.{member_of}
use Rattle.model_c89.specs.TargetTypes.{Names, find_name, type_of, value_type, pointee, integer_type, basic_or_int}
use Rattle.model_c89.specs.TargetValues.{is_place, is_void}
use Rattle.model_c89.specs.TargetFrame.{is_declared}
use Rattle.model_c89.specs.Constants89.{constant_value}
use Rattle.model_c89.specs.TypedParts89.{is_integer, is_scalar, is_array, is_const_somewhere, is_complete, is_null_constant, takes, assigns, casts, joins, prefix_fits, index_fits, result_fits}
use Rattle.model_core.specs.Program89 as text

abbrev pub arguments_fit : Names → Types89 → (is_variadic : Bool) → text.Exprs → Bool
arguments_fit names no_types is_variadic text.no_exprs = true
arguments_fit names no_types is_variadic (text.more_exprs e es) =
    is_variadic && not (is_void (value_type names e)) && arguments_fit names no_types is_variadic es
arguments_fit names (more_types type types) is_variadic text.no_exprs = false
arguments_fit names (more_types type types) is_variadic (text.more_exprs e es) =
    assigns (is_null_constant names e) (value_type names e) type && arguments_fit names types is_variadic es

abbrev pub call_fits : Names → Type89 → text.Exprs → Bool
call_fits names (FunctionType result parameters is_variadic) arguments =
    result_fits names.structures (FunctionType result parameters is_variadic) && arguments_fit names parameters is_variadic arguments
call_fits names type arguments = false

-- an array that is a member has an address only where the structure is an object
abbrev pub member_fits : Names → text.Expr → (name : List ℕ) → Bool
member_fits names structure name =
    is_some (member_of names.structures (type_of names structure) name)
    && (is_place structure || not (is_array (type_of names (text.Dot structure name))))

abbrev mutual
  -- the expression has a type
  pub has_type : Names → text.Expr → Bool
  has_type names (text.Name name) = is_some (find_name names.declared name)
  has_type names (text.Constant number suffix) = true
  has_type names (text.Index a b) = has_type names a && has_type names b && index_fits names.structures (value_type names a) (value_type names b)
  has_type names (text.Dot structure name) = has_type names structure && member_fits names structure name
  has_type names (text.Arrow pointer name) =
      has_type names pointer && is_some (member_of names.structures (pointee (value_type names pointer)) name)
  has_type names (text.Call function arguments) =
      has_type names function && have_types names arguments && call_fits names (pointee (value_type names function)) arguments
  has_type names (text.Unary op e) = has_type names e && prefix_fits names op e
  has_type names (text.Binary op a b) =
      has_type names a && has_type names b
      && takes names.structures op (is_null_constant names a) (is_null_constant names b) (value_type names a) (value_type names b)
  has_type names (text.Logic op a b) = has_type names a && has_type names b && is_scalar (value_type names a) && is_scalar (value_type names b)
  has_type names (text.Choice c a b) =
      has_type names c && has_type names a && has_type names b && is_scalar (value_type names c)
      && joins (is_null_constant names a) (is_null_constant names b) (value_type names a) (value_type names b)
  has_type names (text.Cast type e) = has_type names e && casts (is_null_constant names e) (value_type names e) type

  pub have_types : Names → text.Exprs → Bool
  have_types names text.no_exprs = true
  have_types names (text.more_exprs e es) = has_type names e && have_types names es

-- an object that can be assigned to
abbrev pub is_modifiable : Names → text.Expr → Bool
is_modifiable names e =
    is_place e && not (is_const_somewhere names.structures (type_of names e)) && not (is_array (type_of names e)) && is_complete names.structures (type_of names e)

abbrev pub assignment_fits : Names → (to : Type89) → text.Expr → Bool
assignment_fits names to e = has_type names e && assigns (is_null_constant names e) (value_type names e) to

abbrev pub is_condition : Names → text.Expr → Bool
is_condition names e = has_type names e && is_scalar (value_type names e)

-- where a statement stands: the names, the result, and whether a loop or switch, or a loop, is round it
pub record Around : Type 0 where
  pub names : Names
  pub result : Type89
  pub can_break : Bool
  pub can_continue : Bool

abbrev pub with_names : Names → List text.Declaration → Names
with_names names [] = names
with_names names (d ∷ ds) = with_names (record names { declared = d ∷ names.declared }) ds

abbrev pub in_block : List text.Declaration → Around → Around
in_block ds around = record around { names = with_names around.names ds }

abbrev pub in_loop : Around → Around
in_loop around = record around { can_break = true; can_continue = true }

abbrev pub in_switch : Around → Around
in_switch around = record around { can_break = true }

-- no two of them have one name, and none has one that is in scope
abbrev pub are_new : Names → List text.Declaration → Bool
are_new names [] = true
are_new names (d ∷ ds) = not (is_declared names.declared d.name) && not (is_declared ds d.name) && are_new names ds

-- objects have complete types, and hide no name
abbrev pub objects_fit : Names → List text.Declaration → Bool
objects_fit names ds = list_all (λ d. is_complete names.structures d.type) ds && are_new names ds

abbrev pub label_fits : Names → Basic → text.Label → Bool
label_fits names basic (text.Case e) = has_type names e && is_some (constant_value names basic e)
label_fits names basic text.Default = true

-- the value of a label, in a switch's type
abbrev pub label_value : Names → Basic → text.Label → Option ℤ
label_value names basic (text.Case e) = constant_value names basic e
label_value names basic text.Default = None

abbrev pub same_value : Option ℤ → Option ℤ → Bool
same_value (Some v) (Some w) = int_eq v w
same_value None None = true
same_value _ _ = false

-- two labels are for one value, or both are `default`
abbrev pub same_label : Names → Basic → text.Label → text.Label → Bool
same_label names basic label other = same_value (label_value names basic label) (label_value names basic other)

abbrev pub all_labels : text.Items → List text.Label
all_labels text.no_items = []
all_labels (text.an_item labels stat items) = labels ++ all_labels items

abbrev pub are_different : Names → Basic → List text.Label → Bool
are_different names basic [] = true
are_different names basic (label ∷ labels) = not (list_any (same_label names basic label) labels) && are_different names basic labels

abbrev pub returns_fit : Type89 → Names → text.Expr → Bool
returns_fit result names e = not (is_void result) && assignment_fits names result e

abbrev mutual
  pub stands : Around → text.Stat → Bool
  stands a (text.Evaluate e) = has_type a.names e
  stands a (text.Assign left e) = has_type a.names left && is_modifiable a.names left && assignment_fits a.names (type_of a.names left) e
  stands a text.Empty = true
  stands a (text.Block ds body) = objects_fit a.names ds && all_stand (in_block ds a) body
  stands a (text.If e ds body) = is_condition a.names e && objects_fit a.names ds && all_stand (in_block ds a) body
  stands a (text.IfElse e ds body other_ds other_body) =
      is_condition a.names e && objects_fit a.names ds && all_stand (in_block ds a) body
      && objects_fit a.names other_ds && all_stand (in_block other_ds a) other_body
  stands a (text.Forever ds body) = objects_fit a.names ds && all_stand (in_loop (in_block ds a)) body
  stands a (text.Switch e items) =
      has_type a.names e && is_integer (value_type a.names e)
      && are_different a.names (promoted (basic_or_int (integer_type (value_type a.names e)))) (all_labels items)
      && items_stand (in_switch a) (promoted (basic_or_int (integer_type (value_type a.names e)))) items
  stands a text.Break = a.can_break
  stands a text.Continue = a.can_continue
  stands a text.ReturnNothing = true
  stands a (text.Return e) = returns_fit a.result a.names e

  pub all_stand : Around → text.Stats → Bool
  all_stand a text.no_stats = true
  all_stand a (text.more_stats stat stats) = stands a stat && all_stand a stats

  pub items_stand : Around → Basic → text.Items → Bool
  items_stand a basic text.no_items = true
  items_stand a basic (text.an_item labels stat items) =
      list_all (label_fits a.names basic) labels && stands a stat && items_stand a basic items
