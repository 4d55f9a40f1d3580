-- The statements of a C89 program (ISO/IEC 9899:1990, 6.6).
use Rattle.std.specs.Prelude.{ℕ, ℤ, Bool, true, false, ◌||◌, List, [], ◌∷◌, Option, Some, None, if◌then◌else◌}
use Rattle.std.specs.Ordering.{int_eq}
use Rattle.model_types.specs.declared.numbers.Basic.{Basic}
use Rattle.model_types.specs.Conversions.{promoted}
use Rattle.model_runs.specs.Memory.{Scalar, Number, Missing}
use Rattle.model_runs.specs.Applied.{is_true}
use Rattle.model_runs.specs.Accesses.{store_to}
use Rattle.model_runs.specs.Run.{Act, ◌▷◌, just, choose, Flow, Falls, Breaks, Continues, Gives, then_do, loop, after_switch}
use Rattle.model_c89.specs.TargetLayout.{shape_of}
use Rattle.model_c89.specs.TargetTypes.{type_of, value_type, integer_type, basic_or_int}
use Rattle.model_c89.specs.TargetFrame.{Frame, enter_scope, leave_scope}
use Rattle.model_c89.specs.TargetOperations.{value_as, between}
use Rattle.model_c89.specs.TargetValues.{operand, needed, evaluate, locate}
use Rattle.model_c89.specs.Constants89.{constant_value}
use Rattle.model_core.specs.Program89 as text

-- goes on at the end of a statement
abbrev pub falls : {A : Type 0} → A → Act Flow
falls value = just Falls

-- a frame in which these names are declared too
abbrev pub with_names : Frame → List text.Declaration → Frame
with_names f [] = f
with_names f (d ∷ ds) = with_names (record f { names = record f.names { declared = d ∷ f.names.declared } }) ds

-- a part between the entry of a scope and its end
abbrev pub in_scope : Frame → List text.Declaration → Act Flow → Act Flow
in_scope f ds run =
    enter_scope f.program.structures f.call ds ▷ (λ u. run ▷ (λ flow. leave_scope f.program.structures f.call ds ▷ (λ w. just flow)))

-- the value of a label is the switch's, both in its promoted type
abbrev pub is_value : Basic → Option ℤ → Scalar → Bool
is_value basic (Some value) (Number other) = int_eq value other
is_value basic value scalar = false

abbrev pub is_case : Frame → Basic → Scalar → text.Label → Bool
is_case f basic x (text.Case value) = is_value basic (constant_value f.names basic value) x
is_case f basic x text.Default = false

abbrev pub has_case : Frame → Basic → Scalar → List text.Label → Bool
has_case f basic x [] = false
has_case f basic x (label ∷ labels) = is_case f basic x label || has_case f basic x labels

abbrev pub has_default : List text.Label → Bool
has_default [] = false
has_default (text.Default ∷ labels) = true
has_default (text.Case value ∷ labels) = has_default labels

abbrev pub or_else : Option (Act Flow) → Option (Act Flow) → Act Flow
or_else (Some first) second = first
or_else None (Some second) = second
or_else None None = just Falls

abbrev pub switched_type : Frame → text.Expr → Basic
switched_type f e = basic_or_int (integer_type (value_type f.names e))

-- the type of a switch's value, promoted
abbrev pub switch_type : Frame → text.Expr → Basic
switch_type f e = promoted (switched_type f e)

abbrev mutual
  -- a statement; loops have at most so many rounds
  pub perform : Frame → (bound : ℕ) → text.Stat → Act Flow
  perform f bound (text.Evaluate e) = evaluate f e ▷ falls
  perform f bound (text.Assign object e) =
      locate f object
      ▷ (λ l. needed (evaluate f e)
      ▷ (λ v. store_to None (shape_of f.program.structures (type_of f.names object)) l.block l.offset (value_as (value_type f.names e) (type_of f.names object) v) ▷ falls))
  perform f bound text.Empty = just Falls
  perform f bound (text.Block ds body) = in_scope f ds (perform_all (with_names f ds) bound body)
  perform f bound (text.If e ds body) =
      operand (evaluate f e) ▷ (λ x. choose (is_true x) (in_scope f ds (perform_all (with_names f ds) bound body)) (just Falls))
  perform f bound (text.IfElse e ds body other_ds other_body) =
      operand (evaluate f e)
      ▷ (λ x. choose (is_true x) (in_scope f ds (perform_all (with_names f ds) bound body)) (in_scope f other_ds (perform_all (with_names f other_ds) bound other_body)))
  perform f bound (text.Forever ds body) =
      loop bound (in_scope f ds (perform_all (with_names f ds) bound body)) (in_scope f ds (perform_all (with_names f ds) bound body))
  perform f bound (text.Switch e items) =
      operand (evaluate f e)
      ▷ (λ x. or_else (at_case f bound (switch_type f e) (between (switched_type f e) (switch_type f e) x) items) (at_default f bound items)
      ▷ (λ flow. just (after_switch flow)))
  perform f bound text.Break = just Breaks
  perform f bound text.Continue = just Continues
  perform f bound text.ReturnNothing = just (Gives Missing)
  perform f bound (text.Return e) = needed (evaluate f e) ▷ (λ v. just (Gives (value_as (value_type f.names e) f.result v)))

  -- statements in a row
  pub perform_all : Frame → (bound : ℕ) → text.Stats → Act Flow
  perform_all f bound text.no_stats = just Falls
  perform_all f bound (text.more_stats stat stats) = perform f bound stat ▷ (λ flow. then_do flow (perform_all f bound stats))

  -- the statements of a switch's body, whatever labels stand before them
  pub perform_items : Frame → (bound : ℕ) → text.Items → Act Flow
  perform_items f bound text.no_items = just Falls
  perform_items f bound (text.an_item labels stat items) = perform f bound stat ▷ (λ flow. then_do flow (perform_items f bound items))

  -- those behind the label of a value
  pub at_case : Frame → (bound : ℕ) → Basic → Scalar → text.Items → Option (Act Flow)
  at_case f bound basic x text.no_items = None
  at_case f bound basic x (text.an_item labels stat items) =
      if has_case f basic x labels then Some (perform f bound stat ▷ (λ flow. then_do flow (perform_items f bound items)))
      else at_case f bound basic x items

  -- those behind `default`
  pub at_default : Frame → (bound : ℕ) → text.Items → Option (Act Flow)
  at_default f bound text.no_items = None
  at_default f bound (text.an_item labels stat items) =
      if has_default labels then Some (perform f bound stat ▷ (λ flow. then_do flow (perform_items f bound items))) else at_default f bound items
