-- The statements of a unit (ISO/IEC 9899:2024, 6.8), with deferred ones: a deferred statement runs when
-- control leaves the block that holds it, after what stands behind it there.
use Rattle.std.specs.Prelude.{ℕ, ℤ, Bool, false, List, Option, Some, None, if◌then◌else◌}
use Rattle.std.specs.Ordering.{int_eq}
use Rattle.model_runs.specs.Memory.{Scalar, Number, Missing}
use Rattle.model_runs.specs.Applied.{is_true}
use Rattle.model_runs.specs.Run.{Act, ◌▷◌, just, choose, Flow, Falls, Breaks, Continues, Gives, then_do, loop, after_switch}
use Rattle.model_runs.specs.SourceFrame.{Frame, block_of, enter_scope, leave_scope}
use Rattle.model_runs.specs.SourceValues.{operand, needed, evaluate, initialise}
use Rattle.model_core.specs.Core as unit

-- goes on at the end of a statement
abbrev pub falls : {A : Type 0} → A → Act Flow
falls value = just Falls

-- a condition, and one of two ways
abbrev pub on_condition : Frame → unit.Expr → Act Flow → Act Flow → Act Flow
on_condition f e first second = operand e (evaluate f e) ▷ (λ x. choose (is_true x) first second)

-- a condition of `for`; a missing one is true
abbrev pub on_maybe : Frame → unit.MaybeExpr → Act Flow → Act Flow → Act Flow
on_maybe f unit.no_expr first second = first
on_maybe f (unit.an_expr e) first second = on_condition f e first second

-- an expression that is there is evaluated, then comes the rest
abbrev pub after_maybe : Frame → unit.MaybeExpr → Act Flow → Act Flow
after_maybe f unit.no_expr rest = rest
after_maybe f (unit.an_expr e) rest = evaluate f e ▷ (λ v. rest)

-- the returned value, which is there before anything deferred runs
abbrev pub returned : Frame → unit.MaybeExpr → Act Flow
returned f unit.no_expr = just (Gives Missing)
returned f (unit.an_expr e) = needed e (evaluate f e) ▷ (λ v. just (Gives v))

-- a statement and what stands behind it in its block; a deferred one runs after that, however control
-- leaves
abbrev pub in_row : unit.Stat → Act Flow → Act Flow → Act Flow
in_row (unit.Defer body place span) this rest = rest ▷ (λ flow. this ▷ (λ other. just flow))
in_row stat this rest = this ▷ (λ flow. then_do flow rest)

abbrev pub is_case : ℤ → Scalar → Bool
is_case value (Number other) = int_eq value other
is_case value pointer = false

abbrev pub or_else : Option (Act Flow) → Option (Act Flow) → Option (Act Flow)
or_else (Some first) second = Some first
or_else None second = second

abbrev pub nothing_or : Option (Act Flow) → Act Flow
nothing_or None = just Falls
nothing_or (Some run) = run

-- the body of a switch: from the label of the value on, else from `default` on, else nothing
abbrev pub switched : (at_label at_default : Option (Act Flow)) → Act Flow
switched at_label at_default = nothing_or (or_else at_label at_default) ▷ (λ flow. just (after_switch flow))

-- a part between the entry of a scope and its end
abbrev pub in_scope : Frame → List ℕ → Act Flow → Act Flow
in_scope f ids run = enter_scope f.core f.call ids ▷ (λ u. run ▷ (λ flow. leave_scope f.core f.call ids ▷ (λ w. just flow)))

abbrev mutual
  -- a statement; loops have at most so many rounds
  pub perform : Frame → (bound : ℕ) → unit.Stat → Act Flow
  perform f bound (unit.Evaluate e span) = evaluate f e ▷ falls
  perform f bound (unit.Start id type values mark) = initialise f (block_of f.core f.call id) values ▷ falls
  perform f bound (unit.Block objects body span) = in_scope f objects (perform_all f bound body)
  perform f bound (unit.If e first second span) = on_condition f e (perform f bound first) (perform_maybe f bound second)
  perform f bound (unit.Switch e objects body span) = operand e (evaluate f e) ▷ (λ x. in_scope f objects (switched (at_case f bound x body) (at_default f bound body)))
  perform f bound (unit.While e body span) =
      loop bound (on_condition f e (perform f bound body) (just Breaks)) (on_condition f e (perform f bound body) (just Breaks))
  perform f bound (unit.DoWhile body e span) = loop bound (perform f bound body) (on_condition f e (perform f bound body) (just Breaks))
  perform f bound (unit.For first e step body span) =
      after_maybe f first
      (loop bound (on_maybe f e (perform f bound body) (just Breaks)) (after_maybe f step (on_maybe f e (perform f bound body) (just Breaks))))
  perform f bound (unit.Break place) = just Breaks
  perform f bound (unit.Continue place) = just Continues
  perform f bound (unit.Return value place) = returned f value
  perform f bound (unit.Defer body place span) = perform f bound body

  pub perform_maybe : Frame → (bound : ℕ) → unit.MaybeStat → Act Flow
  perform_maybe f bound unit.no_stat = just Falls
  perform_maybe f bound (unit.a_stat stat) = perform f bound stat

  -- statements in a row
  pub perform_all : Frame → (bound : ℕ) → unit.Stats → Act Flow
  perform_all f bound unit.no_stats = just Falls
  perform_all f bound (unit.more_stats stat stats) = in_row stat (perform f bound stat) (perform_all f bound stats)

  -- the statements of a switch's body, whatever labels stand before them
  pub perform_cases : Frame → (bound : ℕ) → unit.Cases → Act Flow
  perform_cases f bound unit.no_cases = just Falls
  perform_cases f bound (unit.a_case value place others) = perform_cases f bound others
  perform_cases f bound (unit.a_default place others) = perform_cases f bound others
  perform_cases f bound (unit.a_stat_then stat others) = in_row stat (perform f bound stat) (perform_cases f bound others)

  -- those behind the label of a value
  pub at_case : Frame → (bound : ℕ) → Scalar → unit.Cases → Option (Act Flow)
  at_case f bound x unit.no_cases = None
  at_case f bound x (unit.a_case value place others) = if is_case value x then Some (perform_cases f bound others) else at_case f bound x others
  at_case f bound x (unit.a_default place others) = at_case f bound x others
  at_case f bound x (unit.a_stat_then stat others) = at_case f bound x others

  -- those behind `default`
  pub at_default : Frame → (bound : ℕ) → unit.Cases → Option (Act Flow)
  at_default f bound unit.no_cases = None
  at_default f bound (unit.a_case value place others) = at_default f bound others
  at_default f bound (unit.a_default place others) = Some (perform_cases f bound others)
  at_default f bound (unit.a_stat_then stat others) = at_default f bound others
