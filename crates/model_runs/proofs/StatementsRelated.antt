-- Statements and calls of a unit with related calls and other bounds.
use Rattle.std.proofs.Common.{ℕ, zero, suc, ◌≤◌, pos, Bool, true, false, List, [], ◌∷◌, Option, Some, None, if◌then◌else◌, refl, inl, arith}
use Rattle.cake_base.specs.declared.places.Place.{Place}
use Rattle.model_types.specs.Types.{CType, Form, Void, Integer, Enum, Pointer, Array, Struct, Function, form_of_type}
use Rattle.model_runs.specs.Memory.{Numbered, Named, Local, Scalar, Number, Null, Address, Code, Value, Missing}
use Rattle.model_runs.specs.Applied.{is_true}
use Rattle.model_runs.specs.Outside.{Answering}
use Rattle.model_types.specs.Types.{Types}
use Rattle.model_runs.specs.Run.{Out, Act, ◌▷◌, ends, Flow, Falls, Breaks, Continues, Gives, then_do, after_switch, loop, new_call, answer_of}
use Rattle.model_core.specs.CoreTypes.{shape_of}
use Rattle.model_runs.specs.SourceStart.{object_type_of}
use Rattle.model_runs.specs.SourceFrame.{Callee, Frame, enter_scope, leave_scope, block_of}
use Rattle.model_runs.specs.SourceValues.{evaluate}
use Rattle.model_runs.specs.SourceStatements.{on_condition, on_maybe, after_maybe, returned, in_row, is_case, switched, in_scope, perform, perform_maybe, perform_all, perform_cases, at_case, at_default}
use Rattle.model_runs.specs.SourceCalls.{builtin_of, passed, answering}
use Rattle.model_runs.specs.SourceRun.{bind, enter_body, enter, known_call, by_form, declared_call, Defined, by_body, by_function, call_through, call_defined}
use Rattle.model_core.specs.Core as unit
use Rattle.model_runs.proofs.Related.{Rel, then_related, just_related, ends_related, if_related, choose_related, store_related, then_do_related, loop_related, turn_related, late_related, turn_is_late}
use Rattle.model_runs.proofs.OutsideRelated.{outside_related, builtin_related}
use Rattle.model_runs.proofs.SourceRelated.{with_callee, CalleeRel, operand_related, needed_related, evaluate_related, initialise_related}
use Rattle.model_core.specs.BuiltinTypes.{Builtin}

-- parts that are there on both sides, and related
data MaybeRel (j d : ℕ) : Option (Act Flow) → Option (Act Flow) → Type 0 where
  neither : MaybeRel j d None None
  both : (m n : Act Flow) → Rel j d m n → MaybeRel j d (Some m) (Some n)

module _ (j d : ℕ) where
  enter_related : (core : unit.Core) (call : ℕ) (ids : List ℕ) → Rel j d (enter_scope core call ids) (enter_scope core call ids)
  enter_related core call ids = record { at = λ s le. inl (refl, omega arith) }

  leave_related : (core : unit.Core) (call : ℕ) (ids : List ℕ) → Rel j d (leave_scope core call ids) (leave_scope core call ids)
  leave_related core call ids = record { at = λ s le. inl (refl, omega arith) }

  new_call_related : Rel j d new_call new_call
  new_call_related = record { at = λ s le. inl (refl, omega arith) }

  maybe_if : (b : Bool) (m n : Act Flow) (o p : Option (Act Flow)) → Rel j d m n → MaybeRel j d o p → MaybeRel j d (if b then Some m else o) (if b then Some n else p)
  maybe_if true m n o p first second = both m n first
  maybe_if false m n o p first second = second

  switched_related : (a a' b b' : Option (Act Flow)) → MaybeRel j d a a' → MaybeRel j d b b' → Rel j d (switched a b) (switched a' b')
  switched_related a a' b b' neither neither = then_related j d _ _ _ _ (just_related j d Falls) (λ flow. just_related j d (after_switch flow))
  switched_related a a' b b' neither (both m n related) = then_related j d _ _ _ _ related (λ flow. just_related j d (after_switch flow))
  switched_related a a' b b' (both m n related) other = then_related j d _ _ _ _ related (λ flow. just_related j d (after_switch flow))

module _ (j b e : ℕ) (be : b ≤ e) (f : Frame) (c : Callee) (calls : CalleeRel j b f.callee c) where
  abbrev g : Frame
  g = with_callee f c

  expr : (x : unit.Expr) → Rel j b (evaluate f x) (evaluate g x)
  expr x = evaluate_related j b f c calls x

  condition_related : (x : unit.Expr) (m m' n n' : Act Flow) → Rel j b m m' → Rel j b n n' → Rel j b (on_condition f x m n) (on_condition g x m' n')
  condition_related x m m' n n' first second =
      then_related j b _ _ _ _ (operand_related j b x _ _ (expr x)) (λ y. choose_related j b (is_true y) _ _ _ _ first second)

  maybe_condition : (x : unit.MaybeExpr) (m m' n n' : Act Flow) → Rel j b m m' → Rel j b n n' → Rel j b (on_maybe f x m n) (on_maybe g x m' n')
  maybe_condition unit.no_expr m m' n n' first second = first
  maybe_condition (unit.an_expr x) m m' n n' first second = condition_related x m m' n n' first second

  after_related : (x : unit.MaybeExpr) (m m' : Act Flow) → Rel j b m m' → Rel j b (after_maybe f x m) (after_maybe g x m')
  after_related unit.no_expr m m' related = related
  after_related (unit.an_expr x) m m' related = then_related j b _ _ _ _ (expr x) (λ v. related)

  returned_related : (x : unit.MaybeExpr) → Rel j b (returned f x) (returned g x)
  returned_related unit.no_expr = just_related j b (Gives Missing)
  returned_related (unit.an_expr x) = then_related j b _ _ _ _ (needed_related j b x _ _ (expr x)) (λ v. just_related j b (Gives v))

  scope_related : (ids : List ℕ) (m n : Act Flow) → Rel j b m n → Rel j b (in_scope f ids m) (in_scope g ids n)
  scope_related ids m n related =
      then_related j b _ _ _ _ (enter_related j b f.core f.call ids)
      (λ u. then_related j b _ _ _ _ related (λ flow. then_related j b _ _ _ _ (leave_related j b f.core f.call ids) (λ w. just_related j b flow)))

  plain_row : (m m' n n' : Act Flow) → Rel j b m m' → Rel j b n n' → Rel j b (m ▷ (λ flow. then_do flow n)) (m' ▷ (λ flow. then_do flow n'))
  plain_row m m' n n' first second = then_related j b _ _ _ _ first (λ flow. then_do_related j b flow n n' second)

  row_related : (stat : unit.Stat) (m m' n n' : Act Flow) → Rel j b m m' → Rel j b n n' → Rel j b (in_row stat m n) (in_row stat m' n')
  row_related (unit.Defer body place span) m m' n n' first second =
      then_related j b _ _ _ _ second (λ flow. then_related j b _ _ _ _ first (λ other. just_related j b flow))
  row_related (unit.Evaluate x span) m m' n n' first second = plain_row m m' n n' first second
  row_related (unit.Start id type values mark) m m' n n' first second = plain_row m m' n n' first second
  row_related (unit.Block objects body span) m m' n n' first second = plain_row m m' n n' first second
  row_related (unit.If x a o span) m m' n n' first second = plain_row m m' n n' first second
  row_related (unit.Switch x objects body span) m m' n n' first second = plain_row m m' n n' first second
  row_related (unit.While x body span) m m' n n' first second = plain_row m m' n n' first second
  row_related (unit.DoWhile body x span) m m' n n' first second = plain_row m m' n n' first second
  row_related (unit.For x y z body span) m m' n n' first second = plain_row m m' n n' first second
  row_related (unit.Break place) m m' n n' first second = plain_row m m' n n' first second
  row_related (unit.Continue place) m m' n n' first second = plain_row m m' n n' first second
  row_related (unit.Return x place) m m' n n' first second = plain_row m m' n n' first second

  looped : (first first' others others' : Act Flow) → Rel j b first first' → Rel j b others others' → Rel j b (loop b first others) (loop e first' others')
  looped first first' others others' f o = loop_related j b b e first first' others others' be (omega arith) f o

  mutual
    pub perform_related : (stat : unit.Stat) → Rel j b (perform f b stat) (perform g e stat)
    perform_related (unit.Evaluate x span) = then_related j b _ _ _ _ (expr x) (λ v. just_related j b Falls)
    perform_related (unit.Start id type values mark) =
        then_related j b _ _ _ _ (initialise_related j b f c calls (block_of f.core f.call id) values) (λ u. just_related j b Falls)
    perform_related (unit.Block objects body span) = scope_related objects _ _ (all_related body)
    perform_related (unit.If x first second span) = condition_related x _ _ _ _ (perform_related first) (maybe_related second)
    perform_related (unit.Switch x objects body span) =
        then_related j b _ _ _ _ (operand_related j b x _ _ (expr x))
        (λ y. scope_related objects _ _ (switched_related j b _ _ _ _ (case_related y body) (default_related body)))
    perform_related (unit.While x body span) =
        looped _ _ _ _ (condition_related x _ _ _ _ (perform_related body) (just_related j b Breaks)) (condition_related x _ _ _ _ (perform_related body) (just_related j b Breaks))
    perform_related (unit.DoWhile body x span) =
        looped _ _ _ _ (perform_related body) (condition_related x _ _ _ _ (perform_related body) (just_related j b Breaks))
    perform_related (unit.For first x step body span) =
        after_related first _ _
        (looped _ _ _ _ (maybe_condition x _ _ _ _ (perform_related body) (just_related j b Breaks))
        (after_related step _ _ (maybe_condition x _ _ _ _ (perform_related body) (just_related j b Breaks))))
    perform_related (unit.Break place) = just_related j b Breaks
    perform_related (unit.Continue place) = just_related j b Continues
    perform_related (unit.Return x place) = returned_related x
    perform_related (unit.Defer body place span) = perform_related body

    maybe_related : (stat : unit.MaybeStat) → Rel j b (perform_maybe f b stat) (perform_maybe g e stat)
    maybe_related unit.no_stat = just_related j b Falls
    maybe_related (unit.a_stat stat) = perform_related stat

    all_related : (stats : unit.Stats) → Rel j b (perform_all f b stats) (perform_all g e stats)
    all_related unit.no_stats = just_related j b Falls
    all_related (unit.more_stats stat stats) = row_related stat _ _ _ _ (perform_related stat) (all_related stats)

    cases_related : (cases : unit.Cases) → Rel j b (perform_cases f b cases) (perform_cases g e cases)
    cases_related unit.no_cases = just_related j b Falls
    cases_related (unit.a_case value place others) = cases_related others
    cases_related (unit.a_default place others) = cases_related others
    cases_related (unit.a_stat_then stat others) = row_related stat _ _ _ _ (perform_related stat) (cases_related others)

    case_related : (y : Scalar) (cases : unit.Cases) → MaybeRel j b (at_case f b y cases) (at_case g e y cases)
    case_related y unit.no_cases = neither
    case_related y (unit.a_case value place others) = maybe_if j b (is_case value y) _ _ _ _ (cases_related others) (case_related y others)
    case_related y (unit.a_default place others) = case_related y others
    case_related y (unit.a_stat_then stat others) = case_related y others

    default_related : (cases : unit.Cases) → MaybeRel j b (at_default f b cases) (at_default g e cases)
    default_related unit.no_cases = neither
    default_related (unit.a_case value place others) = default_related others
    default_related (unit.a_default place others) = both _ _ (cases_related others)
    default_related (unit.a_stat_then stat others) = default_related others

module _ (j : ℕ) (core : unit.Core) where
  bind_related : (d call : ℕ) (ids : List ℕ) (vs : List Value) → Rel j d (bind core call ids vs) (bind core call ids vs)
  bind_related d call [] [] = just_related j d tt
  bind_related d call (id ∷ ids) (v ∷ vs) =
      then_related j d _ _ _ _ (store_related j d None (shape_of core.structs (object_type_of core id)) (Local call (Numbered id)) (pos 0) v) (λ u. bind_related d call ids vs)
  bind_related d call [] (v ∷ vs) = ends_related j d _
  bind_related d call (id ∷ ids) [] = ends_related j d _

  body_related : (b e : ℕ) (be : b ≤ e) (c c' : Callee) (calls : CalleeRel j b c c') (parameters : List ℕ) (body : unit.Stat) (vs : List Value) (call : ℕ) → Rel j b (enter_body core c b parameters body vs call) (enter_body core c' e parameters body vs call)
  body_related b e be c c' calls parameters body vs call =
      then_related j b _ _ _ _ (enter_related j b core call parameters)
      (λ u. then_related j b _ _ _ _ (bind_related b call parameters vs)
      (λ w. then_related j b _ _ _ _ (perform_related j b e be (record { core = core; call = call; callee = c }) c' calls body)
      (λ flow. then_related j b _ _ _ _ (leave_related j b core call parameters) (λ x. just_related j b (answer_of flow)))))

  entering : (b e : ℕ) (be : b ≤ e) (c c' : Callee) (calls : CalleeRel j b c c') (body : unit.MaybeStat) (parameters : List ℕ) (vs : List Value) → Rel j b (enter core c b body parameters vs) (enter core c' e body parameters vs)
  entering b e be c c' calls unit.no_stat parameters vs = ends_related j b _
  entering b e be c c' calls (unit.a_stat body) parameters vs =
      then_related j b _ _ _ _ (new_call_related j b) (λ call. body_related b e be c c' calls parameters body vs call)

  known_related : (d : ℕ) (place : Option Place) (known : Option Builtin) (name : List ℕ) (types : List CType) (vs : List Value) (parameters : Types) (answers : Answering) → Rel j d (known_call place known name types vs parameters answers) (known_call place known name types vs parameters answers)
  known_related d place None name types vs parameters answers = outside_related j d place name (passed parameters types vs) answers
  known_related d place (Some builtin) name types vs parameters answers = builtin_related j d place builtin vs

  form_related : (d : ℕ) (place : Option Place) (type : CType) (name : List ℕ) (types : List CType) (vs : List Value) (form : Form) → Rel j d (by_form core.structs place type name types vs form) (by_form core.structs place type name types vs form)
  form_related d place type name types vs (Function result parameters variadic) = known_related d place (builtin_of name type) name types vs parameters (answering core.structs result)
  form_related d place type name types vs Void = ends_related j d _
  form_related d place type name types vs (Integer basic) = ends_related j d _
  form_related d place type name types vs (Enum basic order) = ends_related j d _
  form_related d place type name types vs (Pointer to) = ends_related j d _
  form_related d place type name types vs (Array of count) = ends_related j d _
  form_related d place type name types vs (Struct id) = ends_related j d _

  declared_related : (d : ℕ) (place : Option Place) (name : unit.FunctionName) (type : CType) (types : List CType) (vs : List Value) → Rel j d (declared_call core.structs place name type types vs) (declared_call core.structs place name type types vs)
  declared_related d place (unit.Named name) type types vs = form_related d place type name types vs (form_of_type type)
  declared_related d place (unit.Lambda at) type types vs = ends_related j d _

  abbrev DefinedRel : (d : ℕ) → Defined → Defined → Type 0
  DefinedRel d h h' = (place : Option Place) (g : unit.Function) (fits : Bool) (vs : List Value) → Rel j d (h place g fits vs) (h' place g fits vs)

  bodies_related : (d : ℕ) (h h' : Defined) (hs : DefinedRel d h h') (place : Option Place) (g : unit.Function) (fits : Bool) (types : List CType) (vs : List Value) (body : unit.MaybeStat) → Rel j d (by_body core.structs h place g fits types vs body) (by_body core.structs h' place g fits types vs body)
  bodies_related d h h' hs place g fits types vs (unit.a_stat body) = hs place g fits vs
  bodies_related d h h' hs place g fits types vs unit.no_stat = if_related j d fits _ _ _ _ (declared_related d place g.name g.type types vs) (ends_related j d _)

  functions_related : (d : ℕ) (h h' : Defined) (hs : DefinedRel d h h') (place : Option Place) (type : CType) (types : List CType) (vs : List Value) (g : Option unit.Function) → Rel j d (by_function core.structs h place type types vs g) (by_function core.structs h' place type types vs g)
  functions_related d h h' hs place type types vs None = ends_related j d _
  functions_related d h h' hs place type types vs (Some g) = bodies_related d h h' hs place g _ types vs g.body

  through_related : (d : ℕ) (h h' : Defined) (hs : DefinedRel d h h') → CalleeRel j d (call_through core h) (call_through core h')
  through_related d h h' hs place null_place Null type types vs = ends_related j d _
  through_related d h h' hs place null_place (Code (Numbered id)) type types vs = functions_related d h h' hs place type types vs (unit.function_by_id core.functions id)
  through_related d h h' hs place null_place (Code (Named name)) type types vs = ends_related j d _
  through_related d h h' hs place null_place (Number value) type types vs = ends_related j d _
  through_related d h h' hs place null_place (Address block offset) type types vs = ends_related j d _

  pub defined_related : (b e : ℕ) → b ≤ e → DefinedRel b (call_defined core b) (call_defined core e)
  defined_related zero zero be place g fits vs = late_related j (ends Out) (λ s none. refl)
  defined_related zero (suc e) be place g fits vs = late_related j (call_defined core (suc e) place g fits vs) (turn_is_late _)
  defined_related (suc b) zero be place g fits vs = absurd (omega (arith, be))
  defined_related (suc b) (suc e) be place g fits vs =
      turn_related j b _ _
      (if_related j b fits _ _ _ _
      (entering b e (omega (arith, be)) (call_through core (call_defined core b)) (call_through core (call_defined core e))
      (through_related b (call_defined core b) (call_defined core e) (defined_related b e (omega (arith, be)))) g.body g.parameters vs)
      (ends_related j b _))
