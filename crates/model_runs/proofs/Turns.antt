-- A bound on the depth of calls that is at least the turns never decides, and a run that is over stays over
-- with more turns.
use Rattle.std.proofs.Common.{◌≡◌, ◌⊎◌, ℕ, ◌+◌, ◌≤◌, ℤ, pos, Bool, List, [], ◌∷◌, Option, Some, None, refl, sym, ap, ◌∙◌, inl, inr, arith}
use Rattle.cake_base.specs.declared.places.Place.{Place}
use Rattle.model_runs.specs.Memory.{Numbered, Block, Global, Value}
use Rattle.model_runs.specs.Accesses.{is_zero_value}
use Rattle.model_core.specs.CoreTypes.{shape_of}
use Rattle.model_runs.specs.SourceFrame.{Callee, Frame}
use Rattle.model_core.specs.SourceMarks.{at_mark, expr_mark}
use Rattle.model_runs.specs.Run.{State, Step, Goes, Ends, Out, run_of, start_with}
use Rattle.model_runs.specs.SourceStart.{start_memory, no_call, placed, started, all_started}
use Rattle.model_runs.specs.SourceRun.{call_defined, call_entry, run_from, run23}
use Rattle.model_core.specs.Core as unit
use Rattle.model_runs.proofs.Related.{Rel, Over, adds, plus_none, then_related, just_related, ends_related, if_related, store_related}
use Rattle.model_runs.proofs.SourceRelated.{CalleeRel, with_callee, needed_related, evaluate_related}
use Rattle.model_runs.proofs.StatementsRelated.{defined_related}

adds_none : {A : Type 0} (l : Step A) → adds 0 l ≡ l
adds_none (Goes v s) = ap (Goes v) (plus_none 0 s refl)
adds_none (Ends ending s) = ap (Ends ending) (plus_none 0 s refl)

without_more : {A : Type 0} (t : ℕ) (l r : Step A) → Over 0 t l r → r ≡ l
without_more t l r (inl (e, bound)) = e ∙ adds_none l
without_more t l r (inr late) = late.same refl

pub bound_never_decides : (core : unit.Core) (bound other : ℕ) (place : Option Place) (g : unit.Function) (fits : Bool) (vs : List Value) (s : State) → s.turns ≤ bound → bound ≤ other → call_defined core other place g fits vs s ≡ call_defined core bound place g fits vs s
bound_never_decides core bound other place g fits vs s turns le =
    ap (call_defined core other place g fits vs) (sym (plus_none 0 s refl))
    ∙ without_more s.turns _ _ ((defined_related 0 core bound other le place g fits vs).at s turns)

no_call_related : (j d : ℕ) → CalleeRel j d no_call no_call
no_call_related j d place null_place p type types vs = ends_related j d _

placed_related : (j d : ℕ) (f : Frame) (c : Callee) (calls : CalleeRel j d f.callee c) (block : Block) (values : unit.Initials) → Rel j d (placed f block values) (placed (with_callee f c) block values)
placed_related j d f c calls block unit.no_initials = just_related j d tt
placed_related j d f c calls block (unit.more_initials path offset type e others) =
    then_related j d _ _ _ _ (needed_related j d e _ _ (evaluate_related j d f c calls e))
    (λ v. then_related j d _ _ _ _
    (if_related j d (is_zero_value v) _ _ _ _ (just_related j d tt) (store_related j d (at_mark (expr_mark e)) (shape_of f.core.structs type) block (pos offset) v))
    (λ u. placed_related j d f c calls block others))

started_related : (j d : ℕ) (core : unit.Core) (o : unit.DeclaredObject) (storage : unit.Storage) → Rel j d (started core o storage) (started core o storage)
started_related j d core o (unit.Static values) = placed_related j d (record { core = core; call = 0; callee = no_call }) no_call (no_call_related j d) (Global (Numbered o.id)) values
started_related j d core o unit.Automatic = just_related j d tt
started_related j d core o unit.Parameter = just_related j d tt
started_related j d core o unit.Declared = just_related j d tt
started_related j d core o (unit.Text bytes) = just_related j d tt

all_started_related : (j d : ℕ) (core : unit.Core) (os : List unit.DeclaredObject) → Rel j d (all_started core os) (all_started core os)
all_started_related j d core [] = just_related j d tt
all_started_related j d core (o ∷ os) = then_related j d _ _ _ _ (started_related j d core o o.storage) (λ u. all_started_related j d core os)

entry_related : (j b e : ℕ) (core : unit.Core) → b ≤ e → (g : Option unit.Function) (vs : List Value) → Rel j b (call_entry core b g vs) (call_entry core e g vs)
entry_related j b e core be None vs = ends_related j b _
entry_related j b e core be (Some g) vs = defined_related j core b e be None g _ vs

run_related : (j n : ℕ) (core : unit.Core) (entry : List ℕ) (vs : List Value) → Rel j n (run_from n core entry vs) (run_from (n + j) core entry vs)
run_related j n core entry vs =
    then_related j n _ _ _ _ (all_started_related j n core core.objects) (λ u. entry_related j n (n + j) core (omega arith) (unit.function_of core.functions entry) vs)

run_adds : (j : ℕ) (l : Step Value) → run_of (adds j l) ≡ run_of l
run_adds j (Goes v s) = refl
run_adds j (Ends ending s) = refl

over_or_out : (j t : ℕ) (l r : Step Value) → Over j t l r → ((run_of l).ending ≡ Out) ⊎ (run_of r ≡ run_of l)
over_or_out j t l r (inl (e, bound)) = inr (ap run_of e ∙ run_adds j l)
over_or_out j t l r (inr late) = inl (ap (λ x. (run_of x).ending) late.is_out)

pub over_stays_over : (n more : ℕ) (core : unit.Core) (entry : List ℕ) (arguments : List Value) (world : List ℤ) → ((run23 n core entry arguments world).ending ≡ Out) ⊎ (run23 (n + more) core entry arguments world ≡ run23 n core entry arguments world)
over_stays_over n more core entry arguments world =
    over_or_out more n _ _ ((run_related more n core entry arguments).at (start_with (start_memory core) n world) (omega arith))
