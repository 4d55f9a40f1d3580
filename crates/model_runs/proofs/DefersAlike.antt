-- The rest of a block and then what is deferred is the same as a list of what is deferred.
use Rattle.std.proofs.Common.{◌≡◌, ℕ, List, [], ◌∷◌, refl, sym, ◌∙◌}
use Rattle.model_runs.specs.Run.{State, Step, Goes, Ends, Act, ◌▷◌, just, follow, Flow, Falls, Breaks, Continues, Gives, then_do}
use Rattle.model_runs.specs.SourceFrame.{Frame}
use Rattle.model_runs.specs.SourceStatements.{perform, perform_all}
use Rattle.model_runs.specs.DefersInList.{leaving, on_or_leaving, perform_with}
use Rattle.model_core.specs.Core as unit

-- the end of a run stays one
nothing_left : (m : Step Flow) → follow m just ≡ m
nothing_left (Goes flow s) = refl
nothing_left (Ends ending s) = refl

-- behind a statement that isn't deferred
behind : (m : Step Flow) (rest rest' : Act Flow) (deferred : List (Act Flow)) → ((s : State) → follow (rest s) (leaving deferred) ≡ rest' s) → follow (follow m (λ flow. then_do flow rest)) (leaving deferred) ≡ follow m (λ flow. on_or_leaving flow rest' deferred)
behind (Goes Falls s) rest rest' deferred same = same s
behind (Goes Breaks s) rest rest' deferred same = refl
behind (Goes Continues s) rest rest' deferred same = refl
behind (Goes (Gives v) s) rest rest' deferred same = refl
behind (Ends ending s) rest rest' deferred same = refl

keeps_flow : (m : Step Flow) (flow : Flow) (deferred : List (Act Flow)) → follow (follow m (λ other. just flow)) (leaving deferred) ≡ follow m (λ other. leaving deferred flow)
keeps_flow (Goes other s) flow deferred = refl
keeps_flow (Ends ending s) flow deferred = refl

-- behind one that is
behind_deferred : (m : Step Flow) (this : Act Flow) (deferred : List (Act Flow)) → follow (follow m (λ flow. this ▷ (λ other. just flow))) (leaving deferred) ≡ follow m (leaving (this ∷ deferred))
behind_deferred (Goes flow s) this deferred = keeps_flow (this s) flow deferred
behind_deferred (Ends ending s) this deferred = refl

alike : (f : Frame) (bound : ℕ) (stats : unit.Stats) (deferred : List (Act Flow)) (s : State) → follow (perform_all f bound stats s) (leaving deferred) ≡ perform_with f bound stats deferred s
alike f bound unit.no_stats deferred s = refl
alike f bound (unit.more_stats (unit.Defer body place span) stats) deferred s =
    behind_deferred (perform_all f bound stats s) (perform f bound body) deferred ∙ alike f bound stats (perform f bound body ∷ deferred) s
alike f bound (unit.more_stats stat stats) deferred s =
    behind (perform f bound stat s) (perform_all f bound stats) (perform_with f bound stats deferred) deferred (alike f bound stats deferred)

pub defers_in_list : (f : Frame) (bound : ℕ) (stats : unit.Stats) (s : State) → perform_all f bound stats s ≡ perform_with f bound stats [] s
defers_in_list f bound stats s = sym (nothing_left (perform_all f bound stats s)) ∙ alike f bound stats [] s
