-- Defers as a list: what a block has deferred so far, the newest first, which runs when control leaves the
-- block, however it does.
use Rattle.std.specs.Prelude.{ℕ, List, [], ◌∷◌}
use Rattle.model_runs.specs.Run.{Act, ◌▷◌, just, Flow, Falls}
use Rattle.model_runs.specs.SourceFrame.{Frame}
use Rattle.model_runs.specs.SourceStatements.{perform}
use Rattle.model_core.specs.Core as unit

-- control leaves a block with what it has deferred
abbrev pub leaving : List (Act Flow) → Flow → Act Flow
leaving [] flow = just flow
leaving (newest ∷ older) flow = newest ▷ (λ other. leaving older flow)

-- behind a statement: what stands there, or control leaves
abbrev pub on_or_leaving : Flow → Act Flow → List (Act Flow) → Act Flow
on_or_leaving Falls rest deferred = rest
on_or_leaving flow rest deferred = leaving deferred flow

-- the statements of a block that has deferred these
abbrev pub perform_with : Frame → (bound : ℕ) → unit.Stats → List (Act Flow) → Act Flow
perform_with f bound unit.no_stats deferred = leaving deferred Falls
perform_with f bound (unit.more_stats (unit.Defer body place span) stats) deferred = perform_with f bound stats (perform f bound body ∷ deferred)
perform_with f bound (unit.more_stats stat stats) deferred =
    perform f bound stat ▷ (λ flow. on_or_leaving flow (perform_with f bound stats deferred) deferred)
