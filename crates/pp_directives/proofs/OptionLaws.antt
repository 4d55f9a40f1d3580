-- The definitions of the command, line by line.
use Rattle.std.proofs.Common.{◌≡◌, ℕ, ◌+◌, List, [], ◌∷◌, ◌++◌, drop, slice_get, Option, Some, None, refl, ap, sym, ◌∙◌, append_assoc}
use Rattle.std.specs.Option.{option_map}
use Rattle.model_preprocessing.specs.PreprocessedUnit.{command_lines, define_text}
use Rattle.pp_lines.proofs.RankLaws.{at_rank-plus}

pair-read : (o : Option (List ℕ × List ℕ)) (n v : List ℕ) → Some n ≡ option_map (λ d. d.0) o → Some v ≡ option_map (λ d. d.1) o → o ≡ Some (n, v)
pair-read None n v h i = cc
pair-read (Some d) n v h i =
    let a : d.0 ≡ n = cc in
    let b : d.1 ≡ v = cc in
    ap (λ (z : List ℕ). let p : List ℕ × List ℕ = (z, d.1) in Some p) a ∙ ap (λ (z : List ℕ). let p : List ℕ × List ℕ = (n, z) in Some p) b

pub define-step : (ds : List (List ℕ × List ℕ)) (at : ℕ) (n v text more whole : List ℕ) → Some n ≡ option_map (λ d. d.0) (slice_get ds at) → Some v ≡ option_map (λ d. d.1) (slice_get ds at) →
    more ≡ text ++ define_text (n, v) → text ++ command_lines (drop at ds) ≡ whole → more ++ command_lines (drop (at + 1) ds) ≡ whole
define-step ds at n v text more whole name value new so_far =
    let here = pair-read (slice_get ds at) n v name value in
    ap (λ z. z ++ command_lines (drop (at + 1) ds)) new ∙ append_assoc text (define_text (n, v)) (command_lines (drop (at + 1) ds))
    ∙ ap (λ z. text ++ command_lines z) (sym (at_rank-plus ds at (n, v) here)) ∙ so_far
