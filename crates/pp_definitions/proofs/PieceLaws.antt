-- The reading of a replacement list, one token after another.
use Rattle.std.proofs.Common.{◌≡◌, ℕ, zero, suc, ◌+◌, Bool, true, false, List, [], ◌∷◌, ◌++◌, drop, Some, refl, ap, sym, ◌∙◌, not, ◌||◌, ◌&&◌, append_assoc, append-nil, slice_get}
use Rattle.model_tokens.specs.PpTokens.{PpToken}
use Rattle.model_macros.specs.declared.macros.Role.{Role}
use Rattle.model_macros.specs.Macros.{Piece, spells}
use Rattle.model_macros.specs.MacroDefinitions.{lone_hash}
use Rattle.model_macros.specs.ReplacementLists.{Signature, next_of, HASH, quotable, role_after, depth_after, pieces_from}
use Rattle.pp_definitions.proofs.HeadingLaws.{drop-get}

pub next_of-drop : (ts : List PpToken) (i : ℕ) → next_of (drop i ts) ≡ slice_get ts i
next_of-drop [] zero = refl
next_of-drop [] (suc i) = refl
next_of-drop (t ∷ ts) zero = refl
next_of-drop (t ∷ ts) (suc i) = next_of-drop ts i

pub pieces-step : (s : Signature) (last role : Role) (depth depth' : ℕ) (line : List PpToken) (at : ℕ) (t : PpToken) (row row' X : List Piece) → Some t ≡ slice_get line at →
    role ≡ role_after s last depth t (slice_get line (at + 1)) → row' ≡ row ++ (record { tok = t; role = role }) ∷ [] → depth' ≡ depth_after role depth t →
    row ++ pieces_from s last depth (drop at line) ≡ X → row' ++ pieces_from s role depth' (drop (at + 1) line) ≡ X
pieces-step s last role depth depth' line at t row row' X h is pushed deep inv =
    let r : role_after s last depth t (next_of (drop (at + 1) line)) ≡ role = ap (role_after s last depth t) (next_of-drop line (at + 1)) ∙ sym is in
    ap (λ (z : List Piece). z ++ pieces_from s role depth' (drop (at + 1) line)) pushed
    ∙ append_assoc row ((record { tok = t; role = role }) ∷ []) (pieces_from s role depth' (drop (at + 1) line))
    ∙ ap (λ d. row ++ (record { tok = t; role = role }) ∷ pieces_from s role d (drop (at + 1) line)) deep
    ∙ ap (λ q. row ++ (record { tok = t; role = q }) ∷ pieces_from s q (depth_after q depth t) (drop (at + 1) line)) (sym r)
    ∙ ap (λ ts. row ++ pieces_from s last depth ts) (sym (drop-get line at t h)) ∙ inv

pub pieces-past : (s : Signature) (last : Role) (depth : ℕ) (line : List PpToken) (at : ℕ) (row X : List Piece) → drop at line ≡ [] →
    row ++ pieces_from s last depth (drop at line) ≡ X → row ≡ X
pieces-past s last depth line at row X h inv = sym (append-nil row) ∙ ap (λ ts. row ++ pieces_from s last depth ts) (sym h) ∙ inv

-- one token of the search for a lone `#`
pub lone_hash-step : (s : Signature) (line : List PpToken) (at : ℕ) (t : PpToken) (b : Bool) (X : Bool) → Some t ≡ slice_get line at →
    b ≡ (spells HASH t && not (quotable s (slice_get line (at + 1)))) → lone_hash s (drop at line) ≡ X → (b || lone_hash s (drop (at + 1) line)) ≡ X
lone_hash-step s line at t b X h is inv =
    ap (λ z. z || lone_hash s (drop (at + 1) line)) (is ∙ ap (λ o. spells HASH t && not (quotable s o)) (sym (next_of-drop line (at + 1))))
    ∙ ap (lone_hash s) (sym (drop-get line at t h)) ∙ inv

pub lone_hash-found : (s : Signature) (line : List PpToken) (at : ℕ) (t : PpToken) (b : Bool) (X : Bool) → Some t ≡ slice_get line at →
    b ≡ (spells HASH t && not (quotable s (slice_get line (at + 1)))) → lone_hash s (drop at line) ≡ X → b ≡ true → true ≡ X
lone_hash-found s line at t b X h is inv met = ap (λ z. z || lone_hash s (drop (at + 1) line)) (sym met) ∙ lone_hash-step s line at t b X h is inv

pub lone_hash-next : (s : Signature) (line : List PpToken) (at : ℕ) (t : PpToken) (b : Bool) (X : Bool) → Some t ≡ slice_get line at →
    b ≡ (spells HASH t && not (quotable s (slice_get line (at + 1)))) → lone_hash s (drop at line) ≡ X → b ≡ false → lone_hash s (drop (at + 1) line) ≡ X
lone_hash-next s line at t b X h is inv unmet = ap (λ z. z || lone_hash s (drop (at + 1) line)) (sym unmet) ∙ lone_hash-step s line at t b X h is inv
