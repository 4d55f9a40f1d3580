-- The reading of parameters, one token after another.
use Rattle.std.proofs.Common.{◌≡◌, ℕ, zero, suc, ◌+◌, ◌≤◌, Bool, true, false, List, [], ◌∷◌, ◌++◌, length, drop, Option, Some, None, refl, ap, sym, ◌∙◌, arith, cond, not, ◌||◌, append_assoc, append-nil, slice_get}
use Rattle.std.specs.Option.{is_some}
use Rattle.model_tokens.specs.PpTokens.{PpToken}
use Rattle.model_macros.specs.declared.macros.Expected.{Expected}
use Rattle.model_macros.specs.declared.macros.Expected.TheVariants.{First, Item, Next, End}
use Rattle.model_macros.specs.ReplacementLists.{rank}
use Rattle.model_macros.specs.MacroDefinitions.{Parameters, parameters, with_name, repeated}
use Rattle.pp_definitions.specs.Definitions.{after_names}

-- the rest of a list that has an item at i
pub drop-get : {A : Type 0} (xs : List A) (i : ℕ) (x : A) → Some x ≡ slice_get xs i → drop i xs ≡ x ∷ drop (i + 1) xs
drop-get [] i x h = cc
drop-get {A} (y ∷ ys) zero x h = let e : y ≡ x = cc in ap (λ (q : A). q ∷ ys) e
drop-get (y ∷ ys) (suc i) x h = let z : suc i + 1 ≡ suc (i + 1) = omega arith in rw z (drop-get ys i x h)

pub drop-end : {A : Type 0} (xs : List A) (i : ℕ) → length xs ≤ i → drop i xs ≡ []
drop-end [] zero h = refl
drop-end [] (suc i) h = refl
drop-end (x ∷ xs) zero h = absurd (omega (arith, h))
drop-end (x ∷ xs) (suc i) h = drop-end xs i (omega (arith, h))

pub none-past : {A : Type 0} (xs : List A) (i : ℕ) → None ≡ slice_get xs i → drop i xs ≡ []
none-past [] zero h = refl
none-past [] (suc i) h = refl
none-past (x ∷ xs) zero h = cc
none-past (x ∷ xs) (suc i) h = none-past xs i h

pub parameters-nil : (e : Expected) → parameters e [] ≡ None
parameters-nil First = refl
parameters-nil Item = refl
parameters-nil Next = refl
parameters-nil End = refl

-- a new name
pub after_names-new : (seen : List (List ℕ)) (n : List ℕ) (o : Option Parameters) → is_some (rank n seen) ≡ false → after_names seen (with_name n o) ≡ after_names (seen ++ n ∷ []) o
after_names-new seen n None h = refl
after_names-new seen n (Some p) h =
    let one : (is_some (rank n seen) || repeated (seen ++ n ∷ []) p.names) ≡ repeated (seen ++ n ∷ []) p.names = rw h refl in
    ap (λ b. cond b None (Some (record p { names = seen ++ n ∷ p.names }))) one
    ∙ ap (λ ns. cond (repeated (seen ++ n ∷ []) p.names) None (Some (record p { names = ns }))) (sym (append_assoc seen (n ∷ []) p.names))

-- a name that stood before
pub after_names-again : (seen : List (List ℕ)) (n : List ℕ) (o : Option Parameters) → is_some (rank n seen) ≡ true → after_names seen (with_name n o) ≡ None
after_names-again seen n None h = refl
after_names-again seen n (Some p) h = rw h refl

-- ---- one token of the line, where `from` on the parameters are X

pub met-name : (seen : List (List ℕ)) (e : Expected) (line : List PpToken) (at : ℕ) (t : PpToken) (X : Option Parameters) → Some t ≡ slice_get line at →
    ((ts : List PpToken) → parameters e (t ∷ ts) ≡ with_name t.spelling (parameters Next ts)) → after_names seen (parameters e (drop at line)) ≡ X →
    after_names seen (with_name t.spelling (parameters Next (drop (at + 1) line))) ≡ X
met-name seen e line at t X h m inv =
    ap (after_names seen) (sym (m (drop (at + 1) line))) ∙ ap (λ ts. after_names seen (parameters e ts)) (sym (drop-get line at t h)) ∙ inv

pub met-new : (seen : List (List ℕ)) (e : Expected) (line : List PpToken) (at : ℕ) (t : PpToken) (X : Option Parameters) → Some t ≡ slice_get line at →
    ((ts : List PpToken) → parameters e (t ∷ ts) ≡ with_name t.spelling (parameters Next ts)) → is_some (rank t.spelling seen) ≡ false → after_names seen (parameters e (drop at line)) ≡ X →
    after_names (seen ++ t.spelling ∷ []) (parameters Next (drop (at + 1) line)) ≡ X
met-new seen e line at t X h m new inv = sym (after_names-new seen t.spelling (parameters Next (drop (at + 1) line)) new) ∙ met-name seen e line at t X h m inv

pub met-again : (seen : List (List ℕ)) (e : Expected) (line : List PpToken) (at : ℕ) (t : PpToken) (X : Option Parameters) → Some t ≡ slice_get line at →
    ((ts : List PpToken) → parameters e (t ∷ ts) ≡ with_name t.spelling (parameters Next ts)) → is_some (rank t.spelling seen) ≡ true → after_names seen (parameters e (drop at line)) ≡ X →
    X ≡ None
met-again seen e line at t X h m again inv = sym (met-name seen e line at t X h m inv) ∙ after_names-again seen t.spelling (parameters Next (drop (at + 1) line)) again

pub met-onward : (seen : List (List ℕ)) (e f : Expected) (line : List PpToken) (at : ℕ) (t : PpToken) (X : Option Parameters) → Some t ≡ slice_get line at →
    ((ts : List PpToken) → parameters e (t ∷ ts) ≡ parameters f ts) → after_names seen (parameters e (drop at line)) ≡ X → after_names seen (parameters f (drop (at + 1) line)) ≡ X
met-onward seen e f line at t X h m inv =
    ap (after_names seen) (sym (m (drop (at + 1) line))) ∙ ap (λ ts. after_names seen (parameters e ts)) (sym (drop-get line at t h)) ∙ inv

pub met-answer : (seen : List (List ℕ)) (e : Expected) (line : List PpToken) (at : ℕ) (t : PpToken) (X o : Option Parameters) → Some t ≡ slice_get line at →
    parameters e (t ∷ drop (at + 1) line) ≡ o → after_names seen (parameters e (drop at line)) ≡ X → X ≡ after_names seen o
met-answer seen e line at t X o h m inv =
    sym inv ∙ ap (λ ts. after_names seen (parameters e ts)) (drop-get line at t h) ∙ ap (after_names seen) m

pub met-end : (seen : List (List ℕ)) (e : Expected) (line : List PpToken) (at : ℕ) (t : PpToken) (X : Option Parameters) (variadic : Bool) → Some t ≡ slice_get line at →
    ((ts : List PpToken) → parameters e (t ∷ ts) ≡ Some (record { names = []; variadic = variadic; rest = ts })) → after_names seen (parameters e (drop at line)) ≡ X →
    X ≡ Some (record { names = seen; variadic = variadic; rest = drop (at + 1) line })
met-end seen e line at t X variadic h m inv =
    met-answer seen e line at t X _ h (m (drop (at + 1) line)) inv ∙ ap (λ ns. Some (record { names = ns; variadic = variadic; rest = drop (at + 1) line })) (append-nil seen)

pub met-wrong : (seen : List (List ℕ)) (e : Expected) (line : List PpToken) (at : ℕ) (t : PpToken) (X : Option Parameters) → Some t ≡ slice_get line at →
    ((ts : List PpToken) → parameters e (t ∷ ts) ≡ None) → after_names seen (parameters e (drop at line)) ≡ X → X ≡ None
met-wrong seen e line at t X h m inv = met-answer seen e line at t X None h (m (drop (at + 1) line)) inv

pub met-past : (seen : List (List ℕ)) (e : Expected) (line : List PpToken) (at : ℕ) (X : Option Parameters) → drop at line ≡ [] → after_names seen (parameters e (drop at line)) ≡ X → X ≡ None
met-past seen e line at X h inv = sym inv ∙ ap (λ ts. after_names seen (parameters e ts)) h ∙ ap (after_names seen) (parameters-nil e)

-- what a test of `add` tells
pub not-new : (new known : Bool) → new ≡ not known → new ≡ false → known ≡ true
not-new new true e h = refl
not-new new false e h = let z : false ≡ true = sym h ∙ e in cc

pub is-new : (new known : Bool) → new ≡ not known → new ≡ true → known ≡ false
is-new new false e h = refl
is-new new true e h = let z : true ≡ false = sym h ∙ e in cc

-- the state of the loop after a token
pub met-goes : (seen seen' : List (List ℕ)) (e e' : Expected) (rest : List PpToken) (X : Option Parameters) → seen' ≡ seen → e' ≡ e →
    after_names seen (parameters e rest) ≡ X → after_names seen' (parameters e' rest) ≡ X
met-goes seen seen' e e' rest X p q h = ap (λ ns. after_names ns (parameters e' rest)) p ∙ ap (λ f. after_names seen (parameters f rest)) q ∙ h
