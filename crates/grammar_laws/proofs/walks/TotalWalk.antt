-- The walk through the parser's table ends, wherever it begins: it reads what it looks for, or fails.
use Rattle.std.proofs.Common.{◌≡◌, ℕ, zero, suc, ◌+◌, ◌*◌, ◌<◌, ◌≤◌, Bool, true, false, not, ◌&&◌, List, [], ◌∷◌, ◌++◌, length, refl, ap, arith}
use Rattle.std.specs.Prelude.{max, if◌then◌else◌}
use mathlib.Core.Logic.{inl, inr}
use Rattle.model_grammar.specs.declared.grammar.Rule.{Rule}
use Rattle.model_grammar.specs.declared.grammar.Test.{Test}
use Rattle.model_grammar.specs.declared.grammar.Terminal.{Terminal}
use Rattle.model_grammar.specs.declared.grammar.Tree.{Tree}
use Rattle.model_grammar.specs.GrammarForm.{Form, word, rule, empty, ◌then◌, ◌or◌, maybe, many, when, loop, mem}
use Rattle.model_grammar.specs.NameScopes.{Scopes, kind}
use Rattle.grammar_laws.specs.FirstTokens.{nullable, first}
use Rattle.grammar_laws.specs.apparatus.DecidedTable.{leads, apart, decided}
use Rattle.grammar_laws.specs.apparatus.LeftWeights.{weight, heaviest, IsWalkable}
use Rattle.grammar_laws.specs.ParserWalk.{Reads, Fails, ahead, goes_left}
use Rattle.grammar_laws.specs.ParserTable.{table}
use Rattle.grammar_laws.specs.ParserSets.{tables, follows}
use Rattle.grammar_laws.specs.ParserTests.{parsed, passes}
use Rattle.grammar_laws.proofs.kinds.KindSets.{and_left, and_right, not_true, clash}
use Rattle.grammar_laws.proofs.walks.DecidedDerivations.{step, sound, within_rule}
use Rattle.grammar_laws.proofs.walks.ParserDecided.{quiet, checked}
use Rattle.grammar_laws.proofs.walks.TableWeights.{lighter, small}

-- ---- what a form has, its parts have

pub rule_walkable : (n : Rule) → IsWalkable (table n)
rule_walkable n = ((follows n, within_rule tables parsed quiet checked n), small n)

pub then_walkable : (f g : Form) → IsWalkable (f then g) → IsWalkable f × IsWalkable g
unfolding decided heaviest
then_walkable f g d = let h : max (weight (f then g)) (max (heaviest f) (heaviest g)) ≤ 255 = d.1 in
    (((leads tables g d.0.0, and_left _ (decided tables g d.0.0) d.0.1), omega (arith, h)), ((d.0.0, and_right (decided tables f (leads tables g d.0.0)) _ d.0.1), omega (arith, h)))

pub or_walkable : (f g : Form) → IsWalkable (f or g) → IsWalkable f × IsWalkable g
unfolding decided heaviest
or_walkable f g d = let h : max (weight (f or g)) (max (heaviest f) (heaviest g)) ≤ 255 = d.1 in
    (((d.0.0, and_right (apart tables (leads tables f d.0.0) (leads tables g d.0.0)) _ (and_left _ (decided tables g d.0.0) d.0.1)), omega (arith, h)), ((d.0.0, and_right (apart tables (leads tables f d.0.0) (leads tables g d.0.0) && decided tables f d.0.0) _ d.0.1), omega (arith, h)))

pub when_walkable : (p : Test) (f g : Form) → IsWalkable (when p f g) → IsWalkable f × IsWalkable g
unfolding decided heaviest
when_walkable p f g d = let h : max (weight (when p f g)) (max (heaviest f) (heaviest g)) ≤ 255 = d.1 in
    (((d.0.0, and_left _ (decided tables g d.0.0) d.0.1), omega (arith, h)), ((d.0.0, and_right (decided tables f d.0.0) _ d.0.1), omega (arith, h)))

pub maybe_walkable : (f : Form) → IsWalkable (maybe f) → IsWalkable f
unfolding decided heaviest
maybe_walkable f d = let h : max (weight f + 1) (heaviest f) ≤ 255 = d.1 in ((d.0.0, and_right (not (nullable tables f) && apart tables (first tables f) d.0.0) _ d.0.1), omega (arith, h))

pub many_walkable : (f : Form) → IsWalkable (many f) → IsWalkable f
unfolding decided heaviest
many_walkable f d =
    let h : max (weight f + 1) (heaviest f) ≤ 255 = d.1 in ((first tables f ++ d.0.0, and_right (not (nullable tables f) && apart tables (first tables f) d.0.0) _ d.0.1), omega (arith, h))

pub loop_walkable : (p : Test) (f : Form) → IsWalkable (loop p f) → IsWalkable f
unfolding decided heaviest
loop_walkable p f d = let h : max (weight f + 1) (heaviest f) ≤ 255 = d.1 in ((first tables f ++ d.0.0, and_right (not (nullable tables f)) _ d.0.1), omega (arith, h))

-- ---- the measure falls

pub many_moves : (f : Form) {s new : Scopes} {ts rest : List Terminal} {xs : List Tree} → IsWalkable (many f) → Reads tables parsed f s ts xs new rest → length rest < length ts
unfolding decided
many_moves f c p = elim (step tables parsed quiet checked (sound tables parsed quiet checked p)) [
  | inl m ↦ m.shorter
  | inr m ↦ absurd (clash _ m.hollow (not_true _ (and_left _ (apart tables (first tables f) c.0.0) (and_left _ (decided tables f (first tables f ++ c.0.0)) c.0.1))))
]

pub loop_moves : (q : Test) (f : Form) {s new : Scopes} {ts rest : List Terminal} {xs : List Tree} → IsWalkable (loop q f) → Reads tables parsed f s ts xs new rest → length rest < length ts
unfolding decided
loop_moves q f c p = elim (step tables parsed quiet checked (sound tables parsed quiet checked p)) [
  | inl m ↦ m.shorter
  | inr m ↦ absurd (clash _ m.hollow (not_true _ (and_left _ (decided tables f (first tables f ++ c.0.0)) c.0.1)))
]

pub falls_rule : (m t : ℕ) (n : Rule) → m * 256 + weight (rule n) ≤ t → m * 256 + weight (table n) < t
unfolding weight
falls_rule m t n h = let l = lighter n in omega (arith, l, h)

pub falls_first : (m t : ℕ) (f g : Form) → m * 256 + weight (f then g) ≤ t → m * 256 + weight f < t
unfolding weight
falls_first m t f g h = by (nullable tables f) h
  where
    by : (b : Bool) → m * 256 + ((if b then max (weight f) (weight g) else weight f) + 1) ≤ t → m * 256 + weight f < t
    by true h = omega (arith, h)
    by false h = omega (arith, h)

light : (f : Form) → weight f ≤ heaviest f
unfolding weight heaviest
light (word ks a) = omega arith
light (rule n) = omega arith
light empty = omega arith
light (f then g) = omega arith
light (f or g) = omega arith
light (maybe f) = omega arith
light (many f) = omega arith
light (when p f g) = omega arith
light (loop p f) = omega arith

pub falls_second : (m k t : ℕ) (f g : Form) {s mid : Scopes} {ts later : List Terminal} {xs : List Tree} → IsWalkable (f then g)
    → Reads tables parsed f s ts xs mid later → m ≡ length ts → k ≡ length later → m * 256 + weight (f then g) ≤ t → k * 256 + weight g < t
unfolding weight
falls_second m k t f g {ts = ts} {later = later} c p e q h = elim (step tables parsed quiet checked (sound tables parsed quiet checked p)) [
  | inl n ↦ let a = n.shorter in let b = light g in let d = (then_walkable f g c).1.1 in omega (arith, a, b, d, e, q, h)
  | inr n ↦ let a = ap length n.place in stays (nullable tables f) n.hollow a h
]
  where
    stays : (b : Bool) → b ≡ true → length later ≡ length ts → m * 256 + ((if b then max (weight f) (weight g) else weight f) + 1) ≤ t → k * 256 + weight g < t
    stays true z a h = omega (arith, a, e, q, h)
    stays false z a h = absurd (cc)

pub falls_or : (m t : ℕ) (f g : Form) → m * 256 + weight (f or g) ≤ t → (m * 256 + weight f < t) × (m * 256 + weight g < t)
unfolding weight
falls_or m t f g h = (omega (arith, h), omega (arith, h))

pub falls_when : (m t : ℕ) (p : Test) (f g : Form) → m * 256 + weight (when p f g) ≤ t → (m * 256 + weight f < t) × (m * 256 + weight g < t)
unfolding weight
falls_when m t p f g h = (omega (arith, h), omega (arith, h))

pub falls_maybe : (m t : ℕ) (f : Form) → m * 256 + weight (maybe f) ≤ t → m * 256 + weight f < t
unfolding weight
falls_maybe m t f h = omega (arith, h)

pub falls_many : (m k t : ℕ) (f : Form) → k ≤ m → m * 256 + weight (many f) ≤ t → k * 256 + weight f < t
unfolding weight
falls_many m k t f l h = omega (arith, l, h)

pub falls_loop : (m k t : ℕ) (p : Test) (f : Form) → k ≤ m → m * 256 + weight (loop p f) ≤ t → k * 256 + weight f < t
unfolding weight
falls_loop m k t p f l h = omega (arith, l, h)

-- ---- the walk

pub data Outcome : Form → Scopes → List Terminal → Type 0 where
  read : {f : Form} {s new : Scopes} {ts rest : List Terminal} {xs : List Tree} → Reads tables parsed f s ts xs new rest → Outcome f s ts
  failed : {f : Form} {s : Scopes} {ts rest : List Terminal} → Fails tables parsed f s ts rest → Outcome f s ts

of_word : (ks : List ℕ) (s : Scopes) (t : Terminal) (ts : List Terminal) (a : _) (b : Bool) → mem (kind s t) ks ≡ b → Outcome (word ks a) s (t ∷ ts)
of_word ks s t ts a true e = read (Reads.a_word e)
of_word ks s t ts a false e = failed (Fails.at_word e)

of_rule : (n : Rule) {s : Scopes} {ts : List Terminal} → Outcome (table n) s ts → Outcome (rule n) s ts
of_rule n (read p) = read (Reads.a_rule p)
of_rule n (failed p) = failed (Fails.in_rule p)

of_then : {f g : Form} {s mid : Scopes} {ts later : List Terminal} {xs : List Tree} → Reads tables parsed f s ts xs mid later → Outcome g mid later → Outcome (f then g) s ts
of_then p (read q) = read (Reads.both p q refl)
of_then p (failed q) = failed (Fails.in_then p q)

joined : {f g : Form} {s : Scopes} {ts : List Terminal} → Outcome f s ts
    → ((mid : Scopes) (later : List Terminal) (xs : List Tree) → Reads tables parsed f s ts xs mid later → Outcome g mid later) → Outcome (f then g) s ts
joined (read p) h = of_then p (h _ _ _ p)
joined (failed p) h = failed (Fails.in_first p)

of_left : {f g : Form} {s : Scopes} {ts : List Terminal} → goes_left tables parsed f g (ahead tables parsed s ts) ≡ true → Outcome f s ts → Outcome (f or g) s ts
of_left b (read p) = read (Reads.left b p)
of_left b (failed p) = failed (Fails.in_left b p)

of_right : {f g : Form} {s : Scopes} {ts : List Terminal} → goes_left tables parsed f g (ahead tables parsed s ts) ≡ false → Outcome g s ts → Outcome (f or g) s ts
of_right b (read p) = read (Reads.right b p)
of_right b (failed p) = failed (Fails.in_right b p)

of_maybe : {f : Form} {s : Scopes} {ts : List Terminal} → mem (ahead tables parsed s ts) (first tables f) ≡ true → Outcome f s ts → Outcome (maybe f) s ts
of_maybe b (read p) = read (Reads.take b p)
of_maybe b (failed p) = failed (Fails.in_maybe b p)

of_turn : {f : Form} {s mid : Scopes} {ts later : List Terminal} {xs : List Tree} → mem (ahead tables parsed s ts) (first tables f) ≡ true
    → Reads tables parsed f s ts xs mid later → Outcome (many f) mid later → Outcome (many f) s ts
of_turn b p (read q) = read (Reads.turn b p q refl)
of_turn b p (failed q) = failed (Fails.in_later b p q)

turned : {f : Form} {s : Scopes} {ts : List Terminal} → mem (ahead tables parsed s ts) (first tables f) ≡ true → Outcome f s ts
    → ((mid : Scopes) (later : List Terminal) (xs : List Tree) → Reads tables parsed f s ts xs mid later → Outcome (many f) mid later) → Outcome (many f) s ts
turned b (read p) h = of_turn b p (h _ _ _ p)
turned b (failed p) h = failed (Fails.in_turn b p)

of_chosen : {p : Test} {f g : Form} {s : Scopes} {ts : List Terminal} → passes p s ts ≡ true → Outcome f s ts → Outcome (when p f g) s ts
of_chosen b (read p) = read (Reads.chosen b p)
of_chosen b (failed p) = failed (Fails.in_chosen b p)

of_other : {p : Test} {f g : Form} {s : Scopes} {ts : List Terminal} → passes p s ts ≡ false → Outcome g s ts → Outcome (when p f g) s ts
of_other b (read p) = read (Reads.other b p)
of_other b (failed p) = failed (Fails.in_other b p)

of_again : {p : Test} {f : Form} {s mid : Scopes} {ts later : List Terminal} {xs : List Tree} → passes p s ts ≡ true → Reads tables parsed f s ts xs mid later
    → Outcome (loop p f) mid later → Outcome (loop p f) s ts
of_again b p (read q) = read (Reads.again b p q refl)
of_again b p (failed q) = failed (Fails.in_further b p q)

again : {p : Test} {f : Form} {s : Scopes} {ts : List Terminal} → passes p s ts ≡ true → Outcome f s ts
    → ((mid : Scopes) (later : List Terminal) (xs : List Tree) → Reads tables parsed f s ts xs mid later → Outcome (loop p f) mid later)
    → Outcome (loop p f) s ts
again b (read p) h = of_again b p (h _ _ _ p)
again b (failed p) h = failed (Fails.in_again b p)

of_or : (f g : Form) {s : Scopes} {ts : List Terminal} (b : Bool) → goes_left tables parsed f g (ahead tables parsed s ts) ≡ b → Outcome f s ts → Outcome g s ts → Outcome (f or g) s ts
of_or f g true e a b = of_left e a
of_or f g false e a b = of_right e b

maybe_one : (f : Form) {s : Scopes} {ts : List Terminal} (b : Bool) → mem (ahead tables parsed s ts) (first tables f) ≡ b → Outcome f s ts → Outcome (maybe f) s ts
maybe_one f true e a = of_maybe e a
maybe_one f false e a = read (Reads.skip e)

any_turns : (f : Form) {s : Scopes} {ts : List Terminal} (b : Bool) → mem (ahead tables parsed s ts) (first tables f) ≡ b → Outcome f s ts
    → ((mid : Scopes) (later : List Terminal) (xs : List Tree) → Reads tables parsed f s ts xs mid later → Outcome (many f) mid later) → Outcome (many f) s ts
any_turns f true e a h = turned e a h
any_turns f false e a h = read (Reads.stop e)

of_when : (p : Test) (f g : Form) {s : Scopes} {ts : List Terminal} (b : Bool) → passes p s ts ≡ b → Outcome f s ts → Outcome g s ts → Outcome (when p f g) s ts
of_when p f g true e a b = of_chosen e a
of_when p f g false e a b = of_other e b

any_again : (p : Test) (f : Form) {s : Scopes} {ts : List Terminal} (b : Bool) → passes p s ts ≡ b → Outcome f s ts
    → ((mid : Scopes) (later : List Terminal) (xs : List Tree) → Reads tables parsed f s ts xs mid later → Outcome (loop p f) mid later)
    → Outcome (loop p f) s ts
any_again p f true e a h = again e a h
any_again p f false e a h = read (Reads.done e)

-- below n
below : (a n : ℕ) → a < suc n → a ≤ n
below a n h = omega (arith, h)

shorter : (m k w n : ℕ) → k < m → m * 256 + w ≤ n → k * 256 + w < n
shorter m k w n l h = omega (arith, l, h)

same : (m : ℕ) → m ≤ m
same m = omega arith

pub walk : (n : ℕ) (f : Form) (s : Scopes) (ts : List Terminal) → length ts * 256 + weight f < n → IsWalkable f → Outcome f s ts
walk zero f s ts h c = absurd (omega (arith, h))
walk (suc n) (word ks a) s [] h c = failed Fails.at_end
walk (suc n) (word ks a) s (t ∷ ts) h c = of_word ks s t ts a (mem (kind s t) ks) refl
walk (suc n) (rule r) s ts h c = of_rule r (walk n (table r) s ts (falls_rule _ _ r (below _ n h)) (rule_walkable r))
walk (suc n) empty s ts h c = read Reads.nothing
walk (suc n) (f then g) s ts h c =
    joined (walk n f s ts (falls_first _ _ f g (below _ n h)) (then_walkable f g c).0)
    (λ mid later xs p. walk n g mid later (falls_second _ _ _ f g c p refl refl (below _ n h)) (then_walkable f g c).1)
walk (suc n) (f or g) s ts h c =
    of_or f g (goes_left tables parsed f g (ahead tables parsed s ts)) refl (walk n f s ts (falls_or _ _ f g (below _ n h)).0 (or_walkable f g c).0)
    (walk n g s ts (falls_or _ _ f g (below _ n h)).1 (or_walkable f g c).1)
walk (suc n) (maybe f) s ts h c = maybe_one f (mem (ahead tables parsed s ts) (first tables f)) refl (walk n f s ts (falls_maybe _ _ f (below _ n h)) (maybe_walkable f c))
walk (suc n) (many f) s ts h c =
    any_turns f (mem (ahead tables parsed s ts) (first tables f)) refl (walk n f s ts (falls_many _ _ _ f (same _) (below _ n h)) (many_walkable f c))
    (λ mid later xs p. walk n (many f) mid later (shorter _ _ _ _ (many_moves f c p) (below _ n h)) c)
walk (suc n) (when p f g) s ts h c =
    of_when p f g (passes p s ts) refl (walk n f s ts (falls_when _ _ p f g (below _ n h)).0 (when_walkable p f g c).0) (walk n g s ts (falls_when _ _ p f g (below _ n h)).1 (when_walkable p f g c).1)
walk (suc n) (loop p f) s ts h c =
    any_again p f (passes p s ts) refl (walk n f s ts (falls_loop _ _ _ p f (same _) (below _ n h)) (loop_walkable p f c))
    (λ mid later xs q. walk n (loop p f) mid later (shorter _ _ _ _ (loop_moves p f c q) (below _ n h)) c)

-- from any form that may be walked
pub ends : (f : Form) (s : Scopes) (ts : List Terminal) → IsWalkable f → Outcome f s ts
ends f s ts c = walk (length ts * 256 + weight f + 1) f s ts (omega arith) c
