-- What the walk through the parser's table says of a list of tokens; and each list has an answer.
use Rattle.std.proofs.Common.{◌≡◌, ℕ, suc, ◌+◌, ◌-◌, ◌<◌, ◌≤◌, false, List, [], ◌∷◌, ◌++◌, length, drop, append_assoc, refl, ap, sym, subst, ◌∙◌, arith}
use Rattle.std.proofs.lemmas.Bool.{cases_lt}
use mathlib.Core.Logic.{◌⊎◌, inl, inr}
use Rattle.model_grammar.specs.declared.grammar.Terminal.{Terminal}
use Rattle.model_grammar.specs.declared.grammar.Tree.{Tree}
use Rattle.model_grammar.specs.NameScopes.{Scopes, start}
use Rattle.model_grammar.specs.Derivation.{Begins}
use Rattle.grammar_laws.specs.FaultPlace.{FaultsAt}
use Rattle.grammar_laws.specs.DepthPlace.{Mark, PassesLimit, AreShallow, IsFirstDeep, EndsDeep, max_parts, marks, marks_so_far, nothing_read}
use Rattle.grammar_laws.specs.ParserWalk.{Reads, Fails, Meets}
use Rattle.grammar_laws.specs.WalkedDerivation.{derivation, front, front_with}
use Rattle.grammar_laws.specs.ParserSets.{tables}
use Rattle.grammar_laws.specs.ParserTests.{parsed}
use Rattle.model_grammar.specs.SyntaxTree.{c_language}
use Rattle.grammar_laws.specs.UnitSyntax.{unit, IsUnit, IsFault, IsTooDeep, Walk, stuck, ended, walked, in_unit, before_fault}
use Rattle.grammar_laws.specs.OneAnswer.{HasAnswer}
use Rattle.grammar_laws.proofs.walks.DecidedDerivations.{sound, begun, read_so_far, refuted, ended as goes_no_further, first_fault, no_longer, behind}
use Rattle.grammar_laws.proofs.walks.ParserDecided.{quiet, checked}
use Rattle.grammar_laws.proofs.preferred_tree.PreferredUnits.{with_parts}
use Rattle.grammar_laws.proofs.same_language.WholeUnits.{grammar_fault}
use Rattle.grammar_laws.proofs.walks.TotalWalk.{Outcome, read, failed, ends}
use Rattle.grammar_laws.proofs.walks.MarkedWalks.{Starts, met_read, met_failed, derived_length, begun_length}
use Rattle.grammar_laws.proofs.answers.AtMostOneAnswer.{before_end, at_end, unit_walkable}

-- ---- the first fault

at_least : (n a b : ℕ) → (n < b → ⊥) → b ≤ a → a ≤ (a - b) + n
at_least n a b h l = grind arith

-- the first token with which the table can't go on, where it finds no word for it
stuck_at : (ts rest : List Terminal) → Fails tables parsed unit start ts rest → FaultsAt parsed unit start ts (length ts - length rest)
stuck_at ts rest p =
    let b = read_so_far tables parsed quiet checked p in
    let l = no_longer tables parsed quiet checked b in
    record {
      within = omega arith;
      begun = subst (λ z. Begins parsed unit start ts z) (behind tables parsed quiet checked b) b;
      no_more = λ z e. at_least (length z) (length ts) (length rest) (λ k. first_fault tables parsed quiet checked p (0 ∷ []) before_end e k) l;
      not_whole = λ xs new k. refuted tables parsed quiet checked p (0 ∷ []) before_end k (at_end new);
    }

-- likewise where it is at its end
ended_at : (ts rest : List Terminal) (t : Terminal) (xs : List Tree) (new : Scopes) → Reads tables parsed unit start ts xs new (t ∷ rest)
    → FaultsAt parsed unit start ts (length ts - length (t ∷ rest))
ended_at ts rest t xs new p =
    let b = begun tables parsed quiet checked (sound tables parsed quiet checked p) in
    let l = no_longer tables parsed quiet checked b in
    record {
      within = omega arith;
      begun = subst (λ z. Begins parsed unit start ts z) (behind tables parsed quiet checked b) b;
      no_more = λ z k. at_least (length z) (length ts) (length (t ∷ rest)) (λ h. goes_no_further tables parsed quiet checked p (0 ∷ []) before_end k h) l;
      not_whole = λ ys s k. goes_no_further tables parsed quiet checked p (0 ∷ []) before_end (begun tables parsed quiet checked k) (omega arith);
    }

fault_at : {ts rest : List Terminal} (w : Walk ts rest) → FaultsAt parsed unit start ts (length ts - length rest)
fault_at (stuck p) = stuck_at _ _ p
fault_at (ended p) = ended_at _ _ _ _ _ p

left_over : {ts rest : List Terminal} (w : Walk ts rest) → rest ≡ drop (length ts - length rest) ts
left_over (stuck p) = behind tables parsed quiet checked (read_so_far tables parsed quiet checked p)
left_over (ended p) = behind tables parsed quiet checked (begun tables parsed quiet checked (sound tables parsed quiet checked p))

marked : {ts rest : List Terminal} (w : Walk ts rest) → length (walked w) + length rest ≡ length ts
marked {ts = ts} (stuck p) = let q = begun_length parsed (front tables parsed p) false 0 nothing_read in omega (arith, q)
marked {ts = ts} (ended p) = let q = derived_length parsed (derivation tables parsed p) false 0 nothing_read in omega (arith, q)

-- under another name of the rest
record Same (ts later : List Terminal) (ms : List Mark) : Type 0 where
  pub walk : Walk ts later
  pub marks_are : walked walk ≡ ms

renamed : {ts rest : List Terminal} (w : Walk ts rest) (later : List Terminal) → rest ≡ later → Same ts later (walked w)
renamed {ts = ts} w later e = subst (λ l. Same ts l (walked w)) e (record { walk = w; marks_are = refl })

-- ---- what the marks say

pub whole : {ts rest : List Terminal} {xs : List Tree} {new : Scopes} (p : Reads tables parsed unit start ts xs new rest) → rest ≡ []
    → AreShallow (marks parsed (derivation tables parsed p)) → IsUnit ts xs
whole {ts = ts} {xs = xs} {new = new} p e h = by e p h
  where
    here : (p : Reads tables parsed unit start ts xs new []) → AreShallow (marks parsed (derivation tables parsed p)) → IsUnit ts xs
    here p h = let g = with_parts ts xs new (derivation tables parsed p) in record {
      preferred = g.preferred;
      shallow = subst AreShallow (sym g.parts) h;
    }

    by : {rest : List Terminal} → rest ≡ [] → (p : Reads tables parsed unit start ts xs new rest) → AreShallow (marks parsed (derivation tables parsed p)) → IsUnit ts xs
    by e = subst (λ z. (p : Reads tables parsed unit start ts xs new z) → AreShallow (marks parsed (derivation tables parsed p)) → IsUnit ts xs) (sym e) here

pub fault : {ts rest : List Terminal} (w : Walk ts rest) → AreShallow (walked w) → IsFault ts (length ts - length rest)
fault {ts = ts} {rest = rest} w h =
    let f = fault_at w in
    let v = renamed w (drop (length ts - length rest) ts) (left_over w) in
    record {
      first = grammar_fault ts _ f;
      walk = v.walk;
      shallow = subst AreShallow (sym v.marks_are) h;
    }

-- a mark that passes the limit stands before the end
inside : (ms : List Mark) (k : ℕ) → IsFirstDeep ms k → k < length ms
inside ms k d = let e = ap length d.split in let l = ends_there d.before d.mark d.later in let p = d.place in omega (arith, e, l, p)
  where
    ends_there : (xs : List Mark) (m : Mark) (ys : List Mark) → length xs < length (xs ++ m ∷ ys)
    ends_there [] m ys = omega arith
    ends_there (x ∷ xs) m ys = let l = ends_there xs m ys in omega (arith, l)

pub deep_before : {ts rest : List Terminal} (w : Walk ts rest) (k : ℕ) → IsFirstDeep (walked w) k → IsTooDeep ts k
deep_before {ts = ts} {rest = rest} w k d =
    let v = renamed w (drop (length ts - length rest) ts) (left_over w) in
    let l = inside (walked w) k d in
    let m = marked w in
    before_fault v.walk (grammar_fault ts _ (fault_at w)) (omega (arith, l, m)) (subst (λ z. IsFirstDeep z k) (sym v.marks_are) d)

-- it stands at a token
pub at_token : (ts : List Terminal) (k : ℕ) → IsTooDeep ts k → k < length ts
at_token ts k (in_unit p a) = let l = inside (marks c_language p.derived) k a in let m = derived_length c_language p.derived false 0 nothing_read in omega (arith, l, m)
at_token ts k (before_fault w f l a) = let m = f.within in omega (arith, l, m)

pub deep_inside : {ts rest : List Terminal} {xs : List Tree} {new : Scopes} (p : Reads tables parsed unit start ts xs new rest) (k : ℕ) → rest ≡ []
    → IsFirstDeep (marks parsed (derivation tables parsed p)) k → IsTooDeep ts k
deep_inside {ts = ts} {xs = xs} {new = new} p k e h = by e p h
  where
    by : {rest : List Terminal} → rest ≡ [] → (p : Reads tables parsed unit start ts xs new rest) → IsFirstDeep (marks parsed (derivation tables parsed p)) k → IsTooDeep ts k
    by e = subst (λ z. (p : Reads tables parsed unit start ts xs new z) → IsFirstDeep (marks parsed (derivation tables parsed p)) k → IsTooDeep ts k) (sym e) (λ p h. let g = with_parts ts xs new (derivation tables parsed p) in in_unit g.preferred (subst (λ z. IsFirstDeep z k) (sym g.parts) h))

-- ---- a walk to a token that is too deep

first_deep : (ms all : List Mark) (d : EndsDeep ms) → Starts ms all → IsFirstDeep all (length d.before)
unfolding Starts
first_deep ms all d s = record {
  before = d.before;
  mark = d.mark;
  later = s.0;
  split = s.1 ∙ ap (λ z. z ++ s.0) d.split ∙ append_assoc d.before (d.mark ∷ []) s.0;
  place = refl;
  shallow = d.shallow;
  deep = d.deep;
}

pub too_deep : {ts rest : List Terminal} (m : Meets tables parsed unit start ts rest) (d : EndsDeep (marks_so_far parsed (front_with tables parsed m))) → IsTooDeep ts (length d.before)
too_deep {ts = ts} m d = by (ends unit start ts unit_walkable)
  where
    of_read : (new : Scopes) (xs : List Tree) (rest : List Terminal) → Reads tables parsed unit start ts xs new rest → IsTooDeep ts (length d.before)
    of_read new xs [] p = deep_inside p _ refl (first_deep _ _ d (met_read tables parsed m p false 0 nothing_read))
    of_read new xs (t ∷ rest) p = deep_before (ended p) _ (first_deep _ _ d (met_read tables parsed m p false 0 nothing_read))

    by : Outcome unit start ts → IsTooDeep ts (length d.before)
    by (read p) = of_read _ _ _ p
    by (failed p) = deep_before (stuck p) _ (first_deep _ _ d (met_failed tables parsed m p false 0 nothing_read))

-- ---- each list of tokens has an answer

passes_or_not : (m : Mark) → PassesLimit m ⊎ (PassesLimit m → ⊥)
passes_or_not m = by (cases_lt max_parts m.inside) (cases_lt max_parts m.ended)
  where
    by : (max_parts < m.inside) ⊎ (m.inside ≤ max_parts) → (max_parts < m.ended) ⊎ (m.ended ≤ max_parts) → PassesLimit m ⊎ (PassesLimit m → ⊥)
    by (inl a) b = inl (inl a)
    by (inr a) (inl b) = inl (inr b)
    by (inr a) (inr b) = inr (elim [ inl c ↦ omega (arith, a, c) | inr c ↦ omega (arith, b, c) ])

behind_shallow : (m : Mark) (ms : List Mark) → (PassesLimit m → ⊥) → AreShallow ms ⊎ ((k : ℕ) × IsFirstDeep ms k) → AreShallow (m ∷ ms) ⊎ ((k : ℕ) × IsFirstDeep (m ∷ ms) k)
behind_shallow m ms n (inl a) = inl (n, a)
behind_shallow m ms n (inr d) =
    let f = d.1 in inr (suc d.0, record { before = m ∷ f.before; mark = f.mark; later = f.later; split = ap (λ z. m ∷ z) f.split; place = ap suc f.place; shallow = (n, f.shallow); deep = f.deep })

shallow_or_deep : (ms : List Mark) → AreShallow ms ⊎ ((k : ℕ) × IsFirstDeep ms k)
shallow_or_deep [] = inl tt
shallow_or_deep (m ∷ ms) = by (passes_or_not m) (shallow_or_deep ms)
  where
    by : PassesLimit m ⊎ (PassesLimit m → ⊥) → AreShallow ms ⊎ ((k : ℕ) × IsFirstDeep ms k) → AreShallow (m ∷ ms) ⊎ ((k : ℕ) × IsFirstDeep (m ∷ ms) k)
    by (inl p) r = inr (0, record { before = []; mark = m; later = ms; split = refl; place = refl; shallow = tt; deep = p })
    by (inr n) r = behind_shallow m ms n r

of_walk : {ts rest : List Terminal} (w : Walk ts rest) → AreShallow (walked w) ⊎ ((k : ℕ) × IsFirstDeep (walked w) k) → HasAnswer ts
of_walk w (inl h) = inr (inl (_, fault w h))
of_walk w (inr d) = inr (inr (d.0, deep_before w d.0 d.1))

of_whole : {ts : List Terminal} {xs : List Tree} {new : Scopes} (p : Reads tables parsed unit start ts xs new [])
    → AreShallow (marks parsed (derivation tables parsed p)) ⊎ ((k : ℕ) × IsFirstDeep (marks parsed (derivation tables parsed p)) k) → HasAnswer ts
of_whole p (inl h) = inl (_, whole p refl h)
of_whole p (inr d) = inr (inr (d.0, deep_inside p d.0 refl d.1))

pub answered : (ts : List Terminal) → HasAnswer ts
answered ts = by (ends unit start ts unit_walkable)
  where
    of_read : (new : Scopes) (xs : List Tree) (rest : List Terminal) → Reads tables parsed unit start ts xs new rest → HasAnswer ts
    of_read new xs [] p = of_whole p (shallow_or_deep _)
    of_read new xs (t ∷ rest) p = of_walk (ended p) (shallow_or_deep _)

    by : Outcome unit start ts → HasAnswer ts
    by (read p) = of_read _ _ _ p
    by (failed p) = of_walk (stuck p) (shallow_or_deep _)
