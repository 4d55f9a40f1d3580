-- A list of tokens is a unit, has a first fault, or has a token in too many parts: one of the three, in one way.
use Rattle.std.proofs.Common.{◌≡◌, ℕ, zero, suc, ◌+◌, ◌≤◌, true, false, List, [], ◌∷◌, ◌++◌, length, drop, refl, ap, sym, subst, ◌∙◌, arith}
use Rattle.model_grammar.specs.declared.grammar.Terminal.{Terminal}
use Rattle.model_grammar.specs.declared.grammar.Tree.{Tree}
use Rattle.model_grammar.specs.GrammarForm.{mem}
use Rattle.model_grammar.specs.NameScopes.{Scopes, start}
use Rattle.grammar_laws.specs.FaultPlace.{FaultsAt}
use Rattle.grammar_laws.specs.Preferences.{IsPreferred}
use Rattle.grammar_laws.specs.apparatus.DecidedTable.{decided, within}
use Rattle.grammar_laws.specs.DepthPlace.{Mark, PassesLimit, AreShallow, IsFirstDeep, marks, nothing_read}
use Rattle.grammar_laws.specs.apparatus.LeftWeights.{IsWalkable, heaviest, rank}
use Rattle.grammar_laws.specs.ParserWalk.{ahead}
use Rattle.grammar_laws.specs.ParserSets.{tables, follows}
use Rattle.grammar_laws.specs.ParserTests.{parsed}
use Rattle.model_grammar.specs.SyntaxTree.{c_language}
use Rattle.grammar_laws.specs.UnitSyntax.{unit, IsUnit, IsFault, IsTooDeep, Walk, stuck, ended, walked, in_unit, before_fault}
use Rattle.grammar_laws.specs.OneAnswer.{ExcludeEachOther}
use Rattle.grammar_laws.proofs.walks.OneWalk.{alike, alike_fronts, never}
use Rattle.grammar_laws.proofs.preferred_tree.ChoiceOrder.{one}
use Rattle.grammar_laws.proofs.preferred_tree.SameChoicesSameParts.{one_marks}

pub before_end : decided tables unit (0 ∷ []) ≡ true
unfolding decided within follows mem
before_end = refl

pub at_end : (s : Scopes) → mem (ahead tables parsed s []) (0 ∷ []) ≡ true
unfolding mem ahead
at_end s = refl

pub unit_walkable : IsWalkable unit
unfolding heaviest rank
unit_walkable = ((0 ∷ [], before_end), omega arith)

-- ---- marks

first_twice : (ms xs ys us vs : List Mark) (m n : Mark) → ms ≡ xs ++ m ∷ us → ms ≡ ys ++ n ∷ vs → AreShallow xs → PassesLimit m → AreShallow ys → PassesLimit n → length xs ≡ length ys
first_twice [] [] ys us vs m n e h a p b q = cc
first_twice [] (x ∷ xs) ys us vs m n e h a p b q = cc
first_twice (o ∷ ms) [] [] us vs m n e h a p b q = refl
first_twice (o ∷ ms) [] (y ∷ ys) us vs m n e h a p b q = let z : m ≡ y = cc in absurd (b.0 (subst PassesLimit z p))
first_twice (o ∷ ms) (x ∷ xs) [] us vs m n e h a p b q = let z : n ≡ x = cc in absurd (a.0 (subst PassesLimit z q))
first_twice (o ∷ ms) (x ∷ xs) (y ∷ ys) us vs m n e h a p b q = let z : ms ≡ xs ++ m ∷ us = cc in let w : ms ≡ ys ++ n ∷ vs = cc in ap suc (first_twice ms xs ys us vs m n z w a.1 p b.1 q)

one_first : (ms : List Mark) (j k : ℕ) → IsFirstDeep ms j → IsFirstDeep ms k → j ≡ k
one_first ms j k a b = a.place ∙ first_twice ms a.before b.before a.later b.later a.mark b.mark a.split b.split a.shallow a.deep b.shallow b.deep ∙ sym b.place

some_deep : (ms xs us : List Mark) (m : Mark) → ms ≡ xs ++ m ∷ us → PassesLimit m → AreShallow ms → ⊥
some_deep [] [] us m e p a = cc
some_deep [] (x ∷ xs) us m e p a = cc
some_deep (o ∷ ms) [] us m e p a = let z : m ≡ o = cc in a.0 (subst PassesLimit z p)
some_deep (o ∷ ms) (x ∷ xs) us m e p a = let z : ms ≡ xs ++ m ∷ us = cc in some_deep ms xs us m z p a.1

not_both : (ms : List Mark) (k : ℕ) → AreShallow ms → IsFirstDeep ms k → ⊥
not_both ms k a b = some_deep ms b.before b.later b.mark b.split b.deep a

-- ---- walks

-- all preferred derivations of a unit make the same marks
same_marks : {ts : List Terminal} {xs ys : List Tree} (p : IsPreferred c_language unit start ts xs) (q : IsPreferred c_language unit start ts ys)
    → marks c_language p.derived ≡ marks c_language q.derived
same_marks {ts = ts} {xs = xs} {ys = ys} p q = one_marks c_language unit start ts xs ys p q

same_walk : {ts rest rest' : List Terminal} (v : Walk ts rest) (w : Walk ts rest') → walked v ≡ walked w
same_walk (stuck p) (stuck q) = ap (λ z. z.marks) ((alike_fronts tables parsed p q).grown false 0 nothing_read)
same_walk (stuck p) (ended q) = absurd (never tables parsed q p)
same_walk (ended p) (stuck q) = absurd (never tables parsed p q)
same_walk (ended p) (ended q) = ap (λ z. z.marks) ((alike tables parsed p q).grown false 0 nothing_read)

-- ---- places

drop_length : (k : ℕ) (ts : List Terminal) → k ≤ length ts → k + length (drop k ts) ≡ length ts
drop_length zero ts h = omega arith
drop_length (suc k) [] h = absurd (omega arith)
drop_length (suc k) (t ∷ ts) h = let l : k ≤ length ts = omega arith in let q = drop_length k ts l in omega (arith, q)

one_place : (ts : List Terminal) (j k : ℕ) → FaultsAt c_language unit start ts j → FaultsAt c_language unit start ts k → j ≡ k
one_place ts j k a b =
    let p = a.no_more _ b.begun in
    let q = b.no_more _ a.begun in
    let l = drop_length j ts a.within in
    let m = drop_length k ts b.within in
    omega (arith, p, q, l, m)

no_unit : {ts : List Terminal} {j : ℕ} {xs : List Tree} → FaultsAt c_language unit start ts j → IsPreferred c_language unit start ts xs → ⊥
no_unit {xs = xs} f p = f.not_whole xs p.scopes p.derived

depth_twice : (ts : List Terminal) (j k : ℕ) → IsTooDeep ts j → IsTooDeep ts k → j ≡ k
depth_twice ts j k (in_unit p a) (in_unit q b) = one_first (marks c_language p.derived) j k a (subst (λ z. IsFirstDeep z k) (same_marks q p) b)
depth_twice ts j k (in_unit p a) (before_fault w f l b) = absurd (no_unit f p)
depth_twice ts j k (before_fault v f l a) (in_unit q b) = absurd (no_unit f q)
depth_twice ts j k (before_fault v f l a) (before_fault w g m b) = one_first (walked v) j k a (subst (λ z. IsFirstDeep z k) (same_walk w v) b)

unit_not_deep : (ts : List Terminal) (xs : List Tree) (k : ℕ) → IsUnit ts xs → IsTooDeep ts k → ⊥
unit_not_deep ts xs k u (in_unit p b) = not_both (marks c_language u.preferred.derived) k u.shallow (subst (λ z. IsFirstDeep z k) (same_marks p u.preferred) b)
unit_not_deep ts xs k u (before_fault w f l b) = no_unit f u.preferred

fault_not_deep : (ts : List Terminal) (j k : ℕ) → IsFault ts j → IsTooDeep ts k → ⊥
fault_not_deep ts j k f (in_unit p b) = no_unit f.first p
fault_not_deep ts j k f (before_fault w g l b) = not_both (walked f.walk) k f.shallow (subst (λ z. IsFirstDeep z k) (same_walk w f.walk) b)

pub exclude : (ts : List Terminal) → ExcludeEachOther ts
exclude ts = record {
  one_unit = λ xs ys a b. one c_language unit start ts xs ys a.preferred b.preferred;
  one_fault = λ j k a b. one_place ts j k a.first b.first;
  one_depth = λ j k a b. depth_twice ts j k a b;
  unit_or_fault = λ xs k a b. no_unit b.first a.preferred;
  unit_or_depth = λ xs k a b. unit_not_deep ts xs k a b;
  fault_or_depth = λ j k a b. fault_not_deep ts j k a b;
}
