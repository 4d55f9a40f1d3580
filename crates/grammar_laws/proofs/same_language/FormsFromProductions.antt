-- Where each production's tests lose nothing, the table's lose nothing.
use Rattle.std.proofs.Common.{◌≡◌, ℕ, Bool, true, false, not, ◌&&◌, ◌||◌, List, ◌++◌, refl}
use Rattle.model_grammar.specs.declared.grammar.Test.{Test}
use Rattle.model_grammar.specs.declared.grammar.Terminal.{Terminal}
use Rattle.model_grammar.specs.declared.grammar.Tree.{Tree}
use Rattle.model_grammar.specs.GrammarForm.{Form, ◌then◌, ◌or◌, maybe, many, when, loop, mem}
use Rattle.model_grammar.specs.NameScopes.{Scopes}
use Rattle.model_grammar.specs.Derivation.{Derives, Begins}
use Rattle.grammar_laws.specs.FirstTokens.{first}
use Rattle.grammar_laws.specs.apparatus.DecidedTable.{leads}
use Rattle.grammar_laws.specs.ParserWalk.{ahead}
use Rattle.grammar_laws.specs.ParserSets.{tables}
use Rattle.grammar_laws.specs.ParserTests.{parsed, passes}
use Rattle.grammar_laws.proofs.kinds.KindSets.{and_left, and_right, or_right, not_true, clash, mem_left, mem_right}
use Rattle.grammar_laws.proofs.tests_lose_nothing.SuffixEnds.{ends_open, is_one, are_suffixes, bracketless, suffixed, uncaught, little_of, caught, IsKept, IsBegun}

into : (b c : Bool) → (not b || c) ≡ true → b ≡ true → c ≡ true
into true c h e = h
into false c h e = absurd (cc)

-- the parts of the condition on suffixes
then_caught : (f g : Form) (F : List ℕ) → suffixed (f then g) F ≡ true → ends_open f ≡ true → (are_suffixes g && bracketless F) ≡ true
unfolding suffixed
then_caught f g F v i = into (ends_open f) (are_suffixes g && bracketless F) (and_left _ (not (ends_open g)) (and_left _ (suffixed f (leads tables g F) && suffixed g F) v)) i

pub then_closed : (f g : Form) (F : List ℕ) → suffixed (f then g) F ≡ true → ends_open g ≡ false
unfolding suffixed
then_closed f g F v = not_true _ (and_right (not (ends_open f) || are_suffixes g && bracketless F) _ (and_left _ (suffixed f (leads tables g F) && suffixed g F) v))

pub then_first : (f g : Form) (F : List ℕ) → suffixed (f then g) F ≡ true → suffixed f (leads tables g F) ≡ true
unfolding suffixed
then_first f g F v = and_left _ (suffixed g F) (and_right ((not (ends_open f) || are_suffixes g && bracketless F) && not (ends_open g)) _ v)

pub then_second : (f g : Form) (F : List ℕ) → suffixed (f then g) F ≡ true → suffixed g F ≡ true
unfolding suffixed
then_second f g F v = and_right (suffixed f (leads tables g F)) _ (and_right ((not (ends_open f) || are_suffixes g && bracketless F) && not (ends_open g)) _ v)

-- a repetition of suffixes
many_caught : (f : Form) (F : List ℕ) → suffixed (many f) F ≡ true → ends_open f ≡ true → (are_suffixes (many f) && bracketless F) ≡ true
unfolding suffixed are_suffixes
many_caught f F v i = into (ends_open f) (is_one f && bracketless F) (and_left _ (suffixed f (first tables f ++ F)) v) i

pub many_turn : (f : Form) (F : List ℕ) → suffixed (many f) F ≡ true → suffixed f (first tables f ++ F) ≡ true
unfolding suffixed
many_turn f F v = and_right (not (ends_open f) || is_one f && bracketless F) _ v

pub or_first : (f g : Form) (F : List ℕ) → suffixed (f or g) F ≡ true → suffixed f F ≡ true
unfolding suffixed
or_first f g F v = and_left _ (suffixed g F) v

pub or_second : (f g : Form) (F : List ℕ) → suffixed (f or g) F ≡ true → suffixed g F ≡ true
unfolding suffixed
or_second f g F v = and_right (suffixed f F) _ v

pub when_first : (p : Test) (f g : Form) (F : List ℕ) → suffixed (when p f g) F ≡ true → suffixed f F ≡ true
unfolding suffixed
when_first p f g F v = and_left _ (suffixed g F) v

pub when_second : (p : Test) (f g : Form) (F : List ℕ) → suffixed (when p f g) F ≡ true → suffixed g F ≡ true
unfolding suffixed
when_second p f g F v = and_right (suffixed f F) _ v

pub maybe_closed : (f : Form) (F : List ℕ) → suffixed (maybe f) F ≡ true → ends_open f ≡ false
unfolding suffixed
maybe_closed f F v = not_true _ (and_left _ (suffixed f F) v)

pub maybe_part : (f : Form) (F : List ℕ) → suffixed (maybe f) F ≡ true → suffixed f F ≡ true
unfolding suffixed
maybe_part f F v = and_right (not (ends_open f)) _ v

pub loop_closed : (p : Test) (f : Form) (F : List ℕ) → suffixed (loop p f) F ≡ true → ends_open f ≡ false
unfolding suffixed
loop_closed p f F v = not_true _ (and_left _ (suffixed f (first tables f ++ F)) v)

pub loop_turn : (p : Test) (f : Form) (F : List ℕ) → suffixed (loop p f) F ≡ true → suffixed f (first tables f ++ F) ≡ true
unfolding suffixed
loop_turn p f F v = and_right (not (ends_open f)) _ v

-- what is kept or begun of one alternative
pub kept_left : (f g : Form) {s new : Scopes} {ts rest : List Terminal} → IsKept f s ts new rest → IsKept (f or g) s ts new rest
unfolding ends_open first
kept_left f g (IsKept.whole d) = IsKept.whole (Derives.left d)
kept_left f g (IsKept.half i a m h) = IsKept.half (rw i refl) a (mem_left _ _ _ m) (λ more l. Begins.in_left (h more l))

pub kept_right : (f g : Form) {s new : Scopes} {ts rest : List Terminal} → IsKept g s ts new rest → IsKept (f or g) s ts new rest
unfolding ends_open first
kept_right f g (IsKept.whole d) = IsKept.whole (Derives.right d)
kept_right f g (IsKept.half i a m h) = IsKept.half (or_right (ends_open f) _ i) a (mem_right _ (first tables f) _ m) (λ more l. Begins.in_right (h more l))

pub kept_chosen : (p : Test) (f g : Form) {s new : Scopes} {ts rest : List Terminal} → passes p s ts ≡ true → IsKept f s ts new rest → IsKept (when p f g) s ts new rest
unfolding ends_open first
kept_chosen p f g b (IsKept.whole d) = IsKept.whole (Derives.chosen b d)
kept_chosen p f g b (IsKept.half i a m h) = IsKept.half (rw i refl) a (mem_left _ _ _ m) (λ more l. Begins.in_chosen b (h more l))

pub kept_other : (p : Test) (f g : Form) {s new : Scopes} {ts rest : List Terminal} → passes p s ts ≡ false → IsKept g s ts new rest → IsKept (when p f g) s ts new rest
unfolding ends_open first
kept_other p f g b (IsKept.whole d) = IsKept.whole (Derives.other b d)
kept_other p f g b (IsKept.half i a m h) = IsKept.half (or_right (ends_open f) _ i) a (mem_right _ (first tables f) _ m) (λ more l. Begins.in_other b (h more l))

pub begun_left : (f g : Form) {s : Scopes} {ts rest : List Terminal} → IsBegun f s ts rest → IsBegun (f or g) s ts rest
unfolding ends_open
begun_left f g (IsBegun.held d) = IsBegun.held (Begins.in_left d)
begun_left f g (IsBegun.ended i d h) = IsBegun.ended (rw i refl) (Derives.left d) h

pub begun_right : (f g : Form) {s : Scopes} {ts rest : List Terminal} → IsBegun g s ts rest → IsBegun (f or g) s ts rest
unfolding ends_open
begun_right f g (IsBegun.held d) = IsBegun.held (Begins.in_right d)
begun_right f g (IsBegun.ended i d h) = IsBegun.ended (or_right (ends_open f) _ i) (Derives.right d) h

pub begun_chosen : (p : Test) (f g : Form) {s : Scopes} {ts rest : List Terminal} → passes p s ts ≡ true → IsBegun f s ts rest → IsBegun (when p f g) s ts rest
unfolding ends_open
begun_chosen p f g b (IsBegun.held d) = IsBegun.held (Begins.in_chosen b d)
begun_chosen p f g b (IsBegun.ended i d h) = IsBegun.ended (rw i refl) (Derives.chosen b d) h

pub begun_other : (p : Test) (f g : Form) {s : Scopes} {ts rest : List Terminal} → passes p s ts ≡ false → IsBegun g s ts rest → IsBegun (when p f g) s ts rest
unfolding ends_open
begun_other p f g b (IsBegun.held d) = IsBegun.held (Begins.in_other b d)
begun_other p f g b (IsBegun.ended i d h) = IsBegun.ended (or_right (ends_open f) _ i) (Derives.other b d) h

-- a form and what comes behind it
pub kept_then : (f g : Form) (F : List ℕ) {s mid new : Scopes} {ts later rest : List Terminal} {ys : List Tree} → suffixed (f then g) F ≡ true
    → mem (ahead tables parsed new rest) F ≡ true → IsKept f s ts mid later → Derives parsed g mid later ys new rest → IsKept (f then g) s ts new rest
kept_then f g F v h (IsKept.whole d) e = IsKept.whole (Derives.both d e refl)
kept_then f g F v h (IsKept.half i a m k) e = absurd (clash _ a (uncaught g F (then_caught f g F v i) e h))

pub kept_turn : (f : Form) (F : List ℕ) {s mid new : Scopes} {ts later rest : List Terminal} {ys : List Tree} → suffixed (many f) F ≡ true
    → mem (ahead tables parsed new rest) F ≡ true → IsKept f s ts mid later → Derives parsed (many f) mid later ys new rest → IsKept (many f) s ts new rest
kept_turn f F v h (IsKept.whole d) e = IsKept.whole (Derives.turn d e refl)
kept_turn f F v h (IsKept.half i a m k) e = absurd (clash _ a (uncaught (many f) F (many_caught f F v i) e h))

pub begun_first : (f g : Form) (F : List ℕ) {s : Scopes} {ts rest : List Terminal} → suffixed (f then g) F ≡ true → IsBegun f s ts rest → Begins parsed (f then g) s ts rest
begun_first f g F v (IsBegun.held d) = Begins.in_first d
begun_first f g F v (IsBegun.ended i d h) = Begins.in_then d (caught g (and_left _ (bracketless F) (then_caught f g F v i)) h)

pub begun_turn : (f : Form) (F : List ℕ) {s : Scopes} {ts rest : List Terminal} → suffixed (many f) F ≡ true → IsBegun f s ts rest → Begins parsed (many f) s ts rest
begun_turn f F v (IsBegun.held d) = Begins.in_turn d
begun_turn f F v (IsBegun.ended i d h) = Begins.in_later d (caught (many f) (and_left _ (bracketless F) (many_caught f F v i)) h)

pub begun_then : (f g : Form) (F : List ℕ) {s mid : Scopes} {ts later rest : List Terminal} → suffixed (f then g) F ≡ true → IsKept f s ts mid later
    → Begins parsed g mid later rest → Begins parsed (f then g) s ts rest
begun_then f g F v (IsKept.whole d) e = Begins.in_then d e
begun_then f g F v (IsKept.half i a m k) e = Begins.in_first (k _ (little_of g (and_left _ (bracketless F) (then_caught f g F v i)) a e))

pub begun_later : (f : Form) (F : List ℕ) {s mid : Scopes} {ts later rest : List Terminal} → suffixed (many f) F ≡ true → IsKept f s ts mid later
    → Begins parsed (many f) mid later rest → Begins parsed (many f) s ts rest
begun_later f F v (IsKept.whole d) e = Begins.in_later d e
begun_later f F v (IsKept.half i a m k) e = Begins.in_turn (k _ (little_of (many f) (and_left _ (bracketless F) (many_caught f F v i)) a e))
