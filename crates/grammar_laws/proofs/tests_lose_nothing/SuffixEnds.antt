-- Where a suffix of a declarator ends, an attribute that comes next is its own. What of a form that a suffix ends is
-- derived or begun, where one comes next.
use Rattle.std.proofs.Common.{◌≡◌, ℕ, Bool, true, false, not, ◌&&◌, ◌||◌, List, ◌∷◌, ◌++◌, refl, subst, sym}
use Rattle.std.specs.Prelude.{◌==◌}
use Rattle.model_grammar.specs.declared.grammar.Rule.{Rule}
use Rattle.model_grammar.specs.declared.grammar.Rule.TheVariants as r
use Rattle.model_grammar.specs.declared.grammar.Terminal.{Terminal}
use Rattle.model_grammar.specs.declared.grammar.Tree.{Tree}
use Rattle.model_grammar.specs.GrammarForm.{Form, word, rule, empty, ◌then◌, ◌or◌, maybe, many, when, loop, mem}
use Rattle.model_grammar.specs.NameScopes.{Scopes}
use Rattle.model_grammar.specs.Derivation.{Derives, Begins}
use Rattle.grammar_laws.specs.FirstTokens.{first, nullable}
use Rattle.grammar_laws.specs.apparatus.DecidedTable.{leads}
use Rattle.grammar_laws.specs.ParserWalk.{ahead}
use Rattle.model_grammar.specs.Grammar.{grammar}
use Rattle.model_grammar.specs.Terminals as k
use Rattle.grammar_laws.specs.ParserTable.{table}
use Rattle.grammar_laws.specs.ParserSets.{tables, firsts, follows, hollow}
use Rattle.grammar_laws.specs.ParserTests.{parsed, sees_attribute}
use Rattle.grammar_laws.proofs.kinds.KindSets.{and_left, and_right, not_true, clash}
use Rattle.grammar_laws.proofs.scans.BehindAttributes.{missing, no_attribute}
use Rattle.grammar_laws.proofs.derivations.ClearBrackets.{is_balanced}
use Rattle.grammar_laws.proofs.tests_lose_nothing.AbstractDeclarator.{IsLittle}
use Rattle.grammar_laws.proofs.tests_lose_nothing.LosesNothing.{Clear, IsDerived, TestsLoseNothing}
use Rattle.grammar_laws.proofs.tests_lose_nothing.DeclaratorAttributes.{suffix_unattributed, suffixes_little, little_suffix}

unfoldable pub is_suffix : Rule → Bool
is_suffix r.Suffix = true
is_suffix _ = false

-- a suffix may end the form
unfoldable pub ends_open : Form → Bool
ends_open (word ks a) = false
ends_open (rule n) = is_suffix n
ends_open empty = false
ends_open (f then g) = false
ends_open (f or g) = ends_open f || ends_open g
ends_open (maybe f) = false
ends_open (many f) = false
ends_open (when p f g) = ends_open f || ends_open g
ends_open (loop p f) = false

-- the form is suffixes
unfoldable pub is_one : Form → Bool
is_one (word ks a) = false
is_one (rule n) = is_suffix n
is_one empty = false
is_one (f then g) = false
is_one (f or g) = false
is_one (maybe f) = false
is_one (many f) = false
is_one (when p f g) = false
is_one (loop p f) = false

unfoldable pub are_suffixes : Form → Bool
are_suffixes (word ks a) = false
are_suffixes (rule n) = false
are_suffixes empty = false
are_suffixes (f then g) = false
are_suffixes (f or g) = false
are_suffixes (maybe f) = false
are_suffixes (many f) = is_one f
are_suffixes (when p f g) = false
are_suffixes (loop p f) = false

unfoldable pub bracketless : List ℕ → Bool
bracketless F = not (mem k.OpenBracket F) && (not (mem k.Closing F) && not (mem k.Stray F))

-- behind a form that a suffix may end only suffixes come, and no bracket where F follows
unfoldable pub suffixed : Form → List ℕ → Bool
suffixed (word ks a) F = true
suffixed (rule n) F = true
suffixed empty F = true
suffixed (f then g) F = ((not (ends_open f) || are_suffixes g && bracketless F) && not (ends_open g)) && (suffixed f (leads tables g F) && suffixed g F)
suffixed (f or g) F = suffixed f F && suffixed g F
suffixed (maybe f) F = not (ends_open f) && suffixed f F
suffixed (many f) F = (not (ends_open f) || is_one f && bracketless F) && suffixed f (first tables f ++ F)
suffixed (when p f g) F = suffixed f F && suffixed g F
suffixed (loop p f) F = not (ends_open f) && suffixed f (first tables f ++ F)

pub suffix_form : (n : Rule) → suffixed (grammar n) (follows n) ≡ true
unfolding suffixed ends_open is_one are_suffixes bracketless is_suffix mem first nullable leads table grammar firsts follows hollow
suffix_form r.Unit = refl
suffix_form _ = refl

pub closed_form : (n : Rule) → ends_open (grammar n) ≡ false
unfolding ends_open is_suffix table grammar
closed_form r.Unit = refl
closed_form _ = refl

pub suffix_is : (n : Rule) → is_suffix n ≡ true → n ≡ r.Suffix
unfolding is_suffix
suffix_is r.Suffix h = refl
suffix_is _ h = absurd (cc)

one_is : (f : Form) → is_one f ≡ true → f ≡ rule r.Suffix
unfolding is_one
one_is (word ks a) h = absurd (cc)
one_is (rule n) h = rw (suffix_is n h) refl
one_is empty h = absurd (cc)
one_is (f then g) h = absurd (cc)
one_is (f or g) h = absurd (cc)
one_is (maybe f) h = absurd (cc)
one_is (many f) h = absurd (cc)
one_is (when p f g) h = absurd (cc)
one_is (loop p f) h = absurd (cc)

suffixes_are : (f : Form) → are_suffixes f ≡ true → f ≡ many (rule r.Suffix)
unfolding are_suffixes
suffixes_are (word ks a) h = absurd (cc)
suffixes_are (rule n) h = absurd (cc)
suffixes_are empty h = absurd (cc)
suffixes_are (f then g) h = absurd (cc)
suffixes_are (f or g) h = absurd (cc)
suffixes_are (maybe f) h = absurd (cc)
suffixes_are (many f) h = rw (one_is f h) refl
suffixes_are (when p f g) h = absurd (cc)
suffixes_are (loop p f) h = absurd (cc)

-- no attribute comes before suffixes, or where F follows
plain_follow : (F : List ℕ) (s : Scopes) (ts : List Terminal) → bracketless F ≡ true → mem (ahead tables parsed s ts) F ≡ true → sees_attribute ts ≡ false
unfolding bracketless
plain_follow F s ts b h =
    no_attribute ts
    (missing F k.OpenBracket refl (not_true _ (and_left _ (not (mem k.Closing F) && not (mem k.Stray F)) b)) (not_true _ (and_left _ (not (mem k.Stray F)) (and_right (not (mem k.OpenBracket F)) _ b))) (not_true _ (and_right (not (mem k.Closing F)) _ (and_right (not (mem k.OpenBracket F)) _ b))) s ts h)

before_suffixes : (F : List ℕ) {s new : Scopes} {ts rest : List Terminal} {xs : List Tree} → bracketless F ≡ true
    → Derives parsed (many (rule r.Suffix)) s ts xs new rest → mem (ahead tables parsed new rest) F ≡ true → sees_attribute ts ≡ false
before_suffixes F {s = s} {ts = ts} b Derives.stop h = plain_follow F s ts b h
before_suffixes F b (Derives.turn d e q) h = suffix_unattributed d

pub uncaught : (g : Form) (F : List ℕ) {s new : Scopes} {ts rest : List Terminal} {xs : List Tree} → (are_suffixes g && bracketless F) ≡ true
    → Derives parsed g s ts xs new rest → mem (ahead tables parsed new rest) F ≡ true → sees_attribute ts ≡ false
uncaught g F {s = s} {new = new} {ts = ts} {rest = rest} {xs = xs} b d h =
    before_suffixes F (and_right (are_suffixes g) _ b) (subst (λ z. Derives parsed z s ts xs new rest) (suffixes_are g (and_left _ (bracketless F) b)) d) h

-- where one comes, suffixes are begun by its first bracket alone
pub little_of : (g : Form) {s : Scopes} {ts rest : List Terminal} → are_suffixes g ≡ true → sees_attribute ts ≡ true → Begins parsed g s ts rest → IsLittle ts rest
little_of g {s = s} {ts = ts} {rest = rest} b a d = little_suffix a (subst (λ z. Begins parsed z s ts rest) (suffixes_are g b) d)

-- and a bracket begins suffixes
pub caught : (g : Form) {s : Scopes} {t : Terminal} {ts : List Terminal} → are_suffixes g ≡ true → (t.kind == k.OpenBracket) ≡ true → Begins parsed g s (t ∷ ts) ts
caught g {s = s} {t = t} {ts = ts} b h = by (many (rule r.Suffix)) (suffixes_are g b) (suffixes_little (IsLittle.bracket h))
  where
    by : (f : Form) → g ≡ f → Begins parsed f s (t ∷ ts) ts → Begins parsed g s (t ∷ ts) ts
    by f q d = subst (λ z. Begins parsed z s (t ∷ ts) ts) (sym q) d

-- a form is derived, or it is but for an attribute that comes next, by which it goes on
pub data IsKept : Form → Scopes → List Terminal → Scopes → List Terminal → Type 0 where
  whole : {f : Form} {s new : Scopes} {ts rest : List Terminal} {xs : List Tree} → Derives parsed f s ts xs new rest → IsKept f s ts new rest
  half : {f : Form} {s new : Scopes} {ts rest : List Terminal} → ends_open f ≡ true → sees_attribute rest ≡ true
      → mem (ahead tables parsed s ts) (first tables f) ≡ true → ((more : List Terminal) → IsLittle rest more → Begins parsed f s ts more)
      → IsKept f s ts new rest

-- a form is begun, or derived before a bracket that comes next
pub data IsBegun : Form → Scopes → List Terminal → List Terminal → Type 0 where
  held : {f : Form} {s : Scopes} {ts rest : List Terminal} → Begins parsed f s ts rest → IsBegun f s ts rest
  ended : {f : Form} {s mid : Scopes} {t : Terminal} {ts rest : List Terminal} {xs : List Tree} → ends_open f ≡ true → Derives parsed f s ts xs mid (t ∷ rest)
      → (t.kind == k.OpenBracket) ≡ true → IsBegun f s ts rest

pub the_whole : {f : Form} {s new : Scopes} {ts rest : List Terminal} → ends_open f ≡ false → IsKept f s ts new rest → IsDerived f s ts new rest
the_whole n (IsKept.whole d) = record { trees = _; is = d }
the_whole {f = f} n (IsKept.half i a m g) = absurd (clash (ends_open f) i n)

pub the_held : {f : Form} {s : Scopes} {ts rest : List Terminal} → ends_open f ≡ false → IsBegun f s ts rest → Begins parsed f s ts rest
the_held n (IsBegun.held d) = d
the_held {f = f} n (IsBegun.ended i d h) = absurd (clash (ends_open f) i n)

-- of one production: what the grammar's form derives before what may follow, and begins, its nonterminal does
pub record IsProduced (n : Rule) : Type 0 where
  pub derived : (s mid : Scopes) (ts rest : List Terminal) (xs : List Tree) → Clear (not (is_balanced n)) s → Derives parsed (grammar n) s ts xs mid rest
      → mem (ahead tables parsed mid rest) (follows n) ≡ true → IsKept (rule n) s ts (parsed.close n mid) rest
  pub begun : (s : Scopes) (ts rest : List Terminal) → Clear (not (is_balanced n)) s → Begins parsed (grammar n) s ts rest → IsBegun (rule n) s ts rest

pub produced : (n : Rule) → TestsLoseNothing n → IsProduced n
produced n is = record {
  derived = λ s mid ts rest xs c d h. IsKept.whole (Derives.a_rule (is.derived s mid ts rest xs c d h).is);
  begun = λ s ts rest c d. IsBegun.held (Begins.in_rule (is.begun s ts rest c d));
}
