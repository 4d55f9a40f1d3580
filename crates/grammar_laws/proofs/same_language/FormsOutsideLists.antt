-- The forms of the grammar outside lists of specifiers: what may follow each form, so that the parser's tests lose
-- nothing, and no braces or `:` follow a list.
use Rattle.std.proofs.Common.{◌≡◌, ℕ, Bool, true, false, not, ◌&&◌, ◌||◌, List, ◌∷◌, ◌++◌, refl, subst}
use Rattle.model_grammar.specs.declared.grammar.Rule.{Rule}
use Rattle.model_grammar.specs.declared.grammar.Rule.TheVariants as r
use Rattle.model_grammar.specs.declared.grammar.Test.{Test}
use Rattle.model_grammar.specs.declared.grammar.Terminal.{Terminal}
use Rattle.model_grammar.specs.declared.grammar.Tree.{Tree}
use Rattle.model_grammar.specs.GrammarForm.{Form, word, rule, empty, ◌then◌, ◌or◌, maybe, many, when, loop, mem}
use Rattle.model_grammar.specs.Grammar.{grammar}
use Rattle.model_grammar.specs.NameScopes.{Scopes}
use Rattle.model_grammar.specs.Derivation.{Derives}
use Rattle.model_grammar.specs.Terminals as k
use Rattle.grammar_laws.specs.FirstTokens.{first, nullable}
use Rattle.grammar_laws.specs.apparatus.DecidedTable.{apart, leads}
use Rattle.grammar_laws.specs.ParserSets.{tables, firsts, follows, hollow}
use Rattle.grammar_laws.proofs.kinds.KindSets.{and_left, and_right}
use Rattle.grammar_laws.proofs.derivations.ClearBrackets.{clear, is_balanced, over}
use Rattle.grammar_laws.proofs.derivations.KeptScopes.{is_open, same, same_bool}
use Rattle.grammar_laws.proofs.derivations.KeptByGrammar.{grammar_clear}
use Rattle.grammar_laws.proofs.derivations.NoneAwaitsBraces.{idles, idle_grammar, is_enumeration, IsIdle, grammar_idle}
use Rattle.grammar_laws.proofs.derivations.FollowsOfForms.{flows, flow}
use Rattle.grammar_laws.proofs.tests_lose_nothing.SuffixEnds.{suffixed, suffix_form}
use Rattle.grammar_laws.proofs.tests_lose_nothing.LosesNothing.{Clear, steady}
use Rattle.grammar_laws.proofs.same_language.FormsFromProductions.{then_first, then_second, many_turn, or_first, or_second, when_first, when_second, maybe_part, loop_turn}

-- the productions of a list of specifiers
unfoldable pub in_list : Rule → Bool
in_list r.Specs = true
in_list r.Spec = true
in_list r.Storage = true
in_list r.Typespec = true
in_list r.Squals = true
in_list r.Struct = true
in_list r.Enum = true
in_list _ = false

unfoldable pub is_list : Rule → Bool
is_list r.Specs = true
is_list r.Squals = true
is_list _ = false

-- what no list may be followed by
abbrev pub list_continuations : List ℕ
list_continuations = k.OpenBrace ∷ k.Colon ∷ k.Closing ∷ k.Stray ∷ firsts r.Specs

-- a form that holds of those productions but whole lists, and that has nothing behind them which goes on with them
unfoldable pub bounded : Form → List ℕ → Bool
bounded (word ks a) F = true
bounded (rule n) F = not (in_list n) || is_list n && apart tables F list_continuations
bounded empty F = true
bounded (f then g) F = bounded f (leads tables g F) && bounded g F
bounded (f or g) F = bounded f F && bounded g F
bounded (maybe f) F = bounded f F
bounded (many f) F = bounded f (first tables f ++ F)
bounded (when p f g) F = bounded f F && bounded g F
bounded (loop p f) F = bounded f (first tables f ++ F)

pub bound : (n : Rule) → in_list n ≡ false → bounded (grammar n) (follows n) ≡ true
unfolding in_list is_list bounded first nullable leads grammar firsts follows hollow apart mem
bound r.Specs h = absurd (cc)
bound r.Spec h = absurd (cc)
bound r.Storage h = absurd (cc)
bound r.Typespec h = absurd (cc)
bound r.Squals h = absurd (cc)
bound r.Struct h = absurd (cc)
bound r.Enum h = absurd (cc)
bound _ h = refl

no_enumeration : (n : Rule) → in_list n ≡ false → is_enumeration n ≡ false
unfolding in_list is_enumeration
no_enumeration r.Enum h = absurd (cc)
no_enumeration _ h = refl

-- a form of the grammar before F: b says that no bracket is held open before it, and o that a frame of its production
-- is open
pub record Fit (f : Form) (F : List ℕ) (b o : Bool) : Type 0 where
  pub flow : flows f F b ≡ true
  pub suffix : suffixed f F ≡ true
  pub bound : bounded f F ≡ true
  pub idle : idles f o ≡ true

pub of_rule : (n : Rule) → in_list n ≡ false → Fit (grammar n) (follows n) (not (is_balanced n)) false
of_rule n h = record {
  flow = flow n;
  suffix = suffix_form n;
  bound = bound n h;
  idle = idle_grammar n (no_enumeration n h);
}

pub to_first : {f g : Form} {F : List ℕ} {b o : Bool} → Fit (f then g) F b o → Fit f (leads tables g F) b o
unfolding flows bounded idles
to_first {f = f} {g = g} {F = F} {b = b} {o = o} w = record {
  flow = and_left _ (flows g F (clear f b)) w.flow;
  suffix = then_first f g F w.suffix;
  bound = and_left _ (bounded g F) w.bound;
  idle = and_left _ (idles g (is_open f o)) w.idle;
}

pub to_second : {f g : Form} {F : List ℕ} {b o : Bool} → Fit (f then g) F b o → Fit g F (clear f b) (is_open f o)
unfolding flows bounded idles
to_second {f = f} {g = g} {F = F} {b = b} {o = o} w = record {
  flow = and_right (flows f (leads tables g F) b) _ w.flow;
  suffix = then_second f g F w.suffix;
  bound = and_right (bounded f (leads tables g F)) _ w.bound;
  idle = and_right (idles f o) _ w.idle;
}

pub to_left : {f g : Form} {F : List ℕ} {b o : Bool} → Fit (f or g) F b o → Fit f F b o
unfolding flows bounded idles
to_left {f = f} {g = g} {F = F} {b = b} {o = o} w = record {
  flow = and_left _ (flows g F b) w.flow;
  suffix = or_first f g F w.suffix;
  bound = and_left _ (bounded g F) w.bound;
  idle = and_left _ (idles g o && same (is_open g o) (is_open f o)) w.idle;
}

pub to_right : {f g : Form} {F : List ℕ} {b o : Bool} → Fit (f or g) F b o → Fit g F b o
unfolding flows bounded idles
to_right {f = f} {g = g} {F = F} {b = b} {o = o} w = record {
  flow = and_right (flows f F b) _ w.flow;
  suffix = or_second f g F w.suffix;
  bound = and_right (bounded f F) _ w.bound;
  idle = and_left _ (same (is_open g o) (is_open f o)) (and_right (idles f o) _ w.idle);
}

pub to_maybe : {f : Form} {F : List ℕ} {b o : Bool} → Fit (maybe f) F b o → Fit f F b o
unfolding flows bounded idles
to_maybe {f = f} {F = F} {b = b} {o = o} w = record { flow = w.flow; suffix = maybe_part f F w.suffix; bound = w.bound; idle = and_left _ (same (is_open f o) o) w.idle }

pub to_many : {f : Form} {F : List ℕ} {b o : Bool} → Fit (many f) F b o → Fit f (first tables f ++ F) b o
unfolding flows bounded idles
to_many {f = f} {F = F} {b = b} {o = o} w = record { flow = and_right (not b || clear f b) _ w.flow; suffix = many_turn f F w.suffix; bound = w.bound; idle = and_left _ (same (is_open f o) o) w.idle }

pub to_chosen : {p : Test} {f g : Form} {F : List ℕ} {b o : Bool} → Fit (when p f g) F b o → Fit f F b o
unfolding flows bounded idles
to_chosen {p = p} {f = f} {g = g} {F = F} {b = b} {o = o} w = record {
  flow = and_left _ (flows g F b) w.flow;
  suffix = when_first p f g F w.suffix;
  bound = and_left _ (bounded g F) w.bound;
  idle = and_left _ (idles g o && same (is_open g o) (is_open f o)) w.idle;
}

pub to_other : {p : Test} {f g : Form} {F : List ℕ} {b o : Bool} → Fit (when p f g) F b o → Fit g F b o
unfolding flows bounded idles
to_other {p = p} {f = f} {g = g} {F = F} {b = b} {o = o} w = record {
  flow = and_right (flows f F b) _ w.flow;
  suffix = when_second p f g F w.suffix;
  bound = and_right (bounded f F) _ w.bound;
  idle = and_left _ (same (is_open g o) (is_open f o)) (and_right (idles f o) _ w.idle);
}

pub to_loop : {p : Test} {f : Form} {F : List ℕ} {b o : Bool} → Fit (loop p f) F b o → Fit f (first tables f ++ F) b o
unfolding flows bounded idles
to_loop {p = p} {f = f} {F = F} {b = b} {o = o} w =
    record { flow = and_right (not b || clear f b) _ w.flow; suffix = loop_turn p f F w.suffix; bound = w.bound; idle = and_left _ (same (is_open f o) o) w.idle }

-- the scopes before a form
pub record Set (b o : Bool) (s : Scopes) : Type 0 where
  pub clear : Clear b s
  pub idle : IsIdle o s

pub behind_first : {f g : Form} {F : List ℕ} {b o : Bool} {s mid : Scopes} {ts later : List Terminal} {xs : List Tree} → Fit (f then g) F b o
    → Derives (over grammar) f s ts xs mid later → Set b o s → Set (clear f b) (is_open f o) mid
behind_first {b = b} {o = o} w d c = record { clear = λ k. grammar_clear d b c.clear k; idle = grammar_idle d o (to_first w).idle c.idle }

pub behind_turn : {f : Form} {F : List ℕ} {b o : Bool} {s mid : Scopes} {ts later : List Terminal} {xs : List Tree} → Fit (many f) F b o
    → Derives (over grammar) f s ts xs mid later → Set b o s → Set b o mid
unfolding flows idles
behind_turn {f = f} {F = F} {b = b} {o = o} {mid = mid} w d c = record {
  clear = λ k. grammar_clear d b c.clear (steady b _ (and_left _ (flows f (first tables f ++ F) b) w.flow) k);
  idle = subst (λ z. IsIdle z mid) (same_bool (is_open f o) o (and_right (idles f o) _ w.idle)) (grammar_idle d o (to_many w).idle c.idle);
}

pub behind_loop : {p : Test} {f : Form} {F : List ℕ} {b o : Bool} {s mid : Scopes} {ts later : List Terminal} {xs : List Tree} → Fit (loop p f) F b o
    → Derives (over grammar) f s ts xs mid later → Set b o s → Set b o mid
unfolding flows idles
behind_loop {p = p} {f = f} {F = F} {b = b} {o = o} {mid = mid} w d c = record {
  clear = λ k. grammar_clear d b c.clear (steady b _ (and_left _ (flows f (first tables f ++ F) b) w.flow) k);
  idle = subst (λ z. IsIdle z mid) (same_bool (is_open f o) o (and_right (idles f o) _ w.idle)) (grammar_idle d o (to_loop w).idle c.idle);
}
