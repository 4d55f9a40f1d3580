-- What the grammar derives begins with one of its first tokens, or is nothing.
use Rattle.std.proofs.Common.{◌≡◌, ℕ, Bool, true, false, not, ◌&&◌, ◌||◌, List, refl, subst, ◌∙◌}
use mathlib.Core.Logic.{◌⊎◌, inl, inr}
use Rattle.model_grammar.specs.declared.grammar.Rule.{Rule}
use Rattle.model_grammar.specs.declared.grammar.Rule.TheVariants as r
use Rattle.model_grammar.specs.declared.grammar.Test.{Test}
use Rattle.model_grammar.specs.declared.grammar.Terminal.{Terminal}
use Rattle.model_grammar.specs.declared.grammar.Tree.{Tree}
use Rattle.model_grammar.specs.GrammarForm.{Form, rule, ◌then◌, ◌or◌, many, when, loop, mem}
use Rattle.model_grammar.specs.Grammar.{grammar}
use Rattle.model_grammar.specs.NameScopes.{Scopes}
use Rattle.model_grammar.specs.Derivation.{Derives}
use Rattle.grammar_laws.specs.FirstTokens.{first, nullable}
use Rattle.grammar_laws.specs.apparatus.DecidedTable.{within, leads}
use Rattle.grammar_laws.specs.ParserWalk.{ahead}
use Rattle.grammar_laws.specs.ParserSets.{tables, firsts, hollow}
use Rattle.grammar_laws.specs.ParserTests.{parsed}
use Rattle.grammar_laws.proofs.kinds.KindSets.{and_left, and_right, clash, within_mem, mem_left, mem_right, mem_behind, or_right}
use Rattle.grammar_laws.proofs.walks.ParserDecided.{quiet}
use Rattle.grammar_laws.proofs.derivations.ClearBrackets.{over}

-- the first tokens of each production are those that the sets have, and it derives nothing where they say so
unfoldable pub sets_hold : Rule → Form → Bool
sets_hold n f = within tables (first tables f) (firsts n) && (not (nullable tables f) || hollow n)

hold : (n : Rule) → sets_hold n (grammar n) ≡ true
unfolding sets_hold within first nullable grammar firsts hollow mem
hold r.Unit = refl
hold r.External = refl
hold r.Function = refl
hold r.Declaration = refl
hold r.Sassert = refl
hold r.Attrs = refl
hold r.Attr = refl
hold r.Specs = refl
hold r.Spec = refl
hold r.Storage = refl
hold r.Typespec = refl
hold r.Qual = refl
hold r.Squals = refl
hold r.Struct = refl
hold r.Members = refl
hold r.Member = refl
hold r.Enum = refl
hold r.Enumr = refl
hold r.Declarator = refl
hold r.Direct = refl
hold r.Suffix = refl
hold r.Params = refl
hold r.Param = refl
hold r.Typename = refl
hold r.Abstract = refl
hold r.Adirect = refl
hold r.Initdecl = refl
hold r.Init = refl
hold r.Braces = refl
hold r.Item = refl
hold r.Desig = refl
hold r.Block = refl
hold r.Label = refl
hold r.Statement = refl
hold r.Expr = refl
hold r.Assign = refl
hold r.Cond = refl
hold r.Oror = refl
hold r.Andand = refl
hold r.Bor = refl
hold r.Bxor = refl
hold r.Band = refl
hold r.Equal = refl
hold r.Rel = refl
hold r.Shift = refl
hold r.Sum = refl
hold r.Product = refl
hold r.Cast = refl
hold r.Unary = refl
hold r.Postfix = refl
hold r.Primary = refl
hold r.Literal = refl
hold r.Balanced = refl
hold r.Declared = refl
hold r.ParamSpecs = refl
hold r.Body = refl
hold r.Typeof = refl
hold r.If = refl
hold r.For = refl

pub record Stays (f : Form) (s : Scopes) (ts : List Terminal) (new : Scopes) (rest : List Terminal) : Type 0 where
  pub state : new ≡ s
  pub place : rest ≡ ts
  pub hollow : nullable tables f ≡ true

abbrev pub Begun : Form → Scopes → List Terminal → Type 0
Begun f s ts = mem (ahead tables parsed s ts) (first tables f) ≡ true

into : (b c : Bool) → (not b || c) ≡ true → b ≡ true → c ≡ true
into true c h e = h
into false c h e = absurd (cc)

joined : (f g : Form) {s mid new : Scopes} {ts later rest : List Terminal} → Begun f s ts ⊎ Stays f s ts mid later
    → Begun g mid later ⊎ Stays g mid later new rest → Begun (f then g) s ts ⊎ Stays (f then g) s ts new rest
unfolding first nullable
joined f g (inl m) n = inl (mem_left _ _ _ m)
joined f g {s = s} {mid = mid} {ts = ts} {later = later} (inr m) (inl n) =
    inl (mem_behind _ _ _ _ m.hollow (subst (λ z. mem (ahead tables parsed z ts) (first tables g) ≡ true) m.state (subst (λ z. mem (ahead tables parsed mid z) (first tables g) ≡ true) m.place n)))
joined f g (inr m) (inr n) = inr (record { state = n.state ∙ m.state; place = n.place ∙ m.place; hollow = rw (m.hollow, n.hollow) refl })

turned : (f : Form) {s mid new : Scopes} {ts later rest : List Terminal} → Begun f s ts ⊎ Stays f s ts mid later
    → Begun f mid later ⊎ ((new ≡ mid) × (rest ≡ later)) → Begun f s ts ⊎ ((new ≡ s) × (rest ≡ ts))
turned f (inl m) n = inl m
turned f {s = s} {mid = mid} {ts = ts} (inr m) (inl n) =
    inl (subst (λ z. mem (ahead tables parsed z ts) (first tables f) ≡ true) m.state (subst (λ z. mem (ahead tables parsed mid z) (first tables f) ≡ true) m.place n))
turned f (inr m) (inr n) = inr (n.0 ∙ m.state, n.1 ∙ m.place)

of_many : (f : Form) {s new : Scopes} {ts rest : List Terminal} → Begun (many f) s ts ⊎ Stays (many f) s ts new rest → Begun f s ts ⊎ ((new ≡ s) × (rest ≡ ts))
unfolding first
of_many f (inl m) = inl m
of_many f (inr m) = inr (m.state, m.place)

of_loop : (p : Test) (f : Form) {s new : Scopes} {ts rest : List Terminal} → Begun (loop p f) s ts ⊎ Stays (loop p f) s ts new rest → Begun f s ts ⊎ ((new ≡ s) × (rest ≡ ts))
unfolding first
of_loop p f (inl m) = inl m
of_loop p f (inr m) = inr (m.state, m.place)

as_many : (f : Form) {s new : Scopes} {ts rest : List Terminal} → Begun f s ts ⊎ ((new ≡ s) × (rest ≡ ts)) → Begun (many f) s ts ⊎ Stays (many f) s ts new rest
unfolding first nullable
as_many f (inl m) = inl m
as_many f (inr m) = inr (record { state = m.0; place = m.1; hollow = refl })

as_loop : (p : Test) (f : Form) {s new : Scopes} {ts rest : List Terminal} → Begun f s ts ⊎ ((new ≡ s) × (rest ≡ ts)) → Begun (loop p f) s ts ⊎ Stays (loop p f) s ts new rest
unfolding first nullable
as_loop p f (inl m) = inl m
as_loop p f (inr m) = inr (record { state = m.0; place = m.1; hollow = refl })

pub step : {f : Form} {s new : Scopes} {ts rest : List Terminal} {xs : List Tree} → Derives (over grammar) f s ts xs new rest → Begun f s ts ⊎ Stays f s ts new rest
unfolding first nullable ahead sets_hold
step (Derives.a_word e) = inl e
step {f = rule n} (Derives.a_rule {new = mid} {xs = xs} d) = elim (step d) [
  | inl m ↦ inl (within_mem tables _ (first tables (grammar n)) (firsts n) (and_left _ (not (nullable tables (grammar n)) || hollow n) (hold n)) m)
  | inr m ↦
      let h = into (nullable tables (grammar n)) (hollow n) (and_right (within tables (first tables (grammar n)) (firsts n)) _ (hold n)) m.hollow in inr (record { state = quiet.still n mid h ∙ m.state; place = m.place; hollow = h })
]
step Derives.nothing = inr (record { state = refl; place = refl; hollow = refl })
step {f = f then g} (Derives.both d e q) = joined f g (step d) (step e)
step {f = f or g} (Derives.left d) = elim (step d) [
  | inl m ↦ inl (mem_left _ _ _ m)
  | inr m ↦ inr (record { state = m.state; place = m.place; hollow = rw m.hollow refl })
]
step {f = f or g} (Derives.right d) = elim (step d) [
  | inl m ↦ inl (mem_right _ (first tables f) _ m)
  | inr m ↦ inr (record { state = m.state; place = m.place; hollow = or_right (nullable tables f) _ m.hollow })
]
step Derives.skip = inr (record { state = refl; place = refl; hollow = refl })
step (Derives.take d) = elim (step d) [
  | inl m ↦ inl m
  | inr m ↦ inr (record { state = m.state; place = m.place; hollow = refl })
]
step Derives.stop = inr (record { state = refl; place = refl; hollow = refl })
step {f = many f} (Derives.turn d e q) = as_many f (turned f (step d) (of_many f (step e)))
step {f = when p f g} (Derives.chosen a d) = elim (step d) [
  | inl m ↦ inl (mem_left _ _ _ m)
  | inr m ↦ inr (record { state = m.state; place = m.place; hollow = rw m.hollow refl })
]
step {f = when p f g} (Derives.other a d) = elim (step d) [
  | inl m ↦ inl (mem_right _ (first tables f) _ m)
  | inr m ↦ inr (record { state = m.state; place = m.place; hollow = or_right (nullable tables f) _ m.hollow })
]
step (Derives.done a) = inr (record { state = refl; place = refl; hollow = refl })
step {f = loop p f} (Derives.again a d e q) = as_loop p f (turned f (step d) (of_loop p f (step e)))

-- what comes next where the form is derived before what F has
pub lead_over : (F : List ℕ) {f : Form} {s new : Scopes} {ts rest : List Terminal} {xs : List Tree} → Derives (over grammar) f s ts xs new rest
    → mem (ahead tables parsed new rest) F ≡ true → mem (ahead tables parsed s ts) (leads tables f F) ≡ true
unfolding leads
lead_over F {f = f} {s = s} {new = new} {ts = ts} {rest = rest} d h = elim (step d) [
  | inl m ↦ mem_left _ _ _ m
  | inr m ↦ mem_behind _ (nullable tables f) _ _ m.hollow (subst (λ z. mem (ahead tables parsed z ts) F ≡ true) m.state (subst (λ z. mem (ahead tables parsed new z) F ≡ true) m.place h))
]

pub starts_over : {f : Form} {s new : Scopes} {ts rest : List Terminal} {xs : List Tree} → nullable tables f ≡ false → Derives (over grammar) f s ts xs new rest
    → mem (ahead tables parsed s ts) (first tables f) ≡ true
starts_over {f = f} h d = elim (step d) [
  | inl m ↦ m
  | inr m ↦ absurd (clash (nullable tables f) m.hollow h)
]

pub begins_over : {n : Rule} {s new : Scopes} {ts rest : List Terminal} {xs : List Tree} → hollow n ≡ false → Derives (over grammar) (rule n) s ts xs new rest
    → mem (ahead tables parsed s ts) (firsts n) ≡ true
unfolding nullable first
begins_over h d = starts_over h d
