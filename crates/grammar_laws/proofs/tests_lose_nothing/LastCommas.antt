-- The tests of a last `,` in braces and among enumerators lose nothing.
use Rattle.std.proofs.Common.{◌≡◌, ℕ, Bool, true, false, not, ◌&&◌, ◌||◌, List, [], ◌∷◌, refl, subst, sym}
use Rattle.std.proofs.lemmas.Bool.{eqb-true}
use Rattle.std.specs.Prelude.{◌==◌, if◌then◌else◌}
use mathlib.Core.Logic.{inl, inr}
use Rattle.model_grammar.specs.declared.grammar.Rule.{Rule}
use Rattle.model_grammar.specs.declared.grammar.Rule.TheVariants as r
use Rattle.model_grammar.specs.declared.grammar.Act.{Act}
use Rattle.model_grammar.specs.declared.grammar.Act.TheVariants as act
use Rattle.model_grammar.specs.declared.grammar.Test.{Test}
use Rattle.model_grammar.specs.declared.grammar.Test.TheVariants as test
use Rattle.model_grammar.specs.declared.grammar.Terminal.{Terminal}
use Rattle.model_grammar.specs.declared.grammar.Tree.{Tree}
use Rattle.model_grammar.specs.GrammarForm.{Form, word, rule, ◌then◌, maybe, many, loop, mem}
use Rattle.model_grammar.specs.Grammar.{grammar, token}
use Rattle.model_grammar.specs.Terminals as k
use Rattle.model_grammar.specs.NameScopes.{Scopes, kind, after, bracket_kind, closes, is_type}
use Rattle.model_grammar.specs.Derivation.{Derives, Begins}
use Rattle.grammar_laws.specs.FirstTokens.{first}
use Rattle.grammar_laws.specs.ParserWalk.{ahead}
use Rattle.grammar_laws.specs.ParserTable.{table}
use Rattle.grammar_laws.specs.ParserSets.{tables, firsts, hollow}
use Rattle.grammar_laws.specs.ParserTests.{parsed, passes, sees, sees_name}
use Rattle.grammar_laws.proofs.walks.DecidedDerivations.{entry, begun}
use Rattle.grammar_laws.proofs.walks.ParserDecided.{quiet, checked}
use Rattle.grammar_laws.proofs.kinds.TokenKinds.{is_it, absent}
use Rattle.grammar_laws.proofs.tests_lose_nothing.TestedLoops.{Seen, looped, begun_list, then_begun}
use Rattle.grammar_laws.proofs.tests_lose_nothing.LosesNothing.{TestsLoseNothing, begins_with}

comma : (s : Scopes) (t : Terminal) → mem (kind s t) (k.Comma ∷ []) ≡ true → (t.kind == k.Comma) ≡ true
unfolding mem
comma s t h = is_it k.Comma (refl, refl, refl, refl, refl) s t h

is_brace : (s : Scopes) (t : Terminal) → mem (kind s t) (k.CloseBrace ∷ []) ≡ true → (t.kind == k.CloseBrace) ≡ true
unfolding mem
is_brace s t h = is_it k.CloseBrace (refl, refl, refl, refl, refl) s t h

no_comma : (s : Scopes) (t : Terminal) → mem (kind s t) (k.CloseBrace ∷ []) ≡ true → (t.kind == k.Comma) ≡ false
unfolding mem
no_comma s t h = absent (k.CloseBrace ∷ []) k.Comma refl refl refl refl s t h

and_not : (b : Bool) → (b && not true) ≡ false
and_not true = refl
and_not false = refl

-- a `,` and another of a list
abbrev more : Rule → Form
more n = token k.Comma then rule n

abbrev trailing : Form
trailing = maybe (token k.Comma)

-- what the lists need of their test: that it holds before one more, and not before the last brace
pub record IsComma (p : Test) (n : Rule) : Type 0 where
  pub moves : hollow n ≡ false
  pub again : (s : Scopes) (t : Terminal) (ts : List Terminal) → mem (kind s t) (k.Comma ∷ []) ≡ true → mem (ahead tables parsed (after act.Pass s t) ts) (firsts n) ≡ true → passes p s (t ∷ ts) ≡ true
  pub brace : (s s' : Scopes) (u : Terminal) (ts : List Terminal) → mem (kind s' u) (k.CloseBrace ∷ []) ≡ true → passes p s (u ∷ ts) ≡ false
  pub last : (s s' : Scopes) (t u : Terminal) (ts : List Terminal) → mem (kind s' u) (k.CloseBrace ∷ []) ≡ true → passes p s (t ∷ u ∷ ts) ≡ false

module _ (p : Test) (n : Rule) (is : IsComma p n) where
  pub seen : Seen p (more n)
  seen s new ts rest xs (Derives.both (Derives.a_word {t = t} {ts = us} e) d q) = is.again s t us e (begins_with is.moves d)

  -- a `,` may stand before the last brace
  behind : {s new : Scopes} {ts rest : List Terminal} {xs : List Tree} (a : Act) {end : Scopes} {later : List Terminal} {ys : List Tree}
      → Derives parsed trailing s ts xs new rest → Derives parsed (word (k.CloseBrace ∷ []) a) new rest ys end later → passes p s ts ≡ false
  behind {s = s} a Derives.skip (Derives.a_word {t = u} {ts = us} e) = is.brace s s u us e
  behind {s = s} a (Derives.take (Derives.a_word {t = t} e)) (Derives.a_word {t = u} {ts = us} e') = is.last s (after act.Pass s t) t u us e'

  pub list_derived : (a : Act) {s mid m end : Scopes} {ts late rest later : List Terminal} {xs ys zs : List Tree}
      → Derives parsed (many (more n)) s ts xs mid late → Derives parsed trailing mid late ys m rest
      → Derives parsed (word (k.CloseBrace ∷ []) a) m rest zs end later → Derives parsed (loop p (more n)) s ts xs mid late
  list_derived a l t b = looped p (more n) seen l (behind a t b)

  only_comma : {s : Scopes} {t : Terminal} {ts : List Terminal} (b : Bool) → passes p s (t ∷ ts) ≡ b → mem (kind s t) (k.Comma ∷ []) ≡ true → (g : Form)
      → Begins parsed (loop p (more n) then trailing then g) s (t ∷ ts) ts
  only_comma true b e g = Begins.in_first (Begins.in_again b (Begins.in_first (Begins.in_word e)))
  only_comma false b e g = Begins.in_then (Derives.done b) (Begins.in_first (Begins.in_maybe (Begins.in_word e)))

  edge : (g : Form) (s : Scopes) (ts rest : List Terminal) → Begins parsed (more n) s ts rest → Begins parsed (loop p (more n) then trailing then g) s ts rest
  unfolding first
  edge g s ts rest Begins.yet = Begins.yet
  edge g s ts rest (Begins.in_first Begins.yet) = Begins.yet
  edge g s ts rest (Begins.in_first (Begins.in_word {t = t} {ts = us} e)) = only_comma (passes p s (t ∷ us)) refl e g
  edge g s ts rest (Begins.in_then (Derives.a_word {t = t} {ts = us} e) d) = elim (entry tables parsed quiet checked d) [
    | inl m ↦ Begins.in_first (Begins.in_again (is.again s t us e m.begun) (Begins.in_then (Derives.a_word e) d))
    | inr h ↦ subst (λ z. Begins parsed (loop p (more n) then trailing then g) s (t ∷ us) z) (sym h) (only_comma (passes p s (t ∷ us)) refl e g)
  ]

  -- the list, the last `,` and the brace
  edge' : (a : Act) (s : Scopes) (ts rest : List Terminal) → Begins parsed (trailing then word (k.CloseBrace ∷ []) a) s ts rest
      → Begins parsed (loop p (more n) then trailing then word (k.CloseBrace ∷ []) a) s ts rest
  edge' a s ts rest Begins.yet = Begins.yet
  edge' a s ts rest (Begins.in_first Begins.yet) = Begins.yet
  edge' a s ts rest (Begins.in_first (Begins.in_maybe Begins.yet)) = Begins.yet
  edge' a s ts rest (Begins.in_first (Begins.in_maybe (Begins.in_word {t = t} {ts = us} e))) = only_comma (passes p s (t ∷ us)) refl e _
  edge' a s ts rest (Begins.in_then Derives.skip Begins.yet) = Begins.yet
  edge' a s ts rest (Begins.in_then Derives.skip (Begins.in_word {t = u} {ts = us} e)) = Begins.in_then (Derives.done (is.brace s s u us e)) (Begins.in_then Derives.skip (Begins.in_word e))
  edge' a s ts rest (Begins.in_then (Derives.take (Derives.a_word {t = t} {ts = us} e)) Begins.yet) = only_comma (passes p s (t ∷ us)) refl e _
  edge' a s ts rest (Begins.in_then (Derives.take (Derives.a_word {t = t} {ts = us} e)) (Begins.in_word {t = u} {ts = vs} e')) =
      Begins.in_then (Derives.done (is.last s (after act.Pass s t) t u vs e')) (Begins.in_then (Derives.take (Derives.a_word e)) (Begins.in_word e'))

  pub list_begun : (a : Act) {s : Scopes} {ts rest : List Terminal} → Begins parsed (many (more n) then trailing then word (k.CloseBrace ∷ []) a) s ts rest
      → Begins parsed (loop p (more n) then trailing then word (k.CloseBrace ∷ []) a) s ts rest
  list_begun a b = begun_list p (more n) (trailing then word (k.CloseBrace ∷ []) a) seen (edge (word (k.CloseBrace ∷ []) a)) (edge' a) b

  -- likewise where the brace stands outside
  edge'' : (s : Scopes) (ts rest : List Terminal) → Begins parsed trailing s ts rest → Begins parsed (loop p (more n) then trailing) s ts rest
  edge'' s ts rest Begins.yet = Begins.yet
  edge'' s ts rest (Begins.in_maybe Begins.yet) = Begins.yet
  edge'' s ts rest (Begins.in_maybe (Begins.in_word {t = t} {ts = us} e)) = only (passes p s (t ∷ us)) refl e
    where
      only : {s : Scopes} {t : Terminal} {ts : List Terminal} (b : Bool) → passes p s (t ∷ ts) ≡ b → mem (kind s t) (k.Comma ∷ []) ≡ true → Begins parsed (loop p (more n) then trailing) s (t ∷ ts) ts
      only true b e = Begins.in_first (Begins.in_again b (Begins.in_first (Begins.in_word e)))
      only false b e = Begins.in_then (Derives.done b) (Begins.in_maybe (Begins.in_word e))

  edge_open : (s : Scopes) (ts rest : List Terminal) → Begins parsed (more n) s ts rest → Begins parsed (loop p (more n) then trailing) s ts rest
  unfolding first
  edge_open s ts rest Begins.yet = Begins.yet
  edge_open s ts rest (Begins.in_first Begins.yet) = Begins.yet
  edge_open s ts rest (Begins.in_first (Begins.in_word e)) = edge'' s ts rest (Begins.in_maybe (Begins.in_word e))
  edge_open s ts rest (Begins.in_then (Derives.a_word {t = t} {ts = us} e) d) = elim (entry tables parsed quiet checked d) [
    | inl m ↦ Begins.in_first (Begins.in_again (is.again s t us e m.begun) (Begins.in_then (Derives.a_word e) d))
    | inr h ↦ subst (λ z. Begins parsed (loop p (more n) then trailing) s (t ∷ us) z) (sym h) (edge'' s (t ∷ us) us (Begins.in_maybe (Begins.in_word e)))
  ]

  pub open_list_begun : {s : Scopes} {ts rest : List Terminal} → Begins parsed (many (more n) then trailing) s ts rest → Begins parsed (loop p (more n) then trailing) s ts rest
  open_list_begun b = begun_list p (more n) trailing seen edge_open edge'' b

-- initializers
no_brace : (s : Scopes) (ts : List Terminal) → mem (ahead tables parsed s ts) (firsts r.Item) ≡ true → sees k.CloseBrace ts ≡ false
unfolding ahead firsts mem
no_brace s [] h = refl
no_brace s (t ∷ ts) h = absent (firsts r.Item) k.CloseBrace refl refl refl refl s t h

item_again : (s : Scopes) (t : Terminal) (ts : List Terminal) → mem (kind s t) (k.Comma ∷ []) ≡ true
    → mem (ahead tables parsed (after act.Pass s t) ts) (firsts r.Item) ≡ true → passes test.ItemAhead s (t ∷ ts) ≡ true
item_again s t ts e h = rw (comma s t e, no_brace (after act.Pass s t) ts h) refl

item_brace : (s s' : Scopes) (u : Terminal) (ts : List Terminal) → mem (kind s' u) (k.CloseBrace ∷ []) ≡ true → passes test.ItemAhead s (u ∷ ts) ≡ false
item_brace s s' u ts e = rw (no_comma s' u e) refl

item_last : (s s' : Scopes) (t u : Terminal) (ts : List Terminal) → mem (kind s' u) (k.CloseBrace ∷ []) ≡ true → passes test.ItemAhead s (t ∷ u ∷ ts) ≡ false
item_last s s' t u ts e = rw (is_brace s' u e) (and_not (t.kind == k.Comma))

pub items : IsComma test.ItemAhead r.Item
unfolding hollow
items = record { moves = refl; again = item_again; brace = item_brace; last = item_last }

abbrev listed : Form
listed = rule r.Item then many (token k.Comma then rule r.Item) then maybe (token k.Comma)

abbrev listed' : Form
listed' = rule r.Item then loop test.ItemAhead (token k.Comma then rule r.Item) then maybe (token k.Comma)

list_loses_nothing : {s m end : Scopes} {ts rest later : List Terminal} {xs ys : List Tree} → Derives parsed (maybe listed) s ts xs m rest
    → Derives parsed (token k.CloseBrace) m rest ys end later → Derives parsed (maybe listed') s ts xs m rest
list_loses_nothing Derives.skip b = Derives.skip
list_loses_nothing (Derives.take (Derives.both i (Derives.both l t z) q)) b = Derives.take (Derives.both i (Derives.both (list_derived test.ItemAhead r.Item items act.Pass l t b) t z) q)

list_fronts : {s : Scopes} {ts rest : List Terminal} → Begins parsed (maybe listed) s ts rest → Begins parsed (maybe listed') s ts rest
list_fronts Begins.yet = Begins.yet
list_fronts (Begins.in_maybe Begins.yet) = Begins.yet
list_fronts (Begins.in_maybe (Begins.in_first d)) = Begins.in_maybe (Begins.in_first d)
list_fronts (Begins.in_maybe (Begins.in_then d e)) = Begins.in_maybe (Begins.in_then d (open_list_begun test.ItemAhead r.Item items e))

in_braces : {s : Scopes} {ts rest : List Terminal} → Begins parsed (maybe listed then token k.CloseBrace) s ts rest → Begins parsed (maybe listed' then token k.CloseBrace) s ts rest
in_braces Begins.yet = Begins.yet
in_braces (Begins.in_first d) = Begins.in_first (list_fronts d)
in_braces (Begins.in_then d Begins.yet) = Begins.in_first (list_fronts (begun tables parsed quiet checked d))
in_braces (Begins.in_then d (Begins.in_word e)) = Begins.in_then (list_loses_nothing d (Derives.a_word e)) (Begins.in_word e)

braces_derived : (s new : Scopes) (ts rest : List Terminal) (xs : List Tree) → Derives parsed (grammar r.Braces) s ts xs new rest → Derives parsed (table r.Braces) s ts xs new rest
unfolding grammar table
braces_derived s new ts rest xs (Derives.both w (Derives.both m b q) p) = Derives.both w (Derives.both (list_loses_nothing m b) b q) p

braces_begun : (s : Scopes) (ts rest : List Terminal) → Begins parsed (grammar r.Braces) s ts rest → Begins parsed (table r.Braces) s ts rest
unfolding grammar table
braces_begun s ts rest d = then_begun (token k.OpenBrace) _ _ (λ s ts rest b. in_braces b) d

pub braces : TestsLoseNothing r.Braces
braces = record { derived = λ s new ts rest xs c d h. record { trees = xs; is = braces_derived s new ts rest xs d }; begun = λ s ts rest c d. braces_begun s ts rest d }

-- enumerators
same_name : (b x y y' : Bool) (j : ℕ) → mem (if b then (if x then (if y then k.DeclaredName else k.TypedefName) else k.Name) else j) (k.Name ∷ []) ≡ true
    → mem (if b then (if x then (if y' then k.DeclaredName else k.TypedefName) else k.Name) else j) (k.Name ∷ []) ≡ true
unfolding mem
same_name true true true y' j h = absurd (cc)
same_name true true false y' j h = absurd (cc)
same_name true false y y' j h = refl
same_name false x y y' j h = h

a_name : (s : Scopes) (t : Terminal) (ts : List Terminal) → mem (ahead tables parsed (after act.Pass s t) ts) (firsts r.Enumr) ≡ true → sees_name s ts ≡ true
unfolding ahead firsts mem
a_name s t [] h = absurd (cc)
a_name s t (u ∷ ts) h = one (kind s u == k.Name) (same_name (u.kind == k.Name) (is_type s.entries u.name) false s.reading.typed (bracket_kind s.brackets u.kind) h)
  where
    one : (b : Bool) → (b || false) ≡ true → b ≡ true
    one true h = refl
    one false h = h

enumerator_again : (s : Scopes) (t : Terminal) (ts : List Terminal) → mem (kind s t) (k.Comma ∷ []) ≡ true
    → mem (ahead tables parsed (after act.Pass s t) ts) (firsts r.Enumr) ≡ true → passes test.EnumeratorAhead s (t ∷ ts) ≡ true
enumerator_again s t ts e h = rw (comma s t e, a_name s t ts h) refl

enumerator_brace : (s s' : Scopes) (u : Terminal) (ts : List Terminal) → mem (kind s' u) (k.CloseBrace ∷ []) ≡ true → passes test.EnumeratorAhead s (u ∷ ts) ≡ false
enumerator_brace s s' u ts e = rw (no_comma s' u e) refl

no_name : (s s' : Scopes) (u : Terminal) → mem (kind s' u) (k.CloseBrace ∷ []) ≡ true → (kind s u == k.Name) ≡ false
unfolding mem
no_name s s' u e = let q : u.kind ≡ k.CloseBrace = eqb-true u.kind k.CloseBrace (is_brace s' u e) in rw q (kinds s.brackets)
  where
    kinds : (brackets : List ℕ) → (bracket_kind brackets k.CloseBrace == k.Name) ≡ false
    kinds [] = refl
    kinds (last ∷ brackets) = two (closes last k.CloseBrace)
      where
        two : (b : Bool) → ((if b then k.Closing else k.Stray) == k.Name) ≡ false
        two true = refl
        two false = refl

enumerator_last : (s s' : Scopes) (t u : Terminal) (ts : List Terminal) → mem (kind s' u) (k.CloseBrace ∷ []) ≡ true → passes test.EnumeratorAhead s (t ∷ u ∷ ts) ≡ false
enumerator_last s s' t u ts e = rw (no_name s s' u e) (and_false (t.kind == k.Comma))
  where
    and_false : (b : Bool) → (b && false) ≡ false
    and_false true = refl
    and_false false = refl

pub names : IsComma test.EnumeratorAhead r.Enumr
unfolding hollow
names = record { moves = refl; again = enumerator_again; brace = enumerator_brace; last = enumerator_last }
