-- The test of a `,` between parameters loses nothing.
use Rattle.std.proofs.Common.{◌≡◌, Bool, true, false, not, ◌&&◌, List, [], ◌∷◌, refl, subst, sym}
use Rattle.std.specs.Prelude.{◌==◌}
use mathlib.Core.Logic.{inl, inr}
use Rattle.model_grammar.specs.declared.grammar.Rule.TheVariants as r
use Rattle.model_grammar.specs.declared.grammar.Act.TheVariants as act
use Rattle.model_grammar.specs.declared.grammar.Test.TheVariants as test
use Rattle.model_grammar.specs.declared.grammar.Terminal.{Terminal}
use Rattle.model_grammar.specs.declared.grammar.Tree.{Tree}
use Rattle.model_grammar.specs.GrammarForm.{Form, word, rule, ◌then◌, maybe, loop, mem}
use Rattle.model_grammar.specs.Grammar.{grammar, token}
use Rattle.model_grammar.specs.Terminals as k
use Rattle.model_grammar.specs.NameScopes.{Scopes, kind, after}
use Rattle.model_grammar.specs.Derivation.{Derives, Begins}
use Rattle.grammar_laws.specs.FirstTokens.{first}
use Rattle.grammar_laws.specs.ParserWalk.{ahead}
use Rattle.grammar_laws.specs.ParserTable.{table}
use Rattle.grammar_laws.specs.ParserSets.{tables, firsts, follows, hollow}
use Rattle.grammar_laws.specs.ParserTests.{parsed, passes, sees}
use Rattle.grammar_laws.proofs.walks.DecidedDerivations.{entry}
use Rattle.grammar_laws.proofs.walks.ParserDecided.{quiet, checked}
use Rattle.grammar_laws.proofs.kinds.TokenKinds.{is_it, absent}
use Rattle.grammar_laws.proofs.tests_lose_nothing.TestedLoops.{Seen, looped, begun_list}
use Rattle.grammar_laws.proofs.tests_lose_nothing.LosesNothing.{TestsLoseNothing, IsDerived, begins_with}

abbrev more : Form
more = word (k.Comma ∷ []) act.NextParameter then rule r.Param

abbrev ellipsis : Form
ellipsis = maybe (token k.Comma then token k.Ellipsis)

comma : (s : Scopes) (t : Terminal) → mem (kind s t) (k.Comma ∷ []) ≡ true → (t.kind == k.Comma) ≡ true
unfolding mem
comma s t h = is_it k.Comma (refl, refl, refl, refl, refl) s t h

no_ellipsis : (s : Scopes) (ts : List Terminal) → mem (ahead tables parsed s ts) (firsts r.Param) ≡ true → sees k.Ellipsis ts ≡ false
unfolding ahead firsts mem
no_ellipsis s [] h = refl
no_ellipsis s (t ∷ ts) h = absent (firsts r.Param) k.Ellipsis refl refl refl refl s t h

comma_and : (s s' : Scopes) (t : Terminal) (ts : List Terminal) → mem (kind s t) (k.Comma ∷ []) ≡ true → mem (ahead tables parsed s' ts) (firsts r.Param) ≡ true
    → passes test.ParameterAhead s (t ∷ ts) ≡ true
comma_and s s' t ts e h = rw (comma s t e, no_ellipsis s' ts h) refl

pub seen : Seen test.ParameterAhead more
unfolding hollow
seen s new ts rest xs (Derives.both (Derives.a_word {t = t} {ts = us} e) d q) = comma_and s (after act.NextParameter s t) t us e (begins_with refl d)

ended : (s : Scopes) (t u : Terminal) (ts : List Terminal) → mem (kind (after act.Pass s t) u) (k.Ellipsis ∷ []) ≡ true → passes test.ParameterAhead s (t ∷ u ∷ ts) ≡ false
unfolding mem
ended s t u ts e = rw (is_it k.Ellipsis (refl, refl, refl, refl, refl) (after act.Pass s t) u e) (and_not (t.kind == k.Comma))
  where
    and_not : (b : Bool) → (b && not true) ≡ false
    and_not true = refl
    and_not false = refl

no_comma : (s : Scopes) (ts : List Terminal) → mem (ahead tables parsed s ts) (k.CloseParenthesis ∷ []) ≡ true → passes test.ParameterAhead s ts ≡ false
unfolding ahead mem
no_comma s [] h = refl
no_comma s (t ∷ ts) h = rw (absent (k.CloseParenthesis ∷ []) k.Comma refl refl refl refl s t h) refl

behind : {s new : Scopes} {ts rest : List Terminal} {xs : List Tree} → Derives parsed ellipsis s ts xs new rest
    → mem (ahead tables parsed new rest) (k.CloseParenthesis ∷ []) ≡ true → passes test.ParameterAhead s ts ≡ false
behind {s = s} Derives.skip h = no_comma s _ h
behind {s = s} (Derives.take (Derives.both (Derives.a_word {t = t} e) (Derives.a_word {t = u} {ts = us} e') q)) h = ended s t u us e'

-- where only the `,` is read
only_comma : {s : Scopes} {t : Terminal} {ts : List Terminal} (b : Bool) → passes test.ParameterAhead s (t ∷ ts) ≡ b → mem (kind s t) (k.Comma ∷ []) ≡ true
    → Begins parsed (loop test.ParameterAhead more then ellipsis) s (t ∷ ts) ts
only_comma true b e = Begins.in_first (Begins.in_again b (Begins.in_first (Begins.in_word e)))
only_comma false b e = Begins.in_then (Derives.done b) (Begins.in_maybe (Begins.in_first (Begins.in_word e)))

edge : (s : Scopes) (ts rest : List Terminal) → Begins parsed more s ts rest → Begins parsed (loop test.ParameterAhead more then ellipsis) s ts rest
unfolding first
edge s ts rest Begins.yet = Begins.yet
edge s ts rest (Begins.in_first Begins.yet) = Begins.yet
edge s ts rest (Begins.in_first (Begins.in_word {t = t} {ts = us} e)) = only_comma (passes test.ParameterAhead s (t ∷ us)) refl e
edge s ts rest (Begins.in_then (Derives.a_word {t = t} {ts = us} e) d) = elim (entry tables parsed quiet checked d) [
  | inl m ↦ Begins.in_first (Begins.in_again (comma_and s (after act.NextParameter s t) t us e m.begun) (Begins.in_then (Derives.a_word e) d))
  | inr h ↦ subst (λ z. Begins parsed (loop test.ParameterAhead more then ellipsis) s (t ∷ us) z) (sym h) (only_comma (passes test.ParameterAhead s (t ∷ us)) refl e)
]

edge' : (s : Scopes) (ts rest : List Terminal) → Begins parsed ellipsis s ts rest → Begins parsed (loop test.ParameterAhead more then ellipsis) s ts rest
edge' s ts rest Begins.yet = Begins.yet
edge' s ts rest (Begins.in_maybe Begins.yet) = Begins.yet
edge' s ts rest (Begins.in_maybe (Begins.in_first Begins.yet)) = Begins.yet
edge' s ts rest (Begins.in_maybe (Begins.in_first (Begins.in_word {t = t} {ts = us} e))) = only_comma (passes test.ParameterAhead s (t ∷ us)) refl e
edge' s ts rest (Begins.in_maybe (Begins.in_then (Derives.a_word {t = t} {ts = us} e) Begins.yet)) = only_comma (passes test.ParameterAhead s (t ∷ us)) refl e
edge' s ts rest (Begins.in_maybe (Begins.in_then (Derives.a_word {t = t} e) (Begins.in_word {t = u} {ts = us} e'))) =
    Begins.in_then (Derives.done (ended s t u us e')) (Begins.in_maybe (Begins.in_then (Derives.a_word e) (Begins.in_word e')))

derived : (s new : Scopes) (ts rest : List Terminal) (xs : List Tree) → Derives parsed (grammar r.Params) s ts xs new rest
    → mem (ahead tables parsed new rest) (follows r.Params) ≡ true → IsDerived (table r.Params) s ts new rest
unfolding grammar table follows
derived s new ts rest xs (Derives.both d (Derives.both m t p) q) h = record { trees = xs; is = Derives.both d (Derives.both (looped test.ParameterAhead more seen m (behind t h)) t p) q }

begun : (s : Scopes) (ts rest : List Terminal) → Begins parsed (grammar r.Params) s ts rest → Begins parsed (table r.Params) s ts rest
unfolding grammar table
begun s ts rest Begins.yet = Begins.yet
begun s ts rest (Begins.in_first d) = Begins.in_first d
begun s ts rest (Begins.in_then d e) = Begins.in_then d (begun_list test.ParameterAhead more ellipsis seen edge edge' e)

pub parameters : TestsLoseNothing r.Params
parameters = record { derived = λ s new ts rest xs c d h. derived s new ts rest xs d h; begun = λ s ts rest c d. begun s ts rest d }
