-- The grammar with the parser's tests: of those it asks only what the parser asks too, so the derivations are the
-- same, with the same choices and parts.
use Rattle.std.proofs.Common.{◌≡◌, ℕ, Bool, true, false, ◌&&◌, List, ◌∷◌, refl, ap, subst, ◌∙◌}
use Rattle.model_grammar.specs.declared.grammar.Rule.{Rule}
use Rattle.model_grammar.specs.declared.grammar.Rule.TheVariants as r
use Rattle.model_grammar.specs.declared.grammar.Test.{Test}
use Rattle.model_grammar.specs.declared.grammar.Test.TheVariants as test
use Rattle.model_grammar.specs.declared.grammar.Terminal.{Terminal}
use Rattle.model_grammar.specs.declared.grammar.Tree.{Tree}
use Rattle.model_grammar.specs.GrammarForm.{Form, word, rule, empty, ◌then◌, ◌or◌, maybe, many, when, loop}
use Rattle.model_grammar.specs.Grammar.{grammar, is_part}
use Rattle.grammar_laws.specs.Preferences.{choices}
use Rattle.grammar_laws.specs.DepthPlace.{Piece, nothing_read, joined, ends, deeper, is_chain, grown}
use Rattle.model_grammar.specs.NameScopes.{Scopes}
use Rattle.model_grammar.specs.SyntaxTree.{c_language, asks}
use Rattle.model_grammar.specs.Derivation.{Derives, Begins}
use Rattle.grammar_laws.specs.ParserTests.{passes}
use Rattle.grammar_laws.proofs.kinds.KindSets.{and_left, and_right}
use Rattle.grammar_laws.proofs.walks.OneWalk.{per_turn}
use Rattle.grammar_laws.proofs.derivations.ClearBrackets.{over}
use Rattle.grammar_laws.proofs.specifier_lists.PiecesDerived.{by_grammar}
use Rattle.grammar_laws.proofs.same_language.BegunForms.{begun_by_grammar}

-- the tests of the grammar are the parser's
unfoldable pub asked : Test → Bool
asked test.HasParameters = true
asked test.ElseAhead = true
asked test.TypeAhead = true
asked _ = false

same_test : (p : Test) → asked p ≡ true → (s : Scopes) (ts : List Terminal) → asks p s ts ≡ passes p s ts
unfolding asked
same_test test.HasParameters h s ts = refl
same_test test.ElseAhead h s ts = refl
same_test test.TypeAhead h s ts = refl
same_test _ h s ts = absurd (cc)

unfoldable pub bare : Form → Bool
bare (word ks a) = true
bare (rule n) = true
bare empty = true
bare (f then g) = bare f && bare g
bare (f or g) = bare f && bare g
bare (maybe f) = bare f
bare (many f) = bare f
bare (when p f g) = asked p && (bare f && bare g)
bare (loop p f) = asked p && bare f

bare_grammar : (n : Rule) → bare (grammar n) ≡ true
unfolding bare asked grammar
bare_grammar r.Unit = refl
bare_grammar _ = refl

tested : (p : Test) (b : Bool) (s : Scopes) (ts : List Terminal) → asked p ≡ true → asks p s ts ≡ b → passes p s ts ≡ b
tested p b s ts h e = subst (λ z. z ≡ b) (same_test p h s ts) e

pub over_tests : {f : Form} {s new : Scopes} {ts rest : List Terminal} {xs : List Tree} → Derives c_language f s ts xs new rest → bare f ≡ true → by_grammar f s ts xs new rest
unfolding bare
over_tests (Derives.a_word e) h = Derives.a_word e
over_tests {f = rule n} (Derives.a_rule d) h = Derives.a_rule (over_tests d (bare_grammar n))
over_tests Derives.nothing h = Derives.nothing
over_tests {f = f then g} (Derives.both d e q) h = Derives.both (over_tests d (and_left (bare f) (bare g) h)) (over_tests e (and_right (bare f) (bare g) h)) q
over_tests {f = f or g} (Derives.left d) h = Derives.left (over_tests d (and_left (bare f) (bare g) h))
over_tests {f = f or g} (Derives.right d) h = Derives.right (over_tests d (and_right (bare f) (bare g) h))
over_tests Derives.skip h = Derives.skip
over_tests (Derives.take d) h = Derives.take (over_tests d h)
over_tests Derives.stop h = Derives.stop
over_tests (Derives.turn d e q) h = Derives.turn (over_tests d h) (over_tests e h) q
over_tests {f = when p f g} {s = s} {ts = ts} (Derives.chosen a d) h =
    Derives.chosen (tested p true s ts (and_left (asked p) (bare f && bare g) h) a) (over_tests d (and_left (bare f) (bare g) (and_right (asked p) (bare f && bare g) h)))
over_tests {f = when p f g} {s = s} {ts = ts} (Derives.other a d) h =
    Derives.other (tested p false s ts (and_left (asked p) (bare f && bare g) h) a) (over_tests d (and_right (bare f) (bare g) (and_right (asked p) (bare f && bare g) h)))
over_tests {f = loop p f} {s = s} {ts = ts} (Derives.done a) h = Derives.done (tested p false s ts (and_left (asked p) (bare f) h) a)
over_tests {f = loop p f} {s = s} {ts = ts} (Derives.again a d e q) h =
    Derives.again (tested p true s ts (and_left (asked p) (bare f) h) a) (over_tests d (and_right (asked p) (bare f) h)) (over_tests e h) q

pub over_begun : {f : Form} {s : Scopes} {ts rest : List Terminal} → Begins c_language f s ts rest → bare f ≡ true → begun_by_grammar f s ts rest
unfolding bare
over_begun Begins.yet h = Begins.yet
over_begun (Begins.in_word e) h = Begins.in_word e
over_begun {f = rule n} (Begins.in_rule d) h = Begins.in_rule (over_begun d (bare_grammar n))
over_begun {f = f then g} (Begins.in_first d) h = Begins.in_first (over_begun d (and_left (bare f) (bare g) h))
over_begun {f = f then g} (Begins.in_then d e) h = Begins.in_then (over_tests d (and_left (bare f) (bare g) h)) (over_begun e (and_right (bare f) (bare g) h))
over_begun {f = f or g} (Begins.in_left d) h = Begins.in_left (over_begun d (and_left (bare f) (bare g) h))
over_begun {f = f or g} (Begins.in_right d) h = Begins.in_right (over_begun d (and_right (bare f) (bare g) h))
over_begun (Begins.in_maybe d) h = Begins.in_maybe (over_begun d h)
over_begun (Begins.in_turn d) h = Begins.in_turn (over_begun d h)
over_begun (Begins.in_later d e) h = Begins.in_later (over_tests d h) (over_begun e h)
over_begun {f = when p f g} {s = s} {ts = ts} (Begins.in_chosen a d) h =
    Begins.in_chosen (tested p true s ts (and_left (asked p) (bare f && bare g) h) a) (over_begun d (and_left (bare f) (bare g) (and_right (asked p) (bare f && bare g) h)))
over_begun {f = when p f g} {s = s} {ts = ts} (Begins.in_other a d) h =
    Begins.in_other (tested p false s ts (and_left (asked p) (bare f && bare g) h) a) (over_begun d (and_right (bare f) (bare g) (and_right (asked p) (bare f && bare g) h)))
over_begun {f = loop p f} {s = s} {ts = ts} (Begins.in_again a d) h = Begins.in_again (tested p true s ts (and_left (asked p) (bare f) h) a) (over_begun d (and_right (asked p) (bare f) h))
over_begun {f = loop p f} {s = s} {ts = ts} (Begins.in_further a d e) h =
    Begins.in_further (tested p true s ts (and_left (asked p) (bare f) h) a) (over_tests d (and_right (asked p) (bare f) h)) (over_begun e h)

-- and back
untested : (p : Test) (b : Bool) (s : Scopes) (ts : List Terminal) → asked p ≡ true → passes p s ts ≡ b → asks p s ts ≡ b
untested p b s ts h e = same_test p h s ts ∙ e

pub without_tests : {f : Form} {s new : Scopes} {ts rest : List Terminal} {xs : List Tree} → by_grammar f s ts xs new rest → bare f ≡ true → Derives c_language f s ts xs new rest
unfolding bare
without_tests (Derives.a_word e) h = Derives.a_word e
without_tests {f = rule n} (Derives.a_rule d) h = Derives.a_rule (without_tests d (bare_grammar n))
without_tests Derives.nothing h = Derives.nothing
without_tests {f = f then g} (Derives.both d e q) h = Derives.both (without_tests d (and_left (bare f) (bare g) h)) (without_tests e (and_right (bare f) (bare g) h)) q
without_tests {f = f or g} (Derives.left d) h = Derives.left (without_tests d (and_left (bare f) (bare g) h))
without_tests {f = f or g} (Derives.right d) h = Derives.right (without_tests d (and_right (bare f) (bare g) h))
without_tests Derives.skip h = Derives.skip
without_tests (Derives.take d) h = Derives.take (without_tests d h)
without_tests Derives.stop h = Derives.stop
without_tests (Derives.turn d e q) h = Derives.turn (without_tests d h) (without_tests e h) q
without_tests {f = when p f g} {s = s} {ts = ts} (Derives.chosen a d) h =
    Derives.chosen (untested p true s ts (and_left (asked p) (bare f && bare g) h) a) (without_tests d (and_left (bare f) (bare g) (and_right (asked p) (bare f && bare g) h)))
without_tests {f = when p f g} {s = s} {ts = ts} (Derives.other a d) h =
    Derives.other (untested p false s ts (and_left (asked p) (bare f && bare g) h) a) (without_tests d (and_right (bare f) (bare g) (and_right (asked p) (bare f && bare g) h)))
without_tests {f = loop p f} {s = s} {ts = ts} (Derives.done a) h = Derives.done (untested p false s ts (and_left (asked p) (bare f) h) a)
without_tests {f = loop p f} {s = s} {ts = ts} (Derives.again a d e q) h =
    Derives.again (untested p true s ts (and_left (asked p) (bare f) h) a) (without_tests d (and_right (asked p) (bare f) h)) (without_tests e h) q

-- by the same choices
pub tested_choices : {f : Form} {s new : Scopes} {ts rest : List Terminal} {xs : List Tree} (d : Derives c_language f s ts xs new rest) (h : bare f ≡ true)
    → choices (over grammar) (over_tests d h) ≡ choices c_language d
unfolding bare over_tests choices
tested_choices (Derives.a_word e) h = refl
tested_choices {f = rule n} (Derives.a_rule d) h = tested_choices d (bare_grammar n)
tested_choices Derives.nothing h = refl
tested_choices {f = f then g} (Derives.both d e q) h = rw (tested_choices d (and_left (bare f) (bare g) h), tested_choices e (and_right (bare f) (bare g) h)) refl
tested_choices {f = f or g} (Derives.left d) h = ap (λ z. true ∷ z) (tested_choices d (and_left (bare f) (bare g) h))
tested_choices {f = f or g} (Derives.right d) h = ap (λ z. false ∷ z) (tested_choices d (and_right (bare f) (bare g) h))
tested_choices Derives.skip h = refl
tested_choices (Derives.take d) h = ap (λ z. true ∷ z) (tested_choices d h)
tested_choices Derives.stop h = refl
tested_choices (Derives.turn d e q) h = rw (tested_choices d h, tested_choices e h) refl
tested_choices {f = when p f g} (Derives.chosen a d) h = tested_choices d (and_left (bare f) (bare g) (and_right (asked p) (bare f && bare g) h))
tested_choices {f = when p f g} (Derives.other a d) h = tested_choices d (and_right (bare f) (bare g) (and_right (asked p) (bare f && bare g) h))
tested_choices (Derives.done a) h = refl
tested_choices {f = loop p f} (Derives.again a d e q) h = rw (tested_choices d (and_right (asked p) (bare f) h), tested_choices e h) refl

pub untested_choices : {f : Form} {s new : Scopes} {ts rest : List Terminal} {xs : List Tree} (d : by_grammar f s ts xs new rest) (h : bare f ≡ true)
    → choices c_language (without_tests d h) ≡ choices (over grammar) d
unfolding bare without_tests choices
untested_choices (Derives.a_word e) h = refl
untested_choices {f = rule n} (Derives.a_rule d) h = untested_choices d (bare_grammar n)
untested_choices Derives.nothing h = refl
untested_choices {f = f then g} (Derives.both d e q) h = rw (untested_choices d (and_left (bare f) (bare g) h), untested_choices e (and_right (bare f) (bare g) h)) refl
untested_choices {f = f or g} (Derives.left d) h = ap (λ z. true ∷ z) (untested_choices d (and_left (bare f) (bare g) h))
untested_choices {f = f or g} (Derives.right d) h = ap (λ z. false ∷ z) (untested_choices d (and_right (bare f) (bare g) h))
untested_choices Derives.skip h = refl
untested_choices (Derives.take d) h = ap (λ z. true ∷ z) (untested_choices d h)
untested_choices Derives.stop h = refl
untested_choices (Derives.turn d e q) h = rw (untested_choices d h, untested_choices e h) refl
untested_choices {f = when p f g} (Derives.chosen a d) h = untested_choices d (and_left (bare f) (bare g) (and_right (asked p) (bare f && bare g) h))
untested_choices {f = when p f g} (Derives.other a d) h = untested_choices d (and_right (bare f) (bare g) (and_right (asked p) (bare f && bare g) h))
untested_choices (Derives.done a) h = refl
untested_choices {f = loop p f} (Derives.again a d e q) h = rw (untested_choices d (and_right (asked p) (bare f) h), untested_choices e h) refl

-- and with the same parts
pub untested_parts : {f : Form} {s new : Scopes} {ts rest : List Terminal} {xs : List Tree} (d : by_grammar f s ts xs new rest) (h : bare f ≡ true) (c : Bool) (n : ℕ) (p : Piece)
    → grown c_language c n (without_tests d h) p ≡ grown (over grammar) c n d p
unfolding bare without_tests grown
untested_parts (Derives.a_word e) h c n p = refl
untested_parts {f = rule r} (Derives.a_rule d) h c n p = ap (λ z. joined p (ends (is_part r) z)) (untested_parts d (bare_grammar r) (is_chain r) (deeper (is_part r) n) nothing_read)
untested_parts Derives.nothing h c n p = refl
untested_parts {f = f then g} (Derives.both d e q) h c n p =
    ap (λ z. grown c_language c n (without_tests e (and_right (bare f) (bare g) h)) z) (untested_parts d (and_left (bare f) (bare g) h) c n p) ∙ untested_parts e (and_right (bare f) (bare g) h) c n _
untested_parts {f = f or g} (Derives.left d) h c n p = untested_parts d (and_left (bare f) (bare g) h) c n p
untested_parts {f = f or g} (Derives.right d) h c n p = untested_parts d (and_right (bare f) (bare g) h) c n p
untested_parts Derives.skip h c n p = refl
untested_parts (Derives.take d) h c n p = untested_parts d h c n p
untested_parts Derives.stop h c n p = refl
untested_parts (Derives.turn d e q) h c n p =
    ap (λ z. grown c_language c n (without_tests e h) z) (per_turn c p _ _ _ _ (untested_parts d h false n nothing_read) (untested_parts d h false n p)) ∙ untested_parts e h c n _
untested_parts {f = when t f g} (Derives.chosen a d) h c n p = untested_parts d (and_left (bare f) (bare g) (and_right (asked t) (bare f && bare g) h)) c n p
untested_parts {f = when t f g} (Derives.other a d) h c n p = untested_parts d (and_right (bare f) (bare g) (and_right (asked t) (bare f && bare g) h)) c n p
untested_parts (Derives.done a) h c n p = refl
untested_parts {f = loop t f} (Derives.again a d e q) h c n p =
    let w = and_right (asked t) (bare f) h in
    ap (λ z. grown c_language c n (without_tests e h) z) (per_turn c p _ _ _ _ (untested_parts d w false n nothing_read) (untested_parts d w false n p)) ∙ untested_parts e h c n _
