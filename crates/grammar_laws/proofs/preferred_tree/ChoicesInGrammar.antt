-- The choices that a derivation of the parser's table takes in the grammar, and the parts that it has there.
use Rattle.std.proofs.Common.{◌≡◌, ℕ, Bool, true, false, List, [], ◌∷◌, ◌++◌, refl, sym, ap, subst, ◌∙◌}
use Rattle.std.specs.Prelude.{if◌then◌else◌}
use Rattle.model_grammar.specs.declared.grammar.Rule.{Rule}
use Rattle.model_grammar.specs.declared.grammar.Test.{Test}
use Rattle.model_grammar.specs.declared.grammar.Terminal.{Terminal}
use Rattle.model_grammar.specs.declared.grammar.Tree.{Tree}
use Rattle.model_grammar.specs.GrammarForm.{Form, rule, empty, ◌then◌, ◌or◌, maybe, many, when, loop}
use Rattle.model_grammar.specs.NameScopes.{Scopes}
use Rattle.model_grammar.specs.Derivation.{Derives}
use Rattle.grammar_laws.specs.Preferences.{choices}
use Rattle.grammar_laws.specs.apparatus.Untested.{either}
use Rattle.grammar_laws.specs.DepthPlace.{Piece, nothing_read, joined, chained, ends, deeper, is_chain, grown}
use Rattle.model_grammar.specs.Grammar.{grammar, is_part}
use Rattle.grammar_laws.specs.ParserTests.{parsed, passes}
use Rattle.grammar_laws.proofs.derivations.ClearBrackets.{over}
use Rattle.grammar_laws.proofs.walks.OneWalk.{per_turn}
use Rattle.grammar_laws.proofs.preferred_tree.FormsWithoutTests.{opens, opens_when, opens_loop, stays, open_form, IsEither, is_either}

-- a test that stays makes no choice
unfoldable pub mark : Bool → Bool → List Bool → List Bool
mark true x cs = cs
mark false x cs = x ∷ cs

unfoldable pub open_choices : {f : Form} {s new : Scopes} {ts rest : List Terminal} {xs : List Tree} → Derives parsed f s ts xs new rest → List Bool
open_choices (Derives.a_word e) = []
open_choices {f = rule n} (Derives.a_rule d) = open_choices d
open_choices Derives.nothing = []
open_choices (Derives.both d e q) = open_choices d ++ open_choices e
open_choices (Derives.left d) = true ∷ open_choices d
open_choices (Derives.right d) = false ∷ open_choices d
open_choices Derives.skip = false ∷ []
open_choices (Derives.take d) = true ∷ open_choices d
open_choices Derives.stop = false ∷ []
open_choices (Derives.turn d e q) = true ∷ open_choices d ++ open_choices e
open_choices {f = when p f g} (Derives.chosen a d) = mark (stays p) true (open_choices d)
open_choices {f = when p f g} (Derives.other a d) = mark (stays p) false (open_choices d)
open_choices {f = loop p f} (Derives.done a) = mark (stays p) false []
open_choices {f = loop p f} (Derives.again a d e q) = mark (stays p) true (open_choices d ++ open_choices e)

-- a derivation of the grammar that takes these choices, and makes this of the piece before it
pub record IsOpened (f : Form) (s : Scopes) (ts : List Terminal) (xs : List Tree) (new : Scopes) (rest : List Terminal) (cs : List Bool) (u : Bool → ℕ → Piece → Piece) : Type 0 where
  pub is : Derives (over grammar) f s ts xs new rest
  pub takes : choices (over grammar) is ≡ cs
  pub grows : (c : Bool) (n : ℕ) (p : Piece) → grown (over grammar) c n is p ≡ u c n p

abbrev Growth : Type 0
Growth = Bool → ℕ → Piece → Piece

abbrev in_part : Rule → Growth → Growth
in_part n u c i p = joined p (ends (is_part n) (u (is_chain n) (deeper (is_part n) i) nothing_read))

abbrev with_turn : Growth → Growth → Growth
with_turn u v c n p = v c n (if c then chained p (u false n nothing_read) else u false n p)

in_rule : (n : Rule) {s new : Scopes} {ts rest : List Terminal} {xs : List Tree} {cs : List Bool} {u : Growth} → IsOpened (grammar n) s ts xs new rest cs u
    → IsOpened (rule n) s ts (parsed.node n xs ∷ []) (parsed.close n new) rest cs (in_part n u)
unfolding choices grown
in_rule n d = record { is = Derives.a_rule d.is; takes = d.takes; grows = λ c i p. ap (λ z. joined p (ends (is_part n) z)) (d.grows (is_chain n) (deeper (is_part n) i) nothing_read) }

in_both : {f g : Form} {s mid new : Scopes} {ts later rest : List Terminal} {xs ys zs : List Tree} {cs ds : List Bool} {u v : Growth}
    → IsOpened f s ts xs mid later cs u → IsOpened g mid later ys new rest ds v → zs ≡ xs ++ ys
    → IsOpened (f then g) s ts zs new rest (cs ++ ds) (λ c n p. v c n (u c n p))
unfolding choices grown
in_both d e q = record { is = Derives.both d.is e.is q; takes = rw (d.takes, e.takes) refl; grows = λ c n p. ap (λ z. grown (over grammar) c n e.is z) (d.grows c n p) ∙ e.grows c n _ }

in_take : {f : Form} {s new : Scopes} {ts rest : List Terminal} {xs : List Tree} {cs : List Bool} {u : Growth} → IsOpened f s ts xs new rest cs u → IsOpened (maybe f) s ts xs new rest (true ∷ cs) u
unfolding choices grown
in_take d = record { is = Derives.take d.is; takes = rw d.takes refl; grows = λ c n p. d.grows c n p }

in_skip : {f : Form} {s new : Scopes} {ts rest : List Terminal} {xs : List Tree} {cs : List Bool} {u : Growth}
    → (d : Derives (over grammar) empty s ts xs new rest) → choices (over grammar) d ≡ cs
    → ((c : Bool) (n : ℕ) (p : Piece) → grown (over grammar) c n d p ≡ u c n p) → IsOpened (maybe f) s ts xs new rest (false ∷ cs) u
unfolding choices grown
in_skip Derives.nothing q h = record { is = Derives.skip; takes = rw q refl; grows = λ c n p. h c n p }

in_left : {f g : Form} {s new : Scopes} {ts rest : List Terminal} {xs : List Tree} {cs : List Bool} {u : Growth} → IsOpened f s ts xs new rest cs u → IsOpened (f or g) s ts xs new rest (true ∷ cs) u
unfolding choices grown
in_left d = record { is = Derives.left d.is; takes = rw d.takes refl; grows = λ c n p. d.grows c n p }

in_right : {f g : Form} {s new : Scopes} {ts rest : List Terminal} {xs : List Tree} {cs : List Bool} {u : Growth} → IsOpened g s ts xs new rest cs u → IsOpened (f or g) s ts xs new rest (false ∷ cs) u
unfolding choices grown
in_right d = record { is = Derives.right d.is; takes = rw d.takes refl; grows = λ c n p. d.grows c n p }

either_first : (f g : Form) {s new : Scopes} {ts rest : List Terminal} {xs : List Tree} {cs : List Bool} {u : Growth} → IsEither f g
    → IsOpened f s ts xs new rest cs u → IsOpened (either f g) s ts xs new rest (true ∷ cs) u
either_first f g {s = s} {new = new} {ts = ts} {rest = rest} {xs = xs} {cs = cs} {u = u} (IsEither.part q e) d = subst (λ z. IsOpened z s ts xs new rest (true ∷ cs) u) (sym e) (in_take d)
either_first f g {s = s} {new = new} {ts = ts} {rest = rest} {xs = xs} {cs = cs} {u = u} (IsEither.choice e) d = subst (λ z. IsOpened z s ts xs new rest (true ∷ cs) u) (sym e) (in_left d)

either_second : (f g : Form) {s new : Scopes} {ts rest : List Terminal} {xs : List Tree} {cs : List Bool} {u : Growth} → IsEither f g
    → IsOpened g s ts xs new rest cs u → IsOpened (either f g) s ts xs new rest (false ∷ cs) u
either_second f g {s = s} {new = new} {ts = ts} {rest = rest} {xs = xs} {cs = cs} {u = u} (IsEither.part q e) d =
    let n = subst (λ z. IsOpened z s ts xs new rest cs u) q d in
    subst (λ z. IsOpened z s ts xs new rest (false ∷ cs) u) (sym e) (in_skip n.is n.takes n.grows)
either_second f g {s = s} {new = new} {ts = ts} {rest = rest} {xs = xs} {cs = cs} {u = u} (IsEither.choice e) d = subst (λ z. IsOpened z s ts xs new rest (false ∷ cs) u) (sym e) (in_right d)

in_chosen : (b : Bool) (p : Test) (f g : Form) {s new : Scopes} {ts rest : List Terminal} {xs : List Tree} {cs : List Bool} {u : Growth} → passes p s ts ≡ true
    → IsOpened f s ts xs new rest cs u → IsOpened (opens_when b p f g) s ts xs new rest (mark b true cs) u
unfolding choices grown opens_when mark
in_chosen true p f g a d = record { is = Derives.chosen a d.is; takes = d.takes; grows = λ c n p. d.grows c n p }
in_chosen false p f g a d = either_first f g (is_either f g) d

in_other : (b : Bool) (p : Test) (f g : Form) {s new : Scopes} {ts rest : List Terminal} {xs : List Tree} {cs : List Bool} {u : Growth} → passes p s ts ≡ false
    → IsOpened g s ts xs new rest cs u → IsOpened (opens_when b p f g) s ts xs new rest (mark b false cs) u
unfolding choices grown opens_when mark
in_other true p f g a d = record { is = Derives.other a d.is; takes = d.takes; grows = λ c n p. d.grows c n p }
in_other false p f g a d = either_second f g (is_either f g) d

in_done : (b : Bool) (p : Test) (f : Form) {s : Scopes} {ts : List Terminal} → passes p s ts ≡ false → IsOpened (opens_loop b p f) s ts [] s ts (mark b false []) (λ c n q. q)
unfolding choices grown opens_loop mark
in_done true p f a = record { is = Derives.done a; takes = refl; grows = λ c n q. refl }
in_done false p f a = record { is = Derives.stop; takes = refl; grows = λ c n q. refl }

one_turn : (c : Bool) (n : ℕ) (p : Piece) {f more : Form} {s mid new : Scopes} {ts later rest : List Terminal} {xs ys : List Tree} {cs ds : List Bool} {u v : Growth} (d : IsOpened f s ts xs mid later cs u) (e : IsOpened more mid later ys new rest ds v)
    → grown (over grammar) c n e.is (if c then chained p (grown (over grammar) false n d.is nothing_read) else grown (over grammar) false n d.is p) ≡ with_turn u v c n p
one_turn c n p d e = ap (λ z. grown (over grammar) c n e.is z) (per_turn c p _ _ _ _ (d.grows false n nothing_read) (d.grows false n p)) ∙ e.grows c n _

in_again : (b : Bool) (p : Test) (f : Form) {s mid new : Scopes} {ts later rest : List Terminal} {xs ys zs : List Tree} {cs ds : List Bool} {u v : Growth}
    → passes p s ts ≡ true → IsOpened f s ts xs mid later cs u → IsOpened (opens_loop b p f) mid later ys new rest ds v → zs ≡ xs ++ ys
    → IsOpened (opens_loop b p f) s ts zs new rest (mark b true (cs ++ ds)) (with_turn u v)
unfolding choices grown opens_loop mark
in_again true p f a d e q = record { is = Derives.again a d.is e.is q; takes = rw (d.takes, e.takes) refl; grows = λ c n p. one_turn c n p d e }
in_again false p f a d e q = record { is = Derives.turn d.is e.is q; takes = rw (d.takes, e.takes) refl; grows = λ c n p. one_turn c n p d e }

in_turn : {f : Form} {s mid new : Scopes} {ts later rest : List Terminal} {xs ys zs : List Tree} {cs ds : List Bool} {u v : Growth}
    → IsOpened f s ts xs mid later cs u → IsOpened (many f) mid later ys new rest ds v → zs ≡ xs ++ ys
    → IsOpened (many f) s ts zs new rest (true ∷ cs ++ ds) (with_turn u v)
unfolding choices grown
in_turn d e q = record { is = Derives.turn d.is e.is q; takes = rw (d.takes, e.takes) refl; grows = λ c n p. one_turn c n p d e }

abbrev pub growth : {f : Form} {s new : Scopes} {ts rest : List Terminal} {xs : List Tree} → Derives parsed f s ts xs new rest → Bool → ℕ → Piece → Piece
growth d = λ c n p. grown parsed c n d p

-- the grammar derives it, by these choices and with the same parts
pub opened_of : {f : Form} {s new : Scopes} {ts rest : List Terminal} {xs : List Tree} → (d : Derives parsed f s ts xs new rest) → IsOpened (opens f) s ts xs new rest (open_choices d) (growth d)
unfolding open_choices opens choices grown
opened_of (Derives.a_word e) = record { is = Derives.a_word e; takes = refl; grows = λ c n p. refl }
opened_of {f = rule n} {s = s} {ts = ts} (Derives.a_rule {new = mid} {rest = rest} {xs = xs} d) =
    in_rule n (subst (λ z. IsOpened z s ts xs mid rest (open_choices d) (growth d)) (open_form n) (opened_of d))
opened_of Derives.nothing = record { is = Derives.nothing; takes = refl; grows = λ c n p. refl }
opened_of (Derives.both d e q) = in_both (opened_of d) (opened_of e) q
opened_of (Derives.left d) = in_left (opened_of d)
opened_of (Derives.right d) = in_right (opened_of d)
opened_of Derives.skip = record { is = Derives.skip; takes = refl; grows = λ c n p. refl }
opened_of (Derives.take d) = in_take (opened_of d)
opened_of Derives.stop = record { is = Derives.stop; takes = refl; grows = λ c n p. refl }
opened_of (Derives.turn d e q) = in_turn (opened_of d) (opened_of e) q
opened_of {f = when p f g} (Derives.chosen a d) = in_chosen (stays p) p _ _ a (opened_of d)
opened_of {f = when p f g} (Derives.other a d) = in_other (stays p) p _ _ a (opened_of d)
opened_of {f = loop p f} (Derives.done a) = in_done (stays p) p _ a
opened_of {f = loop p f} (Derives.again a d e q) = in_again (stays p) p _ a (opened_of d) (opened_of e) q
