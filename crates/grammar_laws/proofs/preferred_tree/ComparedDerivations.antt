-- A derivation of the grammar against the choices of another: these come earlier, or both take the same and end alike.
use Rattle.std.proofs.Common.{◌≡◌, Bool, true, false, List, [], ◌∷◌, ◌++◌, refl, sym, subst}
use Rattle.model_grammar.specs.declared.grammar.Rule.{Rule}
use Rattle.model_grammar.specs.declared.grammar.Test.{Test}
use Rattle.model_grammar.specs.declared.grammar.Terminal.{Terminal}
use Rattle.model_grammar.specs.declared.grammar.Tree.{Tree}
use Rattle.model_grammar.specs.GrammarForm.{Form, empty, ◌or◌, maybe}
use Rattle.model_grammar.specs.NameScopes.{Scopes}
use Rattle.model_grammar.specs.Derivation.{Derives}
use Rattle.grammar_laws.specs.Preferences.{Earlier, choices}
use Rattle.grammar_laws.specs.apparatus.Untested.{either}
use Rattle.model_grammar.specs.Grammar.{grammar}
use Rattle.grammar_laws.specs.ParserTests.{parsed, passes}
use Rattle.grammar_laws.proofs.kinds.KindSets.{clash}
use Rattle.grammar_laws.proofs.derivations.ClearBrackets.{over}
use Rattle.grammar_laws.proofs.preferred_tree.ChoiceOrder.{IsTaking, earlier_front, earlier_join}
use Rattle.grammar_laws.proofs.preferred_tree.FormsWithoutTests.{opens_when, opens_loop, IsEither, is_either}
use Rattle.grammar_laws.proofs.preferred_tree.ChoicesInGrammar.{mark}

pub data Compared : List Bool → Scopes → List Terminal → List Bool → Scopes → List Terminal → Type 0 where
  before : {cs ds : List Bool} {new new' : Scopes} {rest rest' : List Terminal} → Earlier cs ds → Compared cs new rest ds new' rest'
  alike : {cs ds : List Bool} {new new' : Scopes} {rest rest' : List Terminal} → cs ≡ ds → new ≡ new' → rest ≡ rest' → Compared cs new rest ds new' rest'

pub itself : {f : Form} {s new : Scopes} {ts rest : List Terminal} {xs : List Tree} → (d : Derives (over grammar) f s ts xs new rest)
    → IsTaking (over grammar) f s ts xs new rest (choices (over grammar) d)
itself d = record { is = d; takes = refl }

pub retaken : {cs ds es : List Bool} {new new' : Scopes} {rest rest' : List Terminal} → ds ≡ es → Compared cs new rest ds new' rest' → Compared cs new rest es new' rest'
retaken {cs = cs} {new = new} {new' = new'} {rest = rest} {rest' = rest'} q o = subst (λ z. Compared cs new rest z new' rest') q o

pub marked : (b : Bool) {cs ds : List Bool} {new new' : Scopes} {rest rest' : List Terminal} → Compared cs new rest ds new' rest' → Compared (b ∷ cs) new rest (b ∷ ds) new' rest'
marked true (Compared.before e) = Compared.before e
marked true (Compared.alike p q r) = Compared.alike (rw p refl) q r
marked false (Compared.before e) = Compared.before e
marked false (Compared.alike p q r) = Compared.alike (rw p refl) q r

pub closed : (n : Rule) {cs ds : List Bool} {new new' : Scopes} {rest rest' : List Terminal} → Compared cs new rest ds new' rest' → Compared cs (parsed.close n new) rest ds (parsed.close n new') rest'
closed n (Compared.before e) = Compared.before e
closed n (Compared.alike p q r) = Compared.alike p (rw q refl) r

behind : {cs ds es es' : List Bool} {new new' : Scopes} {rest rest' : List Terminal} → cs ≡ ds → Compared es new rest es' new' rest' → Compared (cs ++ es) new rest (ds ++ es') new' rest'
behind {cs = cs} {ds = ds} {es = es} {es' = es'} p (Compared.before b) = Compared.before (earlier_join cs ds es es' p b)
behind p (Compared.alike a b c) = Compared.alike (rw (p, a) refl) b c

pub joined : {cs ds es es' : List Bool} {mid mid' new new' : Scopes} {later later' rest rest' : List Terminal} → Compared cs mid later ds mid' later'
    → (mid ≡ mid' → later ≡ later' → Compared es new rest es' new' rest') → Compared (cs ++ es) new rest (ds ++ es') new' rest'
joined {cs = cs} {ds = ds} {es = es} {es' = es'} (Compared.before e) k = Compared.before (earlier_front cs ds es es' e)
joined (Compared.alike p q r) k = behind p (k q r)

-- where a test chose the first alternative
maybe_first : (f : Form) {s new new' : Scopes} {ts rest rest' : List Terminal} {ys : List Tree} {cs : List Bool}
    → ((o : Derives (over grammar) f s ts ys new' rest') → Compared cs new rest (choices (over grammar) o) new' rest')
    → (o : Derives (over grammar) (maybe f) s ts ys new' rest') → Compared (true ∷ cs) new rest (choices (over grammar) o) new' rest'
unfolding choices
maybe_first f go Derives.skip = Compared.before tt
maybe_first f go (Derives.take o) = marked true (go o)

or_first : (f g : Form) {s new new' : Scopes} {ts rest rest' : List Terminal} {ys : List Tree} {cs : List Bool}
    → ((o : Derives (over grammar) f s ts ys new' rest') → Compared cs new rest (choices (over grammar) o) new' rest')
    → (o : Derives (over grammar) (f or g) s ts ys new' rest') → Compared (true ∷ cs) new rest (choices (over grammar) o) new' rest'
unfolding choices
or_first f g go (Derives.left o) = marked true (go o)
or_first f g go (Derives.right o) = Compared.before tt

either_first : (f g : Form) {s new new' : Scopes} {ts rest rest' : List Terminal} {ys : List Tree} {cs : List Bool} → IsEither f g
    → ((o : Derives (over grammar) f s ts ys new' rest') → Compared cs new rest (choices (over grammar) o) new' rest')
    → (o : Derives (over grammar) (either f g) s ts ys new' rest') → Compared (true ∷ cs) new rest (choices (over grammar) o) new' rest'
either_first f g {s = s} {new' = new'} {ts = ts} {rest' = rest'} {ys = ys} (IsEither.part q e) go o =
    let t = subst (λ z. IsTaking (over grammar) z s ts ys new' rest' (choices (over grammar) o)) e (itself o) in
    retaken t.takes (maybe_first f go t.is)
either_first f g {s = s} {new' = new'} {ts = ts} {rest' = rest'} {ys = ys} (IsEither.choice e) go o =
    let t = subst (λ z. IsTaking (over grammar) z s ts ys new' rest' (choices (over grammar) o)) e (itself o) in
    retaken t.takes (or_first f g go t.is)

pub choose_first : (b : Bool) (p : Test) (f g : Form) {s new new' : Scopes} {ts rest rest' : List Terminal} {ys : List Tree} {cs : List Bool}
    → passes p s ts ≡ true → ((o : Derives (over grammar) f s ts ys new' rest') → Compared cs new rest (choices (over grammar) o) new' rest')
    → (o : Derives (over grammar) (opens_when b p f g) s ts ys new' rest') → Compared (mark b true cs) new rest (choices (over grammar) o) new' rest'
unfolding choices opens_when mark
choose_first true p f g a go (Derives.chosen a' o) = go o
choose_first true p f g a go (Derives.other a' o) = absurd (clash _ a a')
choose_first false p f g a go o = either_first f g (is_either f g) go o

-- where it chose the second, since the first derives nothing
maybe_second : (f : Form) {s new new' : Scopes} {ts rest rest' : List Terminal} {ys : List Tree} {cs : List Bool}
    → (Derives (over grammar) f s ts ys new' rest' → ⊥)
    → ((o : Derives (over grammar) empty s ts ys new' rest') → Compared cs new rest (choices (over grammar) o) new' rest')
    → (o : Derives (over grammar) (maybe f) s ts ys new' rest') → Compared (false ∷ cs) new rest (choices (over grammar) o) new' rest'
unfolding choices
maybe_second f out go Derives.skip = marked false (go Derives.nothing)
maybe_second f out go (Derives.take o) = absurd (out o)

or_second : (f g : Form) {s new new' : Scopes} {ts rest rest' : List Terminal} {ys : List Tree} {cs : List Bool}
    → (Derives (over grammar) f s ts ys new' rest' → ⊥)
    → ((o : Derives (over grammar) g s ts ys new' rest') → Compared cs new rest (choices (over grammar) o) new' rest')
    → (o : Derives (over grammar) (f or g) s ts ys new' rest') → Compared (false ∷ cs) new rest (choices (over grammar) o) new' rest'
unfolding choices
or_second f g out go (Derives.left o) = absurd (out o)
or_second f g out go (Derives.right o) = marked false (go o)

either_second : (f g : Form) {s new new' : Scopes} {ts rest rest' : List Terminal} {ys : List Tree} {cs : List Bool} → IsEither f g
    → (Derives (over grammar) f s ts ys new' rest' → ⊥)
    → ((o : Derives (over grammar) g s ts ys new' rest') → Compared cs new rest (choices (over grammar) o) new' rest')
    → (o : Derives (over grammar) (either f g) s ts ys new' rest') → Compared (false ∷ cs) new rest (choices (over grammar) o) new' rest'
either_second f g {s = s} {new' = new'} {ts = ts} {rest' = rest'} {ys = ys} (IsEither.part q e) out go o =
    let t = subst (λ z. IsTaking (over grammar) z s ts ys new' rest' (choices (over grammar) o)) e (itself o) in
    retaken t.takes (maybe_second f out (λ n.
    let u = subst (λ z. IsTaking (over grammar) z s ts ys new' rest' (choices (over grammar) n)) (sym q) (itself n) in
    retaken u.takes (go u.is)) t.is)
either_second f g {s = s} {new' = new'} {ts = ts} {rest' = rest'} {ys = ys} (IsEither.choice e) out go o =
    let t = subst (λ z. IsTaking (over grammar) z s ts ys new' rest' (choices (over grammar) o)) e (itself o) in
    retaken t.takes (or_second f g out go t.is)

pub choose_second : (b : Bool) (p : Test) (f g : Form) {s new new' : Scopes} {ts rest rest' : List Terminal} {ys : List Tree} {cs : List Bool}
    → passes p s ts ≡ false → (b ≡ false → Derives (over grammar) f s ts ys new' rest' → ⊥)
    → ((o : Derives (over grammar) g s ts ys new' rest') → Compared cs new rest (choices (over grammar) o) new' rest')
    → (o : Derives (over grammar) (opens_when b p f g) s ts ys new' rest') → Compared (mark b false cs) new rest (choices (over grammar) o) new' rest'
unfolding choices opens_when mark
choose_second true p f g a out go (Derives.chosen a' o) = absurd (clash _ a' a)
choose_second true p f g a out go (Derives.other a' o) = go o
choose_second false p f g a out go o = either_second f g (is_either f g) (out refl) go o

-- where it ended a repetition
pub choose_done : (b : Bool) (p : Test) (f : Form) {s new' : Scopes} {ts rest' : List Terminal} {ws : List Tree} → passes p s ts ≡ false
    → (b ≡ false → (mid : Scopes) (later : List Terminal) (ys zs : List Tree) → Derives (over grammar) f s ts ys mid later → Derives (over grammar) (opens_loop b p f) mid later zs new' rest' → ⊥)
    → (o : Derives (over grammar) (opens_loop b p f) s ts ws new' rest') → Compared (mark b false []) s ts (choices (over grammar) o) new' rest'
unfolding choices opens_loop mark
choose_done true p f a out (Derives.done a') = Compared.alike refl refl refl
choose_done true p f a out (Derives.again a' o o' q) = absurd (clash _ a' a)
choose_done false p f a out Derives.stop = Compared.alike refl refl refl
choose_done false p f a out (Derives.turn {mid = mid} o o' q) = absurd (out refl mid _ _ _ o o')

-- where it went on
pub choose_again : (b : Bool) (p : Test) (f : Form) {s new new' : Scopes} {ts rest rest' : List Terminal} {ws : List Tree} {cs : List Bool}
    → passes p s ts ≡ true
    → ((mid : Scopes) (later : List Terminal) (ys zs : List Tree) (o : Derives (over grammar) f s ts ys mid later) (o' : Derives (over grammar) (opens_loop b p f) mid later zs new' rest') → Compared cs new rest (choices (over grammar) o ++ choices (over grammar) o') new' rest')
    → (o : Derives (over grammar) (opens_loop b p f) s ts ws new' rest') → Compared (mark b true cs) new rest (choices (over grammar) o) new' rest'
unfolding choices opens_loop mark
choose_again true p f a go (Derives.done a') = absurd (clash _ a a')
choose_again true p f a go (Derives.again {mid = mid} a' o o' q) = go mid _ _ _ o o'
choose_again false p f a go Derives.stop = Compared.before tt
choose_again false p f a go (Derives.turn {mid = mid} o o' q) = marked true (go mid _ _ _ o o')
