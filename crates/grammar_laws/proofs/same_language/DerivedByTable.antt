-- What the grammar derives the parser's table derives before what may follow it, and begins whatever follows it:
-- outside lists of specifiers each production by itself, and a list of specifiers by its pieces.
use Rattle.std.proofs.Common.{◌≡◌, ℕ, Bool, true, false, not, ◌&&◌, ◌||◌, List, [], refl, sym, subst, ◌∙◌}
use mathlib.Core.Logic.{inl, inr}
use Rattle.model_grammar.specs.declared.grammar.Rule.{Rule}
use Rattle.model_grammar.specs.declared.grammar.Rule.TheVariants as r
use Rattle.model_grammar.specs.declared.grammar.Terminal.{Terminal}
use Rattle.model_grammar.specs.declared.grammar.Tree.{Tree}
use Rattle.model_grammar.specs.GrammarForm.{Form, rule, ◌then◌, ◌or◌, maybe, many, when, loop, mem}
use Rattle.model_grammar.specs.Grammar.{grammar}
use Rattle.grammar_laws.specs.ParserTests.{parsed}
use Rattle.model_grammar.specs.NameScopes.{Scopes}
use Rattle.model_grammar.specs.Derivation.{Derives, Begins}
use Rattle.grammar_laws.specs.FirstTokens.{first, nullable}
use Rattle.grammar_laws.specs.apparatus.DecidedTable.{apart, leads}
use Rattle.grammar_laws.specs.ParserWalk.{ahead}
use Rattle.grammar_laws.specs.ParserSets.{tables, follows}
use Rattle.grammar_laws.proofs.kinds.KindSets.{and_left, within_mem, mem_left}
use Rattle.grammar_laws.proofs.walks.DecidedDerivations.{lead, ahead_keeps, entry}
use Rattle.grammar_laws.proofs.walks.ParserDecided.{quiet, checked}
use Rattle.grammar_laws.proofs.derivations.ClearBrackets.{is_balanced}
use Rattle.grammar_laws.proofs.derivations.KeptByGrammar.{element_left, elements_left, spec_left, specs_left, IsLeft}
use Rattle.grammar_laws.proofs.derivations.NoneAwaitsBraces.{rule_idle}
use Rattle.grammar_laws.proofs.derivations.FollowsOfForms.{flows}
use Rattle.grammar_laws.proofs.tests_lose_nothing.LosesNothing.{inner}
use Rattle.grammar_laws.proofs.tests_lose_nothing.SuffixEnds.{ends_open, closed_form, IsKept, IsBegun, the_whole, the_held}
use Rattle.grammar_laws.proofs.same_language.FormsFromProductions.{begun_left, begun_right, begun_chosen, begun_other, begun_first, begun_turn, begun_then, begun_later, kept_left, kept_right, kept_chosen, kept_other, kept_then, kept_turn, then_closed, maybe_closed, loop_closed}
use Rattle.grammar_laws.proofs.tests_lose_nothing.EachProduction.{each}
use Rattle.grammar_laws.proofs.same_language.FormsOutsideLists.{in_list, is_list, list_continuations, bounded, of_rule, Fit, Set, to_first, to_second, to_left, to_right, to_maybe, to_many, to_chosen, to_other, to_loop, behind_first, behind_turn, behind_loop}
use Rattle.grammar_laws.proofs.specifier_lists.ListInPieces.{element, elements, Flat}
use Rattle.grammar_laws.proofs.specifier_lists.ListsFromPieces.{end_at, list_ends}
use Rattle.grammar_laws.proofs.specifier_lists.ListsParsed.{squals_of, specs_of, run_of, squals_whole, specs_whole, squals_begun, specs_begun}
use Rattle.grammar_laws.proofs.same_language.DerivedForms.{Listed, Lists, RuleLists, Below, Steps}
use Rattle.grammar_laws.proofs.specifier_lists.PiecesOfGrammar.{Outer, FlatFrom, outer_left, flat_element, flat_loop, flat_spec, flat_specs}
use Rattle.grammar_laws.proofs.specifier_lists.PiecesDerived.{by_grammar, element_comes, elements_end, as_told, squals_done, specs_done, spec_comes, specs_apart}

-- a nonterminal that is no list of specifiers
no_list : (n : Rule) (F : List ℕ) {b o : Bool} → Fit (rule n) F b o → is_list n ≡ false → in_list n ≡ false
unfolding bounded
no_list n F w l = by (in_list n) (is_list n) w.bound l
  where
    by : (x y : Bool) → (not x || y && apart tables F list_continuations) ≡ true → y ≡ false → x ≡ false
    by true true h l = absurd (cc)
    by true false h l = absurd (cc)
    by false y h l = refl

pub at_rule : (n : Rule) (F : List ℕ) (b o : Bool) {s mid : Scopes} {ts rest : List Terminal} → Fit (rule n) F b o → Set b o s → is_list n ≡ false
    → mem (ahead tables parsed (parsed.close n mid) rest) F ≡ true
    → (mem (ahead tables parsed mid rest) (follows n) ≡ true → Fit (grammar n) (follows n) (not (is_balanced n)) false → Set (not (is_balanced n)) false s → IsKept (grammar n) s ts mid rest) → IsKept (rule n) s ts (parsed.close n mid) rest
unfolding flows
at_rule n F b o {s = s} {mid = mid} {ts = ts} {rest = rest} w c l h rec =
    let x = no_list n F w l in
    let k = ahead_keeps tables parsed quiet checked n mid _ (within_mem tables _ F (follows n) (and_left _ (b || is_balanced n) w.flow) h) in
    let c' = inner n F b s w.flow c.clear in
    let d = the_whole (closed_form n) (rec k (of_rule n x) (record { clear = c'; idle = record { reading = c.idle.reading; frame = λ e. absurd (cc) } })) in
    (each n x).derived s mid ts rest d.trees c' d.is k

-- before a list no bracket is held open, and none of what goes on with it comes behind it
pub list_clear : (n : Rule) (F : List ℕ) (b o : Bool) {s : Scopes} → is_balanced n ≡ false → Fit (rule n) F b o → Set b o s → s.brackets ≡ []
unfolding flows
list_clear n F b o {s = s} q w c = inner n F b s w.flow c.clear (subst (λ z. not z ≡ true) (sym q) refl)

pub list_apart : (n : Rule) (F : List ℕ) (b o : Bool) → in_list n ≡ true → Fit (rule n) F b o → apart tables F list_continuations ≡ true
unfolding bounded
list_apart n F b o h w = by (in_list n) (is_list n) w.bound h
  where
    by : (x y : Bool) → (not x || y && apart tables F list_continuations) ≡ true → x ≡ true → apart tables F list_continuations ≡ true
    by true true h e = h
    by true false h e = absurd (cc)
    by false y h e = absurd (cc)

pub front_rule : (n : Rule) (F : List ℕ) (b o : Bool) {s : Scopes} {ts rest : List Terminal} → Fit (rule n) F b o → Set b o s → is_list n ≡ false
    → (Fit (grammar n) (follows n) (not (is_balanced n)) false → Set (not (is_balanced n)) false s → IsBegun (grammar n) s ts rest) → IsBegun (rule n) s ts rest
unfolding flows
front_rule n F b o {s = s} {ts = ts} {rest = rest} w c l rec =
    let x = no_list n F w l in
    let c' = inner n F b s w.flow c.clear in
    let d = the_held (closed_form n) (rec (of_rule n x) (record { clear = c'; idle = record { reading = c.idle.reading; frame = λ e. absurd (cc) } })) in
    (each n x).begun s ts rest c' d

pub squals_clear : (F : List ℕ) (b o : Bool) {s : Scopes} → Fit (rule r.Squals) F b o → Set b o s → s.brackets ≡ []
unfolding is_balanced
squals_clear F b o w c = list_clear r.Squals F b o refl w c

pub specs_clear : (F : List ℕ) (b o : Bool) {s : Scopes} → Fit (rule r.Specs) F b o → Set b o s → s.brackets ≡ []
unfolding is_balanced
specs_clear F b o w c = list_clear r.Specs F b o refl w c

squals_apart : (F : List ℕ) (b o : Bool) → Fit (rule r.Squals) F b o → apart tables F list_continuations ≡ true
unfolding in_list
squals_apart F b o w = list_apart r.Squals F b o refl w

specifiers_apart : (F : List ℕ) (b o : Bool) → Fit (rule r.Specs) F b o → apart tables F list_continuations ≡ true
unfolding in_list
specifiers_apart F b o w = list_apart r.Specs F b o refl w

joined_left : (s mid new : Scopes) → IsLeft s mid → IsLeft mid new → IsLeft s new
joined_left s mid new a z = record { entries = z.entries ∙ a.entries; frames = z.frames ∙ a.frames; brackets = z.brackets }

-- a whole list of type specifiers and qualifiers
squals_kept : {s mid new : Scopes} {ts later rest : List Terminal} {xs ys : List Tree} (d : by_grammar element s ts xs mid later) → Below d
    → (l : by_grammar elements mid later ys new rest) → Below l → (F : List ℕ) (b o : Bool) → Fit (rule r.Squals) F b o → Set b o s
    → mem (ahead tables parsed new rest) F ≡ true → IsKept (rule r.Squals) s ts new rest
squals_kept {s = s} {mid = mid} {new = new} {ts = ts} {rest = rest} d β l γ F b o w c h =
    let q = squals_clear F b o w c in
    let R = run_of (squals_of s) true new rest in
    let a = element_left d q in
    let v = joined_left s mid new a (elements_left l a.brackets) in
    let k =
    flat_loop l γ R false s.reading a.entries a.brackets (squals_done s new rest v (end_at F (list_ends F (squals_apart F b o w)) s.entries new rest v.entries v.brackets h) (elements_end l)) in
    IsKept.whole (squals_whole s new rest ts q c.idle.reading (element_comes d) (flat_element d β R refl q (as_told R false s.reading d q k))).is

squals_front : {s mid new : Scopes} {ts later rest : List Terminal} {xs ys : List Tree} (d : by_grammar element s ts xs mid later) → Below d
    → (l : by_grammar elements mid later ys new rest) → Below l → (F : List ℕ) (b o : Bool) → Fit (rule r.Squals) F b o → Set b o s
    → IsBegun (rule r.Squals) s ts rest
squals_front {s = s} {ts = ts} {rest = rest} d β l γ F b o w c =
    let q = squals_clear F b o w c in
    let R = run_of (squals_of s) false s rest in
    let a = element_left d q in
    let k = flat_loop l γ R false s.reading a.entries a.brackets (Flat.stops refl) in
    IsBegun.held (squals_begun s rest ts q c.idle.reading (element_comes d) (flat_element d β R refl q (as_told R false s.reading d q k)))

-- and of the specifiers of a declaration
specs_kept : {s mid new : Scopes} {ts later rest : List Terminal} {xs ys : List Tree} (d : by_grammar (rule r.Spec) s ts xs mid later) → Below d
    → (l : by_grammar (many (rule r.Spec)) mid later ys new rest) → Below l → (F : List ℕ) (b o : Bool) → Fit (rule r.Specs) F b o → Set b o s
    → mem (ahead tables parsed new rest) F ≡ true → IsKept (rule r.Specs) s ts new rest
specs_kept {s = s} {mid = mid} {new = new} {ts = ts} {rest = rest} d β l γ F b o w c h =
    let q = specs_clear F b o w c in
    let R = run_of (specs_of s) true new rest in
    let a = spec_left d q in
    let v = joined_left s mid new a (specs_left l a.brackets) in
    let x : Outer R s = record { entries = refl; frames = refl; clear = q; idle = c.idle.reading } in
    let y = outer_left R s mid x a (rule_idle r.Spec d x.idle) in
    let e = specifiers_apart F b o w in
    let end : FlatFrom R new rest = record { ended = true; flat = specs_done s new rest v (end_at F (list_ends F e) s.entries new rest v.entries v.brackets h) } in
    IsKept.whole (specs_whole s new rest ts F q c.idle.reading (spec_comes d) (specs_apart F e) h (flat_spec d β R refl x y (flat_specs l γ R refl y end)).flat).is

specs_front : {s mid new : Scopes} {ts later rest : List Terminal} {xs ys : List Tree} (d : by_grammar (rule r.Spec) s ts xs mid later) → Below d
    → (l : by_grammar (many (rule r.Spec)) mid later ys new rest) → Below l → (F : List ℕ) (b o : Bool) → Fit (rule r.Specs) F b o → Set b o s
    → IsBegun (rule r.Specs) s ts rest
specs_front {s = s} {mid = mid} {new = new} {ts = ts} {rest = rest} d β l γ F b o w c =
    let q = specs_clear F b o w c in
    let R = run_of (specs_of s) false s rest in
    let x : Outer R s = record { entries = refl; frames = refl; clear = q; idle = c.idle.reading } in
    let y = outer_left R s mid x (spec_left d q) (rule_idle r.Spec d x.idle) in
    let end : FlatFrom R new rest = record { ended = false; flat = Flat.stops refl } in
    IsBegun.held (specs_begun s rest ts q c.idle.reading (flat_spec d β R refl x y (flat_specs l γ R refl y end)).flat)

-- before what may follow
whole_step : {f : Form} {s new : Scopes} {ts rest : List Terminal} {xs : List Tree} (d : by_grammar f s ts xs new rest) → Below d → (F : List ℕ) (b o : Bool)
    → Fit f F b o → Set b o s → mem (ahead tables parsed new rest) F ≡ true → IsKept f s ts new rest
unfolding Below grammar is_list ends_open first leads nullable
whole_step (Derives.a_word e) β F b o w c h = IsKept.whole (Derives.a_word e)
whole_step (Derives.a_rule {r = r.Squals} (Derives.both d l p)) β F b o w c h = squals_kept d β.1.1 l β.1.3 F b o w c h
whole_step (Derives.a_rule {r = r.Specs} (Derives.both d l p)) β F b o w c h = specs_kept d β.1.1 l β.1.3 F b o w c h
whole_step (Derives.a_rule {r = n} d) β F b o w c h = at_rule n F b o w c refl h (λ k w' c'. β.0.whole (follows n) (not (is_balanced n)) false w' c' k)
whole_step Derives.nothing β F b o w c h = IsKept.whole Derives.nothing
whole_step {f = f then g} (Derives.both d e p) β F b o w c h =
    let e' = the_whole (then_closed f g F w.suffix) (β.2.whole F _ _ (to_second w) (behind_first w d c) h) in
    kept_then f g F w.suffix h (β.0.whole _ b o (to_first w) c (lead tables parsed quiet checked F e'.is h)) e'.is
whole_step {f = f or g} (Derives.left d) β F b o w c h = kept_left f g (β.0.whole F b o (to_left w) c h)
whole_step {f = f or g} (Derives.right d) β F b o w c h = kept_right f g (β.0.whole F b o (to_right w) c h)
whole_step Derives.skip β F b o w c h = IsKept.whole Derives.skip
whole_step {f = maybe f} (Derives.take d) β F b o w c h = IsKept.whole (Derives.take (the_whole (maybe_closed f F w.suffix) (β.0.whole F b o (to_maybe w) c h)).is)
whole_step Derives.stop β F b o w c h = IsKept.whole Derives.stop
whole_step {f = many f} (Derives.turn d e p) β F b o w c h =
    let e' = the_whole refl (β.2.whole F b o w (behind_turn w d c) h) in
    kept_turn f F w.suffix h (β.0.whole _ b o (to_many w) c (lead tables parsed quiet checked F e'.is h)) e'.is
whole_step {f = when p f g} (Derives.chosen a d) β F b o w c h = kept_chosen p f g a (β.0.whole F b o (to_chosen w) c h)
whole_step {f = when p f g} (Derives.other a d) β F b o w c h = kept_other p f g a (β.0.whole F b o (to_other w) c h)
whole_step (Derives.done a) β F b o w c h = IsKept.whole (Derives.done a)
whole_step {f = loop q f} (Derives.again a d e p) β F b o w c h =
    let e' = the_whole refl (β.2.whole F b o w (behind_loop w d c) h) in
    IsKept.whole (Derives.again a (the_whole (loop_closed q f F w.suffix) (β.0.whole _ b o (to_loop w) c (lead tables parsed quiet checked F e'.is h))).is e'.is refl)

-- whatever follows
front_step : {f : Form} {s new : Scopes} {ts rest : List Terminal} {xs : List Tree} (d : by_grammar f s ts xs new rest) → Below d → (F : List ℕ) (b o : Bool)
    → Fit f F b o → Set b o s → IsBegun f s ts rest
unfolding Below grammar is_list ends_open first leads nullable
front_step (Derives.a_word e) β F b o w c = IsBegun.held (Begins.in_word e)
front_step (Derives.a_rule {r = r.Squals} (Derives.both d l p)) β F b o w c = squals_front d β.1.1 l β.1.3 F b o w c
front_step (Derives.a_rule {r = r.Specs} (Derives.both d l p)) β F b o w c = specs_front d β.1.1 l β.1.3 F b o w c
front_step (Derives.a_rule {r = n} d) β F b o w c = front_rule n F b o w c refl (λ w' c'. β.0.front (follows n) (not (is_balanced n)) false w' c')
front_step Derives.nothing β F b o w c = IsBegun.held Begins.yet
front_step {f = f then g} {s = s} {ts = ts} (Derives.both d e p) β F b o w c =
    let e' = the_held (then_closed f g F w.suffix) (β.2.front F _ _ (to_second w) (behind_first w d c)) in
    elim (entry tables parsed quiet checked e') [
      | inl m ↦ IsBegun.held (begun_then f g F w.suffix (β.0.whole _ b o (to_first w) c (mem_left _ _ _ m.begun)) e')
      | inr q ↦ IsBegun.held (subst (λ z. Begins parsed (f then g) s ts z) (sym q) (begun_first f g F w.suffix (β.0.front _ b o (to_first w) c)))
    ]
front_step {f = f or g} (Derives.left d) β F b o w c = begun_left f g (β.0.front F b o (to_left w) c)
front_step {f = f or g} (Derives.right d) β F b o w c = begun_right f g (β.0.front F b o (to_right w) c)
front_step Derives.skip β F b o w c = IsBegun.held Begins.yet
front_step {f = maybe f} (Derives.take d) β F b o w c = IsBegun.held (Begins.in_maybe (the_held (maybe_closed f F w.suffix) (β.0.front F b o (to_maybe w) c)))
front_step Derives.stop β F b o w c = IsBegun.held Begins.yet
front_step {f = many f} {s = s} {ts = ts} (Derives.turn d e p) β F b o w c =
    let e' = the_held refl (β.2.front F b o w (behind_turn w d c)) in
    elim (entry tables parsed quiet checked e') [
      | inl m ↦ IsBegun.held (begun_later f F w.suffix (β.0.whole _ b o (to_many w) c (mem_left _ _ _ m.begun)) e')
      | inr q ↦ IsBegun.held (subst (λ z. Begins parsed (many f) s ts z) (sym q) (begun_turn f F w.suffix (β.0.front _ b o (to_many w) c)))
    ]
front_step {f = when p f g} (Derives.chosen a d) β F b o w c = begun_chosen p f g a (β.0.front F b o (to_chosen w) c)
front_step {f = when p f g} (Derives.other a d) β F b o w c = begun_other p f g a (β.0.front F b o (to_other w) c)
front_step (Derives.done a) β F b o w c = IsBegun.held Begins.yet
front_step {f = loop q f} {s = s} {ts = ts} (Derives.again a d e p) β F b o w c =
    let e' = the_held refl (β.2.front F b o w (behind_loop w d c)) in
    elim (entry tables parsed quiet checked e') [
      | inl m ↦ IsBegun.held (Begins.in_further a (the_whole (loop_closed q f F w.suffix) (β.0.whole _ b o (to_loop w) c (mem_left _ _ _ m.begun))).is e')
      | inr z ↦ IsBegun.held (subst (λ x. Begins parsed (loop q f) s ts x) (sym z) (Begins.in_again a (the_held (loop_closed q f F w.suffix) (β.0.front _ b o (to_loop w) c))))
    ]

-- in another list
squals_listed : {s mid new : Scopes} {ts later rest : List Terminal} {xs ys : List Tree} (d : by_grammar element s ts xs mid later) → Below d
    → (l : by_grammar elements mid later ys new rest) → Below l → Listed s new ts rest
squals_listed d β l γ R o p b c q k =
    let a = element_left d b in
    flat_element d β R p b (as_told R true o d b (flat_loop l γ R true o (a.entries ∙ p) a.brackets k))

list_step : {f : Form} {s new : Scopes} {ts rest : List Terminal} {xs : List Tree} (d : by_grammar f s ts xs new rest) → Below d → Lists f s new ts rest
unfolding Below Lists RuleLists grammar
list_step (Derives.a_word e) β = tt
list_step (Derives.a_rule {r = r.Squals} (Derives.both d l p)) β = squals_listed d β.1.1 l β.1.3
list_step (Derives.a_rule {r = n} d) β = tt
list_step Derives.nothing β = tt
list_step (Derives.both d e p) β = tt
list_step (Derives.left d) β = tt
list_step (Derives.right d) β = tt
list_step Derives.skip β = tt
list_step (Derives.take d) β = tt
list_step Derives.stop β = tt
list_step (Derives.turn d e p) β = tt
list_step (Derives.chosen a d) β = tt
list_step (Derives.other a d) β = tt
list_step (Derives.done a) β = tt
list_step (Derives.again a d e p) β = tt

pub steps : Steps
steps = record { step = λ d β. record { whole = whole_step d β; front = front_step d β; list = list_step d β } }
