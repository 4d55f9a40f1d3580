-- What the grammar begins the parser's table begins.
use Rattle.std.proofs.Common.{◌≡◌, ℕ, Bool, true, false, not, List, [], ◌∷◌, refl, sym, subst, ◌∙◌}
use mathlib.Core.Logic.{◌⊎◌, inl, inr}
use Rattle.model_grammar.specs.declared.grammar.Rule.TheVariants as r
use Rattle.model_grammar.specs.declared.grammar.Act.TheVariants as act
use Rattle.model_grammar.specs.declared.grammar.Terminal.{Terminal}
use Rattle.model_grammar.specs.declared.grammar.Reading.{Reading}
use Rattle.model_grammar.specs.GrammarForm.{Form, word, rule, empty, ◌then◌, ◌or◌, maybe, many, when, loop}
use Rattle.model_grammar.specs.Grammar.{grammar}
use Rattle.model_grammar.specs.Terminals as k
use Rattle.model_grammar.specs.NameScopes.{Scopes, after}
use Rattle.model_grammar.specs.Derivation.{Begins}
use Rattle.grammar_laws.specs.FirstTokens.{first, nullable}
use Rattle.grammar_laws.specs.apparatus.DecidedTable.{leads}
use Rattle.grammar_laws.specs.ParserSets.{tables, follows}
use Rattle.model_grammar.specs.SyntaxTree.{sees_type}
use Rattle.grammar_laws.specs.ParserTests.{parsed}
use Rattle.grammar_laws.proofs.kinds.KindSets.{mem_left}
use Rattle.grammar_laws.proofs.walks.DecidedDerivations.{entry}
use Rattle.grammar_laws.proofs.walks.ParserDecided.{quiet, checked}
use Rattle.grammar_laws.proofs.derivations.ClearBrackets.{is_balanced}
use Rattle.grammar_laws.proofs.derivations.KeptByGrammar.{element_left, spec_left}
use Rattle.grammar_laws.proofs.derivations.NoneAwaitsBraces.{rule_idle}
use Rattle.grammar_laws.proofs.tests_lose_nothing.SuffixEnds.{ends_open, IsBegun, the_whole, the_held}
use Rattle.grammar_laws.proofs.same_language.FormsFromProductions.{begun_left, begun_right, begun_chosen, begun_other, begun_first, begun_turn, begun_then, begun_later, then_closed, maybe_closed, loop_closed}
use Rattle.grammar_laws.proofs.same_language.FormsOutsideLists.{is_list, Fit, Set, to_first, to_second, to_left, to_right, to_maybe, to_many, to_chosen, to_other, to_loop, behind_first, behind_turn, behind_loop}
use Rattle.grammar_laws.proofs.specifier_lists.ListInPieces.{elements, Flat}
use Rattle.grammar_laws.proofs.specifier_lists.PiecesAnywhere.{qualified_piece}
use Rattle.grammar_laws.proofs.specifier_lists.ListsParsed.{Lists, run_of, squals_of, specs_of, squals_begun, specs_begun}
use Rattle.grammar_laws.proofs.specifier_lists.PiecesDerived.{told, as_told, qualifier_of, typedef_spec, storage_spec, function_spec, typedef_end, storage_end, function_end}
use Rattle.grammar_laws.proofs.same_language.DerivedForms.{known, every}
use Rattle.grammar_laws.proofs.specifier_lists.PiecesOfGrammar.{Outer, FlatFrom, outer_left, ends_by_word, flat_element, flat_spec}
use Rattle.grammar_laws.proofs.same_language.DerivedByTable.{steps, front_rule, squals_clear, specs_clear}
use Rattle.grammar_laws.proofs.same_language.BegunForms.{begun_by_grammar, BegunRule, BegunLists, Inside, Turns}
use Rattle.grammar_laws.proofs.specifier_lists.BegunPiecesOfGrammar.{type_begun, element_front, squals_begin}

-- a list of type specifiers and qualifiers, in another or not
elements_front : {s : Scopes} {ts rest : List Terminal} (x : begun_by_grammar elements s ts rest) → Inside x → (N : Lists) (z : Scopes) (i : Bool) (o : Reading)
    → s.entries ≡ N.names → s.brackets ≡ [] → (q : ℕ) → Flat (run_of N false z rest) false q s.reading.typed (told i o s) ts
unfolding Inside
elements_front Begins.yet β N z i o p b q = Flat.stops refl
elements_front (Begins.in_again a d) β N z i o p b q = element_front N z p b d β.1
elements_front {rest = rest} (Begins.in_further a d e) β N z i o p b q =
    let l = element_left d b in
    let R = run_of N false z rest in
    flat_element d (every steps d) R p b (as_told R i o d b (elements_front e β.1 N z i o (l.entries ∙ p) l.brackets q))

squals_front : {s : Scopes} {ts rest : List Terminal} (x : begun_by_grammar (rule r.Squals) s ts rest) → Inside x
    → (N : Lists) (z : Scopes) (i : Bool) (o : Reading) → s.entries ≡ N.names → s.brackets ≡ [] → (q : ℕ)
    → Flat (run_of N false z rest) false q s.reading.typed (told i o s) ts
unfolding Inside grammar
squals_front Begins.yet β N z i o p b q = Flat.stops refl
squals_front (Begins.in_rule Begins.yet) β N z i o p b q = Flat.stops refl
squals_front (Begins.in_rule (Begins.in_first d)) β N z i o p b q = element_front N z p b d β.1.1
squals_front {rest = rest} (Begins.in_rule (Begins.in_then d l)) β N z i o p b q =
    let a = element_left d b in
    let R = run_of N false z rest in
    flat_element d (every steps d) R p b (as_told R i o d b (elements_front l β.1.1 N z i o (a.entries ∙ p) a.brackets q))

-- specifiers of a declaration
cut_from : (N : Lists) (z s : Scopes) (ts : List Terminal) → FlatFrom (run_of N false z ts) s ts
cut_from N z s ts = record { ended = false; flat = Flat.stops refl }

spec_front : {s : Scopes} {ts rest : List Terminal} (x : begun_by_grammar (rule r.Spec) s ts rest) → Inside x → (N : Lists) (z : Scopes)
    → N.list ≡ many (rule r.Spec) → Outer (run_of N false z rest) s → FlatFrom (run_of N false z rest) s ts
unfolding Inside grammar
spec_front {s = s} {ts = ts} Begins.yet β N z q x = cut_from N z s ts
spec_front {s = s} {ts = ts} (Begins.in_rule Begins.yet) β N z q x = cut_from N z s ts
spec_front {s = s} {ts = ts} (Begins.in_rule (Begins.in_left Begins.yet)) β N z q x = cut_from N z s ts
spec_front {s = s} {ts = ts} (Begins.in_rule (Begins.in_left (Begins.in_rule Begins.yet))) β N z q x = cut_from N z s ts
spec_front {s = s} {ts = ts} (Begins.in_rule (Begins.in_left (Begins.in_rule (Begins.in_left Begins.yet)))) β N z q x = cut_from N z s ts
spec_front {s = s} (Begins.in_rule (Begins.in_left (Begins.in_rule (Begins.in_left (Begins.in_word {t = t} {ts = us} e))))) β N z q x =
    ends_by_word (k.Typedef ∷ []) typedef_end (run_of N false z us) s (after act.Typedef s t) t us q x e (typedef_spec e)
    (record { entries = x.entries; frames = x.frames; clear = x.clear; idle = x.idle }) (cut_from N z (after act.Typedef s t) us)
spec_front {s = s} {ts = ts} (Begins.in_rule (Begins.in_left (Begins.in_rule (Begins.in_right Begins.yet)))) β N z q x = cut_from N z s ts
spec_front {s = s} (Begins.in_rule (Begins.in_left (Begins.in_rule (Begins.in_right (Begins.in_word {t = t} {ts = us} e))))) β N z q x =
    ends_by_word (k.Extern ∷ k.Static ∷ k.Auto ∷ k.Register ∷ k.Constexpr ∷ []) storage_end (run_of N false z us) s (after act.Specifier s t) t us q x e (storage_spec e)
    (record { entries = x.entries; frames = x.frames; clear = x.clear; idle = x.idle }) (cut_from N z (after act.Specifier s t) us)
spec_front {s = s} {ts = ts} (Begins.in_rule (Begins.in_right Begins.yet)) β N z q x = cut_from N z s ts
spec_front (Begins.in_rule (Begins.in_right (Begins.in_left d))) β N z q x = record { ended = false; flat = type_begun N z x.entries x.clear d β.1.1.1 }
spec_front {s = s} {ts = ts} (Begins.in_rule (Begins.in_right (Begins.in_right Begins.yet))) β N z q x = cut_from N z s ts
spec_front {s = s} {ts = ts} (Begins.in_rule (Begins.in_right (Begins.in_right (Begins.in_left Begins.yet)))) β N z q x = cut_from N z s ts
spec_front {s = s} {ts = ts} (Begins.in_rule (Begins.in_right (Begins.in_right (Begins.in_left (Begins.in_rule Begins.yet))))) β N z q x = cut_from N z s ts
spec_front {s = s} (Begins.in_rule (Begins.in_right (Begins.in_right (Begins.in_left (Begins.in_rule (Begins.in_word e)))))) β N z q x =
    record { ended = false; flat = Flat.piece (qualified_piece N.names s.reading.typed {s = s} x.clear (qualifier_of e)) (Flat.stops refl) }
spec_front {s = s} {ts = ts} (Begins.in_rule (Begins.in_right (Begins.in_right (Begins.in_right Begins.yet)))) β N z q x = cut_from N z s ts
spec_front {s = s} (Begins.in_rule (Begins.in_right (Begins.in_right (Begins.in_right (Begins.in_word {t = t} {ts = us} e))))) β N z q x =
    ends_by_word (k.Inline ∷ k.Noreturn ∷ []) function_end (run_of N false z us) s (after act.Specifier s t) t us q x e (function_spec e)
    (record { entries = x.entries; frames = x.frames; clear = x.clear; idle = x.idle }) (cut_from N z (after act.Specifier s t) us)

specs_turns : {s : Scopes} {ts rest : List Terminal} (x : begun_by_grammar (many (rule r.Spec)) s ts rest) → Inside x → (N : Lists) (z : Scopes)
    → N.list ≡ many (rule r.Spec) → Outer (run_of N false z rest) s → FlatFrom (run_of N false z rest) s ts
unfolding Inside
specs_turns {s = s} {ts = ts} Begins.yet β N z q x = cut_from N z s ts
specs_turns (Begins.in_turn d) β N z q x = spec_front d β.1 N z q x
specs_turns {s = s} {rest = rest} (Begins.in_later {mid = mid} d e) β N z q x =
    let R = run_of N false z rest in
    let y = outer_left R s mid x (spec_left d x.clear) (rule_idle r.Spec d x.idle) in
    flat_spec d (every steps d) R q x y (specs_turns e β.1 N z q y)

specs_front : {s : Scopes} {ts rest : List Terminal} (x : begun_by_grammar (rule r.Specs) s ts rest) → Inside x → (N : Lists) (z : Scopes)
    → N.list ≡ many (rule r.Spec) → Outer (run_of N false z rest) s → FlatFrom (run_of N false z rest) s ts
unfolding Inside grammar
specs_front {s = s} {ts = ts} Begins.yet β N z q x = cut_from N z s ts
specs_front {s = s} {ts = ts} (Begins.in_rule Begins.yet) β N z q x = cut_from N z s ts
specs_front (Begins.in_rule (Begins.in_first d)) β N z q x = spec_front d β.1.1 N z q x
specs_front {s = s} {rest = rest} (Begins.in_rule (Begins.in_then {mid = mid} d l)) β N z q x =
    let R = run_of N false z rest in
    let y = outer_left R s mid x (spec_left d x.clear) (rule_idle r.Spec d x.idle) in
    flat_spec d (every steps d) R q x y (specs_turns l β.1.1 N z q y)

-- a whole list
whole_squals : {s : Scopes} {ts rest : List Terminal} (x : begun_by_grammar (rule r.Squals) s ts rest) → Inside x → (F : List ℕ) (b o : Bool)
    → Fit (rule r.Squals) F b o → Set b o s → IsBegun (rule r.Squals) s ts rest
whole_squals {s = s} {ts = ts} {rest = rest} x β F b o w c = by (squals_begin x)
  where
    by : (sees_type s ts ≡ true) ⊎ (ts ≡ rest) → IsBegun (rule r.Squals) s ts rest
    by (inl t) = IsBegun.held (squals_begun s rest ts (squals_clear F b o w c) c.idle.reading t (squals_front x β (squals_of s) s false s.reading refl (squals_clear F b o w c) 0))
    by (inr e) = IsBegun.held (subst (λ z. Begins parsed (rule r.Squals) s ts z) e Begins.yet)

whole_specs : {s : Scopes} {ts rest : List Terminal} (x : begun_by_grammar (rule r.Specs) s ts rest) → Inside x → (F : List ℕ) (b o : Bool)
    → Fit (rule r.Specs) F b o → Set b o s → IsBegun (rule r.Specs) s ts rest
whole_specs {s = s} {ts = ts} {rest = rest} x β F b o w c =
    let q = specs_clear F b o w c in
    IsBegun.held (specs_begun s rest ts q c.idle.reading (specs_front x β (specs_of s) s refl (record { entries = refl; frames = refl; clear = q; idle = c.idle.reading })).flat)

begun_step : {f : Form} {s : Scopes} {ts rest : List Terminal} (x : begun_by_grammar f s ts rest) → Inside x → (F : List ℕ) (b o : Bool) → Fit f F b o → Set b o s → IsBegun f s ts rest
unfolding Inside is_list ends_open first leads nullable
begun_step Begins.yet β F b o w c = IsBegun.held Begins.yet
begun_step (Begins.in_word e) β F b o w c = IsBegun.held (Begins.in_word e)
begun_step (Begins.in_rule {r = r.Squals} d) β F b o w c = whole_squals (Begins.in_rule d) β F b o w c
begun_step (Begins.in_rule {r = r.Specs} d) β F b o w c = whole_specs (Begins.in_rule d) β F b o w c
begun_step (Begins.in_rule {r = n} d) β F b o w c = front_rule n F b o w c refl (λ w' c'. β.0.begun (follows n) (not (is_balanced n)) false w' c')
begun_step {f = f then g} (Begins.in_first d) β F b o w c = IsBegun.held (begun_first f g F w.suffix (β.0.begun _ b o (to_first w) c))
begun_step {f = f then g} {s = s} {ts = ts} (Begins.in_then d e) β F b o w c =
    let e' = the_held (then_closed f g F w.suffix) (β.0.begun F _ _ (to_second w) (behind_first w d c)) in
    elim (entry tables parsed quiet checked e') [
      | inl m ↦ IsBegun.held (begun_then f g F w.suffix ((known steps d).whole _ b o (to_first w) c (mem_left _ _ _ m.begun)) e')
      | inr q ↦ IsBegun.held (subst (λ z. Begins parsed (f then g) s ts z) (sym q) (begun_first f g F w.suffix ((known steps d).front _ b o (to_first w) c)))
    ]
begun_step {f = f or g} (Begins.in_left d) β F b o w c = begun_left f g (β.0.begun F b o (to_left w) c)
begun_step {f = f or g} (Begins.in_right d) β F b o w c = begun_right f g (β.0.begun F b o (to_right w) c)
begun_step {f = maybe f} (Begins.in_maybe d) β F b o w c = IsBegun.held (Begins.in_maybe (the_held (maybe_closed f F w.suffix) (β.0.begun F b o (to_maybe w) c)))
begun_step {f = many f} (Begins.in_turn d) β F b o w c = IsBegun.held (begun_turn f F w.suffix (β.0.begun _ b o (to_many w) c))
begun_step {f = many f} {s = s} {ts = ts} (Begins.in_later d e) β F b o w c =
    let e' = the_held refl (β.0.begun F b o w (behind_turn w d c)) in
    elim (entry tables parsed quiet checked e') [
      | inl m ↦ IsBegun.held (begun_later f F w.suffix ((known steps d).whole _ b o (to_many w) c (mem_left _ _ _ m.begun)) e')
      | inr q ↦ IsBegun.held (subst (λ z. Begins parsed (many f) s ts z) (sym q) (begun_turn f F w.suffix ((known steps d).front _ b o (to_many w) c)))
    ]
begun_step {f = when p f g} (Begins.in_chosen a d) β F b o w c = begun_chosen p f g a (β.0.begun F b o (to_chosen w) c)
begun_step {f = when p f g} (Begins.in_other a d) β F b o w c = begun_other p f g a (β.0.begun F b o (to_other w) c)
begun_step {f = loop q f} (Begins.in_again a d) β F b o w c = IsBegun.held (Begins.in_again a (the_held (loop_closed q f F w.suffix) (β.0.begun _ b o (to_loop w) c)))
begun_step {f = loop q f} {s = s} {ts = ts} (Begins.in_further a d e) β F b o w c =
    let e' = the_held refl (β.0.begun F b o w (behind_loop w d c)) in
    elim (entry tables parsed quiet checked e') [
      | inl m ↦ IsBegun.held (Begins.in_further a (the_whole (loop_closed q f F w.suffix) ((known steps d).whole _ b o (to_loop w) c (mem_left _ _ _ m.begun))).is e')
      | inr z ↦ IsBegun.held (subst (λ x. Begins parsed (loop q f) s ts x) (sym z) (Begins.in_again a (the_held (loop_closed q f F w.suffix) ((known steps d).front _ b o (to_loop w) c))))
    ]

list_step : {f : Form} {s : Scopes} {ts rest : List Terminal} (x : begun_by_grammar f s ts rest) → Inside x → BegunLists f s ts rest
unfolding Inside BegunLists BegunRule
list_step {f = rule r.Squals} x β = λ N e o p b q. squals_front x β N e true o p b q
list_step {f = rule n} x β = tt
list_step {f = word ks a} x β = tt
list_step {f = empty} x β = tt
list_step {f = f then g} x β = tt
list_step {f = f or g} x β = tt
list_step {f = maybe f} x β = tt
list_step {f = many f} x β = tt
list_step {f = when p f g} x β = tt
list_step {f = loop p f} x β = tt

pub turns : Turns
turns = record { turn = λ x β. record { begun = begun_step x β; list = list_step x β } }
