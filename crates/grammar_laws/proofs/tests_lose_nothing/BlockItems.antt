-- The tests before the items of a block lose nothing.
use Rattle.std.proofs.Common.{◌≡◌, ℕ, Bool, true, false, ◌||◌, List, [], ◌∷◌, ◌++◌, refl, sym, subst}
use Rattle.std.specs.Prelude.{◌==◌}
use mathlib.Core.Logic.{inl, inr}
use Rattle.model_grammar.specs.declared.grammar.Rule.TheVariants as r
use Rattle.model_grammar.specs.declared.grammar.Test.TheVariants as test
use Rattle.model_grammar.specs.declared.grammar.Terminal.{Terminal}
use Rattle.model_grammar.specs.declared.grammar.Tree.{Tree}
use Rattle.model_grammar.specs.declared.grammar.Tree.TheVariants as tree
use Rattle.model_grammar.specs.GrammarForm.{Form, rule, when, maybe, many, ◌then◌, ◌or◌, mem}
use Rattle.model_grammar.specs.Grammar.{grammar, token}
use Rattle.model_grammar.specs.Terminals as k
use Rattle.model_grammar.specs.NameScopes.{Scopes, kind}
use Rattle.model_grammar.specs.Derivation.{Derives, Begins}
use Rattle.grammar_laws.specs.FirstTokens.{nullable, first}
use Rattle.grammar_laws.specs.apparatus.DecidedTable.{within, apart}
use Rattle.grammar_laws.specs.ParserWalk.{ahead}
use Rattle.grammar_laws.specs.ParserTable.{table}
use Rattle.grammar_laws.specs.ParserSets.{tables, firsts, hollow}
use Rattle.grammar_laws.specs.ParserTests.{parsed, passes, sees_assertion, sees_attributes_alone, specifies, sees_label}
use Rattle.grammar_laws.proofs.kinds.KindSets.{within_mem}
use Rattle.grammar_laws.proofs.walks.DecidedDerivations.{entry}
use Rattle.grammar_laws.proofs.walks.ParserDecided.{quiet, checked}
use Rattle.grammar_laws.proofs.kinds.TokenKinds.{absent, raw}
use Rattle.grammar_laws.proofs.tests_lose_nothing.LosesNothing.{TestsLoseNothing, IsDerived, begins_with, starts}
use Rattle.grammar_laws.proofs.walks.DecidedDerivations.{begun}
use Rattle.grammar_laws.proofs.derivations.ClearBrackets.{is_balanced, clear, parsed_clear}
use Rattle.grammar_laws.proofs.scans.BehindAttributes.{IsPlain, declared, undeclared, unlabelled, not_alone, alone, open_behind}
use Rattle.grammar_laws.proofs.tests_lose_nothing.Declaration.{asserted, by_alone, declares}

abbrev item : Form
item = rule r.Declaration or rule r.Label or rule r.Statement

abbrev chosen : Form
chosen = when test.DeclarationAhead (rule r.Declaration) (when test.LabelAhead (rule r.Label) (rule r.Statement))

pub by_assertion : (s : Scopes) (ts : List Terminal) → sees_assertion ts ≡ true → passes test.DeclarationAhead s ts ≡ true
by_assertion s ts h = rw h refl

or_left : (a b : Bool) → (((a || true) || b)) ≡ true
or_left true b = refl
or_left false b = refl

pub by_attributes : (s : Scopes) (ts : List Terminal) → sees_attributes_alone ts ≡ true → passes test.DeclarationAhead s ts ≡ true
by_attributes s ts h = rw h (or_left (sees_assertion ts) (specifies s ts))

-- the kinds that may come behind the attributes of a label or a statement
labels : IsPlain (k.Case ∷ k.Default ∷ [])
unfolding mem
labels = record { bracket = refl; first = refl; second = refl; closed = refl; stray = refl }

abbrev cases : Form
cases = token k.Case then rule r.Cond or token k.Default

two : (a b : Bool) → (a || (b || false)) ≡ true → (a || b) ≡ true
two true b h = refl
two false true h = refl
two false false h = h

label_seen : (s : Scopes) (ts : List Terminal) → mem (ahead tables parsed s ts) (k.Case ∷ k.Default ∷ []) ≡ true → sees_label ts ≡ true
unfolding ahead mem
label_seen s [] h = absurd (cc)
label_seen s (t ∷ ts) h = two (t.kind == k.Case) (t.kind == k.Default) (raw (k.Case ∷ k.Default ∷ []) (refl, refl, refl, refl, refl) s t h)

-- a label's attributes
pub labelled : {s mid : Scopes} {ts later : List Terminal} {xs : List Tree} → s.brackets ≡ [] → Derives parsed (rule r.Attrs) s ts xs mid later
    → mem (ahead tables parsed mid later) (k.Case ∷ k.Default ∷ []) ≡ true → passes test.LabelAhead s ts ≡ true
labelled {mid = mid} {later = later} c a h = subst (λ z. sees_label z ≡ true) (sym (open_behind (k.Case ∷ k.Default ∷ []) labels c a h).past) (label_seen mid later h)

no_declaration : {s mid : Scopes} {ts later : List Terminal} {xs : List Tree} → s.brackets ≡ [] → Derives parsed (rule r.Attrs) s ts xs mid later
    → mem (ahead tables parsed mid later) (k.Case ∷ k.Default ∷ []) ≡ true → passes test.DeclarationAhead s ts ≡ false
unfolding apart mem firsts
no_declaration c a h = undeclared (k.Case ∷ k.Default ∷ []) labels refl c a h (not_alone (k.Case ∷ k.Default ∷ []) labels refl c a h)

-- what a statement may begin with behind its attributes, but `;`
abbrev block : Form
block = rule r.Block

abbrev simple : Form
simple = maybe (rule r.Expr) then token k.Semicolon

abbrev heads : Form
heads =
    rule r.If or token k.Switch then token k.OpenParenthesis then rule r.Expr then token k.CloseParenthesis then rule r.Statement or token k.While then token k.OpenParenthesis then rule r.Expr then token k.CloseParenthesis then rule r.Statement or token k.Do then rule r.Statement then token k.While then token k.OpenParenthesis then rule r.Expr then token k.CloseParenthesis then token k.Semicolon or rule r.For or token k.Break then token k.Semicolon or token k.Continue then token k.Semicolon or token k.Return then maybe
    (rule r.Expr) then token k.Semicolon or token k.Defer then rule r.Statement

abbrev starting : List ℕ
starting =
    k.If ∷ k.Switch ∷ k.While ∷ k.Do ∷ k.For ∷ k.Break ∷ k.Continue ∷ k.Return ∷ k.Defer ∷ k.Sizeof ∷ k.Alignof ∷ k.OldAlignof ∷ k.True ∷ k.False ∷ k.Nullptr ∷ k.OpenParenthesis ∷ k.OpenBrace ∷ k.Star ∷ k.Ampersand ∷ k.Plus ∷ k.Minus ∷ k.PlusPlus ∷ k.MinusMinus ∷ k.Tilde ∷ k.Exclamation ∷ k.Name ∷ k.Integer ∷ k.StringLiteral ∷ []

starting_plain : IsPlain starting
unfolding mem
starting_plain = record { bracket = refl; first = refl; second = refl; closed = refl; stray = refl }

block_starts : within tables (firsts r.Block) starting ≡ true
unfolding within mem firsts
block_starts = refl

expression_starts : within tables (firsts r.Expr) starting ≡ true
unfolding within mem firsts
expression_starts = refl

heads_start : within tables (first tables heads) starting ≡ true
unfolding within mem first nullable firsts hollow
heads_start = refl

heads_move : nullable tables heads ≡ false
unfolding nullable hollow
heads_move = refl

-- a statement's attributes
unstated : {s mid : Scopes} {ts later : List Terminal} {xs : List Tree} → s.brackets ≡ [] → Derives parsed (rule r.Attrs) s ts xs mid later
    → mem (ahead tables parsed mid later) starting ≡ true → passes test.DeclarationAhead s ts ≡ false
unfolding apart mem firsts
unstated c a h = undeclared starting starting_plain refl c a h (not_alone starting starting_plain refl c a h)

unlabelled_there : {s mid : Scopes} {ts later : List Terminal} {xs : List Tree} → s.brackets ≡ [] → Derives parsed (rule r.Attrs) s ts xs mid later
    → mem (ahead tables parsed mid later) starting ≡ true → passes test.LabelAhead s ts ≡ false
unfolding mem
unlabelled_there c a h = unlabelled starting starting_plain refl refl c a h

-- `;` alone
ended : IsPlain (k.Semicolon ∷ [])
unfolding mem
ended = record { bracket = refl; first = refl; second = refl; closed = refl; stray = refl }

no_attributes : (s : Scopes) (t : Terminal) (ts : List Terminal) → mem (kind s t) (k.Semicolon ∷ []) ≡ true → sees_attributes_alone (t ∷ ts) ≡ false
unfolding mem
no_attributes s t [] h = refl
no_attributes s t (u ∷ ts) h = rw (absent (k.Semicolon ∷ []) k.OpenBracket refl refl refl refl s t h) refl

empty_undeclared : (s : Scopes) (t : Terminal) (ts : List Terminal) → s.brackets ≡ [] → mem (kind s t) (k.Semicolon ∷ []) ≡ true → passes test.DeclarationAhead s (t ∷ ts) ≡ false
unfolding apart mem firsts ahead table
empty_undeclared s t ts c h =
    undeclared {s = s} {mid = s} {ts = t ∷ ts} {later = t ∷ ts} {xs = tree.Node r.Attrs [] ∷ []} (k.Semicolon ∷ []) ended refl c (Derives.a_rule Derives.stop) h (no_attributes s t ts h)

empty_unlabelled : (s : Scopes) (t : Terminal) (ts : List Terminal) → s.brackets ≡ [] → mem (kind s t) (k.Semicolon ∷ []) ≡ true → passes test.LabelAhead s (t ∷ ts) ≡ false
unfolding mem ahead table
empty_unlabelled s t ts c h = unlabelled {s = s} {mid = s} {ts = t ∷ ts} {later = t ∷ ts} {xs = tree.Node r.Attrs [] ∷ []} (k.Semicolon ∷ []) ended refl refl c (Derives.a_rule Derives.stop) h

-- an item
stated : {s mid new : Scopes} {ts later rest : List Terminal} {xs ys zs : List Tree} → s.brackets ≡ [] → Derives parsed (rule r.Attrs) s ts xs mid later
    → Derives parsed (block or simple or heads) mid later ys new rest → zs ≡ xs ++ ys → mem (ahead tables parsed mid later) starting ≡ true
    → IsDerived chosen s ts new rest
unfolding table
stated c a d q h = record { trees = _; is = Derives.other (unstated c a h) (Derives.other (unlabelled_there c a h) (Derives.a_rule (Derives.both a d q))) }

item_derived : {s new : Scopes} {ts rest : List Terminal} {xs : List Tree} → s.brackets ≡ [] → Derives parsed item s ts xs new rest → IsDerived chosen s ts new rest
unfolding table first nullable hollow
item_derived c (Derives.left (Derives.a_rule (Derives.chosen b (Derives.both a (Derives.both d m p) q)))) =
    record { trees = _; is = Derives.chosen (declared c a (begins_with refl d)) (Derives.a_rule (Derives.chosen b (Derives.both a (Derives.both d m p) q))) }
item_derived {s = s} {ts = ts} c (Derives.left (Derives.a_rule (Derives.other b (Derives.left d)))) =
    record { trees = _; is = Derives.chosen (by_assertion s ts (asserted s ts (begins_with refl d))) (Derives.a_rule (Derives.other b (Derives.left d))) }
item_derived {s = s} {ts = ts} c (Derives.left (Derives.a_rule (Derives.other b (Derives.right (Derives.both d (Derives.both e (Derives.a_word w) p) q))))) = record { trees = _; is = Derives.chosen (by_attributes s ts (alone c d e w)) (Derives.a_rule (Derives.other b (Derives.right (Derives.both d (Derives.both e (Derives.a_word w) p) q)))) }
item_derived c (Derives.right (Derives.left (Derives.a_rule (Derives.both a (Derives.both d w p) q)))) =
    let h = starts {f = cases} refl d in
    record { trees = _; is = Derives.other (no_declaration c a h) (Derives.chosen (labelled c a h) (Derives.a_rule (Derives.both a (Derives.both d w p) q))) }
item_derived c (Derives.right (Derives.right (Derives.a_rule (Derives.both a (Derives.left d) q)))) =
    stated c a (Derives.left d) q (within_mem tables _ (firsts r.Block) starting block_starts (begins_with refl d))
item_derived c (Derives.right (Derives.right (Derives.a_rule (Derives.both a (Derives.right (Derives.left (Derives.both (Derives.take d) w p))) q)))) =
    stated c a (Derives.right (Derives.left (Derives.both (Derives.take d) w p))) q (within_mem tables _ (firsts r.Expr) starting expression_starts (begins_with refl d))
item_derived c (Derives.right (Derives.right (Derives.a_rule (Derives.both a (Derives.right (Derives.right d)) q)))) =
    stated c a (Derives.right (Derives.right d)) q (within_mem tables _ (first tables heads) starting heads_start (starts heads_move d))
item_derived {s = s} c
    (Derives.right (Derives.right (Derives.a_rule (Derives.both (Derives.a_rule Derives.stop) (Derives.right (Derives.left (Derives.both Derives.skip (Derives.a_word {t = t} {ts = us} w) p))) q)))) =
    record { trees = _; is = Derives.other (empty_undeclared s t us c w) (Derives.other (empty_unlabelled s t us c w) (Derives.a_rule (Derives.both (Derives.a_rule Derives.stop) (Derives.right (Derives.left (Derives.both Derives.skip (Derives.a_word w) p))) q))) }
item_derived {s = s} {ts = ts} c
    (Derives.right (Derives.right (Derives.a_rule (Derives.both (Derives.a_rule (Derives.turn d e z)) (Derives.right (Derives.left (Derives.both Derives.skip (Derives.a_word w) p))) q)))) =
    let h = alone c d (Derives.a_rule e) w in
    record { trees = _; is = Derives.chosen (by_attributes s ts h) (Derives.a_rule (Derives.other (by_alone s ts h) (Derives.right (Derives.both d (Derives.both (Derives.a_rule e) (Derives.a_word w) refl) refl)))) }

-- attributes that are begun may be those of any item
by_tests : {s : Scopes} {ts rest : List Terminal} (b l : Bool) → passes test.DeclarationAhead s ts ≡ b → passes test.LabelAhead s ts ≡ l
    → Begins parsed (rule r.Attrs) s ts rest → Begins parsed chosen s ts rest
unfolding table
by_tests true l b m d = Begins.in_chosen b (declares d)
by_tests false true b m d = Begins.in_other b (Begins.in_chosen m (Begins.in_rule (Begins.in_first d)))
by_tests false false b m d = Begins.in_other b (Begins.in_other m (Begins.in_rule (Begins.in_first d)))

in_attributes : {s : Scopes} {ts rest : List Terminal} → Begins parsed (rule r.Attrs) s ts rest → Begins parsed chosen s ts rest
in_attributes {s = s} {ts = ts} d = by_tests (passes test.DeclarationAhead s ts) (passes test.LabelAhead s ts) refl refl d

-- a declaration
declaration_begun : {s : Scopes} {ts rest : List Terminal} → s.brackets ≡ [] → Begins parsed (rule r.Declaration) s ts rest → Begins parsed chosen s ts rest
unfolding table first nullable hollow
declaration_begun c Begins.yet = Begins.yet
declaration_begun c (Begins.in_rule Begins.yet) = Begins.yet
declaration_begun c (Begins.in_rule (Begins.in_chosen b Begins.yet)) = Begins.yet
declaration_begun c (Begins.in_rule (Begins.in_chosen b (Begins.in_first d))) = in_attributes d
declaration_begun c (Begins.in_rule (Begins.in_chosen b (Begins.in_then a Begins.yet))) = in_attributes (begun tables parsed quiet checked a)
declaration_begun {s = s} {ts = ts} c (Begins.in_rule (Begins.in_chosen b (Begins.in_then a (Begins.in_first d)))) = elim (entry tables parsed quiet checked d) [
  | inl m ↦ Begins.in_chosen (declared c a m.begun) (Begins.in_rule (Begins.in_chosen b (Begins.in_then a (Begins.in_first d))))
  | inr h ↦ subst (λ z. Begins parsed chosen s ts z) (sym h) (in_attributes (begun tables parsed quiet checked a))
]
declaration_begun c (Begins.in_rule (Begins.in_chosen b (Begins.in_then a (Begins.in_then d e)))) =
    Begins.in_chosen (declared c a (begins_with refl d)) (Begins.in_rule (Begins.in_chosen b (Begins.in_then a (Begins.in_then d e))))
declaration_begun c (Begins.in_rule (Begins.in_other b Begins.yet)) = Begins.yet
declaration_begun {s = s} {ts = ts} c (Begins.in_rule (Begins.in_other b (Begins.in_left d))) = elim (entry tables parsed quiet checked d) [
  | inl m ↦ Begins.in_chosen (by_assertion s ts (asserted s ts m.begun)) (Begins.in_rule (Begins.in_other b (Begins.in_left d)))
  | inr h ↦ subst (λ z. Begins parsed chosen s ts z) (sym h) Begins.yet
]
declaration_begun c (Begins.in_rule (Begins.in_other b (Begins.in_right Begins.yet))) = Begins.yet
declaration_begun c (Begins.in_rule (Begins.in_other b (Begins.in_right (Begins.in_first d)))) = in_attributes (Begins.in_rule (Begins.in_turn d))
declaration_begun c (Begins.in_rule (Begins.in_other b (Begins.in_right (Begins.in_then d Begins.yet)))) = in_attributes (Begins.in_rule (Begins.in_later d Begins.yet))
declaration_begun c (Begins.in_rule (Begins.in_other b (Begins.in_right (Begins.in_then d (Begins.in_first Begins.yet))))) = in_attributes (Begins.in_rule (Begins.in_later d Begins.yet))
declaration_begun c (Begins.in_rule (Begins.in_other b (Begins.in_right (Begins.in_then d (Begins.in_first (Begins.in_rule e)))))) = in_attributes (Begins.in_rule (Begins.in_later d e))
declaration_begun c (Begins.in_rule (Begins.in_other b (Begins.in_right (Begins.in_then d (Begins.in_then (Derives.a_rule e) Begins.yet))))) =
    in_attributes (Begins.in_rule (Begins.in_later d (begun tables parsed quiet checked e)))
declaration_begun {s = s} {ts = ts} c (Begins.in_rule (Begins.in_other b (Begins.in_right (Begins.in_then d (Begins.in_then e (Begins.in_word w)))))) =
    Begins.in_chosen (by_attributes s ts (alone c d e w)) (Begins.in_rule (Begins.in_other b (Begins.in_right (Begins.in_then d (Begins.in_then e (Begins.in_word w))))))

cases_first : first tables (cases then token k.Colon) ≡ k.Case ∷ k.Default ∷ []
unfolding first nullable
cases_first = refl

label_begun : {s : Scopes} {ts rest : List Terminal} → s.brackets ≡ [] → Begins parsed (rule r.Label) s ts rest → Begins parsed chosen s ts rest
unfolding table
label_begun c Begins.yet = Begins.yet
label_begun c (Begins.in_rule Begins.yet) = Begins.yet
label_begun c (Begins.in_rule (Begins.in_first d)) = in_attributes d
label_begun {s = s} {ts = ts} c (Begins.in_rule (Begins.in_then {mid = mid} {later = later} a d)) = elim (entry tables parsed quiet checked d) [
  | inl m ↦
      let h = subst (λ z. mem (ahead tables parsed mid later) z ≡ true) cases_first m.begun in Begins.in_other (no_declaration c a h) (Begins.in_chosen (labelled c a h) (Begins.in_rule (Begins.in_then a d)))
  | inr h ↦ subst (λ z. Begins parsed chosen s ts z) (sym h) (in_attributes (begun tables parsed quiet checked a))
]

-- a statement behind its attributes
behind : {s mid : Scopes} {ts later rest : List Terminal} {xs : List Tree} → s.brackets ≡ [] → Derives parsed (rule r.Attrs) s ts xs mid later
    → Begins parsed (block or simple or heads) mid later rest → mem (ahead tables parsed mid later) starting ≡ true → Begins parsed chosen s ts rest
unfolding table
behind c a d h = Begins.in_other (unstated c a h) (Begins.in_other (unlabelled_there c a h) (Begins.in_rule (Begins.in_then a d)))

unread : {s mid : Scopes} {ts later rest : List Terminal} {xs : List Tree} → Derives parsed (rule r.Attrs) s ts xs mid later → rest ≡ later → Begins parsed chosen s ts rest
unread {s = s} {ts = ts} a h = subst (λ z. Begins parsed chosen s ts z) (sym h) (in_attributes (begun tables parsed quiet checked a))

statement_begun : {s : Scopes} {ts rest : List Terminal} → s.brackets ≡ [] → Begins parsed (rule r.Statement) s ts rest → Begins parsed chosen s ts rest
unfolding table first nullable hollow
statement_begun c Begins.yet = Begins.yet
statement_begun c (Begins.in_rule Begins.yet) = Begins.yet
statement_begun c (Begins.in_rule (Begins.in_first d)) = in_attributes d
statement_begun c (Begins.in_rule (Begins.in_then a Begins.yet)) = unread a refl
statement_begun c (Begins.in_rule (Begins.in_then a (Begins.in_left d))) = elim (entry tables parsed quiet checked d) [
  | inl m ↦ behind c a (Begins.in_left d) (within_mem tables _ (firsts r.Block) starting block_starts m.begun)
  | inr h ↦ unread a h
]
statement_begun c (Begins.in_rule (Begins.in_then a (Begins.in_right Begins.yet))) = unread a refl
statement_begun c (Begins.in_rule (Begins.in_then a (Begins.in_right (Begins.in_right d)))) = elim (entry tables parsed quiet checked d) [
  | inl m ↦ behind c a (Begins.in_right (Begins.in_right d)) (within_mem tables _ (first tables heads) starting heads_start m.begun)
  | inr h ↦ unread a h
]
statement_begun c (Begins.in_rule (Begins.in_then a (Begins.in_right (Begins.in_left Begins.yet)))) = unread a refl
statement_begun c (Begins.in_rule (Begins.in_then a (Begins.in_right (Begins.in_left (Begins.in_first Begins.yet))))) = unread a refl
statement_begun c (Begins.in_rule (Begins.in_then a (Begins.in_right (Begins.in_left (Begins.in_first (Begins.in_maybe d)))))) = elim (entry tables parsed quiet checked d) [
  | inl m ↦ behind c a (Begins.in_right (Begins.in_left (Begins.in_first (Begins.in_maybe d)))) (within_mem tables _ (firsts r.Expr) starting expression_starts m.begun)
  | inr h ↦ unread a h
]
statement_begun c (Begins.in_rule (Begins.in_then a (Begins.in_right (Begins.in_left (Begins.in_then (Derives.take d) e))))) =
    behind c a (Begins.in_right (Begins.in_left (Begins.in_then (Derives.take d) e))) (within_mem tables _ (firsts r.Expr) starting expression_starts (begins_with refl d))
statement_begun c (Begins.in_rule (Begins.in_then a (Begins.in_right (Begins.in_left (Begins.in_then Derives.skip Begins.yet))))) = unread a refl
statement_begun {s = s} c (Begins.in_rule (Begins.in_then (Derives.a_rule Derives.stop) (Begins.in_right (Begins.in_left (Begins.in_then Derives.skip (Begins.in_word {t = t} {ts = us} w)))))) =
    Begins.in_other (empty_undeclared s t us c w)
    (Begins.in_other (empty_unlabelled s t us c w) (Begins.in_rule (Begins.in_then (Derives.a_rule Derives.stop) (Begins.in_right (Begins.in_left (Begins.in_then Derives.skip (Begins.in_word w)))))))
statement_begun {s = s} {ts = ts} c (Begins.in_rule (Begins.in_then (Derives.a_rule (Derives.turn d e z)) (Begins.in_right (Begins.in_left (Begins.in_then Derives.skip (Begins.in_word w)))))) =
    let h = alone c d (Derives.a_rule e) w in
    Begins.in_chosen (by_attributes s ts h) (Begins.in_rule (Begins.in_other (by_alone s ts h) (Begins.in_right (Begins.in_then d (Begins.in_then (Derives.a_rule e) (Begins.in_word w))))))

item_begun : {s : Scopes} {ts rest : List Terminal} → s.brackets ≡ [] → Begins parsed item s ts rest → Begins parsed chosen s ts rest
item_begun c Begins.yet = Begins.yet
item_begun c (Begins.in_left d) = declaration_begun c d
item_begun c (Begins.in_right Begins.yet) = Begins.yet
item_begun c (Begins.in_right (Begins.in_left d)) = label_begun c d
item_begun c (Begins.in_right (Begins.in_right d)) = statement_begun c d

item_clear : clear item true ≡ true
unfolding clear is_balanced
item_clear = refl

items_derived : {s new : Scopes} {ts rest : List Terminal} {xs : List Tree} → s.brackets ≡ [] → Derives parsed (many item) s ts xs new rest → IsDerived (many chosen) s ts new rest
items_derived c Derives.stop = record { trees = []; is = Derives.stop }
items_derived c (Derives.turn d e _) =
    let d' = item_derived c d in
    let e' = items_derived (parsed_clear d true (λ _. c) item_clear) e in
    record { trees = _; is = Derives.turn d'.is e'.is refl }

items_begun : {s : Scopes} {ts rest : List Terminal} → s.brackets ≡ [] → Begins parsed (many item) s ts rest → Begins parsed (many chosen) s ts rest
items_begun c Begins.yet = Begins.yet
items_begun c (Begins.in_turn d) = Begins.in_turn (item_begun c d)
items_begun c (Begins.in_later d e) = Begins.in_later (item_derived c d).is (items_begun (parsed_clear d true (λ _. c) item_clear) e)

derived : (s new : Scopes) (ts rest : List Terminal) (xs : List Tree) → s.brackets ≡ [] → Derives parsed (grammar r.Block) s ts xs new rest → IsDerived (table r.Block) s ts new rest
unfolding grammar table
derived s new ts rest xs c (Derives.both (Derives.a_word e) (Derives.both m w p) q) = record { trees = _; is = Derives.both (Derives.a_word e) (Derives.both (items_derived c m).is w refl) refl }

fronts : (s : Scopes) (ts rest : List Terminal) → s.brackets ≡ [] → Begins parsed (grammar r.Block) s ts rest → Begins parsed (table r.Block) s ts rest
unfolding grammar table
fronts s ts rest c Begins.yet = Begins.yet
fronts s ts rest c (Begins.in_first d) = Begins.in_first d
fronts s ts rest c (Begins.in_then d Begins.yet) = Begins.in_then d Begins.yet
fronts s ts rest c (Begins.in_then (Derives.a_word e) (Begins.in_first m)) = Begins.in_then (Derives.a_word e) (Begins.in_first (items_begun c m))
fronts s ts rest c (Begins.in_then (Derives.a_word e) (Begins.in_then m w)) = Begins.in_then (Derives.a_word e) (Begins.in_then (items_derived c m).is w)

pub block_items : TestsLoseNothing r.Block
unfolding is_balanced
block_items = record { derived = λ s new ts rest xs c d h. derived s new ts rest xs (c refl) d; begun = λ s ts rest c d. fronts s ts rest (c refl) d }
