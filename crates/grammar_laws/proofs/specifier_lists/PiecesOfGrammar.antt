-- The pieces of a list of specifiers that the grammar derives, where it is known of what stands in their brackets
-- that the parser's table derives it.
use Rattle.std.proofs.Common.{◌≡◌, ℕ, Bool, true, false, ◌||◌, List, [], ◌∷◌, refl, sym, ap, subst, ◌∙◌}
use Rattle.model_grammar.specs.declared.grammar.Rule.TheVariants as r
use Rattle.model_grammar.specs.declared.grammar.Act.TheVariants as act
use Rattle.model_grammar.specs.declared.grammar.Terminal.{Terminal}
use Rattle.model_grammar.specs.declared.grammar.Reading.{Reading}
use Rattle.model_grammar.specs.declared.grammar.Tree.{Tree}
use Rattle.model_grammar.specs.GrammarForm.{rule, many, mem}
use Rattle.model_grammar.specs.Grammar.{grammar}
use Rattle.model_grammar.specs.Terminals as k
use Rattle.model_grammar.specs.NameScopes.{Scopes, kind, after, specified}
use Rattle.model_grammar.specs.Derivation.{Derives}
use Rattle.grammar_laws.specs.apparatus.DecidedTable.{within}
use Rattle.grammar_laws.specs.ParserWalk.{ahead}
use Rattle.grammar_laws.specs.ParserTests.{parsed}
use Rattle.grammar_laws.proofs.derivations.KeptByGrammar.{squals_left, element_left, spec_left, IsLeft}
use Rattle.grammar_laws.proofs.derivations.NoneAwaitsBraces.{rule_idle}
use Rattle.grammar_laws.proofs.derivations.AttributesOfGrammar.{attributes_parsed, attributes_scopes, qualifier_parsed}
use Rattle.grammar_laws.proofs.enumerations.BracesScanAtEnd.{IsEnd as Ends}
use Rattle.grammar_laws.proofs.specifier_lists.WhatRemains.{Item, Continues, in_turn}
use Rattle.grammar_laws.proofs.specifier_lists.ListInPieces.{element, elements, at, behind, Run, Flat, Tail}
use Rattle.grammar_laws.proofs.specifier_lists.OpenLists.{Done}
use Rattle.grammar_laws.proofs.specifier_lists.PiecesAnywhere.{type_piece, name_piece, qualified_piece, typeof_piece, struct_piece, tagged_piece, enum_piece, tag_at, opening_at, struct_tag_at}
use Rattle.grammar_laws.proofs.specifier_lists.ListsFromPieces.{by_tag, by_struct_tag, closed_at, end_at, seen_here}
use Rattle.grammar_laws.proofs.specifier_lists.ListsParsed.{same_scopes, from_pieces}
use Rattle.grammar_laws.proofs.same_language.DerivedForms.{Lists, RuleLists, Below, enumerators_known, members_known, operand_known}
use Rattle.grammar_laws.proofs.specifier_lists.PiecesDerived.{by_grammar, braced_of, group_of, members_of, name_untyped, is_a_type, type_scopes, squals_comes, comes_of, squals_end, told, as_told, typed_behind, typeof_of, colon_of, typedef_end, storage_end, function_end, typedef_spec, storage_spec, function_spec, qualifier_of}

-- the scopes outside all lists
pub record Outer (R : Run) (s : Scopes) : Type 0 where
  pub entries : s.entries ≡ R.names
  pub frames : s.frames ≡ R.below
  pub clear : s.brackets ≡ []
  pub idle : s.reading.waiting ≡ 0

outer_scopes : (R : Run) (s : Scopes) → Outer R s → at R.names s.reading R.below ≡ s
outer_scopes R s x = rw (sym x.entries, sym x.frames) (same_scopes s x.clear)

pub outer_left : (R : Run) (s mid : Scopes) → Outer R s → IsLeft s mid → mid.reading.waiting ≡ 0 → Outer R mid
outer_left R s mid x l i = record { entries = l.entries ∙ x.entries; frames = l.frames ∙ x.frames; clear = l.brackets; idle = i }

-- whether the list is derived to its end, and its pieces
pub record FlatFrom (R : Run) (s : Scopes) (ts : List Terminal) : Type 0 where
  pub ended : Bool
  pub flat : Flat R ended 0 s.reading.typed s.reading ts

-- a word of storage, or of a function, before a list
pub ends_by_word : (F : List ℕ) → Ends F → (R : Run) (s mid : Scopes) (t : Terminal) (us : List Terminal) {xs : List Tree} → R.list ≡ many (rule r.Spec) → Outer R s → mem (kind s t) F ≡ true
    → Derives parsed (rule r.Spec) s (t ∷ us) xs mid us → Outer R mid → FlatFrom R mid us → FlatFrom R s (t ∷ us)
unfolding ahead
ends_by_word F e R s mid t us {xs = xs} q x m d y f =
    let next : Done R (Item.form R.list ∷ R.after) mid us = subst (λ z. Done R (Item.form R.list ∷ R.after) z us) (outer_scopes R mid y) (from_pieces R y.idle f.flat) in
    let all : Done R (Item.form (many (rule r.Spec)) ∷ R.after) s (t ∷ us) = in_turn R.end R.rest (Continues.go d (subst (λ z. Done R (Item.form z ∷ R.after) mid us) q next)) in
    record { ended = true; flat = Flat.ends (end_at F e R.names s (t ∷ us) x.entries x.clear m) (subst (λ z. Done R (Item.form R.list ∷ R.after) z (t ∷ us)) (sym (outer_scopes R s x)) (subst (λ z. Done R (Item.form z ∷ R.after) s (t ∷ us)) (sym q) all)) }

as_outer : (R : Run) (s mid : Scopes) {later : List Terminal} {c : Bool} (b : Bool) → mid.reading ≡ behind b s.reading
    → Flat R c 0 mid.reading.typed mid.reading later → Flat R c 0 (b || s.reading.typed) (behind b s.reading) later
as_outer R s mid {later = later} {c = c} b q f = subst (λ y. Flat R c 0 y (behind b s.reading) later) (typed_behind b s.reading) (subst (λ z. Flat R c 0 z.typed z later) q f)

pub flat_struct : {s mid : Scopes} {ts later : List Terminal} {xs : List Tree} → (d : by_grammar (rule r.Struct) s ts xs mid later) → Below d → (R : Run)
    → s.entries ≡ R.names → s.brackets ≡ [] → {c : Bool} {q : ℕ} {o : Reading} → Flat R c q true (specified o) later → Flat R c q s.reading.typed o ts
unfolding Below grammar within mem
flat_struct {s = s}
    (Derives.a_rule (Derives.both (Derives.a_word {t = t} e) (Derives.both {mid = m} a (Derives.left (Derives.both (Derives.a_word {t = g} n) (Derives.take (Derives.a_rule (Derives.both (Derives.a_word {t = u} v) d p5))) p3)) p2) p1)) β R p b k =
    let z = attributes_scopes a b in
    let z' = ap (λ x. x.brackets) z ∙ b in
    let x = members_known (after act.TypeSpecifier m g) u z' β.1.3.3.1.3.1.1.2 in
    Flat.piece (tagged_piece R.names s.reading.typed {o = after act.TypeSpecifier m g} p b e (attributes_parsed a) n (ap (λ x. x.entries) z ∙ p) z' (members_of v x).is) k
flat_struct {s = s} (Derives.a_rule (Derives.both (Derives.a_word e) (Derives.both a (Derives.left (Derives.both (Derives.a_word n) Derives.skip p3)) p2) p1)) β R p b k =
    by_struct_tag R (struct_tag_at R.names s.reading.typed b e (attributes_parsed a) n) k
flat_struct {s = s} (Derives.a_rule (Derives.both (Derives.a_word e) (Derives.both {mid = m} a (Derives.right (Derives.a_rule (Derives.both (Derives.a_word {t = u} v) d p5))) p2) p1)) β R p b k =
    let z' = ap (λ x. x.brackets) (attributes_scopes a b) ∙ b in
    let x = members_known m u z' β.1.3.3.1.1.2 in
    Flat.piece (struct_piece R.names s.reading.typed p b e (attributes_parsed a) (members_of v x).is) k

pub flat_enum : {s mid : Scopes} {ts later : List Terminal} {xs : List Tree} → (d : by_grammar (rule r.Enum) s ts xs mid later) → Below d → (R : Run)
    → s.entries ≡ R.names → s.brackets ≡ [] → {c : Bool} {q : ℕ} {o : Reading} → Flat R c q true (specified o) later → Flat R c q s.reading.typed o ts
unfolding Below Lists RuleLists grammar within mem
flat_enum {s = s}
    (Derives.a_rule (Derives.both (Derives.a_word e) (Derives.both {mid = m} a (Derives.left (Derives.both Derives.skip (Derives.both Derives.skip (Derives.both (Derives.a_word {t = u} v) d p5) p4) p3)) p2) p1)) β R p b k =
    let z' = ap (λ x. x.brackets) (attributes_scopes a b) ∙ b in
    let x = enumerators_known m u z' β.1.3.3.1.3.3.2 in
    Flat.piece (enum_piece R.names s.reading.typed p b e (attributes_parsed a) (braced_of v x).is) k
flat_enum {s = s}
    (Derives.a_rule (Derives.both (Derives.a_word e) (Derives.both {mid = m} a (Derives.left (Derives.both Derives.skip (Derives.both {mid = w} (Derives.take (Derives.both (Derives.a_word {t = y} {ts = ys} j) sq p6)) (Derives.both (Derives.a_word {t = u} v) d p5) p4) p3)) p2) p1)) β R p b {o = o} k =
    let z = attributes_scopes a b in
    let z' = ap (λ x. x.brackets) z ∙ b in
    let p' = ap (λ x. x.entries) z ∙ p in
    let l = squals_left sq z' in
    let x = enumerators_known w u l.brackets β.1.3.3.1.3.3.2 in
    Flat.opening (opening_at R.names s.reading.typed b e (attributes_parsed a) j) (comes_of R (after act.AwaitBraces m y) ys p' z' refl (squals_comes sq))
    (β.1.3.3.1.3.1.1.2.list R o p' z' _ _ (Flat.group (Tail.full (group_of R.names w _ u _ _ (l.entries ∙ p') l.brackets v x) k)))
flat_enum {s = s}
    (Derives.a_rule (Derives.both (Derives.a_word e) (Derives.both {mid = m} a (Derives.left (Derives.both (Derives.take (Derives.a_word {t = g} n)) (Derives.both Derives.skip (Derives.both (Derives.a_word {t = u} v) d p5) p4) p3)) p2) p1)) β R p b k =
    let z = attributes_scopes a b in
    let z' = ap (λ x. x.brackets) z ∙ b in
    let x = enumerators_known (after act.TypeSpecifier m g) u z' β.1.3.3.1.3.3.2 in
    Flat.braces (tag_at R.names s.reading.typed b e (attributes_parsed a) n) (Tail.full (group_of R.names (after act.TypeSpecifier m g) _ u _ _ (ap (λ x. x.entries) z ∙ p) z' v x) k)
flat_enum {s = s}
    (Derives.a_rule (Derives.both (Derives.a_word e) (Derives.both {mid = m} a (Derives.left (Derives.both (Derives.take (Derives.a_word {t = g} n)) (Derives.both {mid = w} (Derives.take (Derives.both (Derives.a_word {t = y} {ts = ys} j) sq p6)) (Derives.both (Derives.a_word {t = u} v) d p5) p4) p3)) p2) p1)) β R p b {o = o} k =
    let z = attributes_scopes a b in
    let z' = ap (λ x. x.brackets) z ∙ b in
    let p' = ap (λ x. x.entries) z ∙ p in
    let l = squals_left sq z' in
    let x = enumerators_known w u l.brackets β.1.3.3.1.3.3.2 in
    Flat.taking (tag_at R.names s.reading.typed b e (attributes_parsed a) n) (colon_of (after act.TypeSpecifier m g) y j)
    (comes_of R (after act.AwaitBraces (after act.TypeSpecifier m g) y) ys p' z' refl (squals_comes sq))
    (β.1.3.3.1.3.1.1.2.list R o p' z' _ _ (Flat.group (Tail.full (group_of R.names w _ u _ _ (l.entries ∙ p') l.brackets v x) k)))
flat_enum {s = s} (Derives.a_rule (Derives.both (Derives.a_word e) (Derives.both a (Derives.right (Derives.both (Derives.a_word n) Derives.skip p3)) p2) p1)) β R p b k =
    by_tag R (tag_at R.names s.reading.typed b e (attributes_parsed a) n) k
flat_enum {s = s}
    (Derives.a_rule (Derives.both (Derives.a_word e) (Derives.both {mid = m} a (Derives.right (Derives.both (Derives.a_word {t = g} n) (Derives.take (Derives.both {new = w} {rest = ws} (Derives.a_word {t = y} {ts = ys} j) sq p6)) p3)) p2) p1)) β R p b {o = o} k =
    let z = attributes_scopes a b in
    let z' = ap (λ x. x.brackets) z ∙ b in
    let p' = ap (λ x. x.entries) z ∙ p in
    let l = squals_left sq z' in
    Flat.silent (tag_at R.names s.reading.typed b e (attributes_parsed a) n) (colon_of (after act.TypeSpecifier m g) y j)
    (comes_of R (after act.Pass (after act.TypeSpecifier m g) y) ys p' z' refl (squals_comes sq))
    (β.1.3.3.1.3.1.2.list R o p' z' _ _ (closed_at R w.reading.typed k (sym (seen_here R.names w ws (l.entries ∙ p') l.brackets) ∙ squals_end sq)))

pub flat_type : {s mid : Scopes} {ts later : List Terminal} {xs : List Tree} → (d : by_grammar (rule r.Typespec) s ts xs mid later) → Below d → (R : Run)
    → s.entries ≡ R.names → s.brackets ≡ [] → {c : Bool} {q : ℕ} {o : Reading} → Flat R c q true (specified o) later → Flat R c q s.reading.typed o ts
unfolding Below grammar within mem
flat_type {s = s} (Derives.a_rule (Derives.left (Derives.a_word {t = t} {ts = us} e))) β R p b k = Flat.piece (type_piece R.names s.reading.typed s t us b e) k
flat_type (Derives.a_rule (Derives.right (Derives.left d))) β R p b k = flat_struct d β.1.1.1 R p b k
flat_type (Derives.a_rule (Derives.right (Derives.right (Derives.left d)))) β R p b k = flat_enum d β.1.1.1.1 R p b k
flat_type {s = s} (Derives.a_rule (Derives.right (Derives.right (Derives.right (Derives.left (Derives.a_word {t = t} {ts = us} e)))))) β R p b {c = c} {q = q} {o = o} k =
    subst (λ y. Flat R c q y o (t ∷ us)) (sym (name_untyped s t e)) (Flat.piece (name_piece R.names s t us p e) k)
flat_type {s = s}
    (Derives.a_rule (Derives.right (Derives.right (Derives.right (Derives.right (Derives.a_rule (Derives.both (Derives.a_word {t = t} e) (Derives.both (Derives.a_word {t = u} g) d p2) p1))))))) β R p b k =
    let x = operand_known (after act.OpenSpecifier s t) u b β.1.1.1.1.1.1.3.2 in
    Flat.piece (typeof_piece R.names s.reading.typed p b (typeof_of e g x).is) k

pub flat_element : {s mid : Scopes} {ts later : List Terminal} {xs : List Tree} (d : by_grammar element s ts xs mid later) → Below d → (R : Run)
    → s.entries ≡ R.names → s.brackets ≡ [] → {c : Bool} {q : ℕ} {o : Reading} → Flat R c q (is_a_type d || s.reading.typed) (behind (is_a_type d) o) later
    → Flat R c q s.reading.typed o ts
unfolding Below is_a_type
flat_element (Derives.left d) β R p b k = flat_type d β.1 R p b k
flat_element {s = s} (Derives.right d) β R p b k = Flat.piece (qualified_piece R.names s.reading.typed b (qualifier_parsed d)) k

pub flat_loop : {s new : Scopes} {ts rest : List Terminal} {xs : List Tree} → (d : by_grammar elements s ts xs new rest) → Below d
    → (R : Run) (i : Bool) (o : Reading) → s.entries ≡ R.names → s.brackets ≡ [] → {c : Bool} {q : ℕ} → Flat R c q new.reading.typed (told i o new) rest
    → Flat R c q s.reading.typed (told i o s) ts
unfolding Below
flat_loop (Derives.done a) β R i o p b k = k
flat_loop (Derives.again a d e q) β R i o p b k =
    let l = element_left d b in
    flat_element d β.1 R p b (as_told R i o d b (flat_loop e β.3 R i o (l.entries ∙ p) l.brackets k))

pub flat_spec : {s mid : Scopes} {ts later : List Terminal} {xs : List Tree} → (d : by_grammar (rule r.Spec) s ts xs mid later) → Below d → (R : Run)
    → R.list ≡ many (rule r.Spec) → Outer R s → Outer R mid → FlatFrom R mid later → FlatFrom R s ts
unfolding Below grammar within mem
flat_spec {s = s} (Derives.a_rule (Derives.left (Derives.a_rule (Derives.left (Derives.a_word {t = t} {ts = us} e))))) β R q x y f =
    ends_by_word (k.Typedef ∷ []) typedef_end R s (after act.Typedef s t) t us q x e (typedef_spec e) y f
flat_spec {s = s} (Derives.a_rule (Derives.left (Derives.a_rule (Derives.right (Derives.a_word {t = t} {ts = us} e))))) β R q x y f =
    ends_by_word (k.Extern ∷ k.Static ∷ k.Auto ∷ k.Register ∷ k.Constexpr ∷ []) storage_end R s (after act.Specifier s t) t us q x e (storage_spec e) y f
flat_spec {s = s} (Derives.a_rule (Derives.right (Derives.left {new = w} d))) β R q x y f =
    record { ended = f.ended; flat = flat_type d β.1.1.1 R x.entries x.clear (as_outer R s w true (ap (λ z. z.reading) (type_scopes d x.clear)) f.flat) }
flat_spec {s = s} (Derives.a_rule (Derives.right (Derives.right (Derives.left (Derives.a_rule (Derives.a_word {t = t} {ts = us} e)))))) β R q x y f =
    record { ended = f.ended; flat = Flat.piece (qualified_piece R.names s.reading.typed {s = s} x.clear (qualifier_of e)) (as_outer R s (after act.Specifier s t) false refl f.flat) }
flat_spec {s = s} (Derives.a_rule (Derives.right (Derives.right (Derives.right (Derives.a_word {t = t} {ts = us} e))))) β R q x y f =
    ends_by_word (k.Inline ∷ k.Noreturn ∷ []) function_end R s (after act.Specifier s t) t us q x e (function_spec e) y f

pub flat_specs : {s new : Scopes} {ts rest : List Terminal} {xs : List Tree} → (d : by_grammar (many (rule r.Spec)) s ts xs new rest) → Below d → (R : Run)
    → R.list ≡ many (rule r.Spec) → Outer R s → FlatFrom R new rest → FlatFrom R s ts
unfolding Below
flat_specs Derives.stop β R q x f = f
flat_specs {s = s} (Derives.turn {mid = mid} d e p) β R q x f =
    let y = outer_left R s mid x (spec_left d x.clear) (rule_idle r.Spec d x.idle) in
    flat_spec d β.1 R q x y (flat_specs e β.3 R q y f)
