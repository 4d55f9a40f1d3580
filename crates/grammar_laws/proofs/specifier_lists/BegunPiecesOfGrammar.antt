-- The pieces of a list of specifiers that the grammar begins.
use Rattle.std.proofs.Common.{◌≡◌, ℕ, suc, Bool, true, false, List, [], ◌∷◌, refl, sym, ap, subst, ◌∙◌}
use Rattle.std.specs.Prelude.{◌==◌}
use mathlib.Core.Logic.{◌⊎◌, inl, inr}
use Rattle.model_grammar.specs.declared.grammar.Rule.TheVariants as r
use Rattle.model_grammar.specs.declared.grammar.Act.TheVariants as act
use Rattle.model_grammar.specs.declared.grammar.Test.TheVariants as test
use Rattle.model_grammar.specs.declared.grammar.Terminal.{Terminal}
use Rattle.model_grammar.specs.declared.grammar.Reading.{Reading}
use Rattle.model_grammar.specs.declared.grammar.Tree.{Tree}
use Rattle.model_grammar.specs.GrammarForm.{Form, word, rule, ◌then◌, ◌or◌, maybe, mem}
use Rattle.model_grammar.specs.Grammar.{grammar, token, type_kinds}
use Rattle.model_grammar.specs.Terminals as k
use Rattle.model_grammar.specs.NameScopes.{Scopes, kind, after, specified}
use Rattle.model_grammar.specs.Derivation.{Derives, Begins}
use Rattle.grammar_laws.specs.apparatus.DecidedTable.{within}
use Rattle.grammar_laws.specs.ParserTable.{table}
use Rattle.grammar_laws.specs.ParserSets.{tables}
use Rattle.model_grammar.specs.SyntaxTree.{sees_type}
use Rattle.grammar_laws.specs.ParserTests.{parsed}
use Rattle.grammar_laws.proofs.kinds.KindSets.{within_mem}
use Rattle.grammar_laws.proofs.derivations.KeptByGrammar.{squals_left}
use Rattle.grammar_laws.proofs.derivations.AttributesOfGrammar.{attributes_parsed, attributes_parsed_begun, attributes_scopes}
use Rattle.grammar_laws.proofs.tests_lose_nothing.TestedLoops.{then_begun}
use Rattle.grammar_laws.proofs.tests_lose_nothing.LastCommas.{list_begun, names}
use Rattle.grammar_laws.proofs.specifier_lists.ListInPieces.{element, braced, Run, IsTag, IsStructTag, Comes, Flat, Tail}
use Rattle.grammar_laws.proofs.specifier_lists.PiecesAnywhere.{type_piece, name_piece, qualified_piece, tag_at, opening_at, struct_tag_at}
use Rattle.grammar_laws.proofs.specifier_lists.FrontsAnywhere.{IsBegunPiece, BegunBraces, begun_braces, BegunElement, begun_typeof, begun_struct_attributes, begun_struct_behind, begun_enum_attributes, begun_enum_behind, begun_members, BegunMembers, members_tested, begun_tagged_members, begun_enum}
use Rattle.grammar_laws.proofs.specifier_lists.ListsFromPieces.{by_tag, by_struct_tag}
use Rattle.grammar_laws.proofs.specifier_lists.ListsParsed.{Lists, run_of}
use Rattle.grammar_laws.proofs.specifier_lists.PiecesDerived.{by_grammar, enumerators_in, name_untyped, colon_of, comes_of, element_comes, squals_comes, qualifier_of}
use Rattle.grammar_laws.proofs.same_language.DerivedForms.{RuleLists, known}
use Rattle.grammar_laws.proofs.same_language.DerivedForms.{Lists as ListsOf}
use Rattle.grammar_laws.proofs.same_language.DerivedByTable.{steps}
use Rattle.grammar_laws.proofs.same_language.BegunForms.{begun_by_grammar, BegunRule, BegunLists, Inside, enumerators_begun, operand_begun}
use Rattle.grammar_laws.proofs.same_language.BegunForms.{members_begun as inside_members}

-- what stands in brackets
braced_begun_of : {s : Scopes} {ts rest : List Terminal} (d : begun_by_grammar (word (k.OpenBrace ∷ []) act.Enclose then enumerators_in) s ts rest) → Inside d
    → s.brackets ≡ [] → Begins parsed braced s ts rest
unfolding Inside
braced_begun_of Begins.yet β b = Begins.yet
braced_begun_of (Begins.in_first Begins.yet) β b = Begins.yet
braced_begun_of (Begins.in_first (Begins.in_word v)) β b = Begins.in_first (Begins.in_word v)
braced_begun_of {s = s} (Begins.in_then (Derives.a_word {t = u} v) d) β b =
    Begins.in_then (Derives.a_word v) (then_begun (rule r.Enumr) _ _ (λ s ts rest l. list_begun test.EnumeratorAhead r.Enumr names act.TypeSpecifier l) (enumerators_begun s u b β.0))

members_begun_of : {s : Scopes} {ts rest : List Terminal} (d : begun_by_grammar (rule r.Members) s ts rest) → Inside d → s.brackets ≡ [] → Begins parsed (rule r.Members) s ts rest
unfolding Inside grammar table
members_begun_of Begins.yet β b = Begins.yet
members_begun_of (Begins.in_rule Begins.yet) β b = Begins.yet
members_begun_of (Begins.in_rule (Begins.in_first Begins.yet)) β b = Begins.yet
members_begun_of (Begins.in_rule (Begins.in_first (Begins.in_word v))) β b = Begins.in_rule (Begins.in_first (Begins.in_word v))
members_begun_of {s = s} (Begins.in_rule (Begins.in_then (Derives.a_word {t = u} v) d)) β b = Begins.in_rule (Begins.in_then (Derives.a_word v) (inside_members s u b β.1.0))

typeof_begun_of : {s : Scopes} {ts rest : List Terminal} (d : begun_by_grammar (rule r.Typeof) s ts rest) → Inside d → s.brackets ≡ [] → Begins parsed (rule r.Typeof) s ts rest
unfolding Inside grammar table
typeof_begun_of Begins.yet β b = Begins.yet
typeof_begun_of (Begins.in_rule Begins.yet) β b = Begins.yet
typeof_begun_of (Begins.in_rule (Begins.in_first Begins.yet)) β b = Begins.yet
typeof_begun_of (Begins.in_rule (Begins.in_first (Begins.in_word v))) β b = Begins.in_rule (Begins.in_first (Begins.in_word v))
typeof_begun_of (Begins.in_rule (Begins.in_then (Derives.a_word e) Begins.yet)) β b = Begins.in_rule (Begins.in_then (Derives.a_word e) Begins.yet)
typeof_begun_of (Begins.in_rule (Begins.in_then (Derives.a_word e) (Begins.in_first Begins.yet))) β b = Begins.in_rule (Begins.in_then (Derives.a_word e) Begins.yet)
typeof_begun_of (Begins.in_rule (Begins.in_then (Derives.a_word e) (Begins.in_first (Begins.in_word v)))) β b = Begins.in_rule (Begins.in_then (Derives.a_word e) (Begins.in_first (Begins.in_word v)))
typeof_begun_of {s = s} (Begins.in_rule (Begins.in_then (Derives.a_word {t = t} e) (Begins.in_then (Derives.a_word {t = u} v) d))) β b =
    Begins.in_rule (Begins.in_then (Derives.a_word e) (Begins.in_then (Derives.a_word v) (operand_begun (after act.OpenSpecifier s t) u b β.1.1.0)))

-- what comes first in a list that is begun
word_comes : (F : List ℕ) → within tables F type_kinds ≡ true → (s : Scopes) (t : Terminal) (us : List Terminal) → mem (kind s t) F ≡ true → sees_type s (t ∷ us) ≡ true
word_comes F w s t us e = within_mem tables (kind s t) F type_kinds w e

typespec_begun : {s : Scopes} {ts rest : List Terminal} → begun_by_grammar (rule r.Typespec) s ts rest → (sees_type s ts ≡ true) ⊎ (ts ≡ rest)
unfolding grammar within mem
typespec_begun Begins.yet = inr refl
typespec_begun (Begins.in_rule Begins.yet) = inr refl
typespec_begun (Begins.in_rule (Begins.in_left Begins.yet)) = inr refl
typespec_begun {s = s} (Begins.in_rule (Begins.in_left (Begins.in_word {t = t} {ts = us} e))) =
    inl (word_comes (k.Void ∷ k.Char ∷ k.Short ∷ k.Int ∷ k.Long ∷ k.Signed ∷ k.Unsigned ∷ k.Bool ∷ k.OldBool ∷ []) refl s t us e)
typespec_begun (Begins.in_rule (Begins.in_right Begins.yet)) = inr refl
typespec_begun (Begins.in_rule (Begins.in_right (Begins.in_left Begins.yet))) = inr refl
typespec_begun (Begins.in_rule (Begins.in_right (Begins.in_left (Begins.in_rule Begins.yet)))) = inr refl
typespec_begun (Begins.in_rule (Begins.in_right (Begins.in_left (Begins.in_rule (Begins.in_first Begins.yet))))) = inr refl
typespec_begun {s = s} (Begins.in_rule (Begins.in_right (Begins.in_left (Begins.in_rule (Begins.in_first (Begins.in_word {t = t} {ts = us} e)))))) = inl (word_comes (k.Struct ∷ []) refl s t us e)
typespec_begun {s = s} (Begins.in_rule (Begins.in_right (Begins.in_left (Begins.in_rule (Begins.in_then (Derives.a_word {t = t} {ts = us} e) x))))) = inl (word_comes (k.Struct ∷ []) refl s t us e)
typespec_begun (Begins.in_rule (Begins.in_right (Begins.in_right Begins.yet))) = inr refl
typespec_begun (Begins.in_rule (Begins.in_right (Begins.in_right (Begins.in_left Begins.yet)))) = inr refl
typespec_begun (Begins.in_rule (Begins.in_right (Begins.in_right (Begins.in_left (Begins.in_rule Begins.yet))))) = inr refl
typespec_begun (Begins.in_rule (Begins.in_right (Begins.in_right (Begins.in_left (Begins.in_rule (Begins.in_first Begins.yet)))))) = inr refl
typespec_begun {s = s} (Begins.in_rule (Begins.in_right (Begins.in_right (Begins.in_left (Begins.in_rule (Begins.in_first (Begins.in_word {t = t} {ts = us} e))))))) = inl (word_comes (k.Enum ∷ []) refl s t us e)
typespec_begun {s = s} (Begins.in_rule (Begins.in_right (Begins.in_right (Begins.in_left (Begins.in_rule (Begins.in_then (Derives.a_word {t = t} {ts = us} e) x)))))) = inl (word_comes (k.Enum ∷ []) refl s t us e)
typespec_begun (Begins.in_rule (Begins.in_right (Begins.in_right (Begins.in_right Begins.yet)))) = inr refl
typespec_begun (Begins.in_rule (Begins.in_right (Begins.in_right (Begins.in_right (Begins.in_left Begins.yet))))) = inr refl
typespec_begun {s = s} (Begins.in_rule (Begins.in_right (Begins.in_right (Begins.in_right (Begins.in_left (Begins.in_word {t = t} {ts = us} e)))))) =
    inl (word_comes (k.TypedefName ∷ []) refl s t us e)
typespec_begun (Begins.in_rule (Begins.in_right (Begins.in_right (Begins.in_right (Begins.in_right Begins.yet))))) = inr refl
typespec_begun (Begins.in_rule (Begins.in_right (Begins.in_right (Begins.in_right (Begins.in_right (Begins.in_rule Begins.yet)))))) = inr refl
typespec_begun (Begins.in_rule (Begins.in_right (Begins.in_right (Begins.in_right (Begins.in_right (Begins.in_rule (Begins.in_first Begins.yet))))))) = inr refl
typespec_begun {s = s} (Begins.in_rule (Begins.in_right (Begins.in_right (Begins.in_right (Begins.in_right (Begins.in_rule (Begins.in_first (Begins.in_word {t = t} {ts = us} e)))))))) = inl (word_comes (k.Typeof ∷ k.TypeofUnqual ∷ []) refl s t us e)
typespec_begun {s = s} (Begins.in_rule (Begins.in_right (Begins.in_right (Begins.in_right (Begins.in_right (Begins.in_rule (Begins.in_then (Derives.a_word {t = t} {ts = us} e) x))))))) = inl (word_comes (k.Typeof ∷ k.TypeofUnqual ∷ []) refl s t us e)

pub element_begun : {s : Scopes} {ts rest : List Terminal} → begun_by_grammar element s ts rest → (sees_type s ts ≡ true) ⊎ (ts ≡ rest)
unfolding grammar within mem
element_begun Begins.yet = inr refl
element_begun (Begins.in_left d) = typespec_begun d
element_begun (Begins.in_right Begins.yet) = inr refl
element_begun (Begins.in_right (Begins.in_rule Begins.yet)) = inr refl
element_begun {s = s} (Begins.in_right (Begins.in_rule (Begins.in_word {t = t} {ts = us} e))) = inl (word_comes (k.Const ∷ k.Restrict ∷ k.Owner ∷ k.View ∷ k.Opt ∷ []) refl s t us e)

pub squals_begin : {s : Scopes} {ts rest : List Terminal} → begun_by_grammar (rule r.Squals) s ts rest → (sees_type s ts ≡ true) ⊎ (ts ≡ rest)
unfolding grammar
squals_begin Begins.yet = inr refl
squals_begin (Begins.in_rule Begins.yet) = inr refl
squals_begin (Begins.in_rule (Begins.in_first d)) = element_begun d
squals_begin (Begins.in_rule (Begins.in_then d l)) = inl (element_comes d)

module _ (N : Lists) (z : Scopes) where
  abbrev Front : List Terminal → Run
  Front rest = run_of N false z rest

  cut_piece : {y : Bool} {q : ℕ} {o : Reading} {ts rest : List Terminal} → IsBegunPiece N.names y ts rest → Flat (Front rest) false q y o ts
  cut_piece x = Flat.begins refl x.type x.begins

  pub stopped : {y : Bool} {q : ℕ} {o : Reading} (ts rest : List Terminal) → rest ≡ ts → Flat (Front rest) false q y o ts
  stopped {y = y} {q = q} {o = o} ts rest e = subst (λ w. Flat (Front rest) false q y o w) e (Flat.stops refl)

  comes_begun : {rest : List Terminal} (s : Scopes) (ts : List Terminal) → s.entries ≡ N.names → s.brackets ≡ [] → s.reading.typed ≡ false
      → (sees_type s ts ≡ true) ⊎ (ts ≡ rest) → Comes (Front rest) ts
  comes_begun {rest = rest} s ts p b y (inl h) = comes_of (Front rest) s ts p b y h
  comes_begun s ts p b y (inr e) = inr (refl, e)

  -- behind the tag of a structure
  struct_cut : {y : Bool} {q : ℕ} {o : Reading} {g u : Terminal} {ts vs rest : List Terminal} → IsStructTag N.names y g ts vs → vs ≡ u ∷ rest
      → (u.kind == k.OpenBrace) ≡ true → Flat (Front rest) false q y o ts
  struct_cut {y = y} {g = g} {ts = ts} i e h = Flat.structure_cut (subst (λ w. IsStructTag N.names y g ts w) e i) refl h

  struct_tagged : {s m : Scopes} {t g : Terminal} {us vs rest : List Terminal} {xs : List Tree} → s.entries ≡ N.names → s.brackets ≡ []
      → mem (kind s t) (k.Struct ∷ []) ≡ true → by_grammar (rule r.Attrs) (after act.OpenSpecifier s t) us xs m (g ∷ vs)
      → mem (kind m g) (k.Name ∷ k.TypedefName ∷ []) ≡ true
      → (x : begun_by_grammar (maybe (rule r.Members)) (after act.TypeSpecifier m g) vs rest) → Inside x → {q : ℕ} {o : Reading} → Flat (Front rest) false q s.reading.typed o (t ∷ us)
  unfolding Inside
  struct_tagged {s = s} p b e a n Begins.yet β = by_struct_tag (Front _) (struct_tag_at N.names s.reading.typed b e (attributes_parsed a) n) (Flat.stops refl)
  struct_tagged {s = s} {m = m} {t = t} {g = g} {us = us} {vs = vs} {rest = rest} p b e a n (Begins.in_maybe d) β {q = q} {o = o} =
      let v = attributes_scopes a b in
      let b' = ap (λ x. x.brackets) v ∙ b in
      let p' = ap (λ x. x.entries) v ∙ p in
      let c = members_begun_of d β.1 b' in
      by c p' b' (members_tested N.names {s = after act.TypeSpecifier m g} p' c)
    where
      by : Begins parsed (rule r.Members) (after act.TypeSpecifier m g) vs rest → m.entries ≡ N.names → m.brackets ≡ [] → BegunMembers N.names vs rest
          → Flat (Front rest) false q s.reading.typed o (t ∷ us)
      by c p' b' (BegunMembers.none w) = by_struct_tag (Front rest) (struct_tag_at N.names s.reading.typed b e (attributes_parsed a) n) (stopped vs rest w)
      by c p' b' (BegunMembers.brace w h) = struct_cut (struct_tag_at N.names s.reading.typed b e (attributes_parsed a) n) w h
      by c p' b' (BegunMembers.tested h) = cut_piece (begun_tagged_members N.names s.reading.typed {o = after act.TypeSpecifier m g} b e (attributes_parsed a) n p' b' c h)

  struct_behind : {s m : Scopes} {t : Terminal} {us vs rest : List Terminal} {xs : List Tree} → s.entries ≡ N.names → s.brackets ≡ []
      → mem (kind s t) (k.Struct ∷ []) ≡ true → by_grammar (rule r.Attrs) (after act.OpenSpecifier s t) us xs m vs
      → (x : begun_by_grammar (word (k.Name ∷ k.TypedefName ∷ []) act.TypeSpecifier then maybe (rule r.Members) or rule r.Members) m vs rest) → Inside x → {q : ℕ} {o : Reading} → Flat (Front rest) false q s.reading.typed o (t ∷ us)
  unfolding Inside
  struct_behind {s = s} p b e a Begins.yet β = cut_piece (begun_struct_behind N.names s.reading.typed b e (attributes_parsed a))
  struct_behind {s = s} p b e a (Begins.in_left Begins.yet) β = cut_piece (begun_struct_behind N.names s.reading.typed b e (attributes_parsed a))
  struct_behind {s = s} p b e a (Begins.in_left (Begins.in_first Begins.yet)) β = cut_piece (begun_struct_behind N.names s.reading.typed b e (attributes_parsed a))
  struct_behind {s = s} p b e a (Begins.in_left (Begins.in_first (Begins.in_word n))) β = by_struct_tag (Front _) (struct_tag_at N.names s.reading.typed b e (attributes_parsed a) n) (Flat.stops refl)
  struct_behind p b e a (Begins.in_left (Begins.in_then (Derives.a_word n) x)) β = struct_tagged p b e a n x β.1.1
  struct_behind {s = s} p b e a (Begins.in_right d) β =
      cut_piece (begun_members N.names s.reading.typed p b e (attributes_parsed a) (members_begun_of d β.1 (ap (λ x. x.brackets) (attributes_scopes a b) ∙ b)))

  struct_begun : {s : Scopes} {ts rest : List Terminal} → s.entries ≡ N.names → s.brackets ≡ [] → (x : begun_by_grammar (rule r.Struct) s ts rest) → Inside x
      → {q : ℕ} {o : Reading} → Flat (Front rest) false q s.reading.typed o ts
  unfolding Inside grammar
  struct_begun p b Begins.yet β = Flat.stops refl
  struct_begun p b (Begins.in_rule Begins.yet) β = Flat.stops refl
  struct_begun p b (Begins.in_rule (Begins.in_first Begins.yet)) β = Flat.stops refl
  struct_begun {s = s} p b (Begins.in_rule (Begins.in_first (Begins.in_word e))) β = cut_piece (begun_struct_attributes N.names s.reading.typed {s = s} b e Begins.yet)
  struct_begun {s = s} p b (Begins.in_rule (Begins.in_then (Derives.a_word e) Begins.yet)) β = cut_piece (begun_struct_attributes N.names s.reading.typed {s = s} b e Begins.yet)
  struct_begun {s = s} p b (Begins.in_rule (Begins.in_then (Derives.a_word e) (Begins.in_first a))) β =
      cut_piece (begun_struct_attributes N.names s.reading.typed {s = s} b e (attributes_parsed_begun a))
  struct_begun p b (Begins.in_rule (Begins.in_then (Derives.a_word e) (Begins.in_then a x))) β = struct_behind p b e a x β.1.1.1

  -- behind a tag and `:` of an enumeration, or none
  abbrev pub typed_braces : Form
  typed_braces = maybe (word (k.Colon ∷ []) act.AwaitBraces then rule r.Squals) then word (k.OpenBrace ∷ []) act.Enclose then enumerators_in

  grouped : {y : Bool} {q : ℕ} {o : Reading} {ts rest : List Terminal} → BegunBraces N.names ts rest → Flat (Front rest) false (suc q) y o ts
  grouped {ts = ts} {rest = rest} (BegunBraces.none e) = stopped ts rest e
  grouped {y = y} {q = q} {o = o} {rest = rest} (BegunBraces.some e g) = subst (λ w. Flat (Front rest) false (suc q) y o w) (sym e) (Flat.group (Tail.part refl g))

  with_braces : {y : Bool} {q : ℕ} {o : Reading} {t : Terminal} {ts vs rest : List Terminal} → IsTag N.names y t ts vs → BegunBraces N.names vs rest → Flat (Front rest) false q y o ts
  with_braces {vs = vs} {rest = rest} i (BegunBraces.none e) = by_tag (Front rest) i (stopped vs rest e)
  with_braces {y = y} {t = t} {ts = ts} i (BegunBraces.some e g) = Flat.braces (subst (λ w. IsTag N.names y t ts w) e i) (Tail.part refl g)

  enum_untagged : {s m : Scopes} {t : Terminal} {us vs rest : List Terminal} {xs : List Tree} → s.entries ≡ N.names → s.brackets ≡ []
      → mem (kind s t) (k.Enum ∷ []) ≡ true → by_grammar (rule r.Attrs) (after act.OpenSpecifier s t) us xs m vs
      → (x : begun_by_grammar typed_braces m vs rest) → Inside x → {q : ℕ} {o : Reading} → Flat (Front rest) false q s.reading.typed o (t ∷ us)
  unfolding Inside BegunLists BegunRule ListsOf RuleLists
  enum_untagged {s = s} p b e a Begins.yet β = cut_piece (begun_enum_behind N.names s.reading.typed b e (attributes_parsed a))
  enum_untagged {s = s} p b e a (Begins.in_first Begins.yet) β = cut_piece (begun_enum_behind N.names s.reading.typed b e (attributes_parsed a))
  enum_untagged {s = s} p b e a (Begins.in_first (Begins.in_maybe Begins.yet)) β = cut_piece (begun_enum_behind N.names s.reading.typed b e (attributes_parsed a))
  enum_untagged {s = s} p b e a (Begins.in_first (Begins.in_maybe (Begins.in_first Begins.yet))) β = cut_piece (begun_enum_behind N.names s.reading.typed b e (attributes_parsed a))
  enum_untagged {s = s} p b e a (Begins.in_first (Begins.in_maybe (Begins.in_first (Begins.in_word j)))) β =
      Flat.opening (opening_at N.names s.reading.typed b e (attributes_parsed a) j) (inr (refl, refl)) (Flat.stops refl)
  enum_untagged {s = s} {m = m} p b e a (Begins.in_first (Begins.in_maybe (Begins.in_then (Derives.a_word {t = g} {ts = ys} j) sq))) β {q = q} {o = o} =
      let v = attributes_scopes a b in
      let b' = ap (λ x. x.brackets) v ∙ b in
      let p' = ap (λ x. x.entries) v ∙ p in
      Flat.opening (opening_at N.names s.reading.typed b e (attributes_parsed a) j) (comes_begun (after act.AwaitBraces m g) ys p' b' refl (squals_begin sq)) (β.1.1.0.list N z o p' b' (suc q))
  enum_untagged {s = s} p b e a (Begins.in_then Derives.skip y) β =
      cut_piece (begun_enum N.names s.reading.typed p b e (attributes_parsed a) (braced_begun_of y β.1 (ap (λ x. x.brackets) (attributes_scopes a b) ∙ b)))
  enum_untagged {s = s} {m = m} {rest = rest} p b e a (Begins.in_then {mid = w} (Derives.take (Derives.both (Derives.a_word {t = g} {ts = ys} j) sq k0)) y) β {q = q} {o = o} =
      let v = attributes_scopes a b in
      let b' = ap (λ x. x.brackets) v ∙ b in
      let p' = ap (λ x. x.entries) v ∙ p in
      let l = squals_left sq b' in
      let f : Flat (Front rest) false (suc q) w.reading.typed (specified o) _ = grouped (begun_braces N.names {s = w} (l.entries ∙ p') l.brackets (braced_begun_of y β.1 l.brackets)) in
      Flat.opening (opening_at N.names s.reading.typed b e (attributes_parsed a) j) (comes_of (Front rest) (after act.AwaitBraces m g) ys p' b' refl (squals_comes sq))
      ((known steps sq).list (Front rest) o p' b' false (suc q) f)

  enum_tagged : {s m : Scopes} {t h : Terminal} {us vs rest : List Terminal} {xs : List Tree} → s.entries ≡ N.names → s.brackets ≡ []
      → mem (kind s t) (k.Enum ∷ []) ≡ true → by_grammar (rule r.Attrs) (after act.OpenSpecifier s t) us xs m (h ∷ vs)
      → mem (kind m h) (k.Name ∷ k.TypedefName ∷ []) ≡ true
      → (x : begun_by_grammar typed_braces (after act.TypeSpecifier m h) vs rest) → Inside x → {q : ℕ} {o : Reading} → Flat (Front rest) false q s.reading.typed o (t ∷ us)
  unfolding Inside BegunLists BegunRule ListsOf RuleLists
  enum_tagged {s = s} p b e a n Begins.yet β = by_tag (Front _) (tag_at N.names s.reading.typed b e (attributes_parsed a) n) (Flat.stops refl)
  enum_tagged {s = s} p b e a n (Begins.in_first Begins.yet) β = by_tag (Front _) (tag_at N.names s.reading.typed b e (attributes_parsed a) n) (Flat.stops refl)
  enum_tagged {s = s} p b e a n (Begins.in_first (Begins.in_maybe Begins.yet)) β = by_tag (Front _) (tag_at N.names s.reading.typed b e (attributes_parsed a) n) (Flat.stops refl)
  enum_tagged {s = s} p b e a n (Begins.in_first (Begins.in_maybe (Begins.in_first Begins.yet))) β = by_tag (Front _) (tag_at N.names s.reading.typed b e (attributes_parsed a) n) (Flat.stops refl)
  enum_tagged {s = s} {m = m} {h = h} p b e a n (Begins.in_first (Begins.in_maybe (Begins.in_first (Begins.in_word {t = g} j)))) β =
      Flat.taking (tag_at N.names s.reading.typed b e (attributes_parsed a) n) (colon_of (after act.TypeSpecifier m h) g j) (inr (refl, refl)) (Flat.stops refl)
  enum_tagged {s = s} {m = m} {h = h} p b e a n (Begins.in_first (Begins.in_maybe (Begins.in_then (Derives.a_word {t = g} {ts = ys} j) sq))) β {q = q} {o = o} =
      let v = attributes_scopes a b in
      let b' = ap (λ x. x.brackets) v ∙ b in
      let p' = ap (λ x. x.entries) v ∙ p in
      Flat.taking (tag_at N.names s.reading.typed b e (attributes_parsed a) n) (colon_of (after act.TypeSpecifier m h) g j)
      (comes_begun (after act.AwaitBraces (after act.TypeSpecifier m h) g) ys p' b' refl (squals_begin sq)) (β.1.1.0.list N z o p' b' (suc q))
  enum_tagged {s = s} {m = m} {h = h} p b e a n (Begins.in_then Derives.skip y) β =
      let v = attributes_scopes a b in
      let b' = ap (λ x. x.brackets) v ∙ b in
      with_braces (tag_at N.names s.reading.typed b e (attributes_parsed a) n) (begun_braces N.names {s = after act.TypeSpecifier m h} (ap (λ x. x.entries) v ∙ p) b' (braced_begun_of y β.1 b'))
  enum_tagged {s = s} {m = m} {h = h} {rest = rest} p b e a n (Begins.in_then {mid = w} (Derives.take (Derives.both (Derives.a_word {t = g} {ts = ys} j) sq k0)) y) β {q = q} {o = o} =
      let v = attributes_scopes a b in
      let b' = ap (λ x. x.brackets) v ∙ b in
      let p' = ap (λ x. x.entries) v ∙ p in
      let l = squals_left sq b' in
      let f : Flat (Front rest) false (suc q) w.reading.typed (specified o) _ = grouped (begun_braces N.names {s = w} (l.entries ∙ p') l.brackets (braced_begun_of y β.1 l.brackets)) in
      Flat.taking (tag_at N.names s.reading.typed b e (attributes_parsed a) n) (colon_of (after act.TypeSpecifier m h) g j)
      (comes_of (Front rest) (after act.AwaitBraces (after act.TypeSpecifier m h) g) ys p' b' refl (squals_comes sq))
      ((known steps sq).list (Front rest) o p' b' false (suc q) f)

  enum_silent : {s m : Scopes} {t h : Terminal} {us vs rest : List Terminal} {xs : List Tree} → s.entries ≡ N.names → s.brackets ≡ []
      → mem (kind s t) (k.Enum ∷ []) ≡ true → by_grammar (rule r.Attrs) (after act.OpenSpecifier s t) us xs m (h ∷ vs)
      → mem (kind m h) (k.Name ∷ k.TypedefName ∷ []) ≡ true
      → (x : begun_by_grammar (maybe (token k.Colon then rule r.Squals)) (after act.TypeSpecifier m h) vs rest) → Inside x → {q : ℕ} {o : Reading} → Flat (Front rest) false q s.reading.typed o (t ∷ us)
  unfolding Inside BegunLists BegunRule
  enum_silent {s = s} p b e a n Begins.yet β = by_tag (Front _) (tag_at N.names s.reading.typed b e (attributes_parsed a) n) (Flat.stops refl)
  enum_silent {s = s} p b e a n (Begins.in_maybe Begins.yet) β = by_tag (Front _) (tag_at N.names s.reading.typed b e (attributes_parsed a) n) (Flat.stops refl)
  enum_silent {s = s} p b e a n (Begins.in_maybe (Begins.in_first Begins.yet)) β = by_tag (Front _) (tag_at N.names s.reading.typed b e (attributes_parsed a) n) (Flat.stops refl)
  enum_silent {s = s} {m = m} {h = h} p b e a n (Begins.in_maybe (Begins.in_first (Begins.in_word {t = g} j))) β =
      Flat.silent (tag_at N.names s.reading.typed b e (attributes_parsed a) n) (colon_of (after act.TypeSpecifier m h) g j) (inr (refl, refl)) (Flat.stops refl)
  enum_silent {s = s} {m = m} {h = h} p b e a n (Begins.in_maybe (Begins.in_then (Derives.a_word {t = g} {ts = ys} j) sq)) β {q = q} {o = o} =
      let v = attributes_scopes a b in
      let b' = ap (λ x. x.brackets) v ∙ b in
      let p' = ap (λ x. x.entries) v ∙ p in
      Flat.silent (tag_at N.names s.reading.typed b e (attributes_parsed a) n) (colon_of (after act.TypeSpecifier m h) g j)
      (comes_begun (after act.Pass (after act.TypeSpecifier m h) g) ys p' b' refl (squals_begin sq)) (β.1.0.list N z o p' b' q)

  abbrev pub enum_choice : Form
  enum_choice = maybe (word (k.Name ∷ k.TypedefName ∷ []) act.TypeSpecifier) then typed_braces or word (k.Name ∷ k.TypedefName ∷ []) act.TypeSpecifier then maybe (token k.Colon then rule r.Squals)

  enum_behind : {s m : Scopes} {t : Terminal} {us vs rest : List Terminal} {xs : List Tree} → s.entries ≡ N.names → s.brackets ≡ []
      → mem (kind s t) (k.Enum ∷ []) ≡ true → by_grammar (rule r.Attrs) (after act.OpenSpecifier s t) us xs m vs
      → (x : begun_by_grammar enum_choice m vs rest) → Inside x → {q : ℕ} {o : Reading} → Flat (Front rest) false q s.reading.typed o (t ∷ us)
  unfolding Inside
  enum_behind {s = s} p b e a Begins.yet β = cut_piece (begun_enum_behind N.names s.reading.typed b e (attributes_parsed a))
  enum_behind {s = s} p b e a (Begins.in_left Begins.yet) β = cut_piece (begun_enum_behind N.names s.reading.typed b e (attributes_parsed a))
  enum_behind {s = s} p b e a (Begins.in_left (Begins.in_first Begins.yet)) β = cut_piece (begun_enum_behind N.names s.reading.typed b e (attributes_parsed a))
  enum_behind {s = s} p b e a (Begins.in_left (Begins.in_first (Begins.in_maybe Begins.yet))) β = cut_piece (begun_enum_behind N.names s.reading.typed b e (attributes_parsed a))
  enum_behind {s = s} p b e a (Begins.in_left (Begins.in_first (Begins.in_maybe (Begins.in_word n)))) β =
      by_tag (Front _) (tag_at N.names s.reading.typed b e (attributes_parsed a) n) (Flat.stops refl)
  enum_behind p b e a (Begins.in_left (Begins.in_then Derives.skip x)) β = enum_untagged p b e a x β.1.1
  enum_behind p b e a (Begins.in_left (Begins.in_then (Derives.take (Derives.a_word n)) x)) β = enum_tagged p b e a n x β.1.1
  enum_behind {s = s} p b e a (Begins.in_right Begins.yet) β = cut_piece (begun_enum_behind N.names s.reading.typed b e (attributes_parsed a))
  enum_behind {s = s} p b e a (Begins.in_right (Begins.in_first Begins.yet)) β = cut_piece (begun_enum_behind N.names s.reading.typed b e (attributes_parsed a))
  enum_behind {s = s} p b e a (Begins.in_right (Begins.in_first (Begins.in_word n))) β = by_tag (Front _) (tag_at N.names s.reading.typed b e (attributes_parsed a) n) (Flat.stops refl)
  enum_behind p b e a (Begins.in_right (Begins.in_then (Derives.a_word n) x)) β = enum_silent p b e a n x β.1.1

  enum_begun : {s : Scopes} {ts rest : List Terminal} → s.entries ≡ N.names → s.brackets ≡ [] → (x : begun_by_grammar (rule r.Enum) s ts rest) → Inside x
      → {q : ℕ} {o : Reading} → Flat (Front rest) false q s.reading.typed o ts
  unfolding Inside grammar
  enum_begun p b Begins.yet β = Flat.stops refl
  enum_begun p b (Begins.in_rule Begins.yet) β = Flat.stops refl
  enum_begun p b (Begins.in_rule (Begins.in_first Begins.yet)) β = Flat.stops refl
  enum_begun {s = s} p b (Begins.in_rule (Begins.in_first (Begins.in_word e))) β = cut_piece (begun_enum_attributes N.names s.reading.typed {s = s} b e Begins.yet)
  enum_begun {s = s} p b (Begins.in_rule (Begins.in_then (Derives.a_word e) Begins.yet)) β = cut_piece (begun_enum_attributes N.names s.reading.typed {s = s} b e Begins.yet)
  enum_begun {s = s} p b (Begins.in_rule (Begins.in_then (Derives.a_word e) (Begins.in_first a))) β = cut_piece (begun_enum_attributes N.names s.reading.typed {s = s} b e (attributes_parsed_begun a))
  enum_begun p b (Begins.in_rule (Begins.in_then (Derives.a_word e) (Begins.in_then a x))) β = enum_behind p b e a x β.1.1.1

  typeof_begun : {y : Bool} {q : ℕ} {o : Reading} {ts rest : List Terminal} → BegunElement N.names y ts rest → Flat (Front rest) false q y o ts
  typeof_begun {ts = ts} {rest = rest} (BegunElement.none e) = stopped ts rest e
  typeof_begun (BegunElement.some x) = cut_piece x

  pub type_begun : {s : Scopes} {ts rest : List Terminal} → s.entries ≡ N.names → s.brackets ≡ [] → (x : begun_by_grammar (rule r.Typespec) s ts rest)
      → Inside x → {q : ℕ} {o : Reading} → Flat (Front rest) false q s.reading.typed o ts
  unfolding Inside grammar
  type_begun p b Begins.yet β = Flat.stops refl
  type_begun p b (Begins.in_rule Begins.yet) β = Flat.stops refl
  type_begun p b (Begins.in_rule (Begins.in_left Begins.yet)) β = Flat.stops refl
  type_begun {s = s} p b (Begins.in_rule (Begins.in_left (Begins.in_word {t = t} {ts = us} e))) β = Flat.piece (type_piece N.names s.reading.typed s t us b e) (Flat.stops refl)
  type_begun p b (Begins.in_rule (Begins.in_right Begins.yet)) β = Flat.stops refl
  type_begun p b (Begins.in_rule (Begins.in_right (Begins.in_left d))) β = struct_begun p b d β.1.1.1
  type_begun p b (Begins.in_rule (Begins.in_right (Begins.in_right Begins.yet))) β = Flat.stops refl
  type_begun p b (Begins.in_rule (Begins.in_right (Begins.in_right (Begins.in_left d)))) β = enum_begun p b d β.1.1.1.1
  type_begun p b (Begins.in_rule (Begins.in_right (Begins.in_right (Begins.in_right Begins.yet)))) β = Flat.stops refl
  type_begun p b (Begins.in_rule (Begins.in_right (Begins.in_right (Begins.in_right (Begins.in_left Begins.yet))))) β = Flat.stops refl
  type_begun {s = s} p b (Begins.in_rule (Begins.in_right (Begins.in_right (Begins.in_right (Begins.in_left (Begins.in_word {t = t} {ts = us} e)))))) β {q = q} {o = o} =
      subst (λ y. Flat (Front us) false q y o (t ∷ us)) (sym (name_untyped s t e)) (Flat.piece (name_piece N.names s t us p e) (Flat.stops refl))
  type_begun {s = s} p b (Begins.in_rule (Begins.in_right (Begins.in_right (Begins.in_right (Begins.in_right d))))) β =
      typeof_begun (begun_typeof N.names s.reading.typed p b (typeof_begun_of d β.1.1.1.1.1 b))

  pub element_front : {s : Scopes} {ts rest : List Terminal} → s.entries ≡ N.names → s.brackets ≡ [] → (x : begun_by_grammar element s ts rest) → Inside x
      → {q : ℕ} {o : Reading} → Flat (Front rest) false q s.reading.typed o ts
  unfolding Inside grammar
  element_front p b Begins.yet β = Flat.stops refl
  element_front p b (Begins.in_left d) β = type_begun p b d β.1
  element_front p b (Begins.in_right Begins.yet) β = Flat.stops refl
  element_front p b (Begins.in_right (Begins.in_rule Begins.yet)) β = Flat.stops refl
  element_front {s = s} p b (Begins.in_right (Begins.in_rule (Begins.in_word e))) β = Flat.piece (qualified_piece N.names s.reading.typed {s = s} b (qualifier_of e)) (Flat.stops refl)
