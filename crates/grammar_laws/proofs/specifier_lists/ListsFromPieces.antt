-- Lists of specifiers from their pieces: where one ends, and how the parser derives or begins a whole one.
use Rattle.std.proofs.Common.{◌≡◌, ℕ, Bool, true, false, not, List, [], ◌∷◌, refl, sym, ◌∙◌}
use Rattle.std.specs.Prelude.{◌==◌}
use Rattle.model_grammar.specs.declared.grammar.Rule.TheVariants as r
use Rattle.model_grammar.specs.declared.grammar.Terminal.{Terminal}
use Rattle.model_grammar.specs.declared.grammar.Entry.{Entry}
use Rattle.model_grammar.specs.declared.grammar.Reading.{Reading}
use Rattle.model_grammar.specs.GrammarForm.{mem}
use Rattle.model_grammar.specs.Grammar.{type_kinds}
use Rattle.model_grammar.specs.NameScopes.{Scopes, kind, specified}
use Rattle.grammar_laws.specs.apparatus.DecidedTable.{within, apart}
use Rattle.grammar_laws.specs.ParserWalk.{ahead}
use Rattle.grammar_laws.specs.ParserSets.{tables, firsts}
use Rattle.model_grammar.specs.SyntaxTree.{sees_type}
use Rattle.model_grammar.specs.Terminals as k
use Rattle.grammar_laws.specs.ParserTests.{parsed, sees}
use Rattle.grammar_laws.proofs.kinds.KindSets.{and_left, and_right, not_true, clash, apart_mem, within_mem}
use Rattle.grammar_laws.proofs.kinds.TokenKinds.{decide, absent}
use Rattle.grammar_laws.proofs.enumerations.BracesScanAtEnd.{lacks_list_end, lacks_end}
use Rattle.grammar_laws.proofs.enumerations.BracesScanAtEnd.{IsEnd as Ends}
use Rattle.grammar_laws.proofs.same_language.FormsOutsideLists.{list_continuations}
use Rattle.grammar_laws.proofs.specifier_lists.ListInPieces.{here, lacks, Run, IsTag, IsStructTag, IsEnd, Plain, Flat}
use Rattle.grammar_laws.proofs.specifier_lists.OpenLists.{type_ends}
use Rattle.grammar_laws.proofs.specifier_lists.TestsOnPieces.{no_braces, no_colon, enum_type, struct_type}

-- the kind of a token in the scopes of a list
pub seen_here : (es : List Entry) (s : Scopes) (ts : List Terminal) → s.entries ≡ es → s.brackets ≡ [] → sees_type s ts ≡ sees_type (here es s.reading.typed) ts
seen_here es s [] p b = refl
seen_here es s (t ∷ ts) p b = rw (p, b) refl

module _ (R : Run) where
  typed_plain : (c y : Bool) (ts : List Terminal) → sees_type (here R.names y) ts ≡ true → Plain R c ts
  typed_plain c y ts h = Plain.free (no_braces (here R.names y) ts h) (no_colon (here R.names y) ts h)

  -- a tag alone, and what comes behind it
  pub by_tag : {c y : Bool} {q : ℕ} {o : Reading} {t : Terminal} {ts later : List Terminal} → IsTag R.names y t ts later → Flat R c q true (specified o) later → Flat R c q y o ts
  by_tag i (Flat.ends e h) = Flat.enumeration i (Plain.free e.brace e.colon) (Flat.ends e h)
  by_tag i (Flat.stops v) = Flat.enumeration i (Plain.cut v refl refl) (Flat.stops v)
  by_tag i (Flat.begins v t b) = Flat.enumeration i (typed_plain _ true _ t) (Flat.begins v t b)
  by_tag i (Flat.piece j f) = Flat.enumeration i (typed_plain _ true _ j.type) (Flat.piece j f)
  by_tag i (Flat.structure j p f) = Flat.enumeration i (typed_plain _ true _ (struct_type R.names true j.head)) (Flat.structure j p f)
  by_tag i (Flat.structure_before j t) = Flat.enumeration i (typed_plain _ true _ (struct_type R.names true j.head)) (Flat.structure_before j t)
  by_tag i (Flat.structure_cut j v h) = Flat.enumeration i (typed_plain _ true _ (struct_type R.names true j.head)) (Flat.structure_cut j v h)
  by_tag i (Flat.enumeration j p f) = Flat.enumeration i (typed_plain _ true _ (enum_type R.names true j.head)) (Flat.enumeration j p f)
  by_tag i (Flat.enumeration_before j t) = Flat.enumeration i (typed_plain _ true _ (enum_type R.names true j.head)) (Flat.enumeration_before j t)
  by_tag i (Flat.braces j t) = Flat.enumeration i (typed_plain _ true _ (enum_type R.names true j.head)) (Flat.braces j t)
  by_tag i (Flat.silent j u m f) = Flat.enumeration i (typed_plain _ true _ (enum_type R.names true j.head)) (Flat.silent j u m f)
  by_tag i (Flat.taking j u m f) = Flat.enumeration i (typed_plain _ true _ (enum_type R.names true j.head)) (Flat.taking j u m f)
  by_tag i (Flat.opening j m f) = Flat.enumeration i (typed_plain _ true _ (enum_type R.names true j.head)) (Flat.opening j m f)
  by_tag i (Flat.group t) = Flat.enumeration_before i t

  pub by_struct_tag : {c y : Bool} {q : ℕ} {o : Reading} {t : Terminal} {ts later : List Terminal} → IsStructTag R.names y t ts later → Flat R c q true (specified o) later → Flat R c q y o ts
  by_struct_tag i (Flat.ends e h) = Flat.structure i (Plain.free e.brace e.colon) (Flat.ends e h)
  by_struct_tag i (Flat.stops v) = Flat.structure i (Plain.cut v refl refl) (Flat.stops v)
  by_struct_tag i (Flat.begins v t b) = Flat.structure i (typed_plain _ true _ t) (Flat.begins v t b)
  by_struct_tag i (Flat.piece j f) = Flat.structure i (typed_plain _ true _ j.type) (Flat.piece j f)
  by_struct_tag i (Flat.structure j p f) = Flat.structure i (typed_plain _ true _ (struct_type R.names true j.head)) (Flat.structure j p f)
  by_struct_tag i (Flat.structure_before j t) = Flat.structure i (typed_plain _ true _ (struct_type R.names true j.head)) (Flat.structure_before j t)
  by_struct_tag i (Flat.structure_cut j v h) = Flat.structure i (typed_plain _ true _ (struct_type R.names true j.head)) (Flat.structure_cut j v h)
  by_struct_tag i (Flat.enumeration j p f) = Flat.structure i (typed_plain _ true _ (enum_type R.names true j.head)) (Flat.enumeration j p f)
  by_struct_tag i (Flat.enumeration_before j t) = Flat.structure i (typed_plain _ true _ (enum_type R.names true j.head)) (Flat.enumeration_before j t)
  by_struct_tag i (Flat.braces j t) = Flat.structure i (typed_plain _ true _ (enum_type R.names true j.head)) (Flat.braces j t)
  by_struct_tag i (Flat.silent j u m f) = Flat.structure i (typed_plain _ true _ (enum_type R.names true j.head)) (Flat.silent j u m f)
  by_struct_tag i (Flat.taking j u m f) = Flat.structure i (typed_plain _ true _ (enum_type R.names true j.head)) (Flat.taking j u m f)
  by_struct_tag i (Flat.opening j m f) = Flat.structure i (typed_plain _ true _ (enum_type R.names true j.head)) (Flat.opening j m f)
  by_struct_tag i (Flat.group t) = Flat.structure_before i t

  -- where a list ends before the enumeration that holds it, nothing goes on with it
  same_end : (w : ℕ) (ts : List Terminal) → sees_type (here R.names false) ts ≡ false → lacks R.names w false ts ≡ lacks R.names w true ts
  same_end w ts h = lacks_list_end w (here R.names false) (here R.names false) ts (record { entries = refl; clear = refl }) h

  ends_untyped : {ts : List Terminal} → IsEnd R.names true ts → sees_type (here R.names false) ts ≡ false → IsEnd R.names false ts
  ends_untyped {ts = ts} e h = record { type = h; brace = e.brace; colon = e.colon; lacking = λ w. same_end w ts h ∙ e.lacking w }

  no_piece : {A : Type 0} (ts : List Terminal) → sees_type (here R.names true) ts ≡ true → sees_type (here R.names false) ts ≡ false → A
  no_piece ts t h = absurd (clash (sees_type (here R.names true) ts) t (type_ends R.names false ts h))

  list_closed : {c : Bool} {q : ℕ} {o : Reading} {ts : List Terminal} → Flat R c q true o ts → sees_type (here R.names false) ts ≡ false → Flat R c q false o ts
  list_closed (Flat.ends e k) h = Flat.ends (ends_untyped e h) k
  list_closed (Flat.stops v) h = Flat.stops v
  list_closed {ts = ts} (Flat.begins v t b) h = no_piece ts t h
  list_closed {ts = ts} (Flat.piece j f) h = no_piece ts j.type h
  list_closed {ts = ts} (Flat.structure j p f) h = no_piece ts (struct_type R.names true j.head) h
  list_closed {ts = ts} (Flat.structure_before j t) h = no_piece ts (struct_type R.names true j.head) h
  list_closed {ts = ts} (Flat.structure_cut j v u) h = no_piece ts (struct_type R.names true j.head) h
  list_closed {ts = ts} (Flat.enumeration j p f) h = no_piece ts (enum_type R.names true j.head) h
  list_closed {ts = ts} (Flat.enumeration_before j t) h = no_piece ts (enum_type R.names true j.head) h
  list_closed {ts = ts} (Flat.braces j t) h = no_piece ts (enum_type R.names true j.head) h
  list_closed {ts = ts} (Flat.silent j u m f) h = no_piece ts (enum_type R.names true j.head) h
  list_closed {ts = ts} (Flat.taking j u m f) h = no_piece ts (enum_type R.names true j.head) h
  list_closed {ts = ts} (Flat.opening j m f) h = no_piece ts (enum_type R.names true j.head) h
  list_closed (Flat.group t) h = Flat.group t

  pub closed_at : (y : Bool) {c : Bool} {q : ℕ} {o : Reading} {ts : List Terminal} → Flat R c q true o ts → sees_type (here R.names y) ts ≡ false → Flat R c q y o ts
  closed_at true f h = f
  closed_at false f h = list_closed f h

-- what ends a list
within_types : within tables type_kinds (firsts r.Squals) ≡ true
unfolding within mem firsts
within_types = refl

no_types : (F : List ℕ) → Ends F → (s : Scopes) (ts : List Terminal) → mem (ahead tables parsed s ts) F ≡ true → sees_type s ts ≡ false
unfolding ahead
no_types F f s [] h = refl
no_types F f s (t ∷ ts) h = decide (sees_type s (t ∷ ts)) (λ e. apart_mem tables (kind s t) F (firsts r.Squals) f.others h (within_mem tables (kind s t) type_kinds (firsts r.Squals) within_types e))

not_seen : (j : ℕ) (F : List ℕ) → (j == k.Name) ≡ false → mem j F ≡ false → mem k.Closing F ≡ false → mem k.Stray F ≡ false → (s : Scopes) (ts : List Terminal)
    → mem (ahead tables parsed s ts) F ≡ true → sees j ts ≡ false
unfolding ahead
not_seen j F a b c d s [] h = refl
not_seen j F a b c d s (t ∷ ts) h = absent F j a b c d s t h

pub end_at : (F : List ℕ) → Ends F → (es : List Entry) (s : Scopes) (ts : List Terminal) → s.entries ≡ es → s.brackets ≡ [] → mem (ahead tables parsed s ts) F ≡ true → IsEnd es s.reading.typed ts
end_at F f es s ts p b h = record {
  type = sym (seen_here es s ts p b) ∙ no_types F f s ts h;
  brace = not_seen k.OpenBrace F refl f.brace f.held f.stray s ts h;
  colon = not_seen k.Colon F refl f.colon f.held f.stray s ts h;
  lacking = λ w. lacks_end F f w true (here es false) s ts p h;
}

not_in : (F : List ℕ) (j : ℕ) → apart tables F list_continuations ≡ true → mem j list_continuations ≡ true → mem j F ≡ false
not_in F j a m = decide (mem j F) (λ e. apart_mem tables j F list_continuations a e m)

pub fewer : (F G : List ℕ) → within tables G list_continuations ≡ true → apart tables F list_continuations ≡ true → apart tables F G ≡ true
unfolding apart
fewer [] G w a = refl
fewer (j ∷ F) G w a =
    let n : mem j G ≡ false =
    decide (mem j G) (λ e. clash _ (within_mem tables j G list_continuations w e) (not_true _ (and_left (not (mem j list_continuations)) (apart tables F list_continuations) a))) in
    rw n (fewer F G w (and_right (not (mem j list_continuations)) _ a))

pub list_ends : (F : List ℕ) → apart tables F list_continuations ≡ true → Ends F
unfolding mem firsts within
list_ends F a =
    record { typed = not_in F k.TypedefName a refl; brace = not_in F k.OpenBrace a refl; colon = not_in F k.Colon a refl; held = not_in F k.Closing a refl; stray = not_in F k.Stray a refl; others = fewer F (firsts r.Squals) refl a }
