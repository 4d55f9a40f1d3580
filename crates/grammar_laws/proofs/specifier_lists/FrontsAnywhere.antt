-- What the parser begins of a list of specifiers at one place it begins wherever that stands.
use Rattle.std.proofs.Common.{◌≡◌, ℕ, Bool, true, false, ◌&&◌, List, [], ◌∷◌, refl, sym, ap, subst, ◌∙◌}
use Rattle.std.specs.Prelude.{◌==◌}
use mathlib.Core.Logic.{◌⊎◌, inl, inr}
use Rattle.model_grammar.specs.declared.grammar.Rule.TheVariants as r
use Rattle.model_grammar.specs.declared.grammar.Act.TheVariants as act
use Rattle.model_grammar.specs.declared.grammar.Test.TheVariants as test
use Rattle.model_grammar.specs.declared.grammar.Terminal.{Terminal}
use Rattle.model_grammar.specs.declared.grammar.Entry.{Entry}
use Rattle.model_grammar.specs.declared.grammar.Reading.{Reading}
use Rattle.model_grammar.specs.declared.grammar.Frame.{Frame}
use Rattle.model_grammar.specs.declared.grammar.Tree.{Tree}
use Rattle.model_grammar.specs.GrammarForm.{Form, word, rule, ◌then◌, ◌or◌, maybe, many, loop, mem}
use Rattle.model_grammar.specs.Grammar.{token}
use Rattle.model_grammar.specs.Terminals as k
use Rattle.model_grammar.specs.NameScopes.{Scopes, kind, after, fresh, specified}
use Rattle.model_grammar.specs.Derivation.{Derives, Begins}
use Rattle.grammar_laws.specs.apparatus.DecidedTable.{within}
use Rattle.grammar_laws.specs.ParserTable.{table}
use Rattle.model_grammar.specs.SyntaxTree.{sees_type}
use Rattle.grammar_laws.specs.ParserTests.{parsed, passes, sees_name, sees_members}
use Rattle.grammar_laws.proofs.derivations.KeptScopes.{opens, leaves, declares, is_open, is_grown, nests, same}
use Rattle.grammar_laws.proofs.scans.PastSpecifiers.{operand, typeofs, brace_kind, tag_name}
use Rattle.grammar_laws.proofs.scans.ScansReadNames.{name_alike}
use Rattle.grammar_laws.proofs.derivations.IndependentOfFrames.{reframed_begun}
use Rattle.grammar_laws.proofs.derivations.AttributesInAnyScopes.{attributes_at, attributes_begun_at}
use Rattle.grammar_laws.proofs.enumerations.EnumeratorNames.{enumerator_named, enumerator_named_begun, member_unnamed, member_unnamed_begun}
use Rattle.grammar_laws.proofs.specifier_lists.OpenLists.{tag_word}
use Rattle.grammar_laws.proofs.specifier_lists.ListInPieces.{element, membered, enumerated, braced, at, here, frame_of, begun, IsBegunGroup}
use Rattle.grammar_laws.proofs.specifier_lists.PiecesAnywhere.{moved_word, seen, at_fresh, or_not, takes_at, brace_tested, attributes_leave, membered_tag}

-- a type specifier or a qualifier that is begun, in any list
pub record IsBegunPiece (es : List Entry) (y : Bool) (ts rest : List Terminal) : Type 0 where
  pub begins : (reading : Reading) (fs : List Frame) → reading.typed ≡ y → Begins parsed element (at es reading fs) ts rest
  pub type : sees_type (here es y) ts ≡ true

-- in brackets, wherever they stand
begun_inside : (f : Form) → nests f false false ≡ true → (es : List Entry) {s : Scopes} {ts rest : List Terminal} → s ≡ at es fresh s.frames
    → Begins parsed f s ts rest → (fs : List Frame) → Begins parsed f (at es fresh fs) ts rest
begun_inside f h es {s = s} {ts = ts} {rest = rest} q d fs = subst (λ z. Begins parsed f (record z { frames = fs }) ts rest) q (reframed_begun d h fs)

-- with the bracket before it
enclosed_begun : (j : ℕ) (f : Form)
    → (same (mem k.Name (j ∷ [])) (mem k.TypedefName (j ∷ [])) && same (mem k.TypedefName (j ∷ [])) (mem k.DeclaredName (j ∷ []))) ≡ true
    → nests f false false ≡ true → (es : List Entry) {s : Scopes} {ts rest : List Terminal} → s.entries ≡ es → s.brackets ≡ []
    → Begins parsed (word (j ∷ []) act.Enclose then f) s ts rest → (reading : Reading) (fs : List Frame)
    → Begins parsed (word (j ∷ []) act.Enclose then f) (at es reading fs) ts rest
enclosed_begun j f v h es q b Begins.yet reading fs = Begins.yet
enclosed_begun j f v h es q b (Begins.in_first Begins.yet) reading fs = Begins.yet
enclosed_begun j f v h es {s = s} q b (Begins.in_first (Begins.in_word {t = t} e)) reading fs = Begins.in_first (Begins.in_word (moved_word (j ∷ []) v es s t reading fs b e))
enclosed_begun j f v h es {s = s} q b (Begins.in_then (Derives.a_word {t = t} e) d) reading fs =
    Begins.in_then (Derives.a_word (moved_word (j ∷ []) v es s t reading fs b e)) (begun_inside f h es (at_fresh (after act.Enclose s t) es q refl b) d fs)

-- enumerators in braces
abbrev in_group : Form
in_group = rule r.Enumr then loop test.EnumeratorAhead (token k.Comma then rule r.Enumr) then maybe (token k.Comma) then word (k.CloseBrace ∷ []) act.TypeSpecifier

pub braced_begun : (es : List Entry) {s : Scopes} {ts rest : List Terminal} → s.entries ≡ es → s.brackets ≡ [] → Begins parsed braced s ts rest
    → (reading : Reading) (fs : List Frame) → Begins parsed braced (at es reading fs) ts rest
unfolding mem same nests opens leaves is_open is_grown declares
braced_begun es q b d reading fs = enclosed_begun k.OpenBrace in_group refl refl es q b d reading fs

-- the brace is taken
pub data BegunBraces (es : List Entry) (ts rest : List Terminal) : Type 0 where
  none : rest ≡ ts → BegunBraces es ts rest
  some : {t : Terminal} {us : List Terminal} → ts ≡ t ∷ us → IsBegunGroup es t us rest → BegunBraces es ts rest

in_group_named : {s : Scopes} {ts rest : List Terminal} → Begins parsed in_group s ts rest → (sees_name s ts ≡ true) ⊎ (ts ≡ rest)
in_group_named Begins.yet = inr refl
in_group_named (Begins.in_first d) = elim (enumerator_named_begun d) [ inl n ↦ inl n | inr e ↦ inr (sym e) ]
in_group_named (Begins.in_then d e) = inl (enumerator_named d)

begun_group : (es : List Entry) (s : Scopes) (t : Terminal) (us rest : List Terminal) → s.entries ≡ es → s.brackets ≡ [] → (t.kind == k.OpenBrace) ≡ true
    → Begins parsed braced s (t ∷ us) rest → (sees_name (after act.Enclose s t) us ≡ true) ⊎ (us ≡ rest) → IsBegunGroup es t us rest
begun_group es s t us rest q b h d n = record {
  begins = λ reading fs. braced_begun es q b d reading fs;
  brace = h;
  name = elim n [ inl m ↦ inl (name_alike us (after act.Enclose s t) (here es false) (sym q) ∙ m) | inr e ↦ inr e ];
  none = λ y. (takes_at y (here es false)).lacking t us h;
}

pub begun_braces : (es : List Entry) {s : Scopes} {ts rest : List Terminal} → s.entries ≡ es → s.brackets ≡ [] → Begins parsed braced s ts rest → BegunBraces es ts rest
begun_braces es q b Begins.yet = BegunBraces.none refl
begun_braces es q b (Begins.in_first Begins.yet) = BegunBraces.none refl
begun_braces es {s = s} {rest = rest} q b (Begins.in_first (Begins.in_word {t = t} e)) =
    BegunBraces.some refl (begun_group es s t rest rest q b (brace_kind s t e) (Begins.in_first (Begins.in_word e)) (inr refl))
begun_braces es {s = s} {rest = rest} q b (Begins.in_then (Derives.a_word {t = t} {ts = us} e) d) =
    BegunBraces.some refl (begun_group es s t us rest q b (brace_kind s t e) (Begins.in_then (Derives.a_word e) d) (in_group_named d))

-- `typeof`
abbrev in_typeof : Form
in_typeof = operand then word (k.CloseParenthesis ∷ []) act.TypeSpecifier

pub data BegunElement (es : List Entry) (y : Bool) (ts rest : List Terminal) : Type 0 where
  none : rest ≡ ts → BegunElement es y ts rest
  some : IsBegunPiece es y ts rest → BegunElement es y ts rest

typeof_first : {s : Scopes} {ts rest : List Terminal} → Begins parsed (table r.Typeof) s ts rest → Begins parsed element s ts rest
unfolding table
typeof_first d = Begins.in_left (Begins.in_rule (Begins.in_right (Begins.in_right (Begins.in_right (Begins.in_right (Begins.in_rule d))))))

pub begun_typeof : (es : List Entry) (y : Bool) {s : Scopes} {ts rest : List Terminal} → s.entries ≡ es → s.brackets ≡ [] → Begins parsed (rule r.Typeof) s ts rest → BegunElement es y ts rest
unfolding table mem same within nests opens leaves is_open is_grown declares
begun_typeof es y q b Begins.yet = BegunElement.none refl
begun_typeof es y q b (Begins.in_rule Begins.yet) = BegunElement.none refl
begun_typeof es y q b (Begins.in_rule (Begins.in_first Begins.yet)) = BegunElement.none refl
begun_typeof es y {s = s} {rest = rest} q b (Begins.in_rule (Begins.in_first (Begins.in_word {t = t} e))) = BegunElement.some (record {
  begins = λ reading fs p. typeof_first (Begins.in_first (Begins.in_word (moved_word typeofs refl es s t reading fs b e)));
  type = seen typeofs refl refl es y s t rest b e;
})
begun_typeof es y {s = s} q b (Begins.in_rule (Begins.in_then (Derives.a_word {t = t} {ts = us} e) d)) = BegunElement.some (record {
  begins =
      λ reading fs p. typeof_first (Begins.in_then (Derives.a_word (moved_word typeofs refl es s t reading fs b e)) (enclosed_begun k.OpenParenthesis in_typeof refl refl es q b d (begun reading) (frame_of es reading ∷ fs)));
  type = seen typeofs refl refl es y s t us b e;
})

-- behind the word of a structure or an enumeration: in its attributes, or behind them
abbrev of_struct : Form
of_struct = membered_tag or rule r.Members

struct_begun : {s : Scopes} {ts rest : List Terminal} → Begins parsed (word (k.Struct ∷ []) act.OpenSpecifier then rule r.Attrs then of_struct) s ts rest → Begins parsed element s ts rest
unfolding table
struct_begun d = Begins.in_left (Begins.in_rule (Begins.in_right (Begins.in_left (Begins.in_rule d))))

enum_begun : {s : Scopes} {ts rest : List Terminal} → Begins parsed (word (k.Enum ∷ []) act.OpenSpecifier then rule r.Attrs then enumerated) s ts rest → Begins parsed element s ts rest
unfolding table
enum_begun d = Begins.in_left (Begins.in_rule (Begins.in_right (Begins.in_right (Begins.in_left (Begins.in_rule d)))))

-- the word, and what is begun behind it in its frame
behind_word : (j : ℕ) (f : Form)
    → (same (mem k.Name (j ∷ [])) (mem k.TypedefName (j ∷ [])) && same (mem k.TypedefName (j ∷ [])) (mem k.DeclaredName (j ∷ []))) ≡ true
    → (es : List Entry) (s : Scopes) (t : Terminal) {us rest : List Terminal} → s.brackets ≡ [] → mem (kind s t) (j ∷ []) ≡ true
    → (reading : Reading) (fs : List Frame) → Begins parsed (rule r.Attrs then f) (at es (begun reading) (frame_of es reading ∷ fs)) us rest
    → Begins parsed (word (j ∷ []) act.OpenSpecifier then rule r.Attrs then f) (at es reading fs) (t ∷ us) rest
behind_word j f v es s t b e reading fs d = Begins.in_then (Derives.a_word (moved_word (j ∷ []) v es s t reading fs b e)) d

pub begun_struct_attributes : (es : List Entry) (y : Bool) {s : Scopes} {t : Terminal} {us rest : List Terminal} → s.brackets ≡ []
    → mem (kind s t) (k.Struct ∷ []) ≡ true → Begins parsed (rule r.Attrs) (after act.OpenSpecifier s t) us rest → IsBegunPiece es y (t ∷ us) rest
unfolding mem same within
begun_struct_attributes es y {s = s} {t = t} {us = us} b e d = record {
  begins = λ reading fs p. struct_begun (behind_word k.Struct of_struct refl es s t b e reading fs (Begins.in_first (attributes_begun_at d b (at es (begun reading) (frame_of es reading ∷ fs)) refl)));
  type = seen (k.Struct ∷ []) refl refl es y s t us b e;
}

pub begun_enum_attributes : (es : List Entry) (y : Bool) {s : Scopes} {t : Terminal} {us rest : List Terminal} → s.brackets ≡ []
    → mem (kind s t) (k.Enum ∷ []) ≡ true → Begins parsed (rule r.Attrs) (after act.OpenSpecifier s t) us rest → IsBegunPiece es y (t ∷ us) rest
unfolding mem same within
begun_enum_attributes es y {s = s} {t = t} {us = us} b e d = record {
  begins = λ reading fs p. enum_begun (behind_word k.Enum enumerated refl es s t b e reading fs (Begins.in_first (attributes_begun_at d b (at es (begun reading) (frame_of es reading ∷ fs)) refl)));
  type = seen (k.Enum ∷ []) refl refl es y s t us b e;
}

-- behind the attributes
struct_form : (es : List Entry) (y : Bool) {s m : Scopes} {t : Terminal} {us vs rest : List Terminal} {xs : List Tree} → s.brackets ≡ []
    → mem (kind s t) (k.Struct ∷ []) ≡ true → Derives parsed (rule r.Attrs) (after act.OpenSpecifier s t) us xs m vs
    → ((reading : Reading) (fs : List Frame) → Begins parsed of_struct (at es (begun reading) fs) vs rest) → IsBegunPiece es y (t ∷ us) rest
unfolding mem same within
struct_form es y {s = s} {t = t} {us = us} b e d c = record {
  begins =
      λ reading fs p. struct_begun (behind_word k.Struct of_struct refl es s t b e reading fs (Begins.in_then (attributes_at d b (at es (begun reading) (frame_of es reading ∷ fs)) refl) (c reading (frame_of es reading ∷ fs))));
  type = seen (k.Struct ∷ []) refl refl es y s t us b e;
}

enum_form : (es : List Entry) (y : Bool) {s m : Scopes} {t : Terminal} {us vs rest : List Terminal} {xs : List Tree} → s.brackets ≡ []
    → mem (kind s t) (k.Enum ∷ []) ≡ true → Derives parsed (rule r.Attrs) (after act.OpenSpecifier s t) us xs m vs
    → ((reading : Reading) (fs : List Frame) → Begins parsed enumerated (at es (begun reading) fs) vs rest) → IsBegunPiece es y (t ∷ us) rest
unfolding mem same within
enum_form es y {s = s} {t = t} {us = us} b e d c = record {
  begins =
      λ reading fs p. enum_begun (behind_word k.Enum enumerated refl es s t b e reading fs (Begins.in_then (attributes_at d b (at es (begun reading) (frame_of es reading ∷ fs)) refl) (c reading (frame_of es reading ∷ fs))));
  type = seen (k.Enum ∷ []) refl refl es y s t us b e;
}

pub begun_struct_behind : (es : List Entry) (y : Bool) {s m : Scopes} {t : Terminal} {us vs : List Terminal} {xs : List Tree} → s.brackets ≡ []
    → mem (kind s t) (k.Struct ∷ []) ≡ true → Derives parsed (rule r.Attrs) (after act.OpenSpecifier s t) us xs m vs → IsBegunPiece es y (t ∷ us) vs
begun_struct_behind es y b e d = struct_form es y b e d (λ reading fs. Begins.yet)

pub begun_enum_behind : (es : List Entry) (y : Bool) {s m : Scopes} {t : Terminal} {us vs : List Terminal} {xs : List Tree} → s.brackets ≡ []
    → mem (kind s t) (k.Enum ∷ []) ≡ true → Derives parsed (rule r.Attrs) (after act.OpenSpecifier s t) us xs m vs → IsBegunPiece es y (t ∷ us) vs
begun_enum_behind es y b e d = enum_form es y b e d (λ reading fs. Begins.yet)

-- members, without a tag and behind one
abbrev in_members : Form
in_members = rule r.Member then many (rule r.Member) then word (k.CloseBrace ∷ []) act.TypeSpecifier

members_begun : (es : List Entry) {s : Scopes} {ts rest : List Terminal} → s.entries ≡ es → s.brackets ≡ [] → Begins parsed (rule r.Members) s ts rest
    → (reading : Reading) (fs : List Frame) → Begins parsed (rule r.Members) (at es reading fs) ts rest
unfolding table mem same nests opens leaves is_open is_grown declares
members_begun es q b Begins.yet reading fs = Begins.yet
members_begun es q b (Begins.in_rule d) reading fs = Begins.in_rule (enclosed_begun k.OpenBrace in_members refl refl es q b d reading fs)

pub begun_members : (es : List Entry) (y : Bool) {s m : Scopes} {t : Terminal} {us vs rest : List Terminal} {xs : List Tree} → s.entries ≡ es → s.brackets ≡ []
    → mem (kind s t) (k.Struct ∷ []) ≡ true → Derives parsed (rule r.Attrs) (after act.OpenSpecifier s t) us xs m vs → Begins parsed (rule r.Members) m vs rest
    → IsBegunPiece es y (t ∷ us) rest
begun_members es y q b e d c =
    let i = attributes_leave b d in
    struct_form es y b e d (λ reading fs. Begins.in_right (members_begun es (ap (λ z. z.entries) i ∙ q) (ap (λ z. z.brackets) i ∙ b) c (begun reading) fs))

-- the brace of members is no enumeration's, or is the last token
pub data BegunMembers (es : List Entry) (vs rest : List Terminal) : Type 0 where
  none : rest ≡ vs → BegunMembers es vs rest
  brace : {o : Terminal} → vs ≡ o ∷ rest → (o.kind == k.OpenBrace) ≡ true → BegunMembers es vs rest
  tested : ((s : Scopes) → s.entries ≡ es → sees_members s vs ≡ true) → BegunMembers es vs rest

in_members_unnamed : {s : Scopes} {ts rest : List Terminal} → Begins parsed in_members s ts rest → (sees_name s ts ≡ false) ⊎ (rest ≡ ts)
in_members_unnamed Begins.yet = inr refl
in_members_unnamed (Begins.in_first d) = member_unnamed_begun d
in_members_unnamed (Begins.in_then d e) = inl (member_unnamed d)

tested_members : (es : List Entry) (s : Scopes) (o : Terminal) (us rest : List Terminal) → s.entries ≡ es → (o.kind == k.OpenBrace) ≡ true
    → (sees_name (after act.Enclose s o) us ≡ false) ⊎ (rest ≡ us) → BegunMembers es (o ∷ us) rest
tested_members es s o us rest q h (inl n) = BegunMembers.tested (λ z w. rw h (or_not (z.reading.waiting == 0) (sees_name z us) (name_alike us (after act.Enclose s o) z (w ∙ sym q) ∙ n)))
tested_members es s o us rest q h (inr e) = BegunMembers.brace (ap (λ z. o ∷ z) (sym e)) h

pub members_tested : (es : List Entry) {s : Scopes} {ts rest : List Terminal} → s.entries ≡ es → Begins parsed (rule r.Members) s ts rest → BegunMembers es ts rest
unfolding table
members_tested es q Begins.yet = BegunMembers.none refl
members_tested es q (Begins.in_rule Begins.yet) = BegunMembers.none refl
members_tested es q (Begins.in_rule (Begins.in_first Begins.yet)) = BegunMembers.none refl
members_tested es {s = s} {rest = rest} q (Begins.in_rule (Begins.in_first (Begins.in_word {t = o} e))) = BegunMembers.brace refl (brace_kind s o e)
members_tested es {s = s} {rest = rest} q (Begins.in_rule (Begins.in_then (Derives.a_word {t = o} {ts = us} e) d)) = tested_members es s o us rest q (brace_kind s o e) (in_members_unnamed d)

tagged_form : (es : List Entry) (y : Bool) {s m : Scopes} {t g : Terminal} {us vs rest : List Terminal} {xs : List Tree} → s.brackets ≡ []
    → mem (kind s t) (k.Struct ∷ []) ≡ true → Derives parsed (rule r.Attrs) (after act.OpenSpecifier s t) us xs m (g ∷ vs)
    → mem (kind m g) (k.Name ∷ k.TypedefName ∷ []) ≡ true
    → ((reading : Reading) (fs : List Frame) → Begins parsed membered (at es (specified (begun reading)) fs) vs rest) → IsBegunPiece es y (t ∷ us) rest
tagged_form es y {m = m} {g = g} b e d n c =
    struct_form es y b e d (λ reading fs. Begins.in_left (Begins.in_then (Derives.a_word (tag_word es (begun reading) fs g refl (tag_name m g n))) (c reading fs)))

pub begun_tagged_members : (es : List Entry) (y : Bool) {s m o : Scopes} {t g : Terminal} {us vs rest : List Terminal} {xs : List Tree} → s.brackets ≡ []
    → mem (kind s t) (k.Struct ∷ []) ≡ true → Derives parsed (rule r.Attrs) (after act.OpenSpecifier s t) us xs m (g ∷ vs)
    → mem (kind m g) (k.Name ∷ k.TypedefName ∷ []) ≡ true → o.entries ≡ es → o.brackets ≡ [] → Begins parsed (rule r.Members) o vs rest
    → ((z : Scopes) → z.entries ≡ es → sees_members z vs ≡ true) → IsBegunPiece es y (t ∷ us) rest
begun_tagged_members es y b e d n u v c h =
    tagged_form es y b e d n (λ reading fs. Begins.in_chosen (h (at es (specified (begun reading)) fs) refl) (members_begun es u v c (specified (begun reading)) fs))

-- enumerators without a tag
begun_enumerated : (es : List Entry) {ts rest : List Terminal} → BegunBraces es ts rest → (reading : Reading) (fs : List Frame)
    → Begins parsed braced (at es reading fs) ts rest → Begins parsed enumerated (at es reading fs) ts rest
begun_enumerated es {ts = ts} (BegunBraces.none e) reading fs d = subst (λ z. Begins parsed enumerated (at es reading fs) ts z) (sym e) Begins.yet
begun_enumerated es {ts = ts} (BegunBraces.some {t = t} {us = us} p g) reading fs d =
    Begins.in_chosen (subst (λ z. passes test.EnumeratorsAhead (at es reading fs) z ≡ true) (sym p) (brace_tested (at es reading fs) t us g.brace))
    (Begins.in_then Derives.skip (Begins.in_then Derives.skip d))

pub begun_enum : (es : List Entry) (y : Bool) {s m : Scopes} {t : Terminal} {us vs rest : List Terminal} {xs : List Tree} → s.entries ≡ es → s.brackets ≡ []
    → mem (kind s t) (k.Enum ∷ []) ≡ true → Derives parsed (rule r.Attrs) (after act.OpenSpecifier s t) us xs m vs → Begins parsed braced m vs rest
    → IsBegunPiece es y (t ∷ us) rest
begun_enum es y q b e d c =
    let i = attributes_leave b d in
    let u = ap (λ z. z.entries) i ∙ q in
    let v = ap (λ z. z.brackets) i ∙ b in
    enum_form es y b e d (λ reading fs. begun_enumerated es (begun_braces es u v c) (begun reading) fs (braced_begun es u v c (begun reading) fs))
