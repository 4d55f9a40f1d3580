-- What the parser derives of a list of specifiers at one place is a piece of it wherever it stands.
use Rattle.std.proofs.Common.{◌≡◌, ℕ, Bool, true, false, not, ◌&&◌, ◌||◌, List, [], ◌∷◌, ◌++◌, length, take, refl, sym, ap, subst, ◌∙◌}
use Rattle.std.specs.Prelude.{◌==◌}
use Rattle.std.proofs.lemmas.Bool.{eqb-true}
use Rattle.model_grammar.specs.declared.grammar.Rule.TheVariants as r
use Rattle.model_grammar.specs.declared.grammar.Act.TheVariants as act
use Rattle.model_grammar.specs.declared.grammar.Terminal.{Terminal}
use Rattle.model_grammar.specs.declared.grammar.Entry.{Entry}
use Rattle.model_grammar.specs.declared.grammar.Reading.{Reading}
use Rattle.model_grammar.specs.declared.grammar.Frame.{Frame}
use Rattle.model_grammar.specs.declared.grammar.Tree.{Tree}
use Rattle.model_grammar.specs.GrammarForm.{Form, word, rule, ◌then◌, ◌or◌, mem}
use Rattle.model_grammar.specs.Grammar.{type_kinds}
use Rattle.model_grammar.specs.Terminals as k
use Rattle.model_grammar.specs.NameScopes.{Scopes, kind, after, fresh, specified, is_type, bracket_kind}
use Rattle.model_grammar.specs.Derivation.{Derives}
use Rattle.grammar_laws.specs.apparatus.DecidedTable.{within}
use Rattle.grammar_laws.specs.ParserTable.{table}
use Rattle.grammar_laws.specs.ParserSets.{tables}
use Rattle.model_grammar.specs.SyntaxTree.{sees_type}
use Rattle.grammar_laws.specs.ParserTests.{parsed, sees_name, sees_members, has_enumerators, type_words}
use Rattle.grammar_laws.proofs.kinds.KindSets.{within_mem}
use Rattle.grammar_laws.proofs.kinds.TokenKinds.{Plain, is_it}
use Rattle.grammar_laws.proofs.derivations.ClearBrackets.{closing, at_closing}
use Rattle.grammar_laws.proofs.derivations.KeptScopes.{opens, leaves, declares, is_open, is_grown, nests, same, IsKept, at_start, taken, nil}
use Rattle.grammar_laws.proofs.derivations.KeptScopes.{kept as scopes_kept}
use Rattle.grammar_laws.proofs.tests_lose_nothing.LosesNothing.{IsDerived}
use Rattle.grammar_laws.proofs.scans.PastSpecifiers.{listed, operand, members, enumerators, typeofs, qualifiers, brace_kind, tag_name, colon_kind, named, none_typedef_name, as_closing}
use Rattle.grammar_laws.proofs.scans.ScansReadNames.{framed, name_alike}
use Rattle.grammar_laws.proofs.derivations.IndependentOfFrames.{reframed}
use Rattle.grammar_laws.proofs.derivations.AttributesInAnyScopes.{any_scopes, attributes_at}
use Rattle.grammar_laws.proofs.enumerations.EnumeratorNames.{enumerator_named, member_unnamed}
use Rattle.grammar_laws.proofs.enumerations.BracesScanStep.{between_takes, colon_takes, IsTaking}
use Rattle.grammar_laws.proofs.enumerations.BracesScanPastSpecifiers.{lacks_type, lacks_name, lacks_qualifier, lacks_over_typeof, lacks_struct, lacks_enum, lacks_over_attributes, lacks_struct_tag, lacks_enum_tag, lacks_head_colon, lacks_over_members, lacks_over_tagged_members, lacks_over_own, lacks_over_braces, lacking_braces}
use Rattle.grammar_laws.proofs.specifier_lists.OpenLists.{tag_word}
use Rattle.grammar_laws.proofs.scans.PastAttributes.{over_attributes}
use Rattle.grammar_laws.proofs.specifier_lists.ListInPieces.{element, tag, membered, enumerated, braced, at, here, frame_of, begun, IsPiece, IsHead, IsTag, IsOpening, IsStructTag, IsGroup}

-- a token of the same kind wherever it stands, which is no identifier
pub moved_word : (F : List ℕ) → (same (mem k.Name F) (mem k.TypedefName F) && same (mem k.TypedefName F) (mem k.DeclaredName F)) ≡ true
    → (es : List Entry) (s : Scopes) (t : Terminal) (reading : Reading) (fs : List Frame) → s.brackets ≡ [] → mem (kind s t) F ≡ true
    → mem (kind (at es reading fs) t) F ≡ true
moved_word F v es s t reading fs b e = subst (λ z. mem (kind (record { entries = es; reading = reading; frames = fs; brackets = z }) t) F ≡ true) b (any_scopes F s (at es reading fs) t v e)

-- what comes there is a type specifier or a qualifier
pub seen : (F : List ℕ) → (same (mem k.Name F) (mem k.TypedefName F) && same (mem k.TypedefName F) (mem k.DeclaredName F)) ≡ true
    → within tables F type_kinds ≡ true → (es : List Entry) (y : Bool) (s : Scopes) (t : Terminal) (ts : List Terminal) → s.brackets ≡ []
    → mem (kind s t) F ≡ true → sees_type (here es y) (t ∷ ts) ≡ true
seen F v w es y s t ts b e = within_mem tables (kind (here es y) t) F type_kinds w (moved_word F v es s t (record fresh { typed = y }) [] b e)

-- a word that is a type
pub type_piece : (es : List Entry) (y : Bool) (s : Scopes) (t : Terminal) (ts : List Terminal) → s.brackets ≡ [] → mem (kind s t) type_words ≡ true → IsPiece es true y (t ∷ ts) ts
unfolding mem same within table
type_piece es y s t ts b e = record {
  derived = λ reading fs p. record { trees = _; is = Derives.left (Derives.a_rule (Derives.left (Derives.a_word (moved_word type_words refl es s t reading fs b e)))) };
  lacking = λ w. lacks_type w true y (here es false) s t ts e;
  type = seen type_words refl refl es y s t ts b e;
}

-- a typedef name
pub name_kind : (es : List Entry) (t : Terminal) (reading : Reading) (fs : List Frame) → (t.kind == k.Name) ≡ true → is_type es t.name ≡ true
    → reading.typed ≡ false → mem (kind (at es reading fs) t) (k.TypedefName ∷ []) ≡ true
unfolding mem
name_kind es t reading fs n i p = rw (n, i, p) refl

pub name_piece : (es : List Entry) (s : Scopes) (t : Terminal) (ts : List Terminal) → s.entries ≡ es → mem (kind s t) (k.TypedefName ∷ []) ≡ true → IsPiece es true false (t ∷ ts) ts
unfolding mem table
name_piece es s t ts q e =
    let n = named (t.kind == k.Name) (is_type s.entries t.name) s.reading.typed (bracket_kind s.brackets t.kind) (none_typedef_name s.brackets t.kind) e in
    let i : is_type es t.name ≡ true = subst (λ z. is_type z t.name ≡ true) q n.1 in
    record {
      derived =
          λ reading fs p. record { trees = _; is = Derives.left (Derives.a_rule (Derives.right (Derives.right (Derives.right (Derives.left (Derives.a_word (name_kind es t reading fs n.0 i p))))))) };
      lacking = λ w. lacks_name w true (here es false) (here es false) t ts refl (name_kind es t (record fresh { typed = false }) [] n.0 i refl);
      type = rw (n.0, i) refl;
    }

-- a qualifier
pub qualifier_piece : (es : List Entry) (y : Bool) (s : Scopes) (t : Terminal) (ts : List Terminal) → s.brackets ≡ [] → mem (kind s t) qualifiers ≡ true → IsPiece es false y (t ∷ ts) ts
unfolding mem same within table
qualifier_piece es y s t ts b e = record {
  derived = λ reading fs p. record { trees = _; is = Derives.right (Derives.a_rule (Derives.a_word (moved_word qualifiers refl es s t reading fs b e))) };
  lacking = λ w. lacks_qualifier w true y (here es false) s t ts e;
  type = seen qualifiers refl refl es y s t ts b e;
}

pub qualified_piece : (es : List Entry) (y : Bool) {s new : Scopes} {ts rest : List Terminal} {xs : List Tree} → s.brackets ≡ []
    → Derives parsed (rule r.Qual) s ts xs new rest → IsPiece es false y ts rest
unfolding table
qualified_piece es y {s = s} b (Derives.a_rule (Derives.a_word {t = t} {ts = us} e)) = qualifier_piece es y s t us b e

-- what stands in brackets, wherever they stand
pub record IsInside (f : Form) : Type 0 where
  pub nested : nests f false false ≡ true
  pub shut : is_open f false ≡ false
  pub ungrown : is_grown f false ≡ false

inside_entries : {f : Form} → IsInside f → {s mid : Scopes} {ts rest : List Terminal} {xs : List Tree} → Derives parsed f s ts xs mid rest → mid.entries ≡ s.entries
inside_entries {f = f} i {s = s} {mid = mid} d =
    let e = subst (λ z. IsKept (is_open f false) z s mid) i.ungrown (scopes_kept d false false s i.nested (at_start s)) in
    e.entries ∙ (ap (λ z. s.entries ++ z) (e.ungrown refl) ∙ nil s.entries)

at_inside : (mid : Scopes) (es : List Entry) (fs : List Frame) → mid.entries ≡ es → mid.brackets ≡ [] → framed fs mid ≡ at es mid.reading fs
at_inside mid es fs p q = rw (p, q) refl

closed_kind : (j : ℕ) (mid : Scopes) (v : Terminal) → within tables (j ∷ []) closing ≡ true → mem (kind mid v) (j ∷ []) ≡ true → mid.brackets ≡ []
closed_kind j mid v w e = at_closing mid v (as_closing j w mid v e)

-- and the bracket behind it
pub record IsEnclosed (f : Form) (j : ℕ) (es : List Entry) (ts later : List Terminal) : Type 0 where
  pub derived : (fs : List Frame) → (new : Reading) × IsDerived (f then word (j ∷ []) act.TypeSpecifier) (at es fresh fs) ts (at es new fs) later

pub enclosed : (f : Form) (j : ℕ) → IsInside f → within tables (j ∷ []) closing ≡ true
    → (es : List Entry) {s mid : Scopes} {v : Terminal} {ts later : List Terminal} {xs : List Tree} → s ≡ at es fresh s.frames
    → Derives parsed f s ts xs mid (v ∷ later) → mem (kind mid v) (j ∷ []) ≡ true → IsEnclosed f j es ts later
enclosed f j i w es {s = s} {mid = mid} {v = v} {ts = ts} {later = later} {xs = xs} q d e =
    let p : mid.entries ≡ es = inside_entries i d ∙ ap (λ z. z.entries) q in
    let b = closed_kind j mid v w e in
    record { derived = λ fs. (specified mid.reading, by fs p b) }
  where
    by : (fs : List Frame) → mid.entries ≡ es → mid.brackets ≡ [] → IsDerived (f then word (j ∷ []) act.TypeSpecifier) (at es fresh fs) ts (at es (specified mid.reading) fs) later
    by fs p b =
        let d' : Derives parsed f (at es fresh fs) ts xs (framed fs mid) (v ∷ later) =
        subst (λ z. Derives parsed f (framed fs z) ts xs (framed fs mid) (v ∷ later)) q (reframed d i.nested i.shut fs) in
        record { trees = _; is = subst (λ z. Derives parsed (f then word (j ∷ []) act.TypeSpecifier) (at es fresh fs) ts (xs ++ (parsed.leaf v ∷ [])) z later) (ap {A = Scopes} (λ z. record z { reading = specified mid.reading }) (at_inside mid es fs p b)) (Derives.both d' (Derives.a_word e) refl) }

operand_inside : IsInside operand
unfolding nests is_open is_grown declares same
operand_inside = record { nested = refl; shut = refl; ungrown = refl }

members_inside : IsInside members
unfolding nests is_open is_grown declares same
members_inside = record { nested = refl; shut = refl; ungrown = refl }

enumerators_inside : IsInside enumerators
unfolding nests is_open is_grown declares same opens leaves
enumerators_inside = record { nested = refl; shut = refl; ungrown = refl }

pub at_fresh : (s : Scopes) (es : List Entry) → s.entries ≡ es → s.reading ≡ fresh → s.brackets ≡ [] → s ≡ at es fresh s.frames
at_fresh s es p q b = rw (p, q, b) refl

all_taken : (es : List Entry) → take (length es) es ≡ es
all_taken es = ap (λ z. take (length es) z) (sym (nil es)) ∙ taken es []

-- `typeof`
pub typeof_piece : (es : List Entry) (y : Bool) {s new : Scopes} {ts rest : List Terminal} {xs : List Tree} → s.entries ≡ es → s.brackets ≡ []
    → Derives parsed (rule r.Typeof) s ts xs new rest → IsPiece es true y ts rest
unfolding table mem same within
typeof_piece es y {s = s} q b
    (Derives.a_rule (Derives.both (Derives.a_word {t = t} {ts = us} e) (Derives.both (Derives.a_word {t = o} {ts = ws} eo) (Derives.both {mid = m3} d (Derives.a_word {t = v} {ts = vs} ec) p3) p2) p1)) =
    let i = enclosed operand k.CloseParenthesis operand_inside refl es (at_fresh (after act.Enclose (after act.OpenSpecifier s t) o) es q refl b) d ec in
    record { derived = by i; lacking = λ w. lacks_over_typeof w true y (here es false) b (Derives.a_rule (Derives.both (Derives.a_word e) (Derives.both (Derives.a_word eo) (Derives.both d (Derives.a_word ec) p3) p2) p1)); type = seen typeofs refl refl es y s t us b e }
  where
    by : IsEnclosed operand k.CloseParenthesis es ws vs → (reading : Reading) (fs : List Frame) → reading.typed ≡ y
        → IsDerived element (at es reading fs) (t ∷ o ∷ ws) (at es (specified reading) fs) vs
    by i reading fs p =
        let x = i.derived (frame_of es reading ∷ fs) in
        let d' : Derives parsed (table r.Typeof) (at es reading fs) (t ∷ o ∷ ws) (parsed.leaf t ∷ parsed.leaf o ∷ x.1.trees) (at es x.0 (frame_of es reading ∷ fs)) vs = Derives.both (Derives.a_word (moved_word typeofs refl es s t reading fs b e)) (Derives.both (Derives.a_word (moved_word (k.OpenParenthesis ∷ []) refl es (after act.OpenSpecifier s t) o (begun reading) (frame_of es reading ∷ fs) b eo)) x.1.is refl) refl in
        record { trees = _; is = Derives.left (Derives.a_rule (Derives.right (Derives.right (Derives.right (Derives.right (subst (λ z. Derives parsed (rule r.Typeof) (at es reading fs) (t ∷ o ∷ ws) (parsed.node r.Typeof (parsed.leaf t ∷ parsed.leaf o ∷ x.1.trees) ∷ []) (at z (specified reading) fs) vs) (all_taken es) (Derives.a_rule d'))))))) }

-- one form behind two others
regrouped : {f g h : Form} {s new : Scopes} {ts rest : List Terminal} {xs : List Tree} → Derives parsed ((f then g) then h) s ts xs new rest → IsDerived (f then g then h) s ts new rest
regrouped (Derives.both (Derives.both d e p) w q) = record { trees = _; is = Derives.both d (Derives.both e w refl) refl }

regrouped_three : {f g h x : Form} {s new : Scopes} {ts rest : List Terminal} {xs : List Tree} → Derives parsed ((f then g then h) then x) s ts xs new rest
    → IsDerived (f then g then h then x) s ts new rest
regrouped_three (Derives.both (Derives.both d (Derives.both e z o) p) w q) = record { trees = _; is = Derives.both d (Derives.both e (Derives.both z w refl) refl) refl }

-- members in braces
pub record IsMembers (es : List Entry) (ts later : List Terminal) : Type 0 where
  pub derived : (reading : Reading) (fs : List Frame) → (new : Reading) × IsDerived (rule r.Members) (at es reading fs) ts (at es new fs) later
  pub tested : (s : Scopes) → s.entries ≡ es → sees_members s ts ≡ true

pub or_not : (b c : Bool) → c ≡ false → (b || not c) ≡ true
or_not true c h = refl
or_not false true h = absurd (cc)
or_not false false h = refl

pub members_at : (es : List Entry) {s new : Scopes} {ts rest : List Terminal} {xs : List Tree} → s.entries ≡ es → s.brackets ≡ []
    → Derives parsed (rule r.Members) s ts xs new rest → IsMembers es ts rest
unfolding table mem same within
members_at es {s = s} q b (Derives.a_rule (Derives.both (Derives.a_word {t = o} {ts = ws} eo) (Derives.both m1 (Derives.both {mid = m3} m2 (Derives.a_word {t = v} {ts = vs} ec) p3) p2) p1)) =
    let i = enclosed members k.CloseBrace members_inside refl es (at_fresh (after act.Enclose s o) es q refl b) (Derives.both m1 m2 refl) ec in
    record { derived = by i; tested = λ z w. rw (brace_kind s o eo) (or_not (z.reading.waiting == 0) (sees_name z ws) (name_alike ws (after act.Enclose s o) z (w ∙ sym q) ∙ member_unnamed m1)) }
  where
    by : IsEnclosed members k.CloseBrace es ws vs → (reading : Reading) (fs : List Frame) → (new : Reading) × IsDerived (rule r.Members) (at es reading fs) (o ∷ ws) (at es new fs) vs
    by i reading fs =
        let x = i.derived fs in
        (x.0, record { trees = _; is = Derives.a_rule (Derives.both (Derives.a_word (moved_word (k.OpenBrace ∷ []) refl es s o reading fs b eo)) (regrouped x.1.is).is refl) })

-- enumerators in braces
group_derived : (es : List Entry) {s new : Scopes} {t : Terminal} {ts rest : List Terminal} {xs : List Tree} → s.entries ≡ es → s.brackets ≡ []
    → Derives parsed braced s (t ∷ ts) xs new rest → (reading : Reading) (fs : List Frame)
    → (end : Reading) × IsDerived braced (at es reading fs) (t ∷ ts) (at es end fs) rest
unfolding mem same within
group_derived es {s = s} {t = t} {ts = ts} {rest = rest} q b
    (Derives.both (Derives.a_word eo) (Derives.both en (Derives.both l (Derives.both {mid = m} z (Derives.a_word {t = v} ec) p4) p3) p2) p1) reading fs =
    let i = enclosed enumerators k.CloseBrace enumerators_inside refl es (at_fresh (after act.Enclose s t) es q refl b) (Derives.both en (Derives.both l z refl) refl) ec in
    let x = i.derived fs in
    (x.0, record { trees = _; is = Derives.both (Derives.a_word (moved_word (k.OpenBrace ∷ []) refl es s t reading fs b eo)) (regrouped_three x.1.is).is refl })

group_brace : {s new : Scopes} {t : Terminal} {ts rest : List Terminal} {xs : List Tree} → Derives parsed braced s (t ∷ ts) xs new rest → (t.kind == k.OpenBrace) ≡ true
group_brace {s = s} {t = t} (Derives.both (Derives.a_word eo) d p) = brace_kind s t eo

group_name : (es : List Entry) {s new : Scopes} {t : Terminal} {ts rest : List Terminal} {xs : List Tree} → s.entries ≡ es
    → Derives parsed braced s (t ∷ ts) xs new rest → sees_name (here es false) ts ≡ true
group_name es {s = s} {t = t} {ts = ts} q (Derives.both (Derives.a_word eo) (Derives.both en d p2) p1) = name_alike ts (after act.Enclose s t) (here es false) (sym q) ∙ enumerator_named en

pub takes_at : (y : Bool) (base : Scopes) → IsTaking (listed true y) base
takes_at true base = between_takes true base
takes_at false base = colon_takes base

pub group_at : (es : List Entry) {s new : Scopes} {t : Terminal} {ts rest : List Terminal} {xs : List Tree} → s.entries ≡ es → s.brackets ≡ []
    → Derives parsed braced s (t ∷ ts) xs new rest → IsGroup es t ts rest
group_at es q b d = record {
  derived = group_derived es q b d;
  brace = group_brace d;
  name = group_name es q d;
  none = λ y. lacking_braces (listed true y) (here es false) (takes_at y (here es false)) d;
  one = λ w y. lacks_over_braces w (listed true y) (here es false) (takes_at y (here es false)) b d;
}

-- the word of a specifier and the attributes behind it
head_at : (j : ℕ) → Plain (j ∷ []) → (es : List Entry) {s new : Scopes} {t : Terminal} {us later : List Terminal} {xs : List Tree} → s.brackets ≡ []
    → mem (kind s t) (j ∷ []) ≡ true → Derives parsed (rule r.Attrs) (after act.OpenSpecifier s t) us xs new later → IsHead es j (t ∷ us) later
head_at j p es {s = s} {t = t} b e d = record { first = t; others = _; tokens = refl; is = is_it j p s t e; attributes = λ o c. record { trees = _; is = attributes_at d b o c } }

pub enum_head : (es : List Entry) {s new : Scopes} {t : Terminal} {us later : List Terminal} {xs : List Tree} → s.brackets ≡ []
    → mem (kind s t) (k.Enum ∷ []) ≡ true → Derives parsed (rule r.Attrs) (after act.OpenSpecifier s t) us xs new later → IsHead es k.Enum (t ∷ us) later
unfolding mem
enum_head es b e d = head_at k.Enum (refl, refl, refl, refl, refl) es b e d

pub struct_head : (es : List Entry) {s new : Scopes} {t : Terminal} {us later : List Terminal} {xs : List Tree} → s.brackets ≡ []
    → mem (kind s t) (k.Struct ∷ []) ≡ true → Derives parsed (rule r.Attrs) (after act.OpenSpecifier s t) us xs new later → IsHead es k.Struct (t ∷ us) later
unfolding mem
struct_head es b e d = head_at k.Struct (refl, refl, refl, refl, refl) es b e d

-- and a tag or `:` behind them
pub tag_at : (es : List Entry) (y : Bool) {s m : Scopes} {t g : Terminal} {us later : List Terminal} {xs : List Tree} → s.brackets ≡ []
    → mem (kind s t) (k.Enum ∷ []) ≡ true → Derives parsed (rule r.Attrs) (after act.OpenSpecifier s t) us xs m (g ∷ later)
    → mem (kind m g) (k.Name ∷ k.TypedefName ∷ []) ≡ true → IsTag es y g (t ∷ us) later
tag_at es y {s = s} {m = m} {t = t} {g = g} {us = us} {later = later} b e d n = record {
  head = enum_head es b e d;
  named = tag_name m g n;
  lacking = λ w. lacks_enum w true y (here es false) s t us e ∙ (lacks_over_attributes w false (here es false) b d ∙ lacks_enum_tag w (here es false) m g later n);
}

pub opening_at : (es : List Entry) (y : Bool) {s m : Scopes} {t g : Terminal} {us later : List Terminal} {xs : List Tree} → s.brackets ≡ []
    → mem (kind s t) (k.Enum ∷ []) ≡ true → Derives parsed (rule r.Attrs) (after act.OpenSpecifier s t) us xs m (g ∷ later)
    → mem (kind m g) (k.Colon ∷ []) ≡ true → IsOpening es y g (t ∷ us) later
opening_at es y {s = s} {m = m} {t = t} {g = g} {us = us} {later = later} b e d c = record {
  head = enum_head es b e d;
  colon = colon_kind m g c;
  lacking = λ w. lacks_enum w true y (here es false) s t us e ∙ (lacks_over_attributes w false (here es false) b d ∙ lacks_head_colon w (here es false) m g later c);
}

pub struct_tag_at : (es : List Entry) (y : Bool) {s m : Scopes} {t g : Terminal} {us later : List Terminal} {xs : List Tree} → s.brackets ≡ []
    → mem (kind s t) (k.Struct ∷ []) ≡ true → Derives parsed (rule r.Attrs) (after act.OpenSpecifier s t) us xs m (g ∷ later)
    → mem (kind m g) (k.Name ∷ k.TypedefName ∷ []) ≡ true → IsStructTag es y g (t ∷ us) later
struct_tag_at es y {s = s} {m = m} {t = t} {g = g} {us = us} {later = later} b e d n = record {
  head = struct_head es b e d;
  named = tag_name m g n;
  lacking = λ w. lacks_struct w true y (here es false) s t us e ∙ (lacks_over_attributes w true (here es false) b d ∙ lacks_struct_tag w (here es false) m g later n);
}

abbrev pub membered_tag : Form
membered_tag = tag then membered

-- `struct` with members, and `enum` with enumerators, no tag and no type
shut_struct : (es : List Entry) (reading : Reading) (fs : List Frame) {new : Reading} {ts later : List Terminal} {xs : List Tree}
    → Derives parsed (table r.Struct) (at es reading fs) ts xs (at es new (frame_of es reading ∷ fs)) later
    → IsDerived element (at es reading fs) ts (at es (specified reading) fs) later
unfolding table
shut_struct es reading fs {ts = ts} {later = later} {xs = xs} d =
    record { trees = _; is = Derives.left (Derives.a_rule (Derives.right (Derives.left (subst (λ z. Derives parsed (rule r.Struct) (at es reading fs) ts (parsed.node r.Struct xs ∷ []) (at z (specified reading) fs) later) (all_taken es) (Derives.a_rule d))))) }

shut_enum : (es : List Entry) (reading : Reading) (fs : List Frame) {new : Reading} {ts later : List Terminal} {xs : List Tree}
    → Derives parsed (table r.Enum) (at es reading fs) ts xs (at es new (frame_of es reading ∷ fs)) later
    → IsDerived element (at es reading fs) ts (at es (specified reading) fs) later
unfolding table
shut_enum es reading fs {ts = ts} {later = later} {xs = xs} d =
    record { trees = _; is = Derives.left (Derives.a_rule (Derives.right (Derives.right (Derives.left (subst (λ z. Derives parsed (rule r.Enum) (at es reading fs) ts (parsed.node r.Enum xs ∷ []) (at z (specified reading) fs) later) (all_taken es) (Derives.a_rule d)))))) }

-- behind the word, in its frame
opened_at : (j : ℕ) (f : Form)
    → (same (mem k.Name (j ∷ [])) (mem k.TypedefName (j ∷ [])) && same (mem k.TypedefName (j ∷ [])) (mem k.DeclaredName (j ∷ []))) ≡ true
    → (es : List Entry) {s m : Scopes} {t : Terminal} {us vs later : List Terminal} {xs : List Tree} → s.brackets ≡ [] → mem (kind s t) (j ∷ []) ≡ true
    → Derives parsed (rule r.Attrs) (after act.OpenSpecifier s t) us xs m vs
    → (reading new : Reading) (fs : List Frame) → IsDerived f (at es (begun reading) (frame_of es reading ∷ fs)) vs (at es new (frame_of es reading ∷ fs)) later → IsDerived (word (j ∷ []) act.OpenSpecifier then rule r.Attrs then f) (at es reading fs) (t ∷ us) (at es new (frame_of es reading ∷ fs)) later
opened_at j f v es {s = s} {t = t} b e d reading new fs x =
    record { trees = _; is = Derives.both (Derives.a_word (moved_word (j ∷ []) v es s t reading fs b e)) (Derives.both (attributes_at d b (at es (begun reading) (frame_of es reading ∷ fs)) refl) x.is refl) refl }

pub attributes_leave : {s m : Scopes} {us vs : List Terminal} {xs : List Tree} → s.brackets ≡ [] → Derives parsed (rule r.Attrs) s us xs m vs → m ≡ s
attributes_leave b d = (over_attributes b d).state

pub struct_piece : (es : List Entry) (y : Bool) {s m new : Scopes} {t : Terminal} {us vs later : List Terminal} {xs ys : List Tree} → s.entries ≡ es
    → s.brackets ≡ [] → mem (kind s t) (k.Struct ∷ []) ≡ true → Derives parsed (rule r.Attrs) (after act.OpenSpecifier s t) us xs m vs
    → Derives parsed (rule r.Members) m vs ys new later → IsPiece es true y (t ∷ us) later
unfolding table mem same within
struct_piece es y {s = s} {t = t} {us = us} q b e d c =
    let i = attributes_leave b d in
    let p = ap (λ z. z.brackets) i ∙ b in
    let x = members_at es (ap (λ z. z.entries) i ∙ q) p c in
    record {
      derived =
          λ reading fs w. let z = x.derived (begun reading) (frame_of es reading ∷ fs) in shut_struct es reading fs (opened_at k.Struct (membered_tag or rule r.Members) refl es b e d reading z.0 fs (record { trees = _; is = Derives.right z.1.is })).is;
      lacking = λ w. lacks_struct w true y (here es false) s t us e ∙ (lacks_over_attributes w true (here es false) b d ∙ lacks_over_members w true (here es false) p c);
      type = seen (k.Struct ∷ []) refl refl es y s t us b e;
    }

tag_moves : (es : List Entry) (m : Scopes) (g : Terminal) (reading : Reading) (fs : List Frame) → m.brackets ≡ []
    → mem (kind m g) (k.Name ∷ k.TypedefName ∷ []) ≡ true → mem (kind (at es (begun reading) fs) g) (k.Name ∷ k.TypedefName ∷ []) ≡ true
tag_moves es m g reading fs b e = tag_word es (begun reading) fs g refl (tag_name m g e)

pub tagged_piece : (es : List Entry) (y : Bool) {s m o new : Scopes} {t g : Terminal} {us vs later : List Terminal} {xs ys : List Tree} → s.entries ≡ es
    → s.brackets ≡ [] → mem (kind s t) (k.Struct ∷ []) ≡ true → Derives parsed (rule r.Attrs) (after act.OpenSpecifier s t) us xs m (g ∷ vs)
    → mem (kind m g) (k.Name ∷ k.TypedefName ∷ []) ≡ true → o.entries ≡ es → o.brackets ≡ [] → Derives parsed (rule r.Members) o vs ys new later
    → IsPiece es true y (t ∷ us) later
unfolding table mem same within
tagged_piece es y {s = s} {m = m} {t = t} {g = g} {us = us} {vs = vs} q b e d n u v c =
    let p = ap (λ z. z.brackets) (attributes_leave b d) ∙ b in
    let x = members_at es u v c in
    record {
      derived = λ reading fs w.
          let F = frame_of es reading ∷ fs in
          let z = x.derived (specified (begun reading)) F in
          shut_struct es reading fs (opened_at k.Struct (membered_tag or rule r.Members) refl es b e d reading z.0 fs (record { trees = _; is = Derives.left (Derives.both (Derives.a_word (tag_moves es m g reading F p n)) (Derives.chosen (x.tested (at es (specified (begun reading)) F) refl) z.1.is) refl) })).is;
      lacking =
          λ w. lacks_struct w true y (here es false) s t us e ∙ (lacks_over_attributes w true (here es false) b d ∙ (lacks_struct_tag w (here es false) m g vs n ∙ lacks_over_tagged_members w (here es false) u v c));
      type = seen (k.Struct ∷ []) refl refl es y s t us b e;
    }

pub brace_tested : (s : Scopes) (t : Terminal) (ts : List Terminal) → (t.kind == k.OpenBrace) ≡ true → has_enumerators s (t ∷ ts) ≡ true
brace_tested s t ts h = let p : t.kind ≡ k.OpenBrace = eqb-true t.kind k.OpenBrace h in rw p refl

pub enum_piece : (es : List Entry) (y : Bool) {s m new : Scopes} {t o : Terminal} {us vs later : List Terminal} {xs ys : List Tree} → s.entries ≡ es
    → s.brackets ≡ [] → mem (kind s t) (k.Enum ∷ []) ≡ true → Derives parsed (rule r.Attrs) (after act.OpenSpecifier s t) us xs m (o ∷ vs)
    → Derives parsed braced m (o ∷ vs) ys new later → IsPiece es true y (t ∷ us) later
unfolding table mem same within
enum_piece es y {s = s} {t = t} {o = o} {us = us} {vs = vs} q b e d c =
    let i = attributes_leave b d in
    let p = ap (λ z. z.brackets) i ∙ b in
    let x = group_at es (ap (λ z. z.entries) i ∙ q) p c in
    record {
      derived = λ reading fs w.
          let F = frame_of es reading ∷ fs in
          let z = x.derived (begun reading) F in
          shut_enum es reading fs (opened_at k.Enum enumerated refl es b e d reading z.0 fs (record { trees = _; is = Derives.chosen (brace_tested (at es (begun reading) F) o vs x.brace) (Derives.both Derives.skip (Derives.both Derives.skip z.1.is refl) refl) })).is;
      lacking = λ w. lacks_enum w true y (here es false) s t us e ∙ (lacks_over_attributes w false (here es false) b d ∙ lacks_over_own w (here es false) p c);
      type = seen (k.Enum ∷ []) refl refl es y s t us b e;
    }
