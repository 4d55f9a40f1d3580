-- The scan for braces that no enumeration takes, over each piece of a list of type specifiers and qualifiers.
use Rattle.std.proofs.Common.{◌≡◌, ℕ, suc, Bool, true, false, ◌||◌, List, [], ◌∷◌, refl, sym, ap, subst, ◌∙◌}
use Rattle.std.specs.Prelude.{◌==◌}
use Rattle.model_grammar.specs.declared.grammar.Rule.TheVariants as r
use Rattle.model_grammar.specs.declared.grammar.Act.TheVariants as act
use Rattle.model_grammar.specs.declared.grammar.Terminal.{Terminal}
use Rattle.model_grammar.specs.declared.grammar.Within.{Within}
use Rattle.model_grammar.specs.declared.grammar.Within.TheVariants.{Between, BehindColon, BehindHead, BehindTag, BehindTypeof, Group}
use Rattle.model_grammar.specs.declared.grammar.Tree.{Tree}
use Rattle.model_grammar.specs.GrammarForm.{rule, many, mem}
use Rattle.model_grammar.specs.Terminals as k
use Rattle.model_grammar.specs.NameScopes.{Scopes, kind, after, is_type, bracket_kind}
use Rattle.model_grammar.specs.Derivation.{Derives}
use Rattle.grammar_laws.specs.apparatus.DecidedTable.{within, apart}
use Rattle.grammar_laws.specs.ParserTable.{table}
use Rattle.grammar_laws.specs.ParserSets.{tables, firsts}
use Rattle.grammar_laws.specs.ParserTests.{parsed, past_brackets, lacks_enumeration, behind_word, type_words}
use Rattle.grammar_laws.proofs.kinds.KindSets.{one_mem, apart_mem, within_mem}
use Rattle.grammar_laws.proofs.kinds.TokenKinds.{Plain, raw, decide}
use Rattle.grammar_laws.proofs.scans.PastBrackets.{grouped}
use Rattle.grammar_laws.proofs.scans.PastSpecifiers.{listed, heads, typeofs, qualifiers, qualifier_first, types_apart, struct_apart, enum_apart, typeof_apart, none, none_head, either_of, pair_true, named, none_typedef_name, tag_name, plain_place, brace_kind, colon_kind, parenthesis_kind, members, members_even, members_level, enumerators, enumerators_even, enumerators_level, operand, operand_even, operand_level, braced, as_closing, close_brace, close_parenthesis, attribute_grouped, empty_attribute, over_attributes_one}
use Rattle.grammar_laws.proofs.enumerations.EnumeratorNames.{member_unnamed}
use Rattle.grammar_laws.proofs.scans.ScansReadNames.{name_alike}
use Rattle.grammar_laws.proofs.enumerations.BracesScanPastBrackets.{over_group, over_attribute}
use Rattle.grammar_laws.proofs.enumerations.BracesScanStep.{between_word, colon_word, colon_qualifier, between_name, colon_name, at_typeof, at_attribute, struct_tag, enum_tag, head_colon, tag_colon, head_brace, tag_brace, IsTaking}

-- a set of words with which a type specifier or a qualifier begins
pub record IsWords (F : List ℕ) : Type 0 where
  pub plain : Plain F
  pub brace : mem k.OpenBrace F ≡ false
  pub colon : mem k.Colon F ≡ false
  pub specifiers : within tables F (firsts r.Squals) ≡ true

between_over : (F : List ℕ) → IsWords F → (w : ℕ) (typed : Bool) (base s : Scopes) (t : Terminal) (ts : List Terminal) → mem (kind s t) F ≡ true
    → lacks_enumeration w (Between typed) base (t ∷ ts) ≡ lacks_enumeration w (behind_word typed t.kind) base ts
between_over F f w typed base s t ts e =
    let m = raw F f.plain s t e in
    between_word w typed base t ts (none F t.kind k.Name m f.plain.0) (none F t.kind k.OpenBrace m f.brace) (none F t.kind k.Colon m f.colon)
    (within_mem tables t.kind F (firsts r.Squals) f.specifiers m)

colon_over : (F : List ℕ) → IsWords F → apart tables F (firsts r.Qual) ≡ true → (w : ℕ) (base s : Scopes) (t : Terminal) (ts : List Terminal)
    → mem (kind s t) F ≡ true → lacks_enumeration w BehindColon base (t ∷ ts) ≡ lacks_enumeration w (behind_word true t.kind) base ts
colon_over F f a w base s t ts e =
    let m = raw F f.plain s t e in
    colon_word w base t ts (none F t.kind k.Name m f.plain.0) (none F t.kind k.OpenBrace m f.brace) (none F t.kind k.Colon m f.colon)
    (within_mem tables t.kind F (firsts r.Squals) f.specifiers m) (decide (mem t.kind (firsts r.Qual)) (λ q. apart_mem tables t.kind F (firsts r.Qual) a m q))

by_word : (F : List ℕ) → IsWords F → apart tables F (firsts r.Qual) ≡ true → (w : ℕ) (c typed : Bool) (base s : Scopes) (t : Terminal) (ts : List Terminal)
    → mem (kind s t) F ≡ true → lacks_enumeration w (listed c typed) base (t ∷ ts) ≡ lacks_enumeration w (behind_word (c || typed) t.kind) base ts
by_word F f a w false typed base s t ts e = between_over F f w typed base s t ts e
by_word F f a w true true base s t ts e = between_over F f w true base s t ts e
by_word F f a w true false base s t ts e = colon_over F f a w base s t ts e

type_sets : IsWords type_words
unfolding mem within firsts
type_sets = record { plain = (refl, refl, refl, refl, refl); brace = refl; colon = refl; specifiers = refl }

qualifier_sets : IsWords qualifiers
unfolding mem within firsts
qualifier_sets = record { plain = (refl, refl, refl, refl, refl); brace = refl; colon = refl; specifiers = refl }

struct_sets : IsWords (k.Struct ∷ [])
unfolding mem within firsts
struct_sets = record { plain = (refl, refl, refl, refl, refl); brace = refl; colon = refl; specifiers = refl }

enum_sets : IsWords (k.Enum ∷ [])
unfolding mem within firsts
enum_sets = record { plain = (refl, refl, refl, refl, refl); brace = refl; colon = refl; specifiers = refl }

typeof_sets : IsWords typeofs
unfolding mem within firsts
typeof_sets = record { plain = (refl, refl, refl, refl, refl); brace = refl; colon = refl; specifiers = refl }

-- a word that is a type
pub lacks_type : (w : ℕ) (c typed : Bool) (base s : Scopes) (t : Terminal) (ts : List Terminal) → mem (kind s t) type_words ≡ true
    → lacks_enumeration w (listed c typed) base (t ∷ ts) ≡ lacks_enumeration w (Between true) base ts
unfolding apart mem
lacks_type w c typed base s t ts e =
    let m = raw type_words type_sets.plain s t e in
    let x = none_head t.kind (decide (mem t.kind heads) (λ z. apart_mem tables t.kind type_words heads refl m z)) in
    let y = either_of (t.kind == k.Typeof) (t.kind == k.TypeofUnqual) (decide (mem t.kind typeofs) (λ z. apart_mem tables t.kind type_words typeofs refl m z)) in
    let p : behind_word (c || typed) t.kind ≡ Between true = rw (x.0, x.1, y, m) (ap Between (or_true (c || typed))) in
    by_word type_words type_sets types_apart w c typed base s t ts e ∙ ap (λ z. lacks_enumeration w z base ts) p
  where
    or_true : (b : Bool) → (b || true) ≡ true
    or_true true = refl
    or_true false = refl

-- a qualifier
pub lacks_qualifier : (w : ℕ) (c typed : Bool) (base s : Scopes) (t : Terminal) (ts : List Terminal) → mem (kind s t) qualifiers ≡ true
    → lacks_enumeration w (listed c typed) base (t ∷ ts) ≡ lacks_enumeration w (listed c typed) base ts
unfolding apart mem
lacks_qualifier w false typed base s t ts e =
    between_over qualifiers qualifier_sets w typed base s t ts e ∙ ap (λ z. lacks_enumeration w z base ts)
    (plain_place qualifiers typed t.kind refl refl refl (raw qualifiers qualifier_sets.plain s t e))
lacks_qualifier w true true base s t ts e =
    between_over qualifiers qualifier_sets w true base s t ts e ∙ ap (λ z. lacks_enumeration w z base ts)
    (plain_place qualifiers true t.kind refl refl refl (raw qualifiers qualifier_sets.plain s t e))
lacks_qualifier w true false base s t ts e =
    let m = raw qualifiers qualifier_sets.plain s t e in
    colon_qualifier w base t ts (none qualifiers t.kind k.OpenBrace m qualifier_sets.brace) (none qualifiers t.kind k.Colon m qualifier_sets.colon)
    (within_mem tables t.kind qualifiers (firsts r.Qual) qualifier_first m)

-- a typedef name
step_name : (w : ℕ) (c typed : Bool) (base : Scopes) (t : Terminal) (ts : List Terminal) → (t.kind == k.Name) ≡ true → is_type base.entries t.name ≡ true
    → typed ≡ false → lacks_enumeration w (listed c typed) base (t ∷ ts) ≡ lacks_enumeration w (Between true) base ts
step_name w c true base t ts n i q = absurd (cc)
step_name w true false base t ts n i q = colon_name w base t ts n i
step_name w false false base t ts n i q = between_name w base t ts n i

pub lacks_name : (w : ℕ) (c : Bool) (base s : Scopes) (t : Terminal) (ts : List Terminal) → s.entries ≡ base.entries
    → mem (kind s t) (k.TypedefName ∷ []) ≡ true → lacks_enumeration w (listed c s.reading.typed) base (t ∷ ts) ≡ lacks_enumeration w (Between true) base ts
lacks_name w c base s t ts b e =
    let n = named (t.kind == k.Name) (is_type s.entries t.name) s.reading.typed (bracket_kind s.brackets t.kind) (none_typedef_name s.brackets t.kind) e in
    step_name w c s.reading.typed base t ts n.0 (subst (λ z. is_type z t.name ≡ true) b n.1) n.2

-- `struct`, `enum` and `typeof`
pub lacks_struct : (w : ℕ) (c typed : Bool) (base s : Scopes) (t : Terminal) (ts : List Terminal) → mem (kind s t) (k.Struct ∷ []) ≡ true
    → lacks_enumeration w (listed c typed) base (t ∷ ts) ≡ lacks_enumeration w (BehindHead true) base ts
lacks_struct w c typed base s t ts e =
    let m : t.kind ≡ k.Struct = one_mem t.kind k.Struct (raw (k.Struct ∷ []) struct_sets.plain s t e) in
    let p : behind_word (c || typed) t.kind ≡ BehindHead true = rw m refl in
    by_word (k.Struct ∷ []) struct_sets struct_apart w c typed base s t ts e ∙ ap (λ z. lacks_enumeration w z base ts) p

pub lacks_enum : (w : ℕ) (c typed : Bool) (base s : Scopes) (t : Terminal) (ts : List Terminal) → mem (kind s t) (k.Enum ∷ []) ≡ true
    → lacks_enumeration w (listed c typed) base (t ∷ ts) ≡ lacks_enumeration w (BehindHead false) base ts
lacks_enum w c typed base s t ts e =
    let m : t.kind ≡ k.Enum = one_mem t.kind k.Enum (raw (k.Enum ∷ []) enum_sets.plain s t e) in
    let p : behind_word (c || typed) t.kind ≡ BehindHead false = rw m refl in
    by_word (k.Enum ∷ []) enum_sets enum_apart w c typed base s t ts e ∙ ap (λ z. lacks_enumeration w z base ts) p

pub lacks_typeof : (w : ℕ) (c typed : Bool) (base s : Scopes) (t : Terminal) (ts : List Terminal) → mem (kind s t) typeofs ≡ true
    → lacks_enumeration w (listed c typed) base (t ∷ ts) ≡ lacks_enumeration w BehindTypeof base ts
unfolding mem apart
lacks_typeof w c typed base s t ts e =
    let m = raw typeofs typeof_sets.plain s t e in
    let x = none_head t.kind (decide (mem t.kind heads) (λ z. apart_mem tables t.kind typeofs heads refl m z)) in
    let y = pair_true t.kind k.Typeof k.TypeofUnqual m in
    let p : behind_word (c || typed) t.kind ≡ BehindTypeof = rw (x.0, x.1, y) refl in
    by_word typeofs typeof_sets typeof_apart w c typed base s t ts e ∙ ap (λ z. lacks_enumeration w z base ts) p

-- attributes behind `struct` and `enum`
lacks_attributes : (w : ℕ) (i : Bool) (base : Scopes) {s mid : Scopes} {ts later : List Terminal} {xs : List Tree} → s.brackets ≡ []
    → Derives parsed (many (rule r.Attr)) s ts xs mid later → lacks_enumeration w (BehindHead i) base ts ≡ lacks_enumeration w (BehindHead i) base later
lacks_attributes w i base b Derives.stop = refl
lacks_attributes w i base {s = s} {ts = []} b (Derives.turn d e _) = absurd (empty_attribute d)
lacks_attributes w i base {s = s} {ts = t ∷ us} b (Derives.turn d e _) =
    let g = attribute_grouped b d in
    at_attribute w i base t us g.0 ∙ (over_attribute us w 0 i base ∙ (ap (λ z. lacks_enumeration w (BehindHead i) base z) g.1 ∙ lacks_attributes w i base (over_attributes_one b d) e))

pub lacks_over_attributes : (w : ℕ) (i : Bool) (base : Scopes) {s mid : Scopes} {ts later : List Terminal} {xs : List Tree} → s.brackets ≡ []
    → Derives parsed (rule r.Attrs) s ts xs mid later → lacks_enumeration w (BehindHead i) base ts ≡ lacks_enumeration w (BehindHead i) base later
unfolding table
lacks_over_attributes w i base b (Derives.a_rule d) = lacks_attributes w i base b d

-- tags
pub lacks_struct_tag : (w : ℕ) (base s : Scopes) (t : Terminal) (ts : List Terminal) → mem (kind s t) (k.Name ∷ k.TypedefName ∷ []) ≡ true
    → lacks_enumeration w (BehindHead true) base (t ∷ ts) ≡ lacks_enumeration w BehindTag base ts
lacks_struct_tag w base s t ts e = struct_tag w base t ts (tag_name s t e)

pub lacks_enum_tag : (w : ℕ) (base s : Scopes) (t : Terminal) (ts : List Terminal) → mem (kind s t) (k.Name ∷ k.TypedefName ∷ []) ≡ true
    → lacks_enumeration w (BehindHead false) base (t ∷ ts) ≡ lacks_enumeration w (Between true) base ts
lacks_enum_tag w base s t ts e = enum_tag w base t ts (tag_name s t e)

-- the `:` of an enumeration without a tag, which waits for braces, and of one with a tag
pub lacks_head_colon : (w : ℕ) (base s : Scopes) (t : Terminal) (ts : List Terminal) → mem (kind s t) (k.Colon ∷ []) ≡ true
    → lacks_enumeration w (BehindHead false) base (t ∷ ts) ≡ lacks_enumeration (suc w) BehindColon base ts
lacks_head_colon w base s t ts e = head_colon w base t ts (colon_kind s t e)

pub lacks_tag_colon : (w : ℕ) (base s : Scopes) (t : Terminal) (ts : List Terminal) → mem (kind s t) (k.Colon ∷ []) ≡ true
    → lacks_enumeration w (Between true) base (t ∷ ts) ≡ lacks_enumeration w BehindColon base ts
lacks_tag_colon w base s t ts e = tag_colon w base t ts (colon_kind s t e)

-- what is in brackets
inside : (w : ℕ) (base : Scopes) (us vs : List Terminal) → past_brackets 1 us ≡ vs → lacks_enumeration w (Group 1) base us ≡ lacks_enumeration w (Between true) base vs
inside w base us vs q = over_group us w 0 base ∙ ap (λ z. lacks_enumeration w (Between true) base z) q

pub lacks_over_typeof : (w : ℕ) (c typed : Bool) (base : Scopes) {s new : Scopes} {ts rest : List Terminal} {xs : List Tree} → s.brackets ≡ []
    → Derives parsed (rule r.Typeof) s ts xs new rest → lacks_enumeration w (listed c typed) base ts ≡ lacks_enumeration w (Between true) base rest
unfolding table
lacks_over_typeof w c typed base {s = s} b
    (Derives.a_rule (Derives.both (Derives.a_word {t = t} {ts = us} e) (Derives.both (Derives.a_word {t = o} {ts = ws} eo) (Derives.both {mid = m3} d (Derives.a_word {t = v} ec) _) _) _)) =
    lacks_typeof w c typed base s t us e ∙ (at_typeof w base o ws (parenthesis_kind (after act.OpenSpecifier s t) o eo) ∙
    inside w base ws _ (grouped operand (after act.Enclose (after act.OpenSpecifier s t) o) m3 v operand_even operand_level b d (as_closing k.CloseParenthesis close_parenthesis m3 v ec)))

-- members in braces, behind `struct` or behind the tag
pub lacks_over_members : (w : ℕ) (i : Bool) (base : Scopes) {s new : Scopes} {ts rest : List Terminal} {xs : List Tree} → s.brackets ≡ []
    → Derives parsed (rule r.Members) s ts xs new rest → lacks_enumeration w (BehindHead i) base ts ≡ lacks_enumeration w (Between true) base rest
unfolding table
lacks_over_members w i base {s = s} c (Derives.a_rule (Derives.both (Derives.a_word {t = o} {ts = ws} eo) (Derives.both m1 (Derives.both {mid = m3} m2 (Derives.a_word {t = v} ec) _) _) _)) =
    head_brace w i base o ws (brace_kind s o eo) ∙ inside w base ws _
    (grouped members (after act.Enclose s o) m3 v members_even members_level c (Derives.both m1 m2 refl) (as_closing k.CloseBrace close_brace m3 v ec))

pub lacks_over_tagged_members : (w : ℕ) (base : Scopes) {s new : Scopes} {ts rest : List Terminal} {xs : List Tree} → s.entries ≡ base.entries → s.brackets ≡ []
    → Derives parsed (rule r.Members) s ts xs new rest → lacks_enumeration w BehindTag base ts ≡ lacks_enumeration w (Between true) base rest
unfolding table
lacks_over_tagged_members w base {s = s} b c (Derives.a_rule (Derives.both (Derives.a_word {t = o} {ts = ws} eo) (Derives.both m1 (Derives.both {mid = m3} m2 (Derives.a_word {t = v} ec) _) _) _)) =
    tag_brace w base o ws (brace_kind s o eo) (sym (name_alike ws base (after act.Enclose s o) b) ∙ member_unnamed m1) ∙ inside w base ws _
    (grouped members (after act.Enclose s o) m3 v members_even members_level c (Derives.both m1 m2 refl) (as_closing k.CloseBrace close_brace m3 v ec))

-- enumerators in braces: behind `enum`, and where an enumeration with a tag, or with a type, takes them
pub lacks_over_own : (w : ℕ) (base : Scopes) {s new : Scopes} {ts rest : List Terminal} {xs : List Tree} → s.brackets ≡ []
    → Derives parsed braced s ts xs new rest → lacks_enumeration w (BehindHead false) base ts ≡ lacks_enumeration w (Between true) base rest
lacks_over_own w base {s = s} c (Derives.both (Derives.a_word {t = o} {ts = ws} eo) (Derives.both en (Derives.both l (Derives.both {mid = m} z (Derives.a_word {t = v} ec) _) _) _) _) =
    head_brace w false base o ws (brace_kind s o eo) ∙ inside w base ws _
    (grouped enumerators (after act.Enclose s o) m v enumerators_even enumerators_level c (Derives.both en (Derives.both l z refl) refl) (as_closing k.CloseBrace close_brace m v ec))

pub lacks_over_braces : (w : ℕ) (place : Within) (base : Scopes) {s new : Scopes} {ts rest : List Terminal} {xs : List Tree} → IsTaking place base
    → s.brackets ≡ [] → Derives parsed braced s ts xs new rest → lacks_enumeration (suc w) place base ts ≡ lacks_enumeration w (Between true) base rest
lacks_over_braces w place base {s = s} taking c (Derives.both (Derives.a_word {t = o} {ts = ws} eo) (Derives.both en (Derives.both l (Derives.both {mid = m} z (Derives.a_word {t = v} ec) _) _) _) _) =
    taking.taken w o ws (brace_kind s o eo) ∙ inside w base ws _
    (grouped enumerators (after act.Enclose s o) m v enumerators_even enumerators_level c (Derives.both en (Derives.both l z refl) refl) (as_closing k.CloseBrace close_brace m v ec))

pub lacking_braces : (place : Within) (base : Scopes) {s new : Scopes} {ts rest : List Terminal} {xs : List Tree} → IsTaking place base
    → Derives parsed braced s ts xs new rest → lacks_enumeration 0 place base ts ≡ true
lacking_braces place base {s = s} k (Derives.both (Derives.a_word {t = o} {ts = ws} eo) d _) = k.lacking o ws (brace_kind s o eo)
