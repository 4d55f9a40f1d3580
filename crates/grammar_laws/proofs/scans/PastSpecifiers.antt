-- The scan over specifiers passes over those that are derived, and ends before a declarator or `;`.
use Rattle.std.proofs.Common.{◌≡◌, ℕ, Bool, true, false, not, ◌||◌, List, [], ◌∷◌, refl, sym, ap, subst, ◌∙◌}
use Rattle.std.proofs.lemmas.Bool.{eqb-true}
use Rattle.std.specs.Prelude.{◌==◌, if◌then◌else◌}
use Rattle.model_grammar.specs.declared.grammar.Rule.{Rule}
use Rattle.model_grammar.specs.declared.grammar.Rule.TheVariants as r
use Rattle.model_grammar.specs.declared.grammar.Act.TheVariants as act
use Rattle.model_grammar.specs.declared.grammar.Test.TheVariants as test
use Rattle.model_grammar.specs.declared.grammar.Terminal.{Terminal}
use Rattle.model_grammar.specs.declared.grammar.Within.{Within}
use Rattle.model_grammar.specs.declared.grammar.Within.TheVariants.{Between, BehindColon, BehindHead, BehindTag, BehindTypeof, Attribute, Group}
use Rattle.model_grammar.specs.declared.grammar.Tree.{Tree}
use Rattle.model_grammar.specs.GrammarForm.{Form, word, rule, when, maybe, many, loop, ◌then◌, ◌or◌, mem}
use Rattle.model_grammar.specs.Grammar.{token, type_kinds}
use Rattle.model_grammar.specs.Terminals as k
use Rattle.model_grammar.specs.NameScopes.{Scopes, kind, after, close, is_type, is_closing, is_given, closes, bracket_kind}
use Rattle.model_grammar.specs.Derivation.{Derives}
use Rattle.grammar_laws.specs.apparatus.DecidedTable.{within, apart}
use Rattle.grammar_laws.specs.ParserWalk.{ahead}
use Rattle.grammar_laws.specs.ParserTable.{table}
use Rattle.grammar_laws.specs.ParserSets.{tables, firsts, hollow}
use Rattle.model_grammar.specs.SyntaxTree.{sees_type}
use Rattle.grammar_laws.specs.ParserTests.{parsed, past_brackets, past_specifiers, specifier_step, behind_word, is_type_word, type_words}
use Rattle.grammar_laws.proofs.kinds.KindSets.{one_mem, apart_mem, within_mem, clash}
use Rattle.grammar_laws.proofs.kinds.TokenKinds.{Plain, is_it, absent, raw, decide, unseen, unnamed}
use Rattle.grammar_laws.proofs.derivations.ClearBrackets.{closing, clear, holds, is_balanced, parsed_clear}
use Rattle.grammar_laws.proofs.derivations.BalancedForms.{even, level, fits, is_some, pred}
use Rattle.grammar_laws.proofs.scans.PastAttributes.{is_bracket}
use Rattle.grammar_laws.proofs.scans.PastAttributes.{over_attribute as attribute_over, over_many}
use Rattle.grammar_laws.proofs.tests_lose_nothing.LosesNothing.{begins_with}
use Rattle.grammar_laws.proofs.scans.PastBrackets.{over_group, over_attribute, grouped, or_false}
use Rattle.grammar_laws.proofs.derivations.KeptScopes.{same_entries, declares, leaves_last, specifier_typed}

-- the scopes have the names of those at the start of the scan
pub record IsSame (base s : Scopes) : Type 0 where
  pub entries : s.entries ≡ base.entries
  pub clear : s.brackets ≡ []

-- where the scan stands between two specifiers: in the type list of an enumeration, or not; behind a type specifier
abbrev pub listed : Bool → Bool → Within
listed true typed = if typed then Between true else BehindColon
listed false typed = Between typed

typed_place : (c : Bool) → Between true ≡ listed c true
typed_place true = refl
typed_place false = refl

-- what is left of the scan behind some specifiers
abbrev pub IsPast : Bool → Scopes → Scopes → Scopes → List Terminal → List Terminal → Type 0
IsPast c base s new ts rest = past_specifiers (listed c s.reading.typed) base ts ≡ past_specifiers (listed c new.reading.typed) base rest

-- behind a type specifier
typed_past : (c : Bool) (base new : Scopes) (rest : List Terminal) → new.reading.typed ≡ true → past_specifiers (Between true) base rest ≡ past_specifiers (listed c new.reading.typed) base rest
typed_past c base new rest h = ap (λ z. past_specifiers z base rest) (typed_place c) ∙ ap (λ z. past_specifiers (listed c z) base rest) (sym h)

-- a word among the specifiers
step_word : (typed : Bool) (base : Scopes) (t : Terminal) (ts : List Terminal) → (t.kind == k.Name) ≡ false → (t.kind == k.OpenBrace) ≡ false
    → (t.kind == k.Colon) ≡ false → mem t.kind (firsts r.Specs) ≡ true
    → past_specifiers (Between typed) base (t ∷ ts) ≡ past_specifiers (behind_word typed t.kind) base ts
unfolding past_specifiers specifier_step
step_word typed base t ts n b c h = rw (n, b, c, h) refl

step_colon : (base : Scopes) (t : Terminal) (ts : List Terminal) → (t.kind == k.Name) ≡ false → (t.kind == k.OpenBrace) ≡ false → (t.kind == k.Colon) ≡ false
    → mem t.kind (firsts r.Specs) ≡ true → mem t.kind (firsts r.Qual) ≡ false
    → past_specifiers BehindColon base (t ∷ ts) ≡ past_specifiers (behind_word true t.kind) base ts
unfolding past_specifiers specifier_step
step_colon base t ts n b c h q = rw (n, b, c, h, q) refl

step_qualifier : (base : Scopes) (t : Terminal) (ts : List Terminal) → mem t.kind (firsts r.Qual) ≡ true → past_specifiers BehindColon base (t ∷ ts) ≡ past_specifiers BehindColon base ts
unfolding past_specifiers specifier_step
step_qualifier base t ts q = rw q refl

-- a set of words of which each is a specifier
pub record IsWords (F : List ℕ) : Type 0 where
  pub plain : Plain F
  pub brace : mem k.OpenBrace F ≡ false
  pub colon : mem k.Colon F ≡ false
  pub specifiers : within tables F (firsts r.Specs) ≡ true

pub none : (F : List ℕ) (k j : ℕ) → mem k F ≡ true → mem j F ≡ false → (k == j) ≡ false
none F k j m n = decide (k == j) (λ e. let q : k ≡ j = eqb-true k j e in clash (mem j F) (subst (λ z. mem z F ≡ true) q m) n)

between_word : (F : List ℕ) → IsWords F → (typed : Bool) (base s : Scopes) (t : Terminal) (ts : List Terminal) → mem (kind s t) F ≡ true
    → past_specifiers (Between typed) base (t ∷ ts) ≡ past_specifiers (behind_word typed t.kind) base ts
between_word F f typed base s t ts e =
    let m = raw F f.plain s t e in
    step_word typed base t ts (none F t.kind k.Name m f.plain.0) (none F t.kind k.OpenBrace m f.brace) (none F t.kind k.Colon m f.colon) (within_mem tables t.kind F (firsts r.Specs) f.specifiers m)

colon_word : (F : List ℕ) → IsWords F → apart tables F (firsts r.Qual) ≡ true → (base s : Scopes) (t : Terminal) (ts : List Terminal) → mem (kind s t) F ≡ true
    → past_specifiers BehindColon base (t ∷ ts) ≡ past_specifiers (behind_word true t.kind) base ts
colon_word F f a base s t ts e =
    let m = raw F f.plain s t e in
    step_colon base t ts (none F t.kind k.Name m f.plain.0) (none F t.kind k.OpenBrace m f.brace) (none F t.kind k.Colon m f.colon)
    (within_mem tables t.kind F (firsts r.Specs) f.specifiers m) (decide (mem t.kind (firsts r.Qual)) (λ q. apart_mem tables t.kind F (firsts r.Qual) a m q))

-- wherever it stands
by_word : (F : List ℕ) → IsWords F → apart tables F (firsts r.Qual) ≡ true → (c typed : Bool) (base s : Scopes) (t : Terminal) (ts : List Terminal)
    → mem (kind s t) F ≡ true → past_specifiers (listed c typed) base (t ∷ ts) ≡ past_specifiers (behind_word (c || typed) t.kind) base ts
by_word F f a false typed base s t ts e = between_word F f typed base s t ts e
by_word F f a true true base s t ts e = between_word F f true base s t ts e
by_word F f a true false base s t ts e = colon_word F f a base s t ts e

abbrev pub heads : List ℕ
heads = k.Struct ∷ k.Enum ∷ []

abbrev pub typeofs : List ℕ
typeofs = k.Typeof ∷ k.TypeofUnqual ∷ []

pub either_of : (a b : Bool) → (a || (b || false)) ≡ false → (a || b) ≡ false
either_of true b h = h
either_of false true h = h
either_of false false h = h

either_is : (a b : Bool) → (a || (b || false)) ≡ true → (a || b) ≡ true
either_is true b h = refl
either_is false true h = refl
either_is false false h = h

pair_false : (n a b : ℕ) → mem n (a ∷ b ∷ []) ≡ false → (n == a || n == b) ≡ false
unfolding mem
pair_false n a b h = either_of (n == a) (n == b) h

pub pair_true : (n a b : ℕ) → mem n (a ∷ b ∷ []) ≡ true → (n == a || n == b) ≡ true
unfolding mem
pair_true n a b h = either_is (n == a) (n == b) h

or_left_false : (a b : Bool) → (a || b) ≡ false → a ≡ false
or_left_false true b h = h
or_left_false false b h = refl

or_right_false : (a b : Bool) → (a || b) ≡ false → b ≡ false
or_right_false true b h = absurd (cc)
or_right_false false b h = h

-- a word that is no type
pub none_head : (n : ℕ) → mem n heads ≡ false → ((n == k.Struct) ≡ false) × ((n == k.Enum) ≡ false)
none_head n h = let p = pair_false n k.Struct k.Enum h in (or_left_false _ _ p, or_right_false _ _ p)

pub plain_place : (F : List ℕ) (typed : Bool) (n : ℕ) → apart tables F heads ≡ true → apart tables F typeofs ≡ true → apart tables F type_words ≡ true
    → mem n F ≡ true → behind_word typed n ≡ Between typed
plain_place F typed n a b c m =
    let x = none_head n (decide (mem n heads) (λ e. apart_mem tables n F heads a m e)) in
    let y = pair_false n k.Typeof k.TypeofUnqual (decide (mem n typeofs) (λ e. apart_mem tables n F typeofs b m e)) in
    let z : is_type_word n ≡ false = decide (is_type_word n) (λ e. apart_mem tables n F type_words c m e) in
    rw (x.0, x.1, y, z, or_false typed) refl

abbrev storages : List ℕ
storages = k.Extern ∷ k.Static ∷ k.Auto ∷ k.Register ∷ k.Constexpr ∷ []

abbrev pub qualifiers : List ℕ
qualifiers = k.Const ∷ k.Restrict ∷ k.Owner ∷ k.View ∷ k.Opt ∷ []

-- outside the type list of an enumeration
word_over : (F : List ℕ) → IsWords F → apart tables F heads ≡ true → apart tables F typeofs ≡ true → apart tables F type_words ≡ true
    → (base s new : Scopes) (t : Terminal) (ts : List Terminal) → new.reading.typed ≡ s.reading.typed → mem (kind s t) F ≡ true
    → IsPast false base s new (t ∷ ts) ts
word_over F f a b c base s new t ts q e =
    between_word F f s.reading.typed base s t ts e ∙
    (ap (λ z. past_specifiers z base ts) (plain_place F s.reading.typed t.kind a b c (raw F f.plain s t e)) ∙ ap (λ z. past_specifiers (Between z) base ts) (sym q))

typedef_words : IsWords (k.Typedef ∷ [])
unfolding mem within firsts
typedef_words = record { plain = (refl, refl, refl, refl, refl); brace = refl; colon = refl; specifiers = refl }

storage_words : IsWords storages
unfolding mem within firsts
storage_words = record { plain = (refl, refl, refl, refl, refl); brace = refl; colon = refl; specifiers = refl }

pub qualifier_words : IsWords qualifiers
unfolding mem within firsts
qualifier_words = record { plain = (refl, refl, refl, refl, refl); brace = refl; colon = refl; specifiers = refl }

function_words : IsWords (k.Inline ∷ k.Noreturn ∷ [])
unfolding mem within firsts
function_words = record { plain = (refl, refl, refl, refl, refl); brace = refl; colon = refl; specifiers = refl }

pub types : IsWords type_words
unfolding mem within firsts
types = record { plain = (refl, refl, refl, refl, refl); brace = refl; colon = refl; specifiers = refl }

over_storage : (base : Scopes) {s new : Scopes} {ts rest : List Terminal} {xs : List Tree} → Derives parsed (rule r.Storage) s ts xs new rest → IsPast false base s new ts rest
unfolding table apart mem
over_storage base {s = s} (Derives.a_rule (Derives.left (Derives.a_word {t = t} {ts = us} e))) = word_over (k.Typedef ∷ []) typedef_words refl refl refl base s (after act.Typedef s t) t us refl e
over_storage base {s = s} (Derives.a_rule (Derives.right (Derives.a_word {t = t} {ts = us} e))) = word_over storages storage_words refl refl refl base s (after act.Specifier s t) t us refl e

pub qualifier_first : within tables qualifiers (firsts r.Qual) ≡ true
unfolding within mem firsts
qualifier_first = refl

qualifier_at : (c typed : Bool) (base s : Scopes) (t : Terminal) (ts : List Terminal) → mem (kind s t) qualifiers ≡ true
    → past_specifiers (listed c typed) base (t ∷ ts) ≡ past_specifiers (listed c typed) base ts
unfolding apart mem
qualifier_at false typed base s t ts e =
    between_word qualifiers qualifier_words typed base s t ts e ∙ ap (λ z. past_specifiers z base ts) (plain_place qualifiers typed t.kind refl refl refl (raw qualifiers qualifier_words.plain s t e))
qualifier_at true true base s t ts e =
    between_word qualifiers qualifier_words true base s t ts e ∙ ap (λ z. past_specifiers z base ts) (plain_place qualifiers true t.kind refl refl refl (raw qualifiers qualifier_words.plain s t e))
qualifier_at true false base s t ts e = step_qualifier base t ts (within_mem tables t.kind qualifiers (firsts r.Qual) qualifier_first (raw qualifiers qualifier_words.plain s t e))

over_qualifier : (c : Bool) (base : Scopes) {s new : Scopes} {ts rest : List Terminal} {xs : List Tree} → Derives parsed (rule r.Qual) s ts xs new rest → IsPast c base s new ts rest
unfolding table
over_qualifier c base {s = s} (Derives.a_rule (Derives.a_word {t = t} {ts = us} e)) = qualifier_at c s.reading.typed base s t us e

pub types_apart : apart tables type_words (firsts r.Qual) ≡ true
unfolding apart mem firsts
types_apart = refl

-- a word that is a type
over_type : (c : Bool) (base s : Scopes) (t : Terminal) (ts : List Terminal) → mem (kind s t) type_words ≡ true → IsPast c base s (after act.TypeSpecifier s t) (t ∷ ts) ts
unfolding apart mem
over_type c base s t ts e =
    let m = raw type_words types.plain s t e in
    let x = none_head t.kind (decide (mem t.kind heads) (λ z. apart_mem tables t.kind type_words heads refl m z)) in
    let y = either_of (t.kind == k.Typeof) (t.kind == k.TypeofUnqual) (decide (mem t.kind typeofs) (λ z. apart_mem tables t.kind type_words typeofs refl m z)) in
    let p : behind_word (c || s.reading.typed) t.kind ≡ Between true = rw (x.0, x.1, y, m) (ap Between (or_true (c || s.reading.typed))) in
    by_word type_words types types_apart c s.reading.typed base s t ts e ∙ (ap (λ z. past_specifiers z base ts) p ∙ typed_past c base (after act.TypeSpecifier s t) ts refl)
  where
    or_true : (b : Bool) → (b || true) ≡ true
    or_true true = refl
    or_true false = refl

-- a typedef name
pub named : (b x y : Bool) (j : ℕ) → (b ≡ false → mem j (k.TypedefName ∷ []) ≡ false)
    → mem (if b then (if x then (if y then k.DeclaredName else k.TypedefName) else k.Name) else j) (k.TypedefName ∷ []) ≡ true
    → (b ≡ true) × (x ≡ true) × (y ≡ false)
unfolding mem
named true true true j n h = absurd (cc)
named true true false j n h = (refl, refl, refl)
named true false y j n h = absurd (cc)
named false x y j n h = absurd (clash _ h (n refl))

first_of : (a b c : Bool) → ((a || b) || c) ≡ false → a ≡ false
first_of true b c h = h
first_of false b c h = refl

pub none_typedef_name : (bs : List ℕ) (j : ℕ) → (j == k.Name) ≡ false → mem (bracket_kind bs j) (k.TypedefName ∷ []) ≡ false
unfolding mem
none_typedef_name [] j h = alone (is_given j) j (λ g. ungiven j g)
  where
    alone : (g : Bool) (j : ℕ) → (g ≡ false → (j == k.TypedefName) ≡ false) → ((if g then k.Stray else j) == k.TypedefName || false) ≡ false
    alone true j f = refl
    alone false j f = rw (f refl) refl

    ungiven : (j : ℕ) → is_given j ≡ false → (j == k.TypedefName) ≡ false
    ungiven j g = first_of (j == k.TypedefName) (j == k.DeclaredName) (j == k.Closing) g
none_typedef_name (last ∷ bs) j h = both (is_closing j) (closes last j) (is_given j) j (λ g. first_of (j == k.TypedefName) (j == k.DeclaredName) (j == k.Closing) g)
  where
    both : (c d g : Bool) (j : ℕ) → (g ≡ false → (j == k.TypedefName) ≡ false) → ((if c then (if d then k.Closing else k.Stray) else (if g then k.Stray else j)) == k.TypedefName || false) ≡ false
    both true true g j f = refl
    both true false g j f = refl
    both false d true j f = refl
    both false d false j f = rw (f refl) refl

between_name : (base : Scopes) (t : Terminal) (ts : List Terminal) → (t.kind == k.Name) ≡ true → is_type base.entries t.name ≡ true
    → past_specifiers (Between false) base (t ∷ ts) ≡ past_specifiers (Between true) base ts
unfolding past_specifiers specifier_step
between_name base t ts n i = let p : t.kind ≡ k.Name = eqb-true t.kind k.Name n in rw (p, i) refl

colon_name : (base : Scopes) (t : Terminal) (ts : List Terminal) → (t.kind == k.Name) ≡ true → is_type base.entries t.name ≡ true
    → past_specifiers BehindColon base (t ∷ ts) ≡ past_specifiers (Between true) base ts
unfolding past_specifiers specifier_step firsts mem
colon_name base t ts n i = let p : t.kind ≡ k.Name = eqb-true t.kind k.Name n in rw (p, i) refl

step_name : (c typed : Bool) (base : Scopes) (t : Terminal) (ts : List Terminal) → (t.kind == k.Name) ≡ true → is_type base.entries t.name ≡ true
    → typed ≡ false → past_specifiers (listed c typed) base (t ∷ ts) ≡ past_specifiers (Between true) base ts
step_name c true base t ts n i q = absurd (cc)
step_name true false base t ts n i q = colon_name base t ts n i
step_name false false base t ts n i q = between_name base t ts n i

over_name : (c : Bool) (base s : Scopes) (t : Terminal) (ts : List Terminal) → IsSame base s → mem (kind s t) (k.TypedefName ∷ []) ≡ true → IsPast c base s (after act.TypeSpecifier s t) (t ∷ ts) ts
over_name c base s t ts b e =
    let n = named (t.kind == k.Name) (is_type s.entries t.name) s.reading.typed (bracket_kind s.brackets t.kind) (none_typedef_name s.brackets t.kind) e in
    step_name c s.reading.typed base t ts n.0 (subst (λ z. is_type z t.name ≡ true) b.entries n.1) n.2 ∙ typed_past c base (after act.TypeSpecifier s t) ts refl

-- behind `struct`, `enum` and `typeof`
pub struct_word : IsWords (k.Struct ∷ [])
unfolding mem within firsts
struct_word = record { plain = (refl, refl, refl, refl, refl); brace = refl; colon = refl; specifiers = refl }

pub enum_word : IsWords (k.Enum ∷ [])
unfolding mem within firsts
enum_word = record { plain = (refl, refl, refl, refl, refl); brace = refl; colon = refl; specifiers = refl }

pub struct_apart : apart tables (k.Struct ∷ []) (firsts r.Qual) ≡ true
unfolding apart mem firsts
struct_apart = refl

pub enum_apart : apart tables (k.Enum ∷ []) (firsts r.Qual) ≡ true
unfolding apart mem firsts
enum_apart = refl

to_struct : (c typed : Bool) (base s : Scopes) (t : Terminal) (ts : List Terminal) → mem (kind s t) (k.Struct ∷ []) ≡ true
    → past_specifiers (listed c typed) base (t ∷ ts) ≡ past_specifiers (BehindHead true) base ts
to_struct c typed base s t ts e =
    let m : t.kind ≡ k.Struct = one_mem t.kind k.Struct (raw (k.Struct ∷ []) struct_word.plain s t e) in
    let p : behind_word (c || typed) t.kind ≡ BehindHead true = rw m refl in
    by_word (k.Struct ∷ []) struct_word struct_apart c typed base s t ts e ∙ ap (λ z. past_specifiers z base ts) p

to_enum : (c typed : Bool) (base s : Scopes) (t : Terminal) (ts : List Terminal) → mem (kind s t) (k.Enum ∷ []) ≡ true
    → past_specifiers (listed c typed) base (t ∷ ts) ≡ past_specifiers (BehindHead false) base ts
to_enum c typed base s t ts e =
    let m : t.kind ≡ k.Enum = one_mem t.kind k.Enum (raw (k.Enum ∷ []) enum_word.plain s t e) in
    let p : behind_word (c || typed) t.kind ≡ BehindHead false = rw m refl in
    by_word (k.Enum ∷ []) enum_word enum_apart c typed base s t ts e ∙ ap (λ z. past_specifiers z base ts) p

pub typeof_words : IsWords typeofs
unfolding mem within firsts
typeof_words = record { plain = (refl, refl, refl, refl, refl); brace = refl; colon = refl; specifiers = refl }

pub typeof_apart : apart tables typeofs (firsts r.Qual) ≡ true
unfolding apart mem firsts
typeof_apart = refl

to_typeof : (c typed : Bool) (base s : Scopes) (t : Terminal) (ts : List Terminal) → mem (kind s t) typeofs ≡ true
    → past_specifiers (listed c typed) base (t ∷ ts) ≡ past_specifiers BehindTypeof base ts
unfolding mem apart
to_typeof c typed base s t ts e =
    let m = raw typeofs typeof_words.plain s t e in
    let x = none_head t.kind (decide (mem t.kind heads) (λ z. apart_mem tables t.kind typeofs heads refl m z)) in
    let y = pair_true t.kind k.Typeof k.TypeofUnqual m in
    let p : behind_word (c || typed) t.kind ≡ BehindTypeof = rw (x.0, x.1, y) refl in
    by_word typeofs typeof_words typeof_apart c typed base s t ts e ∙ ap (λ z. past_specifiers z base ts) p

at_typeof : (base : Scopes) (t : Terminal) (ts : List Terminal) → (t.kind == k.OpenParenthesis) ≡ true → past_specifiers BehindTypeof base (t ∷ ts) ≡ past_specifiers (Group 1) base ts
unfolding past_specifiers specifier_step
at_typeof base t ts h = let q : t.kind ≡ k.OpenParenthesis = eqb-true t.kind k.OpenParenthesis h in rw q refl

at_attribute : (i : Bool) (base : Scopes) (t : Terminal) (ts : List Terminal) → (t.kind == k.OpenBracket) ≡ true
    → past_specifiers (BehindHead i) base (t ∷ ts) ≡ past_specifiers (Attribute i 1) base ts
unfolding past_specifiers specifier_step
at_attribute i base t ts h = let q : t.kind ≡ k.OpenBracket = eqb-true t.kind k.OpenBracket h in rw q refl

struct_tag : (base : Scopes) (t : Terminal) (ts : List Terminal) → (t.kind == k.Name) ≡ true → past_specifiers (BehindHead true) base (t ∷ ts) ≡ past_specifiers BehindTag base ts
unfolding past_specifiers specifier_step
struct_tag base t ts h = let q : t.kind ≡ k.Name = eqb-true t.kind k.Name h in rw q refl

enum_tag : (base : Scopes) (t : Terminal) (ts : List Terminal) → (t.kind == k.Name) ≡ true → past_specifiers (BehindHead false) base (t ∷ ts) ≡ past_specifiers (Between true) base ts
unfolding past_specifiers specifier_step
enum_tag base t ts h = let q : t.kind ≡ k.Name = eqb-true t.kind k.Name h in rw q refl

head_brace : (i : Bool) (base : Scopes) (t : Terminal) (ts : List Terminal) → (t.kind == k.OpenBrace) ≡ true → past_specifiers (BehindHead i) base (t ∷ ts) ≡ past_specifiers (Group 1) base ts
unfolding past_specifiers specifier_step
head_brace i base t ts h = let q : t.kind ≡ k.OpenBrace = eqb-true t.kind k.OpenBrace h in rw q refl

between_brace : (typed : Bool) (base : Scopes) (t : Terminal) (ts : List Terminal) → (t.kind == k.OpenBrace) ≡ true → past_specifiers (Between typed) base (t ∷ ts) ≡ past_specifiers (Group 1) base ts
unfolding past_specifiers specifier_step
between_brace typed base t ts h = let q : t.kind ≡ k.OpenBrace = eqb-true t.kind k.OpenBrace h in rw q refl

colon_brace : (base : Scopes) (t : Terminal) (ts : List Terminal) → (t.kind == k.OpenBrace) ≡ true → past_specifiers BehindColon base (t ∷ ts) ≡ past_specifiers (Group 1) base ts
unfolding past_specifiers specifier_step firsts mem
colon_brace base t ts h = let q : t.kind ≡ k.OpenBrace = eqb-true t.kind k.OpenBrace h in rw q refl

listed_brace : (typed : Bool) (base : Scopes) (t : Terminal) (ts : List Terminal) → (t.kind == k.OpenBrace) ≡ true
    → past_specifiers (listed true typed) base (t ∷ ts) ≡ past_specifiers (Group 1) base ts
listed_brace true base t ts h = between_brace true base t ts h
listed_brace false base t ts h = colon_brace base t ts h

head_colon : (base : Scopes) (t : Terminal) (ts : List Terminal) → (t.kind == k.Colon) ≡ true → past_specifiers (BehindHead false) base (t ∷ ts) ≡ past_specifiers BehindColon base ts
unfolding past_specifiers specifier_step
head_colon base t ts h = let q : t.kind ≡ k.Colon = eqb-true t.kind k.Colon h in rw q refl

tag_colon : (base : Scopes) (t : Terminal) (ts : List Terminal) → (t.kind == k.Colon) ≡ true → past_specifiers (Between true) base (t ∷ ts) ≡ past_specifiers BehindColon base ts
unfolding past_specifiers specifier_step
tag_colon base t ts h = let q : t.kind ≡ k.Colon = eqb-true t.kind k.Colon h in rw q refl

-- a tag is a type specifier
as_tag : (base : Scopes) (ts : List Terminal) → past_specifiers BehindTag base ts ≡ past_specifiers (Between true) base ts
unfolding past_specifiers specifier_step
as_tag base [] = refl
as_tag base (t ∷ ts) = refl

pub no_name : mem k.Name (firsts r.Qual) ≡ false
unfolding mem firsts
no_name = refl

-- a tag
none_two : (bs : List ℕ) (j : ℕ) → (j == k.Name) ≡ false → mem (bracket_kind bs j) (k.Name ∷ k.TypedefName ∷ []) ≡ false
unfolding mem
none_two [] j h = alone (is_given j) j h (λ g. first_of (j == k.TypedefName) (j == k.DeclaredName) (j == k.Closing) g)
  where
    alone : (g : Bool) (j : ℕ) → (j == k.Name) ≡ false → (g ≡ false → (j == k.TypedefName) ≡ false)
        → ((if g then k.Stray else j) == k.Name || ((if g then k.Stray else j) == k.TypedefName || false)) ≡ false
    alone true j h f = refl
    alone false j h f = rw (h, f refl) refl
none_two (last ∷ bs) j h = both (is_closing j) (closes last j) (is_given j) j h (λ g. first_of (j == k.TypedefName) (j == k.DeclaredName) (j == k.Closing) g)
  where
    both : (c d g : Bool) (j : ℕ) → (j == k.Name) ≡ false → (g ≡ false → (j == k.TypedefName) ≡ false)
        → ((if c then (if d then k.Closing else k.Stray) else (if g then k.Stray else j)) == k.Name || ((if c then (if d then k.Closing else k.Stray) else (if g then k.Stray else j)) == k.TypedefName || false)) ≡ false
    both true true g j h f = refl
    both true false g j h f = refl
    both false d true j h f = refl
    both false d false j h f = rw (h, f refl) refl

pub tag_name : (s : Scopes) (t : Terminal) → mem (kind s t) (k.Name ∷ k.TypedefName ∷ []) ≡ true → (t.kind == k.Name) ≡ true
tag_name s t e = by (t.kind == k.Name) (is_type s.entries t.name) s.reading.typed (bracket_kind s.brackets t.kind) (none_two s.brackets t.kind) e
  where
    by : (b x y : Bool) (j : ℕ) → (b ≡ false → mem j (k.Name ∷ k.TypedefName ∷ []) ≡ false)
        → mem (if b then (if x then (if y then k.DeclaredName else k.TypedefName) else k.Name) else j) (k.Name ∷ k.TypedefName ∷ []) ≡ true → b ≡ true
    by true x y j n h = refl
    by false x y j n h = absurd (clash _ h (n refl))

pub as_closing : (j : ℕ) → within tables (j ∷ []) closing ≡ true → (s : Scopes) (t : Terminal) → mem (kind s t) (j ∷ []) ≡ true → mem (kind s t) closing ≡ true
as_closing j w s t e = within_mem tables (kind s t) (j ∷ []) closing w e

pub close_bracket : within tables (k.CloseBracket ∷ []) closing ≡ true
unfolding within mem
close_bracket = refl

pub close_brace : within tables (k.CloseBrace ∷ []) closing ≡ true
unfolding within mem
close_brace = refl

pub close_parenthesis : within tables (k.CloseParenthesis ∷ []) closing ≡ true
unfolding within mem
close_parenthesis = refl

-- attributes behind `struct` and `enum`
abbrev in_attribute : Form
in_attribute = word (k.OpenBracket ∷ []) act.Keep then rule r.Balanced then word (k.CloseBracket ∷ []) act.Keep

attribute_even : even in_attribute 0 ≡ true
unfolding even level fits is_some pred holds within apart mem
attribute_even = refl

attribute_level : level in_attribute 0 ≡ 0
unfolding level pred holds within mem
attribute_level = refl

pub attribute_grouped : {s new : Scopes} {t : Terminal} {us rest : List Terminal} {xs : List Tree} → s.brackets ≡ []
    → Derives parsed (rule r.Attr) s (t ∷ us) xs new rest → ((t.kind == k.OpenBracket) ≡ true) × (past_brackets 1 us ≡ rest)
unfolding table
attribute_grouped {s = s} b
    (Derives.a_rule (Derives.both (Derives.a_word {t = t} e1) (Derives.both {mid = m1} e2 (Derives.both {mid = m2} d (Derives.both (Derives.a_word e3) (Derives.a_word {t = w} e4) p1) p2) p3) p4)) =
    (is_bracket s t e1, grouped in_attribute s m2 w attribute_even attribute_level b (Derives.both e2 (Derives.both d (Derives.a_word e3) refl) refl) (as_closing k.CloseBracket close_bracket m2 w e4))

pub empty_attribute : {s new : Scopes} {rest : List Terminal} {xs : List Tree} → Derives parsed (rule r.Attr) s [] xs new rest → ⊥
unfolding hollow firsts mem ahead
empty_attribute d = clash _ (begins_with refl d) refl

pub over_attributes_one : {s new : Scopes} {ts rest : List Terminal} {xs : List Tree} → s.brackets ≡ [] → Derives parsed (rule r.Attr) s ts xs new rest → new.brackets ≡ []
over_attributes_one b d = ap (λ z. z.brackets) (attribute_over b d).state ∙ b

heads_over : (i : Bool) (base : Scopes) {s mid : Scopes} {ts later : List Terminal} {xs : List Tree} → s.brackets ≡ []
    → Derives parsed (many (rule r.Attr)) s ts xs mid later → past_specifiers (BehindHead i) base ts ≡ past_specifiers (BehindHead i) base later
heads_over i base b Derives.stop = refl
heads_over i base {s = s} {ts = []} b (Derives.turn d e _) = absurd (empty_attribute d)
heads_over i base {s = s} {ts = t ∷ us} b (Derives.turn d e _) =
    let g = attribute_grouped b d in
    let p = over_attributes_one b d in
    at_attribute i base t us g.0 ∙ (over_attribute us 0 i base ∙ (ap (λ z. past_specifiers (BehindHead i) base z) g.1 ∙ heads_over i base p e))

-- members, enumerators and the operand of `typeof`
abbrev pub members : Form
members = rule r.Member then many (rule r.Member)

abbrev pub enumerators : Form
enumerators = rule r.Enumr then loop test.EnumeratorAhead (token k.Comma then rule r.Enumr) then maybe (token k.Comma)

abbrev pub operand : Form
operand = rule r.Expr or rule r.Typename

pub members_even : even members 0 ≡ true
unfolding even level
members_even = refl

pub members_level : level members 0 ≡ 0
unfolding level
members_level = refl

pub enumerators_even : even enumerators 0 ≡ true
unfolding even level fits is_some pred holds within apart mem
enumerators_even = refl

pub enumerators_level : level enumerators 0 ≡ 0
unfolding level
enumerators_level = refl

pub operand_even : even operand 0 ≡ true
unfolding even level
operand_even = refl

pub operand_level : level operand 0 ≡ 0
unfolding level
operand_level = refl

pub brace_kind : (s : Scopes) (t : Terminal) → mem (kind s t) (k.OpenBrace ∷ []) ≡ true → (t.kind == k.OpenBrace) ≡ true
unfolding mem
brace_kind s t e = is_it k.OpenBrace (refl, refl, refl, refl, refl) s t e

pub colon_kind : (s : Scopes) (t : Terminal) → mem (kind s t) (k.Colon ∷ []) ≡ true → (t.kind == k.Colon) ≡ true
unfolding mem
colon_kind s t e = is_it k.Colon (refl, refl, refl, refl, refl) s t e

pub parenthesis_kind : (s : Scopes) (t : Terminal) → mem (kind s t) (k.OpenParenthesis ∷ []) ≡ true → (t.kind == k.OpenParenthesis) ≡ true
unfolding mem
parenthesis_kind s t e = is_it k.OpenParenthesis (refl, refl, refl, refl, refl) s t e

-- braces
group_over : (base : Scopes) (us vs : List Terminal) → past_brackets 1 us ≡ vs → past_specifiers (Group 1) base us ≡ past_specifiers (Between true) base vs
group_over base us vs q = over_group us 0 base ∙ ap (λ z. past_specifiers (Between true) base z) q

pub cleared : {s mid : Scopes} {ts later : List Terminal} {xs : List Tree} → s.brackets ≡ [] → Derives parsed (many (rule r.Attr)) s ts xs mid later → mid.brackets ≡ []
cleared b a = ap (λ z. z.brackets) (over_many b a).state ∙ b

pub attributes_same : {base s m : Scopes} (t : Terminal) {us later : List Terminal} {xs : List Tree} → IsSame base s
    → Derives parsed (many (rule r.Attr)) (after act.OpenSpecifier s t) us xs m later → m.entries ≡ base.entries
attributes_same t b a = ap (λ z. z.entries) (over_many b.clear a).state ∙ b.entries

members_over : (place : Within) (base : Scopes) {s new : Scopes} {ts rest : List Terminal} {xs : List Tree}
    → ((t : Terminal) (us : List Terminal) → (t.kind == k.OpenBrace) ≡ true → past_specifiers place base (t ∷ us) ≡ past_specifiers (Group 1) base us)
    → s.brackets ≡ [] → Derives parsed (rule r.Members) s ts xs new rest → past_specifiers place base ts ≡ past_specifiers (Between true) base rest
unfolding table
members_over place base {s = s} arrive c (Derives.a_rule (Derives.both (Derives.a_word {t = o} {ts = ws} eo) (Derives.both m1 (Derives.both {mid = m3} m2 (Derives.a_word {t = v} ec) _) _) _)) =
    arrive o ws (brace_kind s o eo) ∙ group_over base ws _
    (grouped members (after act.Enclose s o) m3 v members_even members_level c (Derives.both m1 m2 refl) (as_closing k.CloseBrace close_brace m3 v ec))

tag_brace : (base : Scopes) (t : Terminal) (ts : List Terminal) → (t.kind == k.OpenBrace) ≡ true → past_specifiers BehindTag base (t ∷ ts) ≡ past_specifiers (Group 1) base ts
tag_brace base t ts h = as_tag base (t ∷ ts) ∙ between_brace true base t ts h

struct_scan : (c : Bool) (base : Scopes) {s mid : Scopes} {ts rest : List Terminal} {xs : List Tree} → IsSame base s
    → Derives parsed (table r.Struct) s ts xs mid rest → past_specifiers (listed c s.reading.typed) base ts ≡ past_specifiers (Between true) base rest
unfolding table
struct_scan c base {s = s} b
    (Derives.both (Derives.a_word {t = t} {ts = us} e) (Derives.both {mid = m} (Derives.a_rule a) (Derives.left (Derives.both (Derives.a_word {t = g} {ts = vs} tag) (Derives.chosen x d) _)) _) _) =
    to_struct c s.reading.typed base s t us e ∙
    (heads_over true base b.clear a ∙ (struct_tag base g vs (tag_name m g tag) ∙ members_over BehindTag base (λ t us h. tag_brace base t us h) (cleared b.clear a) d))
struct_scan c base {s = s} b
    (Derives.both (Derives.a_word {t = t} {ts = us} e) (Derives.both {mid = m} (Derives.a_rule a) (Derives.left (Derives.both (Derives.a_word {t = g} {ts = vs} tag) (Derives.other x Derives.nothing) _)) _) _) =
    to_struct c s.reading.typed base s t us e ∙ (heads_over true base b.clear a ∙ (struct_tag base g vs (tag_name m g tag) ∙ as_tag base vs))
struct_scan c base {s = s} b (Derives.both (Derives.a_word {t = t} {ts = us} e) (Derives.both {mid = m} (Derives.a_rule a) (Derives.right d) _) _) =
    to_struct c s.reading.typed base s t us e ∙ (heads_over true base b.clear a ∙ members_over (BehindHead true) base (λ t us h. head_brace true base t us h) (cleared b.clear a) d)

-- behind a specifier that leaves its frame
left_past : (n : Rule) (c : Bool) (base : Scopes) {s mid : Scopes} {ts rest : List Terminal} {xs : List Tree} → leaves_last n ≡ true
    → close n mid ≡ close r.Struct mid → Derives parsed (table n) s ts xs mid rest
    → past_specifiers (Between true) base rest ≡ past_specifiers (listed c (close n mid).reading.typed) base rest
left_past n c base {mid = mid} {rest = rest} l q d = typed_past c base (close n mid) rest (ap (λ z. z.reading.typed) q ∙ specifier_typed n l d)

struct_over : (c : Bool) (base : Scopes) {s new : Scopes} {ts rest : List Terminal} {xs : List Tree} → IsSame base s → Derives parsed (rule r.Struct) s ts xs new rest → IsPast c base s new ts rest
unfolding leaves_last
struct_over c base b (Derives.a_rule d) = struct_scan c base b d ∙ left_past r.Struct c base refl refl d

typeof_scan : (c : Bool) (base : Scopes) {s mid : Scopes} {ts rest : List Terminal} {xs : List Tree} → IsSame base s
    → Derives parsed (table r.Typeof) s ts xs mid rest → past_specifiers (listed c s.reading.typed) base ts ≡ past_specifiers (Between true) base rest
unfolding table
typeof_scan c base {s = s} b (Derives.both (Derives.a_word {t = t} {ts = us} e) (Derives.both (Derives.a_word {t = o} {ts = ws} eo) (Derives.both {mid = m3} d (Derives.a_word {t = v} ec) _) _) _) =
    to_typeof c s.reading.typed base s t us e ∙ (at_typeof base o ws (parenthesis_kind (after act.OpenSpecifier s t) o eo) ∙
    group_over base ws _ (grouped operand (after act.Enclose (after act.OpenSpecifier s t) o) m3 v operand_even operand_level b.clear d (as_closing k.CloseParenthesis close_parenthesis m3 v ec)))

typeof_over : (c : Bool) (base : Scopes) {s new : Scopes} {ts rest : List Terminal} {xs : List Tree} → IsSame base s → Derives parsed (rule r.Typeof) s ts xs new rest → IsPast c base s new ts rest
unfolding leaves_last
typeof_over c base b (Derives.a_rule d) = typeof_scan c base b d ∙ left_past r.Typeof c base refl refl d

pub clear_rule : (n : Rule) → is_balanced n ≡ false → clear (rule n) true ≡ true
unfolding clear
clear_rule n h = ap not h

-- a nonterminal that declares nothing leaves the scopes as they are
pub same_after : (n : Rule) (base : Scopes) {s new : Scopes} {ts rest : List Terminal} {xs : List Tree} → declares n ≡ false → is_balanced n ≡ false
    → IsSame base s → Derives parsed (rule n) s ts xs new rest → IsSame base new
same_after n base p q b d = record { entries = same_entries n p d ∙ b.entries; clear = parsed_clear d true (λ _. b.clear) (clear_rule n q) }

abbrev pub element : Form
element = rule r.Typespec or rule r.Qual

same_element : (base : Scopes) {s new : Scopes} {ts rest : List Terminal} {xs : List Tree} → IsSame base s → Derives parsed element s ts xs new rest → IsSame base new
unfolding declares is_balanced
same_element base b (Derives.left d) = same_after r.Typespec base refl refl b d
same_element base b (Derives.right d) = same_after r.Qual base refl refl b d

-- an enumeration: its enumerators in braces, and what may stand before them
abbrev pub braced : Form
braced =
    word (k.OpenBrace ∷ []) act.Enclose then rule r.Enumr then loop test.EnumeratorAhead (token k.Comma then rule r.Enumr) then maybe (token k.Comma) then word (k.CloseBrace ∷ []) act.TypeSpecifier

abbrev pub based : Form
based = maybe (word (k.Colon ∷ []) act.AwaitBraces then rule r.Squals)

abbrev pub tag : Form
tag = word (k.Name ∷ k.TypedefName ∷ []) act.TypeSpecifier

abbrev pub enumerated : Form
enumerated = when test.EnumeratorsAhead (maybe tag then based then braced) (tag then maybe (token k.Colon then rule r.Squals))

-- the place behind `enum` or its tag
record IsPlace (place : Within) (base : Scopes) : Type 0 where
  pub brace : (t : Terminal) (ts : List Terminal) → (t.kind == k.OpenBrace) ≡ true → past_specifiers place base (t ∷ ts) ≡ past_specifiers (Group 1) base ts
  pub colon : (t : Terminal) (ts : List Terminal) → (t.kind == k.Colon) ≡ true → past_specifiers place base (t ∷ ts) ≡ past_specifiers BehindColon base ts

head_place : (base : Scopes) → IsPlace (BehindHead false) base
head_place base = record { brace = λ t ts h. head_brace false base t ts h; colon = λ t ts h. head_colon base t ts h }

tag_place : (base : Scopes) → IsPlace (Between true) base
tag_place base = record { brace = λ t ts h. between_brace true base t ts h; colon = λ t ts h. tag_colon base t ts h }

braces_over : (place : Within) (base : Scopes) {s new : Scopes} {ts rest : List Terminal} {xs : List Tree}
    → ((t : Terminal) (us : List Terminal) → (t.kind == k.OpenBrace) ≡ true → past_specifiers place base (t ∷ us) ≡ past_specifiers (Group 1) base us)
    → s.brackets ≡ [] → Derives parsed braced s ts xs new rest → past_specifiers place base ts ≡ past_specifiers (Between true) base rest
braces_over place base {s = s} arrive c (Derives.both (Derives.a_word {t = o} {ts = ws} eo) (Derives.both en (Derives.both l (Derives.both {mid = m} z (Derives.a_word {t = v} ec) _) _) _) _) =
    arrive o ws (brace_kind s o eo) ∙ group_over base ws _
    (grouped enumerators (after act.Enclose s o) m v enumerators_even enumerators_level c (Derives.both en (Derives.both l z refl) refl) (as_closing k.CloseBrace close_brace m v ec))

-- a qualifier that comes next goes on with the list, and so does a typedef name before a type specifier
ungiven_kind : (F : List ℕ) (j : ℕ) → mem k.TypedefName F ≡ false → mem k.DeclaredName F ≡ false → mem k.Closing F ≡ false → mem j F ≡ true → is_given j ≡ false
ungiven_kind F j a b c m = rw (none F j k.TypedefName m a, none F j k.DeclaredName m b, none F j k.Closing m c) refl

pub qualifier_goes_on : (s : Scopes) (t : Terminal) → s.brackets ≡ [] → (t.kind == k.Name) ≡ false → mem t.kind (firsts r.Qual) ≡ true → mem (kind s t) type_kinds ≡ true
unfolding mem firsts within
qualifier_goes_on s t b n m = rw (n, b, ungiven_kind (firsts r.Qual) t.kind refl refl refl m) (within_mem tables t.kind (firsts r.Qual) type_kinds refl m)

pub name_goes_on : (s : Scopes) (t : Terminal) → s.reading.typed ≡ false → (t.kind == k.Name) ≡ true → is_type s.entries t.name ≡ true → mem (kind s t) type_kinds ≡ true
unfolding mem firsts
name_goes_on s t y n i = rw (n, i, y) refl

-- before another token the list ends as the enumeration does
colon_ends : (base s : Scopes) (ts : List Terminal) → IsSame base s → s.reading.typed ≡ false → sees_type s ts ≡ false → past_specifiers BehindColon base ts ≡ past_specifiers (Between true) base ts
unfolding past_specifiers specifier_step
colon_ends base s [] b y h = refl
colon_ends base s (t ∷ ts) b y h = by (t.kind == k.Name) refl
  where
    by : (x : Bool) → (t.kind == k.Name) ≡ x → past_specifiers BehindColon base (t ∷ ts) ≡ past_specifiers (Between true) base (t ∷ ts)
    by true q =
        let p : t.kind ≡ k.Name = eqb-true t.kind k.Name q in
        let i : is_type base.entries t.name ≡ false = decide (is_type base.entries t.name) (λ e. clash _ (name_goes_on s t y q (subst (λ z. is_type z t.name ≡ true) (sym b.entries) e)) h) in
        rw (p, i, no_name) refl
    by false q =
        let n : mem t.kind (firsts r.Qual) ≡ false = decide (mem t.kind (firsts r.Qual)) (λ e. clash _ (qualifier_goes_on s t b.clear q e) h) in
        rw (q, n) refl

list_ends : (base s : Scopes) (ts : List Terminal) → IsSame base s → sees_type s ts ≡ false → past_specifiers (listed true s.reading.typed) base ts ≡ past_specifiers (Between true) base ts
list_ends base s ts b h = by s.reading.typed refl
  where
    by : (y : Bool) → s.reading.typed ≡ y → past_specifiers (listed true y) base ts ≡ past_specifiers (Between true) base ts
    by true q = refl
    by false q = colon_ends base s ts b q h

-- a list of type specifiers and qualifiers, with no more of them behind it
record IsListed (c : Bool) (base s new : Scopes) (ts rest : List Terminal) : Type 0 where
  pub scanned : IsPast c base s new ts rest
  pub ended : sees_type new rest ≡ false

mutual
  unfolding table declares is_balanced leaves_last

  pub type_over : (c : Bool) (base : Scopes) {s new : Scopes} {ts rest : List Terminal} {xs : List Tree} → IsSame base s
      → Derives parsed (rule r.Typespec) s ts xs new rest → IsPast c base s new ts rest
  type_over c base {s = s} b (Derives.a_rule (Derives.left (Derives.a_word {t = t} {ts = us} e))) = over_type c base s t us e
  type_over c base b (Derives.a_rule (Derives.right (Derives.left d))) = struct_over c base b d
  type_over c base b (Derives.a_rule (Derives.right (Derives.right (Derives.left d)))) = enum_over c base b d
  type_over c base {s = s} b (Derives.a_rule (Derives.right (Derives.right (Derives.right (Derives.left (Derives.a_word {t = t} {ts = us} e)))))) = over_name c base s t us b e
  type_over c base b (Derives.a_rule (Derives.right (Derives.right (Derives.right (Derives.right d))))) = typeof_over c base b d

  enum_over : (c : Bool) (base : Scopes) {s new : Scopes} {ts rest : List Terminal} {xs : List Tree} → IsSame base s → Derives parsed (rule r.Enum) s ts xs new rest → IsPast c base s new ts rest
  enum_over c base {s = s} b (Derives.a_rule (Derives.both (Derives.a_word {t = t} {ts = us} e) (Derives.both (Derives.a_rule a) d p) q)) =
      to_enum c s.reading.typed base s t us e ∙ (heads_over false base b.clear a ∙ (choice_over base (record { entries = attributes_same t b a; clear = cleared b.clear a }) d ∙
      left_past r.Enum c base refl refl (Derives.both (Derives.a_word e) (Derives.both (Derives.a_rule a) d p) q)))

  choice_over : (base : Scopes) {s new : Scopes} {ts rest : List Terminal} {xs : List Tree} → IsSame base s → Derives parsed enumerated s ts xs new rest
      → past_specifiers (BehindHead false) base ts ≡ past_specifiers (Between true) base rest
  choice_over base b (Derives.chosen _ (Derives.both Derives.skip d _)) = fixed_over (BehindHead false) base b (head_place base) d
  choice_over base {s = s} b (Derives.chosen _ (Derives.both (Derives.take (Derives.a_word {t = g} {ts = vs} e)) d _)) =
      enum_tag base g vs (tag_name s g e) ∙ fixed_over (Between true) base (record { entries = b.entries; clear = b.clear }) (tag_place base) d
  choice_over base {s = s} b (Derives.other _ (Derives.both (Derives.a_word {t = g} {ts = vs} e) Derives.skip _)) = enum_tag base g vs (tag_name s g e)
  choice_over base {s = s} b (Derives.other _ (Derives.both (Derives.a_word {t = g} {ts = vs} e) (Derives.take (Derives.both (Derives.a_word {t = x} {ts = ys} colon) q _)) _)) =
      let i : IsSame base (after act.Pass (after act.TypeSpecifier s g) x) = record { entries = b.entries; clear = b.clear } in
      let w = list_over true base i q in
      enum_tag base g vs (tag_name s g e) ∙ (tag_colon base x ys (colon_kind (after act.TypeSpecifier s g) x colon) ∙ (w.scanned ∙ list_ends base _ _ (same_after r.Squals base refl refl i q) w.ended))

  fixed_over : (place : Within) (base : Scopes) {s new : Scopes} {ts rest : List Terminal} {xs : List Tree} → IsSame base s → IsPlace place base
      → Derives parsed (based then braced) s ts xs new rest → past_specifiers place base ts ≡ past_specifiers (Between true) base rest
  fixed_over place base b p (Derives.both Derives.skip d _) = braces_over place base p.brace b.clear d
  fixed_over place base {s = s} b p (Derives.both {mid = m} (Derives.take (Derives.both (Derives.a_word {t = x} {ts = ys} colon) q _)) d _) =
      let i : IsSame base (after act.AwaitBraces s x) = record { entries = b.entries; clear = b.clear } in
      let w = list_over true base i q in
      let j = same_after r.Squals base refl refl i q in
      p.colon x ys (colon_kind s x colon) ∙ (w.scanned ∙ braces_over (listed true m.reading.typed) base (λ t us h. listed_brace m.reading.typed base t us h) j.clear d)

  list_over : (c : Bool) (base : Scopes) {s new : Scopes} {ts rest : List Terminal} {xs : List Tree} → IsSame base s → Derives parsed (rule r.Squals) s ts xs new rest → IsListed c base s new ts rest
  list_over c base b (Derives.a_rule (Derives.both d l _)) = let w = elements_over c base (same_element base b d) l in record { scanned = element_over c base b d ∙ w.scanned; ended = w.ended }

  elements_over : (c : Bool) (base : Scopes) {s new : Scopes} {ts rest : List Terminal} {xs : List Tree} → IsSame base s
      → Derives parsed (loop test.TypeAhead element) s ts xs new rest → IsListed c base s new ts rest
  elements_over c base b (Derives.done h) = record { scanned = refl; ended = h }
  elements_over c base b (Derives.again _ d e _) = let w = elements_over c base (same_element base b d) e in record { scanned = element_over c base b d ∙ w.scanned; ended = w.ended }

  element_over : (c : Bool) (base : Scopes) {s new : Scopes} {ts rest : List Terminal} {xs : List Tree} → IsSame base s → Derives parsed element s ts xs new rest → IsPast c base s new ts rest
  element_over c base b (Derives.left d) = type_over c base b d
  element_over c base b (Derives.right d) = over_qualifier c base d

spec_over : (base : Scopes) {s new : Scopes} {ts rest : List Terminal} {xs : List Tree} → IsSame base s → Derives parsed (rule r.Spec) s ts xs new rest → IsPast false base s new ts rest
unfolding table apart mem
spec_over base b (Derives.a_rule (Derives.left d)) = over_storage base d
spec_over base b (Derives.a_rule (Derives.right (Derives.left d))) = type_over false base b d
spec_over base b (Derives.a_rule (Derives.right (Derives.right (Derives.left d)))) = over_qualifier false base d
spec_over base {s = s} b (Derives.a_rule (Derives.right (Derives.right (Derives.right (Derives.a_word {t = t} {ts = us} e))))) =
    word_over (k.Inline ∷ k.Noreturn ∷ []) function_words refl refl refl base s (after act.Specifier s t) t us refl e

specs_over : (base : Scopes) {s new : Scopes} {ts rest : List Terminal} {xs : List Tree} → IsSame base s → Derives parsed (many (rule r.Spec)) s ts xs new rest → IsPast false base s new ts rest
unfolding declares is_balanced
specs_over base b Derives.stop = refl
specs_over base b (Derives.turn d e _) = spec_over base b d ∙ specs_over base (same_after r.Spec base refl refl b d) e

pub specifiers_over : (base : Scopes) {s new : Scopes} {ts rest : List Terminal} {xs : List Tree} → IsSame base s
    → Derives parsed (rule r.Specs) s ts xs new rest → past_specifiers (Between s.reading.typed) base ts ≡ past_specifiers (Between new.reading.typed) base rest
unfolding table declares is_balanced
specifiers_over base b (Derives.a_rule (Derives.both d e _)) = spec_over base b d ∙ specs_over base (same_after r.Spec base refl refl b d) e

pub specifiers_same : (base : Scopes) {s new : Scopes} {ts rest : List Terminal} {xs : List Tree} → IsSame base s → Derives parsed (rule r.Specs) s ts xs new rest → IsSame base new
unfolding declares is_balanced
specifiers_same base b d = same_after r.Specs base refl refl b d

-- before a declarator or `;` the scan ends
abbrev pub behind : List ℕ
behind = k.Semicolon ∷ k.OpenParenthesis ∷ k.Star ∷ k.Name ∷ k.DeclaredName ∷ []

step_end : (typed : Bool) (base : Scopes) (t : Terminal) (ts : List Terminal) → (t.kind == k.Name) ≡ false → (t.kind == k.OpenBrace) ≡ false
    → (t.kind == k.Colon) ≡ false → mem t.kind (firsts r.Specs) ≡ false → past_specifiers (Between typed) base (t ∷ ts) ≡ t ∷ ts
unfolding past_specifiers specifier_step
step_end typed base t ts n b c h = rw (n, b, c, h) refl

name_end : (typed : Bool) (base : Scopes) (t : Terminal) (ts : List Terminal) → (t.kind == k.Name) ≡ true → (typed || not (is_type base.entries t.name)) ≡ true
    → past_specifiers (Between typed) base (t ∷ ts) ≡ t ∷ ts
unfolding past_specifiers specifier_step
name_end typed base t ts n h = rw (n, h) refl

pub of_end : (F : List ℕ) (b x y : Bool) (j : ℕ) → mem k.TypedefName F ≡ false
    → mem (if b then (if x then (if y then k.DeclaredName else k.TypedefName) else k.Name) else j) F ≡ true → b ≡ true → (y || not x) ≡ true
of_end F true true true j n h q = refl
of_end F true true false j n h q = absurd (clash _ h n)
of_end F true false true j n h q = refl
of_end F true false false j n h q = refl
of_end F false x y j n h q = absurd (cc)

end_is_no_specifier : apart tables behind (firsts r.Specs) ≡ true
unfolding apart mem firsts
end_is_no_specifier = refl

no_specifier : (s : Scopes) (t : Terminal) → mem (kind s t) behind ≡ true → (t.kind == k.Name) ≡ false → mem t.kind (firsts r.Specs) ≡ false
unfolding mem
no_specifier s t e q = decide (mem t.kind (firsts r.Specs)) (λ m.
    let a = decide (mem t.kind behind) (λ x. apart_mem tables t.kind behind (firsts r.Specs) end_is_no_specifier x m) in
    clash _ (unnamed behind (t.kind == k.Name) (is_type s.entries t.name) s.reading.typed (bracket_kind s.brackets t.kind) q e) (unseen behind s.brackets t.kind a refl refl))

pub specifiers_end : (base s : Scopes) (ts : List Terminal) → IsSame base s → mem (ahead tables parsed s ts) behind ≡ true → past_specifiers (Between s.reading.typed) base ts ≡ ts
unfolding ahead mem past_specifiers
specifiers_end base s [] b h = refl
specifiers_end base s (t ∷ ts) b e = by (t.kind == k.Name) refl
  where
    by : (x : Bool) → (t.kind == k.Name) ≡ x → past_specifiers (Between s.reading.typed) base (t ∷ ts) ≡ t ∷ ts
    by true q = name_end s.reading.typed base t ts q (subst (λ z. (s.reading.typed || not (is_type z t.name)) ≡ true) b.entries (of_end behind (t.kind == k.Name) (is_type s.entries t.name) s.reading.typed (bracket_kind s.brackets t.kind) refl e q))
    by false q = step_end s.reading.typed base t ts q (absent behind k.OpenBrace refl refl refl refl s t e) (absent behind k.Colon refl refl refl refl s t e) (no_specifier s t e q)
