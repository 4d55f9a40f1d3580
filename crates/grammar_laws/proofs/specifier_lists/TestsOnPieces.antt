-- On the pieces of a list the parser's tests decide, and lose nothing: where braces come, an enumeration takes them.
use Rattle.std.proofs.Common.{arith, ◌≡◌, ◌<◌, ℕ, zero, suc, Bool, true, false, List, [], ◌∷◌, refl, sym, subst, ◌∙◌}
use Rattle.std.specs.Prelude.{◌==◌}
use mathlib.Core.Logic.{inl, inr}
use Rattle.model_grammar.specs.declared.grammar.Terminal.{Terminal}
use Rattle.model_grammar.specs.declared.grammar.Entry.{Entry}
use Rattle.model_grammar.specs.declared.grammar.Reading.{Reading}
use Rattle.model_grammar.specs.declared.grammar.Within.TheVariants.{Between, BehindTag}
use Rattle.model_grammar.specs.GrammarForm.{mem}
use Rattle.model_grammar.specs.Grammar.{type_kinds}
use Rattle.model_grammar.specs.NameScopes.{Scopes, is_closing, is_given}
use Rattle.model_grammar.specs.SyntaxTree.{sees_type}
use Rattle.model_grammar.specs.Terminals as k
use Rattle.grammar_laws.specs.ParserTests.{sees, sees_name, lacks_enumeration, specifier_step}
use Rattle.grammar_laws.proofs.kinds.KindSets.{clash}
use Rattle.grammar_laws.proofs.kinds.TokenKinds.{absent, of_kind}
use Rattle.grammar_laws.proofs.kinds.TokenKinds.{decide as decide_false}
use Rattle.grammar_laws.proofs.enumerations.BracesScanStep.{tag_colon}
use Rattle.grammar_laws.proofs.specifier_lists.ListInPieces.{lacks, here, Run, IsHead, Plain, Flat, Tail}

-- braces that come are an enumeration's
pub tail_lacks : (R : Run) {c : Bool} {q : ℕ} {o : Reading} {ts : List Terminal} → Tail R c q o ts → (y : Bool) → lacks R.names 0 y ts ≡ true
tail_lacks R (Tail.full g f) y = g.none y
tail_lacks R (Tail.part v g) y = g.none y

-- behind the tag of a structure
pub tag_of_braces : (w : ℕ) (base : Scopes) (t : Terminal) (ts : List Terminal) → (t.kind == k.OpenBrace) ≡ true → sees_name base ts ≡ true
    → lacks_enumeration w BehindTag base (t ∷ ts) ≡ lacks_enumeration w (Between true) base (t ∷ ts)
unfolding lacks_enumeration specifier_step
tag_of_braces w base t ts h n = rw (h, n) refl

pub tag_of_word : (w : ℕ) (base : Scopes) (ts : List Terminal) → sees k.OpenBrace ts ≡ false → lacks_enumeration w BehindTag base ts ≡ lacks_enumeration w (Between true) base ts
unfolding lacks_enumeration specifier_step
tag_of_word w base [] h = refl
tag_of_word w base (t ∷ ts) h = rw h refl

no_type : (j : ℕ) → (j == k.Name) ≡ false → mem j type_kinds ≡ false → (s : Scopes) (ts : List Terminal) → sees_type s ts ≡ true → sees j ts ≡ false
unfolding mem
no_type j a b s [] h = refl
no_type j a b s (t ∷ ts) h = absent type_kinds j a b refl refl s t h

pub no_braces : (s : Scopes) (ts : List Terminal) → sees_type s ts ≡ true → sees k.OpenBrace ts ≡ false
unfolding mem
no_braces s ts h = no_type k.OpenBrace refl refl s ts h

pub no_colon : (s : Scopes) (ts : List Terminal) → sees_type s ts ≡ true → sees k.Colon ts ≡ false
unfolding mem
no_colon s ts h = no_type k.Colon refl refl s ts h

pub braces_end : (es : List Entry) (y : Bool) (t : Terminal) (ts : List Terminal) → (t.kind == k.OpenBrace) ≡ true → sees_type (here es y) (t ∷ ts) ≡ false
braces_end es y t ts h = decide_false (sees_type (here es y) (t ∷ ts)) (λ e. clash _ h (no_braces (here es y) (t ∷ ts) e))

pub head_type : (es : List Entry) (j : ℕ) (y : Bool) {ts later : List Terminal} → (j == k.Name) ≡ false → is_closing j ≡ false → is_given j ≡ false
    → mem j type_kinds ≡ true → IsHead es j ts later → sees_type (here es y) ts ≡ true
head_type es j y a b c m i = subst (λ z. sees_type (here es y) z ≡ true) (sym i.tokens) (subst (λ z. mem z type_kinds ≡ true) (sym (of_kind j a b c (here es y) i.first i.is)) m)

pub enum_type : (es : List Entry) (y : Bool) {ts later : List Terminal} → IsHead es k.Enum ts later → sees_type (here es y) ts ≡ true
unfolding mem
enum_type es y i = head_type es k.Enum y refl refl refl refl i

pub struct_type : (es : List Entry) (y : Bool) {ts later : List Terminal} → IsHead es k.Struct ts later → sees_type (here es y) ts ≡ true
unfolding mem
struct_type es y i = head_type es k.Struct y refl refl refl refl i

-- braces that come are enumerators, where they are derived to their end
pub data Braces (R : Run) (c : Bool) (ts : List Terminal) : Type 0 where
  named : {t : Terminal} {us : List Terminal} → ts ≡ t ∷ us → (t.kind == k.OpenBrace) ≡ true → sees_name (here R.names false) us ≡ true → Braces R c ts
  alone : {t : Terminal} {us : List Terminal} → R.whole ≡ false → c ≡ false → ts ≡ t ∷ us → (t.kind == k.OpenBrace) ≡ true → us ≡ R.rest → Braces R c ts

pub tail_braces : (R : Run) {c : Bool} {q : ℕ} {o : Reading} {ts : List Terminal} → Tail R c q o ts → Braces R c ts
tail_braces R (Tail.full g f) = Braces.named refl g.brace g.name
tail_braces R (Tail.part v g) = elim g.name [
  | inl n ↦ Braces.named refl g.brace n
  | inr e ↦ Braces.alone v refl refl g.brace e
]

pub tail_ends : (R : Run) {c : Bool} {q : ℕ} {o : Reading} {ts : List Terminal} → Tail R c q o ts → (y : Bool) → sees_type (here R.names y) ts ≡ false
tail_ends R (Tail.full {t = t} {ts = ts} g f) y = braces_end R.names y t ts g.brace
tail_ends R (Tail.part {t = t} {ts = ts} v g) y = braces_end R.names y t ts g.brace

-- what is plain behind the tag of a structure, and braces there
pub plain_structure : (R : Run) {c : Bool} {ts : List Terminal} (w : ℕ) → c ≡ true → Plain R c ts → lacks_enumeration w BehindTag (here R.names false) ts ≡ lacks R.names w true ts
plain_structure R {ts = ts} w e (Plain.free a b) = tag_of_word w (here R.names false) ts a
plain_structure R {c = c} w e (Plain.cut v d q) = absurd (clash c e d)

pub braces_structure : (R : Run) {c : Bool} {ts : List Terminal} (w : ℕ) → c ≡ true → Braces R c ts → lacks_enumeration w BehindTag (here R.names false) ts ≡ lacks R.names w true ts
braces_structure R w e (Braces.named {t = t} {us = us} q h n) =
    subst (λ x. lacks_enumeration w BehindTag (here R.names false) x ≡ lacks R.names w true x) (sym q) (tag_of_braces w (here R.names false) t us h n)
braces_structure R {c = c} w e (Braces.alone v d q h z) = absurd (clash c e d)

-- a list that is derived to its end has braces for each enumeration that waits
mutual
  pub owed : (R : Run) {c y : Bool} {q : ℕ} {o : Reading} {ts : List Terminal} → Flat R c q y o ts → c ≡ true → (w : ℕ) → w < q → lacks R.names w y ts ≡ true
  owed R (Flat.ends i h) e w l = absurd (omega (arith, l))
  owed R (Flat.stops v) e w l = absurd (cc)
  owed R (Flat.begins v t b) e w l = absurd (cc)
  owed R (Flat.piece i f) e w l = i.lacking w ∙ owed R f e w l
  owed R (Flat.structure i p f) e w l = i.lacking w ∙ (plain_structure R w e p ∙ owed R f e w l)
  owed R (Flat.structure_before i t) e w l = i.lacking w ∙ (braces_structure R w e (tail_braces R t) ∙ owed_braces R t e true w l)
  owed R (Flat.structure_cut i v h) e w l = absurd (cc)
  owed R (Flat.enumeration i p f) e w l = i.lacking w ∙ owed R f e w l
  owed R (Flat.enumeration_before i t) e w l = i.lacking w ∙ owed_braces R t e true w l
  owed R (Flat.braces i t) e w l = i.lacking w ∙ owed_braces R t e true w (omega (arith, l))
  owed R (Flat.silent {u = u} {later = later} i v m f) e w l = i.lacking w ∙ (tag_colon w (here R.names false) u later v ∙ owed R f e w l)
  owed R (Flat.taking {u = u} {later = later} i v m f) e w l = i.lacking w ∙ (tag_colon w (here R.names false) u later v ∙ owed R f e w (omega (arith, l)))
  owed R (Flat.opening i m f) e w l = i.lacking w ∙ owed R f e (suc w) (omega (arith, l))
  owed R {y = y} (Flat.group t) e w l = owed_braces R t e y w l

  owed_braces : (R : Run) {c : Bool} {q : ℕ} {o : Reading} {ts : List Terminal} → Tail R c q o ts → c ≡ true → (y : Bool) (w : ℕ) → w < suc q → lacks R.names w y ts ≡ true
  owed_braces R (Tail.full g f) e y zero l = g.none y
  owed_braces R (Tail.full g f) e y (suc w) l = g.one w y ∙ owed R f e w (omega (arith, l))
  owed_braces R (Tail.part v g) e y w l = absurd (cc)
