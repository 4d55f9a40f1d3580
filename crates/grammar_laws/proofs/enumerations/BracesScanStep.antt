-- The scan for braces that no enumeration takes, over one token.
use Rattle.std.proofs.Common.{arith, ◌≡◌, ℕ, suc, ◌+◌, ◌-◌, Bool, true, false, ◌&&◌, List, ◌∷◌, Some, None, refl, ap}
use Rattle.std.proofs.lemmas.Bool.{eqb-true}
use Rattle.std.specs.Prelude.{◌==◌}
use Rattle.model_grammar.specs.declared.grammar.Rule.TheVariants as r
use Rattle.model_grammar.specs.declared.grammar.Terminal.{Terminal}
use Rattle.model_grammar.specs.declared.grammar.Within.{Within}
use Rattle.model_grammar.specs.declared.grammar.Within.TheVariants.{Between, BehindColon, BehindHead, BehindTag, BehindTypeof, Attribute, Group}
use Rattle.model_grammar.specs.GrammarForm.{mem}
use Rattle.model_grammar.specs.NameScopes.{Scopes, is_type}
use Rattle.model_grammar.specs.Terminals as k
use Rattle.grammar_laws.specs.ParserSets.{firsts}
use Rattle.grammar_laws.specs.ParserTests.{lacks_enumeration, specifier_step, behind_word, opens_enumerators, are_enumerators, awaits_braces, sees_name}
use Rattle.grammar_laws.proofs.kinds.TokenKinds.{decide}

pub and_false : (b : Bool) → (b && false) ≡ false
and_false true = refl
and_false false = refl

-- a token that opens no enumerators, and is no `:` behind which an enumeration waits for them
pub passes_on : (w : ℕ) (place next : Within) (base : Scopes) (t : Terminal) (ts : List Terminal) → specifier_step r.Squals place base t ≡ Some next
    → opens_enumerators place base t ts ≡ false → awaits_braces place t ≡ false → lacks_enumeration w place base (t ∷ ts) ≡ lacks_enumeration w next base ts
unfolding lacks_enumeration
passes_on w place next base t ts p o a = rw (p, o, a, and_false (w == 0)) refl

pub awaits_none : (place : Within) (t : Terminal) → (t.kind == k.Colon) ≡ false → awaits_braces place t ≡ false
awaits_none (BehindHead is_struct) t h = h
awaits_none _ t h = refl

-- one that is neither a brace nor `:`
pub passes_word : (w : ℕ) (place next : Within) (base : Scopes) (t : Terminal) (ts : List Terminal) → (t.kind == k.OpenBrace) ≡ false
    → (t.kind == k.Colon) ≡ false → specifier_step r.Squals place base t ≡ Some next
    → lacks_enumeration w place base (t ∷ ts) ≡ lacks_enumeration w next base ts
passes_word w place next base t ts b c p = passes_on w place next base t ts p (ap (λ z. z && are_enumerators place (sees_name base ts)) b) (awaits_none place t c)

-- where the scan doesn't go on, nothing is lacking
pub stops : (w : ℕ) (place : Within) (base : Scopes) (t : Terminal) (ts : List Terminal) → (t.kind == k.OpenBrace) ≡ false
    → specifier_step r.Squals place base t ≡ None → lacks_enumeration w place base (t ∷ ts) ≡ false
unfolding lacks_enumeration
stops w place base t ts b p = rw (b, p, and_false (w == 0)) refl

-- a word among the specifiers
pub between_word : (w : ℕ) (typed : Bool) (base : Scopes) (t : Terminal) (ts : List Terminal) → (t.kind == k.Name) ≡ false → (t.kind == k.OpenBrace) ≡ false
    → (t.kind == k.Colon) ≡ false → mem t.kind (firsts r.Squals) ≡ true
    → lacks_enumeration w (Between typed) base (t ∷ ts) ≡ lacks_enumeration w (behind_word typed t.kind) base ts
unfolding specifier_step
between_word w typed base t ts n b c h = passes_word w (Between typed) (behind_word typed t.kind) base t ts b c (rw (n, b, c, h) refl)

pub colon_word : (w : ℕ) (base : Scopes) (t : Terminal) (ts : List Terminal) → (t.kind == k.Name) ≡ false → (t.kind == k.OpenBrace) ≡ false
    → (t.kind == k.Colon) ≡ false → mem t.kind (firsts r.Squals) ≡ true → mem t.kind (firsts r.Qual) ≡ false
    → lacks_enumeration w BehindColon base (t ∷ ts) ≡ lacks_enumeration w (behind_word true t.kind) base ts
unfolding specifier_step
colon_word w base t ts n b c h q = passes_word w BehindColon (behind_word true t.kind) base t ts b c (rw (n, b, c, h, q) refl)

pub colon_qualifier : (w : ℕ) (base : Scopes) (t : Terminal) (ts : List Terminal) → (t.kind == k.OpenBrace) ≡ false → (t.kind == k.Colon) ≡ false
    → mem t.kind (firsts r.Qual) ≡ true → lacks_enumeration w BehindColon base (t ∷ ts) ≡ lacks_enumeration w BehindColon base ts
unfolding specifier_step
colon_qualifier w base t ts b c q = passes_word w BehindColon BehindColon base t ts b c (rw q refl)

-- a typedef name
pub between_name : (w : ℕ) (base : Scopes) (t : Terminal) (ts : List Terminal) → (t.kind == k.Name) ≡ true → is_type base.entries t.name ≡ true
    → lacks_enumeration w (Between false) base (t ∷ ts) ≡ lacks_enumeration w (Between true) base ts
unfolding specifier_step
between_name w base t ts n i = let p : t.kind ≡ k.Name = eqb-true t.kind k.Name n in passes_word w (Between false) (Between true) base t ts (rw p refl) (rw p refl) (rw (p, i) refl)

pub colon_name : (w : ℕ) (base : Scopes) (t : Terminal) (ts : List Terminal) → (t.kind == k.Name) ≡ true → is_type base.entries t.name ≡ true
    → lacks_enumeration w BehindColon base (t ∷ ts) ≡ lacks_enumeration w (Between true) base ts
unfolding specifier_step firsts mem
colon_name w base t ts n i = let p : t.kind ≡ k.Name = eqb-true t.kind k.Name n in passes_word w BehindColon (Between true) base t ts (rw p refl) (rw p refl) (rw (p, i) refl)

-- behind `typeof`, `struct`, `enum`
pub at_typeof : (w : ℕ) (base : Scopes) (t : Terminal) (ts : List Terminal) → (t.kind == k.OpenParenthesis) ≡ true
    → lacks_enumeration w BehindTypeof base (t ∷ ts) ≡ lacks_enumeration w (Group 1) base ts
unfolding specifier_step
at_typeof w base t ts h = let p : t.kind ≡ k.OpenParenthesis = eqb-true t.kind k.OpenParenthesis h in passes_word w BehindTypeof (Group 1) base t ts (rw p refl) (rw p refl) (rw p refl)

pub at_attribute : (w : ℕ) (i : Bool) (base : Scopes) (t : Terminal) (ts : List Terminal) → (t.kind == k.OpenBracket) ≡ true
    → lacks_enumeration w (BehindHead i) base (t ∷ ts) ≡ lacks_enumeration w (Attribute i 1) base ts
unfolding specifier_step
at_attribute w i base t ts h = let p : t.kind ≡ k.OpenBracket = eqb-true t.kind k.OpenBracket h in passes_word w (BehindHead i) (Attribute i 1) base t ts (rw p refl) (rw p refl) (rw p refl)

pub struct_tag : (w : ℕ) (base : Scopes) (t : Terminal) (ts : List Terminal) → (t.kind == k.Name) ≡ true → lacks_enumeration w (BehindHead true) base (t ∷ ts) ≡ lacks_enumeration w BehindTag base ts
unfolding specifier_step
struct_tag w base t ts h = let p : t.kind ≡ k.Name = eqb-true t.kind k.Name h in passes_word w (BehindHead true) BehindTag base t ts (rw p refl) (rw p refl) (rw p refl)

pub enum_tag : (w : ℕ) (base : Scopes) (t : Terminal) (ts : List Terminal) → (t.kind == k.Name) ≡ true
    → lacks_enumeration w (BehindHead false) base (t ∷ ts) ≡ lacks_enumeration w (Between true) base ts
unfolding specifier_step
enum_tag w base t ts h = let p : t.kind ≡ k.Name = eqb-true t.kind k.Name h in passes_word w (BehindHead false) (Between true) base t ts (rw p refl) (rw p refl) (rw p refl)

-- the `:` of an enumeration without a tag, and of one with a tag
pub head_colon : (w : ℕ) (base : Scopes) (t : Terminal) (ts : List Terminal) → (t.kind == k.Colon) ≡ true
    → lacks_enumeration w (BehindHead false) base (t ∷ ts) ≡ lacks_enumeration (suc w) BehindColon base ts
unfolding lacks_enumeration specifier_step
head_colon w base t ts h = let p : t.kind ≡ k.Colon = eqb-true t.kind k.Colon h in let q : w + 1 ≡ suc w = omega arith in rw (p, and_false (w == 0), q) refl

pub tag_colon : (w : ℕ) (base : Scopes) (t : Terminal) (ts : List Terminal) → (t.kind == k.Colon) ≡ true → lacks_enumeration w (Between true) base (t ∷ ts) ≡ lacks_enumeration w BehindColon base ts
unfolding lacks_enumeration specifier_step
tag_colon w base t ts h = let p : t.kind ≡ k.Colon = eqb-true t.kind k.Colon h in rw (p, and_false (w == 0)) refl

-- the braces of members
pub head_brace : (w : ℕ) (i : Bool) (base : Scopes) (t : Terminal) (ts : List Terminal) → (t.kind == k.OpenBrace) ≡ true
    → lacks_enumeration w (BehindHead i) base (t ∷ ts) ≡ lacks_enumeration w (Group 1) base ts
unfolding specifier_step
head_brace w i base t ts h = let p : t.kind ≡ k.OpenBrace = eqb-true t.kind k.OpenBrace h in passes_on w (BehindHead i) (Group 1) base t ts (rw p refl) (and_false (t.kind == k.OpenBrace)) (rw p refl)

pub tag_brace : (w : ℕ) (base : Scopes) (t : Terminal) (ts : List Terminal) → (t.kind == k.OpenBrace) ≡ true → sees_name base ts ≡ false
    → lacks_enumeration w BehindTag base (t ∷ ts) ≡ lacks_enumeration w (Group 1) base ts
unfolding specifier_step
tag_brace w base t ts h n = let p : t.kind ≡ k.OpenBrace = eqb-true t.kind k.OpenBrace h in passes_on w BehindTag (Group 1) base t ts (rw p refl) (rw (n, and_false (t.kind == k.OpenBrace)) refl) refl

-- the braces of enumerators: where an enumeration waits for them it takes them, and else they are lacking one
less_one : (w : ℕ) → suc w - 1 ≡ w
less_one w = omega arith

positive : (n : ℕ) → (suc n == 0) ≡ false
positive n = decide (suc n == 0) (λ e. let q : suc n ≡ 0 = eqb-true (suc n) 0 e in absurd (omega arith))

pub takes : (w : ℕ) (place : Within) (base : Scopes) (t : Terminal) (ts : List Terminal) → specifier_step r.Squals place base t ≡ Some (Group 1)
    → opens_enumerators place base t ts ≡ true → lacks_enumeration (suc w) place base (t ∷ ts) ≡ lacks_enumeration w (Group 1) base ts
unfolding lacks_enumeration
takes w place base t ts p o = rw (p, o, positive w, less_one w) refl

pub is_lacking : (place : Within) (base : Scopes) (t : Terminal) (ts : List Terminal) → opens_enumerators place base t ts ≡ true → lacks_enumeration 0 place base (t ∷ ts) ≡ true
unfolding lacks_enumeration
is_lacking place base t ts o = rw o refl

-- where they may stand
pub record IsTaking (place : Within) (base : Scopes) : Type 0 where
  pub taken : (w : ℕ) (t : Terminal) (ts : List Terminal) → (t.kind == k.OpenBrace) ≡ true → lacks_enumeration (suc w) place base (t ∷ ts) ≡ lacks_enumeration w (Group 1) base ts
  pub lacking : (t : Terminal) (ts : List Terminal) → (t.kind == k.OpenBrace) ≡ true → lacks_enumeration 0 place base (t ∷ ts) ≡ true

pub between_takes : (typed : Bool) (base : Scopes) → IsTaking (Between typed) base
unfolding specifier_step
between_takes typed base = record {
  taken = λ w t ts h. let p : t.kind ≡ k.OpenBrace = eqb-true t.kind k.OpenBrace h in takes w (Between typed) base t ts (rw p refl) (rw p refl);
  lacking = λ t ts h. is_lacking (Between typed) base t ts (rw h refl);
}

pub colon_takes : (base : Scopes) → IsTaking BehindColon base
unfolding specifier_step firsts mem
colon_takes base = record {
  taken = λ w t ts h. let p : t.kind ≡ k.OpenBrace = eqb-true t.kind k.OpenBrace h in takes w BehindColon base t ts (rw p refl) (rw p refl);
  lacking = λ t ts h. is_lacking BehindColon base t ts (rw h refl);
}
