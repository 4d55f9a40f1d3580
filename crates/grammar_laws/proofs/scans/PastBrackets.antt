-- The scans over specifiers and declarators pass over what stands in brackets as the scan for the closing bracket does.
use Rattle.std.proofs.Common.{zero, arith, ◌-◌, ◌≡◌, ℕ, suc, ◌+◌, length, Bool, true, false, ◌||◌, List, [], ◌∷◌, refl, sym, ap, subst, ◌∙◌}
use Rattle.std.proofs.lemmas.Bool.{eqb-true}
use Rattle.std.specs.Prelude.{◌==◌}
use Rattle.model_grammar.specs.declared.grammar.Terminal.{Terminal}
use Rattle.model_grammar.specs.declared.grammar.Within.TheVariants.{Between, BehindHead, Attribute, Group}
use Rattle.model_grammar.specs.declared.grammar.Tree.{Tree}
use Rattle.model_grammar.specs.GrammarForm.{Form, mem}
use Rattle.model_grammar.specs.NameScopes.{Scopes, kind, is_opening, is_closing}
use Rattle.model_grammar.specs.Derivation.{Derives}
use Rattle.grammar_laws.specs.ParserTests.{parsed, past_brackets, past_specifiers, specifier_step, past_declarator}
use Rattle.grammar_laws.proofs.kinds.TokenKinds.{decide}
use Rattle.grammar_laws.proofs.kinds.BracketKinds.{not_both, closing_kind}
use Rattle.grammar_laws.proofs.derivations.ClearBrackets.{closing, at_closing}
use Rattle.grammar_laws.proofs.derivations.BalancedForms.{even, level, passes_over, last_closing}

pub positive : (n : ℕ) → (suc n == 0) ≡ false
positive n = decide (suc n == 0) (λ e. let q : suc n ≡ 0 = eqb-true (suc n) 0 e in absurd (omega arith))

not_one : (n : ℕ) → (suc (suc n) == 1) ≡ false
not_one n = decide (suc (suc n) == 1) (λ e. let q : suc (suc n) ≡ 1 = eqb-true (suc (suc n)) 1 e in absurd (omega arith))

pub one_more : (n : ℕ) → suc n + 1 ≡ suc (suc n)
one_more n = omega arith

pub one_less : (n : ℕ) → suc (suc n) - 1 ≡ suc n
one_less n = omega arith

pub or_false : (b : Bool) → (b || false) ≡ b
or_false true = refl
or_false false = refl

group_opening : (n : ℕ) (s : Scopes) (t : Terminal) (ts : List Terminal) → is_opening t.kind ≡ true → past_specifiers (Group (suc n)) s (t ∷ ts) ≡ past_specifiers (Group (suc (suc n))) s ts
unfolding past_specifiers specifier_step
group_opening n s t ts o = rw (o, one_more n, positive (suc n)) refl

group_closing : (n : ℕ) (s : Scopes) (t : Terminal) (ts : List Terminal) → is_closing t.kind ≡ true → past_specifiers (Group (suc (suc n))) s (t ∷ ts) ≡ past_specifiers (Group (suc n)) s ts
unfolding past_specifiers specifier_step
group_closing n s t ts c = rw (not_both t.kind c, c, one_less n, positive n) refl

group_end : (s : Scopes) (t : Terminal) (ts : List Terminal) → is_closing t.kind ≡ true → past_specifiers (Group 1) s (t ∷ ts) ≡ past_specifiers (Between true) s ts
unfolding past_specifiers specifier_step
group_end s t ts c = rw (not_both t.kind c, c) refl

group_other : (n : ℕ) (s : Scopes) (t : Terminal) (ts : List Terminal) → is_opening t.kind ≡ false → is_closing t.kind ≡ false
    → past_specifiers (Group (suc n)) s (t ∷ ts) ≡ past_specifiers (Group (suc n)) s ts
unfolding past_specifiers specifier_step
group_other n s t ts o c = rw (o, c, positive n) refl

attribute_opening : (n : ℕ) (b : Bool) (s : Scopes) (t : Terminal) (ts : List Terminal) → is_opening t.kind ≡ true
    → past_specifiers (Attribute b (suc n)) s (t ∷ ts) ≡ past_specifiers (Attribute b (suc (suc n))) s ts
unfolding past_specifiers specifier_step
attribute_opening n b s t ts o = rw (o, one_more n, positive (suc n)) refl

attribute_closing : (n : ℕ) (b : Bool) (s : Scopes) (t : Terminal) (ts : List Terminal) → is_closing t.kind ≡ true
    → past_specifiers (Attribute b (suc (suc n))) s (t ∷ ts) ≡ past_specifiers (Attribute b (suc n)) s ts
unfolding past_specifiers specifier_step
attribute_closing n b s t ts c = rw (not_both t.kind c, c, one_less n, positive n) refl

attribute_end : (b : Bool) (s : Scopes) (t : Terminal) (ts : List Terminal) → is_closing t.kind ≡ true → past_specifiers (Attribute b 1) s (t ∷ ts) ≡ past_specifiers (BehindHead b) s ts
unfolding past_specifiers specifier_step
attribute_end b s t ts c = rw (not_both t.kind c, c) refl

attribute_other : (n : ℕ) (b : Bool) (s : Scopes) (t : Terminal) (ts : List Terminal) → is_opening t.kind ≡ false → is_closing t.kind ≡ false
    → past_specifiers (Attribute b (suc n)) s (t ∷ ts) ≡ past_specifiers (Attribute b (suc n)) s ts
unfolding past_specifiers specifier_step
attribute_other n b s t ts o c = rw (o, c, positive n) refl

declarator_opening : (n : ℕ) (t : Terminal) (ts : List Terminal) → is_opening t.kind ≡ true → past_declarator (suc n) (t ∷ ts) ≡ past_declarator (suc (suc n)) ts
unfolding past_declarator
declarator_opening n t ts o = rw (positive n, o, one_more n) refl

declarator_closing : (n m : ℕ) (t : Terminal) (ts : List Terminal) → is_closing t.kind ≡ true → suc n - 1 ≡ m → past_declarator (suc n) (t ∷ ts) ≡ past_declarator m ts
unfolding past_declarator
declarator_closing n m t ts c q = rw (positive n, not_both t.kind c, c, q) refl

declarator_other : (n : ℕ) (t : Terminal) (ts : List Terminal) → is_opening t.kind ≡ false → is_closing t.kind ≡ false → past_declarator (suc n) (t ∷ ts) ≡ past_declarator (suc n) ts
unfolding past_declarator
declarator_other n t ts o c = rw (positive n, o, c) refl

-- and the scan for the closing bracket
pub brackets_opening : (n : ℕ) (t : Terminal) (ts : List Terminal) → is_opening t.kind ≡ true → past_brackets (suc n) (t ∷ ts) ≡ past_brackets (suc (suc n)) ts
unfolding past_brackets
brackets_opening n t ts o = rw (o, one_more n) refl

pub brackets_closing : (n : ℕ) (t : Terminal) (ts : List Terminal) → is_closing t.kind ≡ true → past_brackets (suc (suc n)) (t ∷ ts) ≡ past_brackets (suc n) ts
unfolding past_brackets
brackets_closing n t ts c = rw (not_both t.kind c, c, not_one n, one_less n) refl

pub brackets_other : (n : ℕ) (t : Terminal) (ts : List Terminal) → is_opening t.kind ≡ false → is_closing t.kind ≡ false → past_brackets (suc n) (t ∷ ts) ≡ past_brackets (suc n) ts
unfolding past_brackets
brackets_other n t ts o c = rw (o, c) refl

pub over_group : (ts : List Terminal) (n : ℕ) (s : Scopes) → past_specifiers (Group (suc n)) s ts ≡ past_specifiers (Between true) s (past_brackets (suc n) ts)
unfolding past_specifiers past_brackets
over_group [] n s = refl
over_group (t ∷ ts) n s = by (is_opening t.kind) (is_closing t.kind) refl refl (λ k. over_group ts k s) n
  where
    by : (o c : Bool) → is_opening t.kind ≡ o → is_closing t.kind ≡ c
        → ((k : ℕ) → past_specifiers (Group (suc k)) s ts ≡ past_specifiers (Between true) s (past_brackets (suc k) ts)) → (n : ℕ)
        → past_specifiers (Group (suc n)) s (t ∷ ts) ≡ past_specifiers (Between true) s (past_brackets (suc n) (t ∷ ts))
    by true c o q f n = group_opening n s t ts o ∙ (f (suc n) ∙ ap (λ z. past_specifiers (Between true) s z) (sym (brackets_opening n t ts o)))
    by false true o c f zero = group_end s t ts c ∙ ap (λ z. past_specifiers (Between true) s z) (sym (last_closing t ts c))
    by false true o c f (suc n) = group_closing n s t ts c ∙ (f n ∙ ap (λ z. past_specifiers (Between true) s z) (sym (brackets_closing n t ts c)))
    by false false o c f n = group_other n s t ts o c ∙ (f n ∙ ap (λ z. past_specifiers (Between true) s z) (sym (brackets_other n t ts o c)))

pub over_attribute : (ts : List Terminal) (n : ℕ) (b : Bool) (s : Scopes) → past_specifiers (Attribute b (suc n)) s ts ≡ past_specifiers (BehindHead b) s (past_brackets (suc n) ts)
unfolding past_specifiers past_brackets
over_attribute [] n b s = refl
over_attribute (t ∷ ts) n b s = by (is_opening t.kind) (is_closing t.kind) refl refl (λ k. over_attribute ts k b s) n
  where
    by : (o c : Bool) → is_opening t.kind ≡ o → is_closing t.kind ≡ c
        → ((k : ℕ) → past_specifiers (Attribute b (suc k)) s ts ≡ past_specifiers (BehindHead b) s (past_brackets (suc k) ts)) → (n : ℕ)
        → past_specifiers (Attribute b (suc n)) s (t ∷ ts) ≡ past_specifiers (BehindHead b) s (past_brackets (suc n) (t ∷ ts))
    by true c o q f n = attribute_opening n b s t ts o ∙ (f (suc n) ∙ ap (λ z. past_specifiers (BehindHead b) s z) (sym (brackets_opening n t ts o)))
    by false true o c f zero = attribute_end b s t ts c ∙ ap (λ z. past_specifiers (BehindHead b) s z) (sym (last_closing t ts c))
    by false true o c f (suc n) = attribute_closing n b s t ts c ∙ (f n ∙ ap (λ z. past_specifiers (BehindHead b) s z) (sym (brackets_closing n t ts c)))
    by false false o c f n = attribute_other n b s t ts o c ∙ (f n ∙ ap (λ z. past_specifiers (BehindHead b) s z) (sym (brackets_other n t ts o c)))

pub over_declarator : (ts : List Terminal) (n : ℕ) → past_declarator (suc n) ts ≡ past_declarator 0 (past_brackets (suc n) ts)
unfolding past_declarator past_brackets
over_declarator [] n = refl
over_declarator (t ∷ ts) n = by (is_opening t.kind) (is_closing t.kind) refl refl (λ k. over_declarator ts k) n
  where
    by : (o c : Bool) → is_opening t.kind ≡ o → is_closing t.kind ≡ c → ((k : ℕ) → past_declarator (suc k) ts ≡ past_declarator 0 (past_brackets (suc k) ts))
        → (n : ℕ) → past_declarator (suc n) (t ∷ ts) ≡ past_declarator 0 (past_brackets (suc n) (t ∷ ts))
    by true c o q f n = declarator_opening n t ts o ∙ (f (suc n) ∙ ap (λ z. past_declarator 0 z) (sym (brackets_opening n t ts o)))
    by false true o c f zero = declarator_closing 0 0 t ts c refl ∙ ap (λ z. past_declarator 0 z) (sym (last_closing t ts c))
    by false true o c f (suc n) = declarator_closing (suc n) (suc n) t ts c (one_less n) ∙ (f n ∙ ap (λ z. past_declarator 0 z) (sym (brackets_closing n t ts c)))
    by false false o c f n = declarator_other n t ts o c ∙ (f n ∙ ap (λ z. past_declarator 0 z) (sym (brackets_other n t ts o c)))

-- the scan for the closing bracket passes over what a form derives
pub grouped : (f : Form) (s mid : Scopes) (v : Terminal) {us vs : List Terminal} {xs : List Tree} → even f 0 ≡ true → level f 0 ≡ 0 → s.brackets ≡ []
    → Derives parsed f s us xs mid (v ∷ vs) → mem (kind mid v) closing ≡ true → past_brackets 1 us ≡ vs
grouped f s mid v {us = us} {vs = vs} x l c d w =
    let p = (passes_over d 0 x).at 0 in
    let b = at_closing mid v w in
    let p' : past_brackets 1 us ≡ past_brackets 1 (v ∷ vs) =
    subst (λ z. past_brackets (suc (0 + (0 + length z))) us ≡ past_brackets 1 (v ∷ vs)) c
    (subst (λ z. past_brackets (suc (0 + (0 + length s.brackets))) us ≡ past_brackets (suc (0 + (0 + length z))) (v ∷ vs)) b (subst (λ z. past_brackets (suc (0 + (0 + length s.brackets))) us ≡ past_brackets (suc (0 + (z + length mid.brackets))) (v ∷ vs)) l p)) in
    p' ∙ last_closing v vs (closing_kind mid v w)
