-- The scan for braces that no enumeration takes passes over what stands in brackets.
use Rattle.std.proofs.Common.{zero, ◌≡◌, ℕ, suc, Bool, true, false, List, [], ◌∷◌, refl, sym, ap, ◌∙◌}
use Rattle.std.specs.Prelude.{◌==◌}
use Rattle.model_grammar.specs.declared.grammar.Terminal.{Terminal}
use Rattle.model_grammar.specs.declared.grammar.Within.TheVariants.{Between, BehindHead, Attribute, Group}
use Rattle.model_grammar.specs.NameScopes.{Scopes, is_opening, is_closing}
use Rattle.model_grammar.specs.Terminals as k
use Rattle.grammar_laws.specs.ParserTests.{past_brackets, lacks_enumeration, specifier_step}
use Rattle.grammar_laws.proofs.kinds.BracketKinds.{not_both}
use Rattle.grammar_laws.proofs.derivations.BalancedForms.{last_closing}
use Rattle.grammar_laws.proofs.scans.PastBrackets.{brackets_opening, brackets_closing, brackets_other, positive, one_more, one_less}
use Rattle.grammar_laws.proofs.enumerations.BracesScanStep.{and_false, passes_on}

group_opening : (w n : ℕ) (s : Scopes) (t : Terminal) (ts : List Terminal) → is_opening t.kind ≡ true → lacks_enumeration w (Group (suc n)) s (t ∷ ts) ≡ lacks_enumeration w (Group (suc (suc n))) s ts
unfolding specifier_step
group_opening w n s t ts o = passes_on w (Group (suc n)) (Group (suc (suc n))) s t ts (rw (o, one_more n, positive (suc n)) refl) (and_false (t.kind == k.OpenBrace)) refl

group_closing : (w n : ℕ) (s : Scopes) (t : Terminal) (ts : List Terminal) → is_closing t.kind ≡ true → lacks_enumeration w (Group (suc (suc n))) s (t ∷ ts) ≡ lacks_enumeration w (Group (suc n)) s ts
unfolding specifier_step
group_closing w n s t ts c = passes_on w (Group (suc (suc n))) (Group (suc n)) s t ts (rw (not_both t.kind c, c, one_less n, positive n) refl) (and_false (t.kind == k.OpenBrace)) refl

group_end : (w : ℕ) (s : Scopes) (t : Terminal) (ts : List Terminal) → is_closing t.kind ≡ true → lacks_enumeration w (Group 1) s (t ∷ ts) ≡ lacks_enumeration w (Between true) s ts
unfolding specifier_step
group_end w s t ts c = passes_on w (Group 1) (Between true) s t ts (rw (not_both t.kind c, c) refl) (and_false (t.kind == k.OpenBrace)) refl

group_other : (w n : ℕ) (s : Scopes) (t : Terminal) (ts : List Terminal) → is_opening t.kind ≡ false → is_closing t.kind ≡ false
    → lacks_enumeration w (Group (suc n)) s (t ∷ ts) ≡ lacks_enumeration w (Group (suc n)) s ts
unfolding specifier_step
group_other w n s t ts o c = passes_on w (Group (suc n)) (Group (suc n)) s t ts (rw (o, c, positive n) refl) (and_false (t.kind == k.OpenBrace)) refl

attribute_opening : (w n : ℕ) (b : Bool) (s : Scopes) (t : Terminal) (ts : List Terminal) → is_opening t.kind ≡ true
    → lacks_enumeration w (Attribute b (suc n)) s (t ∷ ts) ≡ lacks_enumeration w (Attribute b (suc (suc n))) s ts
unfolding specifier_step
attribute_opening w n b s t ts o = passes_on w (Attribute b (suc n)) (Attribute b (suc (suc n))) s t ts (rw (o, one_more n, positive (suc n)) refl) (and_false (t.kind == k.OpenBrace)) refl

attribute_closing : (w n : ℕ) (b : Bool) (s : Scopes) (t : Terminal) (ts : List Terminal) → is_closing t.kind ≡ true
    → lacks_enumeration w (Attribute b (suc (suc n))) s (t ∷ ts) ≡ lacks_enumeration w (Attribute b (suc n)) s ts
unfolding specifier_step
attribute_closing w n b s t ts c =
    passes_on w (Attribute b (suc (suc n))) (Attribute b (suc n)) s t ts (rw (not_both t.kind c, c, one_less n, positive n) refl) (and_false (t.kind == k.OpenBrace)) refl

attribute_end : (w : ℕ) (b : Bool) (s : Scopes) (t : Terminal) (ts : List Terminal) → is_closing t.kind ≡ true
    → lacks_enumeration w (Attribute b 1) s (t ∷ ts) ≡ lacks_enumeration w (BehindHead b) s ts
unfolding specifier_step
attribute_end w b s t ts c = passes_on w (Attribute b 1) (BehindHead b) s t ts (rw (not_both t.kind c, c) refl) (and_false (t.kind == k.OpenBrace)) refl

attribute_other : (w n : ℕ) (b : Bool) (s : Scopes) (t : Terminal) (ts : List Terminal) → is_opening t.kind ≡ false → is_closing t.kind ≡ false
    → lacks_enumeration w (Attribute b (suc n)) s (t ∷ ts) ≡ lacks_enumeration w (Attribute b (suc n)) s ts
unfolding specifier_step
attribute_other w n b s t ts o c = passes_on w (Attribute b (suc n)) (Attribute b (suc n)) s t ts (rw (o, c, positive n) refl) (and_false (t.kind == k.OpenBrace)) refl

pub over_group : (ts : List Terminal) (w n : ℕ) (s : Scopes) → lacks_enumeration w (Group (suc n)) s ts ≡ lacks_enumeration w (Between true) s (past_brackets (suc n) ts)
unfolding lacks_enumeration past_brackets
over_group [] w n s = refl
over_group (t ∷ ts) w n s = by (is_opening t.kind) (is_closing t.kind) refl refl (λ k. over_group ts w k s) n
  where
    by : (o c : Bool) → is_opening t.kind ≡ o → is_closing t.kind ≡ c
        → ((k : ℕ) → lacks_enumeration w (Group (suc k)) s ts ≡ lacks_enumeration w (Between true) s (past_brackets (suc k) ts)) → (n : ℕ)
        → lacks_enumeration w (Group (suc n)) s (t ∷ ts) ≡ lacks_enumeration w (Between true) s (past_brackets (suc n) (t ∷ ts))
    by true c o q f n = group_opening w n s t ts o ∙ (f (suc n) ∙ ap (λ z. lacks_enumeration w (Between true) s z) (sym (brackets_opening n t ts o)))
    by false true o c f zero = group_end w s t ts c ∙ ap (λ z. lacks_enumeration w (Between true) s z) (sym (last_closing t ts c))
    by false true o c f (suc n) = group_closing w n s t ts c ∙ (f n ∙ ap (λ z. lacks_enumeration w (Between true) s z) (sym (brackets_closing n t ts c)))
    by false false o c f n = group_other w n s t ts o c ∙ (f n ∙ ap (λ z. lacks_enumeration w (Between true) s z) (sym (brackets_other n t ts o c)))

pub over_attribute : (ts : List Terminal) (w n : ℕ) (b : Bool) (s : Scopes) → lacks_enumeration w (Attribute b (suc n)) s ts ≡ lacks_enumeration w (BehindHead b) s (past_brackets (suc n) ts)
unfolding lacks_enumeration past_brackets
over_attribute [] w n b s = refl
over_attribute (t ∷ ts) w n b s = by (is_opening t.kind) (is_closing t.kind) refl refl (λ k. over_attribute ts w k b s) n
  where
    by : (o c : Bool) → is_opening t.kind ≡ o → is_closing t.kind ≡ c
        → ((k : ℕ) → lacks_enumeration w (Attribute b (suc k)) s ts ≡ lacks_enumeration w (BehindHead b) s (past_brackets (suc k) ts)) → (n : ℕ)
        → lacks_enumeration w (Attribute b (suc n)) s (t ∷ ts) ≡ lacks_enumeration w (BehindHead b) s (past_brackets (suc n) (t ∷ ts))
    by true c o q f n = attribute_opening w n b s t ts o ∙ (f (suc n) ∙ ap (λ z. lacks_enumeration w (BehindHead b) s z) (sym (brackets_opening n t ts o)))
    by false true o c f zero = attribute_end w b s t ts c ∙ ap (λ z. lacks_enumeration w (BehindHead b) s z) (sym (last_closing t ts c))
    by false true o c f (suc n) = attribute_closing w n b s t ts c ∙ (f n ∙ ap (λ z. lacks_enumeration w (BehindHead b) s z) (sym (brackets_closing n t ts c)))
    by false false o c f n = attribute_other w n b s t ts o c ∙ (f n ∙ ap (λ z. lacks_enumeration w (BehindHead b) s z) (sym (brackets_other n t ts o c)))
