-- Tokens are the condition of one tree at most, and there is exactly one judgement on them.
use Rattle.std.proofs.Common.{◌≡◌, Bool, List, [], Option, Some, None, Result, Err, refl, sym, ap, ◌∙◌, arith, append-nil}
use Rattle.model_conditions.specs.declared.conditions.ConditionRule.{ConditionRule}
use Rattle.model_conditions.specs.declared.conditions.ConditionRule.TheVariants.{Malformed}
use Rattle.model_conditions.specs.declared.conditions.ConditionToken.{ConditionToken}
use Rattle.model_conditions.specs.ConditionGrammar.{Condition, constant, unary, binary, choice, CONDITIONAL, Derives}
use Rattle.model_conditions.specs.ConditionValues as values
use Rattle.model_conditions.specs.ConditionValues.{Valued, valued, holds}
use Rattle.model_conditions.specs.apparatus.ConditionReader.{Algebra, folded, Filled, whole, read}
use Rattle.model_conditions.specs.apparatus.ConditionFrames.{stands}
use Rattle.model_conditions.specs.apparatus.ConditionBuilt.{Found, bare, finds}
use Rattle.model_conditions.specs.Judgement.{Judged, expression, no_expression}

-- what is a condition is read, and what is read is a condition

pub read-complete : {A : Type 0} (alg : Algebra A) (ts : List ConditionToken) (e : Condition) → Derives CONDITIONAL ts e → read alg ts ≡ Some (folded alg e)
read-complete {A} alg ts e d =
    let s = stands alg d [] tt [] in
    ap (read alg) (sym (append-nil ts)) ∙ s.reads ∙ ap (λ (f : Filled A). whole f) (s.fills 0 (omega arith))

pub read-sound : {A : Type 0} (alg : Algebra A) (ts : List ConditionToken) (v : A) → read alg ts ≡ Some v → Found alg v ts
read-sound alg ts v q = finds alg (record { frames = []; operand = None }) [] (bare refl) ts v q

-- ---- trees

abbrev pub trees : Algebra Condition
trees = record { of_constant = constant; of_unary = unary; of_binary = binary; of_choice = choice }

folded-tree : (e : Condition) → folded trees e ≡ e
folded-tree (constant n) = refl
folded-tree (unary op e) = ap (unary op) (folded-tree e)
folded-tree (binary op l r) = ap (λ (z : Condition). binary op z (folded trees r)) (folded-tree l) ∙ ap (binary op l) (folded-tree r)
folded-tree (choice c l r) =
    ap (λ (z : Condition). choice z (folded trees l) (folded trees r)) (folded-tree c)
    ∙ ap (λ (z : Condition). choice c z (folded trees r)) (folded-tree l) ∙ ap (choice c l) (folded-tree r)

-- a list of tokens is the condition of one tree at most
pub Derives-unique : (ts : List ConditionToken) (d e : Condition) → Derives CONDITIONAL ts d → Derives CONDITIONAL ts e → d ≡ e
Derives-unique ts d e p q =
    let f = read-complete trees ts d p in
    let g = read-complete trees ts e q in
    let h : folded trees d ≡ folded trees e = cc in
    sym (folded-tree d) ∙ h ∙ folded-tree e

-- ---- values

abbrev pub computed : Algebra Valued
computed = record { of_constant = values.of_constant; of_unary = values.of_unary; of_binary = values.of_binary; of_choice = values.of_choice }

folded-valued : (e : Condition) → folded computed e ≡ valued e
folded-valued (constant n) = refl
folded-valued (unary op e) = ap (values.of_unary op) (folded-valued e)
folded-valued (binary op l r) =
    ap (λ (z : Valued). values.of_binary op z (folded computed r)) (folded-valued l) ∙ ap (values.of_binary op (valued l)) (folded-valued r)
folded-valued (choice c l r) =
    ap (λ (z : Valued). values.of_choice z (folded computed l) (folded computed r)) (folded-valued c)
    ∙ ap (λ (z : Valued). values.of_choice (valued c) z (folded computed r)) (folded-valued l) ∙ ap (values.of_choice (valued c) (valued l)) (folded-valued r)

-- what the reader that computes answers
abbrev pub concluded : Option Valued → Result Bool ConditionRule
concluded None = Err Malformed
concluded (Some v) = holds v.value

-- ---- judgements

pub Judged-read : (ts : List ConditionToken) (o : Option Valued) → read computed ts ≡ o → Judged ts (concluded o)
Judged-read ts None q = no_expression (λ e d. let r = read-complete computed ts e d in cc) refl
Judged-read ts (Some v) q =
    let f = read-sound computed ts v q in
    let w : v ≡ valued f.e = f.value ∙ folded-valued f.e in
    expression f.e f.derives (ap (λ (z : Valued). holds z.value) w)

pub record Judges (ts : List ConditionToken) : Type 0 where
  pub answer : Result Bool ConditionRule
  pub is_judged : Judged ts answer

-- the judgement is what the reader that computes concludes
pub Judged-total : (ts : List ConditionToken) → Judges ts
Judged-total ts = record { answer = concluded (read computed ts); is_judged = Judged-read ts (read computed ts) refl }

pub Judged-unique : {ts : List ConditionToken} {a b : Result Bool ConditionRule} → Judged ts a → Judged ts b → a ≡ b
Judged-unique {ts} (expression d p q) (expression e r s) =
    let t = Derives-unique ts d e p r in q ∙ ap (λ (z : Condition). holds (valued z).value) t ∙ sym s
Judged-unique (expression d p q) (no_expression r s) = absurd (r d p)
Judged-unique (no_expression p q) (expression e r s) = absurd (p e r)
Judged-unique (no_expression p q) (no_expression r s) = q ∙ sym s
