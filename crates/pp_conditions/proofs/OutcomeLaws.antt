-- What becomes of a line, from what becomes of its parts.
use Rattle.std.proofs.Common.{◌≡◌, ℕ, Bool, List, map, Result, Ok, Err, sym, ap, ◌∙◌, subst, refl}
use Rattle.cake_base.specs.declared.places.Place.{Place}
use Rattle.model_conditions.specs.declared.conditions.ConditionRule.{ConditionRule}
use Rattle.model_conditions.specs.declared.conditions.ConditionToken.{ConditionToken}
use Rattle.model_tokens.specs.PpTokens.{PpToken}
use Rattle.model_macros.specs.Macros.{Macros}
use Rattle.model_macros.specs.Pasting.{fresh}
use Rattle.model_macros.specs.Expansion.{broken, passed}
use Rattle.model_macros.specs.ExpansionFunction.{expand}
use Rattle.model_conditions.specs.Defined.{defined_answered}
use Rattle.model_conditions.specs.ConditionTokens.{condition_tokens}
use Rattle.model_conditions.specs.Conditions.{condition, outcome, breaks, of_tokens, of_replaced, of_answered}
use Rattle.pp_definitions.specs.declared.errors.MacroError.{MacroError}
use Rattle.pp_definitions.specs.declared.errors.MacroError.TheVariants as macro_error
use Rattle.pp_macros.specs.Machine.{Expanded}
use Rattle.pp_conditions.specs.declared.errors.Refusal.{Refusal}
use Rattle.pp_conditions.specs.declared.errors.Refusal.TheVariants as refusal
use Rattle.pp_conditions.specs.Answers.{Evaluated, Gives, Stands, judgement}

-- before replacement
condition-broken : (table : Macros) (at : Place) (line : List PpToken) (made : ℕ) (rule : ConditionRule) → defined_answered table.entries line ≡ Err rule →
    condition table at line made ≡ breaks at rule made
unfolding condition
condition-broken table at line made rule h = ap (λ z. of_answered table at z made) h

pub unanswered : (table : Macros) (at : Place) (line : List PpToken) (made : ℕ) (e : Refusal) → Gives {T = List PpToken} (Err e) (defined_answered table.entries line) →
    (f : MacroError) → Stands at e f → Evaluated table at line made (Err f) made
unanswered table at line made (refusal.Broken rule) h f s =
    subst (λ (z : MacroError). Evaluated table at line made (Err z) made) (sym s) (condition-broken table at line made rule h)
unanswered table at line made refusal.NoMemory h f s = subst (λ (z : MacroError). Evaluated table at line made (Err z) made) (sym s) tt

-- replacement
replaced : (table : Macros) (at : Place) (line answered : List PpToken) (made : ℕ) → defined_answered table.entries line ≡ Ok answered →
    condition table at line made ≡ of_replaced at (expand table (map fresh answered) made)
unfolding condition
replaced table at line answered made h = ap (λ z. of_answered table at z made) h

pub unreplaced : (table : Macros) (at : Place) (line answered : List PpToken) (made more : ℕ) → defined_answered table.entries line ≡ Ok answered →
    (e : MacroError) → Expanded table answered made (Err e) more → Evaluated table at line made (Err e) more
unreplaced table at line answered made more h (macro_error.Fault f) x = replaced table at line answered made h ∙ ap (of_replaced at) x
unreplaced table at line answered made more h (macro_error.Limit l) x = replaced table at line answered made h ∙ ap (of_replaced at) x
unreplaced table at line answered made more h macro_error.NoMemory x = tt

-- after replacement
outcome-is : (at : Place) (r : Result (List ConditionToken) ConditionRule) (made : ℕ) → of_tokens at r made ≡ outcome at (judgement r) made
outcome-is at (Ok tokens) made = refl
outcome-is at (Err rule) made = refl

after : (table : Macros) (at : Place) (line answered list : List PpToken) (made more : ℕ) → defined_answered table.entries line ≡ Ok answered →
    Expanded table answered made (Ok list) more → condition table at line made ≡ outcome at (judgement (condition_tokens list)) more
after table at line answered list made more h x =
    replaced table at line answered made h ∙ ap (of_replaced at) x.1
    ∙ ap (λ (z : List PpToken). of_tokens at (condition_tokens z) more) (sym x.2)
    ∙ outcome-is at (condition_tokens list) more

pub judges : (table : Macros) (at : Place) (line answered list : List PpToken) (made more : ℕ) → defined_answered table.entries line ≡ Ok answered →
    Expanded table answered made (Ok list) more → (b : Bool) → judgement (condition_tokens list) ≡ Ok b → Evaluated table at line made (Ok b) more
judges table at line answered list made more h x b j = after table at line answered list made more h x ∙ ap (λ z. outcome at z more) j

pub refuses : (table : Macros) (at : Place) (line answered list : List PpToken) (made more : ℕ) → defined_answered table.entries line ≡ Ok answered →
    Expanded table answered made (Ok list) more → (e : Refusal) → Gives {T = Bool} (Err e) (judgement (condition_tokens list)) →
    (f : MacroError) → Stands at e f → Evaluated table at line made (Err f) more
refuses table at line answered list made more h x (refusal.Broken rule) g f s =
    subst (λ (z : MacroError). Evaluated table at line made (Err z) more) (sym s) (after table at line answered list made more h x ∙ ap (λ z. outcome at z more) g)
refuses table at line answered list made more h x refusal.NoMemory g f s = subst (λ (z : MacroError). Evaluated table at line made (Err z) more) (sym s) tt
