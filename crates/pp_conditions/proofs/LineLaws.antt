-- Steps along a line.
use Rattle.std.proofs.Common.{◌≡◌, ℕ, zero, suc, ◌+◌, ◌≤◌, Bool, true, false, ◌&&◌, ◌||◌, is_some, List, [], ◌∷◌, ◌++◌, length, drop, slice_get, Option, Some, None, Result, Ok, Err, refl, sym, ap, ◌∙◌, add-one, append_assoc, append-nil, cond}
use Rattle.std.specs.Borrow.{Bor}
use Rattle.std.specs.Option.{option_copied}
use Rattle.std.proofs.lemmas.List.{drop-drop, drop_all}
use Rattle.model_conditions.specs.declared.conditions.ConditionRule.{ConditionRule}
use Rattle.model_conditions.specs.declared.conditions.ConditionRule.TheVariants.{Malformed, LeftOut}
use Rattle.model_conditions.specs.declared.conditions.ConditionToken.{ConditionToken}
use Rattle.model_tokens.specs.PpTokens.{PpToken}
use Rattle.model_macros.specs.Macros.{Macro, spells, found, defines}
use Rattle.model_macros.specs.ReplacementLists.{LEFT, RIGHT}
use Rattle.model_macros.specs.MacroDefinitions.{is_name}
use Rattle.model_conditions.specs.Defined.{DEFINED, is_left_out, Asked, in_parentheses, operand, told, before_line, answered, answered_from}
use Rattle.model_conditions.specs.ConditionTokens.{of_part, before_part, condition_tokens}
use Rattle.pp_conditions.specs.Lines.{answered_at, with_front, Follows}
use Rattle.pp_conditions.specs.Listed.{with_tokens, Grows}
use Rattle.model_types.specs.Texts.{same_text}

drop_suc : {T : Type 0} (xs : List T) (n : ℕ) (x : T) → slice_get xs n ≡ Some x → drop n xs ≡ x ∷ drop (suc n) xs
drop_suc [] n x = λ h. cc
drop_suc (y ∷ ys) zero x = λ h. let e : y ≡ x = cc in ap (λ z. z ∷ ys) e
drop_suc (y ∷ ys) (suc n) x = λ h. drop_suc ys n x h

pub drop_at : {T : Type 0} (xs : List T) (n : ℕ) (x : T) → slice_get xs n ≡ Some x → drop n xs ≡ x ∷ drop (n + 1) xs
drop_at xs n x h = rw add-one (drop_suc xs n x h)

pub drop_none : {T : Type 0} (xs : List T) (n : ℕ) → slice_get xs n ≡ None → drop n xs ≡ []
drop_none [] zero = λ h. refl
drop_none [] (suc n) = λ h. refl
drop_none (y ∷ ys) zero = λ h. cc
drop_none (y ∷ ys) (suc n) = λ h. drop_none ys n h

-- ---- the operand of `defined`

pub nothing_inside : (line : List PpToken) (at : ℕ) → slice_get line at ≡ None → in_parentheses (drop at line) ≡ None
nothing_inside line at h = ap in_parentheses (drop_none line at h)

pub not_closed : (line : List PpToken) (at : ℕ) (x : PpToken) → slice_get line at ≡ Some x → slice_get line (at + 1) ≡ None → in_parentheses (drop at line) ≡ None
not_closed line at x h g = ap in_parentheses (drop_at line at x h ∙ ap (λ (z : List PpToken). x ∷ z) (drop_none line (at + 1) g))

inside_by : (line : List PpToken) (at : ℕ) (x y : PpToken) → slice_get line at ≡ Some x → slice_get line (at + 1) ≡ Some y →
    in_parentheses (drop at line) ≡ cond (is_name x && spells RIGHT y) (Some (record { name = x.spelling; tokens = 3 })) None
inside_by line at x y h g = ap in_parentheses (drop_at line at x h ∙ ap (λ (z : List PpToken). x ∷ z) (drop_at line (at + 1) y g))

pub both_true : (a b : Bool) → a ≡ true → b ≡ true → (a && b) ≡ true
both_true a b p q = ap (λ z. z && b) p ∙ q

pub second_false : (a b : Bool) → b ≡ false → (a && b) ≡ false
second_false true b q = q
second_false false b q = refl

pub first_false : (a b : Bool) → a ≡ false → (a && b) ≡ false
first_false a b p = ap (λ z. z && b) p

pub inside : (line : List PpToken) (at : ℕ) (x y : PpToken) → slice_get line at ≡ Some x → slice_get line (at + 1) ≡ Some y → (is_name x && spells RIGHT y) ≡ true →
    in_parentheses (drop at line) ≡ Some (record { name = x.spelling; tokens = 3 })
inside line at x y h g e = inside_by line at x y h g ∙ ap (λ b. cond b (Some (record { name = x.spelling; tokens = 3 })) None) e

pub not_inside : (line : List PpToken) (at : ℕ) (x y : PpToken) → slice_get line at ≡ Some x → slice_get line (at + 1) ≡ Some y → (is_name x && spells RIGHT y) ≡ false →
    in_parentheses (drop at line) ≡ None
not_inside line at x y h g e = inside_by line at x y h g ∙ ap (λ b. cond b (Some (record { name = x.spelling; tokens = 3 })) None) e

pub nothing_asked : (line : List PpToken) (at : ℕ) → slice_get line at ≡ None → operand (drop at line) ≡ None
nothing_asked line at h = ap operand (drop_none line at h)

operand_by : (line : List PpToken) (at : ℕ) (x : PpToken) → slice_get line at ≡ Some x →
    operand (drop at line) ≡ cond (is_name x) (Some (record { name = x.spelling; tokens = 1 })) (cond (spells LEFT x) (in_parentheses (drop (at + 1) line)) None)
operand_by line at x h = ap operand (drop_at line at x h)

pub name_asked : (line : List PpToken) (at : ℕ) (x : PpToken) → slice_get line at ≡ Some x → is_name x ≡ true →
    operand (drop at line) ≡ Some (record { name = x.spelling; tokens = 1 })
name_asked line at x h e =
    operand_by line at x h ∙ ap (λ b. cond b (Some (record { name = x.spelling; tokens = 1 })) (cond (spells LEFT x) (in_parentheses (drop (at + 1) line)) None)) e

pub parenthesis_asked : (line : List PpToken) (at : ℕ) (x : PpToken) → slice_get line at ≡ Some x → is_name x ≡ false → spells LEFT x ≡ true →
    operand (drop at line) ≡ in_parentheses (drop (at + 1) line)
parenthesis_asked line at x h e g =
    operand_by line at x h ∙ ap (λ b. cond b (Some (record { name = x.spelling; tokens = 1 })) (cond (spells LEFT x) (in_parentheses (drop (at + 1) line)) None)) e
    ∙ ap (λ b. cond b (in_parentheses (drop (at + 1) line)) None) g

pub other_asked : (line : List PpToken) (at : ℕ) (x : PpToken) → slice_get line at ≡ Some x → is_name x ≡ false → spells LEFT x ≡ false →
    operand (drop at line) ≡ None
other_asked line at x h e g =
    operand_by line at x h ∙ ap (λ b. cond b (Some (record { name = x.spelling; tokens = 1 })) (cond (spells LEFT x) (in_parentheses (drop (at + 1) line)) None)) e
    ∙ ap (λ b. cond b (in_parentheses (drop (at + 1) line)) None) g

-- ---- `defined`

known_by : (b : Bool) (m : Macro) (o : Option Macro) (c : Bool) → is_some o ≡ c → is_some (cond b (Some m) o) ≡ (b || c)
known_by true m o c h = refl
known_by false m o c h = h

copied_known : {T : Type 0} (o : Option (Bor T)) → is_some o ≡ is_some (option_copied o)
copied_known None = refl
copied_known (Some x) = refl

pub is_known : (name : List ℕ) (es : List (List ℕ × Macro)) → is_some (found name es) ≡ defines name es
is_known name [] = refl
is_known name (e ∷ es) = known_by (same_text name e.0) e.1 (found name es) (defines name es) (is_known name es)

-- a macro that is looked up
pub looked_up : (o : Option (Bor Macro)) (name : List ℕ) (es : List (List ℕ × Macro)) → option_copied o ≡ found name es → is_some o ≡ defines name es
looked_up o name es h = copied_known o ∙ ap is_some h ∙ is_known name es

passed : (macros : List (List ℕ × Macro)) (n : ℕ) (ts : List PpToken) → answered_from macros n ts ≡ answered_from macros 0 (drop n ts)
passed macros zero ts = refl
passed macros (suc n) [] = refl
passed macros (suc n) (t ∷ ts) = passed macros n ts

-- the token of a rank, and what follows it
here : (macros : List (List ℕ × Macro)) (line : List PpToken) (at : ℕ) (t : PpToken) → slice_get line at ≡ Some t →
    answered_at macros line at ≡ answered_from macros 0 (t ∷ drop (at + 1) line)
here macros line at t h = ap (answered_from macros 0) (drop_at line at t h)

at_defined : (macros : List (List ℕ × Macro)) (t : PpToken) (ts : List PpToken) → spells DEFINED t ≡ true →
    answered_from macros 0 (t ∷ ts) ≡ answered macros t (operand ts) (λ n. answered_from macros n ts)
at_defined macros t ts d =
    ap (λ b. cond b (answered macros t (operand ts) (λ n. answered_from macros n ts))
    (cond (is_left_out t) (Err LeftOut) (before_line t (answered_from macros 0 ts)))) d

at_other : (macros : List (List ℕ × Macro)) (t : PpToken) (ts : List PpToken) → spells DEFINED t ≡ false →
    answered_from macros 0 (t ∷ ts) ≡ cond (is_left_out t) (Err LeftOut) (before_line t (answered_from macros 0 ts))
at_other macros t ts d =
    ap (λ b. cond b (answered macros t (operand ts) (λ n. answered_from macros n ts))
    (cond (is_left_out t) (Err LeftOut) (before_line t (answered_from macros 0 ts)))) d

pub misses : (macros : List (List ℕ × Macro)) (line : List PpToken) (at : ℕ) (t : PpToken) → slice_get line at ≡ Some t →
    spells DEFINED t ≡ true → operand (drop (at + 1) line) ≡ None → answered_at macros line at ≡ Err Malformed
misses macros line at t h d o =
    here macros line at t h ∙ at_defined macros t (drop (at + 1) line) d
    ∙ ap (λ a. answered macros t a (λ n. answered_from macros n (drop (at + 1) line))) o

pub leaves_out : (macros : List (List ℕ × Macro)) (line : List PpToken) (at : ℕ) (t : PpToken) → slice_get line at ≡ Some t →
    spells DEFINED t ≡ false → is_left_out t ≡ true → answered_at macros line at ≡ Err LeftOut
leaves_out macros line at t h d l =
    here macros line at t h ∙ at_other macros t (drop (at + 1) line) d
    ∙ ap (λ b. cond b (Err LeftOut) (before_line t (answered_from macros 0 (drop (at + 1) line)))) l

front_before : (front : List PpToken) (t : PpToken) (r : Result (List PpToken) ConditionRule) → with_front (front ++ t ∷ []) r ≡ with_front front (before_line t r)
front_before front t (Ok ts) = ap Ok (append_assoc front (t ∷ []) ts)
front_before front t (Err rule) = refl

pub keeps : (macros : List (List ℕ × Macro)) (line : List PpToken) (at : ℕ) (t : PpToken) (out : List PpToken) → slice_get line at ≡ Some t →
    spells DEFINED t ≡ false → is_left_out t ≡ false → Follows macros line at (at + 1) out (out ++ t ∷ [])
keeps macros line at t out h d l =
    front_before out t (answered_at macros line (at + 1))
    ∙ ap (with_front out) (sym (here macros line at t h ∙ at_other macros t (drop (at + 1) line) d
    ∙ ap (λ b. cond b (Err LeftOut) (before_line t (answered_from macros 0 (drop (at + 1) line)))) l))

pub tells : (macros : List (List ℕ × Macro)) (line : List PpToken) (at : ℕ) (t : PpToken) (a : Asked) (out : List PpToken) → slice_get line at ≡ Some t →
    spells DEFINED t ≡ true → operand (drop (at + 1) line) ≡ Some a →
    Follows macros line at (at + 1 + a.tokens) out (out ++ told t (defines a.name macros) ∷ [])
tells macros line at t a out h d o =
    let u : PpToken = told t (defines a.name macros) in
    let e : answered_at macros line at ≡ before_line u (answered_at macros line (at + 1 + a.tokens)) =
    here macros line at t h ∙ at_defined macros t (drop (at + 1) line) d
    ∙ ap (λ x. answered macros t x (λ n. answered_from macros n (drop (at + 1) line))) o
    ∙ ap (before_line u) (passed macros a.tokens (drop (at + 1) line) ∙ ap (answered_from macros 0) (drop-drop a.tokens (at + 1) line)) in
    front_before out u (answered_at macros line (at + 1 + a.tokens)) ∙ ap (with_front out) (sym e)

pub passes : (macros : List (List ℕ × Macro)) (line : List PpToken) (at : ℕ) (out : List PpToken) → slice_get line at ≡ None → Follows macros line at (at + 1) out out
passes macros line at out h =
    ap (λ (z : List PpToken). with_front out (answered_from macros 0 z))
    (sym (drop-drop 1 at line) ∙ ap (drop 1) (drop_none line at h) ∙ sym (drop_none line at h))

pub ended : (macros : List (List ℕ × Macro)) (line : List PpToken) (at : ℕ) (out : List PpToken) → length line ≤ at → with_front out (answered_at macros line at) ≡ Ok out
ended macros line at out h = ap (λ (z : List PpToken). with_front out (answered_from macros 0 z)) (drop_all at line h) ∙ ap Ok (append-nil out)

-- ---- tokens of a condition

front_part : (front : List ConditionToken) (c : ConditionToken) (r : Result (List ConditionToken) ConditionRule) → with_tokens (front ++ c ∷ []) r ≡ with_tokens front (before_part (Ok c) r)
front_part front c (Ok ts) = ap Ok (append_assoc front (c ∷ []) ts)
front_part front c (Err rule) = refl

pub part : (line : List PpToken) (at : ℕ) (t : PpToken) (c : ConditionToken) (out : List ConditionToken) → slice_get line at ≡ Some t →
    of_part t.kind t ≡ Ok c → Grows line at out (out ++ c ∷ [])
part line at t c out h p =
    front_part out c (condition_tokens (drop (at + 1) line))
    ∙ ap (with_tokens out) (sym (ap condition_tokens (drop_at line at t h) ∙ ap (λ x. before_part x (condition_tokens (drop (at + 1) line))) p))

pub no_part : (line : List PpToken) (at : ℕ) (t : PpToken) (rule : ConditionRule) → slice_get line at ≡ Some t →
    of_part t.kind t ≡ Err rule → condition_tokens (drop at line) ≡ Err rule
no_part line at t rule h p =
    ap condition_tokens (drop_at line at t h) ∙ ap (λ x. before_part x (condition_tokens (drop (at + 1) line))) p
