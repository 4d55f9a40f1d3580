-- A reading of words, one word further.
use Rattle.std.proofs.Common.{◌≡◌, ℕ, suc, ◌+◌, List, [], ◌∷◌, ◌++◌, Option, Some, None, Bool, true, false, if◌then◌else◌, Result, Ok, Err, refl, sym, ap, ◌∙◌, append_assoc, arith}
use Rattle.std.proofs.Common.{◌<◌, length, get_or, drop, map, subst}
use Rattle.std.proofs.Math.Seq.{drop-cons}
use Rattle.std.specs.Prelude.{IfOk}
use Rattle.model_preprocessing.specs.PreprocessedUnit.{Options, command_lines}
use Rattle.cake_cli.specs.Words.{Plan, Meaning, Asks, Defines, Searches, Names, Expects, EndsOptions, Nothing, Met, meaning, is_good, behind, with_option, adds, plan_from, plan}
use Rattle.cake_cli.specs.WordsRead.{step, Leads, both, prefixed, with_meaning, plan_as, Answers}
use Rattle.cake_cli.specs.declared.words.Plan as code
use Rattle.cake_cli.specs.declared.words.WordsError.{WordsError}
use Rattle.cake_cli.proofs.LineBounds.{lines_bounded}

some_none : (p : Meaning × Met) → Some p ≡ None → ⊥
some_none p e = cc

some_same : (p q : Meaning × Met) → Some p ≡ Some q → p ≡ q
some_same p q e = cc

bad_by : (good : Bool) (m : Meaning) (next : Met) (rest : Result Plan ℕ) (number : ℕ) → if◌then◌else◌ {A = Option (Meaning × Met)} good (Some (m, next)) None ≡ None → (if good then adds m rest else Err number) ≡ Err number
bad_by true m next rest number e = absurd (some_none (m, next) e)
bad_by false m next rest number e = refl

-- a bad word ends the reading
pub plan_from-bad : (met : Met) (number : ℕ) (word : List ℕ) (words : List (List ℕ)) → step met word ≡ None → plan_from met number (word ∷ words) ≡ Err number
plan_from-bad met number word words e = bad_by (is_good met word) (meaning met word) (behind met word) (plan_from (behind met word) (number + 1) words) number e

good_by : (good : Bool) (m n : Meaning) (next other : Met) (number : ℕ) (words : List (List ℕ)) → if◌then◌else◌ {A = Option (Meaning × Met)} good (Some (m, next)) None ≡ Some (n, other) → (if good then adds m (plan_from next (number + 1) words) else Err number) ≡ adds n (plan_from other (number + 1) words)
good_by true m n next other number words e =
    let same = some_same (m, next) (n, other) e in
    ap (λ (p : Meaning × Met). adds p.0 (plan_from p.1 (number + 1) words)) same
good_by false m n next other number words e = absurd (some_none (n, other) (sym e))

-- a good one goes before what is read behind it
pub plan_from-good : (met : Met) (number : ℕ) (word : List ℕ) (words : List (List ℕ)) (m : Meaning) (next : Met) → step met word ≡ Some (m, next) → plan_from met number (word ∷ words) ≡ adds m (plan_from next (number + 1) words)
plan_from-good met number word words m next e = good_by (is_good met word) (meaning met word) m (behind met word) next number words e

leads_by : (m : Meaning) (rest whole : Result Plan ℕ) → Leads (adds m rest) whole → Leads rest whole
leads_by m (Ok plan) whole h = h
leads_by m (Err number) whole h = h

added_options : (m : Meaning) (o p : Options) → both o (with_option m p) ≡ both (with_meaning m o) p
added_options (Asks mode) o p = refl
added_options (Names file) o p = refl
added_options (Expects next) o p = refl
added_options EndsOptions o p = refl
added_options Nothing o p = refl
added_options (Defines name value) o p = ap (λ d. record { defines = d; dirs = o.dirs ++ p.dirs }) (sym (append_assoc o.defines ((name, value) ∷ []) p.defines))
added_options (Searches directory) o p = ap (λ d. record { defines = o.defines ++ p.defines; dirs = d }) (sym (append_assoc o.dirs (directory ∷ []) p.dirs))

prefixed_by : (m : Meaning) (o : Options) (rest : Result Plan ℕ) → prefixed o (adds m rest) ≡ prefixed (with_meaning m o) rest
prefixed_by m o (Ok plan) = ap (λ x. Ok (record plan { options = x })) (added_options m o plan.options)
prefixed_by m o (Err number) = refl

-- the words that are left, one by one
pub rest_is : {A : Type 0} (f : A → List ℕ) (ws : List A) (i : ℕ) (w : A) (word : List ℕ) → i < length ws → w ≡ get_or ws i w → word ≡ f w → map f (drop i ws) ≡ word ∷ map f (drop (i + 1) ws)
rest_is f ws i w word h is text =
    ap (map f) (drop-cons ws i w h)
    ∙ ap (λ x. f x ∷ map f (drop (suc i) ws)) (sym is)
    ∙ ap (λ k. f w ∷ map f (drop k ws)) (one_more i)
    ∙ ap (λ x. x ∷ map f (drop (i + 1) ws)) (sym text)
  where
    one_more : (i : ℕ) → suc i ≡ i + 1
    one_more i = omega arith

pub leads_bad : (met : Met) (number : ℕ) (word : List ℕ) (words rest : List (List ℕ)) (whole : Result Plan ℕ) → rest ≡ word ∷ words → step met word ≡ None → Leads (plan_from met number rest) whole → whole ≡ Err number
leads_bad met number word words rest whole is e h =
    subst (λ r. Leads r whole) (ap (plan_from met number) is ∙ plan_from-bad met number word words e) h

pub leads_good : (met next : Met) (m : Meaning) (number : ℕ) (word : List ℕ) (words rest : List (List ℕ)) (whole : Result Plan ℕ) → rest ≡ word ∷ words → step met word ≡ Some (m, next) → Leads (plan_from met number rest) whole → Leads (plan_from next (number + 1) words) whole
leads_good met next m number word words rest whole is e h =
    leads_by m (plan_from next (number + 1) words) whole
    (subst (λ r. Leads r whole) (ap (plan_from met number) is ∙ plan_from-good met number word words m next e) h)

pub prefixed_bad : (o : Options) (met : Met) (number : ℕ) (word : List ℕ) (words rest : List (List ℕ)) (whole : Result Plan ℕ) → rest ≡ word ∷ words → step met word ≡ None → prefixed o (plan_from met number rest) ≡ whole → whole ≡ Err number
prefixed_bad o met number word words rest whole is e h =
    sym h ∙ ap (prefixed o) (ap (plan_from met number) is ∙ plan_from-bad met number word words e)

pub prefixed_good : (o o' : Options) (met next : Met) (m : Meaning) (number : ℕ) (word : List ℕ) (words rest : List (List ℕ)) (whole : Result Plan ℕ) → rest ≡ word ∷ words → step met word ≡ Some (m, next) → o' ≡ with_meaning m o → prefixed o (plan_from met number rest) ≡ whole → prefixed o' (plan_from next (number + 1) words) ≡ whole
prefixed_good o o' met next m number word words rest whole is e added h =
    ap (λ p. prefixed p (plan_from next (number + 1) words)) added
    ∙ sym (prefixed_by m o (plan_from next (number + 1) words))
    ∙ ap (prefixed o) (sym (ap (plan_from met number) is ∙ plan_from-good met number word words m next e))
    ∙ h

-- what a call answers has lines that are short enough
pub answered_lines : (words : List (List ℕ)) (result : Result code.Plan WordsError) → Answers result (plan words) → IfOk result (λ p. length (command_lines p.options.defines) < 4294967295)
answered_lines words (Ok p) (file, named, is) = lines_bounded words (plan_as p file) is
answered_lines words (Err e) is = tt

-- the file of a plan under its other name
pub named_plan : (whole : Result Plan ℕ) (p : code.Plan) (file name : List ℕ) → p.file ≡ Some file → p.file ≡ Some name → whole ≡ Ok (plan_as p file) → whole ≡ Ok (plan_as p name)
named_plan whole p file name is as_ e = e ∙ ap (λ f. Ok (plan_as p f)) (let both : Some file ≡ Some name = sym is ∙ as_ in cc)
