-- What follows `#pragma` (ISO/IEC 9899:2024, 6.10.8): `once`, and the words of `cake diagnostic`, which
-- set the severity of the findings at later places. Other pragmas are dropped.
use Rattle.std.specs.Prelude.{ℕ, suc, ◌+◌, ◌-◌, ◌*◌, Bool, false, ◌&&◌, ◌==◌, nat_lt, if◌then◌else◌, List, [], ◌∷◌, length, slice_index, Option, Some, None, codes}
use Rattle.std.specs.Char.{is_ascii_digit}
use Rattle.cake_base.specs.declared.rules.Family.TheVariants.{F}
use Rattle.cake_base.specs.declared.rules.Severity.{Severity}
use Rattle.cake_base.specs.declared.rules.Severity.TheVariants as severity
use Rattle.cake_base.specs.declared.rules.Act.{Act}
use Rattle.cake_base.specs.declared.rules.Act.TheVariants as act
use Rattle.cake_base.specs.declared.rules.Mark.{Mark}
use Rattle.model_preprocessing.specs.declared.directives.Pragma.{Pragma}
use Rattle.model_preprocessing.specs.declared.directives.Pragma.TheVariants as pragma
use Rattle.model_tokens.specs.PpTokens.{PpToken}
use Rattle.model_macros.specs.Macros.{spells}
use Rattle.model_types.specs.Texts.{same_text}

-- the severity of a word
abbrev pub severity_of : List ℕ → Option Severity
severity_of word =
    if same_text word (codes "error") then Some severity.Error
    else if same_text word (codes "warning") then Some severity.Warning
    else if same_text word (codes "ignored") then Some severity.Ignored else None

-- the number in the string "F" with two decimal digits, its quotes with it
abbrev pub finding_number : List ℕ → Option ℕ
finding_number s =
    if length s == 5 && (slice_index s 0 == 34 && (slice_index s 1 == 70 && (is_ascii_digit (slice_index s 2) && (is_ascii_digit (slice_index s 3) && slice_index s 4 == 34))))
    then Some (10 * (slice_index s 2 - 48) + (slice_index s 3 - 48)) else None

abbrev pub assignment : Option Severity → Option ℕ → Pragma
assignment None n = pragma.Malformed
assignment (Some s) None = pragma.Malformed
assignment (Some s) (Some n) = pragma.Marks (act.Assign s (record { family = F; number = n }))

-- what follows `cake diagnostic`
abbrev pub diagnostic : List PpToken → Pragma
diagnostic [] = pragma.Malformed
diagnostic (t ∷ []) =
    if spells (codes "push") t then pragma.Marks act.Push
    else if spells (codes "pop") t then pragma.Marks act.Pop else pragma.Malformed
diagnostic (t ∷ (u ∷ [])) = assignment (severity_of t.spelling) (finding_number u.spelling)
diagnostic (t ∷ (u ∷ (v ∷ ts))) = pragma.Malformed

-- what follows `cake`
abbrev pub cake_pragma : List PpToken → Pragma
cake_pragma [] = pragma.Malformed
cake_pragma (t ∷ ts) = if spells (codes "diagnostic") t then diagnostic ts else pragma.Malformed

-- what follows `#pragma`
abbrev pub pragma_of : List PpToken → Pragma
pragma_of [] = pragma.Dropped
pragma_of (t ∷ ts) =
    if spells (codes "once") t then pragma.Once
    else if spells (codes "cake") t then cake_pragma ts else pragma.Dropped

-- ---- the marks

abbrev pub pushes_after : ℕ → Act → ℕ
pushes_after n act.Push = suc n
pushes_after n act.Pop = n - 1
pushes_after n (act.Assign s r) = n

-- how many pushes are open after these marks, where so many were open before
abbrev pub open_pushes : ℕ → List Mark → ℕ
open_pushes n [] = n
open_pushes n (m ∷ ms) = open_pushes (pushes_after n m.act) ms

-- whether nothing was pushed that this act would give back
abbrev pub pops_nothing : Act → ℕ → Bool
pops_nothing act.Pop n = nat_lt n 1
pops_nothing act.Push n = false
pops_nothing (act.Assign s r) n = false
