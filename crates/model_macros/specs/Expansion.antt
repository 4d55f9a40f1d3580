-- Macro replacement by hide sets (ISO/IEC 9899:2024, 6.10.5, 6.10.5.1 to 6.10.5.5).
use Rattle.std.specs.Prelude.{◌≡◌, ℕ, zero, suc, ◌+◌, nat_lt, max, if◌then◌else◌, List, [], ◌∷◌, ◌++◌, length, map, drop, Option, Some, None, Result, Ok, Err}
use Rattle.cake_base.specs.declared.places.Place.{Place}
use Rattle.cake_base.specs.declared.rules.Fault.{Fault}
use Rattle.cake_base.specs.declared.rules.LimitHit.{LimitHit}
use Rattle.cake_base.specs.declared.rules.Family.TheVariants.{P}
use Rattle.model_tokens.specs.PpTokens.{PpToken}
use Rattle.model_macros.specs.HideSets.{holds, with_rank, common}
use Rattle.model_macros.specs.Macros.{Macro, Macros, ranked}
use Rattle.model_macros.specs.MacroArguments.{Painted, Run, Inside, inside, placed, opens, arguments}
use Rattle.model_macros.specs.Substitution.{Argument, Use, unreplaced, written, with_replaced, variable_rank, uses, wanted, substituted}

-- why replacement ends without a list
pub data Stop : Type 0 where
  broken : Fault → Stop
  passed : LimitHit → Stop

-- a list and the count of tokens made, or why there is none and that count
abbrev pub Answer : Type 0
Answer = Result (Run × ℕ) (Stop × ℕ)

-- the most tokens that replacement may make
abbrev pub MADE : ℕ
MADE = 4000000

abbrev pub faulty : Place → ℕ → ℕ → Option Answer
faulty place number made = Some (Err (broken (record { place = place; rule = record { family = P; number = number } }), made))

abbrev pub too_many : Place → ℕ → Option Answer
too_many place made = Some (Err (passed (record { place = place; limit = record { number = 4 } }), made))

-- ---- one step, over what the rest of the recursion gives

abbrev pub Rest : Type 0
Rest = Run → ℕ → Option Answer

abbrev pub after : Option Answer → (Run → ℕ → Option Answer) → Option Answer
after None f = None
after (Some (Ok v)) f = f v.0 v.1
after (Some (Err e)) f = Some (Err e)

-- the token stays
abbrev pub keep : Rest → Painted → Run → ℕ → Option Answer
keep rec p ps made = after (rec ps made) (λ v m. Some (Ok (p ∷ v, m)))

-- each replacement counts its tokens, and at least 1
abbrev pub cost : Run → ℕ
cost body = max 1 (length body)

-- a call: the name, the hide set of what it gives, the macro, and what follows the call
pub record Call : Type 0 where
  pub name : PpToken
  pub hides : List ℕ
  pub def : Macro
  pub rest : Run

-- a text comes in the place of the call, and is looked at again with the rest
abbrev pub replace : Rest → Call → Run → ℕ → Option Answer
replace rec c body made =
    if nat_lt MADE (made + cost body) then too_many c.name.place made else rec (body ++ c.rest) (made + cost body)

abbrev pub finish : Rest → Call → Option Run → ℕ → Option Answer
finish rec c None made = faulty c.name.place 5 made
finish rec c (Some body) made = replace rec c body made

-- Arguments are replaced one after another, each by itself and once, in the order in which the
-- replacement list first asks for them; then the list is put together.
abbrev pub fill : Macros → Rest → Call → List Use → List Argument → ℕ → Option Answer
fill table rec c [] args made = finish rec c (substituted table.files c.name c.hides c.def args) made
fill table rec c (u ∷ us) args made =
    if wanted args (variable_rank c.def) u then
    after (rec (written args u.rank) made) (λ v m. fill table rec c us (with_replaced args u.rank v) m)
    else fill table rec c us args made

abbrev pub call_with : Macros → Rest → Call → Option (List Run) → ℕ → Option Answer
call_with table rec c None made = faulty c.name.place 6 made
call_with table rec c (Some runs) made = fill table rec c (uses c.def) (map unreplaced runs) made

abbrev pub call : Macros → Rest → Painted → ℕ → Macro → Option Inside → ℕ → Option Answer
call table rec p n m None made = faulty p.tok.place 7 made
call table rec p n m (Some i) made =
    call_with table rec (record { name = p.tok; hides = with_rank (common p.hides i.close.hides) n; def = m; rest = i.rest })
    (arguments m i.tokens) made

abbrev pub at_kind : Macros → Rest → Painted → ℕ → Macro → Option (List (List ℕ)) → Run → ℕ → Option Answer
at_kind table rec p n m None ps made =
    fill table rec (record { name = p.tok; hides = with_rank p.hides n; def = m; rest = ps }) [] [] made
at_kind table rec p n m (Some names) ps made =
    if opens ps then call table rec p n m (placed p.tok.place (inside 0 (drop 1 ps))) made else keep rec p ps made

abbrev pub at_macro : Macros → Rest → Painted → Option (ℕ × Macro) → Run → ℕ → Option Answer
at_macro table rec p None ps made = keep rec p ps made
at_macro table rec p (Some r) ps made =
    if holds r.0 p.hides then keep rec p ps made else at_kind table rec p r.0 r.1 r.1.params ps made

unfoldable pub step : Macros → Rest → Rest
step table rec [] made = Some (Ok ([], made))
step table rec (p ∷ ps) made = at_macro table rec p (ranked p.tok.spelling table.entries) ps made

-- ---- the recursion

-- the answer, where that many steps in a row suffice
unfoldable pub within : Macros → ℕ → Rest
within table zero run made = None
within table (suc n) run made = step table (within table n) run made

-- what replacement gives
pub record Expands (table : Macros) (run : Run) (made : ℕ) (answer : Answer) : Type 0 where
  pub steps : ℕ
  pub gives : within table steps run made ≡ Some answer

-- what a call gives whose arguments are replaced up to here
pub record Fills (table : Macros) (c : Call) (us : List Use) (args : List Argument) (made : ℕ) (answer : Answer) : Type 0 where
  pub steps : ℕ
  pub gives : fill table (within table steps) c us args made ≡ Some answer
