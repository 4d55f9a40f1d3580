-- The state of a replacement: a list that is worked through, and the calls that wait for it.
use Rattle.std.specs.Prelude.{◌≡◌, ℕ, ◌+◌, ◌-◌, ◌*◌, ◌<◌, ◌≤◌, true, false, max, if◌then◌else◌, List, [], ◌∷◌, length, map, drop, ◌⊎◌, Some, None, Result, Ok, Err}
use Rattle.cake_base.specs.declared.places.Place.{Place}
use Rattle.model_tokens.specs.PpTokens.{PpToken}
use Rattle.model_macros.specs.HideSets.{holds}
use Rattle.model_macros.specs.Macros.{Macro, Macros, ranked}
use Rattle.model_macros.specs.MacroArguments.{Painted, Run, Inside, inside, placed, arguments, opens}
use Rattle.model_macros.specs.Pasting.{fresh}
use Rattle.model_macros.specs.Substitution.{Argument, Use, unreplaced, uses, with_replaced, wanted, waits, substituted}
use Rattle.model_macros.specs.Expansion.{Answer, broken, passed, MADE, Call, Expands, Fills}
use Rattle.model_macros.specs.apparatus.ExpansionRules.{with_front, function_call}
use Rattle.model_macros.specs.ExpansionFunction.{expand}
use Rattle.pp_definitions.specs.declared.errors.MacroError.{MacroError}
use Rattle.pp_definitions.specs.declared.errors.MacroError.TheVariants as macro_error
use Rattle.pp_definitions.specs.Answers.{rule_at}

-- a call that waits for one of its arguments: what it still asks for, the rank of the argument that is
-- replaced now, and what stands before the call
pub record Waiting : Type 0 where
  pub call : Call
  pub uses : List Use
  pub args : List Argument
  pub rank : ℕ
  pub out : Run

-- the uses from the first on that is wanted
abbrev pub from_wanted : List Argument → ℕ → List Use → List Use
from_wanted args last [] = []
from_wanted args last (u ∷ us) = if wanted args last u then u ∷ us else from_wanted args last us

-- the answer a for the whole, where the innermost list has the answer b
abbrev pub Ends : Macros → List Waiting → Answer → Answer → Type 0
Ends table [] b a = a ≡ b
Ends table (f ∷ fs) (Err e) a = a ≡ Err e
Ends table (f ∷ fs) (Ok v) a = (c : Answer) × Fills table f.call f.uses (with_replaced f.args f.rank v.0) v.1 c × Ends table fs (with_front f.out c) a

-- what the whole gives, where a list is worked through
pub record Gives (table : Macros) (fs : List Waiting) (pending out : Run) (made : ℕ) (a : Answer) : Type 0 where
  pub inner : Answer
  pub expands : Expands table pending made inner
  pub ends : Ends table fs (with_front out inner) a

-- what the whole gives, where a call goes on
pub record GoesOn (table : Macros) (f : Waiting) (fs : List Waiting) (made : ℕ) (a : Answer) : Type 0 where
  pub inner : Answer
  pub fills : Fills table f.call f.uses f.args made inner
  pub ends : Ends table fs (with_front f.out inner) a

-- ---- the work that is left

abbrev pub argument_weight : Argument → ℕ
argument_weight a = if waits a.replaced then 1 + length a.written else 0

abbrev pub arguments_weight : List Argument → ℕ
arguments_weight [] = 0
arguments_weight (a ∷ rest) = argument_weight a + arguments_weight rest

abbrev pub waiting_weight : Waiting → ℕ
waiting_weight f = length f.call.rest + arguments_weight f.args + 1

abbrev pub all_weight : List Waiting → ℕ
all_weight [] = 0
all_weight (f ∷ fs) = waiting_weight f + all_weight fs

abbrev pub remaining : ℕ → ℕ → ℕ
remaining made weight = 2 * (MADE - made) + weight

-- ---- what the functions answer

-- whether a text of that length may be counted, and the count then
abbrev pub Charges : ℕ → ℕ → Place → Result (Unit {0}) MacroError → ℕ → Type 0
Charges made len place (Ok u) more = (more ≡ made + max 1 len) × (more ≤ MADE)
Charges made len place (Err e) more = (more ≡ made) × (MADE < made + max 1 len) × (e ≡ macro_error.Limit (record { place = place; limit = record { number = 4 } }))

-- the answer that an error stands for; none for the want of memory
abbrev pub Stops : (Answer → Type 0) → MacroError → ℕ → Type 0
Stops P (macro_error.Fault f) made = P (Err (broken f, made))
Stops P (macro_error.Limit l) made = P (Err (passed l, made))
Stops P macro_error.NoMemory made = Unit {0}

-- a call whose arguments are replaced gives its text, which is counted, or ends all
abbrev pub Finishes : Macros → Call → List Argument → ℕ → Result Run MacroError → ℕ → Type 0
Finishes table c args made (Ok body) more = (substituted table.files c.name c.hides c.def args ≡ Some body) × (more ≡ made + max 1 (length body)) × (more ≤ MADE)
Finishes table c args made (Err e) more = Stops (Fills table c [] args made) e more

-- What the tokens of a list are replaced by, or why they aren't; `made` counts the tokens made.
abbrev pub Expanded : Macros → List PpToken → ℕ → Result (List PpToken) MacroError → ℕ → Type 0
Expanded table toks made (Ok list) more = (run : Run) × (expand table (map fresh toks) made ≡ Ok (run, more)) × (list ≡ map (λ p. p.tok) run)
Expanded table toks made (Err (macro_error.Fault f)) more = expand table (map fresh toks) made ≡ Err (broken f, more)
Expanded table toks made (Err (macro_error.Limit l)) more = expand table (map fresh toks) made ≡ Err (passed l, more)
Expanded table toks made (Err macro_error.NoMemory) more = Unit {0}

-- a macro that replaces a token: one without parameters, or one whose parenthesis follows
pub record Shown (table : Macros) (p : Painted) (ps : Run) (n : ℕ) (m : Macro) : Type 0 where
  pub known : ranked p.tok.spelling table.entries ≡ Some (n, m)
  pub free : holds n p.hides ≡ false
  pub follows : (names : List (List ℕ)) → m.params ≡ Some names → opens ps ≡ true

-- a call whose arguments are there
pub record Called (p : Painted) (n : ℕ) (m : Macro) (ps out : Run) (w : Waiting) : Type 0 where
  pub i : Inside
  pub runs : List Run
  pub found : placed p.tok.place (inside 0 (drop 1 ps)) ≡ Some i
  pub counted : arguments m i.tokens ≡ Some runs
  pub is : w ≡ record { call = function_call p n m i; uses = uses m; args = map unreplaced runs; rank = 0; out = out }

-- a call that isn't ended, or whose arguments are too few or too many
abbrev pub Refused : Painted → Macro → Run → MacroError → Type 0
Refused p m ps (macro_error.Fault f) =
    ((placed p.tok.place (inside 0 (drop 1 ps)) ≡ None) × (f ≡ rule_at p.tok.place 7))
    ⊎ ((i : Inside) × (placed p.tok.place (inside 0 (drop 1 ps)) ≡ Some i) × (arguments m i.tokens ≡ None) × (f ≡ rule_at p.tok.place 6))
Refused p m ps (macro_error.Limit l) = ⊥
Refused p m ps macro_error.NoMemory = Unit {0}

-- the arguments of a call, the parenthesis that closes it, and what follows
pub record CallParts (p : Painted) (m : Macro) (ps : Run) (runs : List Run) (close : Painted) (rest : Run) : Type 0 where
  pub tokens : Run
  pub found : placed p.tok.place (inside 0 (drop 1 ps)) ≡ Some (record { tokens = tokens; close = close; rest = rest })
  pub counted : arguments m tokens ≡ Some runs

-- the call that a token begins
abbrev pub Begins : Macros → Painted → Run → Run → Waiting → Type 0
Begins table p ps out w = ((fs : List Waiting) (made : ℕ) (a : Answer) → GoesOn table w fs made a → Gives table fs (p ∷ ps) out made a) × (waiting_weight w ≤ length ps + 1)

-- what replacement gives, or why it ends
abbrev pub Answers : Macros → Run → ℕ → Result Run MacroError → ℕ → Type 0
Answers table run made (Ok v) more = Expands table run made (Ok (v, more))
Answers table run made (Err e) more = Stops (Expands table run made) e more
