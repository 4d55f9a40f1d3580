-- What a call answers is what a definition gives, unless memory was wanted.
use Rattle.std.specs.Prelude.{◌≡◌, Result, Ok, Err}
use Rattle.cake_base.specs.declared.rules.Fault.{Fault}
use Rattle.model_tokens.specs.declared.tokens.TokenRule.{TokenRule}
use Rattle.c_tokens.specs.declared.errors.Refusal.{Refusal}
use Rattle.c_tokens.specs.declared.errors.Refusal.TheVariants as refusal
use Rattle.c_tokens.specs.declared.errors.TokenError.{TokenError}
use Rattle.c_tokens.specs.declared.errors.TokenError.TheVariants as token_error

abbrev pub Answers : {T : Type 0} → Result T TokenError → Result T Fault → Type 0
Answers (Ok value) due = due ≡ Ok value
Answers (Err (token_error.Fault fault)) due = due ≡ Err fault
Answers (Err token_error.NoMemory) due = Unit {0}

-- the same for what one token breaks
abbrev pub Gives : {T : Type 0} → Result T Refusal → Result T TokenRule → Type 0
Gives (Ok value) due = due ≡ Ok value
Gives (Err (refusal.Broken rule)) due = due ≡ Err rule
Gives (Err refusal.NoMemory) due = Unit {0}
