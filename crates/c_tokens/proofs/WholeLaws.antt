-- The tokens of C of a list, one by one.
use Rattle.std.proofs.Common.{◌≡◌, List, [], ◌∷◌, ◌++◌, Result, Ok, Err, refl, ap, sym, append_assoc}
use Rattle.cake_base.specs.declared.rules.Fault.{Fault}
use Rattle.model_tokens.specs.declared.tokens.CTok.{CTok}
use Rattle.model_tokens.specs.CTokens.{before_tokens}

-- tokens before those of the rest
abbrev pub before_list : List CTok → Result (List CTok) Fault → Result (List CTok) Fault
before_list front (Ok others) = Ok (front ++ others)
before_list front (Err fault) = Err fault

pub before_one : (front : List CTok) (t : CTok) (others : Result (List CTok) Fault) → before_list front (before_tokens (Ok t) others) ≡ before_list (front ++ t ∷ []) others
before_one front t (Ok others) = ap Ok (sym (append_assoc front (t ∷ []) others))
before_one front t (Err fault) = refl

pub before_none : (others : Result (List CTok) Fault) → before_list [] others ≡ others
before_none (Ok others) = refl
before_none (Err fault) = refl

pub ruleset one_by_one = (before_one, before_none)
