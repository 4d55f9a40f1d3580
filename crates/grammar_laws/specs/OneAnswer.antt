-- What the grammar says of a list of tokens is one of three things, in one way.
use Rattle.std.specs.Prelude.{ℕ, ◌≡◌, List}
use mathlib.Core.Logic.{◌⊎◌}
use Rattle.model_grammar.specs.declared.grammar.Terminal.{Terminal}
use Rattle.model_grammar.specs.declared.grammar.Tree.{Tree}
use Rattle.grammar_laws.specs.UnitSyntax.{IsUnit, IsFault, IsTooDeep}

-- at most one
pub record ExcludeEachOther (ts : List Terminal) : Type 0 where
  pub one_unit : (xs ys : List Tree) → IsUnit ts xs → IsUnit ts ys → xs ≡ ys
  pub one_fault : (j k : ℕ) → IsFault ts j → IsFault ts k → j ≡ k
  pub one_depth : (j k : ℕ) → IsTooDeep ts j → IsTooDeep ts k → j ≡ k
  pub unit_or_fault : (xs : List Tree) (k : ℕ) → IsUnit ts xs → IsFault ts k → ⊥
  pub unit_or_depth : (xs : List Tree) (k : ℕ) → IsUnit ts xs → IsTooDeep ts k → ⊥
  pub fault_or_depth : (j k : ℕ) → IsFault ts j → IsTooDeep ts k → ⊥

-- at least one
abbrev pub HasAnswer : List Terminal → Type 0
HasAnswer ts = ((xs : List Tree) × IsUnit ts xs) ⊎ (((k : ℕ) × IsFault ts k) ⊎ ((k : ℕ) × IsTooDeep ts k))
