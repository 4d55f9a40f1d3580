-- What is written of an indent, and what is left of it.
use Rattle.std.proofs.Common.{◌≡◌, ◌<◌, ◌-◌, ◌+◌, ◌++◌, ℕ, suc, ap, arith}
use Rattle.std.specs.Prelude.{codes}
use Rattle.model_c89.specs.SpellingParts89.{indent}

pub one_less : (level done : ℕ) → done < level → indent (level - done) ≡ codes "    " ++ indent (level - (done + 1))
one_less level done less =
    let step : level - done ≡ suc (level - (done + 1)) = omega (arith, less) in
    ap indent step
