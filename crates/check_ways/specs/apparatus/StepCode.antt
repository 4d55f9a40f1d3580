-- How the logic stores steps.
use Rattle.std.specs.Prelude.{ℕ, refl}
use Rattle.std.specs.Coded.{Coded, code_by, coded×, coded_ℕ}
use Rattle.model_types.specs.Types.{CType}
use Rattle.model_types.specs.apparatus.TypesCode.{coded_type}
use Rattle.model_checking.specs.Ways.{Step}

abbrev pub coded_step : Coded Step
coded_step =
    code_by (CType × (ℕ × CType)) (coded× coded_type (coded× coded_ℕ coded_type))
    (λ s. (s.whole, (s.rank, s.part))) (λ p. record { whole = p.0; rank = p.1.0; part = p.1.1 }) (λ _. refl)
