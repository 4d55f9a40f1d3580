-- How the logic stores scopes.
use Rattle.std.specs.Prelude.{ℕ, Bool, List, refl}
use Rattle.std.specs.Coded.{Coded, code_by, coded×, coded_ℕ, coded_bool, coded_list}
use Rattle.model_types.specs.Structures.{Structure}
use Rattle.model_types.specs.apparatus.TypesCode.{coded_structure}
use Rattle.model_scopes.specs.Scopes.{Declared, Level, Scopes}
use Rattle.model_scopes.specs.apparatus.DeclarationCode.{coded_declared}

abbrev coded_names : Coded (List (List ℕ × ℕ))
coded_names = coded_list (coded× (coded_list coded_ℕ) coded_ℕ)

abbrev coded_level : Coded Level
coded_level =
    code_by (ℕ × (Bool × (List (List ℕ × ℕ) × List (List ℕ × ℕ)))) (coded× coded_ℕ (coded× coded_bool (coded× coded_names coded_names)))
    (λ l. (l.number, (l.literal, (l.names, l.tags)))) (λ p. record { number = p.0; literal = p.1.0; names = p.1.1.0; tags = p.1.1.1 }) (λ _. refl)

abbrev pub coded_scopes : Coded Scopes
coded_scopes =
    code_by (Level × (List Level × (List (List ℕ × ℕ) × (List (ℕ × Declared) × (List Structure × (ℕ × ℕ))))))
    (coded× coded_level (coded× (coded_list coded_level) (coded× coded_names (coded× (coded_list (coded× coded_ℕ coded_declared)) (coded× (coded_list coded_structure) (coded× coded_ℕ coded_ℕ))))))
    (λ s. (s.innermost, (s.around, (s.linked, (s.declared, (s.structs, (s.ids, s.entered)))))))
    (λ p. record { innermost = p.0; around = p.1.0; linked = p.1.1.0; declared = p.1.1.1.0; structs = p.1.1.1.1.0; ids = p.1.1.1.1.1.0; entered = p.1.1.1.1.1.1 })
    (λ _. refl)
