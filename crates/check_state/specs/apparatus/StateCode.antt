-- How the logic stores what a state holds.
use Rattle.std.specs.Prelude.{◌≡◌, ℕ, zero, suc, Bool, List, Option, refl}
use Rattle.std.specs.Coded.{Coded, code_by, coded×, coded_ℕ, coded_bool, coded_list, coded_option}
use Rattle.cake_base.specs.declared.places.Place.{Place}
use Rattle.model_types.specs.Types.{CType}
use Rattle.model_types.specs.apparatus.TypesCode.{one_to_one, coded_type, coded_place}
use Rattle.model_grammar.specs.SyntaxForms as syntax
use Rattle.c_tree.specs.apparatus.SyntaxCode.{coded_expr}
use Rattle.model_core.specs.Core as unit
use Rattle.core_tree.specs.apparatus.CoreExprCode.{put_initials, get_initials, initials_back}
use Rattle.core_tree.specs.apparatus.CoreStatCode.{coded_stat}
use Rattle.model_scopes.specs.Declarations.{Declaration}
use Rattle.model_scopes.specs.apparatus.DeclarationCode.{coded_declaration}
use Rattle.model_checking.specs.State as m
use Rattle.check_state.specs.Kept.{Kept}

abbrev put_use : m.Use → ℕ
put_use m.Evaluated = 0
put_use m.Unevaluated = 1

abbrev get_use : ℕ → m.Use
get_use zero = m.Evaluated
get_use (suc n) = m.Unevaluated

pub use_back : (u : m.Use) → get_use (put_use u) ≡ u
use_back m.Evaluated = refl
use_back m.Unevaluated = refl

abbrev coded_use : Coded m.Use
coded_use = code_by ℕ coded_ℕ put_use get_use use_back

abbrev coded_initials : Coded unit.Initials
coded_initials = record { code = put_initials; inj = one_to_one put_initials get_initials initials_back }

abbrev pub coded_waiting : Coded m.Waiting
coded_waiting =
    code_by (m.Use × (ℕ × (syntax.Expr × (CType × List Declaration))))
    (coded× coded_use (coded× coded_ℕ (coded× coded_expr (coded× coded_type (coded_list coded_declaration)))))
    (λ w. (w.evaluation, (w.id, (w.literal, (w.type, w.parameters)))))
    (λ p. record { evaluation = p.0; id = p.1.0; literal = p.1.1.0; type = p.1.1.1.0; parameters = p.1.1.1.1 })
    (λ _. refl)

abbrev pub coded_made : Coded m.Made
coded_made =
    code_by (ℕ × (CType × (Place × (Option (List ℕ) × (Option unit.Initials × Bool)))))
    (coded× coded_ℕ (coded× coded_type (coded× coded_place (coded× (coded_option (coded_list coded_ℕ)) (coded× (coded_option coded_initials) coded_bool)))))
    (λ x. (x.id, (x.type, (x.place, (x.text, (x.values, x.is_evaluated))))))
    (λ p. record { id = p.0; type = p.1.0; place = p.1.1.0; text = p.1.1.1.0; values = p.1.1.1.1.0; is_evaluated = p.1.1.1.1.1 })
    (λ _. refl)

abbrev coded_valued : Coded m.Valued
coded_valued =
    code_by (ℕ × (CType × unit.Initials)) (coded× coded_ℕ (coded× coded_type coded_initials))
    (λ v. (v.id, (v.type, v.values))) (λ p. record { id = p.0; type = p.1.0; values = p.1.1 }) (λ _. refl)

abbrev coded_body : Coded m.Body
coded_body =
    code_by (ℕ × (Option Place × (CType × (List ℕ × unit.Stat))))
    (coded× coded_ℕ (coded× (coded_option coded_place) (coded× coded_type (coded× (coded_list coded_ℕ) coded_stat))))
    (λ b. (b.id, (b.literal, (b.type, (b.parameters, b.body)))))
    (λ p. record { id = p.0; literal = p.1.0; type = p.1.1.0; parameters = p.1.1.1.0; body = p.1.1.1.1 })
    (λ _. refl)

abbrev pub coded_kept : Coded Kept
coded_kept =
    code_by (List m.Waiting × (List m.Made × (List ℕ × (List ℕ × (List (Place × CType) × (List m.Valued × (List m.Body × (List (ℕ × ℕ) × Option Place))))))))
    (coded× (coded_list coded_waiting) (coded× (coded_list coded_made) (coded× (coded_list coded_ℕ) (coded× (coded_list coded_ℕ) (coded× (coded_list (coded× coded_place coded_type)) (coded× (coded_list coded_valued) (coded× (coded_list coded_body) (coded× (coded_list (coded× coded_ℕ coded_ℕ)) (coded_option coded_place)))))))))
    (λ k. (k.waiting, (k.made, (k.automatic, (k.taken, (k.named, (k.values, (k.bodies, (k.left_out, k.limit)))))))))
    (λ p. record {
      waiting = p.0;
      made = p.1.0;
      automatic = p.1.1.0;
      taken = p.1.1.1.0;
      named = p.1.1.1.1.0;
      values = p.1.1.1.1.1.0;
      bodies = p.1.1.1.1.1.1.0;
      left_out = p.1.1.1.1.1.1.1.0;
      limit = p.1.1.1.1.1.1.1.1;
    })
    (λ _. refl)
