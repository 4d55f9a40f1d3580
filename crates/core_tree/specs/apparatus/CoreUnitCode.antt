-- How the logic stores objects, functions and cores.
use Rattle.std.specs.Prelude.{◌≡◌, ℕ, zero, suc, Bool, List, Option, refl}
use Rattle.std.specs.Coded.{Coded, code_by, coded×, coded_ℕ, coded_bool, coded_list, coded_option}
use base.Stored.{Gv, gnil, gnum, gcons}
use Rattle.cake_base.specs.declared.places.Place.{Place}
use Rattle.model_types.specs.Types.{CType}
use Rattle.model_types.specs.Structures.{Structure}
use Rattle.model_types.specs.apparatus.TypesCode.{one_to_one, coded_type, coded_place, coded_structure}
use Rattle.model_types.specs.apparatus.LeafCode.{put_text, get_text, text_back, put_place, get_place}
use Rattle.core_tree.specs.apparatus.CoreExprCode.{put_initials, get_initials, initials_back}
use Rattle.core_tree.specs.apparatus.CoreStatCode.{put_maybe_stat, get_maybe_stat, maybe_stat_back}
use Rattle.model_core.specs.Core as m

abbrev pub put_storage : m.Storage → Gv
put_storage m.Automatic = gnil
put_storage m.Parameter = gcons (gnum 0) gnil
put_storage (m.Static values) = gcons (gnum 1) (put_initials values)
put_storage m.Declared = gcons (gnum 2) gnil
put_storage (m.Text bytes) = gcons (gnum 3) (put_text bytes)

abbrev pub get_storage : Gv → m.Storage
get_storage (gcons (gnum zero) a) = m.Parameter
get_storage (gcons (gnum (suc zero)) a) = m.Static (get_initials a)
get_storage (gcons (gnum (suc (suc zero))) a) = m.Declared
get_storage (gcons (gnum (suc (suc (suc zero)))) a) = m.Text (get_text a)
get_storage _ = m.Automatic

pub storage_back : (x : m.Storage) → get_storage (put_storage x) ≡ x
storage_back m.Automatic = refl
storage_back m.Parameter = refl
storage_back (m.Static values) = λ i. m.Static (initials_back values i)
storage_back m.Declared = refl
storage_back (m.Text bytes) = λ i. m.Text (text_back bytes i)

abbrev pub put_name : m.FunctionName → Gv
put_name (m.Named name) = gcons (gnum 0) (put_text name)
put_name (m.Lambda place) = gcons (gnum 1) (put_place place)

abbrev pub get_name : Gv → m.FunctionName
get_name (gcons (gnum zero) a) = m.Named (get_text a)
get_name (gcons (gnum (suc zero)) a) = m.Lambda (get_place a)
get_name _ = m.Lambda (get_place gnil)

pub name_back : (x : m.FunctionName) → get_name (put_name x) ≡ x
name_back (m.Named name) = λ i. m.Named (text_back name i)
name_back (m.Lambda place) = refl

abbrev pub coded_storage : Coded m.Storage
coded_storage = record { code = put_storage; inj = one_to_one put_storage get_storage storage_back }

abbrev pub coded_name : Coded m.FunctionName
coded_name = record { code = put_name; inj = one_to_one put_name get_name name_back }

abbrev pub coded_body : Coded m.MaybeStat
coded_body = record { code = put_maybe_stat; inj = one_to_one put_maybe_stat get_maybe_stat maybe_stat_back }

abbrev pub coded_object : Coded m.DeclaredObject
coded_object =
    code_by (ℕ × (Option (List ℕ) × (CType × (Bool × (m.Storage × (Bool × (Place × Place))))))) (coded× coded_ℕ (coded× (coded_option (coded_list coded_ℕ)) (coded× coded_type (coded× coded_bool (coded× coded_storage (coded× coded_bool (coded× coded_place coded_place))))))) (λ x. (x.id, (x.name, (x.type, (x.is_external, (x.storage, (x.is_address_taken, (x.place, x.joint_place))))))))
    (λ p. record { id = p.0; name = p.1.0; type = p.1.1.0; is_external = p.1.1.1.0; storage = p.1.1.1.1.0; is_address_taken = p.1.1.1.1.1.0; place = p.1.1.1.1.1.1.0; joint_place = p.1.1.1.1.1.1.1 }) (λ _. refl)

abbrev pub coded_function : Coded m.Function
coded_function =
    code_by (ℕ × (m.FunctionName × (CType × (Bool × (List ℕ × (m.MaybeStat × (Place × Place))))))) (coded× coded_ℕ (coded× coded_name (coded× coded_type (coded× coded_bool (coded× (coded_list coded_ℕ) (coded× coded_body (coded× coded_place coded_place))))))) (λ x. (x.id, (x.name, (x.type, (x.is_external, (x.parameters, (x.body, (x.place, x.joint_place))))))))
    (λ p. record { id = p.0; name = p.1.0; type = p.1.1.0; is_external = p.1.1.1.0; parameters = p.1.1.1.1.0; body = p.1.1.1.1.1.0; place = p.1.1.1.1.1.1.0; joint_place = p.1.1.1.1.1.1.1 }) (λ _. refl)

abbrev pub coded_core : Coded m.Core
coded_core =
    code_by (List m.DeclaredObject × (List m.Function × (List Structure × (List (Place × CType))))) (coded× (coded_list coded_object) (coded× (coded_list coded_function) (coded× (coded_list coded_structure) ((coded_list (coded× coded_place coded_type)))))) (λ x. (x.objects, (x.functions, (x.structs, x.named_types))))
    (λ p. record { objects = p.0; functions = p.1.0; structs = p.1.1.0; named_types = p.1.1.1 }) (λ _. refl)
