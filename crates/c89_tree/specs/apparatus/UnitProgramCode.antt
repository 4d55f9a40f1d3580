-- How the logic stores the declarations and functions of a C89 program.
use Rattle.std.specs.Prelude.{◌≡◌, ℕ, zero, suc, Bool, List, Option, refl}
use Rattle.std.specs.Coded.{Coded, code_by, coded×, coded_ℕ, coded_bool, coded_list, coded_option}
use base.Stored.{Gv, gnil, gnum, gcons}
use Rattle.model_types.specs.apparatus.TypesCode.{one_to_one}
use Rattle.model_core.specs.Types89.{Type89}
use Rattle.model_types.specs.apparatus.LeafCode.{put_text, get_text, text_back}
use Rattle.c89_tree.specs.apparatus.UnitTypeCode.{coded_type}
use Rattle.c89_tree.specs.apparatus.UnitExprCode.{coded_init}
use Rattle.c89_tree.specs.apparatus.UnitStatCode.{put_declaration, get_declaration, declaration_back, put_declarations, get_declarations, declarations_back, coded_declaration, coded_stats}
use Rattle.model_core.specs.Program89 as m

abbrev pub put_storage : m.Storage → Gv
put_storage m.Plainly = gnum 0
put_storage m.Static = gnum 1
put_storage m.Extern = gnum 2

abbrev pub get_storage : Gv → m.Storage
get_storage (gnum zero) = m.Plainly
get_storage (gnum (suc zero)) = m.Static
get_storage _ = m.Extern

pub storage_back : (x : m.Storage) → get_storage (put_storage x) ≡ x
storage_back m.Plainly = refl
storage_back m.Static = refl
storage_back m.Extern = refl

abbrev pub put_structure : m.Structure89 → Gv
put_structure (m.Tag name) = gcons (gnum 0) (put_text name)
put_structure (m.Members name first others) = gcons (gnum 1) (gcons (put_text name) (gcons (put_declaration first) (put_declarations others)))

abbrev pub get_structure : Gv → m.Structure89
get_structure (gcons (gnum zero) a) = m.Tag (get_text a)
get_structure (gcons (gnum (suc zero)) (gcons a (gcons b c))) = m.Members (get_text a) (get_declaration b) (get_declarations c)
get_structure _ = m.Tag (get_text gnil)

pub structure_back : (x : m.Structure89) → get_structure (put_structure x) ≡ x
structure_back (m.Tag name) = λ i. m.Tag (text_back name i)
structure_back (m.Members name first others) = λ i. m.Members (text_back name i) (declaration_back first i) (declarations_back others i)

abbrev pub coded_storage : Coded m.Storage
coded_storage = record { code = put_storage; inj = one_to_one put_storage get_storage storage_back }

abbrev pub coded_structure : Coded m.Structure89
coded_structure = record { code = put_structure; inj = one_to_one put_structure get_structure structure_back }

abbrev pub coded_outer : Coded m.Outer
coded_outer =
    code_by (m.Storage × (Type89 × (List ℕ × Option m.Init))) (coded× coded_storage (coded× coded_type (coded× (coded_list coded_ℕ) ((coded_option coded_init))))) (λ x. (x.storage, (x.type, (x.name, x.init))))
    (λ p. record { storage = p.0; type = p.1.0; name = p.1.1.0; init = p.1.1.1 }) (λ _. refl)

abbrev pub coded_function : Coded m.Function
coded_function =
    code_by (Bool × (Type89 × (List ℕ × (List m.Declaration × (Bool × (List m.Declaration × m.Stats)))))) (coded× coded_bool (coded× coded_type (coded× (coded_list coded_ℕ) (coded× (coded_list coded_declaration) (coded× coded_bool (coded× (coded_list coded_declaration) coded_stats)))))) (λ x. (x.is_static, (x.result, (x.name, (x.parameters, (x.is_variadic, (x.objects, x.body)))))))
    (λ p. record { is_static = p.0; result = p.1.0; name = p.1.1.0; parameters = p.1.1.1.0; is_variadic = p.1.1.1.1.0; objects = p.1.1.1.1.1.0; body = p.1.1.1.1.1.1 }) (λ _. refl)

abbrev pub coded_program : Coded m.Program
coded_program =
    code_by (List m.Structure89 × (List m.Outer × List m.Function)) (coded× (coded_list coded_structure) (coded× (coded_list coded_outer) ((coded_list coded_function)))) (λ x. (x.structures, (x.outers, x.functions)))
    (λ p. record { structures = p.0; outers = p.1.0; functions = p.1.1 }) (λ _. refl)
