-- How the logic stores declarations.
use Rattle.std.specs.Prelude.{◌≡◌, ℕ, ℤ, zero, suc, Bool, List, Option, refl}
use Rattle.std.specs.Coded.{Coded, code_by, coded×, coded_ℕ, coded_ℤ, coded_bool, coded_list, coded_option}
use Rattle.model_types.specs.declared.numbers.Basic.{Basic}
use Rattle.cake_base.specs.declared.places.Place.{Place}
use Rattle.model_scopes.specs.declared.declarations.Kind.{Kind}
use Rattle.model_scopes.specs.declared.declarations.Kind.TheVariants as kind
use Rattle.model_scopes.specs.declared.declarations.Linkage.{Linkage}
use Rattle.model_scopes.specs.declared.declarations.Linkage.TheVariants as linkage
use Rattle.model_types.specs.Types.{CType}
use Rattle.model_types.specs.apparatus.TypesCode.{one_to_one, put_basic, get_basic, basic_back, coded_type, coded_place}
use Rattle.model_scopes.specs.Declarations.{Value, Declaration}
use Rattle.model_scopes.specs.Scopes.{Declared}

abbrev put_kind : Kind → ℕ
put_kind kind.Object = 0
put_kind kind.Function = 1
put_kind kind.TypeName = 2
put_kind kind.Enumerator = 3
put_kind kind.Tag = 4

abbrev get_kind : ℕ → Kind
get_kind zero = kind.Object
get_kind (suc zero) = kind.Function
get_kind (suc (suc zero)) = kind.TypeName
get_kind (suc (suc (suc zero))) = kind.Enumerator
get_kind _ = kind.Tag

pub kind_back : (k : Kind) → get_kind (put_kind k) ≡ k
kind_back kind.Object = refl
kind_back kind.Function = refl
kind_back kind.TypeName = refl
kind_back kind.Enumerator = refl
kind_back kind.Tag = refl

abbrev coded_kind : Coded Kind
coded_kind = code_by ℕ coded_ℕ put_kind get_kind kind_back

abbrev put_linkage : Linkage → ℕ
put_linkage linkage.Absent = 0
put_linkage linkage.Internal = 1
put_linkage linkage.External = 2

abbrev get_linkage : ℕ → Linkage
get_linkage zero = linkage.Absent
get_linkage (suc zero) = linkage.Internal
get_linkage _ = linkage.External

pub linkage_back : (l : Linkage) → get_linkage (put_linkage l) ≡ l
linkage_back linkage.Absent = refl
linkage_back linkage.Internal = refl
linkage_back linkage.External = refl

abbrev coded_linkage : Coded Linkage
coded_linkage = code_by ℕ coded_ℕ put_linkage get_linkage linkage_back

abbrev coded_basic : Coded Basic
coded_basic = record { code = put_basic; inj = one_to_one put_basic get_basic basic_back }

abbrev coded_value : Coded Value
coded_value = code_by (ℤ × Basic) (coded× coded_ℤ coded_basic) (λ v. (v.value, v.basic)) (λ p. record { value = p.0; basic = p.1 }) (λ _. refl)

abbrev pub coded_declaration : Coded Declaration
coded_declaration =
    code_by (List ℕ × (Kind × (Linkage × (CType × (Option Value × (Bool × (Bool × Place)))))))
    (coded× (coded_list coded_ℕ) (coded× coded_kind (coded× coded_linkage (coded× coded_type (coded× (coded_option coded_value) (coded× coded_bool (coded× coded_bool coded_place)))))))
    (λ d. (d.name, (d.kind, (d.linkage, (d.ty, (d.value, (d.defines, (d.automatic, d.place))))))))
    (λ p. record { name = p.0; kind = p.1.0; linkage = p.1.1.0; ty = p.1.1.1.0; value = p.1.1.1.1.0; defines = p.1.1.1.1.1.0; automatic = p.1.1.1.1.1.1.0; place = p.1.1.1.1.1.1.1 })
    (λ _. refl)

abbrev pub coded_declared : Coded Declared
coded_declared =
    code_by (Declaration × (Option CType × (ℕ × (Place × (Option Place × (Option Place × Option Place))))))
    (coded× coded_declaration (coded× (coded_option coded_type) (coded× coded_ℕ (coded× coded_place (coded× (coded_option coded_place) (coded× (coded_option coded_place) (coded_option coded_place)))))))
    (λ d. (d.latest, (d.before, (d.scope, (d.first, (d.defining, (d.initialized, d.used)))))))
    (λ p. record { latest = p.0; before = p.1.0; scope = p.1.1.0; first = p.1.1.1.0; defining = p.1.1.1.1.0; initialized = p.1.1.1.1.1.0; used = p.1.1.1.1.1.1 })
    (λ _. refl)
