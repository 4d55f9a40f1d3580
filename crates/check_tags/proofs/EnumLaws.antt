-- Enumerations and enumerators as the definition has them.
use Rattle.std.proofs.lemmas.Int.{ints}
use Rattle.std.specs.Int.{w128}
use Rattle.c_types.proofs.Wide.{IsNarrow, narrow}
use Rattle.std.proofs.Common.{◌≡◌, ◌∙◌, ap, sym, subst, refl, arith, to_z, of_z, ◌+ℤ◌, ℕ, ℤ, pos, Bool, true, false, if◌then◌else◌, Option, Some, None, IsTrue, Result, Ok, Err, IfOk}
use Rattle.std.specs.Option.{option_map, is_some}
use Rattle.cake_base.specs.declared.places.Place.{Place}
use Rattle.cake_base.specs.declared.rules.Fault.{Fault}
use Rattle.model_types.specs.declared.numbers.Basic.{Basic}
use Rattle.model_types.specs.declared.numbers.Basic.TheVariants as basic
use Rattle.model_types.specs.Operations.{fits}
use Rattle.model_types.specs.Types.{CType, form_of_type}
use Rattle.model_scopes.specs.Declarations.{Declaration}
use Rattle.model_scopes.specs.Scopes.{Declared, Scopes}
use Rattle.model_scopes.specs.Binding.{declared_as}
use Rattle.model_scopes.specs.DeclarationRules.{broken_rule, constraint_at, is_struct_form}
use Rattle.model_scopes.specs.Declaring.{declare}
use Rattle.model_grammar.specs.declared.syntax.Name.{Name}
use Rattle.model_checking.specs.State.{State, Both, gives, breaks, unless, in_scopes}
use Rattle.model_checking.specs.FaultsBeside.{first_of_faults, with_fault}
use Rattle.model_checking.specs.DeclaratorNames.{rule_at}
use Rattle.model_checking.specs.Tags.{tag_found, tag_declaration, declared_tag}
use Rattle.model_checking.specs.Enumerations as m
use Rattle.decl_scope.specs.declared.errors.ScopeError.{ScopeError}
use Rattle.decl_scope.specs.declared.errors.ScopeError.TheVariants as scope_error
use Rattle.decl_scope.specs.Answers.{Declares}
use Rattle.check_base.specs.declared.errors.CheckError.{CheckError}
use Rattle.check_base.specs.Broken.{Broken}
use Rattle.check_tags.specs.Found.{id_found, type_found, refused_as}
use Rattle.check_tags.specs.Enumerated.{begun_as_typed}
use Rattle.check_tags.proofs.TurnLaws.{broken_then}

-- ---- before the enumerators

pub new_ok : (name : Name) (ty x : CType) (fixed : Option Basic) (place : Place) (b : Bool) (old new : Scopes) → ty ≡ m.enum_type fixed place → b ≡ is_some fixed
    → ((s : State) → declared_tag (tag_declaration name ty true) (in_scopes old s) ≡ gives x (in_scopes new s))
    → (s : State) → m.begun_as (is_some fixed) (declared_tag (tag_declaration name (m.enum_type fixed place) true) (in_scopes old s))
    ≡ (let e : m.Enumeration = record { type = x; is_fixed = b } in gives e (in_scopes new s))
new_ok name ty x fixed place b old new e f h s =
    ap (m.begun_as (is_some fixed)) (ap (λ t. declared_tag (tag_declaration name t true) (in_scopes old s)) (sym e) ∙ h s)
    ∙ ap (λ c. let e : m.Enumeration = record { type = x; is_fixed = c } in gives e (in_scopes new s)) (sym f)

pub new_err : (name : Name) (ty : CType) (fixed : Option Basic) (place : Place) (e : CheckError) (old : Scopes) → ty ≡ m.enum_type fixed place
    → ((s : State) → Broken e (declared_tag (tag_declaration name ty true) (in_scopes old s)))
    → (s : State) → Broken e (m.begun_as (is_some fixed) (declared_tag (tag_declaration name (m.enum_type fixed place) true) (in_scopes old s)))
new_err name ty fixed place e old t h s =
    broken_then e (declared_tag (tag_declaration name (m.enum_type fixed place) true) (in_scopes old s))
    (λ type s. let e : m.Enumeration = record { type = type; is_fixed = is_some fixed } in gives e s)
    (subst (λ u. Broken e (declared_tag (tag_declaration name u true) (in_scopes old s))) t (h s))

again_is : (name : Name) (ty : CType) (b : Bool) (s : State) → b ≡ is_struct_form (form_of_type ty) → b ≡ false
    → begun_as_typed ty name s ≡ m.begun_as true (declared_tag (tag_declaration name ty true) s)
again_is name ty b s e f =
    ap (λ c. if c then breaks name.place 6 else m.begun_as true (declared_tag (tag_declaration name ty true) s)) (sym e ∙ f)

pub again_ok : (name : Name) (ty x : CType) (b : Bool) (old new : Scopes) → b ≡ is_struct_form (form_of_type ty) → b ≡ false
    → ((s : State) → declared_tag (tag_declaration name ty true) (in_scopes old s) ≡ gives x (in_scopes new s))
    → (s : State) → begun_as_typed ty name (in_scopes old s) ≡ (let e : m.Enumeration = record { type = x; is_fixed = true } in gives e (in_scopes new s))
again_ok name ty x b old new e f h s = again_is name ty b (in_scopes old s) e f ∙ ap (m.begun_as true) (h s)

pub again_err : (name : Name) (ty : CType) (b : Bool) (e : CheckError) (old : Scopes) → b ≡ is_struct_form (form_of_type ty) → b ≡ false
    → ((s : State) → Broken e (declared_tag (tag_declaration name ty true) (in_scopes old s))) → (s : State) → Broken e (begun_as_typed ty name (in_scopes old s))
again_err name ty b e old i f h s =
    subst (λ d. Broken e d) (sym (again_is name ty b (in_scopes old s) i f))
    (broken_then e (declared_tag (tag_declaration name ty true) (in_scopes old s)) (λ type s. let e : m.Enumeration = record { type = type; is_fixed = true } in gives e s) (h s))

none_found : (o : Option Declared) → option_map (λ d. d.latest.ty) o ≡ None → o ≡ None
none_found None h = refl
none_found (Some d) h = cc

begun_found : (o : Option Declared) (name : Name) (ty : CType) (fixed : Option Basic) (place : Place) (s : State) → option_map (λ d. d.latest.ty) o ≡ Some ty
    → m.begun_by o name fixed place s ≡ begun_as_typed ty name s
begun_found None name ty fixed place s h = cc
begun_found (Some d) name ty fixed place s h = let e : d.latest.ty ≡ ty = cc in ap (λ t. begun_as_typed t name s) e

pub begun_again : (name : Name) (ty : CType) (fixed : Option Basic) (place : Place) (sc : Scopes) → type_found true name sc ≡ Some ty
    → (s : State) → m.begun (Some name) fixed place (in_scopes sc s) ≡ begun_as_typed ty name (in_scopes sc s)
begun_again name ty fixed place sc h s = begun_found (declared_as (id_found true name.text sc) sc) name ty fixed place (in_scopes sc s) h

pub begun_new : (name : Name) (fixed : Option Basic) (place : Place) (sc : Scopes) → type_found true name sc ≡ None
    → (s : State) → m.begun (Some name) fixed place (in_scopes sc s) ≡ m.begun_by None name fixed place (in_scopes sc s)
begun_new name fixed place sc h s = ap (λ o. m.begun_by o name fixed place (in_scopes sc s)) (none_found (declared_as (id_found true name.text sc) sc) h)

-- ---- a tag without braces

found_is : (is_lone : Bool) (name : Name) (sc : Scopes) (s : State) → tag_found is_lone name (in_scopes sc s) ≡ declared_as (id_found is_lone name.text sc) sc
found_is true name sc s = refl
found_is false name sc s = refl

enum_found : (o : Option Declared) (name : Name) (ty : CType) (fixed : Option Basic) (place : Place) (s : State) → option_map (λ d. d.latest.ty) o ≡ Some ty
    → m.enum_by o name fixed place s ≡ m.as_enum name ty s
enum_found None name ty fixed place s h = cc
enum_found (Some d) name ty fixed place s h = let e : d.latest.ty ≡ ty = cc in ap (λ t. m.as_enum name t s) e

pub tag_is_there : (is_lone own : Bool) (name : Name) (ty : CType) (fixed : Option Basic) (place : Place) (sc : Scopes) (before : State)
    → own ≡ m.is_own is_lone fixed → type_found own name sc ≡ Some ty
    → (s : State) → m.enum_tag is_lone name place before (gives fixed (in_scopes sc s)) ≡ m.as_enum name ty (in_scopes sc s)
tag_is_there is_lone own name ty fixed place sc before o h s =
    ap (λ b. m.enum_by (tag_found b name (in_scopes sc s)) name fixed place (in_scopes sc s)) (sym o)
    ∙ ap (λ x. m.enum_by x name fixed place (in_scopes sc s)) (found_is own name sc s)
    ∙ enum_found (declared_as (id_found own name.text sc) sc) name ty fixed place (in_scopes sc s) h

pub tag_is_new : (is_lone own : Bool) (name : Name) (fixed : Option Basic) (place : Place) (sc : Scopes) (before : State)
    → own ≡ m.is_own is_lone fixed → type_found own name sc ≡ None
    → (s : State) → m.enum_tag is_lone name place before (gives fixed (in_scopes sc s)) ≡ m.enum_by None name fixed place (in_scopes sc s)
tag_is_new is_lone own name fixed place sc before o h s =
    ap (λ b. m.enum_by (tag_found b name (in_scopes sc s)) name fixed place (in_scopes sc s)) (sym o)
    ∙ ap (λ x. m.enum_by x name fixed place (in_scopes sc s)) (found_is own name sc s ∙ none_found (declared_as (id_found own name.text sc) sc) h)

-- ---- enumerators

pub zero_fits : (b : Basic) → IsTrue (fits b (pos 0))
zero_fits basic.Bool = refl
zero_fits basic.Char = refl
zero_fits basic.SignedChar = refl
zero_fits basic.UnsignedChar = refl
zero_fits basic.Short = refl
zero_fits basic.UnsignedShort = refl
zero_fits basic.Int = refl
zero_fits basic.Unsigned = refl
zero_fits basic.Long = refl
zero_fits basic.UnsignedLong = refl
zero_fits basic.LongLong = refl
zero_fits basic.UnsignedLongLong = refl

both_none : (f g : Option Fault) → None ≡ first_of_faults f g → (f ≡ None) × (g ≡ None)
both_none None None h = (refl, refl)
both_none None (Some g) h = cc
both_none (Some f) None h = cc
both_none (Some f) (Some g) h = cc

named_first : {A : Type 0} (f g : Option Fault) (fault : Fault) (x : A) → Some fault ≡ first_of_faults f g → with_fault f (unless g (let r : Result A Fault = Ok x in r)) ≡ Err fault
named_first None None fault x h = cc
named_first None (Some g) fault x h = cc
named_first (Some f) None fault x h = cc
named_first (Some f) (Some g) fault x h = cc

pub value_refused : (e : m.Enumeration) (name : Name) (value : ℤ) (sc : Scopes) (f g : Option Fault) (fault : Fault)
    → ((s : State) → f ≡ rule_at (m.enumerator_rule e (in_scopes sc s)) (Some name)) → g ≡ m.range_fault e name value → Some fault ≡ first_of_faults f g
    → (s : State) → m.with_enumerator e name value (in_scopes sc s) ≡ Err fault
value_refused e name value sc f g fault r i h s =
    ap (λ x. with_fault x (unless (m.range_fault e name value) (gives value (in_scopes (declare (m.enumerator_declaration e name value) sc) s)))) (sym (r s))
    ∙ ap (λ x. with_fault f (unless x (gives value (in_scopes (declare (m.enumerator_declaration e name value) sc) s)))) (sym i)
    ∙ named_first f g fault (let b : Both ℤ = record { made = value; state = in_scopes (declare (m.enumerator_declaration e name value) sc) s } in b) h

pub value_declared : (e : m.Enumeration) (name : Name) (value : ℤ) (sc new : Scopes) (f g : Option Fault)
    → ((s : State) → f ≡ rule_at (m.enumerator_rule e (in_scopes sc s)) (Some name)) → g ≡ m.range_fault e name value → None ≡ first_of_faults f g
    → new ≡ declare (m.enumerator_declaration e name value) sc
    → (s : State) → m.with_enumerator e name value (in_scopes sc s) ≡ gives value (in_scopes new s)
value_declared e name value sc new f g r i h d s =
    let n = both_none f g h in
    ap (λ x. with_fault x (unless (m.range_fault e name value) (gives value (in_scopes (declare (m.enumerator_declaration e name value) sc) s)))) (sym (r s) ∙ n.0)
    ∙ ap (λ x. unless x (gives value (in_scopes (declare (m.enumerator_declaration e name value) sc) s))) (sym i ∙ n.1)
    ∙ ap (λ x. gives value (in_scopes x s)) (sym d)

-- a declaration is refused for no rule that its name doesn't break with any other value
pub value_unbroken : (e : m.Enumeration) (name : Name) (value : ℤ) (entry : Declaration) (sc new : Scopes) (f g : Option Fault) (w : ScopeError) (refused : CheckError)
    → ((s : State) → f ≡ rule_at (m.enumerator_rule e (in_scopes sc s)) (Some name)) → None ≡ first_of_faults f g
    → entry ≡ m.enumerator_declaration e name value → Declares sc entry (Err w) new → refused ≡ refused_as w
    → (s : State) → Broken refused (m.with_enumerator e name value (in_scopes sc s))
value_unbroken e name value entry sc new f g w refused r h same d k s =
    subst (λ x. Broken x (m.with_enumerator e name value (in_scopes sc s))) (sym k) (by w (subst (λ x. Declares sc x (Err w) new) same d))
  where
    free : option_map (λ rule. constraint_at name.place rule) (broken_rule (m.enumerator_declaration e name (pos 0)) sc) ≡ None
    free = sym (r s) ∙ (both_none f g h).0

    no_rule : (o : Option ℕ) (n : ℕ) → option_map (λ rule. constraint_at name.place rule) o ≡ None → o ≡ Some n → ⊥
    no_rule None n h e = cc
    no_rule (Some k) n h e = cc

    by : (w : ScopeError) → Declares sc (m.enumerator_declaration e name value) (Err w) new → Broken (refused_as w) (m.with_enumerator e name value (in_scopes sc s))
    by (scope_error.Fault fault) d = absurd (no_rule (broken_rule (m.enumerator_declaration e name (pos 0)) sc) d.0 free d.1)
    by scope_error.NoMemory d = tt

-- ---- the rule that a declaration would break

pub rule_seen : {E : Type 0} (r : Result (Option Fault) E) (entry d : Declaration) (sc : Scopes) → entry ≡ d
    → IfOk r (λ f. f ≡ option_map (λ rule. constraint_at entry.place rule) (broken_rule entry sc))
    → IfOk r (λ f. (s : State) → f ≡ option_map (λ rule. constraint_at d.place rule) (broken_rule d sc))
rule_seen (Ok f) entry d sc e h = λ s. h ∙ ap (λ x. option_map (λ rule. constraint_at x.place rule) (broken_rule x sc)) e
rule_seen (Err w) entry d sc e h = tt

next_wide : (v : ℤ) → IsNarrow v → to_z w128 (of_z w128 (to_z w128 (of_z w128 v) +ℤ pos 1)) ≡ v +ℤ pos 1
next_wide v h = omega (arith, ints, h.low, h.high)

pub next_is : (b : Basic) (v : ℤ) → IsTrue (fits b v) → to_z w128 (of_z w128 (to_z w128 (of_z w128 v) +ℤ pos 1)) ≡ v +ℤ pos 1
next_is b v h = next_wide v (narrow b v h)
