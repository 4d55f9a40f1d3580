-- Tags and structures as the definition has them.
use Rattle.std.proofs.Common.{◌≡◌, ◌∙◌, ap, sym, subst, refl, ℕ, Bool, true, false, if◌then◌else◌, List, length, Option, Some, None, Result, Err}
use Rattle.std.specs.Option.{option_map}
use Rattle.cake_base.specs.declared.places.Place.{Place}
use Rattle.cake_base.specs.declared.rules.Fault.{Fault}
use Rattle.model_types.specs.declared.types.StructId.{StructId}
use Rattle.model_types.specs.Types.{CType}
use Rattle.model_scopes.specs.Declarations.{Declaration, is_typedef}
use Rattle.model_scopes.specs.Scopes.{Declared, Scopes, with_struct}
use Rattle.model_scopes.specs.Binding.{look, declared_as}
use Rattle.model_scopes.specs.DeclarationRules.{constraint_at}
use Rattle.model_grammar.specs.declared.syntax.Name.{Name}
use Rattle.model_grammar.specs.SyntaxForms as syntax
use Rattle.model_checking.specs.State.{State, Answer, gives, breaks, then_do, in_scopes}
use Rattle.model_checking.specs.SpecifierTypes.{type_if_typedef, type_of_declared, typedef_type}
use Rattle.model_checking.specs.Tags.{tag_found, tag_declaration, declared_unless, declared_tag}
use Rattle.model_checking.specs.Structures.{struct_type, next_id, new_struct, struct_by, struct_tag, declares_member, begun_again, begun_by, begun}
use Rattle.decl_scope.specs.declared.errors.ScopeError.{ScopeError}
use Rattle.decl_scope.specs.declared.errors.ScopeError.TheVariants as scope_error
use Rattle.decl_scope.specs.Answers.{Declares}
use Rattle.check_base.specs.declared.errors.CheckError.{CheckError}
use Rattle.check_base.specs.Broken.{Broken}
use Rattle.check_base.specs.Answers.{Answers}
use Rattle.check_base.specs.Turns.{Turns}
use Rattle.check_tags.specs.Found.{id_found, type_found, refused_as, is_of_members}
use Rattle.check_tags.proofs.TurnLaws.{broken_then, turns_same, turns_still}

-- ---- declared tags

pub declared_refused : (d entry : Declaration) (old new : Scopes) (e : ScopeError) (refused : CheckError) → entry ≡ d → Declares old entry (Err e) new → refused ≡ refused_as e
    → (s : State) → Broken refused (declared_tag d (in_scopes old s))
declared_refused d entry old new e refused same h r s =
    subst (λ x. Broken x (declared_tag d (in_scopes old s))) (sym r)
    (subst (λ x. Broken (refused_as e) (declared_tag x (in_scopes old s))) same (by e h))
  where
    by : (e : ScopeError) → Declares old entry (Err e) new → Broken (refused_as e) (declared_tag entry (in_scopes old s))
    by (scope_error.Fault fault) h =
        ap (λ o. declared_unless o entry (in_scopes old s)) h.1 ∙ ap (λ (f : Fault). let x : Answer CType = Err f in x) (sym h.2)
    by scope_error.NoMemory h = tt

-- ---- new structures

pub begun_ok : (name : Name) (id : StructId) (ty x : CType) (old new : Scopes) → ty ≡ struct_type id
    → ((s : State) → declared_tag (tag_declaration name ty true) (in_scopes old s) ≡ gives x (in_scopes new s))
    → (s : State) → begun_again (Some id) name (in_scopes old s) ≡ gives id (in_scopes new s)
begun_ok name id ty x old new e h s =
    ap (λ d. then_do d (λ type s. gives id s)) (ap (λ t. declared_tag (tag_declaration name t true) (in_scopes old s)) (sym e) ∙ h s)

pub begun_err : (name : Name) (id : StructId) (ty : CType) (e : CheckError) (old : Scopes) → ty ≡ struct_type id
    → ((s : State) → Broken e (declared_tag (tag_declaration name ty true) (in_scopes old s)))
    → (s : State) → Broken e (begun_again (Some id) name (in_scopes old s))
begun_err name id ty e old t h s =
    broken_then e (declared_tag (tag_declaration name (struct_type id) true) (in_scopes old s)) (λ type s. gives id s)
    (subst (λ u. Broken e (declared_tag (tag_declaration name u true) (in_scopes old s))) t (h s))

next_is : (id : StructId) (old : Scopes) (s : State) → id.0 ≡ length old.structs → id ≡ next_id (in_scopes old s)
next_is id old s e = λ i. record { 0 = e i }

new_is : (name : Name) (b : Bool) (place : Place) (id : StructId) (tag : List ℕ) (ty : CType) (old mid : Scopes) → tag ≡ name.text → id.0 ≡ length old.structs
    → mid ≡ with_struct (Some tag) place old → ty ≡ struct_type id
    → (s : State) → then_do (declared_tag (tag_declaration name ty b) (in_scopes mid s)) (λ type behind. gives id behind) ≡ new_struct name b place (in_scopes old s)
new_is name b place id tag ty old mid t i m e s =
    ap (λ t. then_do (declared_tag (tag_declaration name t b) (in_scopes mid s)) (λ type behind. gives id behind)) e
    ∙ ap (λ sc. then_do (declared_tag (tag_declaration name (struct_type id) b) (in_scopes sc s)) (λ type behind. gives id behind)) (m ∙ ap (λ x. with_struct (Some x) place old) t)
    ∙ ap (λ j. then_do (declared_tag (tag_declaration name (struct_type j) b) (in_scopes (with_struct (Some name.text) place old) s)) (λ type behind. gives j behind)) (next_is id old s i)

pub new_ok : (name : Name) (b : Bool) (place : Place) (id : StructId) (tag : List ℕ) (ty x : CType) (old mid new : Scopes) → tag ≡ name.text → id.0 ≡ length old.structs
    → mid ≡ with_struct (Some tag) place old → ty ≡ struct_type id
    → ((s : State) → declared_tag (tag_declaration name ty b) (in_scopes mid s) ≡ gives x (in_scopes new s))
    → (s : State) → new_struct name b place (in_scopes old s) ≡ gives id (in_scopes new s)
new_ok name b place id tag ty x old mid new t i m e h s =
    sym (new_is name b place id tag ty old mid t i m e s) ∙ ap (λ d. then_do d (λ type behind. gives id behind)) (h s)

pub new_err : (name : Name) (b : Bool) (place : Place) (id : StructId) (tag : List ℕ) (ty : CType) (e : CheckError) (old mid : Scopes) → tag ≡ name.text → id.0 ≡ length old.structs
    → mid ≡ with_struct (Some tag) place old → ty ≡ struct_type id
    → ((s : State) → Broken e (declared_tag (tag_declaration name ty b) (in_scopes mid s)))
    → (s : State) → Broken e (new_struct name b place (in_scopes old s))
new_err name b place id tag ty e old mid t i m w h s =
    subst (λ d. Broken e d) (new_is name b place id tag ty old mid t i m w s)
    (broken_then e (declared_tag (tag_declaration name ty b) (in_scopes mid s)) (λ type behind. gives id behind) (h s))

pub new_type_ok : (name : Name) (place : Place) (id : StructId) (ty : CType) (old new : Scopes) → ty ≡ struct_type id
    → ((s : State) → new_struct name false place (in_scopes old s) ≡ gives id (in_scopes new s))
    → (s : State) → struct_by None name place (in_scopes old s) ≡ gives ty (in_scopes new s)
new_type_ok name place id ty old new e h s =
    ap (λ d. then_do d (λ id s. gives (struct_type id) s)) (h s) ∙ ap (λ t. gives t (in_scopes new s)) (sym e)

pub new_type_err : (name : Name) (place : Place) (e : CheckError) (old : Scopes)
    → ((s : State) → Broken e (new_struct name false place (in_scopes old s))) → (s : State) → Broken e (struct_by None name place (in_scopes old s))
new_type_err name place e old h s = broken_then e (new_struct name false place (in_scopes old s)) (λ id s. gives (struct_type id) s) (h s)

-- ---- tags that are looked up

found_is : (is_lone : Bool) (name : Name) (sc : Scopes) (s : State) → tag_found is_lone name (in_scopes sc s) ≡ declared_as (id_found is_lone name.text sc) sc
found_is true name sc s = refl
found_is false name sc s = refl

none_found : (o : Option Declared) → option_map (λ d. d.latest.ty) o ≡ None → o ≡ None
none_found None h = refl
none_found (Some d) h = cc

pub tag_is_new : (is_lone : Bool) (name : Name) (place : Place) (sc : Scopes) → type_found is_lone name sc ≡ None
    → (s : State) → struct_tag is_lone name place (in_scopes sc s) ≡ struct_by None name place (in_scopes sc s)
tag_is_new is_lone name place sc h s =
    ap (λ o. struct_by o name place (in_scopes sc s)) (found_is is_lone name sc s ∙ none_found (declared_as (id_found is_lone name.text sc) sc) h)

pub begun_is_new : (name : Name) (place : Place) (sc : Scopes) → type_found true name sc ≡ None
    → (s : State) → begun (Some name) place (in_scopes sc s) ≡ new_struct name true place (in_scopes sc s)
begun_is_new name place sc h s =
    ap (λ o. begun_by o name place (in_scopes sc s)) (none_found (declared_as (id_found true name.text sc) sc) h)

-- ---- typedef names

abbrev typedef_found : Name → Option Declaration → State → Answer CType
typedef_found name None s = breaks name.place 5
typedef_found name (Some d) s = type_if_typedef name (is_typedef d.kind) d.ty s

by_latest : (name : Name) (o : Option Declared) (s : State) → type_of_declared name o s ≡ typedef_found name (option_map (λ d. d.latest) o) s
by_latest name None s = refl
by_latest name (Some d) s = refl

pub typedef_turns : (name : Name) (sc : Scopes) (e : Declaration) (r : Result CType CheckError) → Some e ≡ option_map (λ d. d.latest) (declared_as (look false name.text sc) sc)
    → ((s : State) → Answers r (type_if_typedef name (is_typedef e.kind) e.ty s) s) → Turns (typedef_type name) sc r sc
typedef_turns name sc e r found h =
    turns_same (typedef_type name) (λ s. type_if_typedef name (is_typedef e.kind) e.ty s) sc r sc
    (λ s. by_latest name (declared_as (look false name.text sc) sc) (in_scopes sc s) ∙ ap (λ o. typedef_found name o (in_scopes sc s)) (sym found))
    (turns_still (λ s. type_if_typedef name (is_typedef e.kind) e.ty s) sc r h)

pub typedef_lacks : (name : Name) (sc : Scopes) → None ≡ option_map (λ d. d.latest) (declared_as (look false name.text sc) sc)
    → (s : State) → typedef_type name (in_scopes sc s) ≡ Err (constraint_at name.place 5)
typedef_lacks name sc found s =
    by_latest name (declared_as (look false name.text sc) sc) (in_scopes sc s) ∙ ap (λ o. typedef_found name o (in_scopes sc s)) (sym found)

-- ---- members

pub declares_step : (x : syntax.MemberDeclaration) (xs : syntax.MemberDeclarations) → declares_member (syntax.more_members x xs) ≡ (if is_of_members x then true else declares_member xs)
declares_step (syntax.MemberDeclarators specs listed) xs = refl
declares_step (syntax.MemberAssertion assertion) xs = refl
