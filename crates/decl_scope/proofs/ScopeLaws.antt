-- The scopes stay sound after each call.
use Rattle.std.proofs.Common.{◌≡◌, ℕ, ◌+◌, ◌<◌, ◌≤◌, Bool, true, false, ◌&&◌, ◌||◌, not, List, [], ◌∷◌, ◌++◌, length, length-append, Option, Some, None, Result, Ok, Err, OnOk, OnErr, IsTrue, IfSome, refl, ap, sym, subst, ◌∙◌, cond, arith}
use Rattle.std.specs.Option.{is_some}
use Rattle.cake_base.specs.declared.places.Place.{Place}
use Rattle.model_scopes.specs.declared.declarations.Kind.{Kind}
use Rattle.model_scopes.specs.declared.declarations.Kind.TheVariants.{Object, Function, TypeName, Enumerator, Tag}
use Rattle.model_scopes.specs.declared.declarations.Linkage.{Linkage}
use Rattle.model_types.specs.Types as t
use Rattle.model_types.specs.Types.{CType, form_of_type}
use Rattle.model_types.specs.Structures.{Member, Structure, completed, names_below, knows}
use Rattle.model_scopes.specs.CompositeTypes.{with_length}
use Rattle.model_scopes.specs.Declarations.{Value, Declaration, fits, fits_kind, has_linkage, is_tag, linkage_by, is_present}
use Rattle.model_scopes.specs.Scopes as m
use Rattle.model_scopes.specs.Scopes.{Declared, Level, Scopes, with_id, is_declared, changed, leave_to, leave}
use Rattle.model_scopes.specs.Binding.{bound, here, look}
use Rattle.model_scopes.specs.DeclarationRules.{shared_id, shared_by, linked_id}
use Rattle.model_scopes.specs.Declaring.{naming, with_linked, first_declared, declare_first, declare_again, redeclared, kept_type, types_before, or_place, defined_at}
use Rattle.c_types.proofs.Growth.{length_completed}
use Rattle.decl_scope.specs.Later.{taken}
use Rattle.decl_scope.specs.Soundness.{AreDeclared, LevelsDeclared, AreBelow, AreFit, IsSound}
use Rattle.decl_scope.proofs.TableLaws.{changed_same, changed_none, lookup_id}
use Rattle.decl_scope.proofs.SoundLaws.{Table, IsFit, declared_kept, levels_kept, level_declared, among_declared, bound_declared, keeps_more, declared_last, keeps_changed, linked_more, naming_declared, below_last, below_more, below_changed, fit_last, fit_changed, fit_more}

pub if_some : {A : Type 0} (o : Option A) (P : A → Type 0) → ((x : A) → o ≡ Some x → P x) → IfSome o P
if_some None P h = tt
if_some (Some x) P h = h x refl

-- ---- what is found is declared

pub look_declared : (s : Scopes) (tag : Bool) (name : List ℕ) (id : ℕ) → IsSound s → look tag name s ≡ Some id → IsTrue (is_declared id s.declared)
look_declared s tag name id h e = among_declared s.declared tag name (s.innermost ∷ s.around) id h.levels e

pub here_declared : (s : Scopes) (tag : Bool) (name : List ℕ) (id : ℕ) → IsSound s → here tag name s ≡ Some id → IsTrue (is_declared id s.declared)
here_declared s tag name id h e = level_declared s.declared tag name s.innermost s.around id h.levels e

linked_declared : (s : Scopes) (name : List ℕ) (id : ℕ) (b : Bool) → IsSound s → cond b (bound name s.linked) None ≡ Some id → IsTrue (is_declared id s.declared)
linked_declared s name id true h e = bound_declared s.declared name s.linked id h.linked e
linked_declared s name id false h e = cc

pub shared_declared : (s : Scopes) (d : Declaration) (id : ℕ) → IsSound s → shared_id d s ≡ Some id → IsTrue (is_declared id s.declared)
shared_declared s d id h = by d.kind
  where
    by : (k : Kind) → shared_by k d s ≡ Some id → IsTrue (is_declared id s.declared)
    by Object e = linked_declared s d.name id (has_linkage d) h e
    by Function e = linked_declared s d.name id (has_linkage d) h e
    by TypeName e = here_declared s false d.name id h e
    by Enumerator e = cc
    by Tag e = here_declared s true d.name id h e

-- a declaration with linkage that shares no id is the first of its name
first_linked : (s : Scopes) (name : List ℕ) (b : Bool) → cond b (bound name s.linked) None ≡ None → b ≡ true → bound name s.linked ≡ None
first_linked s name true h e = h
first_linked s name false h e = cc

pub first_of_name : (s : Scopes) (d : Declaration) → shared_id d s ≡ None → has_linkage d ≡ true → bound d.name s.linked ≡ None
first_of_name s d none linked = by d.kind none linked
  where
    by : (k : Kind) → shared_by k d s ≡ None → is_present (linkage_by k d.linkage) ≡ true → bound d.name s.linked ≡ None
    by Object h e = first_linked s d.name (has_linkage d) h linked
    by Function h e = first_linked s d.name (has_linkage d) h linked
    by TypeName h e = cc
    by Enumerator h e = cc
    by Tag h e = cc

-- ---- calls

pub sound_changed : (s : Scopes) (f : Declared → Declared) (at : ℕ) (table : Table) → IsSound s → table ≡ changed f at s.declared
    → ((d : Declared) → with_id at s.declared ≡ Some d → IsFit (length s.structs) d → IsFit (length s.structs) (f d)) → IsSound (record s { declared = table })
sound_changed s f at table h e k = subst (λ (t : Table). IsSound (record s { declared = t })) (sym e) (record {
  levels = levels_kept s.declared (changed f at s.declared) (s.innermost ∷ s.around) (keeps_changed f at s.declared) h.levels;
  linked = declared_kept s.declared (changed f at s.declared) s.linked (keeps_changed f at s.declared) h.linked;
  below = below_changed s.ids f at s.declared h.below;
  fit = fit_changed (length s.structs) f at s.declared h.fit k;
})

pub sound_first : (s : Scopes) (d : Declaration) → IsSound s → IsTrue (fits d) → IsTrue (knows s.structs d.ty) → IsSound (declare_first d s)
sound_first s d h fit known =
    let ds : Table = s.declared ++ (s.ids, first_declared d s.innermost.number) ∷ [] in
    let last : IsTrue (is_declared s.ids ds) = declared_last s.declared s.ids (first_declared d s.innermost.number) in
    let keeps = keeps_more s.declared (s.ids, first_declared d s.innermost.number) in
    record {
      levels = naming_declared ds (is_tag d.kind) d.name s.ids s.innermost s.around (levels_kept s.declared ds (s.innermost ∷ s.around) keeps h.levels) last;
      linked = linked_more ds (has_linkage d) s.linked d.name s.ids (declared_kept s.declared ds s.linked keeps h.linked) last;
      below = below_last s.ids s.declared (first_declared d s.innermost.number) h.below;
      fit = fit_last (length s.structs) s.ids s.declared (first_declared d s.innermost.number) h.fit (fit, known);
    }

pub first_scopes : (s : Scopes) (d : Declaration) (l : Level) (ns : List (List ℕ × ℕ)) (t : Table)
    → l ≡ naming (is_tag d.kind) d.name s.ids s.innermost → ns ≡ with_linked (has_linkage d) d.name s.ids s.linked
    → t ≡ s.declared ++ (s.ids, first_declared d s.innermost.number) ∷ []
    → declare_first d s ≡ record s { innermost = l; linked = ns; declared = t; ids = s.ids + 1 }
first_scopes s d l ns t p q r = sym (λ i. record s { innermost = p i; linked = q i; declared = r i; ids = s.ids + 1 })

-- ---- behind the innermost scope

sound_left_to : (s : Scopes) (around : List Level) → s.around ≡ around → IsSound s → IsSound (leave_to around s)
sound_left_to s [] e h = h
sound_left_to s (l ∷ ls) e h = record { levels = subst (LevelsDeclared s.declared) e h.levels.2; linked = h.linked; below = h.below; fit = h.fit }

pub sound_left : (s : Scopes) → IsSound s → IsSound (leave s)
sound_left s h = sound_left_to s s.around refl h

abbrev Inner : List Level → Level → List Level → Type 0
Inner around l ls = (level : Level) (rest : List Level) → around ≡ level ∷ rest → (l ≡ level) × (ls ≡ rest)

left_to : (s : Scopes) (around : List Level) (l : Level) (ls : List Level) → s.around ≡ around → Inner around l ls
    → (around ≡ [] → (l ≡ s.innermost) × (ls ≡ [])) → leave_to around s ≡ record s { innermost = l; around = ls }
left_to s [] l ls e inner outermost =
    let same = outermost refl in
    λ i. record s { innermost = sym same.0 i; around = (e ∙ sym same.1) i }
left_to s (x ∷ xs) l ls e inner outermost =
    let same = inner x xs refl in
    λ i. record s { innermost = sym same.0 i; around = sym same.1 i }

pub left_scopes : (s : Scopes) (l : Level) (ls : List Level) → Inner s.around l ls → (s.around ≡ [] → (l ≡ s.innermost) × (ls ≡ []))
    → leave s ≡ record s { innermost = l; around = ls }
left_scopes s l ls inner outermost = left_to s s.around l ls refl inner outermost

-- ---- a later declaration

kept_fits : (kind : Kind) (v : Option Value) (old new : CType) → fits_kind kind (form_of_type (with_length old new)) v ≡ fits_kind kind (form_of_type new) v
kept_fits Object v (t.typed (t.Array a (Some n)) p) (t.typed (t.Array u None) q) = refl
kept_fits Function v (t.typed (t.Array a (Some n)) p) (t.typed (t.Array u None) q) = refl
kept_fits TypeName v (t.typed (t.Array a (Some n)) p) (t.typed (t.Array u None) q) = refl
kept_fits Enumerator v (t.typed (t.Array a (Some n)) p) (t.typed (t.Array u None) q) = refl
kept_fits Tag v (t.typed (t.Array a (Some n)) p) (t.typed (t.Array u None) q) = refl
kept_fits kind v (t.typed (t.Array a (Some n)) p) (t.typed f q) = refl
kept_fits kind v (t.typed (t.Array a None) p) new = refl
kept_fits kind v (t.typed f p) new = refl

kept_known : (n : ℕ) (old new : CType) → names_below n (with_length old new) ≡ names_below n new
kept_known n (t.typed (t.Array a (Some k)) p) (t.typed (t.Array u None) q) = refl
kept_known n (t.typed (t.Array a (Some k)) p) (t.typed f q) = refl
kept_known n (t.typed (t.Array a None) p) new = refl
kept_known n (t.typed f p) new = refl

true_by : (a b : Bool) → a ≡ b → IsTrue b → IsTrue a
true_by a b e h = subst IsTrue (sym e) h

pub again_fits : (n : ℕ) (d : Declaration) (scope : ℕ) (old : Declared) → IsTrue (fits d) → IsTrue (names_below n d.ty) → IsFit n old → IsFit n (redeclared d scope old)
again_fits n d scope old fit known h = by d.kind fit
  where
    by : (k : Kind) → IsTrue (fits_kind k (form_of_type d.ty) d.value)
        → IsTrue (fits_kind k (form_of_type (kept_type k old.latest.ty d.ty)) d.value) × IsTrue (names_below n (kept_type k old.latest.ty d.ty))
    by Object f = (true_by _ _ (kept_fits Object d.value old.latest.ty d.ty) f, true_by _ _ (kept_known n old.latest.ty d.ty) known)
    by Function f = (true_by _ _ (kept_fits Function d.value old.latest.ty d.ty) f, true_by _ _ (kept_known n old.latest.ty d.ty) known)
    by TypeName f = (true_by _ _ (kept_fits TypeName d.value old.latest.ty d.ty) f, true_by _ _ (kept_known n old.latest.ty d.ty) known)
    by Enumerator f = (true_by _ _ (kept_fits Enumerator d.value old.latest.ty d.ty) f, true_by _ _ (kept_known n old.latest.ty d.ty) known)
    by Tag f = (f, h.1)

pub sound_again : (s : Scopes) (d : Declaration) (id : ℕ) → IsSound s → IsTrue (fits d) → IsTrue (knows s.structs d.ty) → IsTrue (is_declared id s.declared) → IsSound (declare_again d id s)
sound_again s d id h fit known there =
    let f = redeclared d s.innermost.number in
    let ds : Table = changed f id s.declared in
    let keeps = keeps_changed f id s.declared in
    record {
      levels = naming_declared ds (is_tag d.kind) d.name id s.innermost s.around (levels_kept s.declared ds (s.innermost ∷ s.around) keeps h.levels) (keeps id there);
      linked = declared_kept s.declared ds s.linked keeps h.linked;
      below = below_changed s.ids f id s.declared h.below;
      fit = fit_changed (length s.structs) f id s.declared h.fit (λ old e k. again_fits (length s.structs) d s.innermost.number old fit known k);
    }

pub again_scopes : (s : Scopes) (d : Declaration) (id : ℕ) (l : Level) (t : Table)
    → l ≡ naming (is_tag d.kind) d.name id s.innermost → t ≡ changed (redeclared d s.innermost.number) id s.declared
    → declare_again d id s ≡ record s { innermost = l; declared = t }
again_scopes s d id l t p q = sym (λ i. record s { innermost = p i; declared = q i })

-- what is kept of the types makes the later declaration
pub taken_again : (d : Declaration) (ty : CType) (before : Option CType) (scope id : ℕ) (es : Table) (o : Option Declared)
    → o ≡ with_id id es
    → ((old : Declared) → o ≡ Some old → (ty ≡ kept_type d.kind old.latest.ty d.ty) × (before ≡ types_before (has_linkage d) old))
    → changed (taken (record d { ty = ty }) before scope) id es ≡ changed (redeclared d scope) id es
taken_again d ty before scope id es None e h =
    changed_none (taken (record d { ty = ty }) before scope) id es (lookup_id id es ∙ sym e)
    ∙ sym (changed_none (redeclared d scope) id es (lookup_id id es ∙ sym e))
taken_again d ty before scope id es (Some old) e h =
    let k = h old refl in
    changed_same (taken (record d { ty = ty }) before scope) (redeclared d scope) id es old (sym e)
    (λ i. record {
      latest = record d { ty = k.0 i };
      before = k.1 i;
      scope = scope;
      first = old.first;
      defining = or_place old.defining (defined_at d);
      initialized = old.initialized;
      used = old.used;
    })

-- ---- structures

pub sound_structs : (s : Scopes) (structs : List Structure) → IsSound s → length s.structs ≤ length structs → IsSound (record s { structs = structs })
sound_structs s structs h more = record { levels = h.levels; linked = h.linked; below = h.below; fit = fit_more (length s.structs) (length structs) s.declared more h.fit }

pub add_grows : {A E : Type 0} (r : Result A E) (old new : List Structure) (x : Structure) → OnOk r (new ≡ old ++ x ∷ []) → OnErr r (new ≡ old) → length old ≤ length new
add_grows (Ok a) old new x h k = omega (arith, ap length h, length-append old (x ∷ []))
add_grows (Err e) old new x h k = omega (arith, ap length k)

pub on_ok : {A E : Type 0} (r : Result A E) (P Q : Type 0) → (P → Q) → OnOk r P → OnOk r Q
on_ok (Ok a) P Q f h = f h
on_ok (Err e) P Q f h = tt
