-- What is bound is declared, and declarations fit, after each call.
use Rattle.std.proofs.Common.{◌≡◌, ℕ, zero, suc, ◌+◌, ◌<◌, ◌≤◌, Bool, true, false, ◌&&◌, ◌||◌, not, nat_eq, List, [], ◌∷◌, ◌++◌, length, length-append, Option, Some, None, IsTrue, refl, ap, sym, subst, ◌∙◌, cond, arith}
use Rattle.std.specs.Option.{is_some}
use Rattle.model_types.specs.Structures.{Member, Structure, completed, names_below}
use Rattle.model_scopes.specs.Declarations.{Declaration, fits}
use Rattle.model_scopes.specs.Scopes.{Declared, Level, Scopes, with_id, is_declared, changed}
use Rattle.model_scopes.specs.Binding.{bound, name_space, bound_in, bound_among, or_else}
use Rattle.model_scopes.specs.Declaring.{with_name, with_name_if_new, naming, with_linked}
use Rattle.c_types.proofs.Growth.{names_more, length_completed}
use Rattle.decl_scope.specs.Soundness.{AreDeclared, LevelsDeclared, AreBelow, AreFit, IsSound}
use Rattle.model_types.specs.Texts.{same_text}

abbrev pub Table : Type 0
Table = List (ℕ × Declared)

-- what is declared stays declared
abbrev pub Keeps : Table → Table → Type 0
Keeps ds es = (id : ℕ) → IsTrue (is_declared id ds) → IsTrue (is_declared id es)

pub declared_kept : (ds es : Table) (bs : List (List ℕ × ℕ)) → Keeps ds es → AreDeclared ds bs → AreDeclared es bs
declared_kept ds es [] k h = tt
declared_kept ds es (b ∷ bs) k h = (k b.1 h.0, declared_kept ds es bs k h.1)

pub levels_kept : (ds es : Table) (ls : List Level) → Keeps ds es → LevelsDeclared ds ls → LevelsDeclared es ls
levels_kept ds es [] k h = tt
levels_kept ds es (l ∷ ls) k h = (declared_kept ds es l.names k h.0, declared_kept ds es l.tags k h.1, levels_kept ds es ls k h.2)

-- ---- what a name is bound to

pub bound_declared : (ds : Table) (name : List ℕ) (bs : List (List ℕ × ℕ)) (id : ℕ) → AreDeclared ds bs → bound name bs ≡ Some id → IsTrue (is_declared id ds)
bound_declared ds name [] id h = λ e. cc
bound_declared ds name (b ∷ bs) id h =
    elim (same_text name b.0) as (λ t. cond t (Some b.1) (bound name bs) ≡ Some id → IsTrue (is_declared id ds)) [
      | true ↦ λ e. let same : b.1 ≡ id = cc in subst (λ i. IsTrue (is_declared i ds)) same h.0
      | false ↦ λ e. bound_declared ds name bs id h.1 e
    ]

pub level_declared : (ds : Table) (tag : Bool) (name : List ℕ) (l : Level) (ls : List Level) (id : ℕ) → LevelsDeclared ds (l ∷ ls) → bound_in tag name l ≡ Some id → IsTrue (is_declared id ds)
level_declared ds true name l ls id h e = bound_declared ds name l.tags id h.1 e
level_declared ds false name l ls id h e = bound_declared ds name l.names id h.0 e

pub among_declared : (ds : Table) (tag : Bool) (name : List ℕ) (ls : List Level) (id : ℕ) → LevelsDeclared ds ls → bound_among tag name ls ≡ Some id → IsTrue (is_declared id ds)
among_declared ds tag name [] id h = λ e. cc
among_declared ds tag name (l ∷ ls) id h = by (bound_in tag name l) (λ i e. level_declared ds tag name l ls i h e) (among_declared ds tag name ls id h.2)
  where
    by : (o : Option ℕ) → ((i : ℕ) → o ≡ Some i → IsTrue (is_declared i ds)) → (bound_among tag name ls ≡ Some id → IsTrue (is_declared id ds))
        → or_else o (bound_among tag name ls) ≡ Some id → IsTrue (is_declared id ds)
    by (Some i) k rest e = k id e
    by None k rest e = rest e

-- ---- one more declaration

pub keeps_more : (ds : Table) (e : ℕ × Declared) → Keeps ds (ds ++ e ∷ [])
keeps_more [] e id = λ h. cc
keeps_more (d ∷ ds) e id =
    elim (nat_eq id d.0) as (λ t. IsTrue (is_some (cond t (Some d.1) (with_id id ds))) → IsTrue (is_some (cond t (Some d.1) (with_id id (ds ++ e ∷ []))))) [
      | true ↦ λ h. h
      | false ↦ λ h. keeps_more ds e id h
    ]

pub declared_last : (ds : Table) (id : ℕ) (d : Declared) → IsTrue (is_declared id (ds ++ (id, d) ∷ []))
declared_last [] id d = grind arith
declared_last (e ∷ ds) id d =
    elim (nat_eq id e.0) as (λ t. IsTrue (is_some (cond t (Some e.1) (with_id id (ds ++ (id, d) ∷ []))))) [
      | true ↦ refl
      | false ↦ declared_last ds id d
    ]

pub keeps_changed : (f : Declared → Declared) (at : ℕ) (ds : Table) → Keeps ds (changed f at ds)
keeps_changed f at [] id = λ h. h
keeps_changed f at (d ∷ ds) id =
    elim (nat_eq at d.0) as (λ t. IsTrue (is_declared id (d ∷ ds)) → IsTrue (is_declared id (cond t ((d.0, f d.1) ∷ ds) (d ∷ changed f at ds)))) [
      | true ↦ elim (nat_eq id d.0) as (λ t. IsTrue (is_some (cond t (Some d.1) (with_id id ds))) → IsTrue (is_some (cond t (Some (f d.1)) (with_id id ds)))) [
        | true ↦ λ h. refl
        | false ↦ λ h. h
      ]
      | false ↦ elim (nat_eq id d.0) as (λ t. IsTrue (is_some (cond t (Some d.1) (with_id id ds))) → IsTrue (is_some (cond t (Some d.1) (with_id id (changed f at ds))))) [
        | true ↦ λ h. h
        | false ↦ λ h. keeps_changed f at ds id h
      ]
    ]

pub name_more : (ds : Table) (bs : List (List ℕ × ℕ)) (name : List ℕ) (id : ℕ) → AreDeclared ds bs → IsTrue (is_declared id ds) → AreDeclared ds (bs ++ (name, id) ∷ [])
name_more ds [] name id h k = (k, tt)
name_more ds (b ∷ bs) name id h k = (h.0, name_more ds bs name id h.1 k)

pub linked_more : (ds : Table) (linked : Bool) (bs : List (List ℕ × ℕ)) (name : List ℕ) (id : ℕ) → AreDeclared ds bs → IsTrue (is_declared id ds) → AreDeclared ds (with_linked linked name id bs)
linked_more ds true bs name id h k = name_more ds bs name id h k
linked_more ds false bs name id h k = h

pub naming_declared : (ds : Table) (tag : Bool) (name : List ℕ) (id : ℕ) (l : Level) (ls : List Level) → LevelsDeclared ds (l ∷ ls) → IsTrue (is_declared id ds)
    → LevelsDeclared ds (naming tag name id l ∷ ls)
naming_declared ds tag name id l ls h k = by (bound_in tag name l) tag
  where
    by : (o : Option ℕ) (tag : Bool) → LevelsDeclared ds (with_name_if_new o tag name id l ∷ ls)
    by (Some old) tag = h
    by None true = (h.0, name_more ds l.tags name id h.1 k, h.2)
    by None false = (name_more ds l.names name id h.0 k, h.1, h.2)

-- ---- ids

pub below_absent : (n : ℕ) (ds : Table) → AreBelow n ds → with_id n ds ≡ None
below_absent n [] h = refl
below_absent n (d ∷ ds) h = let e : nat_eq n d.0 ≡ false = grind (arith, h.0) in rw e (below_absent n ds h.1)

pub below_more : (n : ℕ) (ds : Table) → AreBelow n ds → AreBelow (n + 1) ds
below_more n [] h = tt
below_more n (d ∷ ds) h = (omega (arith, h.0), below_more n ds h.1)

pub below_last : (n : ℕ) (ds : Table) (d : Declared) → AreBelow n ds → AreBelow (n + 1) (ds ++ (n, d) ∷ [])
below_last n [] d h = (omega arith, tt)
below_last n (e ∷ ds) d h = (omega (arith, h.0), below_last n ds d h.1)

pub below_changed : (n : ℕ) (f : Declared → Declared) (at : ℕ) (ds : Table) → AreBelow n ds → AreBelow n (changed f at ds)
below_changed n f at [] h = h
below_changed n f at (d ∷ ds) h =
    elim (nat_eq at d.0) as (λ t. AreBelow n (cond t ((d.0, f d.1) ∷ ds) (d ∷ changed f at ds))) [
      | true ↦ (h.0, h.1)
      | false ↦ (h.0, below_changed n f at ds h.1)
    ]

-- ---- declarations that fit

abbrev pub IsFit : ℕ → Declared → Type 0
IsFit n d = IsTrue (fits d.latest) × IsTrue (names_below n d.latest.ty)

pub fit_at : (n id : ℕ) (ds : Table) (d : Declared) → AreFit n ds → with_id id ds ≡ Some d → IsFit n d
fit_at n id [] d h = λ e. cc
fit_at n id (x ∷ ds) d h =
    elim (nat_eq id x.0) as (λ t. cond t (Some x.1) (with_id id ds) ≡ Some d → IsFit n d) [
      | true ↦ λ e. let same : x.1 ≡ d = cc in subst (IsFit n) same (h.0, h.1)
      | false ↦ λ e. fit_at n id ds d h.2 e
    ]

pub fit_last : (n id : ℕ) (ds : Table) (d : Declared) → AreFit n ds → IsFit n d → AreFit n (ds ++ (id, d) ∷ [])
fit_last n id [] d h k = (k.0, k.1, tt)
fit_last n id (x ∷ ds) d h k = (h.0, h.1, fit_last n id ds d h.2 k)

pub fit_changed : (n : ℕ) (f : Declared → Declared) (at : ℕ) (ds : Table) → AreFit n ds → ((d : Declared) → with_id at ds ≡ Some d → IsFit n d → IsFit n (f d)) → AreFit n (changed f at ds)
fit_changed n f at [] h = λ k. h
fit_changed n f at (d ∷ ds) h =
    elim (nat_eq at d.0) as (λ t. ((x : Declared) → cond t (Some d.1) (with_id at ds) ≡ Some x → IsFit n x → IsFit n (f x)) → AreFit n (cond t ((d.0, f d.1) ∷ ds) (d ∷ changed f at ds))) [
      | true ↦ λ k. let fit : IsFit n (f d.1) = k d.1 refl (h.0, h.1) in (fit.0, fit.1, h.2)
      | false ↦ λ k. (h.0, h.1, fit_changed n f at ds h.2 k)
    ]

pub fit_more : (m n : ℕ) (ds : Table) → m ≤ n → AreFit m ds → AreFit n ds
fit_more m n [] h k = tt
fit_more m n (d ∷ ds) h k = (k.0, names_more m n h d.1.latest.ty k.1, fit_more m n ds h k.2)
