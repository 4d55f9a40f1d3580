-- Members of one structure have different names.
use Rattle.std.proofs.Common.{◌≡◌, ◌∙◌, ap, sym, refl, arith, ℕ, zero, suc, ◌+◌, ◌<◌, ◌≤◌, ◌^◌, List, [], ◌∷◌, length, Option, Some, None, slice_get, ◌⊎◌, inl, inr}
use Rattle.std.proofs.lemmas.Bool.{cases_order}
use Rattle.model_types.specs.declared.types.StructId.{StructId}
use Rattle.model_types.specs.Structures.{Member, Structure, members_in, members_of}
use Rattle.model_core.specs.Core.{Core}
use Rattle.model_lowering.specs.TextNames.{Wish, Wants, stem, all_named, named, wishes_of_members, member_wishes, members_named, external_names, naming_of, or_empty, names_or_none}
use Rattle.lowering_laws.specs.Numbers.{behind_structures, behind_members_of, behind_members}
use Rattle.lowering_laws.proofs.DifferentNames.{AllWant, names_differ, next_grows}

want_all : (ms : List Member) → AllWant (wishes_of_members ms)
want_all [] = tt
want_all (m ∷ ms) = want_all ms

all_want : (members : Option (List Member)) → AllWant (member_wishes members)
all_want None = tt
all_want (Some ms) = want_all ms

record Found (names : List (List ℕ)) (k : ℕ) : Type 0 where
  name : List ℕ
  there : slice_get names k ≡ Some name

has_name : (externals : List (List ℕ)) (next : ℕ) (ms : List Member) (k : ℕ) → k < length ms → Found (all_named externals next (wishes_of_members ms)).made k
has_name externals next [] k h = absurd (omega (arith, h))
has_name externals next (m ∷ ms) zero h = record { name = _; there = refl }
has_name externals next (m ∷ ms) (suc k) h =
    let x = has_name externals (named externals next (Wants (stem (Some m.name)))).next ms k (omega (arith, h)) in record { name = x.name; there = x.there }

-- the names of a structure's members are those of one list, whose numbers end before the last
record Listed (externals : List (List ℕ)) (names : List (List (List ℕ))) (k last : ℕ) (members : Option (List Member)) : Type 0 where
  next : ℕ
  list : slice_get names k ≡ Some (all_named externals next (member_wishes members)).made
  ends : (all_named externals next (member_wishes members)).next ≤ last

goes_on : (externals : List (List ℕ)) (next : ℕ) (ss : List Structure) → next ≤ behind_members_of externals next ss
goes_on externals next [] = omega arith
goes_on externals next (s ∷ ss) =
    let a = next_grows externals next (member_wishes s.members) (all_want s.members) in
    let b = goes_on externals (all_named externals next (member_wishes s.members)).next ss in
    omega (arith, a, b)

none_some : (members : List Member) → None ≡ Some members → ⊥
none_some members e = cc

at_end : (externals : List (List ℕ)) (next : ℕ) (ss : List Structure) (former members : Option (List Member)) → former ≡ members →
    (all_named externals next (member_wishes members)).next ≤ behind_members_of externals (all_named externals next (member_wishes former)).next ss
at_end externals next ss former members e =
    let same : (all_named externals next (member_wishes former)).next ≡ (all_named externals next (member_wishes members)).next =
    ap (λ (x : Option (List Member)). (all_named externals next (member_wishes x)).next) e in
    let a = goes_on externals (all_named externals next (member_wishes former)).next ss in
    omega (arith, same, a)

listed : (externals : List (List ℕ)) (next : ℕ) (ss : List Structure) (k : ℕ) (members : List Member) → members_in (slice_get ss k) ≡ Some members →
    Listed externals (members_named externals next ss) k (behind_members_of externals next ss) (Some members)
listed externals next [] k members e = absurd (none_some members e)
listed externals next (s ∷ ss) zero members e = record {
  next = next;
  list = ap (λ (x : Option (List Member)). Some (all_named externals next (member_wishes x)).made) e;
  ends = at_end externals next ss s.members (Some members) e;
}
listed externals next (s ∷ ss) (suc k) members e =
    let x = listed externals (all_named externals next (member_wishes s.members)).next ss k members e in
    record { next = x.next; list = x.list; ends = x.ends }

by_order : (externals : List (List ℕ)) (next : ℕ) (ms : List Member) (i j : ℕ) (a b : List ℕ) → (i ≡ j) ⊎ ((i < j) ⊎ (j < i)) →
    (all_named externals next (wishes_of_members ms)).next ≤ 2 ^ 64 → slice_get (all_named externals next (wishes_of_members ms)).made i ≡ Some a →
    slice_get (all_named externals next (wishes_of_members ms)).made j ≡ Some b → a ≡ b → i ≡ j
by_order externals next ms i j a b (inl e) small f g same = e
by_order externals next ms i j a b (inr (inl h)) small f g same = absurd (names_differ externals next (wishes_of_members ms) i j a b (want_all ms) small h f g same)
by_order externals next ms i j a b (inr (inr h)) small f g same = absurd (names_differ externals next (wishes_of_members ms) j i b a (want_all ms) small h g f (sym same))

pub members_differ : (core : Core) (id : StructId) (members : List Member) (rank other : ℕ) → behind_members core ≤ 2 ^ 64 → members_of core.structs id ≡ Some members →
    rank < length members → other < length members → (naming_of core).member id rank ≡ (naming_of core).member id other → rank ≡ other
members_differ core id members rank other small e h k same =
    let z = listed (external_names core) (behind_structures core) core.structs id.0 members e in
    let x = has_name (external_names core) z.next members rank h in
    let y = has_name (external_names core) z.next members other k in
    by_order (external_names core) z.next members rank other x.name y.name (cases_order rank other) (omega (arith, z.ends, small)) x.there y.there
    (ap or_empty (sym x.there)
    ∙ ap (λ (n : Option (List (List ℕ))). or_empty (slice_get (names_or_none n) rank)) (sym z.list)
    ∙ same
    ∙ ap (λ (n : Option (List (List ℕ))). or_empty (slice_get (names_or_none n) other)) z.list
    ∙ ap or_empty y.there)
