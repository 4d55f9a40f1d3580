-- The objects and functions of a typed core are typed by themselves.
use Rattle.std.proofs.Common.{◌≡◌, Bool, true, false, ◌&&◌, List, [], ◌∷◌, ◌++◌, IsTrue, refl}
use Rattle.std.proofs.lemmas.Bool.{and_parts}
use Rattle.std.specs.List.{list_all}
use Rattle.model_core.specs.PossibleTypes.{is_possible, are_structures}
use Rattle.model_core.specs.TypedUnitParts.{is_typed_object, is_typed_function, are_distinct}
use Rattle.model_core.specs.TypedCore.{is_typed_core, TypedCore, are_distinct_names, object_ids, function_ids, external_objects, external_functions, object_fits, function_fits, storage_stands, body_stands}
use Rattle.model_core.specs.Core as m

pub both : (a b : Bool) → a ≡ true → b ≡ true → (a && b) ≡ true
both true b h k = k
both false b h k = h

parts_5 : (a b c d e : Bool) → (a && b && c && d && e) ≡ true → (a ≡ true) × ((b ≡ true) × ((c ≡ true) × ((d ≡ true) × (e ≡ true))))
parts_5 a b c d e h =
    let p = and_parts (a && b && c && d) e h in
    let q = and_parts (a && b && c) d p.0 in
    let r = and_parts (a && b) c q.0 in
    let s = and_parts a b r.0 in
    (s.0, (s.1, (r.1, (q.1, p.1))))

first_of_3 : (a b c : Bool) → (a && b && c) ≡ true → a ≡ true
first_of_3 a b c h = (and_parts a b (and_parts (a && b) c h).0).0

typed_objects : (core : m.Core) (os : List m.DeclaredObject) → list_all (object_fits core) os ≡ true → list_all is_typed_object os ≡ true
typed_objects core [] h = refl
typed_objects core (o ∷ os) h =
    let p = and_parts (object_fits core o) (list_all (object_fits core) os) h in
    let typed = first_of_3 (is_typed_object o) (is_possible core.structs o.type) (storage_stands core o.type o.storage) p.0 in
    both (is_typed_object o) (list_all is_typed_object os) typed (typed_objects core os p.1)

typed_functions : (core : m.Core) (gs : List m.Function) → list_all (function_fits core) gs ≡ true → list_all is_typed_function gs ≡ true
typed_functions core [] h = refl
typed_functions core (g ∷ gs) h =
    let p = and_parts (function_fits core g) (list_all (function_fits core) gs) h in
    let typed = first_of_3 (is_typed_function g) (is_possible core.structs g.type) (body_stands core g g.body) p.0 in
    both (is_typed_function g) (list_all is_typed_function gs) typed (typed_functions core gs p.1)

pub typed_parts : (core : m.Core) → TypedCore core → IsTrue (list_all is_typed_object core.objects) × IsTrue (list_all is_typed_function core.functions)
typed_parts core typed =
    let h : IsTrue (is_typed_core core) = typed.parts in
    let functions = list_all (function_fits core) core.functions in
    let objects = list_all (object_fits core) core.objects in
    let distinct = are_distinct (object_ids core.objects ++ function_ids core.functions) in
    let names = are_distinct_names (external_functions core.functions ++ external_objects core.objects) in
    let named = list_all (λ t. is_possible core.structs t.1) core.named_types in
    let p = and_parts (are_structures core.structs && named && functions && objects && distinct) names h in
    let q = parts_5 (are_structures core.structs) named functions objects distinct p.0 in
    (typed_objects core core.objects q.1.1.1.0, typed_functions core core.functions q.1.1.0)
