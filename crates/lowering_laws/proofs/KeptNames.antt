-- What is external keeps its name in the text.
use Rattle.std.proofs.Common.{◌≡◌, ◌∙◌, ap, refl, sym, ℕ, suc, nat_eq, Bool, true, false, List, [], ◌∷◌, ◌++◌, Option, Some, None, if◌then◌else◌}
use Rattle.model_core.specs.Core as source
use Rattle.model_lowering.specs.TextNames as t
use Rattle.lowering_laws.specs.Storages.{IsNoText}
use Rattle.model_lowering.specs.TextNames.{Wish, Keeps, Wants}

-- ---- the wish of the first thing of an id

abbrev wish_for : (ids : List ℕ) → List Wish → (id : ℕ) → Option Wish
wish_for (first ∷ ids) (w ∷ ws) id = if nat_eq first id then Some w else wish_for ids ws id
wish_for ids ws id = None

kept_by : (externals : List (List ℕ)) (next : ℕ) (w : Wish) (name : List ℕ) → Some w ≡ Some (Keeps name) → (t.named externals next w).made ≡ name
kept_by externals next (Keeps other) name e = cc
kept_by externals next (Wants front) name e = cc

kept_if : (b : Bool) (externals : List (List ℕ)) (next : ℕ) (w : Wish) (name other : List ℕ) (rest : Option Wish) →
    (if b then Some w else rest) ≡ Some (Keeps name) → (rest ≡ Some (Keeps name) → other ≡ name) → (if b then (t.named externals next w).made else other) ≡ name
kept_if true externals next w name other rest e behind = kept_by externals next w name e
kept_if false externals next w name other rest e behind = behind e

pub kept_is_found : (externals : List (List ℕ)) (next : ℕ) (ids : List ℕ) (ws : List Wish) (id : ℕ) (name : List ℕ) → wish_for ids ws id ≡ Some (Keeps name) →
    t.found ids (t.all_named externals next ws).made id ≡ name
kept_is_found externals next [] ws id name e = cc
kept_is_found externals next (first ∷ ids) [] id name e = cc
kept_is_found externals next (first ∷ ids) (w ∷ ws) id name e =
    kept_if (nat_eq first id) externals next w name (t.found ids (t.all_named externals (t.named externals next w).next ws).made id) (wish_for ids ws id) e
    (λ k. kept_is_found externals (t.named externals next w).next ids ws id name k)

-- ---- functions, behind objects

abbrev wish_of : Option source.Function → Option Wish
wish_of None = None
wish_of (Some g) = Some (t.wish_if g.is_external (t.name_of_function g.name))

abbrev object_wish_of : (externals : List (List ℕ)) → (strings : ℕ) → Option source.DeclaredObject → Option Wish
object_wish_of externals strings None = None
object_wish_of externals strings (Some o) = Some (t.object_wish externals strings o o.storage)

-- a function that no object has the id of
function_by : (b : Bool) (g found : source.Function) (rest : Option source.Function) (other : Option Wish) → (if b then Some g else rest) ≡ Some found →
    (rest ≡ Some found → other ≡ Some (t.wish_if found.is_external (t.name_of_function found.name))) →
    (if b then Some (t.wish_if g.is_external (t.name_of_function g.name)) else other) ≡ Some (t.wish_if found.is_external (t.name_of_function found.name))
function_by true g found rest other e behind = ap (λ (x : Option source.Function). wish_of x) e
function_by false g found rest other e behind = behind e

function_wish : (gs : List source.Function) (id : ℕ) (found : source.Function) → source.function_by_id gs id ≡ Some found →
    wish_for (t.function_ids gs) (t.function_wishes gs) id ≡ Some (t.wish_if found.is_external (t.name_of_function found.name))
function_wish [] id found e = cc
function_wish (g ∷ gs) id found e =
    function_by (nat_eq g.id id) g found (source.function_by_id gs id) (wish_for (t.function_ids gs) (t.function_wishes gs) id) e
    (λ k. function_wish gs id found k)

no_object_by : (b : Bool) (o : source.DeclaredObject) (rest : Option source.DeclaredObject) (w : Wish) (other wanted : Option Wish) → (if b then Some o else rest) ≡ None →
    (rest ≡ None → other ≡ wanted) → (if b then Some w else other) ≡ wanted
no_object_by true o rest w other wanted e behind = cc
no_object_by false o rest w other wanted e behind = behind e

behind_objects : (externals : List (List ℕ)) (strings : ℕ) (os : List source.DeclaredObject) (ids : List ℕ) (ws : List Wish) (id : ℕ) → source.object_of os id ≡ None →
    wish_for (t.object_ids os ++ ids) (t.object_wishes externals strings os ++ ws) id ≡ wish_for ids ws id
behind_objects externals strings [] ids ws id e = refl
behind_objects externals strings (o ∷ os) ids ws id e =
    no_object_by (nat_eq o.id id) o (source.object_of os id) (t.object_wish externals strings o o.storage)
    (wish_for (t.object_ids os ++ ids) (t.object_wishes externals (if t.is_string o.storage then suc strings else strings) os ++ ws) id) (wish_for ids ws id) e
    (λ k. behind_objects externals (if t.is_string o.storage then suc strings else strings) os ids ws id k)

-- an external function keeps its name
pub function_keeps_name : (core : source.Core) (id : ℕ) (g : source.Function) (name : List ℕ) → source.object_of core.objects id ≡ None →
    source.function_by_id core.functions id ≡ Some g → g.is_external ≡ true → g.name ≡ source.Named name → (t.naming_of core).declared id ≡ name
function_keeps_name core id g name none e external named =
    kept_is_found (t.external_names core) 1 (t.object_ids core.objects ++ t.function_ids core.functions)
    (t.object_wishes (t.external_names core) 0 core.objects ++ t.function_wishes core.functions) id name
    (behind_objects (t.external_names core) 0 core.objects (t.function_ids core.functions) (t.function_wishes core.functions) id none
    ∙ function_wish core.functions id g e
    ∙ ap (λ b. Some (t.wish_if b (t.name_of_function g.name))) external
    ∙ ap (λ n. Some (t.wish_if true (t.name_of_function n))) named)

-- ---- objects

plain_wish : (externals : List (List ℕ)) (strings : ℕ) (o : source.DeclaredObject) (storage : source.Storage) → IsNoText storage →
    t.object_wish externals strings o storage ≡ t.wish_if o.is_external o.name
plain_wish externals strings o source.Automatic h = refl
plain_wish externals strings o source.Parameter h = refl
plain_wish externals strings o (source.Static values) h = refl
plain_wish externals strings o source.Declared h = refl
plain_wish externals strings o (source.Text bytes) h = absurd h

object_by : (b : Bool) (externals : List (List ℕ)) (strings : ℕ) (o found : source.DeclaredObject) (rest : Option source.DeclaredObject) (other : Option Wish) →
    IsNoText found.storage → (if b then Some o else rest) ≡ Some found → (rest ≡ Some found → other ≡ Some (t.wish_if found.is_external found.name)) →
    (if b then Some (t.object_wish externals strings o o.storage) else other) ≡ Some (t.wish_if found.is_external found.name)
object_by true externals strings o found rest other h e behind =
    ap (λ (x : Option source.DeclaredObject). object_wish_of externals strings x) e ∙ ap (λ w. Some w) (plain_wish externals strings found found.storage h)
object_by false externals strings o found rest other h e behind = behind e

object_wish : (externals : List (List ℕ)) (strings : ℕ) (os : List source.DeclaredObject) (ids : List ℕ) (ws : List Wish) (id : ℕ) (found : source.DeclaredObject) →
    IsNoText found.storage → source.object_of os id ≡ Some found →
    wish_for (t.object_ids os ++ ids) (t.object_wishes externals strings os ++ ws) id ≡ Some (t.wish_if found.is_external found.name)
object_wish externals strings [] ids ws id found h e = cc
object_wish externals strings (o ∷ os) ids ws id found h e =
    object_by (nat_eq o.id id) externals strings o found (source.object_of os id)
    (wish_for (t.object_ids os ++ ids) (t.object_wishes externals (if t.is_string o.storage then suc strings else strings) os ++ ws) id) h e
    (λ k. object_wish externals (if t.is_string o.storage then suc strings else strings) os ids ws id found h k)

-- an external object keeps its name
pub object_keeps_name : (core : source.Core) (id : ℕ) (o : source.DeclaredObject) (name : List ℕ) → source.object_of core.objects id ≡ Some o → IsNoText o.storage →
    o.is_external ≡ true → o.name ≡ Some name → (t.naming_of core).declared id ≡ name
object_keeps_name core id o name e h external named =
    kept_is_found (t.external_names core) 1 (t.object_ids core.objects ++ t.function_ids core.functions)
    (t.object_wishes (t.external_names core) 0 core.objects ++ t.function_wishes core.functions) id name
    (object_wish (t.external_names core) 0 core.objects (t.function_ids core.functions) (t.function_wishes core.functions) id o h e
    ∙ ap (λ b. Some (t.wish_if b o.name)) external
    ∙ ap (λ n. Some (t.wish_if true n)) named)
