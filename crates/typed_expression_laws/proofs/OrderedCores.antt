-- The lists of a core are in order, since each is made by insertion.
use Rattle.std.proofs.Common.{◌≡◌, ◌∙◌, ap, refl, ℕ, nat_lt, ◌<◌, ◌≤◌, Bool, true, false, ◌&&◌, not, List, [], ◌∷◌, map, Option, Some, None, Result, Ok, Err, arith, if◌then◌else◌}
use Rattle.std.specs.Result.{IfOk}
use Rattle.std.proofs.lemmas.Bool.{and_parts, and_from, ltb-true, le-ltb}
use Rattle.cake_base.specs.declared.places.Place.{Place}
use Rattle.cake_base.specs.declared.rules.Fault.{Fault}
use Rattle.model_types.specs.Types.{CType}
use Rattle.model_grammar.specs.SyntaxForms as syntax
use Rattle.model_core.specs.Core as unit
use Rattle.model_core.specs.TypedCore.{object_ids, function_ids}
use Rattle.model_core.specs.MadeNames.{are_in_order, is_in_order}
use Rattle.model_scopes.specs.Scopes.{Declared}
use Rattle.model_checking.specs.State.{State, Made, Body, Reached}
use Rattle.model_checking.specs.MadeUnit.{core_of}
use Rattle.model_checking.specs.Units.{checked, elab_unit}

-- ---- a number that is inserted before the first larger one

abbrev inserted : ℕ → List ℕ → List ℕ
inserted n [] = n ∷ []
inserted n (m ∷ ms) = if nat_lt n m then n ∷ m ∷ ms else m ∷ inserted n ms

-- the first of a list isn't less
abbrev is_before : ℕ → List ℕ → Bool
is_before n [] = true
is_before n (m ∷ ms) = not (nat_lt m n)

before_others : (n : ℕ) (ms : List ℕ) → is_before n ms ≡ true → are_in_order ms ≡ true → are_in_order (n ∷ ms) ≡ true
before_others n [] h k = refl
before_others n (m ∷ ms) h k = and_from (not (nat_lt m n)) (are_in_order (m ∷ ms)) h k

first_before : (n : ℕ) (ms : List ℕ) → are_in_order (n ∷ ms) ≡ true → is_before n ms ≡ true
first_before n [] h = refl
first_before n (m ∷ ms) h = (and_parts (not (nat_lt m n)) (are_in_order (m ∷ ms)) h).0

others_in_order : (n : ℕ) (ms : List ℕ) → are_in_order (n ∷ ms) ≡ true → are_in_order ms ≡ true
others_in_order n [] h = refl
others_in_order n (m ∷ ms) h = (and_parts (not (nat_lt m n)) (are_in_order (m ∷ ms)) h).1

not_less : (n m : ℕ) → nat_lt n m ≡ true → not (nat_lt m n) ≡ true
not_less n m h =
    let less : n < m = ltb-true n m h in
    let back : n ≤ m = omega (arith, less) in
    ap not (le-ltb m n back)

before_inserted_by : (n m k : ℕ) (ms : List ℕ) (b : Bool) → not (nat_lt n m) ≡ true → not (nat_lt k m) ≡ true →
    is_before m (if b then n ∷ k ∷ ms else k ∷ inserted n ms) ≡ true
before_inserted_by n m k ms true h j = h
before_inserted_by n m k ms false h j = j

before_inserted : (n m : ℕ) (ms : List ℕ) → not (nat_lt n m) ≡ true → is_before m ms ≡ true → is_before m (inserted n ms) ≡ true
before_inserted n m [] h j = h
before_inserted n m (k ∷ ms) h j = before_inserted_by n m k ms (nat_lt n k) h j

in_order_by : (n m : ℕ) (ms : List ℕ) (b : Bool) → nat_lt n m ≡ b → are_in_order (m ∷ ms) ≡ true → are_in_order (inserted n ms) ≡ true →
    are_in_order (if b then n ∷ m ∷ ms else m ∷ inserted n ms) ≡ true
in_order_by n m ms true e h k = and_from (not (nat_lt m n)) (are_in_order (m ∷ ms)) (not_less n m e) h
in_order_by n m ms false e h k = before_others m (inserted n ms) (before_inserted n m ms (ap not e) (first_before m ms h)) k

inserted_in_order : (n : ℕ) (ms : List ℕ) → are_in_order ms ≡ true → are_in_order (inserted n ms) ≡ true
inserted_in_order n [] h = refl
inserted_in_order n (m ∷ ms) h = in_order_by n m ms (nat_lt n m) refl h (inserted_in_order n ms (others_in_order m ms h))

-- ---- objects

abbrev object_inserted : unit.DeclaredObject → List unit.DeclaredObject → List unit.DeclaredObject
object_inserted o [] = o ∷ []
object_inserted o (p ∷ ps) = if nat_lt o.id p.id then o ∷ p ∷ ps else p ∷ object_inserted o ps

object_ids_by : (o p : unit.DeclaredObject) (ps : List unit.DeclaredObject) (b : Bool) → object_ids (object_inserted o ps) ≡ inserted o.id (object_ids ps) →
    object_ids (if b then o ∷ p ∷ ps else p ∷ object_inserted o ps) ≡ (if b then o.id ∷ p.id ∷ object_ids ps else p.id ∷ inserted o.id (object_ids ps))
object_ids_by o p ps true e = refl
object_ids_by o p ps false e = ap (λ ids. p.id ∷ ids) e

object_ids_inserted : (o : unit.DeclaredObject) (ps : List unit.DeclaredObject) → object_ids (object_inserted o ps) ≡ inserted o.id (object_ids ps)
object_ids_inserted o [] = refl
object_ids_inserted o (p ∷ ps) = object_ids_by o p ps (nat_lt o.id p.id) (object_ids_inserted o ps)

abbrev ObjectsInOrder : List unit.DeclaredObject → Type 0
ObjectsInOrder os = are_in_order (object_ids os) ≡ true

object_in_order : (o : unit.DeclaredObject) (os : List unit.DeclaredObject) → ObjectsInOrder os → ObjectsInOrder (object_inserted o os)
object_in_order o os h = ap are_in_order (object_ids_inserted o os) ∙ inserted_in_order o.id (object_ids os) h

abbrev object_before : Bool → unit.DeclaredObject → List unit.DeclaredObject → List unit.DeclaredObject
object_before true o os = object_inserted o os
object_before false o os = os

before_in_order : (b : Bool) (o : unit.DeclaredObject) (os : List unit.DeclaredObject) → ObjectsInOrder os → ObjectsInOrder (object_before b o os)
before_in_order true o os h = object_in_order o os h
before_in_order false o os h = h

-- those that are declared, by any choice of them and any object of each
abbrev objects_of : ((ℕ × Declared) → Bool) → ((ℕ × Declared) → unit.DeclaredObject) → List (ℕ × Declared) → List unit.DeclaredObject
objects_of chosen object [] = []
objects_of chosen object (e ∷ es) = object_before (chosen e) (object e) (objects_of chosen object es)

objects_in_order : (chosen : (ℕ × Declared) → Bool) (object : (ℕ × Declared) → unit.DeclaredObject) (es : List (ℕ × Declared)) → ObjectsInOrder (objects_of chosen object es)
objects_in_order chosen object [] = refl
objects_in_order chosen object (e ∷ es) = before_in_order (chosen e) (object e) (objects_of chosen object es) (objects_in_order chosen object es)

-- and those that were made
abbrev with_made : (Made → unit.DeclaredObject) → List Made → List unit.DeclaredObject → List unit.DeclaredObject
with_made object [] os = os
with_made object (m ∷ ms) os = with_made object ms (if m.is_evaluated then object_inserted (object m) os else os)

made_by : (b : Bool) (o : unit.DeclaredObject) (os : List unit.DeclaredObject) → ObjectsInOrder os → ObjectsInOrder (if b then object_inserted o os else os)
made_by true o os h = object_in_order o os h
made_by false o os h = h

made_in_order : (object : Made → unit.DeclaredObject) (ms : List Made) (os : List unit.DeclaredObject) → ObjectsInOrder os → ObjectsInOrder (with_made object ms os)
made_in_order object [] os h = h
made_in_order object (m ∷ ms) os h =
    made_in_order object ms (if m.is_evaluated then object_inserted (object m) os else os) (made_by m.is_evaluated (object m) os h)

-- ---- functions

abbrev function_inserted : unit.Function → List unit.Function → List unit.Function
function_inserted f [] = f ∷ []
function_inserted f (g ∷ gs) = if nat_lt f.id g.id then f ∷ g ∷ gs else g ∷ function_inserted f gs

function_ids_by : (f g : unit.Function) (gs : List unit.Function) (b : Bool) → function_ids (function_inserted f gs) ≡ inserted f.id (function_ids gs) →
    function_ids (if b then f ∷ g ∷ gs else g ∷ function_inserted f gs) ≡ (if b then f.id ∷ g.id ∷ function_ids gs else g.id ∷ inserted f.id (function_ids gs))
function_ids_by f g gs true e = refl
function_ids_by f g gs false e = ap (λ ids. g.id ∷ ids) e

function_ids_inserted : (f : unit.Function) (gs : List unit.Function) → function_ids (function_inserted f gs) ≡ inserted f.id (function_ids gs)
function_ids_inserted f [] = refl
function_ids_inserted f (g ∷ gs) = function_ids_by f g gs (nat_lt f.id g.id) (function_ids_inserted f gs)

abbrev FunctionsInOrder : List unit.Function → Type 0
FunctionsInOrder fs = are_in_order (function_ids fs) ≡ true

function_in_order : (f : unit.Function) (fs : List unit.Function) → FunctionsInOrder fs → FunctionsInOrder (function_inserted f fs)
function_in_order f fs h = ap are_in_order (function_ids_inserted f fs) ∙ inserted_in_order f.id (function_ids fs) h

abbrev function_before : Bool → unit.Function → List unit.Function → List unit.Function
function_before true f fs = function_inserted f fs
function_before false f fs = fs

function_before_in_order : (b : Bool) (f : unit.Function) (fs : List unit.Function) → FunctionsInOrder fs → FunctionsInOrder (function_before b f fs)
function_before_in_order true f fs h = function_in_order f fs h
function_before_in_order false f fs h = h

abbrev functions_of : ((ℕ × Declared) → Bool) → ((ℕ × Declared) → unit.Function) → List (ℕ × Declared) → List unit.Function
functions_of chosen function [] = []
functions_of chosen function (e ∷ es) = function_before (chosen e) (function e) (functions_of chosen function es)

functions_in_order : (chosen : (ℕ × Declared) → Bool) (function : (ℕ × Declared) → unit.Function) (es : List (ℕ × Declared)) →
    FunctionsInOrder (functions_of chosen function es)
functions_in_order chosen function [] = refl
functions_in_order chosen function (e ∷ es) = function_before_in_order (chosen e) (function e) (functions_of chosen function es) (functions_in_order chosen function es)

-- and those of literals
abbrev literal_inserted : (Place → Body → unit.Function) → Option Place → Body → List unit.Function → List unit.Function
literal_inserted function (Some place) b fs = function_inserted (function place b) fs
literal_inserted function None b fs = fs

abbrev with_literals : (Place → Body → unit.Function) → List Body → List unit.Function → List unit.Function
with_literals function [] fs = fs
with_literals function (b ∷ bs) fs = with_literals function bs (literal_inserted function b.literal b fs)

literal_in_order : (function : Place → Body → unit.Function) (place : Option Place) (b : Body) (fs : List unit.Function) → FunctionsInOrder fs →
    FunctionsInOrder (literal_inserted function place b fs)
literal_in_order function (Some place) b fs h = function_in_order (function place b) fs h
literal_in_order function None b fs h = h

literals_in_order : (function : Place → Body → unit.Function) (bs : List Body) (fs : List unit.Function) → FunctionsInOrder fs → FunctionsInOrder (with_literals function bs fs)
literals_in_order function [] fs h = h
literals_in_order function (b ∷ bs) fs h = literals_in_order function bs (literal_inserted function b.literal b fs) (literal_in_order function b.literal b fs h)

-- ---- named types

abbrev type_inserted : (Place × CType) → List (Place × CType) → List (Place × CType)
type_inserted t [] = t ∷ []
type_inserted t (u ∷ us) = if nat_lt t.0.order u.0.order then t ∷ u ∷ us else u ∷ type_inserted t us

abbrev types_in_order : List (Place × CType) → List (Place × CType)
types_in_order [] = []
types_in_order (t ∷ ts) = type_inserted t (types_in_order ts)

abbrev orders : List (Place × CType) → List ℕ
orders ts = map (λ t. t.0.order) ts

orders_by : (t u : Place × CType) (us : List (Place × CType)) (b : Bool) → orders (type_inserted t us) ≡ inserted t.0.order (orders us) →
    orders (if b then t ∷ u ∷ us else u ∷ type_inserted t us) ≡ (if b then t.0.order ∷ u.0.order ∷ orders us else u.0.order ∷ inserted t.0.order (orders us))
orders_by t u us true e = refl
orders_by t u us false e = ap (λ ns. u.0.order ∷ ns) e

orders_inserted : (t : Place × CType) (us : List (Place × CType)) → orders (type_inserted t us) ≡ inserted t.0.order (orders us)
orders_inserted t [] = refl
orders_inserted t (u ∷ us) = orders_by t u us (nat_lt t.0.order u.0.order) (orders_inserted t us)

named_in_order : (ts : List (Place × CType)) → are_in_order (orders (types_in_order ts)) ≡ true
named_in_order [] = refl
named_in_order (t ∷ ts) = ap are_in_order (orders_inserted t (types_in_order ts)) ∙ inserted_in_order t.0.order (orders (types_in_order ts)) (named_in_order ts)

-- ---- a core

pub core_in_order : (s : State) → is_in_order (core_of s) ≡ true
core_in_order s =
    let core = core_of s in
    and_from (are_in_order (object_ids core.objects) && are_in_order (function_ids core.functions)) (are_in_order (map (λ named. named.0.order) core.named_types))
    (and_from (are_in_order (object_ids core.objects)) (are_in_order (function_ids core.functions))
    (made_in_order _ s.made _ (objects_in_order _ _ s.scopes.declared)) (literals_in_order _ s.bodies _ (functions_in_order _ _ s.scopes.declared)))
    (named_in_order s.named)

abbrev core_if : Reached → Result unit.Core Fault
core_if (Ok s) = Ok (core_of s)
core_if (Err fault) = Err fault

core_if_in_order : (r : Reached) → IfOk (core_if r) (λ core. is_in_order core ≡ true)
core_if_in_order (Ok s) = core_in_order s
core_if_in_order (Err fault) = tt

pub unit_in_order : (trees : List syntax.External) → IfOk (elab_unit trees) (λ core. is_in_order core ≡ true)
unit_in_order trees = core_if_in_order (checked trees)
