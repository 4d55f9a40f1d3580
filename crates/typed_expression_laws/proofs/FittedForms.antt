-- What is placed, converted to the types of its subobjects, is typed, and of these types.
use Rattle.std.proofs.Common.{◌≡◌, refl, ℕ, Bool, true, false, ◌&&◌, if◌then◌else◌, List, [], ◌∷◌, Option, Some, None, Result, Ok, Err}
use Rattle.std.specs.Result.{IfOk}
use Rattle.std.proofs.lemmas.Bool.{and_parts}
use Rattle.cake_base.specs.declared.places.Place.{Place}
use Rattle.cake_base.specs.declared.rules.Fault.{Fault}
use Rattle.model_types.specs.Types.{CType, Form, Void, Integer, Enum, Pointer, Array, Struct, Function, form_of_type}
use Rattle.model_types.specs.Structures.{Structure}
use Rattle.model_core.specs.CoreTypes.{type_of}
use Rattle.model_core.specs.SameTypes.{same_value_type}
use Rattle.model_core.specs.TypedParts.{is_array}
use Rattle.model_core.specs.TypedExpr.{is_typed}
use Rattle.model_core.specs.PossibleTypes.{is_possible}
use Rattle.model_core.specs.Core as unit
use Rattle.model_checking.specs.State.{State, unless}
use Rattle.model_checking.specs.Conversion.{passed}
use Rattle.model_checking.specs.ConstantValues.{static_fault, is_automatic_in}
use Rattle.model_checking.specs.Ways.{a_string, takes, is_character_array}
use Rattle.model_checking.specs.Placing as placing
use Rattle.model_checking.specs.Placing.{Content, Value, Text, Zeros, Placed, Placement}
use Rattle.model_checking.specs.Fitting.{Fit, fitted_value, fitted_content, fitted_list, fitted}
use Rattle.model_checking.specs.Initializing.{constant_only, fit_in}
use Rattle.typed_rule_laws.specs.TypedMeanings.{is_typed_value, is_value_type, is_typed_operand}
use Rattle.typed_rule_laws.proofs.CallForms.{passed_is_typed}
use Rattle.typed_expression_laws.proofs.PlacedForms.{type_along, TypedContent, ArePlaced, GoodPlacement}

pub record OfType (type : CType) (e : unit.Expr) : Type 0 where
  pub typed_by : is_typed e ≡ true
  pub same : same_value_type type (type_of e) ≡ true

-- a string that is left is for an array of characters
abbrev pub FittedContent : CType → Content → Type 0
FittedContent type (Value value later) = OfType type value
FittedContent type (Text id bytes value) = is_character_array (form_of_type type) ≡ true
FittedContent type Zeros = true ≡ true

pub record FittedPlaced (structs : List Structure) (root : CType) (p : Placed) : Type 0 where
  pub along : type_along structs root p.path ≡ Some p.type
  pub content : FittedContent p.type p.content

abbrev pub AreFitted : List Structure → CType → List Placed → Type 0
AreFitted structs root [] = true ≡ true
AreFitted structs root (p ∷ ps) = FittedPlaced structs root p × AreFitted structs root ps

-- ---- how values are fitted

abbrev pub FitSound : List Structure → Fit → Type 0
FitSound structs fit =
    (first : Place) → (type : CType) → (e : unit.Expr) → is_possible structs type ≡ true → is_typed_operand structs e ≡ true → IfOk (fit first type e) (OfType type)

passed_by : (structs : List Structure) (type : CType) (r : Result unit.Expr Fault) →
    IfOk r (λ given. (is_typed_value structs given && same_value_type type (type_of given)) ≡ true) → IfOk r (OfType type)
passed_by structs type (Ok e) h =
    let parts = and_parts (is_typed_value structs e) (same_value_type type (type_of e)) h in
    record { typed_by = (and_parts (is_typed e) (is_value_type structs (type_of e)) parts.0).0; same = parts.1 }
passed_by structs type (Err fault) h = tt

passed_sound : (structs : List Structure) (first : Place) (type : CType) (e : unit.Expr) → is_possible structs type ≡ true → is_typed_operand structs e ≡ true →
    IfOk (passed structs first type e) (OfType type)
passed_sound structs first type e p h = passed_by structs type (passed structs first type e) (passed_is_typed structs first type e p h)

unless_of_type : (type : CType) (o : Option Fault) (e : unit.Expr) → OfType type e → IfOk (unless o (Ok e)) (OfType type)
unless_of_type type None e h = h
unless_of_type type (Some fault) e h = tt

constants_sound : (s : State) (first : Place) (type : CType) (r : Result unit.Expr Fault) → IfOk r (OfType type) →
    IfOk (placing.after r (constant_only s first)) (OfType type)
constants_sound s first type (Ok e) h = unless_of_type type (static_fault (is_automatic_in s.scopes) first e) e h
constants_sound s first type (Err fault) h = tt

pub fit_sound : (is_static : Bool) (s : State) → FitSound s.scopes.structs (fit_in is_static s)
fit_sound false s first type e p h = passed_sound s.scopes.structs first type e p h
fit_sound true s first type e p h = constants_sound s first type (passed s.scopes.structs first type e) (passed_sound s.scopes.structs first type e p h)

-- ---- all that is placed

fitted_by : (structs : List Structure) (root : CType) (p : Placed) (later : Option Fault) (e : unit.Expr) → type_along structs root p.path ≡ Some p.type → OfType p.type e →
    IfOk (fitted_value p later e) (FittedPlaced structs root)
fitted_by structs root p None e a h = record { along = a; content = h }
fitted_by structs root p (Some fault) e a h = tt

value_fitted : (structs : List Structure) (root : CType) (p : Placed) (later : Option Fault) (r : Result unit.Expr Fault) → type_along structs root p.path ≡ Some p.type →
    IfOk r (OfType p.type) → IfOk (placing.after r (fitted_value p later)) (FittedPlaced structs root)
value_fitted structs root p later (Ok e) a h = fitted_by structs root p later e a h
value_fitted structs root p later (Err fault) a h = tt

array_takes : (form : Form) → is_array form ≡ true → takes a_string form ≡ true → is_character_array form ≡ true
array_takes (Array type n) a h = h
array_takes Void a h = cc
array_takes (Integer b) a h = cc
array_takes (Enum b d) a h = cc
array_takes (Pointer t) a h = cc
array_takes (Struct s) a h = cc
array_takes (Function t ps v) a h = cc

text_fitted : (structs : List Structure) (root : CType) (path : List ℕ) (type : CType) (first : Place) (id : ℕ) (bytes : List ℕ) (value : unit.Expr) (b : Bool)
    (r : Result unit.Expr Fault) → is_array (form_of_type type) ≡ b → type_along structs root path ≡ Some type → takes a_string (form_of_type type) ≡ true → IfOk r (OfType type) →
    IfOk (if b then Ok (record { path = path; type = type; content = Text id bytes value; first = first })
    else placing.after r (fitted_value (record { path = path; type = type; content = Text id bytes value; first = first }) None)) (FittedPlaced structs root)
text_fitted structs root path type first id bytes value true r e a k h = record { along = a; content = array_takes (form_of_type type) e k }
text_fitted structs root path type first id bytes value false r e a k h =
    value_fitted structs root (record { path = path; type = type; content = Text id bytes value; first = first }) None r a h

content_fitted : (structs : List Structure) (root : CType) (fit : Fit) (path : List ℕ) (type : CType) (content : Content) (first : Place) → FitSound structs fit →
    is_possible structs type ≡ true → type_along structs root path ≡ Some type → TypedContent structs type content →
    IfOk (fitted_content fit (record { path = path; type = type; content = content; first = first }) content) (FittedPlaced structs root)
content_fitted structs root fit path type (Value value later) first f p a h =
    value_fitted structs root (record { path = path; type = type; content = Value value later; first = first }) later (fit first type value) a (f first type value p h)
content_fitted structs root fit path type (Text id bytes value) first f p a h =
    text_fitted structs root path type first id bytes value (is_array (form_of_type type)) (fit first type value) refl a h.1 (f first type value p h.0)
content_fitted structs root fit path type Zeros first f p a h = record { along = a; content = refl }

list_after : (structs : List Structure) (root : CType) (q : Placed) (r : Result (List Placed) Fault) → FittedPlaced structs root q → IfOk r (AreFitted structs root) →
    IfOk (placing.after r (λ qs. Ok (q ∷ qs))) (AreFitted structs root)
list_after structs root q (Ok qs) h k = (h, k)
list_after structs root q (Err fault) h k = tt

one_after : (structs : List Structure) (root : CType) (x : Result Placed Fault) (r : Result (List Placed) Fault) → IfOk x (FittedPlaced structs root) →
    IfOk r (AreFitted structs root) → IfOk (placing.after x (λ q. placing.after r (λ qs. Ok (q ∷ qs)))) (AreFitted structs root)
one_after structs root (Ok q) r h k = list_after structs root q r h k
one_after structs root (Err fault) r h k = tt

list_fitted : (structs : List Structure) (root : CType) (fit : Fit) (ps : List Placed) → FitSound structs fit → ArePlaced structs root ps →
    IfOk (fitted_list fit ps) (AreFitted structs root)
list_fitted structs root fit [] f h = refl
list_fitted structs root fit (p ∷ ps) f h =
    one_after structs root (fitted_content fit p p.content) (fitted_list fit ps)
    (content_fitted structs root fit p.path p.type p.content p.first f h.0.possible h.0.along h.0.content) (list_fitted structs root fit ps f h.1)

unless_fitted : (structs : List Structure) (root : CType) (o : Option Fault) (r : Result (List Placed) Fault) → IfOk r (AreFitted structs root) →
    IfOk (placing.after r (λ placed. unless o (Ok placed))) (AreFitted structs root)
unless_fitted structs root None (Ok ps) h = h
unless_fitted structs root (Some fault) (Ok ps) h = tt
unless_fitted structs root o (Err fault) h = tt

pub placement_fitted : (structs : List Structure) (root : CType) (fit : Fit) (x : Placement) → FitSound structs fit → GoodPlacement structs root x →
    IfOk (fitted fit x) (AreFitted structs root)
placement_fitted structs root fit x f h = unless_fitted structs root x.fault (fitted_list fit x.placed) (list_fitted structs root fit x.placed f h)
