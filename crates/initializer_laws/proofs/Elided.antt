-- Braces that are full may be left out.
use Rattle.std.proofs.Common.{◌≡◌, ◌∙◌, ap, sym, refl, ℕ, ◌||◌, Bool, true, false, if◌then◌else◌, List, [], ◌∷◌, ◌++◌, append_assoc, Option, Some, None, option_map, unwrap_or, Result, Ok, Err}
use Rattle.std.specs.Option.{option_or}
use Rattle.cake_base.specs.declared.places.Place.{Place}
use Rattle.cake_base.specs.declared.rules.Fault.{Fault}
use Rattle.model_types.specs.Types.{CType, form_of_type}
use Rattle.model_types.specs.Structures.{Structure}
use Rattle.model_core.specs.CoreTypes.{type_of}
use Rattle.model_core.specs.TypedParts.{is_scalar}
use Rattle.model_checking.specs.Parts.{Given, a_value, a_text, in_braces, faulty, GivenItems, no_given}
use Rattle.model_checking.specs.Ways.{Bare, a_string, a_value_of, reached, ranks, start, behind, is_character_array, takes, taker}
use Rattle.model_checking.specs.Placing.{Placed, Placement, before, unless_stopped, and_behind, on_way, or_breaks, after, aimed_from, are_no_more, string_at, whole_string, place_at, place_list}
use Rattle.initializer_laws.specs.BraceElision.{followed_by, position_behind, bare_of, zeros_at, IsForParts, MayBeLeftOut}
use Rattle.initializer_laws.proofs.ShiftedWays.{Way, reached_further, ranks_further, behind_further, taker_further}
use Rattle.initializer_laws.proofs.FirstTakers.{some_same, taker_from_start}

-- ---- parts of lists

again_by : (a b : List Placed) (f g : Option Fault) (c : Placement) →
    unless_stopped a f (unless_stopped b g c) ≡ and_behind (unless_stopped a f (record { placed = b; fault = g })) c
again_by a b None None c = ap (λ xs. record { placed = xs; fault = c.fault }) (sym (append_assoc a b c.placed))
again_by a b None (Some g) c = refl
again_by a b (Some f) g c = refl

and_behind_again : (first second third : Placement) → and_behind first (and_behind second third) ≡ and_behind (and_behind first second) third
and_behind_again first second third = again_by first.placed second.placed first.fault second.fault third

before_by : (p : Placed) (a : List Placed) (f : Option Fault) (second : Placement) → unless_stopped (p ∷ a) f second ≡ before p (unless_stopped a f second)
before_by p a None second = refl
before_by p a (Some f) second = refl

before_behind : (p : Placed) (first second : Placement) → and_behind (before p first) second ≡ before p (and_behind first second)
before_behind p first second = before_by p first.placed first.fault second

ok_same : {A B : Type 0} {x y : A} → ◌≡◌ {A = Result A B} (Ok x) (Ok y) → x ≡ y
ok_same e = cc

not_ok : {A B C : Type 0} {x : A} {f : B} → ◌≡◌ {A = Result A B} (Err f) (Ok x) → C
not_ok e = cc

-- ---- where an item goes

abbrev mapped : (way : Way) → Result Way Fault → Result Way Fault
mapped way (Ok v) = Ok (v ++ way)
mapped way (Err f) = Err f

mapped_or : (way : Way) (o : Option Way) (place : Place) (rule : ℕ) → or_breaks (option_map (λ v. v ++ way) o) place rule ≡ mapped way (or_breaks o place rule)
mapped_or way (Some v) place rule = refl
mapped_or way None place rule = refl

aimed_further : (structs : List Structure) (object : CType) (way : Way) (g : Given) (further : Way) →
    aimed_from structs object g (further ++ way) ≡ mapped way (aimed_from structs (reached object way) g further)
aimed_further structs object way (a_value value first later) further =
    ap (λ o. or_breaks o first 35) (taker_further structs (a_value_of (type_of value)) object way further)
    ∙ mapped_or way (taker structs (a_value_of (type_of value)) (reached object way) further) first 35
aimed_further structs object way (a_text id bytes value first) further =
    ap (λ o. or_breaks o first 35) (taker_further structs a_string object way further)
    ∙ mapped_or way (taker structs a_string (reached object way) further) first 35
aimed_further structs object way (in_braces items place) further = refl
aimed_further structs object way (faulty fault first) further = refl

-- ---- a list in a subobject, and behind it

abbrev Spliced : List Structure → CType → (path : List ℕ) → Way → List Given → GivenItems → Option Way → Type 0
Spliced structs object path way gs others next =
    place_list structs object path (option_or (option_map (λ v. v ++ way) next) (behind structs way)) (followed_by gs others)
    ≡ and_behind (place_list structs (reached object way) (path ++ ranks way) next (followed_by gs no_given)) (place_list structs object path (behind structs way) others)

-- what is placed at a way, and what comes behind
abbrev placed_from : List Structure → CType → List ℕ → Given → GivenItems → Way → Placement
placed_from structs object path g others x =
    and_behind (place_at structs (reached object x) (path ++ ranks x) g) (place_list structs object path (behind structs x) others)

one_further : (structs : List Structure) (object : CType) (path : List ℕ) (way : Way) (g : Given) (gs : List Given) (others : GivenItems) (x : Way) →
    Spliced structs object path way gs others (behind structs x) →
    placed_from structs object path g (followed_by gs others) (x ++ way)
    ≡ and_behind (placed_from structs (reached object way) (path ++ ranks way) g (followed_by gs no_given) x) (place_list structs object path (behind structs way) others)
one_further structs object path way g gs others x rest =
    ap (λ t. and_behind (place_at structs t (path ++ ranks (x ++ way)) g) (place_list structs object path (behind structs (x ++ way)) (followed_by gs others))) (reached_further object way x)
    ∙ ap (λ p. and_behind (place_at structs (reached (reached object way) x) p g) (place_list structs object path (behind structs (x ++ way)) (followed_by gs others)))
    (ap (λ r. path ++ r) (ranks_further way x) ∙ sym (append_assoc path (ranks way) (ranks x)))
    ∙ ap (λ n. and_behind (place_at structs (reached (reached object way) x) ((path ++ ranks way) ++ ranks x) g) (place_list structs object path n (followed_by gs others))) (behind_further structs way x)
    ∙ ap (and_behind (place_at structs (reached (reached object way) x) ((path ++ ranks way) ++ ranks x) g)) rest
    ∙ and_behind_again (place_at structs (reached (reached object way) x) ((path ++ ranks way) ++ ranks x) g)
    (place_list structs (reached object way) (path ++ ranks way) (behind structs x) (followed_by gs no_given))
    (place_list structs object path (behind structs way) others)

spliced_by : (structs : List Structure) (object : CType) (path : List ℕ) (way : Way) (g : Given) (gs : List Given) (others : GivenItems) (r s : Result Way Fault) →
    s ≡ mapped way r → after r (λ x. position_behind structs (reached object way) (behind structs x) gs) ≡ Ok None →
    ((x : Way) → position_behind structs (reached object way) (behind structs x) gs ≡ Ok None → Spliced structs object path way gs others (behind structs x)) →
    on_way s (placed_from structs object path g (followed_by gs others))
    ≡ and_behind (on_way r (placed_from structs (reached object way) (path ++ ranks way) g (followed_by gs no_given))) (place_list structs object path (behind structs way) others)
spliced_by structs object path way g gs others (Err f) s e full rest = not_ok full
spliced_by structs object path way g gs others (Ok x) s e full rest =
    ap (λ r. on_way r (placed_from structs object path g (followed_by gs others))) e ∙ one_further structs object path way g gs others x (rest x full)

spliced : (structs : List Structure) (object : CType) (path : List ℕ) (way : Way) (gs : List Given) (others : GivenItems) (next : Option Way) →
    position_behind structs (reached object way) next gs ≡ Ok None → Spliced structs object path way gs others next
spliced structs object path way [] others next full =
    ap (λ n. place_list structs object path (option_or (option_map (λ v. v ++ way) n) (behind structs way)) others) (ok_same full)
spliced structs object path way (g ∷ gs) others None full = not_ok full
spliced structs object path way (g ∷ gs) others (Some v) full =
    spliced_by structs object path way g gs others (aimed_from structs (reached object way) g v) (aimed_from structs object g (v ++ way))
    (aimed_further structs object way g v) full (λ x rest. spliced structs object path way gs others (behind structs x) rest)

-- ---- the first item

none_bare : {b : Bare} {A : Type 0} → None ≡ Some b → A
none_bare e = cc

same_aim : (structs : List Structure) (object : CType) (way v x : Way) (bare : Bare) (g : Given) → bare_of g ≡ Some bare →
    taker structs bare object way ≡ Some x → taker structs bare object (v ++ way) ≡ Some x → aimed_from structs object g (v ++ way) ≡ aimed_from structs object g way
same_aim structs object way v x bare (a_value value first later) is here further =
    ap (λ b. or_breaks (taker structs b object (v ++ way)) first 35) (some_same is)
    ∙ ap (λ o. or_breaks o first 35) (further ∙ sym here)
    ∙ ap (λ b. or_breaks (taker structs b object way) first 35) (sym (some_same is))
same_aim structs object way v x bare (a_text id bytes value first) is here further =
    ap (λ b. or_breaks (taker structs b object (v ++ way)) first 35) (some_same is)
    ∙ ap (λ o. or_breaks o first 35) (further ∙ sym here)
    ∙ ap (λ b. or_breaks (taker structs b object way) first 35) (sym (some_same is))
same_aim structs object way v x bare (in_braces items place) is here further = none_bare is
same_aim structs object way v x bare (faulty fault first) is here further = none_bare is

first_item : (structs : List Structure) (object : CType) (path : List ℕ) (way : Way) (g : Given) (gs : List Given) (others : GivenItems) (o : Option Way) →
    start structs (reached object way) ≡ o → position_behind structs (reached object way) o (g ∷ gs) ≡ Ok None → IsForParts structs object way g →
    place_list structs object path (option_or (option_map (λ v. v ++ way) o) (behind structs way)) (followed_by (g ∷ gs) others)
    ≡ place_list structs object path (Some way) (followed_by (g ∷ gs) others)
first_item structs object path way g gs others None begins full parts = not_ok full
first_item structs object path way g gs others (Some v) begins full parts =
    ap (λ r. on_way r (placed_from structs object path g (followed_by gs others)))
    (same_aim structs object way v parts.taken_at parts.bare g parts.is_bare parts.is_taken
    (taker_from_start structs parts.bare object way v parts.taken_at parts.not_whole begins parts.is_taken))

-- ---- no string for the whole

right_false : (a b : Bool) → a || b ≡ false → b ≡ false
right_false false b e = e
right_false true b e = cc

no_string : (part : CType) (path : List ℕ) (bare : Bare) (g : Given) (b : Bool) → bare_of g ≡ Some bare → takes bare (form_of_type part) ≡ false →
    whole_string part path (if b then Some g else None) ≡ None
no_string part path bare g false is not_whole = refl
no_string part path bare (a_value value first later) true is not_whole = refl
no_string part path bare (a_text id bytes value first) true is not_whole =
    ap (λ c. if c then Some (string_at part path id bytes value first) else None)
    (right_false (is_scalar (form_of_type part)) (is_character_array (form_of_type part))
    (ap (λ b. takes b (form_of_type part)) (some_same is) ∙ not_whole))
no_string part path bare (in_braces items place) true is not_whole = refl
no_string part path bare (faulty fault first) true is not_whole = refl

pub full_left_out : MayBeLeftOut
full_left_out structs object path way g gs place others full parts =
    ap (λ o. and_behind (before (zeros_at (reached object way) (path ++ ranks way) place)
    (unwrap_or o (place_list structs (reached object way) (path ++ ranks way) (start structs (reached object way)) (followed_by (g ∷ gs) no_given))))
    (place_list structs object path (behind structs way) others))
    (no_string (reached object way) (path ++ ranks way) parts.bare g (are_no_more (followed_by gs no_given)) parts.is_bare parts.not_whole)
    ∙ before_behind (zeros_at (reached object way) (path ++ ranks way) place)
    (place_list structs (reached object way) (path ++ ranks way) (start structs (reached object way)) (followed_by (g ∷ gs) no_given))
    (place_list structs object path (behind structs way) others)
    ∙ ap (before (zeros_at (reached object way) (path ++ ranks way) place))
    (sym (spliced structs object path way (g ∷ gs) others (start structs (reached object way)) full.fills)
    ∙ first_item structs object path way g gs others (start structs (reached object way)) refl full.fills parts)
