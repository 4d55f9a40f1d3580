-- What initializers break by the objects that they are for (ISO/IEC 9899:2024, 6.7.11): of each value, where it leads and
-- whether it may be given to what is there; of the whole, the form of the object, and the length that it gives an array.
use Rattle.std.specs.Prelude.{ℕ, nat_eq, Bool, true, false, ◌&&◌, not, List, [], ◌∷◌, Option, Some, None, is_some, option_and_then, if◌then◌else◌}
use Rattle.cake_base.specs.declared.places.Place.{Place}
use Rattle.model_types.specs.Types.{CType, typed, Form, Array, form_of_type}
use Rattle.model_types.specs.Structures.{Structure}
use Rattle.model_types.specs.Layout.{size_of}
use Rattle.model_core.specs.CoreTypes.{type_of}
use Rattle.model_core.specs.TypedParts.{is_array}
use Rattle.model_core.specs.Core as unit
use Rattle.model_checking.specs.ArrayLengths.{elements_in}
use Rattle.model_checking.specs.ConstantValues.{is_automatic_in}
use Rattle.model_checking.specs.Fitting.{fitted}
use Rattle.model_checking.specs.Initializing.{fit_in}
use Rattle.model_checking.specs.MadeCore.{converted}
use Rattle.model_checking.specs.Meanings.{Operand}
use Rattle.model_checking.specs.Parts.{Given, a_value, a_text, in_braces, faulty, GivenStep, to_element, to_no_element, to_member, faulty_index, GivenItems, no_given, more_given}
use Rattle.model_checking.specs.Placing.{Placed, placement, given_first, lone, is_long_enough}
use Rattle.model_checking.specs.Settling.{has_constant}
use Rattle.model_checking.specs.State.{State}
use Rattle.model_checking.specs.Ways.{Step, reached, step_to, start, behind, member_rank, a_string, a_value_of, is_character_array, takes, taker}
use Rattle.model_constraints.specs.Pairs.{Pairs, Nothing, At, Beside, If, IfAny, IfMade}
use Rattle.model_constraints.specs.BrokenCasts.{awaits_length}
use Rattle.model_constraints.specs.BrokenValues.{broken_use, broken_giving, broken_static}

-- what a value breaks that is given to a subobject of a type
abbrev pub Fits : Type 1
Fits = CType → Operand → Pairs

-- an object of static storage begins, besides, with what is constant
abbrev pub broken_fit : (is_static : Bool) → State → Fits
broken_fit false s type o = broken_giving s.scopes.structs type o
broken_fit true s type o =
    Beside (broken_giving s.scopes.structs type o)
    (broken_static (is_automatic_in s.scopes) (record { value = converted type o.value; first = o.first }))

abbrev operand_of : unit.Expr → Place → Operand
operand_of value first = record { value = value; first = first }

-- ---- C34 at a designator that leads nowhere

-- an index is one of an array, a member one of a structure
abbrev led : List Structure → (whole : CType) → GivenStep → List Step → Option (List Step)
led structs whole (to_element index place) way = if is_array (form_of_type whole) then step_to structs whole index way else None
led structs whole (to_no_element place) way = None
led structs whole (to_member name place) way = option_and_then (λ rank. step_to structs whole rank way) (member_rank structs (form_of_type whole) name)
led structs whole (faulty_index fault place) way = None

-- of an index that is faulty it is known whether there is an array
abbrev broken_designator : List Structure → (whole : CType) → GivenStep → List Step → Pairs
broken_designator structs whole (to_element index place) way = At place 34 (not (is_some (led structs whole (to_element index place) way)))
broken_designator structs whole (to_no_element place) way = At place 34 true
broken_designator structs whole (to_member name place) way = At place 34 (not (is_some (led structs whole (to_member name place) way)))
broken_designator structs whole (faulty_index fault place) way = At place 34 (not (is_array (form_of_type whole)))

abbrev all_led : List Structure → (object : CType) → List GivenStep → List Step → Option (List Step)
all_led structs object [] way = Some way
all_led structs object (d ∷ ds) way = option_and_then (all_led structs object ds) (led structs (reached object way) d way)

abbrev broken_designators : List Structure → (object : CType) → List GivenStep → List Step → Pairs
broken_designators structs object [] way = Nothing
broken_designators structs object (d ∷ ds) way =
    Beside (broken_designator structs (reached object way) d way)
    (IfAny (led structs (reached object way) d way) (broken_designators structs object ds))

-- ---- where an item of a list begins: where its designators lead, else behind the item before it

abbrev begun : List Structure → (object : CType) → (next : Option (List Step)) → List GivenStep → Option (List Step)
begun structs object next [] = next
begun structs object next (d ∷ ds) = all_led structs object (d ∷ ds) []

abbrev is_undesignated : List GivenStep → Bool
is_undesignated [] = true
is_undesignated (d ∷ ds) = false

-- C33 at an item for which nothing is left
abbrev broken_surplus : (next : Option (List Step)) → List GivenStep → (first : Place) → Pairs
broken_surplus next ds first = At first 33 (is_undesignated ds && not (is_some next))

-- from there, what takes what stands without braces
abbrev taken : List Structure → (object : CType) → Given → List Step → Option (List Step)
taken structs object (a_value value first later) way = taker structs (a_value_of (type_of value)) object way
taken structs object (a_text id bytes value first) way = taker structs a_string object way
taken structs object (in_braces items place) way = Some way
taken structs object (faulty fault first) way = None

-- C21 and C22 of a value, whatever it is for
abbrev broken_bare : List Structure → Given → Pairs
broken_bare structs (a_value value first later) = broken_use structs (operand_of value first)
broken_bare structs (a_text id bytes value first) = Nothing
broken_bare structs (in_braces items place) = Nothing
broken_bare structs (faulty fault first) = Nothing

-- C35 where nothing takes it
abbrev is_untaken : Given → Option (List Step) → Bool
is_untaken (faulty fault first) way = false
is_untaken given way = not (is_some way)

-- ---- a string: C33 where the array is too short for its bytes; for a scalar it is its address

abbrev broken_text : Fits → (part : CType) → (bytes : List ℕ) → unit.Expr → (first : Place) → Pairs
broken_text fits part bytes value first =
    Beside (At first 33 (not (is_long_enough (form_of_type part) bytes)))
    (If (not (is_array (form_of_type part))) (fits part (operand_of value first)))

-- alone in the braces of an array of characters it is for the whole array
abbrev broken_in_braces : Fits → (part : CType) → Option Given → (others : Pairs) → Pairs
broken_in_braces fits part (Some (a_text id bytes value first)) others =
    Beside (If (is_character_array (form_of_type part)) (broken_text fits part bytes value first))
    (If (not (is_character_array (form_of_type part))) others)
broken_in_braces fits part (Some given) others = others
broken_in_braces fits part None others = others

-- ---- what is for a subobject, and the items of a list

abbrev mutual
  broken_part : List Structure → Fits → (part : CType) → Given → Pairs
  broken_part structs fits part (a_value value first later) = fits part (operand_of value first)
  broken_part structs fits part (a_text id bytes value first) = broken_text fits part bytes value first
  broken_part structs fits part (in_braces items place) =
      broken_in_braces fits part (lone items) (broken_list structs fits part (start structs part) items)
  broken_part structs fits part (faulty fault first) = Nothing

  broken_list : List Structure → Fits → (object : CType) → (next : Option (List Step)) → GivenItems → Pairs
  broken_list structs fits object next no_given = Nothing
  broken_list structs fits object next (more_given ds first others) =
      Beside (broken_surplus next ds (given_first first))
      (Beside (broken_designators structs object ds [])
      (Beside (broken_bare structs first)
      (IfAny (begun structs object next ds) (λ way.
      Beside (At (given_first first) 35 (is_untaken first (taken structs object first way)))
      (IfAny (taken structs object first way) (λ way.
      Beside (broken_part structs fits (reached object way) first) (broken_list structs fits object (behind structs way) others)))))))

-- ---- an object

-- an array takes a string where it is one of characters, a structure a value of its own type, and a scalar each; of what
-- is faulty it is known that it isn't in braces
abbrev suits : Form → Given → Bool
suits form (in_braces items place) = true
suits form (a_text id bytes value first) = takes a_string form
suits form (a_value value first later) = takes (a_value_of (type_of value)) form
suits form (faulty fault first) = not (is_array form)

-- what is placed gives an array without length one: C22 where it gives none, C25 where the array is too large
abbrev broken_given_length : List Structure → (first : Place) → CType → List Placed → Pairs
broken_given_length structs first (typed (Array type None) quals) placed =
    Beside (At first 22 (nat_eq (elements_in placed) 0))
    (At first 25 (not (nat_eq (elements_in placed) 0) && not (is_some (size_of structs (typed (Array type (Some (elements_in placed))) quals)))))
broken_given_length structs first type placed = Nothing

-- of an object of a type, whose declarator or type name has the first token: C22 of an array that gets no length; C35; what
-- its values break; and where all of them may be given, the length
abbrev pub broken_initialization : (is_static : Bool) → (first : Place) → CType → Given → State → Pairs
broken_initialization is_static first type given s =
    Beside (At first 22 (awaits_length (form_of_type type) && not (suits (form_of_type type) given)))
    (Beside (At (given_first given) 35 (not (suits (form_of_type type) given)))
    (Beside (broken_bare s.scopes.structs given)
    (Beside (If (suits (form_of_type type) given) (broken_part s.scopes.structs (broken_fit is_static s) type given))
    (IfMade (fitted (fit_in is_static s) (placement s.scopes.structs type given)) (broken_given_length s.scopes.structs first type)))))

-- C32 at the first token of the initializer: a `constexpr` object is an integer or a pointer, and its value a constant of
-- its type
abbrev pub broken_known_value : (is_constexpr : Bool) → CType → Given → Pairs
broken_known_value is_constexpr type given = At (given_first given) 32 (is_constexpr && not (has_constant (form_of_type type) given))
