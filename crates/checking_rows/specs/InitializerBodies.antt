-- Initializers with function literals, whose bodies come behind the value that holds them; a and b are nowhere declared.
use Rattle.std.specs.Prelude.{ℕ, pos, false, [], ◌∷◌, Option, Some, None}
use Rattle.cake_base.specs.declared.rules.Fault.{Fault}
use Rattle.model_types.specs.Types.{CType, Function, no_types}
use Rattle.model_core.specs.CoreTypes.{plain, int_type, pointer_to}
use Rattle.model_core.specs.Core as unit
use Rattle.model_checking.specs.Parts.{Given, a_value, faulty}
use Rattle.checking_rows.specs.InitializerParts.{at, mark, broken, array, list, next}
use Rattle.checking_rows.specs.InitializerAnswers.{Example, automatic_one, static_one}

abbrev pub int_function : CType
int_function = plain (Function int_type no_types false)

-- a literal with the fault of its body
abbrev pub literal : (order : ℕ) → Option Fault → Given
literal order later = a_value (unit.FunctionRef 40 int_function false (mark order)) (at order) later

abbrev pub undeclared : (order : ℕ) → Given
undeclared order = faulty (broken 5 order) (at order)

-- int (*x[2])(void) = {(int (void)) { return a; }, b};
abbrev pub body_before_next : Example
body_before_next = automatic_one (array 2 (pointer_to int_function)) 1 3 (list (next (literal 13 (Some (broken 5 21))) ∷ next (undeclared 25) ∷ []) 12)

-- int (*x)(void) = (int (void)) { return a; };
abbrev pub body_alone : Example
body_alone = automatic_one (pointer_to int_function) 1 3 (literal 9 (Some (broken 5 17)))

-- static int (*x)(void) = (int (void)) { return a; };
abbrev pub body_of_constant : Example
body_of_constant = static_one (pointer_to int_function) 2 4 (literal 10 (Some (broken 5 18)))

-- int x = (int (void)) { return a; };
abbrev pub value_before_body : Example
value_before_body = automatic_one int_type 1 1 (literal 3 (Some (broken 5 11)))

-- int x[1] = (int (void)) { return a; };
abbrev pub misfit_before_body : Example
misfit_before_body = automatic_one (array 1 int_type) 1 1 (literal 6 (Some (broken 5 14)))

-- int (*x[1])(void) = {0, (int (void)) { return a; }};
abbrev pub too_many_before_body : Example
too_many_before_body =
    automatic_one (array 1 (pointer_to int_function)) 1 3
    (list (next (a_value (unit.Constant (pos 0) int_type (mark 13)) (at 13) None) ∷ next (literal 15 (Some (broken 5 23))) ∷ []) 12)
