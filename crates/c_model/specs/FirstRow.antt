-- Three first units, worked by hand: their texts, tokens, cores and programs.
use Rattle.std.specs.Prelude.{◌≡◌, ℕ, pos, true, List, [], ◌∷◌, ◌++◌, codes, refl}
use Rattle.cake_base.specs.declared.places.Place.{Place}
use Rattle.model_types.specs.declared.numbers.Basic.TheVariants.{Int}
use Rattle.model_types.specs.declared.numbers.BinOp.TheVariants.{Mul, Add}
use Rattle.model_tokens.specs.declared.tokens.CKind.{CKind}
use Rattle.model_tokens.specs.declared.tokens.CKind.TheVariants.{Word, Name, Integer, Punct}
use Rattle.model_tokens.specs.declared.tokens.CTok.{CTok}
use Rattle.model_core.specs.CoreTypes.{int_type as int}
use Rattle.model_core.specs.Core.{Core, Expr, Constant, Binary}
use Rattle.model_types.specs.Operations.{fits}
use Rattle.c_model.specs.FirstUnit.{UnitPlaces, returning, int_constant, int_operation}
use Rattle.c_model.specs.ExampleParts.{at_column as at}
use Rattle.c_model.specs.ExampleTexts.{number89, main_outer, main_function}
use Rattle.model_core.specs.Program89 as target

abbrev pub seven_text : List ℕ
seven_text = codes "int main(void) { return 1 + 2 * 3; }"

abbrev pub token : CKind → (column order : ℕ) → CTok
token kind column order = record { kind = kind; place = at column order }

-- a constant that fits int
abbrev pub int_token : (value : ℕ) → fits Int (pos value) ≡ true → (column order : ℕ) → CTok
int_token value is column order = token (Integer (record { value = pos value; basic = Int; in_range = is })) column order

-- `int main(void) { return`
abbrev pub front_tokens : List CTok
front_tokens =
    token (Word 14) 1 0 ∷ token (Name (codes "main")) 5 1 ∷ token (Punct 3) 9 2 ∷ token (Word 11) 10 3 ∷ token (Punct 4) 14 4 ∷
    token (Punct 7) 16 5 ∷ token (Word 39) 18 6 ∷ []

-- the places of such a unit, by that of its last brace
abbrev pub places_to : (column order : ℕ) → UnitPlaces
places_to column order = record { name = at 5 1; open_brace = at 16 5; return_ = at 18 6; close_brace = at column order }

abbrev pub seven_tokens : List CTok
seven_tokens =
    front_tokens
    ++ (int_token 1 refl 25 7 ∷ token (Punct 38) 27 8 ∷ int_token 2 refl 29 9 ∷ token (Punct 11) 31 10 ∷ int_token 3 refl 33 11 ∷
    token (Punct 2) 34 12 ∷ token (Punct 8) 36 13 ∷ [])

abbrev pub seven_core : Core
seven_core =
    returning
    (int_operation Add (int_constant (pos 1) (at 25 7))
    (int_operation Mul (int_constant (pos 2) (at 29 9)) (int_constant (pos 3) (at 33 11)) (at 31 10)) (at 27 8))
    (places_to 36 13)

-- a program whose `main` returns this value
abbrev pub program_returning : target.Expr → target.Program
program_returning value = record {
  structures = [];
  outers = main_outer ∷ [];
  functions = main_function [] (target.Return value ∷ []) ∷ [];
}

abbrev pub seven_program : target.Program
seven_program = program_returning (target.Binary Add (number89 1) (target.Binary Mul (number89 2) (number89 3)))

abbrev pub seven_written : List ℕ
seven_written = codes "int main(void);\n\nint main(void)\n{\n    return (1 + (2 * 3));\n}\n"

abbrev pub overflow_text : List ℕ
overflow_text = codes "int main(void) { return 2147483647 + 1; }"

abbrev pub overflow_tokens : List CTok
overflow_tokens =
    front_tokens
    ++ (int_token 2147483647 refl 25 7 ∷ token (Punct 38) 36 8 ∷ int_token 1 refl 38 9 ∷ token (Punct 2) 39 10 ∷ token (Punct 8) 41 11 ∷ [])

abbrev pub overflow_core : Core
overflow_core = returning (int_operation Add (int_constant (pos 2147483647) (at 25 7)) (int_constant (pos 1) (at 38 9)) (at 36 8)) (places_to 41 11)

-- `int main(void) { return (1 + 2) * 3; }`
abbrev pub nine_tokens : List CTok
nine_tokens =
    front_tokens
    ++ (token (Punct 3) 25 7 ∷ int_token 1 refl 26 8 ∷ token (Punct 38) 28 9 ∷ int_token 2 refl 30 10 ∷ token (Punct 4) 31 11 ∷
    token (Punct 11) 33 12 ∷ int_token 3 refl 35 13 ∷ token (Punct 2) 36 14 ∷ token (Punct 8) 38 15 ∷ [])

-- a constant stands at its token, whatever stands round it
abbrev pub plain_constant : (value : ℕ) → Place → Expr
plain_constant value place = Constant (pos value) int (record { at = place; first = place; outer = place })

-- `1 + 2` begins at its 1, and with its parentheses at the first of them, where the product begins too
abbrev pub nine_core : Core
nine_core =
    returning
    (Binary Mul
    (Binary Add (plain_constant 1 (at 26 8)) (plain_constant 2 (at 30 10)) (record { at = at 28 9; first = at 26 8; outer = at 25 7 }))
    (plain_constant 3 (at 35 13))
    (record { at = at 33 12; first = at 25 7; outer = at 25 7 }))
    (places_to 38 15)
