-- How long the lines of the definitions are that words ask for.
use Rattle.std.proofs.Common.{◌≡◌, ℕ, ◌+◌, ◌-◌, ◌*◌, ◌<◌, ◌≤◌, ◌==◌, nat_le, Bool, true, false, ◌&&◌, not, if◌then◌else◌, List, [], ◌∷◌, ◌++◌, length, Option, Some, None, unwrap_or, Result, Ok, Err, refl, subst, arith, length-append}
use Rattle.std.specs.Prelude.{codes}
use Rattle.std.specs.Str.{bytes_eq}
use Rattle.std.proofs.lemmas.Bool.Decides.{nat_tests}
use Rattle.cake_cli.specs.declared.modes.Mode.{Mode}
use Rattle.cake_cli.specs.declared.modes.Mode.TheVariants.{Translate}
use Rattle.model_tokens.specs.CTokens.{is_identifier}
use Rattle.model_preprocessing.specs.PreprocessedUnit.{Options, define_text, command_lines}
use Rattle.cake_cli.specs.Words.{Plan, Expected, AnyWord, Definition, Directory, Meaning, Asks, Defines, Searches, Names, Expects, EndsOptions, Nothing, Met, defined_name, defined_value, has_line_feed, definition, directory, behind_define, behind_search, long_option, behind_dash, any_word, meaning_as, meaning, is_good, may_stand, said, behind, with_option, adds, named, at_end, plan_from, nothing_met, plan}

-- the bytes of the line that a word asks for
abbrev cost : Meaning → ℕ
cost (Defines name value) = length (define_text (name, value))
cost (Asks mode) = 0
cost (Searches directory) = 0
cost (Names file) = 0
cost (Expects next) = 0
cost EndsOptions = 0
cost Nothing = 0

line_length : (name value : List ℕ) → length (define_text (name, value)) ≡ length name + length value + 10
line_length name value = omega (arith, length-append (codes "#define ") (name ++ 32 ∷ (value ++ 10 ∷ [])), length-append name (32 ∷ (value ++ 10 ∷ [])), length-append value (10 ∷ []))

parts_by : (b : Bool) (byte : ℕ) (bytes : List ℕ) → length (defined_name bytes) + length (defined_value bytes) ≤ length bytes + 1 → length (if b then [] else byte ∷ defined_name bytes) + length (if b then bytes else defined_value bytes) ≤ length (byte ∷ bytes) + 1
parts_by true byte bytes h = omega arith
parts_by false byte bytes h = omega (arith, h)

parts_length : (text : List ℕ) → length (defined_name text) + length (defined_value text) ≤ length text + 1
parts_length [] = omega arith
parts_length (byte ∷ bytes) = parts_by (byte == 61) byte bytes (parts_length bytes)

name_by : (b : Bool) (byte : ℕ) (bytes : List ℕ) → length (defined_name bytes) ≤ length bytes → length (if b then [] else byte ∷ defined_name bytes) ≤ length (byte ∷ bytes)
name_by true byte bytes h = omega arith
name_by false byte bytes h = omega (arith, h)

name_length : (text : List ℕ) → length (defined_name text) ≤ length text
name_length [] = omega arith
name_length (byte ∷ bytes) = name_by (byte == 61) byte bytes (name_length bytes)

some_name : (name : List ℕ) → is_identifier name ≡ true → 1 ≤ length name
some_name [] e = absurd (let h : false ≡ true = e in cc)
some_name (byte ∷ bytes) e = omega arith

both : (a b : Bool) → a && b ≡ true → a ≡ true
both true b e = refl
both false b e = absurd (let h : false ≡ true = e in cc)

definition_by : (b : Bool) (text : List ℕ) → is_identifier (defined_name text) && not (has_line_feed (defined_value text)) ≡ b → cost (if b then Defines (defined_name text) (defined_value text) else Nothing) ≤ 12 * length text
definition_by true text e =
    omega (arith, line_length (defined_name text) (defined_value text), parts_length text, name_length text, some_name (defined_name text) (both (is_identifier (defined_name text)) (not (has_line_feed (defined_value text))) e))
definition_by false text e = omega arith

definition_cost : (text : List ℕ) → cost (definition text) ≤ 12 * length text
definition_cost text = definition_by (is_identifier (defined_name text) && not (has_line_feed (defined_value text))) text refl

directory_cost : (text : List ℕ) → cost (directory text) ≤ 12 * length text
directory_cost [] = omega arith
directory_cost (byte ∷ bytes) = omega arith

define_cost : (text : List ℕ) → cost (behind_define text) ≤ 12 * length text
define_cost [] = omega arith
define_cost (byte ∷ bytes) = definition_cost (byte ∷ bytes)

search_cost : (text : List ℕ) → cost (behind_search text) ≤ 12 * length text
search_cost [] = omega arith
search_cost (byte ∷ bytes) = directory_cost (byte ∷ bytes)

long_by : (a b c : Bool) (n : ℕ) (x y : Mode) → cost (if a then Asks x else (if b then Asks y else (if c then EndsOptions else Nothing))) ≤ n
long_by true b c n x y = omega arith
long_by false true c n x y = omega arith
long_by false false true n x y = omega arith
long_by false false false n x y = omega arith

dash_by : (a b : Bool) (byte : ℕ) (bytes : List ℕ) → cost (if a then behind_define bytes else (if b then behind_search bytes else long_option (byte ∷ bytes))) ≤ 12 * length (byte ∷ bytes)
dash_by true b byte bytes = omega (arith, define_cost bytes)
dash_by false true byte bytes = omega (arith, search_cost bytes)
dash_by false false byte bytes = long_by (bytes_eq (byte ∷ bytes) (codes "E")) (bytes_eq (byte ∷ bytes) (codes "-check")) (bytes_eq (byte ∷ bytes) (codes "-")) _ _ _

dash_cost : (text : List ℕ) → cost (behind_dash text) ≤ 12 * length text
dash_cost [] = omega arith
dash_cost (byte ∷ bytes) = dash_by (byte == 68) (byte == 73) byte bytes

any_by : (a : Bool) (byte : ℕ) (bytes : List ℕ) → cost (if a then behind_dash bytes else Names (byte ∷ bytes)) ≤ 12 * length (byte ∷ bytes)
any_by true byte bytes = omega (arith, dash_cost bytes)
any_by false byte bytes = omega arith

any_cost : (word : List ℕ) → cost (any_word word) ≤ 12 * length word
any_cost [] = omega arith
any_cost (byte ∷ bytes) = any_by (byte == 45) byte bytes

meaning_cost : (expected : Expected) (ended : Bool) (word : List ℕ) → cost (meaning_as expected ended word) ≤ 12 * length word
meaning_cost AnyWord true word = omega arith
meaning_cost AnyWord false word = any_cost word
meaning_cost Definition ended word = definition_cost word
meaning_cost Directory ended word = directory_cost word

-- the lines of options with one more
more_lines : (m : Meaning) (o : Options) → length (command_lines (with_option m o).defines) ≡ cost m + length (command_lines o.defines)
more_lines (Defines name value) o = length-append (define_text (name, value)) (command_lines o.defines)
more_lines (Asks mode) o = omega arith
more_lines (Searches directory) o = omega arith
more_lines (Names file) o = omega arith
more_lines (Expects next) o = omega arith
more_lines EndsOptions o = omega arith
more_lines Nothing o = omega arith

room_after : (m : Meaning) (met : Met) → (said m met).room ≡ met.room
room_after (Asks mode) met = refl
room_after (Defines name value) met = refl
room_after (Searches directory) met = refl
room_after (Names file) met = refl
room_after (Expects next) met = refl
room_after EndsOptions met = refl
room_after Nothing met = refl

end_lines : (file : Option (List ℕ)) (mode : Option Mode) (number room : ℕ) (p : Plan) → at_end file mode number ≡ Ok p → length (command_lines p.options.defines) ≤ 12 * room
end_lines None mode number room p e = absurd (let h : Err number ≡ Ok p = e in cc)
end_lines (Some file) mode number room p e = subst (λ q. length (command_lines q.options.defines) ≤ 12 * room) (let same : record { mode = unwrap_or mode Translate; options = record { defines = []; dirs = [] }; file = file } ≡ p = cc in same) (omega arith)

adds_lines : (m : Meaning) (rest : Result Plan ℕ) (p : Plan) (size room left : ℕ) → cost m ≤ 12 * size → left ≡ room - size → size ≤ room → ((q : Plan) → rest ≡ Ok q → length (command_lines q.options.defines) ≤ 12 * left) → adds m rest ≡ Ok p → length (command_lines p.options.defines) ≤ 12 * room
adds_lines m (Err number) p size room left small are fits rest e = absurd (let h : Err number ≡ Ok p = e in cc)
adds_lines m (Ok q) p size room left small are fits rest e =
    subst (λ x. length (command_lines x.options.defines) ≤ 12 * room) (let same : record q { options = with_option m q.options } ≡ p = cc in same)
    (omega (arith, more_lines m q.options, rest q refl, small, are, fits))

good_fits : (met : Met) (word : List ℕ) → is_good met word ≡ true → length word ≤ met.room
good_fits met word e = le_true (length word) met.room (both (nat_le (length word) met.room) (may_stand met (meaning met word)) e)
  where
    le_true : (m n : ℕ) → nat_le m n ≡ true → m ≤ n
    le_true m n h = grind (arith, nat_tests)

abbrev Bounded : List (List ℕ) → Type 0
Bounded words = (met : Met) (number : ℕ) (p : Plan) → plan_from met number words ≡ Ok p → length (command_lines p.options.defines) ≤ 12 * met.room

word_lines : (good : Bool) (met : Met) (number : ℕ) (word : List ℕ) (words : List (List ℕ)) (p : Plan) → Bounded words → is_good met word ≡ good → (if good then adds (meaning met word) (plan_from (behind met word) (number + 1) words) else Err number) ≡ Ok p → length (command_lines p.options.defines) ≤ 12 * met.room
word_lines false met number word words p rest test e = absurd (let h : Err number ≡ Ok p = e in cc)
word_lines true met number word words p rest test e =
    adds_lines (meaning met word) (plan_from (behind met word) (number + 1) words) p (length word) met.room (behind met word).room
    (meaning_cost met.expected met.options_ended word) (room_after (meaning met word) _) (good_fits met word test) (λ q is. rest (behind met word) (number + 1) q is) e

bounded : (words : List (List ℕ)) → Bounded words
bounded [] met number p e = end_lines (named met.expected met.file) met.mode number met.room p e
bounded (word ∷ words) met number p e = word_lines (is_good met word) met number word words p (bounded words) refl e

-- the lines are shorter than a text of tokens may be
pub lines_bounded : (words : List (List ℕ)) (p : Plan) → plan words ≡ Ok p → length (command_lines p.options.defines) < 4294967295
lines_bounded words p e = omega (arith, bounded words nothing_met 1 p e)
