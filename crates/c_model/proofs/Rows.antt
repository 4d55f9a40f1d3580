-- The worked units, by computing the definitions.
use Rattle.std.proofs.Common.{◌≡◌, ℕ, ℤ, pos, Bool, true, false, List, [], ◌∷◌, ◌++◌, map, Some, Ok, refl, ap, ◌∙◌, subst, lit<, lit≤}
use Rattle.std.specs.Prelude.{codes}
use Rattle.std.specs.Fmt.{decimal}
use Rattle.std.proofs.lemmas.Fmt.{decimal_digit}
use Rattle.model_types.specs.declared.numbers.Basic.TheVariants.{Int}
use Rattle.model_types.specs.declared.numbers.BinOp.TheVariants.{Mul, Add}
use Rattle.model_tokens.specs.declared.tokens.CKind.TheVariants.{Word, Name, Punct}
use Rattle.model_tokens.specs.declared.tokens.CTok.{CTok}
use Rattle.model_tokens.specs.declared.tokens.PpKind.{PpKind}
use Rattle.model_tokens.specs.declared.tokens.PpKind.TheVariants as pp_kind
use Rattle.model_types.specs.declared.outcomes.Cause.TheVariants.{Overflow}
use Rattle.model_runs.specs.Memory.{Single, Number}
use Rattle.model_runs.specs.Run.{Returned, Undefined}
use Rattle.model_runs.specs.SourceRun.{run23}
use Rattle.model_c89.specs.TargetRun.{run89}
use Rattle.model_types.specs.Operations.{fits}
use Rattle.model_types.specs.Vocabulary.{word_number, punctuator_number, is_punctuator}
use Rattle.model_tokens.specs.PpSteps.{step_at}
use Rattle.model_tokens.specs.PpTokens.{PpToken, tokens_of}
use Rattle.model_tokens.specs.CTokens.{converted, c_tokens_of}
use Rattle.c_model.specs.FirstUnit.{IsUnit, spelled, head_words, IsConstant, IsSum, IsProduct, IsPrimary, one_product, added, one_primary, multiplied, constant, parenthesised, int_constant, int_operation, in_parentheses}
use Rattle.model_core.specs.Core.{Expr}
use Rattle.model_core.specs.Types89.{int_type}
use Rattle.model_c89.specs.Names89.{IsName}
use Rattle.model_c89.specs.Typing89.{Typed}
use Rattle.model_c89.specs.SpellingParts89.{declaration_text}
use Rattle.model_c89.specs.Spelling89.{outers_text, canonical}
use Rattle.model_c89.specs.Reading89.{Reads89}
use Rattle.c_model.specs.ExampleParts.{at_column as at}
use Rattle.c_model.specs.FirstRow.{token, int_token, seven_text, seven_tokens, seven_core, seven_program, seven_written, overflow_tokens, overflow_core, nine_tokens, nine_core}
use Rattle.model_c89.proofs.Spelled.{program_reads}

-- the words before `return`
abbrev head : List CTok
head = token (Word 14) 1 0 ∷ token (Name (codes "main")) 5 1 ∷ token (Punct 3) 9 2 ∷ token (Word 11) 10 3 ∷ token (Punct 4) 14 4 ∷ token (Punct 7) 16 5 ∷ []

-- what the spellings are converted into
head_spelled : map (λ t. Ok t.kind) head ≡ map spelled head_words
unfolding spelled word_number punctuator_number
head_spelled = refl

return_spelled : spelled (codes "return") ≡ Ok (Word 39)
unfolding spelled word_number punctuator_number
return_spelled = refl

semicolon_spelled : spelled (codes ";") ≡ Ok (Punct 2)
unfolding spelled word_number punctuator_number
semicolon_spelled = refl

brace_spelled : spelled (codes "}") ≡ Ok (Punct 8)
unfolding spelled word_number punctuator_number
brace_spelled = refl

plus_spelled : spelled (codes "+") ≡ Ok (Punct 38)
unfolding spelled word_number punctuator_number
plus_spelled = refl

times_spelled : spelled (codes "*") ≡ Ok (Punct 11)
unfolding spelled word_number punctuator_number
times_spelled = refl

is_number : (value : ℕ) (is : fits Int (pos value) ≡ true) (column order : ℕ) → IsConstant (int_token value is column order) value
is_number value is column order = record { constant = _; kind = refl; basic = refl; value = refl }

-- a constant as a primary, and a product of it alone
primary_of : (value : ℕ) (is : fits Int (pos value) ≡ true) (column order : ℕ) → IsPrimary (int_token value is column order ∷ []) (int_constant (pos value) (at column order))
primary_of value is column order = constant (int_token value is column order ∷ []) (int_token value is column order) value (is_number value is column order) refl

product_of : (value : ℕ) (is : fits Int (pos value) ≡ true) (column order : ℕ) → IsProduct (int_token value is column order ∷ []) (int_constant (pos value) (at column order))
product_of value is column order = one_primary (int_token value is column order ∷ []) _ (primary_of value is column order)

sum_of : (value : ℕ) (is : fits Int (pos value) ≡ true) (column order : ℕ) → IsSum (int_token value is column order ∷ []) (int_constant (pos value) (at column order))
sum_of value is column order = one_product (int_token value is column order ∷ []) _ (product_of value is column order)

abbrev product : List CTok
product = int_token 2 refl 29 9 ∷ token (Punct 11) 31 10 ∷ int_token 3 refl 33 11 ∷ []

abbrev seven_sum : List CTok
seven_sum = int_token 1 refl 25 7 ∷ token (Punct 38) 27 8 ∷ product

product_is : IsProduct product (int_operation Mul (int_constant (pos 2) (at 29 9)) (int_constant (pos 3) (at 33 11)) (at 31 10))
product_is = multiplied product (int_token 2 refl 29 9 ∷ []) (int_token 3 refl 33 11 ∷ []) (token (Punct 11) 31 10) _ _ times_spelled (product_of 2 refl 29 9) (primary_of 3 refl 33 11) refl

seven_sum_is : IsSum seven_sum (int_operation Add (int_constant (pos 1) (at 25 7)) (int_operation Mul (int_constant (pos 2) (at 29 9)) (int_constant (pos 3) (at 33 11)) (at 31 10)) (at 27 8))
seven_sum_is = added seven_sum (int_token 1 refl 25 7 ∷ []) product (token (Punct 38) 27 8) _ _ plus_spelled (sum_of 1 refl 25 7) product_is refl

pub seven_is_a_unit : IsUnit seven_tokens seven_core
seven_is_a_unit = record {
  head = head;
  return_ = token (Word 39) 18 6;
  sum = seven_sum;
  semicolon = token (Punct 2) 34 12;
  brace = token (Punct 8) 36 13;
  value = _;
  parts = refl;
  head_is = head_spelled;
  return_is = return_spelled;
  sum_is = seven_sum_is;
  semicolon_is = semicolon_spelled;
  brace_is = brace_spelled;
  core_is = refl;
}

pub seven_returns_7 : (world : List ℤ) → run23 1 seven_core (codes "main") [] world ≡ record { events = []; moves = []; ending = Returned (Single (Number (pos 7))) }
seven_returns_7 world = refl

pub seven_program_returns_7 : (world : List ℤ) → run89 1 seven_program (codes "main") [] world ≡ record { events = []; moves = []; ending = Returned (Single (Number (pos 7))) }
seven_program_returns_7 world = refl

main_is_name : IsName (codes "main")
main_is_name = record { begins = refl; goes_on = (refl, (refl, (refl, (refl, tt)))); is_no_word = refl }

seven_typed : Typed seven_program
seven_typed = record {
  written = record {
    structures = tt;
    outers = ((tt, tt, tt), main_is_name, tt, tt);
    functions = (tt, main_is_name, (tt, tt), tt, ((lit≤ tt, (lit≤ tt, lit≤ tt)), tt), tt);
  };
  types = refl;
}

-- the text, with the spellings of its constants
abbrev inner_of : (two three : List ℕ) → List ℕ
inner_of two three = codes "(" ++ ((two ++ []) ++ (codes " " ++ (codes "*" ++ (codes " " ++ ((three ++ []) ++ codes ")")))))

abbrev sum_text : (one two three : List ℕ) → List ℕ
sum_text one two three = codes "(" ++ ((one ++ []) ++ (codes " " ++ (codes "+" ++ (codes " " ++ (inner_of two three ++ codes ")")))))

abbrev written_of : (one two three : List ℕ) → List ℕ
written_of one two three =
    outers_text seven_program.outers
    ++ (codes "\n"
    ++ ((declaration_text int_type (codes "main(void)") ++ (codes "\n{\n" ++ (((codes "    return " ++ (sum_text one two three ++ codes ";\n")) ++ []) ++ codes "}\n"))) ++ []))

seven_spelling : canonical seven_program ≡ seven_written
seven_spelling =
    ap (λ d. written_of d (decimal 2) (decimal 3)) (decimal_digit 1 (lit< tt))
    ∙ ap (λ d. written_of (codes "1") d (decimal 3)) (decimal_digit 2 (lit< tt))
    ∙ ap (λ d. written_of (codes "1") (codes "2") d) (decimal_digit 3 (lit< tt))

pub seven_reads : Reads89 seven_written seven_program
seven_reads = subst (λ t. Reads89 t seven_program) seven_spelling (program_reads seven_program seven_typed)

abbrev overflow_sum : List CTok
overflow_sum = int_token 2147483647 refl 25 7 ∷ token (Punct 38) 36 8 ∷ int_token 1 refl 38 9 ∷ []

overflow_sum_is : IsSum overflow_sum (int_operation Add (int_constant (pos 2147483647) (at 25 7)) (int_constant (pos 1) (at 38 9)) (at 36 8))
overflow_sum_is = added overflow_sum (int_token 2147483647 refl 25 7 ∷ []) (int_token 1 refl 38 9 ∷ []) (token (Punct 38) 36 8) _ _ plus_spelled (sum_of 2147483647 refl 25 7) (product_of 1 refl 38 9) refl

pub overflow_is_a_unit : IsUnit overflow_tokens overflow_core
overflow_is_a_unit = record {
  head = head;
  return_ = token (Word 39) 18 6;
  sum = overflow_sum;
  semicolon = token (Punct 2) 39 10;
  brace = token (Punct 8) 41 11;
  value = _;
  parts = refl;
  head_is = head_spelled;
  return_is = return_spelled;
  sum_is = overflow_sum_is;
  semicolon_is = semicolon_spelled;
  brace_is = brace_spelled;
  core_is = refl;
}

open_spelled : spelled (codes "(") ≡ Ok (Punct 3)
unfolding spelled word_number punctuator_number
open_spelled = refl

close_spelled : spelled (codes ")") ≡ Ok (Punct 4)
unfolding spelled word_number punctuator_number
close_spelled = refl

abbrev one_and_two : List CTok
one_and_two = int_token 1 refl 26 8 ∷ token (Punct 38) 28 9 ∷ int_token 2 refl 30 10 ∷ []

abbrev in_them : List CTok
in_them = token (Punct 3) 25 7 ∷ (one_and_two ++ token (Punct 4) 31 11 ∷ [])

abbrev one_plus_two : Expr
one_plus_two = int_operation Add (int_constant (pos 1) (at 26 8)) (int_constant (pos 2) (at 30 10)) (at 28 9)

one_plus_two_is : IsSum one_and_two one_plus_two
one_plus_two_is = added one_and_two (int_token 1 refl 26 8 ∷ []) (int_token 2 refl 30 10 ∷ []) (token (Punct 38) 28 9) _ _ plus_spelled (sum_of 1 refl 26 8) (product_of 2 refl 30 10) refl

in_them_is : IsProduct in_them (in_parentheses (at 25 7) one_plus_two)
in_them_is = one_primary in_them _ (parenthesised in_them (token (Punct 3) 25 7) (token (Punct 4) 31 11) one_and_two one_plus_two open_spelled close_spelled one_plus_two_is refl)

abbrev nine_sum : List CTok
nine_sum = in_them ++ (token (Punct 11) 33 12 ∷ int_token 3 refl 35 13 ∷ [])

nine_sum_is : IsSum nine_sum (int_operation Mul (in_parentheses (at 25 7) one_plus_two) (int_constant (pos 3) (at 35 13)) (at 33 12))
nine_sum_is = one_product nine_sum _ (multiplied nine_sum in_them (int_token 3 refl 35 13 ∷ []) (token (Punct 11) 33 12) _ _ times_spelled in_them_is (primary_of 3 refl 35 13) refl)

pub nine_is_a_unit : IsUnit nine_tokens nine_core
nine_is_a_unit = record {
  head = head;
  return_ = token (Word 39) 18 6;
  sum = nine_sum;
  semicolon = token (Punct 2) 36 14;
  brace = token (Punct 8) 38 15;
  value = _;
  parts = refl;
  head_is = head_spelled;
  return_is = return_spelled;
  sum_is = nine_sum_is;
  semicolon_is = semicolon_spelled;
  brace_is = brace_spelled;
  core_is = refl;
}

pub overflow_is_undefined : (world : List ℤ) → run23 1 overflow_core (codes "main") [] world ≡ record { events = []; moves = []; ending = Undefined Overflow (Some (at 36 8)) }
overflow_is_undefined world = refl

abbrev pp_token : PpKind → List ℕ → (column order : ℕ) → (first space : Bool) → PpToken
pp_token kind spelling column order first space = record { kind = kind; place = at column order; first = first; space = space; spelling = spelling }

abbrev seven_pp_tokens : List PpToken
seven_pp_tokens =
    pp_token pp_kind.Name (codes "int") 1 0 true false ∷
    pp_token pp_kind.Name (codes "main") 5 1 false true ∷
    pp_token pp_kind.Punct (codes "(") 9 2 false false ∷
    pp_token pp_kind.Name (codes "void") 10 3 false false ∷
    pp_token pp_kind.Punct (codes ")") 14 4 false false ∷
    pp_token pp_kind.Punct (codes "{") 16 5 false true ∷
    pp_token pp_kind.Name (codes "return") 18 6 false true ∷
    pp_token pp_kind.Number (codes "1") 25 7 false true ∷
    pp_token pp_kind.Punct (codes "+") 27 8 false true ∷
    pp_token pp_kind.Number (codes "2") 29 9 false true ∷
    pp_token pp_kind.Punct (codes "*") 31 10 false true ∷
    pp_token pp_kind.Number (codes "3") 33 11 false true ∷
    pp_token pp_kind.Punct (codes ";") 34 12 false false ∷
    pp_token pp_kind.Punct (codes "}") 36 13 false true ∷ []

-- the text of the first one has its tokens
pub seven_is_converted : (tokens : List PpToken) × (tokens_of 0 seven_text ≡ Ok tokens) × (c_tokens_of tokens ≡ Ok seven_tokens)
unfolding tokens_of step_at converted word_number punctuator_number is_punctuator
seven_is_converted = (seven_pp_tokens, refl, refl)
