-- What stands at the front of a text: the longest preprocessing token, blanks, a comment or a line feed
-- (ISO/IEC 9899:2024, 5.1.1.2 phase 3, 6.4, 6.4.10).
use Rattle.std.specs.Prelude.{ℕ, zero, suc, ◌+◌, Bool, true, false, not, ◌&&◌, ◌||◌, ◌==◌, if◌then◌else◌, List, [], ◌∷◌, drop, slice_index, Option, Some, None}
use Rattle.std.specs.Char.{is_ascii_digit, is_ascii_alphanumeric}
use Rattle.std.specs.List.{prefix_len}
use Rattle.model_tokens.specs.declared.steps.LinePart.{LinePart}
use Rattle.model_tokens.specs.declared.steps.LinePart.TheVariants.{Start, Hash, Include, Rest}
use Rattle.model_tokens.specs.declared.steps.Step.{Step}
use Rattle.model_tokens.specs.declared.steps.Step.TheVariants.{LineEnd, Blank, Token, OpenComment}
use Rattle.model_tokens.specs.declared.tokens.PpKind.{PpKind}
use Rattle.model_tokens.specs.declared.tokens.PpKind.TheVariants.{Header, Name, Number, Character, Text, Punct, Other}
use Rattle.model_types.specs.Vocabulary.{is_punctuator}

-- a space, a tab, a vertical tab or a form feed
abbrev pub is_blank : ℕ → Bool
is_blank b = b == 32 || (b == 9 || (b == 11 || b == 12))

-- a letter, a digit or _
abbrev pub is_word_byte : ℕ → Bool
is_word_byte b = is_ascii_alphanumeric b || b == 95

-- anything but a line feed
abbrev pub is_in_line : ℕ → Bool
is_in_line b = not (b == 10)

-- one more, where there is a length
abbrev pub longer : Option ℕ → Option ℕ
longer None = None
longer (Some n) = Some (suc n)

-- a length that stands this far from the front
abbrev pub further : ℕ → Option ℕ → Option ℕ
further n None = None
further n (Some m) = Some (n + m)

-- the letters of an exponent, which a sign may follow
abbrev pub is_exponent : ℕ → Bool
is_exponent b = b == 101 || (b == 69 || (b == 112 || b == 80))

-- how far a number goes on after a byte: by letters, digits, _ and points, by a sign after the letter of an exponent, and by
-- ' before a letter or a digit, which then belongs to that '
abbrev pub number_rest : ℕ → List ℕ → ℕ
number_rest before [] = 0
number_rest before (b ∷ text) =
    if is_word_byte b || b == 46 then suc (number_rest (if before == 39 then 0 else b) text)
    else (if (b == 43 || b == 45) && is_exponent before then suc (number_rest b text)
    else (if b == 39 && is_ascii_alphanumeric (slice_index text 0) then suc (number_rest b text) else 0))

-- the length up to and with the quote that ends a literal of this line; the flag says that a backslash stands before
abbrev pub closing : ℕ → Bool → List ℕ → Option ℕ
closing quote escaped [] = None
closing quote true (b ∷ text) = if b == 10 then None else longer (closing quote false text)
closing quote false (b ∷ text) = if b == 10 then None else (if b == quote then Some 1 else longer (closing quote (b == 92) text))

-- the length up to and with the */ that ends a comment
abbrev pub comment_end : List ℕ → Option ℕ
comment_end [] = None
comment_end (b ∷ text) = if b == 42 && slice_index text 0 == 47 then Some 2 else longer (comment_end text)

-- the length up to and with the > that ends a header's name on this line
abbrev pub header_end : List ℕ → Option ℕ
header_end [] = None
header_end (b ∷ text) = if b == 10 then None else (if b == 62 then Some 1 else longer (header_end text))

abbrev pub is_quote : ℕ → Bool
is_quote b = b == 34 || b == 39

-- the length of the prefix L, u, U or u8 that stands directly before a quote
abbrev pub prefix_length : List ℕ → ℕ
prefix_length text =
    let b = slice_index text 0 in
    let next = slice_index text 1 in
    if (b == 76 || (b == 117 || b == 85)) && is_quote next then 1
    else (if b == 117 && (next == 56 && is_quote (slice_index text 2)) then 2 else 0)

-- the length of the string literal or character constant at the front, with its prefix
abbrev pub literal_length : List ℕ → Option ℕ
literal_length text =
    let n = prefix_length text in
    let quote = slice_index text n in
    if is_quote quote then further (n + 1) (closing quote false (drop (n + 1) text)) else None

-- the kind of the literal at the front
abbrev pub literal_kind : List ℕ → PpKind
literal_kind text = if slice_index text (prefix_length text) == 39 then Character else Text

-- the length of the longest punctuator that three bytes begin with, or 0; none is longer
abbrev pub longest_of : ℕ → ℕ → ℕ → ℕ
longest_of a b c =
    if is_punctuator (a ∷ b ∷ c ∷ []) then 3 else (if is_punctuator (a ∷ b ∷ []) then 2 else (if is_punctuator (a ∷ []) then 1 else 0))

-- the length of the longest punctuator at the front, or 0; a byte past the end is 0, which stands in none
abbrev pub punctuator_length : List ℕ → ℕ
punctuator_length text = longest_of (slice_index text 0) (slice_index text 1) (slice_index text 2)

abbrev pub comment_step : Option ℕ → Step
comment_step None = OpenComment
comment_step (Some n) = Blank (n + 2)

-- a punctuator, or a byte that is a token alone
abbrev pub punctuator_step : ℕ → Step
punctuator_step zero = Token Other 1
punctuator_step (suc n) = Token Punct (suc n)

-- a name, a punctuator or another byte, where no literal stands
abbrev pub plain_step : List ℕ → Step
plain_step text =
    if is_word_byte (slice_index text 0) then Token Name (prefix_len is_word_byte text) else punctuator_step (punctuator_length text)

-- a literal where one stands
abbrev pub literal_step : List ℕ → Option ℕ → Step
literal_step text None = plain_step text
literal_step text (Some n) = Token (literal_kind text) n

-- the name of a header where one stands
abbrev pub header_step : Option ℕ → List ℕ → Step
header_step None text = plain_step text
header_step (Some n) text = Token Header (n + 1)

-- a header's name begins here: < on a line that begins with # and include
abbrev pub begins_header : LinePart → ℕ → Bool
begins_header Include b = b == 60
begins_header Start b = false
begins_header Hash b = false
begins_header Rest b = false

-- what stands at the front of a text that isn't empty, in this part of its line
unfoldable pub step_at : LinePart → List ℕ → Step
step_at line text =
    let b = slice_index text 0 in
    let next = slice_index text 1 in
    if b == 10 then LineEnd
    else (if is_blank b then Blank (prefix_len is_blank text)
    else (if b == 47 && next == 47 then Blank (prefix_len is_in_line text)
    else (if b == 47 && next == 42 then comment_step (comment_end (drop 2 text))
    else (if is_ascii_digit b || (b == 46 && is_ascii_digit next) then Token Number (suc (number_rest b (drop 1 text)))
    else (if begins_header line b then header_step (header_end (drop 1 text)) text
    else literal_step text (literal_length text))))))
