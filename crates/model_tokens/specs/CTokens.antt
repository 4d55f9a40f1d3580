-- The tokens of C (ISO/IEC 9899:2024, 5.1.1.2 phases 6 and 7, 6.4).
use Rattle.std.specs.Prelude.{ℕ, Bool, true, false, not, ◌&&◌, nat_lt, if◌then◌else◌, List, [], ◌∷◌, ◌++◌, drop, Option, Some, None, is_some, Result, Ok, Err, ℤ, pos, ◌-ℤ◌}
use Rattle.std.specs.Char.{is_ascii_digit}
use Rattle.cake_base.specs.declared.places.Place.{Place}
use Rattle.cake_base.specs.declared.rules.Fault.{Fault}
use Rattle.model_types.specs.declared.numbers.Basic.TheVariants.{Int}
use Rattle.model_types.specs.declared.numbers.Const.{Const}
use Rattle.model_tokens.specs.declared.tokens.CKind.{CKind}
use Rattle.model_tokens.specs.declared.tokens.CKind.TheVariants as kind_of
use Rattle.model_tokens.specs.declared.tokens.CTok.{CTok}
use Rattle.model_tokens.specs.declared.tokens.PpKind.{PpKind}
use Rattle.model_tokens.specs.declared.tokens.PpKind.TheVariants.{Header, Name, Number, Character, Text, Punct, Other}
use Rattle.model_tokens.specs.declared.tokens.TokenRule.{TokenRule}
use Rattle.model_tokens.specs.declared.tokens.TokenRule.TheVariants.{NotEnded, NotOneCharacter, BadEscape, MalformedNumber, FitsNoType, Floating, Stray}
use Rattle.model_tokens.specs.Characters.{characters, content}
use Rattle.model_tokens.specs.FloatingConstants.{is_floating}
use Rattle.model_tokens.specs.IntegerConstants.{constant_in, fitting, integer_constant}
use Rattle.model_tokens.specs.PpSteps.{is_word_byte, is_quote, prefix_length}
use Rattle.model_tokens.specs.PpTokens.{PpToken, token_fault}
use Rattle.model_types.specs.Vocabulary.{word_number, punctuator_number}

-- letters, digits and _ alone
abbrev pub are_word_bytes : List ℕ → Bool
are_word_bytes [] = true
are_word_bytes (b ∷ text) = is_word_byte b && are_word_bytes text

-- an identifier, which no digit begins
abbrev pub is_identifier : List ℕ → Bool
is_identifier [] = false
is_identifier (b ∷ text) = not (is_ascii_digit b) && are_word_bytes (b ∷ text)

-- a word where the spelling has a number, a name otherwise
abbrev pub word_or_name : Option ℕ → List ℕ → CKind
word_or_name None text = kind_of.Name text
word_or_name (Some number) text = kind_of.Word number

abbrev pub name_token : List ℕ → Result CKind TokenRule
name_token text = if is_identifier text then Ok (word_or_name (word_number text) text) else Err Stray

abbrev pub numbered : Option ℕ → Result CKind TokenRule
numbered None = Err Stray
numbered (Some number) = Ok (kind_of.Punct number)

abbrev pub punctuator_token : List ℕ → Result CKind TokenRule
punctuator_token text = numbered (punctuator_number text)

-- a malformed number may be a floating constant
abbrev pub malformed_or_floating : Bool → TokenRule → TokenRule
malformed_or_floating floating MalformedNumber = if floating then Floating else MalformedNumber
malformed_or_floating floating rule = rule

-- a constant, or the rule that its text breaks
abbrev pub unless_floating : Bool → Result Const TokenRule → Result CKind TokenRule
unless_floating floating (Ok constant) = Ok (kind_of.Integer constant)
unless_floating floating (Err rule) = Err (malformed_or_floating floating rule)

abbrev pub number_token : List ℕ → Result CKind TokenRule
number_token text = unless_floating (is_floating text) (integer_constant text)

-- a literal that is none without its prefix
abbrev pub is_prefixed : ℕ → List ℕ → Bool
is_prefixed quote text = nat_lt 0 (prefix_length text) && is_some (content quote (drop (prefix_length text) text))

-- why a spelling is no literal of C
abbrev pub no_literal : ℕ → List ℕ → TokenRule
no_literal quote text = if is_prefixed quote text then Stray else NotEnded

-- the value of a byte as a signed char
abbrev pub as_signed_char : ℕ → ℤ
as_signed_char b = if nat_lt b 128 then pos b else pos b -ℤ pos 256

abbrev pub integer : Result Const TokenRule → Result CKind TokenRule
integer (Ok constant) = Ok (kind_of.Integer constant)
integer (Err rule) = Err rule

-- a character constant has one character, and the type int
abbrev pub one_character : List (Option ℕ) → Result CKind TokenRule
one_character [] = Err NotOneCharacter
one_character (None ∷ []) = Err BadEscape
one_character (Some b ∷ []) = integer (fitting (constant_in Int (as_signed_char b)))
one_character (first ∷ second ∷ others) = Err NotOneCharacter

abbrev pub character_in : List ℕ → Option (List ℕ) → Result CKind TokenRule
character_in text None = Err (no_literal 39 text)
character_in text (Some bytes) = one_character (characters bytes)

abbrev pub character_token : List ℕ → Result CKind TokenRule
character_token text = character_in text (content 39 text)

-- one byte before others
abbrev pub before_bytes : Option ℕ → Result (List ℕ) TokenRule → Result (List ℕ) TokenRule
before_bytes None others = Err BadEscape
before_bytes (Some b) (Ok others) = Ok (b ∷ others)
before_bytes (Some b) (Err rule) = Err rule

-- the bytes of a string, where no escape is bad
abbrev pub all_bytes : List (Option ℕ) → Result (List ℕ) TokenRule
all_bytes [] = Ok []
all_bytes (c ∷ characters) = before_bytes c (all_bytes characters)

abbrev pub string : Result (List ℕ) TokenRule → Result CKind TokenRule
string (Ok bytes) = Ok (kind_of.Text bytes)
string (Err rule) = Err rule

abbrev pub string_in : List ℕ → Option (List ℕ) → Result CKind TokenRule
string_in text None = Err (no_literal 34 text)
string_in text (Some bytes) = string (all_bytes (characters bytes))

abbrev pub string_token : List ℕ → Result CKind TokenRule
string_token text = string_in text (content 34 text)

-- a byte alone that is a quote is a literal that isn't ended
abbrev pub other_token : List ℕ → TokenRule
other_token (b ∷ []) = if is_quote b then NotEnded else Stray
other_token text = Stray

-- what a preprocessing token is converted into
unfoldable pub converted : PpKind → List ℕ → Result CKind TokenRule
converted Header text = Err Stray
converted Name text = name_token text
converted Number text = number_token text
converted Character text = character_token text
converted Text text = string_token text
converted Punct text = punctuator_token text
converted Other text = Err (other_token text)

abbrev pub rule_number : TokenRule → ℕ
rule_number NotEnded = 2
rule_number NotOneCharacter = 3
rule_number BadEscape = 4
rule_number MalformedNumber = 5
rule_number FitsNoType = 6
rule_number Floating = 7
rule_number Stray = 8

abbrev pub placed_at : Place → Result CKind TokenRule → Result CTok Fault
placed_at place (Ok kind) = Ok (record { kind = kind; place = place })
placed_at place (Err rule) = Err (token_fault (rule_number rule) place)

-- the token of C at the place of a preprocessing token, or the rule of L02 to L08 that it breaks
abbrev pub c_token_of : PpToken → Result CTok Fault
c_token_of t = placed_at t.place (converted t.kind t.spelling)

-- two tokens and then others; two strings are one, at the place of the first
abbrev pub join_kinds : CKind → CKind → Place → CTok → CTok → List CTok → List CTok
join_kinds (kind_of.Text a) (kind_of.Text b) place t next others = record { kind = kind_of.Text (a ++ b); place = place } ∷ others
join_kinds a b place t next others = t ∷ next ∷ others

-- a token before others
abbrev pub join : CTok → List CTok → List CTok
join t [] = t ∷ []
join t (next ∷ others) = join_kinds t.kind next.kind t.place t next others

-- the tokens with neighbouring strings joined
abbrev pub strings_joined : List CTok → List CTok
strings_joined [] = []
strings_joined (t ∷ tokens) = join t (strings_joined tokens)

-- a token before the tokens of the rest, or the fault that comes first
abbrev pub before_tokens : Result CTok Fault → Result (List CTok) Fault → Result (List CTok) Fault
before_tokens (Err fault) others = Err fault
before_tokens (Ok t) (Ok others) = Ok (t ∷ others)
before_tokens (Ok t) (Err fault) = Err fault

abbrev pub each_token : List PpToken → Result (List CTok) Fault
each_token [] = Ok []
each_token (t ∷ tokens) = before_tokens (c_token_of t) (each_token tokens)

abbrev pub joined : Result (List CTok) Fault → Result (List CTok) Fault
joined (Ok tokens) = Ok (strings_joined tokens)
joined (Err fault) = Err fault

-- the tokens of C of a list, or the first of L02 to L08 in the order of the tokens
abbrev pub c_tokens_of : List PpToken → Result (List CTok) Fault
c_tokens_of tokens = joined (each_token tokens)
