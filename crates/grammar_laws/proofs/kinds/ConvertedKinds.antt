-- Each token that conversion gives has a number of the grammar's vocabulary.
use Rattle.std.proofs.Common.{◌≡◌, ℕ, ◌+◌, ◌<◌, ◌≤◌, Bool, true, false, List, [], ◌∷◌, ◌++◌, length, Option, Some, None, Result, Ok, Err, refl, subst, arith}
use Rattle.std.specs.Prelude.{if◌then◌else◌}
use Rattle.std.specs.Str.{bytes_eq}
use Rattle.cake_base.specs.declared.places.Place.{Place}
use Rattle.cake_base.specs.declared.rules.Fault.{Fault}
use Rattle.model_types.specs.declared.numbers.Basic.TheVariants.{Int}
use Rattle.model_types.specs.declared.numbers.Const.{Const}
use Rattle.model_tokens.specs.declared.tokens.CKind.{CKind}
use Rattle.model_tokens.specs.declared.tokens.CKind.TheVariants as token
use Rattle.model_tokens.specs.declared.tokens.CTok.{CTok}
use Rattle.model_tokens.specs.declared.tokens.PpKind.{PpKind}
use Rattle.model_tokens.specs.declared.tokens.PpKind.TheVariants.{Header, Name, Number, Character, Text, Punct, Other}
use Rattle.model_tokens.specs.declared.tokens.TokenRule.{TokenRule}
use Rattle.model_tokens.specs.declared.tokens.TokenRule.TheVariants.{Stray}
use Rattle.model_tokens.specs.Characters.{characters, content}
use Rattle.model_tokens.specs.CTokens.{is_identifier, word_or_name, name_token, numbered, unless_floating, as_signed_char, integer, one_character, character_in, all_bytes, string, string_in, converted, placed_at, rule_number, c_token_of, join_kinds, join, strings_joined, before_tokens, each_token, joined, c_tokens_of}
use Rattle.model_tokens.specs.FloatingConstants.{is_floating}
use Rattle.model_tokens.specs.IntegerConstants.{constant_in, fitting, integer_constant}
use Rattle.model_tokens.specs.PpTokens.{PpToken, token_fault}
use Rattle.model_grammar.specs.Terminals as k
use Rattle.model_grammar.specs.TerminalsOf.{kind_number, AreNumbered}
use Rattle.model_types.specs.Vocabulary.{grammar_words, left_out_words, punctuators, number_in, word_number, punctuator_number}

abbrev IsNumbered : Result CKind TokenRule → Type 0
IsNumbered (Ok kind) = kind_number kind ≤ k.StringLiteral
IsNumbered (Err rule) = Unit {0}

-- a number in a table is none past its end
in_table : (table : List (List ℕ)) (next number : ℕ) (spelling : List ℕ) → number_in table next spelling ≡ Some number → number < next + length table
in_table [] next number spelling e = absurd (let h : None ≡ Some number = e in cc)
in_table (entry ∷ table) next number spelling e = by (bytes_eq entry spelling) (in_table table (next + 1) number spelling) e
  where
    by : (b : Bool) → (number_in table (next + 1) spelling ≡ Some number → number < next + 1 + length table)
        → (if b then Some next else number_in table (next + 1) spelling) ≡ Some number → number < next + length (entry ∷ table)
    by true more h = let same : next ≡ number = cc in omega arith
    by false more h = let l = more h in omega arith

word_is : (text : List ℕ) (number : ℕ) → word_number text ≡ Some number → number ≤ 63
unfolding word_number
word_is text number e =
    let h : number < 1 + length (grammar_words ++ left_out_words) = in_table (grammar_words ++ left_out_words) 1 number text e in let size : length (grammar_words ++ left_out_words) ≡ 63 = refl in omega (arith, h, size)

punctuator_is : (text : List ℕ) (number : ℕ) → punctuator_number text ≡ Some number → number ≤ 47
unfolding punctuator_number
punctuator_is text number e = let h : number < 1 + length punctuators = in_table punctuators 1 number text e in let size : length punctuators ≡ 47 = refl in omega (arith, h, size)

word_kind : (text : List ℕ) (o : Option ℕ) → word_number text ≡ o → kind_number (word_or_name o text) ≤ k.StringLiteral
word_kind text None e = omega arith
word_kind text (Some number) e = let h = word_is text number e in omega arith

name_kind : (text : List ℕ) → IsNumbered (name_token text)
name_kind text = by (is_identifier text)
  where
    by : (b : Bool) → IsNumbered (if b then Ok (word_or_name (word_number text) text) else Err Stray)
    by true = word_kind text (word_number text) refl
    by false = tt

punctuator_kind : (text : List ℕ) (o : Option ℕ) → punctuator_number text ≡ o → IsNumbered (numbered o)
punctuator_kind text None e = tt
punctuator_kind text (Some number) e = let h = punctuator_is text number e in omega arith

number_kind : (floating : Bool) (r : Result Const TokenRule) → IsNumbered (unless_floating floating r)
number_kind floating (Ok constant) = omega arith
number_kind floating (Err rule) = tt

integer_kind : (r : Result Const TokenRule) → IsNumbered (integer r)
integer_kind (Ok constant) = omega arith
integer_kind (Err rule) = tt

character_kind : (cs : List (Option ℕ)) → IsNumbered (one_character cs)
character_kind [] = tt
character_kind (None ∷ []) = tt
character_kind (Some b ∷ []) = integer_kind (fitting (constant_in Int (as_signed_char b)))
character_kind (first ∷ second ∷ others) = tt

character_text : (text : List ℕ) (o : Option (List ℕ)) → IsNumbered (character_in text o)
character_text text None = tt
character_text text (Some bytes) = character_kind (characters bytes)

string_kind : (r : Result (List ℕ) TokenRule) → IsNumbered (string r)
string_kind (Ok bytes) = omega arith
string_kind (Err rule) = tt

string_text : (text : List ℕ) (o : Option (List ℕ)) → IsNumbered (string_in text o)
string_text text None = tt
string_text text (Some bytes) = string_kind (all_bytes (characters bytes))

kind_is : (kind : PpKind) (text : List ℕ) → IsNumbered (converted kind text)
unfolding converted
kind_is Header text = tt
kind_is Name text = name_kind text
kind_is Number text = number_kind (is_floating text) (integer_constant text)
kind_is Character text = character_text text (content 39 text)
kind_is Text text = string_text text (content 34 text)
kind_is Punct text = punctuator_kind text (punctuator_number text) refl
kind_is Other text = tt

-- ---- lists

placed : (place : Place) (r : Result CKind TokenRule) (t : CTok) → IsNumbered r → placed_at place r ≡ Ok t → kind_number t.kind ≤ k.StringLiteral
placed place (Ok kind) t h e =
    let token : CTok = record { kind = kind; place = place } in
    let same : token ≡ t = cc in
    subst (λ x. kind_number x.kind ≤ k.StringLiteral) same h
placed place (Err rule) t h e = absurd (let h : Err (token_fault (rule_number rule) place) ≡ Ok t = e in cc)

joined_kinds : (a b : CKind) (place : Place) (t next : CTok) (others : List CTok) → kind_number t.kind ≤ k.StringLiteral
    → kind_number next.kind ≤ k.StringLiteral → AreNumbered others → AreNumbered (join_kinds a b place t next others)
joined_kinds (token.Text a) (token.Text b) place t next others p q r = (omega arith, r)
joined_kinds (token.Text a) (token.Word b) place t next others p q r = (p, (q, r))
joined_kinds (token.Text a) (token.Name b) place t next others p q r = (p, (q, r))
joined_kinds (token.Text a) (token.Integer b) place t next others p q r = (p, (q, r))
joined_kinds (token.Text a) (token.Punct b) place t next others p q r = (p, (q, r))
joined_kinds (token.Word a) b place t next others p q r = (p, (q, r))
joined_kinds (token.Name a) b place t next others p q r = (p, (q, r))
joined_kinds (token.Integer a) b place t next others p q r = (p, (q, r))
joined_kinds (token.Punct a) b place t next others p q r = (p, (q, r))

join_is : (t : CTok) (ts : List CTok) → kind_number t.kind ≤ k.StringLiteral → AreNumbered ts → AreNumbered (join t ts)
join_is t [] p q = (p, tt)
join_is t (next ∷ others) p (q, r) = joined_kinds t.kind next.kind t.place t next others p q r

strings_are : (ts : List CTok) → AreNumbered ts → AreNumbered (strings_joined ts)
strings_are [] h = tt
strings_are (t ∷ ts) (p, q) = join_is t (strings_joined ts) p (strings_are ts q)

abbrev IsNumberedList : Result (List CTok) Fault → Type 0
IsNumberedList (Ok ts) = AreNumbered ts
IsNumberedList (Err fault) = Unit {0}

before : (r : Result CTok Fault) (rest : Result (List CTok) Fault) → ((t : CTok) → r ≡ Ok t → kind_number t.kind ≤ k.StringLiteral) → IsNumberedList rest → IsNumberedList (before_tokens r rest)
before (Err fault) rest p q = tt
before (Ok t) (Ok others) p q = (p t refl, q)
before (Ok t) (Err fault) p q = tt

each : (tokens : List PpToken) → IsNumberedList (each_token tokens)
each [] = tt
each (t ∷ tokens) = before (c_token_of t) (each_token tokens) (λ u e. placed t.place (converted t.kind t.spelling) u (kind_is t.kind t.spelling) e) (each tokens)

joined_are : (r : Result (List CTok) Fault) → IsNumberedList r → IsNumberedList (joined r)
joined_are (Ok ts) h = strings_are ts h
joined_are (Err fault) h = tt

pub converted_are_numbered : (tokens : List PpToken) (ts : List CTok) → c_tokens_of tokens ≡ Ok ts → AreNumbered ts
converted_are_numbered tokens ts e = subst IsNumberedList e (joined_are (each_token tokens) (each tokens))
