-- The words of the source, which are no names (ISO/IEC 9899:2024, 6.4.2, and this profile's own), and names
-- (6.4.3).
use Rattle.std.specs.Prelude.{ℕ, Bool, ◌&&◌, not, List, ◌++◌}
use Rattle.std.specs.List.{list_all}
use Rattle.model_types.specs.ByteClasses.{is_nondigit, is_word_byte, begins_with}
use Rattle.model_types.specs.Vocabulary.{grammar_words, left_out_words, stands_in}

abbrev pub source_words : List (List ℕ)
source_words = grammar_words ++ left_out_words

-- an identifier that is no word
abbrev pub is_name : List ℕ → Bool
is_name name = begins_with is_nondigit name && list_all is_word_byte name && not (stands_in source_words name)
