-- The sets of bytes that a scan passes over.
use Rattle.std.specs.Prelude.{ℕ, Bool}
use Rattle.model_tokens.specs.PpSteps.{is_blank, is_word_byte, is_in_line}
use Rattle.c_tokens.specs.declared.scan.Class.{Class}
use Rattle.c_tokens.specs.declared.scan.Class.TheVariants.{Blank, Word, Line}

abbrev pub is_in : Class → ℕ → Bool
is_in Blank = is_blank
is_in Word = is_word_byte
is_in Line = is_in_line
