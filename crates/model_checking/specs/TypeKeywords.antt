-- The types that keywords name, in any order (ISO/IEC 9899:2024, 6.7.3.1).
use Rattle.std.specs.Prelude.{ℕ, ◌+◌, nat_eq, Bool, true, false, ◌&&◌, List, [], ◌∷◌, ◌++◌, Option, Some, None, if◌then◌else◌}
use Rattle.model_types.specs.declared.numbers.Basic.TheVariants as basic
use Rattle.model_types.specs.Types.{Form, Void, Integer}
use Rattle.model_grammar.specs.declared.syntax.TypeWord.{TypeWord}
use Rattle.model_grammar.specs.declared.syntax.TypeWord.TheVariants.{Char, Short, Int, Long, Signed, Unsigned}
use Rattle.model_grammar.specs.declared.syntax.TypeWord.TheVariants.{Void as void, Bool as bool}

-- a type, with the keywords that name it
pub record Named : Type 0 where
  pub words : List TypeWord
  pub form : Form

abbrev pub named_by : List TypeWord → Form → Named
named_by words form = record { words = words; form = form }

abbrev pub small_types : List Named
small_types =
    named_by (void ∷ []) Void
    ∷ named_by (bool ∷ []) (Integer basic.Bool)
    ∷ named_by (Char ∷ []) (Integer basic.Char)
    ∷ named_by (Signed ∷ Char ∷ []) (Integer basic.SignedChar)
    ∷ named_by (Unsigned ∷ Char ∷ []) (Integer basic.UnsignedChar)
    ∷ named_by (Short ∷ []) (Integer basic.Short)
    ∷ named_by (Signed ∷ Short ∷ []) (Integer basic.Short)
    ∷ named_by (Short ∷ Int ∷ []) (Integer basic.Short)
    ∷ named_by (Signed ∷ Short ∷ Int ∷ []) (Integer basic.Short)
    ∷ named_by (Unsigned ∷ Short ∷ []) (Integer basic.UnsignedShort)
    ∷ named_by (Unsigned ∷ Short ∷ Int ∷ []) (Integer basic.UnsignedShort)
    ∷ named_by (Int ∷ []) (Integer basic.Int)
    ∷ named_by (Signed ∷ []) (Integer basic.Int)
    ∷ named_by (Signed ∷ Int ∷ []) (Integer basic.Int)
    ∷ named_by (Unsigned ∷ []) (Integer basic.Unsigned)
    ∷ named_by (Unsigned ∷ Int ∷ []) (Integer basic.Unsigned)
    ∷ []

abbrev pub long_types : List Named
long_types =
    named_by (Long ∷ []) (Integer basic.Long)
    ∷ named_by (Signed ∷ Long ∷ []) (Integer basic.Long)
    ∷ named_by (Long ∷ Int ∷ []) (Integer basic.Long)
    ∷ named_by (Signed ∷ Long ∷ Int ∷ []) (Integer basic.Long)
    ∷ named_by (Unsigned ∷ Long ∷ []) (Integer basic.UnsignedLong)
    ∷ named_by (Unsigned ∷ Long ∷ Int ∷ []) (Integer basic.UnsignedLong)
    ∷ named_by (Long ∷ Long ∷ []) (Integer basic.LongLong)
    ∷ named_by (Signed ∷ Long ∷ Long ∷ []) (Integer basic.LongLong)
    ∷ named_by (Long ∷ Long ∷ Int ∷ []) (Integer basic.LongLong)
    ∷ named_by (Signed ∷ Long ∷ Long ∷ Int ∷ []) (Integer basic.LongLong)
    ∷ named_by (Unsigned ∷ Long ∷ Long ∷ []) (Integer basic.UnsignedLongLong)
    ∷ named_by (Unsigned ∷ Long ∷ Long ∷ Int ∷ []) (Integer basic.UnsignedLongLong)
    ∷ []

-- ---- the same keywords, each as often, in whatever order

abbrev pub same_word : TypeWord → TypeWord → Bool
same_word void void = true
same_word Char Char = true
same_word Short Short = true
same_word Int Int = true
same_word Long Long = true
same_word Signed Signed = true
same_word Unsigned Unsigned = true
same_word bool bool = true
same_word _ _ = false

-- how often a keyword is there
abbrev pub times : TypeWord → List TypeWord → ℕ
times word [] = 0
times word (w ∷ ws) = if same_word word w then 1 + times word ws else times word ws

-- each of these keywords is as often in the one list as in the other
abbrev pub as_often : List TypeWord → (left right : List TypeWord) → Bool
as_often [] left right = true
as_often (w ∷ ws) left right = nat_eq (times w left) (times w right) && as_often ws left right

abbrev pub same_words : List TypeWord → List TypeWord → Bool
same_words left right = as_often left left right && as_often right left right

abbrev pub find_named : List TypeWord → List Named → Option Form
find_named words [] = None
find_named words (n ∷ ns) = if same_words words n.words then Some n.form else find_named words ns

-- the type that keywords name; none where they name no type
abbrev pub type_by_words : List TypeWord → Option Form
type_by_words words = find_named words (small_types ++ long_types)
