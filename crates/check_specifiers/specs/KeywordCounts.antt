-- How often each keyword of a type stands in a list, and the type that they name by that.
use Rattle.std.specs.Prelude.{ℕ, zero, suc, Bool, true, false, ◌&&◌, List, [], ◌∷◌, Option, Some, None, option_map, if◌then◌else◌}
use Rattle.model_types.specs.declared.numbers.Basic.{Basic}
use Rattle.model_types.specs.declared.numbers.Basic.TheVariants as basic
use Rattle.model_types.specs.Types.{Form, Void, Integer}
use Rattle.model_grammar.specs.declared.syntax.TypeWord.{TypeWord}
use Rattle.model_grammar.specs.declared.syntax.TypeWord.TheVariants as word
use Rattle.model_checking.specs.Words.{Word, a_storage_word, a_function_word, a_type_word, a_tagged_type, a_named_type, a_qualifier}
use Rattle.model_checking.specs.TypeKeywords as m
use Rattle.check_specifiers.specs.declared.keywords.Times.{Times}
use Rattle.check_specifiers.specs.declared.keywords.Times.TheVariants.{Never, Once, Twice, TooOften}
use Rattle.check_specifiers.specs.declared.keywords.Keywords.{Keywords}
use Rattle.check_specifiers.specs.declared.keywords.Length.{Length}
use Rattle.check_specifiers.specs.declared.keywords.Length.TheVariants as extent

-- ---- counts

abbrev pub more : Times → Times
more Never = Once
more Once = Twice
more Twice = TooOften
more TooOften = TooOften

abbrev pub often : ℕ → Times
often zero = Never
often (suc n) = more (often n)

abbrev pub keywords_in : List TypeWord → Keywords
keywords_in words = record {
  voids = often (m.times word.Void words);
  bools = often (m.times word.Bool words);
  chars = often (m.times word.Char words);
  shorts = often (m.times word.Short words);
  ints = often (m.times word.Int words);
  longs = often (m.times word.Long words);
  signeds = often (m.times word.Signed words);
  unsigneds = often (m.times word.Unsigned words);
}

abbrev pub with_keyword : TypeWord → Keywords → Keywords
with_keyword word.Void k = record k { voids = more k.voids }
with_keyword word.Char k = record k { chars = more k.chars }
with_keyword word.Short k = record k { shorts = more k.shorts }
with_keyword word.Int k = record k { ints = more k.ints }
with_keyword word.Long k = record k { longs = more k.longs }
with_keyword word.Signed k = record k { signeds = more k.signeds }
with_keyword word.Unsigned k = record k { unsigneds = more k.unsigneds }
with_keyword word.Bool k = record k { bools = more k.bools }

abbrev pub with_word : Word → Keywords → Keywords
with_word (a_storage_word word place) k = k
with_word (a_function_word word place) k = k
with_word (a_type_word word place) k = with_keyword word k
with_word (a_tagged_type place) k = k
with_word (a_named_type place) k = k
with_word (a_qualifier qualifier) k = k

-- ---- the type of the same counts among those that keywords name

abbrev pub same_times : Times → Times → Bool
same_times Never Never = true
same_times Once Once = true
same_times Twice Twice = true
same_times TooOften TooOften = true
same_times _ _ = false

abbrev pub same_keywords : Keywords → Keywords → Bool
same_keywords j k =
    same_times j.voids k.voids && (same_times j.bools k.bools && (same_times j.signeds k.signeds && (same_times j.unsigneds k.unsigneds
    && (same_times j.chars k.chars && (same_times j.shorts k.shorts && (same_times j.longs k.longs && same_times j.ints k.ints))))))

abbrev pub find_by : Keywords → List m.Named → Option Form
find_by k [] = None
find_by k (n ∷ ns) = if same_keywords k (keywords_in n.words) then Some n.form else find_by k ns

-- ---- the same, keyword by keyword

abbrev pub with_int : Times → (without with_it : Length) → Option Length
with_int Never a b = Some a
with_int Once a b = Some b
with_int Twice a b = None
with_int TooOften a b = None

abbrev pub without_int : Times → Option Length
without_int Never = Some extent.Char
without_int Once = None
without_int Twice = None
without_int TooOften = None

abbrev pub length_of : (chars shorts longs ints : Times) → Option Length
length_of Never Never Never ints = with_int ints extent.Unwritten extent.Int
length_of Never Never Once ints = with_int ints extent.Long extent.Long
length_of Never Never Twice ints = with_int ints extent.LongLong extent.LongLong
length_of Never Once Never ints = with_int ints extent.Short extent.Short
length_of Once Never Never ints = without_int ints
length_of _ _ _ _ = None

abbrev pub plain_type : Length → Option Basic
plain_type extent.Char = Some basic.Char
plain_type extent.Short = Some basic.Short
plain_type extent.Int = Some basic.Int
plain_type extent.Unwritten = None
plain_type extent.Long = Some basic.Long
plain_type extent.LongLong = Some basic.LongLong

abbrev pub signed_type : Length → Basic
signed_type extent.Char = basic.SignedChar
signed_type extent.Short = basic.Short
signed_type extent.Int = basic.Int
signed_type extent.Unwritten = basic.Int
signed_type extent.Long = basic.Long
signed_type extent.LongLong = basic.LongLong

abbrev pub unsigned_type : Length → Basic
unsigned_type extent.Char = basic.UnsignedChar
unsigned_type extent.Short = basic.UnsignedShort
unsigned_type extent.Int = basic.Unsigned
unsigned_type extent.Unwritten = basic.Unsigned
unsigned_type extent.Long = basic.UnsignedLong
unsigned_type extent.LongLong = basic.UnsignedLongLong

abbrev pub plain_if_any : Option Length → Option Basic
plain_if_any None = None
plain_if_any (Some length) = plain_type length

abbrev pub integer_type : (signeds unsigneds : Times) → Option Length → Option Basic
integer_type Never Never length = plain_if_any length
integer_type Once Never length = option_map signed_type length
integer_type Never Once length = option_map unsigned_type length
integer_type _ _ _ = None

abbrev pub alone : (signeds unsigneds chars shorts longs ints : Times) → Form → Option Form
alone Never Never Never Never Never Never form = Some form
alone _ _ _ _ _ _ _ = None

abbrev pub named : (voids bools signeds unsigneds chars shorts longs ints : Times) → Option Form
named Never Never s u c h l i = option_map Integer (integer_type s u (length_of c h l i))
named Once Never s u c h l i = alone s u c h l i Void
named Never Once s u c h l i = alone s u c h l i (Integer basic.Bool)
named _ _ _ _ _ _ _ _ = None

abbrev pub named_by : Keywords → Option Form
named_by k = named k.voids k.bools k.signeds k.unsigneds k.chars k.shorts k.longs k.ints
