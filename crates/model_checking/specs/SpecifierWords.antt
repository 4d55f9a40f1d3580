-- The constraints that the words of a list of specifiers break by themselves (ISO/IEC 9899:2024, 6.7.1, 6.7.2, 6.7.3.1,
-- 6.7.5): they are told before what the list's own parts break behind them.
use Rattle.std.specs.Prelude.{Bool, true, false, ◌&&◌, ◌||◌, not, List, [], ◌∷◌, ◌++◌, Option, Some, None, is_some, if◌then◌else◌}
use Rattle.std.specs.List.{list_any}
use Rattle.cake_base.specs.declared.places.Place.{Place}
use Rattle.cake_base.specs.declared.rules.Fault.{Fault}
use Rattle.model_core.specs.CoreTypes.{no_quals}
use Rattle.model_scopes.specs.Declaring.{or_place}
use Rattle.model_grammar.specs.declared.syntax.StorageWord.{StorageWord}
use Rattle.model_grammar.specs.declared.syntax.StorageWord.TheVariants.{Extern, Static, Auto, Register, Constexpr}
use Rattle.model_grammar.specs.SyntaxForms as syntax
use Rattle.model_checking.specs.FaultsBeside.{first_of_faults, fault_at}
use Rattle.model_checking.specs.DeclarationContexts.{Context, takes_word}
use Rattle.model_checking.specs.Words.{Word, a_storage_word, a_function_word, a_type_word, a_tagged_type, a_named_type, a_qualifier, words_of, place_of_word, is_static_word, is_auto_word, is_inline_word, is_type_specifier, has_type_specifier, is_named_type, is_whole_type, type_words, qualifiers_of, place_of_first}
use Rattle.model_checking.specs.TypeKeywords.{type_by_words}
use Rattle.model_checking.specs.Qualified.{with_all, wants_pointer, ownership_place, meeting_fault}

-- ---- C27: a word doesn't combine with those before it, or a type is missing

-- two words of storage that may stand in one list
abbrev pub stand_together : StorageWord → StorageWord → Bool
stand_together Auto Extern = true
stand_together Auto Static = true
stand_together Auto Register = true
stand_together Auto Constexpr = true
stand_together Extern Auto = true
stand_together Static Auto = true
stand_together Register Auto = true
stand_together Constexpr Auto = true
stand_together Constexpr Register = true
stand_together Constexpr Static = true
stand_together Register Constexpr = true
stand_together Static Constexpr = true
stand_together _ _ = false

abbrev pub stands_beside : StorageWord → Word → Bool
stands_beside word (a_storage_word other place) = stand_together word other
stands_beside word _ = true

-- none of these words stands in the way of a word of storage
abbrev pub storage_combines : StorageWord → (before : List Word) → Bool
storage_combines word before = not (list_any (λ other. not (stands_beside word other)) before)

-- whether a word combines with those before it: one that isn't a keyword of a type is the only type specifier
abbrev pub combines : (before : List Word) → Word → Bool
combines before (a_storage_word word place) = storage_combines word before
combines before (a_function_word word place) = true
combines before (a_type_word word place) = not (list_any is_whole_type before) && is_some (type_by_words (word ∷ type_words before))
combines before (a_tagged_type place) = not (has_type_specifier before)
combines before (a_named_type place) = not (has_type_specifier before)
combines before (a_qualifier qualifier) = true

abbrev pub first_uncombined : (before : List Word) → List Word → Option Place
first_uncombined before [] = None
first_uncombined before (w ∷ ws) = if combines before w then first_uncombined (before ++ w ∷ []) ws else Some (place_of_word w)

-- neither a type is named, nor is one to be inferred
abbrev pub lacks_type : List Word → Bool
lacks_type words = not (has_type_specifier words) && not (list_any is_auto_word words)

abbrev pub first_place : List Word → Option Place
first_place [] = None
first_place (w ∷ ws) = Some (place_of_word w)

abbrev pub missing_type : List Word → Option Place
missing_type words = if lacks_type words then first_place words else None

abbrev pub combination_fault : List Word → Option Fault
combination_fault words = fault_at (or_place (first_uncombined [] words) (missing_type words)) 27

-- ---- C48: a word of storage that isn't allowed where the list stands, or `inline` without `static`

abbrev pub is_refused : Context → (infers : Bool) → Word → Bool
is_refused context infers (a_storage_word word place) = not (takes_word context infers word)
is_refused context infers _ = false

abbrev pub storage_fault : Context → List Word → Option Fault
storage_fault context words = fault_at (place_of_first (is_refused context (not (has_type_specifier words))) words) 48

abbrev pub inline_fault : List Word → Option Fault
inline_fault words = if list_any is_static_word words then None else fault_at (place_of_first is_inline_word words) 48

-- ---- C29 where the words alone show it: `_Owner` and `_View` meet, or the type is no pointer

-- the type specifiers combine
abbrev pub types_combine : (before : List Word) → List Word → Bool
types_combine before [] = true
types_combine before (w ∷ ws) = (not (is_type_specifier w) || combines before w) && types_combine (before ++ w ∷ []) ws

-- the type is one of keywords, a structure or an enumeration
abbrev pub shows_no_pointer : List Word → Bool
shows_no_pointer words = has_type_specifier words && not (list_any is_named_type words) && types_combine [] words

abbrev pub pointer_fault : List Word → Option Fault
pointer_fault words =
    if shows_no_pointer words && wants_pointer (with_all (qualifiers_of words) no_quals) then fault_at (ownership_place (qualifiers_of words)) 29
    else meeting_fault (qualifiers_of words)

-- ---- the first of them

abbrev pub first_of_words : Context → List Word → Option Fault
first_of_words context words =
    first_of_faults (combination_fault words)
    (first_of_faults (pointer_fault words) (first_of_faults (storage_fault context words) (inline_fault words)))

abbrev pub words_fault : Context → syntax.Specs → Option Fault
words_fault context specs = first_of_words context (words_of specs)
