-- The words of a list of specifiers, as far as they show what it declares without its parts being known
-- (ISO/IEC 9899:2024, 6.7.1).
use Rattle.std.specs.Prelude.{Bool, true, false, List, [], ◌∷◌, ◌++◌, Option, Some, None, if◌then◌else◌}
use Rattle.std.specs.List.{list_any}
use Rattle.cake_base.specs.declared.places.Place.{Place}
use Rattle.model_grammar.specs.declared.syntax.StorageWord.{StorageWord}
use Rattle.model_grammar.specs.declared.syntax.StorageWord.TheVariants as storage
use Rattle.model_grammar.specs.declared.syntax.FunctionWord.{FunctionWord}
use Rattle.model_grammar.specs.declared.syntax.FunctionWord.TheVariants as function
use Rattle.model_grammar.specs.declared.syntax.TypeWord.{TypeWord}
use Rattle.model_grammar.specs.declared.syntax.Qualifier.{Qualifier}
use Rattle.model_grammar.specs.SyntaxForms as syntax
use Rattle.model_checking.specs.Parts.{Storage}

-- a word of storage, of a function or of a type; the word of a structure or an enumeration; a typedef name or `typeof`,
-- whose type the words don't show; or a qualifier
pub data Word : Type 0 where
  a_storage_word : (word : StorageWord) (place : Place) → Word
  a_function_word : (word : FunctionWord) (place : Place) → Word
  a_type_word : (word : TypeWord) (place : Place) → Word
  a_tagged_type : (place : Place) → Word
  a_named_type : (place : Place) → Word
  a_qualifier : (qualifier : Qualifier) → Word

abbrev pub word_of : syntax.Spec → Word
word_of (syntax.StorageSpec word place) = a_storage_word word place
word_of (syntax.FunctionSpec word place) = a_function_word word place
word_of (syntax.TypeSpec word place) = a_type_word word place
word_of (syntax.QualifierSpec qualifier) = a_qualifier qualifier
word_of (syntax.StructTag tag place) = a_tagged_type place
word_of (syntax.Struct tag _ place) = a_tagged_type place
word_of (syntax.EnumTag tag fixed place) = a_tagged_type place
word_of (syntax.Enum tag fixed _ place) = a_tagged_type place
word_of (syntax.TypedefName name) = a_named_type name.place
word_of (syntax.TypeofExpr word operand place) = a_named_type place
word_of (syntax.TypeofType word name place) = a_named_type place

abbrev pub words_of : syntax.Specs → List Word
words_of syntax.no_specs = []
words_of (syntax.more_specs first others) = word_of first ∷ words_of others

abbrev pub place_of_word : Word → Place
place_of_word (a_storage_word word place) = place
place_of_word (a_function_word word place) = place
place_of_word (a_type_word word place) = place
place_of_word (a_tagged_type place) = place
place_of_word (a_named_type place) = place
place_of_word (a_qualifier qualifier) = qualifier.place

-- ---- words of storage

abbrev pub is_typedef_word : Word → Bool
is_typedef_word (a_storage_word storage.Typedef place) = true
is_typedef_word _ = false

abbrev pub is_extern_word : Word → Bool
is_extern_word (a_storage_word storage.Extern place) = true
is_extern_word _ = false

abbrev pub is_static_word : Word → Bool
is_static_word (a_storage_word storage.Static place) = true
is_static_word _ = false

abbrev pub is_auto_word : Word → Bool
is_auto_word (a_storage_word storage.Auto place) = true
is_auto_word _ = false

abbrev pub is_register_word : Word → Bool
is_register_word (a_storage_word storage.Register place) = true
is_register_word _ = false

abbrev pub is_constexpr_word : Word → Bool
is_constexpr_word (a_storage_word storage.Constexpr place) = true
is_constexpr_word _ = false

abbrev pub is_inline_word : Word → Bool
is_inline_word (a_function_word function.Inline place) = true
is_inline_word _ = false

abbrev pub storage_of : List Word → Storage
storage_of words = record {
  has_typedef = list_any is_typedef_word words;
  has_extern = list_any is_extern_word words;
  has_static = list_any is_static_word words;
  has_auto = list_any is_auto_word words;
  has_register = list_any is_register_word words;
  has_constexpr = list_any is_constexpr_word words;
  has_inline = list_any is_inline_word words;
}

-- ---- type specifiers and qualifiers

abbrev pub is_type_specifier : Word → Bool
is_type_specifier (a_type_word word place) = true
is_type_specifier (a_tagged_type place) = true
is_type_specifier (a_named_type place) = true
is_type_specifier (a_storage_word word place) = false
is_type_specifier (a_function_word word place) = false
is_type_specifier (a_qualifier qualifier) = false

abbrev pub has_type_specifier : List Word → Bool
has_type_specifier words = list_any is_type_specifier words

abbrev pub is_named_type : Word → Bool
is_named_type (a_named_type place) = true
is_named_type _ = false

-- a type specifier that is no keyword, or one of a type that is named otherwise
abbrev pub is_whole_type : Word → Bool
is_whole_type (a_tagged_type place) = true
is_whole_type (a_named_type place) = true
is_whole_type _ = false

abbrev pub type_word_in : Word → List TypeWord
type_word_in (a_type_word word place) = word ∷ []
type_word_in _ = []

-- the keywords among the type specifiers
abbrev pub type_words : List Word → List TypeWord
type_words [] = []
type_words (w ∷ ws) = type_word_in w ++ type_words ws

abbrev pub qualifier_in : Word → List Qualifier
qualifier_in (a_qualifier qualifier) = qualifier ∷ []
qualifier_in _ = []

abbrev pub qualifiers_of : List Word → List Qualifier
qualifiers_of [] = []
qualifiers_of (w ∷ ws) = qualifier_in w ++ qualifiers_of ws

-- the place of the first word that is such a one
abbrev pub place_of_first : (Word → Bool) → List Word → Option Place
place_of_first is_one [] = None
place_of_first is_one (w ∷ ws) = if is_one w then Some (place_of_word w) else place_of_first is_one ws
