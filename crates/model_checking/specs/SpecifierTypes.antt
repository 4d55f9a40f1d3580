-- The type that a list of specifiers gives (ISO/IEC 9899:2024, 6.7.1, 6.7.3, 6.7.9): that of its keywords, or the one that
-- its structure, enumeration, tag, typedef name or `typeof` gave, with the qualifiers of the list.
use Rattle.std.specs.Prelude.{Bool, true, false, List, Option, Some, None, option_map, Result, Ok}
use Rattle.cake_base.specs.declared.rules.Fault.{Fault}
use Rattle.model_types.specs.Types.{CType}
use Rattle.model_core.specs.CoreTypes.{plain, unqualified}
use Rattle.model_scopes.specs.Scopes.{Declared}
use Rattle.model_scopes.specs.Declarations.{is_typedef}
use Rattle.model_scopes.specs.Binding.{look, declared_as}
use Rattle.model_grammar.specs.declared.syntax.Name.{Name}
use Rattle.model_grammar.specs.declared.syntax.TypeofWord.{TypeofWord}
use Rattle.model_grammar.specs.declared.syntax.TypeofWord.TheVariants.{Typeof, TypeofUnqual}
use Rattle.model_grammar.specs.SyntaxForms as syntax
use Rattle.model_checking.specs.State.{State, Answer, gives, breaks, unless, then_do, with_state}
use Rattle.model_checking.specs.Parts.{Specified}
use Rattle.model_checking.specs.FaultsBeside.{with_fault}
use Rattle.model_checking.specs.DeclarationContexts.{Context}
use Rattle.model_checking.specs.Words.{Word, words_of, storage_of, type_words, qualifiers_of}
use Rattle.model_checking.specs.TypeKeywords.{type_by_words}
use Rattle.model_checking.specs.Qualified.{qualified, qualifier_fault}
use Rattle.model_checking.specs.SpecifierWords.{words_fault}

-- ---- one specifier

-- a typedef name is that of a type (6.7.9)
abbrev pub type_if_typedef : Name → Bool → CType → State → Answer CType
type_if_typedef name true type s = gives type s
type_if_typedef name false type s = breaks name.place 5

abbrev pub type_of_declared : Name → Option Declared → State → Answer CType
type_of_declared name None s = breaks name.place 5
type_of_declared name (Some d) s = type_if_typedef name (is_typedef d.latest.kind) d.latest.ty s

abbrev pub typedef_type : Name → State → Answer CType
typedef_type name s = type_of_declared name (declared_as (look false name.text s.scopes) s.scopes) s

-- `typeof_unqual` drops the outermost qualifiers (6.7.3.6)
abbrev pub typeof_type : TypeofWord → CType → CType
typeof_type Typeof type = type
typeof_type TypeofUnqual type = unqualified type

-- ---- the list

-- the type that some specifier gave, else that of the keywords; none where it is to be inferred
abbrev pub type_or_words : (given : Option CType) → List Word → Option CType
type_or_words (Some type) words = Some type
type_or_words None words = option_map plain (type_by_words (type_words words))

abbrev pub specified_by : List Word → Option CType → Result Specified Fault
specified_by words None = Ok (record { type = None; storage = storage_of words })
specified_by words (Some type) =
    unless (qualifier_fault (qualifiers_of words) type)
    (Ok (record { type = Some (qualified (qualifiers_of words) type); storage = storage_of words }))

abbrev pub specified : (given : Option CType) → List Word → Result Specified Fault
specified given words = specified_by words (type_or_words given words)

-- the whole of a list: its words, beside what its specifiers gave one after another, or their first fault
abbrev pub specifiers : Context → syntax.Specs → Answer (Option CType) → Answer Specified
specifiers context specs parts =
    with_fault (words_fault context specs) (then_do parts (λ given s. with_state (specified given (words_of specs)) s))
