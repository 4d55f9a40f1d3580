-- The specifiers of a whole declaration (ISO/IEC 9899:2024, 6.7.2): what its declarators show of functions counts for the
-- words of storage, which stand before them.
use Rattle.std.specs.Prelude.{Bool, true, false, ◌&&◌, ◌||◌, not, List, Option, None, Ok, Err, if◌then◌else◌}
use Rattle.std.specs.List.{list_any}
use Rattle.cake_base.specs.declared.rules.Fault.{Fault}
use Rattle.model_types.specs.Types.{CType}
use Rattle.model_grammar.specs.SyntaxForms as syntax
use Rattle.model_checking.specs.State.{Answer}
use Rattle.model_checking.specs.Parts.{Specified}
use Rattle.model_checking.specs.FaultsBeside.{fault_at, with_fault}
use Rattle.model_checking.specs.DeclarationContexts.{Context, is_inner}
use Rattle.model_checking.specs.Words.{Word, a_storage_word, words_of, is_typedef_word, is_extern_word, is_auto_word, has_type_specifier, place_of_first}
use Rattle.model_checking.specs.SpecifierWords.{first_place}
use Rattle.model_checking.specs.SpecifierTypes.{specifiers}
use Rattle.model_checking.specs.DeclaredNames.{declares_function}

-- one of the declarators is that of a function
abbrev pub declare_function : (given : Option CType) → syntax.InitDeclarators → Bool
declare_function given syntax.no_init_declarators = false
declare_function given (syntax.more_init_declarators (syntax.init_declarator d _) others) =
    declares_function given d || declare_function given others

abbrev pub is_storage_word : Word → Bool
is_storage_word (a_storage_word word place) = true
is_storage_word _ = false

abbrev pub is_other_word : Word → Bool
is_other_word word = is_storage_word word && not (is_extern_word word)

-- C48: in a block a function has no word of storage but `extern`
abbrev pub block_function_fault : Context → List Word → (given : Option CType) → syntax.InitDeclarators → Option Fault
block_function_fault context words given declarators =
    if is_inner context && not (list_any is_typedef_word words) && declare_function given declarators
    then fault_at (place_of_first is_other_word words) 48 else None

abbrev pub type_given : Answer (Option CType) → Option CType
type_given (Ok both) = both.made
type_given (Err fault) = None

-- C31 at the first of the list: a type is to be inferred and nothing is declared
abbrev pub empty_inference_fault : List Word → syntax.InitDeclarators → Option Fault
empty_inference_fault words syntax.no_init_declarators =
    if list_any is_auto_word words && not (has_type_specifier words) then fault_at (first_place words) 31 else None
empty_inference_fault words (syntax.more_init_declarators first others) = None

-- the answer is what struct, enum, tag, typedef name or `typeof` gave, as for `specifiers`
abbrev pub declaration_specifiers : Context → syntax.Specs → syntax.InitDeclarators → Answer (Option CType) → Answer Specified
declaration_specifiers context specs declarators parts =
    with_fault (empty_inference_fault (words_of specs) declarators)
    (with_fault (block_function_fault context (words_of specs) (type_given parts) declarators) (specifiers context specs parts))
