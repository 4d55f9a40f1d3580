-- What lists of specifiers break (ISO/IEC 9899:2024, 6.7.1 to 6.7.5, 6.7.9): at their words, and by the type that they give.
use Rattle.std.specs.Prelude.{Bool, true, false, ◌&&◌, ◌||◌, not, List, [], ◌∷◌, ◌++◌, Option, Some, None}
use Rattle.std.specs.List.{list_any}
use Rattle.model_types.specs.Types.{CType}
use Rattle.model_scopes.specs.Declarations.{is_typedef}
use Rattle.model_scopes.specs.Binding.{look, declared_as}
use Rattle.model_scopes.specs.Scopes.{Declared}
use Rattle.model_grammar.specs.declared.syntax.Name.{Name}
use Rattle.model_grammar.specs.declared.syntax.Qualifier.{Qualifier}
use Rattle.model_grammar.specs.SyntaxForms as syntax
use Rattle.model_core.specs.CoreTypes.{no_quals}
use Rattle.model_checking.specs.DeclarationContexts.{Context, is_inner, takes_word}
use Rattle.model_checking.specs.DeclaredNames.{declares_function}
use Rattle.model_checking.specs.Qualified.{ownership_place, is_misplaced, do_meet, wants_pointer, with_all}
use Rattle.model_checking.specs.SpecifierTypes.{type_or_words}
use Rattle.model_checking.specs.SpecifierWords.{combines, first_place, lacks_type, shows_no_pointer}
use Rattle.model_checking.specs.State.{State, Answer}
use Rattle.model_checking.specs.Words.{Word, a_storage_word, words_of, place_of_word, has_type_specifier, is_auto_word, is_extern_word, is_inline_word, is_static_word, is_typedef_word, qualifiers_of}
use Rattle.model_constraints.specs.Pairs.{Pairs, Nothing, At, At_if_any, Beside, Needs, IfAny}

-- what each word of a list breaks, with those before it
abbrev pub each_word : (List Word → Word → Pairs) → (before : List Word) → List Word → Pairs
each_word breaks before [] = Nothing
each_word breaks before (w ∷ ws) = Beside (breaks before w) (each_word breaks (before ++ w ∷ []) ws)

-- ---- C27: a word doesn't combine with those before it; at the first of the list, where only a type is missing

abbrev broken_combination : List Word → Word → Pairs
broken_combination before word = At (place_of_word word) 27 (not (combines before word))

abbrev all_combine : (before : List Word) → List Word → Bool
all_combine before [] = true
all_combine before (w ∷ ws) = combines before w && all_combine (before ++ w ∷ []) ws

abbrev broken_combinations : List Word → Pairs
broken_combinations words =
    Beside (each_word broken_combination [] words) (At_if_any (first_place words) 27 (all_combine [] words && lacks_type words))

-- ---- C48: a word of storage that isn't allowed where the list stands; `inline` without `static`

abbrev is_refused : Context → (infers : Bool) → Word → Bool
is_refused context infers (a_storage_word word place) = not (takes_word context infers word)
is_refused context infers word = false

abbrev broken_storage : Context → (words : List Word) → Word → Pairs
broken_storage context words word =
    At (place_of_word word) 48
    (is_refused context (not (has_type_specifier words)) word || is_inline_word word && not (list_any is_static_word words))

-- ---- C29 by the words alone: `_Owner` or `_Opt` where the type is no pointer, or `_Owner` and `_View` together

abbrev is_misplaced_by_words : List Word → List Qualifier → Bool
is_misplaced_by_words words list = shows_no_pointer words && wants_pointer (with_all list no_quals) || do_meet (with_all list no_quals)

abbrev broken_ownership : List Word → Pairs
broken_ownership words = At_if_any (ownership_place (qualifiers_of words)) 29 (is_misplaced_by_words words (qualifiers_of words))

-- the words of a list, whatever its parts are
abbrev pub broken_words : Context → syntax.Specs → Pairs
broken_words context specs =
    Beside (broken_combinations (words_of specs))
    (Beside (each_word (λ before word. broken_storage context (words_of specs) word) [] (words_of specs)) (broken_ownership (words_of specs)))

-- ---- the type of a list

-- C29: the qualifiers of a list can't qualify its type
abbrev pub broken_qualifiers : List Qualifier → CType → Pairs
broken_qualifiers list type = At_if_any (ownership_place list) 29 (is_misplaced list type)

-- with the type that a structure, enumeration, tag, typedef name or `typeof` in the list gave
abbrev pub broken_specified : (given : Option CType) → syntax.Specs → Pairs
broken_specified given specs = IfAny (type_or_words given (words_of specs)) (broken_qualifiers (qualifiers_of (words_of specs)))

-- a whole list: its words, and beside them what its parts break, one behind another, and the type that they give
abbrev pub broken_specifiers : Context → syntax.Specs → Answer (Option CType) → (own : Pairs) → Pairs
broken_specifiers context specs parts own = Beside (broken_words context specs) (Needs parts own (λ given s. broken_specified given specs))

-- ---- C05: a typedef name is that of a type

abbrev is_type_name : Option Declared → Bool
is_type_name None = false
is_type_name (Some d) = is_typedef d.latest.kind

abbrev pub broken_typedef_name : Name → State → Pairs
broken_typedef_name name s = At name.place 5 (not (is_type_name (declared_as (look false name.text s.scopes) s.scopes)))

-- ---- a whole declaration

abbrev is_other_storage : Word → Bool
is_other_storage (a_storage_word word place) = not (is_extern_word (a_storage_word word place))
is_other_storage word = false

abbrev one_declares_function : (given : Option CType) → syntax.InitDeclarators → Bool
one_declares_function given syntax.no_init_declarators = false
one_declares_function given (syntax.more_init_declarators (syntax.init_declarator d _) others) =
    declares_function given d || one_declares_function given others

-- C48: a function in a block has no word of storage but `extern`
abbrev pub broken_block_function : Context → List Word → (given : Option CType) → syntax.InitDeclarators → Pairs
broken_block_function context words given ds =
    each_word
    (λ before word. At (place_of_word word) 48 (is_inner context && not (list_any is_typedef_word words) && one_declares_function given ds && is_other_storage word))
    [] words

abbrev declares_nothing : syntax.InitDeclarators → Bool
declares_nothing syntax.no_init_declarators = true
declares_nothing (syntax.more_init_declarators first others) = false

-- C31 at the first of the list: a type is to be inferred and nothing is declared
abbrev pub broken_empty_inference : List Word → syntax.InitDeclarators → Pairs
broken_empty_inference words ds =
    At_if_any (first_place words) 31 (list_any is_auto_word words && not (has_type_specifier words) && declares_nothing ds)
