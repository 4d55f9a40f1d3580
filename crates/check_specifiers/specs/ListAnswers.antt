-- What code answers for a list of specifiers, given what those among them that are no keywords gave.
use Rattle.std.specs.Prelude.{◌≡◌, List, Option, Result}
use Rattle.cake_base.specs.declared.rules.Fault.{Fault}
use Rattle.model_types.specs.Types.{CType}
use Rattle.c_tree.specs.SyntaxViews.{specs_items, init_declarators_of}
use Rattle.c_tree.specs.declared.syntax_specifiers.Spec.{Spec}
use Rattle.c_tree.specs.declared.syntax_declarations.InitDeclarator.{InitDeclarator}
use Rattle.model_checking.specs.State.{State, Answer, then_do, with_state}
use Rattle.model_checking.specs.Words.{words_of}
use Rattle.model_checking.specs.SpecifierTypes.{specified, specifiers}
use Rattle.model_checking.specs.DeclarationSpecifiers.{type_given, block_function_fault, declaration_specifiers}
use Rattle.check_base.specs.declared.errors.CheckError.{CheckError}
use Rattle.check_base.specs.Broken.{Broken}
use Rattle.check_base.specs.Answers.{Answers}
use Rattle.check_specifiers.specs.declared.contexts.Context.{Context}
use Rattle.check_specifiers.specs.declared.specified.Specified.{Specified}
use Rattle.check_specifiers.specs.Contexts.{context_of}
use Rattle.check_specifiers.specs.SpecifiedTypes.{as_specified}

-- with the type that was given, where one was
abbrev pub AnswersGiven : List Spec → Result (Option CType) CheckError → Result Specified CheckError → Type 0
AnswersGiven specs parts result =
    (due : Answer (Option CType)) (s : State) → Answers parts due s
    → Answers (as_specified result) (then_do due (λ given s. with_state (specified given (words_of (specs_items specs))) s)) s

-- of a whole declaration, for such a part in such a state
abbrev pub AnswersPart : Context → List Spec → List InitDeclarator → (due : Answer (Option CType)) → State → Result Specified CheckError → Type 0
AnswersPart context specs declarators due s result =
    Answers (as_specified result) (declaration_specifiers (context_of context) (specs_items specs) (init_declarators_of declarators) due) s

-- given also the fault that its declarators show
abbrev pub AnswersShown : Context → List Spec → List InitDeclarator → Result (Option CType) CheckError → (shown : Option Fault) → Result Specified CheckError → Type 0
AnswersShown context specs declarators parts shown result =
    (due : Answer (Option CType)) (s : State) → Answers parts due s
    → shown ≡ block_function_fault (context_of context) (words_of (specs_items specs)) (type_given due) (init_declarators_of declarators)
    → AnswersPart context specs declarators due s result

abbrev pub AnswersDeclaration : Context → List Spec → List InitDeclarator → Result (Option CType) CheckError → Result Specified CheckError → Type 0
AnswersDeclaration context specs declarators parts result =
    (due : Answer (Option CType)) (s : State) → Answers parts due s → AnswersPart context specs declarators due s result

-- the same where the parts are refused
abbrev pub AnswersRefused : Context → List Spec → List InitDeclarator → CheckError → Result Specified CheckError → Type 0
AnswersRefused context specs declarators e result =
    (due : Answer (Option CType)) (s : State) → Broken e due → AnswersPart context specs declarators due s result
