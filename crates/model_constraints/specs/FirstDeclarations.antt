-- The first constraint that a declaration breaks (ISO/IEC 9899:2024, 6.7): its specifiers come before its declarators, and
-- each declarator before its initializer; the bodies of the function literals in each come behind it, and those of a value
-- in braces before the next value. What is done at the end of a full expression is given, and what is first in the bodies.
use Rattle.std.specs.Prelude.{Bool, true, false, not, Option, None, is_some}
use Rattle.model_grammar.specs.SyntaxForms as syntax
use Rattle.model_core.specs.CoreTypes.{type_of}
use Rattle.model_core.specs.Core as unit
use Rattle.model_checking.specs.DeclarationContexts.{Context}
use Rattle.model_checking.specs.DeclarationSpecifiers.{declaration_specifiers}
use Rattle.model_checking.specs.DeclaratorTypes.{declarator}
use Rattle.model_checking.specs.DeclaredNames.{Setting}
use Rattle.model_checking.specs.Declaring.{Bound, bind, ending_of}
use Rattle.model_checking.specs.Elaborated.{expr, types_in, derivations, initializer, assertion, steps_in, step_in}
use Rattle.model_checking.specs.FullExpressions.{ended}
use Rattle.model_checking.specs.Inference.{bind_inferred}
use Rattle.model_checking.specs.Parts.{Specified}
use Rattle.model_checking.specs.ReadInitializers.{stops}
use Rattle.model_checking.specs.Reading.{Ends, as_operand, as_constant, named_first}
use Rattle.model_checking.specs.Settling.{with_initializer, step_fault, steps_fault}
use Rattle.model_checking.specs.State.{Use, State, with_both, Answer, gives, then_do}
use Rattle.model_checking.specs.Tags.{is_lone}
use Rattle.model_constraints.specs.BrokenDeclarations.{broken_declaration_specifiers, broken_bound, broken_initialized, broken_inference, uses_itself}
use Rattle.model_constraints.specs.BrokenParts.{broken_assertion}
use Rattle.model_constraints.specs.Firsts.{Firsts, NoFault, After, OfBoth, Where, WithoutFault, Then, Either, Whole}

-- what is first in the bodies of the function literals that wait in a state
abbrev pub Waiting : Type 1
Waiting = State → Firsts

abbrev pub waiting_behind : {A : Type 0} → Waiting → Answer A → Firsts
waiting_behind b part = After part (λ x s. b s)

-- ---- the bodies that wait in an initializer, value by value

abbrev in_value : Waiting → Use → State → syntax.Expr → Firsts
in_value b u s (syntax.Text bytes place) = NoFault
in_value b u s e = waiting_behind b (as_operand e (expr u s e))

abbrev in_index : Waiting → Use → State → syntax.Designator → Firsts
in_index b u s (syntax.ElementDesignator at place) = waiting_behind b (as_constant at (expr u s at))
in_index b u s (syntax.MemberDesignator name place) = NoFault

abbrev in_indices : Ends → Waiting → Use → State → syntax.Designators → Firsts
in_indices r b u s syntax.no_designators = NoFault
in_indices r b u s (syntax.more_designators first others) =
    Either (in_index b u s first) (OfBoth (step_in r u s first) (λ step s. WithoutFault (step_fault step) (in_indices r b u s others)))

abbrev mutual
  in_initializer : Ends → Waiting → Use → State → syntax.Initializer → Firsts
  in_initializer r b u s (syntax.Single e) = in_value b u s e
  in_initializer r b u s (syntax.Braced values) = in_braces r b u s values

  in_braces : Ends → Waiting → Use → State → syntax.Braces → Firsts
  in_braces r b u s (syntax.braces items place) = in_items r b u s items

  in_items : Ends → Waiting → Use → State → syntax.InitializerItems → Firsts
  in_items r b u s syntax.no_items = NoFault
  in_items r b u s (syntax.more_items (syntax.item designators value) others) =
      Either (in_indices r b u s designators)
      (OfBoth (steps_in r u s designators) (λ steps s.
      WithoutFault (steps_fault steps)
      (Either (in_initializer r b u s value)
      (OfBoth (initializer r u s value) (λ given s. Where (not (stops given)) (in_items r b u s others))))))

-- ---- a declarator, and then its initializer

abbrev setting : Context → Specified → syntax.MaybeInitializer → Setting
setting c given i = record { context = c; storage = given.storage; ending = ending_of i }

abbrev bound : Context → Use → Specified → State → syntax.Declarator → syntax.MaybeInitializer → Answer Bound
bound c u given s d i = bind u c (uses_itself d i) given (named_first d) d i s (declarator given (named_first d) d s (derivations u s d))

abbrev first_initialized : Ends → Waiting → Use → Bound → State → syntax.MaybeInitializer → Firsts
first_initialized r b u x s syntax.no_initializer = NoFault
first_initialized r b u x s (syntax.an_initializer i) = Whole (broken_initialized r u x s i) (in_initializer r b u s i)

abbrev first_declared : Ends → Waiting → Context → Use → Specified → State → syntax.InitDeclarator → Firsts
first_declared r b c u given s (syntax.init_declarator d i) =
    Then (Whole (broken_bound u (setting c given i) (uses_itself d i) given d s) (waiting_behind b (bound c u given s d i)))
    (ended r (bound c u given s d i)) (λ x s. first_initialized r b u x s i)

-- the state behind a declarator and its initializer, where neither breaks anything
abbrev started : Ends → Use → Bound → State → syntax.MaybeInitializer → Answer (Option unit.Stat)
started r u x s syntax.no_initializer = gives None s
started r u x s (syntax.an_initializer i) = with_both (initializer r u s i) (λ given s. with_initializer x given s)

abbrev declared : Ends → Context → Use → Specified → State → syntax.InitDeclarator → Answer (Option unit.Stat)
declared r c u given s (syntax.init_declarator d i) = then_do (ended r (bound c u given s d i)) (λ x s. started r u x s i)

abbrev first_of_declarators : Ends → Waiting → Context → Use → Specified → State → syntax.InitDeclarators → Firsts
first_of_declarators r b c u given s syntax.no_init_declarators = NoFault
first_of_declarators r b c u given s (syntax.more_init_declarators first others) =
    Then (first_declared r b c u given s first) (declared r c u given s first) (λ stat s. first_of_declarators r b c u given s others)

-- ---- a type that is inferred: the bodies in its value see the name

abbrev in_inferred : Waiting → Context → Use → syntax.Specs → Specified → State → syntax.InitDeclarators → Firsts
in_inferred b c u specs given s (syntax.more_init_declarators (syntax.init_declarator d (syntax.an_initializer (syntax.Single e))) others) =
    After (as_operand e (expr u s e)) (λ o s.
    waiting_behind b (bind_inferred u c specs given (named_first d) d (type_of o.value) s))
in_inferred b c u specs given s _ = NoFault

abbrev first_behind_specifiers : Ends → Waiting → Context → Use → syntax.Specs → Specified → State → (has_type : Bool) → syntax.InitDeclarators → Firsts
first_behind_specifiers r b c u specs given s true ds = first_of_declarators r b c u given s ds
first_behind_specifiers r b c u specs given s false ds = Whole (broken_inference c u specs given s ds) (in_inferred b c u specs given s ds)

-- ---- a declaration

abbrev specified : Context → Use → State → syntax.Specs → syntax.InitDeclarators → Answer Specified
specified c u s specs ds = declaration_specifiers c specs ds (types_in u (is_lone specs ds) s specs)

abbrev pub first_declaration : Ends → Waiting → Context → Use → State → syntax.Declaration → Firsts
first_declaration r b c u s (syntax.SimpleDeclaration specs ds) =
    Then (Whole (broken_declaration_specifiers c u s specs ds) (waiting_behind b (specified c u s specs ds)))
    (ended r (specified c u s specs ds)) (λ given s. first_behind_specifiers r b c u specs given s (is_some given.type) ds)
first_declaration r b c u s (syntax.AssertDeclaration a) = Whole (broken_assertion u s a) (waiting_behind b (assertion u s a))
first_declaration r b c u s syntax.AttributeDeclaration = NoFault

abbrev pub first_declaration_if_any : Ends → Waiting → Context → Use → State → syntax.MaybeDeclaration → Firsts
first_declaration_if_any r b c u s syntax.no_declaration = NoFault
first_declaration_if_any r b c u s (syntax.a_declaration d) = first_declaration r b c u s d
