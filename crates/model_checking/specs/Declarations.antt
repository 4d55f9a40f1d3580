-- What a declaration means (ISO/IEC 9899:2024, 6.7): its specifiers are elaborated once; each declarator is bound to what it
-- declares, then its initializer is read, and then the object has its type and its values. What is left of it are the
-- initializations of automatic objects.
use Rattle.std.specs.Prelude.{Bool, true, false, List, [], ◌∷◌, ◌++◌, Option, Some, None, is_some}
use Rattle.cake_base.specs.declared.rules.Fault.{Fault}
use Rattle.model_grammar.specs.declared.syntax.Name.{Name}
use Rattle.model_grammar.specs.SyntaxForms as syntax
use Rattle.model_core.specs.CoreTypes.{type_of}
use Rattle.model_core.specs.Core as unit
use Rattle.model_checking.specs.State.{Use, State, with_both, Answer, gives, then_do, and_then, unless}
use Rattle.model_checking.specs.Parts.{Specified}
use Rattle.model_checking.specs.FaultsBeside.{fault_at, with_fault}
use Rattle.model_checking.specs.DeclarationContexts.{Context}
use Rattle.model_checking.specs.DeclarationSpecifiers.{declaration_specifiers}
use Rattle.model_checking.specs.Tags.{is_lone}
use Rattle.model_checking.specs.DeclaratorNames.{declarator_name}
use Rattle.model_checking.specs.DeclaratorTypes.{declarator}
use Rattle.model_checking.specs.Declaring.{Bound, bind}
use Rattle.model_checking.specs.Inference.{inference_fault, name_fault, bind_inferred}
use Rattle.model_checking.specs.Settling.{with_initializer}
use Rattle.model_checking.specs.OwnName.{names_itself, declares_again}
use Rattle.model_checking.specs.Reading.{Ends, as_operand, named_first, specs_place}
use Rattle.model_checking.specs.ReadInitializers.{ended_value}
use Rattle.model_checking.specs.Elaborated.{expr, types_in, derivations, initializer, assertion}
use Rattle.model_checking.specs.FullExpressions.{ended}

abbrev named_itself : Option Name → syntax.Initializer → Bool
named_itself None i = false
named_itself (Some name) i = names_itself name.text i

-- an initializer names the object that it is for
abbrev uses_itself : syntax.Declarator → syntax.MaybeInitializer → Bool
uses_itself d syntax.no_initializer = false
uses_itself d (syntax.an_initializer i) = named_itself (declarator_name d) i

abbrev stats_if_any : Option unit.Stat → State → Answer (List unit.Stat)
stats_if_any None s = gives [] s
stats_if_any (Some stat) s = gives (stat ∷ []) s

abbrev as_list : Answer (Option unit.Stat) → Answer (List unit.Stat)
as_list answer = then_do answer stats_if_any

-- ---- declarators whose type is given

abbrev initialized : Ends → Use → Bound → State → syntax.MaybeInitializer → Answer (List unit.Stat)
initialized r u b s syntax.no_initializer = gives [] s
initialized r u b s (syntax.an_initializer i) = with_both (initializer r u s i) (λ given s. as_list (with_initializer b given s))

abbrev declared_as : Ends → Context → Use → Specified → State → syntax.InitDeclarator → Answer (List unit.Stat)
declared_as r c u given s (syntax.init_declarator d i) =
    then_do (bind u c (uses_itself d i) given (named_first d) d i s (declarator given (named_first d) d s (derivations u s d))) (λ b s.
    and_then (r s) (λ s. initialized r u b s i))

abbrev each_declared : Ends → Context → Use → Specified → State → syntax.InitDeclarators → Answer (List unit.Stat)
each_declared r c u given s syntax.no_init_declarators = gives [] s
each_declared r c u given s (syntax.more_init_declarators first others) =
    then_do (declared_as r c u given s first) (λ stats s.
    then_do (each_declared r c u given s others) (λ behind s. gives (stats ++ behind) s))

-- ---- `auto`: the one declarator has the type of its value, which the bodies of the literals in that see

-- C02 at an enumerator of its name in the value, which is declared behind it, although its type isn't known before
abbrev again_fault : Option Name → syntax.Expr → Option Fault
again_fault None e = None
again_fault (Some name) e = fault_at (declares_again name.text (syntax.Single e)) 2

abbrev inferred : Ends → Context → Use → syntax.Specs → Specified → State → syntax.InitDeclarators → Answer (List unit.Stat)
inferred r c u specs given s (syntax.more_init_declarators (syntax.init_declarator d (syntax.an_initializer (syntax.Single e))) others) =
    then_do (with_fault (again_fault (declarator_name d) e) (as_operand e (expr u s e))) (λ o s.
    then_do (bind_inferred u c specs given (named_first d) d (type_of o.value) s) (λ b s.
    with_both (ended_value o s (r s)) (λ value s. as_list (with_initializer b value s))))
inferred r c u specs given s _ = gives [] s

abbrev uses_itself_first : syntax.InitDeclarators → Bool
uses_itself_first syntax.no_init_declarators = false
uses_itself_first (syntax.more_init_declarators (syntax.init_declarator d i) others) = uses_itself d i

-- ---- a declaration

abbrev declared_by : Ends → Context → Use → syntax.Specs → Specified → State → (has_type : Bool) → syntax.InitDeclarators → Answer (List unit.Stat)
declared_by r c u specs given s true ds = each_declared r c u given s ds
declared_by r c u specs given s false ds =
    unless (inference_fault c given (uses_itself_first ds) (specs_place specs) ds s)
    (with_fault (name_fault c given ds s) (inferred r c u specs given s ds))

abbrev pub declaration : Ends → Context → Use → State → syntax.Declaration → Answer (List unit.Stat)
declaration r c u s (syntax.SimpleDeclaration specs ds) =
    then_do (ended r (declaration_specifiers c specs ds (types_in u (is_lone specs ds) s specs))) (λ given s.
    declared_by r c u specs given s (is_some given.type) ds)
declaration r c u s (syntax.AssertDeclaration a) = then_do (ended r (assertion u s a)) (λ value s. gives [] s)
declaration r c u s syntax.AttributeDeclaration = gives [] s

abbrev pub maybe_declaration : Ends → Context → Use → State → syntax.MaybeDeclaration → Answer (List unit.Stat)
maybe_declaration r c u s syntax.no_declaration = gives [] s
maybe_declaration r c u s (syntax.a_declaration d) = declaration r c u s d
