-- The name that a declarator declares (ISO/IEC 9899:2024, 6.7.7.1), and a rule that is broken at it.
use Rattle.std.specs.Prelude.{ℕ, Option, Some, None, option_map}
use Rattle.cake_base.specs.declared.rules.Fault.{Fault}
use Rattle.model_scopes.specs.DeclarationRules.{constraint_at}
use Rattle.model_grammar.specs.declared.syntax.Name.{Name}
use Rattle.model_grammar.specs.SyntaxForms as syntax

-- none of an abstract declarator
abbrev pub declarator_name : syntax.Declarator → Option Name
declarator_name (syntax.Named pointers name _) = Some name
declarator_name (syntax.Unnamed pointers _) = None
declarator_name (syntax.Grouped pointers inner _ place) = declarator_name inner

-- the rule, if any, that a name breaks, at its place
abbrev pub rule_at : (Name → Option ℕ) → Option Name → Option Fault
rule_at broken None = None
rule_at broken (Some name) = option_map (λ rule. constraint_at name.place rule) (broken name)
