-- Where a list of specifiers stands, as the code names it.
use Rattle.model_checking.specs.DeclarationContexts as m
use Rattle.check_specifiers.specs.declared.contexts.Context.{Context}
use Rattle.check_specifiers.specs.declared.contexts.Context.TheVariants as context

abbrev pub context_of : Context → m.Context
context_of context.AtFile = m.at_file
context_of context.InBlock = m.in_block
context_of context.InFor = m.in_for
context_of context.InIf = m.in_if
context_of context.OfDefinition = m.of_definition
context_of context.OfParameter = m.of_parameter
context_of context.OfMember = m.of_member
context_of context.OfTypeName = m.of_type_name
