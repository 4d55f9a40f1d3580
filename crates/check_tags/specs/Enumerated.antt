-- What is known of an enumeration before its enumerators.
use Rattle.std.specs.Prelude.{true, Result, Ok, Err, if◌then◌else◌}
use Rattle.model_types.specs.Types.{CType, form_of_type}
use Rattle.model_scopes.specs.DeclarationRules.{is_struct_form}
use Rattle.model_grammar.specs.declared.syntax.Name.{Name}
use Rattle.model_checking.specs.State.{State, Answer, breaks}
use Rattle.model_checking.specs.Tags.{tag_declaration, declared_tag}
use Rattle.model_checking.specs.Enumerations as m
use Rattle.check_base.specs.declared.errors.CheckError.{CheckError}
use Rattle.check_specifiers.specs.EnumerationTypes.{enumeration_of}
use Rattle.check_specifiers.specs.declared.enumerations.Enumeration.{Enumeration}

abbrev pub as_enumeration : Result Enumeration CheckError → Result m.Enumeration CheckError
as_enumeration (Ok e) = Ok (enumeration_of e)
as_enumeration (Err e) = Err e

-- a tag that was declared with this type has its braces now
abbrev pub begun_as_typed : CType → Name → State → Answer m.Enumeration
begun_as_typed type name s =
    if is_struct_form (form_of_type type) then breaks name.place 6 else m.begun_as true (declared_tag (tag_declaration name type true) s)
