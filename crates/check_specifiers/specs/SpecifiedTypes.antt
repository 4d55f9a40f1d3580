-- What specifiers give, as the code keeps it.
use Rattle.std.specs.Prelude.{List, Some, Result, Ok, Err}
use Rattle.cake_base.specs.declared.rules.Fault.{Fault}
use Rattle.model_types.specs.Types.{CType}
use Rattle.model_grammar.specs.declared.syntax.Qualifier.{Qualifier}
use Rattle.model_checking.specs.State.{unless}
use Rattle.model_checking.specs.Qualified.{qualified, qualifier_fault}
use Rattle.model_checking.specs.Parts as m
use Rattle.check_base.specs.declared.errors.CheckError.{CheckError}
use Rattle.check_specifiers.specs.Storages.{storage_in}
use Rattle.check_specifiers.specs.declared.specified.Specified.{Specified}

abbrev pub specified_of : Specified → m.Specified
specified_of x = record { type = x.ty; storage = storage_in x.storage }

abbrev pub as_specified : Result Specified CheckError → Result m.Specified CheckError
as_specified (Ok x) = Ok (specified_of x)
as_specified (Err e) = Err e

-- a type with qualifiers, or why it can't have them
abbrev pub qualified_as : List Qualifier → CType → m.Storage → Result m.Specified Fault
qualified_as qualifiers type storage =
    unless (qualifier_fault qualifiers type) (Ok (record { type = Some (qualified qualifiers type); storage = storage }))
