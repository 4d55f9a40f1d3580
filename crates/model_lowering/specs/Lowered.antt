-- The C89 program of a unit without deferred statements and function literals, under the names of its text.
use Rattle.model_core.specs.Core as source
use Rattle.model_core.specs.Program89 as text
use Rattle.model_lowering.specs.TextNames.{naming_of}
use Rattle.model_lowering.specs.LoweredUnit.{lowered_with}

abbrev pub lowered : source.Core → text.Program
lowered core = lowered_with (naming_of core) core
