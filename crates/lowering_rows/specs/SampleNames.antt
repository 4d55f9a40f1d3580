-- Names of a sample text that are found by computing alone: external names are kept, and the others are letters.
use Rattle.std.specs.Prelude.{ℕ, ◌+◌, Bool, true, false, List, [], ◌∷◌, Option, Some, None}
use Rattle.model_types.specs.declared.types.StructId.{StructId}
use Rattle.model_core.specs.Core as source
use Rattle.model_core.specs.Program89 as text
use Rattle.c_model.specs.Renamed.{Naming}
use Rattle.model_lowering.specs.LoweredUnit.{lowered_with}

abbrev letters : (front number : ℕ) → List ℕ
letters front number = front ∷ (97 + number) ∷ []

abbrev external_if : (is_external : Bool) → source.FunctionName → List ℕ → List ℕ
external_if true (source.Named name) other = name
external_if true (source.Lambda place) other = other
external_if false name other = other

abbrev function_name : Option source.Function → (id : ℕ) → List ℕ
function_name None id = letters 100 id
function_name (Some g) id = external_if g.is_external g.name (letters 100 id)

abbrev object_if : (is_external : Bool) → Option (List ℕ) → List ℕ → List ℕ
object_if true (Some name) other = name
object_if true None other = other
object_if false name other = other

abbrev declared_name : source.Core → Option source.DeclaredObject → (id : ℕ) → List ℕ
declared_name core None id = function_name (source.function_by_id core.functions id) id
declared_name core (Some o) id = object_if o.is_external o.name (letters 100 id)

abbrev pub sample : source.Core → Naming
sample core = record {
  declared = λ id. declared_name core (source.object_of core.objects id) id;
  structure = λ id. letters 115 id.0;
  member = λ id rank. 109 ∷ (97 + id.0) ∷ (97 + rank) ∷ [];
  temporary = λ number. letters 116 number;
}

abbrev pub lowered : source.Core → text.Program
lowered core = lowered_with (sample core) core
