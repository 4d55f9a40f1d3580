use Rattle.std.specs.Option.{unwrap_or}
use Rattle.model_types.specs.Layout.{align_of}
use Rattle.model_core.specs.CoreTypes.{size_in}
use Rattle.model_checking.specs.MadeCore.{meaning_type}
use Rattle.first_broken_laws.proofs.CallLaws.{measure_first}
use Rattle.first_broken_laws.proofs.calls.measure_is_first.Goals as goal

pub returns : goal.returns
returns c = record {
  operand = λ structs mark first m. measure_first structs mark first (meaning_type m) (size_in structs (meaning_type m));
  size = λ structs mark first type. measure_first structs mark first type (size_in structs type);
  alignment = λ structs mark first type. measure_first structs mark first type (unwrap_or (align_of structs type) 1);
}
