use Rattle.core_tree.proofs.CoreParts.{typed_parts}
use Rattle.core_tree.proofs.core_laws.typed_core_has_typed_parts.Goals as goal

pub returns : goal.returns
returns c = record { objects = λ core h. (typed_parts core h).0; functions = λ core h. (typed_parts core h).1 }
