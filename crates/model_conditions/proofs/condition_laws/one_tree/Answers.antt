-- The reader of trees reads each tree from its tokens.
use Rattle.model_conditions.specs.ConditionReading.{Derives-unique}
use Rattle.model_conditions.proofs.condition_laws.one_tree.Goals as goal

pub returns : goal.returns
returns c = Derives-unique
