-- The run of the main file's tokens is replaced.
use Rattle.model_preprocessing.proofs.PlainUnits.{unit-replaced, unit-stopped}
use Rattle.model_preprocessing.proofs.preprocessing_laws.plain_unit_is_replaced.Goals as goal

pub returns-clause-tokens : goal.returns-clause-tokens
returns-clause-tokens c = unit-replaced

pub returns-clause-stops : goal.returns-clause-stops
returns-clause-stops c = unit-stopped
