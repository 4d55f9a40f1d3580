use Rattle.c_model.proofs.Releases.{second_release_is_misuse}
use Rattle.c_model.proofs.examples.second_release_is_bad.Goals as goal

pub returns-clause-misuse : goal.returns-clause-misuse
returns-clause-misuse c = second_release_is_misuse
