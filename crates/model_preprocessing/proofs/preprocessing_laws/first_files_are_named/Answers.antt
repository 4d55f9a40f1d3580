-- The names of the first files stay in front.
use Rattle.model_preprocessing.proofs.NamesKept.{answered-named, failed-named}
use Rattle.model_preprocessing.proofs.preprocessing_laws.first_files_are_named.Goals as goal

pub returns-clause-answered : goal.returns-clause-answered
returns-clause-answered c = answered-named

pub returns-clause-failed : goal.returns-clause-failed
returns-clause-failed c = failed-named
