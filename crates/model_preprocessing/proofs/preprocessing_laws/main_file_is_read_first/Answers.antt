-- The unit begins with the read of its main file.
use Rattle.model_preprocessing.proofs.NamesKept.{main-first}
use Rattle.model_preprocessing.proofs.preprocessing_laws.main_file_is_read_first.Goals as goal

pub returns : goal.returns
returns c = main-first
