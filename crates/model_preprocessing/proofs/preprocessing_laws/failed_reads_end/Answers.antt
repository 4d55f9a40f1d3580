-- What a failed read leaves stands at each read of the process.
use Rattle.model_preprocessing.proofs.NamesKept.{reads-end, first-ends, before-reads, past-reads}
use Rattle.model_preprocessing.proofs.preprocessing_laws.failed_reads_end.Goals as goal

pub returns-clause-each : goal.returns-clause-each
returns-clause-each c = reads-end

pub returns-clause-first : goal.returns-clause-first
returns-clause-first c = first-ends

pub returns-clause-none : goal.returns-clause-none
returns-clause-none c = before-reads

pub returns-clause-past : goal.returns-clause-past
returns-clause-past c = past-reads
