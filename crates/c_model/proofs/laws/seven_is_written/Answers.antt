use Rattle.c_model.proofs.Rows.{seven_reads, seven_program_returns_7}
use Rattle.c_model.proofs.laws.seven_is_written.Goals as goal

pub returns : goal.returns
returns c = record { reads = seven_reads; runs = seven_program_returns_7 }
