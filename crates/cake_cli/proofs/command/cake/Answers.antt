use Rattle.cake_cli.proofs.Promises.{err, meets, all_reads}
use Rattle.cake_cli.proofs.command.cake.Goals as goal

pub returns-clause-err : goal.returns-clause-err
returns-clause-err g c = err _ _ _ c.run.ensures.outcome

pub returns-clause-due : goal.returns-clause-due
returns-clause-due g c = meets _ _ _ c.run.ensures.outcome

pub returns-clause-each_read : goal.returns-clause-each_read
returns-clause-each_read g c = all_reads _ _ _ c.run.ensures.outcome
