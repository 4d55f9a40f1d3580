use Rattle.own_flow.proofs.OneFindings.{one_findings}
use Rattle.own_flow.proofs.flow.one_list_of_findings.Goals as goal

pub returns : goal.returns
returns c = one_findings
