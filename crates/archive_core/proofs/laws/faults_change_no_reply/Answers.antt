use Rattle.archive_core.proofs.SameReply.{faults_alike}
use Rattle.archive_core.proofs.laws.faults_change_no_reply.Goals as goal

pub returns : goal.returns
returns c = faults_alike
