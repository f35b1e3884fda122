use Rattle.disk_journal.proofs.Once.{records_once}
use Rattle.disk_journal.proofs.laws.records_are_one.Goals as goal

pub returns : goal.returns
returns c = records_once
