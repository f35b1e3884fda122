use Rattle.sealed_journals.proofs.LogsOnce.{log_rows_once}
use Rattle.sealed_journals.proofs.laws.log_rows_are_one.Goals as goal

pub returns : goal.returns
returns c = log_rows_once
