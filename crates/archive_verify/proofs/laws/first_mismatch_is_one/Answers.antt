use Rattle.archive_verify.proofs.Currents.{one_mismatch}
use Rattle.archive_verify.proofs.laws.first_mismatch_is_one.Goals as goal

pub returns : goal.returns
returns c = one_mismatch
