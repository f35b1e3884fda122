use Rattle.archive_verify.proofs.Currents.{mismatch_unsound}
use Rattle.archive_verify.proofs.laws.mismatch_is_unsound.Goals as goal

pub returns : goal.returns
returns c = mismatch_unsound
