use Rattle.archive_images.proofs.Exact.{stands_not_damaged}
use Rattle.archive_images.proofs.laws.archives_are_whole.Goals as goal

pub returns : goal.returns
returns c = stands_not_damaged
