use Rattle.archive_images.proofs.Exact.{stands_once}
use Rattle.archive_images.proofs.laws.archives_are_one.Goals as goal

pub returns : goal.returns
returns c = stands_once
