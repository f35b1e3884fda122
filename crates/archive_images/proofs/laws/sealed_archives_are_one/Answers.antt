use Rattle.archive_images.proofs.SealedOnce.{stands_once}
use Rattle.archive_images.proofs.laws.sealed_archives_are_one.Goals as goal

pub returns : goal.returns
returns c = stands_once
