use Rattle.sealed_images.proofs.Whole.{archives_are_whole}
use Rattle.sealed_images.proofs.laws.sealed_archives_are_whole.Goals as goal

pub returns : goal.returns
returns c = archives_are_whole
