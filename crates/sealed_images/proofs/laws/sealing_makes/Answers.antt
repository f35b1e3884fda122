use Rattle.sealed_images.proofs.Sealing.{sealing_makes}
use Rattle.sealed_images.proofs.laws.sealing_makes.Goals as goal

pub returns : goal.returns
returns c = sealing_makes
