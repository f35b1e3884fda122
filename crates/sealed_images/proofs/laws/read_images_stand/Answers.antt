use Rattle.sealed_images.proofs.LogReads.{read_images_stand}
use Rattle.sealed_images.proofs.laws.read_images_stand.Goals as goal

pub returns : goal.returns
returns c = read_images_stand
