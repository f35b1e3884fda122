use Rattle.archive_verify.proofs.Images.{sound_images}
use Rattle.archive_verify.proofs.laws.sound_image_holds_rows.Goals as goal

pub returns : goal.returns
returns c = sound_images
