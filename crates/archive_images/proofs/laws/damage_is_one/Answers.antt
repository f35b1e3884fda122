use Rattle.archive_images.proofs.Exact.{damaged_once}
use Rattle.archive_images.proofs.laws.damage_is_one.Goals as goal

pub returns : goal.returns
returns c = damaged_once
