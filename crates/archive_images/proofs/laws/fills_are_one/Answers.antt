use Rattle.archive_images.proofs.Exact.{filled_once}
use Rattle.archive_images.proofs.laws.fills_are_one.Goals as goal

pub returns : goal.returns
returns c = filled_once
