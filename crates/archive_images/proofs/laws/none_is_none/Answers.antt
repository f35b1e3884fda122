use Rattle.archive_images.proofs.Exact.{none_not_damaged, none_not_stands}
use Rattle.archive_images.proofs.laws.none_is_none.Goals as goal

pub returns : goal.returns
returns c image none = (λ archive stands. none_not_stands image archive none stands, λ at damaged. none_not_damaged image at none damaged)
