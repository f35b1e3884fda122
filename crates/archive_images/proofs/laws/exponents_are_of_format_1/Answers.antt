use Rattle.archive_images.proofs.Exponents.{stands_format}
use Rattle.archive_images.proofs.laws.exponents_are_of_format_1.Goals as goal

pub returns : goal.returns
returns c = stands_format
