use Rattle.archive_images.proofs.FileRecords.{file_zero}
use Rattle.archive_images.proofs.laws.file_zero_is_all.Goals as goal

pub returns : goal.returns
returns c = file_zero
