use Rattle.archive_images.proofs.FileRecords.{file_not_damaged}
use Rattle.archive_images.proofs.laws.files_are_whole.Goals as goal

pub returns : goal.returns
returns c = file_not_damaged
