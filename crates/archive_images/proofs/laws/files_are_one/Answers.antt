use Rattle.archive_images.proofs.FileRecords.{file_once}
use Rattle.archive_images.proofs.laws.files_are_one.Goals as goal

pub returns : goal.returns
returns c = file_once
