use Rattle.archive_images.proofs.FileRecords.{file_damaged_once}
use Rattle.archive_images.proofs.laws.file_damage_is_one.Goals as goal

pub returns : goal.returns
returns c = file_damaged_once
