use Rattle.archive_images.proofs.NamedFiles.{reads_lower}
use Rattle.archive_images.proofs.laws.lower_files_say.Goals as goal

pub returns : goal.returns
returns c = reads_lower
