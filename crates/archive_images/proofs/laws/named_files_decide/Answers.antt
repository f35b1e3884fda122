use Rattle.archive_images.proofs.NamedFiles.{same_archive}
use Rattle.archive_images.proofs.laws.named_files_decide.Goals as goal

pub returns : goal.returns
returns c = same_archive
