use Rattle.archive_images.proofs.Times.{archived_time}
use Rattle.archive_images.proofs.laws.archived_rows_have_clock_times.Goals as goal

pub returns : goal.returns
returns c = λ head history row is. archived_time head history row is
