use Rattle.archive_store.proofs.ReplayedRows.{rest_of_later}
use Rattle.archive_store.proofs.laws.replays_keep_their_front.Goals as goal

pub returns : goal.returns
returns c = rest_of_later
