use Rattle.glance_log.proofs.Chains.{follows_self}
use Rattle.glance_board.proofs.Following.{shows_on}
use Rattle.glance_board.proofs.reader.listing_at.Goals as goal

pub enter_as-requires : goal.enter_as-requires
enter_as-requires g c x = shows_on _ _ x x (follows_self x)
