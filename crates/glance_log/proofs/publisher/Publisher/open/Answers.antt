use Rattle.std.proofs.Common.{refl}
use Rattle.glance_log.proofs.publisher.Publisher.open.Goals as goal

pub open_row-seen-requires : goal.open_row-seen-requires
open_row-seen-requires g c = (record { number = 0; words = refl; count = refl; chain = (tt, tt) }, (λ xs. tt), c.alone.ensures.1)
