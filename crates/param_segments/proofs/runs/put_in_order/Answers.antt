use Rattle.std.proofs.Common.{◌+◌, get_or}
use Rattle.param_segments.proofs.KeyPlaces.{by_cmp}
use Rattle.param_segments.proofs.runs.put_in_order.Goals as goal

pub returns-clause-sorted : goal.returns-clause-sorted
returns-clause-sorted c = λ k d low high. by_cmp (get_or c.sort_unstable.new.self.items (k + 1) d) (get_or c.sort_unstable.new.self.items k d) (c.sort_unstable.ensures.sorted k d low high)
