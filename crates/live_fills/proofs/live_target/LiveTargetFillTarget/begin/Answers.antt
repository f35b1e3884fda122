use Rattle.std.proofs.Common.{refl}
use Rattle.live_fills.proofs.Tasks.{own_task}
use Rattle.live_fills.proofs.live_target.LiveTargetFillTarget.begin.Goals as goal

pub returns-clause-own : goal.returns-clause-own
returns-clause-own g c = own_task g.D.Disk.device _ _ _ c.begin_fill.result c.begin_fill.ensures.turn c.begin_fill.ensures.in_order
