use Rattle.backfiller.proofs.HandedOn.{all_done, none_done}
use Rattle.backfiller.proofs.woken.work_when_woken.Goals as goal

pub loop-init : goal.loop-init
loop-init g c = none_done g.T.FillTarget.begins g.T.FillTarget.installs c.args.target.now

pub loop-preserved : goal.loop-preserved
loop-preserved g c = all_done g.T.FillTarget.begins g.T.FillTarget.installs _ _ _ _ c.loop.invariant c.in_ok-work.ensures.done
