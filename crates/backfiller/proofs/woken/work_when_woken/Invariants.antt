use Rattle.backfiller.specs.Work.{AreAllDone}
use Rattle.backfiller.proofs.woken.work_when_woken.Given as goal

abbrev pub invariant-loop : goal.invariant-loop
invariant-loop g l = AreAllDone g.T.FillTarget.begins g.T.FillTarget.installs l.initial.target l.target
