use Rattle.backfiller.specs.Work.{IsWorking}
use Rattle.backfiller.proofs.working.work.Given as goal

abbrev pub invariant-loop : goal.invariant-loop
invariant-loop g l = IsWorking g.T.FillTarget.begins g.T.FillTarget.installs l.initial.target l.target l.installed
