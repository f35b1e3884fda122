use Rattle.std.proofs.Common.{Option, Ok, subst}
use Rattle.arch_types.specs.declared.inserted.Installed.{Installed}
use Rattle.backfiller.proofs.HandedOn.{works_done, works_stale}
use Rattle.backfiller.proofs.working.work.Goals as goal

pub loop-preserved-in-Done : goal.loop-preserved-in-Done
loop-preserved-in-Done g c =
    let begins = g.T.FillTarget.begins in
    let installs = g.T.FillTarget.installs in
    let begun = subst (λ (o : Option g.row.T-Task.Denot). begins c.loop.target (Ok o) c.begin.new.self) c.in-Some-2.is c.in_ok-task.ensures.begun in
    let done = subst (λ (i : Installed). installs c.begin.new.self c.in-Some-2.task (Ok i) c.install.new.self) c.in-Done.is c.in_ok-install.ensures in
    works_done begins installs _ _ _ _ _ _ c.in-Some-2.task c.loop.invariant begun done c.saturating_add-installed.ensures

pub loop-preserved : goal.loop-preserved
loop-preserved g c =
    let begins = g.T.FillTarget.begins in
    let installs = g.T.FillTarget.installs in
    let begun = subst (λ (o : Option g.row.T-Task.Denot). begins c.loop.target (Ok o) c.begin.new.self) c.in-Some-2.is c.in_ok-task.ensures.begun in
    let stale = subst (λ (i : Installed). installs c.begin.new.self c.in-Some-2.task (Ok i) c.install.new.self) c.in-Stale.is c.in_ok-install.ensures in
    works_stale begins installs _ _ _ _ _ c.in-Some-2.task c.in-Stale.position c.loop.invariant begun stale
