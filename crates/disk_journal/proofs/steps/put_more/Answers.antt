use Rattle.std.proofs.Common.{refl}
use Rattle.arch_disk.proofs.Moments.{started, goes_on}
use Rattle.arch_disk.specs.Disk.{IsOldBut}
use Rattle.disk_journal.proofs.steps.put_more.Goals as goal

pub returns-in-Ok-clause-others : goal.returns-in-Ok-clause-others
returns-in-Ok-clause-others g c =
    let old = c.args.disk.now in
    let at_start = started g.D.Disk.device old (IsOldBut g.D.Disk.device c.args.file old) (λ c' left. (c', left, λ f other. refl)) in
    record {
      reads = λ transparent. (c.in-Ok.ensures.written transparent).others;
      crash = goes_on g.D.Disk.device old old c.write_at.new.self _ at_start c.write_at.ensures.time (λ c' now. let from = c.write_at.ensures.crash c' now in (from.0, from.1, from.2.others));
    }

pub returns-in-Err-clause-others : goal.returns-in-Err-clause-others
returns-in-Err-clause-others g c =
    let old = c.args.disk.now in
    let at_start = started g.D.Disk.device old (IsOldBut g.D.Disk.device c.args.file old) (λ c' left. (c', left, λ f other. refl)) in
    record {
      reads = λ transparent. (c.in-Err.ensures.torn transparent).others;
      crash = goes_on g.D.Disk.device old old c.write_at.new.self _ at_start c.write_at.ensures.time (λ c' now. let from = c.write_at.ensures.crash c' now in (from.0, from.1, from.2.others));
    }
