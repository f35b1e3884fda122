use Rattle.std.proofs.Common.{refl}
use Rattle.arch_disk.proofs.Moments.{started, goes_on}
use Rattle.arch_disk.specs.Disk.{IsOldBut}
use Rattle.run_files.proofs.steps.empty.Goals as goal

pub returns-in-Ok-clause-elsewhere : goal.returns-in-Ok-clause-elsewhere
returns-in-Ok-clause-elsewhere g c =
    let old = c.args.disk.now in
    let at_start = started g.D.Disk.device old (IsOldBut g.D.Disk.device c.args.file old) (λ c' left. (c', left, λ f other. refl)) in
    goes_on g.D.Disk.device old old c.cut.new.self _ at_start c.cut.ensures.time (λ c' now. let from = c.cut.ensures.crash c' now in (from.0, from.1, from.2.others))

pub returns-in-Err-clause-elsewhere : goal.returns-in-Err-clause-elsewhere
returns-in-Err-clause-elsewhere g c =
    let old = c.args.disk.now in
    let at_start = started g.D.Disk.device old (IsOldBut g.D.Disk.device c.args.file old) (λ c' left. (c', left, λ f other. refl)) in
    goes_on g.D.Disk.device old old c.cut.new.self _ at_start c.cut.ensures.time (λ c' now. let from = c.cut.ensures.crash c' now in (from.0, from.1, from.2.others))
