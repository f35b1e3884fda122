use Rattle.std.proofs.Common.{sym, subst}
use Rattle.std.specs.Prelude.{OnOk}
use Rattle.history_items.specs.declared.fills.Fill.{Fill}
use Rattle.store_shelf.specs.Renewing.{Renews, filled_interval}
use Rattle.store_shelf.proofs.contents.renew_fill.Goals as goal

pub returns-in-Done : goal.returns-in-Done
returns-in-Done g c =
    subst (λ (f : Fill). OnOk c.renew.result (Renews g.D.Disk.device c.args.store.now (filled_interval f) c.args.marks.now c.renew.new.marks)) (sym c.in-Done.is) c.renew.ensures
