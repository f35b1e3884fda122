use Rattle.std.proofs.Common.{◌∙◌, sym, subst}
use Rattle.store_shelf.specs.Publications.{staying_of}
use Rattle.store_shelf.specs.Renewing.{AreStoreMarksBut}
use Rattle.store_shelf.proofs.Renewing.{marked, unmarked}
use Rattle.store_shelf.proofs.contents.renew.Goals as goal

pub returns-in_default : goal.returns-in_default
returns-in_default g c = λ others but.
    let s = c.args.store.now in
    unmarked (staying_of g.D.Disk.device s) s.history s.fills others c.args.interval c.args.marks.now c.in_default.ensures.none but

pub returns : goal.returns
returns g c = λ others but.
    let s = c.args.store.now in
    let is = c.in_ok-published.ensures.interval ∙ c.in-Some.ensures.interval in
    subst (AreStoreMarksBut g.D.Disk.device s others) (sym c.in_ok-put.ensures.put)
    (marked (staying_of g.D.Disk.device s) s.history s.fills others c.args.interval c.in_ok-published.published c.args.marks.now is c.in_ok-published.ensures.mark but)
