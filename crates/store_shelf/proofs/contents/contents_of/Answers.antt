use Rattle.std.proofs.Common.{◌∙◌, List, ap}
use Rattle.archive_store.specs.declared.marks.Mark.{Mark}
use Rattle.archive_store.specs.Marks.{marked_intervals}
use Rattle.glance_board.specs.declared.contents.Contents.{Contents}
use Rattle.store_shelf.proofs.Marking.{are_contents}
use Rattle.store_shelf.proofs.contents.contents_of.Goals as goal

pub returns : goal.returns
returns g c =
    let contents : Contents = record { front = c.front.result; fills = c.fill_len.result; exponent = c.exponent.result; mdb = c.in_ok-mdb.mdb; marks = c.in_ok-published.published } in
    let same = c.in_ok-published.ensures.intervals ∙ ap (λ (ms : List Mark). marked_intervals ms) c.as_slice.ensures.value in
    are_contents g.D.Disk.device c.args.store.now contents (marked_intervals c.in_ok-marks.marks.items) c.front.ensures c.fill_len.ensures c.exponent.ensures
    c.in_ok-mdb.ensures c.in_ok-published.ensures.each same c.in_ok-marks.ensures.rising c.in_ok-marks.ensures.cover
