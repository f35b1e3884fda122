use Rattle.std.proofs.Common.{◌<◌, length, arith}
use Rattle.mdb_items.proofs.Records.{bounds_at}
use Rattle.mdb_items.proofs.sheet.push_ends.Goals as goal

pub overflow_add-start : goal.overflow_add-start
overflow_add-start c =
    let (size, ends, small) = c.requires.small in
    let lt : c.loop-end.end-index < length c.args.more.now = omega arith in
    let within = (bounds_at 0 c.args.more.now size c.loop-end.end-index ends lt).1 in
    omega (arith, within, small)
