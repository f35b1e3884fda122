use Rattle.std.proofs.Common.{◌∙◌, ap, w64}
use Rattle.std.proofs.lemmas.Int.{to_z-of_z}
use Rattle.arch_types.specs.Order.{is_before, order_by}
use Rattle.archive_core.proofs.Found.{range_found}
use Rattle.archive_core.proofs.ordered.range_of.Goals as goal

pub returns : goal.returns
returns c =
    let found = rw (to_z-of_z w64 c.args.from c.ranges.from, to_z-of_z w64 c.args.to c.ranges.to) at c.in_ok-found.ensures in
    c.in_ok-put_in_order.ensures ∙ ap (order_by is_before) found ∙ range_found c.args.table c.args.from c.args.to c.args.rows.now
