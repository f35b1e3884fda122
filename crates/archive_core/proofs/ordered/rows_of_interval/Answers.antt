use Rattle.std.proofs.Common.{◌∙◌, ap}
use Rattle.arch_types.specs.Order.{is_before, order_by}
use Rattle.archive_core.proofs.Found.{interval_found}
use Rattle.archive_core.proofs.ordered.rows_of_interval.Goals as goal

pub returns : goal.returns
returns c =
    c.from_vec.ensures ∙ c.in_ok-put_in_order.ensures ∙ ap (order_by is_before) c.in_ok-found.ensures
    ∙ interval_found c.args.exponent c.args.interval c.args.rows.now
