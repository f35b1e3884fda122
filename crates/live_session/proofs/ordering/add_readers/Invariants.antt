use Rattle.std.proofs.Common.{◌≡◌, ◌+◌, ◌++◌, map, vec_len, vec_capacity}
use Rattle.std.specs.List.{range_with_len}
use Rattle.live_session.specs.declared.order.Order.TheVariants as Ordered
use Rattle.live_session.proofs.ordering.add_readers.Given as goal

abbrev pub invariant-loop-before : goal.invariant-loop-before
invariant-loop-before g l = record {
  added : l.orders.items ≡ l.fn.orders.items ++ map Ordered.Reader (range_with_len 0 l.before);
  count : vec_len l.orders ≡ vec_len l.fn.orders + l.before;
  capacity : vec_capacity l.orders ≡ vec_capacity l.fn.orders;
}
