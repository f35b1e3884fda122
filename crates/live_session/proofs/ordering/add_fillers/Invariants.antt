use Rattle.std.proofs.Common.{◌≡◌, ◌+◌, ◌++◌, List, length, vec_len, vec_capacity}
use Rattle.std.specs.List.{AllByRecursion}
use Rattle.live_session.specs.declared.order.Order.{Order}
use Rattle.live_session.specs.Orders.{IsFilling}
use Rattle.live_session.proofs.ordering.add_fillers.Given as goal

abbrev pub invariant-loop-wakes : goal.invariant-loop-wakes
invariant-loop-wakes g l = record {
  added : (added : List (Order g.row.S.Denot)) × (l.orders.items ≡ l.fn.orders.items ++ added) × AllByRecursion IsFilling added × (length added + length l.wakes-iterator.rest.items ≡ vec_len l.fn.receivers);
  count : vec_len l.orders + length l.wakes-iterator.rest.items ≡ vec_len l.fn.orders + vec_len l.fn.receivers;
  capacity : vec_capacity l.orders ≡ vec_capacity l.fn.orders;
}
