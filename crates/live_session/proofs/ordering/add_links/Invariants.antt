use Rattle.std.proofs.Common.{◌≡◌, ◌+◌, ◌++◌, ◌≤◌, List, length, vec_len, vec_capacity}
use Rattle.live_session.specs.declared.order.Order.{Order}
use Rattle.live_session.specs.Orders.{AreLinkOrders}
use Rattle.live_session.proofs.ordering.add_links.Given as goal

-- some sources have their orders, and there are a sender and room for each that is left
abbrev pub invariant-loop-source : goal.invariant-loop-source
invariant-loop-source g l = record {
  added : (done : List g.row.S.Denot) × (added : List (Order g.row.S.Denot)) × (l.fn.sources.items ≡ done ++ l.source-iterator.rest.items) × (l.orders.items ≡ l.fn.orders.items ++ added)
      × AreLinkOrders l.fn.link done added × (l.link ≡ l.fn.link + length done);
  senders : vec_len l.senders ≡ length l.source-iterator.rest.items;
  few : l.link + length l.source-iterator.rest.items ≤ 256;
  count : vec_len l.orders + length l.source-iterator.rest.items ≡ vec_len l.fn.orders + vec_len l.fn.sources;
  capacity : vec_capacity l.orders ≡ vec_capacity l.fn.orders;
}
