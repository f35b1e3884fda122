use Rattle.std.proofs.Common.{◌≡◌, ◌+◌, ◌++◌, ◌≤◌, length, vec_len, vec_capacity}
use Rattle.std.specs.List.{filter_map}
use Rattle.live_session.specs.Results.{source_of}
use Rattle.live_session.proofs.results.sources_back.Given as goal

abbrev pub invariant-loop-order : goal.invariant-loop-order
invariant-loop-order g l = record {
  left : l.sources.items ++ filter_map source_of l.order-iterator.rest.items ≡ filter_map source_of l.fn.orders.items;
  room : vec_len l.sources + length l.order-iterator.rest.items ≤ vec_capacity l.sources;
}
