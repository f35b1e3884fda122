use Rattle.std.proofs.Common.{◌≡◌, ◌+◌, ◌*◌, ◌≤◌, drop}
use Rattle.live_session.specs.Outcome.{counts_of}
use Rattle.live_session.proofs.reported.counts_of.Given as goal

-- the counts so far, and of the ends that are left
abbrev pub invariant-loop-end : goal.invariant-loop-end
invariant-loop-end l = record {
  packets : l.counts.packets + (counts_of (drop l.end-index l.ends)).packets ≡ (counts_of l.ends).packets;
  idle : l.counts.idle + (counts_of (drop l.end-index l.ends)).idle ≡ (counts_of l.ends).idle;
  routed : l.counts.routed + (counts_of (drop l.end-index l.ends)).routed ≡ (counts_of l.ends).routed;
  few_packets : l.counts.packets ≤ 4294967296 * l.end-index;
  few_idle : l.counts.idle ≤ 4294967296 * l.end-index;
  few_routed : l.counts.routed ≤ 1099511627776 * l.end-index;
}
