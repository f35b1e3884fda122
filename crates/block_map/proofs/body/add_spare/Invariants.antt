use Rattle.std.proofs.Common.{◌≡◌, ◌+◌, ◌≤◌, vec_len, vec_capacity}
use Rattle.block_map.specs.Blocks.{AreReady}
use Rattle.block_map.proofs.body.add_spare.Given as goal

abbrev pub invariant-loop : goal.invariant-loop
invariant-loop g l = record {
  ready : AreReady l.spare.items;
  more : vec_len l.spare + l.present ≡ vec_len l.fn.spare + l.counter;
  fits_spare : l.wanted ≤ vec_capacity l.spare;
}
