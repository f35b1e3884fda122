use Rattle.std.proofs.Common.{◌≡◌, ℕ, ◌+◌, ◌-◌, ◌*◌, ◌≤◌, vec_len, vec_capacity}
use Rattle.block_map.specs.declared.blocks.TheConstants.{CAPACITY}
use Rattle.block_map.specs.Blocks.{entries_of, excess_of, AreFilled, AreRisingBlocks, IsBlockFor, AreReady}
use Rattle.block_map.proofs.blocks.open_block.Given as goal

abbrev pub invariant-loop-key : goal.invariant-loop-key
invariant-loop-key g l = record {
  blocks : AreRisingBlocks g.K.Ord.cmp l.blocks.items;
  filled : (fill : ℕ) → fill + l.keep ≤ CAPACITY → AreFilled fill l.fn.blocks.items → AreFilled fill l.blocks.items;
  excess : excess_of l.keep l.blocks.items + vec_len l.fn.spare * (CAPACITY - l.keep) ≡ excess_of l.keep l.fn.blocks.items + vec_len l.spare * (CAPACITY - l.keep);
  same : entries_of l.blocks.items ≡ entries_of l.fn.blocks.items;
  ready : AreReady l.spare.items;
  moved : vec_len l.blocks + vec_len l.spare ≡ vec_len l.fn.blocks + vec_len l.fn.spare;
  fewer : vec_len l.spare ≤ vec_len l.fn.spare;
  fits : vec_len l.blocks + vec_len l.spare ≤ vec_capacity l.blocks;
  spare_capacity : vec_capacity l.spare ≡ vec_capacity l.fn.spare;
  place : IsBlockFor g.K.Ord.cmp l.key l.blocks.items l.b;
}

abbrev pub decreases-loop-key : goal.decreases-loop-key
decreases-loop-key g l = vec_len l.spare
