use Rattle.std.proofs.Common.{◌≡◌, ◌-◌, ◌<◌, true, false, length, get_or, arith, ap, refl}
use Rattle.block_map.specs.declared.blocks.TheConstants.{MIN_FILL, CAPACITY}
use Rattle.block_map.proofs.Counted.{begun_of}
use Rattle.block_map.proofs.Payments.{all_filled}
use Rattle.block_map.proofs.Lookups.{rising_block, lookup_there, lookup_missing}
use Rattle.block_map.proofs.body.Body+K+V+Removable.remove.Goals as goal

pub place_in-requires : goal.place_in-requires
place_in-requires g c =
    let d = c.index.result.now in
    let blocks = c.self.inside.blocks.items in
    let place : c.block_for-b.result < length blocks = rw (← c.as_slice.ensures.value) c.block_for-b.ensures.within in
    let up = rising_block g.K.Ord.cmp blocks c.block_for-b.result d place c.self.invariant.blocks_in_order.rising in
    rw (c.as_slice-block.ensures.value, c.index.ensures) up

pub take_out-requires-clause-blocks : goal.take_out-requires-clause-blocks
take_out-requires-clause-blocks g c =
    let blocks = c.self.invariant.blocks_in_order in
    record {
      some = blocks.some;
      rising = blocks.rising;
      filled = c.self.invariant.filled refl;
      sized = blocks.sized;
    }

pub overflow_sub-self-in-Ok : goal.overflow_sub-self-in-Ok
overflow_sub-self-in-Ok g c =
    let all = all_filled (CAPACITY - MIN_FILL) c.rebalance.new.blocks (omega arith) c.rebalance.ensures.blocks in
    omega (arith, all.0, c.len.ensures)

pub overflow_mul-self : goal.overflow_mul-self
overflow_mul-self g c =
    let all = all_filled (CAPACITY - MIN_FILL) c.rebalance.new.blocks (omega arith) c.rebalance.ensures.blocks in
    let same = ap length c.rebalance.ensures.same in
    omega (arith, all.0, all.1, c.len.ensures, same, c.take_out.ensures.counted, c.self.invariant.counted, c.self.invariant.small)

pub overflow_sub-self-in-Ok-2 : goal.overflow_sub-self-in-Ok-2
overflow_sub-self-in-Ok-2 g c =
    let all = all_filled (CAPACITY - MIN_FILL) c.rebalance.new.blocks (omega arith) c.rebalance.ensures.blocks in
    let same = ap length c.rebalance.ensures.same in
    omega (arith, all.0, all.1, c.len.ensures, same, c.take_out.ensures.counted, c.self.invariant.counted)

pub invariant_of-self : goal.invariant_of-self
invariant_of-self g c =
    let all = all_filled (CAPACITY - MIN_FILL) c.rebalance.new.blocks (omega arith) c.rebalance.ensures.blocks in
    let same = ap length c.rebalance.ensures.same in
    let mended = c.rebalance.ensures in
    let out = c.take_out.ensures in
    let was = c.self.invariant in
    let paid = was.paid_all refl in
    record {
      blocks_in_order = record {
        some = mended.blocks.some;
        rising = mended.blocks.rising;
        begun = begun_of MIN_FILL c.rebalance.new.blocks.items (omega arith) mended.blocks.filled;
        sized = mended.blocks.sized;
      };
      ready = mended.ready;
      fits = omega (arith, mended.moved, mended.capacity, out.len, out.capacity, was.fits);
      fits_spare = omega (arith, mended.moved, mended.spare_capacity, out.len, was.fits_spare);
      counted = omega (arith, same, out.counted, was.counted);
      beyond = omega (arith, all.0, all.1, c.len.ensures, same, out.counted, was.counted);
      beyond_alone = λ e. (let bad : true ≡ false = e in cc);
      at_most = omega arith;
      spared = omega (arith, all.0, all.1, c.len.ensures, same, out.counted, was.counted, was.spared, paid, mended.moved, out.len);
      filled = λ e. mended.blocks.filled;
      paid_all = λ e. omega (arith, all.0, all.1, c.len.ensures, same, out.counted, was.counted);
      small = omega (arith, out.counted, was.counted, was.small);
    }

pub returns-in-Ok-clause-found : goal.returns-in-Ok-clause-found
returns-in-Ok-clause-found g c =
    let d = c.index.result.now in
    let e = c.index-block-at.result in
    let blocks = c.self.inside.blocks.items in
    let place = rw c.as_slice.ensures.value at c.block_for-b.ensures in
    let block : c.as_slice-block.result.now ≡ (get_or blocks c.block_for-b.result d).items = rw (← c.index.ensures) c.as_slice-block.ensures.value in
    let there = rw block at c.in-Ok.ensures in
    let found = lookup_there g.K.Ord.cmp c.args.key blocks c.block_for-b.result c.in-Ok.at d place.within place.above there.1 e there.0 (there.2 e) in
    rw (← c.self.view_is, found, ← block) refl

pub returns-in-Err-clause-found : goal.returns-in-Err-clause-found
returns-in-Err-clause-found g c =
    let d = c.index.result.now in
    let blocks = c.self.inside.blocks.items in
    let place = rw c.as_slice.ensures.value at c.block_for-b.ensures in
    let block : c.as_slice-block.result.now ≡ (get_or blocks c.block_for-b.result d).items = rw (← c.index.ensures) c.as_slice-block.ensures.value in
    let there = rw block at c.in-Err.ensures in
    let missing = lookup_missing g.K.Ord.cmp c.args.key blocks c.block_for-b.result c.in-Err.field-0 d place.within place.above there.1 there.2 place.below in
    rw (← c.self.view_is, missing) refl
