use Rattle.std.proofs.Common.{◌≡◌, get_or, sym}
use Rattle.block_map.proofs.Lookups.{rising_block, rising_rest, from_there, from_missing}
use Rattle.block_map.proofs.values.entries_from_key.Goals as goal

pub place_in-requires : goal.place_in-requires
place_in-requires g c =
    let d = c.index-blocks-b.result in
    let blocks = c.args.blocks.now in
    let up = rising_block g.K.Ord.cmp blocks c.block_for-b.result d c.block_for-b.ensures.within c.requires.rising in
    rw (c.as_slice-block.ensures.value, c.index-blocks-b.is) up

pub returns-in-Ok-clause-entries : goal.returns-in-Ok-clause-entries
returns-in-Ok-clause-entries g c =
    let d = c.index-blocks-b.result in
    let blocks = c.args.blocks.now in
    let place = c.block_for-b.ensures in
    let block : c.as_slice-block.result.now ≡ (get_or blocks c.block_for-b.result d).items = rw (← c.index-blocks-b.is) c.as_slice-block.ensures.value in
    let there = rw block at c.in-Ok.ensures in
    rw (c.new.ensures, c.split_at-in-Ok.ensures.back, c.split_at.ensures.back, block)
    (sym (from_there g.K.Ord.cmp c.args.key blocks c.block_for-b.result c.in-Ok.at d place.within place.above there.1 g.met.K.Ord.total c.requires.rising there.0 there.2))

pub returns-in-Err-clause-entries : goal.returns-in-Err-clause-entries
returns-in-Err-clause-entries g c =
    let d = c.index-blocks-b.result in
    let blocks = c.args.blocks.now in
    let place = c.block_for-b.ensures in
    let block : c.as_slice-block.result.now ≡ (get_or blocks c.block_for-b.result d).items = rw (← c.index-blocks-b.is) c.as_slice-block.ensures.value in
    let there = rw block at c.in-Err.ensures in
    rw (c.new-in-Err.ensures, c.split_at-in-Err.ensures.back, c.split_at.ensures.back, block)
    (sym (from_missing g.K.Ord.cmp c.args.key blocks c.block_for-b.result c.in-Err.at d place.within place.above there.1 there.2 place.below))

pub returns-in-Ok-clause-rising : goal.returns-in-Ok-clause-rising
returns-in-Ok-clause-rising g c =
    let d = c.index-blocks-b.result in
    let blocks = c.args.blocks.now in
    let place = c.block_for-b.ensures in
    let block : c.as_slice-block.result.now ≡ (get_or blocks c.block_for-b.result d).items = rw (← c.index-blocks-b.is) c.as_slice-block.ensures.value in
    rw (c.new.ensures, c.split_at-in-Ok.ensures.back, c.split_at.ensures.back, block)
    (rising_rest g.K.Ord.cmp blocks c.block_for-b.result c.in-Ok.at d place.within c.requires.rising)

pub returns-in-Err-clause-rising : goal.returns-in-Err-clause-rising
returns-in-Err-clause-rising g c =
    let d = c.index-blocks-b.result in
    let blocks = c.args.blocks.now in
    let place = c.block_for-b.ensures in
    let block : c.as_slice-block.result.now ≡ (get_or blocks c.block_for-b.result d).items = rw (← c.index-blocks-b.is) c.as_slice-block.ensures.value in
    rw (c.new-in-Err.ensures, c.split_at-in-Err.ensures.back, c.split_at.ensures.back, block)
    (rising_rest g.K.Ord.cmp blocks c.block_for-b.result c.in-Err.at d place.within c.requires.rising)
