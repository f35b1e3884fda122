use Rattle.std.proofs.Common.{◌≡◌, get_or, refl}
use Rattle.block_map.proofs.Lookups.{rising_block, lookup_there, lookup_missing}
use Rattle.block_map.proofs.values.value_of.Goals as goal

pub place_in-requires : goal.place_in-requires
place_in-requires g c =
    let d = c.index-blocks-b.result in
    let blocks = c.args.blocks.now in
    let up = rising_block g.K.Ord.cmp blocks c.block_for-b.result d c.block_for-b.ensures.within c.requires.rising in
    rw (c.as_slice-block.ensures.value, c.index-blocks-b.is) up

pub returns-in-Ok : goal.returns-in-Ok
returns-in-Ok g c =
    let d = c.index-blocks-b.result in
    let e = c.index-block-at.result in
    let blocks = c.args.blocks.now in
    let place = c.block_for-b.ensures in
    let block : c.as_slice-block.result.now ≡ (get_or blocks c.block_for-b.result d).items = rw (← c.index-blocks-b.is) c.as_slice-block.ensures.value in
    let there = rw block at c.in-Ok.ensures in
    let found = lookup_there g.K.Ord.cmp c.args.key blocks c.block_for-b.result c.in-Ok.at d place.within place.above there.1 e there.0 (there.2 e) in
    rw (found, ← block) refl

pub returns-in-Err : goal.returns-in-Err
returns-in-Err g c =
    let d = c.index-blocks-b.result in
    let blocks = c.args.blocks.now in
    let place = c.block_for-b.ensures in
    let block : c.as_slice-block.result.now ≡ (get_or blocks c.block_for-b.result d).items = rw (← c.index-blocks-b.is) c.as_slice-block.ensures.value in
    let there = rw block at c.in-Err.ensures in
    let missing = lookup_missing g.K.Ord.cmp c.args.key blocks c.block_for-b.result c.in-Err.field-0 d place.within place.above there.1 there.2 place.below in
    rw missing refl
