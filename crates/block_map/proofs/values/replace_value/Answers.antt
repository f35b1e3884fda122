use Rattle.std.proofs.Common.{◌≡◌, ◌<◌, length, get_or, refl}
use Rattle.block_map.proofs.Lookups.{rising_block, lookup_there, lookup_missing}
use Rattle.block_map.proofs.values.replace_value.Goals as goal

pub place_again-requires : goal.place_again-requires
place_again-requires g c =
    let d = c.index.result.now in
    let blocks = c.args.blocks.now.items in
    let place : c.block_for-b.result < length blocks = rw (← c.as_slice.ensures.value) c.block_for-b.ensures.within in
    let up = rising_block g.K.Ord.cmp blocks c.block_for-b.result d place c.requires.rising in
    rw (c.as_slice-block.ensures.value, c.index.ensures) up

pub returns-in-Ok-clause-found : goal.returns-in-Ok-clause-found
returns-in-Ok-clause-found g c =
    let d = c.index.result.now in
    let e = c.index-block-at.result in
    let blocks = c.args.blocks.now.items in
    let place = rw c.as_slice.ensures.value at c.block_for-b.ensures in
    let block : c.as_slice-block.result.now ≡ (get_or blocks c.block_for-b.result d).items = rw (← c.index.ensures) c.as_slice-block.ensures.value in
    let there = rw block at c.in-Ok.ensures in
    let found = lookup_there g.K.Ord.cmp c.args.key blocks c.block_for-b.result c.in-Ok.at d place.within place.above there.1 e there.0 (there.2 e) in
    rw (found, ← block) refl

pub returns-in-Err-clause-found : goal.returns-in-Err-clause-found
returns-in-Err-clause-found g c =
    let d = c.index.result.now in
    let blocks = c.args.blocks.now.items in
    let place = rw c.as_slice.ensures.value at c.block_for-b.ensures in
    let block : c.as_slice-block.result.now ≡ (get_or blocks c.block_for-b.result d).items = rw (← c.index.ensures) c.as_slice-block.ensures.value in
    let there = rw block at c.in-Err.ensures in
    let missing = lookup_missing g.K.Ord.cmp c.args.key blocks c.block_for-b.result c.in-Err.field-0 d place.within place.above there.1 there.2 place.below in
    rw missing refl
