use Rattle.std.proofs.Common.{rules, ◌≡◌, ◌+◌, ◌-◌, ◌*◌, ◌≤◌, false, get_or, vec_len, arith, refl}
use Rattle.block_map.specs.declared.blocks.TheConstants.{CAPACITY}
use Rattle.block_map.specs.Blocks.{excess_of}
use Rattle.block_map.proofs.Lookups.{rising_block, lookup_there, lookup_missing}
use Rattle.block_map.proofs.Payments.{beyond_paid, beyond_alone_paid, split_paid, opened, added, changed}
use Rattle.block_map.proofs.body.Body+K+u64+P.add_one.Goals as goal

pub overflow_sub-self-3 : goal.overflow_sub-self-3
overflow_sub-self-3 g c =
    let keep = g.P.SplitPolicy.KEEP in
    let splits = rw c.KEEP.ensures at c.open_block-b.ensures in
    rw (c.len-spares.ensures, c.len.ensures, c.KEEP-2.ensures)
    (split_paid (vec_len c.self.inside.spare) (vec_len c.open_block-b.new.spare) (CAPACITY - keep) (excess_of keep c.self.inside.blocks.items) (excess_of keep c.open_block-b.new.blocks.items) c.self.inside.paid splits.fewer splits.excess c.self.invariant.beyond)

pub overflow_mul-self : goal.overflow_mul-self
overflow_mul-self g c =
    let keep = g.P.SplitPolicy.KEEP in
    let splits = rw c.KEEP.ensures at c.open_block-b.ensures in
    let paid = split_paid (vec_len c.self.inside.spare) (vec_len c.open_block-b.new.spare) (CAPACITY - keep) (excess_of keep c.self.inside.blocks.items) (excess_of keep c.open_block-b.new.blocks.items) c.self.inside.paid splits.fewer splits.excess c.self.invariant.beyond in
    rw (c.len-spares.ensures, c.len.ensures, c.KEEP-2.ensures) (omega (arith, paid, c.self.invariant.at_most, c.self.invariant.small))

pub place_again-requires : goal.place_again-requires
place_again-requires g c =
    let d = c.index.result.now in
    let blocks = c.open_block-b.new.blocks.items in
    let up = rising_block g.K.Ord.cmp blocks c.open_block-b.result d c.open_block-b.ensures.place.within c.open_block-b.ensures.blocks.rising in
    rw (c.as_slice-entries.ensures.value, c.index.ensures) up

pub invariant_of-self : goal.invariant_of-self
invariant_of-self g c =
    let keep = g.P.SplitPolicy.KEEP in
    let splits = rw c.KEEP.ensures at c.open_block-b.ensures in
    let index = opened keep g.P.SplitPolicy.pays_each c.self.inside.blocks c.self.inside.spare c.open_block-b.new.blocks c.open_block-b.new.spare c.self.inside.len c.self.inside.paid c.self.inside.room g.met.P.SplitPolicy.keeps_less c.self.invariant splits in
    let other = c.set_value.ensures in
    rw (c.len-spares.ensures, c.len.ensures, c.KEEP-2.ensures)
    (changed keep g.P.SplitPolicy.pays_each c.open_block-b.new.blocks c.open_block-b.new.spare c.set_value.new.blocks c.self.inside.len
    (c.self.inside.paid - (vec_len c.self.inside.spare - vec_len c.open_block-b.new.spare) * (CAPACITY - keep)) c.self.inside.room index other.blocks other.filled (other.excess keep) other.counted other.len other.capacity)

pub invariant_of-self-in-Err : goal.invariant_of-self-in-Err
invariant_of-self-in-Err g c =
    let keep = g.P.SplitPolicy.KEEP in
    let some = rw (← c.self.view_is) at c.requires.room in
    let splits = rw c.KEEP.ensures at c.open_block-b.ensures in
    let index = opened keep g.P.SplitPolicy.pays_each c.self.inside.blocks c.self.inside.spare c.open_block-b.new.blocks c.open_block-b.new.spare c.self.inside.len c.self.inside.paid c.self.inside.room g.met.P.SplitPolicy.keeps_less c.self.invariant splits in
    let len = rw (← c.index.ensures) at (c.put.ensures.excess keep c.index.result.now) in
    let grown : excess_of keep c.put.new.blocks.items ≤ excess_of keep c.open_block-b.new.blocks.items + c.payment.result = omega (arith, len, beyond_paid c.payment.ensures.beyond, c.as_slice-entries.ensures.len) in
    let grown_alone : g.P.SplitPolicy.pays_each ≡ false → excess_of keep c.put.new.blocks.items ≡ excess_of keep c.open_block-b.new.blocks.items + c.payment.result =
    λ e. omega (arith, len, beyond_alone_paid c.payment.ensures.beyond (c.payment.ensures.beyond_alone e), c.as_slice-entries.ensures.len) in
    let put = c.put.ensures in
    rw (c.len-spares.ensures, c.len.ensures, c.KEEP-2.ensures)
    (added keep g.P.SplitPolicy.pays_each c.open_block-b.new.blocks c.open_block-b.new.spare c.put.new.blocks c.self.inside.len
    (c.self.inside.paid - (vec_len c.self.inside.spare - vec_len c.open_block-b.new.spare) * (CAPACITY - keep)) c.self.inside.room c.payment.result index some put.blocks put.filled grown grown_alone put.counted put.len put.capacity c.payment.ensures.most c.payment.ensures.each)

pub overflow_add-count : goal.overflow_add-count
overflow_add-count g c =
    let d = c.index.result.now in
    let blocks = c.open_block-b.new.blocks.items in
    let place = c.open_block-b.ensures.place in
    let block : c.as_slice-entries.result.now ≡ (get_or blocks c.open_block-b.result d).items = rw (← c.index.ensures) c.as_slice-entries.ensures.value in
    let there = rw block at c.in-Ok.ensures in
    let found = lookup_there g.K.Ord.cmp c.args.key blocks c.open_block-b.result c.in-Ok.at d place.within place.above there.1 c.index-entries-at.result there.0 (there.2 c.index-entries-at.result) in
    let small = rw (← c.self.view_is, ← c.open_block-b.ensures.same, found, ← block) at c.requires.small in
    search (rules, arith)

pub returns-in-Ok-clause-count : goal.returns-in-Ok-clause-count
returns-in-Ok-clause-count g c =
    let d = c.index.result.now in
    let blocks = c.open_block-b.new.blocks.items in
    let place = c.open_block-b.ensures.place in
    let block : c.as_slice-entries.result.now ≡ (get_or blocks c.open_block-b.result d).items = rw (← c.index.ensures) c.as_slice-entries.ensures.value in
    let there = rw block at c.in-Ok.ensures in
    let found = lookup_there g.K.Ord.cmp c.args.key blocks c.open_block-b.result c.in-Ok.at d place.within place.above there.1 c.index-entries-at.result there.0 (there.2 c.index-entries-at.result) in
    rw (← c.self.view_is, ← c.open_block-b.ensures.same, found, ← block) refl

pub returns-in-Err-clause-count : goal.returns-in-Err-clause-count
returns-in-Err-clause-count g c =
    let d = c.index.result.now in
    let blocks = c.open_block-b.new.blocks.items in
    let place = c.open_block-b.ensures.place in
    let block : c.as_slice-entries.result.now ≡ (get_or blocks c.open_block-b.result d).items = rw (← c.index.ensures) c.as_slice-entries.ensures.value in
    let there = rw block at c.in-Err.ensures in
    let missing = lookup_missing g.K.Ord.cmp c.args.key blocks c.open_block-b.result c.in-Err.at d place.within place.above there.1 there.2 place.below in
    rw (← c.self.view_is, ← c.open_block-b.ensures.same, missing) refl
