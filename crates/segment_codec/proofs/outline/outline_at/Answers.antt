use Rattle.std.proofs.Common.{ap, arith, length}
use Rattle.segment_codec.proofs.Outlines.{keys_len}
use Rattle.segment_codec.proofs.outline.outline_at.Goals as goal

pub key_ends-ends-requires : goal.key_ends-ends-requires
key_ends-ends-requires c =
    let long = keys_len c.in_ok-rows.rows c.in_ok-rows.rest.now (c.in_ok-keys.keys, c.in_ok-keys.rest.now) c.in_ok-keys.ensures in
    let some = c.in_ok-rows.ensures.some in
    omega (arith, ap length c.as_slice.ensures)
