use Rattle.std.proofs.Common.{◌-◌, ◌<◌, ◌^◌, ℤ, refl, subst, sym}
use Rattle.std.specs.List.{AllByRecursion}
use Rattle.std.proofs.lemmas.Int.{to_z-of_z}
use Rattle.std.specs.Int.{w128, leading_zeros}
use Rattle.segment_codec.specs.RawColumn.{bit_len, offsets_from}
use Rattle.segment_codec.proofs.Written.{numbers_below}
use Rattle.segment_codec.proofs.raw_column.put_varied.Goals as goal

pub pack-requires-clause-offsets : goal.pack-requires-clause-offsets
unfolding bit_len
pack-requires-clause-offsets c =
    subst (λ (z : ℤ). AllByRecursion (λ n. n < 2 ^ (128 - leading_zeros w128 c.args.top)) (offsets_from z c.args.values.now)) (sym (to_z-of_z w128 c.args.low c.ranges.low))
    (numbers_below (offsets_from c.args.low c.args.values.now) c.args.top (128 - leading_zeros w128 c.args.top) c.requires c.ranges.top.fits refl)
