use Rattle.std.proofs.Common.{◌≡◌, take}
use Rattle.std.specs.Prelude.{fold}
use Rattle.std.specs.Int.{int_max, int_min}
use Rattle.segment_codec.proofs.raw_column.wide_range.Given as goal

abbrev pub invariant-loop-value : goal.invariant-loop-value
invariant-loop-value l = record {
  low : l.low ≡ fold int_min l.first (take l.value-index l.others);
  high : l.high ≡ fold int_max l.first (take l.value-index l.others);
}
