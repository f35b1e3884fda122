use Rattle.std.proofs.Common.{arith}
use Rattle.std.proofs.lemmas.Int.{to_z-of_z}
use Rattle.std.proofs.lemmas.List.Sums.{fold_more}
use Rattle.segment_codec.proofs.raw_column.word_range.Goals as goal

pub loop-value-preserved : goal.loop-value-preserved
loop-value-preserved c = record { low = grind (arith, to_z-of_z, fold_more); high = grind (arith, to_z-of_z, fold_more) }
