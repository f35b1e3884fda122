use Rattle.std.proofs.Common.{◌≡◌, ◌++◌, drop}
use Rattle.segment_codec.specs.KeyColumn.{key_gaps}
use Rattle.segment_codec.proofs.key_column.put_gaps.Given as goal

abbrev pub invariant-loop-key : goal.invariant-loop-key
invariant-loop-key l = l.out.items ++ key_gaps l.last (drop l.key-index l.keys) ≡ l.initial.out.items ++ key_gaps l.fn.first l.keys
