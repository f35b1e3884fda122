use Rattle.std.proofs.Common.{◌≡◌, drop}
use Rattle.field_codec.specs.Reading.{is_distinct}
use Rattle.field_codec.proofs.opening.is_distinct.Given as goal

abbrev pub invariant-loop-i : goal.invariant-loop-i
invariant-loop-i l = is_distinct l.names ≡ is_distinct (drop l.i l.names)
