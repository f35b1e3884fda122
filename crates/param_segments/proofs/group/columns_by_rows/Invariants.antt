use Rattle.std.proofs.Common.{◌≡◌, take}
use Rattle.param_segments.specs.GroupContents.{columns_by_rows}
use Rattle.param_segments.proofs.group.columns_by_rows.Given as goal

abbrev pub invariant-loop-from : goal.invariant-loop-from
invariant-loop-from l = l.columns ≡ take l.from (columns_by_rows l.width l.count l.raws)
