use Rattle.std.proofs.Common.{◌≡◌, take, min}
use Rattle.std.specs.Prelude.{sum_by}
use Rattle.mdb_items.specs.ParameterRows.{reach}
use Rattle.mdb_rules.proofs.parameter_rows.reach_of_all.Given as goal

abbrev pub invariant-loop-row : goal.invariant-loop-row
invariant-loop-row l = l.sum ≡ min (sum_by (reach l.bits) (take l.row-index l.rows)) 340282366920938463463374607431768211455
