use Rattle.std.proofs.Common.{◌≡◌, take}
use Rattle.mdb_items.specs.ParameterRows.{degree}
use Rattle.mdb_rules.proofs.parameter_rows.degree.Given as goal

abbrev pub invariant-loop-row : goal.invariant-loop-row
invariant-loop-row l = l.degree ≡ degree (take l.row-index l.rows)
