use Rattle.mdb_rules.proofs.Degrees.{within_degree}
use Rattle.mdb_rules.proofs.parameter_rows.reach_of_all.Goals as goal

pub reach-requires : goal.reach-requires
reach-requires c = within_degree c.args.bits c.args.rows.now c.loop-row.row-index _ c.loop-row-test.true c.requires
