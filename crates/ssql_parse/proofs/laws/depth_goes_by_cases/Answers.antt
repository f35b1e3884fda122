use Rattle.ssql_parse.proofs.Depths.{depth_is}
use Rattle.ssql_parse.proofs.laws.depth_goes_by_cases.Goals as goal

pub returns : goal.returns
returns c = depth_is
