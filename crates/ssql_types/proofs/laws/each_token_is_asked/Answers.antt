use Rattle.ssql_types.proofs.TokenCounts.{each_asked}
use Rattle.ssql_types.proofs.laws.each_token_is_asked.Goals as goal

pub returns : goal.returns
returns c = each_asked
