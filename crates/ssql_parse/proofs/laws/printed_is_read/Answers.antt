use Rattle.ssql_parse.proofs.PrintedScripts.{printed_again}
use Rattle.ssql_parse.proofs.laws.printed_is_read.Goals as goal

pub returns : goal.returns
returns c = printed_again
