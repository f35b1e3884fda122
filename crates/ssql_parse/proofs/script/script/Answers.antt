use Rattle.ssql_parse.proofs.Answering.{found, wrong}
use Rattle.ssql_parse.proofs.script.script.Goals as goal

pub returns-clause-found : goal.returns-clause-found
returns-clause-found c = found c.args.tokens.now c.script_at.result c.script_at.ensures

pub returns-clause-wrong : goal.returns-clause-wrong
returns-clause-wrong c = wrong c.args.tokens.now c.script_at.result c.script_at.ensures
