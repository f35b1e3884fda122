use Rattle.ssql_tokens.proofs.TokenLists.{tokens_are_one}
use Rattle.ssql_tokens.proofs.laws.tokens_are_one.Goals as goal

pub returns : goal.returns
returns c = tokens_are_one
