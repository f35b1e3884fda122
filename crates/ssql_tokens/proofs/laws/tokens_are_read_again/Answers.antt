use Rattle.ssql_tokens.proofs.WrittenTokens.{token_again}
use Rattle.ssql_tokens.proofs.laws.tokens_are_read_again.Goals as goal

pub returns : goal.returns
returns c = token_again
