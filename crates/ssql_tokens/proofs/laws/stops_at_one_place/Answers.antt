use Rattle.ssql_tokens.proofs.TokenLists.{no_token_or_tokens, no_token_is_one}
use Rattle.ssql_tokens.proofs.laws.stops_at_one_place.Goals as goal

pub returns-clause-none : goal.returns-clause-none
returns-clause-none c = no_token_or_tokens

pub returns-clause-one : goal.returns-clause-one
returns-clause-one c = no_token_is_one
