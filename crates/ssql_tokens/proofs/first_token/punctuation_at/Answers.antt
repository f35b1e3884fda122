use Rattle.std.proofs.Common.{sym}
use Rattle.ssql_tokens.proofs.FirstTokens.{first_pair, first_mark, no_mark}
use Rattle.ssql_tokens.proofs.first_token.punctuation_at.Goals as goal

pub returns-in-Some : goal.returns-in-Some
returns-in-Some c = first_pair c.args.text.now c.requires.punctuation c.in-Some.token (sym c.in-Some.ensures)

pub returns-in-None : goal.returns-in-None
returns-in-None c = no_mark c.args.text.now c.requires.punctuation (sym c.in_default.ensures) (sym c.in-None.ensures)

pub returns-in-Some-punctuation_token : goal.returns-in-Some-punctuation_token
returns-in-Some-punctuation_token c = first_mark c.args.text.now c.requires.punctuation (sym c.in_default.ensures) c.in-Some-punctuation_token.token (sym c.in-Some-punctuation_token.ensures)
