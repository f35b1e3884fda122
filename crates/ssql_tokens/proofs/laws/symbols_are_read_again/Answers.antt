use Rattle.ssql_tokens.proofs.WrittenTokens.{symbol_again, column_again, operator_again}
use Rattle.ssql_tokens.proofs.laws.symbols_are_read_again.Goals as goal

pub returns-clause-symbols : goal.returns-clause-symbols
returns-clause-symbols c = symbol_again

pub returns-clause-columns : goal.returns-clause-columns
returns-clause-columns c = column_again

pub returns-clause-operators : goal.returns-clause-operators
returns-clause-operators c = operator_again
