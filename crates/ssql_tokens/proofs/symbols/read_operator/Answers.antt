use Rattle.std.proofs.Common.{rules}
use Rattle.ssql_tokens.specs.Symbols.{read_operator}
use Rattle.ssql_tokens.proofs.symbols.read_operator.Goals as goal

pub loop-operator-init : goal.loop-operator-init
unfolding read_operator
loop-operator-init c = search rules
