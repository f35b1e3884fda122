use Rattle.std.proofs.Common.{rules}
use Rattle.ssql_tokens.specs.Symbols.{read_column}
use Rattle.ssql_tokens.proofs.symbols.read_column.Goals as goal

pub loop-column-init : goal.loop-column-init
unfolding read_column
loop-column-init c = search rules
