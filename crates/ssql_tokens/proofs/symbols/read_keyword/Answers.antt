use Rattle.std.proofs.Common.{rules}
use Rattle.ssql_tokens.specs.Symbols.{read_keyword}
use Rattle.ssql_tokens.proofs.symbols.read_keyword.Goals as goal

pub loop-keyword-init : goal.loop-keyword-init
unfolding read_keyword
loop-keyword-init c = search rules
