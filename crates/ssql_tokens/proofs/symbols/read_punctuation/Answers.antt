use Rattle.std.proofs.Common.{rules}
use Rattle.ssql_tokens.specs.Symbols.{read_punctuation}
use Rattle.ssql_tokens.proofs.symbols.read_punctuation.Goals as goal

pub loop-symbol-init : goal.loop-symbol-init
unfolding read_punctuation
loop-symbol-init c = search rules
