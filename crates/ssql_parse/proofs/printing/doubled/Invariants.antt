use Rattle.std.proofs.Common.{◌≡◌, ◌∷◌, ◌++◌, drop}
use Rattle.ssql_tokens.specs.Written.{quotes_doubled}
use Rattle.ssql_parse.proofs.printing.doubled.Given as goal

abbrev pub invariant-loop-octet : goal.invariant-loop-octet
invariant-loop-octet l = l.octets.items ++ quotes_doubled (drop l.octet-index l.text) ≡ 39 ∷ quotes_doubled l.text
