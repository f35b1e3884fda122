use Rattle.std.proofs.Common.{◌≡◌, ◌≤◌, ◌-◌, ◌++◌, length, drop}
use Rattle.ssql_tokens.specs.TokenTexts.{unquoted, unquoted_from}
use Rattle.ssql_tokens.proofs.strings.unquoted.Given as goal

abbrev pub invariant-octets : goal.invariant-octets
invariant-octets l = record {
  within : l.at ≤ length l.text;
  same : l.octets.items ++ unquoted_from l.behind_quote (drop l.at l.text) ≡ unquoted l.text;
}

abbrev pub decreases-octets : goal.decreases-octets
decreases-octets l = length l.text - l.at
