use Rattle.std.proofs.Common.{◌≡◌, ◌≤◌, ◌-◌, length, drop, IfSome}
use Rattle.ssql_tokens.specs.Lengths.{string_len, or_last}
use Rattle.ssql_tokens.proofs.strings.string_len.Given as goal

abbrev pub invariant-octets : goal.invariant-octets
invariant-octets l = record {
  within : l.at ≤ length l.text;
  seen : IfSome l.last (λ len. len ≤ length l.text);
  same : or_last l.last l.at (string_len (drop l.at l.text)) ≡ string_len l.text;
}

abbrev pub decreases-octets : goal.decreases-octets
decreases-octets l = length l.text - l.at
