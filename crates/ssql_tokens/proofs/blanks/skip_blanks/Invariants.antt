use Rattle.std.proofs.Common.{◌≡◌, ◌≤◌, length}
use Rattle.ssql_tokens.specs.Blanks.{skip_blanks, skip_from}
use Rattle.ssql_tokens.proofs.blanks.skip_blanks.Given as goal

abbrev pub invariant-octets : goal.invariant-octets
invariant-octets l = record {
  same : skip_from l.in_comment l.rest ≡ skip_blanks l.fn.text;
  within : length l.rest ≤ length l.fn.text;
}

abbrev pub decreases-octets : goal.decreases-octets
decreases-octets l = length l.rest
