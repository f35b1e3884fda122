use Rattle.std.proofs.Common.{◌≤◌, ◌-◌, length}
use Rattle.ssql_tokens.specs.Tokens.{AreTokensBefore}
use Rattle.ssql_tokens.proofs.script_tokens.tokens_of.Given as goal

abbrev pub invariant-tokens : goal.invariant-tokens
invariant-tokens l = record {
  before : AreTokensBefore l.script l.tokens l.places l.at;
  within : l.at ≤ length l.script;
}

abbrev pub decreases-tokens : goal.decreases-tokens
decreases-tokens l = length l.script - l.at
