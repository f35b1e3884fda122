use Rattle.std.proofs.Common.{◌≡◌, reverse, vec_len}
use Rattle.ssql_parse.specs.Depth.{ended}
use Rattle.ssql_parse.proofs.depth.end_term.Given as goal

abbrev pub invariant-nots : goal.invariant-nots
invariant-nots l = ended (reverse l.nesting.items) ≡ ended (reverse l.fn.nesting.items)

abbrev pub decreases-nots : goal.decreases-nots
decreases-nots l = vec_len l.nesting
