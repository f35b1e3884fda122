use Rattle.std.proofs.Common.{◌≡◌, fold, drop}
use Rattle.std.specs.Int.{int_max}
use Rattle.ssql_conditions.proofs.bounds.latest_time.Given as goal

abbrev pub invariant-loop-time : goal.invariant-loop-time
invariant-loop-time l = fold int_max l.latest (drop l.time-index l.more) ≡ fold int_max l.first l.more
