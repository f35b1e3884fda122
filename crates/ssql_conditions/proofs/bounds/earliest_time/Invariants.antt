use Rattle.std.proofs.Common.{◌≡◌, fold, drop}
use Rattle.std.specs.Int.{int_min}
use Rattle.ssql_conditions.proofs.bounds.earliest_time.Given as goal

abbrev pub invariant-loop-time : goal.invariant-loop-time
invariant-loop-time l = fold int_min l.earliest (drop l.time-index l.more) ≡ fold int_min l.first l.more
