use Rattle.std.proofs.Common.{◌≡◌, ◌+◌, ◌++◌, ◌-◌, ◌*◌, ◌≤◌, length}
use Rattle.std.specs.Prelude.{vec_len, vec_capacity}
use Rattle.param_segments.specs.GroupContents.{every_nth}
use Rattle.param_segments.proofs.group.every_nth.Given as goal

abbrev pub invariant-loop : goal.invariant-loop
invariant-loop l = record {
  all : l.column.items ++ every_nth l.from l.width (l.count - l.counter) l.rest ≡ every_nth l.from l.width l.count l.raws;
  len : length l.rest ≡ (l.count - l.counter) * l.width;
  room : vec_len l.column + (l.count - l.counter) ≤ vec_capacity l.column;
}
