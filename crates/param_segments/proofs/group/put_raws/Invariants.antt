use Rattle.std.proofs.Common.{◌≡◌, ◌+◌, ◌-◌, ◌≤◌, ◌++◌, length, take}
use Rattle.std.specs.Prelude.{map, vec_len, vec_capacity}
use Rattle.param_segments.proofs.group.put_raws.Given as goal

abbrev pub invariant-loop-value : goal.invariant-loop-value
invariant-loop-value l = record {
  items : l.raws.items ≡ l.initial.raws.items ++ map (λ v. v.raw) (take l.value-index l.values);
  room : vec_len l.raws + (length l.values - l.value-index) ≤ vec_capacity l.raws;
}
