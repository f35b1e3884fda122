use Rattle.std.proofs.Common.{◌≡◌, ◌+◌, ◌++◌, map, take, vec_capacity, vec_len}
use Rattle.mdb_items.proofs.sheet.push_ends.Given as goal

abbrev pub invariant-loop-end : goal.invariant-loop-end
invariant-loop-end l = record {
  items : l.ends.items ≡ l.fn.ends.items ++ map (λ end. l.start + end) (take l.end-index l.more);
  length : vec_len l.ends ≡ vec_len l.fn.ends + l.end-index;
  capacity : vec_capacity l.ends ≡ vec_capacity l.fn.ends;
}
