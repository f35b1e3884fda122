use Rattle.std.proofs.Common.{◌≡◌, ◌+◌, ◌++◌, map, take, true, vec_len, vec_capacity}
use Rattle.std.specs.List.{list_all}
use Rattle.container_extract.specs.Values.{fits, raw_value_of}
use Rattle.container_extract.proofs.entries.take_entries.Given as goal

abbrev pub invariant-loop-entry : goal.invariant-loop-entry
invariant-loop-entry l = record {
  kept : l.values.items ≡ l.initial.values.items ++ map (raw_value_of l.mdb l.packet) (take l.entry-index l.entries);
  fit : list_all (fits l.mdb l.packet) (take l.entry-index l.entries) ≡ true;
  counted : vec_len l.values ≡ vec_len l.initial.values + l.entry-index;
  capacity : vec_capacity l.values ≡ vec_capacity l.initial.values;
}
