use Rattle.std.proofs.Common.{w64}
use Rattle.std.proofs.lemmas.Int.{to_z-of_z}
use Rattle.yarch_table.specs.Index.{IsEntryOf}
use Rattle.yarch_table.proofs.Ranged.{rows_left-between, from_names, first_key}
use Rattle.yarch_table.proofs.table.Table.range_at.Goals as goal

pub new-requires : goal.new-requires
new-requires c =
    let from = to_z-of_z w64 c.args.from c.ranges.from in
    let entries = rw (c.of.ensures, from) at c.from_key-entries.ensures.entries in
    record {
      each = rw (c.as_slice.ensures.value, entries) (from_names (IsEntryOf c.self.inside.stored.items) (first_key c.args.from) c.self.inside.index.entries c.self.invariant.names.each);
      rising = c.from_key-entries.ensures.rising;
    }

pub returns : goal.returns
returns c =
    let from = to_z-of_z w64 c.args.from c.ranges.from in
    let to = to_z-of_z w64 c.args.to c.ranges.to in
    rw (c.new.ensures, c.as_slice.ensures.value, c.from_key-entries.ensures.entries, c.of.ensures, from, to, ← c.self.view_is)
    (rows_left-between c.self.inside.stored.items c.args.front c.args.from c.args.to c.self.inside.index.entries c.self.invariant.names)
