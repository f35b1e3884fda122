use Rattle.yarch_table.proofs.ByKey.{stored_left-all}
use Rattle.yarch_table.proofs.table.Table.stored_by_key.Goals as goal

pub new-requires : goal.new-requires
new-requires c = rw (c.as_slice.ensures.value, c.iter.ensures.entries) c.self.invariant.names.each

pub returns : goal.returns
returns c =
    rw (c.new.ensures, c.as_slice.ensures.value, c.iter.ensures.entries, ← c.self.view_is)
    (stored_left-all c.self.inside.stored.items c.self.inside.index.entries c.self.invariant.names)
