use Rattle.yarch_table.proofs.RowsLeft.{rows_left-all}
use Rattle.yarch_table.proofs.table.Table.rows_at.Goals as goal

pub returns : goal.returns
returns c =
    rw (c.new.ensures, c.as_slice.ensures.value, c.iter.ensures.entries, ← c.self.view_is)
    (rows_left-all c.self.inside.stored.items c.args.front c.self.inside.index.entries c.self.invariant.names)
