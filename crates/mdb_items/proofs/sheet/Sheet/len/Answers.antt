use Rattle.std.proofs.Common.{ap, length}
use Rattle.mdb_items.specs.Records.{parts_from}
use Rattle.mdb_items.proofs.Records.{length-parts}
use Rattle.mdb_items.proofs.sheet.Sheet.len.Goals as goal

pub returns : goal.returns
returns c =
    rw (← c.self.view_is, length-parts 0 c.self.inside.record_ends.items (parts_from 0 c.self.inside.field_ends.items c.self.inside.octets.items))
    (ap length c.as_slice.ensures.value)
