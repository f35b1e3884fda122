use Rattle.mdb_items.proofs.Records.{length-parts}
use Rattle.mdb_items.proofs.sheet.SheetRecord.len.Goals as goal
use Rattle.std.proofs.Common.{refl}

pub returns : goal.returns
returns c = rw (← c.self.view_is, length-parts c.self.inside.start c.self.inside.ends.now c.self.inside.octets.now) refl
