use Rattle.std.proofs.Common.{length, refl}
use Rattle.mdb_items.proofs.Records.{bounds_at, part_in, part_past}
use Rattle.mdb_items.proofs.sheet.SheetRecord.field.Goals as goal

pub returns-then-place-self : goal.returns-then-place-self
returns-then-place-self c =
    rw (c.as_slice.ensures, ← c.self.view_is, part_past c.self.inside.start c.self.inside.ends.now c.self.inside.octets.now c.args.place c.if-place-self.true) refl

pub slice-requires : goal.slice-requires
slice-requires c =
    rw c.start_of.ensures
    (bounds_at c.self.inside.start c.self.inside.ends.now (length c.self.inside.octets.now) c.args.place c.self.invariant c.if-place-self.false)

pub returns : goal.returns
returns c =
    rw (c.slice.ensures, c.start_of.ensures, ← c.self.view_is, part_in c.self.inside.start c.self.inside.ends.now c.self.inside.octets.now c.args.place c.if-place-self.false) refl
