use Rattle.std.proofs.Common.{length, ap, arith}
use Rattle.partitions.specs.Partitions.{PartitionsView}
use Rattle.partitions.proofs.LastPlaces.{length-noted}
use Rattle.partitions.proofs.partitions.Partitions.has_places.Goals as goal

pub returns : goal.returns
returns c =
    let links = c.self.inside.links in
    omega (arith, ap (λ (h : PartitionsView). length h.noted) c.self.view_is, length-noted links.items, links.ok.0, c.self.invariant.has_places)
