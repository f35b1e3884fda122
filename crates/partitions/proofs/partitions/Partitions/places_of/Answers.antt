use Rattle.std.proofs.Common.{◌≡◌, ap, ◌∙◌, arith}
use Rattle.std.specs.Prelude.{length}
use Rattle.partitions.specs.Partitions.{PartitionsView}
use Rattle.partitions.specs.Places.{places_in, last_place_below}
use Rattle.partitions.specs.Links.{noted_in}
use Rattle.partitions.proofs.LastPlaces.{at_last, up_to_last, length-noted}
use Rattle.partitions.proofs.partitions.Partitions.places_of.Goals as goal

pub new-requires : goal.new-requires
new-requires c =
    let links = c.self.inside.links.items in
    let last : c.get.result ≡ last_place_below (length (noted_in links)) c.args.partition (noted_in links) = c.get.ensures ∙ c.self.invariant.indexed.last c.args.partition in
    rw (c.as_slice.ensures.value, last) (at_last (length (noted_in links)) c.args.partition links c.self.invariant.chained (omega (arith, length-noted links)))

pub returns : goal.returns
returns c =
    let links = c.self.inside.links.items in
    let last : c.get.result ≡ last_place_below (length (noted_in links)) c.args.partition (noted_in links) = c.get.ensures ∙ c.self.invariant.indexed.last c.args.partition in
    let held = ap (λ (h : PartitionsView). places_in c.args.partition h.noted) c.self.view_is in
    rw (c.new.ensures, c.as_slice.ensures.value, last) (up_to_last (length (noted_in links)) c.args.partition links ∙ held)
