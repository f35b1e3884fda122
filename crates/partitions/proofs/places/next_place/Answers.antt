use Rattle.std.proofs.Common.{refl}
use Rattle.std.proofs.lemmas.Option.{slice_get_read}
use Rattle.partitions.proofs.LastPlaces.{next_at, next_left}
use Rattle.partitions.proofs.places.next_place.Goals as goal

pub returns-clause-at : goal.returns-clause-at
returns-clause-at c =
    let links = c.args.links.now in
    let place = c.in_ok-place.field-0 in
    let link = c.index-links-place.result in
    let within = rw c.in_ok-place.was at c.requires.within in
    let is = slice_get_read links _ place link refl within c.index-links-place.is in
    rw c.earlier.ensures (next_at links place link c.requires.chained is)

pub returns-clause-taken : goal.returns-clause-taken
returns-clause-taken c =
    let links = c.args.links.now in
    let place = c.in_ok-place.field-0 in
    let link = c.index-links-place.result in
    let within = rw c.in_ok-place.was at c.requires.within in
    let is = slice_get_read links _ place link refl within c.index-links-place.is in
    rw (c.in_ok-place.was, c.earlier.ensures) (next_left links place link c.requires.chained is)
