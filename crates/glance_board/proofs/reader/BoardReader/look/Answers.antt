use Rattle.std.proofs.Common.{◌≡◌, [], ◌∷◌, Option, sym, subst}
use Rattle.std.specs.Prelude.{IfSome}
use Rattle.glance_log.specs.Sightings.{Sighting}
use Rattle.glance_board.specs.Rules.{HasSeen}
use Rattle.glance_board.proofs.Following.{has_seen}
use Rattle.glance_board.proofs.reader.BoardReader.look.Goals as goal

pub invariant_of-self-2 : goal.invariant_of-self-2
invariant_of-self-2 g c =
    let v = c.listing_at-seat.result.0.place.me.0.client in
    let there : v.seen ≡ c.in_ok-listing.listing ∷ [] = subst (λ (o : Option (Sighting g.row.X.Denot)). IfSome o (λ l. v.seen ≡ l ∷ [])) c.in_ok-listing.was c.listing_at-seat.ensures.there in
    subst (HasSeen v) (sym c.sight.ensures) (has_seen v c.in_ok-listing.listing there)
