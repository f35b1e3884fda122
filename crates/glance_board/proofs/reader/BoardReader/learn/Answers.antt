use Rattle.std.proofs.Common.{◌∙◌, sym, subst}
use Rattle.glance_log.specs.Sightings.{Sighting, IsFollowedBy}
use Rattle.glance_board.proofs.Following.{earlier_seen}
use Rattle.glance_board.proofs.reader.BoardReader.learn.Goals as goal

pub invariant_of-self : goal.invariant_of-self
invariant_of-self g c =
    let before = c.again-before.result in
    let now = c.self-2.inside.sight in
    let seen : IsFollowedBy c.args.self.now now = subst (IsFollowedBy c.args.self.now) (sym c.self-2.view_is) c.look.ensures.later in
    let later : IsFollowedBy before now = subst (λ (s : Sighting g.row.X.Denot). IsFollowedBy s now) (sym (c.again-before.ensures ∙ c.self.view_is)) seen in
    earlier_seen c.self-2.inside.seat (λ seat. seat.place.me.0.client) before now later c.self-2.invariant
