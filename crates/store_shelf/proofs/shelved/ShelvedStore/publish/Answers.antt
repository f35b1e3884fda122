use Rattle.std.proofs.Common.{◌≤◌, [], length, subst, arith}
use Rattle.store_shelf.specs.Publications.{ShelvedView}
use Rattle.store_shelf.proofs.Renewing.{came_none}
use Rattle.store_shelf.proofs.shelved.ShelvedStore.publish.Goals as goal

pub publish_since-requires : goal.publish_since-requires
publish_since-requires g c =
    let all : length c.self.inside.store.history ≤ c.front-front.result = omega (arith, c.front-front.ensures) in
    came_none c.args.self.store c.front-front.result [] (subst (λ (v : ShelvedView g.row.D.Denot). length v.store.history ≤ c.front-front.result) c.self.view_is all)
