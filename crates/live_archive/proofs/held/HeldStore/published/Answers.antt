use Rattle.std.proofs.Common.{◌≤◌, [], length, arith}
use Rattle.store_shelf.proofs.Renewing.{came_none}
use Rattle.live_archive.proofs.held.HeldStore.published.Goals as goal

pub published_since-requires-clause-came : goal.published_since-requires-clause-came
published_since-requires-clause-came g c =
    let all : length c.args.self.store.history ≤ c.front-front.result = omega (arith, c.front-front.ensures) in
    came_none c.args.self.store c.front-front.result [] all
