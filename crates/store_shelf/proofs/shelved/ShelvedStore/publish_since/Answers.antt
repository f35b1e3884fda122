use Rattle.std.proofs.Common.{false, sym, subst}
use Rattle.glance_log.proofs.Chains.{follows_self}
use Rattle.store_shelf.specs.Publications.{ShelvedView}
use Rattle.store_shelf.specs.Renewing.{CameBy}
use Rattle.store_shelf.proofs.Beginning.{made_begins}
use Rattle.store_shelf.proofs.shelved.ShelvedStore.publish_since.Goals as goal

pub make-requires-clause-came : goal.make-requires-clause-came
make-requires-clause-came g c = subst (λ (v : ShelvedView g.row.D.Denot). CameBy v.store c.args.front c.args.arrivals.now) (sym c.self.view_is) c.requires

pub returns-in-Err-clause-later : goal.returns-in-Err-clause-later
returns-in-Err-clause-later g c = rw (c.make.ensures.shown) (rw (← c.self.view_is) (follows_self c.self.inside.shelf.shown))

pub invariant_of-result-2 : goal.invariant_of-result-2
invariant_of-result-2 g c = rw (c.show-shelf.ensures.made, c.in_default.ensures.made) (made_begins false c.self.inside.shelf.made c.self.inside.store c.self.invariant)
