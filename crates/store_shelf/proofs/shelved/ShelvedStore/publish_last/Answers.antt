use Rattle.std.proofs.Common.{true}
use Rattle.glance_log.proofs.Chains.{follows_self}
use Rattle.store_shelf.proofs.Beginning.{made_begins}
use Rattle.store_shelf.proofs.shelved.ShelvedStore.publish_last.Goals as goal

pub returns-in-Err-clause-later : goal.returns-in-Err-clause-later
returns-in-Err-clause-later g c = rw (c.make_last.ensures.shown) (rw (← c.self.view_is) (follows_self c.self.inside.shelf.shown))

pub invariant_of-result-2 : goal.invariant_of-result-2
invariant_of-result-2 g c = rw (c.show-shelf.ensures.made, c.in_default.ensures.made) (made_begins true c.self.inside.shelf.made c.self.inside.store c.self.invariant)
