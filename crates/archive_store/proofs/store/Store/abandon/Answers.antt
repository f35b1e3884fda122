use Rattle.archive_store.proofs.Installs.{goes_given_up}
use Rattle.archive_store.proofs.store.Store.abandon.Goals as goal

pub returns-clause-grows : goal.returns-clause-grows
returns-clause-grows g c = goes_given_up c.args.self.now c.give_up.new.self c.args.task.interval c.give_up.ensures
