use Rattle.std.proofs.Common.{ap, sym}
use Rattle.archive_store.specs.StoreView.{StoreView}
use Rattle.archive_store.proofs.store.Store.all_in_memory.Goals as goal

pub returns : goal.returns
returns g c = sym (ap (λ (x : StoreView g.row.D.Denot). x.sealed) c.self.view_is)
