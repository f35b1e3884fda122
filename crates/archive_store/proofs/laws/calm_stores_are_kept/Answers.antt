use Rattle.std.proofs.Common.{Option, subst}
use Rattle.history_items.specs.declared.fills.Addition.{Addition}
use Rattle.archive_store.specs.StoreView.{IsNow}
use Rattle.archive_store.proofs.Kept.{none_unacknowledged}
use Rattle.archive_store.proofs.PlainLog.{now_calm}
use Rattle.archive_store.proofs.laws.calm_stores_are_kept.Goals as goal

pub returns : goal.returns
returns c filled fills image calm is = now_calm filled image (subst (λ (o : Option Addition). IsNow filled o image) (none_unacknowledged fills calm) is)
