-- A turn leaves the share of its pass.
use Rattle.std.proofs.Common.{◌≡◌, ap}
use Rattle.arch_disk.specs.Disk.{Device}
use Rattle.history_items.specs.declared.fills.Fill.{Fill}
use Rattle.history_items.specs.declared.items.Item.{Item}
use Rattle.turn_cell.specs.Pass.{PassView}
use Rattle.archive_store.specs.StoreView.{StoreView}
use Rattle.live_archive.specs.Turns.{TookTurn}

pub same_share : {D T : Type 0} {device : Device D} {first : StoreView D} {old new : PassView Item Fill T} {Said : StoreView D → StoreView D → Type 0}
    → TookTurn device first old new Said → new.share ≡ old.share
same_share turn = ap (λ p. p.share) turn.turned.pass
