-- That a store in turns may go to another thread.
use denote.RattleType.{RattleType}
use denote.Param.Send.{IsSend, sendable}
use Rattle.std.proofs.Crossing.{crosses}
use Rattle.arch_disk.specs.declared.disk.Disk as disk
use Rattle.archive_store.proofs.Sending.{store_send}
use Rattle.store_shelf.proofs.shelf.StoreShelf.TheSendSync as store_shelf
use Rattle.store_shelf.specs.contracts.shelf.StoreShelf as StoreShelf
use Rattle.live_archive.specs.contracts.held.HeldStore as HeldStore

-- what is published holds nothing of the disk
shelf_send : (D : RattleType) (device : disk.Ghosts D.Denot) → IsSend (StoreShelf.the_row D device)
shelf_send D device = search (store_shelf.the_send, crosses, sendable) depth 60

-- it may go where its disk may
pub held_send : (D : RattleType) (device : disk.Ghosts D.Denot) → IsSend D → IsSend (HeldStore.the_row D device)
held_send D device sent = search (crosses, store_send, shelf_send, sendable) depth 60
