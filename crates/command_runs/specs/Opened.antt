-- A store whose archive was opened, and to which nothing was done since.
use Rattle.std.specs.Prelude.{◌≡◌}
use Rattle.arch_disk.specs.Disk.{Device, LeavesOnly}
use Rattle.archive_store.specs.Calls.{IsStoreOpened}
use Rattle.archive_store.specs.StoreView.{StoreView}
use Rattle.disk_journal.specs.Calls.{CountsNeverFall}

-- It was opened on this disk, as `Store::open` says: it is what the disk stands for, the disk reads as it did, and up to
-- the opening's syncs a crash leaves what it could have left before.
pub record IsOpenedOn {D : Type 0} (device : Device D) (disk : D) (store : StoreView D) : Type 0 where
  pub opened : IsStoreOpened device disk store
  pub reads : device.reads store.disk ≡ device.reads disk
  pub crash : LeavesOnly device disk store.opened (device.images disk)
  pub counts : CountsNeverFall device disk store.opened

-- it was opened on some disk
abbrev pub WasOpened : {D : Type 0} → Device D → StoreView D → Type 0
WasOpened {D = D} device store = (disk : D) × IsOpenedOn device disk store
