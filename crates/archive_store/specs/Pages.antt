-- Rows of a store that stand on pages of its disk.
use Rattle.std.specs.Prelude.{◌<◌, ◌==◌, ◌||◌, Bool, IsTrue}
use Rattle.arch_disk.specs.Disk.{Device}
use Rattle.archive_store.specs.StoreView.{StoreView}

-- rows of a store stand in runs, on pages of its disk
abbrev pub HasPages : {D : Type 0} → StoreView D → Type 0
HasPages store = 0 < store.sealed

-- a store tells its rows: where some stand on pages, its disk tells what it holds
abbrev pub TellsRows : {D : Type 0} → Device D → StoreView D → Type 0
TellsRows device store = HasPages store → IsTrue device.is_transparent

-- whether it does
abbrev pub is_told : {D : Type 0} → Device D → StoreView D → Bool
is_told device store = (store.sealed == 0) || device.is_transparent
