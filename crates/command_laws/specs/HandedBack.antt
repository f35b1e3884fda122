-- The archive that a call hands back, with its fills.
use Rattle.std.specs.Prelude.{◌≡◌, List, []}
use Rattle.arch_disk.specs.Image.{Image}
use Rattle.arch_disk.specs.Disk.{Device}
use Rattle.history_items.specs.declared.items.Item.{Item}
use Rattle.param_segments.specs.Rows.{SetRow}
use Rattle.store_fills.specs.Sound.{Fillings}
use Rattle.archive_store.specs.AddedFills.{AddsRightFills}
use Rattle.archive_store.specs.Entries.{FilledArchive}
use Rattle.archive_store.specs.LateFills.{late_in_archive}
use Rattle.archive_store.specs.Stands.{StandsFilled}
use Rattle.command_runs.specs.Extension.{filled_at}
use Rattle.command_laws.specs.Calls.{Call}

-- The disk that is handed back, as it reads, and each image that a crash now leaves stand for this history with these
-- fills: those that the archive before had, but where a late interval got one that holds what its rows give.
pub record IsHandedBack {D : Type 0} (device : Device D) (e : Call D) (before : FilledArchive)
    (history : List Item) : Type 0 where
  pub fillings : Fillings (List SetRow)
  pub adds : AddsRightFills before.plain.head before.plain.exponent history before.fillings fillings
  pub reads : StandsFilled (device.reads e.disk') (filled_at before history fillings)
  pub images : (image : Image) → device.images e.disk' image → StandsFilled image (filled_at before history fillings)

-- and no interval of it is late
pub record IsUpToDate {D : Type 0} (device : Device D) (e : Call D) (before : FilledArchive)
    (history : List Item) : Type 0 where
  pub back : IsHandedBack device e before history
  pub none_late : late_in_archive (filled_at before history back.fillings) ≡ []
