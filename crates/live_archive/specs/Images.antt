-- What power lost while turns go on leaves.
use Rattle.std.specs.Prelude.{◌≡◌, ◌⊎◌, List, ◌++◌, Some}
use mathlib.Core.List.{IsPrefix}
use Rattle.arch_disk.specs.Image.{Image}
use Rattle.arch_disk.specs.Disk.{Device, LeavesOnly}
use Rattle.arch_types.specs.declared.row.Row.{Row}
use Rattle.history_items.specs.declared.fills.Addition.TheVariants.{Rows}
use Rattle.history_items.specs.declared.items.Item.{Item}
use Rattle.history_items.specs.Fills.{unacknowledged_in}
use Rattle.history_items.specs.Items.{items_of}
use Rattle.archive_store.specs.Entries.{archive}
use Rattle.archive_store.specs.Stands.{StandsFor}
use Rattle.archive_store.specs.StoreView.{StoreView, OnlyAppends}

-- a history is that of a store, with the rows that a failed write holds which is pending
abbrev pub HasPendingRows : {D : Type 0} → StoreView D → List Item → Type 0
HasPendingRows store history =
    (rows : List Row) × (unacknowledged_in store.fills ≡ Some (Rows rows)) × (history ≡ store.history ++ items_of rows)

-- An image between two stores: it stands for a history from that of the first one to that of the other, or for the
-- latter with the rows of a pending write. That its fills are sound is kept by the type of a store.
pub record IsBetween {D : Type 0} (start now : StoreView D) (image : Image) : Type 0 where
  pub history : List Item
  pub holds : IsPrefix start.history history
  pub within : IsPrefix history now.history ⊎ HasPendingRows now history
  pub stands : StandsFor image (archive start.head start.exponent history)

-- power lost at any moment from one store on to another leaves such an image
pub record LeavesBetween {D : Type 0} (device : Device D) (start now : StoreView D) : Type 0 where
  pub appends : OnlyAppends start now
  pub images : LeavesOnly device start.disk now.disk (IsBetween start now)
