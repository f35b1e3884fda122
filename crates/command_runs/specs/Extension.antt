-- What a session leaves of the disk.
use Rattle.std.specs.Prelude.{◌≡◌, ◌⊎◌, List, [], ◌∷◌, ◌++◌}
use Rattle.arch_disk.specs.Image.{Image}
use Rattle.arch_disk.specs.Disk.{Device}
use Rattle.arch_types.specs.declared.row.Row.{Row}
use Rattle.history_items.specs.declared.items.Item.{Item}
use Rattle.history_items.specs.Items.{items_of}
use Rattle.param_segments.specs.Rows.{SetRow}
use Rattle.store_fills.specs.Sound.{Fillings}
use Rattle.archive_store.specs.Entries.{FilledArchive, filled_archive}
use Rattle.archive_store.specs.Stands.{StandsFilled}
use Rattle.command_runs.specs.Durable.{FailedAtMostOnce, IsDurableAs, IsDurableWithFills}
use Rattle.archive_store.specs.AddedFills.{AddsRightFills}
use Rattle.command_runs.specs.ReadOnly.{IsOpenedThen}
use Rattle.archive_store.specs.LateFills.{late_in_archive}
use Rattle.load_session.specs.During.{IsDuring}

-- an archive with its fills at another history, with these fills
abbrev pub filled_at : FilledArchive → List Item → Fillings (List SetRow) → FilledArchive
filled_at before history fillings = filled_archive before.plain.head before.plain.exponent history fillings

-- what a failed write may have left of the new rows of a batch: all of them
abbrev pub batch_left : List Row → List (List Item)
batch_left rows = items_of rows ∷ []

-- Each image that a crash now leaves, and the disk as it reads, stands for a history with the same fills: those of the
-- archive before, but where a late interval got one that holds what its rows below a base give.
pub record KeepsFills {D : Type 0} (device : Device D) (new : D) (before : FilledArchive)
    (reached : List Item) : Type 0 where
  pub fillings : Fillings (List SetRow)
  pub adds : AddsRightFills before.plain.head before.plain.exponent reached before.fillings fillings
  pub durable : IsDurableWithFills device new (filled_at before reached fillings)

-- An archive was opened, and its history extended: each image from then on stands for one from that history to the one
-- reached, and each that a crash now leaves, and the disk as it reads, for the latter, with the fills that there were,
-- but where a late interval got one.
pub record IsExtended {D : Type 0} (device : Device D) (old new : D) (before : FilledArchive)
    (reached : List Item) : Type 0 where
  pub stands : StandsFilled (device.reads old) before
  pub images : IsOpenedThen device old new (IsDuring before.plain reached [])
  pub kept : KeepsFills device new before reached

-- It was extended so, and each late interval was filled.
pub record IsAllFilled {D : Type 0} (device : Device D) (old new : D) (before : FilledArchive)
    (reached : List Item) : Type 0 where
  pub extended : IsExtended device old new before reached
  pub none_late : late_in_archive (filled_at before reached extended.kept.fillings) ≡ []

-- The disk failed as these rows were to stand behind the history reached, and a crash now leaves it with them or
-- without, with the fills that there were, but where a late interval got one. Where it failed once it was healed: each
-- image that a crash now leaves, and the disk as it reads, stands for the history reached with these fills.
pub record IsExtensionFailed {D : Type 0} (device : Device D) (old new : D) (before : FilledArchive)
    (reached : List Item) (rows : List Row) : Type 0 where
  pub stands : StandsFilled (device.reads old) before
  pub images : IsOpenedThen device old new (IsDuring before.plain reached (batch_left rows))
  pub fillings : Fillings (List SetRow)
  pub adds : AddsRightFills before.plain.head before.plain.exponent reached before.fillings fillings
  pub now : (c : Image) → device.images new c
      → StandsFilled c (filled_at before reached fillings)
      ⊎ StandsFilled c (filled_at before (reached ++ items_of rows) fillings)
  pub durable : FailedAtMostOnce device old new → IsDurableWithFills device new (filled_at before reached fillings)

-- The disk failed at the fill of a late interval of an archive that had been extended to this: each image that a crash
-- now leaves, and the disk as it reads, stands for that history. Where it failed once it was healed: they have the
-- same fills: those that there were, but where a late interval got one.
pub record IsFillingFailed {D : Type 0} (device : Device D) (old new : D) (before : FilledArchive)
    (reached : List Item) : Type 0 where
  pub stands : StandsFilled (device.reads old) before
  pub images : IsOpenedThen device old new (IsDuring before.plain reached [])
  pub durable : IsDurableAs device new before.plain.head before.plain.exponent reached
  pub healed : FailedAtMostOnce device old new → KeepsFills device new before reached
