-- The archive of rows over the general form: file 0 is the log, and what a failed write may have left are the rows
-- that a fault holds.
use Rattle.std.specs.Prelude.{◌≡◌, ◌⊎◌, List, ◌++◌, Contains}
use mathlib.Core.List.{IsPrefix}
use Rattle.arch_disk.specs.Disk.{Device}
use Rattle.history_items.specs.Fills.{rows_of_faults, unacknowledged_in}
use Rattle.history_items.specs.declared.items.Item.{Item}
use Rattle.disk_journal.specs.declared.journal.Journal.{Journal}
use Rattle.field_codec.specs.Spelling.{entry_octets}
use Rattle.archive_images.specs.Entries.{Archive, FilledArchive, IsSoundArchive, archive, Applies}
use Rattle.archive_images.specs.Images.{ArchiveInvariant, IsPlainLog}
use Rattle.archive_store.specs.StoreView.{StoreView, archive_of, filled_of}
use Rattle.archive_images.specs.Unacknowledged.{IsUnacknowledged}

-- An archive of a prefix of the history that holds the history of the opening, or of such a prefix followed by the rows
-- that one fault holds. Its fills are sound if those of the opening were.
pub record IsSinceArchive (before : FilledArchive) (now : Archive) (in_faults : List (List Item))
    (found : FilledArchive) : Type 0 where
  pub kept : List Item
  pub holds : IsPrefix before.plain.history kept
  pub begins : IsPrefix kept now.history
  pub found_is : (found.plain ≡ archive now.head now.exponent kept)
      ⊎ ((more : List Item) × Contains in_faults more × (found.plain ≡ archive now.head now.exponent (kept ++ more)))
  pub sound : IsSoundArchive before → IsSoundArchive found

-- what a store keeps of its log and of its images, by the archive of the opening
abbrev pub RowsInvariant : {D : Type 0} → Device D → StoreView D → Journal → FilledArchive → Type 0
RowsInvariant device store journal before =
    ArchiveInvariant entry_octets Applies IsPlainLog device store.disk store.opened journal (filled_of store)
    (IsUnacknowledged (filled_of store) (unacknowledged_in store.fills))
    (IsSinceArchive before (archive_of store) (rows_of_faults store.fills))
