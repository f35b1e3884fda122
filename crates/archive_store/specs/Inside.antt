-- What a store keeps of its fields.
use Rattle.std.specs.Prelude.{◌≡◌, ℕ, IsTrue, List, [], Option, Some}
use Rattle.std.specs.List.{AllByRecursion}
use mathlib.Core.List.{IsPrefix}
use Rattle.arch_disk.specs.Disk.{Device}
use Rattle.history_items.specs.declared.fills.Fill.{Fill}
use Rattle.history_items.specs.declared.items.Item.{Item}
use Rattle.history_items.specs.Items.{databases_in, rows_in}
use Rattle.history_items.specs.Fills.{pending_fault_of}
use Rattle.disk_journal.specs.State.{unhealed_fault, count_of}
use Rattle.disk_journal.specs.declared.journal.Journal.{Journal}
use Rattle.field_codec.specs.declared.entry.Entry.TheVariants as kinds
use Rattle.field_codec.specs.Entries.{IsArchiveEntry}
use Rattle.param_segments.specs.Rows.{SetRow}
use Rattle.store_fills.specs.LastFills.{PlacedFills, fillings_in}
use Rattle.store_fills.specs.Sound.{Fillings}
use Rattle.archive_images.specs.declared.head.Head.{Head}
use Rattle.archive_images.specs.Entries.{IsArchivedRow, IsSoundArchive, filled_archive}
use Rattle.archive_store.specs.PlainLog.{RowsInvariant}
use Rattle.archive_images.specs.Stands.{StandsFilled}
use Rattle.archive_store.specs.StoreView.{StoreView, FaultInvariant}

-- what contracts see of a store: the disk now and as it was opened, the journal's records, the head, the exponent of
-- the intervals, the history, what happened to fills, and the fills that are there; no row stands in a run yet
abbrev pub view_of : {D : Type 0} → D → D → Journal → Head → ℕ → List Item → List Fill → PlacedFills → StoreView D
view_of disk opened journal head exponent history fills filled = record {
  history = history;
  fills = fills;
  filled = filled;
  head = head;
  exponent = exponent;
  records = count_of journal;
  disk = disk;
  opened = opened;
  sealed = 0;
}

-- what a crash leaves and what the log holds, by the archive of the opening, and how journal, head and faults go
-- together; a journal that wants a heal does so for the first failed write that is pending. Nothing adds a database
-- yet.
pub record StoreInvariant {D : Type 0} (device : Device D) (disk opened : D) (journal : Journal) (head : Head)
    (exponent : ℕ) (history : List Item) (fills : List Fill)
    (filled : PlacedFills) (pending_fault : Option ℕ) : Type 0 where
  pub faults : FaultInvariant device (view_of disk opened journal head exponent history fills filled)
  pub before : List Item
  pub fillings : Fillings (List SetRow)
  pub begins : IsPrefix before history
  pub opening : IsTrue device.is_transparent →
      StandsFilled (device.reads opened) (filled_archive head exponent before fillings)
  pub sound : IsTrue device.is_transparent → IsSoundArchive (filled_archive head exponent before fillings) →
      IsSoundArchive (filled_archive head exponent history (fillings_in filled))
  pub archives : RowsInvariant device (view_of disk opened journal head exponent history fills filled) journal
      (filled_archive head exponent before fillings)
  pub pending_fault_is : pending_fault ≡ pending_fault_of fills
  pub journal_fault : (faults : ℕ) → unhealed_fault journal ≡ Some faults → pending_fault_of fills ≡ Some faults
  pub head_is : IsArchiveEntry (kinds.Head head.tables head.mdb)
  pub rows : AllByRecursion (IsArchivedRow head history) (rows_in history)
  pub alone : databases_in history ≡ []
