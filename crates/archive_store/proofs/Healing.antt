-- What a store keeps over a reopen.
use Rattle.std.proofs.Common.{◌≡◌, ℕ, ◌≤◌, List, Option, Some, None, sym, ◌∙◌, subst, arith}
use Rattle.std.specs.Prelude.{IsTrue}
use Rattle.arch_disk.specs.Disk.{Device, IsOldBut, LeavesOnly}
use Rattle.arch_disk.proofs.Moments.{weakens}
use Rattle.history_items.specs.declared.fills.Fill.{Fill}
use Rattle.history_items.specs.declared.fills.Addition.{Addition}
use Rattle.history_items.specs.declared.items.Item.{Item}
use Rattle.history_items.specs.Fills.{rows_of_faults, pending_fault_of, reopened, above, unacknowledged_in}
use Rattle.history_items.proofs.FillLists.{pending_fault_of-reopened, rows_of_faults-reopened, Rising-reopened, Rising-later}
use Rattle.disk_journal.specs.Format.{IsBeforeOrAfter}
use Rattle.disk_journal.specs.State.{HasOnDisk as JournalHasOnDisk}
use Rattle.disk_journal.specs.State.{unhealed_fault, file_of}
use Rattle.disk_journal.specs.declared.journal.Journal.{Journal}
use Rattle.field_codec.specs.Spelling.{entry_octets}
use Rattle.archive_images.specs.declared.head.Head.{Head}
use Rattle.store_fills.specs.LastFills.{PlacedFills, fillings_in}
use Rattle.archive_images.specs.Entries.{FilledArchive, archive, filled_archive, Applies}
use Rattle.archive_images.specs.Images.{ArchiveInvariant, IsPlainLog}
use Rattle.archive_store.specs.Inside.{StoreInvariant}
use Rattle.archive_store.specs.PlainLog.{IsSinceArchive}
use Rattle.archive_images.specs.Unacknowledged.{IsUnacknowledged}
use Rattle.archive_store.specs.StoreView.{IsNow}
use Rattle.archive_store.proofs.Kept.{unacknowledged_in_faults}
use Rattle.archive_images.proofs.OneJournal as one
use Rattle.archive_images.proofs.PlainImages.{plain_lower}
use Rattle.archive_store.proofs.PlainLog.{PlainNow, now_for, found_whole, found_unacknowledged}

module _ {D : Type 0} (device : Device D) where
  -- a crash during the call leaves what it might have left before
  pub heal_moments : (disk new opened : D) (journal : Journal) (head : Head) (exponent : ℕ) (history : List Item) (fills : List Fill) (filled : PlacedFills) (pending_fault : Option ℕ)
      → StoreInvariant device disk opened journal head exponent history fills filled pending_fault
      → (IsTrue device.is_transparent → (bodies : List (List ℕ)) (pending : List ℕ) → JournalHasOnDisk device journal bodies pending disk
      → LeavesOnly device disk new (λ c. IsBeforeOrAfter bodies pending (c (file_of journal))))
      → LeavesOnly device disk new (IsOldBut device (file_of journal) disk)
      → (unhealed_fault journal ≡ None → new ≡ disk)
      → IsTrue device.is_transparent → LeavesOnly device disk new (PlainNow (filled_archive head exponent history (fillings_in filled)) (unacknowledged_in fills))
  heal_moments disk new opened journal head exponent history fills filled pending_fault k run elsewhere no_call transparent =
      one.heal_moments entry_octets Applies IsPlainLog plain_lower device disk new opened journal (filled_archive head exponent history (fillings_in filled)) (IsUnacknowledged (filled_archive head exponent history (fillings_in filled)) (unacknowledged_in fills))
      (IsSinceArchive (filled_archive head exponent k.before k.fillings) (archive head exponent history) (rows_of_faults fills)) k.archives run elsewhere no_call transparent

  -- as contracts say it
  pub moments_for : (disk new : D) (now : FilledArchive) (pending : Option Addition) → LeavesOnly device disk new (PlainNow now pending) → LeavesOnly device disk new (IsNow now pending)
  moments_for disk new now pending moments = weakens device disk new _ _ moments (now_for now pending)

  pub kept_healed : (disk new opened : D) (journal next : Journal) (head : Head) (exponent : ℕ) (history : List Item) (fills : List Fill) (filled : PlacedFills) (pending_fault : Option ℕ)
      → StoreInvariant device disk opened journal head exponent history fills filled pending_fault
      → (IsTrue device.is_transparent → LeavesOnly device disk new (PlainNow (filled_archive head exponent history (fillings_in filled)) (unacknowledged_in fills)))
      → (IsTrue device.is_transparent → (bodies : List (List ℕ)) (pending : List ℕ) → JournalHasOnDisk device journal bodies pending disk → JournalHasOnDisk device next bodies pending new)
      → LeavesOnly device disk new (IsOldBut device (file_of journal) disk)
      → file_of next ≡ file_of journal
      → unhealed_fault next ≡ None
      → device.fault_count disk ≤ device.fault_count new
      → device.failed_writes disk ≤ device.failed_writes new
      → StoreInvariant device new opened next head exponent history (reopened fills) filled None
  kept_healed disk new opened journal next head exponent history fills filled pending_fault k moments keeps elsewhere file no_pending_fault later writes =
      let now : FilledArchive = filled_archive head exponent history (fillings_in filled) in
      let before : FilledArchive = filled_archive head exponent k.before k.fillings in record {
        faults = record {
          rising = Rising-reopened fills (above (device.fault_count opened)) (device.fault_count new) (Rising-later fills (above (device.fault_count opened)) (device.fault_count disk) (device.fault_count new) later k.faults.rising);
          later = omega (arith, k.faults.later, later);
          writes_later = omega (arith, k.faults.writes_later, writes);
          wrote = λ faults is. absurd (none_stands faults is);
        };
        before = k.before;
        fillings = k.fillings;
        begins = k.begins;
        opening = k.opening;
        sound = k.sound;
        archives = subst (λ (l : List (List Item)). ArchiveInvariant entry_octets Applies IsPlainLog device new opened next now (IsUnacknowledged now (unacknowledged_in (reopened fills))) (IsSinceArchive before (archive head exponent history) l))
            (sym (rows_of_faults-reopened fills))
            (one.kept_healed entry_octets Applies IsPlainLog plain_lower device disk new opened journal next now (IsUnacknowledged now (unacknowledged_in fills))
            (IsUnacknowledged now (unacknowledged_in (reopened fills))) (IsSinceArchive before (archive head exponent history) (rows_of_faults fills)) k.archives moments keeps elsewhere
            file no_pending_fault (λ transparent. found_whole before head exponent history (fillings_in filled) (rows_of_faults fills) k.begins (k.sound transparent))
            (λ transparent. found_unacknowledged before head exponent history (fillings_in filled) (rows_of_faults fills) k.begins (k.sound transparent) (unacknowledged_in fills) (unacknowledged_in_faults fills)));
        pending_fault_is = sym (pending_fault_of-reopened fills);
        journal_fault = λ faults is. absurd (cc (is, no_pending_fault));
        head_is = k.head_is;
        rows = k.rows;
        alone = k.alone;
      }
    where
      none_stands : (faults : ℕ) → pending_fault_of (reopened fills) ≡ Some faults → ⊥
      none_stands faults is = let none = pending_fault_of-reopened fills in cc (is, none)

  pub kept_unhealed : (disk new opened : D) (journal next : Journal) (head : Head) (exponent : ℕ) (history : List Item) (fills : List Fill) (filled : PlacedFills) (pending_fault : Option ℕ)
      → StoreInvariant device disk opened journal head exponent history fills filled pending_fault
      → (IsTrue device.is_transparent → LeavesOnly device disk new (PlainNow (filled_archive head exponent history (fillings_in filled)) (unacknowledged_in fills)))
      → (IsTrue device.is_transparent → (bodies : List (List ℕ)) (pending : List ℕ) → JournalHasOnDisk device journal bodies pending disk → JournalHasOnDisk device next bodies pending new)
      → LeavesOnly device disk new (IsOldBut device (file_of journal) disk)
      → file_of next ≡ file_of journal
      → unhealed_fault next ≡ unhealed_fault journal
      → device.fault_count disk ≤ device.fault_count new
      → device.failed_writes disk ≤ device.failed_writes new
      → StoreInvariant device new opened next head exponent history fills filled pending_fault
  kept_unhealed disk new opened journal next head exponent history fills filled pending_fault k moments keeps elsewhere file same later writes =
      let now : FilledArchive = filled_archive head exponent history (fillings_in filled) in
      let before : FilledArchive = filled_archive head exponent k.before k.fillings in record {
        faults = record {
          rising = Rising-later fills (above (device.fault_count opened)) (device.fault_count disk) (device.fault_count new) later k.faults.rising;
          later = omega (arith, k.faults.later, later);
          writes_later = omega (arith, k.faults.writes_later, writes);
          wrote = λ faults is. omega (arith, k.faults.wrote faults is, writes);
        };
        before = k.before;
        fillings = k.fillings;
        begins = k.begins;
        opening = k.opening;
        sound = k.sound;
        archives = one.kept_unhealed entry_octets Applies IsPlainLog plain_lower device disk new opened journal next now (IsUnacknowledged now (unacknowledged_in fills))
            (IsSinceArchive before (archive head exponent history) (rows_of_faults fills)) k.archives moments keeps elsewhere file same
            (λ transparent. found_whole before head exponent history (fillings_in filled) (rows_of_faults fills) k.begins (k.sound transparent))
            (λ transparent. found_unacknowledged before head exponent history (fillings_in filled) (rows_of_faults fills) k.begins (k.sound transparent) (unacknowledged_in fills) (unacknowledged_in_faults fills));
        pending_fault_is = k.pending_fault_is;
        journal_fault = λ faults is. k.journal_fault faults (sym same ∙ is);
        head_is = k.head_is;
        rows = k.rows;
        alone = k.alone;
      }
