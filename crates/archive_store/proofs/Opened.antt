-- What a store keeps once it is made or opened.
use Rattle.std.proofs.Common.{◌≡◌, ◌⊎◌, inl, inr, ℕ, List, [], ◌∷◌, map, Option, Some, None, refl, sym, ◌∙◌, ap, subst, arith}
use Rattle.std.specs.Prelude.{IsTrue}
use Rattle.std.specs.List.{AllByRecursion}
use Rattle.arch_disk.specs.Image.{Image}
use Rattle.arch_disk.specs.Disk.{Device, IsDurable, LeavesOnly, OnlyReads}
use Rattle.arch_disk.proofs.Moments.{weakens, started}
use Rattle.history_items.specs.declared.fills.Fill.{Fill}
use Rattle.history_items.specs.Fills.{above, pending_fault_of, rows_of_faults}
use Rattle.store_fills.specs.Faults.{IsDone}
use Rattle.history_items.specs.declared.items.Item.{Item}
use Rattle.history_items.specs.Items.{databases_in}
use Rattle.store_fills.proofs.Faults.{Rising-done, faults_in-done, pending_fault_of-in}
use Rattle.disk_journal.specs.Format.{HasRecords, HoldsNone}
use Rattle.disk_journal.specs.State.{HasOnDisk as JournalHasOnDisk}
use Rattle.disk_journal.specs.State.{StateIs, faults_of, unhealed_fault, file_of}
use Rattle.disk_journal.specs.declared.journal.Journal.{Journal}
use Rattle.disk_journal.specs.declared.journal.PendingFault.{PendingFault}
use Rattle.disk_journal.specs.declared.journal.PendingFault.TheVariants.{Absent, GateClosed, GateWritten}
use Rattle.field_codec.specs.declared.entry.Entry.TheVariants as entries
use Rattle.field_codec.specs.Entries.{IsArchiveEntry}
use Rattle.intervals.specs.Interval.{format_1_exponent}
use Rattle.field_codec.specs.Spelling.{entry_octets}
use Rattle.archive_images.specs.declared.head.Head.{Head}
use Rattle.param_segments.specs.Rows.{SetRow}
use Rattle.store_fills.specs.LastFills.{PlacedFills, fillings_in}
use Rattle.store_fills.specs.Sound.{Filling, Fillings, no_fillings}
use Rattle.archive_images.specs.Entries.{FilledArchive, IsSoundArchive, filled_archive, HasArchivedRows, Replays}
use Rattle.archive_images.specs.Stands.{IsSoundImage, StandsFilled}
use Rattle.archive_store.specs.Calls.{IsCreateImage}
use Rattle.archive_reading.specs.PartialArchive.{IsReadArchive}
use Rattle.archive_store.specs.Inside.{StoreInvariant}
use Rattle.archive_images.proofs.PendingFaults.{without_fault_state, keeps_without_fault, prefix_self}
use Rattle.archive_images.proofs.Exact.{filled_once}
use Rattle.archive_images.proofs.PlainImages.{StandsPlain, stands_over}
use Rattle.archive_store.proofs.PlainLog.{found_whole}

pub stands_found : (image : Image) (content : List ℕ) (journal : Journal) (a : FilledArchive) → image 0 ≡ content → IsReadArchive content journal a → StandsFilled image a
stands_found image content journal a is found = record { entries = found.entries; has = subst (λ (l : List ℕ). HasRecords l (map entry_octets found.entries)) (sym is) found.has; replays = found.replays }

-- the entry of a head
abbrev pub head_octets : Head → List ℕ
head_octets head = entry_octets (entries.Head head.tables head.mdb)

pub replays_head : (head : Head) → IsArchiveEntry (entries.Head head.tables head.mdb) → Replays None (entries.Head head.tables head.mdb ∷ []) (Some (filled_archive head format_1_exponent [] no_fillings))
replays_head head fits = (filled_archive head format_1_exponent [] no_fillings, (fits, refl), refl)

-- an image with a head alone
pub stands_head : (c : Image) (head : Head) → IsArchiveEntry (entries.Head head.tables head.mdb) → HasRecords (c 0) (head_octets head ∷ []) → StandsFilled c (filled_archive head format_1_exponent [] no_fillings)
stands_head c head fits has = record { entries = entries.Head head.tables head.mdb ∷ []; has = has; replays = replays_head head fits }

-- without fills an archive is sound
none_sound : (head : Head) → IsSoundArchive (filled_archive head format_1_exponent [] no_fillings)
none_sound head = record { within = λ i f is. absurd (never f is); each = λ i f is none. absurd (never f is) }
  where
    never : (f : Filling (List SetRow)) → ◌≡◌ {A = Option (Filling (List SetRow))} None (Some f) → ⊥
    never f is = cc

-- an image of the making
pub making : (before : Image → Type 0) (head : Head) (c : Image) → IsArchiveEntry (entries.Head head.tables head.mdb) → before c ⊎ (HoldsNone (c 0) ⊎ HasRecords (c 0) (head_octets head ∷ [])) → IsCreateImage before head c
making before head c fits (inl was) = inl was
making before head c fits (inr (inl none)) = inr (inl none)
making before head c fits (inr (inr has)) = inr (inr (record { filled = filled_archive head format_1_exponent [] no_fillings; plain_is = refl; stands = stands_head c head fits has }))

module _ {D : Type 0} (device : Device D) where
  -- reading it leaves what was read
  pub stands_since : (disk opened : D) (journal : Journal) (a : FilledArchive) → IsReadArchive (device.reads opened 0) journal a → IsDurable device 0 (device.reads opened 0) opened → OnlyReads device opened disk
      → LeavesOnly device opened disk (λ c. StandsFilled c a)
  stands_since disk opened journal a found only looked =
      weakens device opened disk (device.images opened) (λ c. StandsFilled c a) looked.moments (λ c left. stands_found c (device.reads opened 0) journal a (only c left) found)

  without_fault : (t : PendingFault) (file : ℕ) (bodies : List (List ℕ)) (disk : D) → faults_of t ≡ None → HasRecords (device.reads disk file) bodies → IsDurable device file (device.reads disk file) disk → StateIs device t file bodies [] disk
  without_fault Absent file bodies disk is has only = (has, only)
  without_fault (GateClosed faults) file bodies disk is has only = absurd (cc (is))
  without_fault (GateWritten faults) file bodies disk is has only = absurd (cc (is))

  pub kept_open : (disk opened : D) (journal : Journal) (head : Head) (exponent : ℕ) (history : List Item) (fills : List Fill) (filled : PlacedFills)
      → databases_in history ≡ []
      → IsArchiveEntry (entries.Head head.tables head.mdb)
      → HasArchivedRows (Some (filled_archive head exponent history (fillings_in filled)))
      → (IsTrue device.is_transparent → IsReadArchive (device.reads opened 0) journal (filled_archive head exponent history (fillings_in filled)))
      → AllByRecursion IsDone fills
      → unhealed_fault journal ≡ None
      → file_of journal ≡ 0
      → IsDurable device 0 (device.reads opened 0) opened
      → OnlyReads device opened disk
      → StoreInvariant device disk opened journal head exponent history fills filled None
  kept_open disk opened journal head exponent history fills filled alone fits rows found done no_pending_fault file only looked = record {
    faults = record {
      rising = Rising-done fills (above (device.fault_count opened)) (device.fault_count disk) done;
      later = looked.later;
      writes_later = omega (arith, looked.no_write);
      wrote = λ faults is. absurd (none faults is);
    };
    before = history;
    fillings = fillings_in filled;
    begins = prefix_self history;
    opening = λ transparent. stands_found (device.reads opened) (device.reads opened 0) journal (filled_archive head exponent history (fillings_in filled)) refl (found transparent);
    sound = λ transparent was. was;
    archives = record {
      images = λ transparent. record {
        now = λ c left. inl (stands transparent c (only c (looked.images c left)));
        since = weakens device opened disk _ _ looked.moments (λ c left. record { found = filled_archive head exponent history (fillings_in filled); stands = stands transparent c (only c left); holds = found_whole (filled_archive head exponent history (fillings_in filled)) head exponent history (fillings_in filled) (rows_of_faults fills) (prefix_self history) (λ was. was) });
      };
      log = λ transparent. let f = found transparent in record {
        beginning = [];
        base = None;
        entries = f.entries;
        pending = [];
        has_base = λ c left. (file, refl, refl);
        replays = f.replays;
        keeps = record {
          extents = f.extents;
          end = f.end;
          state = subst (λ (n : ℕ). StateIs device journal.pending_fault n (map entry_octets f.entries) [] disk) (sym file)
              (without_fault journal.pending_fault 0 (map entry_octets f.entries) disk no_pending_fault
              (subst (λ (l : List ℕ). HasRecords l (map entry_octets f.entries)) (sym (same_file 0)) f.has)
              (λ c left. only c (looked.images c left) ∙ sym (same_file 0)));
        };
        unacknowledged = λ faults is. absurd (cc (is, no_pending_fault));
      };
    };
    pending_fault_is = sym none_pending;
    journal_fault = λ faults is. absurd (cc (is, no_pending_fault));
    head_is = fits;
    rows = rows;
    alone = alone;
  }
    where
      none_pending : pending_fault_of fills ≡ None
      none_pending = pending_fault_of-in fills ∙ ap pending_fault_of (faults_in-done fills done)

      none : (faults : ℕ) → pending_fault_of fills ≡ Some faults → ⊥
      none faults is = let empty = none_pending in cc (is, empty)

      same_file : (f : ℕ) → device.reads disk f ≡ device.reads opened f
      same_file f = ap (λ (x : Image). x f) looked.reads_same

      stands : IsTrue device.is_transparent → (c : Image) → c 0 ≡ device.reads opened 0 → StandsPlain c (filled_archive head exponent history (fillings_in filled))
      stands transparent c is = stands_over c (filled_archive head exponent history (fillings_in filled)) (stands_found c (device.reads opened 0) journal (filled_archive head exponent history (fillings_in filled)) is (found transparent))

  -- an archive that was just made
  pub kept_made : (disk : D) (journal : Journal) (head : Head) (filled : PlacedFills)
      → fillings_in filled ≡ no_fillings
      → IsArchiveEntry (entries.Head head.tables head.mdb)
      → unhealed_fault journal ≡ None
      → file_of journal ≡ 0
      → (IsTrue device.is_transparent → JournalHasOnDisk device journal (head_octets head ∷ []) [] disk)
      → StoreInvariant device disk disk journal head format_1_exponent [] [] filled None
  kept_made disk journal head filled empty fits no_pending_fault file keeps = record {
    faults = record { rising = tt; later = omega arith; writes_later = omega arith; wrote = λ faults is. absurd (cc (is)) };
    before = [];
    fillings = fillings_in filled;
    begins = prefix_self [];
    opening = λ transparent. stands (device.reads disk) (without_fault_state device journal.pending_fault journal.file (head_octets head ∷ []) [] disk no_pending_fault (keeps transparent).state).0;
    sound = λ transparent was. was;
    archives = record {
      images = λ transparent. record {
        now = λ c left. inl (stands_over c (filled_archive head format_1_exponent [] (fillings_in filled)) (stands c (in_file c transparent left)));
        since = started device disk _ (λ c left. record {
          found = filled_archive head format_1_exponent [] (fillings_in filled);
          stands = stands_over c (filled_archive head format_1_exponent [] (fillings_in filled)) (stands c (in_file c transparent left));
          holds = found_whole (filled_archive head format_1_exponent [] (fillings_in filled)) head format_1_exponent [] (fillings_in filled) [] (prefix_self []) (λ was. was);
        });
      };
      log = λ transparent. record {
        beginning = [];
        base = None;
        entries = entries.Head head.tables head.mdb ∷ [];
        pending = [];
        has_base = λ c left. (file, refl, refl);
        replays = subst (λ (f : Fillings (List SetRow)). Replays None (entries.Head head.tables head.mdb ∷ []) (Some (filled_archive head format_1_exponent [] f))) (sym empty) (replays_head head fits);
        keeps = keeps transparent;
        unacknowledged = λ faults is. absurd (cc (is, no_pending_fault));
      };
    };
    pending_fault_is = refl;
    journal_fault = λ faults is. absurd (cc (is, no_pending_fault));
    head_is = fits;
    rows = tt;
    alone = refl;
  }
    where
      in_file : (c : Image) → IsTrue device.is_transparent → device.images disk c → HasRecords (c (file_of journal)) (head_octets head ∷ [])
      in_file c transparent left = keeps_without_fault device journal (head_octets head ∷ []) [] disk no_pending_fault (keeps transparent) c left

      stands : (c : Image) → HasRecords (c (file_of journal)) (head_octets head ∷ []) → StandsFilled c (filled_archive head format_1_exponent [] (fillings_in filled))
      stands c has = subst (λ (f : Fillings (List SetRow)). StandsFilled c (filled_archive head format_1_exponent [] f)) (sym empty) (stands_head c head fits (subst (λ (f : ℕ). HasRecords (c f) (head_octets head ∷ [])) file has))

  -- whose fills, of which there is none, are sound
  pub made_sound : (disk : D) (journal : Journal) (head : Head)
      → IsArchiveEntry (entries.Head head.tables head.mdb)
      → unhealed_fault journal ≡ None
      → file_of journal ≡ 0
      → JournalHasOnDisk device journal (head_octets head ∷ []) [] disk
      → IsSoundImage (device.reads disk)
  made_sound disk journal head fits no_pending_fault file keeps other stands =
      let has = (without_fault_state device journal.pending_fault journal.file (head_octets head ∷ []) [] disk no_pending_fault keeps.state).0 in
      let here : HasRecords (device.reads disk 0) (head_octets head ∷ []) = subst (λ (f : ℕ). HasRecords (device.reads disk f) (head_octets head ∷ [])) file has in
      subst IsSoundArchive (filled_once (device.reads disk) (filled_archive head format_1_exponent [] no_fillings) other (stands_head (device.reads disk) head fits here) stands) (none_sound head)
