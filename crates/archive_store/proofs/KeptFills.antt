-- What a store keeps over an install.
use Rattle.std.proofs.Common.{◌≡◌, ◌⊎◌, inl, inr, ℕ, ◌+◌, ◌≤◌, ◌^◌, true, List, [], ◌∷◌, ◌++◌, length, map, Option, Some, None, refl, sym, ◌∙◌, ap, subst, arith, append-nil, length-append}
use Rattle.std.specs.Prelude.{IsTrue, min, ◌-◌, ◌≢◌}
use Rattle.arch_disk.specs.Image.{Image}
use Rattle.arch_disk.specs.Disk.{Device, IsOldBut, LeavesOnly, raised}
use Rattle.arch_disk.proofs.Moments.{started}
use Rattle.intervals.specs.declared.interval.Interval.{Interval}
use Rattle.history_items.specs.declared.fills.Addition.{Addition}
use Rattle.history_items.specs.declared.fills.Addition.TheVariants as additions
use Rattle.history_items.specs.declared.fills.Fill.{Fill}
use Rattle.history_items.specs.declared.fills.Fill.TheVariants.{Fault}
use Rattle.history_items.specs.declared.items.Item.{Item}
use Rattle.history_items.specs.Items.{prefix}
use Rattle.history_items.specs.Databases.{database_in}
use Rattle.history_items.specs.Fills.{rows_of_faults, pending_fault_of, unacknowledged_in, above}
use Rattle.history_items.proofs.FillLists.{rows_of_faults-append, pending_fault_of-append, Rising-later, Rising-append}
use Rattle.std.specs.Option.{option_or}
use Rattle.disk_journal.specs.Format.{HasRecords, IsBeforeOrAfter}
use Rattle.disk_journal.specs.State.{HasOnDisk as JournalHasOnDisk}
use Rattle.disk_journal.specs.State.{unhealed_fault, count_of, file_of, IsSame}
use Rattle.disk_journal.specs.declared.journal.Journal.{Journal}
use Rattle.disk_journal.proofs.Bodies.{length-extents}
use Rattle.field_codec.specs.declared.entry.Entry.TheVariants as entries
use Rattle.field_codec.specs.Entries.{IsArchiveEntry}
use Rattle.field_codec.specs.Spelling.{entry_octets}
use Rattle.interval_fills.specs.Intervals.{NoneSince}
use Rattle.interval_fills.proofs.Growing.{stored_base}
use Rattle.param_segments.specs.Extracted.{IsSetOf}
use Rattle.param_segments.specs.Octets.{rows_in_octets, set_octets}
use Rattle.param_segments.specs.Rows.{SetRow}
use Rattle.store_fills.specs.Filled.{IsRightFill}
use Rattle.store_fills.specs.LastFills.{PlacedFills, fill_over, fillings_in}
use Rattle.store_fills.specs.Sound.{Fillings, with_filling}
use Rattle.archive_images.specs.declared.head.Head.{Head}
use Rattle.archive_images.specs.Entries.{FilledArchive, IsSoundArchive, archive, filled_archive, Applies}
use Rattle.archive_images.specs.Images.{ArchiveInvariant, IsPlainLog}
use Rattle.archive_store.specs.Inside.{StoreInvariant, view_of}
use Rattle.archive_store.specs.PlainLog.{IsSinceArchive}
use Rattle.archive_images.specs.Unacknowledged.{IsFilledOnce, IsUnacknowledged}
use Rattle.archive_images.specs.Stands.{HasRecordCount, StandsFilled}
use Rattle.archive_store.specs.StoreView.{StoreView, filled_of}
use Rattle.archive_store.proofs.Kept.{hand-append, healthy}
use Rattle.archive_images.proofs.OneJournal as one
use Rattle.archive_images.proofs.PendingFaults.{keeps_either, keeps_without_fault}
use Rattle.archive_images.proofs.PlainImages.{StandsPlain, plain_lower, stands_filled}
use Rattle.archive_store.proofs.PlainLog.{fill_sound, found_whole}

-- the fault of a fill that wasn't written
abbrev pub fill_fault : ℕ → Interval → ℕ → Fill
fill_fault count i base = Fault count true (additions.Fill i base)

module _ (head : Head) (exponent : ℕ) (history : List Item) (fillings : Fillings (List SetRow)) (i : Interval) (base : ℕ) (set : List SetRow) where
  abbrev pub with_fill : FilledArchive
  with_fill = filled_archive head exponent history (with_filling fillings i (fill_over base set))

  -- a fill that is right, and spelled, may be added
  pub fill_applies : IsRightFill exponent head.mdb history i base set → IsArchiveEntry (entries.Fill i base (set_octets set)) → rows_in_octets (set_octets set) ≡ set
      → Applies (Some (filled_archive head exponent history fillings)) (entries.Fill i base (set_octets set)) with_fill
  fill_applies right fits again = (
    record {
      fits = fits;
      based = stored_base exponent i base history right.may;
      set = subst (IsSetOf (database_in head.mdb (prefix base history)) exponent i.0) (sym again) right.fits;
      spelled = ap set_octets (sym again);
    },
    ap (λ (s : List SetRow). filled_archive head exponent history (with_filling fillings i (fill_over base s))) (sym again),
  )

module _ {D : Type 0} (device : Device D) (disk new opened : D) (journal next : Journal) (head : Head) (exponent : ℕ) (history : List Item) (fills : List Fill) (filled : PlacedFills) (pending_fault : Option ℕ)
    (i : Interval) (base : ℕ) (set : List SetRow) (k : StoreInvariant device disk opened journal head exponent history fills filled pending_fault) (right : IsTrue device.is_transparent → IsRightFill exponent head.mdb history i base set)
    (fits : IsArchiveEntry (entries.Fill i base (set_octets set))) (again : rows_in_octets (set_octets set) ≡ set) (healed : pending_fault_of fills ≡ None) where
  abbrev now : FilledArchive
  now = filled_archive head exponent history (fillings_in filled)

  abbrev after : FilledArchive
  after = with_fill head exponent history (fillings_in filled) i base set

  abbrev before : FilledArchive
  before = filled_archive head exponent k.before k.fillings

  abbrev pub LeavesFill : Type 0
  LeavesFill = LeavesOnly device disk new (λ c. StandsPlain c now ⊎ StandsPlain c after)

  -- what an install leaves at each moment
  pub fill_moments : IsSame journal next
      → (IsTrue device.is_transparent → (bodies : List (List ℕ)) (pending : List ℕ) → JournalHasOnDisk device next bodies pending disk → unhealed_fault next ≡ None
      → LeavesOnly device disk new (λ c. IsBeforeOrAfter bodies (entry_octets (entries.Fill i base (set_octets set))) (c (file_of next))))
      → LeavesOnly device disk new (IsOldBut device (file_of next) disk) → IsTrue device.is_transparent → LeavesFill
  fill_moments same run elsewhere transparent =
      one.moments_of entry_octets Applies IsPlainLog plain_lower device disk new opened journal next now after (entries.Fill i base (set_octets set))
      (IsUnacknowledged now (unacknowledged_in fills)) (IsSinceArchive before (archive head exponent history) (rows_of_faults fills)) k.archives
      (fill_applies head exponent history (fillings_in filled) i base set (right transparent) fits again) (healthy (unhealed_fault journal) (pending_fault_of fills) k.journal_fault healed) same run elsewhere transparent

  applies : IsTrue device.is_transparent → Applies (Some now) (entries.Fill i base (set_octets set)) after
  applies transparent = fill_applies head exponent history (fillings_in filled) i base set (right transparent) fits again

  after_sound : IsTrue device.is_transparent → IsSoundArchive before → IsSoundArchive after
  after_sound transparent was = fill_sound head exponent history (fillings_in filled) i base set (k.sound transparent was) (right transparent)

  -- a fill was appended
  pub fill_ok : (filled_after : PlacedFills) → fillings_in filled_after ≡ with_filling (fillings_in filled) i (fill_over base set)
      → file_of next ≡ file_of journal → unhealed_fault next ≡ None
      → (IsTrue device.is_transparent → (bodies : List (List ℕ)) (pending : List ℕ) → JournalHasOnDisk device journal bodies pending disk →
      JournalHasOnDisk device next (bodies ++ entry_octets (entries.Fill i base (set_octets set)) ∷ []) pending new)
      → (IsTrue device.is_transparent → LeavesFill)
      → LeavesOnly device disk new (IsOldBut device (file_of journal) disk)
      → device.fault_count disk ≤ device.fault_count new
      → device.failed_writes new ≡ device.failed_writes disk
      → StoreInvariant device new opened next head exponent history fills filled_after pending_fault
  fill_ok filled_after put file no_pending_fault keeps moments elsewhere later writes =
      let in_faults = rows_of_faults fills in
      let o = unacknowledged_in fills in
      let there : FilledArchive = filled_archive head exponent history (fillings_in filled_after) in
      let same : after ≡ there = ap (filled_archive head exponent history) (sym put) in
      let done = one.kept_ok entry_octets Applies IsPlainLog plain_lower device disk new opened journal next now after (entries.Fill i base (set_octets set))
      (IsUnacknowledged now o) (IsUnacknowledged after o) (IsSinceArchive before (archive head exponent history) in_faults) (IsSinceArchive before (archive head exponent history) in_faults) k.archives
      applies file no_pending_fault keeps moments elsewhere (λ x f. f)
      (λ transparent. found_whole before head exponent history (fillings_in filled) in_faults k.begins (k.sound transparent))
      (λ transparent. found_whole before head exponent history (with_filling (fillings_in filled) i (fill_over base set)) in_faults k.begins (after_sound transparent)) in
      let on = λ (transparent : IsTrue device.is_transparent). subst (λ (a : FilledArchive). ArchiveInvariant entry_octets Applies IsPlainLog device new opened next a (IsUnacknowledged a o) (IsSinceArchive before (archive head exponent history) in_faults)) same done in record {
        faults = record {
          rising = Rising-later fills (above (device.fault_count opened)) (device.fault_count disk) (device.fault_count new) later k.faults.rising;
          later = omega (arith, k.faults.later, later);
          writes_later = omega (arith, k.faults.writes_later, writes);
          wrote = λ faults is. omega (arith, k.faults.wrote faults is, writes);
        };
        before = k.before;
        fillings = k.fillings;
        begins = k.begins;
        opening = k.opening;
        sound = λ transparent was. subst IsSoundArchive same (after_sound transparent was);
        archives = record {
          images = λ transparent. (on transparent).images transparent;
          log = λ transparent. (on transparent).log transparent;
        };
        pending_fault_is = k.pending_fault_is;
        journal_fault = λ faults is. absurd (cc (is, no_pending_fault));
        head_is = k.head_is;
        rows = k.rows;
        alone = k.alone;
      }

  no_rows : (count : ℕ) → rows_of_faults (fills ++ fill_fault count i base ∷ []) ≡ rows_of_faults fills
  no_rows count = rows_of_faults-append fills (fill_fault count i base ∷ []) ∙ append-nil (rows_of_faults fills)

  -- an append failed, of a fill over all rows of its interval
  pub fill_err : (count : ℕ) → NoneSince exponent i base history → file_of next ≡ file_of journal
      → unhealed_fault next ≡ Some (min (device.fault_count new) (2 ^ 64 - 1))
      → count ≡ min (device.fault_count new) (2 ^ 64 - 1)
      → (IsTrue device.is_transparent → (bodies : List (List ℕ)) (pending : List ℕ) → JournalHasOnDisk device journal bodies pending disk →
      JournalHasOnDisk device next bodies (entry_octets (entries.Fill i base (set_octets set))) new)
      → (IsTrue device.is_transparent → LeavesFill)
      → LeavesOnly device disk new (IsOldBut device (file_of journal) disk)
      → raised (device.fault_count disk) ≤ device.fault_count new
      → device.failed_writes new ≡ raised (device.failed_writes disk)
      → StoreInvariant device new opened next head exponent history (fills ++ fill_fault count i base ∷ []) filled (Some count)
  fill_err count since file unhealed_fault_is count_is keeps moments elsewhere rose writes =
      let more : List Fill = fills ++ fill_fault count i base ∷ [] in
      let pending_now : pending_fault_of more ≡ Some count = pending_fault_of-append fills (fill_fault count i base ∷ []) ∙ ap (λ (o : Option ℕ). option_or o (Some count)) healed in
      let held : unacknowledged_in more ≡ Some (additions.Fill i base) = hand-append fills (fill_fault count i base ∷ []) healed in
      let once : IsTrue device.is_transparent → IsFilledOnce now i base after = λ transparent. record { set = set; right = right transparent; none_since = since; after_is = refl } in record {
        faults = record {
          rising = Rising-append (above (device.fault_count opened)) (device.fault_count disk) (device.fault_count new) fills (fill_fault count i base ∷ []) (omega (arith, k.faults.later)) (omega (arith, rose)) k.faults.rising
              (omega (arith, rose, count_is), omega (arith, count_is), tt);
          later = omega (arith, k.faults.later, rose);
          writes_later = omega (arith, k.faults.writes_later, writes);
          wrote = λ faults is. omega (arith, k.faults.writes_later, writes);
        };
        before = k.before;
        fillings = k.fillings;
        begins = k.begins;
        opening = k.opening;
        sound = k.sound;
        archives = one.kept_err entry_octets Applies IsPlainLog plain_lower device disk new opened journal next now after (entries.Fill i base (set_octets set))
            (IsUnacknowledged now (unacknowledged_in fills)) (IsUnacknowledged now (unacknowledged_in more))
            (IsSinceArchive before (archive head exponent history) (rows_of_faults fills)) (IsSinceArchive before (archive head exponent history) (rows_of_faults more))
            (min (device.fault_count new) (2 ^ 64 - 1)) k.archives applies file
            (healthy (unhealed_fault journal) (pending_fault_of fills) k.journal_fault healed) unhealed_fault_is keeps moments elsewhere
            (λ x f. subst (λ (l : List (List Item)). IsSinceArchive before (archive head exponent history) l x) (sym (no_rows count)) f)
            (λ transparent. found_whole before head exponent history (fillings_in filled) (rows_of_faults more) k.begins (k.sound transparent))
            (λ transparent. found_whole before head exponent history (with_filling (fillings_in filled) i (fill_over base set)) (rows_of_faults more) k.begins (after_sound transparent))
            (λ transparent. subst (λ (o : Option Addition). IsUnacknowledged now o after) (sym held) (once transparent));
        pending_fault_is = sym pending_now;
        journal_fault = λ faults is. pending_now ∙ ap Some count_is ∙ sym unhealed_fault_is ∙ is;
        head_is = k.head_is;
        rows = k.rows;
        alone = k.alone;
      }

-- ---- while no failed write is pending

module _ {D : Type 0} (device : Device D) (disk opened : D) (journal : Journal) (head : Head) (exponent : ℕ) (history : List Item) (fills : List Fill) (filled : PlacedFills) (pending_fault : Option ℕ)
    (k : StoreInvariant device disk opened journal head exponent history fills filled pending_fault) (healed : pending_fault_of fills ≡ None) (transparent : IsTrue device.is_transparent) where
  -- each image of now has the fills
  pub kept_now : (c : Image) → device.images disk c → StandsFilled c (filled_archive head exponent history (fillings_in filled))
  kept_now c left =
      let e = k.archives.log transparent in
      let none : unhealed_fault journal ≡ None = healthy (unhealed_fault journal) (pending_fault_of fills) k.journal_fault healed in
      stands_filled c (filled_archive head exponent history (fillings_in filled)) (record {
        log = file_of journal;
        beginning = e.beginning;
        base = e.base;
        entries = e.entries;
        has_base = e.has_base c left;
        has = keeps_without_fault device journal (e.beginning ++ map entry_octets e.entries) e.pending disk none e.keeps c left;
        replays = e.replays;
      })

-- the records of the journal's file are counted, but for that of a failed write that is pending
module _ {D : Type 0} (device : Device D) (disk opened : D) (journal : Journal) (head : Head) (exponent : ℕ) (history : List Item) (fills : List Fill) (filled : PlacedFills) (pending_fault : Option ℕ)
    (k : StoreInvariant device disk opened journal head exponent history fills filled pending_fault) (transparent : IsTrue device.is_transparent) where
  has_count : (bodies : List (List ℕ)) (count : ℕ) → HasRecords (device.reads disk (file_of journal)) bodies → count ≡ length bodies → HasRecordCount (device.reads disk) count
  has_count bodies count has is = (
    bodies,
    subst (λ (file : ℕ). HasRecords (device.reads disk file) bodies) ((k.archives.log transparent).has_base (device.reads disk) (device.reads_as_image disk transparent)).0 has,
    is,
  )

  pub records_now : HasRecordCount (device.reads disk) (count_of journal) ⊎ ((pending_fault_of fills ≢ None) × HasRecordCount (device.reads disk) (count_of journal + 1))
  records_now = go (pending_fault_of fills) refl
    where
      go : (o : Option ℕ) → pending_fault_of fills ≡ o
          → HasRecordCount (device.reads disk) (count_of journal) ⊎ ((pending_fault_of fills ≢ None) × HasRecordCount (device.reads disk) (count_of journal + 1))
      go None healed =
          let e = k.archives.log transparent in
          let bodies : List (List ℕ) = e.beginning ++ map entry_octets e.entries in
          let none : unhealed_fault journal ≡ None = healthy (unhealed_fault journal) (pending_fault_of fills) k.journal_fault healed in
          inl (has_count bodies (count_of journal) (keeps_without_fault device journal bodies e.pending disk none e.keeps (device.reads disk) (device.reads_as_image disk transparent))
          (ap length e.keeps.extents ∙ length-extents 0 bodies))
      go (Some faults) pending =
          let e = k.archives.log transparent in
          let bodies : List (List ℕ) = e.beginning ++ map entry_octets e.entries in
          let counted : count_of journal ≡ length bodies = ap length e.keeps.extents ∙ length-extents 0 bodies in
          let longer = length-append bodies (e.pending ∷ []) in
          elim (keeps_either device journal bodies e.pending disk e.keeps (device.reads disk) (device.reads_as_image disk transparent)) [
            | inl has ↦ inl (has_count bodies (count_of journal) has counted)
            | inr has ↦ inr (λ none. cc (pending, none), has_count (bodies ++ e.pending ∷ []) (count_of journal + 1) has (omega (arith, counted, longer)))
          ]

-- a call that doesn't ask the disk leaves the archive as it was
module _ {D : Type 0} (device : Device D) (disk opened : D) (journal : Journal) (head : Head) (exponent : ℕ) (history : List Item) (fills : List Fill) (filled : PlacedFills) (pending_fault : Option ℕ)
    (k : StoreInvariant device disk opened journal head exponent history fills filled pending_fault) (now : StoreView D) (is : view_of disk opened journal head exponent history fills filled ≡ now) where
  pub unharmed : (other : StoreView D → FilledArchive) (d : D) → now.disk ≡ d → pending_fault_of now.fills ≡ None → IsTrue device.is_transparent
      → LeavesOnly device now.disk d (λ c. StandsFilled c (filled_of now) ⊎ StandsFilled c (other now))
  unharmed other d same healed transparent =
      let before = subst (λ (x : StoreView D). pending_fault_of x.fills ≡ None → LeavesOnly device x.disk x.disk (λ c. StandsFilled c (filled_of x) ⊎ StandsFilled c (other x))) is
      (λ none. started device disk _ (λ c left. inl (kept_now device disk opened journal head exponent history fills filled pending_fault k none transparent c left))) in
      subst (λ (e : D). LeavesOnly device now.disk e (λ c. StandsFilled c (filled_of now) ⊎ StandsFilled c (other now))) same (before healed)
