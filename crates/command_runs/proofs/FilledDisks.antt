-- The disk of a call that fills what is late.
use Rattle.std.proofs.Common.{◌≡◌, ◌⊎◌, inl, inr, ℕ, ◌+◌, ◌≤◌, true, false, List, [], ◌∷◌, ◌++◌, Bool, Option, Some, None, refl, sym, ◌∙◌, ap, subst, append-nil, arith}
use Rattle.std.specs.Prelude.{◌≢◌, IsTrue, IfErr, IfOk, Result, Ok, Err, filter, fold, if◌then◌else◌}
use Rattle.std.specs.List.{AllByRecursion}
use Rattle.std.specs.Option.{option_map, option_map_or}
use Rattle.std.proofs.Math.Path.{fun_ext}
use Rattle.arch_disk.specs.Image.{Image}
use mathlib.Core.List.{IsPrefix}
use Rattle.arch_disk.specs.Disk.{Device, LeavesOnly, raised, NoFault}
use Rattle.intervals.specs.declared.interval.Interval.{Interval}
use Rattle.history_items.specs.declared.fills.Addition.TheVariants as additions
use Rattle.history_items.specs.declared.fills.Fill.{Fill}
use Rattle.history_items.specs.declared.fills.Fill.TheVariants.{Begun, Done, Freed, Fault, Closed}
use Rattle.history_items.specs.Fills.{above, base_in, flight_after, in_flight, is_same, pending_fault_of, rows_of_faults, unacknowledged_in}
use Rattle.history_items.specs.Late.{IsLate, last_in}
use Rattle.interval_walks.specs.Counts.{intervals_in, late_intervals}
use Rattle.interval_walks.proofs.Counts.{none_late}
use Rattle.late_marks.specs.Mark.{is_late_by}
use Rattle.param_segments.specs.Rows.{SetRow}
use Rattle.store_fills.specs.Faults.{IsDone, faults_in}
use Rattle.archive_store.specs.UnreadRows.{IsFaultOfRead}
use Rattle.store_fills.specs.LastFills.{PlacedFills, fillings_in}
use Rattle.store_fills.specs.Sound.{Filling, Fillings, base_of_filling}
use Rattle.archive_store.specs.Head.{Head}
use Rattle.archive_store.specs.Entries.{FilledArchive, archive, filled_archive}
use Rattle.archive_store.specs.Keeping.{HasCountedRecords}
use Rattle.archive_store.specs.Stands.{HasRecordCount, StandsFilled, StandsFor}
use Rattle.archive_store.specs.StoreView.{CrashInvariant, FaultInvariant, IsKeptWithFills, StoreView, archive_of, filled_of}
use Rattle.archive_store.proofs.PlainLog.{HoldsNoRows, kept_rows}
use Rattle.refusals.specs.declared.refusal.Refusal.{Refusal}
use Rattle.refusals.specs.declared.refusal.Refusal.TheVariants.{Damaged, DiskFault, Limit, NeedsReopen, OutOfMemory}
use Rattle.refusals.specs.declared.refusal.Which.TheVariants.{Records}
use Rattle.refusals.specs.Limits.{limit_of}
use Rattle.arch_types.specs.declared.row.Row.{Row}
use Rattle.history_items.specs.declared.fills.Addition.{Addition}
use Rattle.history_items.specs.declared.items.Item.{Item}
use Rattle.history_items.specs.Items.{items_of}
use Rattle.archive_store.specs.Unacknowledged.{with_rows}
use Rattle.load_session.specs.During.{IsDuring}
use Rattle.load_session.specs.Filling.{AllLateFilled, IsFillFailed, IsFillUnread, IsFilledOn, IsFillingRefusal, IsUnfailed}
use Rattle.command_runs.specs.Healing.{HasOneFault, IsTakenBack, OneOrTwo, TriesToHeal}
use Rattle.command_runs.proofs.Healed.{pending_behind, taken_back}
use Rattle.command_runs.proofs.ReadFaults.{NotesReads, both_reads, more_faults, one_behind, one_counted, one_pending_is, one_rows_is, one_unacknowledged_is, one_with_reads, reads_pending, reads_rows}
use Rattle.command_plans.specs.Ledger.{RoseIf, UsedDisk, UsedWithoutFailedWrite}
use Rattle.command_runs.specs.Causes.{IsCountedSince, IsLogNear}
use Rattle.command_runs.specs.Command.{AllFilled, Extended, ExtensionFailed, FillingFailed, HasDiskOutcome}
use Rattle.command_runs.specs.Durable.{FailedAtMostOnce, IsDurableAs, IsDurableWithFills}
use Rattle.archive_store.specs.AddedFills.{AddsRightFills, IsAddedFill}
use Rattle.command_runs.specs.Extension.{KeepsFills, batch_left}
use Rattle.command_runs.specs.ReadOnly.{IsOpenedThen}
use Rattle.command_runs.proofs.During.{IsOpened, failed_images, left, load_images}
use Rattle.archive_store.specs.LateFills.{is_late_by_fill, late_in_archive}

-- ---- a store that was opened

idle_from : (j : Interval) (fills : List Fill) → AllByRecursion IsDone fills → (o : Option ℕ) → o ≡ None → fold (flight_after j) o fills ≡ None
idle_from j [] all o none = none
idle_from j (Begun i b ∷ fills) all o none = absurd all.0
idle_from j (Done i b ∷ fills) all o none = idle_from j fills all.1 (if is_same j i then None else o) (go (is_same j i))
  where
    go : (t : Bool) → (if t then None else o) ≡ None
    go true = refl
    go false = none
idle_from j (Freed i ∷ fills) all o none = absurd all.0
idle_from j (Closed ∷ fills) all o none = absurd all.0
idle_from j (Fault count wrote unacknowledged ∷ fills) all o none = absurd all.0

-- has no flight
pub idle_done : (fills : List Fill) → AllByRecursion IsDone fills → (j : Interval) → in_flight j fills ≡ None
idle_done fills all j = idle_from j fills all None refl

-- and none behind faults
faults_idle : (j : Interval) (fills : List Fill) → (o : Option ℕ) → o ≡ None → fold (flight_after j) o (faults_in fills) ≡ None
faults_idle j [] o none = none
faults_idle j (Begun i b ∷ fills) o none = faults_idle j fills o none
faults_idle j (Done i b ∷ fills) o none = faults_idle j fills o none
faults_idle j (Freed i ∷ fills) o none = faults_idle j fills o none
faults_idle j (Closed ∷ fills) o none = faults_idle j fills o none
faults_idle j (Fault count wrote unacknowledged ∷ fills) o none = faults_idle j fills o none

behind_from : (j : Interval) (fills more : List Fill) → AllByRecursion IsDone fills → (o : Option ℕ) → o ≡ None → fold (flight_after j) o (fills ++ faults_in more) ≡ None
behind_from j [] more all o none = faults_idle j more o none
behind_from j (Begun i b ∷ fills) more all o none = absurd all.0
behind_from j (Done i b ∷ fills) more all o none = behind_from j fills more all.1 (if is_same j i then None else o) (go (is_same j i))
  where
    go : (t : Bool) → (if t then None else o) ≡ None
    go true = refl
    go false = none
behind_from j (Freed i ∷ fills) more all o none = absurd all.0
behind_from j (Closed ∷ fills) more all o none = absurd all.0
behind_from j (Fault count wrote unacknowledged ∷ fills) more all o none = absurd all.0

pub idle_behind : (fills more : List Fill) → AllByRecursion IsDone fills → (j : Interval) → in_flight j (fills ++ faults_in more) ≡ None
idle_behind fills more all j = behind_from j fills more all None refl

-- ---- late intervals by the fill list are those by the fills

pub late_as_filled : (filled : FilledArchive) (fills : List Fill) → ((i : Interval) → base_in i fills ≡ base_of_filling filled.fillings i) → late_intervals filled.plain.exponent filled.plain.history fills ≡ late_in_archive filled
late_as_filled filled fills bases =
    ap (λ (p : Interval → Bool). filter p (intervals_in filled.plain.exponent filled.plain.history))
    (fun_ext (λ i. ap (λ (b : Option ℕ). option_map_or (λ last. is_late_by last b) (last_in filled.plain.exponent i filled.plain.history) false) (bases i)))

-- ---- fills that were added to others

-- whether an interval is late by its fill hangs on that alone
late_alike : (exponent : ℕ) (history : List Item) (a b : Fillings (List SetRow)) (i : Interval) → a i ≡ b i → is_late_by_fill exponent history a i ≡ is_late_by_fill exponent history b i
late_alike exponent history a b i same =
    ap (λ (f : Option (Filling (List SetRow))). option_map_or (λ last. is_late_by last (option_map (λ g. g.base) f)) (last_in exponent i history) false) same

-- right fills that were added to some that were
pub adds_then : (head : Head) (exponent : ℕ) (history : List Item) (a b c : Fillings (List SetRow)) → AddsRightFills head exponent history a b → AddsRightFills head exponent history b c → AddsRightFills head exponent history a c
adds_then head exponent history a b c first next i = go (first i) (next i)
  where
    go : (b i ≡ a i) ⊎ IsAddedFill head exponent history a i (b i) → (c i ≡ b i) ⊎ IsAddedFill head exponent history b i (c i) → (c i ≡ a i) ⊎ IsAddedFill head exponent history a i (c i)
    go (inl was) (inl is) = inl (is ∙ was)
    go (inr added) (inl is) = inr (subst (IsAddedFill head exponent history a i) (sym is) added)
    go (inl was) (inr added) = inr (sym (late_alike exponent history b a i was) ∙ added.0, added.1)
    go (inr before) (inr added) = inr (before.0, added.1)

module _ {D : Type 0} (device : Device D) (disk : D) (old new : StoreView D) (head : new.head ≡ old.head) (exponent : new.exponent ≡ old.exponent) (opening : new.opened ≡ old.opened)
    (opened : IsTrue device.is_transparent → IsOpened device disk old) (first : device.fault_count disk ≤ device.fault_count old.opened)
    (keeps : IsTrue device.is_transparent → CrashInvariant device new) (faults : FaultInvariant device new)
    (kept : IsTrue device.is_transparent → pending_fault_of new.fills ≡ None → IsKeptWithFills device new)
    (adds : IsTrue device.is_transparent → AddsRightFills old.head old.exponent new.history (fillings_in old.filled) (fillings_in new.filled)) where
  -- the fills stand, where no failed write is pending
  pub with_fills : IsTrue device.is_transparent → pending_fault_of new.fills ≡ None → IsDurableWithFills device new.disk (filled_archive old.head old.exponent new.history (fillings_in new.filled))
  with_fills known healed =
      subst (λ (e : ℕ). IsDurableWithFills device new.disk (filled_archive old.head e new.history (fillings_in new.filled))) exponent
      (subst (λ (h : Head). IsDurableWithFills device new.disk (filled_archive h new.exponent new.history (fillings_in new.filled))) head
      (record { reads = kept known healed (device.reads new.disk) (device.reads_as_image new.disk known); now = kept known healed }))

  keeps_fills : IsTrue device.is_transparent → pending_fault_of new.fills ≡ None → KeepsFills device new.disk (filled_of old) new.history
  keeps_fills known healed = record { fillings = fillings_in new.filled; adds = adds known; durable = with_fills known healed }

  images : rows_of_faults new.fills ≡ [] → IsTrue device.is_transparent → IsOpenedThen device disk new.disk (IsDuring (archive_of old) new.history [])
  images none known = load_images device disk old new (opened known) opening (keeps known) none head exponent

  images_still : NotesReads new.fills → IsTrue device.is_transparent → IsOpenedThen device disk new.disk (IsDuring (archive_of old) new.history [])
  images_still reads = images (reads_rows new.fills reads)

  used_still : (failed : Bool) → RoseIf failed (device.fault_count disk) (device.fault_count new.disk) → device.failed_writes new.disk ≡ device.failed_writes disk → UsedWithoutFailedWrite device disk new.disk failed
  used_still failed told writes = record { faults = told; writes = (0, omega arith, omega arith, writes) }

  -- no write failed, but maybe reads
  pub still_extended : (failed : Bool) → NotesReads new.fills → RoseIf failed (device.fault_count disk) (device.fault_count new.disk) → device.failed_writes new.disk ≡ device.failed_writes disk
      → HasDiskOutcome device disk new.disk failed (Extended (filled_of old) new.history)
  still_extended failed reads told writes =
      (used_still failed told writes, λ known. record { stands = (opened known).stands; images = images_still reads known; kept = keeps_fills known (reads_pending new.fills reads) })

  -- a failed write was taken back, unless a call failed again
  pub taken_back_once : (wrote : Bool) → (wrote ≡ false) ⊎ (raised (raised (device.fault_count new.opened)) ≤ device.fault_count new.disk) → FailedAtMostOnce device disk new.disk → wrote ≡ false
  taken_back_once wrote (inl back) once = back
  taken_back_once wrote (inr twice) once =
      let most = once.most in
      let below = once.below in
      absurd (omega (arith, first, ap device.fault_count opening, twice, most, below))

  -- a fill did
  no_rows : (count : ℕ) (wrote : Bool) (i : Interval) (base : ℕ) → (rows_of_faults (Fault count wrote (additions.Fill i base) ∷ []) ≡ []) × HoldsNoRows (unacknowledged_in (Fault count wrote (additions.Fill i base) ∷ []))
  no_rows count true i base = (refl, tt)
  no_rows count false i base = (refl, tt)

  durable_rows : HoldsNoRows (unacknowledged_in new.fills) → IsTrue device.is_transparent → IsDurableAs device new.disk old.head old.exponent new.history
  durable_rows nothing known =
      let now : (c : Image) → device.images new.disk c → StandsFor c (archive new.head new.exponent new.history) = kept_rows device new (keeps known) nothing in
      subst (λ (e : ℕ). IsDurableAs device new.disk old.head e new.history) exponent
      (subst (λ (h : Head). IsDurableAs device new.disk h new.exponent new.history) head (record { reads = now (device.reads new.disk) (device.reads_as_image new.disk known); now = now }))

  used_failed : raised (device.fault_count disk) ≤ device.fault_count new.disk → OneOrTwo (device.failed_writes disk) (device.failed_writes new.disk) → UsedDisk device disk new.disk true 1 2
  used_failed rose (inl one) = record { faults = rose; writes = (1, omega arith, omega arith, one) }
  used_failed rose (inr two) = record { faults = rose; writes = (2, omega arith, omega arith, two) }

  module _ (addition : Addition) (failed : IsTakenBack device disk new addition) where
    used_by_failure : UsedDisk device disk new.disk true 1 2
    used_by_failure =
        let rose = more_faults device new failed.count failed.wrote addition faults failed.fault in
        used_failed (omega (arith, rose, first, ap device.fault_count opening)) failed.writes

    -- where the disk failed once the write was taken back
    pub healed_once : FailedAtMostOnce device disk new.disk → pending_fault_of new.fills ≡ None
    healed_once once =
        let back = subst (λ (b : Bool). HasOneFault new.fills failed.count b addition) (taken_back_once failed.wrote failed.tried once) failed.fault in
        one_pending_is failed.count false addition new.fills back

  pub fill_has_failed : (i : Interval) (base : ℕ) → IsTakenBack device disk new (additions.Fill i base) → HasDiskOutcome device disk new.disk true (FillingFailed (filled_of old) new.history)
  fill_has_failed i base failed =
      let none = no_rows failed.count failed.wrote i base in (
        used_by_failure (additions.Fill i base) failed,
        λ known. record {
          stands = (opened known).stands;
          images = images (one_rows_is failed.count failed.wrote (additions.Fill i base) new.fills failed.fault ∙ none.0) known;
          durable = durable_rows (subst HoldsNoRows (sym (one_unacknowledged_is failed.count failed.wrote (additions.Fill i base) new.fills failed.fault)) none.1) known;
          healed = λ once. keeps_fills known (healed_once (additions.Fill i base) failed once);
        },
      )

  -- a batch did
  as_old : filled_of new ≡ filled_archive old.head old.exponent new.history (fillings_in new.filled)
  as_old =
      ap (λ (h : Head). filled_archive h new.exponent new.history (fillings_in new.filled)) head
      ∙ ap (λ (e : ℕ). filled_archive old.head e new.history (fillings_in new.filled)) exponent

  pub batch_has_failed : (rows : List Row) → IsTakenBack device disk new (additions.Rows rows)
      → (IsTrue device.is_transparent → IsOpenedThen device disk new.disk (IsDuring (archive_of old) new.history (batch_left rows)))
      → HasDiskOutcome device disk new.disk true (ExtensionFailed (filled_of old) new.history rows)
  batch_has_failed rows failed during = (
    used_by_failure (additions.Rows rows) failed,
    λ known. record {
      stands = (opened known).stands;
      images = during known;
      fillings = fillings_in new.filled;
      adds = adds known;
      now = λ c leaves. elim (left device new failed.count failed.wrote rows (keeps known) (kept known) failed.fault c leaves) [
        | inl stands ↦ inl (subst (StandsFilled c) as_old stands)
        | inr more ↦ inr (subst (StandsFilled c) (ap (λ (a : FilledArchive). with_rows a (items_of rows)) as_old) more)
      ];
      durable = λ once. with_fills known (healed_once (additions.Rows rows) failed once);
    },
  )

  -- no interval is late
  module _ (none : (i : Interval) → IsLate new.exponent i new.history new.fills → ⊥) (bases : IsTrue device.is_transparent → (i : Interval) → base_in i new.fills ≡ base_of_filling (fillings_in new.filled) i) where
    none_by_fills : IsTrue device.is_transparent → late_in_archive (filled_archive old.head old.exponent new.history (fillings_in new.filled)) ≡ []
    none_by_fills known = sym (late_as_filled (filled_archive old.head old.exponent new.history (fillings_in new.filled)) new.fills (bases known)) ∙ none_late old.exponent new.history new.fills (subst (λ (e : ℕ). (i : Interval) → IsLate e i new.history new.fills → ⊥) exponent none)

    pub all_are_filled : (failed : Bool) → NotesReads new.fills → RoseIf failed (device.fault_count disk) (device.fault_count new.disk) → device.failed_writes new.disk ≡ device.failed_writes disk
        → HasDiskOutcome device disk new.disk failed (AllFilled (filled_of old) new.history)
    all_are_filled failed reads told writes = (
      used_still failed told writes,
      λ known. record {
        extended = record {
          stands = (opened known).stands;
          images = images_still reads known;
          kept = record { fillings = fillings_in new.filled; adds = adds known; durable = with_fills known (reads_pending new.fills reads) };
        };
        none_late = none_by_fills known;
      },
    )

-- ---- a store behind fills, and a failed write that was taken back

-- the log is as near its limit as the store told before
pub log_near : {D : Type 0} (device : Device D) (mid new : StoreView D) → TriesToHeal device mid new → (IsTrue device.is_transparent → HasCountedRecords device new) → (more : ℕ)
    → limit_of Records ≤ mid.records + more → IsLogNear device new.disk (Some more)
log_near {D = D} device mid new healed counted more reaches known = go (counted known)
  where
    same : new.records ≡ mid.records
    same = ap (λ (s : StoreView D). s.records) healed.left

    go : HasCountedRecords device new → (records : ℕ) × HasRecordCount (device.reads new.disk) records × (limit_of Records ≤ records + more)
    go (inl has) = (new.records, has, omega (arith, same, reaches))
    go (inr has) = (new.records + 1, has.1, omega (arith, same, reaches))

module _ {D : Type 0} (device : Device D) (disk : D) (old between mid new : StoreView D) (opened : IsTrue device.is_transparent → IsOpened device disk old) (first : device.fault_count disk ≤ device.fault_count old.opened)
    (head : between.head ≡ old.head) (exponent : between.exponent ≡ old.exponent) (opening : between.opened ≡ old.opened)
    (sets : IsTrue device.is_transparent → AddsRightFills old.head old.exponent between.history (fillings_in old.filled) (fillings_in between.filled)) (filled_on : IsFilledOn device between mid) (healed : TriesToHeal device mid new)
    (keeps : IsTrue device.is_transparent → CrashInvariant device new) (faults : FaultInvariant device new)
    (kept : IsTrue device.is_transparent → pending_fault_of new.fills ≡ None → IsKeptWithFills device new) where
  pub new_head : new.head ≡ old.head
  new_head = ap (λ (s : StoreView D). s.head) healed.left ∙ filled_on.head ∙ head

  pub new_exponent : new.exponent ≡ old.exponent
  new_exponent = ap (λ (s : StoreView D). s.exponent) healed.left ∙ filled_on.exponent ∙ exponent

  new_opening : new.opened ≡ old.opened
  new_opening = ap (λ (s : StoreView D). s.opened) healed.left ∙ filled_on.opened ∙ opening

  pub new_rows : new.history ≡ between.history
  new_rows = ap (λ (s : StoreView D). s.history) healed.left ∙ filled_on.rows

  -- what was added to the fills since the opening
  pub new_fills : IsTrue device.is_transparent → AddsRightFills old.head old.exponent new.history (fillings_in old.filled) (fillings_in new.filled)
  new_fills known =
      let behind =
      subst (λ (h : Head). AddsRightFills h old.exponent new.history (fillings_in between.filled) (fillings_in new.filled)) head
      (subst (λ (e : ℕ). AddsRightFills between.head e new.history (fillings_in between.filled) (fillings_in new.filled)) exponent
      (subst (λ (h : List Item). AddsRightFills between.head between.exponent h (fillings_in between.filled) (fillings_in new.filled)) (sym new_rows)
      (subst (λ (f : PlacedFills). AddsRightFills between.head between.exponent between.history (fillings_in between.filled) (fillings_in f)) (sym (ap (λ (s : StoreView D). s.filled) healed.left)) (filled_on.sets (λ paged. known))))) in
      adds_then old.head old.exponent new.history (fillings_in old.filled) (fillings_in between.filled) (fillings_in new.filled)
      (subst (λ (h : List Item). AddsRightFills old.head old.exponent h (fillings_in old.filled) (fillings_in between.filled)) (sym new_rows) (sets known)) behind

  -- no write had failed before the fills, but maybe reads
  module _ (failed : Bool) (reads : NotesReads between.fills) (told : RoseIf failed (device.fault_count disk) (device.fault_count between.disk)) (writes : device.failed_writes between.disk ≡ device.failed_writes disk) where
    -- fills whose faults are of reads left no write to take back
    untouched : NotesReads mid.fills → new ≡ mid
    untouched notes = healed.same (reads_pending mid.fills notes)

    unfailed_reads : IsUnfailed device between mid → NotesReads mid.fills
    unfailed_reads unfailed = subst (AllByRecursion IsFaultOfRead) (sym unfailed.same_faults) reads

    new_reads : NotesReads mid.fills → NotesReads new.fills
    new_reads notes = subst (λ (s : StoreView D). NotesReads s.fills) (sym (untouched notes)) notes

    rose_to : (b : Bool) (d e : D) → NoFault device d e → RoseIf b (device.fault_count disk) (device.fault_count d) → RoseIf b (device.fault_count disk) (device.fault_count e)
    rose_to b d e same rose = subst (RoseIf b (device.fault_count disk)) (sym same) rose

    unfailed_writes : IsUnfailed device between mid → device.failed_writes new.disk ≡ device.failed_writes disk
    unfailed_writes unfailed = ap (λ (s : StoreView D). device.failed_writes s.disk) (untouched (unfailed_reads unfailed)) ∙ unfailed.no_failed_write ∙ writes

    unfailed_count : IsUnfailed device between mid → RoseIf failed (device.fault_count disk) (device.fault_count new.disk)
    unfailed_count unfailed = rose_to failed between.disk new.disk (ap (λ (s : StoreView D). device.fault_count s.disk) (untouched (unfailed_reads unfailed)) ∙ unfailed.no_fault) told

    -- no call failed at a fill,
    pub unfailed_disk : IsUnfailed device between mid → HasDiskOutcome device disk new.disk failed (Extended (filled_of old) between.history)
    unfailed_disk unfailed =
        subst (λ (h : List Item). HasDiskOutcome device disk new.disk failed (Extended (filled_of old) h)) new_rows
        (still_extended device disk old new new_head new_exponent new_opening opened first keeps faults kept new_fills failed (new_reads (unfailed_reads unfailed)) (unfailed_count unfailed) (unfailed_writes unfailed))

    -- or a read did,
    unread_reads : IsFillUnread device between mid → NotesReads mid.fills
    unread_reads unread = subst (AllByRecursion IsFaultOfRead) (sym unread.fault) (both_reads (faults_in between.fills) (Fault unread.count false additions.Nothing ∷ []) reads ((unread.count, refl), tt))

    not_fallen : (b : Bool) → RoseIf b (device.fault_count disk) (device.fault_count between.disk) → raised (device.fault_count between.disk) ≤ device.fault_count mid.disk → raised (device.fault_count disk) ≤ device.fault_count mid.disk
    not_fallen true rose again = omega (arith, rose, again)
    not_fallen false same again = subst (λ (n : ℕ). raised n ≤ device.fault_count mid.disk) same again

    pub unread_disk : IsFillUnread device between mid → HasDiskOutcome device disk new.disk true (Extended (filled_of old) between.history)
    unread_disk unread =
        let notes = unread_reads unread in
        let same = untouched notes in
        subst (λ (h : List Item). HasDiskOutcome device disk new.disk true (Extended (filled_of old) h)) new_rows
        (still_extended device disk old new new_head new_exponent new_opening opened first keeps faults kept new_fills true (new_reads notes)
        (subst (λ (s : StoreView D). raised (device.fault_count disk) ≤ device.fault_count s.disk) (sym same) (not_fallen failed told unread.rose))
        (ap (λ (s : StoreView D). device.failed_writes s.disk) same ∙ unread.no_failed_write ∙ writes))

    -- or a write did, which was taken back
    fill_taken_back : (one : IsFillFailed device between mid) → IsTakenBack device disk new (additions.Fill one.interval one.base)
    fill_taken_back one =
        let fill = additions.Fill one.interval one.base in
        taken_back device disk mid new fill one.count healed (one_behind between.fills mid.fills [] [] one.count true fill reads tt one.fault) (one.wrote ∙ ap raised writes)

    pub failed_disk : IsFillFailed device between mid → HasDiskOutcome device disk new.disk true (FillingFailed (filled_of old) between.history)
    failed_disk one =
        let back = fill_taken_back one in
        subst (λ (h : List Item). HasDiskOutcome device disk new.disk true (FillingFailed (filled_of old) h)) new_rows
        (fill_has_failed device disk old new new_head new_exponent new_opening opened first keeps faults kept new_fills one.interval one.base back)

    -- or each late interval was filled
    pub filled_disk : (late : ℕ) → AllLateFilled device between mid late → (IsTrue device.is_transparent → (i : Interval) → base_in i new.fills ≡ base_of_filling (fillings_in new.filled) i)
        → HasDiskOutcome device disk new.disk failed (AllFilled (filled_of old) between.history)
    filled_disk late done bases =
        let none = subst (λ (s : StoreView D). (i : Interval) → IsLate s.exponent i s.history s.fills → ⊥) (sym (untouched (unfailed_reads done.unfailed))) done.none_late in
        subst (λ (h : List Item). HasDiskOutcome device disk new.disk failed (AllFilled (filled_of old) h)) new_rows
        (all_are_filled device disk old new new_head new_exponent new_opening opened first keeps faults kept new_fills none bases failed (new_reads (unfailed_reads done.unfailed)) (unfailed_count done.unfailed) (unfailed_writes done.unfailed))

  -- a write had failed, so no fill came
  module _ (addition : Addition) (count : ℕ) (fault : HasOneFault between.fills count true addition) (wrote : device.failed_writes between.disk ≡ raised (device.failed_writes disk)) where
    unhealed : pending_fault_of between.fills ≢ None
    unhealed none = let pending = one_pending_is count true addition between.fills fault in cc (pending, none)

    -- it stands behind the filling as before
    same_fault : IsUnfailed device between mid → HasOneFault mid.fills count true addition
    same_fault unfailed = one_with_reads count true addition between.fills fault mid.fills [] tt (unfailed.same_faults ∙ sym (append-nil (faults_in between.fills)))

    still_one : (r : Result ℕ Refusal) → IfOk r (AllLateFilled device between mid) → IfErr r (IsFillingRefusal device between mid) → HasOneFault mid.fills count true addition
    still_one (Ok late) done refused = same_fault done.unfailed
    still_one (Err OutOfMemory) done refused = same_fault refused
    still_one (Err (NeedsReopen faults)) done refused = same_fault refused.1
    still_one (Err (Limit which number)) done refused = same_fault refused.2
    still_one (Err (Damaged file at)) done refused = same_fault refused.2
    still_one (Err DiskFault) done (inl failed) = absurd (unhealed failed.healed)
    still_one (Err DiskFault) done (inr unread) = one_with_reads count true addition between.fills fault mid.fills (Fault unread.count false additions.Nothing ∷ []) ((unread.count, refl), tt) unread.fault
    still_one (Err other) done refused = absurd refused

    pub is_taken_back : HasOneFault mid.fills count true addition → IsTakenBack device disk new addition
    is_taken_back one = taken_back device disk mid new addition count healed one ((filled_on.no_write unhealed).no_write ∙ wrote)

    -- the count at which it was pending was reached since the disk was handed in
    pub fault_count_since : (r : Result ℕ Refusal) → IfOk r (AllLateFilled device between mid) → IfErr r (IsFillingRefusal device between mid) → (at : ℕ) → pending_fault_of between.fills ≡ Some at
        → IsCountedSince device disk new.disk (Some at)
    fault_count_since r done refused at pending =
        let behind = pending_behind device mid new addition count healed (still_one r done refused) in
        let told : ◌≡◌ {A = Option ℕ} (Some at) (Some count) = sym pending ∙ one_pending_is count true addition between.fills fault in
        let is : at ≡ count = cc (told) in
        let counted = one_counted count behind.0 addition new.fills behind.1 (above (device.fault_count new.opened)) (device.fault_count new.disk) (omega arith) faults.rising in
        (omega (arith, is, counted.0, first, ap device.fault_count new_opening), omega (arith, is, counted.1))

    -- of a fill,
    pub fill_failed_disk : (r : Result ℕ Refusal) → IfOk r (AllLateFilled device between mid) → IfErr r (IsFillingRefusal device between mid) → (i : Interval) (base : ℕ) → addition ≡ additions.Fill i base
        → HasDiskOutcome device disk new.disk true (FillingFailed (filled_of old) between.history)
    fill_failed_disk r done refused i base is =
        let back = subst (IsTakenBack device disk new) is (is_taken_back (still_one r done refused)) in
        subst (λ (h : List Item). HasDiskOutcome device disk new.disk true (FillingFailed (filled_of old) h)) new_rows
        (fill_has_failed device disk old new new_head new_exponent new_opening opened first keeps faults kept new_fills i base back)

    -- or of the rows of a batch
    as_mid : filled_of mid ≡ filled_archive old.head old.exponent between.history (fillings_in mid.filled)
    as_mid =
        ap (λ (h : Head). filled_archive h mid.exponent mid.history (fillings_in mid.filled)) (filled_on.head ∙ head)
        ∙ ap (λ (e : ℕ). filled_archive old.head e mid.history (fillings_in mid.filled)) (filled_on.exponent ∙ exponent)
        ∙ ap (λ (h : List Item). filled_archive old.head old.exponent h (fillings_in mid.filled)) filled_on.rows

    pub batch_failed_disk : (r : Result ℕ Refusal) → IfOk r (AllLateFilled device between mid) → IfErr r (IsFillingRefusal device between mid) → (rows : List Row) → addition ≡ additions.Rows rows
        → (IsTrue device.is_transparent → LeavesOnly device old.opened old.disk (λ c. StandsFilled c (filled_of old))) → IsPrefix old.history between.history
        → (IsTrue device.is_transparent → LeavesOnly device old.disk between.disk (IsDuring (archive_of old) between.history (rows_of_faults between.fills)))
        → HasDiskOutcome device disk new.disk true (ExtensionFailed (filled_of old) between.history rows)
    batch_failed_disk r done refused rows is since grew session =
        let one = still_one r done refused in
        let back = subst (IsTakenBack device disk new) is (is_taken_back one) in
        let held : rows_of_faults between.fills ≡ batch_left rows = one_rows_is count true addition between.fills fault ∙ ap (λ (a : Addition). rows_of_faults (Fault count true a ∷ [])) is in
        let pending : unacknowledged_in mid.fills ≡ Some (additions.Rows rows) = one_unacknowledged_is count true addition mid.fills one ∙ ap (λ (a : Addition). unacknowledged_in (Fault count true a ∷ [])) is in
        let during = λ (known : IsTrue device.is_transparent).
        subst (λ (h : List Item). IsOpenedThen device disk new.disk (IsDuring (archive_of old) h (batch_left rows))) (sym new_rows)
        (failed_images device disk old new (opened known) new_opening (keeps known) between mid rows (since known) grew (session known) held (filled_on.no_write unhealed) as_mid pending (healed.crash known)) in
        subst (λ (h : List Item). HasDiskOutcome device disk new.disk true (ExtensionFailed (filled_of old) h rows)) new_rows
        (batch_has_failed device disk old new new_head new_exponent new_opening opened first keeps faults kept new_fills rows back during)
