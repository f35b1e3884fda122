-- The disk of a call that asks an archive.
use Rattle.std.proofs.Common.{◌≡◌, ◌∙◌, ℕ, true, false, List, [], ◌∷◌, ◌++◌, length, Option, None, refl, sym, ap, subst, arith}
use Rattle.std.specs.Prelude.{IsTrue}
use Rattle.std.specs.List.{AllByRecursion}
use Rattle.std.proofs.lemmas.List.{nil_from_length}
use Rattle.arch_disk.specs.Disk.{Device, LeavesOnly}
use Rattle.arch_disk.proofs.Moments.{at_end, joins}
use Rattle.history_items.specs.declared.fills.Addition.TheVariants as additions
use Rattle.history_items.specs.declared.fills.Fill.{Fill}
use Rattle.history_items.specs.declared.fills.Fill.TheVariants.{Fault}
use Rattle.interval_walks.specs.Counts.{late_intervals}
use Rattle.store_fills.specs.Faults.{IsDone, faults_in}
use Rattle.store_fills.proofs.Faults.{faults_in-append, faults_in-done, pending_fault_of-in}
use Rattle.history_items.specs.Fills.{pending_fault_of}
use Rattle.command_runs.specs.Healing.{TriesToHeal}
use Rattle.archive_store.specs.Keeping.{IsKept}
use Rattle.archive_store.specs.StoreView.{StoreView, filled_of, CrashInvariant}
use Rattle.archive_store.specs.Stands.{IsSoundImage, StandsFilled}
use Rattle.command_runs.specs.Command.{HasDiskOutcome, Opened}
use Rattle.load_session.specs.Filling.{IsFillFailed}
use Rattle.command_runs.specs.Opened.{IsOpenedOn}
use Rattle.command_runs.specs.ReadOnly.{IsReadOnly}
use Rattle.command_runs.specs.Reading.{WasRead, is_disk_fault}
use Rattle.command_runs.proofs.ReadFaults.{NotesReads, noted_reads, reads_pending}
use Rattle.command_plans.specs.Ledger.{RoseIf}
use Rattle.refusals.specs.declared.refusal.Refusal.{Refusal}
use Rattle.archive_store.specs.UnreadRows.{IsFaultOfRead}
use Rattle.archive_store.specs.ReadOn.{read_none}
use Rattle.archive_store.specs.LateFills.{late_in_archive}

-- a store that was opened, and to which nothing was done
pub read_only_store : {D : Type 0} (device : Device D) (disk : D) (s : StoreView D) → StandsFilled (device.reads disk) (filled_of s) → device.reads s.disk ≡ device.reads disk →
    device.reads s.opened ≡ device.reads disk → LeavesOnly device disk s.opened (device.images disk) → LeavesOnly device s.opened s.disk (λ c. StandsFilled c (filled_of s)) → CrashInvariant device s →
    IsReadOnly device disk s.disk (filled_of s)
read_only_store device disk s stands same opening handed_in since keeps = record {
  stands = stands;
  reads = same;
  images = record { opened = s.opened; before = handed_in; since = since; sound = λ handed. keeps.sound (subst IsSoundImage (sym opening) handed) };
  now = at_end device s.opened s.disk (λ c. StandsFilled c (filled_of s)) since;
}

-- what became of a disk whose archive was opened, and left as it was
pub opened_outcome : {D : Type 0} (device : Device D) (disk : D) (s : StoreView D) → IsOpenedOn device disk s → IsKept device s → HasDiskOutcome device disk s.disk false (Opened (filled_of s))
opened_outcome device disk s on kept = (
  record { faults = on.opened.no_fault; writes = (0, omega arith, omega arith, on.opened.no_failed_write) },
  λ known. read_only_store device disk s (on.opened.filled known) on.reads on.opened.opening on.crash (on.opened.since known) (kept.images known),
)

-- no fault was noted at its opening
no_faults : {D : Type 0} (device : Device D) (disk : D) (s : StoreView D) → IsOpenedOn device disk s → faults_in s.fills ≡ []
no_faults device disk s on = faults_in-done s.fills on.opened.fills

-- nothing was read
pub not_read : {D : Type 0} (device : Device D) (old new : StoreView D) → new ≡ old → WasRead device old new None
not_read {D = D} device old new same = subst (λ (s : StoreView D). WasRead device old s None) (sym same) (record { same = read_none device old; failed = refl })

-- and of one that was read then, and which a heal behind it left so
module _ {D : Type 0} (device : Device D) (disk : D) (s new healed : StoreView D) (on : IsOpenedOn device disk s) (refusal : Option Refusal) (read : WasRead device s new refusal) (heals : TriesToHeal device new healed)
    (kept : IsKept device healed) where
  all_reads : faults_in new.fills ≡ faults_in read.same.faults
  all_reads =
      ap (λ (x : StoreView D). faults_in x.fills) read.same.same ∙ faults_in-append s.fills read.same.faults
      ∙ ap (λ (l : List Fill). l ++ faults_in read.same.faults) (no_faults device disk s on)

  reads_noted : NotesReads new.fills
  reads_noted = subst (AllByRecursion IsFaultOfRead) (sym all_reads) (noted_reads read.same.faults read.same.each)

  as_read : healed ≡ new
  as_read = heals.same (reads_pending new.fills reads_noted)

  same_archive : filled_of healed ≡ filled_of s
  same_archive = ap filled_of as_read ∙ ap filled_of read.same.same

  same_opening : healed.opened ≡ s.opened
  same_opening = ap (λ (x : StoreView D). x.opened) as_read ∙ ap (λ (x : StoreView D). x.opened) read.same.same

  same_disk : healed.disk ≡ new.disk
  same_disk = ap (λ (x : StoreView D). x.disk) as_read

  reads_as_opened : device.reads healed.disk ≡ device.reads disk
  reads_as_opened = ap device.reads same_disk ∙ read.same.disk.reads_same ∙ on.reads

  -- what a crash leaves from the opening's syncs on
  since : IsTrue device.is_transparent → LeavesOnly device s.opened healed.disk (λ c. StandsFilled c (filled_of s))
  since known =
      let first = on.opened.since known in
      subst (λ (d : D). LeavesOnly device s.opened d (λ c. StandsFilled c (filled_of s))) (sym same_disk)
      (joins device s.opened s.disk new.disk (λ c. StandsFilled c (filled_of s)) (device.images s.disk) first read.same.disk.moments (at_end device s.opened s.disk (λ c. StandsFilled c (filled_of s)) first))

  count_is : RoseIf (is_disk_fault refusal) (device.fault_count disk) (device.fault_count healed.disk)
  count_is =
      subst (λ (d : D). RoseIf (is_disk_fault refusal) (device.fault_count disk) (device.fault_count d)) (sym same_disk)
      (subst (λ (n : ℕ). RoseIf (is_disk_fault refusal) n (device.fault_count new.disk)) on.opened.no_fault read.failed)

  pub left_opened : HasDiskOutcome device disk healed.disk (is_disk_fault refusal) (Opened (filled_of s))
  left_opened = (
    record { faults = count_is; writes = (0, omega arith, omega arith, ap device.failed_writes same_disk ∙ read.same.disk.no_write ∙ on.opened.no_failed_write) },
    λ known. record {
      stands = on.opened.filled known;
      reads = reads_as_opened;
      images = record {
        opened = s.opened;
        before = on.crash;
        since = since known;
        sound = λ handed. subst (λ (d : D). LeavesOnly device d healed.disk IsSoundImage) same_opening
            ((kept.images known).sound (subst (λ (d : D). IsSoundImage (device.reads d)) (sym same_opening) (subst IsSoundImage (sym on.opened.opening) handed)));
      };
      now = at_end device s.opened healed.disk (λ c. StandsFilled c (filled_of s)) (since known);
    },
  )

-- ---- filling where no interval is late

-- and nothing was to be taken back
pub unchanged_by : {D : Type 0} (device : Device D) (s mid new : StoreView D) → faults_in s.fills ≡ [] → (late_intervals s.exponent s.history s.fills ≡ [] → mid ≡ s) → TriesToHeal device mid new
    → late_intervals s.exponent s.history s.fills ≡ [] → new ≡ s
unchanged_by {D = D} device s mid new no_fault unchanged healed none =
    let same = unchanged none in
    healed.same (ap (λ (x : StoreView D). pending_fault_of x.fills) same ∙ pending_fault_of-in s.fills ∙ ap pending_fault_of no_fault) ∙ same

-- it left the archive as it was
pub still_opened : {D : Type 0} (device : Device D) (disk : D) (s new : StoreView D) → IsOpenedOn device disk s → IsKept device s →
    length (late_intervals s.exponent s.history s.fills) ≡ length (late_in_archive (filled_of s)) → (late_intervals s.exponent s.history s.fills ≡ [] → new ≡ s) → length (late_in_archive (filled_of s)) ≡ 0 →
    HasDiskOutcome device disk new.disk false (Opened (filled_of s))
still_opened {D = D} device disk s new on kept as_late unchanged none =
    let same : new ≡ s = unchanged (nil_from_length (late_intervals s.exponent s.history s.fills) (as_late ∙ none)) in
    subst (λ (x : StoreView D). HasDiskOutcome device disk x.disk false (Opened (filled_of s))) (sym same) (opened_outcome device disk s on kept)

-- and no fill failed
pub none_failed : {D : Type 0} (device : Device D) (s mid : StoreView D) → AllByRecursion IsDone s.fills → length (late_intervals s.exponent s.history s.fills) ≡ length (late_in_archive (filled_of s)) →
    (late_intervals s.exponent s.history s.fills ≡ [] → mid ≡ s) → length (late_in_archive (filled_of s)) ≡ 0 → IsFillFailed device s mid → ⊥
none_failed {D = D} device s mid done as_late unchanged none failed =
    let same : mid ≡ s = unchanged (nil_from_length (late_intervals s.exponent s.history s.fills) (as_late ∙ none)) in
    let empty = faults_in-done s.fills done in
    let fault = Fault failed.count true (additions.Fill failed.interval failed.base) in
    let one : faults_in mid.fills ≡ fault ∷ [] = failed.fault ∙ ap (λ (l : List Fill). l ++ fault ∷ []) empty in
    let never : ◌≡◌ {A = List Fill} (fault ∷ []) [] = sym one ∙ ap (λ (x : StoreView D). faults_in x.fills) same ∙ empty in cc (never)
