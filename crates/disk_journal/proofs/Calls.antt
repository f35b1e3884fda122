-- The records of a journal as a function of what its file reads as, and what the words on its calls say of any records that it has.
use Rattle.std.proofs.Common.{◌≡◌, ◌⊎◌, inl, inr, ⊎_elim, ℕ, ◌+◌, ◌-◌, ◌^◌, ◌<◌, ◌≤◌, List, [], ◌∷◌, ◌++◌, length, map, take, drop, None, refl, sym, ◌∙◌, ap, subst, arith, append_assoc, length-append, Some}
use Rattle.std.specs.Prelude.{◌↔◌, Bool, true, false, IsTrue, Result, Ok, Err, IfOk, IfErr, IsErrAnd}
use Rattle.std.specs.Int.{w32, from_be_bytes}
use Rattle.std.proofs.lemmas.List.{append-nil, take_at, drop_at, drop-drop}
use Rattle.arch_disk.specs.Image.{Image}
use Rattle.arch_disk.specs.Disk.{Device, LeavesOnly, OnlyReads, raised, writes_after}
use Rattle.arch_disk.proofs.Moments.{weakens, at_end}
use Rattle.disk_journal.specs.Faults.{TellsWrites}
use Rattle.disk_journal.specs.Format.{framed, written, HasRecords, HasStaged, HoldsNone, IsBeforeOrAfter, IsDamagedAt}
use Rattle.disk_journal.specs.Reading.{IsAt, IsCutShortAt, gate_of, file_read}
use Rattle.disk_journal.specs.State.{HasOnDisk, IsOnDisk, IsReadFault, StateIs, extents_from, faults_of, file_of, count_of, unhealed_fault}
use Rattle.disk_journal.specs.Calls.{BeginsOpen, body_of, records_of, body_behind, next_body_of, if_gate_written, unhealed_records_of, CrashLeavesRecords, IsAppended, IsAppendFailed, IsAppendRefusal, IsHealed, IsHealFailed, IsHealRefusal, IsPrepareRefusal, IsJournalCreateRefusal, IsJournalOpenRefusal, IsOpeningBegun, IsBeginRefusal, IsNextRefusal, IsReadWholeRefusal, StandsAtGate, content_read, read_so_far}
use Rattle.disk_journal.specs.declared.journal.Extent.{Extent}
use Rattle.disk_journal.specs.declared.journal.Journal.{Journal}
use Rattle.disk_journal.specs.declared.opening.Opening.{Opening}
use Rattle.disk_journal.specs.declared.journal.PendingFault.{PendingFault}
use Rattle.disk_journal.specs.declared.journal.PendingFault.TheVariants.{Absent, GateClosed, GateWritten}
use Rattle.disk_journal.specs.declared.fault.JournalFault.{JournalFault}
use Rattle.disk_journal.specs.declared.fault.JournalFault.TheVariants.{Exists, NoArchive, Damaged, NeedsReopen, Limit, DiskFault, OutOfMemory}
use Rattle.disk_journal.proofs.Files.{length-framed, staged_either}
use Rattle.disk_journal.proofs.Bodies.{behind, begins}
use Rattle.disk_journal.proofs.Once.{frame_size, frame_tail}
use Rattle.disk_journal.proofs.Appending.{touched_state}

-- the bodies at the extents of records that stand somewhere in a file
pub bodies_at : (bodies : List (List ℕ)) (front tail : List ℕ) (at : ℕ) → at ≡ length front → map (body_of (front ++ (written bodies ++ tail))) (extents_from at bodies) ≡ bodies
bodies_at [] front tail at is = refl
bodies_at (body ∷ bodies) front tail at is =
    let record_here : List ℕ = 1 ∷ framed body in
    let rest : List ℕ = written bodies ++ tail in
    let file : List ℕ = front ++ (written (body ∷ bodies) ++ tail) in
    let whole : file ≡ front ++ (record_here ++ rest) = ap (λ (l : List ℕ). front ++ l) (append_assoc record_here (written bodies) tail) in
    let split : file ≡ (front ++ record_here) ++ rest = whole ∙ sym (append_assoc front record_here rest) in
    let size : at + 5 + length body ≡ length (front ++ record_here) = omega (arith, is, length-append front record_here, length-framed body) in
    let drops : drop (at + 5) file ≡ body ++ rest = sym (drop-drop 5 at file) ∙ ap (drop 5) (ap (drop at) whole ∙ drop_at front (record_here ++ rest) at (sym is)) ∙ behind body rest in
    let here : take (length body) (drop (at + 5) file) ≡ body = ap (take (length body)) drops ∙ take_at body rest (length body) refl in
    let more : map (body_of file) (extents_from (at + 5 + length body) bodies) ≡ bodies =
    ap (λ (f : List ℕ). map (body_of f) (extents_from (at + 5 + length body) bodies)) split ∙ bodies_at bodies (front ++ record_here) tail (at + 5 + length body) size in
    ap (λ (b : List ℕ). b ∷ map (body_of file) (extents_from (at + 5 + length body) bodies)) here ∙ ap (λ (l : List (List ℕ)). body ∷ l) more

-- the body of a record that stands whole behind any gate
pub body_behind_is : (content : List ℕ) (bodies : List (List ℕ)) (body tail : List ℕ) (gate end : ℕ) → content ≡ written bodies ++ (gate ∷ framed body ++ tail) → end ≡ length (written bodies) → length body < 2 ^ 32 → body_behind content end ≡ body
body_behind_is content bodies body tail gate end is end_is small =
    let split : content ≡ (written bodies ++ gate ∷ []) ++ (framed body ++ tail) = is ∙ sym (append_assoc (written bodies) (gate ∷ []) (framed body ++ tail)) in
    let size : length (written bodies ++ gate ∷ []) ≡ end + 1 = omega (arith, length-append (written bodies) (gate ∷ []), end_is) in
    let one : drop (end + 1) content ≡ framed body ++ tail = ap (drop (end + 1)) split ∙ drop_at (written bodies ++ gate ∷ []) (framed body ++ tail) (end + 1) size in
    let sum : end + 5 ≡ end + 1 + 4 = omega arith in
    let five : drop (end + 5) content ≡ body ++ tail = ap (λ (n : ℕ). drop n content) sum ∙ sym (drop-drop 4 (end + 1) content) ∙ ap (drop 4) one ∙ frame_tail body tail in
    let len : from_be_bytes w32 (take 4 (drop (end + 1) content)) ≡ length body = ap (λ (l : List ℕ). from_be_bytes w32 (take 4 l)) one ∙ frame_size body tail small in
    ap (λ (n : ℕ). take n (drop (end + 5) content)) len ∙ ap (take (length body)) five ∙ take_at body tail (length body) refl

-- what was read so far are the records at the opening's extents
pub read_are : (content : List ℕ) (opening : Opening) (bodies : List (List ℕ)) → IsAt opening content bodies → map (body_of content) opening.extents.items ≡ bodies
read_are content opening bodies at =
    ap (λ (l : List Extent). map (body_of content) l) at.extents ∙ ap (λ (l : List ℕ). map (body_of l) (extents_from 0 bodies)) at.up_to.file_is ∙ bodies_at bodies [] at.up_to.rest 0 refl

-- one failed write at most
one_most : (wrote : Bool) (before after : ℕ) → after ≡ writes_after wrote before → after ≤ raised (raised before)
one_most true before after is = omega (arith, is)
one_most false before after is = omega (arith, is)

-- what holds of the error that a `?` hands on
pub handed_on : {T : Type 0} (r : Result T JournalFault) (fault : JournalFault) (P : JournalFault → Type 0) → IsErrAnd r (λ e. e ≡ fault) → P fault → IfErr r P
handed_on (Ok x) fault P is p = absurd is
handed_on (Err e) fault P is p = subst P (sym is) p

module _ {D : Type 0} (device : Device D) where
  -- where one write failed, or none
  tells_writes : (before after : D) (wrote : Bool) → device.failed_writes after ≡ writes_after wrote (device.failed_writes before) → TellsWrites device before after wrote
  tells_writes before after true is = omega (arith, is)
  tells_writes before after false is = is

  -- the records that a journal has on a disk are those that its extents name
  pub records_are : (journal : Journal) (bodies : List (List ℕ)) (pending : List ℕ) (disk : D) → IsTrue device.is_transparent → HasOnDisk device journal bodies pending disk → records_of device journal disk ≡ bodies
  records_are journal bodies pending disk transparent keeps =
      let b = begins device journal.pending_fault journal.file bodies pending disk keeps.state transparent in
      ap (λ (l : List Extent). map (body_of (device.reads disk journal.file)) l) keeps.extents ∙ ap (λ (content : List ℕ). map (body_of content) (extents_from 0 bodies)) b.1 ∙ bodies_at bodies [] b.0 0 refl

  -- and the one whose gate may have been written stands behind the next gate
  pub next_body_is : (journal : Journal) (bodies : List (List ℕ)) (pending : List ℕ) (disk : D) (faults : ℕ) → IsTrue device.is_transparent → HasOnDisk device journal bodies pending disk → journal.pending_fault ≡ GateWritten faults → next_body_of device journal disk ≡ pending
  next_body_is journal bodies pending disk faults transparent keeps is =
      let s = touched_state device journal bodies pending disk faults is keeps (device.reads disk) (device.reads_as_image disk transparent) in
      body_behind_is (device.reads disk journal.file) bodies pending s.tail s.gate journal.end s.file_is keeps.end s.small_too

  other_state : (t : PendingFault) (file : ℕ) (bodies : List (List ℕ)) (pending other : List ℕ) (disk : D) → ((faults : ℕ) → t ≡ GateWritten faults → pending ≡ other) → StateIs device t file bodies pending disk → StateIs device t file bodies other disk
  other_state Absent file bodies pending other disk same state = state
  other_state (GateClosed faults) file bodies pending other disk same state = state
  other_state (GateWritten faults) file bodies pending other disk same state = subst (λ (b : List ℕ). (c : Image) → device.images disk c → HasStaged (c file) bodies b) (same faults refl) state

  -- what is pending tells only where a gate may have been written
  pub other_pending : (journal : Journal) (bodies : List (List ℕ)) (pending other : List ℕ) (disk : D) → ((faults : ℕ) → journal.pending_fault ≡ GateWritten faults → pending ≡ other) → HasOnDisk device journal bodies pending disk → HasOnDisk device journal bodies other disk
  other_pending journal bodies pending other disk same keeps = record {
    extents = keeps.extents;
    end = keeps.end;
    state = other_state journal.pending_fault journal.file bodies pending other disk same keeps.state;
  }

  -- no gate is written where no failure is pending
  not_written : {A : Type 0} (journal : Journal) (faults : ℕ) → faults_of journal.pending_fault ≡ None → journal.pending_fault ≡ GateWritten faults → A
  not_written journal faults none is = absurd (cc (ap faults_of is, none))

  -- a journal has its records
  pub has_records : (journal : Journal) (disk : D) → IsTrue device.is_transparent → IsOnDisk device journal disk → HasOnDisk device journal (records_of device journal disk) (next_body_of device journal disk) disk
  has_records journal disk transparent k =
      subst (λ (l : List (List ℕ)). HasOnDisk device journal l (next_body_of device journal disk) disk) (sym (records_are journal k.bodies k.pending disk transparent k.keeps))
      (other_pending journal k.bodies k.pending (next_body_of device journal disk) disk (λ faults is. sym (next_body_is journal k.bodies k.pending disk faults transparent k.keeps is)) k.keeps)

  -- and no more where no failure is pending
  pub alone : (journal : Journal) (disk : D) → IsTrue device.is_transparent → IsOnDisk device journal disk → faults_of journal.pending_fault ≡ None → HasOnDisk device journal (records_of device journal disk) [] disk
  alone journal disk transparent k none =
      other_pending journal (records_of device journal disk) (next_body_of device journal disk) [] disk (λ faults is. not_written journal faults none is) (has_records journal disk transparent k)

  -- what a crash now leaves of the journal's file
  either_state : (t : PendingFault) (file : ℕ) (bodies : List (List ℕ)) (pending : List ℕ) (disk : D) → StateIs device t file bodies pending disk → (c : Image) → device.images disk c → HasRecords (c file) bodies ⊎ HasRecords (c file) (bodies ++ if_gate_written t pending)
  either_state Absent file bodies pending disk state c left = inl (subst (λ (l : List ℕ). HasRecords l bodies) (sym (state.1 c left)) state.0)
  either_state (GateClosed faults) file bodies pending disk state c left = inl (state c left)
  either_state (GateWritten faults) file bodies pending disk state c left = staged_either (c file) bodies pending (state c left)

  pub left_now : (journal : Journal) (disk : D) → IsTrue device.is_transparent → IsOnDisk device journal disk → (c : Image) → device.images disk c → HasRecords (c (file_of journal)) (records_of device journal disk) ⊎ HasRecords (c (file_of journal)) (records_of device journal disk ++ unhealed_records_of device journal disk)
  left_now journal disk transparent k c left = either_state journal.pending_fault journal.file (records_of device journal disk) (next_body_of device journal disk) disk (has_records journal disk transparent k).state c left

  -- the records alone where no gate may have been written
  pub left_alone : (journal : Journal) (disk : D) {t : PendingFault} → IsTrue device.is_transparent → IsOnDisk device journal disk → journal.pending_fault ≡ t → if_gate_written t (next_body_of device journal disk) ≡ [] → (c : Image) → device.images disk c → HasRecords (c (file_of journal)) (records_of device journal disk)
  left_alone journal disk transparent k is none c left =
      let more = ap (λ (t : PendingFault). if_gate_written t (next_body_of device journal disk)) is ∙ none in
      let alone = ap (λ (l : List (List ℕ)). records_of device journal disk ++ l) more ∙ append-nil (records_of device journal disk) in
      ⊎_elim (λ has. has) (λ has. subst (HasRecords (c (file_of journal))) alone has) (left_now journal disk transparent k c left)

  -- also while the gate is written again
  pub left_staged : (journal : Journal) (disk : D) (faults : ℕ) (content : List ℕ) → journal.pending_fault ≡ GateWritten faults → HasStaged content (records_of device journal disk) (next_body_of device journal disk) → HasRecords content (records_of device journal disk) ⊎ HasRecords content (records_of device journal disk ++ unhealed_records_of device journal disk)
  left_staged journal disk faults content is staged =
      subst (λ (t : PendingFault). HasRecords content (records_of device journal disk) ⊎ HasRecords content (records_of device journal disk ++ if_gate_written t (next_body_of device journal disk))) (sym is)
      (staged_either content (records_of device journal disk) (next_body_of device journal disk) staged)

  -- an append to a journal that is healed and not full is refused only where a write failed
  pub refusal_failed : (old new : Journal) (before after : D) (body : List ℕ) (fault : JournalFault) → unhealed_fault old ≡ None → count_of old < 2 ^ 32 - 1 → IsAppendRefusal device old new before after body fault → (fault ≡ DiskFault true) × IsAppendFailed device old new before after body
  refusal_failed old new before after body Exists none below refusal = absurd refusal
  refusal_failed old new before after body NoArchive none below refusal = absurd refusal
  refusal_failed old new before after body (Damaged at) none below refusal = absurd refusal
  refusal_failed old new before after body (NeedsReopen faults) none below refusal = absurd (cc (refusal.0, none))
  refusal_failed old new before after body Limit none below refusal = absurd (omega (arith, refusal.1, below))
  refusal_failed old new before after body (DiskFault true) none below refusal = (refl, refusal)
  refusal_failed old new before after body (DiskFault false) none below refusal = absurd refusal
  refusal_failed old new before after body OutOfMemory none below refusal = absurd refusal

  -- each answer of an append comes exactly where its cause is: a failure that isn't healed,
  pub needs_reopen_exactly : (old new : Journal) (before after : D) (body : List ℕ) (result : Result ℕ JournalFault) → IfOk result (IsAppended device old new before after body) → IfErr result (IsAppendRefusal device old new before after body)
      → (faults : ℕ) → (result ≡ Err (NeedsReopen faults)) ↔ (unhealed_fault old ≡ Some faults)
  needs_reopen_exactly old new before after body (Ok place) ok err faults = (λ is. absurd (cc is), λ is. absurd (cc (is, ok.healed)))
  needs_reopen_exactly old new before after body (Err Exists) ok err faults = absurd err
  needs_reopen_exactly old new before after body (Err NoArchive) ok err faults = absurd err
  needs_reopen_exactly old new before after body (Err (Damaged at)) ok err faults = absurd err
  needs_reopen_exactly old new before after body (Err (NeedsReopen count)) ok err faults = (λ is. let same : count ≡ faults = cc (is) in err.0 ∙ ap Some same, λ is. let same : count ≡ faults = cc (is, err.0) in ap (λ (n : ℕ). Err (NeedsReopen n)) same)
  needs_reopen_exactly old new before after body (Err Limit) ok err faults = (λ is. absurd (cc is), λ is. absurd (cc (is, err.0)))
  needs_reopen_exactly old new before after body (Err (DiskFault true)) ok err faults = (λ is. absurd (cc is), λ is. absurd (cc (is, err.healed)))
  needs_reopen_exactly old new before after body (Err (DiskFault false)) ok err faults = absurd err
  needs_reopen_exactly old new before after body (Err OutOfMemory) ok err faults = absurd err

  -- or as many records as there may be
  pub limit_exactly : (old new : Journal) (before after : D) (body : List ℕ) (result : Result ℕ JournalFault) → IfOk result (IsAppended device old new before after body) → IfErr result (IsAppendRefusal device old new before after body)
      → (result ≡ Err Limit) ↔ ((unhealed_fault old ≡ None) × (2 ^ 32 - 1 ≤ count_of old))
  limit_exactly old new before after body (Ok place) ok err = (λ is. absurd (cc is), λ full. absurd (omega (arith, full.1, ok.below)))
  limit_exactly old new before after body (Err Exists) ok err = absurd err
  limit_exactly old new before after body (Err NoArchive) ok err = absurd err
  limit_exactly old new before after body (Err (Damaged at)) ok err = absurd err
  limit_exactly old new before after body (Err (NeedsReopen faults)) ok err = (λ is. absurd (cc is), λ full. absurd (cc (full.0, err.0)))
  limit_exactly old new before after body (Err Limit) ok err = (λ is. (err.0, err.1), λ full. refl)
  limit_exactly old new before after body (Err (DiskFault true)) ok err = (λ is. absurd (cc is), λ full. absurd (omega (arith, full.1, err.below)))
  limit_exactly old new before after body (Err (DiskFault false)) ok err = absurd err
  limit_exactly old new before after body (Err OutOfMemory) ok err = absurd err

  -- an append is refused for a write that failed,
  pub append_refused : {old new : Journal} {before after : D} {body : List ℕ} {fault : JournalFault} → fault ≡ DiskFault true → IsAppendFailed device old new before after body → IsAppendRefusal device old new before after body fault
  append_refused {old} {new} {before} {after} {body} is failed = subst (IsAppendRefusal device old new before after body) (sym is) failed

  pub append_failed : {old new : Journal} {before after : D} {body : List ℕ} {fault : JournalFault} → fault ≡ DiskFault true → IsAppendRefusal device old new before after body fault → IsAppendFailed device old new before after body
  append_failed {old} {new} {before} {after} {body} is refusal = subst (IsAppendRefusal device old new before after body) is refusal

  -- and so is a heal
  pub heal_refused : {old new : Journal} {before after : D} {fault : JournalFault} → fault ≡ DiskFault true → IsHealFailed device old new before after → IsHealRefusal device old new before after fault
  heal_refused {old} {new} {before} {after} is failed = subst (IsHealRefusal device old new before after) (sym is) failed

  pub heal_failed : {old new : Journal} {before after : D} {fault : JournalFault} → fault ≡ DiskFault true → IsHealRefusal device old new before after fault → IsHealFailed device old new before after
  heal_failed {old} {new} {before} {after} is refusal = subst (IsHealRefusal device old new before after) is refusal

  -- a heal is refused only where a write failed
  pub heal_refusal_failed : (old new : Journal) (before after : D) (fault : JournalFault) → IsHealRefusal device old new before after fault → (fault ≡ DiskFault true) × IsHealFailed device old new before after
  heal_refusal_failed old new before after Exists refusal = absurd refusal
  heal_refusal_failed old new before after NoArchive refusal = absurd refusal
  heal_refusal_failed old new before after (Damaged at) refusal = absurd refusal
  heal_refusal_failed old new before after (NeedsReopen faults) refusal = absurd refusal
  heal_refusal_failed old new before after Limit refusal = absurd refusal
  heal_refusal_failed old new before after (DiskFault true) refusal = (refl, refusal)
  heal_refusal_failed old new before after (DiskFault false) refusal = absurd refusal
  heal_refusal_failed old new before after OutOfMemory refusal = absurd refusal

  -- no journal is made in a file that couldn't be made ready
  pub not_prepared : (file : ℕ) (before after : D) (fault : JournalFault) → IsPrepareRefusal device before after fault
      → (IsTrue device.is_transparent → fault ≡ Exists → BeginsOpen (device.reads before file) × (device.reads after ≡ device.reads before))
      → (IsTrue device.is_transparent → HoldsNone (device.reads before file) → LeavesOnly device before after (λ c. device.images before c ⊎ HoldsNone (c file)))
      → IsJournalCreateRefusal device file before after fault
  not_prepared file before after Exists refusal exists moments = (λ transparent. exists transparent refl, refusal)
  not_prepared file before after NoArchive refusal exists moments = absurd refusal
  not_prepared file before after (Damaged at) refusal exists moments = absurd refusal
  not_prepared file before after (NeedsReopen faults) refusal exists moments = absurd refusal
  not_prepared file before after Limit refusal exists moments = absurd refusal
  not_prepared file before after (DiskFault wrote) refusal exists moments = (
    record {
      rose = refusal.rose;
      wrote_most = one_most wrote (device.failed_writes before) (device.failed_writes after) refusal.writes;
      closed = λ few transparent none c left. at_end device before after _ (moments transparent none) c left;
    },
    tells_writes before after wrote refusal.writes,
  )
  not_prepared file before after OutOfMemory refusal exists moments = absurd refusal

  -- an opening that has read some records of its file stands at the gate behind them
  pub stands_at_gate : (old new : Opening) (before after : D) (bodies : List (List ℕ)) → file_read new ≡ file_read old → device.reads after ≡ device.reads before
      → (IsTrue device.is_transparent → IsAt new (content_read device old before) bodies) → StandsAtGate device new after
  stands_at_gate old new before after bodies file reads at transparent =
      let same : content_read device new after ≡ content_read device old before = ap (λ (x : Image). x (file_read new)) reads ∙ ap (device.reads before) file in
      let there : IsAt new (content_read device new after) bodies = subst (λ (l : List ℕ). IsAt new l bodies) (sym same) (at transparent) in
      subst (IsAt new (content_read device new after)) (sym (read_are (content_read device new after) new bodies there)) there

  -- a reading that couldn't begin opens no journal
  pub not_begun : (file : ℕ) (before after : D) (fault : JournalFault) → IsBeginRefusal device file before after fault → IsJournalOpenRefusal device file before after fault
  not_begun file before after Exists refusal = absurd refusal
  not_begun file before after NoArchive refusal = refusal
  not_begun file before after (Damaged at) refusal = absurd refusal
  not_begun file before after (NeedsReopen faults) refusal = absurd refusal
  not_begun file before after Limit refusal = absurd refusal
  not_begun file before after (DiskFault wrote) refusal = refusal
  not_begun file before after OutOfMemory refusal = absurd refusal

  -- nor does one that didn't come to the end of the file
  pub not_read : (file : ℕ) (old mid new : D) (opening : Opening) (fault : JournalFault) → IsOpeningBegun device file old mid opening → device.reads mid ≡ device.reads old → device.fault_count old ≤ device.fault_count mid → OnlyReads device mid new
      → IsReadWholeRefusal device opening mid new fault → IsJournalOpenRefusal device file old new fault
  not_read file old mid new opening Exists begun reads later looked refusal = absurd refusal
  not_read file old mid new opening NoArchive begun reads later looked refusal = absurd refusal
  not_read file old mid new opening (Damaged at) begun reads later looked refusal = (
    λ transparent. (begun.open_gate transparent, subst (λ (l : List ℕ). IsDamagedAt l at) (ap (λ (x : Image). x (file_read opening)) reads ∙ ap (device.reads old) begun.in_file) (refusal transparent)),
    looked.no_write ∙ begun.no_failed_write,
  )
  not_read file old mid new opening (NeedsReopen faults) begun reads later looked refusal = absurd refusal
  not_read file old mid new opening Limit begun reads later looked refusal = absurd refusal
  not_read file old mid new opening (DiskFault true) begun reads later looked refusal = absurd refusal
  not_read file old mid new opening (DiskFault false) begun reads later looked refusal = record { rose = omega (arith, later, refusal); writes = looked.no_write ∙ begun.no_failed_write }
  not_read file old mid new opening OutOfMemory begun reads later looked refusal = looked.no_write ∙ begun.no_failed_write

  -- why no header of a record was read
  pub no_header : (opening : Opening) (before after : D) (fault : JournalFault) → IsReadFault fault → (fault ≡ DiskFault false → raised (device.fault_count before) ≤ device.fault_count after)
      → (IsTrue device.is_transparent → (at : ℕ) → fault ≡ Damaged at → (at ≡ gate_of opening) × IsCutShortAt (content_read device opening before) (read_so_far device opening before)) → IsNextRefusal device opening before after fault
  no_header opening before after Exists only cause damaged = absurd only
  no_header opening before after NoArchive only cause damaged = absurd only
  no_header opening before after (Damaged at) only cause damaged = λ transparent. damaged transparent at refl
  no_header opening before after (NeedsReopen faults) only cause damaged = absurd only
  no_header opening before after Limit only cause damaged = absurd only
  no_header opening before after (DiskFault true) only cause damaged = absurd only
  no_header opening before after (DiskFault false) only cause damaged = cause refl
  no_header opening before after OutOfMemory only cause damaged = tt

  -- or no file whole
  pub not_whole : (opening : Opening) (before after : D) (fault : JournalFault) → IsReadFault fault → (fault ≡ DiskFault false → raised (device.fault_count before) ≤ device.fault_count after)
      → (IsTrue device.is_transparent → (at : ℕ) → fault ≡ Damaged at → IsDamagedAt (content_read device opening before) at) → IsReadWholeRefusal device opening before after fault
  not_whole opening before after Exists only cause damaged = absurd only
  not_whole opening before after NoArchive only cause damaged = absurd only
  not_whole opening before after (Damaged at) only cause damaged = λ transparent. damaged transparent at refl
  not_whole opening before after (NeedsReopen faults) only cause damaged = absurd only
  not_whole opening before after Limit only cause damaged = absurd only
  not_whole opening before after (DiskFault true) only cause damaged = absurd only
  not_whole opening before after (DiskFault false) only cause damaged = cause refl
  not_whole opening before after OutOfMemory only cause damaged = tt

  module _ (old : Journal) (bodies : List (List ℕ)) (pending : List ℕ) (before : D) (transparent : IsTrue device.is_transparent) (keeps : HasOnDisk device old bodies pending before) where
    -- an append, where these are the records before it
    pub appended_on : (new : Journal) (after : D) (body : List ℕ) (place : ℕ) → IsAppended device old new before after body place → HasOnDisk device new (bodies ++ body ∷ []) pending after
    appended_on new after body place a =
        subst (λ (l : List (List ℕ)). HasOnDisk device new (l ++ body ∷ []) pending after) (records_are old bodies pending before transparent keeps)
        (other_pending new (records_of device old before ++ body ∷ []) [] pending after (λ faults is. not_written new faults a.no_pending_fault is) (a.records transparent))

    pub append_failed_on : (new : Journal) (after : D) (body : List ℕ) → IsAppendFailed device old new before after body → HasOnDisk device new bodies body after
    append_failed_on new after body f = subst (λ (l : List (List ℕ)). HasOnDisk device new l body after) (records_are old bodies pending before transparent keeps) (f.records transparent)

    pub append_crash_on : (after : D) (body : List ℕ) → CrashLeavesRecords device old before after (body ∷ []) → LeavesOnly device before after (λ c. IsBeforeOrAfter bodies body (c (file_of old)))
    append_crash_on after body crash = subst (λ (l : List (List ℕ)). LeavesOnly device before after (λ c. IsBeforeOrAfter l body (c (file_of old)))) (records_are old bodies pending before transparent keeps) (crash transparent)

    -- and a heal
    pub healed_on : (new : Journal) (after : D) → IsHealed device old new before after → HasOnDisk device new bodies pending after
    healed_on new after h =
        subst (λ (l : List (List ℕ)). HasOnDisk device new l pending after) (records_are old bodies pending before transparent keeps)
        (other_pending new (records_of device old before) [] pending after (λ faults is. not_written new faults (ap (λ (j : Journal). faults_of j.pending_fault) h.journal) is) (h.records transparent))

    pub heal_failed_on : (new : Journal) (after : D) → IsHealFailed device old new before after → HasOnDisk device new bodies pending after
    heal_failed_on new after f =
        subst (λ (l : List (List ℕ)). HasOnDisk device new l pending after) (records_are old bodies pending before transparent keeps)
        (other_pending new (records_of device old before) (next_body_of device old before) pending after
        (λ faults is. next_body_is old bodies pending before faults transparent keeps (ap (λ (j : Journal). j.pending_fault) (sym f.journal) ∙ is)) (f.records transparent))

    pub heal_crash_on : (after : D) → CrashLeavesRecords device old before after (unhealed_records_of device old before) → LeavesOnly device before after (λ c. IsBeforeOrAfter bodies pending (c (file_of old)))
    heal_crash_on after crash = weakens device before after _ _ (crash transparent) (λ c either. ⊎_elim (λ alone. inl (first c alone)) (λ more. go old.pending_fault refl c more) either)
      where
        first : (c : Image) → HasRecords (c (file_of old)) (records_of device old before) → HasRecords (c (file_of old)) bodies
        first c alone = subst (HasRecords (c (file_of old))) (records_are old bodies pending before transparent keeps) alone

        go : (t : PendingFault) → old.pending_fault ≡ t → (c : Image) → HasRecords (c (file_of old)) (records_of device old before ++ if_gate_written t (next_body_of device old before)) → IsBeforeOrAfter bodies pending (c (file_of old))
        go Absent is c more = inl (first c (subst (HasRecords (c (file_of old))) (append-nil (records_of device old before)) more))
        go (GateClosed faults) is c more = inl (first c (subst (HasRecords (c (file_of old))) (append-nil (records_of device old before)) more))
        go (GateWritten faults) is c more =
            inr (subst (λ (l : List (List ℕ)). HasRecords (c (file_of old)) (l ++ pending ∷ [])) (records_are old bodies pending before transparent keeps)
            (subst (λ (b : List ℕ). HasRecords (c (file_of old)) (records_of device old before ++ b ∷ [])) (next_body_is old bodies pending before faults transparent keeps is) more))
