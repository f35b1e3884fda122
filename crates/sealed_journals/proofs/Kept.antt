-- What a store keeps of two journals: over work above the log, over the append of a seal, and over the healing of file 0.
use Rattle.std.proofs.Common.{◌≡◌, inl, inr, ⊎_elim, ℕ, ◌<◌, ◌≤◌, List, [], ◌∷◌, ◌++◌, map, Option, Some, None, refl, sym, ◌∙◌, subst, arith}
use Rattle.arch_disk.specs.Image.{AgreesBut, Image}
use Rattle.arch_disk.specs.Disk.{Device, IsOldBut, LeavesOnly}
use Rattle.arch_disk.proofs.Moments.{at_end, both, weakens}
use Rattle.disk_journal.specs.Format.{HasRecords, IsBeforeOrAfter}
use Rattle.disk_journal.specs.State.{HasOnDisk as JournalHasOnDisk}
use Rattle.disk_journal.specs.State.{file_of, unhealed_fault}
use Rattle.disk_journal.specs.declared.journal.Journal.{Journal}
use Rattle.disk_journal.proofs.Elsewhere.{keeps_elsewhere}
use Rattle.archive_images.specs.Images.{IsSaidByLowerFiles, LogInvariant, ReplaysBy, StandsNow, StandsOver}
use Rattle.archive_images.proofs.PendingFaults.{keeps_without_fault}
use Rattle.sealed_journals.specs.Journals.{SealingInvariant}

module _ {A E : Type 0} (spell : E → List ℕ) (Applies : Option A → E → A → Type 0) (HasBase : Image → ℕ → List (List ℕ) → Option A → Type 0) (lower : IsSaidByLowerFiles HasBase) where
  stands_before : (a : A) (log : ℕ) (beginning : List (List ℕ)) (base : Option A) (es : List E) (c : Image) → HasBase c log beginning base → ReplaysBy Applies base es (Some a) → HasRecords (c log) (beginning ++ map spell es) → StandsOver spell Applies HasBase c a
  stands_before a log beginning base es c has_base replays has = record { log = log; beginning = beginning; base = base; entries = es; has_base = has_base; has = has; replays = replays }

  module _ {D : Type 0} (device : Device D) where
    -- what stands below the log stays while only the log changes, or a file of a higher number
    base_on : (disk : D) (log file : ℕ) (beginning : List (List ℕ)) (base : Option A) → log ≤ file → ((c : Image) → device.images disk c → HasBase c log beginning base) → (c : Image) → IsOldBut device file disk c → HasBase c log beginning base
    base_on disk log file beginning base le has_base c from = lower from.0 c log beginning base (λ f lt. from.2 f (λ e. absurd (omega (arith, e, lt, le)))) (has_base from.0 from.1)

    -- an image that differs from one of now in one file alone
    old_but_on : (disk new : D) (file : ℕ) → LeavesOnly device disk new (IsOldBut device file disk) → (c : Image) → IsOldBut device file new c → IsOldBut device file disk c
    old_but_on disk new file elsewhere c from =
        let mid = at_end device disk new _ elsewhere from.0 from.1 in
        (mid.0, mid.1, λ g other. from.2 g other ∙ mid.2 g other)

    -- work in a file of a higher number than the log's, so in one that nothing names
    pub images_above : (disk new : D) (journal : Journal) (file : ℕ) (a : A) (Unacknowledged : A → Type 0) → LogInvariant spell Applies HasBase device disk journal a Unacknowledged → unhealed_fault journal ≡ None
        → file_of journal < file → LeavesOnly device disk new (IsOldBut device file disk) → LeavesOnly device disk new (λ c. StandsOver spell Applies HasBase c a)
    images_above disk new journal file a Unacknowledged e healed above elsewhere =
        weakens device disk new _ _ elsewhere
        (λ c from. stands_before a (file_of journal) e.beginning e.base e.entries c (base_on disk (file_of journal) file e.beginning e.base (omega (arith, above)) e.has_base c from) e.replays
        (subst (λ (l : List ℕ). HasRecords l (e.beginning ++ map spell e.entries)) (sym (from.2 (file_of journal) (λ e. absurd (omega (arith, e, above))))) (keeps_without_fault device journal (e.beginning ++ map spell e.entries) e.pending disk healed e.keeps from.0 from.1)))

    pub entries_above : (disk new : D) (journal : Journal) (file : ℕ) (a : A) (Unacknowledged : A → Type 0) → LogInvariant spell Applies HasBase device disk journal a Unacknowledged → unhealed_fault journal ≡ None
        → file_of journal < file → LeavesOnly device disk new (IsOldBut device file disk) → AgreesBut file (device.reads disk) (device.reads new) → LogInvariant spell Applies HasBase device new journal a Unacknowledged
    entries_above disk new journal file a Unacknowledged e healed above elsewhere reads = record {
      beginning = e.beginning;
      base = e.base;
      entries = e.entries;
      pending = e.pending;
      has_base = λ c left. base_on disk (file_of journal) file e.beginning e.base (omega (arith, above)) e.has_base c (at_end device disk new _ elsewhere c left);
      replays = e.replays;
      keeps = keeps_elsewhere device journal file (λ e. absurd (omega (arith, e, above))) (e.beginning ++ map spell e.entries) e.pending disk new reads (λ c left. at_end device disk new _ elsewhere c left) e.keeps;
      unacknowledged = λ faults is. absurd (cc (is, healed));
    }

    -- the seal is in file 0, and the new log goes on from the archive
    pub entries_sealed : (new : D) (next : Journal) (a : A) (beginning : List (List ℕ)) (Next : A → Type 0)
        → ((c : Image) → device.images new c → HasBase c (file_of next) beginning (Some a)) → unhealed_fault next ≡ None → JournalHasOnDisk device next (beginning ++ []) [] new
        → LogInvariant spell Applies HasBase device new next a Next
    entries_sealed new next a beginning Next has_base healed keeps = record {
      beginning = beginning;
      base = Some a;
      entries = [];
      pending = [];
      has_base = has_base;
      replays = refl;
      keeps = keeps;
      unacknowledged = λ faults is. absurd (cc (is, healed));
    }

    -- a later seal was appended and that failed
    pub sealing_err : (disk new : D) (manifest after log : Journal) (bodies : List (List ℕ)) (before body : List ℕ) (a : A) (Unacknowledged Next : A → Type 0)
        → (e : LogInvariant spell Applies HasBase device disk log a Unacknowledged) → unhealed_fault log ≡ None → file_of manifest ≡ 0 → file_of after ≡ 0 → 0 < file_of log
        → JournalHasOnDisk device after bodies body new
        → LeavesOnly device disk new (IsOldBut device 0 disk) → AgreesBut 0 (device.reads disk) (device.reads new)
        → ((c : Image) → IsOldBut device 0 disk c → HasRecords (c 0) bodies → HasBase c (file_of log) e.beginning e.base)
        → ((c : Image) → IsOldBut device 0 disk c → HasRecords (c 0) (bodies ++ body ∷ []) → StandsNow spell Applies HasBase a Next c)
        → SealingInvariant spell Applies HasBase device new after log a Next
    sealing_err disk new manifest after log bodies before body a Unacknowledged Next e healed zero_old zero_is above keeps elsewhere reads without with_seal = record {
      bodies = bodies;
      pending = body;
      zero = zero_is;
      above = above;
      keeps = keeps;
      beginning = e.beginning;
      base = e.base;
      entries = e.entries;
      log_pending = e.pending;
      replays = e.replays;
      log_keeps = keeps_elsewhere device log 0 (λ is. absurd (omega (arith, is, above))) (e.beginning ++ map spell e.entries) e.pending disk new reads (λ c left. at_end device disk new _ elsewhere c left) e.keeps;
      healed = healed;
      without = λ c from has. without c (old_but_on disk new 0 elsewhere c from) has;
      with_seal = λ c from has. with_seal c (old_but_on disk new 0 elsewhere c from) has;
    }

    -- what an image stands for while a seal is half done
    pub sealing_now : (disk : D) (manifest log : Journal) (a : A) (Unacknowledged : A → Type 0) → (s : SealingInvariant spell Applies HasBase device disk manifest log a Unacknowledged)
        → (c : Image) → IsOldBut device 0 disk c → IsBeforeOrAfter s.bodies s.pending (c 0) → StandsNow spell Applies HasBase a Unacknowledged c
    sealing_now disk manifest log a Unacknowledged s c from (inl has) = inl (stands_before a (file_of log) s.beginning s.base s.entries c (s.without c from has) s.replays
        (subst (λ (l : List ℕ). HasRecords l (s.beginning ++ map spell s.entries)) (sym (from.2 (file_of log) (λ is. absurd (omega (arith, is, s.above)))))
        (keeps_without_fault device log (s.beginning ++ map spell s.entries) s.log_pending disk s.healed s.log_keeps from.0 from.1)))
    sealing_now disk manifest log a Unacknowledged s c from (inr has) = s.with_seal c from has

    -- a crash during the healing of file 0
    pub sealing_moments : (disk new : D) (manifest log : Journal) (a : A) (Unacknowledged : A → Type 0) → (s : SealingInvariant spell Applies HasBase device disk manifest log a Unacknowledged)
        → LeavesOnly device disk new (λ c. IsBeforeOrAfter s.bodies s.pending (c (file_of manifest)))
        → LeavesOnly device disk new (IsOldBut device (file_of manifest) disk)
        → LeavesOnly device disk new (StandsNow spell Applies HasBase a Unacknowledged)
    sealing_moments disk new manifest log a Unacknowledged s run elsewhere =
        weakens device disk new _ _ (both device disk new _ _ run elsewhere)
        (λ c left. sealing_now disk manifest log a Unacknowledged s c (subst (λ (f : ℕ). IsOldBut device f disk c) s.zero left.1) (subst (λ (f : ℕ). IsBeforeOrAfter s.bodies s.pending (c f)) s.zero left.0))

    -- file 0 is healed, and the log goes on
    pub sealing_healed : (disk new : D) (manifest after log : Journal) (a : A) (Unacknowledged : A → Type 0) → (s : SealingInvariant spell Applies HasBase device disk manifest log a Unacknowledged)
        → file_of after ≡ 0 → unhealed_fault after ≡ None → JournalHasOnDisk device after s.bodies s.pending new
        → LeavesOnly device disk new (IsOldBut device 0 disk) → AgreesBut 0 (device.reads disk) (device.reads new)
        → LogInvariant spell Applies HasBase device new log a Unacknowledged
    sealing_healed disk new manifest after log a Unacknowledged s zero_is healed keeps elsewhere reads = record {
      beginning = s.beginning;
      base = s.base;
      entries = s.entries;
      pending = s.log_pending;
      has_base = λ c left. s.without c (at_end device disk new _ elsewhere c left) (subst (λ (f : ℕ). HasRecords (c f) s.bodies) zero_is (keeps_without_fault device after s.bodies s.pending new healed keeps c left));
      replays = s.replays;
      keeps = keeps_elsewhere device log 0 (λ is. absurd (omega (arith, is, s.above))) (s.beginning ++ map spell s.entries) s.log_pending disk new reads (λ c left. at_end device disk new _ elsewhere c left) s.log_keeps;
      unacknowledged = λ faults is. absurd (cc (is, s.healed));
    }

    -- an image whose new log has no entry yet
    pub after_seal : (next : ℕ) (beginning : List (List ℕ)) (a : A) (c : Image) → HasBase c next beginning (Some a) → HasRecords (c next) (beginning ++ []) → StandsOver spell Applies HasBase c a
    after_seal next beginning a c has_base has = record { log = next; beginning = beginning; base = Some a; entries = []; has_base = has_base; has = has; replays = refl }

    -- A crash during the append of a seal to file 0: with the seal or without it, the archive is the same.
    pub seal_moments : (disk new : D) (bodies : List (List ℕ)) (seal : List ℕ) (a : A)
        → LeavesOnly device disk new (λ c. IsBeforeOrAfter bodies seal (c 0))
        → LeavesOnly device disk new (IsOldBut device 0 disk)
        → ((c : Image) → IsOldBut device 0 disk c → HasRecords (c 0) bodies → StandsOver spell Applies HasBase c a)
        → ((c : Image) → IsOldBut device 0 disk c → HasRecords (c 0) (bodies ++ seal ∷ []) → StandsOver spell Applies HasBase c a)
        → LeavesOnly device disk new (λ c. StandsOver spell Applies HasBase c a)
    seal_moments disk new bodies seal a run elsewhere without with_seal =
        weakens device disk new _ _ (both device disk new _ _ run elsewhere) (λ c left. ⊎_elim (λ has. without c left.1 has) (λ has. with_seal c left.1 has) left.0)
