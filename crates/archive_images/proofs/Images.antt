-- What a store keeps over an append and a reopen, whatever the entry is and whatever stands below the log.
use Rattle.std.proofs.Common.{◌≡◌, ◌⊎◌, inl, inr, ⊎_elim, ℕ, ◌≤◌, List, [], ◌∷◌, ◌++◌, map, Option, Some, None, refl, sym, ◌∙◌, ap, subst, arith, append_assoc}
use Rattle.std.proofs.lemmas.List.{map-append}
use Rattle.arch_disk.specs.Image.{Image}
use Rattle.arch_disk.specs.Disk.{Device, IsOldBut, LeavesOnly}
use Rattle.arch_disk.proofs.Moments.{joins, weakens, both, at_end}
use Rattle.disk_journal.specs.Format.{HasRecords, IsBeforeOrAfter}
use Rattle.disk_journal.specs.State.{HasOnDisk as JournalHasOnDisk}
use Rattle.disk_journal.specs.State.{unhealed_fault, file_of, faults_of, IsSame}
use Rattle.disk_journal.specs.declared.journal.Journal.{Journal}
use Rattle.disk_journal.proofs.Appending.{keeps_same}
use Rattle.archive_images.specs.Images.{IsSaidByLowerFiles, ReplaysBy, StandsOver, StandsForSome, StandsNow, ImageInvariant, LogInvariant}
use Rattle.archive_images.proofs.PendingFaults.{keeps_without_fault}

module _ {A E : Type 0} (spell : E → List ℕ) (Applies : Option A → E → A → Type 0) (HasBase : Image → ℕ → List (List ℕ) → Option A → Type 0) (lower : IsSaidByLowerFiles HasBase) where
  -- one entry more
  replays_more : (a : Option A) (b c : A) (es : List E) (entry : E) → ReplaysBy Applies a es (Some b) → Applies (Some b) entry c → ReplaysBy Applies a (es ++ entry ∷ []) (Some c)
  replays_more a b c [] entry replays applies = (c, subst (λ (x : Option A). Applies x entry c) replays applies, refl)
  replays_more a b c (e ∷ es) entry replays applies = (replays.0, replays.1, replays_more (Some replays.0) b c es entry replays.2 applies)

  bodies_more : (beginning : List (List ℕ)) (es : List E) (entry : E) → beginning ++ map spell (es ++ entry ∷ []) ≡ (beginning ++ map spell es) ++ spell entry ∷ []
  bodies_more beginning es entry = ap (λ (l : List (List ℕ)). beginning ++ l) (map-append spell es (entry ∷ [])) ∙ sym (append_assoc beginning (map spell es) (spell entry ∷ []))

  stands_before : (a : A) (log : ℕ) (beginning : List (List ℕ)) (base : Option A) (es : List E) (c : Image) → HasBase c log beginning base → ReplaysBy Applies base es (Some a) → HasRecords (c log) (beginning ++ map spell es) → StandsOver spell Applies HasBase c a
  stands_before a log beginning base es c has_base replays has = record { log = log; beginning = beginning; base = base; entries = es; has_base = has_base; has = has; replays = replays }

  stands_after : (a b : A) (entry : E) (log : ℕ) (beginning : List (List ℕ)) (base : Option A) (es : List E) (c : Image) → HasBase c log beginning base → ReplaysBy Applies base es (Some a) → Applies (Some a) entry b → HasRecords (c log) ((beginning ++ map spell es) ++ spell entry ∷ []) → StandsOver spell Applies HasBase c b
  stands_after a b entry log beginning base es c has_base replays applies has = record {
    log = log;
    beginning = beginning;
    base = base;
    entries = es ++ entry ∷ [];
    has_base = has_base;
    has = subst (HasRecords (c log)) (sym (bodies_more beginning es entry)) has;
    replays = replays_more base a b es entry replays applies;
  }

  stands_either : (a b : A) (entry : E) (log : ℕ) (beginning : List (List ℕ)) (base : Option A) (es : List E) (c : Image) → HasBase c log beginning base → ReplaysBy Applies base es (Some a) → Applies (Some a) entry b → IsBeforeOrAfter (beginning ++ map spell es) (spell entry) (c log) → StandsOver spell Applies HasBase c a ⊎ StandsOver spell Applies HasBase c b
  stands_either a b entry log beginning base es c has_base replays applies (inl has) = inl (stands_before a log beginning base es c has_base replays has)
  stands_either a b entry log beginning base es c has_base replays applies (inr has) = inr (stands_after a b entry log beginning base es c has_base replays applies has)

  module _ {D : Type 0} (device : Device D) where
    -- what stands below the log stays while only the log changes, or a file of a higher number
    base_on : (disk : D) (log file : ℕ) (beginning : List (List ℕ)) (base : Option A) → log ≤ file → ((c : Image) → device.images disk c → HasBase c log beginning base) → (c : Image) → IsOldBut device file disk c → HasBase c log beginning base
    base_on disk log file beginning base le has_base c from = lower from.0 c log beginning base (λ f lt. from.2 f (λ e. absurd (omega (arith, e, lt, le)))) (has_base from.0 from.1)

    -- an image that differs from one of now in one file alone
    old_but_on : (disk new : D) (file : ℕ) → LeavesOnly device disk new (IsOldBut device file disk) → (c : Image) → IsOldBut device file new c → IsOldBut device file disk c
    old_but_on disk new file elsewhere c from =
        let mid = at_end device disk new _ elsewhere from.0 from.1 in
        (mid.0, mid.1, λ g other. from.2 g other ∙ mid.2 g other)

    -- what is known of each archive that was found may be weakened
    since_on : (Found FoundNext : A → Type 0) → ((a : A) → Found a → FoundNext a) → (c : Image) → StandsForSome spell Applies HasBase Found c → StandsForSome spell Applies HasBase FoundNext c
    since_on Found FoundNext on c s = record { found = s.found; stands = s.stands; holds = on s.found s.holds }

    since_now : (a : A) (Unacknowledged Found : A → Type 0) → Found a → ((b : A) → Unacknowledged b → Found b) → (c : Image) → StandsNow spell Applies HasBase a Unacknowledged c → StandsForSome spell Applies HasBase Found c
    since_now a Unacknowledged Found here also c (inl now) = record { found = a; stands = now; holds = here }
    since_now a Unacknowledged Found here also c (inr now) = record { found = now.found; stands = now.stands; holds = also now.found now.holds }

    -- ---- images: a run of calls each of whose images is one of now

    -- the images of a run that leaves only what now may stand for
    pub images_on : (disk new opened : D) (a : A) (Unacknowledged Found : A → Type 0) → ImageInvariant spell Applies HasBase device disk opened a Unacknowledged Found → LeavesOnly device disk new (StandsNow spell Applies HasBase a Unacknowledged)
        → Found a → ((b : A) → Unacknowledged b → Found b) → ImageInvariant spell Applies HasBase device new opened a Unacknowledged Found
    images_on disk new opened a Unacknowledged Found k moments here also = record {
      now = λ c left. at_end device disk new _ moments c left;
      since = joins device opened disk new _ _ k.since moments (since_now a Unacknowledged Found here also);
    }

    -- the images of a run that leaves the archive or the next one, after which the next one stands
    pub images_next : (disk new opened : D) (a b : A) (Unacknowledged Next Found FoundNext : A → Type 0) → ImageInvariant spell Applies HasBase device disk opened a Unacknowledged Found
        → LeavesOnly device disk new (λ c. StandsOver spell Applies HasBase c a ⊎ StandsOver spell Applies HasBase c b)
        → ((c : Image) → device.images new c → StandsNow spell Applies HasBase b Next c)
        → ((x : A) → Found x → FoundNext x) → FoundNext a → FoundNext b → ImageInvariant spell Applies HasBase device new opened b Next FoundNext
    images_next disk new opened a b Unacknowledged Next Found FoundNext k moments now on here there = record {
      now = now;
      since = joins device opened disk new _ _ (weakens device opened disk _ _ k.since (since_on Found FoundNext on)) moments
          (λ c either. ⊎_elim (λ old. record { found = a; stands = old; holds = here }) (λ more. record { found = b; stands = more; holds = there }) either);
    }

    -- ---- an append to the log

    pub moments_of : (disk new : D) (journal mid : Journal) (a b : A) (entry : E) (Unacknowledged : A → Type 0)
        → (e : LogInvariant spell Applies HasBase device disk journal a Unacknowledged)
        → Applies (Some a) entry b
        → unhealed_fault journal ≡ None
        → IsSame journal mid
        → ((bodies : List (List ℕ)) (pending : List ℕ) → JournalHasOnDisk device mid bodies pending disk → unhealed_fault mid ≡ None
        → LeavesOnly device disk new (λ c. IsBeforeOrAfter bodies (spell entry) (c (file_of mid))))
        → LeavesOnly device disk new (IsOldBut device (file_of mid) disk)
        → LeavesOnly device disk new (λ c. StandsOver spell Applies HasBase c a ⊎ StandsOver spell Applies HasBase c b)
    moments_of disk new journal mid a b entry Unacknowledged e applies no_pending_fault same run elsewhere =
        let bodies : List (List ℕ) = e.beginning ++ map spell e.entries in
        weakens device disk new _ _
        (both device disk new _ _ (run bodies e.pending (keeps_same device journal mid bodies e.pending disk same e.keeps) (ap faults_of same.pending_fault ∙ no_pending_fault)) elsewhere)
        (λ c left. let from : IsOldBut device (file_of journal) disk c = subst (λ (f : ℕ). IsOldBut device f disk c) same.file left.1 in
        stands_either a b entry (file_of journal) e.beginning e.base e.entries c (base_on disk (file_of journal) (file_of journal) e.beginning e.base (omega arith) e.has_base c from) e.replays applies
        (subst (λ (f : ℕ). IsBeforeOrAfter bodies (spell entry) (c f)) same.file left.0))

    -- it was appended
    pub entries_ok : (disk new : D) (journal next : Journal) (a b : A) (entry : E) (Unacknowledged Next : A → Type 0)
        → (e : LogInvariant spell Applies HasBase device disk journal a Unacknowledged)
        → Applies (Some a) entry b
        → file_of next ≡ file_of journal
        → unhealed_fault next ≡ None
        → ((bodies : List (List ℕ)) (pending : List ℕ) → JournalHasOnDisk device journal bodies pending disk → JournalHasOnDisk device next (bodies ++ spell entry ∷ []) pending new)
        → LeavesOnly device disk new (IsOldBut device (file_of journal) disk)
        → LogInvariant spell Applies HasBase device new next b Next
    entries_ok disk new journal next a b entry Unacknowledged Next e applies file no_pending_fault keeps elsewhere = record {
      beginning = e.beginning;
      base = e.base;
      entries = e.entries ++ entry ∷ [];
      pending = e.pending;
      has_base = λ c left. subst (λ (f : ℕ). HasBase c f e.beginning e.base) (sym file)
          (base_on disk (file_of journal) (file_of journal) e.beginning e.base (omega arith) e.has_base c (at_end device disk new _ elsewhere c left));
      replays = replays_more e.base a b e.entries entry e.replays applies;
      keeps = subst (λ (l : List (List ℕ)). JournalHasOnDisk device next l e.pending new) (sym (bodies_more e.beginning e.entries entry)) (keeps (e.beginning ++ map spell e.entries) e.pending e.keeps);
      unacknowledged = λ faults is. absurd (cc (is, no_pending_fault));
    }

    -- what a healed log's images stand for
    pub healed_now : (disk : D) (journal : Journal) (a : A) (Unacknowledged : A → Type 0) → LogInvariant spell Applies HasBase device disk journal a Unacknowledged → unhealed_fault journal ≡ None
        → (c : Image) → device.images disk c → StandsOver spell Applies HasBase c a
    healed_now disk journal a Unacknowledged e no_pending_fault c left =
        stands_before a (file_of journal) e.beginning e.base e.entries c (e.has_base c left) e.replays (keeps_without_fault device journal (e.beginning ++ map spell e.entries) e.pending disk no_pending_fault e.keeps c left)

    -- it failed: `after` says what an image stands for in which the half-done record is there
    pub entries_err : (disk new : D) (journal next : Journal) (a : A) (body : List ℕ) (Unacknowledged Next : A → Type 0)
        → (e : LogInvariant spell Applies HasBase device disk journal a Unacknowledged)
        → file_of next ≡ file_of journal
        → ((bodies : List (List ℕ)) (pending : List ℕ) → JournalHasOnDisk device journal bodies pending disk → JournalHasOnDisk device next bodies body new)
        → LeavesOnly device disk new (IsOldBut device (file_of journal) disk)
        → ((c : Image) → IsOldBut device (file_of journal) disk c → HasRecords (c (file_of journal)) ((e.beginning ++ map spell e.entries) ++ body ∷ []) → StandsNow spell Applies HasBase a Next c)
        → LogInvariant spell Applies HasBase device new next a Next
    entries_err disk new journal next a body Unacknowledged Next e file keeps elsewhere after = record {
      beginning = e.beginning;
      base = e.base;
      entries = e.entries;
      pending = body;
      has_base = λ c left. subst (λ (f : ℕ). HasBase c f e.beginning e.base) (sym file)
          (base_on disk (file_of journal) (file_of journal) e.beginning e.base (omega arith) e.has_base c (at_end device disk new _ elsewhere c left));
      replays = e.replays;
      keeps = keeps (e.beginning ++ map spell e.entries) e.pending e.keeps;
      unacknowledged = λ faults is c from has. after c (old_but_on disk new (file_of journal) elsewhere c (subst (λ (f : ℕ). IsOldBut device f new c) file from))
          (subst (λ (f : ℕ). HasRecords (c f) ((e.beginning ++ map spell e.entries) ++ body ∷ [])) file has);
    }

    -- such an image, where the record is an entry
    pub after_entry : (disk : D) (journal : Journal) (a b : A) (entry : E) (Unacknowledged Next : A → Type 0)
        → (e : LogInvariant spell Applies HasBase device disk journal a Unacknowledged) → Applies (Some a) entry b → Next b
        → (c : Image) → IsOldBut device (file_of journal) disk c → HasRecords (c (file_of journal)) ((e.beginning ++ map spell e.entries) ++ spell entry ∷ []) → StandsNow spell Applies HasBase a Next c
    after_entry disk journal a b entry Unacknowledged Next e applies also c from has = inr (record {
      found = b;
      stands = stands_after a b entry (file_of journal) e.beginning e.base e.entries c (base_on disk (file_of journal) (file_of journal) e.beginning e.base (omega arith) e.has_base c from) e.replays applies has;
      holds = also;
    })

    -- what the images of a log stand for, healed or not
    pub entries_now : (disk : D) (journal : Journal) (a : A) (Unacknowledged : A → Type 0) → (e : LogInvariant spell Applies HasBase device disk journal a Unacknowledged)
        → (faults : ℕ) → unhealed_fault journal ≡ Some faults → (c : Image) → IsOldBut device (file_of journal) disk c → IsBeforeOrAfter (e.beginning ++ map spell e.entries) e.pending (c (file_of journal))
        → StandsNow spell Applies HasBase a Unacknowledged c
    entries_now disk journal a Unacknowledged e faults is c from (inl has) = inl (stands_before a (file_of journal) e.beginning e.base e.entries c (base_on disk (file_of journal) (file_of journal) e.beginning e.base (omega arith) e.has_base c from) e.replays has)
    entries_now disk journal a Unacknowledged e faults is c from (inr has) = e.unacknowledged faults is c from has

    -- ---- a reopen

    pub heal_moments : (disk new : D) (journal : Journal) (a : A) (Unacknowledged : A → Type 0) → (e : LogInvariant spell Applies HasBase device disk journal a Unacknowledged)
        → (faults : ℕ) → unhealed_fault journal ≡ Some faults
        → ((bodies : List (List ℕ)) (pending : List ℕ) → JournalHasOnDisk device journal bodies pending disk → LeavesOnly device disk new (λ c. IsBeforeOrAfter bodies pending (c (file_of journal))))
        → LeavesOnly device disk new (IsOldBut device (file_of journal) disk)
        → LeavesOnly device disk new (StandsNow spell Applies HasBase a Unacknowledged)
    heal_moments disk new journal a Unacknowledged e faults is run elsewhere =
        weakens device disk new _ _ (both device disk new _ _ (run (e.beginning ++ map spell e.entries) e.pending e.keeps) elsewhere)
        (λ c left. entries_now disk journal a Unacknowledged e faults is c left.1 left.0)

    -- whether it succeeded or not
    pub entries_healed : (disk new : D) (journal next : Journal) (a : A) (Unacknowledged : A → Type 0) → (e : LogInvariant spell Applies HasBase device disk journal a Unacknowledged)
        → file_of next ≡ file_of journal
        → ((faults : ℕ) → unhealed_fault next ≡ Some faults → unhealed_fault journal ≡ Some faults)
        → ((bodies : List (List ℕ)) (pending : List ℕ) → JournalHasOnDisk device journal bodies pending disk → JournalHasOnDisk device next bodies pending new)
        → LeavesOnly device disk new (IsOldBut device (file_of journal) disk)
        → LogInvariant spell Applies HasBase device new next a Unacknowledged
    entries_healed disk new journal next a Unacknowledged e file still keeps elsewhere = record {
      beginning = e.beginning;
      base = e.base;
      entries = e.entries;
      pending = e.pending;
      has_base = λ c left. subst (λ (f : ℕ). HasBase c f e.beginning e.base) (sym file)
          (base_on disk (file_of journal) (file_of journal) e.beginning e.base (omega arith) e.has_base c (at_end device disk new _ elsewhere c left));
      replays = e.replays;
      keeps = keeps (e.beginning ++ map spell e.entries) e.pending e.keeps;
      unacknowledged = λ faults is c from has. e.unacknowledged faults (still faults is) c (old_but_on disk new (file_of journal) elsewhere c (subst (λ (f : ℕ). IsOldBut device f new c) file from))
          (subst (λ (f : ℕ). HasRecords (c f) ((e.beginning ++ map spell e.entries) ++ e.pending ∷ [])) file has);
    }
