-- A store with one journal: what it keeps over each of its calls, whatever its entries are. Each takes from the journal what its contract says.
use Rattle.std.proofs.Common.{◌≡◌, ◌⊎◌, inl, inr, ⊎_elim, ℕ, List, [], ◌∷◌, ◌++◌, map, Option, Some, None, refl, sym, ◌∙◌, ap, subst}
use Rattle.std.specs.Prelude.{IsTrue}
use Rattle.arch_disk.specs.Image.{Image}
use Rattle.arch_disk.specs.Disk.{Device, IsOldBut, LeavesOnly}
use Rattle.arch_disk.proofs.Moments.{started, weakens, joins, at_end}
use Rattle.disk_journal.specs.Format.{HasRecords, IsBeforeOrAfter}
use Rattle.disk_journal.specs.State.{HasOnDisk as JournalHasOnDisk}
use Rattle.disk_journal.specs.State.{unhealed_fault, file_of, faults_of, IsSame}
use Rattle.disk_journal.specs.declared.journal.Journal.{Journal}
use Rattle.disk_journal.proofs.Appending.{keeps_same}
use Rattle.archive_images.specs.Images.{IsSaidByLowerFiles, StandsOver, StandsNow, LogInvariant, ArchiveInvariant}
use Rattle.archive_images.proofs.Images as kept

module _ {A E : Type 0} (spell : E → List ℕ) (Applies : Option A → E → A → Type 0) (HasBase : Image → ℕ → List (List ℕ) → Option A → Type 0) (lower : IsSaidByLowerFiles HasBase) {D : Type 0} (device : Device D) where
  -- all of it is the same but for room
  pub kept_same : (disk opened : D) (journal next : Journal) (a : A) (Unacknowledged Found : A → Type 0)
      → ArchiveInvariant spell Applies HasBase device disk opened journal a Unacknowledged Found → IsSame journal next → ArchiveInvariant spell Applies HasBase device disk opened next a Unacknowledged Found
  kept_same disk opened journal next a Unacknowledged Found k same = record {
    images = k.images;
    log = λ transparent. let e = k.log transparent in record {
      beginning = e.beginning;
      base = e.base;
      entries = e.entries;
      pending = e.pending;
      has_base = λ c left. subst (λ (f : ℕ). HasBase c f e.beginning e.base) (sym same.file) (e.has_base c left);
      replays = e.replays;
      keeps = keeps_same device journal next (e.beginning ++ map spell e.entries) e.pending disk same e.keeps;
      unacknowledged = subst (λ (f : ℕ). (faults : ℕ) → unhealed_fault next ≡ Some faults → (c : Image) → IsOldBut device f disk c → HasRecords (c f) ((e.beginning ++ map spell e.entries) ++ e.pending ∷ []) → StandsNow spell Applies HasBase a Unacknowledged c) (sym same.file)
          (λ faults is. e.unacknowledged faults (sym (ap faults_of same.pending_fault) ∙ is));
    };
  }

  -- what is known of the archives that were found may be weakened
  pub kept_on : (disk opened : D) (journal : Journal) (a : A) (Unacknowledged Found FoundNext : A → Type 0) → ((b : A) → Found b → FoundNext b) → ArchiveInvariant spell Applies HasBase device disk opened journal a Unacknowledged Found → ArchiveInvariant spell Applies HasBase device disk opened journal a Unacknowledged FoundNext
  kept_on disk opened journal a Unacknowledged Found FoundNext on k = record {
    images = λ transparent. let i = k.images transparent in record { now = i.now; since = weakens device opened disk _ _ i.since (λ c s. record { found = s.found; stands = s.stands; holds = on s.found s.holds }) };
    log = k.log;
  }

  -- the images of an append, as what they stand for
  pub moments_of : (disk new opened : D) (journal mid : Journal) (a b : A) (entry : E) (Unacknowledged Found : A → Type 0)
      → ArchiveInvariant spell Applies HasBase device disk opened journal a Unacknowledged Found
      → Applies (Some a) entry b
      → unhealed_fault journal ≡ None
      → IsSame journal mid
      → (IsTrue device.is_transparent → (bodies : List (List ℕ)) (pending : List ℕ) → JournalHasOnDisk device mid bodies pending disk → unhealed_fault mid ≡ None
      → LeavesOnly device disk new (λ c. IsBeforeOrAfter bodies (spell entry) (c (file_of mid))))
      → LeavesOnly device disk new (IsOldBut device (file_of mid) disk)
      → IsTrue device.is_transparent → LeavesOnly device disk new (λ c. StandsOver spell Applies HasBase c a ⊎ StandsOver spell Applies HasBase c b)
  moments_of disk new opened journal mid a b entry Unacknowledged Found k applies no_pending_fault same run elsewhere transparent =
      kept.moments_of spell Applies HasBase lower device disk new journal mid a b entry Unacknowledged (k.log transparent) applies no_pending_fault same (run transparent) elsewhere

  -- an entry was appended
  pub kept_ok : (disk new opened : D) (journal next : Journal) (a b : A) (entry : E) (Unacknowledged Next Found FoundNext : A → Type 0)
      → ArchiveInvariant spell Applies HasBase device disk opened journal a Unacknowledged Found
      → (IsTrue device.is_transparent → Applies (Some a) entry b)
      → file_of next ≡ file_of journal
      → unhealed_fault next ≡ None
      → (IsTrue device.is_transparent → (bodies : List (List ℕ)) (pending : List ℕ) → JournalHasOnDisk device journal bodies pending disk → JournalHasOnDisk device next (bodies ++ spell entry ∷ []) pending new)
      → (IsTrue device.is_transparent → LeavesOnly device disk new (λ c. StandsOver spell Applies HasBase c a ⊎ StandsOver spell Applies HasBase c b))
      → LeavesOnly device disk new (IsOldBut device (file_of journal) disk)
      → ((x : A) → Found x → FoundNext x) → (IsTrue device.is_transparent → FoundNext a) → (IsTrue device.is_transparent → FoundNext b)
      → ArchiveInvariant spell Applies HasBase device new opened next b Next FoundNext
  kept_ok disk new opened journal next a b entry Unacknowledged Next Found FoundNext k applies file no_pending_fault keeps moments elsewhere on here there = record {
    images = λ transparent. kept.images_next spell Applies HasBase lower device disk new opened a b Unacknowledged Next Found FoundNext (k.images transparent) (moments transparent)
        (λ c left. inl (kept.healed_now spell Applies HasBase lower device new next b Next (log transparent) no_pending_fault c left)) on (here transparent) (there transparent);
    log = log;
  }
    where
      log : IsTrue device.is_transparent → LogInvariant spell Applies HasBase device new next b Next
      log transparent = kept.entries_ok spell Applies HasBase lower device disk new journal next a b entry Unacknowledged Next (k.log transparent) (applies transparent) file no_pending_fault (keeps transparent) elsewhere

  -- an append failed
  pub kept_err : (disk new opened : D) (journal next : Journal) (a b : A) (entry : E) (Unacknowledged Next Found FoundNext : A → Type 0) (count : ℕ)
      → ArchiveInvariant spell Applies HasBase device disk opened journal a Unacknowledged Found
      → (IsTrue device.is_transparent → Applies (Some a) entry b)
      → file_of next ≡ file_of journal
      → unhealed_fault journal ≡ None
      → unhealed_fault next ≡ Some count
      → (IsTrue device.is_transparent → (bodies : List (List ℕ)) (pending : List ℕ) → JournalHasOnDisk device journal bodies pending disk → JournalHasOnDisk device next bodies (spell entry) new)
      → (IsTrue device.is_transparent → LeavesOnly device disk new (λ c. StandsOver spell Applies HasBase c a ⊎ StandsOver spell Applies HasBase c b))
      → LeavesOnly device disk new (IsOldBut device (file_of journal) disk)
      → ((x : A) → Found x → FoundNext x) → (IsTrue device.is_transparent → FoundNext a) → (IsTrue device.is_transparent → FoundNext b)
      → (IsTrue device.is_transparent → Next b)
      → ArchiveInvariant spell Applies HasBase device new opened next a Next FoundNext
  kept_err disk new opened journal next a b entry Unacknowledged Next Found FoundNext count k applies file no_pending_fault unhealed_is keeps moments elsewhere on here there also = record {
    images = λ transparent. let i = k.images transparent in record {
      now = λ c left. ⊎_elim (λ old. inl old) (λ more. inr (record { found = b; stands = more; holds = also transparent })) (at_end device disk new _ (moments transparent) c left);
      since = joins device opened disk new _ _ (weakens device opened disk _ _ i.since (λ c s. record { found = s.found; stands = s.stands; holds = on s.found s.holds })) (moments transparent)
          (λ c either. ⊎_elim (λ old. record { found = a; stands = old; holds = here transparent }) (λ more. record { found = b; stands = more; holds = there transparent }) either);
    };
    log = λ transparent. kept.entries_err spell Applies HasBase lower device disk new journal next a (spell entry) Unacknowledged Next (k.log transparent) file (keeps transparent) elsewhere
        (kept.after_entry spell Applies HasBase lower device disk journal a b entry Unacknowledged Next (k.log transparent) (applies transparent) (also transparent));
  }

  -- a reopen of a journal that wants one
  pub heal_moments : (disk new opened : D) (journal : Journal) (a : A) (Unacknowledged Found : A → Type 0)
      → ArchiveInvariant spell Applies HasBase device disk opened journal a Unacknowledged Found
      → (IsTrue device.is_transparent → (bodies : List (List ℕ)) (pending : List ℕ) → JournalHasOnDisk device journal bodies pending disk → LeavesOnly device disk new (λ c. IsBeforeOrAfter bodies pending (c (file_of journal))))
      → LeavesOnly device disk new (IsOldBut device (file_of journal) disk)
      → (unhealed_fault journal ≡ None → new ≡ disk)
      → IsTrue device.is_transparent → LeavesOnly device disk new (StandsNow spell Applies HasBase a Unacknowledged)
  heal_moments disk new opened journal a Unacknowledged Found k run elsewhere no_call transparent = go (unhealed_fault journal) refl
    where
      go : (o : Option ℕ) → unhealed_fault journal ≡ o → LeavesOnly device disk new (StandsNow spell Applies HasBase a Unacknowledged)
      go None is =
          let same : new ≡ disk = no_call is in
          let i = k.images transparent in
          subst (λ (d : D). LeavesOnly device disk d (StandsNow spell Applies HasBase a Unacknowledged)) (sym same) (started device disk _ i.now)
      go (Some faults) is = kept.heal_moments spell Applies HasBase lower device disk new journal a Unacknowledged (k.log transparent) faults is (run transparent) elsewhere

  -- it succeeded
  pub kept_healed : (disk new opened : D) (journal next : Journal) (a : A) (Unacknowledged Next Found : A → Type 0)
      → ArchiveInvariant spell Applies HasBase device disk opened journal a Unacknowledged Found
      → (IsTrue device.is_transparent → LeavesOnly device disk new (StandsNow spell Applies HasBase a Unacknowledged))
      → (IsTrue device.is_transparent → (bodies : List (List ℕ)) (pending : List ℕ) → JournalHasOnDisk device journal bodies pending disk → JournalHasOnDisk device next bodies pending new)
      → LeavesOnly device disk new (IsOldBut device (file_of journal) disk)
      → file_of next ≡ file_of journal
      → unhealed_fault next ≡ None
      → (IsTrue device.is_transparent → Found a) → (IsTrue device.is_transparent → (b : A) → Unacknowledged b → Found b)
      → ArchiveInvariant spell Applies HasBase device new opened next a Next Found
  kept_healed disk new opened journal next a Unacknowledged Next Found k moments keeps elsewhere file no_pending_fault here also = record {
    images = λ transparent. let i = kept.images_on spell Applies HasBase lower device disk new opened a Unacknowledged Found (k.images transparent) (moments transparent) (here transparent) (also transparent) in record {
      now = λ c left. inl (kept.healed_now spell Applies HasBase lower device new next a Next (log transparent) no_pending_fault c left);
      since = i.since;
    };
    log = log;
  }
    where
      log : IsTrue device.is_transparent → LogInvariant spell Applies HasBase device new next a Next
      log transparent = let e = kept.entries_healed spell Applies HasBase lower device disk new journal next a Unacknowledged (k.log transparent) file (λ faults is. absurd (cc (is, no_pending_fault))) (keeps transparent) elsewhere in record {
        beginning = e.beginning;
        base = e.base;
        entries = e.entries;
        pending = e.pending;
        has_base = e.has_base;
        replays = e.replays;
        keeps = e.keeps;
        unacknowledged = λ faults is. absurd (cc (is, no_pending_fault));
      }

  -- it failed
  pub kept_unhealed : (disk new opened : D) (journal next : Journal) (a : A) (Unacknowledged Found : A → Type 0)
      → ArchiveInvariant spell Applies HasBase device disk opened journal a Unacknowledged Found
      → (IsTrue device.is_transparent → LeavesOnly device disk new (StandsNow spell Applies HasBase a Unacknowledged))
      → (IsTrue device.is_transparent → (bodies : List (List ℕ)) (pending : List ℕ) → JournalHasOnDisk device journal bodies pending disk → JournalHasOnDisk device next bodies pending new)
      → LeavesOnly device disk new (IsOldBut device (file_of journal) disk)
      → file_of next ≡ file_of journal
      → unhealed_fault next ≡ unhealed_fault journal
      → (IsTrue device.is_transparent → Found a) → (IsTrue device.is_transparent → (b : A) → Unacknowledged b → Found b)
      → ArchiveInvariant spell Applies HasBase device new opened next a Unacknowledged Found
  kept_unhealed disk new opened journal next a Unacknowledged Found k moments keeps elsewhere file same here also = record {
    images = λ transparent. kept.images_on spell Applies HasBase lower device disk new opened a Unacknowledged Found (k.images transparent) (moments transparent) (here transparent) (also transparent);
    log = λ transparent. kept.entries_healed spell Applies HasBase lower device disk new journal next a Unacknowledged (k.log transparent) file (λ faults is. sym same ∙ is) (keeps transparent) elsewhere;
  }
