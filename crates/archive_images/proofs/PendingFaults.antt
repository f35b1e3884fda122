-- What images stand for: one entry more.
use Rattle.std.proofs.Common.{◌≡◌, inl, ℕ, List, [], ◌∷◌, ◌++◌, map, Option, Some, None, refl, sym, ◌∙◌, ap, subst, append_assoc}
use Rattle.std.proofs.lemmas.List.{map-append, append-nil}
use mathlib.Core.List.{IsPrefix}
use Rattle.arch_disk.specs.Image.{Image}
use Rattle.arch_disk.specs.Disk.{Device, IsDurable}
use Rattle.disk_journal.specs.Format.{HasRecords, IsBeforeOrAfter}
use Rattle.disk_journal.specs.State.{HasOnDisk, StateIs, faults_of, unhealed_fault, file_of}
use Rattle.disk_journal.specs.declared.journal.Journal.{Journal}
use Rattle.disk_journal.specs.declared.journal.PendingFault.{PendingFault}
use Rattle.disk_journal.specs.declared.journal.PendingFault.TheVariants.{Absent, GateClosed, GateWritten}
use Rattle.disk_journal.proofs.Files.{staged_either}
use Rattle.field_codec.specs.declared.entry.Entry.{Entry}
use Rattle.field_codec.specs.Spelling.{entry_octets}
use Rattle.archive_images.specs.Entries.{FilledArchive, Applies, Replays}

-- one entry more, or the first
pub replays_next : (a b : Option FilledArchive) (c : FilledArchive) (es : List Entry) (entry : Entry) → Replays a es b → Applies b entry c → Replays a (es ++ entry ∷ []) (Some c)
replays_next a b c [] entry replays takes = (c, subst (λ (x : Option FilledArchive). Applies x entry c) replays takes, refl)
replays_next a b c (e ∷ es) entry replays takes = (replays.0, replays.1, replays_next (Some replays.0) b c es entry replays.2 takes)

pub bodies_more : (es : List Entry) (entry : Entry) → map entry_octets (es ++ entry ∷ []) ≡ map entry_octets es ++ entry_octets entry ∷ []
bodies_more es entry = map-append entry_octets es (entry ∷ [])

module _ {D : Type 0} (device : Device D) where
  -- a journal without a failure that isn't healed
  pub without_fault_state : (t : PendingFault) (file : ℕ) (bodies : List (List ℕ)) (pending : List ℕ) (disk : D) → faults_of t ≡ None → StateIs device t file bodies pending disk → HasRecords (device.reads disk file) bodies × IsDurable device file (device.reads disk file) disk
  without_fault_state Absent file bodies pending disk none state = state
  without_fault_state (GateClosed faults) file bodies pending disk none state = absurd (cc (none))
  without_fault_state (GateWritten faults) file bodies pending disk none state = absurd (cc (none))

  -- what a crash now leaves of the journal's file
  pub keeps_either : (journal : Journal) (bodies : List (List ℕ)) (pending : List ℕ) (disk : D) → HasOnDisk device journal bodies pending disk → (c : Image) → device.images disk c → IsBeforeOrAfter bodies pending (c (file_of journal))
  keeps_either journal bodies pending disk keeps c now = go journal.pending_fault keeps.state
    where
      go : (t : PendingFault) → StateIs device t journal.file bodies pending disk → IsBeforeOrAfter bodies pending (c journal.file)
      go Absent state = inl (subst (λ (l : List ℕ). HasRecords l bodies) (sym (state.1 c now)) state.0)
      go (GateClosed faults) state = inl (state c now)
      go (GateWritten faults) state = staged_either (c journal.file) bodies pending (state c now)

  pub keeps_without_fault : (journal : Journal) (bodies : List (List ℕ)) (pending : List ℕ) (disk : D) → unhealed_fault journal ≡ None → HasOnDisk device journal bodies pending disk → (c : Image) → device.images disk c → HasRecords (c (file_of journal)) bodies
  keeps_without_fault journal bodies pending disk is keeps c now =
      let state = without_fault_state journal.pending_fault journal.file bodies pending disk is keeps.state in
      subst (λ (l : List ℕ). HasRecords l bodies) (sym (state.1 c now)) state.0

-- beginnings
pub prefix_self : {A : Type 0} (xs : List A) → IsPrefix xs xs
prefix_self xs = ([], append-nil xs)

pub prefix_more : {A : Type 0} (xs ys zs : List A) → IsPrefix xs ys → IsPrefix xs (ys ++ zs)
prefix_more {A = A} xs ys zs p = (p.0 ++ zs, sym (append_assoc xs p.0 zs) ∙ ap (λ (l : List A). l ++ zs) p.1)
