-- What a reading of a file gives, to its end or to a record that passes the end.
use Rattle.std.proofs.Common.{◌≡◌, ℕ, List, [], sym, ◌∙◌, ap, subst}
use Rattle.std.specs.Prelude.{None}
use Rattle.arch_disk.specs.Image.{Image}
use Rattle.arch_disk.specs.Disk.{Device, IsDurable, OnlyReads}
use Rattle.disk_journal.specs.Format.{HasRecords, IsDamagedAt}
use Rattle.disk_journal.specs.Reading.{IsAt, IsCutShortAt}
use Rattle.disk_journal.specs.declared.opening.Opening.{Opening}
use Rattle.disk_journal.specs.State.{HasOnDisk, StateIs, IsReadFrom, faults_of, unhealed_fault, file_of}
use Rattle.disk_journal.specs.declared.journal.Journal.{Journal}
use Rattle.disk_journal.specs.declared.journal.PendingFault.{PendingFault}
use Rattle.disk_journal.specs.declared.journal.PendingFault.TheVariants.{Absent, GateClosed, GateWritten}

module _ {D : Type 0} (device : Device D) where
  without_fault : (t : PendingFault) (file : ℕ) (bodies : List (List ℕ)) (disk : D) → faults_of t ≡ None → StateIs device Absent file bodies [] disk → StateIs device t file bodies [] disk
  without_fault Absent file bodies disk none state = state
  without_fault (GateClosed faults) file bodies disk none state = absurd cc
  without_fault (GateWritten faults) file bodies disk none state = absurd cc

  pub opened : (journal : Journal) (begun file : ℕ) (old mid new : D) → begun ≡ file → unhealed_fault journal ≡ None → file_of journal ≡ begun → IsReadFrom (device.reads mid begun) journal → device.reads mid ≡ device.reads old → IsDurable device file (device.reads mid file) mid → OnlyReads device mid new
      → (bodies : List (List ℕ)) × HasRecords (device.reads old file) bodies × HasOnDisk device journal bodies [] new
  opened journal begun file old mid new begun_is no_pending_fault file_is r reads durable looked =
      let here : device.reads new file ≡ device.reads mid file = ap (λ (x : Image). x file) looked.reads_same in
      let has : HasRecords (device.reads mid file) r.bodies = subst (λ (f : ℕ). HasRecords (device.reads mid f) r.bodies) begun_is r.has in
      let state : StateIs device Absent file r.bodies [] new = (subst (λ (l : List ℕ). HasRecords l r.bodies) (sym here) has, λ c left. durable c (looked.images c left) ∙ sym here) in (
        r.bodies,
        subst (λ (x : Image). HasRecords (x file) r.bodies) reads has,
        record {
          extents = r.extents;
          end = r.end;
          state = without_fault journal.pending_fault journal.file r.bodies new no_pending_fault (subst (λ (f : ℕ). StateIs device Absent f r.bodies [] new) (sym (file_is ∙ begun_is)) state);
        },
      )

-- the same file, read later
pub content_same : (now was : Image) (file begun : ℕ) → now ≡ was → file ≡ begun → now file ≡ was begun
content_same now was file begun reads files = ap (λ (x : Image). x file) reads ∙ ap was files

-- a record that passes the end is where the file is damaged
pub cut_short : (content : List ℕ) (opening : Opening) (bodies : List (List ℕ)) (at : ℕ) → IsAt opening content bodies → (at ≡ opening.at) × IsCutShortAt content bodies → IsDamagedAt content at
cut_short content opening bodies at is d = record { bodies = bodies; rest = d.1.rest; small = is.up_to.small; file_is = d.1.file_is; at_is = d.0 ∙ is.up_to.at_is; short = d.1.short }
