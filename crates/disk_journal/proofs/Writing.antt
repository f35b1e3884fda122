-- What is written of a journal that is made whole.
use Rattle.std.proofs.Common.{◌≡◌, ℕ, ◌+◌, ◌-◌, ◌^◌, ◌<◌, ◌≤◌, min, List, [], ◌∷◌, ◌++◌, length, refl, sym, ◌∙◌, ap, subst, arith, append_assoc, length-append}
use Rattle.std.specs.Prelude.{IsTrue, true}
use Rattle.arch_disk.specs.Image.{Image, AgreesBut, overwritten}
use Rattle.arch_disk.specs.Disk.{Device, IsDiskFault, IsDurable, IsOldBut, LeavesOnly, LeavesOthers, NoFault, NoWriteFailed, raised}
use Rattle.arch_disk.proofs.Moments.{weakens}
use Rattle.disk_journal.specs.Format.{framed, written, HasRecords}
use Rattle.disk_journal.specs.State.{HasOnDisk}
use Rattle.disk_journal.specs.Writing.{HasWritten, IsWriteRefusal}
use Rattle.disk_journal.specs.declared.fault.JournalFault.{JournalFault}
use Rattle.disk_journal.specs.declared.fault.JournalFault.TheVariants.{DiskFault}
use Rattle.disk_journal.specs.declared.journal.Extent.{Extent}
use Rattle.disk_journal.specs.declared.journal.Journal.{Journal}
use Rattle.disk_journal.specs.declared.journal.PendingFault.TheVariants.{Absent}
use Rattle.disk_journal.specs.declared.writer.JournalWriter.{JournalWriter}
use Rattle.disk_journal.proofs.Appending.{Wrote, elsewhere_one, extent}
use Rattle.disk_journal.proofs.Files.{length-framed, length-written, overwritten_is, small-push, sum_is, written-push}
use Rattle.disk_journal.proofs.Reading.{pushed}

-- ---- octets

-- a record behind an open gate, and the next one
pub more_written : (bodies : List (List ℕ)) (body : List ℕ) → (written bodies ++ 1 ∷ []) ++ (framed body ++ 1 ∷ []) ≡ written (bodies ++ body ∷ []) ++ 1 ∷ []
more_written bodies body = append_assoc (written bodies) (1 ∷ []) (framed body ++ 1 ∷ []) ∙ sym (written-push bodies body (1 ∷ []))

-- the last gate is closed
pub closed_written : (file : List ℕ) (bodies : List (List ℕ)) (end : ℕ) → file ≡ written bodies ++ 1 ∷ [] → end ≡ length (written bodies) → overwritten end (0 ∷ []) file ≡ written bodies ++ 0 ∷ []
closed_written file bodies end is end_is = overwritten_is (written bodies) (1 ∷ []) [] file (0 ∷ []) end is end_is refl

-- ---- other files

module _ {D : Type 0} (device : Device D) (file : ℕ) where
  -- a sync leaves what stands in files
  pub others_synced : (old new : D) → device.reads new ≡ device.reads old → LeavesOnly device old new (device.images old) → LeavesOthers device file old new
  others_synced old new same moments = record {
    reads = λ transparent g other. ap (λ (r : Image). r g) same;
    crash = weakens device old new (device.images old) (IsOldBut device file old) moments (λ c was. (c, was, λ g other. refl));
  }

  -- and so does a write of this file, and a sync
  pub others_put : (old new : D) (at n : ℕ) → (IsTrue device.is_transparent → AgreesBut file (device.reads old) (device.reads new)) → LeavesOnly device old new (Wrote device file at n old) → LeavesOthers device file old new
  others_put old new at n reads moments = record { reads = reads; crash = elsewhere_one device old new file at n moments }

  -- ---- faults

  -- a write that failed behind calls of which none did
  pub failed_behind : (old mid new : D) → NoFault device old mid → NoWriteFailed device old mid → IsDiskFault device mid new true → IsDiskFault device old new true
  failed_behind old mid new none writes failed = record {
    rose = subst (λ (n : ℕ). raised n ≤ device.fault_count new) none failed.rose;
    writes = failed.writes ∙ ap raised writes;
  }

  pub write_refused : (fault : JournalFault) (old new : D) → fault ≡ DiskFault true → IsDiskFault device old new true → IsWriteRefusal device old new fault
  write_refused fault old new is failed = subst (IsWriteRefusal device old new) (sym is) failed

-- ---- the writer

module _ {D : Type 0} (device : Device D) (writer : JournalWriter) (bodies : List (List ℕ)) (before after : D) (transparent : IsTrue device.is_transparent) (has : HasWritten device writer bodies before) where
  -- one record more
  pub one_written : (new : JournalWriter) (body octets : List ℕ) (at : ℕ) → new.file ≡ writer.file → octets ≡ framed body ++ 1 ∷ [] → length body < 2 ^ 32
      → device.reads after writer.file ≡ device.reads before writer.file ++ octets
      → at ≡ min (writer.end + 5) (2 ^ 64 - 1) → new.extents.items ≡ writer.extents.items ++ extent at (length body) ∷ [] → new.end ≡ min (writer.end + length octets) (2 ^ 64 - 1)
      → HasWritten device new (bodies ++ body ∷ []) after
  one_written new body octets at same octets_is small done at_is push_is end_is =
      let content : device.reads after writer.file ≡ written (bodies ++ body ∷ []) ++ 1 ∷ [] =
      done ∙ ap (λ (l : List ℕ). l ++ octets) has.content ∙ ap (λ (l : List ℕ). (written bodies ++ 1 ∷ []) ++ l) octets_is ∙ more_written bodies body in
      let long : length octets ≡ 5 + length body = omega (arith, ap length octets_is, length-append (framed body) (1 ∷ []), length-framed body) in
      let next : length (written (bodies ++ body ∷ [])) ≡ writer.end + length octets = omega (arith, length-written bodies body, has.end, long) in
      let fits : writer.end + length octets < 2 ^ 64 = omega (arith, ap length content, length-append (written (bodies ++ body ∷ [])) (1 ∷ []), next, device.lengths_fit after writer.file transparent) in
      let five : at ≡ writer.end + 5 = sum_is writer.end 5 at at_is (omega (arith, fits, long)) in
      let sum : new.end ≡ writer.end + length octets = sum_is writer.end (length octets) new.end end_is fits in
      record {
        small = small-push bodies body has.small small;
        extents = pushed bodies body writer.extents.items new.extents.items writer.end (length body) has.extents has.end refl (push_is ∙ ap (λ (n : ℕ). writer.extents.items ++ extent n (length body) ∷ []) five);
        end = sum ∙ sym next;
        content = ap (device.reads after) same ∙ content;
      }

  -- the closed gate behind all, and a sync
  pub all_written : device.reads after writer.file ≡ overwritten writer.end (0 ∷ []) (device.reads before writer.file) → IsDurable device writer.file (device.reads after writer.file) after
      → let journal : Journal = record { file = writer.file; extents = writer.extents; end = writer.end; pending_fault = Absent } in HasOnDisk device journal bodies [] after
  all_written done durable =
      let has_records : HasRecords (device.reads after writer.file) bodies = record {
        tail = 0 ∷ [];
        small = has.small;
        file_is = done ∙ closed_written (device.reads before writer.file) bodies writer.end has.content has.end;
        closed = omega arith;
      } in
      record { extents = has.extents; end = has.end; state = (has_records, durable) }
