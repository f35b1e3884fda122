-- What the two writes of an append leave.
use Rattle.std.proofs.Common.{◌≡◌, ℕ, ◌+◌, ◌^◌, ◌<◌, List, [], ◌∷◌, ◌++◌, length, sym, ◌∙◌, ap, subst, arith, length-append}
use Rattle.arch_disk.specs.Image.{Image, Torn, InFile, Becomes, overwritten}
use Rattle.arch_disk.specs.Disk.{Device, IsDurable, IsOldBut, LeavesOnly}
use Rattle.arch_disk.proofs.Moments.{elsewhere_on, weakens}
use Rattle.disk_journal.specs.Format.{framed, written, HasRecords, HasStaged, IsClosed, HoldsNone}
use Rattle.disk_journal.specs.State.{HasOnDisk, IsOnDisk, StateIs, IsSame, extents_from}
use Rattle.disk_journal.specs.declared.journal.Extent.{Extent}
use Rattle.disk_journal.specs.declared.journal.Journal.{Journal}
use Rattle.disk_journal.specs.declared.journal.PendingFault.{PendingFault}
use Rattle.disk_journal.specs.declared.journal.PendingFault.TheVariants.{GateWritten}
use Rattle.disk_journal.proofs.Files.{behind_gate, at_gate, staged_done, length-framed, gate_inside}
use Rattle.std.specs.Prelude.{IsTrue, min, ◌-◌}

-- an image after a write that a crash may have cut short
abbrev pub Wrote : {D : Type 0} → Device D → ℕ → ℕ → ℕ → D → Image → Type 0
Wrote device file at n old c = (d : Image) × device.images old d × InFile (Torn at n) file d c

module _ {D : Type 0} (device : Device D) where
  pub touched_state : (journal : Journal) (bodies : List (List ℕ)) (pending : List ℕ) (disk : D) (faults : ℕ) → journal.pending_fault ≡ GateWritten faults → HasOnDisk device journal bodies pending disk → (c : Image) → device.images disk c → HasStaged (c journal.file) bodies pending
  touched_state journal bodies pending disk faults is keeps = subst (λ (t : PendingFault). StateIs device t journal.file bodies pending disk) is keeps.state

  -- the first write of an append, behind the closed gate that follows the records
  module _ (file end : ℕ) (bodies : List (List ℕ)) (old : D) (transparent : IsTrue device.is_transparent) (end_is : end ≡ length (written bodies)) (closed : (c : Image) → device.images old c → HasRecords (c file) bodies) (at : ℕ) (at_is : at ≡ min (end + 1) (2 ^ 64 - 1)) where
    has : HasRecords (device.reads old file) bodies
    has = closed (device.reads old) (device.reads_as_image old transparent)

    behind : at ≡ length (written bodies) + 1
    behind = omega (arith, gate_inside (device.reads old file) bodies has, device.lengths_fit old file transparent)

    -- leaves them at any moment,
    pub first_moments : (mid : D) (n : ℕ) → LeavesOnly device old mid (Wrote device file at n old) → LeavesOnly device old mid (λ c. HasRecords (c file) bodies)
    first_moments mid n run = weakens device old mid _ _ run (λ c wrote. behind_gate (wrote.0 file) bodies at n (c file) (closed wrote.0 wrote.1) behind wrote.2.here)

    -- and done the new one behind them
    pub first_done : (mid : D) (octets body : List ℕ) → octets ≡ framed body ++ 0 ∷ [] → length body < 2 ^ 32 → InFile (Becomes (overwritten at octets)) file (device.reads old) (device.reads mid) → IsDurable device file (device.reads mid file) mid → (c : Image) → device.images mid c → HasStaged (c file) bodies body
    first_done mid octets body octets_is small done durable c left =
        subst (λ (l : List ℕ). HasStaged l bodies body) (sym (durable c left ∙ done.here ∙ ap (λ (o : List ℕ). overwritten at o (device.reads old file)) octets_is))
        (staged_done (device.reads old file) bodies body at small has behind)

  -- a write of its gate leaves it there
  pub gate_moments : (file end : ℕ) (bodies : List (List ℕ)) (body : List ℕ) (old new : D) → end ≡ length (written bodies) → ((c : Image) → device.images old c → HasStaged (c file) bodies body) → LeavesOnly device old new (Wrote device file end 1 old) → LeavesOnly device old new (λ c. HasStaged (c file) bodies body)
  gate_moments file end bodies body old new end_is staged run = weakens device old new _ _ run (λ c wrote. at_gate (wrote.0 file) bodies body end (c file) (staged wrote.0 wrote.1) end_is wrote.2.here)

  -- other files
  pub elsewhere_one : (old new : D) (file at n : ℕ) → LeavesOnly device old new (Wrote device file at n old) → LeavesOnly device old new (IsOldBut device file old)
  elsewhere_one old new file at n run = weakens device old new _ _ run (λ c wrote. (wrote.0, wrote.1, wrote.2.others))

  pub elsewhere_two : (old mid new : D) (file at n at' n' : ℕ) → LeavesOnly device old mid (Wrote device file at n old) → LeavesOnly device mid new (Wrote device file at' n' mid) → LeavesOnly device old new (IsOldBut device file old)
  elsewhere_two old mid new file at n at' n' first second = elsewhere_on device file old mid new (elsewhere_one old mid file at n first) (elsewhere_one mid new file at' n' second)

  -- a journal keeps its records where its file does
  pub keeps_state : {journal : Journal} {bodies : List (List ℕ)} {pending : List ℕ} {old : D} {t : PendingFault} (new : D) → HasOnDisk device journal bodies pending old → journal.pending_fault ≡ t → StateIs device t journal.file bodies pending new → HasOnDisk device journal bodies pending new
  keeps_state {journal} {bodies} {pending} new keeps is state = record { extents = keeps.extents; end = keeps.end; state = subst (λ (t : PendingFault). StateIs device t journal.file bodies pending new) (sym is) state }

  -- the same journal keeps the same records
  pub keeps_same : (old new : Journal) (bodies : List (List ℕ)) (pending : List ℕ) (disk : D) → IsSame old new → HasOnDisk device old bodies pending disk → HasOnDisk device new bodies pending disk
  keeps_same old new bodies pending disk same keeps = record {
    extents = same.extents ∙ keeps.extents;
    end = same.end ∙ keeps.end;
    state = subst (λ (t : PendingFault). StateIs device t new.file bodies pending disk) (sym same.pending_fault) (subst (λ (f : ℕ). StateIs device old.pending_fault f bodies pending disk) (sym same.file) keeps.state);
  }

  pub some_same : (old new : Journal) (disk : D) → IsSame old new → IsOnDisk device old disk → IsOnDisk device new disk
  some_same old new disk same k = record { bodies = k.bodies; pending = k.pending; keeps = keeps_same old new k.bodies k.pending disk same k.keeps }

abbrev pub extent : ℕ → ℕ → Extent
extent at len = record { at = at; len = len }

pub extents-push : (at : ℕ) (bodies : List (List ℕ)) (body : List ℕ) (e : Extent) → e ≡ record { at = at + length (written bodies) + 5; len = length body } → extents_from at (bodies ++ body ∷ []) ≡ extents_from at bodies ++ e ∷ []
extents-push at [] body e is =
    let same : at + 5 ≡ at + 0 + 5 = omega arith in
    let head : e ≡ record { at = at + 5; len = length body } = is ∙ ap (λ (n : ℕ). extent n (length body)) (sym same) in
    ap (λ (x : Extent). x ∷ []) (sym head)
extents-push at (b ∷ bodies) body e is =
    let same : at + length (written (b ∷ bodies)) + 5 ≡ at + 5 + length b + length (written bodies) + 5 = omega (arith, length-framed b, length-append (framed b) (written bodies)) in
    ap (λ (l : List Extent). record { at = at + 5; len = length b } ∷ l) (extents-push (at + 5 + length b) bodies body e (is ∙ ap (λ (n : ℕ). extent n (length body)) same))

-- a file without records holds none
pub holds_none : (file : List ℕ) → HasRecords file [] → HoldsNone file
holds_none file h = go h.tail h.file_is h.closed
  where
    go : (tail : List ℕ) → file ≡ tail → IsClosed tail → HoldsNone file
    go [] is none = absurd none
    go (g ∷ []) is shut = subst HoldsNone (sym is) tt
    go (g ∷ n ∷ t) is shut = subst HoldsNone (sym is) shut
