-- Where a body stands in the octets of its file.
use Rattle.std.proofs.Common.{◌≡◌, ℕ, zero, suc, ◌+◌, ◌<◌, ◌≤◌, List, [], ◌∷◌, ◌++◌, length, get_or, take, drop, Some, refl, sym, ◌∙◌, ap, subst, arith, append_assoc, length-append}
use Rattle.std.specs.Prelude.{slice_get}
use Rattle.std.proofs.lemmas.List.{take_at, drop_at, drop-drop}
use Rattle.disk_journal.specs.Format.{framed, written}
use Rattle.std.specs.Prelude.{IsTrue, Result, Ok, Err, IfOk}
use Rattle.arch_disk.specs.Disk.{Device}
use Rattle.disk_journal.specs.State.{extents_from, StateIs, HasOnDisk}
use Rattle.disk_journal.specs.declared.journal.Journal.{Journal}
use Rattle.disk_journal.specs.declared.journal.PendingFault.{PendingFault}
use Rattle.disk_journal.specs.declared.journal.PendingFault.TheVariants.{Absent, GateClosed, GateWritten}
use Rattle.disk_journal.specs.declared.journal.Extent.{Extent}
use Rattle.disk_journal.proofs.Files.{length-framed}

pub record IsLocated (file : List ℕ) (bodies : List (List ℕ)) (at i : ℕ) (e : Extent) : Type 0 where
  pub offset : ℕ
  pub at_is : e.at ≡ at + offset
  pub within : offset + e.len ≤ length file
  pub body_is : slice_get bodies i ≡ Some (take e.len (drop offset file))

pub behind : (body rest : List ℕ) → drop 5 (1 ∷ framed body ++ rest) ≡ body ++ rest
unfolding framed
behind body rest = refl

pub located : (bodies : List (List ℕ)) (at i : ℕ) (tail : List ℕ) (e : Extent) → i < length bodies → get_or (extents_from at bodies) i e ≡ e → IsLocated (written bodies ++ tail) bodies at i e
located [] at i tail e lt is = absurd (omega arith)
located (body ∷ bodies) at zero tail e lt is =
    let file = written (body ∷ bodies) ++ tail in
    let at_is : e.at ≡ at + 5 = ap (λ (x : Extent). x.at) (sym is) in
    let len_is : e.len ≡ length body = ap (λ (x : Extent). x.len) (sym is) in
    let drops : drop 5 file ≡ body ++ (written bodies ++ tail) = ap (drop 5) (append_assoc (1 ∷ framed body) (written bodies) tail) ∙ behind body (written bodies ++ tail) in
    let takes : take e.len (drop 5 file) ≡ body = ap (take e.len) drops ∙ take_at body (written bodies ++ tail) e.len (sym len_is) in
    record {
      offset = 5;
      at_is = at_is;
      within = omega (arith, len_is, length-framed body, length-append (framed body) (written bodies), length-append (written (body ∷ bodies)) tail);
      body_is = ap (λ (l : List ℕ). Some l) (sym takes);
    }
located (body ∷ bodies) at (suc i) tail e lt is =
    let file = written (body ∷ bodies) ++ tail in
    let rest = written bodies ++ tail in
    let l = located bodies (at + 5 + length body) i tail e (omega arith) is in
    let whole : file ≡ (1 ∷ framed body) ++ rest = append_assoc (1 ∷ framed body) (written bodies) tail in
    let size : length (1 ∷ framed body) ≡ 5 + length body = omega (arith, length-framed body) in
    let drops : drop (5 + length body + l.offset) file ≡ drop l.offset rest =
    ap (drop (5 + length body + l.offset)) whole ∙ sym (drop-drop l.offset (5 + length body) ((1 ∷ framed body) ++ rest)) ∙ ap (drop l.offset) (drop_at (1 ∷ framed body) rest (5 + length body) size) in
    record {
      offset = 5 + length body + l.offset;
      at_is = omega (arith, l.at_is);
      within = omega (arith, l.within, ap length whole, length-append (1 ∷ framed body) rest, size);
      body_is = l.body_is ∙ ap (λ (x : List ℕ). Some (take e.len x)) (sym drops);
    }

-- in every state the file begins with the records
pub begins : {D : Type 0} (device : Device D) (pending_fault : PendingFault) (file : ℕ) (bodies : List (List ℕ)) (pending : List ℕ) (disk : D) → StateIs device pending_fault file bodies pending disk → IsTrue device.is_transparent → (tail : List ℕ) × (device.reads disk file ≡ written bodies ++ tail)
begins device Absent file bodies pending disk state transparent = (state.0.tail, state.0.file_is)
begins device (GateClosed faults) file bodies pending disk state transparent = let h = state (device.reads disk) (device.reads_as_image disk transparent) in (h.tail, h.file_is)
begins device (GateWritten faults) file bodies pending disk state transparent = let s = state (device.reads disk) (device.reads_as_image disk transparent) in (s.gate ∷ framed pending ++ s.tail, s.file_is)

pub length-extents : (at : ℕ) (bodies : List (List ℕ)) → length (extents_from at bodies) ≡ length bodies
length-extents at [] = refl
length-extents at (body ∷ bodies) = ap suc (length-extents (at + 5 + length body) bodies)

-- where the journal finds a body
pub found : {D : Type 0} (device : Device D) (journal : Journal) (bodies : List (List ℕ)) (pending : List ℕ) (disk : D) (i : ℕ) (e : Extent) → HasOnDisk device journal bodies pending disk → IsTrue device.is_transparent → i < length journal.extents.items → get_or journal.extents.items i e ≡ e → IsLocated (device.reads disk journal.file) bodies 0 i e
found device journal bodies pending disk i e keeps transparent lt is =
    let b = begins device journal.pending_fault journal.file bodies pending disk keeps.state transparent in
    let l = located bodies 0 i b.0 e (omega (arith, length-extents 0 bodies, ap length keeps.extents, lt)) (ap (λ (l : List Extent). get_or l i e) (sym keeps.extents) ∙ is) in
    subst (λ (f : List ℕ). IsLocated f bodies 0 i e) (sym b.1) l

-- what follows from what an Ok says
pub weaker : {T E : Type 0} {P Q : T → Type 0} (r : Result T E) → ((x : T) → P x → Q x) → IfOk r P → IfOk r Q
weaker (Ok x) f p = f x p
weaker (Err e) f p = tt

pub weaker_2 : {T E : Type 0} {P Q R : T → Type 0} (r : Result T E) → ((x : T) → P x → Q x → R x) → IfOk r P → IfOk r Q → IfOk r R
weaker_2 (Ok x) f p q = f x p q
weaker_2 (Err e) f p q = tt

-- a premise before an answer, or in what it says
pub ok_under : {A T E : Type 0} (P : T → Type 0) (r : Result T E) → (A → IfOk r P) → IfOk r (λ x. A → P x)
ok_under P (Ok x) f = f
ok_under P (Err e) f = tt
