-- A journal that begins with the head of a log, and one that doesn't.
use Rattle.std.proofs.Common.{◌≡◌, ℕ, ◌<◌, ◌^◌, List, [], ◌∷◌, ◌++◌, length, take, drop, get_or, refl, sym, ◌∙◌, ap, subst, append-nil, length-append, arith}
use Rattle.std.specs.Int.{w32, from_be_bytes}
use Rattle.std.specs.Prelude.{true, false, IsTrue}
use Rattle.arch_disk.specs.Disk.{Device, NoFault}
use Rattle.arch_disk.specs.Image.{Image}
use Rattle.disk_journal.specs.Calls.{BeginsOpen, IsNextRefusal, IsStartRefusal, content_read, read_so_far}
use Rattle.disk_journal.specs.Faults.{IsToldBy}
use Rattle.disk_journal.specs.Format.{HoldsNone, framed, written}
use Rattle.disk_journal.specs.Reading.{IsAt, IsCutShortAt, file_read}
use Rattle.disk_journal.specs.declared.fault.JournalFault.{JournalFault}
use Rattle.disk_journal.specs.declared.fault.JournalFault.TheVariants.{Exists, NoArchive, Damaged, NeedsReopen, Limit, DiskFault, OutOfMemory}
use Rattle.disk_journal.specs.declared.opening.Opening.{Opening}
use Rattle.disk_journal.proofs.Calls.{read_are}
use Rattle.disk_journal.proofs.Files.{length-framed}
use Rattle.disk_journal.proofs.Once.{frame_body_once, frame_size}
use Rattle.field_codec.proofs.Sizes.{log_head_short}
use Rattle.archive_images.specs.SealFiles.{log_head_record}
use Rattle.archive_reading.proofs.Archives.{read_now}
use Rattle.archive_reading.specs.PartialArchive.{read_refusal}
use Rattle.sealed_images.specs.Records.{BeginsWithHead}
use Rattle.sealed_opening.specs.LogHead.{HasNoHead, start_refusal}
use Rattle.sealed_opening.specs.ReadRefusals.{IsReadRefusal}

-- ---- octets

head_small : (rows : ℕ) → length (log_head_record rows) < 2 ^ 32
head_small rows = omega (arith, log_head_short rows)

none_headless : (content : List ℕ) (rows : ℕ) → HoldsNone content → BeginsWithHead content rows → ⊥
none_headless [] rows none (rest, is, some) = absurd cc
none_headless (g ∷ []) rows none (rest, is, some) = absurd (omega (arith, ap length is, length-append (framed (log_head_record rows) ++ []) rest, some))
none_headless (g ∷ n ∷ more) rows none (rest, is, some) = none (ap (λ (l : List ℕ). get_or l 0 0) is)

-- what stands behind the gate of the head
behind_head : (content : List ℕ) (rows : ℕ) (head : BeginsWithHead content rows) (front : List ℕ) → content ≡ 1 ∷ front → front ≡ framed (log_head_record rows) ++ head.0
behind_head content rows head front is = ap (drop 1) (sym is ∙ head.1) ∙ ap (λ (l : List ℕ). l ++ head.0) (append-nil (framed (log_head_record rows)))

cut_headless : (content : List ℕ) (rows : ℕ) → IsCutShortAt content [] → BeginsWithHead content rows → ⊥
cut_headless content rows cut head =
    let body : List ℕ = log_head_record rows in
    let inside : cut.rest ≡ framed body ++ head.0 = behind_head content rows head cut.rest cut.file_is in
    let size : from_be_bytes w32 (take 4 cut.rest) ≡ length body = ap (λ (l : List ℕ). from_be_bytes w32 (take 4 l)) inside ∙ frame_size body head.0 (head_small rows) in
    omega (arith, cut.short, size, ap length inside, length-append (framed body) head.0, length-framed body, head.2)

-- another record stands there
pub other_headless : (content : List ℕ) (rows : ℕ) (opening : Opening) (body : List ℕ) → IsAt opening content (body ∷ []) → length body < 2 ^ 32 → (body ≡ log_head_record rows → ⊥) → BeginsWithHead content rows → ⊥
other_headless content rows opening body at small other head =
    let rest : List ℕ = at.up_to.rest in
    let inside : (framed body ++ []) ++ rest ≡ framed (log_head_record rows) ++ head.0 = behind_head content rows head ((framed body ++ []) ++ rest) at.up_to.file_is in
    other (frame_body_once body (log_head_record rows) rest head.0 small (head_small rows) (sym (ap (λ (l : List ℕ). l ++ rest) (append-nil (framed body))) ∙ inside))

pub begins_with : (content : List ℕ) (rows : ℕ) (opening : Opening) (body : List ℕ) → IsAt opening content (body ∷ []) → body ≡ log_head_record rows → BeginsWithHead content rows
begins_with content rows opening body at is = (
  at.up_to.rest,
  at.up_to.file_is ∙ ap (λ (b : List ℕ). written (b ∷ []) ++ at.up_to.rest) is,
  omega (arith, at.inside, at.len, at.up_to.at_is, ap length at.up_to.file_is, length-append (written (body ∷ [])) at.up_to.rest),
)

-- ---- refusals

module _ {D : Type 0} (device : Device D) (file rows : ℕ) where
  pub start_refused : (before after : D) (fault : JournalFault) → IsStartRefusal device file before after fault → IsToldBy device before after fault → IsReadRefusal (HasNoHead (device.reads before) file rows) device before after (start_refusal file fault)
  start_refused before after NoArchive refusal told = (λ transparent. (refl, none_headless (device.reads before file) rows (refusal transparent), refl), told)
  start_refused before after Exists refusal told = absurd refusal
  start_refused before after (Damaged at) refusal told = absurd refusal
  start_refused before after (NeedsReopen faults) refusal told = absurd refusal
  start_refused before after Limit refusal told = absurd refusal
  start_refused before after (DiskFault true) refusal told = absurd refusal
  start_refused before after (DiskFault false) refusal told = refusal
  start_refused before after OutOfMemory refusal told = absurd refusal

  module _ (opening : Opening) (before mid : D) (in_file : file_read opening ≡ file) (reads : device.reads mid ≡ device.reads before) (none : NoFault device before mid)
      (at : IsTrue device.is_transparent → IsAt opening (device.reads before file) []) where
    -- where the opening stands, by what its own file is
    own : IsTrue device.is_transparent → IsAt opening (content_read device opening before) []
    own transparent = subst (λ (f : ℕ). IsAt opening (device.reads before f) []) (sym in_file) (at transparent)

    -- what holds of what is read now holds of the file as it was, of which nothing is read
    pub first_now : (P : List ℕ → List (List ℕ) → Type 0) → IsTrue device.is_transparent → P (content_read device opening mid) (read_so_far device opening mid) → P (device.reads before file) []
    first_now P transparent is = subst (λ (f : ℕ). P (device.reads before f) []) in_file (read_now device opening opening before mid [] reads refl (own transparent) P is)

    pub first_refused : (after : D) (fault : JournalFault) → IsNextRefusal device opening mid after fault → IsToldBy device mid after fault → IsReadRefusal (HasNoHead (device.reads before) file rows) device before after (read_refusal file fault)
    first_refused after Exists refusal told = absurd refusal
    first_refused after NoArchive refusal told = absurd refusal
    first_refused after (Damaged at_gate) refusal told = (
      λ transparent. (
        refl,
        cut_headless (device.reads before file) rows (first_now IsCutShortAt transparent (refusal transparent).1),
        (refusal transparent).0 ∙ (at transparent).up_to.at_is,
      ),
      told ∙ none,
    )
    first_refused after (NeedsReopen faults) refusal told = absurd refusal
    first_refused after Limit refusal told = absurd refusal
    first_refused after (DiskFault true) refusal told = absurd refusal
    first_refused after (DiskFault false) refusal told = omega (arith, refusal, none)
    first_refused after OutOfMemory refusal told = told ∙ none

-- ---- behind the head

module _ {D : Type 0} (device : Device D) (file : ℕ) where
  pub head_begins : (opening : Opening) (before after : D) → file_read opening ≡ file → device.reads after ≡ device.reads before → BeginsOpen (device.reads before file) → BeginsOpen (content_read device opening after)
  head_begins opening before after in_file reads open_gate =
      subst (λ (image : Image). BeginsOpen (image (file_read opening))) (sym reads) (subst (λ (f : ℕ). BeginsOpen (device.reads before f)) (sym in_file) open_gate)

  pub head_read : (rows : ℕ) (opening : Opening) (before after : D) (body : List ℕ) → file_read opening ≡ file → device.reads after ≡ device.reads before → IsAt opening (device.reads before file) (body ∷ []) → body ≡ log_head_record rows
      → read_so_far device opening after ≡ log_head_record rows ∷ []
  head_read rows opening before after body in_file reads at is =
      let here : IsAt opening (content_read device opening after) (body ∷ []) =
      subst (λ (image : Image). IsAt opening (image (file_read opening)) (body ∷ [])) (sym reads) (subst (λ (f : ℕ). IsAt opening (device.reads before f) (body ∷ [])) (sym in_file) at) in
      read_are (content_read device opening after) opening (body ∷ []) here ∙ ap (λ (b : List ℕ). b ∷ []) is

-- the refusal for every other fault is that of a reading
pub other_start : (file : ℕ) (fault : JournalFault) → (fault ≡ NoArchive → ⊥) → read_refusal file fault ≡ start_refusal file fault
other_start file NoArchive other = absurd (other refl)
other_start file Exists other = refl
other_start file (Damaged at) other = refl
other_start file (NeedsReopen faults) other = refl
other_start file Limit other = refl
other_start file (DiskFault wrote) other = refl
other_start file OutOfMemory other = refl
