use Rattle.std.proofs.Common.{◌≡◌, ◌++◌, [], ◌∷◌, ℕ, List, refl, sym, ◌∙◌, subst, true≢false}
use Rattle.std.specs.Prelude.{IsTrue}
use Rattle.disk_journal.specs.Format.{HasRecords}
use Rattle.disk_journal.specs.Reading.{IsAt}
use Rattle.archive_images.specs.SealFiles.{log_head_record}
use Rattle.archive_reading.proofs.Archives.{opens_some}
use Rattle.refusals.specs.declared.refusal.Refusal.TheVariants.{OutOfMemory}
use Rattle.sealed_opening.specs.LogHead.{HasNoHead}
use Rattle.sealed_opening.specs.ReadRefusals.{IsReadRefusal}
use Rattle.sealed_opening.proofs.HeadBehind.{begins_with, first_now, first_refused, head_begins, head_read, other_headless, start_refused}
use Rattle.sealed_opening.proofs.Refused.{handed_on}
use Rattle.sealed_opening.proofs.log_head.begin_behind_head.Goals as goal

pub returns-in-Err-clause-refused : goal.returns-in-Err-clause-refused
returns-in-Err-clause-refused g c =
    let device = g.D.Disk.device in
    let was = c.args.disk.now in
    let now = c.begin_synced.new.disk in
    subst (IsReadRefusal (HasNoHead (device.reads was) c.args.file c.args.rows) device was now) (sym c.refusal_of_start.ensures)
    (start_refused device c.args.file c.args.rows was now c.in-Err.fault c.in-Err.ensures.refused c.in-Err.ensures.told.refused)

-- a file that begins with an open gate has a record
pub returns-in-Ok-None-clause-refused : goal.returns-in-Ok-None-clause-refused
returns-in-Ok-None-clause-refused g c =
    let device = g.D.Disk.device in
    let was = c.args.disk.now in
    let begun = c.in-Ok.ensures.begun in
    let none = c.in-Ok.ensures.told.done in (
      λ transparent.
          let x = rw c.in-Ok-None.field-0-is at c.in-Ok-None.ensures.next in
          absurd (opens_some (device.reads was c.args.file) (begun.open_gate transparent).1
          (first_now device c.args.file c.args.rows c.in-Ok.opening was c.begin_synced.new.disk begun.in_file c.in-Ok.ensures.looked.reads_same none begun.none_read HasRecords transparent (x.has transparent))),
      c.in-Ok-None.ensures.told.done ∙ none,
    )

pub returns-in-Err-next-clause-refused : goal.returns-in-Err-next-clause-refused
returns-in-Err-next-clause-refused g c =
    let device = g.D.Disk.device in
    let was = c.args.disk.now in
    let now = c.next.new.disk in
    let begun = c.in-Ok.ensures.begun in
    subst (IsReadRefusal (HasNoHead (device.reads was) c.args.file c.args.rows) device was now) (sym c.refusal_of.ensures)
    (first_refused device c.args.file c.args.rows c.in-Ok.opening was c.begin_synced.new.disk begun.in_file c.in-Ok.ensures.looked.reads_same c.in-Ok.ensures.told.done begun.none_read
    now c.in-Err-next.fault c.in-Err-next.ensures.refused c.in-Err-next.ensures.told.refused)

pub returns-in_err-is_head-clause-refused : goal.returns-in_err-is_head-clause-refused
returns-in_err-is_head-clause-refused g c =
    let device = g.D.Disk.device in
    let was = c.args.disk.now in
    handed_on c.from_residual.result OutOfMemory (IsReadRefusal (HasNoHead (device.reads was) c.args.file c.args.rows) device was c.next.new.disk) c.from_residual.ensures.1
    (c.in-Ok-Some.ensures.told.done ∙ c.in-Ok.ensures.told.done)

pub returns-then-is_head-clause-begun : goal.returns-then-is_head-clause-begun
returns-then-is_head-clause-begun g c =
    let device = g.D.Disk.device in
    let was = c.args.disk.now in
    let mid = c.begin_synced.new.disk in
    let begun = c.in-Ok.ensures.begun in
    let body : List ℕ = c.in-Ok-Some.body in
    let is : body ≡ log_head_record c.args.rows = c.in_ok-is_head.ensures.0 c.if-is_head.true in
    let first = c.in-Ok.opening in
    let new = c.next.new.self in
    let in_file = c.next.ensures.file ∙ begun.in_file in
    let looked = c.next.ensures.looked.reads_same ∙ c.in-Ok.ensures.looked.reads_same in
    let x = rw c.in-Ok-Some.field-0-is at c.in-Ok-Some.ensures.next in
    let next : IsTrue device.is_transparent → IsAt new (device.reads was c.args.file) (body ∷ []) =
    λ transparent. first_now device c.args.file c.args.rows first was mid begun.in_file c.in-Ok.ensures.looked.reads_same c.in-Ok.ensures.told.done begun.none_read (λ content bodies. IsAt new content (bodies ++ body ∷ [])) transparent (x.read transparent) in
    record {
      in_file = in_file;
      at_gate = c.in-Ok-Some.ensures.at_gate;
      begun = λ transparent. head_begins device c.args.file new was c.next.new.disk in_file looked (begun.open_gate transparent);
      read = λ transparent. head_read device c.args.file c.args.rows new was c.next.new.disk body in_file looked (next transparent) is;
      head = λ transparent. begins_with (device.reads was c.args.file) c.args.rows new body (next transparent) is;
    }

pub returns-else-is_head-clause-refused : goal.returns-else-is_head-clause-refused
returns-else-is_head-clause-refused g c =
    let device = g.D.Disk.device in
    let was = c.args.disk.now in
    let mid = c.begin_synced.new.disk in
    let begun = c.in-Ok.ensures.begun in
    let body : List ℕ = c.in-Ok-Some.body in
    let new = c.next.new.self in
    let x = rw c.in-Ok-Some.field-0-is at c.in-Ok-Some.ensures.next in (
      λ transparent.
          let next = first_now device c.args.file c.args.rows c.in-Ok.opening was mid begun.in_file c.in-Ok.ensures.looked.reads_same c.in-Ok.ensures.told.done begun.none_read (λ content bodies. IsAt new content (bodies ++ body ∷ [])) transparent (x.read transparent) in
          (refl, other_headless (device.reads was c.args.file) c.args.rows new body next x.short (λ same. true≢false (sym (c.in_ok-is_head.ensures.1 same) ∙ c.if-is_head.false)), refl),
      c.in-Ok-Some.ensures.told.done ∙ c.in-Ok.ensures.told.done,
    )
