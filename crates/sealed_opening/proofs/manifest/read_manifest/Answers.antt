use Rattle.std.proofs.Common.{◌++◌, ℕ, List, None, refl, ◌∙◌, ap, subst, length}
use Rattle.disk_journal.specs.Calls.{content_read}
use Rattle.disk_journal.specs.Format.{HasRecords, written}
use Rattle.disk_journal.specs.State.{extents_from}
use Rattle.archive_reading.specs.PartialArchive.{IsBase}
use Rattle.sealed_images.specs.Damage.{FollowsInZero}
use Rattle.sealed_images.specs.Records.{CanFollow}
use Rattle.sealed_opening.specs.Manifest.{IsDamagedZero}
use Rattle.sealed_opening.specs.ReadRefusals.{IsReadRefusal}
use Rattle.sealed_opening.specs.Records.{IsStop}
use Rattle.sealed_opening.specs.Zero.{IsTakenInZero, zero_said}
use Rattle.sealed_opening.specs.declared.zero.ZeroRecords.{ZeroRecords}
use Rattle.sealed_opening.proofs.Refused.{handed_on, refused_as}
use Rattle.sealed_opening.proofs.WholeManifest.{manifest_read, manifest_some, zero_damaged}
use Rattle.sealed_opening.proofs.ZeroTaken.{none_follow}
use Rattle.sealed_opening.proofs.manifest.read_manifest.Goals as goal

pub read_records-requires-clause-kept : goal.read_records-requires-clause-kept
read_records-requires-clause-kept g c = record { base = (tt, tt, tt); follow = none_follow c.new.result.items c.new.ensures.items }

pub returns-in_err-journal-clause-refused : goal.returns-in_err-journal-clause-refused
returns-in_err-journal-clause-refused g c =
    let device = g.D.Disk.device in
    let was = c.args.disk.now in
    let now = c.read_records.new.disk in
    let opening = c.args.opening in
    let start : ZeroRecords = record { made = None; seals = c.new.result } in
    let fault = c.in_err-journal.field-0.0 in
    handed_on c.from_residual.result fault (IsReadRefusal (IsDamagedZero (device.reads was)) device was now) c.from_residual.ensures.1
    (refused_as device (IsStop (λ records body. CanFollow FollowsInZero (zero_said records) body) IsTakenInZero device was opening start) (IsDamagedZero (device.reads was)) was now fault
    (λ transparent file at stop. zero_damaged device was opening start file at refl c.new.ensures.items c.requires.zero (c.requires.first transparent) stop) c.in_err-journal.ensures.refused)

pub returns-in-Some-clause-read : goal.returns-in-Some-clause-read
returns-in-Some-clause-read g c transparent =
    let device = g.D.Disk.device in
    let was = c.args.disk.now in
    let opening = c.args.opening in
    let start : ZeroRecords = record { made = None; seals = c.new.result } in
    let said = c.in_ok-journal.said in
    let read = c.in_ok-journal.ensures.read in
    let begins = c.requires.first transparent in
    let bodies : List (List ℕ) = read.bodies in
    let has = subst (λ (n : ℕ). HasRecords (device.reads was n) bodies) c.requires.zero (subst (λ (l : List (List ℕ)). HasRecords (content_read device opening was) (l ++ bodies)) begins (read.has transparent)) in
    manifest_read (device.reads was 0) start said bodies refl c.new.ensures.items read.reads has
    (record { journal = c.in_ok-journal.journal; made = c.in-Some.made; seals = said.seals }) c.in-Some.is refl c.in_ok-journal.ensures.kept.follow
    (read.extents transparent ∙ ap (λ (l : List (List ℕ)). extents_from 0 (l ++ bodies)) begins) (read.end transparent ∙ ap (λ (l : List (List ℕ)). length (written (l ++ bodies))) begins)

pub returns-in-Some-clause-kept : goal.returns-in-Some-clause-kept
returns-in-Some-clause-kept g c =
    let read = c.in_ok-journal.ensures.read in
    let kept = c.in_ok-journal.ensures.kept in
    record { base = subst IsBase c.in-Some.is kept.base; follow = kept.follow; in_zero = read.in_file ∙ c.requires.zero; no_pending_fault = read.no_pending_fault }

-- a file that begins with an open gate makes an archive
pub returns-in-None-clause-refused : goal.returns-in-None-clause-refused
returns-in-None-clause-refused g c = (
  λ transparent.
      let device = g.D.Disk.device in
      let was = c.args.disk.now in
      let opening = c.args.opening in
      let start : ZeroRecords = record { made = None; seals = c.new.result } in
      let read = c.in_ok-journal.ensures.read in
      let bodies : List (List ℕ) = read.bodies in
      let has = subst (λ (l : List (List ℕ)). HasRecords (content_read device opening was) (l ++ bodies)) (c.requires.first transparent) (read.has transparent) in
      absurd (manifest_some (content_read device opening was) start c.in_ok-journal.said bodies refl c.new.ensures.items read.reads has (c.requires.begun transparent).1 c.in-None.is),
  c.in_ok-journal.ensures.no_fault,
)
