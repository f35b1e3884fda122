-- The ends of the plan of `verify`.
use Rattle.std.proofs.Common.{◌≡◌, ◌⊎◌, ◌∙◌, inl, inr, ℤ, [], length, Option, Some, None, refl, sym, ap, subst}
use Rattle.std.specs.Prelude.{IsSomeAnd, IsTrue}
use Rattle.arch_disk.specs.Disk.{Device}
use Rattle.refusals.specs.declared.refusal.Refusal.{Refusal}
use Rattle.refusals.specs.declared.refusal.Refusal.TheVariants.{DiskFault, Mismatch, NoArchive, Damaged, OutOfMemory, WriteFault}
use Rattle.outer_traits.specs.Outside.{Files}
use Rattle.archive_store.specs.Entries.{FilledArchive}
use Rattle.archive_store.specs.Stands.{IsSoundImage, StandsFilled}
use Rattle.archive_store.proofs.Exact.{filled_once}
use Rattle.archive_verify.specs.Verified.{HoldCurrentFills}
use Rattle.archive_verify.proofs.Currents.{mismatch_unsound}
use Rattle.archive_verify.proofs.Images.{sound_images}
use Rattle.command_plans.specs.Plan.{EachEnd, Requires, Way}
use Rattle.command_plans.proofs.Plans.{each_end, end_of}
use Rattle.command_words.specs.Job.{Verify}
use Rattle.command_runs.specs.declared.report.Report.{Report}
use Rattle.command_runs.specs.Checking.{checking_plan}
use Rattle.command_runs.specs.Command.{ArchiveFound, DamageFound, HasEffects, NoneFound, IsOpeningResult, OpeningResult, Progress, after_opening, archive_opened, opening_plan}
use Rattle.command_runs.specs.ReadOnly.{IsReadAsBefore, IsReadOnly}
use Rattle.command_runs.proofs.Openings.{held_once}
use Rattle.command_runs.specs.Report.{read_only, unopened}
use Rattle.archive_commands.specs.Verify.{IsCompared, after_comparing, compare_plan, verify_line, verify_plan}
use Rattle.command_laws.specs.Calls.{Call, HeldArchive, IsRefusedBy, IsRun, LeavesAll, Prints, PrintsSome, Succeeded, WasInterrupted, effects}
use Rattle.command_laws.specs.Verify.{IsMismatch, IsUnsound, IsVerified}
use Rattle.command_laws.proofs.Left.{all_opened, all_unopened, not_asked}
use Rattle.command_laws.proofs.Pages.{read_left}
use Rattle.command_laws.proofs.Runs.{IsEndOf, all_is_some, by_due, by_job, cut_off, disk_ended, memory_ended, no_archive_silent, none_is_some, none_or_some, opening_due, or_disk_failed, or_no_memory, or_unwritten, output_ended, reported, same_refusal, succeeded}

-- all but that a sound archive is found so
record IsLeft {D : Type 0} (device : Device D) (e : Call D) : Type 0 where
  left : LeavesAll device e
  sound : Succeeded e → HeldArchive device e (λ filled. IsSoundImage (device.reads e.disk) × Prints e (verify_line filled))
  unsound : (refusal : Refusal) → e.report.refusal ≡ Some refusal → IsMismatch refusal → IsUnsound device e refusal
  printed : (filled : FilledArchive) → StandsFilled (device.reads e.disk) filled → PrintsSome e (verify_line filled)

module _ {D : Type 0} (device : Device D) (e : Call D) where
  -- no archive was opened
  left_unopened : (refusal : Refusal) → (IsMismatch refusal → ⊥) → e.report ≡ unopened (Some refusal) → Prints e [] → IsReadAsBefore device e.disk e.disk' → IsLeft device e
  left_unopened refusal other report silent kept =
      let is : e.report.refusal ≡ Some refusal = ap (λ (r : Report). r.refusal) report in record {
        left = all_unopened device e refusal report silent kept;
        sound = λ none. none_or_some e.report.refusal refusal is none;
        unsound = λ found found_is mismatch. absurd (other (subst IsMismatch (same_refusal e.report.refusal found refusal found_is is) mismatch));
        printed = λ filled stands. none_is_some e (verify_line filled) silent;
      }

  module _ (filled : FilledArchive) (only : IsReadOnly device e.disk e.disk' filled) where
    left_opened : (refusal : Option Refusal) → e.report ≡ read_only refusal (length filled.plain.history) → PrintsSome e (verify_line filled)
        → (Succeeded e → IsSoundImage (device.reads e.disk) × Prints e (verify_line filled)) → ((found : Refusal) → refusal ≡ Some found → IsMismatch found → IsUnsound device e found) → IsLeft device e
    left_opened refusal report some sound unsound =
        let is : e.report.refusal ≡ refusal = ap (λ (r : Report). r.refusal) report in record {
          left = all_opened device e filled only refusal report;
          sound = λ none. (filled, only.stands, sound none);
          unsound = λ found found_is mismatch. unsound found (sym is ∙ found_is) mismatch;
          printed = λ other stands. subst (λ (f : FilledArchive). PrintsSome e (verify_line f)) (filled_once (device.reads e.disk) filled other only.stands stands) some;
        }

    -- by a refusal that is no mismatch
    left_refused : (refusal : Refusal) → (IsMismatch refusal → ⊥) → e.report ≡ read_only (Some refusal) (length filled.plain.history) → PrintsSome e (verify_line filled) → IsLeft device e
    left_refused refusal other report some =
        left_opened (Some refusal) report some (λ none. none_or_some e.report.refusal refusal (ap (λ (r : Report). r.refusal) report) none)
        (λ found found_is mismatch. absurd (other (subst IsMismatch (same_refusal (Some refusal) found refusal found_is refl) mismatch)))

  module _ (known : IsTrue device.is_transparent) where
    abbrev Tells : Type 0
    Tells = IsTrue device.is_transparent

    abbrev HasLeft : Way Progress ⊥ → Type 0
    HasLeft way = HasEffects device (effects e) way → IsLeft device e

    opening_left : (held : OpeningResult) → EachEnd HasLeft (after_opening 0 held)
    opening_left NoneFound = λ did. left_unopened NoArchive (λ m. m) did.report did.printed (did.disk.1 known)
    opening_left (DamageFound file at) = λ did. left_unopened (Damaged file at) (λ m. m) did.report did.printed (did.disk.1 known)
    opening_left (ArchiveFound filled) = tt

    comparing_left : (filled : FilledArchive) (found : Option Refusal) → IsCompared Tells filled found → EachEnd HasLeft (after_comparing filled found)
    comparing_left filled None held = (
      λ did. left_refused filled (did.disk.1 known) WriteFault (λ m. m) did.report did.printed,
      λ did. left_opened filled (did.disk.1 known) None did.report (all_is_some e (verify_line filled) did.printed)
          (λ none. ((sound_images (device.reads e.disk) filled (did.disk.1 known).stands).0 (held known), did.printed)) (λ found is mismatch. none_or_some None found is refl),
    )
    comparing_left filled (Some (Mismatch i n k s r)) named = λ did.
        let only = did.disk.1 known in
        let unsound : IsUnsound device e (Mismatch i n k s r) = (
          ap (λ (t : Report). t.opened) did.report,
          (filled, only.stands, named known),
          λ sound. mismatch_unsound filled i _ (named known).first ((sound_images (device.reads e.disk) filled only.stands).1 sound),
        ) in
        left_opened filled only (Some (Mismatch i n k s r)) did.report (none_is_some e (verify_line filled) did.printed)
        (λ none. none_or_some e.report.refusal (Mismatch i n k s r) (ap (λ (t : Report). t.refusal) did.report) none)
        (λ found is mismatch. subst (IsUnsound device e) (same_refusal (Some (Mismatch i n k s r)) (Mismatch i n k s r) found refl is) unsound)
    comparing_left filled (Some other) none = absurd none

    each_left : EachEnd HasLeft (verify_plan device e.disk)
    each_left = (
      λ did. left_unopened OutOfMemory (λ m. m) did.report did.printed (not_asked device e did.disk),
      each_end HasLeft (opening_plan 0 device e.disk) (compare_plan Tells) (
        λ did. left_unopened OutOfMemory (λ m. m) did.report did.printed (did.disk.1 known),
        (λ did. left_unopened DiskFault (λ m. m) did.report did.printed (did.disk.1 known), λ held h. opening_left held),
      )
          (λ filled. read_left HasLeft Tells known (archive_opened 0 filled) (checking_plan 0 filled (IsCompared Tells filled) (verify_line filled))
          (λ did. left_refused filled (did.disk.1 known) DiskFault (λ m. m) did.report (none_is_some e (verify_line filled) did.printed)) (
            λ did. left_refused filled (did.disk.1 known) OutOfMemory (λ m. m) did.report (none_is_some e (verify_line filled) did.printed),
            λ found is. comparing_left filled found is,
          )),
    )

  -- ---- what is due of a sound archive

  module _ (filled : FilledArchive) (stands : StandsFilled (device.reads e.disk) filled) (held : HoldCurrentFills filled) (way : Way Progress ⊥) (at : IsEndOf device e way) where
    abbrev cut : Type 0
    cut = Succeeded e

    printing_due : Requires (after_comparing filled None) way → Succeeded e ⊎ WasInterrupted device e
    printing_due (inl is) = or_unwritten e way at cut _ is
    printing_due (inr is) = succeeded e way at _ is

    checking_due : Requires (checking_plan 0 filled (IsCompared (IsTrue device.is_transparent) filled) (verify_line filled)) way → Succeeded e ⊎ WasInterrupted device e
    checking_due (inl is) = or_no_memory e way at cut _ is
    checking_due (inr found) = printing_due (found None (λ tells. held))

    comparing_due : Requires (compare_plan (IsTrue device.is_transparent) filled) way → Succeeded e ⊎ WasInterrupted device e
    comparing_due (inl is) = or_disk_failed e way at cut _ is (λ never. cc (never))
    comparing_due (inr asked) = checking_due (asked None tt)

    verifying_due : Requires (verify_plan device e.disk) way → Succeeded e ⊎ WasInterrupted device e
    verifying_due (inl is) = or_no_memory e way at cut _ is
    verifying_due (inr (inl is)) = or_no_memory e way at cut _ is
    verifying_due (inr (inr (inl is))) = or_disk_failed e way at cut _ is (λ never. cc (never))
    verifying_due (inr (inr (inr asked))) = comparing_due (asked (ArchiveFound filled) (λ known. stands))

-- ---- what is told of an archive that isn't sound

module _ {D : Type 0} (device : Device D) (e : Call D) (known : IsTrue device.is_transparent) (filled : FilledArchive) (stands : StandsFilled (device.reads e.disk) filled)
    (unsound : IsSoundImage (device.reads e.disk) → ⊥) where
  abbrev Found : Type 0
  Found = IsSomeAnd e.report.refusal IsMismatch ⊎ WasInterrupted device e

  abbrev HasFound : Way Progress ⊥ → Type 0
  HasFound way = IsEndOf device e way → Found

  -- an archive was found
  never : {Q : Type 0} (held : OpeningResult) → (◌≡◌ {A = OpeningResult} held (ArchiveFound filled) → ⊥) → IsOpeningResult (device.reads e.disk) held → Q
  never held apart h = absurd (apart (held_once device e.disk held (ArchiveFound filled) h stands))

  opening_found : (held : OpeningResult) → IsOpeningResult (device.reads e.disk) held → EachEnd HasFound (after_opening 0 held)
  opening_found NoneFound h = λ end. never NoneFound (λ same. cc (same)) h
  opening_found (DamageFound file at) h = λ end. never (DamageFound file at) (λ same. cc (same)) h
  opening_found (ArchiveFound other) h = tt

  comparing_found : (other : FilledArchive) (found : Option Refusal) → IsCompared (IsTrue device.is_transparent) other found → EachEnd HasFound (after_comparing other found)
  comparing_found other None held = (
    λ end. inr (output_ended e _ end),
    λ end. absurd (unsound ((sound_images (device.reads e.disk) other (end.did.disk.1 known).stands).0 (held known))),
  )
  comparing_found other (Some (Mismatch i n k s r)) named = λ end. inl (subst (λ (t : Option Refusal). IsSomeAnd t IsMismatch) (sym (reported e _ end)) tt)
  comparing_found other (Some another) none = absurd none

  pub each_found : EachEnd HasFound (verify_plan device e.disk)
  each_found = (
    λ end. inr (memory_ended e _ end),
    each_end HasFound (opening_plan 0 device e.disk) (compare_plan (IsTrue device.is_transparent)) (
      λ end. inr (memory_ended e _ end),
      (λ end. inr (disk_ended e _ end (λ apart. cc (apart))), λ held h. opening_found held (h known)),
    )
        (λ other. read_left HasFound (IsTrue device.is_transparent) known (archive_opened 0 other) (checking_plan 0 other (IsCompared (IsTrue device.is_transparent) other) (verify_line other)) (λ end. inr (disk_ended e _ end (λ apart. cc (apart))))
        (λ end. inr (memory_ended e _ end), λ found is. comparing_found other found is)),
  )

-- ---- the clause

module _ {D : Type 0} (device : Device D) (e : Call D) (files : Files) (clock : Option ℤ) (run : IsRun device e files clock Verify) where
  left : IsLeft device e
  left = by_job device e files clock Verify run (IsLeft device e)
      (λ did. left_unopened device e OutOfMemory (λ m. m) did.report did.printed (not_asked device e did.disk))
      (λ way allows end. end_of (HasLeft device e run.transparent) (verify_plan device e.disk) way (each_left device e run.transparent) allows end.did)

  pub verified : IsVerified device e
  verified = record {
    left = left.left;
    sound = left.sound;
    unsound = left.unsound;
    printed = left.printed;
    no_archive = λ refusal is. (
      by_due device e files clock Verify run (IsRefusedBy device e refusal) (λ cut. inr cut) (λ way required at. opening_due e way at 0 (compare_plan (IsTrue device.is_transparent)) refusal is required),
      no_archive_silent device e refusal left.left.report is,
    );
    complete = λ found. by_due device e files clock Verify run (Succeeded e ⊎ WasInterrupted device e) (λ interrupted. inr interrupted)
        (λ way required at. verifying_due device e found.0 found.1 ((sound_images (device.reads e.disk) found.0 found.1).1 found.2) way at required);
    found = λ held. by_job device e files clock Verify run (IsSomeAnd e.report.refusal IsMismatch ⊎ WasInterrupted device e)
        (λ did. inr (cut_off device e OutOfMemory (ap (λ (r : Report). r.refusal) did.report) tt))
        (λ way allows end. end_of (HasFound device e run.transparent held.0 held.1 held.2) (verify_plan device e.disk) way (each_found device e run.transparent held.0 held.1 held.2) allows end);
  }
