-- The ends of the plan of `recover`.
use Rattle.std.proofs.Common.{◌≡◌, ◌⊎◌, ◌∙◌, inl, inr, ℤ, ℕ, zero, suc, ◌+◌, ◌<◌, ◌≤◌, List, [], ◌++◌, length, Bool, true, false, Option, Some, None, refl, sym, ap, subst, append-nil, arith}
use Rattle.std.specs.Prelude.{IsTrue, nat_lt}
use Rattle.std.proofs.lemmas.Bool.Decides.{nat_tests}
use Rattle.std.proofs.lemmas.List.{length-append, nil_from_length}
use mathlib.Core.List.{IsPrefix}
use Rattle.arch_disk.specs.Image.{Image}
use Rattle.arch_disk.specs.Disk.{Device}
use Rattle.disk_journal.specs.Format.{HasRecords}
use Rattle.disk_journal.proofs.Once.{records_once}
use Rattle.refusals.specs.declared.refusal.Refusal.{Refusal}
use Rattle.refusals.specs.declared.refusal.Refusal.TheVariants.{Damaged, DiskFault, Limit, NoArchive, OutOfMemory, WriteFault}
use Rattle.refusals.specs.declared.refusal.Which.TheVariants.{Records}
use Rattle.refusals.specs.Limits.{limit_of}
use Rattle.outer_traits.specs.Outside.{Files}
use Rattle.history_items.specs.declared.items.Item.{Item}
use Rattle.archive_store.specs.Entries.{FilledArchive}
use Rattle.archive_store.specs.LateFills.{late_in_archive}
use Rattle.archive_store.specs.Stands.{StandsFilled, StandsFor}
use Rattle.archive_store.proofs.Exact.{filled_once}
use Rattle.command_plans.specs.Plan.{OfDisk, Choose, CommandPlan, EachEnd, May, Requires, Way}
use Rattle.command_plans.proofs.Plans.{each_end, end_of}
use Rattle.command_words.specs.Job.{Recover}
use Rattle.command_runs.specs.declared.report.Report.{Report}
use Rattle.command_runs.specs.Command.{ArchiveFound, DamageFound, HasEffects, NoneFound, OpeningResult, Progress, after_opening, archive_opened, opening_plan, printing_plan}
use Rattle.load_session.specs.During.{IsDuring, with_history}
use Rattle.command_runs.specs.Durable.{FailedAtMostOnce}
use Rattle.command_runs.specs.ArchiveWork.{known_of}
use Rattle.command_runs.specs.FillingPlan.{IsFullFor, IsRecordCount, after_filling, all_filled, fill_failed}
use Rattle.command_runs.specs.ReadOnly.{IsOpenedThen, IsReadAsBefore, IsReadOnly}
use Rattle.command_runs.specs.Report.{read_only, unopened}
use Rattle.command_runs.proofs.Openings.{plain_stands}
use Rattle.archive_commands.specs.Recover.{archive_with_fills, late_plan, recover_line, recover_plan, recovering_plan}
use Rattle.command_laws.specs.Calls.{Call, HasKeptRows, HasSameHistory, HeldArchive, IsRefusedBy, IsRun, IsUnopened, LeavesDisk, LeavesSinceOpening, Prints, PrintsSome, Succeeded, WasInterrupted, effects}
use Rattle.command_laws.specs.HandedBack.{IsHandedBack, IsUpToDate}
use Rattle.command_laws.specs.Recover.{IsRecovered}
use Rattle.command_laws.proofs.Left.{is_unopened, kept_back, none_contained, not_asked, opened_once, read_back, since_opening, sound_moments, untouched}
use Rattle.command_laws.proofs.Pages.{read_left}
use Rattle.command_laws.proofs.Runs.{IsEndOf, all_is_some, by_due, by_job, no_archive_silent, none_is_some, none_or_some, opening_due, or_disk_failed, or_no_memory, or_unwritten, succeeded}

-- a list between one and itself is that one
between : {X : Type 0} (xs front : List X) → IsPrefix xs front → IsPrefix front xs → front ≡ xs
between {X = X} xs front holds begins =
    let first = ap length holds.1 in let second = ap length begins.1 in
    let one = length-append xs holds.0 in let two = length-append front begins.0 in
    let none : length holds.0 ≡ 0 = omega (arith, first, second, one, two) in
    sym holds.1 ∙ ap (λ (t : List X). xs ++ t) (nil_from_length holds.0 none) ∙ append-nil xs

-- an image during a call that adds no row stands for the history handed in
during_same : (before : FilledArchive) (image : Image) → IsDuring before.plain before.plain.history [] image → StandsFor image before.plain
during_same before image d = elim d.within [
  | inl begins ↦ subst (λ (history : List Item). StandsFor image (with_history before.plain history)) (between before.plain.history d.history d.holds begins) d.stands
  | inr more ↦ absurd (none_contained more.0 more.1)
]

-- a log takes fills that it has places for
fits : (records late : ℕ) (is_full : Bool) → is_full ≡ nat_lt (limit_of Records) (records + late) → records + late ≤ limit_of Records → is_full ≡ false
fits records late true is few =
    let more : nat_lt (limit_of Records) (records + late) ≡ true = sym is in
    let passed : limit_of Records < records + late = grind (arith, nat_tests, more) in absurd (omega (arith, passed, few))
fits records late false is few = refl

-- fills so many intervals that are late, once their rows were read
abbrev filling_late : {D : Type 0} → Device D → D → FilledArchive → ℕ → CommandPlan Progress ⊥
filling_late device disk before late =
    May OfDisk (fill_failed before before.plain.history (archive_with_fills before))
    (Choose (IsFullFor (IsRecordCount device disk) late) (after_filling (archive_with_fills before) (printing_plan (all_filled before before.plain.history (archive_with_fills before)) (recover_line before))))

-- all but that an archive is filled
record IsLeft {D : Type 0} (device : Device D) (e : Call D) : Type 0 where
  history : e.report.opened ≡ true → HasSameHistory device e (device.reads e.disk')
  filled : Succeeded e → HeldArchive device e (λ before. IsUpToDate device e before before.plain.history × Prints e (recover_line before))
  printed : (before : FilledArchive) → StandsFilled (device.reads e.disk) before → PrintsSome e (recover_line before)
  moments : LeavesDisk device e ⊎ LeavesSinceOpening device e (HasSameHistory device e)
  since : e.report.opened ≡ true → LeavesSinceOpening device e (HasSameHistory device e)
  in_order : e.report.opened ≡ true → FailedAtMostOnce device e.disk e.disk' → HeldArchive device e (λ before. IsHandedBack device e before before.plain.history)
  untouched : e.report.opened ≡ false → LeavesDisk device e
  report : IsUnopened e ⊎ HasKeptRows device e

module _ {D : Type 0} (device : Device D) (e : Call D) (known : IsTrue device.is_transparent) where
  -- no archive was opened
  left_unopened : (refusal : Refusal) → e.report ≡ unopened (Some refusal) → Prints e [] → IsReadAsBefore device e.disk e.disk' → IsLeft device e
  left_unopened refusal report silent kept =
      let is : e.report.refusal ≡ Some refusal = ap (λ (r : Report). r.refusal) report in
      let closed : e.report.opened ≡ false = ap (λ (r : Report). r.opened) report in record {
        history = λ opened. opened_once e.report.opened opened closed;
        filled = λ none. none_or_some e.report.refusal refusal is none;
        printed = λ before stands. none_is_some e (recover_line before) silent;
        moments = inl (untouched device e kept);
        since = λ opened. opened_once e.report.opened opened closed;
        in_order = λ opened. opened_once e.report.opened opened closed;
        untouched = λ no. untouched device e kept;
        report = inl (is_unopened device e refusal report silent);
      }

  module _ (before : FilledArchive) (stands : StandsFilled (device.reads e.disk) before) where
    left_opened : (P : Image → Type 0) → ((c : Image) → P c → StandsFor c before.plain) → IsOpenedThen device e.disk e.disk' P → StandsFor (device.reads e.disk') before.plain → (refusal : Option Refusal)
        → e.report ≡ read_only refusal (length before.plain.history) → PrintsSome e (recover_line before) → (Succeeded e → IsUpToDate device e before before.plain.history × Prints e (recover_line before))
        → (FailedAtMostOnce device e.disk e.disk' → IsHandedBack device e before before.plain.history) → IsLeft device e
    left_opened P has opened_then back refusal report some filled in_order =
        let is : e.report.refusal ≡ refusal = ap (λ (r : Report). r.refusal) report in
        let is_open : e.report.opened ≡ true = ap (λ (r : Report). r.opened) report in
        let since = since_opening device e P (HasSameHistory device e) opened_then (λ (c : Image) (p : P c). (before, stands, has c p)) in record {
          history = λ opened. (before, stands, back);
          filled = λ none. (before, stands, filled none);
          printed = λ other there. subst (λ (f : FilledArchive). PrintsSome e (recover_line f)) (filled_once (device.reads e.disk) before other stands there) some;
          moments = inr since;
          since = λ opened. since;
          in_order = λ opened once. (before, stands, in_order once);
          untouched = λ no. opened_once e.report.opened is_open no;
          report = inr (before, stands, report ∙ ap (λ (r : Option Refusal). read_only r (length before.plain.history)) (sym is));
        }

    refused : (refusal : Refusal) → e.report ≡ read_only (Some refusal) (length before.plain.history) → Succeeded e → IsUpToDate device e before before.plain.history × Prints e (recover_line before)
    refused refusal report none = none_or_some e.report.refusal refusal (ap (λ (r : Report). r.refusal) report) none

  abbrev HasLeft : Way Progress ⊥ → Type 0
  HasLeft way = HasEffects device (effects e) way → IsLeft device e

  opening_left : (held : OpeningResult) → EachEnd HasLeft (after_opening 0 held)
  opening_left NoneFound = λ did. left_unopened NoArchive did.report did.printed (did.disk.1 known)
  opening_left (DamageFound file at) = λ did. left_unopened (Damaged file at) did.report did.printed (did.disk.1 known)
  opening_left (ArchiveFound filled) = tt

  module _ (before : FilledArchive) where
    silent : Prints e [] → PrintsSome e (recover_line before)
    silent none = none_is_some e (recover_line before) none

    -- nothing was late
    only_read : (refusal : Option Refusal) (only : IsReadOnly device e.disk e.disk' before) → e.report ≡ read_only refusal (length before.plain.history) → PrintsSome e (recover_line before)
        → (Succeeded e → IsUpToDate device e before before.plain.history × Prints e (recover_line before)) → IsLeft device e
    only_read refusal only report some filled = left_opened before only.stands (λ (c : Image). StandsFilled c before) (λ c s. plain_stands c before s) only.images
        (plain_stands (device.reads e.disk') before (subst (λ (i : Image). StandsFilled i before) (sym only.reads) only.stands)) refusal report some filled (λ once. read_back device e before only)

    none_late_left : length (late_in_archive before) ≡ zero → EachEnd HasLeft (late_plan (known_of device e.disk) before zero)
    none_late_left none = (
      λ did. let only = did.disk.1 known in only_read (Some OutOfMemory) only did.report (silent did.printed) (refused before only.stands OutOfMemory did.report),
      (
        λ did. let only = did.disk.1 known in only_read (Some WriteFault) only did.report did.printed (refused before only.stands WriteFault did.report),
        λ did. let only = did.disk.1 known in only_read None only did.report (all_is_some e (recover_line before) did.printed) (λ ok. (
          record { back = read_back device e before only; none_late = nil_from_length (late_in_archive before) none },
          did.printed,
        )),
      ),
    )

    abbrev During : Image → Type 0
    During = IsDuring before.plain before.plain.history []

    -- some intervals were late
    some_late_left : (late : ℕ) → EachEnd HasLeft (late_plan (known_of device e.disk) before (suc late))
    some_late_left late = (
      λ did. let x = did.disk.1 known in left_opened before x.stands During (during_same before) x.images (plain_stands (device.reads e.disk') _ x.kept.durable.reads)
          (Some OutOfMemory) did.report (silent did.printed) (refused before x.stands OutOfMemory did.report) (λ once. kept_back device e before before.plain.history x.kept),
      read_left HasLeft (IsTrue device.is_transparent) known (archive_with_fills before) (filling_late device e.disk before (suc late))
          (λ did. let x = did.disk.1 known in left_opened before x.stands During (during_same before) x.images (plain_stands (device.reads e.disk') _ x.kept.durable.reads)
          (Some DiskFault) did.report (silent did.printed) (refused before x.stands DiskFault did.report) (λ once. kept_back device e before before.plain.history x.kept)) (
            λ did. let x = did.disk.1 known in left_opened before x.stands During (during_same before) x.images x.durable.reads
                (Some DiskFault) did.report (silent did.printed) (refused before x.stands DiskFault did.report) (λ once. kept_back device e before before.plain.history (x.healed once)),
            λ is_full counted. go is_full,
          ),
    )
      where
        go : (is_full : Bool) → EachEnd HasLeft (after_filling (archive_with_fills before) (printing_plan (all_filled before before.plain.history (archive_with_fills before)) (recover_line before)) is_full)
        go false = (
          λ did. let x = did.disk.1 known in left_opened before x.extended.stands During (during_same before) x.extended.images (plain_stands (device.reads e.disk') _ x.extended.kept.durable.reads)
              (Some WriteFault) did.report did.printed (refused before x.extended.stands WriteFault did.report) (λ once. kept_back device e before before.plain.history x.extended.kept),
          λ did. let x = did.disk.1 known in left_opened before x.extended.stands During (during_same before) x.extended.images (plain_stands (device.reads e.disk') _ x.extended.kept.durable.reads)
              None did.report (all_is_some e (recover_line before) did.printed) (λ ok. (
                record { back = kept_back device e before before.plain.history x.extended.kept; none_late = x.none_late },
                did.printed,
              )) (λ once. kept_back device e before before.plain.history x.extended.kept),
        )
        go true = λ did. let x = did.disk.1 known in left_opened before x.stands During (during_same before) x.images (plain_stands (device.reads e.disk') _ x.kept.durable.reads)
            (Some (Limit Records (limit_of Records))) did.report (silent did.printed) (refused before x.stands (Limit Records (limit_of Records)) did.report) (λ once. kept_back device e before before.plain.history x.kept)

    recovering_left : (late : ℕ) → length (late_in_archive before) ≡ late → EachEnd HasLeft (late_plan (known_of device e.disk) before late)
    recovering_left zero none = none_late_left none
    recovering_left (suc late) some = some_late_left late

  each_left : EachEnd HasLeft (recover_plan device e.disk)
  each_left = (
    λ did. left_unopened OutOfMemory did.report did.printed (not_asked device e did.disk),
    each_end HasLeft (opening_plan 0 device e.disk) (recovering_plan (known_of device e.disk)) (
      λ did. left_unopened OutOfMemory did.report did.printed (did.disk.1 known),
      (λ did. left_unopened DiskFault did.report did.printed (did.disk.1 known), λ held h. opening_left held),
    )
        (λ before. recovering_left before (length (late_in_archive before)) refl),
  )

-- ---- what is due of an archive

module _ {D : Type 0} (device : Device D) (e : Call D) (known : IsTrue device.is_transparent) (before : FilledArchive) (bodies : List (List ℕ)) (stands : StandsFilled (device.reads e.disk) before)
    (has : HasRecords (device.reads e.disk 0) bodies) (few : length bodies + length (late_in_archive before) ≤ limit_of Records) (way : Way Progress ⊥) (at : IsEndOf device e way) where
  abbrev Due : Type 0
  Due = Succeeded e ⊎ WasInterrupted device e

  printing_due : (s : Progress) → Requires (printing_plan s (recover_line before)) way → Due
  printing_due s (inl is) = or_unwritten e way at (Succeeded e) _ is
  printing_due s (inr is) = succeeded e way at _ is

  counted : (records : ℕ) → IsRecordCount device e.disk records → records + length (late_in_archive before) ≤ limit_of Records
  counted records count =
      let of = count known in
      let same : records ≡ length bodies = of.2 ∙ ap (λ (b : List (List ℕ)). length b) (records_once (device.reads e.disk 0) of.0 bodies of.1 has) in omega (arith, same, few)

  filling_due : (late : ℕ) → length (late_in_archive before) ≡ suc late → Requires (filling_late device e.disk before (suc late)) way → Due
  filling_due late some (inl is) = or_disk_failed e way at (Succeeded e) _ is (λ never. cc (never))
  filling_due late some (inr chosen) =
      let s = all_filled before before.plain.history (archive_with_fills before) in
      let most = counted chosen.1.0 chosen.1.1 in
      printing_due s (subst (λ (b : Bool). Requires (after_filling (archive_with_fills before) (printing_plan s (recover_line before)) b) way) (fits chosen.1.0 (suc late) chosen.0 chosen.1.2 (omega (arith, most, some))) chosen.2)

  late_due : (late : ℕ) → length (late_in_archive before) ≡ late → Requires (late_plan (known_of device e.disk) before late) way → Due
  late_due zero none (inl is) = or_no_memory e way at (Succeeded e) _ is
  late_due zero none (inr required) = printing_due (archive_opened 0 before) required
  late_due (suc late) some (inl is) = or_no_memory e way at (Succeeded e) _ is
  late_due (suc late) some (inr (inl is)) = or_disk_failed e way at (Succeeded e) _ is (λ never. cc (never))
  late_due (suc late) some (inr (inr asked)) = filling_due late some (asked None tt)

  recovering_due : Requires (recover_plan device e.disk) way → Due
  recovering_due (inl is) = or_no_memory e way at (Succeeded e) _ is
  recovering_due (inr (inl is)) = or_no_memory e way at (Succeeded e) _ is
  recovering_due (inr (inr (inl is))) = or_disk_failed e way at (Succeeded e) _ is (λ never. cc (never))
  recovering_due (inr (inr (inr asked))) = late_due (length (late_in_archive before)) refl (asked (ArchiveFound before) (λ transparent. stands))

-- ---- the clause

module _ {D : Type 0} (device : Device D) (e : Call D) (files : Files) (clock : Option ℤ) (run : IsRun device e files clock Recover) where
  left : IsLeft device e
  left = by_job device e files clock Recover run (IsLeft device e)
      (λ did. left_unopened device e run.transparent OutOfMemory did.report did.printed (not_asked device e did.disk))
      (λ way allows end. end_of (HasLeft device e run.transparent) (recover_plan device e.disk) way (each_left device e run.transparent) allows end.did)

  pub recovered : IsRecovered device e
  recovered = record {
    history = left.history;
    filled = left.filled;
    printed = left.printed;
    crashes = λ all. sound_moments device e run.transparent (HasSameHistory device e) left.moments all;
    since = left.since;
    in_order = left.in_order;
    untouched = left.untouched;
    no_archive = λ refusal is. (
      by_due device e files clock Recover run (IsRefusedBy device e refusal) (λ cut. inr cut) (λ way required at. opening_due e way at 0 (recovering_plan (known_of device e.disk)) refusal is required),
      no_archive_silent device e refusal left.report is,
    );
    complete = λ before bodies stands has few. by_due device e files clock Recover run (Succeeded e ⊎ WasInterrupted device e) (λ cut. inr cut)
        (λ way required at. recovering_due device e run.transparent before bodies stands has few way at required);
    report = left.report;
  }
