-- The ends of the plan of `create`.
use Rattle.std.proofs.Common.{◌≡◌, ◌⊎◌, ◌∙◌, inl, inr, ℤ, ℕ, ◌+◌, List, [], Bool, true, false, Option, Some, None, refl, sym, ap, subst}
use Rattle.std.specs.Prelude.{IsTrue, Result, Ok, Err}
use Rattle.arch_disk.specs.Image.{Image}
use Rattle.arch_disk.specs.Disk.{Device, LeavesOnly}
use Rattle.arch_disk.proofs.Moments.{at_end, weakens}
use Rattle.disk_journal.specs.Calls.{BeginsOpen}
use Rattle.disk_journal.specs.Format.{HoldsNone}
use Rattle.mdb_items.specs.declared.sheet.RawMdb.{RawMdb}
use Rattle.mdb_sheets.specs.Plans.{sheets_plan}
use Rattle.refusals.specs.declared.refusal.Refusal.{Refusal}
use Rattle.refusals.specs.declared.refusal.Refusal.TheVariants.{DiskFault, Exists, OutOfMemory, WriteFault}
use Rattle.refusals.specs.declared.refusal.Which.TheVariants.{ScriptOctets, SheetOctets}
use Rattle.outer_traits.specs.Outside.{Files}
use Rattle.archive_store.specs.Head.{Head}
use Rattle.archive_store.specs.Calls.{IsCreateImage}
use Rattle.command_plans.specs.Plan.{CommandPlan, EachEnd, Requires, Way, and_then, map_done}
use Rattle.command_plans.proofs.Plans.{end_of}
use Rattle.command_words.specs.Job.{Create, CreateWords}
use Rattle.command_runs.specs.declared.report.Report.{Report}
use Rattle.command_runs.specs.Command.{HasEffects, Progress, nothing_done}
use Rattle.command_runs.specs.Creation.{IsMade, IsMakingFailed, IsStillNone, create_line}
use Rattle.command_runs.specs.Durable.{FailedAtMostOnce}
use Rattle.command_runs.specs.ReadOnly.{IsReadAsBefore}
use Rattle.command_runs.specs.Report.{read_only, unopened}
use Rattle.script_answers.specs.Scripts.{after_answer}
use Rattle.archive_commands.specs.Create.{HasArchiveAs, IsHeadAnswer, after_making, checking_plan, create_plan, head_inputs, named_inputs, named_script_plan, new_archive_plan, script_behind_plan}
use Rattle.archive_commands.proofs.ArchiveOrNone.{one-not-none}
use Rattle.archive_commands.proofs.CreatePlan.{one_head_answer}
use Rattle.command_laws.specs.Calls.{Call, IsRefusedBy, IsRun, IsUnopened, LeavesDisk, Prints, PrintsSome, Succeeded, WasInterrupted, effects}
use Rattle.command_laws.specs.Create.{GivesHead, IsCreated, IsMadeOf, IsNoneOrHead, create_files}
use Rattle.command_laws.specs.NamedFiles.{HasScript, HasSheets, IsFirstUnread, named_file}
use Rattle.command_laws.proofs.Files.{one_raw, one_script}
use Rattle.command_laws.proofs.Left.{is_unopened, not_asked, opened_once, untouched}
use Rattle.command_laws.proofs.OnlyUnread.{only_made}
use Rattle.command_laws.proofs.Readings.{IsUnread, each_read, each_sheets, read_due, read_or_not, sheets_due, sheets_unread, unread_due}
use Rattle.command_laws.proofs.Runs.{IsEndOf, all_is_some, by_due, by_job, none_is_some, none_or_some, or_disk_failed, or_no_memory, or_unwritten, refused, succeeded}
use Rattle.command_laws.proofs.Ways.{due_in_turn, each_in_turn}

-- all but what is due
record IsLeft {D : Type 0} (device : Device D) (e : Call D) (files : Files) (words : CreateWords) : Type 0 where
  made : Succeeded e → (head : Head) × GivesHead files words (Ok head) × IsMadeOf device e head × Prints e (create_line head)
  there : e.report.opened ≡ true → (head : Head) × GivesHead files words (Ok head) × IsMadeOf device e head
  printed : (head : Head) → GivesHead files words (Ok head) → PrintsSome e (create_line head)
  kept : BeginsOpen (device.reads e.disk 0) → LeavesDisk device e × Prints e []
  quiet : (refusal : Refusal) → IsFirstUnread files (create_files words) refusal → Prints e []
  silent : (refusal : Refusal) → GivesHead files words (Err refusal) → Prints e []
  images : ((image : Image) → device.images e.disk image → HoldsNone (image 0)) → LeavesOnly device e.disk e.disk' (IsNoneOrHead files words)
  in_order : e.report.opened ≡ false → HoldsNone (device.reads e.disk 0) → FailedAtMostOnce device e.disk e.disk' → (image : Image) → device.images e.disk' image
      → device.images e.disk image ⊎ HoldsNone (image 0)
  report : IsUnopened e ⊎ (e.report ≡ read_only e.report.refusal 0)

-- the sheets and the script give one head, or are refused in one way
one_head : (files : Files) (words : CreateWords) (a b : Result Head Refusal) → GivesHead files words a → GivesHead files words b → a ≡ b
one_head files words a b h k =
    one_head_answer h.raw h.text a b h.gives
    (subst (λ (t : List ℕ). IsHeadAnswer h.raw t b) (one_script files words.script k.text h.text k.script h.script)
    (subst (λ (r : RawMdb). IsHeadAnswer r k.text b) (one_raw files words.parameters words.calibrations words.containers k.raw h.raw k.sheets h.sheets) k.gives))

same_head : (a b : Head) → ◌≡◌ {A = Result Head Refusal} (Ok a) (Ok b) → a ≡ b
same_head a b is = cc (is)

not_both : (a : Head) (refusal : Refusal) → ◌≡◌ {A = Result Head Refusal} (Ok a) (Err refusal) → ⊥
not_both a refusal is = cc (is)

module _ {D : Type 0} (device : Device D) (e : Call D) (files : Files) (words : CreateWords) (known : IsTrue device.is_transparent) where
  abbrev Leaves : Way Progress ⊥ → Type 0
  Leaves way = HasEffects device (effects e) way → IsLeft device e files words

  abbrev AllNone : Type 0
  AllNone = (image : Image) → device.images e.disk image → HoldsNone (image 0)

  -- no archive was made, and a crash leaves what it is said to leave
  left_unmade : (refusal : Refusal) → e.report ≡ unopened (Some refusal) → Prints e [] → (BeginsOpen (device.reads e.disk 0) → IsReadAsBefore device e.disk e.disk')
      → (AllNone → LeavesOnly device e.disk e.disk' (IsNoneOrHead files words)) → (HoldsNone (device.reads e.disk 0) → FailedAtMostOnce device e.disk e.disk' → IsStillNone device e.disk e.disk')
      → IsLeft device e files words
  left_unmade refusal report silent kept images in_order = record {
    made = λ none. none_or_some e.report.refusal refusal (ap (λ (r : Report). r.refusal) report) none;
    there = λ opened. opened_once e.report.opened opened (ap (λ (r : Report). r.opened) report);
    printed = λ head gives. none_is_some e (create_line head) silent;
    kept = λ open_gate. (untouched device e (kept open_gate), silent);
    quiet = λ refused first. silent;
    silent = λ refused gives. silent;
    images = images;
    in_order = λ unmade. in_order;
    report = inl (is_unopened device e refusal report silent);
  }

  -- the disk is as it was
  left_untouched : (refusal : Refusal) → e.report ≡ unopened (Some refusal) → Prints e [] → IsReadAsBefore device e.disk e.disk' → IsLeft device e files words
  left_untouched refusal report silent kept = left_unmade refusal report silent (λ open_gate. kept)
      (λ none. weakens device e.disk e.disk' (device.images e.disk) (IsNoneOrHead files words) kept.images (λ c was. inl (none c was)))
      (λ none once c now. inl (at_end device e.disk e.disk' (device.images e.disk) kept.images c now))

  left_unread : (refusal : Refusal) → IsUnread e refusal → IsLeft device e files words
  left_unread refusal unread = left_untouched refusal unread.report unread.silent (not_asked device e unread.disk)

  module _ (head : Head) (gives : GivesHead files words (Ok head)) where
    none_or_head : AllNone → (c : Image) → IsCreateImage (device.images e.disk) head c → IsNoneOrHead files words c
    none_or_head none c (inl was) = inl (none c was)
    none_or_head none c (inr (inl none')) = inl none'
    none_or_head none c (inr (inr stands)) = inr (head, gives, stands)

    script_read : (name : Option (List ℕ)) (text : List ℕ) (refusal : Refusal) → HasScript files name text → IsFirstUnread files (named_file ScriptOctets name) refusal → ⊥
    script_read None text refusal has never = never
    script_read (Some name) text refusal has (inl unread) = read_or_not files ScriptOctets name text refusal has unread
    script_read (Some name) text refusal has (inr others) = others.2

    -- all files were read
    all_read : (refusal : Refusal) → IsFirstUnread files (create_files words) refusal → ⊥
    all_read refusal (inl one) = read_or_not files SheetOctets words.parameters gives.sheets.first.octets refusal gives.sheets.first.file one
    all_read refusal (inr (first, was, inl two)) = read_or_not files SheetOctets words.calibrations gives.sheets.second.octets refusal gives.sheets.second.file two
    all_read refusal (inr (first, was, inr (second, also, inl three))) = read_or_not files SheetOctets words.containers gives.sheets.third.octets refusal gives.sheets.third.file three
    all_read refusal (inr (first, was, inr (second, also, inr (third, too, others)))) = script_read words.script gives.text refusal gives.script others

    -- its making failed
    left_failed : e.report ≡ unopened (Some DiskFault) → Prints e [] → IsMakingFailed device e.disk e.disk' head → IsLeft device e files words
    left_failed report silent failed = left_unmade DiskFault report silent failed.kept
        (λ none. weakens device e.disk e.disk' (IsCreateImage (device.images e.disk) head) (IsNoneOrHead files words)
        (failed.images (none (device.reads e.disk) (device.reads_as_image e.disk known))) (none_or_head none)) failed.closed

    made_as : IsMade device e.disk e.disk' head → IsMadeOf device e head
    made_as made = record { none = made.none; reads = made.stands; images = λ c now. (made.now c now, made.sound c now) }

    -- it was made, and its line printed, or not to its end
    left_made : (refusal : Option Refusal) → e.report ≡ read_only refusal 0 → PrintsSome e (create_line head) → (Succeeded e → Prints e (create_line head)) → IsMade device e.disk e.disk' head
        → IsLeft device e files words
    left_made refusal report some all made = let is : e.report.refusal ≡ refusal = ap (λ (r : Report). r.refusal) report in let is_made : e.report.opened ≡ true = ap (λ (r : Report). r.opened) report in record {
      made = λ none. (head, gives, made_as made, all none);
      there = λ opened. (head, gives, made_as made);
      printed = λ other other_gives. subst (λ (h : Head). PrintsSome e (create_line h)) (same_head head other (one_head files words (Ok head) (Ok other) gives other_gives)) some;
      kept = λ open_gate. absurd (one-not-none (device.reads e.disk 0) open_gate.0 open_gate.1 made.none);
      quiet = λ refused first. absurd (all_read refused first);
      silent = λ refused refuses. absurd (not_both head refused (one_head files words (Ok head) (Err refused) gives refuses));
      images = λ none. weakens device e.disk e.disk' (IsCreateImage (device.images e.disk) head) (IsNoneOrHead files words) made.images (none_or_head none);
      in_order = λ unmade. opened_once e.report.opened is_made unmade;
      report = inr (report ∙ ap (λ (r : Option Refusal). read_only r 0) (sym is));
    }

    making_left : (there : Bool) → EachEnd Leaves (after_making (head_inputs words) head there)
    making_left true = λ did. left_untouched Exists did.report did.printed (did.disk.1 known)
    making_left false = (
      λ did. left_made (Some WriteFault) did.report did.printed (λ none. none_or_some e.report.refusal WriteFault (ap (λ (r : Report). r.refusal) did.report) none) (did.disk.1 known),
      λ did. left_made None did.report (all_is_some e (create_line head) did.printed) (λ none. did.printed) (did.disk.1 known),
    )

    archive_left : EachEnd Leaves (new_archive_plan (head_inputs words) device e.disk head)
    archive_left = (
      λ did. left_untouched OutOfMemory did.report did.printed (not_asked device e did.disk),
      (λ did. left_failed did.report did.printed (did.disk.1 known), λ there h. making_left there),
    )

  -- ---- the head

  abbrev making : Head → CommandPlan Progress ⊥
  making = new_archive_plan (head_inputs words) device e.disk

  abbrev checking : RawMdb → List ℕ → CommandPlan Progress ⊥
  checking raw text = and_then (map_done nothing_done (checking_plan (3 + named_inputs words.script) raw text)) making

  abbrev behind_sheets : RawMdb → CommandPlan Progress ⊥
  behind_sheets raw = and_then (map_done nothing_done (script_behind_plan (Some files) words.script 3 raw)) making

  abbrev three : CommandPlan ℕ RawMdb
  three = sheets_plan (Some files) words.parameters words.calibrations words.containers 0

  module _ (raw : RawMdb) (text : List ℕ) (sheets : HasSheets files words.parameters words.calibrations words.containers raw) (script : HasScript files words.script text) where
    answer_left : (answer : Result Head Refusal) → IsHeadAnswer raw text answer
        → EachEnd Leaves (and_then (map_done nothing_done (after_answer (3 + named_inputs words.script) answer)) making)
    answer_left (Ok head) gives = archive_left head (record { raw = raw; text = text; sheets = sheets; script = script; gives = gives })
    answer_left (Err refusal) gives = λ did. left_untouched refusal did.report did.printed (not_asked device e did.disk)

    checking_left : EachEnd Leaves (checking raw text)
    checking_left = (λ did. left_untouched OutOfMemory did.report did.printed (not_asked device e did.disk), λ answer gives. answer_left answer gives)

  script_left : (name : Option (List ℕ)) (next : List ℕ → CommandPlan Progress ⊥) → ((text : List ℕ) → HasScript files name text → EachEnd Leaves (next text))
      → EachEnd Leaves (and_then (map_done nothing_done (named_script_plan (Some files) name 3)) next)
  script_left None next then_on = then_on [] refl
  script_left (Some name) next then_on =
      each_read device e (IsLeft device e files words) files ScriptOctets (λ octets. octets) name 3 next (λ refusal unread cause. left_unread refusal unread) (λ octets file. then_on octets file)

  each_left : EachEnd Leaves (create_plan device e.disk (Some files) words)
  each_left = each_in_turn nothing_done Leaves three (script_behind_plan (Some files) words.script 3) making
      (each_sheets device e (IsLeft device e files words) files words.parameters words.calibrations words.containers 0 behind_sheets (λ refusal unread other. left_unread refusal unread)
      (λ raw sheets. each_in_turn nothing_done Leaves (named_script_plan (Some files) words.script 3) (checking_plan (3 + named_inputs words.script) raw) making
      (script_left words.script (checking raw) (λ text script. checking_left raw text sheets script))))

  -- ---- what is due

  module _ (way : Way Progress ⊥) (at : IsEndOf device e way) where
    script_due : (name : Option (List ℕ)) (next : List ℕ → CommandPlan Progress ⊥) (text : List ℕ) → HasScript files name text
        → Requires (and_then (map_done nothing_done (named_script_plan (Some files) name 3)) next) way → Requires (next text) way ⊎ WasInterrupted device e
    script_due None next text has required = inl (subst (λ (t : List ℕ). Requires (next t) way) (sym has) required)
    script_due (Some name) next text has required = read_due e files way at nothing_done ScriptOctets (λ octets. octets) name 3 next text has required

    abbrev Answered : Result Head Refusal → Type 0
    Answered answer = Requires (and_then (map_done nothing_done (after_answer (3 + named_inputs words.script) answer)) making) way

    checked_due : (answer : Result Head Refusal) (raw : RawMdb) (text : List ℕ) → IsHeadAnswer raw text answer → Requires (checking raw text) way → Answered answer ⊎ WasInterrupted device e
    checked_due answer raw text gives (inl cut) = or_no_memory e way at (Answered answer) _ cut
    checked_due answer raw text gives (inr asked) = inl (asked answer gives)

    head_due : (answer : Result Head Refusal) → GivesHead files words answer → Requires (create_plan device e.disk (Some files) words) way → Answered answer ⊎ WasInterrupted device e
    head_due answer gives required = elim (sheets_due e files way at words.parameters words.calibrations words.containers 0 behind_sheets gives.raw gives.sheets
        (due_in_turn nothing_done three (script_behind_plan (Some files) words.script 3) making way required)) [
          | inl behind ↦ elim (script_due words.script (checking gives.raw) gives.text gives.script
              (due_in_turn nothing_done (named_script_plan (Some files) words.script 3) (checking_plan (3 + named_inputs words.script) gives.raw) making way behind)) [
                | inl checks ↦ checked_due answer gives.raw gives.text gives.gives checks
                | inr cut ↦ inr cut
              ]
          | inr cut ↦ inr cut
        ]

    script_unread : (name : Option (List ℕ)) (next : List ℕ → CommandPlan Progress ⊥) (refusal : Refusal) → IsFirstUnread files (named_file ScriptOctets name) refusal
        → Requires (and_then (map_done nothing_done (named_script_plan (Some files) name 3)) next) way → IsRefusedBy device e refusal
    script_unread None next refusal never required = absurd never
    script_unread (Some name) next refusal (inl unread) required = unread_due e files way at nothing_done ScriptOctets (λ octets. octets) name 3 next refusal unread required
    script_unread (Some name) next refusal (inr others) required = absurd others.2

    unread_files_due : (refusal : Refusal) → IsFirstUnread files (create_files words) refusal → Requires (create_plan device e.disk (Some files) words) way → IsRefusedBy device e refusal
    unread_files_due refusal first required = go (sheets_unread e files way at words.parameters words.calibrations words.containers 0 behind_sheets (named_file ScriptOctets words.script) refusal behind first)
      where
        behind : Requires (and_then (map_done nothing_done three) behind_sheets) way
        behind = due_in_turn nothing_done three (script_behind_plan (Some files) words.script 3) making way required

        go : IsRefusedBy device e refusal ⊎ ((raw : RawMdb) × HasSheets files words.parameters words.calibrations words.containers raw × IsFirstUnread files (named_file ScriptOctets words.script) refusal)
            → IsRefusedBy device e refusal
        go (inl refused) = refused
        go (inr (raw, sheets, others)) = elim (sheets_due e files way at words.parameters words.calibrations words.containers 0 behind_sheets raw sheets behind) [
          | inl read ↦ script_unread words.script (checking raw) refusal others
              (due_in_turn nothing_done (named_script_plan (Some files) words.script 3) (checking_plan (3 + named_inputs words.script) raw) making way read)
          | inr cut ↦ inr cut
        ]

    refused_due : (refusal : Refusal) → GivesHead files words (Err refusal) → Requires (create_plan device e.disk (Some files) words) way → IsRefusedBy device e refusal
    refused_due refusal gives required = elim (head_due (Err refusal) gives required) [
      | inl answered ↦ refused e way at _ refusal answered
      | inr cut ↦ inr cut
    ]

    module _ (head : Head) (gives : GivesHead files words (Ok head)) where
      abbrev Making : Bool → Type 0
      Making there = Requires (after_making (head_inputs words) head there) way

      seeking_due : (there : Bool) → HasArchiveAs (device.reads e.disk) there → Requires (making head) way → Making there ⊎ WasInterrupted device e
      seeking_due there holds (inl cut) = or_no_memory e way at (Making there) _ cut
      seeking_due there holds (inr (inl cut)) = or_disk_failed e way at (Making there) _ cut (λ never. cc (never))
      seeking_due there holds (inr (inr asked)) = inl (asked there (λ transparent. holds))

      archive_due : (there : Bool) → HasArchiveAs (device.reads e.disk) there → Requires (create_plan device e.disk (Some files) words) way → Making there ⊎ WasInterrupted device e
      archive_due there holds required = elim (head_due (Ok head) gives required) [
        | inl making' ↦ seeking_due there holds making'
        | inr cut ↦ inr cut
      ]

      exists_due : BeginsOpen (device.reads e.disk 0) → Requires (create_plan device e.disk (Some files) words) way → IsRefusedBy device e Exists
      exists_due open_gate required = elim (archive_due true open_gate required) [
        | inl is ↦ refused e way at _ Exists is
        | inr cut ↦ inr cut
      ]

      printing_due : Making false → Succeeded e ⊎ WasInterrupted device e
      printing_due (inl cut) = or_unwritten e way at (Succeeded e) _ cut
      printing_due (inr is) = succeeded e way at _ is

      complete_due : HoldsNone (device.reads e.disk 0) → Requires (create_plan device e.disk (Some files) words) way → Succeeded e ⊎ WasInterrupted device e
      complete_due none required = elim (archive_due false none required) [
        | inl made ↦ printing_due made
        | inr cut ↦ inr cut
      ]

-- ---- the clause

module _ {D : Type 0} (device : Device D) (e : Call D) (files : Files) (clock : Option ℤ) (words : CreateWords) (run : IsRun device e files clock (Create words)) where
  left : IsLeft device e files words
  left = by_job device e files clock (Create words) run (IsLeft device e files words)
      (λ did. left_untouched device e files words run.transparent OutOfMemory did.report did.printed (not_asked device e did.disk))
      (λ way allows end. end_of (Leaves device e files words run.transparent) (create_plan device e.disk (Some files) words) way (each_left device e files words run.transparent) allows end.did)

  due : (P : Type 0) → (WasInterrupted device e → P) → ((way : Way Progress ⊥) → IsEndOf device e way → Requires (create_plan device e.disk (Some files) words) way → P) → P
  due P cut go = by_due device e files clock (Create words) run P cut (λ way required at. go way at required)

  pub created : IsCreated device e files words
  created = record {
    made = left.made;
    there = left.there;
    printed = left.printed;
    kept = λ open_gate. (left.kept open_gate).0;
    exists = λ head gives open_gate. (
      due (IsRefusedBy device e Exists) (λ cut. inr cut) (λ way at required. exists_due device e files words run.transparent way at head gives open_gate required),
      (left.kept open_gate).1,
    );
    unread = λ refusal first. (
      due (IsRefusedBy device e refusal) (λ cut. inr cut) (λ way at required. unread_files_due device e files words run.transparent way at refusal first required),
      left.quiet refusal first,
    );
    only_unread = only_made device e files words clock run;
    refused = λ refusal gives. (
      due (IsRefusedBy device e refusal) (λ cut. inr cut) (λ way at required. refused_due device e files words run.transparent way at refusal gives required),
      left.silent refusal gives,
    );
    images = left.images;
    in_order = left.in_order;
    complete = λ head gives none. due (Succeeded e ⊎ WasInterrupted device e) (λ cut. inr cut)
        (λ way at required. complete_due device e files words run.transparent way at head gives none required);
    report = left.report;
  }
