-- The ends of the plan of `query --ask`.
use Rattle.std.proofs.Common.{◌≡◌, ◌⊎◌, ◌∙◌, inl, inr, ℤ, ℕ, List, [], length, Option, Some, None, refl, sym, ap, subst}
use Rattle.std.specs.Prelude.{IsTrue, Result, Ok, Err}
use Rattle.arch_disk.specs.Disk.{Device}
use Rattle.asks.specs.declared.ask.Ask.{Ask}
use Rattle.refusals.specs.declared.refusal.Refusal.{Refusal}
use Rattle.refusals.specs.declared.refusal.Refusal.TheVariants.{Damaged, DiskFault, NoArchive, OutOfMemory, WriteFault}
use Rattle.refusals.specs.declared.refusal.Which.TheVariants.{SheetOctets}
use Rattle.outer_traits.specs.Outside.{Files}
use Rattle.mdb_sheets.specs.Asks.{asks_of}
use Rattle.archive_store.specs.Entries.{FilledArchive}
use Rattle.archive_store.specs.Stands.{StandsFilled}
use Rattle.archive_store.proofs.Exact.{filled_once}
use Rattle.command_plans.specs.Plan.{CommandPlan, EachEnd, Requires, Way, and_then, map_done, way_map_done}
use Rattle.command_plans.proofs.Plans.{each_end, end_of}
use Rattle.command_words.specs.Job.{Query}
use Rattle.command_runs.specs.declared.report.Report.{Report}
use Rattle.command_runs.specs.Command.{nothing_done, ArchiveFound, DamageFound, HasEffects, NoneFound, OpeningResult, Progress, after_opening, archive_opened, opening_plan, printing_plan}
use Rattle.command_runs.specs.ReadOnly.{IsReadAsBefore, IsReadOnly}
use Rattle.command_runs.specs.Reading.{OnPages, printing_read_plan}
use Rattle.command_runs.specs.Report.{read_only, unopened}
use Rattle.ask_answers.specs.Asks.{after_asks_check, archive_asks_refusal, archive_asks_text, with_sources}
use Rattle.query_commands.specs.Query.{answering_plan, answers_plan, archive_asks_plan, query_plan}
use Rattle.command_laws.specs.Answers.{sheet_refusal}
use Rattle.command_laws.specs.Calls.{Call, HeldArchive, IsNoArchive, IsRefusedBy, IsRun, LeavesAll, Prints, PrintsSome, Succeeded, WasInterrupted, effects}
use Rattle.command_laws.specs.NamedFiles.{HasAsksSheet, IsUnreadFor}
use Rattle.command_laws.specs.Query.{AreAsksAnswered}
use Rattle.command_laws.proofs.Files.{one_asks_sheet, same_asks}
use Rattle.command_laws.proofs.Left.{all_opened, all_unopened, not_asked}
use Rattle.command_laws.proofs.OnlyUnread.{of_one, only_asked}
use Rattle.command_laws.proofs.OverRows.{asks_over_rows}
use Rattle.command_laws.proofs.Pages.{printed_left}
use Rattle.command_laws.proofs.Readings.{IsUnread, each_read, read_due, read_or_not, unread_due}
use Rattle.command_laws.proofs.Runs.{IsEndOf, all_is_some, by_due, by_job, no_archive_due, no_archive_silent, no_memory, none_is_some, none_or_some, or_disk_failed, or_no_memory, or_unwritten, refused, succeeded}
use Rattle.command_laws.proofs.Ways.{each_map_done}

-- all but what is due
record IsLeft {D : Type 0} (device : Device D) (e : Call D) (files : Files) (name : List ℕ) : Type 0 where
  left : LeavesAll device e
  whole : Succeeded e → HeldArchive device e (λ filled. (asks : List Ask) × HasAsksSheet files name (Ok asks) × (archive_asks_refusal filled.plain asks ≡ None) × Prints e (archive_asks_text filled 1 asks))
  printed : (filled : FilledArchive) (asks : List Ask) → StandsFilled (device.reads e.disk) filled → HasAsksSheet files name (Ok asks) → PrintsSome e (archive_asks_text filled 1 asks)
  quiet : (refusal : Refusal) → IsUnreadFor files SheetOctets name refusal → Prints e []
  silent : (filled : FilledArchive) (sheet : Result (List Ask) Refusal) (refusal : Refusal) → StandsFilled (device.reads e.disk) filled → HasAsksSheet files name sheet
      → sheet_refusal filled.plain sheet ≡ Some refusal → Prints e []

none_refused : (r : Option Refusal) (refusal : Refusal) → r ≡ None → r ≡ Some refusal → ⊥
none_refused r refusal none some = let never : ◌≡◌ {A = Option Refusal} None (Some refusal) = sym none ∙ some in cc (never)

module _ {D : Type 0} (device : Device D) (e : Call D) (files : Files) (name : List ℕ) (known : IsTrue device.is_transparent) where
  abbrev Leaves : Way Progress ⊥ → Type 0
  Leaves way = HasEffects device (effects e) way → IsLeft device e files name

  abbrev Tells : Type 0
  Tells = IsTrue device.is_transparent

  -- no archive was opened
  left_unopened : (refusal : Refusal) → e.report ≡ unopened (Some refusal) → Prints e [] → IsReadAsBefore device e.disk e.disk' → IsLeft device e files name
  left_unopened refusal report silent kept = record {
    left = all_unopened device e refusal report silent kept;
    whole = λ none. none_or_some e.report.refusal refusal (ap (λ (r : Report). r.refusal) report) none;
    printed = λ filled asks stands has. none_is_some e (archive_asks_text filled 1 asks) silent;
    quiet = λ refused unread. silent;
    silent = λ filled sheet refused stands has is. silent;
  }

  left_unread : (refusal : Refusal) → IsUnread e refusal → IsLeft device e files name
  left_unread refusal unread = left_unopened refusal unread.report unread.silent (not_asked device e unread.disk)

  module _ (filled : FilledArchive) (only : IsReadOnly device e.disk e.disk' filled) where
    -- one was, and nothing was printed
    left_silent : (refusal : Refusal) → e.report ≡ read_only (Some refusal) (length filled.plain.history) → Prints e [] → IsLeft device e files name
    left_silent refusal report silent = record {
      left = all_opened device e filled only (Some refusal) report;
      whole = λ none. none_or_some e.report.refusal refusal (ap (λ (r : Report). r.refusal) report) none;
      printed = λ other asks stands has. none_is_some e (archive_asks_text other 1 asks) silent;
      quiet = λ refused unread. silent;
      silent = λ other sheet refused stands has is. silent;
    }

    -- or some of the answers were, or all
    left_printed : (asks : List Ask) → HasAsksSheet files name (Ok asks) → archive_asks_refusal filled.plain asks ≡ None → (refusal : Option Refusal)
        → e.report ≡ read_only refusal (length filled.plain.history) → PrintsSome e (archive_asks_text filled 1 asks) → (Succeeded e → Prints e (archive_asks_text filled 1 asks)) → IsLeft device e files name
    left_printed asks has answerable refusal report some whole = record {
      left = all_opened device e filled only refusal report;
      whole = λ none. (filled, only.stands, (asks, has, answerable, whole none));
      printed = λ other there stands is. subst (λ (f : FilledArchive). PrintsSome e (archive_asks_text f 1 there)) (filled_once (device.reads e.disk) filled other only.stands stands)
          (subst (λ (a : List Ask). PrintsSome e (archive_asks_text filled 1 a)) (same_asks asks there (one_asks_sheet files name (Ok asks) (Ok there) has is)) some);
      quiet = λ refused unread. absurd (read_or_not files SheetOctets name has.octets refused has.file unread);
      silent = λ other sheet refused stands is named. absurd (none_refused (sheet_refusal filled.plain (Ok asks)) refused answerable
          (ap (λ (s : Result (List Ask) Refusal). sheet_refusal filled.plain s) (one_asks_sheet files name (Ok asks) sheet has is)
          ∙ ap (λ (f : FilledArchive). sheet_refusal f.plain sheet) (filled_once (device.reads e.disk) filled other only.stands stands) ∙ named));
    }

  refused_whole : {Q : Type 0} (filled : FilledArchive) (refusal : Refusal) → e.report ≡ read_only (Some refusal) (length filled.plain.history) → Succeeded e → Q
  refused_whole filled refusal report ok = none_or_some e.report.refusal refusal (ap (λ (r : Report). r.refusal) report) ok

  -- ---- ends

  opening_left : (held : OpeningResult) → EachEnd (λ way. Leaves (way_map_done (with_sources 1) way)) (after_opening 0 held)
  opening_left NoneFound = λ did. left_unopened NoArchive did.report did.printed (did.disk.1 known)
  opening_left (DamageFound file at) = λ did. left_unopened (Damaged file at) did.report did.printed (did.disk.1 known)
  opening_left (ArchiveFound filled) = tt

  answers_left : (asks : List Ask) → HasAsksSheet files name (Ok asks) → (filled : FilledArchive) → archive_asks_refusal filled.plain asks ≡ None
      → EachEnd (λ way. Leaves (way_map_done (with_sources 1) way)) (answers_plan Tells filled asks)
  answers_left asks has filled answerable =
      printed_left (λ way. Leaves (way_map_done (with_sources 1) way)) Tells known (archive_opened 0 filled) (archive_asks_text filled 1 asks)
      (λ did. left_printed filled (did.disk.1 known) asks has answerable (Some OutOfMemory) did.report did.printed (refused_whole filled OutOfMemory did.report))
      (λ did. left_printed filled (did.disk.1 known) asks has answerable (Some DiskFault) did.report did.printed (refused_whole filled DiskFault did.report))
      (λ did. left_printed filled (did.disk.1 known) asks has answerable (Some WriteFault) did.report did.printed (refused_whole filled WriteFault did.report))
      (λ did. left_printed filled (did.disk.1 known) asks has answerable None did.report (all_is_some e (archive_asks_text filled 1 asks) did.printed) (λ ok. did.printed))

  checked_left : (asks : List Ask) → HasAsksSheet files name (Ok asks) → (filled : FilledArchive) (found : Option Refusal) → found ≡ archive_asks_refusal filled.plain asks
      → EachEnd (λ way. Leaves (way_map_done (with_sources 1) way)) (and_then (after_asks_check (archive_opened 0 filled) asks found) (answers_plan Tells filled))
  checked_left asks has filled None is = answers_left asks has filled (sym is)
  checked_left asks has filled (Some refusal) is = λ did. left_silent filled (did.disk.1 known) refusal did.report did.printed

  answering_left : (sheet : Result (List Ask) Refusal) → HasAsksSheet files name sheet → (filled : FilledArchive) → EachEnd (λ way. Leaves (way_map_done (with_sources 1) way)) (answering_plan Tells sheet filled)
  answering_left (Err refusal) has filled = λ did. left_silent filled (did.disk.1 known) refusal did.report did.printed
  answering_left (Ok asks) has filled = (λ did. left_silent filled (did.disk.1 known) OutOfMemory did.report did.printed, λ found is. checked_left asks has filled found is)

  archive_left : (sheet : Result (List Ask) Refusal) → HasAsksSheet files name sheet → EachEnd (λ way. Leaves (way_map_done (with_sources 1) way)) (archive_asks_plan device e.disk sheet)
  archive_left sheet has = (
    λ did. left_unopened OutOfMemory did.report did.printed (not_asked device e did.disk),
    each_end (λ way. Leaves (way_map_done (with_sources 1) way)) (opening_plan 0 device e.disk) (answering_plan Tells sheet) (
      λ did. left_unopened OutOfMemory did.report did.printed (did.disk.1 known),
      (λ did. left_unopened DiskFault did.report did.printed (did.disk.1 known), λ held h. opening_left held),
    ) (λ filled. answering_left sheet has filled),
  )

  abbrev behind_sheet : Result (List Ask) Refusal → CommandPlan Progress ⊥
  behind_sheet sheet = map_done (with_sources 1) (archive_asks_plan device e.disk sheet)

  each_left : EachEnd Leaves (query_plan device e.disk (Some files) name)
  each_left = each_read device e (IsLeft device e files name) files SheetOctets (λ octets. asks_of octets) name 0 behind_sheet (λ refusal unread cause. left_unread refusal unread)
      (λ octets file. each_map_done (with_sources 1) Leaves (archive_asks_plan device e.disk (asks_of octets)) (archive_left (asks_of octets) (record { octets = octets; file = file; sheet_is = refl })))

  -- ---- what is due

  absent_due : (way : Way Progress ⊥) (at : IsEndOf device e way) (sheet : Result (List Ask) Refusal) (refusal : Refusal) → HasAsksSheet files name sheet → IsNoArchive device e refusal
      → Requires (query_plan device e.disk (Some files) name) way → IsRefusedBy device e refusal
  absent_due way at sheet refusal has is required = elim (read_due e files way at nothing_done SheetOctets (λ octets. asks_of octets) name 0 behind_sheet has.octets has.file required) [
    | inl read ↦ go (subst (λ (s : Result (List Ask) Refusal). Requires (behind_sheet s) way) (sym has.sheet_is) read)
    | inr cut ↦ inr cut
  ]
    where
      go : Requires (behind_sheet sheet) way → IsRefusedBy device e refusal
      go (inl cut) = inr (no_memory e way at _ cut)
      go (inr d) = no_archive_due e way at (with_sources 1) (λ s. refl) 0 (answering_plan Tells sheet) refusal is d

  module _ (way : Way Progress ⊥) (at : IsEndOf device e way) (filled : FilledArchive) (stands : StandsFilled (device.reads e.disk) filled) where
    abbrev Answering : Result (List Ask) Refusal → Type 0
    Answering sheet = Requires (map_done (with_sources 1) (answering_plan Tells sheet filled)) way

    archive_due : (sheet : Result (List Ask) Refusal) → Requires (behind_sheet sheet) way → Answering sheet ⊎ WasInterrupted device e
    archive_due sheet (inl is) = or_no_memory e way at (Answering sheet) _ is
    archive_due sheet (inr (inl is)) = or_no_memory e way at (Answering sheet) _ is
    archive_due sheet (inr (inr (inl is))) = or_disk_failed e way at (Answering sheet) _ is (λ never. cc (never))
    archive_due sheet (inr (inr (inr asked))) = inl (asked (ArchiveFound filled) (λ transparent. stands))

    sheet_due : (sheet : Result (List Ask) Refusal) → HasAsksSheet files name sheet → Requires (query_plan device e.disk (Some files) name) way → Answering sheet ⊎ WasInterrupted device e
    sheet_due sheet has required = elim (read_due e files way at nothing_done SheetOctets (λ octets. asks_of octets) name 0 behind_sheet has.octets has.file required) [
      | inl read ↦ archive_due sheet (subst (λ (s : Result (List Ask) Refusal). Requires (behind_sheet s) way) (sym has.sheet_is) read)
      | inr cut ↦ inr cut
    ]

    answers_due : (asks : List Ask) → archive_asks_refusal filled.plain asks ≡ None → Answering (Ok asks) → Succeeded e ⊎ WasInterrupted device e
    answers_due asks answerable (inl is) = or_no_memory e way at (Succeeded e) _ is
    answers_due asks answerable (inr found) = read (found None (sym answerable) (archive_asks_text filled 1 asks) (λ tells. refl))
      where
        written : Requires (map_done (with_sources 1) (printing_plan (archive_opened 0 filled) (archive_asks_text filled 1 asks))) way → Succeeded e ⊎ WasInterrupted device e
        written (inl is) = or_unwritten e way at (Succeeded e) _ is
        written (inr is) = succeeded e way at _ is

        read : Requires (map_done (with_sources 1) (printing_read_plan (OnPages Tells) (archive_opened 0 filled) (archive_asks_text filled 1 asks))) way → Succeeded e ⊎ WasInterrupted device e
        read (inl is) = or_no_memory e way at (Succeeded e) _ is
        read (inr (inl is)) = or_disk_failed e way at (Succeeded e) _ is (λ never. cc (never))
        read (inr (inr asked)) = written (asked None tt)

    complete_due : (asks : List Ask) → HasAsksSheet files name (Ok asks) → archive_asks_refusal filled.plain asks ≡ None → Requires (query_plan device e.disk (Some files) name) way
        → Succeeded e ⊎ WasInterrupted device e
    complete_due asks has answerable required = elim (sheet_due (Ok asks) has required) [
      | inl answering ↦ answers_due asks answerable answering
      | inr cut ↦ inr cut
    ]

    refusing_due : (sheet : Result (List Ask) Refusal) (refusal : Refusal) → sheet_refusal filled.plain sheet ≡ Some refusal → Answering sheet → IsRefusedBy device e refusal
    refusing_due (Err own) refusal is required =
        let same : own ≡ refusal = cc (is) in subst (IsRefusedBy device e) same (refused e way at _ own required)
    refusing_due (Ok asks) refusal is (inl cut) = or_no_memory e way at (e.report.refusal ≡ Some refusal) _ cut
    refusing_due (Ok asks) refusal is (inr found) = refused e way at _ refusal (found (Some refusal) (sym is))

    refused_due : (sheet : Result (List Ask) Refusal) (refusal : Refusal) → HasAsksSheet files name sheet → sheet_refusal filled.plain sheet ≡ Some refusal
        → Requires (query_plan device e.disk (Some files) name) way → IsRefusedBy device e refusal
    refused_due sheet refusal has is required = elim (sheet_due sheet has required) [
      | inl answering ↦ refusing_due sheet refusal is answering
      | inr cut ↦ inr cut
    ]

-- ---- the clause

module _ {D : Type 0} (device : Device D) (e : Call D) (files : Files) (clock : Option ℤ) (name : List ℕ) (run : IsRun device e files clock (Query name)) where
  left : IsLeft device e files name
  left = by_job device e files clock (Query name) run (IsLeft device e files name)
      (λ did. left_unopened device e files name run.transparent OutOfMemory did.report did.printed (not_asked device e did.disk))
      (λ way allows end. end_of (Leaves device e files name run.transparent) (query_plan device e.disk (Some files) name) way (each_left device e files name run.transparent) allows end.did)

  pub queried : AreAsksAnswered device e files name
  queried = record {
    left = left.left;
    whole = left.whole;
    printed = left.printed;
    over_rows = λ filled asks stands sound. asks_over_rows filled.plain.head filled.plain.exponent filled.plain.history filled.fillings (sound filled stands) 1 asks;
    unread = λ refusal unread. (
      by_due device e files clock (Query name) run (IsRefusedBy device e refusal) (λ cut. inr cut)
          (λ way required at. unread_due e files way at nothing_done SheetOctets (λ octets. asks_of octets) name 0 (behind_sheet device e files name run.transparent) refusal unread required),
      left.quiet refusal unread,
    );
    only_unread = λ refusal said reading. of_one files SheetOctets name refusal (only_asked device e files name clock run refusal said reading);
    no_archive = λ sheet refusal has is. (
      by_due device e files clock (Query name) run (IsRefusedBy device e refusal) (λ cut. inr cut)
          (λ way required at. absent_due device e files name run.transparent way at sheet refusal has is required),
      no_archive_silent device e refusal left.left.report is,
    );
    refused = λ filled sheet refusal stands has is. (
      by_due device e files clock (Query name) run (IsRefusedBy device e refusal) (λ cut. inr cut)
          (λ way required at. refused_due device e files name run.transparent way at filled stands sheet refusal has is required),
      left.silent filled sheet refusal stands has is,
    );
    complete = λ filled asks stands has answerable. by_due device e files clock (Query name) run (Succeeded e ⊎ WasInterrupted device e) (λ cut. inr cut)
        (λ way required at. complete_due device e files name run.transparent way at filled stands asks has answerable required);
  }
