-- The ends of the plan of `query --sql`.
use Rattle.std.proofs.Common.{◌≡◌, ◌⊎◌, inl, inr, ℤ, ℕ, List, [], length, Option, Some, None, refl, sym, ap, subst}
use Rattle.std.specs.Prelude.{IsTrue, Result, Ok, Err}
use Rattle.arch_disk.specs.Disk.{Device}
use Rattle.refusals.specs.declared.refusal.Refusal.{Refusal}
use Rattle.refusals.specs.declared.refusal.Refusal.TheVariants.{Damaged, DiskFault, NoArchive, OutOfMemory, WriteFault}
use Rattle.refusals.specs.declared.refusal.Which.TheVariants.{ScriptOctets}
use Rattle.outer_traits.specs.Outside.{Files}
use Rattle.archive_store.specs.Entries.{FilledArchive}
use Rattle.archive_store.specs.Stands.{StandsFilled}
use Rattle.archive_store.proofs.Exact.{filled_once}
use Rattle.ssql_types.specs.declared.place.ScriptPlace.TheVariants as ScriptPlace
use Rattle.ssql_types.specs.declared.statement.TypedStatement.{TypedStatement}
use Rattle.script_answers.specs.Scripts.{IsScriptAnswer, after_answer}
use Rattle.script_answers.specs.Statements.{packet_names, statements_text}
use Rattle.script_answers.proofs.ScriptAnswers.{one_script_answer}
use Rattle.command_plans.specs.Plan.{EachEnd, Requires, Way, and_then}
use Rattle.command_plans.proofs.Plans.{each_end, end_of}
use Rattle.command_words.specs.Job.{Sql}
use Rattle.command_runs.specs.declared.report.Report.{Report}
use Rattle.command_runs.specs.Command.{nothing_done, ArchiveFound, DamageFound, HasEffects, NoneFound, OpeningResult, Progress, after_opening, archive_opened, opening_plan, printing_plan}
use Rattle.command_runs.specs.ReadOnly.{IsReadAsBefore, IsReadOnly}
use Rattle.command_runs.specs.Reading.{OnPages, printing_read_plan}
use Rattle.command_runs.specs.Report.{read_only, unopened}
use Rattle.query_commands.specs.Sql.{archive_text_plan, sql_plan, statements_plan, text_plan}
use Rattle.command_laws.specs.Calls.{Call, HeldArchive, IsNoArchive, IsRefusedBy, IsRun, LeavesAll, Prints, PrintsSome, Succeeded, WasInterrupted, effects}
use Rattle.command_laws.specs.NamedFiles.{HasFile, IsUnreadFor}
use Rattle.command_laws.specs.Sql.{AreStatementsAnswered, HasStatements}
use Rattle.command_laws.proofs.Files.{one_file}
use Rattle.command_laws.proofs.Left.{all_opened, all_unopened, not_asked}
use Rattle.command_laws.proofs.OnlyUnread.{of_one, only_stated}
use Rattle.command_laws.proofs.Pages.{printed_left}
use Rattle.command_laws.proofs.Readings.{IsUnread, each_read, read_due, read_or_not, unread_due}
use Rattle.command_laws.proofs.Runs.{IsEndOf, all_is_some, by_due, by_job, no_archive_silent, none_is_some, none_or_some, opening_due, or_disk_failed, or_no_memory, or_unwritten, refused, succeeded}

-- all but what is due
record IsLeft {D : Type 0} (device : Device D) (e : Call D) (files : Files) (name : List ℕ) : Type 0 where
  left : LeavesAll device e
  whole : Succeeded e
      → HeldArchive device e (λ filled. (statements : List TypedStatement) × HasStatements files name filled (Ok statements) × Prints e (statements_text filled.plain statements))
  printed : (filled : FilledArchive) (statements : List TypedStatement) → StandsFilled (device.reads e.disk) filled → HasStatements files name filled (Ok statements)
      → PrintsSome e (statements_text filled.plain statements)
  quiet : (refusal : Refusal) → IsUnreadFor files ScriptOctets name refusal → Prints e []
  silent : (filled : FilledArchive) (refusal : Refusal) → StandsFilled (device.reads e.disk) filled → HasStatements files name filled (Err refusal) → Prints e []

abbrev Answer : Type 0
Answer = Result (List TypedStatement) Refusal

abbrev IsAnswer : FilledArchive → List ℕ → Answer → Type 0
IsAnswer filled text = IsScriptAnswer ScriptPlace.Sql filled.plain.head.tables (packet_names filled.plain.head filled.plain.history) text

-- a script has one answer over an archive
one_answer : (files : Files) (name : List ℕ) (filled : FilledArchive) (a b : Answer) → HasStatements files name filled a → HasStatements files name filled b → a ≡ b
one_answer files name filled a b h k =
    one_script_answer ScriptPlace.Sql filled.plain.head.tables (packet_names filled.plain.head filled.plain.history) h.text a b h.script
    (subst (λ (t : List ℕ). IsAnswer filled t b) (one_file files ScriptOctets name k.text h.text k.file h.file) k.script)

same_statements : (a b : List TypedStatement) → ◌≡◌ {A = Answer} (Ok a) (Ok b) → a ≡ b
same_statements a b is = cc (is)

not_both : (a : List TypedStatement) (refusal : Refusal) → ◌≡◌ {A = Answer} (Ok a) (Err refusal) → ⊥
not_both a refusal is = cc (is)

module _ {D : Type 0} (device : Device D) (e : Call D) (files : Files) (name : List ℕ) (known : IsTrue device.is_transparent) where
  abbrev Leaves : Way Progress ⊥ → Type 0
  Leaves way = HasEffects device (effects e) way → IsLeft device e files name

  abbrev Tells : Type 0
  Tells = IsTrue device.is_transparent

  -- no archive was opened
  left_unopened : (refusal : Refusal) → e.report ≡ unopened (Some refusal) → Prints e [] → IsReadAsBefore device e.disk e.disk' → IsLeft device e files name
  left_unopened refusal report silent kept = record {
    left = all_unopened device e refusal report silent kept;
    whole = λ none. none_or_some e.report.refusal refusal (ap (λ (r : Report). r.refusal) report) none;
    printed = λ filled statements stands has. none_is_some e (statements_text filled.plain statements) silent;
    quiet = λ refused unread. silent;
    silent = λ filled refused stands has. silent;
  }

  left_unread : (refusal : Refusal) → IsUnread e refusal → IsLeft device e files name
  left_unread refusal unread = left_unopened refusal unread.report unread.silent (not_asked device e unread.disk)

  module _ (filled : FilledArchive) (only : IsReadOnly device e.disk e.disk' filled) where
    -- one was, and nothing was printed
    left_silent : (refusal : Refusal) → e.report ≡ read_only (Some refusal) (length filled.plain.history) → Prints e [] → IsLeft device e files name
    left_silent refusal report silent = record {
      left = all_opened device e filled only (Some refusal) report;
      whole = λ none. none_or_some e.report.refusal refusal (ap (λ (r : Report). r.refusal) report) none;
      printed = λ other statements stands has. none_is_some e (statements_text other.plain statements) silent;
      quiet = λ refused unread. silent;
      silent = λ other refused stands has. silent;
    }

    same_archive : (other : FilledArchive) → StandsFilled (device.reads e.disk) other → other ≡ filled
    same_archive other stands = filled_once (device.reads e.disk) other filled stands only.stands

    here : (other : FilledArchive) (answer : Answer) → StandsFilled (device.reads e.disk) other → HasStatements files name other answer → HasStatements files name filled answer
    here other answer stands has = subst (λ (f : FilledArchive). HasStatements files name f answer) (same_archive other stands) has

    -- or some of the answers were, or all
    left_printed : (statements : List TypedStatement) → HasStatements files name filled (Ok statements) → (refusal : Option Refusal)
        → e.report ≡ read_only refusal (length filled.plain.history) → PrintsSome e (statements_text filled.plain statements) → (Succeeded e → Prints e (statements_text filled.plain statements))
        → IsLeft device e files name
    left_printed statements has refusal report some whole = record {
      left = all_opened device e filled only refusal report;
      whole = λ none. (filled, only.stands, (statements, has, whole none));
      printed = λ other others stands is. subst (λ (f : FilledArchive). PrintsSome e (statements_text f.plain others)) (sym (same_archive other stands))
          (subst (λ (s : List TypedStatement). PrintsSome e (statements_text filled.plain s))
          (same_statements statements others (one_answer files name filled (Ok statements) (Ok others) has (here other (Ok others) stands is))) some);
      quiet = λ refused unread. absurd (read_or_not files ScriptOctets name has.text refused has.file unread);
      silent = λ other refused stands is. absurd (not_both statements refused (one_answer files name filled (Ok statements) (Err refused) has (here other (Err refused) stands is)));
    }

  refused_whole : {Q : Type 0} (filled : FilledArchive) (refusal : Refusal) → e.report ≡ read_only (Some refusal) (length filled.plain.history) → Succeeded e → Q
  refused_whole filled refusal report ok = none_or_some e.report.refusal refusal (ap (λ (r : Report). r.refusal) report) ok

  -- ---- ends

  opening_left : (held : OpeningResult) → EachEnd Leaves (after_opening 1 held)
  opening_left NoneFound = λ did. left_unopened NoArchive did.report did.printed (did.disk.1 known)
  opening_left (DamageFound file at) = λ did. left_unopened (Damaged file at) did.report did.printed (did.disk.1 known)
  opening_left (ArchiveFound filled) = tt

  module _ (text : List ℕ) (file : HasFile files ScriptOctets name text) where
    statements_left : (filled : FilledArchive) (answer : Answer) → IsAnswer filled text answer → EachEnd Leaves (and_then (after_answer (archive_opened 1 filled) answer) (statements_plan Tells filled))
    statements_left filled (Err refusal) is = λ did. left_silent filled (did.disk.1 known) refusal did.report did.printed
    statements_left filled (Ok statements) is =
        let has : HasStatements files name filled (Ok statements) = record { text = text; file = file; script = is } in
        printed_left Leaves Tells known (archive_opened 1 filled) (statements_text filled.plain statements)
        (λ did. left_printed filled (did.disk.1 known) statements has (Some OutOfMemory) did.report did.printed (refused_whole filled OutOfMemory did.report))
        (λ did. left_printed filled (did.disk.1 known) statements has (Some DiskFault) did.report did.printed (refused_whole filled DiskFault did.report))
        (λ did. left_printed filled (did.disk.1 known) statements has (Some WriteFault) did.report did.printed (refused_whole filled WriteFault did.report))
        (λ did. left_printed filled (did.disk.1 known) statements has None did.report (all_is_some e (statements_text filled.plain statements) did.printed) (λ ok. did.printed))

    archive_left : EachEnd Leaves (archive_text_plan device e.disk text)
    archive_left = (
      λ did. left_unopened OutOfMemory did.report did.printed (not_asked device e did.disk),
      each_end Leaves (opening_plan 1 device e.disk) (text_plan Tells text) (
        λ did. left_unopened OutOfMemory did.report did.printed (did.disk.1 known),
        (λ did. left_unopened DiskFault did.report did.printed (did.disk.1 known), λ held h. opening_left held),
      ) (λ filled. (λ did. left_silent filled (did.disk.1 known) OutOfMemory did.report did.printed, λ answer is. statements_left filled answer is)),
    )

  each_left : EachEnd Leaves (sql_plan device e.disk (Some files) name)
  each_left = each_read device e (IsLeft device e files name) files ScriptOctets (λ octets. octets) name 0 (archive_text_plan device e.disk) (λ refusal unread cause. left_unread refusal unread) archive_left

  -- ---- what is due

  absent_due : (way : Way Progress ⊥) (at : IsEndOf device e way) (text : List ℕ) (refusal : Refusal) → HasFile files ScriptOctets name text → IsNoArchive device e refusal
      → Requires (sql_plan device e.disk (Some files) name) way → IsRefusedBy device e refusal
  absent_due way at text refusal has is required = elim (read_due e files way at nothing_done ScriptOctets (λ octets. octets) name 0 (archive_text_plan device e.disk) text has required) [
    | inl read ↦ opening_due e way at 1 (text_plan Tells text) refusal is read
    | inr cut ↦ inr cut
  ]

  module _ (way : Way Progress ⊥) (at : IsEndOf device e way) (filled : FilledArchive) (stands : StandsFilled (device.reads e.disk) filled) where
    abbrev Answered : Answer → Type 0
    Answered answer = Requires (and_then (after_answer (archive_opened 1 filled) answer) (statements_plan Tells filled)) way

    text_due : (text : List ℕ) (answer : Answer) → IsAnswer filled text answer → Requires (text_plan Tells text filled) way → Answered answer ⊎ WasInterrupted device e
    text_due text answer is (inl cut) = or_no_memory e way at (Answered answer) _ cut
    text_due text answer is (inr asked) = inl (asked answer is)

    archive_due : (text : List ℕ) (answer : Answer) → IsAnswer filled text answer → Requires (archive_text_plan device e.disk text) way → Answered answer ⊎ WasInterrupted device e
    archive_due text answer is (inl cut) = or_no_memory e way at (Answered answer) _ cut
    archive_due text answer is (inr (inl cut)) = or_no_memory e way at (Answered answer) _ cut
    archive_due text answer is (inr (inr (inl cut))) = or_disk_failed e way at (Answered answer) _ cut (λ never. cc (never))
    archive_due text answer is (inr (inr (inr asked))) = text_due text answer is (asked (ArchiveFound filled) (λ transparent. stands))

    script_due : (answer : Answer) → HasStatements files name filled answer → Requires (sql_plan device e.disk (Some files) name) way → Answered answer ⊎ WasInterrupted device e
    script_due answer has required = elim (read_due e files way at nothing_done ScriptOctets (λ octets. octets) name 0 (archive_text_plan device e.disk) has.text has.file required) [
      | inl read ↦ archive_due has.text answer has.script read
      | inr cut ↦ inr cut
    ]

    written_due : (statements : List TypedStatement) → Requires (printing_plan (archive_opened 1 filled) (statements_text filled.plain statements)) way → Succeeded e ⊎ WasInterrupted device e
    written_due statements (inl is) = or_unwritten e way at (Succeeded e) _ is
    written_due statements (inr is) = succeeded e way at _ is

    read_out_due : (statements : List TypedStatement) → Requires (printing_read_plan (OnPages Tells) (archive_opened 1 filled) (statements_text filled.plain statements)) way → Succeeded e ⊎ WasInterrupted device e
    read_out_due statements (inl is) = or_no_memory e way at (Succeeded e) _ is
    read_out_due statements (inr (inl is)) = or_disk_failed e way at (Succeeded e) _ is (λ never. cc (never))
    read_out_due statements (inr (inr asked)) = written_due statements (asked None tt)

    printing_due : (statements : List TypedStatement) → Answered (Ok statements) → Succeeded e ⊎ WasInterrupted device e
    printing_due statements asked = read_out_due statements (asked (statements_text filled.plain statements) (λ tells. refl))

    complete_due : (statements : List TypedStatement) → HasStatements files name filled (Ok statements) → Requires (sql_plan device e.disk (Some files) name) way → Succeeded e ⊎ WasInterrupted device e
    complete_due statements has required = elim (script_due (Ok statements) has required) [
      | inl answered ↦ printing_due statements answered
      | inr cut ↦ inr cut
    ]

    refused_due : (refusal : Refusal) → HasStatements files name filled (Err refusal) → Requires (sql_plan device e.disk (Some files) name) way → IsRefusedBy device e refusal
    refused_due refusal has required = elim (script_due (Err refusal) has required) [
      | inl answered ↦ refused e way at _ refusal answered
      | inr cut ↦ inr cut
    ]

-- ---- the clause

module _ {D : Type 0} (device : Device D) (e : Call D) (files : Files) (clock : Option ℤ) (name : List ℕ) (run : IsRun device e files clock (Sql name)) where
  left : IsLeft device e files name
  left = by_job device e files clock (Sql name) run (IsLeft device e files name)
      (λ did. left_unopened device e files name run.transparent OutOfMemory did.report did.printed (not_asked device e did.disk))
      (λ way allows end. end_of (Leaves device e files name run.transparent) (sql_plan device e.disk (Some files) name) way (each_left device e files name run.transparent) allows end.did)

  pub selected : AreStatementsAnswered device e files name
  selected = record {
    left = left.left;
    whole = left.whole;
    printed = left.printed;
    unread = λ refusal unread. (
      by_due device e files clock (Sql name) run (IsRefusedBy device e refusal) (λ cut. inr cut)
          (λ way required at. unread_due e files way at nothing_done ScriptOctets (λ octets. octets) name 0 (archive_text_plan device e.disk) refusal unread required),
      left.quiet refusal unread,
    );
    only_unread = λ refusal said reading. of_one files ScriptOctets name refusal (only_stated device e files name clock run refusal said reading);
    no_archive = λ text refusal has is. (
      by_due device e files clock (Sql name) run (IsRefusedBy device e refusal) (λ cut. inr cut)
          (λ way required at. absent_due device e files name run.transparent way at text refusal has is required),
      no_archive_silent device e refusal left.left.report is,
    );
    refused = λ filled refusal stands has. (
      by_due device e files clock (Sql name) run (IsRefusedBy device e refusal) (λ cut. inr cut)
          (λ way required at. refused_due device e files name run.transparent way at filled stands refusal has required),
      left.silent filled refusal stands has,
    );
    complete = λ filled statements stands has. by_due device e files clock (Sql name) run (Succeeded e ⊎ WasInterrupted device e) (λ cut. inr cut)
        (λ way required at. complete_due device e files name run.transparent way at filled stands statements has required);
  }
