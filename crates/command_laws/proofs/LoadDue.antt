-- What is due of a load: how far it comes, and why no further.
use Rattle.std.proofs.Common.{◌≡◌, ◌⊎◌, ◌∙◌, inl, inr, ℕ, ℤ, List, [], ◌∷◌, ◌++◌, length, Bool, true, false, Option, Some, None, refl, sym, ap, subst, arith}
use Rattle.std.specs.Prelude.{IsTrue, Result, Ok, Err}
use Rattle.std.specs.List.{list_any}
use Rattle.arch_disk.specs.Disk.{Device}
use Rattle.asks.specs.declared.ask.Ask.{Ask}
use Rattle.mdb_sheets.specs.Asks.{asks_of}
use Rattle.mdb_sheets.specs.Plans.{ask_sheet_plan}
use Rattle.refusals.specs.declared.refusal.Refusal.{Refusal}
use Rattle.refusals.specs.declared.refusal.Refusal.TheVariants.{DiskFault, Limit, OutOfMemory, ReadFault}
use Rattle.refusals.specs.declared.refusal.Which.TheVariants.{Records, ScriptOctets, SheetOctets}
use Rattle.refusals.specs.Limits.{limit_of}
use Rattle.outer_traits.specs.Outside.{Files}
use Rattle.history_items.specs.declared.fills.Addition.{Addition}
use Rattle.archive_store.specs.Entries.{FilledArchive}
use Rattle.archive_store.specs.Stands.{StandsFilled}
use Rattle.stream_graph.specs.declared.statement.RouteStatement.{RouteStatement}
use Rattle.live_asks.specs.LiveAsks.{DiskFacts, disk_facts}
use Rattle.live_session.specs.declared.reported.ReportedRefusal.{ReportedRefusal}
use Rattle.live_session.specs.Outcome.{JobsOutcome, reported_of}
use Rattle.command_plans.specs.Ledger.{Counted}
use Rattle.command_plans.specs.Plan.{Choose, CommandPlan, FailedCalls, May, OfDisk, OfInputs, OfOutput, Requires, Stop, Stopped, Way, map_done, refusal_at}
use Rattle.command_plans.specs.Sources.{opening_all_plan}
use Rattle.command_words.specs.Job.{LoadWords}
use Rattle.command_runs.specs.declared.report.Report.{Report}
use Rattle.command_runs.specs.ArchiveWork.{opened_plan}
use Rattle.command_runs.specs.Command.{ArchiveFound, DiskOutcome, EndedAt, HasEffects, NotAsked, Progress, SeekingFailed, failed_at, nothing_done, seeking_failed}
use Rattle.command_runs.specs.FillingPlan.{FillingEnd, Refused, Unread, Unwritten, Whole, after_filling, fill_failed, filled_to}
use Rattle.ask_answers.specs.Asks.{asked_plan, with_sources}
use Rattle.load_command.specs.Load.{after_jobs, after_links, after_route, answering_asks_plan, archive_load_plan, history_extended, job_refused, jobs_plan, load_printing_plan, loading_plan, read_load_plan, routed_load_plan, routed_plan, write_failed}
use Rattle.load_command.specs.Loading.{IsRouteAnswer, is_unread, load_asked}
use Rattle.command_laws.specs.Answers.{sheet_refusal}
use Rattle.command_laws.specs.Calls.{Call, IsInterruption, IsNoArchive, IsRefusedBy, Succeeded, WasInterrupted, effects}
use Rattle.command_laws.specs.Links.{AreThere, HasAsks, HasRouteText, IsFirstMissing, load_files}
use Rattle.command_laws.specs.Load.{IsAsked, IsBegun, IsLoadRefusal, WasHindered, WasOverLimit}
use Rattle.command_laws.specs.NamedFiles.{IsFirstUnread, named_file}
use Rattle.command_laws.proofs.FirstRefused.{first_reported}
use Rattle.command_laws.proofs.JobsEnds.{filled_end, is_reached, kept_stands, near_passed, no_fewer, written_end}
use Rattle.command_laws.proofs.JobsLoaded.{CameToJobs, moment}
use Rattle.command_laws.proofs.OnTheWay.{extended_disk}
use Rattle.command_laws.proofs.Readings.{first_missing_due, opened_due, read_due, unread_due}
use Rattle.command_laws.proofs.Runs.{IsEndOf, cut_off, disk_call, no_archive_due, no_memory, refused, reported, unwritten_call}
use Rattle.command_laws.proofs.Reported.{IsCut, IsReportedCause, IsReportedEnd, cause_of}
use Rattle.command_laws.proofs.Ways.{due_alone, due_twice, due_under}

-- the same is done, but for how many sources were given
pub record KeepsDone {D : Type 0} (device : Device D) (e : Call D) (f : Progress → Progress) : Type 0 where
  pub disk : (s : Progress) → (f s).disk ≡ s.disk
  pub failed : (s : Progress) → (f s).failed ≡ s.failed
  pub ended : (s : Progress) (refusal : Option Refusal) → EndedAt device (effects e) (f s) refusal (f s).failed → EndedAt device (effects e) s refusal s.failed

-- What jobs came to: nothing is reported of them, and the load succeeded, or was hindered; or something is, and why.
abbrev pub AreReportedSo : {D : Type 0} (device : Device D) (e : Call D) (files : Files) (clock : Option ℤ) (words : LoadWords) (before : FilledArchive) (asks : List Ask) (c : JobsOutcome)
    → (sealed : ℕ) → CameToJobs files clock words before (disk_facts device e.disk sealed) asks c → Type 0
AreReportedSo device e files clock words before asks c sealed came =
    ((reported_of words.link c.ends c.others ≡ None) × (Succeeded e ⊎ WasHindered device e files clock words before))
    ⊎ ((t : ReportedRefusal) × (e.report.refusal ≡ Some t.refusal) × IsReportedCause files clock words before (disk_facts device e.disk sealed) asks c came device e t
    × (IsCut files clock words before (disk_facts device e.disk sealed) asks c came device e t.refusal → WasInterrupted device e))

module _ {D : Type 0} (device : Device D) (e : Call D) (files : Files) (clock : Option ℤ) (words : LoadWords) (way : Way Progress ⊥) (at : IsEndOf device e way) where
  abbrev facts : ℕ → DiskFacts
  facts = disk_facts device e.disk

  abbrev dumps : ℕ
  dumps = length words.dumps

  -- a plan is due, whatever sources are counted
  abbrev IsDueSo : CommandPlan Progress ⊥ → Type 0
  IsDueSo p = (f : Progress → Progress) × KeepsDone device e f × Requires (map_done f p) way

  alone : KeepsDone device e (λ s. s)
  alone = record { disk = λ s. refl; failed = λ s. refl; ended = λ s refusal did. did }

  more_sources : (f : Progress → Progress) → KeepsDone device e f → (n : ℕ) → KeepsDone device e (λ s. f (with_sources n s))
  more_sources f keeps n = record {
    disk = λ s. keeps.disk (with_sources n s);
    failed = λ s. keeps.failed (with_sources n s);
    ended = λ s refusal did.
        let inner = keeps.ended (with_sources n s) refusal did in
        record { report = inner.report; printed = inner.printed; output = inner.output; disk = inner.disk; log = inner.log; pending = inner.pending };
  }

  -- ---- the files that are named

  -- the sheet of asks is read
  asked_due : (f : Progress → Progress) → KeepsDone device e f → (name : Option (List ℕ)) (sheet : Result (List Ask) Refusal) (next : Result (List Ask) Refusal → CommandPlan Progress ⊥) → HasAsks files name sheet
      → Requires (map_done f (asked_plan (Some files) name next)) way → IsDueSo (next sheet) ⊎ WasInterrupted device e
  asked_due f keeps None sheet next has d = inl (f, keeps, subst (λ (t : Result (List Ask) Refusal). Requires (map_done f (next t)) way) (sym has) d)
  asked_due f keeps (Some name) sheet next has d = elim (read_due e files way at (λ (n : ℕ). f (nothing_done n)) SheetOctets (λ octets. asks_of octets) name 0
      (λ (t : Result (List Ask) Refusal). map_done f (map_done (with_sources 1) (next t))) has.octets has.file
      (due_under f nothing_done (ask_sheet_plan (Some files) name 0) (λ (t : Result (List Ask) Refusal). map_done (with_sources 1) (next t)) way d)) [
        | inl read ↦ inl (
          λ s. f (with_sources 1 s),
          more_sources f keeps 1,
          due_twice f (with_sources 1) (next sheet) way (subst (λ (t : Result (List Ask) Refusal). Requires (map_done f (map_done (with_sources 1) (next t))) way) (sym has.sheet_is) read),
        )
        | inr cut ↦ inr cut
      ]

  -- the script of the route is
  routed_due : (name text : Option (List ℕ)) (next : Option (List ℕ) → CommandPlan Progress ⊥) → HasRouteText files name text → Requires (routed_plan (Some files) name next) way
      → IsDueSo (next text) ⊎ WasInterrupted device e
  routed_due None text next named d = inl (λ s. s, alone, due_alone (next text) way (subst (λ (t : Option (List ℕ)). Requires (next t) way) (sym named) d))
  routed_due (Some name) text next named d = elim (read_due e files way at nothing_done ScriptOctets (λ octets. octets) name 0 (λ (t : List ℕ). map_done (with_sources 1) (next (Some t))) named.0 named.1 d) [
    | inl read ↦ inl (with_sources 1, more_sources (λ s. s) alone 1, subst (λ (t : Option (List ℕ)). Requires (map_done (with_sources 1) (next t)) way) (sym named.2) read)
    | inr cut ↦ inr cut
  ]

  abbrev pub Reads : Type 0
  Reads = Requires (read_load_plan device e.disk (Some files) clock words) way

  files_due : (text : Option (List ℕ)) (sheet : Result (List Ask) Refusal) → IsBegun files words text sheet → Reads → IsDueSo (archive_load_plan device e.disk (Some files) clock words text sheet) ⊎ WasInterrupted device e
  files_due text sheet begun d = elim (routed_due words.route text (routed_load_plan device e.disk (Some files) clock words) begun.named d) [
    | inl went ↦ asked_due went.0 went.1 words.asks sheet (archive_load_plan device e.disk (Some files) clock words text) begun.has went.2
    | inr cut ↦ inr cut
  ]

  -- the first that isn't read is refused
  asked_unread : (f : Progress → Progress) (name : Option (List ℕ)) (next : Result (List Ask) Refusal → CommandPlan Progress ⊥) (refusal : Refusal) → IsFirstUnread files (named_file SheetOctets name) refusal
      → Requires (map_done f (asked_plan (Some files) name next)) way → IsRefusedBy device e refusal
  asked_unread f None next refusal never d = absurd never
  asked_unread f (Some name) next refusal (inl unread) d =
      unread_due e files way at (λ (n : ℕ). f (nothing_done n)) SheetOctets (λ octets. asks_of octets) name 0 (λ (t : Result (List Ask) Refusal). map_done f (map_done (with_sources 1) (next t))) refusal unread
      (due_under f nothing_done (ask_sheet_plan (Some files) name 0) (λ (t : Result (List Ask) Refusal). map_done (with_sources 1) (next t)) way d)
  asked_unread f (Some name) next refusal (inr others) d = absurd others.2

  routed_unread : (name asks : Option (List ℕ)) (next : Option (List ℕ) → Result (List Ask) Refusal → CommandPlan Progress ⊥) (refusal : Refusal)
      → IsFirstUnread files (named_file ScriptOctets name ++ named_file SheetOctets asks) refusal → Requires (routed_plan (Some files) name (λ t. asked_plan (Some files) asks (next t))) way → IsRefusedBy device e refusal
  routed_unread None asks next refusal first d = asked_unread (λ s. s) asks (next None) refusal first (due_alone (asked_plan (Some files) asks (next None)) way d)
  routed_unread (Some name) asks next refusal (inl unread) d =
      unread_due e files way at nothing_done ScriptOctets (λ octets. octets) name 0 (λ (t : List ℕ). map_done (with_sources 1) (asked_plan (Some files) asks (next (Some t)))) refusal unread d
  routed_unread (Some name) asks next refusal (inr (octets, has, others)) d =
      elim (read_due e files way at nothing_done ScriptOctets (λ octets. octets) name 0 (λ (t : List ℕ). map_done (with_sources 1) (asked_plan (Some files) asks (next (Some t)))) octets has d) [
        | inl read ↦ asked_unread (with_sources 1) asks (next (Some octets)) refusal others read
        | inr cut ↦ inr cut
      ]

  pub unread_files_due : (refusal : Refusal) → IsFirstUnread files (load_files words) refusal → Reads → IsRefusedBy device e refusal
  unread_files_due refusal first d = routed_unread words.route words.asks (archive_load_plan device e.disk (Some files) clock words) refusal first d

  -- ---- the dumps, and the archive

  module _ (text : Option (List ℕ)) (sheet : Result (List Ask) Refusal) (begun : IsBegun files words text sheet) where
    abbrev opening : CommandPlan Progress ⊥
    opening = opened_plan dumps device e.disk (λ records. loading_plan facts (Some files) clock (load_asked words text sheet))

    -- a dump that isn't there is missing
    pub lacking_due : (refusal : Refusal) → IsFirstMissing files words.dumps refusal → Reads → IsRefusedBy device e refusal
    lacking_due refusal missing d = elim (files_due text sheet begun d) [
      | inl went ↦ first_missing_due e files way at (λ (n : ℕ). went.0 (nothing_done n)) (λ done. map_done went.0 opening) words.dumps 0 refusal missing
          (due_under went.0 nothing_done (opening_all_plan (Some files) words.dumps 0) (λ done. opening) way went.2)
      | inr cut ↦ inr cut
    ]

    -- else all are opened
    to_opening : AreThere files words.dumps → Reads → IsDueSo opening ⊎ WasInterrupted device e
    to_opening there d = elim (files_due text sheet begun d) [
      | inl went ↦ elim (opened_due e files way at (λ (n : ℕ). went.0 (nothing_done n)) (λ done. map_done went.0 opening) words.dumps 0 there
          (due_under went.0 nothing_done (opening_all_plan (Some files) words.dumps 0) (λ done. opening) way went.2)) [
            | inl opens ↦ inl (went.0, went.1, opens)
            | inr cut ↦ inr cut
          ]
      | inr cut ↦ inr cut
    ]

    -- an archive that isn't opened
    pub absent_due : (refusal : Refusal) → AreThere files words.dumps → IsNoArchive device e refusal → Reads → IsRefusedBy device e refusal
    absent_due refusal there is d = elim (to_opening there d) [
      | inl went ↦ go went.0 went.1 went.2
      | inr cut ↦ inr cut
    ]
      where
        go : (f : Progress → Progress) → KeepsDone device e f → Requires (map_done f opening) way → IsRefusedBy device e refusal
        go f keeps (inl cut) = inr (no_memory e way at _ cut)
        go f keeps (inr d) = no_archive_due e way at f keeps.disk dumps (loading_plan facts (Some files) clock (load_asked words text sheet)) refusal is d

    -- one that is
    to_archive : (before : FilledArchive) → StandsFilled (device.reads e.disk) before → AreThere files words.dumps → Reads → IsDueSo (loading_plan facts (Some files) clock (load_asked words text sheet) before) ⊎ WasInterrupted device e
    to_archive before stands there d = elim (to_opening there d) [
      | inl went ↦ go went.0 went.1 went.2
      | inr cut ↦ inr cut
    ]
      where
        sought : ◌≡◌ {A = DiskOutcome} SeekingFailed NotAsked → ⊥
        sought never = cc (never)

        go : (f : Progress → Progress) → KeepsDone device e f → Requires (map_done f opening) way → IsDueSo (loading_plan facts (Some files) clock (load_asked words text sheet) before) ⊎ WasInterrupted device e
        go f keeps (inl cut) = inr (no_memory e way at _ cut)
        go f keeps (inr (inl cut)) = inr (no_memory e way at _ cut)
        go f keeps (inr (inr (inl cut))) = inr (disk_call e way at (f (seeking_failed dumps)) (λ none. sought (sym (keeps.disk (seeking_failed dumps)) ∙ none)) cut)
        go f keeps (inr (inr (inr held))) = inl (f, keeps, held (ArchiveFound before) (λ transparent. stands))

    -- what is refused of a load into an archive
    pub refused_due : (before : FilledArchive) (refusal : Refusal) → StandsFilled (device.reads e.disk) before → AreThere files words.dumps → IsLoadRefusal before.plain words text sheet refusal → Reads → IsRefusedBy device e refusal
    refused_due before refusal stands there is d = elim (to_archive before stands there d) [
      | inl went ↦ found went.0 is went.2
      | inr cut ↦ inr cut
    ]
      where
        asks_refused : (f : Progress → Progress) (route : List RouteStatement) (sheet : Result (List Ask) Refusal) → sheet_refusal before.plain sheet ≡ Some refusal
            → Requires (map_done f (after_route facts (Some files) clock words sheet before route)) way → IsRefusedBy device e refusal
        asks_refused f route (Err own) is d = let same : own ≡ refusal = cc (is) in subst (IsRefusedBy device e) same (refused e way at _ own d)
        asks_refused f route (Ok asks) is (inl cut) = inr (no_memory e way at _ cut)
        asks_refused f route (Ok asks) is (inr asked) = refused e way at _ refusal (asked (Some refusal) (sym is))

        linked : (f : Progress → Progress) → IsRouteAnswer before.plain text (Err refusal) ⊎ ((route : List RouteStatement) × IsRouteAnswer before.plain text (Ok route) × (sheet_refusal before.plain sheet ≡ Some refusal))
            → Requires (map_done f (after_links facts (Some files) clock (load_asked words text sheet) before None)) way → IsRefusedBy device e refusal
        linked f is (inl cut) = inr (no_memory e way at _ cut)
        linked f (inl of_route) (inr answered) = refused e way at _ refusal (answered (Err refusal) of_route)
        linked f (inr (route, routed, of_asks)) (inr answered) = asks_refused f route sheet of_asks (answered (Ok route) routed)

        found : (f : Progress → Progress) → IsLoadRefusal before.plain words text sheet refusal → Requires (map_done f (loading_plan facts (Some files) clock (load_asked words text sheet) before)) way → IsRefusedBy device e refusal
        found f (inl of_links) d = refused e way at _ refusal (d (Some refusal) (sym of_links))
        found f (inr (none, others)) d = linked f others (d None (sym none))

  -- ---- the jobs

  module _ (before : FilledArchive) (ready : IsAsked device e files words before) (there : AreThere files words.dumps) where
    abbrev IsJobsDue : Type 0
    IsJobsDue = IsDueSo (jobs_plan facts (Some files) clock words before ready.route ready.asks) ⊎ WasInterrupted device e

    to_jobs : Reads → IsJobsDue
    to_jobs d = elim (to_archive ready.text (Ok ready.asks) ready.begun before ready.stands there d) [
      | inl went ↦ linked went.0 went.1 (went.2 None (sym ready.near))
      | inr cut ↦ inr cut
    ]
      where
        checked : (f : Progress → Progress) → KeepsDone device e f → Requires (map_done f (after_route facts (Some files) clock words (Ok ready.asks) before ready.route)) way → IsJobsDue
        checked f keeps (inl cut) = inr (no_memory e way at _ cut)
        checked f keeps (inr asked) = inl (f, keeps, asked None (sym ready.answerable))

        linked : (f : Progress → Progress) → KeepsDone device e f → Requires (map_done f (after_links facts (Some files) clock (load_asked words ready.text (Ok ready.asks)) before None)) way → IsJobsDue
        linked f keeps (inl cut) = inr (no_memory e way at _ cut)
        linked f keeps (inr answered) = checked f keeps (answered (Ok ready.route) ready.routed)

    abbrev Came : ℕ → JobsOutcome → Type 0
    Came sealed c = CameToJobs files clock words before (facts sealed) ready.asks c

    abbrev IsSo : (sealed : ℕ) (c : JobsOutcome) → Came sealed c → Type 0
    IsSo sealed c came = AreReportedSo device e files clock words before ready.asks c sealed came

    module _ (known : IsTrue device.is_transparent) (f : Progress → Progress) (keeps : KeepsDone device e f) (sealed : ℕ) (c : JobsOutcome) (came : Came sealed c) where
      abbrev now : ℤ
      now = moment files clock words before (facts sealed) ready.asks c came

      abbrev Hindered : Type 0
      Hindered = Succeeded e ⊎ WasHindered device e files clock words before

      cut_due : WasInterrupted device e → Hindered
      cut_due interrupted = inr (inl interrupted)

      -- what was done at an end, whatever sources are counted
      did_at : (s : Progress) (refusal : Option Refusal) → way ≡ Stopped (f s) refusal → EndedAt device (effects e) s refusal s.failed
      did_at s refusal is = keeps.ended s refusal (subst (HasEffects device (effects e)) is at.did)

      -- ---- nothing is reported of a job

      printing_due : (a : List Ask) (t u : Progress) → Requires (map_done f (answering_asks_plan a t (May OfOutput t (Stop u None)))) way → Hindered
      printing_due [] t u (inl cut) = cut_due (unwritten_call e way at (f t) cut)
      printing_due [] t u (inr is) = inl (reported e way at ∙ ap refusal_at is)
      printing_due (ask ∷ more) t u (inl cut) = cut_due (no_memory e way at (f t) cut)
      printing_due (ask ∷ more) t u (inr (inl cut)) = cut_due (unwritten_call e way at (f t) cut)
      printing_due (ask ∷ more) t u (inr (inr is)) = inl (reported e way at ∙ ap refusal_at is)

      full_log : EndedAt device (effects e) (record (history_extended dumps before None c) { log = Some 0 }) (Some (Limit Records (limit_of Records))) (record (history_extended dumps before None c) { log = Some 0 }).failed
          → WasOverLimit device e files clock words before
      full_log did =
          let disk = extended_disk files now words before c.reached device e (did.disk.1 known) in
          let fewer = no_fewer files clock words before (facts sealed) ready.asks c came device e known in record {
            moment = now;
            known = came.given.moment;
            reached = c.reached;
            holds = is_reached files clock words before (facts sealed) ready.asks c came device e known disk (ap (λ (r : Report). r.after) did.report)
                (λ one. kept_stands files clock words before (facts sealed) ready.asks c came device e known (did.disk.1 known));
            which = Records;
            limit = ap (λ (r : Report). r.refusal) did.report;
            passed = inr (refl, near_passed files clock words before (facts sealed) ready.asks c came device e known 0 (omega (arith, fewer)) did.log);
          }

      filled_due : (full : Bool) → Requires (map_done f (after_filling (history_extended dumps before None c) (load_printing_plan dumps before ready.asks c) full)) way → Hindered
      filled_due true is = inr (inr (inr (full_log (did_at (record (history_extended dumps before None c) { log = Some 0 }) (Some (Limit Records (limit_of Records))) is))))
      filled_due false d = printing_due ready.asks _ _ d

      filling_due : Requires (map_done f (May OfDisk (fill_failed before c.reached (history_extended dumps before None c)) (Choose (λ (full : Bool). Unit {0})
          (after_filling (history_extended dumps before None c) (load_printing_plan dumps before ready.asks c))))) way → Hindered
      filling_due (inl cut) =
          let s = fill_failed before c.reached (history_extended dumps before None c) in
          cut_due (disk_call e way at (f s) (λ none. let never : ◌≡◌ {A = DiskOutcome} s.disk NotAsked = sym (keeps.disk s) ∙ none in cc (never)) cut)
      filling_due (inr chosen) = filled_due chosen.0 chosen.2

      unrefused_due : (failed : Option Addition) → Requires (map_done f (after_jobs (IsTrue device.is_transparent) dumps before ready.asks c None failed)) way → Hindered
      unrefused_due failed (inl cut) = cut_due (no_memory e way at _ cut)
      unrefused_due failed (inr (inl cut)) =
          let s = history_extended dumps before None c in
          cut_due (disk_call e way at (f s) (λ none. let never : ◌≡◌ {A = DiskOutcome} s.disk NotAsked = sym (keeps.disk s) ∙ none in cc (never)) cut)
      unrefused_due failed (inr (inr asked)) = filling_due (asked None tt)

      -- ---- something is

      cut_reported : (t : ReportedRefusal) (s : Progress) → way ≡ Stopped (f s) (Some t.refusal) → s.failed OfInputs ≡ list_any is_unread c.ends → e.report.refusal ≡ Some t.refusal
          → IsCut files clock words before (facts sealed) ready.asks c came device e t.refusal → WasInterrupted device e
      cut_reported t s is reads said cut = cut_off device e t.refusal said (go t.refusal cut)
        where
          read : list_any is_unread c.ends ≡ true → IsInterruption device e ReadFault
          read any =
              let failed : failed_at way OfInputs ≡ true = ap (λ (w : Way Progress ⊥). failed_at w OfInputs) is ∙ ap (λ (calls : FailedCalls). calls OfInputs) (keeps.failed s) ∙ reads ∙ any in
              (subst (λ (b : Bool). Counted b e.read_faults e.read_faults') failed at.read).1

          go : (refusal : Refusal) → IsCut files clock words before (facts sealed) ready.asks c came device e refusal → IsInterruption device e refusal
          go OutOfMemory cut = tt
          go ReadFault cut = read cut
          go DiskFault cut = cut
          go other cut = absurd cut

      job_due : (t : ReportedRefusal) (s : Progress) → reported_of words.link c.ends c.others ≡ Some t → way ≡ Stopped (f s) (Some t.refusal) → s.failed OfInputs ≡ list_any is_unread c.ends
          → IsReportedEnd files clock words before (facts sealed) ready.asks c came device e t → IsSo sealed c came
      job_due t s is stopped reads end = inr (
        t,
        end.refusal,
        cause_of files clock words before (facts sealed) ready.asks c came device e t end is (first_reported files clock words before (facts sealed) ready.asks c came t is),
        cut_reported t s stopped reads end.refusal,
      )

      behind_due : (t : ReportedRefusal) → reported_of words.link c.ends c.others ≡ Some t → c.failed ≡ None → (end : FillingEnd) → way ≡ Stopped (f (filled_to before c.reached (job_refused dumps before c t) end)) (Some t.refusal) → IsSo sealed c came
      behind_due t is none end stopped =
          let s = filled_to before c.reached (job_refused dumps before c t) end in
          job_due t s is stopped (reads end) (filled_end files clock words before (facts sealed) ready.asks c came device e known dumps t none end (did_at s (Some t.refusal) stopped)).1
        where
          reads : (end : FillingEnd) → (filled_to before c.reached (job_refused dumps before c t) end).failed OfInputs ≡ list_any is_unread c.ends
          reads Whole = refl
          reads Unwritten = refl
          reads Unread = refl
          reads Refused = refl

      jobs_due : (said : Option ReportedRefusal) → reported_of words.link c.ends c.others ≡ said → (failed : Option Addition) → c.failed ≡ failed → Requires (map_done f (after_jobs (IsTrue device.is_transparent) dumps before ready.asks c said failed)) way → IsSo sealed c came
      jobs_due None is failed has d = inl (is, unrefused_due failed d)
      jobs_due (Some t) is None has d = behind_due t is has d.0 d.2
      jobs_due (Some t) is (Some addition) has stopped =
          let s = write_failed dumps before c t addition in
          job_due t s is stopped refl (written_end files clock words before (facts sealed) ready.asks c came device e known dumps t addition has (did_at s (Some t.refusal) stopped)).1

    -- jobs came to something, of which that holds; or memory was wanting, or a call failed, before them
    pub session_due : IsTrue device.is_transparent → Reads → ((sealed : ℕ) × (c : JobsOutcome) × ((came : Came sealed c) × IsSo sealed c came)) ⊎ WasInterrupted device e
    session_due known d = elim (to_jobs d) [
      | inl went ↦ inl (go went.0 went.1 went.2)
      | inr cut ↦ inr cut
    ]
      where
        go : (f : Progress → Progress) → KeepsDone device e f → Requires (map_done f (jobs_plan facts (Some files) clock words before ready.route ready.asks)) way → (sealed : ℕ) × (c : JobsOutcome) × ((came : Came sealed c) × IsSo sealed c came)
        go f keeps d =
            let sealed = d.0 in
            let chosen = d.2 in
            let c = chosen.2.0 in
            let came : Came sealed c = record {
              text = ready.text;
              named = ready.begun.named;
              route = ready.route;
              routed = ready.routed;
              sheet = ready.begun.has;
              there = there;
              g = chosen.0;
              given = chosen.1;
              told = λ paged. known;
              outcome = chosen.2.1;
            } in
            (sealed, c, (came, jobs_due known f keeps sealed c came (reported_of words.link c.ends c.others) refl c.failed refl chosen.2.2))
