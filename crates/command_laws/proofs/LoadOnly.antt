-- Of `load` a refusal says that a file wasn't read, that a dump has a rest, or that a write had failed, only where it is so.
use Rattle.std.proofs.Common.{◌≡◌, ◌⊎◌, ◌∙◌, inl, inr, ℕ, ℤ, zero, suc, ◌+◌, ◌<◌, ◌≤◌, List, [], ◌∷◌, Bool, true, false, Option, Some, None, refl, sym, ap, subst, arith}
use Rattle.std.specs.Prelude.{◌++◌, ◌-◌, IsTrue, Result, Ok, Err, if◌then◌else◌, length, nat_lt, slice_get}
use Rattle.arch_disk.specs.Disk.{Device}
use Rattle.asks.specs.declared.ask.Ask.{Ask}
use Rattle.mdb_sheets.specs.Asks.{asks_of}
use Rattle.refusals.specs.declared.refusal.BadKind.{BadKind}
use Rattle.refusals.specs.declared.refusal.Refusal.{Refusal}
use Rattle.refusals.specs.declared.refusal.Refusal.TheVariants.{BadPacket, Damaged, DiskFault, Limit, Missing, NeedsReopen, NoArchive, OutOfMemory, ReadFault, WriteFault}
use Rattle.refusals.specs.declared.refusal.Which.{Which}
use Rattle.refusals.specs.declared.refusal.Which.TheVariants.{DumpOctets, Dumps, Fillers, Links, Records, ScriptOctets, SheetOctets}
use Rattle.refusals.specs.Limits.{limit_of}
use Rattle.outer_traits.specs.Outside.{Files}
use Rattle.archive_history.specs.declared.row_limit.RowLimit.{RowLimit}
use Rattle.archive_history.specs.declared.row_limit.RowLimit.TheVariants as row_limits
use Rattle.history_items.specs.declared.fills.Addition.{Addition}
use Rattle.archive_store.specs.Entries.{FilledArchive}
use Rattle.archive_store.specs.Limits.{limit_of_history}
use Rattle.archive_store.specs.Stands.{StandsFilled}
use Rattle.script_answers.specs.Scripts.{after_answer}
use Rattle.script_answers.specs.Statements.{packet_names}
use Rattle.ssql_types.specs.declared.place.ScriptPlace.TheVariants as ScriptPlace
use Rattle.stream_graph.specs.declared.statement.RouteStatement.{RouteStatement}
use Rattle.live_asks.specs.LiveAsks.{DiskFacts, disk_facts}
use Rattle.live_session.specs.declared.reported.ReportedRefusal.{ReportedRefusal}
use Rattle.live_session.specs.Outcome.{JobsOutcome, reported_of}
use Rattle.command_plans.specs.Plan.{Choose, CommandPlan, EachEnd, May, OfDisk, OfOutput, Stop, Way, and_then, is_interruption, map_done}
use Rattle.command_plans.proofs.Plans.{each_end, end_of}
use Rattle.command_words.specs.Job.{Load, LoadWords}
use Rattle.command_words.specs.LoadLimits.{first_refusal, limit_refusal, links_refusal, load_limit_refusal}
use Rattle.command_runs.specs.declared.report.Report.{Report}
use Rattle.command_runs.specs.ArchiveWork.{opened_plan}
use Rattle.command_runs.specs.Causes.{IsCountedSince}
use Rattle.command_runs.specs.Command.{ArchiveFound, DamageFound, HasEffects, NoneFound, OpeningResult, Progress, after_opening, archive_opened, opening_plan}
use Rattle.command_runs.specs.FillingPlan.{FillingEnd, after_filling, fill_failed, filled_to}
use Rattle.ask_answers.specs.Asks.{after_asks_check, archive_asks_refusal, asked_plan, with_sources}
use Rattle.load_command.specs.Load.{after_jobs, after_limits, after_links, after_route, answering_asks_plan, archive_load_plan, history_extended, job_refused, jobs_plan, load_plan, load_printing_plan, loading_plan, read_load_plan, routed_load_plan, routed_plan}
use Rattle.load_command.specs.Loading.{IsRouteAnswer, load_asked}
use Rattle.command_laws.specs.Calls.{Call, HeldArchive, IsRun, effects}
use Rattle.command_laws.specs.Links.{AreThere, ComesBy, HasAsks, HasRouteText, IsFirstMissing, IsLoadUnread, dump_files, load_files}
use Rattle.command_laws.specs.Load.{ArePassed, AreRecordsPassed, IsBroken, IsOverlong, WasOverLimit, WasPending, load_given}
use Rattle.command_laws.specs.NamedFiles.{HasFile, IsFirstUnread, IsReadingRefusal, IsUnreadFor, named_file}
use Rattle.command_laws.proofs.FileRefusals.{TellsOfOutside, no_asks, no_asks_sheet, no_interruption, no_script, reading_tells}
use Rattle.command_laws.proofs.Files.{have_read}
use Rattle.command_laws.proofs.FirstRefused.{first_reported}
use Rattle.command_laws.proofs.JobsEnds.{filled_end, written_end}
use Rattle.command_laws.proofs.JobsLoaded.{AreNamesFrom, CameToJobs, all_names, comes_once, first_name, later_names}
use Rattle.command_laws.proofs.Pages.{read_left as pages_left}
use Rattle.command_laws.proofs.Readings.{IsUnread, IsUnreadCause, each_behind, each_opened, each_read}
use Rattle.command_laws.proofs.Runs.{by_job, none_or_some, same_refusal}
use Rattle.command_laws.proofs.Reported.{IsCut, IsReportedEnd, cause_of}

-- ---- refusals of a load that tell nothing of the outside

no_limit_refusal : (which : Which) (n : ℕ) (refusal : Refusal) → (TellsOfOutside (Limit which (limit_of which)) → ⊥) → limit_refusal which n ≡ Some refusal → TellsOfOutside refusal → ⊥
no_limit_refusal which n refusal apart is tells = by (nat_lt (limit_of which) n) is
  where
    by : (b : Bool) → (if b then Some (Limit which (limit_of which)) else None) ≡ Some refusal → ⊥
    by true is = let same : Limit which (limit_of which) ≡ refusal = cc (is) in apart (subst TellsOfOutside (sym same) tells)
    by false is = absurd (cc (is))

no_words : (words : LoadWords) (refusal : Refusal) → load_limit_refusal words ≡ Some refusal → TellsOfOutside refusal → ⊥
no_words words refusal is tells = by (limit_refusal Dumps (length words.dumps)) refl is
  where
    by : (first : Option Refusal) → limit_refusal Dumps (length words.dumps) ≡ first → first_refusal first (limit_refusal Fillers words.fillers) ≡ Some refusal → ⊥
    by None dumps is = no_limit_refusal Fillers words.fillers refusal (λ tells. tells) is tells
    by (Some other) dumps is = no_limit_refusal Dumps (length words.dumps) refusal (λ tells. tells) (dumps ∙ is) tells

no_links : (words : LoadWords) (refusal : Refusal) → links_refusal words ≡ Some refusal → TellsOfOutside refusal → ⊥
no_links words refusal is tells = no_limit_refusal Links (words.link + (length words.dumps - 1)) refusal (λ tells. tells) is tells

no_route : (files : Files) (name text : Option (List ℕ)) (filled : FilledArchive) (refusal : Refusal) → HasRouteText files name text → IsRouteAnswer filled.plain text (Err refusal) → TellsOfOutside refusal → ⊥
no_route files None text filled refusal named answer tells =
    let none : IsRouteAnswer filled.plain None (Err refusal) = subst (λ (t : Option (List ℕ)). IsRouteAnswer filled.plain t (Err refusal)) named answer in absurd (cc (none))
no_route files (Some name) text filled refusal (octets, has, is) answer tells =
    no_script ScriptPlace.Route filled.plain.head.tables (packet_names filled.plain.head filled.plain.history) octets refusal has.short
    (subst (λ (t : Option (List ℕ)). IsRouteAnswer filled.plain t (Err refusal)) is answer) tells

no_rows : (limit : RowLimit) (number : ℕ) → TellsOfOutside (Limit (limit_of_history limit) number) → ⊥
no_rows row_limits.Rows number tells = tells
no_rows row_limits.HistoryOctets number tells = tells
no_rows row_limits.IntervalRows number tells = tells

-- ---- what a refusal says

module _ {D : Type 0} (device : Device D) (e : Call D) (files : Files) (clock : Option ℤ) (words : LoadWords) where
  -- what it says of files, of a dump or of the disk is so
  pub record IsOnlyReported : Type 0 where
    pub unread : (refusal : Refusal) → e.report.refusal ≡ Some refusal → IsReadingRefusal refusal → IsLoadUnread files words refusal
    pub overlong : (number : ℕ) → e.report.refusal ≡ Some (Limit DumpOctets number) → HeldArchive device e (λ before. (link : ℕ) × IsOverlong device e (load_given files clock words before) link)
    pub broken : (at : ℕ) (kind : BadKind) → e.report.refusal ≡ Some (BadPacket at kind) → HeldArchive device e (λ before. (link : ℕ) × IsBroken device e (load_given files clock words before) link at kind)
    pub pending : (faults : ℕ) → e.report.refusal ≡ Some (NeedsReopen faults) → (e.report.opened ≡ true) × IsCountedSince device e.disk e.disk' (Some faults)

  -- its refusal is another
  reported_other : (refusal : Refusal) → e.report.refusal ≡ Some refusal → (TellsOfOutside refusal → ⊥) → IsOnlyReported
  reported_other refusal is apart = record {
    unread = λ reported said reading. absurd (apart (reading_tells refusal (subst IsReadingRefusal (same_refusal e.report.refusal reported refusal said is) reading)));
    overlong = λ number said. absurd (apart (subst TellsOfOutside (same_refusal e.report.refusal (Limit DumpOctets number) refusal said is) tt));
    broken = λ at kind said. absurd (apart (subst TellsOfOutside (same_refusal e.report.refusal (BadPacket at kind) refusal said is) tt));
    pending = λ faults said. absurd (apart (subst TellsOfOutside (same_refusal e.report.refusal (NeedsReopen faults) refusal said is) tt));
  }

  reported_cut : (refusal : Refusal) → e.report.refusal ≡ Some refusal → is_interruption refusal ≡ true → IsOnlyReported
  reported_cut refusal is off = reported_other refusal is (no_interruption refusal off)

  -- or there's none
  reported_none : e.report.refusal ≡ None → IsOnlyReported
  reported_none is = record {
    unread = λ reported said reading. none_or_some e.report.refusal reported said is;
    overlong = λ number said. none_or_some e.report.refusal (Limit DumpOctets number) said is;
    broken = λ at kind said. none_or_some e.report.refusal (BadPacket at kind) said is;
    pending = λ faults said. none_or_some e.report.refusal (NeedsReopen faults) said is;
  }

  -- a refusal that a file isn't read has none of the other meanings, unless it is a dump's length
  abbrev IsNoDump : Refusal → Type 0
  IsNoDump (Missing name) = Unit {0}
  IsNoDump (Limit SheetOctets number) = Unit {0}
  IsNoDump (Limit ScriptOctets number) = Unit {0}
  IsNoDump other = ⊥

  reported_unread : (refusal : Refusal) → e.report.refusal ≡ Some refusal → IsNoDump refusal → IsLoadUnread files words refusal → IsOnlyReported
  reported_unread refusal is kind cause = record {
    unread = λ reported said reading. subst (IsLoadUnread files words) (same_refusal e.report.refusal refusal reported is said) cause;
    overlong = λ number said. absurd (subst IsNoDump (same_refusal e.report.refusal refusal (Limit DumpOctets number) is said) kind);
    broken = λ at bad said. absurd (subst IsNoDump (same_refusal e.report.refusal refusal (BadPacket at bad) is said) kind);
    pending = λ faults said. absurd (subst IsNoDump (same_refusal e.report.refusal refusal (NeedsReopen faults) is said) kind);
  }

  missing_kind : (names : List (List ℕ)) (refusal : Refusal) → IsFirstMissing files names refusal → IsNoDump refusal
  missing_kind [] refusal never = absurd never
  missing_kind (name ∷ names) refusal (inl none) = subst IsNoDump (sym none.1) tt
  missing_kind (name ∷ names) refusal (inr later) = missing_kind names refusal later.1

  -- the script or the sheet wasn't read
  unread_file : (which : Which) (name : List ℕ) → IsNoDump (Limit which (limit_of which)) → (refusal : Refusal) → IsUnread e refusal → (IsUnreadFor files which name refusal → IsFirstUnread files (load_files words) refusal)
      → IsUnreadCause files which name refusal → IsOnlyReported
  unread_file which name kind refusal is first (inl unread) = reported_unread refusal (ap (λ (r : Report). r.refusal) is.report) (kind_of unread) (inl (first unread))
    where
      kind_of : IsUnreadFor files which name refusal → IsNoDump refusal
      kind_of (inl none) = subst IsNoDump (sym none.1) tt
      kind_of (inr long) = subst IsNoDump (sym long.1) kind
  unread_file which name kind refusal is first (inr off) = reported_cut refusal (ap (λ (r : Report). r.refusal) is.report) off

  abbrev Leaves : Way Progress ⊥ → Type 0
  Leaves way = HasEffects device (effects e) way → IsOnlyReported

  abbrev facts : ℕ → DiskFacts
  facts = disk_facts device e.disk

  abbrev dumps : ℕ
  dumps = length words.dumps

  -- ---- behind jobs

  module _ (known : IsTrue device.is_transparent) where
    module _ (before : FilledArchive) (asks : List Ask) (c : JobsOutcome) (sealed : ℕ) (came : CameToJobs files clock words before (facts sealed) asks c) where
      -- where the dump of a link is too long, and those before it aren't, it is the first that isn't read
      first_unread : (link : ℕ) (names : List (List ℕ)) → AreNamesFrom files clock words before (facts sealed) asks c came link names → (place : ℕ) (name : List ℕ) → slice_get names place ≡ Some name
          → ((other : ℕ) (n : List ℕ) → ComesBy words other n → link ≤ other → other < link + place → (dump : List ℕ) × HasFile files DumpOctets n dump) → (refusal : Refusal) → IsUnreadFor files DumpOctets name refusal
          → IsFirstUnread files (dump_files names) refusal
      first_unread link [] are place name is earlier refusal unread = absurd (cc (is))
      first_unread link (n ∷ names) are zero name is earlier refusal unread =
          let same : n ≡ name = cc (is) in inl (subst (λ (m : List ℕ). IsUnreadFor files DumpOctets m refusal) (sym same) unread)
      first_unread link (n ∷ names) are (suc place) name is earlier refusal unread =
          let read = earlier link n (first_name files clock words before (facts sealed) asks c came link n names are) (omega arith) (omega arith) in inr (
            read.0,
            read.1,
            first_unread (suc link) names (later_names files clock words before (facts sealed) asks c came link n names are) place name is
                (λ other m comes low high. earlier other m comes (omega (arith, low)) (omega (arith, high))) refusal unread,
          )

      overlong_unread : (link : ℕ) → IsOverlong device e (load_given files clock words before) link → IsLoadUnread files words (Limit DumpOctets (limit_of DumpOctets))
      overlong_unread link long =
          let number = long.received.comes.number in inr (
            have_read files words came.text (Ok asks) came.named came.sheet,
            inr (
              came.there,
              first_unread words.link words.dumps (all_names files clock words before (facts sealed) asks c came) long.received.comes.place long.received.name long.received.comes.name_is
                  (λ other n comes low high.
                  let whole = long.reported.earlier other low (omega (arith, high, number)) in
                  (whole.1.1.dump, subst (λ (m : List ℕ). HasFile files DumpOctets m whole.1.1.dump) (comes_once words other whole.1.0.name n whole.1.0.comes comes) whole.1.1.file))
                  (Limit DumpOctets (limit_of DumpOctets)) (inr (long.long, refl)),
            ),
          )

      reported_overlong : StandsFilled (device.reads e.disk) before → (link : ℕ) → IsOverlong device e (load_given files clock words before) link → IsOnlyReported
      reported_overlong stands link long =
          let is = long.refusal in
          let too_long = Limit DumpOctets (limit_of DumpOctets) in record {
            unread = λ reported said reading. subst (IsLoadUnread files words) (same_refusal e.report.refusal too_long reported is said) (overlong_unread link long);
            overlong = λ number said. (before, stands, (link, long));
            broken = λ at kind said. let never = same_refusal e.report.refusal too_long (BadPacket at kind) is said in absurd (cc (never));
            pending = λ faults said. let never = same_refusal e.report.refusal too_long (NeedsReopen faults) is said in absurd (cc (never));
          }

      reported_broken : StandsFilled (device.reads e.disk) before → (link place : ℕ) (kind : BadKind) → IsBroken device e (load_given files clock words before) link place kind → IsOnlyReported
      reported_broken stands link place kind bad =
          let is = bad.refusal in record {
            unread = λ reported said reading. absurd (subst IsReadingRefusal (sym (same_refusal e.report.refusal (BadPacket place kind) reported is said)) reading);
            overlong = λ number said. let never = same_refusal e.report.refusal (BadPacket place kind) (Limit DumpOctets number) is said in absurd (cc (never));
            broken = λ at other said.
                let same = same_refusal e.report.refusal (BadPacket place kind) (BadPacket at other) is said in
                let at_is : place ≡ at = cc (same) in
                let kind_is : kind ≡ other = cc (same) in
                (before, stands, (link, subst (λ (k : BadKind). IsBroken device e (load_given files clock words before) link at k) kind_is (subst (λ (n : ℕ). IsBroken device e (load_given files clock words before) link n kind) at_is bad)));
            pending = λ faults said. let never = same_refusal e.report.refusal (BadPacket place kind) (NeedsReopen faults) is said in absurd (cc (never));
          }

      reported_pending : WasPending device e → IsOnlyReported
      reported_pending (faults, is, opened, counted) = record {
        unread = λ reported said reading. absurd (subst IsReadingRefusal (sym (same_refusal e.report.refusal (NeedsReopen faults) reported is said)) reading);
        overlong = λ number said. let never = same_refusal e.report.refusal (NeedsReopen faults) (Limit DumpOctets number) is said in absurd (cc (never));
        broken = λ at kind said. let never = same_refusal e.report.refusal (NeedsReopen faults) (BadPacket at kind) is said in absurd (cc (never));
        pending = λ other said.
            let same = same_refusal e.report.refusal (NeedsReopen faults) (NeedsReopen other) is said in
            let faults_are : faults ≡ other = cc (same) in (opened, subst (λ (n : ℕ). IsCountedSince device e.disk e.disk' (Some n)) faults_are counted);
      }

      reported_over : WasOverLimit device e files clock words before → IsOnlyReported
      reported_over over = reported_other (Limit over.which (limit_of over.which)) over.limit (apart over.passed)
        where
          apart : ArePassed files over.moment words before over.reached over.which ⊎ ((over.which ≡ Records) × AreRecordsPassed device e before over.reached) → TellsOfOutside (Limit over.which (limit_of over.which)) → ⊥
          apart (inl rows) tells = no_rows rows.limit (limit_of over.which) (subst (λ (w : Which). TellsOfOutside (Limit w (limit_of over.which))) rows.which_is tells)
          apart (inr log) tells = subst (λ (w : Which). TellsOfOutside (Limit w (limit_of over.which))) log.0 tells

      cut_is : (refusal : Refusal) → IsCut files clock words before (facts sealed) asks c came device e refusal → is_interruption refusal ≡ true
      cut_is OutOfMemory cut = refl
      cut_is ReadFault cut = refl
      cut_is DiskFault cut = refl
      cut_is other cut = absurd cut

      -- what is reported of a job is so
      reported_of_job : (t : ReportedRefusal) → reported_of words.link c.ends c.others ≡ Some t → StandsFilled (device.reads e.disk) before → IsReportedEnd files clock words before (facts sealed) asks c came device e t → IsOnlyReported
      reported_of_job t is stands end = elim (cause_of files clock words before (facts sealed) asks c came device e t end is (first_reported files clock words before (facts sealed) asks c came t is)) [
        | inl broken ↦ reported_broken stands broken.0 broken.1 broken.2 broken.3
        | inr others ↦ elim others [
          | inl overlong ↦ reported_overlong stands overlong.0 overlong.1
          | inr hindered ↦ elim hindered [
            | inl cut ↦ reported_cut t.refusal end.refusal (cut_is t.refusal cut)
            | inr why ↦ elim why.1 [
              | inl pending ↦ reported_pending pending
              | inr over ↦ reported_over over
            ]
          ]
        ]
      ]

      printing_only : (a : List Ask) (t u : Progress) → EachEnd Leaves (answering_asks_plan a t (May OfOutput t (Stop u None)))
      printing_only [] t u = (λ did. reported_cut WriteFault (ap (λ (r : Report). r.refusal) did.report) refl, λ did. reported_none (ap (λ (r : Report). r.refusal) did.report))
      printing_only (ask ∷ more) t u = (
        λ did. reported_cut OutOfMemory (ap (λ (r : Report). r.refusal) did.report) refl,
        (λ did. reported_cut WriteFault (ap (λ (r : Report). r.refusal) did.report) refl, λ did. reported_none (ap (λ (r : Report). r.refusal) did.report)),
      )

      filled_only : (full : Bool) → EachEnd Leaves (after_filling (history_extended dumps before None c) (load_printing_plan dumps before asks c) full)
      filled_only true = λ did. reported_other (Limit Records (limit_of Records)) (ap (λ (r : Report). r.refusal) did.report) (λ tells. tells)
      filled_only false = printing_only asks _ _

      abbrev filling : CommandPlan Progress ⊥
      filling =
          May OfDisk (fill_failed before c.reached (history_extended dumps before None c))
          (Choose (λ (full : Bool). Unit {0}) (after_filling (history_extended dumps before None c) (load_printing_plan dumps before asks c)))

      behind_only : (t : ReportedRefusal) → reported_of words.link c.ends c.others ≡ Some t → c.failed ≡ None → (end : FillingEnd)
          → EachEnd {X = ⊥} Leaves (Stop (filled_to before c.reached (job_refused dumps before c t) end) (Some t.refusal))
      behind_only t is none end = λ did.
          let ended = filled_end files clock words before (facts sealed) asks c came device e known dumps t none end did in reported_of_job t is ended.0.stands ended.1

      jobs_only : (said : Option ReportedRefusal) → reported_of words.link c.ends c.others ≡ said → (failed : Option Addition) → c.failed ≡ failed → EachEnd Leaves (after_jobs (IsTrue device.is_transparent) dumps before asks c said failed)
      jobs_only None is failed has = (
        λ did. reported_cut OutOfMemory (ap (λ (r : Report). r.refusal) did.report) refl,
        pages_left Leaves (IsTrue device.is_transparent) known (history_extended dumps before None c) filling (λ did. reported_cut DiskFault (ap (λ (r : Report). r.refusal) did.report) refl)
            (λ did. reported_cut DiskFault (ap (λ (r : Report). r.refusal) did.report) refl, λ full counted. filled_only full),
      )
      jobs_only (Some t) is None has = λ end ends. behind_only t is has end
      jobs_only (Some t) is (Some addition) has = λ did.
          let ended = written_end files clock words before (facts sealed) asks c came device e known dumps t addition has did in reported_of_job t is ended.0.stands ended.1

    -- ---- before them

    module _ (text : Option (List ℕ)) (named : HasRouteText files words.route text) (there : AreThere files words.dumps) (filled : FilledArchive) where
      module _ (route : List RouteStatement) (routed : IsRouteAnswer filled.plain text (Ok route)) where
        run_only : (asks : List Ask) → HasAsks files words.asks (Ok asks) → EachEnd Leaves (jobs_plan facts (Some files) clock words filled route asks)
        run_only asks has = λ sealed any g given c outcome.
            jobs_only filled asks c sealed (record { text = text; named = named; route = route; routed = routed; sheet = has; there = there; g = g; given = given; told = λ paged. known; outcome = outcome })
            (reported_of words.link c.ends c.others) refl c.failed refl

        check_only : (asks : List Ask) → HasAsks files words.asks (Ok asks) → (found : Option Refusal) → found ≡ archive_asks_refusal filled.plain asks
            → EachEnd Leaves (and_then (after_asks_check (archive_opened dumps filled) asks found) (jobs_plan facts (Some files) clock words filled route))
        check_only asks has None is = run_only asks has
        check_only asks has (Some refusal) is = λ did. reported_other refusal (ap (λ (r : Report). r.refusal) did.report) (no_asks filled.plain asks refusal (sym is))

        sheet_only : (name : Option (List ℕ)) (refusal : Refusal) → HasAsks files name (Err refusal) → EachEnd {X = ⊥} Leaves (Stop (archive_opened dumps filled) (Some refusal))
        sheet_only None refusal has = absurd (cc (has))
        sheet_only (Some name) refusal has = λ did. reported_other refusal (ap (λ (r : Report). r.refusal) did.report) (no_asks_sheet has.octets refusal (sym has.sheet_is))

        asks_only : (sheet : Result (List Ask) Refusal) → HasAsks files words.asks sheet → EachEnd Leaves (after_route facts (Some files) clock words sheet filled route)
        asks_only (Ok asks) has = (λ did. reported_cut OutOfMemory (ap (λ (r : Report). r.refusal) did.report) refl, λ found is. check_only asks has found is)
        asks_only (Err refusal) has = sheet_only words.asks refusal has

      module _ (sheet : Result (List Ask) Refusal) (has : HasAsks files words.asks sheet) where
        route_only : (answer : Result (List RouteStatement) Refusal) → IsRouteAnswer filled.plain text answer
            → EachEnd Leaves (and_then (after_answer (archive_opened dumps filled) answer) (after_route facts (Some files) clock words sheet filled))
        route_only (Ok route) routed = asks_only route routed sheet has
        route_only (Err refusal) answer = λ did. reported_other refusal (ap (λ (r : Report). r.refusal) did.report) (no_route files words.route text filled refusal named answer)

        links_only : (found : Option Refusal) → found ≡ links_refusal words → EachEnd Leaves (after_links facts (Some files) clock (load_asked words text sheet) filled found)
        links_only None is = (λ did. reported_cut OutOfMemory (ap (λ (r : Report). r.refusal) did.report) refl, λ answer routed. route_only answer routed)
        links_only (Some refusal) is = λ did. reported_other refusal (ap (λ (r : Report). r.refusal) did.report) (no_links words refusal (sym is))

    opening_only : (held : OpeningResult) → EachEnd Leaves (after_opening dumps held)
    opening_only NoneFound = λ did. reported_other NoArchive (ap (λ (r : Report). r.refusal) did.report) (λ tells. tells)
    opening_only (DamageFound file at) = λ did. reported_other (Damaged file at) (ap (λ (r : Report). r.refusal) did.report) (λ tells. tells)
    opening_only (ArchiveFound filled) = tt

    module _ (text : Option (List ℕ)) (named : HasRouteText files words.route text) (sheet : Result (List Ask) Refusal) (has : HasAsks files words.asks sheet) where
      opened_only : AreThere files words.dumps → EachEnd Leaves (opened_plan dumps device e.disk (λ records. loading_plan facts (Some files) clock (load_asked words text sheet)))
      opened_only there = (
        λ did. reported_cut OutOfMemory (ap (λ (r : Report). r.refusal) did.report) refl,
        each_end Leaves (opening_plan dumps device e.disk) (loading_plan facts (Some files) clock (load_asked words text sheet)) (
          λ did. reported_cut OutOfMemory (ap (λ (r : Report). r.refusal) did.report) refl,
          (λ did. reported_cut DiskFault (ap (λ (r : Report). r.refusal) did.report) refl, λ held h. opening_only held),
        ) (λ filled found is. links_only text named there filled sheet has found is),
      )

      unopened_only : (refusal : Refusal) → IsUnread e refusal → IsFirstMissing files words.dumps refusal ⊎ (is_interruption refusal ≡ true) → IsOnlyReported
      unopened_only refusal is (inl missing) =
          reported_unread refusal (ap (λ (r : Report). r.refusal) is.report) (missing_kind words.dumps refusal missing) (inr (have_read files words text sheet named has, inl missing))
      unopened_only refusal is (inr off) = reported_cut refusal (ap (λ (r : Report). r.refusal) is.report) off

      archive_only : EachEnd Leaves (archive_load_plan device e.disk (Some files) clock words text sheet)
      archive_only = each_opened device e IsOnlyReported files words.dumps 0 (λ done. opened_plan dumps device e.disk (λ records. loading_plan facts (Some files) clock (load_asked words text sheet))) unopened_only opened_only

    -- the files that are read first
    abbrev AmongFirst : List (Which × List ℕ) → Type 0
    AmongFirst named = (refusal : Refusal) → IsFirstUnread files named refusal → IsFirstUnread files (load_files words) refusal

    asked_only : (name : Option (List ℕ)) (next : Result (List Ask) Refusal → CommandPlan Progress ⊥) → AmongFirst (named_file SheetOctets name)
        → ((sheet : Result (List Ask) Refusal) → HasAsks files name sheet → EachEnd Leaves (next sheet)) → EachEnd Leaves (asked_plan (Some files) name next)
    asked_only None next among each = each (Ok []) refl
    asked_only (Some name) next among each =
        each_read device e IsOnlyReported files SheetOctets (λ octets. asks_of octets) name 0 (λ (sheet : Result (List Ask) Refusal). map_done (with_sources 1) (next sheet))
        (λ refusal is cause. unread_file SheetOctets name tt refusal is (λ unread. among refusal (inl unread)) cause)
        (λ octets file. each_behind device e IsOnlyReported files 1 (next (asks_of octets)) (each (asks_of octets) (record { octets = octets; file = file; sheet_is = refl })))

    routed_only : (name asks : Option (List ℕ)) (next : Option (List ℕ) → CommandPlan Progress ⊥) → AmongFirst (named_file ScriptOctets name ++ named_file SheetOctets asks)
        → ((text : Option (List ℕ)) → HasRouteText files name text → AmongFirst (named_file SheetOctets asks) → EachEnd Leaves (next text)) → EachEnd Leaves (routed_plan (Some files) name next)
    routed_only None asks next among each = each None refl among
    routed_only (Some name) asks next among each =
        each_read device e IsOnlyReported files ScriptOctets (λ octets. octets) name 0 (λ (text : List ℕ). map_done (with_sources 1) (next (Some text)))
        (λ refusal is cause. unread_file ScriptOctets name tt refusal is (λ unread. among refusal (inl unread)) cause)
        (λ octets file. each_behind device e IsOnlyReported files 1 (next (Some octets)) (each (Some octets) (octets, file, refl) (λ refusal first. among refusal (inr (octets, file, first)))))

    read_only : EachEnd Leaves (read_load_plan device e.disk (Some files) clock words)
    read_only = routed_only words.route words.asks (routed_load_plan device e.disk (Some files) clock words) (λ refusal first. first)
        (λ text named among. asked_only words.asks (archive_load_plan device e.disk (Some files) clock words text) among (λ sheet has. archive_only text named sheet has))

    limits_only : (found : Option Refusal) → found ≡ load_limit_refusal words → EachEnd Leaves (after_limits device e.disk (Some files) clock words found)
    limits_only None is = read_only
    limits_only (Some refusal) is = λ did. reported_other refusal (ap (λ (r : Report). r.refusal) did.report) (no_words words refusal (sym is))

    each_load : EachEnd Leaves (load_plan device e.disk (Some files) clock words)
    unfolding load_plan
    each_load = λ found is. limits_only found is

-- ---- so it is of each call

pub only_reported : {D : Type 0} (device : Device D) (e : Call D) (files : Files) (clock : Option ℤ) (words : LoadWords) (run : IsRun device e files clock (Load words)) → IsOnlyReported device e files clock words
only_reported device e files clock words run = by_job device e files clock (Load words) run (IsOnlyReported device e files clock words)
    (λ did. reported_cut device e files clock words OutOfMemory (ap (λ (r : Report). r.refusal) did.report) refl)
    (λ way allows end. end_of (Leaves device e files clock words) (load_plan device e.disk (Some files) clock words) way (each_load device e files clock words run.transparent) allows end.did)
