-- The ends of the plan of `load`.
use Rattle.std.proofs.Common.{◌≡◌, ◌⊎◌, ◌∙◌, inl, inr, ℕ, ℤ, ◌-◌, List, [], ◌∷◌, ◌++◌, length, Bool, true, false, Option, Some, None, refl, sym, ap, subst, append-nil, arith}
use Rattle.std.specs.Prelude.{IsSome, IsTrue, Result, Ok, Err}
use Rattle.arch_disk.specs.Image.{Image}
use Rattle.arch_disk.specs.Disk.{Device}
use Rattle.asks.specs.declared.ask.Ask.{Ask}
use Rattle.refusals.specs.declared.refusal.Refusal.{Refusal}
use Rattle.refusals.specs.declared.refusal.Refusal.TheVariants.{Damaged, DiskFault, Limit, NoArchive, OutOfMemory, WriteFault}
use Rattle.refusals.specs.declared.refusal.Which.TheVariants.{Records, ScriptOctets, SheetOctets}
use Rattle.refusals.specs.Limits.{limit_of}
use Rattle.outer_traits.specs.Outside.{Files}
use Rattle.mdb_sheets.specs.Asks.{asks_of}
use Rattle.history_items.specs.declared.fills.Addition.{Addition}
use Rattle.history_items.specs.declared.items.Item.{Item}
use Rattle.history_items.specs.Items.{items_of}
use Rattle.archive_store.specs.Entries.{FilledArchive}
use Rattle.archive_store.specs.Stands.{StandsFor}
use Rattle.archive_store.proofs.Exact.{filled_once}
use Rattle.archive_store.proofs.PendingFaults.{prefix_self}
use Rattle.stream_graph.specs.declared.statement.RouteStatement.{RouteStatement}
use Rattle.live_asks.specs.LiveAsks.{DiskFacts, disk_facts}
use Rattle.live_session.specs.declared.reported.ReportedRefusal.{ReportedRefusal}
use Rattle.live_session.specs.Outcome.{JobsOutcome, reported_of}
use Rattle.command_plans.specs.Plan.{Choose, CommandPlan, EachEnd, May, OfDisk, OfOutput, Stop, Way, and_then, map_done}
use Rattle.command_plans.proofs.Plans.{each_end, end_of}
use Rattle.command_words.specs.Job.{Load, LoadWords}
use Rattle.command_words.specs.LoadLimits.{load_limit_refusal}
use Rattle.command_runs.specs.declared.report.Report.{Report}
use Rattle.command_runs.specs.ArchiveWork.{opened_plan}
use Rattle.command_runs.specs.Command.{ArchiveFound, DamageFound, HasEffects, NoneFound, OpeningResult, Progress, after_opening, archive_opened, opening_plan}
use Rattle.command_runs.specs.Extension.{IsAllFilled}
use Rattle.command_runs.specs.FillingPlan.{FillingEnd, Refused, Unread, Unwritten, Whole, after_filling, all_filled, fill_failed, filled_to}
use Rattle.command_runs.specs.Moment.{IsMomentOf}
use Rattle.command_runs.specs.ReadOnly.{IsReadAsBefore, IsReadOnly}
use Rattle.command_runs.specs.Report.{loaded, read_only, unopened}
use Rattle.ask_answers.specs.Asks.{after_asks_check, asked_plan, with_sources}
use Rattle.script_answers.specs.Scripts.{after_answer}
use Rattle.load_command.specs.Load.{after_jobs, after_limits, after_links, after_route, answering_asks_plan, archive_load_plan, history_extended, job_refused, jobs_plan, load_plan, load_printing_plan, loading_plan, read_load_plan, routed_load_plan, routed_plan}
use Rattle.load_command.specs.LoadLine.{load_text, whole_report}
use Rattle.load_command.specs.Loading.{IsRouteAnswer, load_asked}
use Rattle.command_laws.specs.Calls.{Call, HasSameHistory, IsRun, IsUnopened, LeavesDisk, Prints, PrintsSome, Succeeded, effects}
use Rattle.command_laws.specs.Links.{AreReceived, AreReceivedWhole, AreThere, HasAsks, HasRouteText, IsGrown, arrived_of, load_files}
use Rattle.command_laws.specs.Load.{IsLoadPrinted, IsLoaded, IsOnTheWay, IsRefusedLoad, IsSilent, IsWholeLoad, TellsOfDump}
use Rattle.command_laws.specs.NamedFiles.{IsFirstUnread, named_file}
use Rattle.command_laws.proofs.Dumps.{some_moment}
use Rattle.command_laws.proofs.FirstRefused.{link_of_dump}
use Rattle.command_laws.proofs.JobsEnds.{filled_end, written_end}
use Rattle.command_laws.proofs.JobsLoaded.{AreWholeFrom, CameToJobs, all_whole, grown, moment, only_rows}
use Rattle.command_laws.proofs.Left.{is_unopened, kept_back, not_asked, opened_once, since_opening, sound_moments, untouched}
use Rattle.command_laws.proofs.LoadTexts.{answers as printed_answers, load_answers, whole_text}
use Rattle.command_laws.proofs.OnTheWay.{IsDiskLoaded, extended_disk, read_only_disk, unfilled_disk}
use Rattle.command_laws.proofs.Pages.{read_left as pages_left}
use Rattle.command_laws.proofs.Readings.{IsUnread, each_behind, each_opened, each_read, read_or_not}
use Rattle.command_laws.proofs.Runs.{all_is_some, by_job, none_or_some, same_refusal}

-- all but what is due
pub record IsLeft {D : Type 0} (device : Device D) (e : Call D) (files : Files) (clock : Option ℤ) (words : LoadWords) : Type 0 where
  pub opened : e.report.opened ≡ true → IsLoaded device e files clock words
  pub unopened : e.report.opened ≡ false → LeavesDisk device e × IsUnopened e
  pub limited : (refusal : Refusal) → load_limit_refusal words ≡ Some refusal → Prints e []
  pub quiet : (refusal : Refusal) → IsFirstUnread files (load_files words) refusal → Prints e []

-- files that were read aren't such as weren't
named_read : (files : Files) (route asks : Option (List ℕ)) (text : Option (List ℕ)) (sheet : Result (List Ask) Refusal) (refusal : Refusal) → HasRouteText files route text → HasAsks files asks sheet
    → IsFirstUnread files (named_file ScriptOctets route ++ named_file SheetOctets asks) refusal → ⊥
named_read files None None text sheet refusal named has never = never
named_read files None (Some name) text sheet refusal named has (inl unread) = read_or_not files SheetOctets name has.octets refusal has.file unread
named_read files None (Some name) text sheet refusal named has (inr others) = others.2
named_read files (Some name) asks text sheet refusal named has (inl unread) = read_or_not files ScriptOctets name named.0 refusal named.1 unread
named_read files (Some name) None text sheet refusal named has (inr others) = others.2
named_read files (Some name) (Some other) text sheet refusal named has (inr (octets, was, inl unread)) = read_or_not files SheetOctets other has.octets refusal has.file unread
named_read files (Some name) (Some other) text sheet refusal named has (inr (octets, was, inr others)) = others.2

-- no link is reported
no_link_named : {Q : Type 0} → IsSome {T = ℕ} None → Q
no_link_named some = absurd (cc (some))

module _ {D : Type 0} (device : Device D) (e : Call D) (files : Files) (clock : Option ℤ) (words : LoadWords) (known : IsTrue device.is_transparent) where
  abbrev Left : Type 0
  Left = IsLeft device e files clock words

  abbrev Leaves : Way Progress ⊥ → Type 0
  Leaves way = HasEffects device (effects e) way → Left

  abbrev facts : ℕ → DiskFacts
  facts = disk_facts device e.disk

  abbrev dumps : ℕ
  dumps = length words.dumps

  -- no archive was opened
  left_unopened : (refusal : Refusal) → e.report ≡ unopened (Some refusal) → Prints e [] → IsReadAsBefore device e.disk e.disk' → Left
  left_unopened refusal report silent kept = record {
    opened = λ is. opened_once e.report.opened is (ap (λ (t : Report). t.opened) report);
    unopened = λ no. (untouched device e kept, is_unopened device e refusal report silent);
    limited = λ passed many. silent;
    quiet = λ refused first. silent;
  }

  left_unread : (refusal : Refusal) → IsUnread e refusal → Left
  left_unread refusal unread = left_unopened refusal unread.report unread.silent (not_asked device e unread.disk)

  refused_silent : (refusal : Refusal) → e.report.refusal ≡ Some refusal → Prints e [] → IsSilent e
  refused_silent refusal is silent = (subst IsSome (sym is) refl, silent)

  -- ---- an archive was opened

  module _ (few : load_limit_refusal words ≡ None) where
    unlimited : (refusal : Refusal) → load_limit_refusal words ≡ Some refusal → Prints e []
    unlimited refusal many = none_or_some (load_limit_refusal words) refusal many few

    module _ (before : FilledArchive) (moment' : ℤ) (clocked : IsMomentOf clock moment') (reached : List Item) (came : IsGrown files moment' words before reached) (disk : IsDiskLoaded files moment' words before reached device e) where
      abbrev OnTheWay : Image → Type 0
      OnTheWay = IsOnTheWay files moment' words before reached

      at_first : (c : Image) → HasSameHistory device e c → OnTheWay c
      at_first c (filled, there, here) = record {
        history = before.plain.history;
        no_fewer = prefix_self before.plain.history;
        stands = subst (λ (f : FilledArchive). StandsFor c f.plain) (filled_once (device.reads e.disk) filled before there disk.stands) here;
        within = inl (items_of came.more, sym came.grown);
      }

      left_opened : e.report.opened ≡ true → e.report.before ≡ length before.plain.history → e.report.after ≡ length reached → (Succeeded e → IsWholeLoad device e files moment' words before reached)
          → IsSilent e ⊎ IsLoadPrinted device e files moment' words before reached → ((refusal : Refusal) → IsFirstUnread files (load_files words) refusal → Prints e [])
          → ((refusal : Refusal) → e.report.refusal ≡ Some refusal → IsRefusedLoad e before reached refusal) → Left
      left_opened is_open first last whole printed quiet reported_so =
          let since = since_opening device e OnTheWay OnTheWay disk.images (λ c way. way) in record {
            opened = λ is. record {
              before = before;
              held = disk.stands;
              moment = moment';
              known = clocked;
              reached = reached;
              handed_back = disk.now (device.reads e.disk') (device.reads_as_image e.disk' known);
              lasting = disk.now;
              lengths = (first, last);
              grown = came;
              whole = whole;
              printed = printed;
              crashes = λ all. sound_moments device e known OnTheWay (inr since) (λ c now. ((all c now).0, at_first c (all c now).1));
              since = since;
              refused = reported_so;
              in_order = disk.back;
            };
            unopened = λ no. opened_once e.report.opened is_open no;
            limited = unlimited;
            quiet = quiet;
          }

      -- it was refused by a refusal of which this is reported
      left_refused : (link : Option ℕ) (refusal : Refusal) → (IsSome link → TellsOfDump refusal) → e.report ≡ loaded (Some refusal) link (length before.plain.history) (length reached) 0 0 0
          → ((refusal ≡ WriteFault → ⊥) → (refusal ≡ OutOfMemory → ⊥) → Prints e []) → IsSilent e ⊎ IsLoadPrinted device e files moment' words before reached
          → ((other : Refusal) → IsFirstUnread files (load_files words) other → Prints e []) → Left
      left_refused link refusal named report silent printed quiet =
          let is : e.report.refusal ≡ Some refusal = ap (λ (t : Report). t.refusal) report in
          left_opened (ap (λ (t : Report). t.opened) report) (ap (λ (t : Report). t.before) report) (ap (λ (t : Report). t.after) report)
          (λ ok. none_or_some e.report.refusal refusal is ok) printed quiet
          (λ reported is_reported.
          let same = same_refusal e.report.refusal refusal reported is is_reported in record {
            link = link;
            report = subst (λ (r : Refusal). e.report ≡ loaded (Some r) link (length before.plain.history) (length reached) 0 0 0) same report;
            named = subst (λ (r : Refusal). IsSome link → TellsOfDump r) same named;
            silent = subst (λ (r : Refusal). (r ≡ WriteFault → ⊥) → (r ≡ OutOfMemory → ⊥) → Prints e []) same silent;
          })

    -- it was left as it was
    left_as_was : (before : FilledArchive) → IsReadOnly device e.disk e.disk' before → (refusal : Refusal) → e.report ≡ read_only (Some refusal) (length before.plain.history) → Prints e [] → Left
    left_as_was before only refusal report silent =
        let clocked = some_moment clock in
        let history = before.plain.history in
        let none_new : 0 ≡ length history - length history = omega arith in
        left_refused before clocked.0 clocked.1 history (record { more = []; grown = sym (append-nil history); links = λ k row below. absurd (omega (arith, below)); come = λ link own. inl refl })
        (read_only_disk files clocked.0 words before device e only) None refusal no_link_named
        (report ∙ ap (λ (n : ℕ). record (read_only (Some refusal) (length history)) { new = n }) none_new)
        (λ written wanting. silent) (inl (refused_silent refusal (ap (λ (t : Report). t.refusal) report) silent)) (λ other first. silent)

    -- ---- behind jobs

    module _ (before : FilledArchive) (asks : List Ask) (c : JobsOutcome) (sealed : ℕ) (came : CameToJobs files clock words before (facts sealed) asks c) where
      abbrev now : ℤ
      now = moment files clock words before (facts sealed) asks c came

      abbrev Disk : Type 0
      Disk = IsDiskLoaded files now words before c.reached device e

      has_grown : IsGrown files now words before c.reached
      has_grown = grown files clock words before (facts sealed) asks c came

      all_named : (refusal : Refusal) → IsFirstUnread files (load_files words) refusal → ⊥
      all_named refusal first = named_read files words.route words.asks came.text (Ok asks) refusal came.named came.sheet first

      abbrev reports : Option ℕ → Refusal → Type 0
      reports link refusal = e.report ≡ loaded (Some refusal) link (length before.plain.history) (length c.reached) 0 0 0

      -- by a refusal before anything was printed
      left_quiet : (link : Option ℕ) (refusal : Refusal) → (IsSome link → TellsOfDump refusal) → reports link refusal → Prints e [] → Disk → Left
      left_quiet link refusal named report silent disk =
          left_refused before now came.given.moment c.reached has_grown disk link refusal named report (λ written wanting. silent)
          (inl (refused_silent refusal (ap (λ (t : Report). t.refusal) report) silent)) (λ other first. absurd (all_named other first))

      -- ---- what was printed

      module _ (none : reported_of words.link c.ends c.others ≡ None) where
        abbrev AllWhole : Type 0
        AllWhole = AreWholeFrom files clock words before (facts sealed) asks c came words.link c.ends

        all_came : AllWhole
        all_came = all_whole files clock words before (facts sealed) asks c came none

        received_whole : AreReceivedWhole files now words before c.reached all_came.dumps
        received_whole = record {
          received = all_came.received;
          whole = all_came.whole;
          alone = λ d is.
              let last = (subst (AreReceived files now words before words.link) is all_came.received).1 in
              let one : length words.dumps ≡ 1 = omega (arith, last) in
              all_came.alone d is came.outcome.more came.outcome.grown (only_rows files clock words before (facts sealed) asks c came one);
        }

        abbrev text : List ℕ
        text = load_text before.plain asks c

        printed_so : PrintsSome e text → (Succeeded e → Prints e text) → IsLoadPrinted device e files now words before c.reached
        printed_so some all = let is = whole_text files clock words before device e known asks c sealed came none all_came in record {
          dumps = all_came.dumps;
          received = received_whole;
          answers = printed_answers files clock words before device e known asks c sealed came none all_came;
          answered = load_answers files clock words before device e known asks c sealed came none all_came;
          some = subst (PrintsSome e) is some;
          all = λ ok. subst (Prints e) is (all ok);
        }

        -- some of it was
        left_part : (refusal : Refusal) → (refusal ≡ WriteFault) ⊎ (refusal ≡ OutOfMemory) → reports None refusal → PrintsSome e text → IsAllFilled device e.disk e.disk' before c.reached → Left
        left_part refusal cut report some x =
            left_refused before now came.given.moment c.reached has_grown (extended_disk files now words before c.reached device e x.extended) None refusal no_link_named report
            (λ written wanting. absurd (elim cut [ inl w ↦ written w | inr m ↦ wanting m ]))
            (inr (printed_so some (λ ok. none_or_some e.report.refusal refusal (ap (λ (t : Report). t.refusal) report) ok))) (λ other first. absurd (all_named other first))

        -- or all
        left_whole : e.report ≡ whole_report (length before.plain.history) c → Prints e text → IsAllFilled device e.disk e.disk' before c.reached → Left
        left_whole report all x =
            let new : e.report.new ≡ length c.reached - length before.plain.history = ap (λ (t : Report). t.new) report in
            left_opened before now came.given.moment c.reached has_grown (extended_disk files now words before c.reached device e x.extended)
            (ap (λ (t : Report). t.opened) report) (ap (λ (t : Report). t.before) report) (ap (λ (t : Report). t.after) report)
            (λ ok. (
              all_came.dumps,
              received_whole,
              record { back = kept_back device e before c.reached x.extended.kept; none_late = x.none_late },
              record {
                new = new;
                packets_are = ap (λ (t : Report). t.packets) report ∙ all_came.packets_are;
                idle = ap (λ (t : Report). t.idle) report ∙ all_came.idle;
                duplicates = ap (λ (t : Report). t.duplicates) report ∙ ap (λ (n : ℕ). n - (length c.reached - length before.plain.history)) all_came.arrived_are
                    ∙ ap (λ (n : ℕ). arrived_of all_came.dumps - n) (sym new);
                no_link = ap (λ (t : Report). t.link) report;
              },
            )) (inr (printed_so (all_is_some e text all) (λ ok. all))) (λ refused first. absurd (all_named refused first))
            (λ refusal is. none_or_some e.report.refusal refusal is (ap (λ (t : Report). t.refusal) report))

        abbrev done : Progress
        done = all_filled before c.reached (history_extended dumps before None c)

        abbrev behind_asks : CommandPlan Progress ⊥
        behind_asks = May OfOutput (record done { text = text; is_whole = false }) (Stop (record done { text = text; report = whole_report (length before.plain.history) c }) None)

        behind_left : EachEnd Leaves behind_asks
        behind_left = (
          λ did. left_part WriteFault (inl refl) did.report did.printed (did.disk.1 known),
          λ did. left_whole did.report did.printed (did.disk.1 known),
        )

        printing_left : (a : List Ask) → EachEnd Leaves (answering_asks_plan a (record done { text = text; is_whole = false }) behind_asks)
        printing_left [] = behind_left
        printing_left (ask ∷ more) = (λ did. left_part OutOfMemory (inr refl) did.report did.printed (did.disk.1 known), behind_left)

        filled_left : (full : Bool) → EachEnd Leaves (after_filling (history_extended dumps before None c) (load_printing_plan dumps before asks c) full)
        filled_left true = λ did. left_quiet None (Limit Records (limit_of Records)) no_link_named did.report did.printed (extended_disk files now words before c.reached device e (did.disk.1 known))
        filled_left false = printing_left asks

        abbrev filling : CommandPlan Progress ⊥
        filling =
            May OfDisk (fill_failed before c.reached (history_extended dumps before None c))
            (Choose (λ (full : Bool). Unit {0}) (after_filling (history_extended dumps before None c) (load_printing_plan dumps before asks c)))

        unrefused_left : (failed : Option Addition) → EachEnd Leaves (after_jobs (IsTrue device.is_transparent) dumps before asks c None failed)
        unrefused_left failed = (
          λ did. left_quiet None OutOfMemory no_link_named did.report did.printed (extended_disk files now words before c.reached device e (did.disk.1 known)),
          pages_left Leaves (IsTrue device.is_transparent) known (history_extended dumps before None c) filling
              (λ did. left_quiet None DiskFault no_link_named did.report did.printed (extended_disk files now words before c.reached device e (did.disk.1 known))) (
                λ did. left_quiet None DiskFault no_link_named did.report did.printed (unfilled_disk files now words before c.reached device e (did.disk.1 known)),
                λ full is. filled_left full,
              ),
        )

      -- ---- a job was refused

      of_dump : (t : ReportedRefusal) → reported_of words.link c.ends c.others ≡ Some t → IsSome t.link → TellsOfDump t.refusal
      of_dump t is some = link_of_dump words.link c.ends c.others t is some

      job_left : (t : ReportedRefusal) → reported_of words.link c.ends c.others ≡ Some t → c.failed ≡ None → (end : FillingEnd) → EachEnd {X = ⊥} Leaves (Stop (filled_to before c.reached (job_refused dumps before c t) end) (Some t.refusal))
      job_left t is none Whole = λ did. left_quiet t.link t.refusal (of_dump t is) did.report did.printed (filled_end files clock words before (facts sealed) asks c came device e known dumps t none Whole did).0
      job_left t is none Unwritten = λ did. left_quiet t.link t.refusal (of_dump t is) did.report did.printed (filled_end files clock words before (facts sealed) asks c came device e known dumps t none Unwritten did).0
      job_left t is none Unread = λ did. left_quiet t.link t.refusal (of_dump t is) did.report did.printed (filled_end files clock words before (facts sealed) asks c came device e known dumps t none Unread did).0
      job_left t is none Refused = λ did. left_quiet t.link t.refusal (of_dump t is) did.report did.printed (filled_end files clock words before (facts sealed) asks c came device e known dumps t none Refused did).0

      jobs_left : (said : Option ReportedRefusal) → reported_of words.link c.ends c.others ≡ said → (failed : Option Addition) → c.failed ≡ failed → EachEnd Leaves (after_jobs (IsTrue device.is_transparent) dumps before asks c said failed)
      jobs_left None is failed has = unrefused_left is failed
      jobs_left (Some t) is None has = λ end ends. job_left t is has end
      jobs_left (Some t) is (Some addition) has =
          λ did. left_quiet t.link t.refusal (of_dump t is) did.report did.printed (written_end files clock words before (facts sealed) asks c came device e known dumps t addition has did).0

    -- ---- before them

    module _ (text : Option (List ℕ)) (named : HasRouteText files words.route text) (there : AreThere files words.dumps) (filled : FilledArchive) where
      module _ (route : List RouteStatement) (routed : IsRouteAnswer filled.plain text (Ok route)) where
        run_left : (asks : List Ask) → HasAsks files words.asks (Ok asks) → EachEnd Leaves (jobs_plan facts (Some files) clock words filled route asks)
        run_left asks has = λ sealed any g given c outcome.
            jobs_left filled asks c sealed (record { text = text; named = named; route = route; routed = routed; sheet = has; there = there; g = g; given = given; told = λ paged. known; outcome = outcome })
            (reported_of words.link c.ends c.others) refl c.failed refl

        check_left : (asks : List Ask) → HasAsks files words.asks (Ok asks) → (found : Option Refusal)
            → EachEnd Leaves (and_then (after_asks_check (archive_opened dumps filled) asks found) (jobs_plan facts (Some files) clock words filled route))
        check_left asks has None = run_left asks has
        check_left asks has (Some refusal) = λ did. left_as_was filled (did.disk.1 known) refusal did.report did.printed

        asks_left : (sheet : Result (List Ask) Refusal) → HasAsks files words.asks sheet → EachEnd Leaves (after_route facts (Some files) clock words sheet filled route)
        asks_left (Ok asks) has = (λ did. left_as_was filled (did.disk.1 known) OutOfMemory did.report did.printed, λ found is. check_left asks has found)
        asks_left (Err refusal) has = λ did. left_as_was filled (did.disk.1 known) refusal did.report did.printed

      module _ (sheet : Result (List Ask) Refusal) (has : HasAsks files words.asks sheet) where
        route_left : (answer : Result (List RouteStatement) Refusal) → IsRouteAnswer filled.plain text answer
            → EachEnd Leaves (and_then (after_answer (archive_opened dumps filled) answer) (after_route facts (Some files) clock words sheet filled))
        route_left (Ok route) routed = asks_left route routed sheet has
        route_left (Err refusal) refused = λ did. left_as_was filled (did.disk.1 known) refusal did.report did.printed

        links_left : (found : Option Refusal) → EachEnd Leaves (after_links facts (Some files) clock (load_asked words text sheet) filled found)
        links_left None = (λ did. left_as_was filled (did.disk.1 known) OutOfMemory did.report did.printed, λ answer is. route_left answer is)
        links_left (Some refusal) = λ did. left_as_was filled (did.disk.1 known) refusal did.report did.printed

    opening_left : (held : OpeningResult) → EachEnd Leaves (after_opening dumps held)
    opening_left NoneFound = λ did. left_unopened NoArchive did.report did.printed (did.disk.1 known)
    opening_left (DamageFound file at) = λ did. left_unopened (Damaged file at) did.report did.printed (did.disk.1 known)
    opening_left (ArchiveFound filled) = tt

    module _ (text : Option (List ℕ)) (named : HasRouteText files words.route text) (sheet : Result (List Ask) Refusal) (has : HasAsks files words.asks sheet) where
      opened_left : AreThere files words.dumps → EachEnd Leaves (opened_plan dumps device e.disk (λ records. loading_plan facts (Some files) clock (load_asked words text sheet)))
      opened_left there = (
        λ did. left_unopened OutOfMemory did.report did.printed (not_asked device e did.disk),
        each_end Leaves (opening_plan dumps device e.disk) (loading_plan facts (Some files) clock (load_asked words text sheet)) (
          λ did. left_unopened OutOfMemory did.report did.printed (did.disk.1 known),
          (λ did. left_unopened DiskFault did.report did.printed (did.disk.1 known), λ held h. opening_left held),
        ) (λ filled found is. links_left text named there filled sheet has found),
      )

      archive_left : EachEnd Leaves (archive_load_plan device e.disk (Some files) clock words text sheet)
      archive_left = each_opened device e Left files words.dumps 0 (λ done. opened_plan dumps device e.disk (λ records. loading_plan facts (Some files) clock (load_asked words text sheet)))
          (λ refusal unread cause. left_unread refusal unread) opened_left

    asked_left : (name : Option (List ℕ)) (next : Result (List Ask) Refusal → CommandPlan Progress ⊥) → ((sheet : Result (List Ask) Refusal) → HasAsks files name sheet → EachEnd Leaves (next sheet))
        → EachEnd Leaves (asked_plan (Some files) name next)
    asked_left None next each = each (Ok []) refl
    asked_left (Some name) next each =
        each_read device e Left files SheetOctets (λ octets. asks_of octets) name 0 (λ (sheet : Result (List Ask) Refusal). map_done (with_sources 1) (next sheet)) (λ refusal unread cause. left_unread refusal unread)
        (λ octets file. each_behind device e Left files 1 (next (asks_of octets)) (each (asks_of octets) (record { octets = octets; file = file; sheet_is = refl })))

    routed_left : (name : Option (List ℕ)) (next : Option (List ℕ) → CommandPlan Progress ⊥) → ((text : Option (List ℕ)) → HasRouteText files name text → EachEnd Leaves (next text))
        → EachEnd Leaves (routed_plan (Some files) name next)
    routed_left None next each = each None refl
    routed_left (Some name) next each =
        each_read device e Left files ScriptOctets (λ octets. octets) name 0 (λ (text : List ℕ). map_done (with_sources 1) (next (Some text))) (λ refusal unread cause. left_unread refusal unread)
        (λ octets file. each_behind device e Left files 1 (next (Some octets)) (each (Some octets) (octets, file, refl)))

    read_left : EachEnd Leaves (read_load_plan device e.disk (Some files) clock words)
    read_left = routed_left words.route (routed_load_plan device e.disk (Some files) clock words)
        (λ text named. asked_left words.asks (archive_load_plan device e.disk (Some files) clock words text) (λ sheet has. archive_left text named sheet has))

  limits_left : (found : Option Refusal) → found ≡ load_limit_refusal words → EachEnd Leaves (after_limits device e.disk (Some files) clock words found)
  limits_left None is = read_left (sym is)
  limits_left (Some refusal) is = λ did. left_unopened refusal did.report did.printed (not_asked device e did.disk)

  each_left : EachEnd Leaves (load_plan device e.disk (Some files) clock words)
  unfolding load_plan
  each_left = λ found is. limits_left found is

-- so it is of each call
pub left_by : {D : Type 0} (device : Device D) (e : Call D) (files : Files) (clock : Option ℤ) (words : LoadWords) → IsRun device e files clock (Load words) → IsLeft device e files clock words
left_by device e files clock words run = by_job device e files clock (Load words) run (IsLeft device e files clock words)
    (λ did. left_unopened device e files clock words run.transparent OutOfMemory did.report did.printed (not_asked device e did.disk))
    (λ way allows end. end_of (Leaves device e files clock words run.transparent) (load_plan device e.disk (Some files) clock words) way (each_left device e files clock words run.transparent) allows end.did)
