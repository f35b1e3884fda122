-- A load whose jobs weren't run.
use Rattle.std.proofs.Common.{◌≡◌, ◌⊎◌, inl, inr, ℕ, zero, suc, ◌≤◌, true, false, List, [], ◌∷◌, ◌++◌, length, map, min, take, drop, Option, Some, None, refl, sym, ap, ◌∙◌, subst, arith, append-nil, length-append, le_refl}
use Rattle.std.specs.Prelude.{◌==◌, filter, slice_get, IfSome}
use Rattle.std.specs.List.{AllByRecursion}
use Rattle.std.proofs.Math.Seq.{drop-append_seam}
use Rattle.std.proofs.lemmas.List.Elements.{All-nil}
use Rattle.arch_disk.specs.Disk.{Device}
use Rattle.arch_types.specs.Packet.{IsPacket}
use Rattle.outer_traits.specs.States.{SourceState}
use Rattle.refusals.specs.declared.refusal.Refusal.TheVariants.{DiskFault, OutOfMemory}
use Rattle.history_items.specs.declared.fills.Addition.{Addition}
use Rattle.history_items.specs.declared.fills.Fill.{Fill}
use Rattle.history_items.specs.declared.fills.Fill.TheVariants.{Done, Fault}
use Rattle.history_items.specs.declared.items.Item.{Item}
use Rattle.history_items.specs.Items.{rows_in}
use Rattle.history_items.specs.FillList.{flights_of}
use Rattle.interval_fills.specs.Steps.{all_freed}
use Rattle.store_fills.specs.Faults.{IsDone, faults_in}
use Rattle.store_fills.proofs.Faults.{faults_in-done}
use Rattle.archive_store.specs.StoreView.{StoreView, filled_of}
use Rattle.live_archive.specs.GoesOn.{NoneFailed, OneFailed}
use Rattle.live_archive.proofs.Going.{all_freed_is}
use Rattle.live_fills.specs.Laws.{WereLate}
use Rattle.live_fills.proofs.Late.{settling_adds_none}
use Rattle.live_asks.specs.LiveAsks.{DiskFacts, disk_facts}
use Rattle.load_jobs.specs.declared.ending.LinkEnd.{LinkEnd}
use Rattle.load_jobs.specs.declared.ending.LinkEnd.TheVariants.{Refused}
use Rattle.retrieval.specs.declared.found_asks.FoundAsk.{FoundAsk}
use Rattle.live_session.specs.declared.loading.LoadJob.{LoadJob}
use Rattle.live_session.specs.declared.loading.Loaded.{Loaded}
use Rattle.live_session.specs.declared.reported.ReportedRefusal.{ReportedRefusal}
use Rattle.live_session.specs.Jobs.{JobSetting}
use Rattle.load_jobs.proofs.Pieces.{nothing_read}
use Rattle.load_session.specs.Receiving.{receiving}
use Rattle.live_session.specs.Links.{AreLinksLoaded, IsSentInto, extension}
use Rattle.live_session.specs.Outcome.{AreSourcesRead, HasLoaded, IsFillerCause, IsJobsOutcome, IsLoadOutcome, IsReaderCause, IsSeenIn, JobsOutcome, lefts_of, load_setting, reported, reported_of}
use Rattle.live_session.specs.Session.{NothingCame}
use Rattle.live_session.proofs.Lists.{below}

-- each link ends so
abbrev ends_for : {S : Type 0} → List S → List LinkEnd
ends_for sources = map (λ source. Refused OutOfMemory) sources

-- of no refusals
none_taken : (facts : DiskFacts) (n : ℕ) → AllByRecursion (IsReaderCause facts) (take n [])
none_taken facts zero = tt
none_taken facts (suc n) = tt

none_dropped : (facts : DiskFacts) (n : ℕ) → AllByRecursion (IsFillerCause facts None) (drop n [])
none_dropped facts zero = tt
none_dropped facts (suc n) = tt

-- a list with an item between others isn't empty
none_between : (before : List Fill) (count : ℕ) (addition : Addition) (behind : List Fill) → before ++ Fault count true addition ∷ behind ≡ [] → ⊥
none_between [] count addition behind none = cc none
none_between (item ∷ before) count addition behind none = cc none

nothing_behind : (history : List Item) → drop (length history) history ≡ []
nothing_behind history = ap (drop (length history)) (sym (append-nil history)) ∙ drop-append_seam history []

module _ {D S : Type 0} (device : Device D) (state : S → SourceState) (first closed : StoreView D) (g : JobSetting) (nothing : NothingCame device first closed) (done : AllByRecursion IsDone first.fills) where
  none_behind : rows_in (drop (length first.history) closed.history) ≡ []
  none_behind = ap rows_in (ap (drop (length first.history)) nothing.history ∙ nothing_behind first.history)

  same_faults : (closed.fills ≡ first.fills) ⊎ (closed.fills ≡ all_freed first.fills) → faults_in closed.fills ≡ []
  same_faults (inl same) = ap faults_in same ∙ faults_in-done first.fills done
  same_faults (inr settled) = ap faults_in settled ∙ ((all_freed_is (flights_of first.fills) first.fills).1 ∙ faults_in-done first.fills done)

  unfailed : NoneFailed device first closed
  unfailed = go nothing.goes.faults
    where
      go : NoneFailed device first closed ⊎ OneFailed device first closed → NoneFailed device first closed
      go (inl none) = none
      go (inr one) = absurd (none_between one.before one.count one.addition one.behind (ap (λ (l : List Fill). l ++ (one.before ++ Fault one.count true one.addition ∷ one.behind)) (sym (faults_in-done first.fills done)) ∙ (sym one.faults ∙ same_faults nothing.fills)))

  none_read : unfailed.reads ≡ []
  none_read = sym (unfailed.faults ∙ ap (λ (l : List Fill). l ++ unfailed.reads) (faults_in-done first.fills done)) ∙ same_faults nothing.fills

  none_late : WereLate first closed
  none_late place interval base since there = absurd (go nothing.fills)
    where
      early : slice_get first.fills place ≡ Some (Done interval base) → ⊥
      early at = let low = below first.fills place (Done interval base) at in absurd (omega (arith, since, low))

      go : (closed.fills ≡ first.fills) ⊎ (closed.fills ≡ all_freed first.fills) → ⊥
      go (inl same) = early (subst (λ (l : List Fill). slice_get l place ≡ Some (Done interval base)) same there)
      go (inr settled) = early (settling_adds_none first.fills place interval base (subst (λ (l : List Fill). slice_get l place ≡ Some (Done interval base)) settled there))

  -- of a dump of which nothing was read, nothing was sent
  nothing_sent : (link : ℕ) (source : S) → IsSentInto (disk_facts device first.opened first.sealed) first.exponent None closed.history (receiving g.head first.history g.route link g.moment) (state source).left [] (Refused OutOfMemory)
  nothing_sent link source = record {
    read = [];
    read_to = nothing_read (state source).left;
    short = omega arith;
    came_to = record { packets = []; rest = []; place = 0; reached = closed.history; refusal = Some OutOfMemory };
    parts = record {
      joined = refl;
      each = All-nil IsPacket;
      no_more = λ packet more is e. let header = is.header in let none = ap length e in let both = length-append packet more in omega (arith, header, none, both);
    };
    within = omega arith;
    between = inl refl;
    since = ([], append-nil first.history ∙ sym nothing.history);
    reached = ([], append-nil closed.history);
    few = omega arith;
    sent = λ _. record { some = refl; kept = tt };
    sent_to = refl;
    cause = tt;
    alone = λ told more grown own. (refl, nothing.history);
  }

  links : (link : ℕ) (sources : List S) → AreLinksLoaded (disk_facts device first.opened first.sealed) (extension first.exponent first.history closed.history None) g link (lefts_of state sources) (ends_for sources)
  links link [] = tt
  links link (source ∷ sources) = (record { put = []; own = ap (filter (λ row. row.link == link)) none_behind; sent = nothing_sent link source }, links (suc link) sources)

  read : (sources : List S) → AreSourcesRead state (ends_for sources) sources sources
  read [] = tt
  read (source ∷ sources) = ((le_refl _, refl, λ never. refl), read sources)

  abbrev outcome : List S → JobsOutcome
  outcome sources = record { reached = closed.history; ends = ends_for sources; answers = []; others = []; failed = None; unread = false }

  possible : (link : ℕ) (sources : List S) → reported_of link (ends_for sources) [] ≡ Some (reported OutOfMemory None) → IsJobsOutcome (disk_facts device first.opened first.sealed) (filled_of first) g link (lefts_of state sources) (outcome sources)
  possible link sources is = record {
    more = [];
    grown = nothing.history ∙ sym (append-nil first.history);
    of_links = tt;
    links = links link sources;
    answered = λ none. absurd (cc (none, is));
    readers = none_taken (disk_facts device first.opened first.sealed) (min 4 (length g.asks));
    fillers = none_dropped (disk_facts device first.opened first.sealed) (min 4 (length g.asks));
    reported_so = λ none. (refl, refl);
    faulted = λ t said fault.
        let same : ◌≡◌ {A = Option ReportedRefusal} (Some (reported OutOfMemory None)) (Some t) = sym is ∙ said in
        let told : reported OutOfMemory None ≡ t = cc same in
        let never : OutOfMemory ≡ DiskFault = ap (λ (r : ReportedRefusal). r.refusal) told ∙ fault in absurd (cc never);
    failed = tt;
  }

  loaded : (link : ℕ) (sources : List S) → reported_of link (ends_for sources) [] ≡ Some (reported OutOfMemory None) → HasLoaded device first closed link (outcome sources)
  loaded link sources is = record {
    goes = nothing.goes;
    idle = nothing.idle done;
    late = none_late;
    history = refl;
    failed = (unfailed, λ _. none_read, λ failed. absurd (cc failed));
    refused = subst (λ (o : Option ReportedRefusal). IfSome o (λ t. IsSeenIn device first closed t.refusal)) (sym is) tt;
  }

-- what is reported is want of memory
tells : {S : Type 0} (link : ℕ) (sources : List S) → 1 ≤ length sources → reported_of link (ends_for sources) [] ≡ Some (reported OutOfMemory None)
tells link [] some = absurd (omega (arith, some))
tells link (source ∷ sources) some = refl

pub not_run : {D S : Type 0} (device : Device D) (state : S → SourceState) (first : StoreView D) (job : LoadJob S) (asks : List FoundAsk) (left : Loaded D S) → NothingCame device first left.store → AllByRecursion IsDone first.fills
    → 1 ≤ length job.sources.items → left.sources.items ≡ job.sources.items → left.reported ≡ Some (reported OutOfMemory None) → left.answers ≡ [] → IsLoadOutcome device state first job asks left
not_run device state first job asks left nothing done some same is none =
    let g = load_setting first job asks in
    let olds = job.sources.items in
    let known = tells job.link olds some in
    record {
      outcome = outcome device state first left.store g nothing done olds;
      possible = possible device state first left.store g nothing done job.link olds known;
      loaded = loaded device state first left.store g nothing done job.link olds known;
      sources = subst (AreSourcesRead state (ends_for olds) olds) (sym same) (read device state first left.store g nothing done olds);
      reported = is ∙ sym known;
      counts = λ unsaid. absurd (cc (unsaid, is));
      no_more = λ unsaid. absurd (cc (unsaid, is));
      answers = none;
    }
