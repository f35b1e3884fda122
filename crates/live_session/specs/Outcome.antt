-- What the jobs of a load come to.
use Rattle.std.specs.Prelude.{◌≡◌, ◌≢◌, ◌⊎◌, Bool, true, false, ℕ, suc, ◌+◌, ◌^◌, ◌<◌, ◌≤◌, List, [], ◌∷◌, ◌++◌, length, drop, take, min, map, Option, Some, None, IfSome, IsSome, if◌then◌else◌}
use Rattle.std.specs.List.{AllByRecursion}
use Rattle.arch_disk.specs.Disk.{Device, raised}
use Rattle.arch_types.specs.declared.row.Row.{Row}
use Rattle.intervals.specs.declared.interval.Interval.{Interval}
use Rattle.outer_traits.specs.States.{SourceState}
use Rattle.refusals.specs.declared.refusal.Refusal.{Refusal}
use Rattle.refusals.specs.declared.refusal.Refusal.TheVariants.{Damaged, DiskFault, Limit, NeedsReopen, OutOfMemory}
use Rattle.refusals.specs.declared.refusal.Which.TheVariants.{Records}
use Rattle.refusals.specs.Limits.{limit_of}
use Rattle.history_items.specs.declared.fills.Addition.{Addition}
use Rattle.history_items.specs.declared.fills.Addition.TheVariants.{Rows}
use Rattle.history_items.specs.declared.items.Item.{Item}
use Rattle.history_items.specs.Fills.{in_flight, pending_fault_of}
use Rattle.history_items.specs.Items.{items_of}
use Rattle.store_fills.specs.Faults.{faults_in}
use Rattle.archive_store.specs.Entries.{FilledArchive}
use Rattle.archive_store.specs.Pages.{TellsRows}
use Rattle.archive_store.specs.StoreView.{StoreView, filled_of}
use Rattle.live_archive.specs.GoesOn.{GoesOn, NoneFailed, OneFailed}
use Rattle.live_asks.specs.declared.answered.AskAnswer.{AskAnswer}
use Rattle.live_asks.specs.LiveAsks.{AreAnswered, AreTold, DiskFacts, IsUnanswered, disk_facts, every_fourth}
use Rattle.live_fills.specs.Filler.{IsOfFill}
use Rattle.live_fills.specs.Laws.{WereLate}
use Rattle.retrieval.specs.declared.found_asks.FoundAsk.{FoundAsk}
use Rattle.load_jobs.specs.declared.ending.LinkEnd.{LinkEnd}
use Rattle.load_jobs.specs.declared.ending.LinkEnd.TheVariants.{Whole}
use Rattle.load_jobs.specs.Ends.{is_of_dump, refusal_of_end}
use Rattle.live_session.specs.declared.reported.DumpCounts.{DumpCounts}
use Rattle.live_session.specs.declared.reported.ReportedRefusal.{ReportedRefusal}
use Rattle.live_session.specs.declared.loading.LoadJob.{LoadJob}
use Rattle.live_session.specs.declared.loading.Loaded.{Loaded}
use Rattle.live_session.specs.Jobs.{IsSourceRead, JobSetting, job_setting}
use Rattle.live_session.specs.Links.{AreLinksLoaded, Extension, IsBatchInHand, extension}

-- The outcome of the jobs of a load: the history that was reached; how each link ended, in the order of the links; the
-- answers to the asks, in their order; why each reader and each filler was refused, if it was, in the jobs' order;
-- what a failed write was to add, if one failed; and whether a read of the disk failed.
pub record JobsOutcome : Type 0 where
  pub reached : List Item
  pub ends : List LinkEnd
  pub answers : List AskAnswer
  pub others : List (Option Refusal)
  pub failed : Option Addition
  pub unread : Bool

-- ---- what is reported of it

-- a refusal is reported, with the link where its dump is what is wrong
abbrev pub reported : Refusal → Option ℕ → ReportedRefusal
reported refusal link = record { refusal = refusal; link = link }

-- the refusal of the first of readers and fillers that was refused
abbrev pub reported_of_others : List (Option Refusal) → Option ReportedRefusal
reported_of_others [] = None
reported_of_others (None ∷ others) = reported_of_others others
reported_of_others (Some refusal ∷ others) = Some (reported refusal None)

-- what is reported of a link of this number by its refusal, and else what is reported of those behind it
abbrev pub reported_of_link : ℕ → LinkEnd → Option Refusal → Option ReportedRefusal → Option ReportedRefusal
reported_of_link link end None next = next
reported_of_link link end (Some refusal) next = Some (reported refusal (if is_of_dump end then Some link else None))

-- That of the first job that was refused, by its number: links come first, whose numbers rise from this one.
abbrev pub reported_of : ℕ → List LinkEnd → List (Option Refusal) → Option ReportedRefusal
reported_of link [] others = reported_of_others others
reported_of link (end ∷ ends) others =
    reported_of_link link end (refusal_of_end end) (reported_of (suc link) ends others)

-- the counts with those of one more dump, if it is whole
abbrev pub counts_with_end : LinkEnd → DumpCounts → DumpCounts
counts_with_end (Whole summary) counts = record {
  packets = summary.packets + counts.packets;
  idle = summary.idle + counts.idle;
  routed = summary.routed + counts.routed;
}
counts_with_end other counts = counts

-- what the dumps had together whose links ended so
abbrev pub counts_of : List LinkEnd → DumpCounts
counts_of [] = record { packets = 0; idle = 0; routed = 0 }
counts_of (end ∷ ends) = counts_with_end end (counts_of ends)

-- a whole dump has no more packets and rows than the octets of one let it have
abbrev pub HasFewCounts : LinkEnd → Type 0
HasFewCounts (Whole summary) = (summary.packets < 2 ^ 32) × (summary.idle < 2 ^ 32) × (summary.routed < 2 ^ 40)
HasFewCounts other = Unit {0}

-- ---- what may come of jobs

-- a reader is refused for want of memory, or since rows in runs aren't read
abbrev pub IsReaderCause : DiskFacts → Option Refusal → Type 0
IsReaderCause facts refusal = IfSome refusal (IsUnanswered facts)

-- what a failed write was to add is a fill
abbrev pub IsFillFailed : Option Addition → Type 0
IsFillFailed failed = (addition : Addition) × (failed ≡ Some addition) × IsOfFill addition

-- Why a filler was refused, where this is what a failed write was to add: memory was wanting; a write had failed; a
-- record more passes the limit; the disk failed at a fill, or at a read of rows that stand in runs; or a page broke
-- its format, which never comes where the rows are told.
abbrev pub IsFillerCause : DiskFacts → Option Addition → Option Refusal → Type 0
IsFillerCause facts failed None = Unit {0}
IsFillerCause facts failed (Some OutOfMemory) = Unit {0}
IsFillerCause facts failed (Some (NeedsReopen faults)) = IsSome failed
IsFillerCause facts failed (Some (Limit which number)) = (which ≡ Records) × (number ≡ limit_of Records)
IsFillerCause facts failed (Some DiskFault) = IsFillFailed failed ⊎ (0 < facts.sealed)
IsFillerCause facts failed (Some (Damaged file at)) = AreTold facts → ⊥
IsFillerCause facts failed (Some other) = ⊥

-- What a failed write was to add: the batch in hand of one of the links, which ended so, or a fill.
abbrev pub IsFailedAddition : DiskFacts → List Item → List Item → JobSetting → ℕ → List (Option (List ℕ))
    → List LinkEnd → Addition → Type 0
IsFailedAddition facts first reached setting link dumps ends (Rows rows) =
    IsBatchInHand facts first reached setting link dumps ends rows
IsFailedAddition facts first reached setting link dumps ends other = IsOfFill other

-- how far they brought the history of an archive
abbrev pub extension_by : FilledArchive → JobsOutcome → Extension
extension_by opened outcome =
    extension opened.plain.exponent opened.plain.history outcome.reached outcome.failed

-- What the jobs of links from this number on, by what is left of their dumps, may come to over an archive that was
-- opened on a disk of which this is known.
pub record IsJobsOutcome (facts : DiskFacts) (opened : FilledArchive) (setting : JobSetting) (link : ℕ)
    (dumps : List (Option (List ℕ))) (outcome : JobsOutcome) : Type 0 where
  -- rows came, each by one of the links
  pub more : List Row
  pub grown : outcome.reached ≡ opened.plain.history ++ items_of more
  pub of_links : AllByRecursion (λ row. (link ≤ row.link) × (row.link < link + length dumps)) more
  pub links : AreLinksLoaded facts (extension_by opened outcome) setting link dumps outcome.ends
  -- where nothing was refused each ask is answered: every fourth over histories that go on from each other
  pub answered : reported_of link outcome.ends outcome.others ≡ None → (before : ℕ) → before < 4 →
      AreAnswered facts opened opened.plain.history outcome.reached (every_fourth before setting.asks)
      (every_fourth before outcome.answers) None
  -- readers come first, one for each ask, but four at most; behind them come the fillers
  pub readers : AllByRecursion (IsReaderCause facts) (take (min 4 (length setting.asks)) outcome.others)
  pub fillers : AllByRecursion (IsFillerCause facts outcome.failed) (drop (min 4 (length setting.asks)) outcome.others)
  -- a call of the disk that failed is reported, and a fault of the disk is where one failed; behind a write nothing
  -- came
  pub reported_so : reported_of link outcome.ends outcome.others ≡ None →
      (outcome.failed ≡ None) × (outcome.unread ≡ false)
  pub faulted : (t : ReportedRefusal) → reported_of link outcome.ends outcome.others ≡ Some t → t.refusal ≡ DiskFault →
      IsSome outcome.failed ⊎ (outcome.unread ≡ true)
  pub failed : IfSome outcome.failed
      (IsFailedAddition facts opened.plain.history outcome.reached setting link dumps outcome.ends)

-- ---- the store behind it

-- no write failed, or one did that was to add this; a read failed where it is said
abbrev pub HasFailed : {D : Type 0} → Device D → StoreView D → StoreView D → Option Addition → Bool → Type 0
HasFailed device first closed None unread =
    (none : NoneFailed device first closed) × (unread ≡ false → none.reads ≡ []) × (unread ≡ true → none.reads ≢ [])
HasFailed device first closed (Some addition) unread =
    (one : OneFailed device first closed) × (one.addition ≡ addition) × (unread ≡ true → one.before ++ one.behind ≢ [])

-- what the store tells of a refusal: where it tells its rows, the log has no place for a record more, if the rows that
-- came since are counted too; the failed write that was met is pending; a call of the disk failed, which was noted and
-- counted
abbrev pub IsSeenIn : {D : Type 0} → Device D → StoreView D → StoreView D → Refusal → Type 0
IsSeenIn device first closed (Limit which number) =
    TellsRows device first → which ≡ Records →
    limit_of Records + length first.history ≤ closed.records + length closed.history
IsSeenIn device first closed (NeedsReopen faults) = pending_fault_of closed.fills ≡ Some faults
IsSeenIn device first closed DiskFault =
    (faults_in closed.fills ≢ faults_in first.fills)
    × (raised (device.fault_count first.disk) ≤ device.fault_count closed.disk)
IsSeenIn device first closed other = Unit {0}

-- A store goes on from a first one, and has what the jobs of a load came to. No fill is in flight, and each that came
-- since was of a late interval.
pub record HasLoaded {D : Type 0} (device : Device D) (first closed : StoreView D) (link : ℕ) (outcome : JobsOutcome)
    : Type 0 where
  pub goes : GoesOn device first closed
  pub idle : (interval : Interval) → in_flight interval closed.fills ≡ None
  pub late : WereLate first closed
  pub history : closed.history ≡ outcome.reached
  pub failed : HasFailed device first closed outcome.failed outcome.unread
  pub refused : IfSome (reported_of link outcome.ends outcome.others)
      (λ reported. IsSeenIn device first closed reported.refusal)

-- ---- the whole

-- this became of each source, in the links' order
abbrev pub AreSourcesRead : {S : Type 0} → (S → SourceState) → List LinkEnd → List S → List S → Type 0
AreSourcesRead state [] [] [] = Unit {0}
AreSourcesRead state (end ∷ ends) (old ∷ olds) (new ∷ news) =
    IsSourceRead end (state old) (state new) × AreSourcesRead state ends olds news
AreSourcesRead state ends olds news = ⊥

-- what is left of the dumps of sources
abbrev pub lefts_of : {S : Type 0} → (S → SourceState) → List S → List (Option (List ℕ))
lefts_of state sources = map (λ source. (state source).left) sources

-- the setting of the jobs of a load into an archive, with these asks
abbrev pub load_setting : {D S : Type 0} → StoreView D → LoadJob S → List FoundAsk → JobSetting
load_setting first job asks = job_setting first.head job.graph job.moment asks

-- The jobs of a load were run over a store, with these asks, or there was no memory for them, which is the refusal of
-- each link. It left what they came to: of their outcome it reports the first refusal, with the answers; where nothing
-- was refused its counts are those of the dumps, and no more rows came than their packets are.
pub record IsLoadOutcome {D S : Type 0} (device : Device D) (state : S → SourceState) (first : StoreView D)
    (job : LoadJob S) (asks : List FoundAsk) (left : Loaded D S) : Type 0 where
  pub outcome : JobsOutcome
  pub possible : IsJobsOutcome (disk_facts device first.opened first.sealed) (filled_of first)
      (load_setting first job asks) job.link (lefts_of state job.sources.items) outcome
  pub loaded : HasLoaded device first left.store job.link outcome
  pub sources : AreSourcesRead state outcome.ends job.sources.items left.sources.items
  pub reported : left.reported ≡ reported_of job.link outcome.ends outcome.others
  pub counts : left.reported ≡ None → left.counts ≡ counts_of outcome.ends
  pub no_more : left.reported ≡ None → length outcome.reached ≤ length first.history + left.counts.routed
  pub answers : left.answers ≡ outcome.answers
