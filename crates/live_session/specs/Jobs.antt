-- What the jobs of a session are given, and what comes of each.
use Rattle.std.specs.Prelude.{◌≡◌, ℕ, ℤ, ◌≤◌, List, [], ◌∷◌, IfNone, IfSome, None, Some}
use Rattle.arch_disk.specs.Disk.{Device}
use Rattle.refusals.specs.declared.refusal.Refusal.TheVariants.{DiskFault}
use Rattle.refusals.specs.declared.refusal.Which.TheVariants.{Links}
use Rattle.refusals.specs.Limits.{limit_of}
use Rattle.outer_traits.specs.Outside.{Stays}
use Rattle.outer_traits.specs.States.{SourceState}
use Rattle.text_forms.specs.ClockTime.{IsClockTime}
use Rattle.field_codec.specs.declared.entry.Entry.TheVariants as entries
use Rattle.field_codec.specs.Entries.{IsArchiveEntry}
use Rattle.history_items.specs.declared.fills.Fill.{Fill}
use Rattle.history_items.specs.declared.items.Item.{Item}
use Rattle.history_items.specs.Items.{databases_in}
use Rattle.turn_cell.specs.Pass.{PassView}
use Rattle.archive_store.specs.Head.{Head}
use Rattle.archive_store.specs.StoreView.{StoreView, filled_of}
use Rattle.retrieval.specs.declared.found_asks.FoundAsk.{FoundAsk}
use Rattle.retrieval.specs.FoundAsks.{AreFound}
use Rattle.stream_graph.specs.declared.statement.RouteStatement.{RouteStatement}
use Rattle.load_session.specs.Receiving.{IsRouteOver, Receiving, receiving}
use Rattle.load_jobs.specs.declared.ending.LinkEnd.{LinkEnd}
use Rattle.load_jobs.specs.Ends.{IsLinkRun, IsReadCounted}
use Rattle.load_jobs.specs.Links.{CanSend}
use Rattle.live_archive.specs.Reads.{NotedRead}
use Rattle.live_asks.specs.LiveAsks.{AreAnswered, OnlySees, disk_facts, every_fourth}
use Rattle.live_fills.specs.Filler.{AreWorksDone, FillsAlone, IsRefusalOf}
use Rattle.live_session.specs.declared.order.JobEnd.{JobEnd}
use Rattle.live_session.specs.declared.order.JobEnd.TheVariants as Ended
use Rattle.live_session.specs.declared.order.Order.{Order}
use Rattle.live_session.specs.declared.order.Order.TheVariants as Ordered

-- ---- what they have in common

-- the archive's head, the route and the moment by which packets are received, and the asks
pub record JobSetting : Type 0 where
  pub head : Head
  pub route : List RouteStatement
  pub moment : ℤ
  pub asks : List FoundAsk

-- the setting of a session with this head, this route, this moment and these asks
abbrev pub job_setting : Head → List RouteStatement → ℤ → List FoundAsk → JobSetting
job_setting head route moment asks = record { head = head; route = route; moment = moment; asks = asks }

-- it fits an archive: the head is the archive's, the route is one over its tables, and each ask was found in it;
-- nothing has added a database to the history
pub record IsFit {D : Type 0} (first : StoreView D) (setting : JobSetting) : Type 0 where
  pub of_archive : setting.head ≡ first.head
  pub sound : IsArchiveEntry (entries.Head setting.head.tables setting.head.mdb)
  pub alone : databases_in first.history ≡ []
  pub route : IsRouteOver setting.head setting.route
  pub moment : IsClockTime setting.moment
  pub found : AreFound first.head first.history setting.asks

-- a link has a number
abbrev pub IsNumbered : {S : Type 0} → Order S → Type 0
IsNumbered (Ordered.Link link source wake) = (1 ≤ link) × (link ≤ limit_of Links)
IsNumbered other = Unit {0}

-- how a link of this number receives packets, behind the history that its pass has seen
abbrev pub received_by : {T : Type 0} → JobSetting → ℕ → PassView Item Fill T → Receiving
received_by setting link pass = receiving setting.head pass.history.seen setting.route link setting.moment

-- a job may do what it is to do
abbrev pub MayDo : {D T S : Type 0} → StoreView D → JobSetting → PassView Item Fill T → Order S → Type 0
MayDo first setting pass (Ordered.Link link source wake) = CanSend first (received_by setting link pass) pass
MayDo first setting pass (Ordered.Reader before) =
    AreFound first.head first.history setting.asks × (pass.history.seen ≡ first.history)
MayDo first setting pass (Ordered.Filler wakes) = Unit {0}

-- ---- what comes of them

-- This became of a link's source, by how the link ended: its count of faults has risen where a read failed, and else is
-- as before; one that never fails has not.
abbrev pub IsSourceRead : LinkEnd → SourceState → SourceState → Type 0
IsSourceRead end old new =
    (old.faults ≤ new.faults) × IsReadCounted end old.faults new.faults
    × (old.never_fails → Stays old.faults new.faults)

-- a pass at the beginning of what is done by it, and at the end
pub record JobPass (T : Type 0) : Type 0 where
  pub began : PassView Item Fill T
  pub ended : PassView Item Fill T

-- one that was so and became so
abbrev pub job_pass : {T : Type 0} → PassView Item Fill T → PassView Item Fill T → JobPass T
job_pass began ended = record { began = began; ended = ended }

-- This came of a job by its pass: what was read of a link's dump was sent, as its end tells; a reader's asks were
-- answered, and it noted nothing, or those before one that wasn't, for a failed read that it noted among others; a
-- filler filled alone, each of its works to the end, or there is why not.
abbrev pub IsOutcomeOf : {D T S : Type 0} → Device D → (S → SourceState) → StoreView D → JobSetting → JobPass T
    → Order S → JobEnd S → Type 0
IsOutcomeOf device state first setting pass (Ordered.Link link source wake) (Ended.Link number back end) =
    IsLinkRun device first (received_by setting link pass.began) (state source).left (state back).left pass.began
    pass.ended end × IsSourceRead end (state source) (state back) × (number ≡ link)
IsOutcomeOf device state first setting pass (Ordered.Reader before) (Ended.Reader answers refusal) =
    OnlySees first.sealed pass.began pass.ended
    × AreAnswered (disk_facts device first.opened first.sealed) (filled_of first) pass.began.history.seen
    pass.ended.history.seen (every_fourth before setting.asks) answers refusal
    × (refusal ≡ Some DiskFault → NotedRead pass.began.fills pass.ended.fills)
    × (refusal ≡ None → pass.ended.fills.places ≡ pass.began.fills.places)
IsOutcomeOf device state first setting pass (Ordered.Filler wakes) (Ended.Filler refusal) =
    FillsAlone first pass.began pass.ended × IfNone refusal (AreWorksDone device first pass.began pass.ended)
    × IfSome refusal (IsRefusalOf device first pass.ended)
IsOutcomeOf device state first setting pass order end = ⊥

module _ {D T S : Type 0} (device : Device D) (state : S → SourceState) (first : StoreView D)
    (setting : JobSetting) where
  -- the outcome of each job by its pass, in their order
  abbrev pub AreOutcomesOf : List (JobPass T) → List (Order S) → List (JobEnd S) → Type 0
  AreOutcomesOf [] [] [] = Unit {0}
  AreOutcomesOf (pass ∷ passes) (order ∷ orders) (end ∷ ends) =
      IsOutcomeOf device state first setting pass order end × AreOutcomesOf passes orders ends
  AreOutcomesOf passes orders ends = ⊥
