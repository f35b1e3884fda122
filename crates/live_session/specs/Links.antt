-- What comes of the links of a session, said of the whole history.
use Rattle.std.specs.Prelude.{◌≡◌, ◌==◌, ◌⊎◌, ℕ, suc, ◌+◌, ◌<◌, ◌≤◌, List, [], ◌∷◌, ◌++◌, length, take, drop, filter, slice_get, Option, Some, None, IsSome}
use Rattle.std.specs.List.{AllByRecursion}
use mathlib.Core.List.{IsPrefix}
use Rattle.refusals.specs.declared.refusal.Refusal.{Refusal}
use Rattle.refusals.specs.declared.refusal.Refusal.TheVariants.{Damaged, DiskFault, Limit, NeedsReopen, OutOfMemory}
use Rattle.refusals.specs.declared.refusal.Which.TheVariants.{DumpOctets}
use Rattle.refusals.specs.Limits.{limit_of}
use Rattle.arch_types.specs.declared.row.Row.{Row}
use Rattle.arch_types.specs.Dump.{IsDump}
use Rattle.history_items.specs.declared.fills.Addition.{Addition}
use Rattle.history_items.specs.declared.fills.Addition.TheVariants.{Rows}
use Rattle.history_items.specs.declared.items.Item.{Item}
use Rattle.history_items.specs.Items.{after_rows, items_of, rows_in}
use Rattle.shared_history.specs.Sent.{HasSent}
use Rattle.space_packet.specs.declared.dump.Why.TheVariants as why
use Rattle.space_packet.specs.Rest.{why_of}
use Rattle.archive_store.specs.Limits.{IsLimit}
use Rattle.live_asks.specs.LiveAsks.{AreTold, DiskFacts}
use Rattle.load_session.specs.Receiving.{Receiving, receiving, rows_received}
use Rattle.load_session.specs.Session.{IsBetweenBatches, IsSummary, SessionResult, next_fresh_rows, next_rows}
use Rattle.load_jobs.specs.declared.ending.LinkEnd.{LinkEnd}
use Rattle.load_jobs.specs.declared.ending.LinkEnd.TheVariants.{Whole, Rest, Unread, TooLong, Refused}
use Rattle.load_jobs.specs.Ends.{IsReadTo, kind_of_rest, refusal_of_end}
use Rattle.load_jobs.specs.Reading.{IsReadOf}
use Rattle.live_session.specs.Jobs.{JobSetting}

-- ---- a dump that was sent

-- How far what was read of a dump was sent, by its link's end: to the last packet before the octet where the link
-- stopped, unless a batch was refused. Of a dump that is whole this is what it had; in one that is too long no other
-- version waits within the limit.
abbrev pub IsSentTo : List ℕ → Receiving → SessionResult → LinkEnd → Type 0
IsSentTo read r s (Whole summary) = (s.place ≡ length s.packets) × (s.rest ≡ []) × IsSummary read r s summary
IsSentTo read r s (Rest at kind) =
    (s.place ≡ length s.packets) × (s.rest ≡ drop at read) × (kind_of_rest (why_of s.rest) ≡ Some kind)
IsSentTo read r s (Unread None) = s.place ≡ length s.packets
IsSentTo read r s (Unread (Some refusal)) = s.refusal ≡ Some refusal
IsSentTo read r s TooLong = (s.place ≡ length s.packets) × (why_of s.rest ≡ why.Version → ⊥)
IsSentTo read r s (Refused refusal) = s.refusal ≡ Some refusal

-- what a failed write was to add are new rows of the next batch, and these where the rows are told
abbrev pub IsNextFailed : DiskFacts → Option Addition → Receiving → SessionResult → Type 0
IsNextFailed facts failed r s =
    (rows : List Row) × (failed ≡ Some (Rows rows)) × (AreTold facts → rows ≡ next_fresh_rows r s)

-- Why the sending was refused, over intervals of this exponent, where this is what a failed write was to add: the next
-- batch passes a limit; a write failed in the turn of another; the disk failed at that batch, or at a read of rows
-- that stand in runs; a page broke its format, which never comes where the rows are told; or memory was wanting.
abbrev pub IsSentCause : DiskFacts → ℕ → Option Addition → Receiving → SessionResult → Option Refusal → Type 0
IsSentCause facts exponent failed r s None = Unit {0}
IsSentCause facts exponent failed r s (Some (Limit which number)) =
    AreTold facts → (number ≡ limit_of which)
    × ((records : ℕ) × IsLimit exponent which records (after_rows s.reached (next_rows r s)))
IsSentCause facts exponent failed r s (Some (NeedsReopen faults)) = IsSome failed
IsSentCause facts exponent failed r s (Some DiskFault) = IsNextFailed facts failed r s ⊎ (0 < facts.sealed)
IsSentCause facts exponent failed r s (Some (Damaged file at)) = AreTold facts → ⊥
IsSentCause facts exponent failed r s (Some OutOfMemory) = Unit {0}
IsSentCause facts exponent failed r s (Some other) = ⊥

module _ (facts : DiskFacts) (exponent : ℕ) (failed : Option Addition) (history : List Item) (r : Receiving) where
  -- A dump was read so far, and its packets sent up to a place between two batches. Where the rows are told, what was
  -- put of theirs is some of the first of each table and key, and the table and key of each are in the history; there
  -- are never more than they are.
  pub record IsSentInto (left : Option (List ℕ)) (put : List Row) (end : LinkEnd) : Type 0 where
    pub read : List ℕ
    pub read_to : IsReadTo left read end
    pub short : length read ≤ limit_of DumpOctets
    pub came_to : SessionResult
    pub parts : IsDump read came_to.packets came_to.rest
    pub within : came_to.place ≤ length came_to.packets
    pub between : IsBetweenBatches came_to.place came_to.packets
    pub since : IsPrefix r.history came_to.reached
    pub reached : IsPrefix came_to.reached history
    pub few : length put ≤ length (rows_received r (take came_to.place came_to.packets))
    pub sent : AreTold facts → HasSent (rows_received r (take came_to.place came_to.packets)) history put
    pub sent_to : IsSentTo read r came_to end
    pub cause : IsSentCause facts exponent failed r came_to came_to.refusal
    -- where the rows are told, and each that came is its own, the history is that of before with the rows of these
    -- packets, all of which it has seen
    pub alone : AreTold facts → (more : List Row) → history ≡ r.history ++ items_of more →
        AllByRecursion (λ row. row.link ≡ r.link) more →
        (came_to.reached ≡ history)
        × (history ≡ after_rows r.history (rows_received r (take came_to.place came_to.packets)))

  -- What a link put is what the history has of its number behind that of before, and comes of what was read of its
  -- dump.
  pub record LinkLoads (left : Option (List ℕ)) (end : LinkEnd) : Type 0 where
    pub put : List Row
    pub own : filter (λ row. row.link == r.link) (rows_in (drop (length r.history) history)) ≡ put
    pub sent : IsSentInto left put end

-- ---- all of them

-- How far the history of an archive came, whose intervals are of this exponent: from the first one to that which was
-- reached, unless a write failed that was to add this.
pub record Extension : Type 0 where
  pub exponent : ℕ
  pub first : List Item
  pub reached : List Item
  pub failed : Option Addition

-- it came so far
abbrev pub extension : ℕ → List Item → List Item → Option Addition → Extension
extension exponent first reached failed =
    record { exponent = exponent; first = first; reached = reached; failed = failed }

-- so came the links of a session, whose numbers rise from this one, by what was left of their dumps
abbrev pub AreLinksLoaded : DiskFacts → Extension → JobSetting → ℕ → List (Option (List ℕ)) → List LinkEnd → Type 0
AreLinksLoaded facts came setting link [] [] = Unit {0}
AreLinksLoaded facts came setting link (left ∷ dumps) (end ∷ ends) =
    LinkLoads facts came.exponent came.failed came.reached
    (receiving setting.head came.first setting.route link setting.moment) left end
    × AreLinksLoaded facts came setting (suc link) dumps ends
AreLinksLoaded facts came setting link dumps ends = ⊥

-- The rows that a failed write of a link was to add: new ones of at most 64 successive packets of what was read of its
-- dump, behind the history that was reached, and all of these where rows are told. The link was refused by that fault.
pub record IsBatchInHand (facts : DiskFacts) (first reached : List Item) (setting : JobSetting) (link : ℕ)
    (dumps : List (Option (List ℕ))) (ends : List LinkEnd) (rows : List Row) : Type 0 where
  pub place : ℕ
  pub left : Option (List ℕ)
  pub of_link : slice_get dumps place ≡ Some left
  pub end : LinkEnd
  pub ended : slice_get ends place ≡ Some end
  pub end_is : refusal_of_end end ≡ Some DiskFault
  pub read : List ℕ
  pub read_of : IsReadOf left read
  pub short : length read ≤ limit_of DumpOctets
  pub came_to : SessionResult
  pub parts : IsDump read came_to.packets came_to.rest
  pub within : came_to.place ≤ length came_to.packets
  pub between : IsBetweenBatches came_to.place came_to.packets
  pub reached_is : came_to.reached ≡ reached
  pub rows_are : AreTold facts → rows ≡
      next_fresh_rows (receiving setting.head first setting.route (link + place) setting.moment) came_to
