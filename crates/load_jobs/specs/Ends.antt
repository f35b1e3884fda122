-- How a link ends.
use Rattle.std.specs.Prelude.{◌≡◌, ℕ, ◌<◌, ◌≤◌, List, length, take, Bool, true, false, Option, Some, None, IfSome, Result, Ok, Err}
use Rattle.std.specs.Result.{result_err}
use Rattle.arch_disk.specs.Disk.{Device}
use Rattle.refusals.specs.declared.refusal.BadKind.{BadKind}
use Rattle.refusals.specs.declared.refusal.BadKind.TheVariants as bad
use Rattle.refusals.specs.declared.refusal.Refusal.{Refusal}
use Rattle.refusals.specs.declared.refusal.Refusal.TheVariants as refused
use Rattle.refusals.specs.declared.refusal.Which.TheVariants.{DumpOctets}
use Rattle.refusals.specs.Limits.{limit_of}
use Rattle.arch_types.specs.declared.row.Row.{Row}
use Rattle.outer_traits.specs.Outside.{HasRisen, Stays}
use Rattle.outer_traits.specs.Whole.{IsTaken}
use Rattle.history_items.specs.declared.fills.Fill.{Fill}
use Rattle.history_items.specs.declared.items.Item.{Item}
use Rattle.space_packet.specs.declared.dump.Why.{Why}
use Rattle.space_packet.specs.declared.dump.Why.TheVariants as why
use Rattle.turn_cell.specs.Pass.{PassView}
use Rattle.archive_store.specs.StoreView.{StoreView}
use Rattle.load_session.specs.declared.session.DumpSummary.{DumpSummary}
use Rattle.load_session.specs.Receiving.{Receiving}
use Rattle.load_jobs.specs.declared.ending.LinkEnd.{LinkEnd}
use Rattle.load_jobs.specs.declared.ending.LinkEnd.TheVariants.{Whole, Rest, Unread, TooLong, Refused}
use Rattle.load_jobs.specs.declared.reading.ReadingEnd.{ReadingEnd}
use Rattle.load_jobs.specs.declared.reading.ReadingEnd.TheVariants as reading
use Rattle.load_jobs.specs.Links.{HasAdded, IsDumpSent}
use Rattle.load_jobs.specs.Reading.{IsReadOf}

-- ---- what is reported of it

-- the refusal of a link by its end: that of a batch comes in place of what would follow
abbrev pub refusal_of_end : LinkEnd → Option Refusal
refusal_of_end (Whole summary) = None
refusal_of_end (Rest at kind) = Some (refused.BadPacket at kind)
refusal_of_end (Unread None) = Some refused.ReadFault
refusal_of_end (Unread (Some refusal)) = Some refusal
refusal_of_end TooLong = Some (refused.Limit DumpOctets (limit_of DumpOctets))
refusal_of_end (Refused refusal) = Some refusal

-- something is wrong with the dump itself
abbrev pub is_of_dump : LinkEnd → Bool
is_of_dump (Rest at kind) = true
is_of_dump TooLong = true
is_of_dump other = false

-- ---- the reading

-- How far a dump was read by a link that ended so: to its end, where it is whole or its last packet is cut off; to the
-- limit, where it is longer; and else to some octet.
abbrev pub IsReadTo : Option (List ℕ) → List ℕ → LinkEnd → Type 0
IsReadTo left read (Whole summary) = IfSome left (λ octets. octets ≡ read)
IsReadTo left read (Rest at bad.Truncated) = IfSome left (λ octets. octets ≡ read)
IsReadTo left read TooLong = IfSome left (λ octets. (limit_of DumpOctets < length octets)
    × (read ≡ take (limit_of DumpOctets) octets))
IsReadTo left read other = IsReadOf left read

-- where a read failed, these octets are all that were taken of those that were left
abbrev pub IsAllTaken : Option (List ℕ) → Option (List ℕ) → List ℕ → LinkEnd → Type 0
IsAllTaken left left' read (Unread refusal) = IsTaken left read left'
IsAllTaken left left' read other = Unit {0}

-- the count of a source's faults has risen where a read failed, and else is as before
abbrev pub IsReadCounted : LinkEnd → ℕ → ℕ → Type 0
IsReadCounted (Unread refusal) before now = HasRisen before now
IsReadCounted other before now = Stays before now

-- ---- the sending

-- why the octets behind all packets are no packet, if there are any
abbrev pub kind_of_rest : Why → Option BadKind
kind_of_rest why.End = None
kind_of_rest why.Version = Some bad.Version
kind_of_rest why.Truncated = Some bad.Truncated

-- An answer of the sending ends a link so: without a refusal all packets of what was read were sent, and this is what
-- it had. Where the dump is longer than the limit, no other packet version number stands before it.
abbrev pub IsEndOf : Result DumpSummary Refusal → LinkEnd → Type 0
IsEndOf answer (Whole summary) = (answer ≡ Ok summary) × (kind_of_rest summary.why ≡ None)
IsEndOf answer (Rest at kind) =
    (summary : DumpSummary) × (answer ≡ Ok summary) × (summary.at ≡ at) × (kind_of_rest summary.why ≡ Some kind)
IsEndOf answer (Unread refusal) = refusal ≡ result_err answer
IsEndOf answer TooLong =
    (summary : DumpSummary) × (answer ≡ Ok summary) × (summary.why ≡ why.Version → ⊥)
IsEndOf answer (Refused refusal) = answer ≡ Err refusal

-- a dump all of whose packets were sent ends a link so, by its rest
abbrev pub IsEndOfSummary : DumpSummary → LinkEnd → Type 0
IsEndOfSummary summary (Whole other) = IsEndOf (Ok summary) (Whole other)
IsEndOfSummary summary (Rest at kind) = IsEndOf (Ok summary) (Rest at kind)
IsEndOfSummary summary other = ⊥

-- a link that reads no more ends so, by what became of the sending
abbrev pub IsEndOfReading : ReadingEnd → Result DumpSummary Refusal → LinkEnd → Type 0
IsEndOfReading reading.Failed answer end = end ≡ Unread (result_err answer)
IsEndOfReading other (Err refusal) end = end ≡ Refused refusal
IsEndOfReading reading.TooLong (Ok summary) end = end ≡ TooLong
IsEndOfReading reading.NoMore (Ok summary) end = IsEndOfSummary summary end

-- ---- the whole

module _ {D T : Type 0} (device : Device D) (first : StoreView D) (r : Receiving) (left left' : Option (List ℕ)) where
  -- What became of a link, whose source had these octets left, and has those at its end: these were read of its dump,
  -- their packets were sent by turns that put these rows, and this ended it.
  pub record IsLinkRun (old new : PassView Item Fill T) (end : LinkEnd) : Type 0 where
    pub put : List Row
    pub added : HasAdded r.link put old new
    pub read : List ℕ
    pub read_to : IsReadTo left read end
    pub all_taken : IsAllTaken left left' read end
    pub short : length read ≤ limit_of DumpOctets
    pub answer : Result DumpSummary Refusal
    pub sent : IsDumpSent device first read r put old new answer
    pub ended : IsEndOf answer end
