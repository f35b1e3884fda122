-- A link between its turns.
use Rattle.std.specs.Prelude.{◌≡◌, ℕ, ℤ, ◌+◌, ◌*◌, ◌<◌, ◌≤◌, List, [], ◌∷◌, ◌++◌, flat_map, length, Option, Result, Err}
use Rattle.arch_disk.specs.Disk.{Device}
use Rattle.arch_types.specs.declared.row.Row.{Row}
use Rattle.arch_types.specs.Dump.{BeginsWithNoPacket}
use Rattle.refusals.specs.declared.refusal.Refusal.{Refusal}
use Rattle.refusals.specs.declared.refusal.Which.TheVariants.{DumpOctets}
use Rattle.refusals.specs.Limits.{limit_of}
use Rattle.history_items.specs.declared.fills.Fill.{Fill}
use Rattle.history_items.specs.declared.items.Item.{Item}
use Rattle.history_items.specs.Items.{databases_in}
use Rattle.shared_history.specs.Sent.{HasSent}
use Rattle.space_packet.specs.Rest.{why_of}
use Rattle.space_packet.specs.Waiting.{IsSplitSoFar, Waiting}
use Rattle.turn_cell.specs.Pass.{PassView}
use Rattle.archive_store.specs.Pages.{TellsRows}
use Rattle.archive_store.specs.StoreView.{StoreView}
use Rattle.load_session.specs.declared.batches.NextBatch.{NextBatch}
use Rattle.load_session.specs.declared.session.DumpSummary.{DumpSummary}
use Rattle.load_session.specs.Batches.{IsTakenFor}
use Rattle.load_session.specs.Receiving.{Receiving, arrived, receiving, rows_received}
use Rattle.load_jobs.specs.declared.sending.Progress.{Progress}
use Rattle.load_jobs.specs.declared.reading.ReadingEnd.{ReadingEnd}
use Rattle.load_jobs.specs.Links.{HasAdded, IsDumpSent}
use Rattle.load_jobs.specs.Reading.{IsReadOf, IsReadingEnd}

-- ---- what was sent

-- the rows of these packets were sent, as far as that is told
pub record IsSentSoFar {T : Type 0} (told : Type 0) (r : Receiving) (packets : List (List ℕ))
    (old now : PassView Item Fill T) : Type 0 where
  pub put : List Row
  pub added : HasAdded r.link put old now
  pub few : length put ≤ length (rows_received r packets)
  pub has_sent : told → HasSent (rows_received r packets) now.history.seen put

-- a turn was taken for each batch
abbrev pub IsATurnEach : ℕ → ℕ → List (List ℕ) → Type 0
IsATurnEach before now packets = 64 * now < 64 * before + length packets + 64

-- the packets are whole batches
abbrev pub AreBatches : List (List ℕ) → Type 0
AreBatches packets = (batches : ℕ) × (length packets ≡ batches * 64)

-- these packets are counted, and their rows
pub record AreCounted (r : Receiving) (packets : List (List ℕ)) (p : Progress) : Type 0 where
  pub of_packets : p.packets ≡ length packets
  pub of_idle : p.idle + arrived packets ≡ length packets
  pub of_routed : p.routed ≡ length (rows_received r packets)

-- nothing more was sent: the counts are as before
abbrev pub CountsStay : Progress → Progress → Type 0
CountsStay before after =
    (after.packets ≡ before.packets) × (after.idle ≡ before.idle) × (after.routed ≡ before.routed)

-- The counts are those of packets within the limit of a dump, beside so many that were taken ahead: each has an octet
-- or more, and 16 rows at most.
pub record IsWithinLimitWith (ahead : ℕ) (p : Progress) : Type 0 where
  pub packets : p.packets + ahead + p.taken.packets ≤ p.splitter.at
  pub idle : p.idle ≤ p.packets
  pub routed : p.routed ≤ 16 * p.packets
  pub octets : p.splitter.at + length p.splitter.octets ≤ limit_of DumpOctets

-- the counts are those of packets within the limit of a dump, where none were taken ahead
abbrev pub IsWithinLimit : Progress → Type 0
IsWithinLimit p = IsWithinLimitWith 0 p

-- so many fewer are ahead, within the limit
abbrev pub StaysWithin : ℕ → Progress → Progress → Type 0
StaysWithin fewer before after =
    (ahead : ℕ) → IsWithinLimitWith (fewer + ahead) before → IsWithinLimitWith ahead after

-- ---- what is in hand, and what was taken ahead

-- packets are received so behind what a pass has seen
abbrev pub behind : {T : Type 0} → Receiving → PassView Item Fill T → Receiving
behind r pass = receiving r.head pass.history.seen r.route r.link r.moment

-- packets are received so behind no item: as they are behind rows alone
abbrev pub behind_none : Receiving → Receiving
behind_none r = receiving r.head [] r.route r.link r.moment

-- some packets were taken for the next batch
abbrev pub IsInHand : Receiving → NextBatch → Type 0
IsInHand r taken = (packets : List (List ℕ)) × IsTakenFor (behind_none r) packets taken

-- the packets of batches, in their order
abbrev pub packets_of : List (List (List ℕ)) → List (List ℕ)
packets_of groups = flat_map (λ (packets : List (List ℕ)). packets) groups

-- each of these batches was taken for 64 packets of its own
unfoldable pub AreTakenFor : Receiving → List (List (List ℕ)) → List NextBatch → Type 0
AreTakenFor r [] [] = Unit {0}
AreTakenFor r (packets ∷ more) (batch ∷ batches) =
    (length packets ≡ 64) × IsTakenFor r packets batch × AreTakenFor r more batches
AreTakenFor r _ _ = ⊥

-- some packets were taken for these batches
abbrev pub AreAhead : Receiving → List NextBatch → Type 0
AreAhead r batches = (groups : List (List (List ℕ))) × AreTakenFor (behind_none r) groups batches

-- Packets that waited first were taken behind those in hand: the first of all these are the packets of whole batches,
-- and the others are in hand now.
pub record HasTakenAhead (r : Receiving) (had : List (List ℕ)) (old new : Waiting) (after : NextBatch)
    (batches : List NextBatch) : Type 0 where
  pub groups : List (List (List ℕ))
  pub in_hand : List (List ℕ)
  pub ahead : AreTakenFor r groups batches
  pub taken : IsTakenFor r in_hand after
  pub rising : old.at + length (packets_of groups ++ in_hand) ≤ new.at + length had
  pub level : new.at + length new.octets ≡ old.at + length old.octets
  pub split : (read : List ℕ) (sent : List (List ℕ)) → IsSplitSoFar read (sent ++ had) old
      → IsSplitSoFar read (sent ++ (packets_of groups ++ in_hand)) new

-- Of the octets that were read, these packets were sent, these behind them were taken ahead, and these are in hand;
-- behind those octets wait. Nothing was noted in the fill list, and nothing had added a database before.
pub record IsUnderway {T : Type 0} (told : Type 0) (r : Receiving) (read : List ℕ)
    (sent ahead in_hand : List (List ℕ)) (old now : PassView Item Fill T) (p : Progress) : Type 0 where
  pub alone : databases_in old.history.seen ≡ []
  pub split : IsSplitSoFar read (sent ++ (ahead ++ in_hand)) p.splitter
  pub taken : IsTakenFor (behind_none r) in_hand p.taken
  pub so_far : IsSentSoFar told r sent old now
  pub silent : now.fills.places ≡ old.fills.places
  pub turns : IsATurnEach old.turns now.turns sent
  pub counted : AreCounted r sent p

-- so it is between two reads: whole batches were sent, none is ahead, and no packet waits whole
pub record IsBetweenReads {T : Type 0} (told : Type 0) (r : Receiving) (read : List ℕ) (old now : PassView Item Fill T)
    (p : Progress) : Type 0 where
  pub sent : List (List ℕ)
  pub in_hand : List (List ℕ)
  pub underway : IsUnderway told r read sent [] in_hand old now p
  pub whole : AreBatches sent
  pub none_waits : BeginsWithNoPacket p.splitter.octets

-- what a link had of its dump, where all packets of it were sent
abbrev pub summary_of : Progress → DumpSummary
summary_of p = record {
  packets = p.packets;
  idle = p.idle;
  routed = p.routed;
  at = p.splitter.at;
  why = why_of p.splitter.octets;
}

-- ---- how it ends

-- its turns put rows, and this became of what was read of its dump
abbrev pub IsAnswered : {D T : Type 0} → Device D → StoreView D → List ℕ → Receiving → PassView Item Fill T
    → PassView Item Fill T → Result DumpSummary Refusal → Type 0
IsAnswered device first read r old new answer =
    (put : List Row) × HasAdded r.link put old new × IsDumpSent device first read r put old new answer

-- ---- what its calls do, whatever was read and sent before

-- whole batches were taken ahead
abbrev pub TakesAhead : Receiving → Progress → Progress → List NextBatch → Type 0
TakesAhead r before after batches = (had : List (List ℕ)) → IsTakenFor (behind_none r) had before.taken
    → HasTakenAhead (behind_none r) had before.splitter after.splitter after.taken batches

-- a batch was sent by a turn, and is counted
abbrev pub SendsBatch : {T : Type 0} → Type 0 → Receiving → NextBatch → PassView Item Fill T → PassView Item Fill T
    → Progress → Progress → Type 0
SendsBatch {T = T} told r batch old new before after =
    (origin : PassView Item Fill T) (read : List ℕ) (sent packets ahead in_hand : List (List ℕ)) → AreBatches sent
    → IsTakenFor (behind_none r) packets batch
    → IsUnderway told (behind r origin) read sent (packets ++ ahead) in_hand origin old before
    → IsUnderway told (behind r origin) read (sent ++ packets) ahead in_hand origin new after

-- its turn was refused, where it is a whole batch or no packet is behind it
abbrev pub RefusesBatch : {D T : Type 0} → Device D → StoreView D → Receiving → NextBatch → PassView Item Fill T
    → PassView Item Fill T → Progress → Refusal → Type 0
RefusesBatch {T = T} device first r batch old new before refusal =
    (origin : PassView Item Fill T) (read : List ℕ) (sent packets ahead in_hand : List (List ℕ)) → AreBatches sent
    → IsTakenFor (behind_none r) packets batch
    → (length packets < 64 → (ahead ++ in_hand ≡ []) × BeginsWithNoPacket before.splitter.octets)
    → IsUnderway (TellsRows device first) (behind r origin) read sent (packets ++ ahead) in_hand origin old before
    → IsAnswered device first read (behind r origin) origin new (Err refusal)

-- batches that were taken ahead were sent, each by a turn, and are counted
abbrev pub SendsAhead : {T : Type 0} → Type 0 → Receiving → List NextBatch → PassView Item Fill T
    → PassView Item Fill T → Progress → Progress → Type 0
SendsAhead {T = T} told r batches old new before after =
    (origin : PassView Item Fill T) (read : List ℕ) (sent : List (List ℕ)) (groups : List (List (List ℕ)))
    (in_hand : List (List ℕ)) → AreBatches sent → AreTakenFor (behind_none r) groups batches
    → IsUnderway told (behind r origin) read sent (packets_of groups) in_hand origin old before
    → IsUnderway told (behind r origin) read (sent ++ packets_of groups) [] in_hand origin new after

-- the turn of one of them was refused: those behind it are as if they had not been taken
abbrev pub RefusesAhead : {D T : Type 0} → Device D → StoreView D → Receiving → List NextBatch → PassView Item Fill T
    → PassView Item Fill T → Progress → Refusal → Type 0
RefusesAhead {T = T} device first r batches old new before refusal =
    (origin : PassView Item Fill T) (read : List ℕ) (sent : List (List ℕ)) (groups : List (List (List ℕ)))
    (in_hand : List (List ℕ)) → AreBatches sent → AreTakenFor (behind_none r) groups batches
    → IsUnderway (TellsRows device first) (behind r origin) read sent (packets_of groups) in_hand origin old before
    → IsAnswered device first read (behind r origin) origin new (Err refusal)

-- what waited was taken in hand, and sent but for fewer packets than a batch takes
abbrev pub SendsWaiting : {T : Type 0} → Type 0 → Receiving → PassView Item Fill T → PassView Item Fill T → Progress
    → Progress → Type 0
SendsWaiting {T = T} told r old new before after =
    (origin : PassView Item Fill T) (read : List ℕ) (sent in_hand : List (List ℕ)) → AreBatches sent
    → IsUnderway told (behind r origin) read sent [] in_hand origin old before
    → IsBetweenReads told (behind r origin) read origin new after

-- the sending was answered so
abbrev pub EndsSending : {D T : Type 0} → Device D → StoreView D → Receiving → PassView Item Fill T
    → PassView Item Fill T → Progress → Result DumpSummary Refusal → Type 0
EndsSending {T = T} device first r old new before answer =
    (origin : PassView Item Fill T) (read : List ℕ) (sent in_hand : List (List ℕ)) → AreBatches sent
    → IsUnderway (TellsRows device first) (behind r origin) read sent [] in_hand origin old before
    → IsAnswered device first read (behind r origin) origin new answer

-- ---- what reading its dump comes to

-- nothing was read, sent or taken yet, by a link that receives at a moment
pub record HasBegun (moment : ℤ) (p : Progress) : Type 0 where
  pub waiting : p.splitter ≡ record { at = 0; octets = [] }
  pub none : (p.taken.packets ≡ 0) × (p.taken.batch.arrivals ≡ [])
  pub received : p.taken.batch.rectime ≡ moment
  pub counts : (p.packets ≡ 0) × (p.idle ≡ 0) × (p.routed ≡ 0)

module _ {T : Type 0} (r : Receiving) (left : Option (List ℕ)) where
  -- These octets were read, so that those are left, and no more for this reason. What is left to send is in hand.
  pub record IsSentUpTo (told : Type 0) (left' : Option (List ℕ)) (old new : PassView Item Fill T) (p : Progress)
      (end : ReadingEnd) : Type 0 where
    pub read : List ℕ
    pub read_of : IsReadOf left read
    pub short : length read ≤ limit_of DumpOctets
    pub sent : IsBetweenReads told r read old new p
    pub ends : IsReadingEnd left left' read p.splitter.octets end

  -- these octets were read, and the sending of them was refused
  pub record IsRefusedAt {D : Type 0} (device : Device D) (first : StoreView D) (old new : PassView Item Fill T)
      (refusal : Refusal) : Type 0 where
    pub read : List ℕ
    pub read_of : IsReadOf left read
    pub short : length read ≤ limit_of DumpOctets
    pub answered : IsAnswered device first read r old new (Err refusal)
