-- Batches of the packets of a dump.
use mathlib.Core.List.{IsPrefix}
use Rattle.std.specs.Prelude.{◌≡◌, ℕ, ◌+◌, ◌≤◌, List, [], ◌∷◌, ◌++◌, length, take, drop, if◌then◌else◌}
use Rattle.arch_types.specs.Arrivals.{row_of}
use Rattle.arch_types.specs.Packet.{is_idle}
use Rattle.history_items.specs.declared.items.Item.{Item}
use Rattle.space_packet.specs.Waiting.{IsSplitSoFar, Waiting}
use Rattle.archive_store.specs.declared.batch.Arrival.{Arrival}
use Rattle.archive_store.specs.declared.batch.Batch.{Batch}
use Rattle.archive_store.specs.Batches.{batch_rows, IsBatch}
use Rattle.load_session.specs.declared.batches.NextBatch.{NextBatch}
use Rattle.load_session.specs.Receiving.{Receiving, arrived, received_pname, rows_received, tables_of_packet}

-- the packets of a batch: at most 64 successive ones from a place on
abbrev pub batch_at : ℕ → List (List ℕ) → List (List ℕ)
batch_at place packets = take 64 (drop place packets)

-- the arrival of a packet
abbrev pub arrival_from : Receiving → List ℕ → Arrival
arrival_from r packet =
    record { row = row_of r.link r.moment (received_pname r) packet 0; tables = tables_of_packet r packet }

-- arrivals, and that of one packet more where it isn't idle
abbrev pub arrivals_with : Receiving → List Arrival → List ℕ → List Arrival
arrivals_with r before packet = if is_idle packet then before else before ++ arrival_from r packet ∷ []

-- the batch of packets: those that aren't idle, in their order; a store of the head takes it behind any history that begins with theirs
pub record IsBatchOf (r : Receiving) (packets : List (List ℕ)) (batch : Batch) : Type 0 where
  pub received : batch.rectime ≡ r.moment
  pub takes : (history : List Item) → IsPrefix r.history history → IsBatch r.head history batch
  pub rows : batch_rows batch ≡ rows_received r packets
  pub count : length batch.arrivals ≡ arrived packets

-- these packets, no more than a batch takes, were taken for it
pub record IsTakenFor (r : Receiving) (packets : List (List ℕ)) (taken : NextBatch) : Type 0 where
  pub count : taken.packets ≡ length packets
  pub few : length packets ≤ 64
  pub batch : IsBatchOf r packets taken.batch

-- Packets that waited first were taken for a batch behind those that it has: what is behind them waits.
pub record HasTakenWaiting (r : Receiving) (old new : Waiting) (before after : NextBatch) : Type 0 where
  pub packets : List (List ℕ)
  pub rising : old.at + length packets ≤ new.at
  pub level : new.at + length new.octets ≡ old.at + length old.octets
  pub split : (read : List ℕ) (had : List (List ℕ)) → IsSplitSoFar read had old
      → IsSplitSoFar read (had ++ packets) new
  pub taken : (had : List (List ℕ)) → IsTakenFor r had before → IsTakenFor r (had ++ packets) after
