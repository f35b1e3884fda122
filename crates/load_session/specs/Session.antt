-- How far a dump was sent, and what it had.
use Rattle.std.specs.Prelude.{◌≡◌, ◌⊎◌, ◌≤◌, ◌+◌, ◌*◌, ℕ, List, length, drop, Option}
use Rattle.refusals.specs.declared.refusal.Refusal.{Refusal}
use Rattle.arch_types.specs.declared.row.Row.{Row}
use Rattle.history_items.specs.declared.items.Item.{Item}
use Rattle.history_items.specs.Outcomes.{fresh_of}
use Rattle.space_packet.specs.Rest.{why_of}
use Rattle.load_session.specs.declared.session.DumpSummary.{DumpSummary}
use Rattle.load_session.specs.Batches.{batch_at}
use Rattle.load_session.specs.Receiving.{Receiving, arrived, rows_received}

-- ---- how far

-- How far a dump was sent: its packets, and its rest; the place before which they were ingested; the history that was
-- reached; and why the batch from that place on was refused, if one was.
pub record SessionResult : Type 0 where
  pub packets : List (List ℕ)
  pub rest : List ℕ
  pub place : ℕ
  pub reached : List Item
  pub refusal : Option Refusal

-- the rows of the batch from the place on
abbrev pub next_rows : Receiving → SessionResult → List Row
next_rows r s = rows_received r (batch_at s.place s.packets)

-- those of them that are new
abbrev pub next_fresh_rows : Receiving → SessionResult → List Row
next_fresh_rows r s = fresh_of s.reached (next_rows r s)

-- a place between two batches of packets: behind all of them, or behind so many whole batches
abbrev pub IsBetweenBatches : ℕ → List (List ℕ) → Type 0
IsBetweenBatches place packets = (place ≡ length packets) ⊎ ((batches : ℕ) × (place ≡ batches * 64))

-- ---- what it had

-- what a dump had, all of whose packets were ingested
pub record IsSummary (dump : List ℕ) (r : Receiving) (s : SessionResult) (whole : DumpSummary) : Type 0 where
  pub within : whole.at ≤ length dump
  pub rest : s.rest ≡ drop whole.at dump
  pub why : whole.why ≡ why_of s.rest
  pub of_packets : whole.packets ≡ length s.packets
  pub of_idle : whole.idle + arrived s.packets ≡ length s.packets
  pub of_routed : whole.routed ≡ length (rows_received r s.packets)
