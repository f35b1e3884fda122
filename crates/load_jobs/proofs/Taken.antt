-- What was taken from a dump, batch by batch.
use Rattle.std.proofs.Common.{◌≡◌, ℕ, ◌+◌, ◌≤◌, List, [], length, inl, refl, arith}
use Rattle.std.proofs.lemmas.List.Elements.{All-nil}
use Rattle.arch_types.specs.Packet.{IsPacket}
use Rattle.space_packet.specs.Cut.{IsCut}
use Rattle.load_session.specs.Receiving.{Receiving, arrived, rows_received}
use Rattle.load_jobs.specs.Links.{batches_of}
use Rattle.load_jobs.specs.Underway.{IsATurnEach}
use Rattle.load_jobs.proofs.Batches.{AreWholeBatches}

-- the packets before an octet of a dump, in whole batches but for the last, and what they are counted to
pub record IsTaken (dump : List ℕ) (r : Receiving) (so_far : List (List ℕ)) (at packets idle routed : ℕ) : Type 0 where
  pub cut : IsCut dump so_far at
  pub few : length so_far ≤ at
  pub batches : AreWholeBatches dump so_far at
  pub of_packets : packets ≡ length so_far
  pub of_idle : idle + arrived so_far ≡ length so_far
  pub of_routed : routed ≡ length (rows_received r so_far)

pub nothing_taken : (dump : List ℕ) (r : Receiving) → IsTaken dump r [] 0 0 0 0
nothing_taken dump r = record {
  cut = record { within = omega arith; joined = refl; each = All-nil IsPacket };
  few = omega arith;
  batches = inl (0, refl);
  of_packets = refl;
  of_idle = refl;
  of_routed = refl;
}

-- so there are no more turns than batches
pub turns_counted : (before now : ℕ) (packets : List (List ℕ)) → IsATurnEach before now packets → now ≤ before + batches_of (length packets)
turns_counted before now packets had = omega (arith, had)
