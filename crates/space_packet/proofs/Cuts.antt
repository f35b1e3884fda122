-- A dump cut into packets.
use Rattle.std.proofs.Common.{◌≡◌, ℕ, ◌+◌, ◌-◌, ◌≤◌, List, [], ◌∷◌, ◌++◌, take, drop, append_assoc, append-nil, arith, ap}
use Rattle.std.specs.Prelude.{slice_range}
use Rattle.std.specs.List.{concat}
use Rattle.std.proofs.lemmas.List.{take-append-drop, drop-drop}
use Rattle.std.proofs.lemmas.List.Folds.{concat-append}
use Rattle.std.proofs.lemmas.List.Elements.{All-push}
use Rattle.arch_types.specs.Packet.{IsPacket}
use Rattle.arch_types.specs.Dump.{IsDump, BeginsWithNoPacket}
use Rattle.space_packet.specs.Cut.{IsPacketRange, IsCut}

-- the n octets from a place on
pub range_is : (dump : List ℕ) (at n : ℕ) → slice_range dump at (at + n) ≡ take n (drop at dump)
range_is dump at n = let same : at + n - at ≡ n = omega arith in ap (λ (m : ℕ). take m (drop at dump)) same

joined_more : (dump : List ℕ) (packets : List (List ℕ)) (at n : ℕ) → dump ≡ concat packets ++ drop at dump →
    dump ≡ concat (packets ++ take n (drop at dump) ∷ []) ++ drop (at + n) dump
joined_more dump packets at n h =
    rw (concat-append packets (take n (drop at dump) ∷ []), append-nil (take n (drop at dump)), append_assoc, ← drop-drop n at dump, take-append-drop n (drop at dump)) h

joined_to : (dump : List ℕ) (packets : List (List ℕ)) (at end : ℕ) → at ≤ end → dump ≡ concat packets ++ drop at dump →
    dump ≡ concat (packets ++ slice_range dump at end ∷ []) ++ drop end dump
joined_to dump packets at end up h =
    let sum : at + (end - at) ≡ end = omega arith in
    let more = joined_more dump packets at (end - at) h in
    rw sum at more

-- one packet more
pub cut_more : (dump : List ℕ) (packets : List (List ℕ)) (start end : ℕ) → IsCut dump packets start → IsPacketRange dump start end →
    IsCut dump (packets ++ slice_range dump start end ∷ []) end
cut_more dump packets start end cut range = record {
  within = range.within;
  joined = joined_to dump packets start end range.rising cut.joined;
  each = All-push IsPacket packets (slice_range dump start end) cut.each range.packet;
}

-- where no packet follows, the cut is the dump's
pub cut_whole : (dump : List ℕ) (packets : List (List ℕ)) (at : ℕ) → IsCut dump packets at → BeginsWithNoPacket (drop at dump) → IsDump dump packets (drop at dump)
cut_whole dump packets at cut none = record { joined = cut.joined; each = cut.each; no_more = none }
