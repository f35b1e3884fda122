-- The packet that waits first.
use Rattle.std.proofs.Common.{◌≡◌, ℕ, ◌+◌, ◌<◌, ◌≤◌, List, [], ◌∷◌, ◌++◌, length, take, drop, Bool, true, false, append_assoc, append-nil, length-append, refl, sym, ◌∙◌, ap, arith}
use Rattle.std.specs.Prelude.{slice_index, slice_range, nat_lt, if◌then◌else◌}
use Rattle.std.specs.List.{concat}
use Rattle.std.proofs.lemmas.List.{take-append-drop, length-take, get_or-take}
use Rattle.std.proofs.lemmas.List.Folds.{concat-append}
use Rattle.std.proofs.lemmas.List.Elements.{All-push}
use Rattle.std.proofs.lemmas.Bool.Decides.{nat_tests}
use Rattle.arch_types.specs.Packet.{IsPacket, packet_length}
use Rattle.space_packet.specs.declared.dump.Why.TheVariants.{Truncated, Version}
use Rattle.space_packet.specs.Pieces.{StartsInFirst}
use Rattle.space_packet.specs.Rest.{why_of}
use Rattle.space_packet.specs.Waiting.{Waiting, IsSplitSoFar, IsFirst, IsTaken}
use Rattle.space_packet.proofs.Cuts.{range_is}
use Rattle.space_packet.proofs.Pieces.{octets_of_first}

-- octets that are less than a packet begin with packet version number 000
truncated_version : (octets : List ℕ) → why_of octets ≡ Truncated → slice_index octets 0 < 32
truncated_version [] h = absurd cc
truncated_version (octet ∷ more) h = by (nat_lt octet 32) (λ e. grind (arith, nat_tests, e)) h where
  by : (b : Bool) → (b ≡ true → octet < 32) → (if b then Truncated else Version) ≡ Truncated → octet < 32
  by true small e = small refl
  by false small e = absurd cc

-- as many octets as the header says are a packet
pub packet_of_header : (octets : List ℕ) (n : ℕ) → why_of octets ≡ Truncated → 7 ≤ length octets → n ≡ packet_length (take 7 octets) → n ≤ length octets →
    IsPacket (take n octets)
packet_of_header octets n why some is within = record {
  header = omega (arith, size);
  version = version;
  whole = omega (arith, size, same 4 (omega arith), same 5 (omega arith));
} where
  size : length (take n octets) ≡ n
  size = rw (length-take n octets) (omega arith)

  same : (k : ℕ) → k < 7 → slice_index (take 7 octets) k ≡ slice_index (take n octets) k
  same k h = get_or-take 7 octets k 0 h ∙ sym (get_or-take n octets k 0 (omega arith))

  version : slice_index (take n octets) 0 < 32
  version = rw (get_or-take n octets 0 0 (omega arith)) (truncated_version octets why)

-- a packet in the first piece waits first
pub first_in_piece : (pieces : List (List ℕ)) (piece : List ℕ) (more : List (List ℕ)) (start n : ℕ) (packet octets : List ℕ) → pieces ≡ piece ∷ more →
    StartsInFirst pieces start → octets ≡ drop start (concat pieces) → packet ≡ slice_range piece start (start + n) →
    IsPacket (take n (drop start piece)) → IsFirst packet octets
first_in_piece pieces piece more start n packet octets e first is cut whole = record {
  whole = rw taken whole;
  more = drop n (drop start piece) ++ concat more;
  joined = rw (is, waits, taken, ← append_assoc (take n (drop start piece)) (drop n (drop start piece)) (concat more), take-append-drop n (drop start piece)) refl;
} where
  here : start < length piece
  here = rw e at first

  waits : drop start (concat pieces) ≡ drop start piece ++ concat more
  waits = octets_of_first pieces piece more start e (omega (arith, here))

  taken : packet ≡ take n (drop start piece)
  taken = cut ∙ range_is piece start n

-- the packet that waits first, where the pieces that it crosses are put together
pub first_joined : (octets : List ℕ) (n : ℕ) (packet : List ℕ) → IsPacket (take n octets) → packet ≡ take n octets → IsFirst packet octets
first_joined octets n packet whole is = record {
  whole = rw is whole;
  more = drop n octets;
  joined = rw is (sym (take-append-drop n octets));
}

pub fed_more : (fed : List ℕ) (packets : List (List ℕ)) (old : Waiting) (piece : List ℕ) (new : Waiting) → IsSplitSoFar fed packets old →
    new ≡ record { at = old.at; octets = old.octets ++ piece } → IsSplitSoFar (fed ++ piece) packets new
fed_more fed packets old piece new so_far is = record {
  joined = rw is (ap (λ o. o ++ piece) so_far.joined ∙ append_assoc (concat packets) old.octets piece);
  each = so_far.each;
  place = rw is so_far.place;
}

pub taken_more : (fed : List ℕ) (packets : List (List ℕ)) (old : Waiting) (packet : List ℕ) (new : Waiting) → IsSplitSoFar fed packets old →
    IsTaken old packet new → IsSplitSoFar fed (packets ++ packet ∷ []) new
taken_more fed packets old packet new so_far taken = record {
  joined = rw (all, append_assoc (concat packets) packet new.octets) (so_far.joined ∙ ap (λ o. concat packets ++ o) taken.joined);
  each = All-push IsPacket packets packet so_far.each taken.whole;
  place =
      let sum = length-append (concat packets) packet in
      let before = so_far.place in
      let place = taken.place in
      rw all (omega arith);
} where
  all : concat (packets ++ packet ∷ []) ≡ concat packets ++ packet
  all = concat-append packets (packet ∷ []) ∙ ap (λ o. concat packets ++ o) (append-nil packet)
