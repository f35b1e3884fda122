-- Batches that are taken ahead of their turns.
use Rattle.std.proofs.Common.{◌≡◌, ℕ, ◌+◌, ◌*◌, ◌≤◌, List, [], ◌∷◌, ◌++◌, length, refl, sym, ap, subst, ◌∙◌, arith, append-nil, append_assoc, length-append}
use Rattle.std.proofs.lemmas.List.Concat.{flat_map-append}
use Rattle.space_packet.specs.Waiting.{IsSplitSoFar, Waiting}
use Rattle.load_session.specs.declared.batches.NextBatch.{NextBatch}
use Rattle.load_session.specs.Batches.{HasTakenWaiting, IsTakenFor}
use Rattle.load_session.specs.Receiving.{Receiving}
use Rattle.load_jobs.specs.declared.sending.Progress.{Progress}
use Rattle.load_jobs.specs.Underway.{AreTakenFor, HasTakenAhead, IsWithinLimitWith, packets_of}

-- as many packets as whole batches have
pub packets_of_groups : (r : Receiving) (groups : List (List (List ℕ))) (batches : List NextBatch) → AreTakenFor r groups batches → length (packets_of groups) ≡ 64 * length batches
unfolding AreTakenFor
packets_of_groups r [] [] t = refl
packets_of_groups r [] (b ∷ bs) t = absurd t
packets_of_groups r (g ∷ gs) [] t = absurd t
packets_of_groups r (g ∷ gs) (b ∷ bs) t =
    let full = t.0 in
    let more = packets_of_groups r gs bs t.2 in
    let both = length-append g (packets_of gs) in
    omega (arith, full, more, both)

-- one more was taken behind them
taken_more : (r : Receiving) (groups : List (List (List ℕ))) (batches : List NextBatch) (packets : List (List ℕ)) (batch : NextBatch) → AreTakenFor r groups batches → length packets ≡ 64 → IsTakenFor r packets batch
    → AreTakenFor r (groups ++ packets ∷ []) (batches ++ batch ∷ [])
unfolding AreTakenFor
taken_more r [] [] packets batch t full taken = (full, taken, tt)
taken_more r [] (b ∷ bs) packets batch t full taken = absurd t
taken_more r (g ∷ gs) [] packets batch t full taken = absurd t
taken_more r (g ∷ gs) (b ∷ bs) packets batch t full taken = (t.0, t.1, taken_more r gs bs packets batch t.2 full taken)

-- the one that comes next, and those behind it
pub taken_next : (r : Receiving) (groups : List (List (List ℕ))) (batches rest : List NextBatch) (batch : NextBatch) → AreTakenFor r groups batches → batches ≡ batch ∷ rest
    → (packets : List (List ℕ)) × (more : List (List (List ℕ))) × (groups ≡ packets ∷ more) × (length packets ≡ 64) × IsTakenFor r packets batch × AreTakenFor r more rest
unfolding AreTakenFor
taken_next r groups batches rest batch t is = go groups (subst (AreTakenFor r groups) is t)
  where
    go : (groups : List (List (List ℕ))) → AreTakenFor r groups (batch ∷ rest)
        → (packets : List (List ℕ)) × (more : List (List (List ℕ))) × (groups ≡ packets ∷ more) × (length packets ≡ 64) × IsTakenFor r packets batch × AreTakenFor r more rest
    go [] t = absurd t
    go (g ∷ gs) t = (g, gs, refl, t.0, t.1, t.2)

packets_more : (groups : List (List (List ℕ))) (packets : List (List ℕ)) → packets_of (groups ++ packets ∷ []) ≡ packets_of groups ++ packets
packets_more groups packets = flat_map-append (λ (packets : List (List ℕ)). packets) groups (packets ∷ []) ∙ ap (λ (l : List (List ℕ)). packets_of groups ++ l) (append-nil packets)

-- ---- what was taken

-- nothing yet
pub taken_none_ahead : (r : Receiving) (had : List (List ℕ)) (waiting : Waiting) (taken : NextBatch) → IsTakenFor r had taken → HasTakenAhead r had waiting waiting taken []
unfolding AreTakenFor
taken_none_ahead r had waiting taken t = record {
  groups = [];
  in_hand = had;
  ahead = tt;
  taken = t;
  rising = omega arith;
  level = refl;
  split = λ read sent s. s;
}

-- more packets are in hand
pub ahead_waited : (r : Receiving) (had : List (List ℕ)) (old mid new : Waiting) (before after : NextBatch) (batches : List NextBatch) → HasTakenAhead r had old mid before batches → HasTakenWaiting r mid new before after
    → HasTakenAhead r had old new after batches
ahead_waited r had old mid new before after batches h t =
    let front = packets_of h.groups in
    let rising = h.rising in
    let more = t.rising in
    let had_long = length-append front h.in_hand in
    let now_long = length-append front (h.in_hand ++ t.packets) in
    let hand_long = length-append h.in_hand t.packets in
    record {
      groups = h.groups;
      in_hand = h.in_hand ++ t.packets;
      ahead = h.ahead;
      taken = t.taken h.in_hand h.taken;
      rising = omega (arith, rising, more, had_long, now_long, hand_long);
      level = t.level ∙ h.level;
      split = λ read sent s. subst (λ (l : List (List ℕ)). IsSplitSoFar read l new)
          (append_assoc sent (front ++ h.in_hand) t.packets ∙ ap (λ (l : List (List ℕ)). sent ++ l) (append_assoc front h.in_hand t.packets))
          (t.split read (sent ++ (front ++ h.in_hand)) (h.split read sent s));
    }

-- a whole batch in hand was taken out of it
pub ahead_batched : (r : Receiving) (had : List (List ℕ)) (old new : Waiting) (taken after : NextBatch) (batches : List NextBatch) (h : HasTakenAhead r had old new taken batches) → 64 ≤ taken.packets → IsTakenFor r [] after
    → HasTakenAhead r had old new after (batches ++ taken ∷ [])
ahead_batched r had old new taken after batches h least none =
    let count = h.taken.count in
    let few = h.taken.few in
    let more : packets_of (h.groups ++ h.in_hand ∷ []) ++ [] ≡ packets_of h.groups ++ h.in_hand = append-nil (packets_of (h.groups ++ h.in_hand ∷ [])) ∙ packets_more h.groups h.in_hand in
    let rising = h.rising in
    let long = ap length more in
    record {
      groups = h.groups ++ h.in_hand ∷ [];
      in_hand = [];
      ahead = taken_more r h.groups batches h.in_hand taken h.ahead (omega (arith, least, count, few)) h.taken;
      taken = none;
      rising = omega (arith, rising, long);
      level = h.level;
      split = λ read sent s. subst (λ (l : List (List ℕ)). IsSplitSoFar read (sent ++ l) new) (sym more) (h.split read sent s);
    }

-- ---- the counts stay within the limit

-- whole batches are ahead
pub within_ahead : (r : Receiving) (had : List (List ℕ)) (batches : List NextBatch) (p q : Progress) → IsTakenFor r had p.taken → HasTakenAhead r had p.splitter q.splitter q.taken batches → IsWithinLimitWith 0 p
    → q.packets ≡ p.packets → q.idle ≡ p.idle → q.routed ≡ p.routed → IsWithinLimitWith (64 * length batches) q
within_ahead r had batches p q taken h w packets idle routed =
    let before = taken.count in
    let after = h.taken.count in
    let whole = packets_of_groups r h.groups batches h.ahead in
    let both = length-append (packets_of h.groups) h.in_hand in
    let rising = h.rising in
    let level = h.level in
    let of_packets = w.packets in
    let of_idle = w.idle in
    let of_routed = w.routed in
    let octets = w.octets in
    record {
      packets = omega (arith, of_packets, before, after, whole, both, rising, packets);
      idle = omega (arith, of_idle, packets, idle);
      routed = omega (arith, of_routed, packets, routed);
      octets = omega (arith, octets, level);
    }

-- what was in hand is ahead, and nothing is in hand
pub within_batched : (p q : Progress) → IsWithinLimitWith 0 p → q.splitter ≡ p.splitter → q.taken.packets ≡ 0 → q.packets ≡ p.packets → q.idle ≡ p.idle → q.routed ≡ p.routed → IsWithinLimitWith p.taken.packets q
within_batched p q w waits none packets idle routed =
    let of_packets = w.packets in
    let of_idle = w.idle in
    let of_routed = w.routed in
    let octets = w.octets in
    let at = ap (λ (x : Waiting). x.at) waits in
    let left = ap (λ (x : Waiting). length x.octets) waits in
    record {
      packets = omega (arith, of_packets, none, packets, at);
      idle = omega (arith, of_idle, packets, idle);
      routed = omega (arith, of_routed, packets, routed);
      octets = omega (arith, octets, at, left);
    }

-- fewer are ahead
pub within_fewer : (all some : ℕ) (p : Progress) → some ≤ all → IsWithinLimitWith all p → IsWithinLimitWith some p
within_fewer all some p less w =
    let of_packets = w.packets in
    record { packets = omega (arith, of_packets, less); idle = w.idle; routed = w.routed; octets = w.octets }

-- the octets that wait grow fewer by the packets of whole batches
pub ahead_smaller : (r : Receiving) (had : List (List ℕ)) (batches : List NextBatch) (p q : Progress) → IsTakenFor r had p.taken → HasTakenAhead r had p.splitter q.splitter q.taken batches
    → length q.splitter.octets + (q.taken.packets + 64 * length batches) ≤ length p.splitter.octets + p.taken.packets
ahead_smaller r had batches p q taken h =
    let before = taken.count in
    let after = h.taken.count in
    let whole = packets_of_groups r h.groups batches h.ahead in
    let both = length-append (packets_of h.groups) h.in_hand in
    let rising = h.rising in
    let level = h.level in
    omega (arith, before, after, whole, both, rising, level)
