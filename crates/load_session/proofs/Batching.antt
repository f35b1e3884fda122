-- Packets that wait, taken for a batch.
use Rattle.std.proofs.Common.{◌≡◌, ℕ, ◌+◌, ◌<◌, List, [], ◌∷◌, ◌++◌, length, refl, sym, ap, subst, arith, append-nil, append_assoc, length-append}
use Rattle.arch_types.specs.Packet.{IsPacket}
use Rattle.text_forms.specs.ClockTime.{IsClockTime}
use Rattle.space_packet.specs.Waiting.{IsSplitSoFar, IsTaken, Waiting}
use Rattle.space_packet.proofs.Waiting.{taken_more as waiting_taken}
use Rattle.load_session.specs.declared.batches.NextBatch.{NextBatch}
use Rattle.load_session.specs.Receiving.{Receiving}
use Rattle.load_session.specs.Batches.{arrivals_with, HasTakenWaiting, IsTakenFor}
use Rattle.load_session.proofs.Arrived.{CanReceive, batch_none, batch_more}

-- none yet
pub taken_for_none : (r : Receiving) (taken : NextBatch) → taken.packets ≡ 0 → taken.batch.rectime ≡ r.moment → taken.batch.arrivals ≡ [] → IsClockTime r.moment → IsTakenFor r [] taken
taken_for_none r taken count received none time = record {
  count = count;
  few = omega arith;
  batch = batch_none r taken.batch received none time;
}

-- one more
pub taken_for_more : (r : Receiving) (had : List (List ℕ)) (packet : List ℕ) (old new : NextBatch) → CanReceive r → old.packets < 64 → IsPacket packet → new.packets ≡ old.packets + 1
    → new.batch.rectime ≡ old.batch.rectime → new.batch.arrivals ≡ arrivals_with r old.batch.arrivals packet → IsTakenFor r had old → IsTakenFor r (had ++ packet ∷ []) new
taken_for_more r had packet old new can left whole count received grown t =
    let before = t.count in
    let more = length-append had (packet ∷ []) in record {
      count = omega (arith, before, count, more);
      few = omega (arith, before, left, more);
      batch = batch_more r had packet old.batch new.batch can (omega (arith, before, left)) whole t.batch received grown;
    }

-- no packet was taken that waited
pub waiting_none : (r : Receiving) (now : Waiting) (taken : NextBatch) → HasTakenWaiting r now now taken taken
waiting_none r now taken = record {
  packets = [];
  rising = omega arith;
  level = refl;
  split = λ read had so_far. subst (λ (l : List (List ℕ)). IsSplitSoFar read l now) (sym (append-nil had)) so_far;
  taken = λ had t. subst (λ (l : List (List ℕ)). IsTakenFor r l taken) (sym (append-nil had)) t;
}

-- one more was
pub waiting_more : (r : Receiving) (first old new : Waiting) (before mid after : NextBatch) (packet : List ℕ) → CanReceive r → mid.packets < 64 → IsTaken old packet new → after.packets ≡ mid.packets + 1
    → after.batch.rectime ≡ mid.batch.rectime → after.batch.arrivals ≡ arrivals_with r mid.batch.arrivals packet → HasTakenWaiting r first old before mid → HasTakenWaiting r first new before after
waiting_more r first old new before mid after packet can left taken count received grown t =
    let rising = t.rising in
    let level = t.level in
    let place = taken.place in
    let header = taken.whole.header in
    let more = length-append t.packets (packet ∷ []) in
    let whole = ap length taken.joined in
    let parts = length-append packet new.octets in record {
      packets = t.packets ++ packet ∷ [];
      rising = omega (arith, rising, place, header, more);
      level = omega (arith, level, place, whole, parts);
      split = λ read had so_far.
          subst (λ (l : List (List ℕ)). IsSplitSoFar read l new) (append_assoc had t.packets (packet ∷ [])) (waiting_taken read (had ++ t.packets) old packet new (t.split read had so_far) taken);
      taken = λ had was.
          subst (λ (l : List (List ℕ)). IsTakenFor r l after) (append_assoc had t.packets (packet ∷ [])) (taken_for_more r (had ++ t.packets) packet mid after can left taken.whole count received grown (t.taken had was));
    }
