-- A link goes on between its turns.
use Rattle.std.proofs.Common.{◌≡◌, inr, ℕ, ℤ, ◌+◌, ◌-◌, ◌*◌, ◌<◌, ◌≤◌, List, [], ◌∷◌, ◌++◌, length, Option, Result, Ok, Err, refl, sym, ap, subst, ◌∙◌, arith, append-nil, append_assoc, length-append}
use Rattle.std.specs.Prelude.{Contains, OnOk}
use Rattle.std.specs.List.{AllByRecursion, concat, range_with_len}
use Rattle.std.proofs.lemmas.List.Elements.{All-nil}
use Rattle.arch_disk.specs.Disk.{Device}
use Rattle.arch_types.specs.declared.row.Row.{Row}
use Rattle.arch_types.specs.Dump.{BeginsWithNoPacket}
use Rattle.arch_types.specs.Packet.{IsPacket}
use Rattle.text_forms.specs.ClockTime.{IsClockTime}
use Rattle.refusals.specs.declared.refusal.Refusal.{Refusal}
use Rattle.refusals.specs.declared.refusal.Refusal.TheVariants as refused
use Rattle.refusals.specs.declared.refusal.Which.TheVariants.{DumpOctets}
use Rattle.refusals.specs.Limits.{limit_of}
use Rattle.history_items.specs.declared.fills.Fill.{Fill}
use Rattle.history_items.specs.declared.items.Item.{Item}
use Rattle.history_items.specs.Items.{databases_in, items_of}
use Rattle.history_items.specs.Outcomes.{fresh_of}
use Rattle.outer_traits.specs.Whole.{IsTaken}
use Rattle.space_packet.specs.Rest.{why_of}
use Rattle.space_packet.specs.Waiting.{IsSplitSoFar, Waiting}
use Rattle.space_packet.proofs.Waiting.{fed_more}
use Rattle.stream_graph.specs.declared.statement.RouteStatement.{RouteStatement}
use Rattle.turn_cell.specs.Pass.{PassView}
use Rattle.archive_store.specs.Head.{Head}
use Rattle.archive_store.specs.Batches.{batch_rows}
use Rattle.archive_store.specs.Pages.{TellsRows}
use Rattle.archive_store.specs.StoreView.{StoreView}
use Rattle.live_archive.specs.Added.{AddsTo}
use Rattle.live_archive.specs.Answers.{SaysIngested}
use Rattle.live_archive.specs.Turns.{TookTurn}
use Rattle.load_session.specs.declared.batches.NextBatch.{NextBatch}
use Rattle.load_session.specs.Batches.{HasTakenWaiting, IsTakenFor}
use Rattle.load_session.specs.Receiving.{IsRouteOver, Receiving, arrived, receiving, rows_received}
use Rattle.load_session.proofs.Batching.{taken_for_none}
use Rattle.load_session.proofs.Arrived.{arrived-append, few_arrived, few_rows, rows-append}
use Rattle.load_jobs.specs.declared.sending.Progress.{Progress}
use Rattle.load_jobs.specs.Underway.{AreBatches, AreTakenFor, HasBegun, HasTakenAhead, IsAnswered, IsBetweenReads, IsInHand, IsRefusedAt, IsUnderway, IsWithinLimit, IsWithinLimitWith, behind, behind_none, packets_of, summary_of}
use Rattle.load_jobs.proofs.Ahead.{packets_of_groups, taken_next}
use Rattle.load_jobs.proofs.Runs.{all_sent, batch_refused, sent_no_memory}
use Rattle.load_jobs.proofs.SentSoFar.{sent_more, sent_none}
use Rattle.load_jobs.proofs.Pieces.{read_of}
use Rattle.load_jobs.proofs.Taken.{nothing_taken}
use Rattle.load_jobs.proofs.Splits.{in_hand_next, none_behind_it, read_of_split, rest_of_split, sent_taken, split_front, taken_by, taken_here}

-- whole batches were sent of what was read, and some packets are in hand
abbrev pub IsOn : {T : Type 0} → Type 0 → Receiving → List ℕ → PassView Item Fill T → PassView Item Fill T → Progress → Type 0
IsOn told r read old now p =
    (sent : List (List ℕ)) × (in_hand : List (List ℕ)) × AreBatches sent × IsUnderway told r read sent [] in_hand old now p

-- so it goes on, whatever was read and sent before
abbrev pub GoesOnTo : {T : Type 0} → Type 0 → Receiving → PassView Item Fill T → PassView Item Fill T → Progress → Progress → Type 0
GoesOnTo {T = T} told r old now before after =
    (origin : PassView Item Fill T) (read : List ℕ) (sent in_hand : List (List ℕ)) → AreBatches sent → IsUnderway told (behind r origin) read sent [] in_hand origin old before → IsOn told (behind r origin) read origin now after

-- whole batches were sent, and these batches are ahead: all of their packets are these, and some behind them are in hand
abbrev pub IsOnAhead : {T : Type 0} → Type 0 → Receiving → List ℕ → List NextBatch → List (List ℕ) → List (List ℕ) → PassView Item Fill T → PassView Item Fill T → Progress → Type 0
IsOnAhead told r read batches all in_hand old now p =
    (sent : List (List ℕ)) × (groups : List (List (List ℕ))) × AreBatches sent × AreTakenFor (behind_none r) groups batches × (sent ++ packets_of groups ≡ all) × IsUnderway told r read sent (packets_of groups) in_hand old now p

-- so some of these batches were sent, and the others are ahead, whatever was read and sent before
abbrev pub SendsTo : {T : Type 0} → Type 0 → Receiving → List NextBatch → List NextBatch → PassView Item Fill T → PassView Item Fill T → Progress → Progress → Type 0
SendsTo {T = T} told r batches left old now before after =
    (origin : PassView Item Fill T) (read : List ℕ) (sent : List (List ℕ)) (groups : List (List (List ℕ))) (in_hand : List (List ℕ)) → AreBatches sent → AreTakenFor (behind_none r) groups batches
    → IsUnderway told (behind r origin) read sent (packets_of groups) in_hand origin old before → IsOnAhead told (behind r origin) read left (sent ++ packets_of groups) in_hand origin now after

-- ---- octets

-- nothing of the sending changes where only what waits does
pub same_but_waiting : {T told : Type 0} (r : Receiving) (read more : List ℕ) (sent in_hand : List (List ℕ)) (old now : PassView Item Fill T) (p q : Progress) → IsUnderway told r read sent [] in_hand old now p
    → IsSplitSoFar more (sent ++ in_hand) q.splitter → q.taken ≡ p.taken → q.packets ≡ p.packets → q.idle ≡ p.idle → q.routed ≡ p.routed → IsUnderway told r more sent [] in_hand old now q
same_but_waiting r read more sent in_hand old now p q u split taken packets idle routed = record {
  alone = u.alone;
  split = split;
  taken = subst (IsTakenFor (behind_none r) in_hand) (sym taken) u.taken;
  so_far = u.so_far;
  silent = u.silent;
  turns = u.turns;
  counted = record {
    of_packets = packets ∙ u.counted.of_packets;
    of_idle = ap (λ (n : ℕ). n + arrived sent) idle ∙ u.counted.of_idle;
    of_routed = routed ∙ u.counted.of_routed;
  };
}

-- a piece more was read
pub underway_fed : {T told : Type 0} (r : Receiving) (read piece : List ℕ) (sent in_hand : List (List ℕ)) (old now : PassView Item Fill T) (p q : Progress) → IsUnderway told r read sent [] in_hand old now p
    → q.splitter ≡ record { at = p.splitter.at; octets = p.splitter.octets ++ piece } → q.taken ≡ p.taken → q.packets ≡ p.packets → q.idle ≡ p.idle → q.routed ≡ p.routed
    → IsUnderway told r (read ++ piece) sent [] in_hand old now q
underway_fed r read piece sent in_hand old now p q u fed taken packets idle routed =
    same_but_waiting r read (read ++ piece) sent in_hand old now p q u (fed_more read (sent ++ in_hand) p.splitter piece q.splitter u.split fed) taken packets idle routed

-- what follows without an error
pub on_ok : {A E P Q : Type 0} (result : Result A E) → (P → Q) → OnOk result P → OnOk result Q
on_ok (Ok value) then is = then is
on_ok (Err error) then is = tt

-- what is in hand was received at the moment
pub taken_at : (head : Head) (route : List RouteStatement) (link : ℕ) (moment : ℤ) (old new : Waiting) (before after : NextBatch) → before.batch.rectime ≡ moment
    → HasTakenWaiting (receiving head [] route link before.batch.rectime) old new before after → HasTakenWaiting (receiving head [] route link moment) old new before after
taken_at head route link moment old new before after is t = subst (λ (m : ℤ). HasTakenWaiting (receiving head [] route link m) old new before after) is t

-- whole batches were taken ahead
pub underway_ahead : {T told : Type 0} (r : Receiving) (read : List ℕ) (sent in_hand : List (List ℕ)) (old now : PassView Item Fill T) (batches : List NextBatch) (p q : Progress) → IsUnderway told r read sent [] in_hand old now p
    → (t : HasTakenAhead (behind_none r) in_hand p.splitter q.splitter q.taken batches) → q.packets ≡ p.packets → q.idle ≡ p.idle → q.routed ≡ p.routed → IsUnderway told r read sent (packets_of t.groups) t.in_hand old now q
underway_ahead r read sent in_hand old now batches p q u t packets idle routed = record {
  alone = u.alone;
  split = t.split read sent u.split;
  taken = t.taken;
  so_far = u.so_far;
  silent = u.silent;
  turns = u.turns;
  counted = record {
    of_packets = packets ∙ u.counted.of_packets;
    of_idle = ap (λ (n : ℕ). n + arrived sent) idle ∙ u.counted.of_idle;
    of_routed = routed ∙ u.counted.of_routed;
  };
}

-- what was in hand is ahead, and nothing is in hand
pub underway_batched : {T told : Type 0} (r : Receiving) (read : List ℕ) (sent in_hand : List (List ℕ)) (old now : PassView Item Fill T) (p q : Progress) → IsUnderway told r read sent [] in_hand old now p → q.splitter ≡ p.splitter
    → IsTakenFor (behind_none r) [] q.taken → q.packets ≡ p.packets → q.idle ≡ p.idle → q.routed ≡ p.routed → IsUnderway told r read sent (in_hand ++ []) [] old now q
underway_batched r read sent in_hand old now p q u waits none packets idle routed = record {
  alone = u.alone;
  split = subst (λ (l : List (List ℕ)). IsSplitSoFar read (sent ++ l) q.splitter) (sym (append-nil (in_hand ++ []) ∙ append-nil in_hand)) (subst (IsSplitSoFar read (sent ++ in_hand)) (sym waits) u.split);
  taken = none;
  so_far = u.so_far;
  silent = u.silent;
  turns = u.turns;
  counted = record {
    of_packets = packets ∙ u.counted.of_packets;
    of_idle = ap (λ (n : ℕ). n + arrived sent) idle ∙ u.counted.of_idle;
    of_routed = routed ∙ u.counted.of_routed;
  };
}

-- the batch that comes next is in hand, and what was taken behind it waits as if it had not been taken
abbrev pub as_if : Progress → NextBatch → List (List ℕ) → List (List ℕ) → Progress
as_if p batch front behind = record p { splitter = record { at = length (concat front); octets = concat behind ++ p.splitter.octets }; taken = batch }

packets_behind : (sent packets ahead in_hand : List (List ℕ)) → (sent ++ packets) ++ (ahead ++ in_hand) ≡ sent ++ ((packets ++ ahead) ++ in_hand)
packets_behind sent packets ahead in_hand = append_assoc sent packets (ahead ++ in_hand) ∙ ap (λ (l : List (List ℕ)). sent ++ l) (sym (append_assoc packets ahead in_hand))

underway_first : {T told : Type 0} (r : Receiving) (read : List ℕ) (sent packets ahead in_hand : List (List ℕ)) (old now : PassView Item Fill T) (p : Progress) (batch : NextBatch)
    → IsUnderway told r read sent (packets ++ ahead) in_hand old now p → IsTakenFor (behind_none r) packets batch → IsUnderway told r read sent [] packets old now (as_if p batch (sent ++ packets) (ahead ++ in_hand))
underway_first r read sent packets ahead in_hand old now p batch u taken = record {
  alone = u.alone;
  split = split_front read (sent ++ packets) (ahead ++ in_hand) p.splitter (subst (λ (l : List (List ℕ)). IsSplitSoFar read l p.splitter) (sym (packets_behind sent packets ahead in_hand)) u.split);
  taken = taken;
  so_far = u.so_far;
  silent = u.silent;
  turns = u.turns;
  counted = record { of_packets = u.counted.of_packets; of_idle = u.counted.of_idle; of_routed = u.counted.of_routed };
}

-- where a piece more was read that has room
pub within_fed : (p q : Progress) (piece : List ℕ) → IsWithinLimit p → q.splitter ≡ record { at = p.splitter.at; octets = p.splitter.octets ++ piece } → q.taken ≡ p.taken → q.packets ≡ p.packets → q.idle ≡ p.idle
    → q.routed ≡ p.routed → p.splitter.at + (length p.splitter.octets + length piece) ≤ limit_of DumpOctets → IsWithinLimit q
within_fed p q piece w fed taken packets idle routed fits =
    let of_packets = w.packets in
    let of_idle = w.idle in
    let of_routed = w.routed in
    let hand = ap (λ (t : NextBatch). t.packets) taken in
    let at = ap (λ (x : Waiting). x.at) fed in
    let octets = ap (λ (x : Waiting). length x.octets) fed in
    let longer = length-append p.splitter.octets piece in
    record {
      packets = omega (arith, of_packets, packets, hand, at);
      idle = omega (arith, of_idle, packets, idle);
      routed = omega (arith, of_routed, packets, routed);
      octets = omega (arith, at, octets, longer, fits);
    }

-- and where a batch was sent
pub within_sent : (r : Receiving) (more : ℕ) (batch : NextBatch) (p q : Progress) → IsInHand r batch → length r.head.tables ≤ 16 → IsRouteOver r.head r.route → IsWithinLimitWith (batch.packets + more) p → q.splitter ≡ p.splitter
    → q.taken ≡ p.taken → q.packets ≡ p.packets + batch.packets → q.idle ≡ p.idle + (batch.packets - length batch.batch.arrivals) → q.routed ≡ p.routed + length (batch_rows batch.batch) → IsWithinLimitWith more q
within_sent r ahead batch p q hand most over w waits same packets idle routed =
    let t = hand.1 in
    let count = t.count in
    let rows = ap length t.batch.rows in
    let more = few_rows (behind_none r) hand.0 most over in
    let less = few_arrived hand.0 in
    let of_packets = w.packets in
    let of_idle = w.idle in
    let of_routed = w.routed in
    let octets = w.octets in
    let in_hand = ap (λ (t : NextBatch). t.packets) same in
    let at = ap (λ (x : Waiting). x.at) waits in
    let left = ap (λ (x : Waiting). length x.octets) waits in
    record {
      packets = omega (arith, of_packets, in_hand, packets, at);
      idle = omega (arith, of_idle, packets, idle);
      routed = omega (arith, of_routed, packets, routed, rows, more, less, count);
      octets = omega (arith, octets, at, left);
    }

-- where nothing is in hand, there are no packets in it
pub none_in_hand : {T told : Type 0} (r : Receiving) (read : List ℕ) (sent in_hand : List (List ℕ)) (old now : PassView Item Fill T) (p : Progress) → IsUnderway told r read sent [] in_hand old now p → length in_hand ≡ 0
    → IsUnderway told r read sent [] [] old now p
none_in_hand r read sent [] old now p u none = u
none_in_hand r read sent (q ∷ qs) old now p u none = absurd (omega (arith, none))

-- a whole batch more
pub batches_sent : (sent in_hand : List (List ℕ)) → AreBatches sent → length in_hand ≡ 64 → AreBatches (sent ++ in_hand)
batches_sent sent in_hand whole full =
    let count = whole.1 in
    let both = length-append sent in_hand in
    (whole.0 + 1, omega (arith, count, full, both))

-- whole batches more
pub groups_sent : (r : Receiving) (sent : List (List ℕ)) (groups : List (List (List ℕ))) (batches : List NextBatch) → AreBatches sent → AreTakenFor r groups batches → AreBatches (sent ++ packets_of groups)
groups_sent r sent groups batches whole t =
    let count = whole.1 in
    let more = packets_of_groups r groups batches t in
    let both = length-append sent (packets_of groups) in
    (whole.0 + length batches, omega (arith, count, more, both))

-- ---- answers

module _ {D T : Type 0} (device : Device D) (first : StoreView D) (r : Receiving) (read : List ℕ) (origin now : PassView Item Fill T) (p : Progress) (seen : origin.history.seen ≡ r.history) where
  -- memory was wanting before a batch
  pub answered_no_memory : IsOn (TellsRows device first) r read origin now p → IsAnswered device first read r origin now (Err refused.OutOfMemory)
  answered_no_memory (sent, in_hand, whole, u) =
      sent_no_memory device first read r origin sent (length (concat sent)) p.packets p.idle p.routed (sent_taken r read sent in_hand origin now p u whole) now u.so_far u.silent u.turns

  -- the turn of what is in hand was refused
  refused_in_hand : (sent in_hand : List (List ℕ)) (new : PassView Item Fill T) (refusal : Refusal) → AreBatches sent → (u : IsUnderway (TellsRows device first) r read sent [] in_hand origin now p)
      → (length in_hand < 64 → BeginsWithNoPacket p.splitter.octets) → TookTurn device first now new (SaysIngested device (batch_rows p.taken.batch) (Err refusal)) → IsAnswered device first read r origin new (Err refusal)
  refused_in_hand sent in_hand new refusal whole u last turn =
      let next = in_hand_next r read sent in_hand origin now p u seen in
      let count = u.taken.count in
      batch_refused device first read r origin sent (length (concat sent)) p.packets p.idle p.routed (sent_taken r read sent in_hand origin now p u whole) now u.so_far u.silent u.turns new p.splitter.at p.taken next refusal
      (λ few. none_behind_it r read sent in_hand origin now p u (last (omega (arith, few, count)))) turn

  -- all of it was sent
  pub answered_all : (sent : List (List ℕ)) → IsUnderway (TellsRows device first) r read sent [] [] origin now p → BeginsWithNoPacket p.splitter.octets → IsAnswered device first read r origin now (Ok (summary_of p))
  answered_all sent u none =
      let front = rest_of_split read sent (record { at = length (concat sent); octets = p.splitter.octets }) (split_front read sent [] p.splitter u.split) in
      let none_more = subst BeginsWithNoPacket (sym front) none in
      let whole = rest_of_split read (sent ++ []) p.splitter u.split in
      all_sent device first read r origin sent (length (concat sent)) p.packets p.idle p.routed (taken_by r read sent [] origin now p u (inr none_more)) now u.so_far u.silent u.turns
      p.splitter.at p.taken (why_of p.splitter.octets) (in_hand_next r read sent [] origin now p u seen) u.taken.count (λ few. none_behind_it r read sent [] origin now p u none) (ap why_of (sym whole))

-- ---- a turn

module _ {D T : Type 0} (device : Device D) (first : StoreView D) (r : Receiving) (read : List ℕ) (origin now : PassView Item Fill T) (p : Progress) (seen : origin.history.seen ≡ r.history) (batch : NextBatch) (sent packets ahead in_hand : List (List ℕ))
    (whole : AreBatches sent) (t : IsTakenFor (behind_none r) packets batch) (u : IsUnderway (TellsRows device first) r read sent (packets ++ ahead) in_hand origin now p) where
  -- that of the batch that comes next was refused
  pub answered_refused : (new : PassView Item Fill T) (refusal : Refusal) → (length packets < 64 → (ahead ++ in_hand ≡ []) × BeginsWithNoPacket p.splitter.octets)
      → TookTurn device first now new (SaysIngested device (batch_rows batch.batch) (Err refusal)) → IsAnswered device first read r origin new (Err refusal)
  answered_refused new refusal last turn =
      refused_in_hand device first r read origin now (as_if p batch (sent ++ packets) (ahead ++ in_hand)) seen sent packets new refusal whole (underway_first r read sent packets ahead in_hand origin now p batch u t)
      (λ few. let none = last few in subst (λ (l : List (List ℕ)). BeginsWithNoPacket (concat l ++ p.splitter.octets)) (sym none.0) none.1) turn

module _ {T told : Type 0} (r : Receiving) (read : List ℕ) (origin now : PassView Item Fill T) (p : Progress) (seen : origin.history.seen ≡ r.history) (batch : NextBatch) (sent packets ahead in_hand : List (List ℕ))
    (whole : AreBatches sent) (t : IsTakenFor (behind_none r) packets batch) (u : IsUnderway told r read sent (packets ++ ahead) in_hand origin now p) where
  -- it was sent, and is counted
  pub underway_sent : {D : Type 0} (before : StoreView D) (new : PassView Item Fill T) (q : Progress) (fresh : List Row) (noted : List Fill) → AllByRecursion (Contains (batch_rows batch.batch)) fresh → length fresh ≤ length (batch_rows batch.batch)
      → (told → fresh ≡ fresh_of before.history (batch_rows batch.batch)) → AddsTo before now new (items_of fresh) noted → noted ≡ []
      → 0 < batch.packets → q.splitter ≡ p.splitter → q.taken ≡ p.taken → q.packets ≡ p.packets + batch.packets → q.idle ≡ p.idle + (batch.packets - length batch.batch.arrivals)
      → q.routed ≡ p.routed + length (batch_rows batch.batch) → IsUnderway told r read (sent ++ packets) ahead in_hand origin new q
  underway_sent before new q fresh noted are fewer known adds none some waits same of_new idle routed =
      let here = taken_here r read sent packets origin now (as_if p batch (sent ++ packets) (ahead ++ in_hand)) (underway_first r read sent packets ahead in_hand origin now p batch u t) seen in
      let c = u.counted in
      let of_packets = c.of_packets in
      let of_idle = c.of_idle in
      let count = t.count in
      let arrivals = t.batch.count in
      let less = few_arrived packets in
      let more = length-append sent packets in
      let more_arrived = arrived-append sent packets in
      let batches = whole.1 in
      let had = u.turns in
      let one = adds.turns in
      record {
        alone = u.alone;
        split = subst (IsSplitSoFar read ((sent ++ packets) ++ (ahead ++ in_hand))) (sym waits) (subst (λ (l : List (List ℕ)). IsSplitSoFar read l p.splitter) (sym (packets_behind sent packets ahead in_hand)) u.split);
        taken = subst (IsTakenFor (behind_none r) in_hand) (sym same) u.taken;
        so_far = sent_more r before origin now new sent packets (batch_rows batch.batch) fresh noted here.batch.rows are fewer known adds u.so_far;
        silent = adds.fills.places ∙ (ap (λ (l : List Fill). now.fills.places ++ range_with_len (length before.fills) (length l)) none ∙ (append-nil now.fills.places ∙ u.silent));
        turns = omega (arith, batches, had, count, some, one, more);
        counted = record {
          of_packets = omega (arith, of_new, of_packets, count, more);
          of_idle = omega (arith, idle, of_idle, count, arrivals, less, more, more_arrived);
          of_routed =
              routed ∙ ap (λ (n : ℕ). n + length (batch_rows batch.batch)) c.of_routed
              ∙ ap (λ (l : List Row). length (rows_received r sent) + length l) here.batch.rows
              ∙ sym (length-append (rows_received r sent) (rows_received r packets))
              ∙ ap length (sym (rows-append r sent packets));
        };
      }

-- ---- turns one behind the other

module _ {T told : Type 0} (r : Receiving) (read : List ℕ) (batches : List NextBatch) (all in_hand : List (List ℕ)) (origin now : PassView Item Fill T) (p : Progress) (on : IsOnAhead told r read batches all in_hand origin now p) where
  -- all were sent
  pub all_ahead_sent : length batches ≡ 0 → IsUnderway told r read all [] in_hand origin now p
  all_ahead_sent none = go on.1 on.4 on.5 (packets_of_groups (behind_none r) on.1 batches on.3)
    where
      go : (groups : List (List (List ℕ))) → on.0 ++ packets_of groups ≡ all → IsUnderway told r read on.0 (packets_of groups) in_hand origin now p → length (packets_of groups) ≡ 64 * length batches → IsUnderway told r read all [] in_hand origin now p
      go groups same u count = rest (packets_of groups) same u (omega (arith, count, none))
        where
          rest : (ahead : List (List ℕ)) → on.0 ++ ahead ≡ all → IsUnderway told r read on.0 ahead in_hand origin now p → length ahead ≡ 0 → IsUnderway told r read all [] in_hand origin now p
          rest [] same u none = subst (λ (l : List (List ℕ)). IsUnderway told r read l [] in_hand origin now p) (sym (append-nil on.0) ∙ same) u
          rest (q ∷ qs) same u none = absurd (omega (arith, none))

  module _ (batch : NextBatch) (left : List NextBatch) (is : batches ≡ batch ∷ left) where
    -- the packets of the one that comes next
    next_group : (packets : List (List ℕ)) × (more : List (List (List ℕ))) × (on.1 ≡ packets ∷ more) × (length packets ≡ 64) × IsTakenFor (behind_none r) packets batch × AreTakenFor (behind_none r) more left
    next_group = taken_next (behind_none r) on.1 batches left batch on.3 is

    next_underway : IsUnderway told r read on.0 (next_group.0 ++ packets_of next_group.1) in_hand origin now p
    next_underway = subst (λ (l : List (List ℕ)). IsUnderway told r read on.0 l in_hand origin now p) (ap packets_of next_group.2) on.5

    -- it was sent
    pub one_sent : (new : PassView Item Fill T) (q : Progress)
        → ((sent packets ahead in_hand : List (List ℕ)) → AreBatches sent → IsTakenFor (behind_none r) packets batch → IsUnderway told r read sent (packets ++ ahead) in_hand origin now p
        → IsUnderway told r read (sent ++ packets) ahead in_hand origin new q)
        → IsOnAhead told r read left all in_hand origin new q
    one_sent new q sends =
        let n = next_group in (
          on.0 ++ n.0,
          n.1,
          batches_sent on.0 n.0 on.2 n.3,
          n.5,
          append_assoc on.0 n.0 (packets_of n.1) ∙ (ap (λ (g : List (List (List ℕ))). on.0 ++ packets_of g) (sym n.2) ∙ on.4),
          sends on.0 n.0 (packets_of n.1) in_hand on.2 n.4 next_underway,
        )

    -- its turn was refused
    pub one_refused : {D : Type 0} {refusal : Refusal} (device : Device D) (first : StoreView D) (new : PassView Item Fill T)
        → ((sent packets ahead in_hand : List (List ℕ)) → AreBatches sent → IsTakenFor (behind_none r) packets batch → (length packets < 64 → (ahead ++ in_hand ≡ []) × BeginsWithNoPacket p.splitter.octets)
        → IsUnderway told r read sent (packets ++ ahead) in_hand origin now p → IsAnswered device first read r origin new (Err refusal))
        → IsAnswered device first read r origin new (Err refusal)
    one_refused device first new refuses =
        let n = next_group in
        let full = n.3 in
        refuses on.0 n.0 (packets_of n.1) in_hand on.2 n.4 (λ few. absurd (omega (arith, few, full))) next_underway

-- ---- a link that begins

pub underway_begun : {T told : Type 0} (r : Receiving) (pass : PassView Item Fill T) (p : Progress) → databases_in pass.history.seen ≡ [] → pass.history.places ≡ [] → IsClockTime r.moment → HasBegun r.moment p
    → IsUnderway told r [] [] [] [] pass pass p
underway_begun r pass p alone fresh time b = record {
  alone = alone;
  split = subst (IsSplitSoFar [] []) (sym b.waiting) (record { joined = refl; each = All-nil IsPacket; place = refl });
  taken = taken_for_none (behind_none r) p.taken b.none.0 b.received b.none.1 time;
  so_far = sent_none r pass fresh;
  silent = refl;
  turns = omega arith;
  counted = record {
    of_packets = b.counts.0;
    of_idle = let idle = b.counts.1 in omega (arith, idle);
    of_routed = b.counts.2;
  };
}

pub within_begun : (moment : ℤ) (p : Progress) → HasBegun moment p → IsWithinLimit p
within_begun moment p b =
    let packets = b.counts.0 in
    let idle = b.counts.1 in
    let routed = b.counts.2 in
    let none = b.none.0 in
    let at = ap (λ (w : Waiting). w.at) b.waiting in
    let octets = ap (λ (w : Waiting). length w.octets) b.waiting in
    record {
      packets = omega (arith, packets, none, at);
      idle = omega (arith, packets, idle);
      routed = omega (arith, packets, routed);
      octets = omega (arith, at, octets);
    }

pub begun_waits : (moment : ℤ) (p : Progress) → HasBegun moment p → BeginsWithNoPacket p.splitter.octets
begun_waits moment p b =
    subst (λ (w : Waiting). BeginsWithNoPacket w.octets) (sym b.waiting)
    (λ q more is e. let header = is.header in let none = ap length e in let both = length-append q more in omega (arith, header, none, both))

-- memory was wanting behind what was read
pub no_memory_at : {D T : Type 0} (device : Device D) (first : StoreView D) (r : Receiving) (left now : Option (List ℕ)) (read : List ℕ) (origin pass : PassView Item Fill T) (p : Progress) → origin.history.seen ≡ r.history → IsTaken left read now
    → IsBetweenReads (TellsRows device first) r read origin pass p → IsWithinLimit p → IsRefusedAt r left device first origin pass refused.OutOfMemory
no_memory_at device first r left now read origin pass p seen taken b within =
    let all = read_of_split read (b.sent ++ b.in_hand) p.splitter b.underway.split in
    let fits = within.octets in
    record {
      read = read;
      read_of = read_of left now read taken;
      short = omega (arith, all, fits);
      answered = answered_no_memory device first r read origin pass p seen (b.sent, b.in_hand, b.whole, b.underway);
    }

-- nor before anything was read
pub nothing_sent : {D T : Type 0} (device : Device D) (first : StoreView D) (r : Receiving) (pass : PassView Item Fill T) → pass.history.places ≡ [] → IsAnswered device first [] r pass pass (Err refused.OutOfMemory)
nothing_sent device first r pass fresh = sent_no_memory device first [] r pass [] 0 0 0 0 (nothing_taken [] r) pass (sent_none r pass fresh) refl (omega arith)
