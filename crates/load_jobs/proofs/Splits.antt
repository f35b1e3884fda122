-- What was read of a dump, by what was sent of it, what is in hand, and what waits.
use Rattle.std.proofs.Common.{◌≡◌, ℕ, ◌+◌, ◌≤◌, List, [], ◌∷◌, ◌++◌, length, drop, All, inl, refl, sym, ap, subst, ◌∙◌, arith, append_assoc, length-append}
use Rattle.std.specs.List.{concat}
use Rattle.std.proofs.Math.Seq.{take-append_seam, drop-append_seam}
use Rattle.std.proofs.lemmas.List.Elements.{All-append, All-drop, All-head, All-tail, All-take}
use Rattle.std.proofs.lemmas.List.Folds.{concat-append}
use Rattle.arch_types.specs.Dump.{BeginsWithNoPacket}
use Rattle.arch_types.specs.Packet.{IsPacket}
use Rattle.history_items.specs.declared.fills.Fill.{Fill}
use Rattle.history_items.specs.declared.items.Item.{Item}
use Rattle.history_items.specs.Items.{databases_in}
use Rattle.space_packet.specs.Cut.{IsCut}
use Rattle.space_packet.specs.Waiting.{IsSplitSoFar, Waiting}
use Rattle.turn_cell.specs.Pass.{PassView}
use Rattle.load_session.specs.Batches.{IsTakenFor}
use Rattle.load_session.specs.Receiving.{Receiving}
use Rattle.load_session.proofs.NameNumbers.{taken_for_behind}
use Rattle.load_jobs.specs.declared.sending.Progress.{Progress}
use Rattle.load_jobs.specs.Underway.{AreBatches, IsUnderway}
use Rattle.load_jobs.proofs.Batches.{AreWholeBatches, IsNextBatch, IsPacketRun}
use Rattle.load_jobs.proofs.Taken.{IsTaken}

-- ---- the octets that were read

-- what waits is what is behind the packets that were taken
pub rest_of_split : (read : List ℕ) (packets : List (List ℕ)) (w : Waiting) → IsSplitSoFar read packets w → drop w.at read ≡ w.octets
rest_of_split read packets w s =
    ap (λ (n : ℕ). drop n read) s.place ∙ (ap (drop (length (concat packets))) s.joined ∙ drop-append_seam (concat packets) w.octets)

-- as many octets were read
pub read_of_split : (read : List ℕ) (packets : List (List ℕ)) (w : Waiting) → IsSplitSoFar read packets w → length read ≡ w.at + length w.octets
read_of_split read packets w s =
    let whole = ap length s.joined in
    let parts = length-append (concat packets) w.octets in
    let place = s.place in
    omega (arith, whole, parts, place)

pub cut_of_split : (read : List ℕ) (packets : List (List ℕ)) (w : Waiting) → IsSplitSoFar read packets w → IsCut read packets w.at
cut_of_split read packets w s =
    let all = read_of_split read packets w s in record {
      within = omega (arith, all);
      joined = s.joined ∙ ap (λ (l : List ℕ). concat packets ++ l) (sym (rest_of_split read packets w s));
      each = s.each;
    }

-- where those in hand are left out, they wait too
pub split_front : (read : List ℕ) (sent in_hand : List (List ℕ)) (w : Waiting) → IsSplitSoFar read (sent ++ in_hand) w
    → IsSplitSoFar read sent (record { at = length (concat sent); octets = concat in_hand ++ w.octets })
split_front read sent in_hand w s = record {
  joined = s.joined ∙ (ap (λ (l : List ℕ). l ++ w.octets) (concat-append sent in_hand) ∙ append_assoc (concat sent) (concat in_hand) w.octets);
  each = subst (All IsPacket) (take-append_seam sent in_hand) (All-take IsPacket (length sent) (sent ++ in_hand) s.each);
  place = refl;
}

-- each packet has an octet or more
pub packets_long : (packets : List (List ℕ)) → All IsPacket packets → length packets ≤ length (concat packets)
packets_long [] each = omega arith
packets_long (p ∷ ps) each =
    let header = (All-head IsPacket p ps each).header in
    let more = packets_long ps (All-tail IsPacket p ps each) in
    let both = length-append p (concat ps) in
    omega (arith, header, more, both)

-- the packets in hand are those behind the ones that were sent
pub run_of_split : (read : List ℕ) (sent in_hand : List (List ℕ)) (w : Waiting) → IsSplitSoFar read (sent ++ in_hand) w → IsPacketRun read (length (concat sent)) in_hand w.at
run_of_split read sent in_hand w s =
    let each : All IsPacket in_hand = subst (All IsPacket) (drop-append_seam sent in_hand) (All-drop IsPacket (length sent) (sent ++ in_hand) s.each) in
    let long = packets_long in_hand each in
    let place = s.place in
    let parts = ap length (concat-append sent in_hand) ∙ length-append (concat sent) (concat in_hand) in
    let all = read_of_split read (sent ++ in_hand) w s in
    let behind : drop (length (concat sent)) read ≡ concat in_hand ++ w.octets =
    rest_of_split read sent (record { at = length (concat sent); octets = concat in_hand ++ w.octets }) (split_front read sent in_hand w s) in
    record {
      rising = omega (arith, long, place, parts);
      follows = λ before cut. record {
        within = omega (arith, all);
        joined =
            cut.joined ∙ ap (λ (l : List ℕ). concat before ++ l) behind ∙ sym (append_assoc (concat before) (concat in_hand) w.octets)
            ∙ ap (λ (l : List ℕ). l ++ w.octets) (sym (concat-append before in_hand))
            ∙ ap (λ (l : List ℕ). concat (before ++ in_hand) ++ l) (sym (rest_of_split read (sent ++ in_hand) w s));
        each = All-append IsPacket before in_hand cut.each each;
      };
    }

-- ---- a link that is under way

module _ {T told : Type 0} (r : Receiving) (read : List ℕ) (sent in_hand : List (List ℕ)) (old now : PassView Item Fill T) (p : Progress) (u : IsUnderway told r read sent [] in_hand old now p) where
  -- what is in hand was taken for a batch behind what had come before
  pub taken_here : old.history.seen ≡ r.history → IsTakenFor r in_hand p.taken
  taken_here seen = taken_for_behind r.head r.history r.route r.link r.moment in_hand p.taken (subst (λ (l : List Item). databases_in l ≡ []) seen u.alone) u.taken

  -- which is the next one of what was read
  pub in_hand_next : old.history.seen ≡ r.history → IsNextBatch read (length (concat sent)) p.splitter.at r p.taken
  in_hand_next seen =
      let taken = taken_here seen in
      record { packets = in_hand; run = run_of_split read sent in_hand p.splitter u.split; count = taken.count; few = taken.few; batch = taken.batch }

  -- and what was sent was taken of it
  pub taken_by : AreWholeBatches read sent (length (concat sent)) → IsTaken read r sent (length (concat sent)) p.packets p.idle p.routed
  taken_by batches =
      let front = split_front read sent in_hand p.splitter u.split in
      let long = packets_long sent front.each in
      record {
        cut = cut_of_split read sent (record { at = length (concat sent); octets = concat in_hand ++ p.splitter.octets }) front;
        few = long;
        batches = batches;
        of_packets = u.counted.of_packets;
        of_idle = u.counted.of_idle;
        of_routed = u.counted.of_routed;
      }

  pub sent_taken : AreBatches sent → IsTaken read r sent (length (concat sent)) p.packets p.idle p.routed
  sent_taken whole = taken_by (inl whole)

  -- no packet is behind it, where none waits
  pub none_behind_it : BeginsWithNoPacket p.splitter.octets → BeginsWithNoPacket (drop p.splitter.at read)
  none_behind_it none = subst BeginsWithNoPacket (sym (rest_of_split read (sent ++ in_hand) p.splitter u.split)) none
