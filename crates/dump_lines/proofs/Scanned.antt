-- The rows of packets and their counts, with one packet more.
use Rattle.std.proofs.Common.{◌≡◌, ℕ, ℤ, ◌+◌, ◌<◌, List, [], ◌∷◌, ◌++◌, length, map, true, false, not, Bool, cond, ◌∙◌, ap, refl, arith, length-append, append-nil}
use Rattle.std.specs.Prelude.{flat_map, ◌^◌}
use Rattle.std.proofs.lemmas.List.Sums.{fold-append}
use Rattle.arch_types.specs.declared.row.Row.{Row}
use Rattle.arch_types.specs.Packet.{is_idle}
use Rattle.arch_types.specs.Arrivals.{row_of, kept}
use Rattle.arch_types.specs.History.{with_row, firsts}
use Rattle.dump_lines.specs.declared.counts.PacketOutcome.{PacketOutcome}
use Rattle.dump_lines.specs.declared.counts.PacketOutcome.TheVariants.{Idle, New, Duplicate}
use Rattle.dump_lines.specs.declared.counts.Counts.{Counts}
use Rattle.dump_lines.specs.Counting.{HasCounts, IsOutcomeOf, counts_with, no_counts, scanned_row}
use Rattle.dump_lines.specs.Text.{scanned_rows}

abbrev rows_of_packet : ℤ → List ℕ → List Row
rows_of_packet moment p = map (row_of 1 moment (λ p. 0) p) (0 ∷ [])

-- ---- the rows

-- a first packet, kept or not, leaves what comes at the end
idle_head : (b : Bool) (moment : ℤ) (q : List ℕ) (ps qs : List (List ℕ)) (more : List Row) → scanned_rows ps moment ≡ scanned_rows qs moment ++ more →
    flat_map (rows_of_packet moment) (cond (not b) (q ∷ kept ps) (kept ps)) ≡ flat_map (rows_of_packet moment) (cond (not b) (q ∷ kept qs) (kept qs)) ++ more
idle_head true moment q ps qs more h = h
idle_head false moment q ps qs more h = ap (λ (rs : List Row). scanned_row moment q ∷ rs) h

scanned-idle_by : (moment : ℤ) (packets : List (List ℕ)) (p : List ℕ) → is_idle p ≡ true → scanned_rows (packets ++ p ∷ []) moment ≡ scanned_rows packets moment ++ []
scanned-idle_by moment [] p h = rw h
scanned-idle_by moment (q ∷ qs) p h = idle_head (is_idle q) moment q (qs ++ p ∷ []) qs [] (scanned-idle_by moment qs p h)

scanned-idle : (moment : ℤ) (packets : List (List ℕ)) (p : List ℕ) → is_idle p ≡ true → scanned_rows (packets ++ p ∷ []) moment ≡ scanned_rows packets moment
scanned-idle moment packets p h = scanned-idle_by moment packets p h ∙ append-nil (scanned_rows packets moment)

scanned-kept : (moment : ℤ) (packets : List (List ℕ)) (p : List ℕ) → is_idle p ≡ false → scanned_rows (packets ++ p ∷ []) moment ≡ scanned_rows packets moment ++ scanned_row moment p ∷ []
scanned-kept moment [] p h = rw h
scanned-kept moment (q ∷ qs) p h = idle_head (is_idle q) moment q (qs ++ p ∷ []) qs (scanned_row moment p ∷ []) (scanned-kept moment qs p h)

firsts-push : (rows : List Row) (r : Row) → firsts (rows ++ r ∷ []) ≡ with_row (firsts rows) r
firsts-push rows r = fold-append with_row [] rows (r ∷ [])

-- ---- a packet more, by what became of it

module _ (packets : List (List ℕ)) (moment : ℤ) (p : List ℕ) where
  pub firsts_idle : IsOutcomeOf packets moment p Idle → firsts (scanned_rows (packets ++ p ∷ []) moment) ≡ firsts (scanned_rows packets moment)
  firsts_idle idle = ap firsts (scanned-idle moment packets p idle)

  pub firsts_new : IsOutcomeOf packets moment p New → firsts (scanned_rows (packets ++ p ∷ []) moment) ≡ firsts (scanned_rows packets moment) ++ scanned_row moment p ∷ []
  firsts_new new = rw (scanned-kept moment packets p new.0, firsts-push (scanned_rows packets moment) (scanned_row moment p), new.1) refl

  pub firsts_duplicate : IsOutcomeOf packets moment p Duplicate → firsts (scanned_rows (packets ++ p ∷ []) moment) ≡ firsts (scanned_rows packets moment)
  firsts_duplicate duplicate = rw (scanned-kept moment packets p duplicate.0, firsts-push (scanned_rows packets moment) (scanned_row moment p), duplicate.1) refl

  module _ (counts : Counts) (c : HasCounts packets moment counts) where
    counts_idle : IsOutcomeOf packets moment p Idle → HasCounts (packets ++ p ∷ []) moment (counts_with counts Idle)
    counts_idle idle =
        let of_packets = c.of_packets in let of_idle = c.of_idle in
        let same = scanned-idle moment packets p idle in
        let more = length-append packets (p ∷ []) in record {
          of_packets = rw more (omega arith);
          of_rows = rw same c.of_rows;
          of_duplicates = rw same c.of_duplicates;
          of_idle = rw (same, more) (omega arith);
        }

    counts_new : IsOutcomeOf packets moment p New → HasCounts (packets ++ p ∷ []) moment (counts_with counts New)
    counts_new new =
        let of_packets = c.of_packets in let of_rows = c.of_rows in let of_duplicates = c.of_duplicates in let of_idle = c.of_idle in
        let rows = scanned-kept moment packets p new.0 in
        let kept_rows = firsts_new new in
        let more = length-append packets (p ∷ []) in
        let more_rows = length-append (scanned_rows packets moment) (scanned_row moment p ∷ []) in
        let more_kept = length-append (firsts (scanned_rows packets moment)) (scanned_row moment p ∷ []) in record {
          of_packets = rw more (omega arith);
          of_rows = rw (kept_rows, more_kept) (omega arith);
          of_duplicates = rw (rows, more_rows) (omega arith);
          of_idle = rw (rows, more_rows, more) (omega arith);
        }

    counts_duplicate : IsOutcomeOf packets moment p Duplicate → HasCounts (packets ++ p ∷ []) moment (counts_with counts Duplicate)
    counts_duplicate duplicate =
        let of_packets = c.of_packets in let of_rows = c.of_rows in let of_duplicates = c.of_duplicates in let of_idle = c.of_idle in
        let rows = scanned-kept moment packets p duplicate.0 in
        let kept_rows = firsts_duplicate duplicate in
        let more = length-append packets (p ∷ []) in
        let more_rows = length-append (scanned_rows packets moment) (scanned_row moment p ∷ []) in record {
          of_packets = rw more (omega arith);
          of_rows = rw kept_rows c.of_rows;
          of_duplicates = rw (rows, more_rows) (omega arith);
          of_idle = rw (rows, more_rows, more) (omega arith);
        }

    pub counts_more : (outcome : PacketOutcome) → IsOutcomeOf packets moment p outcome → HasCounts (packets ++ p ∷ []) moment (counts_with counts outcome)
    counts_more Idle is = counts_idle is
    counts_more New is = counts_new is
    counts_more Duplicate is = counts_duplicate is

-- ---- few packets

-- each count has room for one more
pub record HaveRoom (counts : Counts) : Type 0 where
  pub packets : counts.packets + 1 < 2 ^ 64
  pub rows : counts.rows + 1 < 2 ^ 64
  pub duplicates : counts.duplicates + 1 < 2 ^ 64
  pub idle : counts.idle + 1 < 2 ^ 64

module _ (packets : List (List ℕ)) (moment : ℤ) (counts : Counts) (c : HasCounts packets moment counts) (few : length packets < 2 ^ 32) where
  pub rows_few : counts.rows < 2 ^ 32
  rows_few = let of_rows = c.of_rows in let of_duplicates = c.of_duplicates in let of_idle = c.of_idle in omega (arith, few, of_rows, of_duplicates, of_idle)

  pub counts_few : HaveRoom counts
  counts_few =
      let of_packets = c.of_packets in let of_duplicates = c.of_duplicates in let of_idle = c.of_idle in record {
        packets = omega (arith, few, of_packets);
        rows = omega (arith, rows_few);
        duplicates = omega (arith, few, of_duplicates, of_idle);
        idle = omega (arith, few, of_idle);
      }

-- ---- no packet

pub counts_none : (moment : ℤ) → HasCounts [] moment no_counts
counts_none moment = record { of_packets = refl; of_rows = refl; of_duplicates = refl; of_idle = refl }
