-- The stored rows of packets, with one packet more.
use Rattle.std.proofs.Common.{◌≡◌, ℕ, ℤ, List, [], ◌∷◌, ◌++◌, false, true, ap, refl}
use Rattle.std.specs.List.{list_any, AllByRecursion}
use Rattle.arch_types.specs.declared.row.Row.{Row}
use Rattle.arch_types.specs.History.{firsts, is_duplicate_of, has_key}
use Rattle.yarch_table.specs.declared.table.Stored.{Stored}
use Rattle.yarch_table.specs.Stored.{rows_of}
use Rattle.dump_lines.specs.declared.counts.PacketOutcome.{PacketOutcome}
use Rattle.dump_lines.specs.declared.counts.PacketOutcome.TheVariants.{Idle, New, Duplicate}
use Rattle.dump_lines.specs.declared.counts.Counts.{Counts}
use Rattle.dump_lines.specs.Counting.{IsOutcomeOf, counts_with, no_counts, scanned_row}
use Rattle.dump_lines.specs.DumpTable.{IsVisible, IsPacketAdded, IsGathered}
use Rattle.dump_lines.specs.Text.{scanned_rows}
use Rattle.dump_lines.proofs.Scanned.{counts_more, counts_none, firsts_idle, firsts_new, firsts_duplicate}

pub rows_of-push : (stored : List Stored) (s : Stored) → rows_of (stored ++ s ∷ []) ≡ rows_of stored ++ s.row ∷ []
rows_of-push [] s = refl
rows_of-push (x ∷ xs) s = ap (λ (rs : List Row). x.row ∷ rs) (rows_of-push xs s)

shown-push : (stored : List Stored) (s : Stored) → AllByRecursion IsVisible stored → IsVisible s → AllByRecursion IsVisible (stored ++ s ∷ [])
shown-push [] s all h = (h, tt)
shown-push (x ∷ xs) s all h = (all.0, shown-push xs s all.1 h)

module _ (packets : List (List ℕ)) (moment : ℤ) (p : List ℕ) (old new : List Stored) (counts : Counts) (g : IsGathered packets moment old counts) where
  gathered_idle : IsPacketAdded old new moment p Idle → IsGathered (packets ++ p ∷ []) moment new (counts_with counts Idle)
  gathered_idle a =
      let outcome : IsOutcomeOf packets moment p Idle = a.0 in record {
        rows_are = rw (a.1, firsts_idle packets moment p outcome) g.rows_are;
        shown = rw a.1 g.shown;
        counted = counts_more packets moment p counts g.counted Idle outcome;
      }

  gathered_new : IsPacketAdded old new moment p New → IsGathered (packets ++ p ∷ []) moment new (counts_with counts New)
  gathered_new a =
      let stored : Stored = record { row = scanned_row moment p; position = a.2.0 } in
      let absent : list_any (is_duplicate_of (scanned_row moment p)) (firsts (scanned_rows packets moment)) ≡ false = rw g.rows_are at a.1 in
      let outcome : IsOutcomeOf packets moment p New = (a.0, absent) in record {
        rows_are = rw (a.2.1, rows_of-push old stored, g.rows_are, firsts_new packets moment p outcome) refl;
        shown = rw a.2.1 (shown-push old stored g.shown a.2.2);
        counted = counts_more packets moment p counts g.counted New outcome;
      }

  gathered_duplicate : IsPacketAdded old new moment p Duplicate → IsGathered (packets ++ p ∷ []) moment new (counts_with counts Duplicate)
  gathered_duplicate a =
      let present : list_any (is_duplicate_of (scanned_row moment p)) (firsts (scanned_rows packets moment)) ≡ true = rw g.rows_are at a.1 in
      let outcome : IsOutcomeOf packets moment p Duplicate = (a.0, present) in record {
        rows_are = rw (a.2, firsts_duplicate packets moment p outcome) g.rows_are;
        shown = rw a.2 g.shown;
        counted = counts_more packets moment p counts g.counted Duplicate outcome;
      }

  pub gathered_more : (added : PacketOutcome) → IsPacketAdded old new moment p added → IsGathered (packets ++ p ∷ []) moment new (counts_with counts added)
  gathered_more Idle a = gathered_idle a
  gathered_more New a = gathered_new a
  gathered_more Duplicate a = gathered_duplicate a

-- no packet
pub gathered_none : (moment : ℤ) → IsGathered [] moment [] no_counts
gathered_none moment = record { rows_are = refl; shown = tt; counted = counts_none moment }

-- a row of table 0 is a duplicate where its key is there
pub duplicate-is : (moment : ℤ) (p : List ℕ) (stored : List Stored) → AllByRecursion IsVisible stored →
    list_any (is_duplicate_of (scanned_row moment p)) (rows_of stored) ≡ list_any (has_key (scanned_row moment p).key) (rows_of stored)
duplicate-is moment p [] all = refl
duplicate-is moment p (s ∷ stored) all = rw (all.0.1, duplicate-is moment p stored all.1)
