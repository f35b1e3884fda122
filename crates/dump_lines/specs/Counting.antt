-- What becomes of a dump's packets, and their counts.
use Rattle.std.specs.Prelude.{◌≡◌, ℕ, ℤ, ◌+◌, List, length, true, false}
use Rattle.std.specs.List.{list_any}
use Rattle.arch_types.specs.declared.row.Row.{Row}
use Rattle.arch_types.specs.Packet.{is_idle}
use Rattle.arch_types.specs.Arrivals.{row_of}
use Rattle.arch_types.specs.History.{is_duplicate_of, firsts}
use Rattle.dump_lines.specs.declared.counts.PacketOutcome.{PacketOutcome}
use Rattle.dump_lines.specs.declared.counts.PacketOutcome.TheVariants.{Idle, New, Duplicate}
use Rattle.dump_lines.specs.declared.counts.Counts.{Counts}
use Rattle.dump_lines.specs.Text.{scanned_rows}

-- the row of a packet that `scan` reads
abbrev pub scanned_row : ℤ → List ℕ → Row
scanned_row moment packet = row_of 1 moment (λ p. 0) packet 0

-- what became of a packet behind others: it is idle, or its row is new among their rows, or a duplicate of one
abbrev pub IsOutcomeOf : List (List ℕ) → ℤ → List ℕ → PacketOutcome → Type 0
IsOutcomeOf packets moment packet Idle = is_idle packet ≡ true
IsOutcomeOf packets moment packet New =
    (is_idle packet ≡ false)
    × (list_any (is_duplicate_of (scanned_row moment packet)) (firsts (scanned_rows packets moment)) ≡ false)
IsOutcomeOf packets moment packet Duplicate =
    (is_idle packet ≡ false)
    × (list_any (is_duplicate_of (scanned_row moment packet)) (firsts (scanned_rows packets moment)) ≡ true)

-- the counts of no packet
abbrev pub no_counts : Counts
no_counts = record { packets = 0; rows = 0; duplicates = 0; idle = 0 }

-- the counts with one more packet
abbrev pub counts_with : Counts → PacketOutcome → Counts
counts_with counts Idle = record counts { packets = counts.packets + 1; idle = counts.idle + 1 }
counts_with counts New = record counts { packets = counts.packets + 1; rows = counts.rows + 1 }
counts_with counts Duplicate = record counts { packets = counts.packets + 1; duplicates = counts.duplicates + 1 }

-- the counts of packets and of their rows
pub record HasCounts (packets : List (List ℕ)) (moment : ℤ) (counts : Counts) : Type 0 where
  pub of_packets : counts.packets ≡ length packets
  pub of_rows : counts.rows ≡ length (firsts (scanned_rows packets moment))
  pub of_duplicates : counts.duplicates + counts.rows ≡ length (scanned_rows packets moment)
  pub of_idle : counts.idle + length (scanned_rows packets moment) ≡ length packets
