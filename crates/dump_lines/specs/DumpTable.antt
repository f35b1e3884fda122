-- The rows of a dump, as they are gathered packet by packet.
use Rattle.std.specs.Prelude.{◌≡◌, ℕ, ℤ, ◌^◌, ◌<◌, List, [], ◌∷◌, ◌++◌, true, false}
use Rattle.std.specs.List.{list_any, AllByRecursion}
use Rattle.arch_types.specs.Packet.{is_idle}
use Rattle.arch_types.specs.History.{is_duplicate_of, firsts}
use Rattle.yarch_table.specs.declared.table.Stored.{Stored}
use Rattle.yarch_table.specs.Stored.{rows_of}
use Rattle.dump_lines.specs.declared.counts.PacketOutcome.{PacketOutcome}
use Rattle.dump_lines.specs.declared.counts.PacketOutcome.TheVariants.{Idle, New, Duplicate}
use Rattle.dump_lines.specs.declared.counts.Counts.{Counts}
use Rattle.dump_lines.specs.Counting.{HasCounts, scanned_row}
use Rattle.dump_lines.specs.Text.{scanned_rows}

-- a stored row of table 0, which is seen where the table is read whole, since its position is small
abbrev pub IsVisible : Stored → Type 0
IsVisible stored = (stored.position < 2 ^ 32) × (stored.row.table ≡ 0)

-- the row of a packet at a position
abbrev pub stored_row : ℤ → List ℕ → ℕ → Stored
stored_row moment packet position = record { row = scanned_row moment packet; position = position }

-- what the insertion of a packet did to the stored rows
abbrev pub IsPacketAdded : List Stored → List Stored → ℤ → List ℕ → PacketOutcome → Type 0
IsPacketAdded old new moment packet Idle = (is_idle packet ≡ true) × (new ≡ old)
IsPacketAdded old new moment packet New =
    (is_idle packet ≡ false) × (list_any (is_duplicate_of (scanned_row moment packet)) (rows_of old) ≡ false)
    × ((position : ℕ) × (new ≡ old ++ stored_row moment packet position ∷ [])
    × IsVisible (stored_row moment packet position))
IsPacketAdded old new moment packet Duplicate =
    (is_idle packet ≡ false) × (list_any (is_duplicate_of (scanned_row moment packet)) (rows_of old) ≡ true)
    × (new ≡ old)

-- the rows of packets, and their counts
pub record IsGathered (packets : List (List ℕ)) (moment : ℤ) (stored : List Stored) (counts : Counts) : Type 0 where
  pub rows_are : rows_of stored ≡ firsts (scanned_rows packets moment)
  pub shown : AllByRecursion IsVisible stored
  pub counted : HasCounts packets moment counts
