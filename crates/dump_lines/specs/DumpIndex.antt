-- The keys of a dump's rows, as they are gathered packet by packet.
use Rattle.std.specs.Prelude.{◌≡◌, ℕ, ℤ, List, [], ◌∷◌, ◌++◌, length, map}
use Rattle.arch_types.specs.declared.key.Key.{Key}
use Rattle.arch_types.specs.declared.row.Row.{Row}
use Rattle.arch_types.specs.History.{firsts}
use Rattle.arch_types.specs.Table.{table_of}
use Rattle.dump_lines.specs.declared.counts.PacketOutcome.{PacketOutcome}
use Rattle.dump_lines.specs.declared.counts.Counts.{Counts}
use Rattle.dump_lines.specs.Counting.{HasCounts, IsOutcomeOf}
use Rattle.dump_lines.specs.Text.{scanned_rows}

-- the key of a row, and the length of its packet
abbrev pub entry_of : Row → Key × ℕ
entry_of row = (row.key, length row.packet)

-- those of the rows that packets give, duplicates dropped, in the order of their keys
abbrev pub entries_of_packets : List (List ℕ) → ℤ → List (Key × ℕ)
entries_of_packets packets moment = map entry_of (table_of 0 (firsts (scanned_rows packets moment)))

-- whatever packets were before it, a packet became this behind them, and the entries are theirs with it
abbrev pub PutsKey : List (Key × ℕ) → List (Key × ℕ) → ℤ → List ℕ → PacketOutcome → Type 0
PutsKey old new moment packet outcome =
    (packets : List (List ℕ)) → old ≡ entries_of_packets packets moment →
    IsOutcomeOf packets moment packet outcome × (new ≡ entries_of_packets (packets ++ packet ∷ []) moment)

-- the entries of packets, and their counts
pub record IsIndexed (packets : List (List ℕ)) (moment : ℤ) (entries : List (Key × ℕ)) (counts : Counts) : Type 0 where
  pub entries_are : entries ≡ entries_of_packets packets moment
  pub counted : HasCounts packets moment counts
