-- What `scan` prints.
use Rattle.std.specs.Prelude.{ℕ, ℤ, ◌-◌, List, [], ◌∷◌, ◌++◌, length, flat_map, codes, decimal}
use Rattle.std.specs.Fmt.{signed_decimal}
use Rattle.arch_types.specs.declared.key.Key.{Key}
use Rattle.arch_types.specs.declared.row.Row.{Row}
use Rattle.arch_types.specs.Arrivals.{arrivals}
use Rattle.arch_types.specs.History.{firsts}
use Rattle.arch_types.specs.Table.{table_of}

-- the line of a row: its time, its number and the length of its packet
abbrev pub row_line : Row → List ℕ
row_line row =
    codes "row " ++ signed_decimal row.key.time ++ codes " " ++ decimal row.key.seq ++ codes " "
    ++ decimal (length row.packet) ++ codes "\n"

-- so it is of a key and a length
abbrev pub key_line : Key → ℕ → List ℕ
key_line key len =
    codes "row " ++ signed_decimal key.time ++ codes " " ++ decimal key.seq ++ codes " " ++ decimal len ++ codes "\n"

-- the last line: how many packets there were, and how many of them are rows, duplicates and idle
abbrev pub counts_line : ℕ → ℕ → ℕ → ℕ → List ℕ
counts_line packets rows duplicates idle =
    (codes "scan packets " ++ decimal packets ++ codes " rows " ++ decimal rows)
    ++ (codes " duplicates " ++ decimal duplicates ++ codes " idle " ++ decimal idle ++ codes "\n")

-- the octets for which there is room behind its first half
abbrev pub half_line : ℕ
half_line = 256

-- the rows of packets of link 1, all in table 0 and without a packet name
abbrev pub scanned_rows : List (List ℕ) → ℤ → List Row
scanned_rows packets moment = arrivals 1 moment (λ p. 0) (λ p. 0 ∷ []) packets

-- a line for each row, duplicates dropped, in the order of their keys
abbrev pub row_lines : List (List ℕ) → ℤ → List ℕ
row_lines packets moment = flat_map row_line (table_of 0 (firsts (scanned_rows packets moment)))

-- the last line of these packets
abbrev pub last_line : List (List ℕ) → ℤ → List ℕ
last_line packets moment =
    let rows = scanned_rows packets moment in
    let kept = length (firsts rows) in
    counts_line (length packets) kept (length rows - kept) (length packets - length rows)

-- the text of a dump with these packets and this rest, received at a moment: its rows, and where nothing is left the
-- last line
abbrev pub scan_text : List (List ℕ) → List ℕ → ℤ → List ℕ
scan_text packets [] moment = row_lines packets moment ++ last_line packets moment
scan_text packets (octet ∷ rest) moment = row_lines packets moment
