-- The rows that packets of one link give.
use Rattle.std.specs.Prelude.{ℕ, ℤ, List, not, filter, map, flat_map}
use Rattle.arch_types.specs.declared.row.Row.{Row}
use Rattle.arch_types.specs.Packet.{is_idle}
use Rattle.arch_types.specs.GenerationTime.{key_of}

-- the packets that aren't idle, in order
abbrev pub kept : List (List ℕ) → List (List ℕ)
kept packets = filter (λ p. not (is_idle p)) packets

-- the row of a packet in a table
abbrev pub row_of : ℕ → ℤ → (List ℕ → ℕ) → List ℕ → ℕ → Row
row_of link rectime name_of p table = record { table = table; key = key_of p rectime; rectime = rectime; link = link; pname = name_of p; packet = p }

-- the rows of the packets that aren't idle, each once per table that its route names, with the packet name that a database gives it
abbrev pub arrivals : ℕ → ℤ → (List ℕ → ℕ) → (List ℕ → List ℕ) → List (List ℕ) → List Row
arrivals link rectime name_of tables_of packets = flat_map (λ p. map (row_of link rectime name_of p) (tables_of p)) (kept packets)
