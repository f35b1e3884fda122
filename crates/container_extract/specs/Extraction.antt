-- The extraction of a packet, and a parameter's values over a history.
use Rattle.std.specs.Prelude.{◌≡◌, ◌<◌, ◌++◌, ℕ, ℤ, List, length, map, flat_map, Option, option_map}
use Rattle.std.specs.List.{filter_map, take_while}
use Rattle.arch_types.specs.declared.cell.Cell.{Cell}
use Rattle.arch_types.specs.declared.key.Key.{Key}
use Rattle.arch_types.specs.declared.row.Row.{Row}
use Rattle.arch_types.specs.Table.{range_of}
use Rattle.mdb_items.specs.Database.{Database}
use Rattle.container_extract.specs.declared.values.ParameterValue.{ParameterValue}
use Rattle.container_extract.specs.declared.values.RawValue.{RawValue}
use Rattle.container_extract.specs.Chain.{chain_of, entries_at}
use Rattle.container_extract.specs.Values.{fits, raw_value_of, value_among, value_of}

-- the entries of a chain's containers one after the other, cut before the first that passes the packet's end, each with its value
abbrev pub values_along : Database → List ℕ → List ℕ → List ParameterValue
values_along db packet chain = map (value_of db packet) (take_while (fits db packet) (flat_map (entries_at db) chain))

-- the extraction of a packet
abbrev pub extraction : Database → List ℕ → List ParameterValue
extraction db packet = values_along db packet (chain_of db packet)

-- the entries of a chain's containers, cut likewise, each with its raw value
abbrev pub raw_values_along : Database → List ℕ → List ℕ → List RawValue
raw_values_along db packet chain = map (raw_value_of db packet) (take_while (fits db packet) (flat_map (entries_at db) chain))

-- the raw extraction of a packet
abbrev pub raw_extraction : Database → List ℕ → List RawValue
raw_extraction db packet = raw_values_along db packet (chain_of db packet)

-- the raw values are the raw extraction but for the entries of the chain's last container, which has this number
pub record AreButLast (db : Database) (packet : List ℕ) (values : List RawValue) (n : ℕ) : Type 0 where
  pub known : n < length db.containers
  pub rest : raw_extraction db packet ≡ values ++ map (raw_value_of db packet) (take_while (fits db packet) (entries_at db n))

-- a value at the key of its packet
abbrev pub cell_at : Key → ParameterValue → Cell
cell_at key v = record { key = key; raw = v.raw; eng = v.eng }

-- the cell of a parameter in the packet of a row, where there is one
abbrev pub cell_of : Database → ℕ → Row → Option Cell
cell_of db q row = option_map (cell_at row.key) (value_among q (extraction db row.packet))

-- the cells of a parameter over the rows of table `tm` with from <= time < to, in the order of their keys
abbrev pub values_of : List Row → Database → ℕ → ℤ → ℤ → List Cell
values_of history db q low high = filter_map (cell_of db q) (range_of 0 low high history)
