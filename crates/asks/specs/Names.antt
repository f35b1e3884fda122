-- The numbers of what asks name: a parameter of a database, a table, and packet names.
use Rattle.std.specs.Prelude.{ℕ, List, map, Option, option_map}
use Rattle.std.specs.List.{filter_map}
use Rattle.mdb_items.specs.Database.{Database}
use Rattle.mdb_items.specs.Texts.{Text, place_of}

-- the number of the parameter that has a name, if the database has it
abbrev pub parameter_number : Database → Text → Option ℕ
parameter_number db name = place_of name (map (λ p. p.name) db.parameters)

-- the number of the table that has a name, if there is one
abbrev pub table_number : List Text → Text → Option ℕ
table_number tables name = place_of name tables

-- the number of a packet name, its place among the packet names that there are, if it is one of them
abbrev pub packet_name_number : List Text → Text → Option ℕ
packet_name_number names name = place_of name names

-- the numbers of the packet names asked for, those that there aren't left out; without a list, none is left out
abbrev pub packet_name_numbers : List Text → Option (List Text) → Option (List ℕ)
packet_name_numbers names asked = option_map (filter_map (packet_name_number names)) asked
