-- The numbers that bound a mission database.
use Rattle.std.specs.Prelude.{ℕ}
use Rattle.mdb_items.specs.declared.fault.MdbLimit.{MdbLimit}
use Rattle.mdb_items.specs.declared.fault.MdbLimit.TheVariants.{Calibrations, CalibrationRows, Parameters, Containers, Entries}

-- the greatest number of each quantity that has a limit: three lists are no database where the quantity passes it
abbrev pub database_limit : MdbLimit → ℕ
database_limit Calibrations = 4096
database_limit CalibrationRows = 65536
database_limit Parameters = 4096
database_limit Containers = 4096
database_limit Entries = 65536

-- the most comparisons of a condition
abbrev pub most_comparisons : ℕ
most_comparisons = 255

-- the bits of the longest packet, which has 65,542 octets
abbrev pub longest_packet_bits : ℕ
longest_packet_bits = 524336
