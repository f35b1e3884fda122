-- The greatest number of each quantity that has a limit.
use Rattle.std.specs.Prelude.{ℕ}
use Rattle.refusals.specs.declared.refusal.Which.{Which}
use Rattle.refusals.specs.declared.refusal.Which.TheVariants.{DumpOctets, Rows, HistoryOctets, IntervalRows, Dumps, Fillers, Links, Asks, Files, SheetOctets, Parameters, Calibrations, Containers, CalibrationRows, Entries, ScriptOctets, Statements, SqlDepth, Tables, Records}

-- a call answers Limit exactly where the quantity passes this number
abbrev pub limit_of : Which → ℕ
limit_of DumpOctets = 268435456
limit_of Rows = 4194304
limit_of HistoryOctets = 2147483648
limit_of IntervalRows = 262144
limit_of Dumps = 16
limit_of Fillers = 8
limit_of Links = 255
limit_of Asks = 256
limit_of Files = 99999999
limit_of SheetOctets = 4194304
limit_of Parameters = 4096
limit_of Calibrations = 4096
limit_of Containers = 4096
limit_of CalibrationRows = 65536
limit_of Entries = 65536
limit_of ScriptOctets = 65536
limit_of Statements = 256
limit_of SqlDepth = 32
limit_of Tables = 16
limit_of Records = 4294967295
