-- What holds of every made packet and dump, and of the sheets.
use Rattle.std.specs.Prelude.{◌≡◌, ℕ, ℤ, pos, ◌+◌, ◌*◌, ◌/◌, ◌%◌, ◌^◌, ◌<◌, ◌≤◌, List, [], length, None}
use Rattle.std.specs.List.{concat}
use Rattle.arch_types.specs.Packet.{IsPacket, type_of, secondary_flag, apid_of, flags_of, sequence_count_of}
use Rattle.arch_types.specs.Dump.{IsDump}
use Rattle.arch_types.specs.GenerationTime.{generation_time, number_of_4}
use Rattle.mdb_items.specs.Database.{limit_passed}
use Rattle.mdb_model.specs.Sheets.{sheets_fault, sheets_database}
use Rattle.dump_maker.specs.Made.{made_packet, made_packets}
use Rattle.dump_maker.specs.Sheets.{made_sheets}

-- a packet's fields are those of a place
pub record HasFieldsOf (seed place : ℕ) (p : List ℕ) : Type 0 where
  pub packet : IsPacket p
  pub size : length p ≡ 16
  pub telemetry : type_of p ≡ 0
  pub timed : secondary_flag p ≡ 1
  pub apid : apid_of p ≡ 1 + place % 40
  pub unsegmented : flags_of p ≡ 3
  pub count : sequence_count_of p ≡ place / 40 % 2 ^ 14
  pub time : (rectime : ℤ) → generation_time p rectime ≡ pos (1000 * (1704067200 + 2 * place))
  pub value : number_of_4 p 12 ≡ (seed + 7919 * place) % 2 ^ 32

-- each packet that is made has the fields of its place
abbrev pub MadePacketsHaveFields : Type 0
MadePacketsHaveFields = (seed place : ℕ) → place < 2 ^ 24 → HasFieldsOf seed place (made_packet seed place)

-- packets that are made, joined, are a dump of them with no rest
abbrev pub MadeDumpsAreSplit : Type 0
MadeDumpsAreSplit = (seed first count : ℕ) → first + count ≤ 2 ^ 24 →
    IsDump (concat (made_packets seed first count)) (made_packets seed first count) []

-- the sheets that are made spell a mission database
abbrev pub MadeSheetsAreSound : Type 0
MadeSheetsAreSound = (sheets_fault made_sheets ≡ None) × (limit_passed (sheets_database made_sheets) ≡ None)
