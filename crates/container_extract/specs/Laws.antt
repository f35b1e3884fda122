-- What holds of chains and extractions.
use Rattle.std.specs.Prelude.{◌≡◌, ◌<◌, ◌≤◌, ℕ, List, Some, length, map, nat_eq, option_map, slice_get}
use Rattle.std.specs.List.{All, AllByRecursion, IsDistinct}
use Rattle.mdb_items.specs.declared.parameter.Parameter.{Parameter}
use Rattle.mdb_items.specs.Database.{Database, IsDatabase}
use Rattle.mdb_lookups.specs.Lookups.{calibration_of}
use Rattle.calibration.specs.Admitted.{IsInWidth}
use Rattle.calibration.specs.Calibrated.{calibrated}
use Rattle.container_extract.specs.declared.values.ParameterValue.{ParameterValue}
use Rattle.container_extract.specs.declared.values.RawValue.{RawValue}
use Rattle.container_extract.specs.Chain.{IsChain, chain_of, packet_name_of}
use Rattle.container_extract.specs.Extraction.{extraction, raw_extraction}
use Rattle.container_extract.specs.Values.{IsRawValue, calibrated_value, raw_among, value_among}

-- each packet, and any other octets, has exactly one chain under a database
abbrev pub ChainIsOne : Type 0
ChainIsOne = (db : Database) (packet : List ℕ) → IsDatabase db → IsChain db packet (chain_of db packet) × ((chain : List ℕ) → IsChain db packet chain → chain ≡ chain_of db packet)

-- and it has at most 32 containers
abbrev pub ChainIsShort : Type 0
ChainIsShort = (db : Database) (packet : List ℕ) → IsDatabase db → length (chain_of db packet) ≤ 32

-- its numbers are those of containers of the database
abbrev pub ChainIsKnown : Type 0
ChainIsKnown = (db : Database) (packet : List ℕ) → IsDatabase db → All (λ n. n < length db.containers) (chain_of db packet)

-- and so is a packet name
abbrev pub PacketNameIsKnown : Type 0
PacketNameIsKnown = (db : Database) (packet : List ℕ) → IsDatabase db → packet_name_of db packet < length db.containers

-- a value is that of a parameter of the database: its raw number has the width of the parameter's coding and bits, and its engineering value
-- is the raw number by the parameter's calibration
pub record IsValue (db : Database) (v : ParameterValue) : Type 0 where
  pub known : v.parameter < length db.parameters
  pub in_width : (p : Parameter) → slice_get db.parameters v.parameter ≡ Some p → IsInWidth p.coding p.bits v.raw
  pub by_calibration : v.eng ≡ calibrated (calibration_of db v.parameter) v.raw

-- at most 256 values, no two of one parameter
pub record AreValues (db : Database) (values : List ParameterValue) : Type 0 where
  pub each : AllByRecursion (IsValue db) values
  pub distinct : IsDistinct nat_eq (map (λ v. v.parameter) values)
  pub few : length values ≤ 256

-- what a packet, and any other octets, say under a database are such values
abbrev pub ExtractionKeepsRules : Type 0
ExtractionKeepsRules = (db : Database) (packet : List ℕ) → IsDatabase db → AreValues db (extraction db packet)

-- at most 256 raw values, no two of one parameter
pub record AreRawValues (db : Database) (values : List RawValue) : Type 0 where
  pub each : AllByRecursion (IsRawValue db) values
  pub distinct : IsDistinct nat_eq (map (λ v. v.parameter) values)
  pub few : length values ≤ 256

-- the raw values of a packet, and of any other octets, under a database are such raw values
abbrev pub RawExtractionKeepsRules : Type 0
RawExtractionKeepsRules = (db : Database) (packet : List ℕ) → IsDatabase db → AreRawValues db (raw_extraction db packet)

-- and so the raw value of a parameter is one of the database
abbrev pub RawValueIsSound : Type 0
RawValueIsSound = (db : Database) (packet : List ℕ) (q : ℕ) (v : RawValue) → IsDatabase db → raw_among q (raw_extraction db packet) ≡ Some v → IsRawValue db v

-- an extraction is the raw one, each value with its engineering value
abbrev pub ExtractionIsCalibrated : Type 0
ExtractionIsCalibrated = (db : Database) (packet : List ℕ) → extraction db packet ≡ map (calibrated_value db) (raw_extraction db packet)

-- and so the value of a parameter is its raw value with the engineering value
abbrev pub ValueIsCalibrated : Type 0
ValueIsCalibrated = (db : Database) (packet : List ℕ) (q : ℕ) → value_among q (extraction db packet) ≡ option_map (calibrated_value db) (raw_among q (raw_extraction db packet))
