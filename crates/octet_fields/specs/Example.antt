-- A list of ground stations as octets: what the list is seen as, its one spelling, and its reader.
use Rattle.std.specs.Prelude.{ℕ, zero, suc, ℤ, ◌<◌, ◌^◌, List, ◌++◌, length, Option, Some, None}
use Rattle.std.specs.List.{AllByRecursion}
use Rattle.std.specs.Int.{w8, w16, w64}
use Rattle.std.specs.Int.RustNames.{FitsSigned}
use Rattle.octet_fields.specs.declared.example.Band.{Band}
use Rattle.octet_fields.specs.declared.example.Band.TheVariants as bands
use Rattle.octet_fields.specs.Reading.{Reader, both_at, mapped_at, decoded_at, name_at, number_at, signed_at}
use Rattle.octet_fields.specs.Spelling.{name, number, signed, counted}

-- what a station is seen as
pub record Seen : Type 0 where
  pub name : List ℕ
  pub band : Band
  pub delay : ℤ

-- what has a spelling
pub record IsStation (s : Seen) : Type 0 where
  pub name : length s.name < 2 ^ 8
  pub delay : FitsSigned w64 s.delay

-- what has a spelling as a list: a 16-bit count, and stations that each have one
abbrev pub AreStations : List Seen → Type 0
AreStations stations = (length stations < 2 ^ 16) × AllByRecursion IsStation stations

-- ---- the spelling

-- the octet of a band
abbrev pub band_code : Band → ℕ
band_code bands.S = 0
band_code bands.X = 1

-- the spelling of a station: its name, its band's octet, its delay
unfoldable pub station : Seen → List ℕ
station s = name s.name ++ (number w8 (band_code s.band) ++ signed w64 s.delay)

-- the spelling of a list of stations: their count, and then each
abbrev pub spelling : List Seen → List ℕ
spelling stations = counted w16 station stations

-- ---- the reader

-- the band of an octet, where it has one
abbrev pub band_of : ℕ → Option Band
band_of zero = Some bands.S
band_of (suc zero) = Some bands.X
band_of (suc (suc n)) = None

-- reads a band
unfoldable pub band_at : Reader Band
band_at = decoded_at band_of (number_at w8)

-- a station of the fields that were read, in their order
abbrev pub station_of : List ℕ × (Band × ℤ) → Seen
station_of p = record { name = p.0; band = p.1.0; delay = p.1.1 }

-- reads a station
unfoldable pub station_at : Reader Seen
station_at = mapped_at station_of (both_at name_at (λ _. both_at band_at (λ _. signed_at w64)))
