-- The sheets of a mission database, and why they aren't read.
use Rattle.std.specs.Prelude.{◌≡◌, ℕ, ◌<◌, ◌≤◌, ◌⊎◌, List, Option, Some, IfSome, IsNone, IsSomeAnd, length}
use Rattle.std.specs.FinMap.{get}
use Rattle.refusals.specs.declared.refusal.Refusal.{Refusal}
use Rattle.refusals.specs.declared.refusal.Refusal.TheVariants.{Missing, ReadFault, Limit, OutOfMemory}
use Rattle.refusals.specs.declared.refusal.Which.TheVariants.{SheetOctets}
use Rattle.refusals.specs.Limits.{limit_of}
use Rattle.csv.specs.Reading.{default_config, records, strip_bom}
use Rattle.mdb_items.specs.declared.sheet.RawMdb.{RawMdb}
use Rattle.outer_traits.specs.Outside.{Files, HasRisen, IsOneMoreAtMost, Stays, one_more}
use Rattle.outer_traits.specs.States.{InputsState}
use Rattle.outer_traits.specs.Whole.{IsThere}
use Rattle.command_plans.specs.Ledger.{given_more}

-- a record of a sheet: the octets of each field
abbrev pub Fields : Type 0
Fields = List (List ℕ)

-- the records of octets in the default form of `csv`, none taken as a header
unfoldable pub sheet_of : List ℕ → List Fields
sheet_of octets = records default_config (strip_bom octets)

-- the named input isn't longer than a sheet may be, and these are the records of its octets
abbrev pub IsSheet : Option Files → List ℕ → List Fields → Type 0
IsSheet files name sheet = IfSome files (λ all. IsSomeAnd (get all name) (λ octets. (length octets ≤ limit_of SheetOctets) × (sheet ≡ sheet_of octets)))

-- the three sheets are those of the three names
pub record AreSheets (files : Option Files) (parameters calibrations containers : List ℕ) (raw : RawMdb) : Type 0 where
  pub parameters_sheet : IsSheet files parameters raw.parameters
  pub calibrations_sheet : IsSheet files calibrations raw.calibrations
  pub containers_sheet : IsSheet files containers raw.containers

-- there is an input of the name that isn't longer than a sheet may be
abbrev pub HasSheet : Option Files → List ℕ → Type 0
HasSheet files name = IfSome files (λ all. IsSomeAnd (get all name) (λ octets. length octets ≤ limit_of SheetOctets))

-- why a sheet isn't read: there's none of the name, a call failed, it is longer than the limit, or there was no memory
abbrev pub IsSheetRefusal : Option Files → List ℕ → ℕ → ℕ → Refusal → Type 0
IsSheetRefusal files name faults faults' (Missing lacking) = (lacking ≡ name) × IfSome files (λ all. IsNone (get all name))
IsSheetRefusal files name faults faults' ReadFault = HasRisen faults faults' × IsThere files name
IsSheetRefusal files name faults faults' (Limit which number) =
    (which ≡ SheetOctets) × (number ≡ limit_of SheetOctets) × IfSome files (λ all. IsSomeAnd (get all name) (λ octets. limit_of SheetOctets < length octets))
IsSheetRefusal files name faults faults' OutOfMemory = Unit {0}
IsSheetRefusal files name faults faults' other = ⊥

-- how many sources a sheet that isn't read gave: none where there's none of the name, one where it is too long, else one at most
abbrev pub SourcesOfSheet : Refusal → ℕ → ℕ → Type 0
SourcesOfSheet (Missing lacking) before now = now ≡ before
SourcesOfSheet (Limit which number) before now = now ≡ one_more before
SourcesOfSheet other before now = IsOneMoreAtMost before now

-- a sheet isn't read for this refusal, and so many sources were given for it
abbrev pub IsSheetRefused : Option Files → List ℕ → ℕ → ℕ → ℕ → ℕ → Refusal → Type 0
IsSheetRefused files name faults faults' given given' refusal =
    IsSheetRefusal files name faults faults' refusal × SourcesOfSheet refusal given given'

-- the refusal is that of the first sheet that isn't read, and each sheet before it gave one source
abbrev pub IsRefusal : InputsState → InputsState → List ℕ → List ℕ → List ℕ → Refusal → Type 0
IsRefusal old new parameters calibrations containers refusal =
    IsSheetRefused old.files parameters old.faults new.faults old.given new.given refusal
    ⊎ (HasSheet old.files parameters
    × IsSheetRefused old.files calibrations old.faults new.faults (given_more 1 old.given) new.given refusal)
    ⊎ (HasSheet old.files parameters × HasSheet old.files calibrations
    × IsSheetRefused old.files containers old.faults new.faults (given_more 2 old.given) new.given refusal)

-- a count of reads that failed has risen where the refusal is ReadFault, and else is as before
abbrev pub ReadsCounted : Option Refusal → ℕ → ℕ → Type 0
ReadsCounted (Some ReadFault) before now = HasRisen before now
ReadsCounted other before now = Stays before now
