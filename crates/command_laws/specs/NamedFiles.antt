-- What the files of the names that a command is given hold.
use Rattle.std.specs.Prelude.{◌≡◌, ◌⊎◌, ◌<◌, ◌≤◌, ℕ, List, [], ◌∷◌, length, IsNone, IsSomeAnd, Option, Some, None, Result}
use Rattle.std.specs.FinMap.{get}
use Rattle.asks.specs.declared.ask.Ask.{Ask}
use Rattle.mdb_items.specs.declared.sheet.RawMdb.{RawMdb}
use Rattle.mdb_sheets.specs.Asks.{asks_of}
use Rattle.mdb_sheets.specs.Sheets.{Fields, sheet_of}
use Rattle.outer_traits.specs.Outside.{Files}
use Rattle.refusals.specs.declared.refusal.Refusal.{Refusal}
use Rattle.refusals.specs.declared.refusal.Refusal.TheVariants.{Limit, Missing}
use Rattle.refusals.specs.declared.refusal.Which.{Which}
use Rattle.refusals.specs.declared.refusal.Which.TheVariants.{DumpOctets, ScriptOctets, SheetOctets}
use Rattle.refusals.specs.Limits.{limit_of}

-- a file of this name is there, within its limit, with these octets
pub record HasFile (files : Files) (which : Which) (name octets : List ℕ) : Type 0 where
  pub there : get files name ≡ Some octets
  pub short : length octets ≤ limit_of which

-- why a file of this name isn't read: it isn't there, or is longer than it may be
abbrev pub IsUnreadFor : Files → Which → List ℕ → Refusal → Type 0
IsUnreadFor files which name refusal =
    (IsNone (get files name) × (refusal ≡ Missing name))
    ⊎ (IsSomeAnd (get files name) (λ octets. limit_of which < length octets) × (refusal ≡ Limit which (limit_of which)))

-- why the first of these files that isn't read isn't: those before it are there, within their limits
abbrev pub IsFirstUnread : Files → List (Which × List ℕ) → Refusal → Type 0
IsFirstUnread files [] refusal = ⊥
IsFirstUnread files (file ∷ later) refusal =
    IsUnreadFor files file.0 file.1 refusal
    ⊎ ((octets : List ℕ) × HasFile files file.0 file.1 octets × IsFirstUnread files later refusal)

-- a refusal says that a file isn't there, or is longer than it may be
abbrev pub IsReadingRefusal : Refusal → Type 0
IsReadingRefusal (Missing name) = Unit {0}
IsReadingRefusal (Limit SheetOctets number) = Unit {0}
IsReadingRefusal (Limit ScriptOctets number) = Unit {0}
IsReadingRefusal (Limit DumpOctets number) = Unit {0}
IsReadingRefusal other = ⊥

-- the file of a name, where one is named
abbrev pub named_file : Which → Option (List ℕ) → List (Which × List ℕ)
named_file which None = []
named_file which (Some name) = (which, name) ∷ []

-- it is a sheet of these records
pub record HasSheet (files : Files) (name : List ℕ) (records : List Fields) : Type 0 where
  pub octets : List ℕ
  pub file : HasFile files SheetOctets name octets
  pub records_are : records ≡ sheet_of octets

-- they are the three sheets of a database
pub record HasSheets (files : Files) (parameters calibrations containers : List ℕ) (raw : RawMdb) : Type 0 where
  pub first : HasSheet files parameters raw.parameters
  pub second : HasSheet files calibrations raw.calibrations
  pub third : HasSheet files containers raw.containers

-- it is a sheet of these asks, or one that is refused
pub record HasAsksSheet (files : Files) (name : List ℕ) (sheet : Result (List Ask) Refusal) : Type 0 where
  pub octets : List ℕ
  pub file : HasFile files SheetOctets name octets
  pub sheet_is : sheet ≡ asks_of octets

-- it is a script of this text; where none is named its text is empty
abbrev pub HasScript : Files → Option (List ℕ) → List ℕ → Type 0
HasScript files None text = text ≡ []
HasScript files (Some name) text = HasFile files ScriptOctets name text
