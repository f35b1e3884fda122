-- The reading of the sheets, as plans.
use Rattle.std.specs.Prelude.{ℕ, ◌+◌, List, Option, Result}
use Rattle.asks.specs.declared.ask.Ask.{Ask}
use Rattle.refusals.specs.declared.refusal.Refusal.{Refusal}
use Rattle.refusals.specs.declared.refusal.Which.TheVariants.{SheetOctets}
use Rattle.mdb_items.specs.declared.sheet.RawMdb.{RawMdb}
use Rattle.outer_traits.specs.Outside.{Files}
use Rattle.command_plans.specs.Plan.{CommandPlan, Return, and_then}
use Rattle.command_plans.specs.Inputs.{input_plan}
use Rattle.mdb_sheets.specs.Asks.{asks_of}
use Rattle.mdb_sheets.specs.Sheets.{Fields, sheet_of}

-- reads the records of a sheet
abbrev pub sheet_plan : Option Files → List ℕ → ℕ → CommandPlan ℕ (List Fields)
sheet_plan files name sources = input_plan files SheetOctets (λ octets. sheet_of octets) name sources

-- gives the records of the three sheets
abbrev pub giving_plan : List Fields → List Fields → List Fields → CommandPlan ℕ RawMdb
giving_plan parameters calibrations containers = Return (record { parameters = parameters; calibrations = calibrations; containers = containers })

-- reads the third sheet behind the two others
abbrev pub third_sheet_plan : Option Files → List ℕ → List Fields → ℕ → List Fields → CommandPlan ℕ RawMdb
third_sheet_plan files containers parameters sources calibrations = and_then (sheet_plan files containers sources) (giving_plan parameters calibrations)

-- reads the second sheet and the third behind the first
abbrev pub second_sheet_plan : Option Files → List ℕ → List ℕ → ℕ → List Fields → CommandPlan ℕ RawMdb
second_sheet_plan files calibrations containers sources parameters = and_then (sheet_plan files calibrations sources) (third_sheet_plan files containers parameters (sources + 1))

-- reads the three sheets, one after the other
abbrev pub sheets_plan : Option Files → List ℕ → List ℕ → List ℕ → ℕ → CommandPlan ℕ RawMdb
sheets_plan files parameters calibrations containers sources = and_then (sheet_plan files parameters sources) (second_sheet_plan files calibrations containers (sources + 1))

-- reads the asks of a sheet, or why they are refused, which its reader answers by when it will
abbrev pub ask_sheet_plan : Option Files → List ℕ → ℕ → CommandPlan ℕ (Result (List Ask) Refusal)
ask_sheet_plan files name sources = input_plan files SheetOctets (λ octets. asks_of octets) name sources
