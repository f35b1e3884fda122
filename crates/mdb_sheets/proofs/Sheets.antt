-- Three sheets that are read one after the other.
use Rattle.std.proofs.Common.{◌≡◌, ◌≤◌, ℕ, ◌+◌, List, length, Option, Some, None, refl, subst}
use Rattle.std.specs.Prelude.{Err, IsSomeAnd}
use Rattle.std.specs.FinMap.{get}
use Rattle.refusals.specs.declared.refusal.Refusal.{Refusal}
use Rattle.refusals.specs.declared.refusal.Which.TheVariants.{SheetOctets}
use Rattle.refusals.specs.Limits.{limit_of}
use Rattle.mdb_items.specs.declared.sheet.RawMdb.{RawMdb}
use Rattle.outer_traits.specs.Outside.{Files}
use Rattle.command_plans.specs.Plan.{Returned, IsDetermined}
use Rattle.command_plans.proofs.Plans.{determined, gave}
use Rattle.outer_traits.specs.States.{InputsState}
use Rattle.command_plans.specs.Inputs.{AnsweredByPlan, WasRead}
use Rattle.command_plans.proofs.Inputs.{reads_determined}
use Rattle.command_plans.proofs.Readings.{first_not_read, then_not_read, then_read}
use Rattle.mdb_sheets.specs.Plans.{giving_plan, second_sheet_plan, sheet_plan, third_sheet_plan, sheets_plan}
use Rattle.mdb_sheets.specs.Sheets.{Fields, HasSheet, IsSheet, IsSheetRefused, sheet_of}

module _ (files : Option Files) (parameters calibrations containers : List ℕ) where
  -- the first wasn't read,
  pub first_unread : (refusal : Refusal) (a b : InputsState) → AnsweredByPlan {X = List Fields} 1 (sheet_plan files parameters) (Err refusal) a b →
      AnsweredByPlan {X = RawMdb} 3 (sheets_plan files parameters calibrations containers) (Err refusal) a b
  first_unread refusal a b first = first_not_read (sheet_plan files parameters) (λ before. second_sheet_plan files calibrations containers (before + 1)) refusal 1 3 a b first

  module _ (raw : RawMdb) (a b : InputsState) (first : WasRead (sheet_plan files parameters) raw.parameters 1 a b) where
    -- the second wasn't,
    pub second_unread : (refusal : Refusal) (c : InputsState) → AnsweredByPlan {X = List Fields} 1 (sheet_plan files calibrations) (Err refusal) b c →
        AnsweredByPlan {X = RawMdb} 3 (sheets_plan files parameters calibrations containers) (Err refusal) a c
    second_unread refusal c second = then_not_read (sheet_plan files parameters) (second_sheet_plan files calibrations containers) 1 raw.parameters a b c first refusal 2
        (first_not_read (sheet_plan files calibrations) (λ before. third_sheet_plan files containers raw.parameters (before + 1)) refusal 1 2 b c second)

    module _ (c d : InputsState) (second : WasRead (sheet_plan files calibrations) raw.calibrations 1 b c) where
      -- the third wasn't,
      pub third_unread : (refusal : Refusal) → AnsweredByPlan {X = List Fields} 1 (sheet_plan files containers) (Err refusal) c d →
          AnsweredByPlan {X = RawMdb} 3 (sheets_plan files parameters calibrations containers) (Err refusal) a d
      third_unread refusal third = then_not_read (sheet_plan files parameters) (second_sheet_plan files calibrations containers) 1 raw.parameters a b d first refusal 2
          (then_not_read (sheet_plan files calibrations) (third_sheet_plan files containers raw.parameters) 1 raw.calibrations b c d second refusal 1
          (first_not_read (sheet_plan files containers) (λ before. giving_plan raw.parameters raw.calibrations) refusal 1 1 c d third))

      last_read : WasRead (sheet_plan files containers) raw.containers 1 c d → WasRead (λ before. third_sheet_plan files containers raw.parameters before raw.calibrations) raw 1 c d
      last_read third = record {
        allows = λ before. gave (sheet_plan files containers before) (giving_plan raw.parameters raw.calibrations) raw.containers (Returned raw) (third.allows before) refl;
        used = third.used;
      }

      -- or all were
      pub all_read : WasRead (sheet_plan files containers) raw.containers 1 c d → WasRead (sheets_plan files parameters calibrations containers) raw 3 a d
      all_read third = then_read (sheet_plan files parameters) (second_sheet_plan files calibrations containers) 1 raw.parameters a b d first raw 2
          (then_read (sheet_plan files calibrations) (third_sheet_plan files containers raw.parameters) 1 raw.calibrations b c d second raw 1 (last_read third))

-- a sheet that was read is there, and isn't too long
pub has_sheet : (files : Option Files) (name : List ℕ) (sheet : List Fields) → IsSheet files name sheet → HasSheet files name
has_sheet None name sheet h = tt
has_sheet (Some all) name sheet h = short (get all name) h
  where
    short : (o : Option (List ℕ)) → IsSomeAnd o (λ octets. (length octets ≤ limit_of SheetOctets) × (sheet ≡ sheet_of octets)) → IsSomeAnd o (λ octets. length octets ≤ limit_of SheetOctets)
    short None h = absurd h
    short (Some octets) h = h.0

-- a sheet that is refused after others were read
pub refused_after : (files files' : Option Files) (name : List ℕ) (faults faults' now given given' after : ℕ) (refusal : Refusal) → files' ≡ files → faults' ≡ faults → given' ≡ given →
    IsSheetRefused files' name faults' now given' after refusal → IsSheetRefused files name faults now given after refusal
refused_after files files' name faults faults' now given given' after refusal same still gave h =
    subst (λ (f : Option Files). IsSheetRefused f name faults now given after refusal) same
    (subst (λ (n : ℕ). IsSheetRefused files' name n now given after refusal) still (subst (λ (n : ℕ). IsSheetRefused files' name faults' now n after refusal) gave h))

-- three known sheets are read in one way
pub sheets_determined : (all : Files) (parameters calibrations containers : List ℕ) (sources : ℕ) → IsDetermined (sheets_plan (Some all) parameters calibrations containers sources)
sheets_determined all parameters calibrations containers sources =
    determined (sheet_plan (Some all) parameters sources) (second_sheet_plan (Some all) calibrations containers (sources + 1)) (reads_determined SheetOctets (λ octets. sheet_of octets) all parameters sources)
    (λ first. determined (sheet_plan (Some all) calibrations (sources + 1)) (third_sheet_plan (Some all) containers first (sources + 1 + 1))
    (reads_determined SheetOctets (λ octets. sheet_of octets) all calibrations (sources + 1))
    (λ second. determined (sheet_plan (Some all) containers (sources + 1 + 1)) (giving_plan first second)
    (reads_determined SheetOctets (λ octets. sheet_of octets) all containers (sources + 1 + 1)) (λ third. tt)))
