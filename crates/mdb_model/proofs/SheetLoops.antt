-- The rows of a sheet, one by one.
use Rattle.std.proofs.Common.{◌≡◌, ◌∙◌, ◌+◌, ◌-◌, ◌<◌, ◌≤◌, ℕ, zero, suc, List, [], ◌∷◌, ◌++◌, length, map, drop, take, Option, Some, None, inl, inr, refl, ap, sym, arith}
use Rattle.std.specs.Prelude.{slice_get, option_map, fold}
use Rattle.std.proofs.lemmas.Bool.{cases_lt}
use Rattle.std.proofs.lemmas.List.{map-append, take-map}
use Rattle.std.proofs.lemmas.List.Sums.{fold-append}
use Rattle.std.proofs.lemmas.Option.{same_Some, slice_get-map}
use Rattle.mdb_items.specs.declared.calibration.Calibration.{Calibration}
use Rattle.mdb_items.specs.declared.container.Container.{Container}
use Rattle.mdb_items.specs.declared.fault.MdbSheet.{MdbSheet}
use Rattle.mdb_items.specs.declared.fault.MdbSheet.TheVariants as sheet
use Rattle.mdb_items.specs.declared.parameter.Parameter.{Parameter}
use Rattle.mdb_items.specs.CalibrationRows.{calibration_fault, calibration_fault_at, calibrations_of, with_calibration_row}
use Rattle.mdb_items.specs.Checks.{first_at}
use Rattle.mdb_items.specs.ContainerRows.{ContainerRow, container_fault, container_fault_at, containers_of, row_fault, with_container_row}
use Rattle.mdb_items.specs.Database.{broken_below, containers_fault}
use Rattle.mdb_items.specs.ParameterRows.{parameter_fault, parameter_fault_at, parameter_of, parameters_of}
use Rattle.mdb_model.specs.Sheets.{read_calibration, read_container, read_containers, read_parameter}
use Rattle.mdb_items.specs.Texts.{Text}
use Rattle.mdb_rules.proofs.Passing.{first_none, first_some}
use Rattle.mdb_items.proofs.Ends.{take-next}

-- a record below the header
pub below_header : (sheet : List (List Text)) (place : ℕ) → 1 ≤ place → slice_get (drop 1 sheet) (place - 1) ≡ slice_get sheet place
below_header sheet zero le = absurd (omega (arith, le))
below_header [] (suc i) le = refl
below_header (r ∷ sheet) (suc i) le = ap (slice_get sheet) (omega arith)

-- and the one behind it
pub below_header_next : (sheet : List (List Text)) (place : ℕ) → 1 ≤ place → slice_get (drop 1 sheet) (place - 1 + 1) ≡ slice_get sheet (place + 1)
below_header_next sheet place le =
    let same : place - 1 + 1 ≡ place + 1 - 1 = omega arith in
    ap (slice_get (drop 1 sheet)) same ∙ below_header sheet (place + 1) (omega arith)

-- the rows before a place are sound
abbrev pub SoundBelow : (ℕ → Option ℕ) → ℕ → Type 0
SoundBelow fault n = (j : ℕ) → j < n → fault j ≡ None

pub sound_more : (fault : ℕ → Option ℕ) (i : ℕ) → SoundBelow fault i → fault i ≡ None → SoundBelow fault (i + 1)
sound_more fault i below here j lt = elim (cases_lt j i) [
  | inl less ↦ below j less
  | inr more ↦ let same : j ≡ i = omega arith in ap fault same ∙ here
]

-- the first row that breaks a rule is the fault of the sheet
pub found : (s : MdbSheet) (fault : ℕ → Option ℕ) (n i row rule : ℕ) → i < n → row ≡ i + 2 → SoundBelow fault i → fault i ≡ Some rule → option_map (broken_below s) (first_at fault n) ≡ Some (record { sheet = s; row = row; rule = rule })
found s fault n i row rule lt number below is = rw number (ap (option_map (broken_below s)) (first_some fault n i rule lt below is))

pub sound_all : (s : MdbSheet) (fault : ℕ → Option ℕ) (n : ℕ) → SoundBelow fault n → option_map (broken_below s) (first_at fault n) ≡ None
sound_all s fault n below = ap (option_map (broken_below s)) (first_none fault n below)

-- calibrations: the fault at a record, and the calibrations with it
pub calibration_here : (records : List (List Text)) (i : ℕ) (fields : List Text) (items : List Calibration) (x : Option ℕ) → slice_get records i ≡ Some fields → items ≡ calibrations_of (map read_calibration (take i records))
    → x ≡ calibration_fault items (Some (read_calibration fields)) (option_map read_calibration (slice_get records (i + 1))) → calibration_fault_at (map read_calibration records) i ≡ x
unfolding calibration_fault_at
calibration_here records i fields items x at same is =
    let above : calibrations_of (take i (map read_calibration records)) ≡ items = ap calibrations_of (take-map read_calibration i records) ∙ sym same in
    let row : slice_get (map read_calibration records) i ≡ Some (read_calibration fields) = slice_get-map read_calibration records i ∙ ap (option_map read_calibration) at in
    let next = slice_get-map read_calibration records (i + 1) in
    rw (above, row, next) (sym is)

pub calibration_more : (records : List (List Text)) (i : ℕ) (fields : List Text) (items : List Calibration) → slice_get records i ≡ Some fields → items ≡ calibrations_of (map read_calibration (take i records))
    → with_calibration_row items (read_calibration fields) ≡ calibrations_of (map read_calibration (take (i + 1) records))
calibration_more records i fields items at same =
    let more : map read_calibration (take (i + 1) records) ≡ map read_calibration (take i records) ++ read_calibration fields ∷ [] = ap (map read_calibration) (take-next records i fields at) ∙ map-append read_calibration (take i records) (fields ∷ []) in
    ap (λ (cs : List Calibration). with_calibration_row cs (read_calibration fields)) same ∙ sym (fold-append with_calibration_row [] (map read_calibration (take i records)) (read_calibration fields ∷ [])) ∙ ap calibrations_of (sym more)

-- parameters
pub parameter_here : (calibrations : List Calibration) (names : List Text) (records : List (List Text)) (i : ℕ) (fields : List Text) (items : List Parameter) (x : Option ℕ) → slice_get records i ≡ Some fields → items ≡ parameters_of (map (read_parameter names) (take i records))
    → x ≡ parameter_fault calibrations items (Some (read_parameter names fields)) → parameter_fault_at calibrations (map (read_parameter names) records) i ≡ x
unfolding parameter_fault_at
parameter_here calibrations names records i fields items x at same is =
    let above : parameters_of (take i (map (read_parameter names) records)) ≡ items = ap parameters_of (take-map (read_parameter names) i records) ∙ sym same in
    let row : slice_get (map (read_parameter names) records) i ≡ Some (read_parameter names fields) = slice_get-map (read_parameter names) records i ∙ ap (option_map (read_parameter names)) at in
    rw (above, row) (sym is)

pub parameter_more : (names : List Text) (records : List (List Text)) (i : ℕ) (fields : List Text) (items : List Parameter) → slice_get records i ≡ Some fields → items ≡ parameters_of (map (read_parameter names) (take i records))
    → items ++ parameter_of (read_parameter names fields) ∷ [] ≡ parameters_of (map (read_parameter names) (take (i + 1) records))
parameter_more names records i fields items at same =
    let f = read_parameter names in
    let more : map f (take (i + 1) records) ≡ map f (take i records) ++ f fields ∷ [] = ap (map f) (take-next records i fields at) ∙ map-append f (take i records) (fields ∷ []) in
    ap (λ (ps : List Parameter). ps ++ parameter_of (f fields) ∷ []) same ∙ sym (map-append parameter_of (map f (take i records)) (f fields ∷ [])) ∙ ap parameters_of (sym more)

-- containers
read_at : (ps : List Parameter) (above : List Container) (records : List (List Text)) (i : ℕ) (fields : List Text) → slice_get records i ≡ Some fields
    → slice_get (read_containers ps above records) i ≡ Some (read_container ps (fold with_container_row above (take i (read_containers ps above records))) fields)
read_at ps above [] i fields is = cc
read_at ps above (r ∷ records) zero fields is = ap (λ (x : List Text). Some (read_container ps above x)) (same_Some r fields is)
read_at ps above (r ∷ records) (suc i) fields is = read_at ps (with_container_row above (read_container ps above r)) records i fields is

pub length-read_containers : (ps : List Parameter) (above : List Container) (records : List (List Text)) → length (read_containers ps above records) ≡ length records
length-read_containers ps above [] = refl
length-read_containers ps above (r ∷ records) = ap suc (length-read_containers ps (with_container_row above (read_container ps above r)) records)

pub container_here : (ps : List Parameter) (records : List (List Text)) (i : ℕ) (fields : List Text) (items : List Container) (x : Option ℕ) → slice_get records i ≡ Some fields → items ≡ containers_of (take i (read_containers ps [] records))
    → x ≡ row_fault ps items (read_container ps items fields) → container_fault_at ps (read_containers ps [] records) i ≡ x
unfolding container_fault_at
container_here ps records i fields items x at same is =
    let row : slice_get (read_containers ps [] records) i ≡ Some (read_container ps items fields) = read_at ps [] records i fields at ∙ ap (λ (cs : List Container). Some (read_container ps cs fields)) (sym same) in
    ap (container_fault ps (containers_of (take i (read_containers ps [] records)))) row ∙ ap (λ (cs : List Container). row_fault ps cs (read_container ps items fields)) (sym same) ∙ sym is

pub container_more : (ps : List Parameter) (records : List (List Text)) (i : ℕ) (fields : List Text) (items : List Container) → slice_get records i ≡ Some fields → items ≡ containers_of (take i (read_containers ps [] records))
    → with_container_row items (read_container ps items fields) ≡ containers_of (take (i + 1) (read_containers ps [] records))
container_more ps records i fields items at same =
    let rows = read_containers ps [] records in
    let row : slice_get rows i ≡ Some (read_container ps items fields) = read_at ps [] records i fields at ∙ ap (λ (cs : List Container). Some (read_container ps cs fields)) (sym same) in
    let more = take-next rows i (read_container ps items fields) row in
    ap (λ (cs : List Container). with_container_row cs (read_container ps items fields)) same ∙ sym (fold-append with_container_row [] (take i rows) (read_container ps items fields ∷ [])) ∙ ap containers_of (sym more)

-- the fault of the containers sheet, where it has a row
pub containers_fault_is : (ps : List Parameter) (rows : List ContainerRow) → 0 < length rows → containers_fault ps rows ≡ option_map (broken_below sheet.Containers) (first_at (container_fault_at ps rows) (length rows))
containers_fault_is ps [] some = absurd (omega arith)
containers_fault_is ps (row ∷ rows) some = refl
