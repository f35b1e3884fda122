-- The three sheets: what their texts say, and the database that they spell.
use Rattle.std.specs.Prelude.{◌≡◌, ℕ, ◌+◌, ◌==◌, ◌&&◌, ◌||◌, not, Bool, true, false, List, [], ◌∷◌, length, map, drop, Option, Some, None, Result, Ok, Err, if◌then◌else◌, codes, option_map}
use Rattle.std.specs.Str.{bytes_eq}
use Rattle.mdb_items.specs.declared.container.Container.{Container}
use Rattle.mdb_items.specs.declared.fault.MdbFault.{MdbFault}
use Rattle.mdb_items.specs.declared.fault.MdbFault.TheVariants.{Bad, Limit, OutOfMemory}
use Rattle.mdb_items.specs.declared.fault.MdbSheet.{MdbSheet}
use Rattle.mdb_items.specs.declared.fault.MdbSheet.TheVariants.{Parameters, Calibrations, Containers}
use Rattle.mdb_items.specs.declared.parameter.Coding.{Coding}
use Rattle.mdb_items.specs.declared.parameter.Coding.TheVariants.{Uint, Int, UintLe, IntLe}
use Rattle.mdb_items.specs.declared.parameter.Parameter.{Parameter}
use Rattle.mdb_items.specs.declared.rows.RowValues.{RowValues}
use Rattle.mdb_items.specs.declared.rows.RowValues.TheVariants.{Unread, Coefficient, Point, Label}
use Rattle.mdb_items.specs.declared.rows.ContainerColumns.{ContainerColumns}
use Rattle.mdb_items.specs.declared.rows.ContainerColumns.TheVariants.{Begins, Continues}
use Rattle.mdb_items.specs.declared.rows.ParameterRow.{ParameterRow}
use Rattle.mdb_items.specs.declared.rows.EntryPosition.{EntryPosition}
use Rattle.mdb_items.specs.declared.rows.EntryPosition.TheVariants as place
use Rattle.mdb_items.specs.declared.rows.EntryPosition.TheVariants.{At}
use Rattle.mdb_items.specs.declared.rows.Reference.{Reference}
use Rattle.mdb_items.specs.declared.rows.Reference.TheVariants.{Nothing, Unknown, Known}
use Rattle.mdb_items.specs.declared.sheet.RawMdb.{RawMdb}
use Rattle.mdb_items.specs.CalibrationRows.{CalibrationRow, calibrations_of}
use Rattle.mdb_items.specs.Checks.{or_else}
use Rattle.mdb_items.specs.Conditions.{condition}
use Rattle.mdb_items.specs.ContainerRows.{ContainerRow, is_nothing, last_path, with_container_row, with_columns}
use Rattle.mdb_items.specs.Database.{Broken, Database, Rows, calibrations_fault, containers_fault, database_of, limit_passed, parameters_fault}
use Rattle.mdb_items.specs.Paths.{path_end}
use Rattle.mdb_items.specs.Lists.{is_empty}
use Rattle.mdb_items.specs.ParameterRows.{parameters_of}
use Rattle.mdb_items.specs.Texts.{Text, decimal_number, field, offset, place_of, small_number, whole_number}
use Rattle.text_forms.specs.Digits.{digits_at_most}

-- what the columns kind, x and y say
abbrev pub read_row_values : Text → Text → Text → RowValues
read_row_values kind x y =
    if bytes_eq kind (codes "poly") then Coefficient (small_number 0 3 x) (decimal_number y)
    else (if bytes_eq kind (codes "points") then Point (whole_number x) (decimal_number y)
    else (if bytes_eq kind (codes "enum") then Label (whole_number x) y else Unread))

-- a row of the calibrations sheet: name, kind, x, y
abbrev pub read_calibration : List Text → CalibrationRow
read_calibration fields = record { fields = length fields; name = field fields 0; row_values = read_row_values (field fields 1) (field fields 2) (field fields 3) }

-- the coding that a text spells
abbrev pub read_coding : Text → Option Coding
read_coding text =
    if bytes_eq text (codes "uint") then Some Uint
    else (if bytes_eq text (codes "int") then Some Int
    else (if bytes_eq text (codes "uintLE") then Some UintLe
    else (if bytes_eq text (codes "intLE") then Some IntLe else None)))

-- what a name refers to: the number at which it was found, or nothing known
abbrev pub reference_from : Option ℕ → Reference
reference_from None = Unknown
reference_from (Some n) = Known n

-- the item that a text names, where it isn't empty
abbrev pub read_reference : List Text → Text → Reference
read_reference names [] = Nothing
read_reference names (b ∷ text) = reference_from (place_of (b ∷ text) names)

-- a row of the parameters sheet: name, coding, bits, calibration
abbrev pub read_parameter : List Text → List Text → ParameterRow
read_parameter calibrations fields = record {
  fields = length fields;
  name = field fields 0;
  coding = read_coding (field fields 1);
  bits = small_number 1 64 (field fields 2);
  calibration = read_reference calibrations (field fields 3);
}

-- `yes`, `no` or empty, which means no
abbrev pub read_archive : Text → Option Bool
read_archive [] = Some false
read_archive (b ∷ text) = if bytes_eq (b ∷ text) (codes "yes") then Some true else (if bytes_eq (b ∷ text) (codes "no") then Some false else None)

-- the columns container, parent, condition and archive
abbrev pub read_columns : List Text → List Text → Text → Text → Text → Text → ContainerColumns
read_columns parameters above [] parent text archive = Continues (not (is_empty parent) || not (is_empty text) || not (is_empty archive))
read_columns parameters above (b ∷ name) parent text archive = Begins (record {
  name = b ∷ name;
  parent = read_reference above parent;
  condition = condition parameters text;
  archive = read_archive archive;
})

-- a position that was read, or one that has no meaning
abbrev pub position_from : Option ℕ → EntryPosition
position_from None = place.Unknown
position_from (Some at) = At at

-- up to 6 digits, or `+` and digits after the previous entry's end, or empty, which is `+0`
abbrev pub read_position : ℕ → Reference → Text → EntryPosition
read_position end entry [] = if is_nothing entry then place.Nothing else At end
read_position end entry (b ∷ text) =
    position_from (if b == 43 then option_map (λ n. end + n) (offset text) else digits_at_most 6 (b ∷ text))

-- the name of a parameter
abbrev pub name_of_parameter : Parameter → Text
name_of_parameter p = p.name

-- the name of a container
abbrev pub name_of_container : Container → Text
name_of_container c = c.name

-- the columns of a record before its entry, below these parameters and containers
abbrev pub columns_of : List Parameter → List Container → List Text → ContainerColumns
columns_of parameters above fields =
    read_columns (map name_of_parameter parameters) (map name_of_container above) (field fields 0) (field fields 1) (field fields 2) (field fields 3)

-- a row of the containers sheet below the containers above it: container, parent, condition, archive, entry, position
abbrev pub read_container : List Parameter → List Container → List Text → ContainerRow
read_container parameters above fields =
    let columns = columns_of parameters above fields in
    let entry = read_reference (map name_of_parameter parameters) (field fields 4) in
    record { fields = length fields; columns = columns; entry = entry; position = read_position (path_end parameters (last_path (with_columns above columns))) entry (field fields 5) }

-- the rows of records, each read below the containers of those above it
abbrev pub read_containers : List Parameter → List Container → List (List Text) → List ContainerRow
read_containers parameters above [] = []
read_containers parameters above (fields ∷ records) =
    let row = read_container parameters above fields in
    row ∷ read_containers parameters (with_container_row above row) records

-- two neighbouring fields are these texts
abbrev pub are_texts : List Text → ℕ → Text → Text → Bool
are_texts fields i first second = bytes_eq (field fields i) first && bytes_eq (field fields (i + 1)) second

-- the header is name,kind,x,y
abbrev pub is_calibration_header : List Text → Bool
is_calibration_header fields = (length fields == 4) && (are_texts fields 0 (codes "name") (codes "kind") && are_texts fields 2 (codes "x") (codes "y"))

-- the header is name,coding,bits,calibration
abbrev pub is_parameter_header : List Text → Bool
is_parameter_header fields = (length fields == 4) && (are_texts fields 0 (codes "name") (codes "coding") && are_texts fields 2 (codes "bits") (codes "calibration"))

-- the header is container,parent,condition,archive,entry,position
abbrev pub is_container_header : List Text → Bool
is_container_header fields =
    (length fields == 6) && (are_texts fields 0 (codes "container") (codes "parent") && (are_texts fields 2 (codes "condition") (codes "archive") && are_texts fields 4 (codes "entry") (codes "position")))

-- the sheet's first record is its header
abbrev pub has_header : (List Text → Bool) → List (List Text) → Bool
has_header is_header [] = false
has_header is_header (fields ∷ records) = is_header fields

-- what the rows of three sheets say
abbrev pub rows_of_sheets : RawMdb → Rows
rows_of_sheets raw =
    let calibrations = map read_calibration (drop 1 raw.calibrations) in
    let parameters = map (read_parameter (map (λ c. c.name) (calibrations_of calibrations))) (drop 1 raw.parameters) in
    record { parameters = parameters; calibrations = calibrations; containers = read_containers (parameters_of parameters) [] (drop 1 raw.containers) }

-- a sheet's header, and then its rows
abbrev pub sheet_fault : MdbSheet → (List Text → Bool) → List (List Text) → Option Broken → Option Broken
sheet_fault sheet is_header records fault = if has_header is_header records then fault else Some (record { sheet = sheet; row = 1; rule = 1 })

-- the first rule that three sheets break: calibrations, then parameters, then containers
abbrev pub sheets_fault : RawMdb → Option Broken
sheets_fault raw =
    let rows = rows_of_sheets raw in
    or_else (sheet_fault Calibrations is_calibration_header raw.calibrations (calibrations_fault rows.calibrations))
    (or_else (sheet_fault Parameters is_parameter_header raw.parameters (parameters_fault (calibrations_of rows.calibrations) rows.parameters))
    (sheet_fault Containers is_container_header raw.containers (containers_fault (parameters_of rows.parameters) rows.containers)))

-- the database that three sheets spell
abbrev pub sheets_database : RawMdb → Database
sheets_database raw = database_of (rows_of_sheets raw)

-- the database, or the first rule broken, or where none is the first limit passed
abbrev pub IsCheckResult : RawMdb → Result Database MdbFault → Type 0
IsCheckResult raw (Ok database) = (sheets_fault raw ≡ None) × (limit_passed (sheets_database raw) ≡ None) × (database ≡ sheets_database raw)
IsCheckResult raw (Err (Bad sheet row rule)) = sheets_fault raw ≡ Some (record { sheet = sheet; row = row; rule = rule })
IsCheckResult raw (Err (Limit which number)) = (sheets_fault raw ≡ None) × (limit_passed (sheets_database raw) ≡ Some (which, number))
IsCheckResult raw (Err OutOfMemory) = Unit {0}
