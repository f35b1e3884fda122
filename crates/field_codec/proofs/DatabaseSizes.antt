-- How long the spelling of a mission database is.
use Rattle.std.proofs.Common.{◌≡◌, ℕ, ◌+◌, ◌*◌, ◌<◌, ◌≤◌, ◌^◌, List, [], ◌∷◌, ◌++◌, length, length-append, arith}
use Rattle.std.specs.Prelude.{sum_by}
use Rattle.std.specs.Int.{w8, w16, w32, w64, w128}
use Rattle.std.specs.List.{AllByRecursion, flat_map}
use Rattle.std.proofs.lemmas.List.Sums.{sum_by-cons}
use Rattle.mdb_items.specs.declared.calibration.Calibration.{Calibration}
use Rattle.mdb_items.specs.declared.calibration.EnumRow.{EnumRow}
use Rattle.mdb_items.specs.declared.calibration.PointsRow.{PointsRow}
use Rattle.mdb_items.specs.declared.calibration.PolyRow.{PolyRow}
use Rattle.mdb_items.specs.declared.calibration.Calibrator.{Calibrator}
use Rattle.mdb_items.specs.declared.calibration.Calibrator.TheVariants.{Poly, Points, Enum}
use Rattle.mdb_items.specs.declared.container.Comparison.{Comparison}
use Rattle.mdb_items.specs.declared.container.Container.{Container}
use Rattle.mdb_items.specs.declared.container.ParameterEntry.{ParameterEntry}
use Rattle.mdb_items.specs.declared.parameter.Parameter.{Parameter}
use Rattle.mdb_items.specs.Database.{Database, IsDatabase, entry_count, row_count, calibrator_len}
use Rattle.mdb_octets.specs.Spelling.{FitsCalibration, FitsContainer, FitsDatabase, FitsEnum, FitsParameter, FitsCalibrator, archive_code, calibration_octets, coding_code, comparison_octets, container_octets, database_octets, container_entry_octets, enum_octets, kind_code, link, operator_code, parameter_octets, points_octets, poly_octets, calibrator_rows_octets}
use Rattle.mdb_items.specs.Structure.{IsStructured}
use Rattle.mdb_model.proofs.DatabaseOctets.{database_fits}
use Rattle.mdb_model.proofs.Structure.{structured}
use Rattle.octet_fields.specs.Spelling.{counted, name, number, signed}
use Rattle.field_codec.proofs.Lengths.{counted_8, counted_16, counted_32, each_most, each_most_and}

-- ---- parameters

parameter_size : (p : Parameter) → FitsParameter p → length (parameter_octets p) ≤ 260
unfolding parameter_octets name number
parameter_size p fits = let short = fits.name in omega (arith, short, length-append p.name (number w8 (coding_code p.coding) ++ (number w8 p.bits ++ number w16 (link p.calibration))))

-- ---- calibrations

poly_size : (r : PolyRow) → length (poly_octets r) ≤ 272
unfolding poly_octets number signed
poly_size r = omega arith

points_size : (r : PointsRow) → length (points_octets r) ≤ 272
unfolding points_octets number signed
points_size r = omega arith

enum_size : (r : EnumRow) → FitsEnum r → length (enum_octets r) ≤ 272
unfolding enum_octets name number signed
enum_size r fits = let short = fits.label in omega (arith, short)

always : {X : Type 0} (xs : List X) → AllByRecursion (λ x. Unit {0}) xs
always [] = tt
always (x ∷ xs) = (tt, always xs)

calibrator_size : (t : Calibrator) → FitsCalibrator t → length (calibrator_rows_octets t) ≤ 4 + 272 * calibrator_len t
calibrator_size (Poly rows) fits = omega (arith, counted_32 poly_octets rows, each_most poly_octets 272 (λ r. Unit {0}) (λ r u. poly_size r) rows (always rows))
calibrator_size (Points rows) fits = omega (arith, counted_32 points_octets rows, each_most points_octets 272 (λ r. Unit {0}) (λ r u. points_size r) rows (always rows))
calibrator_size (Enum rows) fits = omega (arith, counted_32 enum_octets rows, each_most enum_octets 272 FitsEnum enum_size rows fits.1)

calibration_size : (c : Calibration) → FitsCalibration c → length (calibration_octets c) ≤ 261 + 272 * row_count c
unfolding calibration_octets name number
calibration_size c fits =
    let short = fits.name in
    omega (arith, short, length-append c.name (number w8 (kind_code c.calibrator) ++ calibrator_rows_octets c.calibrator), calibrator_size c.calibrator fits.calibrator)

-- ---- containers

comparison_size : (c : Comparison) → length (comparison_octets c) ≤ 19
unfolding comparison_octets number signed
comparison_size c = omega arith

entry_size : (e : ParameterEntry) → length (container_entry_octets e) ≤ 6
unfolding container_entry_octets number
entry_size e = omega arith

container_size : (c : Container) → FitsContainer c → length (container_octets c) ≤ 5107 + 6 * entry_count c
unfolding container_octets name number
container_size c fits =
    let short = fits.name in
    let condition : List ℕ = counted w8 comparison_octets c.condition in
    let entries : List ℕ = counted w16 container_entry_octets c.entries in
    omega (
      arith,
      short,
      fits.condition.0,
      length-append c.name (number w16 (link c.parent) ++ (number w8 (archive_code c.archive) ++ (condition ++ entries))),
      length-append condition entries,
      counted_8 comparison_octets c.condition,
      counted_16 container_entry_octets c.entries,
      each_most comparison_octets 19 (λ x. Unit {0}) (λ x u. comparison_size x) c.condition (always c.condition),
      each_most container_entry_octets 6 (λ x. Unit {0}) (λ x u. entry_size x) c.entries (always c.entries),
    )

-- ---- the database

sizes : (d : Database) → FitsDatabase d → IsStructured d → length (database_octets d) < 2 ^ 27
unfolding database_octets
sizes d fits s =
    let parameters : List ℕ = counted w16 parameter_octets d.parameters in
    let calibrations : List ℕ = counted w16 calibration_octets d.calibrations in
    let containers : List ℕ = counted w16 container_octets d.containers in
    omega (
      arith,
      s.few_parameters,
      s.few_calibrations,
      s.few_rows,
      s.few_containers,
      s.few_entries,
      length-append parameters (calibrations ++ containers),
      length-append calibrations containers,
      counted_16 parameter_octets d.parameters,
      counted_16 calibration_octets d.calibrations,
      counted_16 container_octets d.containers,
      each_most parameter_octets 260 FitsParameter parameter_size d.parameters fits.parameters.1,
      each_most_and calibration_octets 261 272 row_count FitsCalibration calibration_size d.calibrations fits.calibrations.1,
      each_most_and container_octets 5107 6 entry_count FitsContainer container_size d.containers fits.containers.1,
    )

pub database_short : (d : Database) → IsDatabase d → length (database_octets d) < 2 ^ 27
database_short d is = sizes d (database_fits d is) (structured d is)
