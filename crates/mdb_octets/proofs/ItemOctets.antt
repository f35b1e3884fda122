-- The octets of a mission database are read exactly: each part by its law, and the maps between codes, pairs and records by hand.
use Rattle.std.proofs.Common.{◌≡◌, ℕ, zero, suc, ◌<◌, ◌^◌, Bool, true, false, List, [], ◌++◌, length, Option, Some, None, refl, ap, arith}
use Rattle.std.specs.List.{AllByRecursion}
use Rattle.std.specs.Int.{w8, w16, w32}
use Rattle.mdb_items.specs.declared.calibration.EnumRow.{EnumRow}
use Rattle.mdb_items.specs.declared.calibration.PointsRow.{PointsRow}
use Rattle.mdb_items.specs.declared.calibration.PolyRow.{PolyRow}
use Rattle.mdb_items.specs.declared.calibration.Calibrator.{Calibrator}
use Rattle.mdb_items.specs.declared.calibration.Calibrator.TheVariants.{Poly, Points, Enum}
use Rattle.mdb_items.specs.declared.container.Operator.{Operator}
use Rattle.mdb_items.specs.declared.container.Operator.TheVariants.{Equal, NotEqual, Less, LessOrEqual, Greater, GreaterOrEqual}
use Rattle.mdb_items.specs.declared.parameter.Coding.{Coding}
use Rattle.mdb_items.specs.declared.parameter.Coding.TheVariants.{Uint, Int, UintLe, IntLe}
use Rattle.mdb_octets.specs.Reading.{archive_at, archive_from, calibration_at, coding_at, coding_from, comparison_at, container_at, container_from, database_at, database_from, entry_at, enum_at, from_link, link_at, operator_at, operator_from, parameter_at, parameter_from, points_at, poly_at, calibrator_rows_at, calibrator_at}
use Rattle.mdb_octets.specs.Spelling.{FitsCalibration, FitsComparison, FitsContainer, FitsDatabase, FitsEntry, FitsEnum, FitsParameter, FitsPoints, FitsPoly, FitsCalibrator, archive_code, calibration_octets, coding_code, comparison_octets, container_octets, database_octets, container_entry_octets, enum_octets, kind_code, link, operator_code, parameter_octets, points_octets, poly_octets, calibrator_rows_octets}
use Rattle.octet_fields.specs.Exact.{IsExact}
use Rattle.octet_fields.specs.Spelling.{counted, number}
use Rattle.octet_fields.proofs.Exact.{some_is, IsExact-as, IsExact-both, IsExact-decoded, IsExact-mapped, IsExact-nothing}
use Rattle.octet_fields.proofs.Numbers.{IsExact-kind, exact8, exact16, exact32, exact_counted8, exact_counted16, exact_counted32, exact_i64, exact_i128, exact_name}

abbrev Any : {A : Type 0} → A → Type 0
Any a = Unit {0}

-- ---- codes

link_back : (n : ℕ) → link (from_link n) ≡ n
link_back zero = refl
link_back (suc n) = refl

link_again : (o : Option ℕ) → from_link (link o) ≡ o
link_again None = refl
link_again (Some n) = refl

coding_back : (n : ℕ) (k : Coding) → coding_from n ≡ Some k → n ≡ coding_code k
coding_back zero k e = ap coding_code (some_is Uint k e)
coding_back (suc zero) k e = ap coding_code (some_is Int k e)
coding_back (suc (suc zero)) k e = ap coding_code (some_is UintLe k e)
coding_back (suc (suc (suc zero))) k e = ap coding_code (some_is IntLe k e)
coding_back (suc (suc (suc (suc n)))) k e = absurd cc

coding_again : (k : Coding) → (coding_code k < 2 ^ 8) × (coding_from (coding_code k) ≡ Some k)
coding_again Uint = (omega arith, refl)
coding_again Int = (omega arith, refl)
coding_again UintLe = (omega arith, refl)
coding_again IntLe = (omega arith, refl)

operator_back : (n : ℕ) (o : Operator) → operator_from n ≡ Some o → n ≡ operator_code o
operator_back zero o e = ap operator_code (some_is Equal o e)
operator_back (suc zero) o e = ap operator_code (some_is NotEqual o e)
operator_back (suc (suc zero)) o e = ap operator_code (some_is Less o e)
operator_back (suc (suc (suc zero))) o e = ap operator_code (some_is LessOrEqual o e)
operator_back (suc (suc (suc (suc zero)))) o e = ap operator_code (some_is Greater o e)
operator_back (suc (suc (suc (suc (suc zero))))) o e = ap operator_code (some_is GreaterOrEqual o e)
operator_back (suc (suc (suc (suc (suc (suc n)))))) o e = absurd cc

operator_again : (o : Operator) → (operator_code o < 2 ^ 8) × (operator_from (operator_code o) ≡ Some o)
operator_again Equal = (omega arith, refl)
operator_again NotEqual = (omega arith, refl)
operator_again Less = (omega arith, refl)
operator_again LessOrEqual = (omega arith, refl)
operator_again Greater = (omega arith, refl)
operator_again GreaterOrEqual = (omega arith, refl)

archive_back : (n : ℕ) (b : Bool) → archive_from n ≡ Some b → n ≡ archive_code b
archive_back zero b e = ap archive_code (some_is false b e)
archive_back (suc zero) b e = ap archive_code (some_is true b e)
archive_back (suc (suc n)) b e = absurd cc

archive_again : (b : Bool) → (archive_code b < 2 ^ 8) × (archive_from (archive_code b) ≡ Some b)
archive_again true = (omega arith, refl)
archive_again false = (omega arith, refl)

link_exact : IsExact (λ (o : Option ℕ). link o < 2 ^ 16) (λ o. number w16 (link o)) link_at
unfolding link_at
link_exact = IsExact-mapped exact16 (λ (o : Option ℕ). link o < 2 ^ 16) from_link link (λ n lt. (omega (arith, link_back n), link_back n)) (λ o lt. (lt, link_again o))

coding_exact : IsExact Any (λ k. number w8 (coding_code k)) coding_at
unfolding coding_at
coding_exact = IsExact-decoded exact8 Any coding_from coding_code (λ n k lt e. (tt, coding_back n k e)) (λ k any. coding_again k)

operator_exact : IsExact Any (λ o. number w8 (operator_code o)) operator_at
unfolding operator_at
operator_exact = IsExact-decoded exact8 Any operator_from operator_code (λ n o lt e. (tt, operator_back n o e)) (λ o any. operator_again o)

archive_exact : IsExact Any (λ b. number w8 (archive_code b)) archive_at
unfolding archive_at
archive_exact = IsExact-decoded exact8 Any archive_from archive_code (λ n b lt e. (tt, archive_back n b e)) (λ b any. archive_again b)

-- ---- items

parameter_exact : IsExact FitsParameter parameter_octets parameter_at
unfolding parameter_octets parameter_at
parameter_exact = IsExact-mapped (IsExact-both exact_name (λ _ _. IsExact-both coding_exact (λ _ _. IsExact-both exact8 (λ _ _. link_exact)))) FitsParameter parameter_from
    (λ p. (p.name, (p.coding, (p.bits, p.calibration))))
    (λ p fits. (record { name = fits.0; bits = fits.1.1.0; calibration = fits.1.1.1 }, refl)) (λ p fits. ((fits.name, (tt, (fits.bits, fits.calibration))), refl))

poly_exact : IsExact FitsPoly poly_octets poly_at
unfolding poly_octets poly_at
poly_exact = IsExact-mapped (IsExact-both exact8 (λ _ _. exact_i64)) FitsPoly (λ p. record { exponent = p.0; millionths = p.1 }) (λ r. (r.exponent, r.millionths))
    (λ p fits. (record { exponent = fits.0; millionths = fits.1 }, refl)) (λ r fits. ((fits.exponent, fits.millionths), refl))

points_exact : IsExact FitsPoints points_octets points_at
unfolding points_octets points_at
points_exact = IsExact-mapped (IsExact-both exact_i128 (λ _ _. exact_i64)) FitsPoints (λ p. record { x = p.0; millionths = p.1 }) (λ r. (r.x, r.millionths))
    (λ p fits. (record { x = fits.0; millionths = fits.1 }, refl)) (λ r fits. ((fits.x, fits.millionths), refl))

enum_exact : IsExact FitsEnum enum_octets enum_at
unfolding enum_octets enum_at
enum_exact = IsExact-mapped (IsExact-both exact_i128 (λ _ _. exact_name)) FitsEnum (λ p. record { x = p.0; label = p.1 }) (λ r. (r.x, r.label))
    (λ p fits. (record { x = fits.0; label = fits.1 }, refl)) (λ r fits. ((fits.x, fits.label), refl))

-- the rows that a calibrator of a kind has
abbrev poly_of : Calibrator → List PolyRow
poly_of (Poly rows) = rows
poly_of (Points rows) = []
poly_of (Enum rows) = []

abbrev points_of : Calibrator → List PointsRow
points_of (Poly rows) = []
points_of (Points rows) = rows
points_of (Enum rows) = []

abbrev enum_of : Calibrator → List EnumRow
enum_of (Poly rows) = []
enum_of (Points rows) = []
enum_of (Enum rows) = rows

abbrev OfKind : ℕ → Calibrator → Type 0
OfKind kind t = FitsCalibrator t × (kind_code t ≡ kind)

poly_here : (t : Calibrator) → OfKind 0 t → ((length (poly_of t) < 2 ^ 32) × AllByRecursion FitsPoly (poly_of t)) × (Poly (poly_of t) ≡ t)
poly_here (Poly rows) h = (h.0, refl)
poly_here (Points rows) h = absurd (omega (arith, h.1))
poly_here (Enum rows) h = absurd (omega (arith, h.1))

poly_spelled : (t : Calibrator) → OfKind 0 t → OfKind 0 t × (counted w32 poly_octets (poly_of t) ≡ calibrator_rows_octets t)
poly_spelled (Poly rows) h = (h, refl)
poly_spelled (Points rows) h = absurd (omega (arith, h.1))
poly_spelled (Enum rows) h = absurd (omega (arith, h.1))

points_here : (t : Calibrator) → OfKind 1 t → ((length (points_of t) < 2 ^ 32) × AllByRecursion FitsPoints (points_of t)) × (Points (points_of t) ≡ t)
points_here (Poly rows) h = absurd (omega (arith, h.1))
points_here (Points rows) h = (h.0, refl)
points_here (Enum rows) h = absurd (omega (arith, h.1))

points_spelled : (t : Calibrator) → OfKind 1 t → OfKind 1 t × (counted w32 points_octets (points_of t) ≡ calibrator_rows_octets t)
points_spelled (Poly rows) h = absurd (omega (arith, h.1))
points_spelled (Points rows) h = (h, refl)
points_spelled (Enum rows) h = absurd (omega (arith, h.1))

enum_here : (t : Calibrator) → OfKind 2 t → ((length (enum_of t) < 2 ^ 32) × AllByRecursion FitsEnum (enum_of t)) × (Enum (enum_of t) ≡ t)
enum_here (Poly rows) h = absurd (omega (arith, h.1))
enum_here (Points rows) h = absurd (omega (arith, h.1))
enum_here (Enum rows) h = (h.0, refl)

enum_spelled : (t : Calibrator) → OfKind 2 t → OfKind 2 t × (counted w32 enum_octets (enum_of t) ≡ calibrator_rows_octets t)
enum_spelled (Poly rows) h = absurd (omega (arith, h.1))
enum_spelled (Points rows) h = absurd (omega (arith, h.1))
enum_spelled (Enum rows) h = (h, refl)

none_of_kind : (n : ℕ) (t : Calibrator) → OfKind (suc (suc (suc n))) t → ⊥
none_of_kind n (Poly rows) h = omega (arith, h.1)
none_of_kind n (Points rows) h = omega (arith, h.1)
none_of_kind n (Enum rows) h = omega (arith, h.1)

rows_exact : (kind : ℕ) → IsExact (OfKind kind) calibrator_rows_octets (calibrator_rows_at kind)
rows_exact zero = IsExact-as (IsExact-mapped (exact_counted32 poly_exact) (OfKind 0) Poly poly_of (λ rows fits. ((fits, refl), refl)) poly_here) (OfKind 0) calibrator_rows_octets poly_spelled (λ t h. h)
rows_exact (suc zero) = IsExact-as (IsExact-mapped (exact_counted32 points_exact) (OfKind 1) Points points_of (λ rows fits. ((fits, refl), refl)) points_here) (OfKind 1) calibrator_rows_octets points_spelled (λ t h. h)
rows_exact (suc (suc zero)) = IsExact-as (IsExact-mapped (exact_counted32 enum_exact) (OfKind 2) Enum enum_of (λ rows fits. ((fits, refl), refl)) enum_here) (OfKind 2) calibrator_rows_octets enum_spelled (λ t h. h)
rows_exact (suc (suc (suc n))) = IsExact-nothing (OfKind (suc (suc (suc n)))) calibrator_rows_octets (none_of_kind n)

kind_small : (t : Calibrator) → FitsCalibrator t → kind_code t < 2 ^ 8
kind_small (Poly rows) fits = omega arith
kind_small (Points rows) fits = omega arith
kind_small (Enum rows) fits = omega arith

calibrator_exact : IsExact FitsCalibrator (λ t. number w8 (kind_code t) ++ calibrator_rows_octets t) calibrator_at
unfolding calibrator_at
calibrator_exact = IsExact-kind kind_code calibrator_rows_at kind_small rows_exact

calibration_exact : IsExact FitsCalibration calibration_octets calibration_at
unfolding calibration_octets calibration_at
calibration_exact = IsExact-mapped (IsExact-both exact_name (λ _ _. calibrator_exact)) FitsCalibration (λ p. record { name = p.0; calibrator = p.1 }) (λ c. (c.name, c.calibrator))
    (λ p fits. (record { name = fits.0; calibrator = fits.1 }, refl)) (λ c fits. ((fits.name, fits.calibrator), refl))

comparison_exact : IsExact FitsComparison comparison_octets comparison_at
unfolding comparison_octets comparison_at
comparison_exact = IsExact-mapped (IsExact-both exact16 (λ _ _. IsExact-both operator_exact (λ _ _. exact_i128))) FitsComparison
    (λ p. record { parameter = p.0; operator = p.1.0; number = p.1.1 }) (λ c. (c.parameter, (c.operator, c.number)))
    (λ p fits. (record { parameter = fits.0; number = fits.1.1 }, refl)) (λ c fits. ((fits.parameter, (tt, fits.number)), refl))

entry_exact : IsExact FitsEntry container_entry_octets entry_at
unfolding container_entry_octets entry_at
entry_exact = IsExact-mapped (IsExact-both exact16 (λ _ _. exact32)) FitsEntry (λ p. record { parameter = p.0; at = p.1 }) (λ e. (e.parameter, e.at))
    (λ p fits. (record { parameter = fits.0; at = fits.1 }, refl)) (λ e fits. ((fits.parameter, fits.at), refl))

container_exact : IsExact FitsContainer container_octets container_at
unfolding container_octets container_at
container_exact = IsExact-mapped (IsExact-both exact_name (λ _ _. IsExact-both link_exact (λ _ _. IsExact-both archive_exact (λ _ _. IsExact-both (exact_counted8 comparison_exact) (λ _ _. exact_counted16 entry_exact)))))
    FitsContainer container_from (λ c. (c.name, (c.parent, (c.archive, (c.condition, c.entries)))))
    (λ p fits. (record { name = fits.0; parent = fits.1.0; condition = fits.1.1.1.0; entries = fits.1.1.1.1 }, refl))
    (λ c fits. ((fits.name, (fits.parent, (tt, (fits.condition, fits.entries)))), refl))

pub database_exact : IsExact FitsDatabase database_octets database_at
unfolding database_octets database_at
database_exact = IsExact-mapped (IsExact-both (exact_counted16 parameter_exact) (λ _ _. IsExact-both (exact_counted16 calibration_exact) (λ _ _. exact_counted16 container_exact)))
    FitsDatabase database_from (λ d. (d.parameters, (d.calibrations, d.containers)))
    (λ p fits. (record { parameters = fits.0; calibrations = fits.1.0; containers = fits.1.1 }, refl))
    (λ d fits. ((fits.parameters, (fits.calibrations, fits.containers)), refl))
