-- How far a polynomial carries a raw number, and where a raw number lies among points.
use Rattle.std.specs.Prelude.{ℕ, ◌*◌, ◌^◌, ◌<◌, ◌≤◌, List, Option, Some, None, sum_by, unsigned_abs, ℤ, ◌≤ℤ◌, ◌<ℤ◌}
use Rattle.mdb_items.specs.declared.calibration.PointsRow.{PointsRow}
use Rattle.mdb_items.specs.declared.calibration.PolyRow.{PolyRow}
use Rattle.mdb_items.specs.ParameterRows.{degree, reach}
use Rattle.mdb_items.specs.Structure.{IsPoint}

-- the raw number has at most so many bits, and the coefficient carries it no further than 2^63 millionths
pub record IsCarried (raw : ℤ) (row : PolyRow) : Type 0 where
  pub bits : ℕ
  pub within : unsigned_abs raw ≤ 2 ^ bits
  pub low : bits * row.exponent ≤ 60
  pub near : reach bits row < 9223372036854775808

-- the coefficients together carry it no further than 2^63 millionths
pub record AreCarried (raw : ℤ) (rows : List PolyRow) : Type 0 where
  pub bits : ℕ
  pub within : unsigned_abs raw ≤ 2 ^ bits
  pub low : bits * degree rows ≤ 60
  pub near : sum_by (reach bits) rows < 9223372036854775808

-- the raw number lies at a point or above it, and below the next one
pub record IsBetween (p : PointsRow) (q : PointsRow) (raw : ℤ) : Type 0 where
  pub first : IsPoint p
  pub second : IsPoint q
  pub from : p.x ≤ℤ raw
  pub to : raw <ℤ q.x

-- the last point reached and the next one, where there are both
abbrev pub AreNeighbours : Option PointsRow → Option PointsRow → ℤ → Type 0
AreNeighbours None after raw = Unit {0}
AreNeighbours (Some p) None raw = Unit {0}
AreNeighbours (Some p) (Some q) raw = IsBetween p q raw
