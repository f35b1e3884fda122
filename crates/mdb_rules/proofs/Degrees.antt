-- The greatest exponent of a polynomial.
use Rattle.std.proofs.Common.{◌*◌, ◌<◌, ◌≤◌, ℕ, zero, suc, List, [], ◌∷◌, length, get_or, arith}
use Rattle.std.specs.Prelude.{fold, max}
use Rattle.std.proofs.Math.Nat.{mul-le-mul_left}
use Rattle.mdb_items.specs.declared.calibration.PolyRow.{PolyRow}
use Rattle.mdb_items.specs.ParameterRows.{degree}

abbrev greatest : ℕ → List PolyRow → ℕ
greatest a rows = fold (λ d r. max d r.exponent) a rows

starts : (a : ℕ) (rows : List PolyRow) → a ≤ greatest a rows
starts a [] = omega arith
starts a (r ∷ rows) = let more = starts (max a r.exponent) rows in omega arith

bounds : (a : ℕ) (rows : List PolyRow) (i : ℕ) (d : PolyRow) → i < length rows → (get_or rows i d).exponent ≤ greatest a rows
bounds a [] i d lt = absurd (omega arith)
bounds a (r ∷ rows) zero d lt = let more = starts (max a r.exponent) rows in omega arith
bounds a (r ∷ rows) (suc i) d lt = bounds (max a r.exponent) rows i d (omega arith)

-- no exponent is above the degree
pub within_degree : (bits : ℕ) (rows : List PolyRow) (i : ℕ) (d : PolyRow) → i < length rows → bits * degree rows ≤ 60 → bits * (get_or rows i d).exponent ≤ 60
within_degree bits rows i d lt fits =
    let less = bounds 0 rows i d lt in
    let more : bits * (get_or rows i d).exponent ≤ bits * degree rows = mul-le-mul_left bits less in
    omega arith
