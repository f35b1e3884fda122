-- The lesser and the greater of two numbers, as values.
use Rattle.std.proofs.Common.{◌≡◌, ℕ, pos, ◌<◌, ◌≤◌, arith}
use Rattle.std.specs.Int.{int_max, int_min}
use Rattle.std.proofs.lemmas.Int.{clamps, ints}

pub lesser_second : (a b : ℕ) → b < a → pos b ≡ int_min (pos a) (pos b)
lesser_second a b lt = omega (arith, ints, clamps)

pub lesser_first : (a b : ℕ) → a ≤ b → pos a ≡ int_min (pos a) (pos b)
lesser_first a b le = omega (arith, ints, clamps)

pub greater_first : (a b : ℕ) → b < a → pos a ≡ int_max (pos a) (pos b)
greater_first a b lt = omega (arith, ints, clamps)

pub greater_second : (a b : ℕ) → a ≤ b → pos b ≡ int_max (pos a) (pos b)
greater_second a b le = omega (arith, ints, clamps)
