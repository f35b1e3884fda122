-- Comparisons with a limit.
use Rattle.std.proofs.Common.{◌≡◌, ◌<◌, ◌≤◌, ℕ, true, false, arith}
use Rattle.std.specs.Prelude.{nat_lt}
use Rattle.std.proofs.lemmas.Bool.Decides.{nat_tests}

-- ---- one input

pub not-longer : (limit n : ℕ) → n ≤ limit → nat_lt limit n ≡ false
not-longer limit n h = grind (arith, nat_tests)

pub longer : (limit n : ℕ) → limit < n → nat_lt limit n ≡ true
longer limit n h = grind (arith, nat_tests)
