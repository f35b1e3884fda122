-- The least number from a number on.
use Rattle.std.specs.Prelude.{◌≡◌, ℕ, ◌<◌, ◌≤◌, Option, Some, None, Bool, true, false}

-- the least number that passes a test, from a number on, or that there is none
abbrev pub IsLeastFrom : (ℕ → Bool) → ℕ → Option ℕ → Type 0
IsLeastFrom test low None = (p : ℕ) → low ≤ p → test p ≡ false
IsLeastFrom test low (Some least) = (low ≤ least) × (test least ≡ true) × ((p : ℕ) → low ≤ p → p < least → test p ≡ false)
