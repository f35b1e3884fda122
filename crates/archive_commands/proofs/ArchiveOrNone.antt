-- A disk holds an archive, or none.
use Rattle.std.proofs.Common.{◌≡◌, ◌≤◌, ℕ, List, [], ◌∷◌, length, arith}
use Rattle.std.specs.Prelude.{get_or}
use Rattle.disk_journal.specs.Format.{HoldsNone}

-- no disk holds one and none
pub one-not-none : (file : List ℕ) → 2 ≤ length file → get_or file 0 0 ≡ 1 → HoldsNone file → ⊥
one-not-none [] long first none = absurd (omega (arith, long))
one-not-none (gate ∷ []) long first none = absurd (omega (arith, long))
one-not-none (gate ∷ next ∷ rest) long first none = none first
