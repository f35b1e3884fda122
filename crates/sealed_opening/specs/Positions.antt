-- Positions that were told, and what is kept of them.
use Rattle.std.specs.Prelude.{◌≡◌, ℕ, ◌<◌, ◌≤◌, List, ◌++◌, length, get_or, Bool, true, false, nat_eq}
use Rattle.std.specs.List.{AllByRecursion, IsDistinct, list_any}
use Rattle.archive_history.specs.RowLimits.{row_limit}
use Rattle.archive_history.specs.declared.row_limit.RowLimit.TheVariants.{Rows}
use Rattle.sealed_images.specs.Verdict.{ArePositions}
use Rattle.sealed_opening.specs.declared.positions.PositionFlags.{PositionFlags}

-- positions below a limit, none of them twice, each of which has its flag, and no other has
pub record HaveFlags (limit : ℕ) (told : List ℕ) (flags : List Bool) : Type 0 where
  pub few : limit ≤ row_limit Rows
  pub once : IsDistinct nat_eq told
  pub below : AllByRecursion (λ position. position < limit) told
  pub len : length flags ≡ limit
  pub flagged : (position : ℕ) → get_or flags position false ≡ list_any (nat_eq position) told

-- what is kept of positions that were told: their flags, or that with none behind them they are those below the limit, each once
pub record AreFlagsOf (limit : ℕ) (told : List ℕ) (kept : PositionFlags) : Type 0 where
  pub flags : kept.once ≡ true → HaveFlags limit told kept.flags.items
  pub broken : kept.once ≡ false → (more : List ℕ) → limit ≤ row_limit Rows → ArePositions (told ++ more) limit → ⊥
