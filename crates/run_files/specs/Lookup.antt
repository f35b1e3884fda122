-- Where a run may have a key.
use Rattle.std.specs.Prelude.{◌≡◌, ℕ, ◌<◌, List, Option, Some, None, true, slice_get}
use Rattle.std.specs.List.{Contains}
use Rattle.std.specs.Ordering.{is_lt, is_le}
use Rattle.arch_types.specs.declared.key.Key.{Key}
use Rattle.arch_types.specs.declared.row.Row.{Row}
use Rattle.arch_types.specs.Order.{key_cmp}
use Rattle.run_pages.specs.Placed.{Placed, row_placed}
use Rattle.run_pages.specs.declared.index.PageEntry.{PageEntry}

-- from this page on each page's first key is above a key
abbrev pub AreAboveKey : List PageEntry → Key → ℕ → Type 0
AreAboveKey entries key from = (page : ℕ) (entry : PageEntry) → from < page → slice_get entries page ≡ Some entry → is_lt (key_cmp key entry.first) ≡ true

-- the last page whose first key isn't above a key
pub record IsLastNotAbove (entries : List PageEntry) (key : Key) (page : ℕ) : Type 0 where
  pub entry : PageEntry
  pub there : slice_get entries page ≡ Some entry
  pub not_above : is_le (key_cmp entry.first key) ≡ true
  pub later : AreAboveKey entries key page

-- the last page whose first key isn't above a key, or none where the first page's is
abbrev pub IsPageFor : List PageEntry → Key → Option ℕ → Type 0
IsPageFor entries key (Some page) = IsLastNotAbove entries key page
IsPageFor entries key None = (page : ℕ) (entry : PageEntry) → slice_get entries page ≡ Some entry → is_lt (key_cmp key entry.first) ≡ true

-- the position of the row with a key, or none where no row has it
abbrev pub IsPositionOf : List Placed → Key → Option ℕ → Type 0
IsPositionOf rows key (Some position) = (row : Row) × (row.key ≡ key) × Contains rows (row_placed position row)
IsPositionOf rows key None = (at : Placed) → Contains rows at → at.row.key ≡ key → ⊥
