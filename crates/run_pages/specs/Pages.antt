-- A page: its one spelling, and how it is read.
use Rattle.std.specs.Prelude.{ℕ, ◌<◌, ◌≤◌, ◌^◌, List, ◌++◌, length, Bool, ◌&&◌, nat_le}
use Rattle.std.specs.Int.{w16, w64}
use Rattle.std.specs.List.{AllByRecursion}
use Rattle.arch_types.specs.declared.row.Row.{Row}
use Rattle.octet_fields.specs.Reading.{Reader, both_at, mapped_at, number_at, tested_at, times_at}
use Rattle.octet_fields.specs.Spelling.{number, counted}
use Rattle.row_codec.specs.Rows.{IsStored}
use Rattle.row_codec.specs.Reading.{row_at}
use Rattle.row_codec.specs.Spelling.{row_octets}
use Rattle.run_pages.specs.Placed.{Placed, row_placed, placed_rows}
use Rattle.run_pages.specs.declared.page_rows.PageRows.{PageRows}

-- the rows of a page, each at its position
abbrev pub rows_of_page : PageRows → List Placed
rows_of_page page = placed_rows page.positions page.rows

-- a row that may be stored, at a position of 64 bits
pub record FitsPage (at : Placed) : Type 0 where
  pub position : at.position < 2 ^ 64
  pub stored : IsStored at.row

-- 1 to 64 such rows
pub record IsPage (rows : List Placed) : Type 0 where
  pub some : 1 ≤ length rows
  pub few : length rows ≤ 64
  pub each : AllByRecursion FitsPage rows

-- ---- the spelling

-- u64 position, and the row
unfoldable pub placed_octets : Placed → List ℕ
placed_octets at = number w64 at.position ++ row_octets at.row

-- u16 count, and the rows, each behind its position
abbrev pub page_octets : List Placed → List ℕ
page_octets rows = counted w16 placed_octets rows

-- ---- the reader

-- the row of what was read
abbrev pub row_placed_of : ℕ × Row → Placed
row_placed_of p = row_placed p.0 p.1

-- reads a position and a row
unfoldable pub placed_at : Reader Placed
placed_at = mapped_at row_placed_of (both_at (number_at w64) (λ _. row_at))

-- a page has 1 to 64 rows
abbrev pub is_page_count : ℕ → Bool
is_page_count n = nat_le 1 n && nat_le n 64

-- reads a page
unfoldable pub page_at : Reader (List Placed)
page_at = mapped_at (λ p. p.1) (both_at (tested_at is_page_count (number_at w16)) (λ n. times_at placed_at n))
