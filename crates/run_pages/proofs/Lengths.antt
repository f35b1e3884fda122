-- How long the spelling of a page is.
use Rattle.std.proofs.Common.{◌≡◌, ℕ, ◌+◌, List, [], ◌∷◌, length, length-append, refl, arith}
use Rattle.std.specs.List.{flat_map}
use Rattle.arch_types.specs.declared.row.Row.{Row}
use Rattle.octet_fields.specs.Spelling.{counted, number}
use Rattle.row_codec.specs.Spelling.{row_octets}
use Rattle.run_pages.specs.Placed.{row_placed, placed_rows}
use Rattle.run_pages.specs.Pages.{page_octets, placed_octets}

-- the octets of a row at position 0
abbrev pub at_zero : Row → List ℕ
at_zero row = placed_octets (row_placed 0 row)

pub length-placed : (position : ℕ) (row : Row) → length (placed_octets (row_placed position row)) ≡ 8 + length (row_octets row)
unfolding placed_octets number
length-placed position row = omega arith

length-rows : (positions : List ℕ) (rows : List Row) → length positions ≡ length rows → length (flat_map placed_octets (placed_rows positions rows)) ≡ length (flat_map at_zero rows)
length-rows [] [] beside = refl
length-rows [] (row ∷ rows) beside = absurd (omega (arith, beside))
length-rows (position ∷ positions) [] beside = absurd (omega (arith, beside))
length-rows (position ∷ positions) (row ∷ rows) beside = omega (
  arith,
  length-append (placed_octets (row_placed position row)) (flat_map placed_octets (placed_rows positions rows)),
  length-append (at_zero row) (flat_map at_zero rows),
  length-placed position row,
  length-placed 0 row,
  length-rows positions rows (omega (arith, beside)),
)

pub length-page : (positions : List ℕ) (rows : List Row) → length positions ≡ length rows → length (page_octets (placed_rows positions rows)) ≡ 2 + length (flat_map at_zero rows)
unfolding counted number
length-page positions rows beside = omega (arith, length-rows positions rows beside)
