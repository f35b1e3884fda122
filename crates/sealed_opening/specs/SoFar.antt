-- What the files of seals came to so far, and rows that were noted in it.
use Rattle.std.specs.Prelude.{◌≡◌, ◌↔◌, ℕ, List, ◌++◌, length, map, true}
use Rattle.std.specs.List.{AllByRecursion, flat_map}
use Rattle.arch_types.specs.declared.row.Row.{Row}
use Rattle.octet_fields.specs.Exact.{IsOctets}
use Rattle.fill_tracker.specs.Placed.{AreMarksOfPlaced}
use Rattle.run_pages.specs.Pages.{FitsPage, rows_of_page}
use Rattle.run_pages.specs.Placed.{Placed, behind_positions, rows_of_placed}
use Rattle.sealed_sums.specs.Sums.{AreSumsOf}
use Rattle.sealed_opening.specs.Positions.{AreFlagsOf}
use Rattle.sealed_opening.specs.declared.so_far.SealedSoFar.{SealedSoFar}

-- the rows with which pages were told, page behind page
abbrev pub rows_so_far : SealedSoFar → List Placed
rows_so_far so_far = flat_map (λ page. rows_of_page page.value) so_far.told.items

-- the marks are those of the rows so far and of the fills that were noted
abbrev pub HasOwnMarks : SealedSoFar → Type 0
HasOwnMarks so_far =
    AreMarksOfPlaced so_far.sums.exponent (behind_positions (rows_so_far so_far)) so_far.tracker.fills so_far.tracker.marks

-- These rows were noted behind those before: in the sums, in the marks, and their positions in the flags. Each fits a page,
-- and its packet has octets.
pub record AreRowsNoted (rows : List Placed) (was now : SealedSoFar) : Type 0 where
  pub told : rows_so_far now ≡ rows_so_far was ++ rows
  pub sums : (before : List Row) → AreSumsOf before was.sums → AreSumsOf (before ++ rows_of_placed rows) now.sums
  pub marks : (placed : List (ℕ × Row)) →
      AreMarksOfPlaced was.sums.exponent placed was.tracker.fills was.tracker.marks →
      AreMarksOfPlaced was.sums.exponent (placed ++ behind_positions rows) now.tracker.fills now.tracker.marks
  pub positions : (limit : ℕ) (told : List ℕ) → AreFlagsOf limit told was.positions →
      AreFlagsOf limit (told ++ map (λ at. at.position) rows) now.positions
  pub fit : AllByRecursion FitsPage rows
  pub octets : AllByRecursion (λ at. IsOctets at.row.packet) rows
  pub fills : (now.tracker.fills ≡ was.tracker.fills) × (now.sets ≡ was.sets)
  pub exponent : now.sums.exponent ≡ was.sums.exponent
  pub tables : length now.sums.tables ≡ length was.sums.tables

-- whether all were in their places so far, with these
abbrev pub ArePlacedIf : Type 0 → SealedSoFar → SealedSoFar → Type 0
ArePlacedIf These was now = (now.are_placed ≡ true) ↔ ((was.are_placed ≡ true) × These)
