-- What a run is, as octets.
use Rattle.std.specs.Prelude.{◌≡◌, ◌≢◌, ℕ, ◌+◌, ◌*◌, pos, List, [], ◌∷◌, ◌++◌, length, take, drop, true, None}
use Rattle.std.specs.List.{AllByRecursion, flat_map}
use Rattle.arch_types.specs.declared.key.Key.{Key}
use Rattle.run_pages.specs.Placed.{Placed, rows_of_placed}
use Rattle.run_pages.specs.Order.{are_ordered}
use Rattle.run_pages.specs.Pages.{FitsPage, page_octets}
use Rattle.run_pages.specs.Index.{IsPageEntry, index_octets}
use Rattle.run_pages.specs.Footer.{IsFooter, footer_octets}
use Rattle.run_pages.specs.declared.index.PageEntry.{PageEntry}
use Rattle.run_pages.specs.declared.footer.Footer.{Footer}

-- the key of the first row, where there is one
abbrev pub first_row_key : List Placed → Key
first_row_key [] = record { time = pos 0; seq = 0 }
first_row_key (at ∷ rows) = at.row.key

-- at least one row, all of one table, with rising keys
pub record AreRunRows (table : ℕ) (rows : List Placed) : Type 0 where
  pub each : AllByRecursion FitsPage rows
  pub ordered : are_ordered table (first_row_key rows) None None (rows_of_placed rows) ≡ true

-- the rows page by page: 64 each, but the last page 1 to 64
abbrev pub ArePages : List (List Placed) → List Placed → Type 0
ArePages [] rows = rows ≡ []
ArePages (page ∷ pages) rows = (page ≡ take 64 rows) × (rows ≢ []) × ArePages pages (drop 64 rows)

-- the rows of a page
abbrev pub page_of_rows : ℕ → List Placed → List Placed
page_of_rows page rows = take 64 (drop (64 * page) rows)

-- page behind page
abbrev pub pages_octets : List (List Placed) → List ℕ
pages_octets pages = flat_map page_octets pages

-- the entries of pages that begin at an octet
abbrev pub entries_from : ℕ → List (List Placed) → List PageEntry
entries_from at [] = []
entries_from at (page ∷ pages) = record { first = first_row_key page; at = at; len = length (page_octets page) } ∷ entries_from (at + length (page_octets page)) pages

-- the footer of pages with so many rows
abbrev pub footer_of_pages : List (List Placed) → ℕ → Footer
footer_of_pages pages rows = record { at = length (pages_octets pages); pages = length pages; rows = rows }

-- pages, index, footer
abbrev pub run_octets : List (List Placed) → ℕ → List ℕ
run_octets pages rows = pages_octets pages ++ (index_octets (entries_from 0 pages) ++ footer_octets (footer_of_pages pages rows))

-- the file is a run of these rows of the table, whose places and counts fit their fields
pub record IsRunFile (content : List ℕ) (table : ℕ) (rows : List Placed) : Type 0 where
  pub pages : List (List Placed)
  pub run_rows : AreRunRows table rows
  pub pages_are : ArePages pages rows
  pub content_is : content ≡ run_octets pages (length rows)
  pub entries_fit : AllByRecursion IsPageEntry (entries_from 0 pages)
  pub footer_fits : IsFooter (footer_of_pages pages (length rows))
