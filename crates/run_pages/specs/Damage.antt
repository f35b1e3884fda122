-- Where a file that is no run is damaged.
use Rattle.std.specs.Prelude.{◌≡◌, ◌⊎◌, ℕ, suc, ◌+◌, ◌-◌, ◌*◌, min, ◌≤◌, List, ◌++◌, length, take, drop, true, Option, Some, None, slice_get}
use Rattle.arch_types.specs.declared.key.Key.{Key}
use Rattle.run_pages.specs.Placed.{Placed, rows_of_placed}
use Rattle.run_pages.specs.Order.{are_ordered}
use Rattle.run_pages.specs.Pages.{IsPage, page_octets}
use Rattle.run_pages.specs.Index.{AreEntries, index_octets, is_index}
use Rattle.run_pages.specs.Footer.{IsFooter, footer_octets}
use Rattle.run_pages.specs.declared.index.PageEntry.{PageEntry}
use Rattle.run_pages.specs.declared.footer.Footer.{Footer}

-- the file ends with an index of these pages and this footer, and the two are about what stands before them
pub record HasIndex (content : List ℕ) (entries : List PageEntry) (footer : Footer) : Type 0 where
  pub before : List ℕ
  pub fits : AreEntries footer.pages entries
  pub footer_fits : IsFooter footer
  pub content_is : content ≡ before ++ (index_octets entries ++ footer_octets footer)
  pub at_is : footer.at ≡ length before
  pub index : is_index entries footer ≡ true

-- how many of the rows a page has
abbrev pub count_at : ℕ → ℕ → ℕ
count_at rows page = min 64 (rows - 64 * page)

-- the first key of an entry, if there is one
abbrev pub first_of_entry : Option PageEntry → Option Key
first_of_entry None = None
first_of_entry (Some entry) = Some entry.first

-- the octets that the index names for a page spell so many rows of the table, rising from its first key to below the next page's
pub record IsPageOf (content : List ℕ) (table count : ℕ) (entry : PageEntry) (next : Option PageEntry) (rows : List Placed) : Type 0 where
  pub page : IsPage rows
  pub spelled : take entry.len (drop entry.at content) ≡ page_octets rows
  pub count_is : length rows ≡ count
  pub ordered : are_ordered table entry.first (first_of_entry next) None (rows_of_placed rows) ≡ true

-- the first pages that the index names are whole: they have these rows, all of one table
pub record HasWholePages (content : List ℕ) (entries : List PageEntry) (rows table : ℕ) (pages : List (List Placed)) : Type 0 where
  pub within : length pages ≤ length entries
  pub each : (i : ℕ) (page : List Placed) (entry : PageEntry) → slice_get pages i ≡ Some page → slice_get entries i ≡ Some entry →
      IsPageOf content table (count_at rows i) entry (slice_get entries (suc i)) page

-- the file has an index; the pages before one are whole, and with it they aren't: it is broken at its first octet
pub record IsBrokenPage (content : List ℕ) (at : ℕ) : Type 0 where
  pub entries : List PageEntry
  pub footer : Footer
  pub has : HasIndex content entries footer
  pub table : ℕ
  pub pages : List (List Placed)
  pub before : HasWholePages content entries footer.rows table pages
  pub entry : PageEntry
  pub there : slice_get entries (length pages) ≡ Some entry
  pub broken : (other : ℕ) (more : List (List Placed)) → length more ≡ length pages + 1 → HasWholePages content entries footer.rows other more → ⊥
  pub at_is : at ≡ entry.at

-- no octets in the place of an index and a footer are ones
abbrev pub HasNoIndex : List ℕ → Type 0
HasNoIndex content = (entries : List PageEntry) (footer : Footer) → HasIndex content entries footer → ⊥

-- where a run file is damaged: at octet 0 where it has no index and footer, else at its first broken page
abbrev pub IsRunDamagedAt : List ℕ → ℕ → Type 0
IsRunDamagedAt content at = (HasNoIndex content × (at ≡ 0)) ⊎ IsBrokenPage content at
