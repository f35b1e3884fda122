-- What is written of a run.
use Rattle.std.specs.Prelude.{◌≡◌, ℕ, ◌*◌, ◌≤◌, List, length, IsTrue}
use Rattle.std.specs.List.{AllByRecursion}
use Rattle.arch_disk.specs.Disk.{Device, NoWriteFailed}
use Rattle.run_pages.specs.Placed.{Placed}
use Rattle.run_pages.specs.Pages.{page_octets}
use Rattle.run_pages.specs.Index.{IsPageEntry}
use Rattle.run_pages.specs.Runs.{ArePages, entries_from, first_row_key, pages_octets}
use Rattle.run_pages.specs.declared.index.PageEntry.{PageEntry}
use Rattle.run_files.specs.Run.{HoldsRun, run_file}
use Rattle.run_files.specs.declared.run.Run.{Run}

-- the entry of a page that begins at an octet
abbrev pub entry_of_page : ℕ → List Placed → PageEntry
entry_of_page at page = record { first = first_row_key page; at = at; len = length (page_octets page) }

-- the file has the pages of these rows and nothing else; of them these entries were noted, and the octet behind the last
pub record ArePagesWritten {D : Type 0} (device : Device D) (file : ℕ) (disk : D) (rows : List Placed) (entries : List PageEntry) (end : ℕ) : Type 0 where
  pub pages : List (List Placed)
  pub pages_are : ArePages pages rows
  pub entries_are : entries ≡ entries_from 0 pages
  pub fit : AllByRecursion IsPageEntry entries
  pub end_is : end ≡ length (pages_octets pages)
  pub short : end ≤ 4195970 * length rows
  pub written : IsTrue device.is_transparent → device.reads disk file ≡ pages_octets pages

-- the file is a run of just these rows, durably
pub record IsRunWritten {D : Type 0} (device : Device D) (file : ℕ) (before after : D) (rows : List Placed) (run : Run) : Type 0 where
  pub in_file : run_file run ≡ file
  pub held : IsTrue device.is_transparent → HoldsRun device run rows after
  pub no_failed_write : NoWriteFailed device before after
