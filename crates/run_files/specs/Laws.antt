-- What holds of the pages of a run.
use Rattle.std.specs.Prelude.{◌≡◌, ℕ, List, Option, Some}
use Rattle.std.specs.List.{Contains}
use Rattle.run_pages.specs.Placed.{Placed}
use Rattle.run_pages.specs.Runs.{page_of_rows}
use Rattle.run_files.specs.Lookup.{IsPageFor}
use Rattle.run_files.specs.Run.{IsRunInMemory, run_entries}
use Rattle.run_files.specs.declared.run.Run.{Run}

-- a row stands on this page of the rows, and on no other
pub record StandsOnlyOn (rows : List Placed) (at : Placed) (page : ℕ) : Type 0 where
  pub there : Contains (page_of_rows page rows) at
  pub nowhere_else : (other : ℕ) → Contains (page_of_rows other rows) at → other ≡ page

-- each row of a run stands on the page that may have its key, and on no other
abbrev pub RowsStandOnTheirPage : Type 0
RowsStandOnTheirPage = (content : List ℕ) (run : Run) (rows : List Placed) (at : Placed) (found : Option ℕ) → IsRunInMemory content run rows → Contains rows at →
    IsPageFor (run_entries run) at.row.key found → (page : ℕ) × (found ≡ Some page) × StandsOnlyOn rows at page
