-- What the calls on runs answer.
use Rattle.std.specs.Prelude.{◌≡◌, ℕ, suc, IsTrue, Some, None, true, slice_get}
use Rattle.std.specs.List.{AllByRecursion}
use Rattle.arch_disk.specs.Disk.{Device, NoFault}
use Rattle.run_pages.specs.Order.{are_ordered}
use Rattle.run_pages.specs.Pages.{FitsPage, rows_of_page}
use Rattle.run_pages.specs.declared.index.PageEntry.{PageEntry}
use Rattle.run_pages.specs.declared.page_rows.PageRows.{PageRows}
use Rattle.run_files.specs.Faults.{IsLookFault}
use Rattle.run_files.specs.Run.{first_key_of_page, run_entries, run_file, run_table}
use Rattle.run_files.specs.declared.run.Run.{Run}
use Rattle.run_files.specs.declared.fault.RunFault.{RunFault}
use Rattle.run_files.specs.declared.fault.RunFault.TheVariants.{Damaged}

-- rows that may be stored, of the run's table, whose keys rise from the page's first to below the next page's
pub record IsRisingPage (run : Run) (page : ℕ) (held : PageRows) : Type 0 where
  pub entry : PageEntry
  pub there : slice_get (run_entries run) page ≡ Some entry
  pub ordered : are_ordered (run_table run) entry.first (first_key_of_page run (suc page)) None held.rows ≡ true
  pub stored : AllByRecursion FitsPage (rows_of_page held)

-- why a page isn't given: on a disk that tells what it holds never for damage
abbrev pub IsPageRefusal : {D : Type 0} → Device D → Run → D → D → RunFault → Type 0
IsPageRefusal device run before after (Damaged file at) = (IsTrue device.is_transparent → ⊥) × (file ≡ run_file run) × NoFault device before after
IsPageRefusal device run before after fault = IsLookFault device before after fault
