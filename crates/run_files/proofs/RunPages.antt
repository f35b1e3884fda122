-- The pages of a run in memory.
use Rattle.std.proofs.Common.{◌≡◌, ℕ, suc, ◌<◌, true, List, length, take, drop, get_or, Some, None, refl, sym, ap, ◌∙◌, subst}
use Rattle.std.specs.Prelude.{slice_get}
use Rattle.std.proofs.lemmas.Option.{slice_get_read}
use Rattle.arch_disk.specs.Image.{Image}
use Rattle.arch_disk.specs.Disk.{Device, OnlyReads}
use Rattle.arch_types.specs.declared.row.Row.{Row}
use Rattle.run_pages.specs.Placed.{Placed, rows_of_placed}
use Rattle.run_pages.specs.Order.{are_ordered}
use Rattle.run_pages.specs.Pages.{IsPage, page_octets, rows_of_page}
use Rattle.run_pages.specs.Runs.{page_of_rows}
use Rattle.run_pages.specs.Damage.{first_of_entry}
use Rattle.run_pages.specs.declared.index.PageEntry.{PageEntry}
use Rattle.run_pages.specs.declared.page_rows.PageRows.{PageRows}
use Rattle.run_pages.proofs.Beside.{rows_back}
use Rattle.run_pages.proofs.Ends.{once}
use Rattle.run_pages.proofs.FoundPages.{FoundPage, found_page}
use Rattle.run_pages.proofs.PageSpelling.{page_exact}
use Rattle.run_files.specs.Run.{IsRunInMemory, IsRunOn}
use Rattle.run_files.specs.declared.run.Run.{Run}

pub there_is : (entries : List PageEntry) (page : ℕ) (entry : PageEntry) → page < length entries → entry ≡ get_or entries page entry → slice_get entries page ≡ Some entry
there_is entries page entry lt is = slice_get_read entries (length entries) page entry refl lt is

module _ (content : List ℕ) (run : Run) (rows : List Placed) (k : IsRunInMemory content run rows) (page : ℕ) (entry : PageEntry) (there : slice_get run.index.entries.items page ≡ Some entry) where
  pub found : FoundPage run.table content run.index.entries.items rows page entry
  found = subst (λ (l : List PageEntry). FoundPage run.table content l rows page entry) (sym k.entries) (found_page content run.table rows k.is page entry (sym (ap (λ (l : List PageEntry). slice_get l page) k.entries) ∙ there))

  -- what is read there is the page
  pub same_rows : (held : List Placed) → IsPage held → take entry.len (drop entry.at content) ≡ page_octets held → held ≡ page_of_rows page rows
  same_rows held fits spelled = once page_exact held (page_of_rows page rows) fits found.is.page (sym spelled ∙ found.is.spelled)

  -- so that the octets spell one
  pub spelled : ((held : List Placed) → IsPage held → take entry.len (drop entry.at content) ≡ page_octets held → ⊥) → ⊥
  spelled none = none (page_of_rows page rows) found.is.page found.is.spelled

  -- and its rows are ordered
  pub in_order : (held : PageRows) → IsPage (rows_of_page held) → take entry.len (drop entry.at content) ≡ page_octets (rows_of_page held) → are_ordered run.table entry.first (first_of_entry (slice_get run.index.entries.items (suc page))) None held.rows ≡ true
  in_order held fits are =
      let back : rows_of_placed (page_of_rows page rows) ≡ held.rows = ap rows_of_placed (sym (same_rows (rows_of_page held) fits are)) ∙ rows_back held.positions held.rows held.beside in
      subst (λ (l : List Row). are_ordered run.table entry.first (first_of_entry (slice_get run.index.entries.items (suc page))) None l ≡ true) back found.is.ordered

-- ---- the run on a disk

-- a disk that was only looked at has it as before
pub held_on : {D : Type 0} (device : Device D) (run : Run) (old new : D) → OnlyReads device old new → IsRunOn device run old → IsRunOn device run new
held_on device run old new looked held = (
  held.0,
  record {
    reads = subst (λ (r : Image). IsRunInMemory (r run.file) run held.0) (sym looked.reads_same) held.1.reads;
    durable = λ c now. held.1.durable c (looked.images c now) ∙ sym (ap (λ (r : Image). r run.file) looked.reads_same);
  },
)
