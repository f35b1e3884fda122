-- What a run holds is what is read in its file.
use Rattle.std.proofs.Common.{◌≡◌, ℕ, suc, ◌*◌, ◌≤◌, List, [], ◌∷◌, ◌++◌, length, take, drop, Some, refl, sym, ap, ◌∙◌, subst, arith}
use Rattle.std.specs.Prelude.{slice_get}
use Rattle.std.specs.List.{flat_map}
use Rattle.std.proofs.lemmas.List.{length-drop, nil_from_length, take-append-drop}
use Rattle.arch_disk.specs.Image.{Image}
use Rattle.arch_disk.specs.Disk.{Device, OnlyReads}
use Rattle.octet_fields.specs.Reading.{whole}
use Rattle.octet_fields.proofs.Exact.{whole_again}
use Rattle.run_pages.specs.Placed.{Placed}
use Rattle.run_pages.specs.Pages.{page_at}
use Rattle.run_pages.specs.Runs.{page_of_rows}
use Rattle.run_pages.specs.declared.index.PageEntry.{PageEntry}
use Rattle.run_pages.proofs.FoundPages.{length-entries, shift}
use Rattle.run_pages.proofs.PageSpelling.{page_exact}
use Rattle.run_pages.proofs.RunIndex.{page_number}
use Rattle.run_files.specs.Run.{HoldsRun, IsRunInMemory, run_file}
use Rattle.run_files.specs.declared.run.Run.{Run}
use Rattle.run_files.proofs.RunPages.{found}
use Rattle.sealed_rows.specs.Rows.{page_in, rows_if, rows_in}

-- page behind page, they are all rows
by_pages : (read : PageEntry → List Placed) (entries : List PageEntry) (rows : List Placed) → length rows ≤ 64 * length entries →
    ((page : ℕ) (entry : PageEntry) → slice_get entries page ≡ Some entry → read entry ≡ page_of_rows page rows) → flat_map read entries ≡ rows
by_pages read [] rows few each = sym (nil_from_length rows (omega (arith, few)))
by_pages read (entry ∷ entries) rows few each =
    let first : read entry ≡ take 64 rows = each 0 entry refl in
    let rest : flat_map read entries ≡ drop 64 rows = by_pages read entries (drop 64 rows) (omega (arith, few, length-drop 64 rows)) (λ page e there. each (suc page) e there ∙ sym (shift page rows)) in
    ap (λ (l : List Placed). l ++ flat_map read entries) first ∙ ap (λ (l : List Placed). take 64 rows ++ l) rest ∙ take-append-drop 64 rows

pub rows_in_run : (content : List ℕ) (run : Run) (rows : List Placed) → IsRunInMemory content run rows → rows_in content run ≡ rows
rows_in_run content run rows k =
    let entries = run.index.entries.items in
    let long : length entries ≡ length k.is.pages = ap length k.entries ∙ length-entries 0 k.is.pages in
    by_pages (page_in content) entries rows (omega (arith, long, (page_number k.is.pages rows k.is.pages_are).0)) (λ page entry there.
    (let is = (found content run rows k page entry there).is in
    ap (λ (octets : List ℕ). rows_if (whole page_at octets)) is.spelled ∙ ap rows_if (whole_again page_exact (page_of_rows page rows) tt is.page)))

-- a disk that was only looked at has them as before
pub holds_on : {D : Type 0} (device : Device D) (run : Run) (rows : List Placed) (old new : D) → OnlyReads device old new → HoldsRun device run rows old → HoldsRun device run rows new
holds_on device run rows old new looked held = record {
  reads = subst (λ (r : Image). IsRunInMemory (r run.file) run rows) (sym looked.reads_same) held.reads;
  durable = λ c now. held.durable c (looked.images c now) ∙ sym (ap (λ (r : Image). r run.file) looked.reads_same);
}

module _ {D : Type 0} (device : Device D) (run : Run) (rows : List Placed) (disk : D) where
  pub rows_in_held : HoldsRun device run rows disk → rows_in (device.reads disk (run_file run)) run ≡ rows
  rows_in_held held = rows_in_run (device.reads disk (run_file run)) run rows held.reads
