-- A run that is read whole, page after page.
use Rattle.std.specs.Prelude.{◌≡◌, ℕ, ◌+◌, ◌<◌, ◌≤◌, List, [], ◌∷◌, ◌++◌, length, Option, Some, None, IsTrue}
use Rattle.std.specs.List.{flat_map}
use Rattle.arch_disk.specs.Disk.{Device, IsDiskFault, IsDurable, NoFault, NoWriteFailed}
use Rattle.run_pages.specs.Placed.{Placed}
use Rattle.run_pages.specs.Pages.{rows_of_page}
use Rattle.run_pages.specs.Runs.{IsRunFile}
use Rattle.run_pages.specs.Damage.{HasIndex, HasNoIndex, HasWholePages, IsBrokenPage, IsRunDamagedAt}
use Rattle.run_pages.specs.declared.page_rows.PageRows.{PageRows}
use Rattle.run_files.specs.Faults.{IsLookFault}
use Rattle.run_files.specs.Run.{IsRunInMemory, IsRunOn, last_row_key, run_file, sealed_row_count}
use Rattle.run_files.specs.declared.opening.RunOpening.{RunOpening}
use Rattle.run_files.specs.declared.run.Run.{Run}
use Rattle.run_files.specs.declared.fault.RunFault.{RunFault}
use Rattle.run_files.specs.declared.fault.RunFault.TheVariants.{Damaged, DiskFault, Limit, OutOfMemory}

-- as many rows as a history may have
abbrev pub most_run_rows : ℕ
most_run_rows = 4194304

-- the file that is read
abbrev pub file_opened : RunOpening → ℕ
file_opened opening = opening.file

-- how many of its pages were read
abbrev pub pages_read : RunOpening → ℕ
pages_read opening = opening.read

-- how many pages it has
abbrev pub index_pages : RunOpening → ℕ
index_pages opening = length opening.index.entries.items

-- how many rows it has
abbrev pub footer_rows : RunOpening → ℕ
footer_rows opening = opening.index.footer.rows

-- the table of the rows that were read
abbrev pub table_read : RunOpening → ℕ
table_read opening = opening.table

-- the rows of pages
abbrev pub rows_of_pages : List (List Placed) → List Placed
rows_of_pages pages = flat_map (λ page. page) pages

-- what an opening knows of the file's content: its index, and its first pages, all whole, with these rows
pub record IsReadingRun (opening : RunOpening) (content : List ℕ) (pages : List (List Placed)) : Type 0 where
  pub has : HasIndex content opening.index.entries.items opening.index.footer
  pub are : HasWholePages content opening.index.entries.items opening.index.footer.rows opening.table pages
  pub count : length pages ≡ opening.read
  pub last : opening.last ≡ last_row_key (rows_of_pages pages)

-- the opening has read the file on this disk up to a page
abbrev pub StandsInRun : {D : Type 0} → Device D → RunOpening → D → Type 0
StandsInRun device opening disk = IsTrue device.is_transparent → (pages : List (List Placed)) × IsReadingRun opening (device.reads disk (file_opened opening)) pages

-- the file has an index, no page was read yet, and what it reads as is durable
pub record IsRunBegun {D : Type 0} (device : Device D) (file : ℕ) (before after : D) (opening : RunOpening) : Type 0 where
  pub in_file : file_opened opening ≡ file
  pub none_read : pages_read opening ≡ 0
  pub reading : IsTrue device.is_transparent → IsReadingRun opening (device.reads before file) []
  pub durable : IsDurable device file (device.reads after file) after
  pub no_failed_write : NoWriteFailed device before after

-- the file has an index, and no page was read yet
pub record IsRunAtStart {D : Type 0} (device : Device D) (file : ℕ) (before : D) (opening : RunOpening) : Type 0 where
  pub in_file : file_opened opening ≡ file
  pub none_read : pages_read opening ≡ 0
  pub reading : IsTrue device.is_transparent → IsReadingRun opening (device.reads before file) []

-- why a run isn't begun without a sync: it has no index; or a look failed, or memory is wanting
abbrev pub IsRunStartRefusal : {D : Type 0} → Device D → ℕ → D → D → RunFault → Type 0
IsRunStartRefusal device file before after (Damaged f at) =
    (f ≡ file) × (at ≡ 0) × (IsTrue device.is_transparent → HasNoIndex (device.reads before file)) × NoFault device before after
IsRunStartRefusal device file before after fault = IsLookFault device before after fault

-- neither did a call fail nor a write
abbrev pub NoCallFailed : {D : Type 0} → Device D → D → D → Type 0
NoCallFailed device before after = NoFault device before after × NoWriteFailed device before after

-- why a run isn't begun: it has no index; or one call failed, or memory is wanting
abbrev pub IsRunBeginRefusal : {D : Type 0} → Device D → ℕ → D → D → RunFault → Type 0
IsRunBeginRefusal device file before after (Damaged f at) =
    (f ≡ file) × (at ≡ 0) × (IsTrue device.is_transparent → HasNoIndex (device.reads before file)) × NoCallFailed device before after
IsRunBeginRefusal device file before after (DiskFault wrote) = IsDiskFault device before after wrote
IsRunBeginRefusal device file before after OutOfMemory = NoCallFailed device before after
IsRunBeginRefusal device file before after Limit = ⊥

-- the next page, whole; or none, where all were read
abbrev pub IsNextPage : {D : Type 0} → Device D → RunOpening → RunOpening → D → Option PageRows → Type 0
IsNextPage device old new before None = (index_pages old ≤ pages_read old) × (new ≡ old)
IsNextPage device old new before (Some page) = (pages_read old < index_pages old) × (pages_read new ≡ pages_read old + 1) × (index_pages new ≡ index_pages old)
    × (IsTrue device.is_transparent → (pages : List (List Placed)) → IsReadingRun old (device.reads before (file_opened old)) pages →
    IsReadingRun new (device.reads before (file_opened old)) (pages ++ rows_of_page page ∷ []))

-- why the next page isn't given: it is broken, the first that is; or a look failed, or memory is wanting
abbrev pub IsPageReadRefusal : {D : Type 0} → Device D → RunOpening → D → D → RunFault → Type 0
IsPageReadRefusal device old before after (Damaged file at) =
    (file ≡ file_opened old) × (IsTrue device.is_transparent → IsBrokenPage (device.reads before (file_opened old)) at) × NoFault device before after
IsPageReadRefusal device old before after fault = IsLookFault device before after fault

-- the run of all pages that were read
pub record IsRunFinished (opening : RunOpening) (run : Run) : Type 0 where
  pub in_file : run_file run ≡ file_opened opening
  pub rows : sealed_row_count run ≡ footer_rows opening
  pub is_run : (content : List ℕ) (pages : List (List Placed)) → IsReadingRun opening content pages → IsRunInMemory content run (rows_of_pages pages)

-- ---- all at once

-- the file is a run, durably, and this is it
pub record IsRunOpened {D : Type 0} (device : Device D) (file : ℕ) (before after : D) (run : Run) : Type 0 where
  pub in_file : run_file run ≡ file
  pub within : sealed_row_count run ≤ most_run_rows
  pub held : IsTrue device.is_transparent → IsRunOn device run after
  pub no_failed_write : NoWriteFailed device before after

-- why a file isn't opened as a run: it is damaged there; or it is a run of more rows than a history may have; or one call failed, or memory is wanting
abbrev pub IsOpenRefusal : {D : Type 0} → Device D → ℕ → D → D → RunFault → Type 0
IsOpenRefusal device file before after (Damaged f at) =
    (f ≡ file) × (IsTrue device.is_transparent → IsRunDamagedAt (device.reads before file) at) × NoCallFailed device before after
IsOpenRefusal device file before after Limit =
    (IsTrue device.is_transparent → (table : ℕ) × (rows : List Placed) × IsRunFile (device.reads before file) table rows × (most_run_rows < length rows)) × NoCallFailed device before after
IsOpenRefusal device file before after (DiskFault wrote) = IsDiskFault device before after wrote
IsOpenRefusal device file before after OutOfMemory = NoCallFailed device before after
