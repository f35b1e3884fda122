-- A run in memory, and how it and its file belong together.
use Rattle.std.specs.Prelude.{◌≡◌, ℕ, pos, List, [], ◌∷◌, length, Option, slice_get}
use Rattle.arch_disk.specs.Disk.{Device, IsDurable}
use Rattle.arch_types.specs.declared.key.Key.{Key}
use Rattle.run_pages.specs.Placed.{Placed}
use Rattle.run_pages.specs.Runs.{IsRunFile, entries_from, footer_of_pages}
use Rattle.run_pages.specs.Damage.{first_of_entry}
use Rattle.run_pages.specs.declared.index.PageEntry.{PageEntry}
use Rattle.run_files.specs.declared.run.Run.{Run}

-- the file of a run
abbrev pub run_file : Run → ℕ
run_file run = run.file

-- its table
abbrev pub run_table : Run → ℕ
run_table run = run.table

-- how many pages it has
abbrev pub page_count : Run → ℕ
page_count run = length run.index.entries.items

-- how many rows it has
abbrev pub sealed_row_count : Run → ℕ
sealed_row_count run = run.index.footer.rows

-- the key of a run's last row
abbrev pub run_last_key : Run → Key
run_last_key run = run.last

-- the entries of its pages
abbrev pub run_entries : Run → List PageEntry
run_entries run = run.index.entries.items

-- the first key of a page, if the run has it
abbrev pub first_key_of_page : Run → ℕ → Option Key
first_key_of_page run page = first_of_entry (slice_get (run_entries run) page)

-- the last of a key and the keys of rows
abbrev pub last_key_from : Key → List Placed → Key
last_key_from key [] = key
last_key_from key (at ∷ rows) = last_key_from at.row.key rows

-- the key of the last row, where there is one
abbrev pub last_row_key : List Placed → Key
last_row_key rows = last_key_from (record { time = pos 0; seq = 0 }) rows

-- the file is a run of these rows, and this is what is known of it in memory
pub record IsRunInMemory (content : List ℕ) (run : Run) (rows : List Placed) : Type 0 where
  pub is : IsRunFile content run.table rows
  pub entries : run.index.entries.items ≡ entries_from 0 is.pages
  pub footer : run.index.footer ≡ footer_of_pages is.pages (length rows)
  pub last : run.last ≡ last_row_key rows

-- the run has these rows on this disk, durably
pub record HoldsRun {D : Type 0} (device : Device D) (run : Run) (rows : List Placed) (disk : D) : Type 0 where
  pub reads : IsRunInMemory (device.reads disk run.file) run rows
  pub durable : IsDurable device run.file (device.reads disk run.file) disk

-- the run has its rows on this disk, whatever these are
abbrev pub IsRunOn : {D : Type 0} → Device D → Run → D → Type 0
IsRunOn device run disk = (rows : List Placed) × HoldsRun device run rows disk
