-- How a command reads rows behind the opening of an archive, which may stand on pages of the disk.
use Rattle.std.specs.Prelude.{◌≡◌, ℕ, Bool, true, false, List, Option, Some, None}
use Rattle.arch_disk.specs.Disk.{Device}
use Rattle.refusals.specs.declared.refusal.Refusal.{Refusal}
use Rattle.refusals.specs.declared.refusal.Refusal.TheVariants.{Damaged, DiskFault, OutOfMemory, WriteFault}
use Rattle.outer_traits.specs.States.{OutputState}
use Rattle.line_buffer.specs.Printed.{IsCutOff, IsPartPrinted, IsWritten}
use Rattle.archive_store.specs.Pages.{HasPages, TellsRows}
use Rattle.archive_store.specs.StoreView.{StoreView}
use Rattle.archive_store.specs.UnreadRows.{IsReadOn}
use Rattle.command_plans.specs.Ledger.{RoseIf}
use Rattle.command_plans.specs.Plan.{OfMemory, OfDisk, CommandPlan, Stop, May, Question}
use Rattle.command_runs.specs.Command.{Progress, printing_plan}

-- ---- what is planned

-- Where the rows of an archive stand that is opened or made: in memory, or maybe on pages, whose disk tells what it
-- holds where this is so.
pub data RowsPlace : Type 1 where
  InMemory : RowsPlace
  OnPages : Type 0 → RowsPlace

-- what is found of pages that are read: that they spell their rows, or, on a disk that doesn't tell what it holds, the
-- octet at which one doesn't
abbrev pub IsPageAnswer : Type 0 → Option Refusal → Type 0
IsPageAnswer Tells None = Unit {0}
IsPageAnswer Tells (Some (Damaged file at)) = Tells → ⊥
IsPageAnswer Tells (Some other) = ⊥

-- what that leads to
abbrev pub after_pages : Progress → CommandPlan Progress ⊥ → Option Refusal → CommandPlan Progress ⊥
after_pages s next None = next
after_pages s next (Some refusal) = Stop s (Some refusal)

-- reads rows with this done so far, and goes on; of pages: DiskFault, where a read fails; Damaged, where one breaks its
-- format
abbrev pub reading_plan : RowsPlace → Progress → CommandPlan Progress ⊥ → CommandPlan Progress ⊥
reading_plan InMemory s next = next
reading_plan (OnPages Tells) s next = May OfDisk s (Question (IsPageAnswer Tells) (after_pages s next))

-- prints a text while its rows are read, so that it may end behind some of it: for want of memory, or as rows aren't
-- read
abbrev pub printing_read_plan : RowsPlace → Progress → List ℕ → CommandPlan Progress ⊥
printing_read_plan rows s text =
    let printing = record s { text = text; is_whole = false } in
    May OfMemory printing (reading_plan rows printing (printing_plan s text))

-- the same of rows that may stand on pages: the text is this one where the disk tells what it holds
abbrev pub printing_rows_plan : Type 0 → Progress → List ℕ → CommandPlan Progress ⊥
printing_rows_plan Tells s text = Question (λ printed. Tells → printed ≡ text) (printing_read_plan (OnPages Tells) s)

-- ---- what came of it

-- whether a call was refused since a call of the disk failed
abbrev pub is_disk_fault : Option Refusal → Bool
is_disk_fault (Some DiskFault) = true
is_disk_fault other = false

-- A store was read for a call that ended so: but for its disk and faults of reads all is as it was, and a read failed
-- where the call was refused for it, and nowhere else.
pub record WasRead {D : Type 0} (device : Device D) (old new : StoreView D) (refusal : Option Refusal) : Type 0 where
  pub same : IsReadOn device old new
  pub failed : RoseIf (is_disk_fault refusal) (device.fault_count old.disk) (device.fault_count new.disk)

-- Why rows of a store aren't read: the read of a page fails, or a page breaks its format, which never comes where the
-- store tells its rows.
abbrev pub AreUnread : {D : Type 0} → Device D → StoreView D → Refusal → Type 0
AreUnread device store DiskFault = HasPages store
AreUnread device store (Damaged file at) = HasPages store × (TellsRows device store → ⊥)
AreUnread device store _ = ⊥

-- how far a text was printed while its rows were read, by how that ended: all of it, or a prefix
abbrev pub IsReadText : {D : Type 0} → Device D → StoreView D → Option Refusal → OutputState → OutputState → List ℕ
    → Type 0
IsReadText device store None before after text = IsWritten before after text
IsReadText device store (Some WriteFault) before after text = IsCutOff before after text
IsReadText device store (Some OutOfMemory) before after text = IsPartPrinted before after text
IsReadText device store (Some refusal) before after text =
    AreUnread device store refusal × IsPartPrinted before after text

-- the same of a text that is this one where the store tells its rows
abbrev pub IsRowsText : {D : Type 0} → Device D → StoreView D → Option Refusal → OutputState → OutputState → List ℕ
    → Type 0
IsRowsText device store refusal before after text =
    (printed : List ℕ) × (TellsRows device store → printed ≡ text)
    × IsReadText device store refusal before after printed
