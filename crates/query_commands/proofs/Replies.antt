-- How a text of rows is printed to its end.
use Rattle.std.proofs.Common.{◌≡◌, ℕ, Bool, true, false, List, [], Option, Some, None}
use Rattle.std.specs.Prelude.{Ok, Err}
use Rattle.arch_disk.specs.Disk.{Device, NoFault}
use Rattle.refusals.specs.declared.refusal.Refusal.{Refusal}
use Rattle.refusals.specs.declared.refusal.Refusal.TheVariants.{WriteFault}
use Rattle.outer_traits.specs.States.{OutputState}
use Rattle.outer_traits.specs.declared.print_fault.PrintFault.{PrintFault}
use Rattle.outer_traits.specs.declared.print_fault.PrintFault.TheVariants.{Write, DiskFault, Damaged, OutOfMemory}
use Rattle.archive_store.specs.Pages.{TellsRows}
use Rattle.archive_store.specs.PrintFaults.{IsPrintFault}
use Rattle.archive_store.specs.Replays.{source_state}
use Rattle.archive_store.specs.StoreView.{StoreView}
use Rattle.archive_store.specs.UnreadRows.{IsReadOn}
use Rattle.archive_store.proofs.ReadOn.{told_is}
use Rattle.command_runs.specs.Finishing.{IsFinished}
use Rattle.command_runs.specs.Reading.{IsRowsText, WasRead}
use Rattle.line_buffer.proofs.PrintedTexts.{left_cut, left_written}
use Rattle.line_buffer.specs.Printed.{PrintsRows}
use Rattle.refusals.specs.Refusal.{refusal_of_print}
use Rattle.std.specs.Prelude.{IsNone}

module _ {D : Type 0} (device : Device D) (old new : StoreView D) (on : IsReadOn device old new) where
  -- all went on,
  pub finished_rows : (refusal : Option Refusal) (first mid now : OutputState) (text left : List ℕ) → PrintsRows {X = Unit {0}} (TellsRows device old) (Ok tt) first mid [] text left → IsFinished refusal mid now left
      → IsRowsText device old refusal first now text
  finished_rows None first mid now text left (printed, told, is) written = (printed, told, left_written first mid now printed left is written)
  finished_rows (Some WriteFault) first mid now text left (printed, told, is) cut = (printed, told, left_cut first mid now printed left is cut)
  finished_rows (Some other) first mid now text left is never = absurd never

  pub finished_read : (refusal : Option Refusal) (mid now : OutputState) (left : List ℕ) → NoFault device old.disk new.disk → IsFinished refusal mid now left → WasRead device old new refusal
  finished_read None mid now left calm done = record { same = on; failed = calm }
  finished_read (Some WriteFault) mid now left calm done = record { same = on; failed = calm }
  finished_read (Some other) mid now left calm never = absurd never

  -- or they didn't
  untold : IsNone (source_state device old).history → TellsRows device old → ⊥
  untold none told = let no : ◌≡◌ {A = Bool} true false = rw (told_is device old told) at none in cc (no)

  pub unfinished_rows : (fault : PrintFault) (first now : OutputState) (text left : List ℕ) → IsPrintFault device old new fault → PrintsRows {X = Unit {0}} (TellsRows device old) (Err fault) first now [] text left
      → IsRowsText device old (Some (refusal_of_print fault)) first now text
  unfinished_rows Write first now text left is (printed, told, put) = (printed, told, put)
  unfinished_rows DiskFault first now text left is (printed, told, put) = (printed, told, (is.0, put))
  unfinished_rows (Damaged file at) first now text left is (printed, told, put) = (printed, told, ((is.0, untold is.1), put))
  unfinished_rows OutOfMemory first now text left is (printed, told, put) = (printed, told, put)

  pub unfinished_read : (fault : PrintFault) → IsPrintFault device old new fault → WasRead device old new (Some (refusal_of_print fault))
  unfinished_read Write is = record { same = on; failed = is }
  unfinished_read DiskFault is = record { same = on; failed = is.1 }
  unfinished_read (Damaged file at) is = record { same = on; failed = is.2 }
  unfinished_read OutOfMemory is = record { same = on; failed = is }
