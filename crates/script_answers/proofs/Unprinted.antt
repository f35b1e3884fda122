-- Texts of which nothing was printed, and those whose rows are read.
use Rattle.std.proofs.Common.{◌≡◌, ℕ, List, [], ◌++◌, refl, sym, subst, append-nil}
use Rattle.std.specs.Prelude.{Result, Ok, Err, IfErr, OnOk}
use Rattle.arch_disk.specs.Disk.{Device, NoFault}
use Rattle.arch_types.specs.declared.row_fault.RowFault.{RowFault}
use Rattle.arch_types.specs.declared.row_fault.RowFault.TheVariants as unread
use Rattle.outer_traits.specs.States.{OutputState}
use Rattle.outer_traits.specs.declared.print_fault.PrintFault.{PrintFault}
use Rattle.outer_traits.specs.declared.print_fault.PrintFault.TheVariants.{Write, DiskFault, Damaged, OutOfMemory}
use Rattle.archive_store.specs.PrintFaults.{IsPrintFault, print_fault_of}
use Rattle.archive_store.specs.StoreView.{StoreView}
use Rattle.archive_store.specs.UnreadRows.{IsSourceFault}
use Rattle.line_buffer.proofs.LineBuffers.{buffered_front, buffered_none}
use Rattle.line_buffer.specs.Printed.{IsPartPrinted, IsPrinted, PrintsRead, PrintsRows, PrintsText}
use Rattle.line_buffer.proofs.PrintedTexts.{nothing_printed}
use Rattle.line_buffer.specs.LineRoom.{HasLineRoom}

-- nothing of a text was printed, for want of memory
pub unprinted : (first : OutputState) (text : List ℕ) → IsPartPrinted first first text
unprinted first text = record { some = buffered_front first.written first.written text text (buffered_none first.written text); no_fault = refl }

-- there is nothing to print
pub none_printed : (first : OutputState) (held : List ℕ) → HasLineRoom held → IsPrinted first first (held ++ []) held
none_printed first held room = rw (append-nil held) (nothing_printed first held room)

-- nor of a text whose rows aren't read
pub unread_text : (X AreTold : Type 0) (fault : RowFault) (e : PrintFault) → e ≡ print_fault_of fault → (first : OutputState) (buffered text left : List ℕ) → PrintsRows {X = X} AreTold (Err e) first first buffered text left
unread_text X AreTold fault e is first buffered text left = (text, λ told. refl, subst (λ (f : PrintFault). PrintsRead {X = X} (Err f) first first (buffered ++ text) left) (sym is) (by fault))
  where
    by : (fault : RowFault) → PrintsRead {X = X} (Err (print_fault_of fault)) first first (buffered ++ text) left
    by unread.DiskFault = unprinted first (buffered ++ text)
    by (unread.Damaged file at) = unprinted first (buffered ++ text)
    by unread.OutOfMemory = unprinted first (buffered ++ text)

module _ {D : Type 0} (device : Device D) (old new : StoreView D) where
  pub unread_fault : (fault : RowFault) (e : PrintFault) → e ≡ print_fault_of fault → IsSourceFault device old new fault → IsPrintFault device old new e
  unread_fault fault e is why = subst (IsPrintFault device old new) (sym is) (by fault why)
    where
      by : (fault : RowFault) → IsSourceFault device old new fault → IsPrintFault device old new (print_fault_of fault)
      by unread.DiskFault why = why
      by (unread.Damaged file at) why = why
      by unread.OutOfMemory why = why

  module _ (calm : NoFault device old.disk new.disk) where
    -- what stands in memory is printed unless a write failed or memory is wanting
    pub in_memory : {X : Type 0} (r : Result X PrintFault) (first last : OutputState) (text left : List ℕ) → PrintsText r first last text left → IfErr r (IsPrintFault device old new)
    in_memory (Ok x) first last text left printed = tt
    in_memory (Err Write) first last text left printed = calm
    in_memory (Err DiskFault) first last text left printed = absurd printed
    in_memory (Err (Damaged file at)) first last text left printed = absurd printed
    in_memory (Err OutOfMemory) first last text left printed = calm

    -- and whatever is answered no call of the disk failed
    pub still_calm : {X : Type 0} (r : Result X PrintFault) → OnOk r (NoFault device old.disk new.disk)
    still_calm (Ok x) = calm
    still_calm (Err fault) = tt
