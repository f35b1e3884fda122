-- Rows that aren't read where they are printed, and what reading them leaves.
use Rattle.std.proofs.Common.{◌≡◌, ◌∙◌, List, Result, Err, refl, sym, ap, subst}
use Rattle.std.specs.Prelude.{ℕ}
use Rattle.arch_disk.specs.Disk.{Device, NoFault}
use Rattle.arch_types.specs.declared.row_fault.RowFault.{RowFault}
use Rattle.arch_types.specs.declared.row_fault.RowFault.TheVariants as unread
use Rattle.outer_traits.specs.States.{OutputState}
use Rattle.outer_traits.specs.declared.print_fault.PrintFault.{PrintFault}
use Rattle.outer_traits.specs.declared.print_fault.PrintFault.TheVariants.{Write, DiskFault, Damaged, OutOfMemory}
use Rattle.refusals.specs.Refusal.{refusal_of_print, refusal_of_rows}
use Rattle.line_buffer.specs.Printed.{IsPartPrinted, PrintsRead}
use Rattle.archive_store.specs.PrintFaults.{IsPrintFault, IsUnprinted, print_fault_of}
use Rattle.archive_store.specs.StoreView.{StoreView}
use Rattle.archive_store.specs.UnreadRows.{IsLeftByRefusal, IsReadFault, IsReadOn}
use Rattle.archive_store.proofs.ReadOn.{left_on, reads_calm, source_fault_after}

-- the fault of printing is answered by the refusal of the one of reading
refused_alike : (fault : RowFault) → refusal_of_print (print_fault_of fault) ≡ refusal_of_rows fault
refused_alike unread.DiskFault = refl
refused_alike (unread.Damaged file at) = refl
refused_alike unread.OutOfMemory = refl

pub as_refused : (fault : RowFault) (printing : PrintFault) → printing ≡ print_fault_of fault → refusal_of_print printing ≡ refusal_of_rows fault
as_refused fault printing of = ap refusal_of_print of ∙ refused_alike fault

-- and is the one of that
pub print_is : (printing : PrintFault) (fault : RowFault) → refusal_of_print printing ≡ refusal_of_rows fault → printing ≡ print_fault_of fault
print_is Write unread.DiskFault of = absurd cc
print_is Write (unread.Damaged file at) of = absurd cc
print_is Write unread.OutOfMemory of = absurd cc
print_is DiskFault unread.DiskFault of = refl
print_is DiskFault (unread.Damaged file at) of = absurd cc
print_is DiskFault unread.OutOfMemory of = absurd cc
print_is (Damaged f a) unread.DiskFault of = absurd cc
print_is (Damaged f a) (unread.Damaged file at) of = cc
print_is (Damaged f a) unread.OutOfMemory of = absurd cc
print_is OutOfMemory unread.DiskFault of = absurd cc
print_is OutOfMemory (unread.Damaged file at) of = absurd cc
print_is OutOfMemory unread.OutOfMemory of = refl

-- a prefix of a text went on that isn't printed since its rows aren't read
pub unread_part : {X : Type 0} (r : Result X PrintFault) (fault : RowFault) (before after : OutputState) (text left : List ℕ) → r ≡ Err (print_fault_of fault) → IsPartPrinted before after text → PrintsRead r before after text left
unread_part r unread.DiskFault before after text left is part = rw is part
unread_part r (unread.Damaged file at) before after text left is part = rw is part
unread_part r unread.OutOfMemory before after text left is part = rw is part

module _ {D : Type 0} (device : Device D) where
  -- ---- one read

  -- a fault of reading, as one of printing
  pub unread_print : (a b : StoreView D) (fault : RowFault) → IsReadFault device a b fault → IsLeftByRefusal device a b (refusal_of_rows fault) → IsPrintFault device a b (print_fault_of fault)
  unread_print a b unread.DiskFault is left = (is.0, is.1.rose)
  unread_print a b (unread.Damaged file at) is left = (is.0, is.1, reads_calm device a b left)
  unread_print a b unread.OutOfMemory is left = reads_calm device a b left

  -- and what it leaves
  pub unread_on : (a b : StoreView D) (fault : RowFault) → IsReadFault device a b fault → IsLeftByRefusal device a b (refusal_of_rows fault) → IsReadOn device a b
  unread_on a b fault is left = left_on device a b (refusal_of_rows fault) (fault, is, refl) left

  -- the same of a fault that was met where rows were to be printed
  pub unprinted_print : (a b : StoreView D) (printing : PrintFault) → IsUnprinted device a b printing → IsLeftByRefusal device a b (refusal_of_print printing) → IsPrintFault device a b printing
  unprinted_print a b printing (fault, is, of) left =
      subst (IsPrintFault device a b) (sym (print_is printing fault of)) (unread_print a b fault is (subst (IsLeftByRefusal device a b) of left))

  -- ---- reads behind each other

  -- a fault of printing behind reads that met none is one of all of them
  pub print_fault_then : (a b c : StoreView D) (fault : PrintFault) → IsReadOn device a b → NoFault device a.disk b.disk → IsPrintFault device b c fault → IsPrintFault device a c fault
  print_fault_then a b c Write on calm is = is ∙ calm
  print_fault_then a b c DiskFault on calm is = source_fault_after device a b c on calm unread.DiskFault is
  print_fault_then a b c (Damaged file at) on calm is = source_fault_after device a b c on calm (unread.Damaged file at) is
  print_fault_then a b c OutOfMemory on calm is = is ∙ calm
