-- Why a text isn't printed whose rows aren't read, and what reading them leaves.
use Rattle.std.specs.Prelude.{MatchResult, Result}
use Rattle.arch_disk.specs.Disk.{Device, NoFault}
use Rattle.arch_types.specs.declared.row_fault.RowFault.{RowFault}
use Rattle.arch_types.specs.declared.row_fault.RowFault.TheVariants.{DiskFault, Damaged, OutOfMemory}
use Rattle.outer_traits.specs.declared.print_fault.PrintFault.{PrintFault}
use Rattle.outer_traits.specs.declared.print_fault.PrintFault.TheVariants as unprinted
use Rattle.refusals.specs.Refusal.{refusal_of_print}
use Rattle.archive_store.specs.StoreView.{StoreView}
use Rattle.archive_store.specs.UnreadRows.{IsLeftByRefusal, IsReadRefusal, IsSourceFault, ReadsRows}

-- the fault of printing for that of reading
abbrev pub print_fault_of : RowFault → PrintFault
print_fault_of DiskFault = unprinted.DiskFault
print_fault_of (Damaged file at) = unprinted.Damaged file at
print_fault_of OutOfMemory = unprinted.OutOfMemory

-- rows to print aren't read, by the refusal that their fault is answered by
abbrev pub IsUnprinted : {D : Type 0} → Device D → StoreView D → StoreView D → PrintFault → Type 0
IsUnprinted device old new fault = IsReadRefusal device old new (refusal_of_print fault)

-- why a text of a store's rows isn't printed to its end: a write failed, or rows aren't read, of any number of reads; no
-- call of the disk failed but where a read did
abbrev pub IsPrintFault : {D : Type 0} → Device D → StoreView D → StoreView D → PrintFault → Type 0
IsPrintFault device old new unprinted.Write = NoFault device old.disk new.disk
IsPrintFault device old new unprinted.DiskFault = IsSourceFault device old new DiskFault
IsPrintFault device old new (unprinted.Damaged file at) = IsSourceFault device old new (Damaged file at)
IsPrintFault device old new unprinted.OutOfMemory = NoFault device old.disk new.disk

-- what is left where they were read, or weren't
abbrev pub IsLeftByPrint : {D X : Type 0} → Device D → StoreView D → StoreView D → Result X PrintFault → Type 0
IsLeftByPrint device old new result =
    MatchResult result (λ _. ReadsRows device old new) (λ fault. IsLeftByRefusal device old new (refusal_of_print fault))
