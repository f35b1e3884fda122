-- The exit status of the program for each refusal, and the refusals of a source that gives no rows and of a text that isn't printed.
use Rattle.std.specs.Prelude.{ℕ}
use Rattle.arch_types.specs.declared.row_fault.RowFault.{RowFault}
use Rattle.arch_types.specs.declared.row_fault.RowFault.TheVariants as fault
use Rattle.outer_traits.specs.declared.print_fault.PrintFault.{PrintFault}
use Rattle.outer_traits.specs.declared.print_fault.PrintFault.TheVariants as unprinted
use Rattle.refusals.specs.declared.refusal.Refusal.{Refusal}
use Rattle.refusals.specs.declared.refusal.Refusal.TheVariants.{Usage, Missing, ReadFault, WriteFault, BadPacket, BadSheet, BadSql, NoArchive, Exists, Damaged, DiskFault, NeedsReopen, UnknownParameter, BadRange, UnknownTable, Limit, Mismatch, Late, OutOfMemory}

-- 1 the words or the names are wrong, 2 the input is, 3 and 4 reading and writing, 5 the disk, 6 the archive, 7 memory
abbrev pub status_of : Refusal → ℕ
status_of Usage = 1
status_of (Missing name) = 1
status_of ReadFault = 3
status_of WriteFault = 4
status_of (BadPacket at kind) = 2
status_of (BadSheet sheet row rule) = 2
status_of (BadSql at rule) = 1
status_of NoArchive = 1
status_of Exists = 1
status_of (Damaged file at) = 6
status_of DiskFault = 5
status_of (NeedsReopen faults) = 5
status_of UnknownParameter = 1
status_of (BadRange from to) = 1
status_of (UnknownTable name) = 1
status_of (Limit which number) = 2
status_of (Mismatch interval parameter key stored replayed) = 6
status_of (Late interval) = 1
status_of OutOfMemory = 7

-- the refusal of a source that gives no rows
abbrev pub refusal_of_rows : RowFault → Refusal
refusal_of_rows fault.DiskFault = DiskFault
refusal_of_rows (fault.Damaged file at) = Damaged file at
refusal_of_rows fault.OutOfMemory = OutOfMemory

-- the refusal of a text that wasn't printed to its end
abbrev pub refusal_of_print : PrintFault → Refusal
refusal_of_print unprinted.Write = WriteFault
refusal_of_print unprinted.DiskFault = DiskFault
refusal_of_print (unprinted.Damaged file at) = Damaged file at
refusal_of_print unprinted.OutOfMemory = OutOfMemory
