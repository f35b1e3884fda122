use Rattle.arch_disk.proofs.SyncedFiles.{IsSyncedAs}
use Rattle.arch_disk.proofs.call_log.CallLog.holding.Given as goal

abbrev pub invariant-loop-i : goal.invariant-loop-i
invariant-loop-i l = IsSyncedAs l.files.list.items l.i l.call_log
