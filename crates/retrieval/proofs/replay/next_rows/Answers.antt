use Rattle.std.proofs.Common.{sym, subst, arith}
use Rattle.archive_store.specs.Replays.{rows_below}
use Rattle.archive_store.specs.UnreadRows.{IsLeftByRefusal}
use Rattle.replay_merge.proofs.Opening.{end_no_rest}
use Rattle.retrieval.proofs.PrintFaults.{as_refused}
use Rattle.retrieval.proofs.replay.next_rows.Goals as goal

pub returns-in-Ok-clause-end : goal.returns-in-Ok-clause-end
returns-in-Ok-clause-end g c = λ none. end_no_rest c.replay_step.new.cursor (rows_below c.args.store.now.history) (c.in-Ok.ensures.end.none_is_end none (omega arith))

pub returns-in-Ok-clause-same : goal.returns-in-Ok-clause-same
returns-in-Ok-clause-same g c = c.in-Ok.ensures.same

pub returns-in-Err-clause-refused : goal.returns-in-Err-clause-refused
returns-in-Err-clause-refused g c = (c.in-Err.fault, c.in-Err.ensures.refused, as_refused c.in-Err.fault c.print_fault_of.result c.print_fault_of.ensures)

pub returns-in-Err-clause-same : goal.returns-in-Err-clause-same
returns-in-Err-clause-same g c =
    subst (IsLeftByRefusal g.D.Disk.device c.args.store.now c.replay_step.new.self) (sym (as_refused c.in-Err.fault c.print_fault_of.result c.print_fault_of.ensures)) c.in-Err.ensures.same
