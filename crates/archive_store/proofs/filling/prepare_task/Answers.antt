use Rattle.arch_types.specs.declared.row_fault.RowFault.TheVariants.{OutOfMemory}
use Rattle.replay_merge.proofs.Giving.{fault_passed}
use Rattle.archive_store.proofs.filling.prepare_task.Goals as goal

-- the rows were read, and no more
pub returns-in_err-try_clone-clause-refused : goal.returns-in_err-try_clone-clause-refused
returns-in_err-try_clone-clause-refused g c =
    fault_passed c.from_residual-in_err-try_clone.result OutOfMemory (g.R.RowSource.state c.args.source.now) (g.R.RowSource.state c.rows_of.new.source) c.from_residual-in_err-try_clone.ensures.1 c.in_ok-rows_of.ensures.no_fault
