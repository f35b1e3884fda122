use Rattle.history_items.proofs.FillLists.{rows_of_faults-append, pending_fault_of-append}
use Rattle.history_items.proofs.laws.faults_after_items.Goals as goal

pub returns : goal.returns
returns c = λ fills more. (rows_of_faults-append fills more, pending_fault_of-append fills more)
