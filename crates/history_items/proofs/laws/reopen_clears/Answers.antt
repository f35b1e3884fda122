use Rattle.history_items.proofs.FillLists.{pending_fault_of-reopened, rows_of_faults-reopened, length-reopened, Rising-reopened, base_in-reopened, in_flight-reopened}
use Rattle.history_items.proofs.laws.reopen_clears.Goals as goal

pub returns : goal.returns
returns c = λ fills. (pending_fault_of-reopened fills, rows_of_faults-reopened fills, length-reopened fills, Rising-reopened fills, λ interval. (base_in-reopened interval fills, in_flight-reopened interval fills))
