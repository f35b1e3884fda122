use Rattle.std.specs.Prelude.{filter, take}
use Rattle.arch_types.specs.History.{is_in_table}
use Rattle.arch_types.proofs.InOrder.{order_sorted}
use Rattle.arch_types.proofs.laws.table_is_sorted.Goals as goal

pub returns : goal.returns
returns c = λ front table history. order_sorted (filter (is_in_table table) (take front history))
