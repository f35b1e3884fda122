use Rattle.std.specs.Prelude.{filter, take}
use Rattle.arch_types.specs.History.{is_in_table}
use Rattle.arch_types.proofs.InOrder.{order_same}
use Rattle.arch_types.proofs.laws.table_has_its_rows.Goals as goal

pub returns : goal.returns
returns c = λ front table history. order_same _ (filter (is_in_table table) (take front history))
