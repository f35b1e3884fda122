use Rattle.std.proofs.Common.{◌≡◌, ◌+◌, ◌≤◌, ◌++◌, length}
use Rattle.std.specs.Prelude.{filter, IfSome}
use Rattle.std.specs.List.{AllByRecursion}
use Rattle.partitions.specs.Partitions.{AreRising}
use Rattle.partitions.specs.Rows.{is_of_parts}
use Rattle.arch_types.specs.Directions.{truncated}
use Rattle.replay_merge.specs.RowSource.{IsKeyedRow, UsedRowSource}
use Rattle.ssql_select.specs.Selection.{merged_between, selected_between}
use Rattle.ssql_select.proofs.select.select_days.Given as goal

abbrev pub invariant-days : goal.invariant-days
invariant-days g l =
    let told = (g.R.RowSource.state l.fn.source).history in
    record {
      used : UsedRowSource (g.R.RowSource.state l.fn.source) (g.R.RowSource.state l.source);
      calm : (g.R.RowSource.state l.source).faults ≡ (g.R.RowSource.state l.fn.source).faults;
      reads_left : g.R.RowSource.leaves l.fn.source l.source;
      rising : AreRising l.left;
      within : truncated l.statement.limit l.selected.items ≡ l.selected.items;
      given : AllByRecursion (g.R.RowSource.state l.fn.source).may_give l.selected.items;
      found : AllByRecursion IsKeyedRow l.selected.items;
      rows : IfSome told (λ history. truncated l.statement.limit (l.selected.items ++ selected_between l.statement l.left l.bounds.from l.bounds.to (history l.front))
          ≡ truncated l.statement.limit (selected_between l.statement l.parts l.bounds.from l.bounds.to (history l.front)));
      steps : IfSome told (λ history. l.steps + length (filter (is_of_parts l.left) (merged_between l.statement.sources l.bounds.from l.bounds.to (history l.front)))
          ≤ l.initial.steps + length (filter (is_of_parts l.parts) (merged_between l.statement.sources l.bounds.from l.bounds.to (history l.front))));
    }

abbrev pub decreases-days : goal.decreases-days
decreases-days g l = length l.left
