use Rattle.std.proofs.Common.{◌≡◌, ◌+◌, ◌≤◌, ◌++◌, length, reverse}
use Rattle.std.specs.Prelude.{filter}
use Rattle.std.specs.List.{AllByRecursion}
use Rattle.arch_types.specs.Directions.{truncated}
use Rattle.replay_merge.specs.RowSource.{IsKeyedRow}
use Rattle.ssql_select.specs.Selection.{is_selected}
use Rattle.ssql_select.proofs.select.add_met.Given as goal

abbrev pub invariant-rows : goal.invariant-rows
invariant-rows g l = record {
  all : truncated l.limit (l.selected.items ++ filter (is_selected l.condition) (reverse l.left.items))
      ≡ truncated l.limit (l.initial.selected.items ++ filter (is_selected l.condition) (reverse l.fn.backwards.items));
  within : truncated l.limit l.selected.items ≡ l.selected.items;
  found : AllByRecursion IsKeyedRow l.selected.items;
  keyed : AllByRecursion IsKeyedRow l.left.items;
  steps : l.steps + length l.left.items ≤ l.initial.steps + length l.fn.backwards.items;
}

abbrev pub decreases-rows : goal.decreases-rows
decreases-rows g l = length l.left.items
