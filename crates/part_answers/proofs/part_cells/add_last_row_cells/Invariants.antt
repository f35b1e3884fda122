use Rattle.std.proofs.Common.{◌≡◌, ◌+◌, ◌≤◌, ◌++◌, length, reverse}
use Rattle.std.specs.Prelude.{filter}
use Rattle.std.specs.Iterator.Adapters.{rev_source}
use Rattle.std.specs.List.{filter_map}
use Rattle.std.specs.Slice.Iter.{iter_rest}
use Rattle.arch_types.specs.Table.{is_in_time_range}
use Rattle.arch_types.specs.Directions.{truncated}
use Rattle.part_answers.specs.PartCells.{cell_in_range}
use Rattle.part_answers.proofs.part_cells.add_last_row_cells.Given as goal

abbrev pub invariant-loop-row : goal.invariant-loop-row
invariant-loop-row g l = record {
  all : truncated l.request.limit (l.cells ++ filter_map (cell_in_range l.mdb l.number l.request.from l.request.to) (reverse (iter_rest (rev_source l.row-iterator))))
      ≡ truncated l.request.limit (l.initial.cells ++ filter_map (cell_in_range l.mdb l.number l.request.from l.request.to) (reverse l.rows));
  within : truncated l.request.limit l.cells ≡ l.cells;
  steps : l.steps + length (filter (is_in_time_range l.request.from l.request.to) (iter_rest (rev_source l.row-iterator))) ≤ l.initial.steps + length (filter (is_in_time_range l.request.from l.request.to) l.rows);
}
