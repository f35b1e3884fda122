use Rattle.std.proofs.Common.{◌≡◌, ◌+◌, ◌≤◌, ◌++◌, length, reverse}
use Rattle.std.specs.Prelude.{filter, flat_map}
use Rattle.std.specs.Iterator.Adapters.{rev_source}
use Rattle.std.specs.List.{AllByRecursion}
use Rattle.std.specs.Slice.Iter.{iter_rest}
use Rattle.arch_types.specs.Table.{is_in_time_range}
use Rattle.arch_types.specs.Directions.{truncated}
use Rattle.param_segments.specs.Plans.{HasValuesOf, rows_of_parts}
use Rattle.part_answers.specs.PartCells.{cells_of_part}
use Rattle.part_answers.proofs.part_cells.last_part_cells.Given as goal

abbrev pub invariant-loop-part : goal.invariant-loop-part
invariant-loop-part g l = record {
  all : truncated l.request.limit (l.cells ++ reverse (flat_map (cells_of_part l.mdb l.number l.request.from l.request.to) (iter_rest (rev_source l.part-iterator))))
      ≡ truncated l.request.limit (reverse (flat_map (cells_of_part l.mdb l.number l.request.from l.request.to) l.parts));
  within : truncated l.request.limit l.cells ≡ l.cells;
  values : AllByRecursion (HasValuesOf l.mdb) (iter_rest (rev_source l.part-iterator));
  steps : l.steps + length (filter (is_in_time_range l.request.from l.request.to) (rows_of_parts (iter_rest (rev_source l.part-iterator)))) ≤ l.initial.steps + length (filter (is_in_time_range l.request.from l.request.to) (rows_of_parts l.parts));
}
