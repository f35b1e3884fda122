-- The answer to a request for values.
use Rattle.std.specs.Prelude.{ℕ, List}
use Rattle.asks.specs.declared.ask.Request.{Request}
use Rattle.arch_types.specs.declared.cell.Cell.{Cell}
use Rattle.arch_types.specs.declared.row.Row.{Row}
use Rattle.arch_types.specs.Directions.{in_direction, truncated}
use Rattle.mdb_items.specs.Database.{Database}
use Rattle.container_extract.specs.Extraction.{values_of}

-- cells as a request asks for them: the last first where it is descending, and of these the first `limit`
abbrev pub as_asked : Request → List Cell → List Cell
as_asked request cells = truncated request.limit (in_direction request.direction cells)

-- the answer to a request, whose parameter has this number, over a history: the values of the parameter in its range in key
-- order, as it asks for them
abbrev pub answer_of : Database → ℕ → Request → List Row → List Cell
answer_of db number request history = as_asked request (values_of history db number request.from request.to)
