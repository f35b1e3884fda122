use Rattle.std.proofs.Common.{◌≡◌, length}
use Rattle.ssql_parse.specs.Reading.{listed}
use Rattle.ssql_parse.specs.Pieces.{as_column, with_front}
use Rattle.ssql_parse.proofs.query.column_list.Given as goal

abbrev pub invariant-columns : goal.invariant-columns
invariant-columns l = with_front l.items (listed as_column l.rest) ≡ listed as_column l.fn.tokens

abbrev pub decreases-columns : goal.decreases-columns
decreases-columns l = length l.rest
