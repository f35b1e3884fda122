use Rattle.std.proofs.Common.{◌≡◌, length}
use Rattle.ssql_parse.specs.Reading.{listed}
use Rattle.ssql_parse.specs.Pieces.{as_name, with_front}
use Rattle.ssql_parse.proofs.query.name_list.Given as goal

abbrev pub invariant-names : goal.invariant-names
invariant-names l = with_front l.items (listed as_name l.rest) ≡ listed as_name l.fn.tokens

abbrev pub decreases-names : goal.decreases-names
decreases-names l = length l.rest
