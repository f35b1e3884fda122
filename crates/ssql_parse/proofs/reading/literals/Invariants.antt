use Rattle.std.proofs.Common.{◌≡◌, length}
use Rattle.ssql_parse.specs.Reading.{listed}
use Rattle.ssql_parse.specs.Pieces.{as_literal, with_front}
use Rattle.ssql_parse.proofs.reading.literals.Given as goal

abbrev pub invariant-literals : goal.invariant-literals
invariant-literals l = with_front l.items (listed as_literal l.rest) ≡ listed as_literal l.fn.tokens

abbrev pub decreases-literals : goal.decreases-literals
decreases-literals l = length l.rest
