use Rattle.std.proofs.Common.{◌≡◌, [], drop, max, reverse}
use Rattle.ssql_parse.specs.Depth.{deepest}
use Rattle.ssql_parse.proofs.depth.condition_depth.Given as goal

-- the greatest so far, and that of what is left, are that of all
abbrev pub invariant-loop-piece : goal.invariant-loop-piece
invariant-loop-piece l = max l.depth (deepest (drop l.piece-index l.pieces) (reverse l.nesting.items)) ≡ deepest l.pieces []
