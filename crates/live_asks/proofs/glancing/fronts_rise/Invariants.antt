use Rattle.std.proofs.Common.{drop}
use Rattle.live_asks.specs.LiveAsks.{FrontsRise}
use Rattle.live_asks.proofs.glancing.fronts_rise.Given as goal

-- what is left decides
abbrev pub invariant-loop-answer : goal.invariant-loop-answer
invariant-loop-answer l = record { rest : FrontsRise l.front (drop l.answer-index l.answers) → FrontsRise 0 l.answers }
