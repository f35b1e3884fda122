use Rattle.std.proofs.Common.{ℕ, List, ◌++◌, take}
use Rattle.sealed_opening.specs.Positions.{AreFlagsOf}
use Rattle.sealed_opening.proofs.positions.PositionFlags.add_all.Given as goal

abbrev pub invariant-loop-position : goal.invariant-loop-position
invariant-loop-position l =
    (limit : ℕ) (told : List ℕ) → AreFlagsOf limit told l.initial.self → AreFlagsOf limit (told ++ take l.position-index l.positions) l.self
