use Rattle.std.proofs.Common.{◌≡◌, ◌≤◌, [], ◌∷◌, drop}
use Rattle.ssql_conditions.specs.Formulas.{groups_after, new_group}
use Rattle.ssql_conditions.specs.ConditionBounds.{bounding, bounds_groups}
use Rattle.ssql_conditions.proofs.bounds.pieces_bounds.Given as goal

abbrev pub invariant-loop-piece : goal.invariant-loop-piece
invariant-loop-piece l = record {
  same : groups_after bounding (drop l.piece-index l.pieces) (bounds_groups l.group l.outer.items) ≡ groups_after bounding l.pieces (new_group bounding ∷ []);
  nots : l.group.nots ≤ l.piece-index;
}
