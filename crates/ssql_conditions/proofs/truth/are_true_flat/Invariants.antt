use Rattle.std.proofs.Common.{◌≡◌, ◌≤◌, false, [], ◌∷◌, drop}
use Rattle.std.specs.List.{list_any}
use Rattle.ssql_conditions.specs.Formulas.{groups_after, is_paren, new_group}
use Rattle.ssql_conditions.specs.Truth.{truth, truth_group}
use Rattle.ssql_conditions.proofs.truth.are_true_flat.Given as goal

abbrev pub invariant-loop-piece : goal.invariant-loop-piece
invariant-loop-piece l = record {
  same : groups_after (truth l.row) (drop l.piece-index l.pieces) (truth_group l.group ∷ []) ≡ groups_after (truth l.row) l.pieces (new_group (truth l.row) ∷ []);
  flat : list_any is_paren (drop l.piece-index l.pieces) ≡ false;
  nots : l.group.nots ≤ l.piece-index;
}
