use Rattle.std.proofs.Common.{◌≡◌, ◌≤◌, true, [], ◌∷◌, drop}
use Rattle.arrayvec.specs.ArrayVec.{array_vec_len}
use Rattle.ssql_conditions.specs.Formulas.{groups_after, new_group, parens_fit}
use Rattle.ssql_conditions.specs.Truth.{truth, truth_groups}
use Rattle.ssql_conditions.proofs.truth.are_true.Given as goal

abbrev pub invariant-loop-piece : goal.invariant-loop-piece
invariant-loop-piece l = record {
  same : groups_after (truth l.row) (drop l.piece-index l.pieces) (truth_groups l.group l.outer.items) ≡ groups_after (truth l.row) l.pieces (new_group (truth l.row) ∷ []);
  room : parens_fit (drop l.piece-index l.pieces) (array_vec_len l.outer) ≡ true;
  nots : l.group.nots ≤ l.piece-index;
}
