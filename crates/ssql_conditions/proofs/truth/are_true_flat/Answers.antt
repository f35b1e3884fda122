use Rattle.std.proofs.Common.{◌≡◌, ◌+◌, ◌||◌, ◌∷◌, [], drop, Bool, true, false, List, refl, sym, ◌∙◌, ap, subst, arith}
use Rattle.std.specs.List.{list_any}
use Rattle.std.proofs.lemmas.List.{drop_more}
use Rattle.ssql_conditions.specs.declared.condition.TypedPiece.{TypedPiece}
use Rattle.ssql_conditions.specs.Formulas.{OpenGroup, groups_after, is_paren, new_group}
use Rattle.ssql_conditions.specs.Truth.{truth, truth_group}
use Rattle.ssql_conditions.proofs.truth.are_true_flat.Goals as goal

neither : (a b : Bool) → (a || b) ≡ false → (a ≡ false) × (b ≡ false)
neither true b e = absurd cc
neither false b e = (refl, e)

pub loop-piece-preserved : goal.loop-piece-preserved
loop-piece-preserved c =
    let inv = c.loop-piece.invariant in
    let pieces = c.args.pieces.now in
    let next = drop (c.loop-piece.piece-index + 1) pieces in
    let piece = c.piece-item.result in
    let m = truth c.args.row.now in
    let split : drop c.loop-piece.piece-index pieces ≡ piece ∷ next = drop_more pieces c.loop-piece.piece-index piece c.loop-piece-test.true ∙ ap (λ (x : TypedPiece). x ∷ next) (sym c.piece-item.is) in
    let parts = neither (is_paren piece) (list_any is_paren next) (subst (λ (xs : List TypedPiece). list_any is_paren xs ≡ false) split inv.flat) in
    record {
      same = ap (λ (gs : List (OpenGroup Bool)). groups_after m next gs) (c.inside-group.ensures.groups parts.0 [])
          ∙ subst (λ (xs : List TypedPiece). groups_after m xs (truth_group c.loop-piece.group ∷ []) ≡ groups_after m pieces (new_group m ∷ [])) split inv.same;
      flat = parts.1;
      nots = omega (arith, c.inside-group.ensures.nots, inv.nots);
    }
