use Rattle.std.proofs.Common.{rules, sym, ap, subst, ◌∙◌, ◌≤◌}
use Rattle.turn_cell.proofs.Moves.{splits}
use Rattle.turn_cell.proofs.cell.TurnCell.split.Goals as goal

pub split_seat-requires : goal.split_seat-requires
split_seat-requires g c =
    let pv = c.pass.view_is in
    let sv = c.self.view_is in (
      ap (λ p. p.cell) pv ∙ (c.requires.free.of_cell.here ∙ sym (ap (λ k. k.id) sv)),
      search rules,
      splits g.T.Growing.history g.T.Growing.fills g.T.Growing.goes_on _ _ _ (ap (λ p. p.standing.stage) pv ∙ c.requires.free.idle) (subst (λ p. 2 ≤ p.share) (sym pv) c.requires.share),
    )
