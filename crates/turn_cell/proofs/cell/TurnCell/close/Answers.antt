use Rattle.std.proofs.Common.{refl, sym, ap, ◌∙◌, subst, ◌≡◌, ℕ, ◌<◌, length, Contains}
use mathlib.Core.List.{IsPrefix}
use Rattle.turn_cell.proofs.Moves.{closed_with, closed_as}
use Rattle.turn_cell.proofs.cell.TurnCell.close.Goals as goal

pub unwrap-requires : goal.unwrap-requires
unwrap-requires g c = let k = closed_with g.T.Growing.history g.T.Growing.fills g.T.Growing.goes_on _ _ _ _ _ _ c.close_with-closed.ensures.values.2 (sym (ap (λ p. p.share) c.into_seat-seat.ensures) ∙ c.requires.share) (sym (ap (λ p. p.standing.stage) c.into_seat-seat.ensures) ∙ c.requires.free.idle) c.take-slot.ensures.value in rw k.1 refl

pub returns-clause-value : goal.returns-clause-value
returns-clause-value g c = subst (λ k. g.T.Growing.goes_on k.first c.unwrap.result) c.self.view_is ((closed_as g.T.Growing.history g.T.Growing.fills g.T.Growing.goes_on _ _ _ _ _ _ _ c.close_with-closed.ensures.values.2 (sym (ap (λ p. p.share) c.into_seat-seat.ensures) ∙ c.requires.share) (sym (ap (λ p. p.standing.stage) c.into_seat-seat.ensures) ∙ c.requires.free.idle) c.take-slot.ensures.value c.unwrap.ensures).0)

pub returns-clause-begins : goal.returns-clause-begins
returns-clause-begins g c = subst (λ p. IsPrefix p.history.seen (g.T.Growing.history c.unwrap.result) × IsPrefix p.fills.seen (g.T.Growing.fills c.unwrap.result)) (sym c.into_seat-seat.ensures) ((closed_as g.T.Growing.history g.T.Growing.fills g.T.Growing.goes_on _ _ _ _ _ _ _ c.close_with-closed.ensures.values.2 (sym (ap (λ p. p.share) c.into_seat-seat.ensures) ∙ c.requires.share) (sym (ap (λ p. p.standing.stage) c.into_seat-seat.ensures) ∙ c.requires.free.idle) c.take-slot.ensures.value c.unwrap.ensures).1)

pub returns-clause-added : goal.returns-clause-added
returns-clause-added g c = subst (λ p. (length (g.T.Growing.history c.unwrap.result) ≡ p.history.added) × (length (g.T.Growing.fills c.unwrap.result) ≡ p.fills.added)) (sym c.into_seat-seat.ensures) ((closed_as g.T.Growing.history g.T.Growing.fills g.T.Growing.goes_on _ _ _ _ _ _ _ c.close_with-closed.ensures.values.2 (sym (ap (λ p. p.share) c.into_seat-seat.ensures) ∙ c.requires.share) (sym (ap (λ p. p.standing.stage) c.into_seat-seat.ensures) ∙ c.requires.free.idle) c.take-slot.ensures.value c.unwrap.ensures).2)

pub returns-clause-placed : goal.returns-clause-placed
returns-clause-placed g c = subst (λ p. (q : ℕ) → q < length (g.T.Growing.history c.unwrap.result) → Contains p.history.places q) (sym c.into_seat-seat.ensures) ((closed_as g.T.Growing.history g.T.Growing.fills g.T.Growing.goes_on _ _ _ _ _ _ _ c.close_with-closed.ensures.values.2 (sym (ap (λ p. p.share) c.into_seat-seat.ensures) ∙ c.requires.share) (sym (ap (λ p. p.standing.stage) c.into_seat-seat.ensures) ∙ c.requires.free.idle) c.take-slot.ensures.value c.unwrap.ensures).3)

pub returns-clause-fills_placed : goal.returns-clause-fills_placed
returns-clause-fills_placed g c = subst (λ p. (q : ℕ) → q < length (g.T.Growing.fills c.unwrap.result) → Contains p.fills.places q) (sym c.into_seat-seat.ensures) ((closed_as g.T.Growing.history g.T.Growing.fills g.T.Growing.goes_on _ _ _ _ _ _ _ c.close_with-closed.ensures.values.2 (sym (ap (λ p. p.share) c.into_seat-seat.ensures) ∙ c.requires.share) (sym (ap (λ p. p.standing.stage) c.into_seat-seat.ensures) ∙ c.requires.free.idle) c.take-slot.ensures.value c.unwrap.ensures).4)
