use Rattle.std.proofs.Common.{true≢false, sym, ◌∙◌}
use Rattle.sealed_opening.proofs.so_far.SealedSoFar.note_places.Goals as goal

pub returns-then-these-clause-placed : goal.returns-then-these-clause-placed
returns-then-these-clause-placed c = (λ all. (all, c.if-these.true), λ both. both.0)

pub returns-clause-placed : goal.returns-clause-placed
returns-clause-placed c = (λ all. absurd (true≢false (sym all)), λ both. absurd (true≢false (sym both.1 ∙ c.if-these.false)))
