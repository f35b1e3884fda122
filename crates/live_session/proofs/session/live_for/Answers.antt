use Rattle.live_session.proofs.Making.{if_ok, shown_are_at}
use Rattle.live_session.proofs.session.live_for.Goals as goal

pub returns-clause-glances : goal.returns-clause-glances
returns-clause-glances g c = if_ok c.with_glances.result _ _ (λ made shown. shown_are_at made.0.cell.first _ made.2 shown) c.with_glances.ensures.shown
