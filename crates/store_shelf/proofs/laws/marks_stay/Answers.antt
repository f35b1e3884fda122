use Rattle.store_shelf.proofs.Staying.{mark_stays}
use Rattle.store_shelf.proofs.laws.marks_stay.Goals as goal

pub returns : goal.returns
returns g c = λ archive. mark_stays (g.X.Archived.stays archive)
