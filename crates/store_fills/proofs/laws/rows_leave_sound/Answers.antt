use Rattle.store_fills.proofs.RightFills.{rows_leave_right}
use Rattle.store_fills.proofs.laws.rows_leave_sound.Goals as goal

pub returns : goal.returns
returns c = rows_leave_right
