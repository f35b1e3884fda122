use Rattle.run_files.proofs.OwnPages.{own_page}
use Rattle.run_files.proofs.laws.rows_stand_on_their_page.Goals as goal

pub returns : goal.returns
returns c = λ content run rows at found k has is. own_page content run rows k at found has is
