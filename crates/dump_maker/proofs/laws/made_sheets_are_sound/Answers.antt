use Rattle.dump_maker.proofs.MadeSheets.{no_fault, no_limit}
use Rattle.dump_maker.proofs.laws.made_sheets_are_sound.Goals as goal

pub returns : goal.returns
returns c = (no_fault, no_limit)
