use Rattle.row_codec.proofs.RowFields.{one_row}
use Rattle.row_codec.proofs.laws.row_spellings_are_one.Goals as goal

pub returns : goal.returns
returns c = one_row
