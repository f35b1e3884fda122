use Rattle.field_codec.proofs.EntryKinds.{one_spelling}
use Rattle.field_codec.proofs.laws.spellings_are_one.Goals as goal

pub returns : goal.returns
returns c = one_spelling
