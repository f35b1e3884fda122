use Rattle.field_codec.proofs.Sizes.{short}
use Rattle.field_codec.proofs.laws.spellings_are_short.Goals as goal

pub returns : goal.returns
returns c = short
