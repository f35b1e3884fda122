use Rattle.varints.proofs.Words.{fourteens_masked}
use Rattle.varints.proofs.varint.fourteens.Goals as goal

pub returns : goal.returns
returns c = fourteens_masked c.args.word
