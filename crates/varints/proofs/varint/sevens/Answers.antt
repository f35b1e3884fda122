use Rattle.varints.proofs.Words.{sevens_masked}
use Rattle.varints.proofs.varint.sevens.Goals as goal

pub returns : goal.returns
returns c = sevens_masked c.args.word
