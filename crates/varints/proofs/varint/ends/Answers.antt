use Rattle.std.proofs.Common.{arith}
use Rattle.varints.proofs.Words.{ends_masked}
use Rattle.varints.proofs.varint.ends.Goals as goal

pub returns : goal.returns
returns c = ends_masked c.args.word (omega arith)
