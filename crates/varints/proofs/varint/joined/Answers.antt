use Rattle.varints.proofs.Words.{joined_in_steps}
use Rattle.varints.proofs.varint.joined.Goals as goal

pub returns : goal.returns
returns c = rw (c.fourteens.ensures, c.fourteens-2.ensures, c.sevens.ensures, c.sevens-2.ensures) (joined_in_steps c.args.word)
