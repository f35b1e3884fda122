use Rattle.arch_types.proofs.Dumps.{dump_is_one}
use Rattle.arch_types.proofs.laws.dump_is_one.Goals as goal

pub returns : goal.returns
returns c = dump_is_one
