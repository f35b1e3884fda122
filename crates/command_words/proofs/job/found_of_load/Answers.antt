use Rattle.command_words.specs.declared.job.CommandName.TheVariants.{Load}
use Rattle.command_words.proofs.Simple.{free, simple}
use Rattle.command_words.proofs.job.found_of_load.Goals as goal

pub read_arguments-requires : goal.read_arguments-requires
read_arguments-requires c = record { simple = simple Load; free = free Load }
