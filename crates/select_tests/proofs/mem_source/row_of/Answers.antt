use Rattle.std.proofs.Common.{rules}
use Rattle.select_tests.proofs.Found.{clock_true}
use Rattle.select_tests.proofs.mem_source.row_of.Goals as goal

pub returns : goal.returns
returns c = let clock = clock_true c.args.rectime c.requires.time in record { packet = c.requires.packet; rectime = search rules; key = search rules }
