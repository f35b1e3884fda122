use Rattle.std.proofs.Common.{◌≡◌}
use Rattle.std.specs.List.{concat}
use Rattle.dump_maker.specs.Made.{made_packets}
use Rattle.dump_maker.proofs.dumps.made_dump.Given as goal

abbrev pub invariant-loop-i : goal.invariant-loop-i
invariant-loop-i l = l.octets.items ≡ concat (made_packets l.seed l.first l.i)
