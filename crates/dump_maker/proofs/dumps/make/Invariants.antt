use Rattle.std.proofs.Common.{◌≡◌, ◌-◌, ◌++◌}
use Rattle.dump_maker.specs.Made.{made_dumps}
use Rattle.dump_maker.proofs.dumps.make.Given as goal

abbrev pub invariant-loop-link : goal.invariant-loop-link
invariant-loop-link l = l.dumps ++ made_dumps l.seed l.packets (l.links - l.link) ≡ made_dumps l.seed l.packets l.links
