use Rattle.std.proofs.Common.{◌≡◌, ◌++◌}
use Rattle.make_command.proofs.prepared.sources.Given as goal

-- those that there are, and the dumps that are left
abbrev pub invariant-loop-dump : goal.invariant-loop-dump
invariant-loop-dump l = l.sources.items ++ l.dump-iterator.rest.items ≡ l.fn.dumps
