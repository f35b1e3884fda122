use Rattle.std.proofs.Common.{◌≡◌, take}
use Rattle.std.specs.Prelude.{filter}
use Rattle.replay_merge.specs.Replay.{is_listed_name}
use Rattle.replay_merge.proofs.fetch.listed_parts.Given as goal

abbrev pub invariant-loop-partition : goal.invariant-loop-partition
invariant-loop-partition l = l.listed.items ≡ filter (λ partition. is_listed_name l.wanted.names partition.pname) (take l.partition-index l.parts)
