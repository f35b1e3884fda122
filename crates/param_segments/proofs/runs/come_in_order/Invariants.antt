use Rattle.std.proofs.Common.{◌≡◌, drop, map}
use Rattle.param_segments.specs.Runs.{count_in_order, key_group}
use Rattle.param_segments.proofs.runs.come_in_order.Given as goal

abbrev pub invariant-loop-place : goal.invariant-loop-place
invariant-loop-place l = count_in_order l.seen (map (key_group l.numbers) (drop l.place-index l.places)) ≡ count_in_order 0 (map (key_group l.numbers) l.places)
