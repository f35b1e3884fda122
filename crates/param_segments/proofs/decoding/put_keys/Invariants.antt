use Rattle.std.proofs.Common.{◌≡◌, ◌++◌, drop, map}
use Rattle.param_segments.specs.RowPlaces.{key_in}
use Rattle.param_segments.proofs.decoding.put_keys.Given as goal

abbrev pub invariant-loop-key : goal.invariant-loop-key
invariant-loop-key l = l.places.items ++ map (key_in l.segment) (drop l.key-index l.keys) ≡ l.initial.places.items ++ map (key_in l.segment) l.keys
