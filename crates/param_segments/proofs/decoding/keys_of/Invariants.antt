use Rattle.std.proofs.Common.{◌≡◌, ◌++◌, drop}
use Rattle.param_segments.specs.RowPlaces.{key_places}
use Rattle.param_segments.proofs.decoding.keys_of.Given as goal

abbrev pub invariant-loop-i : goal.invariant-loop-i
invariant-loop-i l = l.places.items ++ key_places l.i (drop l.i l.segments) ≡ key_places 0 l.segments
