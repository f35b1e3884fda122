use Rattle.std.proofs.Common.{◌≡◌, ℕ, ◌+◌, ◌<◌, ◌≤◌, get_or}
use Rattle.std.specs.declared.cmp.Ordering.TheVariants.{Less}
use Rattle.arch_types.specs.Order.{key_cmp}
use Rattle.param_segments.specs.declared.key_place.KeyPlace.{KeyPlace}
use Rattle.param_segments.specs.RowPlaces.{place_key}
use Rattle.param_segments.proofs.asking.are_rising.Given as goal

abbrev pub invariant-loop-i : goal.invariant-loop-i
invariant-loop-i l = record {
  low : 1 ≤ l.i;
  below : (k : ℕ) (d : KeyPlace) → k + 1 < l.i → key_cmp (place_key (get_or l.places k d)) (place_key (get_or l.places (k + 1) d)) ≡ Less;
}
