use Rattle.std.proofs.Common.{◌≡◌, take}
use Rattle.sealed_sums.specs.Stretch.{IsStretchOf}
use Rattle.sealed_sums.proofs.stretch.first_stretch.Given as goal

abbrev pub invariant-loop-i : goal.invariant-loop-i
invariant-loop-i l = record {
  len : l.stretch.len ≡ l.i;
  is : IsStretchOf l.exponent l.stretch (take l.i l.rows);
}
