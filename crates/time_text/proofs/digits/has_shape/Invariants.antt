use Rattle.std.proofs.Common.{◌≡◌, drop}
use Rattle.time_text.specs.Digits.{has_shape}
use Rattle.time_text.proofs.digits.has_shape.Given as goal

abbrev pub invariant-loop-i : goal.invariant-loop-i
invariant-loop-i l = has_shape (drop l.i l.shape) (drop l.i l.text) ≡ has_shape l.shape l.text
