use Rattle.std.proofs.Common.{rules, ◌≡◌, ◌≤◌, ◌^◌, ◌<ℤ◌, pos, ℤ, ℕ, sym, subst, arith}
use Rattle.std.specs.Prelude.{◌-ℤ◌}
use Rattle.std.proofs.lemmas.Int.{ints}
use Rattle.intervals.specs.Interval.{interval_of}
use Rattle.interval_walks.proofs.Covering.{interval_small}
use Rattle.interval_walks.proofs.walk.last_of.Goals as goal

small_of : (exponent : ℕ) (t r : ℤ) → 18 ≤ exponent → t <ℤ pos (2 ^ 63) → r ≡ interval_of exponent t → r <ℤ pos (2 ^ 62)
small_of exponent t r some less is = subst (λ (z : ℤ). z <ℤ pos (2 ^ 62)) (sym is) (interval_small exponent t some less)

one_less : (t : ℤ) → t <ℤ pos (2 ^ 63) → (t -ℤ pos 1) <ℤ pos (2 ^ 63)
one_less t less = omega (arith, ints, less)

pub returns-clause-small : goal.returns-clause-small
returns-clause-small c =
    let some : 18 ≤ c.args.exponent = search in
    small_of c.args.exponent (c.args.to -ℤ pos 1) c.at.result.0 some (one_less c.args.to (omega (arith, ints, c.ranges.to.sfits))) (search rules)
