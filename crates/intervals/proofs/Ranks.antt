-- The order of intervals is total.
use Rattle.std.proofs.Common.{ℤ, ap}
use Rattle.std.specs.Cmp.{IsTotalOrder, on_total, int_cmp_total}
use Rattle.std.proofs.lemmas.Map.Lookups.{CmpEqualImpliesEq, exact_signed}
use Rattle.intervals.specs.declared.interval.Interval.{Interval}
use Rattle.intervals.specs.Interval.{interval_cmp}

pub interval_cmp_total : IsTotalOrder interval_cmp
interval_cmp_total = on_total (λ (i : Interval). i.0) int_cmp_total

-- intervals that compare equal are one
pub exact_intervals : CmpEqualImpliesEq interval_cmp
exact_intervals a b same = ap (λ (n : ℤ). let i : Interval = record { 0 = n } in i) (exact_signed a.0 b.0 same)
