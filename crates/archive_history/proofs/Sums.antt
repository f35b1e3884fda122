-- What the limits count, over lists that are joined.
use Rattle.std.proofs.Common.{◌≡◌, ℕ, ◌+◌, List, [], ◌∷◌, ◌++◌, length, Bool, true, false, cond, refl, arith, length-append}
use Rattle.std.specs.Prelude.{filter, if◌then◌else◌}
use Rattle.intervals.specs.declared.interval.Interval.{Interval}
use Rattle.arch_types.specs.declared.row.Row.{Row}
use Rattle.history_items.specs.Items.{is_of_interval}
use Rattle.archive_history.specs.Limits.{octets_of, interval_rows, IsWithin}

pub octets-append : (a b : List Row) → octets_of (a ++ b) ≡ octets_of a + octets_of b
octets-append [] b = let none : octets_of b ≡ 0 + octets_of b = omega arith in none
octets-append (row ∷ a) b = omega (arith, octets-append a b)

one_more : (b : Bool) (row : Row) (rows : List Row) → length (cond b (row ∷ rows) rows) ≡ (if b then 1 else 0) + length rows
one_more true row rows = omega arith
one_more false row rows = omega arith

pub interval_rows-append : (e : ℕ) (interval : Interval) (a b : List Row) → interval_rows e interval (a ++ b) ≡ interval_rows e interval a + interval_rows e interval b
interval_rows-append e interval [] b = let none : interval_rows e interval b ≡ 0 + interval_rows e interval b = omega arith in none
interval_rows-append e interval (row ∷ a) b =
    omega (arith, interval_rows-append e interval a b, one_more (is_of_interval e interval row) row (filter (is_of_interval e interval) (a ++ b)), one_more (is_of_interval e interval row) row (filter (is_of_interval e interval) a))

pub interval_rows-one : (e : ℕ) (interval : Interval) (row : Row) → interval_rows e interval (row ∷ []) ≡ (if is_of_interval e interval row then 1 else 0)
interval_rows-one e interval row = alone (is_of_interval e interval row)
  where
    alone : (b : Bool) → length (cond b (row ∷ []) []) ≡ (if b then 1 else 0)
    alone true = refl
    alone false = refl

-- fewer rows pass no limit either
pub within_less : (e : ℕ) (a b : List Row) → IsWithin e (a ++ b) → IsWithin e a
within_less e a b w = record {
  few = omega (arith, w.few, length-append a b);
  octets = omega (arith, w.octets, octets-append a b);
  intervals = λ interval. omega (arith, w.intervals interval, interval_rows-append e interval a b);
}
