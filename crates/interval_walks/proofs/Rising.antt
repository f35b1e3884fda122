-- Rows in the order of their keys stand in the order of their intervals.
use Rattle.std.proofs.Common.{◌≡◌, ℕ, ℤ, pos, negsuc, ◌≤ℤ◌, ◌<ℤ◌, ◌/◌, ◌<◌, ◌≤◌, ◌^◌, List, [], ◌∷◌, Bool, true, false, refl, arith}
use Rattle.std.specs.Prelude.{fold, filter, not, int_lt}
use Rattle.std.specs.Ordering.{int_cmp, nat_cmp, ordering_then, is_lt, MatchOrdering, int_eq}
use Rattle.std.specs.Cmp.{int_ranks}
use Rattle.std.specs.declared.cmp.Ordering.{Ordering}
use Rattle.std.specs.declared.cmp.Ordering.TheVariants.{Less, Equal, Greater}
use Rattle.std.proofs.lemmas.Int.{ints}
use Rattle.std.proofs.lemmas.Bool.{and_parts, false_from_ne_true}
use Rattle.std.proofs.lemmas.Bool.Decides.{Decides-int_eq}
use Rattle.std.proofs.lemmas.Nat.{le-div, pow_pos}
use Rattle.std.proofs.Math.Nat.{div-mul-le_self}
use Rattle.arch_types.specs.declared.row.Row.{Row}
use Rattle.intervals.specs.Interval.{interval_of}
use Rattle.arch_types.specs.Order.{is_before, place_by}
use Rattle.arch_types.specs.History.{is_in_table}
use Rattle.arch_types.specs.Table.{is_in_time_range, table_of}
use Rattle.arch_types.proofs.Ordered.{IsAscending, ascending-place}
use Rattle.arch_types.proofs.Ranks.{rows_rank}

-- ---- times

later_time : (t u : ℤ) (r s : Ordering) → MatchOrdering r (t <ℤ u) (t ≡ u) (u <ℤ t) → is_lt (ordering_then r s) ≡ false → u ≤ℤ t
later_time t u Less s less e = absurd cc
later_time t u Equal s same e = omega (arith, ints, same)
later_time t u Greater s more e = omega (arith, ints, more)

pub not_before : (a b : Row) → is_before a b ≡ false → b.key.time ≤ℤ a.key.time
not_before a b e = later_time a.key.time b.key.time (int_cmp a.key.time b.key.time) (nat_cmp a.key.seq b.key.seq) (int_ranks a.key.time b.key.time) e

still_ascending : (sorted rows : List Row) → IsAscending is_before sorted → IsAscending is_before (fold (place_by is_before) sorted rows)
still_ascending sorted [] up = up
still_ascending sorted (row ∷ rows) up = still_ascending (place_by is_before sorted row) rows (ascending-place rows_rank sorted row up)

pub table_ascending : (rows : List Row) → IsAscending is_before (table_of 0 rows)
table_ascending rows = still_ascending [] (filter (is_in_table 0) rows) tt

not_true : (b : Bool) → not b ≡ true → b ≡ false
not_true true e = absurd cc
not_true false e = refl

at_or_above : (t s : ℤ) → int_lt t s ≡ false → s ≤ℤ t
at_or_above t s e = grind (arith, ints)

below : (t s : ℤ) → int_lt t s ≡ true → t <ℤ s
below t s e = grind (arith, ints)

pub range_is : (low high : ℤ) (row : Row) → is_in_time_range low high row ≡ true → (low ≤ℤ row.key.time) × (row.key.time <ℤ high)
range_is low high row e =
    let p = and_parts (not (int_lt row.key.time low)) (int_lt row.key.time high) e in
    (at_or_above row.key.time low (not_true (int_lt row.key.time low) p.0), below row.key.time high p.1)

pub before_high : {a t b : ℤ} → a ≤ℤ t → t <ℤ b → a <ℤ b
before_high le less = omega (arith, ints, le, less)

pub after_low : {a t b : ℤ} → a ≤ℤ t → t <ℤ b → a <ℤ b
after_low le less = omega (arith, ints, le, less)

-- ---- intervals

quotients_rise : (n a b : ℕ) → 0 < n → a ≤ b → a / n ≤ b / n
quotients_rise n a b some le = le-div (a / n) b n some (omega (arith, div-mul-le_self a n, le))

pub interval_rises : (e : ℕ) (t u : ℤ) → t ≤ℤ u → interval_of e t ≤ℤ interval_of e u
interval_rises e (pos a) (pos b) le = let up : a / 2 ^ e ≤ b / 2 ^ e = quotients_rise (2 ^ e) a b (pow_pos e) (omega (arith, ints, le)) in omega (arith, ints, up)
interval_rises e (pos a) (negsuc b) le = absurd (omega (arith, ints, le))
interval_rises e (negsuc a) (pos b) le = omega (arith, ints)
interval_rises e (negsuc a) (negsuc b) le = let up : b / 2 ^ e ≤ a / 2 ^ e = quotients_rise (2 ^ e) b a (pow_pos e) (omega (arith, ints, le)) in omega (arith, ints, up)

pub less_later : (a b c : ℤ) → a <ℤ b → b ≤ℤ c → a <ℤ c
less_later a b c less le = omega (arith, ints, less, le)

-- a greater number is another
pub later_not : (i t : ℤ) → i <ℤ t → int_eq t i ≡ false
later_not i t less = false_from_ne_true _ (λ same. let is : t ≡ i = (Decides-int_eq t i).0 same in omega (arith, ints, less, is))
