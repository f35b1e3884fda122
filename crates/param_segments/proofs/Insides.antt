-- Times between two of an interval are in it.
use Rattle.std.proofs.Common.{◌≡◌, ◌∙◌, ℕ, ℤ, pos, negsuc, ◌≤ℤ◌, ◌/◌, ◌<◌, ◌≤◌, ◌^◌, List, [], ◌∷◌, length, sym, ap, arith}
use Rattle.std.specs.Int.{int_div_euclid}
use Rattle.std.specs.List.{AllByRecursion}
use Rattle.std.specs.List.Sorted.{IsStrictlySortedBy}
use Rattle.std.proofs.Math.Nat.{div-mul-le_self}
use Rattle.std.proofs.lemmas.Int.{ints}
use Rattle.std.proofs.lemmas.Nat.{le-div, pow_pos}
use Rattle.arch_types.specs.declared.key.Key.{Key}
use Rattle.arch_types.specs.Order.{key_cmp}
use Rattle.intervals.specs.Interval.{interval_of}
use Rattle.segment_codec.specs.Outline.{first_of, last_of}
use Rattle.segment_codec.specs.Segment.{IsSegment}
use Rattle.segment_codec.specs.declared.segment.Segment.{Segment}
use Rattle.param_segments.specs.RowPlaces.{IsInside}
use Rattle.param_segments.proofs.RangeCells.{times_rise}

-- ---- numbers

div_rises : (k a b : ℕ) → 0 < k → a ≤ b → a / k ≤ b / k
div_rises k a b some le = let low = div-mul-le_self a k in le-div (a / k) b k some (omega (arith, low, le))

le_pos : (a b : ℕ) → pos a ≤ℤ pos b → a ≤ b
le_pos a b h = omega (arith, ints, h)

le_neg : (a b : ℕ) → negsuc a ≤ℤ negsuc b → b ≤ a
le_neg a b h = omega (arith, ints, h)

not_up : (a b : ℕ) → pos a ≤ℤ negsuc b → ⊥
not_up a b h = omega (arith, ints, h)

same_pos : (a b : ℕ) → pos a ≡ pos b → a ≡ b
same_pos a b e = omega (arith, ints, e)

same_neg : (a b : ℕ) → negsuc a ≡ negsuc b → a ≡ b
same_neg a b e = omega (arith, ints, e)

apart : (a b : ℕ) → negsuc a ≡ pos b → ⊥
apart a b e = omega (arith, ints, e)

only : (x y z : ℕ) → x ≤ y → y ≤ z → x ≡ z → y ≡ x
only x y z low high e = omega (arith, low, high, e)

only_down : (x y z : ℕ) → z ≤ y → y ≤ x → x ≡ z → y ≡ x
only_down x y z low high e = omega (arith, low, high, e)

-- ---- a time between two of an interval

between : (n : ℕ) → 0 < n → (a t b i : ℤ) → a ≤ℤ t → t ≤ℤ b → int_div_euclid a (pos n) ≡ i → int_div_euclid b (pos n) ≡ i → int_div_euclid t (pos n) ≡ i
between n some (pos a) (pos t) (pos b) i low high e f =
    ap pos (only (a / n) (t / n) (b / n) (div_rises n a t some (le_pos a t low)) (div_rises n t b some (le_pos t b high)) (same_pos (a / n) (b / n) (e ∙ sym f))) ∙ e
between n some (negsuc a) (negsuc t) (negsuc b) i low high e f =
    ap negsuc (only_down (a / n) (t / n) (b / n) (div_rises n b t some (le_neg t b high)) (div_rises n t a some (le_neg a t low)) (same_neg (a / n) (b / n) (e ∙ sym f))) ∙ e
between n some (pos a) (negsuc t) b i low high e f = absurd (not_up a t low)
between n some a (pos t) (negsuc b) i low high e f = absurd (not_up t b high)
between n some (negsuc a) t (pos b) i low high e f = absurd (apart (a / n) (b / n) (e ∙ sym f))

some_long : (e : ℕ) → 0 < 2 ^ e
some_long e = pow_pos e

-- ---- the keys of a segment

refl_le : (t : ℤ) → t ≤ℤ t
refl_le t = omega (arith, ints)

le_on : (a b c : ℤ) → a ≤ℤ b → b ≤ℤ c → a ≤ℤ c
le_on a b c low high = omega (arith, ints, low, high)

up_to_last : (k : Key) (ks : List Key) → IsStrictlySortedBy key_cmp (k ∷ ks) → k.time ≤ℤ (last_of (k ∷ ks)).time
unfolding IsStrictlySortedBy
up_to_last k [] up = refl_le k.time
up_to_last k (j ∷ ks) up = le_on k.time j.time (last_of (j ∷ ks)).time (times_rise k j up.0.0) (up_to_last j ks up.1)

abbrev IsIn : ℕ → ℤ → Key → Type 0
IsIn e i k = interval_of e k.time ≡ i

all_inside : (e : ℕ) (i : ℤ) (ks : List Key) → IsStrictlySortedBy key_cmp ks → IsIn e i (first_of ks) → IsIn e i (last_of ks) → AllByRecursion (IsIn e i) ks
unfolding IsStrictlySortedBy
all_inside e i [] up first last = tt
all_inside e i (k ∷ []) up first last = (first, tt)
all_inside e i (k ∷ j ∷ ks) up first last =
    let next = between (2 ^ e) (some_long e) k.time j.time (last_of (j ∷ ks)).time i (times_rise k j up.0.0) (up_to_last j ks up.1) first last in
    (first, all_inside e i (j ∷ ks) up.1 next last)

last_in : (e : ℕ) (i : ℤ) (k : Key) (ks : List Key) → AllByRecursion (IsIn e i) (k ∷ ks) → IsIn e i (last_of (k ∷ ks))
last_in e i k [] all = all.0
last_in e i k (j ∷ ks) all = last_in e i j ks all.1

ends_of_keys : (e : ℕ) (i : ℤ) (ks : List Key) → 1 ≤ length ks → AllByRecursion (IsIn e i) ks → IsIn e i (first_of ks) × IsIn e i (last_of ks)
ends_of_keys e i [] some all = absurd (omega (arith, some))
ends_of_keys e i (k ∷ ks) some all = (all.0, last_in e i k ks all)

-- the times of a segment's rows are in an interval where those of the first and the last are
pub inside_by_ends : (e : ℕ) (i : ℤ) (s : Segment) → IsSegment s → interval_of e (first_of s.keys).time ≡ i → interval_of e (last_of s.keys).time ≡ i → IsInside e i s
inside_by_ends e i s is first last = all_inside e i s.keys is.rising first last

pub ends_inside : (e : ℕ) (i : ℤ) (s : Segment) → IsSegment s → IsInside e i s → (interval_of e (first_of s.keys).time ≡ i) × (interval_of e (last_of s.keys).time ≡ i)
ends_inside e i s is all = ends_of_keys e i s.keys is.some_rows all
