-- A walk over the intervals that have rows.
use Rattle.std.proofs.Common.{◌≡◌, ℕ, suc, ℤ, pos, negsuc, ◌≤ℤ◌, ◌<ℤ◌, ◌*◌, ◌/◌, ◌<◌, ◌≤◌, ◌^◌, List, [], ◌∷◌, ◌++◌, Bool, true, false, Option, Some, None, refl, ap, ◌∙◌, arith}
use Rattle.std.specs.Prelude.{◌||◌, ◌+ℤ◌, ◌-ℤ◌, ◌*ℤ◌, neg_ℤ, int_lt}
use Rattle.std.specs.List.{list_any, AllByRecursion}
use Rattle.std.specs.Int.{int_gap}
use Rattle.std.specs.Option.{is_some}
use Rattle.std.proofs.lemmas.Int.{ints}
use Rattle.std.proofs.lemmas.Bool.Decides.{Decides-int_eq}
use Rattle.std.proofs.lemmas.List.Folds.{list_any-append}
use Rattle.std.proofs.lemmas.Nat.{pow_pos}
use Rattle.std.proofs.Math.Nat.{div-mul-le_self, mul-le-mul_left, mul-le-mul_right}
use Rattle.std.proofs.Math.IntN.{pos-*ℤ-pos, negsuc-*ℤ-pos}
use Rattle.std.proofs.Math.Pow.{pow_mono}
use Rattle.intervals.specs.declared.interval.Interval.{Interval}
use Rattle.intervals.specs.Interval.{interval_of}
use Rattle.history_items.specs.declared.fills.Fill.{Fill}
use Rattle.history_items.specs.declared.items.Item.{Item}
use Rattle.history_items.specs.Fills.{is_same, base_in, in_flight}
use Rattle.history_items.specs.Late.{HasRow, StandsIn, IsLastIn, last_in}
use Rattle.history_items.proofs.Late.{last_is_greatest}
use Rattle.late_marks.specs.Marks.{Marks, has_rows}
use Rattle.fill_tracker.specs.FillTracker.{AreMarksOf, mark_by}
use Rattle.interval_fills.proofs.Times.{around}
use Rattle.interval_walks.specs.Turns.{IntervalsRise, MeetsRange, CoverRange}

-- ---- numbers

pub gap_less : (a b c : ℤ) → a <ℤ b → b ≤ℤ c → int_gap b c < int_gap a c
gap_less (pos a) (pos b) (pos c) less le = omega (arith, ints, less, le)
gap_less (pos a) (pos b) (negsuc c) less le = absurd (omega (arith, ints, less, le))
gap_less (pos a) (negsuc b) (pos c) less le = absurd (omega (arith, ints, less))
gap_less (pos a) (negsuc b) (negsuc c) less le = absurd (omega (arith, ints, less))
gap_less (negsuc a) (pos b) (pos c) less le = omega (arith, ints, less, le)
gap_less (negsuc a) (pos b) (negsuc c) less le = absurd (omega (arith, ints, less, le))
gap_less (negsuc a) (negsuc b) (pos c) less le = omega (arith, ints, less, le)
gap_less (negsuc a) (negsuc b) (negsuc c) less le = omega (arith, ints, less, le)

is_small : (q a : ℕ) → q * 2 ≤ a → pos a <ℤ pos (2 ^ 63) → pos q <ℤ pos (2 ^ 62)
is_small q a half less = omega (arith, ints, half, less)

negative_small : (q : ℕ) → negsuc q <ℤ pos (2 ^ 62)
negative_small q = omega (arith, ints)

both_pos : (x y : ℕ) → x ≤ y → pos x ≤ℤ pos y
both_pos x y le = omega (arith, ints, le)

neg_pos : (x y : ℕ) → neg_ℤ (pos x) ≤ℤ pos y
neg_pos x y = omega (arith, ints)

both_neg : (x y : ℕ) → x ≤ y → neg_ℤ (pos y) ≤ℤ neg_ℤ (pos x)
both_neg x y le = omega (arith, ints, le)

pub interval_small : (exponent : ℕ) (t : ℤ) → 18 ≤ exponent → t <ℤ pos (2 ^ 63) → interval_of exponent t <ℤ pos (2 ^ 62)
interval_small exponent (pos a) some less =
    let below : a / 2 ^ exponent * 2 ^ exponent ≤ a = div-mul-le_self a (2 ^ exponent) in
    let long : 2 ≤ 2 ^ exponent = pow_mono {i = 1} {j = exponent} (omega (arith, some)) in
    let half : a / 2 ^ exponent * 2 ≤ a / 2 ^ exponent * 2 ^ exponent = mul-le-mul_left (a / 2 ^ exponent) long in
    is_small (a / 2 ^ exponent) a (omega (arith, below, half)) less
interval_small exponent (negsuc a) some less = negative_small (a / 2 ^ exponent)

le_then_lt : (x y z : ℤ) → x ≤ℤ y → y <ℤ z → x <ℤ z
le_then_lt x y z le lt = omega (arith, ints, le, lt)

lt_then_le : (x y z : ℤ) → x <ℤ y → y ≤ℤ z → x <ℤ z
lt_then_le x y z lt le = omega (arith, ints, lt, le)

lt_then_last : (x high z : ℤ) → x <ℤ high → (high -ℤ pos 1) <ℤ z → x <ℤ z
lt_then_last x high z lt last = omega (arith, ints, lt, last)

le_last : (x high : ℤ) → x ≤ℤ (high -ℤ pos 1) → x <ℤ high
le_last x high le = omega (arith, ints, le)

below_next : (x y : ℤ) → x <ℤ (y +ℤ pos 1) → x ≤ℤ y
below_next x y lt = omega (arith, ints, lt)

next_at_most : (x y : ℤ) → x ≤ℤ y → (x +ℤ pos 1) ≤ℤ (y +ℤ pos 1)
next_at_most x y le = omega (arith, ints, le)

-- a product by a length keeps the order
scaled : (n : ℕ) (a b : ℤ) → a ≤ℤ b → (a *ℤ pos n) ≤ℤ (b *ℤ pos n)
scaled n (pos p) (pos q) le =
    let less : p * n ≤ q * n = mul-le-mul_right {m = p} {n = q} n (omega (arith, ints, le)) in
    rw (pos-*ℤ-pos p n, pos-*ℤ-pos q n) (both_pos (p * n) (q * n) less)
scaled n (pos p) (negsuc q) le = absurd (omega (arith, ints, le))
scaled n (negsuc p) (pos q) le = rw (negsuc-*ℤ-pos p n, pos-*ℤ-pos q n) (neg_pos (suc p * n) (q * n))
scaled n (negsuc p) (negsuc q) le =
    let less : suc q * n ≤ suc p * n = mul-le-mul_right {m = suc q} {n = suc p} n (omega (arith, ints, le)) in
    rw (negsuc-*ℤ-pos p n, negsuc-*ℤ-pos q n) (both_neg (suc q * n) (suc p * n) less)

not_both : (x y : ℤ) → x <ℤ y → y ≤ℤ x → ⊥
not_both x y lt le = omega (arith, ints, lt, le)

-- and where one product is below another, so is its factor
factor_below : (n : ℕ) (a b : ℤ) (c : Bool) → int_lt a b ≡ c → (a *ℤ pos n) <ℤ (b *ℤ pos n) → a <ℤ b
factor_below n a b true e less = grind (arith, ints)
factor_below n a b false e less =
    let back : b ≤ℤ a = grind (arith, ints) in
    absurd (not_both (a *ℤ pos n) (b *ℤ pos n) less (scaled n b a back))

-- an interval that a range meets lies between those of its first and its last time
pub meets_between : (exponent : ℕ) (low high : ℤ) (i : Interval) → MeetsRange exponent low high i → (interval_of exponent low ≤ℤ i.0) × (i.0 ≤ℤ interval_of exponent (high -ℤ pos 1))
meets_between exponent low high i m =
    let n = 2 ^ exponent in
    let f = interval_of exponent low in
    let l = interval_of exponent (high -ℤ pos 1) in
    let first = around n (pow_pos exponent) low in
    let last = around n (pow_pos exponent) (high -ℤ pos 1) in (
      below_next f i.0 (factor_below n f (i.0 +ℤ pos 1) _ refl (le_then_lt (f *ℤ pos n) low ((i.0 +ℤ pos 1) *ℤ pos n) first.0 m.ends)),
      below_next i.0 l (factor_below n i.0 (l +ℤ pos 1) _ refl (lt_then_last (i.0 *ℤ pos n) high ((l +ℤ pos 1) *ℤ pos n) m.begins last.1)),
    )

-- and one between those meets it
between_meets : (exponent : ℕ) (low high : ℤ) (i : Interval) → interval_of exponent low ≤ℤ i.0 → i.0 ≤ℤ interval_of exponent (high -ℤ pos 1) → MeetsRange exponent low high i
between_meets exponent low high i least most =
    let n = 2 ^ exponent in
    let f = interval_of exponent low in
    let l = interval_of exponent (high -ℤ pos 1) in
    let first = around n (pow_pos exponent) low in
    let last = around n (pow_pos exponent) (high -ℤ pos 1) in
    let begins : (i.0 *ℤ pos n) <ℤ high = le_then_lt (i.0 *ℤ pos n) (l *ℤ pos n) high (scaled n i.0 l most) (le_last (l *ℤ pos n) high last.0) in
    let ends : low <ℤ ((i.0 +ℤ pos 1) *ℤ pos n) = lt_then_le low ((f +ℤ pos 1) *ℤ pos n) ((i.0 +ℤ pos 1) *ℤ pos n) first.1 (scaled n (f +ℤ pos 1) (i.0 +ℤ pos 1) (next_at_most f i.0 least)) in
    record { begins = begins; ends = ends }

-- ---- an interval more

-- each interval lies between a first and a last
abbrev pub AllBetween : ℤ → ℤ → List Interval → Type 0
AllBetween first last is = AllByRecursion (λ i. (first ≤ℤ i.0) × (i.0 ≤ℤ last)) is

pub all_meet : (exponent : ℕ) (low high : ℤ) (is : List Interval) → AllBetween (interval_of exponent low) (interval_of exponent (high -ℤ pos 1)) is → AllByRecursion (MeetsRange exponent low high) is
all_meet exponent low high [] all = tt
all_meet exponent low high (i ∷ is) all = (between_meets exponent low high i all.0.0 all.0.1, all_meet exponent low high is all.1)

abbrev pub AllBelow : List Interval → ℤ → Type 0
AllBelow is at = AllByRecursion (λ i. i.0 <ℤ at) is

pub below_push : (is : List Interval) (x : Interval) (at next : ℤ) → AllBelow is at → at ≤ℤ x.0 → x.0 <ℤ next → AllBelow (is ++ x ∷ []) next
below_push [] x at next all le less = (less, tt)
below_push (i ∷ is) x at next all le less = (omega (arith, ints, all.0, le, less), below_push is x at next all.1 le less)

all_push : (P : Interval → Type 0) (is : List Interval) (x : Interval) → AllByRecursion P is → P x → AllByRecursion P (is ++ x ∷ [])
all_push P [] x all here = (here, tt)
all_push P (i ∷ is) x all here = (all.0, all_push P is x all.1 here)

pub between_push : (first last : ℤ) (is : List Interval) (x : Interval) → AllBetween first last is → first ≤ℤ x.0 → x.0 ≤ℤ last → AllBetween first last (is ++ x ∷ [])
between_push first last is x all least most = all_push (λ i. (first ≤ℤ i.0) × (i.0 ≤ℤ last)) is x all (least, most)

pub rows_push : (marks : Marks) (is : List Interval) (x : Interval) → AllByRecursion (λ i. has_rows marks i ≡ true) is → has_rows marks x ≡ true → AllByRecursion (λ i. has_rows marks i ≡ true) (is ++ x ∷ [])
rows_push marks is x all here = all_push (λ i. has_rows marks i ≡ true) is x all here

pub rising_push : (is : List Interval) (x : Interval) (at : ℤ) → IntervalsRise is → AllBelow is at → at ≤ℤ x.0 → IntervalsRise (is ++ x ∷ [])
rising_push [] x at rising all le = (tt, tt)
rising_push (i ∷ is) x at rising all le = (all_push (λ j. i.0 <ℤ j.0) is x rising.0 (omega (arith, ints, all.0, le)), rising_push is x at rising.1 all.1 le)

-- the intervals with rows from the first up to a place are among these
abbrev pub CoversTo : Marks → ℤ → ℤ → List Interval → Type 0
CoversTo marks first at is = (j : Interval) → has_rows marks j ≡ true → first ≤ℤ j.0 → j.0 <ℤ at → list_any (is_same j) is ≡ true

same_is : (a b : Interval) → a.0 ≡ b.0 → is_same a b ≡ true
same_is a b e = (Decides-int_eq a.0 b.0).1 e

or_before : (a b : Bool) → a ≡ true → (a || b) ≡ true
or_before true b e = refl
or_before false b e = absurd cc

or_last : (a b : Bool) → b ≡ true → (a || (b || false)) ≡ true
or_last true b e = refl
or_last false true e = refl
or_last false false e = absurd cc

pub covers_push : (marks : Marks) (first at : ℤ) (is : List Interval) (x : Interval) → CoversTo marks first at is
    → ((j : Interval) → has_rows marks j ≡ true → at ≤ℤ j.0 → x.0 ≤ℤ j.0) → CoversTo marks first (x.0 +ℤ pos 1) (is ++ x ∷ [])
covers_push marks first at is x covers least j rows le less = list_any-append (is_same j) is (x ∷ []) ∙ go (int_lt j.0 at) refl
  where
    go : (b : Bool) → int_lt j.0 at ≡ b → (list_any (is_same j) is || list_any (is_same j) (x ∷ [])) ≡ true
    go true e =
        let before : j.0 <ℤ at = grind (arith, ints, e) in
        or_before (list_any (is_same j) is) (list_any (is_same j) (x ∷ [])) (covers j rows le before)
    go false e =
        let after : at ≤ℤ j.0 = grind (arith, ints, e) in
        let least_is : x.0 ≤ℤ j.0 = least j rows after in
        let same : j.0 ≡ x.0 = omega (arith, ints, least_is, less) in
        or_last (list_any (is_same j) is) (is_same j x) (same_is j x same)

-- ---- all of a range

-- an interval with a row has a mark
pub stands_marked : (exponent : ℕ) (marks : Marks) (fills : List Fill) (history : List Item) (i : Interval) (p : ℕ) → AreMarksOf exponent history fills marks → StandsIn exponent i p history → has_rows marks i ≡ true
stands_marked exponent marks fills history i p book stands = go (last_in exponent i history) refl (last_is_greatest exponent i history)
  where
    go : (o : Option ℕ) → last_in exponent i history ≡ o → IsLastIn exponent i history o → has_rows marks i ≡ true
    go None is last = let row : HasRow exponent i history = record { position = p; stands = stands } in absurd (last row)
    go (Some l) is last = ap is_some (book.each i ∙ ap (λ (o : Option ℕ). mark_by o (base_in i fills) (is_some (in_flight i fills))) is)

pub covers_all : (exponent : ℕ) (marks : Marks) (low high : ℤ) (at : ℤ) (is : List Interval) → CoversTo marks (interval_of exponent low) at is → ((j : Interval) → has_rows marks j ≡ true → at ≤ℤ j.0 → interval_of exponent (high -ℤ pos 1) <ℤ j.0)
    → (fills : List Fill) (history : List Item) → AreMarksOf exponent history fills marks → CoverRange exponent is low high history
covers_all exponent marks low high at is covers none fills history book i p stands meets = go (int_lt i.0 at) refl
  where
    rows : has_rows marks i ≡ true
    rows = stands_marked exponent marks fills history i p book stands

    between : (interval_of exponent low ≤ℤ i.0) × (i.0 ≤ℤ interval_of exponent (high -ℤ pos 1))
    between = meets_between exponent low high i meets

    go : (b : Bool) → int_lt i.0 at ≡ b → list_any (is_same i) is ≡ true
    go true e = covers i rows between.0 (let before : i.0 <ℤ at = grind (arith, ints, e) in before)
    go false e = absurd (let after : at ≤ℤ i.0 = grind (arith, ints, e) in let past = none i rows after in omega (arith, ints, past, between.1))
