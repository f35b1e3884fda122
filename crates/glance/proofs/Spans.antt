-- The span of a range has the intervals that the range meets.
use Rattle.std.proofs.Common.{◌≡◌, ℕ, ℤ, pos, ◌≤ℤ◌, ◌<ℤ◌, Bool, true, false, [], ◌∷◌, refl, sym, arith}
use Rattle.std.specs.Prelude.{◌&&◌, ◌-ℤ◌, int_le, int_lt}
use Rattle.std.proofs.lemmas.Bool.{and_parts}
use Rattle.std.proofs.lemmas.Int.{ints}
use Rattle.asks.specs.declared.ask.Request.{Request}
use Rattle.intervals.specs.declared.interval.Interval.{Interval}
use Rattle.intervals.specs.Interval.{interval_end, interval_of, interval_start}
use Rattle.interval_walks.specs.Turns.{MeetsRange, meets_range}
use Rattle.interval_walks.proofs.Covering.{all_meet, meets_between}
use Rattle.glance.specs.declared.span.Span.{Span}
use Rattle.glance.specs.Asked.{is_asked, is_within}

-- ---- numbers

less_is : (a b : ℤ) → a <ℤ b → int_lt a b ≡ true
less_is a b less = grind (arith, ints, less)

less_from : (a b : ℤ) → int_lt a b ≡ true → a <ℤ b
less_from a b test = grind (arith, ints, test)

most_is : (a b : ℤ) → a ≤ℤ b → int_le a b ≡ true
most_is a b most = grind (arith, ints, most)

most_from : (a b : ℤ) → int_le a b ≡ true → a ≤ℤ b
most_from a b test = grind (arith, ints, test)

both_is : (a b : Bool) → a ≡ true → b ≡ true → (a && b) ≡ true
both_is true b p q = q
both_is false b p q = absurd cc

-- two tests are one where each passes what the other does
one_test : (a b : Bool) → (a ≡ true → b ≡ true) → (b ≡ true → a ≡ true) → a ≡ b
one_test true b on back = sym (on refl)
one_test false true on back = back refl
one_test false false on back = refl

-- ---- what is asked for

pub asked_is : (exponent : ℕ) (request : Request) (i : Interval) → request.from <ℤ request.to → MeetsRange exponent request.from request.to i → is_asked exponent request i ≡ true
asked_is exponent request i some meets =
    let begins = less_is (interval_start exponent i) request.to meets.begins in
    let ends = less_is request.from (interval_end exponent i) meets.ends in
    both_is (int_lt request.from request.to) (meets_range exponent request.from request.to i) (less_is request.from request.to some) (both_is (int_lt (interval_start exponent i) request.to) (int_lt request.from (interval_end exponent i)) begins ends)

pub asked_from : (exponent : ℕ) (request : Request) (i : Interval) → is_asked exponent request i ≡ true → (request.from <ℤ request.to) × MeetsRange exponent request.from request.to i
asked_from exponent request i test =
    let a = and_parts (int_lt request.from request.to) (meets_range exponent request.from request.to i) test in
    let b = and_parts (int_lt (interval_start exponent i) request.to) (int_lt request.from (interval_end exponent i)) a.1 in
    (less_from request.from request.to a.0, record { begins = less_from (interval_start exponent i) request.to b.0; ends = less_from request.from (interval_end exponent i) b.1 })

-- ---- spans

-- a span from the interval of a range's first time to that of its last one
pub span_is : (exponent : ℕ) (request : Request) (span : Span) (i : Interval) → request.from <ℤ request.to → span.first.0 ≡ interval_of exponent request.from → span.last.0 ≡ interval_of exponent (request.to -ℤ pos 1)
    → is_within span i ≡ is_asked exponent request i
span_is exponent request span i some first last = one_test (is_within span i) (is_asked exponent request i) on back
  where
    on : is_within span i ≡ true → is_asked exponent request i ≡ true
    on test =
        let parts = and_parts (int_le span.first.0 i.0) (int_le i.0 span.last.0) test in
        let low : interval_of exponent request.from ≤ℤ i.0 = rw (← first) (most_from span.first.0 i.0 parts.0) in
        let high : i.0 ≤ℤ interval_of exponent (request.to -ℤ pos 1) = rw (← last) (most_from i.0 span.last.0 parts.1) in
        asked_is exponent request i some (all_meet exponent request.from request.to (i ∷ []) ((low, high), tt)).0

    back : is_asked exponent request i ≡ true → is_within span i ≡ true
    back test =
        let between = meets_between exponent request.from request.to i (asked_from exponent request i test).1 in
        let low : span.first.0 ≤ℤ i.0 = rw first between.0 in
        let high : i.0 ≤ℤ span.last.0 = rw last between.1 in
        both_is (int_le span.first.0 i.0) (int_le i.0 span.last.0) (most_is span.first.0 i.0 low) (most_is i.0 span.last.0 high)

-- an empty one
pub no_span : (exponent : ℕ) (request : Request) (span : Span) (i : Interval) → request.to ≤ℤ request.from → span.first.0 ≡ pos 1 → span.last.0 ≡ pos 0 → is_within span i ≡ is_asked exponent request i
no_span exponent request span i empty first last = one_test (is_within span i) (is_asked exponent request i) on back
  where
    on : is_within span i ≡ true → is_asked exponent request i ≡ true
    on test =
        let parts = and_parts (int_le span.first.0 i.0) (int_le i.0 span.last.0) test in
        let low : pos 1 ≤ℤ i.0 = rw (← first) (most_from span.first.0 i.0 parts.0) in
        let high : i.0 ≤ℤ pos 0 = rw (← last) (most_from i.0 span.last.0 parts.1) in
        absurd (omega (arith, ints, low, high))

    back : is_asked exponent request i ≡ true → is_within span i ≡ true
    back test = let less = (asked_from exponent request i test).0 in absurd (omega (arith, ints, empty, less))
