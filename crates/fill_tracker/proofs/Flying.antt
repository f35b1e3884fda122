-- The intervals in flight, as a list and by the fill list.
use Rattle.std.proofs.Common.{◌≡◌, ◌+◌, ◌≤◌, List, [], ◌∷◌, ◌++◌, length, Bool, true, false, cond, Some, None, refl, sym, ap, subst, ◌∙◌, arith}
use Rattle.std.specs.Prelude.{fold, not, ◌||◌, slice_get}
use Rattle.std.specs.List.{list_any}
use Rattle.std.specs.Option.{is_some}
use Rattle.std.proofs.lemmas.List.Sums.{fold-append}
use Rattle.intervals.specs.declared.interval.Interval.{Interval}
use Rattle.history_items.specs.declared.fills.Fill.{Fill}
use Rattle.history_items.specs.declared.fills.Fill.TheVariants.{Freed}
use Rattle.history_items.specs.Fills.{is_same, in_flight}
use Rattle.history_items.specs.FillList.{flights_without, flights_after, flights_of}
use Rattle.history_items.proofs.Flights.{flights_are_in_flight}
use Rattle.interval_fills.specs.Steps.{freed, all_freed}
use Rattle.interval_fills.proofs.Freed.{is_itself, freed_free, freed_keeps}
use Rattle.interval_fills.proofs.Steps.{same_interval}

pub flights_push : (fills : List Fill) (item : Fill) → flights_of (fills ++ item ∷ []) ≡ flights_after (flights_of fills) item
flights_push fills item = fold-append flights_after [] fills (item ∷ [])

-- ---- one flight

pub length_without : (i : Interval) (fl : List Interval) → length (flights_without i fl) ≤ length fl
length_without i [] = omega arith
length_without i (f ∷ fl) = go (is_same i f) (length_without i fl)
  where
    go : (b : Bool) → length (flights_without i fl) ≤ length fl → length (cond (not b) (f ∷ flights_without i fl) (flights_without i fl)) ≤ length (f ∷ fl)
    go true rest = omega (arith, rest)
    go false rest = omega (arith, rest)

pub fewer_without : (i : Interval) (fl : List Interval) → list_any (is_same i) fl ≡ true → length (flights_without i fl) + 1 ≤ length fl
fewer_without i [] any = absurd cc
fewer_without i (f ∷ fl) any = go (is_same i f) any (fewer_without i fl)
  where
    go : (b : Bool) → (b || list_any (is_same i) fl) ≡ true → (list_any (is_same i) fl ≡ true → length (flights_without i fl) + 1 ≤ length fl) → length (cond (not b) (f ∷ flights_without i fl) (flights_without i fl)) + 1 ≤ length (f ∷ fl)
    go true some deep = omega (arith, length_without i fl)
    go false some deep = omega (arith, deep some)

in_flight_by : (i : Interval) (fills : List Fill) (flights : List Interval) (b : Bool) → flights ≡ flights_of fills → list_any (is_same i) flights ≡ b → is_some (in_flight i fills) ≡ b
in_flight_by i fills flights b is any = sym (flights_are_in_flight i fills) ∙ ap (list_any (is_same i)) (sym is) ∙ any

pub flies : (i : Interval) (fills : List Fill) (flights : List Interval) → flights ≡ flights_of fills → list_any (is_same i) flights ≡ true → is_some (in_flight i fills) ≡ true
flies i fills flights is any = in_flight_by i fills flights true is any

pub freed_there : (i : Interval) (fills : List Fill) (flights : List Interval) → flights ≡ flights_of fills → list_any (is_same i) flights ≡ true → fills ++ Freed i ∷ [] ≡ freed i fills
freed_there i fills flights is any = let some = in_flight_by i fills flights true is any in rw some refl

pub freed_none : (i : Interval) (fills : List Fill) (flights : List Interval) → flights ≡ flights_of fills → list_any (is_same i) flights ≡ false → fills ≡ freed i fills
freed_none i fills flights is any = let none = in_flight_by i fills flights false is any in rw none refl

-- ---- all flights

-- an interval that isn't in flight may be left out
skipped : (i : Interval) (flights : List Interval) (fills : List Fill) → in_flight i fills ≡ None →
    fold (λ ended interval. freed interval ended) fills (flights_without i flights) ≡ fold (λ ended interval. freed interval ended) fills flights
skipped i [] fills none = refl
skipped i (j ∷ flights) fills none = go (is_same i j) refl (skipped i flights)
  where
    nothing : is_same i j ≡ true → freed j fills ≡ fills
    nothing same =
        let free : is_some (in_flight j fills) ≡ false = ap is_some (subst (λ (k : Interval). in_flight k fills ≡ None) (same_interval i j same) none) in
        rw free refl

    go : (b : Bool) → is_same i j ≡ b
        → ((f : List Fill) → in_flight i f ≡ None → fold (λ ended interval. freed interval ended) f (flights_without i flights) ≡ fold (λ ended interval. freed interval ended) f flights)
        → fold (λ ended interval. freed interval ended) fills (cond (not b) (j ∷ flights_without i flights) (flights_without i flights))
        ≡ fold (λ ended interval. freed interval ended) (freed j fills) flights
    go true same deep = deep fills none ∙ ap (λ (f : List Fill). fold (λ ended interval. freed interval ended) f flights) (sym (nothing same))
    go false same deep = deep (freed j fills) (freed_keeps i j fills none)

first_of : (flights : List Interval) (i : Interval) → slice_get flights 0 ≡ Some i → (rest : List Interval) × (flights ≡ i ∷ rest)
first_of [] i at = absurd cc
first_of (j ∷ rest) i at = (rest, let same : j ≡ i = cc in ap (λ (k : Interval). k ∷ rest) same)

among : (i : Interval) (rest : List Interval) → list_any (is_same i) (i ∷ rest) ≡ true
among i rest = let same = is_itself i in rw same refl

without_first : (i : Interval) (rest : List Interval) → flights_without i (i ∷ rest) ≡ flights_without i rest
without_first i rest = let same = is_itself i in rw same refl

freed_flights : (i : Interval) (fills : List Fill) → is_some (in_flight i fills) ≡ true → flights_of (freed i fills) ≡ flights_without i (flights_of fills)
freed_flights i fills some = (rw some refl) ∙ flights_push fills (Freed i)

-- once the first flight ended, the rest end as before
pub settles_more : (fills : List Fill) (i : Interval) → slice_get (flights_of fills) 0 ≡ Some i → all_freed (freed i fills) ≡ all_freed fills
settles_more fills i at =
    let first = first_of (flights_of fills) i at in
    let some = flies i fills (flights_of fills) refl (ap (list_any (is_same i)) first.1 ∙ among i first.0) in
    let left : flights_of (freed i fills) ≡ flights_without i first.0 = freed_flights i fills some ∙ ap (flights_without i) first.1 ∙ without_first i first.0 in
    ap (fold (λ ended interval. freed interval ended) (freed i fills)) left
    ∙ skipped i first.0 (freed i fills) (freed_free i fills)
    ∙ ap (fold (λ ended interval. freed interval ended) fills) (sym first.1)

-- and one is left less
pub fewer_flights : (fills : List Fill) (i : Interval) → slice_get (flights_of fills) 0 ≡ Some i → length (flights_of (freed i fills)) + 1 ≤ length (flights_of fills)
fewer_flights fills i at =
    let first = first_of (flights_of fills) i at in
    let any : list_any (is_same i) (flights_of fills) ≡ true = ap (list_any (is_same i)) first.1 ∙ among i first.0 in
    let some = flies i fills (flights_of fills) refl any in
    omega (arith, ap length (freed_flights i fills some), fewer_without i (flights_of fills) any)

none_left : (flights : List Interval) → slice_get flights 0 ≡ None → flights ≡ []
none_left [] at = refl
none_left (i ∷ rest) at = absurd cc

-- where no flight is left, all have ended
pub settled : (fills : List Fill) → slice_get (flights_of fills) 0 ≡ None → fills ≡ all_freed fills
settled fills at = ap (fold (λ ended interval. freed interval ended) fills) (sym (none_left (flights_of fills) at))
