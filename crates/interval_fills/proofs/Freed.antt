-- Flights that ended.
use Rattle.std.proofs.Common.{◌≡◌, ℕ, List, [], ◌∷◌, ◌++◌, Bool, true, false, true≢false, Option, Some, None, sym, refl, ◌∙◌, subst}
use Rattle.std.specs.Prelude.{◌≢◌, if◌then◌else◌, fold, ◌||◌}
use Rattle.std.specs.List.{list_any}
use Rattle.std.specs.Option.{is_some}
use Rattle.std.proofs.lemmas.Bool.{false_from_ne_true}
use Rattle.std.proofs.lemmas.Bool.Decides.{Decides-int_eq}
use Rattle.intervals.specs.declared.interval.Interval.{Interval}
use Rattle.history_items.specs.declared.fills.Fill.{Fill}
use Rattle.history_items.specs.declared.fills.Fill.TheVariants.{Done, Freed}
use Rattle.history_items.specs.Fills.{is_same, base_in, in_flight}
use Rattle.history_items.specs.FillList.{flights_of}
use Rattle.history_items.specs.Late.{IsLate}
use Rattle.history_items.proofs.FillLists.{base_after_item, flight_after_item}
use Rattle.history_items.proofs.Flights.{flights_are_in_flight}
use Rattle.interval_fills.specs.Intervals.{NoneSince}
use Rattle.interval_fills.specs.Steps.{MachineState, freed, all_freed, filled}
use Rattle.interval_fills.proofs.Growing.{punctual}
use Rattle.interval_fills.proofs.Steps.{same_interval}

pub is_itself : (i : Interval) → is_same i i ≡ true
is_itself i = (Decides-int_eq i.0 i.0).1 refl

none_is : (o : Option ℕ) → is_some o ≡ false → o ≡ None
none_is None e = refl
none_is (Some x) e = absurd (true≢false e)

-- ---- one flight

pub freed_free : (i : Interval) (fills : List Fill) → in_flight i (freed i fills) ≡ None
freed_free i fills = go (is_some (in_flight i fills)) refl
  where
    go : (b : Bool) → is_some (in_flight i fills) ≡ b → in_flight i (if b then fills ++ Freed i ∷ [] else fills) ≡ None
    go true is = flight_after_item i fills (Freed i) ∙ (let e = is_itself i in rw e refl)
    go false is = none_is (in_flight i fills) is

-- a flight of another interval stays none
pub freed_keeps : (i j : Interval) (fills : List Fill) → in_flight i fills ≡ None → in_flight i (freed j fills) ≡ None
freed_keeps i j fills none = go (is_some (in_flight j fills))
  where
    ended : (t : Bool) (o : Option ℕ) → o ≡ None → (if t then None else o) ≡ None
    ended true o e = refl
    ended false o e = e

    go : (b : Bool) → in_flight i (if b then fills ++ Freed j ∷ [] else fills) ≡ None
    go true = flight_after_item i fills (Freed j) ∙ ended (is_same i j) (in_flight i fills) none
    go false = none

-- an end without a fill leaves each base, and the flights of other intervals
pub freed_bases : (i j : Interval) (fills : List Fill) → base_in j (freed i fills) ≡ base_in j fills
freed_bases i j fills = go (is_some (in_flight i fills))
  where
    go : (b : Bool) → base_in j (if b then fills ++ Freed i ∷ [] else fills) ≡ base_in j fills
    go true = base_after_item j fills (Freed i)
    go false = refl

freed_others : (i j : Interval) (fills : List Fill) → j ≢ i → in_flight j (freed i fills) ≡ in_flight j fills
freed_others i j fills other = go (is_some (in_flight i fills))
  where
    apart : is_same j i ≡ false
    apart = false_from_ne_true (is_same j i) (λ same. other (same_interval j i same))

    go : (b : Bool) → in_flight j (if b then fills ++ Freed i ∷ [] else fills) ≡ in_flight j fills
    go true = flight_after_item j fills (Freed i) ∙ (let e = apart in rw e refl)
    go false = refl

pub freed_rest : (i j : Interval) (fills : List Fill) → (base_in j (freed i fills) ≡ base_in j fills) × (j ≢ i → in_flight j (freed i fills) ≡ in_flight j fills)
freed_rest i j fills = (freed_bases i j fills, freed_others i j fills)

-- ---- all flights

fold_bases : (i : Interval) (flights : List Interval) (fills : List Fill) → base_in i (fold (λ ended interval. freed interval ended) fills flights) ≡ base_in i fills
fold_bases i [] fills = refl
fold_bases i (j ∷ flights) fills = fold_bases i flights (freed j fills) ∙ freed_bases j i fills

pub all_freed_bases : (i : Interval) (fills : List Fill) → base_in i (all_freed fills) ≡ base_in i fills
all_freed_bases i fills = fold_bases i (flights_of fills) fills

-- an interval that is in no flight stays in none
fold_keeps : (i : Interval) (flights : List Interval) (fills : List Fill) → in_flight i fills ≡ None → in_flight i (fold (λ ended interval. freed interval ended) fills flights) ≡ None
fold_keeps i [] fills none = none
fold_keeps i (j ∷ flights) fills none = fold_keeps i flights (freed j fills) (freed_keeps i j fills none)

-- one that is among those that end is in none once they have ended
fold_free : (i : Interval) (flights : List Interval) (fills : List Fill) → list_any (is_same i) flights ≡ true → in_flight i (fold (λ ended interval. freed interval ended) fills flights) ≡ None
fold_free i [] fills e = absurd (true≢false (sym e))
fold_free i (j ∷ flights) fills e = go (is_same i j) refl e (fold_free i flights (freed j fills))
  where
    go : (b : Bool) → is_same i j ≡ b → (b || list_any (is_same i) flights) ≡ true
        → (list_any (is_same i) flights ≡ true → in_flight i (fold (λ ended interval. freed interval ended) (freed j fills) flights) ≡ None)
        → in_flight i (fold (λ ended interval. freed interval ended) (freed j fills) flights) ≡ None
    go true is any deep = fold_keeps i flights (freed j fills) (subst (λ (k : Interval). in_flight i (freed k fills) ≡ None) (same_interval i j is) (freed_free i fills))
    go false is any deep = deep any

pub all_free : (i : Interval) (fills : List Fill) → in_flight i (all_freed fills) ≡ None
all_free i fills = go (list_any (is_same i) (flights_of fills)) refl
  where
    go : (b : Bool) → list_any (is_same i) (flights_of fills) ≡ b → in_flight i (all_freed fills) ≡ None
    go true is = fold_free i (flights_of fills) fills is
    go false is = fold_keeps i (flights_of fills) fills (none_is (in_flight i fills) (sym (flights_are_in_flight i fills) ∙ is))

-- ---- a fill that was installed

pub installed : (e : ℕ) (i : Interval) (base : ℕ) (s : MachineState) → NoneSince e i base s.history
    → (IsLate e i s.history (filled i base s).fills → ⊥) × (in_flight i (filled i base s).fills ≡ None) × (base_in i (filled i base s).fills ≡ Some base)
installed e i base s none =
    let same = is_itself i in
    let based : base_in i (s.fills ++ Done i base ∷ []) ≡ Some base = base_after_item i s.fills (Done i base) ∙ (rw same refl) in
    (punctual e i base s.history (s.fills ++ Done i base ∷ []) based none, flight_after_item i s.fills (Done i base) ∙ (rw same refl), based)
