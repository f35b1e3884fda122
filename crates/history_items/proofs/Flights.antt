-- The intervals in flight, as a list and by the fill list.
use Rattle.std.proofs.Common.{◌≡◌, ℕ, List, [], ◌∷◌, Bool, true, false, cond, Option, Some, None, refl, ap, subst, ◌∙◌}
use Rattle.std.specs.Prelude.{fold, not, ◌||◌, ℤ, if◌then◌else◌}
use Rattle.std.specs.List.{list_any}
use Rattle.std.specs.Option.{is_some}
use Rattle.std.proofs.lemmas.List.Folds.{list_any-append}
use Rattle.std.proofs.lemmas.Bool.Decides.{Decides-int_eq}
use Rattle.intervals.specs.declared.interval.Interval.{Interval}
use Rattle.history_items.specs.declared.fills.Fill.{Fill}
use Rattle.history_items.specs.declared.fills.Fill.TheVariants.{Begun, Done, Freed, Fault, Closed}
use Rattle.history_items.specs.FillList.{flights_without, flights_after, flights_of}
use Rattle.history_items.specs.Fills.{is_same, in_flight, flight_after}

same_is : (a b : Interval) → is_same a b ≡ true → a ≡ b
same_is a b e = ap (λ (n : ℤ). let i : Interval = record { 0 = n } in i) ((Decides-int_eq a.0 b.0).0 e)

-- ---- one interval taken out

any_without_same : (i : Interval) (fl : List Interval) → list_any (is_same i) (flights_without i fl) ≡ false
any_without_same i [] = refl
any_without_same i (f ∷ fl) = go (is_same i f) refl (any_without_same i fl)
  where
    go : (b : Bool) → is_same i f ≡ b → list_any (is_same i) (flights_without i fl) ≡ false → list_any (is_same i) (cond (not b) (f ∷ flights_without i fl) (flights_without i fl)) ≡ false
    go true is rest = rest
    go false is rest = rw is rest

any_without_other : (i j : Interval) (fl : List Interval) → is_same i j ≡ false → list_any (is_same i) (flights_without j fl) ≡ list_any (is_same i) fl
any_without_other i j [] apart = refl
any_without_other i j (f ∷ fl) apart = go (is_same j f) refl (any_without_other i j fl apart)
  where
    go : (b : Bool) → is_same j f ≡ b → list_any (is_same i) (flights_without j fl) ≡ list_any (is_same i) fl → list_any (is_same i) (cond (not b) (f ∷ flights_without j fl) (flights_without j fl)) ≡ (is_same i f || list_any (is_same i) fl)
    go true is rest =
        let none : is_same i f ≡ false = subst (λ (k : Interval). is_same i k ≡ false) (same_is j f is) apart in
        rw none rest
    go false is rest = ap (λ (b : Bool). is_same i f || b) rest

-- ---- in the list exactly where in flight

or_true : (x : Bool) → (x || (true || false)) ≡ true
or_true true = refl
or_true false = refl

or_false : (x : Bool) → (x || (false || false)) ≡ x
or_false true = refl
or_false false = refl

ended : (i j : Interval) (fl : List Interval) (o : Option ℕ) → list_any (is_same i) fl ≡ is_some o → list_any (is_same i) (flights_without j fl) ≡ is_some (if is_same i j then None else o)
ended i j fl o e = go (is_same i j) refl
  where
    go : (t : Bool) → is_same i j ≡ t → list_any (is_same i) (flights_without j fl) ≡ is_some (if t then None else o)
    go true is = subst (λ (k : Interval). list_any (is_same i) (flights_without k fl) ≡ false) (same_is i j is) (any_without_same i fl)
    go false is = any_without_other i j fl is ∙ e

in_flight_step : (i : Interval) (item : Fill) (fl : List Interval) (o : Option ℕ) → list_any (is_same i) fl ≡ is_some o → list_any (is_same i) (flights_after fl item) ≡ is_some (flight_after i o item)
in_flight_step i (Begun j b) fl o e = list_any-append (is_same i) fl (j ∷ []) ∙ go (is_same i j)
  where
    go : (t : Bool) → (list_any (is_same i) fl || (t || false)) ≡ is_some (if t then Some b else o)
    go true = or_true (list_any (is_same i) fl)
    go false = or_false (list_any (is_same i) fl) ∙ e
in_flight_step i (Done j b) fl o e = ended i j fl o e
in_flight_step i (Freed j) fl o e = ended i j fl o e
in_flight_step i (Fault count wrote unacknowledged) fl o e = e
in_flight_step i Closed fl o e = e

in_flight_fold : (i : Interval) (fills : List Fill) (fl : List Interval) (o : Option ℕ) → list_any (is_same i) fl ≡ is_some o → list_any (is_same i) (fold flights_after fl fills) ≡ is_some (fold (flight_after i) o fills)
in_flight_fold i [] fl o e = e
in_flight_fold i (item ∷ fills) fl o e = in_flight_fold i fills (flights_after fl item) (flight_after i o item) (in_flight_step i item fl o e)

pub flights_are_in_flight : (i : Interval) (fills : List Fill) → list_any (is_same i) (flights_of fills) ≡ is_some (in_flight i fills)
flights_are_in_flight i fills = in_flight_fold i fills [] None refl
