-- A row that meets a condition lies in the condition's bounds.
use Rattle.std.proofs.Common.{◌≡◌, ◌⊎◌, inl, inr, ℕ, List, [], ◌∷◌, fold, Bool, true, false, not, ◌&&◌, ◌||◌, Option, Some, None, refl, ap, subst, arith}
use Rattle.std.specs.Prelude.{ℤ, pos, ◌+ℤ◌, ◌≤ℤ◌, ◌<ℤ◌, int_le, int_lt, Contains, flat_map, option_to_list}
use Rattle.std.specs.Int.{int_min, int_max}
use Rattle.std.specs.Int.Signed.{le_z_yes, lt_z_yes}
use Rattle.std.specs.List.{list_any}
use Rattle.std.specs.Ordering.{int_eq}
use Rattle.std.proofs.lemmas.Bool.Decides.{Decides-int_eq}
use Rattle.std.proofs.lemmas.Float.{T_from_true}
use Rattle.std.proofs.lemmas.Bool.{eqb-true}
use Rattle.std.proofs.lemmas.Cmp.{nat_eq_equiv}
use Rattle.std.proofs.lemmas.Int.{ints, clamps}
use Rattle.std.proofs.lemmas.List.Elements.{Contains-append_left, Contains-append_right}
use Rattle.std.proofs.lemmas.Map.Views.{list_any-from_Contains}
use Rattle.partitions.proofs.Members.{filter_has}
use Rattle.text_forms.specs.ClockTime.{IsClockTime}
use Rattle.arch_types.specs.declared.row.Row.{Row}
use Rattle.partitions.specs.declared.bounds.Bounds.{Bounds}
use Rattle.partitions.specs.Bounds.{IsAmong, IsInBounds}
use Rattle.ssql_tokens.specs.declared.symbols.ComparisonOperator.{ComparisonOperator}
use Rattle.ssql_tokens.specs.declared.symbols.ComparisonOperator.TheVariants as op
use Rattle.ssql_conditions.specs.declared.predicate.NumberColumn.TheVariants as n
use Rattle.ssql_conditions.specs.declared.predicate.NumberTest.{NumberTest}
use Rattle.ssql_conditions.specs.declared.predicate.NumberTest.TheVariants as nt
use Rattle.ssql_conditions.specs.declared.predicate.NameTest.{NameTest}
use Rattle.ssql_conditions.specs.declared.predicate.NameTest.TheVariants.{Is, IsNot, In}
use Rattle.ssql_conditions.specs.declared.predicate.TypedPredicate.{TypedPredicate}
use Rattle.ssql_conditions.specs.declared.predicate.TypedPredicate.TheVariants.{Number, Pname}
use Rattle.ssql_conditions.specs.Formulas.{Formula, always, never, meets, negation, conjunction, disjunction}
use Rattle.ssql_conditions.specs.Truth.{is_true, is_met_by, number_passes, compares_as, name_passes, is_pname}
use Rattle.ssql_conditions.specs.ConditionBounds.{clock_end, range_bounds, is_empty_range, clock_bounds, all_bounds, comparison_bounds, gentime_bounds, name_bounds, pname_bounds, predicate_bounds, has_pname, names_in_both, names_in_either, both_bounds, covering_bounds, either_bounds, bounds_of}

-- ---- tests

left_of_and : (a b : Bool) → (a && b) ≡ true → a ≡ true
left_of_and true b e = refl
left_of_and false b e = e

right_of_and : (a b : Bool) → (a && b) ≡ true → b ≡ true
right_of_and true b e = e
right_of_and false b e = absurd cc

one_of_or : (a b : Bool) → (a || b) ≡ true → (a ≡ true) ⊎ (b ≡ true)
one_of_or true b e = inl refl
one_of_or false b e = inr e

not_false : (b : Bool) → (b ≡ false → ⊥) → b ≡ true
not_false true h = refl
not_false false h = absurd (h refl)

le_true : (a b : ℤ) → int_le a b ≡ true → a ≤ℤ b
le_true a b is = le_z_yes (T_from_true (int_le a b) is)

lt_true : (a b : ℤ) → int_lt a b ≡ true → a <ℤ b
lt_true a b is = lt_z_yes (T_from_true (int_lt a b) is)

true_lt : (a b : ℤ) → a <ℤ b → int_lt a b ≡ true
true_lt a b lt = grind (arith, ints)

eq_true : (a b : ℤ) → int_eq a b ≡ true → a ≡ b
eq_true a b is = (Decides-int_eq a b).0 is

-- ---- ranges

-- the time and the packet name of a row lie in the bounds
abbrev HoldsRow : Bounds → ℤ → ℕ → Type 0
HoldsRow bounds time pname = IsInBounds bounds time pname

in_range : (from to : ℤ) (names : Option (List ℕ)) (time : ℤ) (pname : ℕ) → from ≤ℤ time → time <ℤ to → IsAmong names pname → HoldsRow (range_bounds from to names) time pname
in_range from to names time pname low high among =
    let some : int_lt from to ≡ true = true_lt from to (omega (arith, ints, low, high)) in
    rw some (record { from = low; to = high; name = among })

in_clock : (from to time : ℤ) (pname : ℕ) → IsClockTime time → from ≤ℤ time → time <ℤ to → HoldsRow (clock_bounds from to) time pname
in_clock from to time pname clock low high =
    in_range (int_max from (pos 0)) (int_min to clock_end) None time pname (omega (arith, ints, clamps, low, clock.0)) (omega (arith, ints, clamps, high, clock.1)) tt

in_all : (time : ℤ) (pname : ℕ) → IsClockTime time → HoldsRow all_bounds time pname
in_all time pname clock = record { from = clock.0; to = omega (arith, ints, clock.1); name = tt }

-- ---- generation times

in_comparison : (operator : ComparisonOperator) (x time : ℤ) (pname : ℕ) → IsClockTime time → compares_as operator time x ≡ true → HoldsRow (comparison_bounds operator x) time pname
in_comparison op.Equal x time pname clock e = let same = eq_true time x e in in_clock x (x +ℤ pos 1) time pname clock (omega (arith, ints, same)) (omega (arith, ints, same))
in_comparison op.LessOrGreater x time pname clock e = in_all time pname clock
in_comparison op.NotEqual x time pname clock e = in_all time pname clock
in_comparison op.Less x time pname clock e = in_clock (pos 0) x time pname clock clock.0 (lt_true time x e)
in_comparison op.LessOrEqual x time pname clock e = let le = le_true time x e in in_clock (pos 0) (x +ℤ pos 1) time pname clock clock.0 (omega (arith, ints, le))
in_comparison op.Greater x time pname clock e = let lt = lt_true x time e in in_clock (x +ℤ pos 1) clock_end time pname clock (omega (arith, ints, lt)) (omega (arith, ints, clock.1))
in_comparison op.GreaterOrEqual x time pname clock e = in_clock x clock_end time pname clock (le_true x time e) (omega (arith, ints, clock.1))

-- the least and the greatest of some times lie around each of them
least_below : (x : ℤ) (xs : List ℤ) → fold int_min x xs ≤ℤ x
least_below x [] = omega (arith, ints)
least_below x (y ∷ ys) = let h = least_below (int_min x y) ys in omega (arith, ints, clamps, h)

greatest_above : (x : ℤ) (xs : List ℤ) → x ≤ℤ fold int_max x xs
greatest_above x [] = omega (arith, ints)
greatest_above x (y ∷ ys) = let h = greatest_above (int_max x y) ys in omega (arith, ints, clamps, h)

low_around : (x : ℤ) (xs : List ℤ) (time : ℤ) → list_any (int_eq time) xs ≡ true → fold int_min x xs ≤ℤ time
low_around x [] time e = absurd cc
low_around x (y ∷ ys) time e =
    elim (one_of_or (int_eq time y) (list_any (int_eq time) ys) e) [
      | inl here ↦ let same = eq_true time y here in let low = least_below (int_min x y) ys in omega (arith, ints, clamps, low, same)
      | inr later ↦ low_around (int_min x y) ys time later
    ]

high_around : (x : ℤ) (xs : List ℤ) (time : ℤ) → list_any (int_eq time) xs ≡ true → time ≤ℤ fold int_max x xs
high_around x [] time e = absurd cc
high_around x (y ∷ ys) time e =
    elim (one_of_or (int_eq time y) (list_any (int_eq time) ys) e) [
      | inl here ↦ let same = eq_true time y here in let high = greatest_above (int_max x y) ys in omega (arith, ints, clamps, high, same)
      | inr later ↦ high_around (int_max x y) ys time later
    ]

low_of : (x : ℤ) (xs : List ℤ) (time : ℤ) → list_any (int_eq time) (x ∷ xs) ≡ true → fold int_min x xs ≤ℤ time
low_of x xs time e =
    elim (one_of_or (int_eq time x) (list_any (int_eq time) xs) e) [
      | inl here ↦ let same = eq_true time x here in let low = least_below x xs in omega (arith, ints, low, same)
      | inr later ↦ low_around x xs time later
    ]

high_of : (x : ℤ) (xs : List ℤ) (time : ℤ) → list_any (int_eq time) (x ∷ xs) ≡ true → time ≤ℤ fold int_max x xs
high_of x xs time e =
    elim (one_of_or (int_eq time x) (list_any (int_eq time) xs) e) [
      | inl here ↦ let same = eq_true time x here in let high = greatest_above x xs in omega (arith, ints, high, same)
      | inr later ↦ high_around x xs time later
    ]

in_gentime : (test : NumberTest) (time : ℤ) (pname : ℕ) → IsClockTime time → number_passes test time ≡ true → HoldsRow (gentime_bounds test) time pname
in_gentime (nt.Compare operator x) time pname clock e = in_comparison operator x time pname clock e
in_gentime (nt.In []) time pname clock e = absurd cc
in_gentime (nt.In (x ∷ xs)) time pname clock e =
    let low = low_of x xs time e in
    let high = high_of x xs time e in
    in_clock (fold int_min x xs) (fold int_max x xs +ℤ pos 1) time pname clock low (omega (arith, ints, high))

-- ---- packet names

in_names : (names : List ℕ) (time : ℤ) (pname : ℕ) → IsClockTime time → Contains names pname → HoldsRow (name_bounds names) time pname
in_names names time pname clock is = record { from = clock.0; to = omega (arith, ints, clock.1); name = is }

alone : (pname : ℕ) → Contains (pname ∷ []) pname
alone pname = (0, omega arith, refl)

is_one : (pname : ℕ) (x : Option ℕ) → is_pname pname x ≡ true → Contains (option_to_list x) pname
is_one pname None e = absurd cc
is_one pname (Some x) e = let same : pname ≡ x = eqb-true pname x e in subst (λ (q : ℕ). Contains (q ∷ []) pname) same (alone pname)

is_one_of : (pname : ℕ) (xs : List (Option ℕ)) → list_any (is_pname pname) xs ≡ true → Contains (flat_map option_to_list xs) pname
is_one_of pname [] e = absurd cc
is_one_of pname (x ∷ xs) e =
    elim (one_of_or (is_pname pname x) (list_any (is_pname pname) xs) e) [
      | inl here ↦ Contains-append_left (option_to_list x) (flat_map option_to_list xs) pname (is_one pname x here)
      | inr later ↦ Contains-append_right (option_to_list x) (flat_map option_to_list xs) pname (is_one_of pname xs later)
    ]

in_pname : (test : NameTest) (time : ℤ) (pname : ℕ) → IsClockTime time → name_passes test pname ≡ true → HoldsRow (pname_bounds test) time pname
in_pname (Is x) time pname clock e = in_names (option_to_list x) time pname clock (is_one pname x e)
in_pname (IsNot x) time pname clock e = in_all time pname clock
in_pname (In xs) time pname clock e = in_names (flat_map option_to_list xs) time pname clock (is_one_of pname xs e)

-- ---- AND and OR

among_both : (a b : Option (List ℕ)) (pname : ℕ) → IsAmong a pname → IsAmong b pname → IsAmong (names_in_both a b) pname
among_both None b pname p q = q
among_both (Some names) None pname p q = p
among_both (Some names) (Some others) pname p q = (filter_has (has_pname others) names pname).1 (p, list_any-from_Contains nat_eq_equiv pname others q)

among_left : (a b : Option (List ℕ)) (pname : ℕ) → IsAmong a pname → IsAmong (names_in_either a b) pname
among_left None b pname p = tt
among_left (Some names) None pname p = tt
among_left (Some names) (Some others) pname p = Contains-append_left names others pname p

among_right : (a b : Option (List ℕ)) (pname : ℕ) → IsAmong b pname → IsAmong (names_in_either a b) pname
among_right None b pname p = tt
among_right (Some names) None pname p = tt
among_right (Some names) (Some others) pname p = Contains-append_right names others pname p

in_both : (a b : Bounds) (time : ℤ) (pname : ℕ) → HoldsRow a time pname → HoldsRow b time pname → HoldsRow (both_bounds a b) time pname
in_both a b time pname p q =
    in_range (int_max a.from b.from) (int_min a.to b.to) (names_in_both a.names b.names) time pname (omega (arith, ints, clamps, p.from, q.from)) (omega (arith, ints, clamps, p.to, q.to))
    (among_both a.names b.names pname p.name q.name)

-- bounds that hold a row aren't empty
not_empty : (a : Bounds) (time : ℤ) (pname : ℕ) → HoldsRow a time pname → is_empty_range a ≡ false
not_empty a time pname p = ap not (true_lt a.from a.to (omega (arith, ints, p.from, p.to)))

covers_left : (a b : Bounds) (time : ℤ) (pname : ℕ) → HoldsRow a time pname → HoldsRow (covering_bounds a b) time pname
covers_left a b time pname p = record { from = omega (arith, ints, clamps, p.from); to = omega (arith, ints, clamps, p.to); name = among_left a.names b.names pname p.name }

covers_right : (a b : Bounds) (time : ℤ) (pname : ℕ) → HoldsRow b time pname → HoldsRow (covering_bounds a b) time pname
covers_right a b time pname p = record { from = omega (arith, ints, clamps, p.from); to = omega (arith, ints, clamps, p.to); name = among_right a.names b.names pname p.name }

in_either_left : (a b : Bounds) (time : ℤ) (pname : ℕ) (empty : Bool) → is_empty_range b ≡ empty → HoldsRow a time pname → HoldsRow (either_bounds a b) time pname
in_either_left a b time pname true e p = rw (not_empty a time pname p, e) p
in_either_left a b time pname false e p = rw (not_empty a time pname p, e) (covers_left a b time pname p)

in_either_right : (a b : Bounds) (time : ℤ) (pname : ℕ) (empty : Bool) → is_empty_range a ≡ empty → HoldsRow b time pname → HoldsRow (either_bounds a b) time pname
in_either_right a b time pname true e p = rw e p
in_either_right a b time pname false e p = rw (e, not_empty b time pname p) (covers_right a b time pname p)

-- ---- formulas

in_predicate : (x : TypedPredicate) (row : Row) → IsClockTime row.key.time → is_met_by row x ≡ true → HoldsRow (predicate_bounds x) row.key.time row.pname
in_predicate (Number n.Gentime test) row clock e = in_gentime test row.key.time row.pname clock e
in_predicate (Number n.SeqNum test) row clock e = in_all row.key.time row.pname clock
in_predicate (Number n.Rectime test) row clock e = in_all row.key.time row.pname clock
in_predicate (Number n.Link test) row clock e = in_all row.key.time row.pname clock
in_predicate (Number n.Apid test) row clock e = in_all row.key.time row.pname clock
in_predicate (Number n.Length test) row clock e = in_all row.key.time row.pname clock
in_predicate (Pname test) row clock e = in_pname test row.key.time row.pname clock e

pub in_bounds : (formula : Formula) (row : Row) → IsClockTime row.key.time → is_true row formula ≡ true → IsInBounds (bounds_of formula) row.key.time row.pname
in_bounds always row clock e = in_all row.key.time row.pname clock
in_bounds never row clock e = absurd cc
in_bounds (meets x) row clock e = in_predicate x row clock e
in_bounds (negation f) row clock e = in_all row.key.time row.pname clock
in_bounds (conjunction f g) row clock e =
    in_both (bounds_of f) (bounds_of g) row.key.time row.pname
    (in_bounds f row clock (left_of_and (is_true row f) (is_true row g) e)) (in_bounds g row clock (right_of_and (is_true row f) (is_true row g) e))
in_bounds (disjunction f g) row clock e =
    elim (one_of_or (is_true row f) (is_true row g) e) [
      | inl first ↦ in_either_left (bounds_of f) (bounds_of g) row.key.time row.pname (is_empty_range (bounds_of g)) refl (in_bounds f row clock first)
      | inr second ↦ in_either_right (bounds_of f) (bounds_of g) row.key.time row.pname (is_empty_range (bounds_of f)) refl (in_bounds g row clock second)
    ]
