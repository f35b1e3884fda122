-- How many intervals are late.
use Rattle.std.proofs.Common.{◌≡◌, ℕ, zero, suc, ℤ, ◌+◌, ◌<◌, List, [], ◌∷◌, ◌++◌, length, Bool, true, false, true≢false, cond, eqb, Option, Some, None, refl, sym, ap, subst, ◌∙◌, arith}
use Rattle.std.specs.Prelude.{fold, filter, not, ◌||◌, ◌&&◌, if◌then◌else◌}
use Rattle.std.specs.List.{list_any}
use Rattle.std.specs.Option.{option_map_or}
use Rattle.std.proofs.lemmas.Bool.{and_parts, false_from_ne_true}
use Rattle.std.proofs.lemmas.Bool.Decides.{nat_tests}
use Rattle.std.proofs.lemmas.List.Folds.{list_any-append}
use Rattle.intervals.specs.declared.interval.Interval.{Interval}
use Rattle.history_items.specs.declared.fills.Fill.{Fill}
use Rattle.history_items.specs.declared.fills.Fill.TheVariants.{Done}
use Rattle.arch_types.specs.declared.row.Row.{Row}
use Rattle.history_items.specs.declared.items.Item.{Item}
use Rattle.history_items.specs.declared.items.Item.TheVariants as items
use Rattle.history_items.specs.Items.{rows_in}
use Rattle.history_items.specs.Fills.{is_same, base_in}
use Rattle.history_items.specs.Late.{StandsIn, IsLate, IsLastIn, last_in, is_late_in}
use Rattle.history_items.proofs.FillLists.{base_after_item}
use Rattle.history_items.proofs.Late.{last_is_greatest, late_by_last}
use Rattle.interval_fills.specs.Intervals.{NoneSince}
use Rattle.interval_fills.proofs.Freed.{is_itself}
use Rattle.interval_fills.proofs.Steps.{same_interval}
use Rattle.late_marks.specs.Mark.{is_late_by}
use Rattle.interval_walks.specs.Counts.{AreApart, row_interval, with_interval, intervals_in, late_intervals}

other_way : (a b : Interval) → is_same a b ≡ false → is_same b a ≡ false
other_way a b e = false_from_ne_true _ (λ t. true≢false (sym (subst (λ (k : Interval). is_same a k ≡ true) (sym (same_interval b a t)) (is_itself a)) ∙ e))

-- ---- each interval stands once

or_left : (a b : Bool) → (a || b) ≡ false → a ≡ false
or_left false b h = refl
or_left true b h = absurd (true≢false h)

or_right : (a b : Bool) → (a || b) ≡ false → b ≡ false
or_right false b h = h
or_right true b h = absurd (true≢false h)

apart_push : (is : List Interval) (x : Interval) → AreApart is → list_any (is_same x) is ≡ false → AreApart (is ++ x ∷ [])
apart_push [] x apart none = (refl, tt)
apart_push (i ∷ is) x apart none =
    let here : is_same i x ≡ false = other_way x i (or_left (is_same x i) (list_any (is_same x) is) none) in
    let none_i : list_any (is_same i) (is ++ x ∷ []) ≡ false = list_any-append (is_same i) is (x ∷ []) ∙ (rw (apart.0, here) refl) in
    (none_i, apart_push is x apart.1 (or_right (is_same x i) (list_any (is_same x) is) none))

not_true : (b : Bool) → not b ≡ true → b ≡ false
not_true true e = absurd cc
not_true false e = refl

module _ (ex : ℕ) where
  apart_with : (is : List Interval) (row : Row) → AreApart is → AreApart (with_interval ex is row)
  apart_with is row apart = go ((eqb row.table 0) && not (list_any (is_same (row_interval ex row)) is)) refl
    where
      go : (b : Bool) → ((eqb row.table 0) && not (list_any (is_same (row_interval ex row)) is)) ≡ b → AreApart (if b then is ++ row_interval ex row ∷ [] else is)
      go true e = apart_push is (row_interval ex row) apart (not_true (list_any (is_same (row_interval ex row)) is) (and_parts (eqb row.table 0) (not (list_any (is_same (row_interval ex row)) is)) e).1)
      go false e = apart

  apart_fold : (rows : List Row) (is : List Interval) → AreApart is → AreApart (fold (with_interval ex) is rows)
  apart_fold [] is apart = apart
  apart_fold (row ∷ rows) is apart = apart_fold rows (with_interval ex is row) (apart_with is row apart)

  pub intervals_apart : (history : List Item) → AreApart (intervals_in ex history)
  intervals_apart history = apart_fold (rows_in history) [] tt

-- ---- each interval that has rows is there

or_before : (a b : Bool) → a ≡ true → (a || b) ≡ true
or_before true b e = refl
or_before false b e = absurd cc

any_push : (i x : Interval) (is : List Interval) → list_any (is_same i) is ≡ true → list_any (is_same i) (is ++ x ∷ []) ≡ true
any_push i x is e = list_any-append (is_same i) is (x ∷ []) ∙ or_before (list_any (is_same i) is) (list_any (is_same i) (x ∷ [])) e

or_last : (a : Bool) → (a || (true || false)) ≡ true
or_last true = refl
or_last false = refl

module _ (ex : ℕ) where
  any_stays : (i : Interval) (is : List Interval) (row : Row) → list_any (is_same i) is ≡ true → list_any (is_same i) (with_interval ex is row) ≡ true
  any_stays i is row e = go ((eqb row.table 0) && not (list_any (is_same (row_interval ex row)) is))
    where
      go : (b : Bool) → list_any (is_same i) (if b then is ++ row_interval ex row ∷ [] else is) ≡ true
      go true = any_push i (row_interval ex row) is e
      go false = e

  any_fold : (i : Interval) (rows : List Row) (is : List Interval) → list_any (is_same i) is ≡ true → list_any (is_same i) (fold (with_interval ex) is rows) ≡ true
  any_fold i [] is e = e
  any_fold i (row ∷ rows) is e = any_fold i rows (with_interval ex is row) (any_stays i is row e)

  any_comes : (is : List Interval) (row : Row) → row.table ≡ 0 → list_any (is_same (row_interval ex row)) (with_interval ex is row) ≡ true
  any_comes is row table = go (list_any (is_same (row_interval ex row)) is) refl
    where
      in_tm : eqb row.table 0 ≡ true
      in_tm = grind (arith, nat_tests, table)

      go : (b : Bool) → list_any (is_same (row_interval ex row)) is ≡ b → list_any (is_same (row_interval ex row)) (with_interval ex is row) ≡ true
      go true e = any_stays (row_interval ex row) is row e
      go false e =
          let self : is_same (row_interval ex row) (row_interval ex row) ≡ true = is_itself (row_interval ex row) in
          let pushed : with_interval ex is row ≡ is ++ row_interval ex row ∷ [] = rw (in_tm, e) refl in
          ap (list_any (is_same (row_interval ex row))) pushed ∙ list_any-append (is_same (row_interval ex row)) is (row_interval ex row ∷ []) ∙ (rw self (or_last (list_any (is_same (row_interval ex row)) is)))

  stands_any : (i : Interval) (history : List Item) (is : List Interval) (p : ℕ) → StandsIn ex i p history → list_any (is_same i) (fold (with_interval ex) is (rows_in history)) ≡ true
  stands_any i [] is p s = let at = s.there in absurd cc
  stands_any i (items.Mdb database ∷ history) is zero s = let at = s.there in absurd cc
  stands_any i (items.Mdb database ∷ history) is (suc p) s = stands_any i history is p (record { row = s.row; there = s.there; table = s.table; time = s.time })
  stands_any i (items.Row row ∷ history) is zero s =
      let same : row ≡ s.row = cc (s.there) in
      let number : i ≡ row_interval ex row = ap (λ (n : ℤ). let k : Interval = record { 0 = n } in k) (sym s.time) ∙ ap (row_interval ex) (sym same) in
      any_fold i (rows_in history) (with_interval ex is row) (subst (λ (k : Interval). list_any (is_same k) (with_interval ex is row) ≡ true) (sym number) (any_comes is row (ap (λ (r : Row). r.table) same ∙ s.table)))
  stands_any i (items.Row row ∷ history) is (suc p) s = stands_any i history (with_interval ex is row) p (record { row = s.row; there = s.there; table = s.table; time = s.time })

pub interval_there : (ex : ℕ) (i : Interval) (p : ℕ) (history : List Item) → StandsIn ex i p history → list_any (is_same i) (intervals_in ex history) ≡ true
interval_there ex i p history s = stands_any ex i history [] p s

-- ---- one less

module _ (was is : Interval → Bool) (i : Interval) (late : was i ≡ true) (punctual : is i ≡ false) (others : (j : Interval) → is_same i j ≡ false → is j ≡ was j) where
  none_less : (l : List Interval) → list_any (is_same i) l ≡ false → filter is l ≡ filter was l
  none_less [] none = refl
  none_less (x ∷ l) none =
      let here = others x (or_left (is_same i x) (list_any (is_same i) l) none) in
      let rest = none_less l (or_right (is_same i x) (list_any (is_same i) l) none) in
      ap (λ (b : Bool). cond b (x ∷ filter is l) (filter is l)) here ∙ ap (λ (f : List Interval). cond (was x) (x ∷ f) f) rest

  one_less : (l : List Interval) → AreApart l → list_any (is_same i) l ≡ true → length (filter is l) + 1 ≡ length (filter was l)
  one_less [] apart there = absurd cc
  one_less (x ∷ l) apart there = go (is_same i x) refl there (one_less l apart.1)
    where
      go : (b : Bool) → is_same i x ≡ b → (b || list_any (is_same i) l) ≡ true → (list_any (is_same i) l ≡ true → length (filter is l) + 1 ≡ length (filter was l)) → length (filter is (x ∷ l)) + 1 ≡ length (filter was (x ∷ l))
      go true same there deep =
          let e : i ≡ x = same_interval i x same in
          let first : was x ≡ true = subst (λ (k : Interval). was k ≡ true) e late in
          let second : is x ≡ false = subst (λ (k : Interval). is k ≡ false) e punctual in
          let none : list_any (is_same i) l ≡ false = subst (λ (k : Interval). list_any (is_same k) l ≡ false) (sym e) apart.0 in
          rw (first, second) (omega (arith, ap length (none_less l none)))
      go false same there deep = rw (others x same) (step (was x) (deep there))
        where
          step : (b : Bool) → length (filter is l) + 1 ≡ length (filter was l) → length (cond b (x ∷ filter is l) (filter is l)) + 1 ≡ length (cond b (x ∷ filter was l) (filter was l))
          step true e = omega (arith, e)
          step false e = e

module _ (ex : ℕ) where
  late_false : (i : Interval) (history : List Item) (fills : List Fill) (base : ℕ) → NoneSince ex i base history → is_late_in ex i history (fills ++ Done i base ∷ []) ≡ false
  late_false i history fills base none =
      let self = is_itself i in
      let filled : base_in i (fills ++ Done i base ∷ []) ≡ Some base = rw (base_after_item i fills (Done i base), self) refl in
      ap (λ (b : Option ℕ). option_map_or (λ l. is_late_by l b) (last_in ex i history) false) filled
      ∙ go (last_in ex i history) (last_is_greatest ex i history)
    where
      go : (o : Option ℕ) → IsLastIn ex i history o → option_map_or (λ l. is_late_by l (Some base)) o false ≡ false
      go None p = refl
      go (Some last) p = let below : last < base = none last p.1 in grind (arith, nat_tests, below)

  late_same : (i j : Interval) (history : List Item) (fills : List Fill) (base : ℕ) → is_same i j ≡ false → is_late_in ex j history (fills ++ Done i base ∷ []) ≡ is_late_in ex j history fills
  late_same i j history fills base apart =
      let other = other_way i j apart in
      let same : base_in j (fills ++ Done i base ∷ []) ≡ base_in j fills = rw (base_after_item j fills (Done i base), other) refl in
      ap (λ (b : Option ℕ). option_map_or (λ l. is_late_by l b) (last_in ex j history) false) same

  pub one_late_less : (history : List Item) (fills : List Fill) (i : Interval) (base : ℕ) → IsLate ex i history fills → NoneSince ex i base history
      → length (late_intervals ex history (fills ++ Done i base ∷ [])) + 1 ≡ length (late_intervals ex history fills)
  one_late_less history fills i base late none =
      one_less (λ j. is_late_in ex j history fills) (λ j. is_late_in ex j history (fills ++ Done i base ∷ [])) i ((late_by_last ex i history fills).1 late) (late_false i history fills base none)
      (λ j apart. late_same i j history fills base apart) (intervals_in ex history) (intervals_apart ex history) (interval_there ex i late.row.position history late.row.stands)

-- ---- none

none_kept : (p : Interval → Bool) (l : List Interval) → ((i : Interval) → p i ≡ true → ⊥) → filter p l ≡ []
none_kept p [] none = refl
none_kept p (x ∷ l) none = let e : p x ≡ false = false_from_ne_true _ (none x) in rw e (none_kept p l none)

pub none_late : (ex : ℕ) (history : List Item) (fills : List Fill) → ((i : Interval) → IsLate ex i history fills → ⊥) → late_intervals ex history fills ≡ []
none_late ex history fills none = none_kept (λ i. is_late_in ex i history fills) (intervals_in ex history) (λ i e. none i ((late_by_last ex i history fills).0 e))

-- ---- lists of the same intervals

abbrev without : Interval → List Interval → List Interval
without i l = filter (λ j. not (is_same i j)) l

any_without_same : (i : Interval) (l : List Interval) → list_any (is_same i) (without i l) ≡ false
any_without_same i [] = refl
any_without_same i (f ∷ l) = go (is_same i f) refl (any_without_same i l)
  where
    go : (b : Bool) → is_same i f ≡ b → list_any (is_same i) (without i l) ≡ false → list_any (is_same i) (cond (not b) (f ∷ without i l) (without i l)) ≡ false
    go true same rest = rest
    go false same rest = rw same rest

any_without_other : (i j : Interval) (l : List Interval) → is_same i j ≡ false → list_any (is_same i) (without j l) ≡ list_any (is_same i) l
any_without_other i j [] apart = refl
any_without_other i j (f ∷ l) apart = go (is_same j f) refl (any_without_other i j l apart)
  where
    go : (b : Bool) → is_same j f ≡ b → list_any (is_same i) (without j l) ≡ list_any (is_same i) l → list_any (is_same i) (cond (not b) (f ∷ without j l) (without j l)) ≡ (is_same i f || list_any (is_same i) l)
    go true same rest =
        let none : is_same i f ≡ false = subst (λ (k : Interval). is_same i k ≡ false) (same_interval j f same) apart in
        rw none rest
    go false same rest = ap (λ (b : Bool). is_same i f || b) rest

apart_without : (i : Interval) (l : List Interval) → AreApart l → AreApart (without i l)
apart_without i [] apart = tt
apart_without i (f ∷ l) apart = go (is_same i f) refl (apart_without i l apart.1)
  where
    go : (b : Bool) → is_same i f ≡ b → AreApart (without i l) → AreApart (cond (not b) (f ∷ without i l) (without i l))
    go true same rest = rest
    go false same rest = (any_without_other f i l (other_way i f same) ∙ apart.0, rest)

without_none : (i : Interval) (l : List Interval) → list_any (is_same i) l ≡ false → without i l ≡ l
without_none i [] none = refl
without_none i (f ∷ l) none =
    let e : is_same i f ≡ false = or_left (is_same i f) (list_any (is_same i) l) none in
    rw e (ap (λ (k : List Interval). f ∷ k) (without_none i l (or_right (is_same i f) (list_any (is_same i) l) none)))

one_without : (i : Interval) (l : List Interval) → AreApart l → list_any (is_same i) l ≡ true → length (without i l) + 1 ≡ length l
one_without i [] apart there = absurd cc
one_without i (f ∷ l) apart there = go (is_same i f) refl there (one_without i l apart.1)
  where
    go : (b : Bool) → is_same i f ≡ b → (b || list_any (is_same i) l) ≡ true → (list_any (is_same i) l ≡ true → length (without i l) + 1 ≡ length l) → length (cond (not b) (f ∷ without i l) (without i l)) + 1 ≡ length (f ∷ l)
    go true same there deep =
        let none : list_any (is_same i) l ≡ false = subst (λ (k : Interval). list_any (is_same k) l ≡ false) (sym (same_interval i f same)) apart.0 in
        omega (arith, ap length (without_none i l none))
    go false same there deep = omega (arith, deep there)

pub as_many : (a b : List Interval) → AreApart a → AreApart b → ((i : Interval) → list_any (is_same i) a ≡ list_any (is_same i) b) → length a ≡ length b
as_many [] [] one two same = refl
as_many [] (y ∷ b) one two same =
    let e : false ≡ (is_same y y || list_any (is_same y) b) = same y in
    let f : (is_same y y || list_any (is_same y) b) ≡ true = ap (λ (t : Bool). t || list_any (is_same y) b) (is_itself y) in
    absurd (true≢false (sym (e ∙ f)))
as_many (x ∷ a) b one two same = omega (arith, one_without x b two there, as_many a (without x b) one.1 (apart_without x b two) rest)
  where
    there : list_any (is_same x) b ≡ true
    there = sym (same x) ∙ ap (λ (t : Bool). t || list_any (is_same x) a) (is_itself x)

    rest : (i : Interval) → list_any (is_same i) a ≡ list_any (is_same i) (without x b)
    rest i = go (is_same i x) refl
      where
        go : (t : Bool) → is_same i x ≡ t → list_any (is_same i) a ≡ list_any (is_same i) (without x b)
        go true e = subst (λ (k : Interval). list_any (is_same k) a ≡ list_any (is_same k) (without x b)) (sym (same_interval i x e)) (one.0 ∙ sym (any_without_same x b))
        go false e = sym (ap (λ (t : Bool). t || list_any (is_same i) a) e) ∙ same i ∙ sym (any_without_other i x b e)
