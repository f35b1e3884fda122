-- The greatest of positions, and the marks of rows that go together.
use Rattle.std.proofs.Common.{◌≡◌, ◌⊎◌, inl, inr, ℕ, suc, zero, ◌+◌, ◌<◌, ◌≤◌, List, [], ◌∷◌, ◌++◌, length, max, Bool, true, false, Option, Some, None, refl, sym, ap, subst, ◌∙◌, arith}
use Rattle.std.specs.Prelude.{◌==◌, nat_le, slice_index_or, Contains, if◌then◌else◌}
use Rattle.std.specs.List.{AllByRecursion, zip}
use Rattle.std.specs.Option.{is_some}
use Rattle.std.proofs.lemmas.Bool.Decides.{Decides-int_eq, nat_tests}
use Rattle.std.proofs.lemmas.List.Elements.{Contains-get_or}
use borrow.Author.Count.{below_more}
use Rattle.archive_history.proofs.Steps.{default_free}
use Rattle.arch_types.specs.declared.row.Row.{Row}
use Rattle.intervals.specs.declared.interval.Interval.{Interval}
use Rattle.history_items.specs.declared.fills.Fill.{Fill}
use Rattle.history_items.specs.Fills.{base_in, in_flight}
use Rattle.history_items.specs.Items.{is_of_interval}
use Rattle.late_marks.specs.declared.mark.Mark.{Mark}
use Rattle.late_marks.specs.Mark.{IsLast}
use Rattle.late_marks.specs.Marks.{Marks, mark_in}
use Rattle.fill_tracker.specs.FillTracker.{mark_by}
use Rattle.fill_tracker.specs.Placed.{AreMarksOfPlaced, ArePlacedIn, greatest, last_placed}
use Rattle.partitions.specs.declared.partition.Partition.{Partition}
use Rattle.sealed_sums.specs.declared.stretch.Stretch.{Stretch}
use Rattle.sealed_sums.specs.Stretch.{GoesWith, IsStretchOf}

-- ---- the greatest of positions

pub either : (p m : ℕ) → (max p m ≡ p) ⊎ (max p m ≡ m)
either p m = by (nat_le p m) refl
  where
    by : (b : Bool) → nat_le p m ≡ b → (max p m ≡ p) ⊎ (max p m ≡ m)
    by true is = inr (grind (arith, nat_tests, is))
    by false is = inl (grind (arith, nat_tests, is))

last-cons : (p m : ℕ) (ps : List ℕ) → IsLast ps m → IsLast (p ∷ ps) (max p m)
last-cons p m ps is = record { there = there (either p m); greatest = λ x has. at_most x has }
  where
    there : (max p m ≡ p) ⊎ (max p m ≡ m) → Contains (p ∷ ps) (max p m)
    there (inl first) = subst (Contains (p ∷ ps)) (sym first) (0, omega arith, refl)
    there (inr later) = subst (Contains (p ∷ ps)) (sym later) (let has = is.there in (suc has.0, omega (arith, has.1), has.2))

    at_most : (x : ℕ) → Contains (p ∷ ps) x → x ≤ max p m
    at_most x (zero, lt, here) = omega (arith, here)
    at_most x (suc k, lt, here) = omega (arith, is.greatest x (k, omega (arith, lt), here))

last_is_one : (ps : List ℕ) (a b : ℕ) → IsLast ps a → IsLast ps b → a ≡ b
last_is_one ps a b first second = omega (arith, first.greatest b second.there, second.greatest a first.there)

module _ (e : ℕ) (i : Interval) where
  -- the greatest position of rows of an interval
  most : (positions : List ℕ) (rows : List Row) → length positions ≡ length rows → 0 < length positions → AllByRecursion (λ row. is_of_interval e i row ≡ true) rows
      → (m : ℕ) × (last_placed e i (zip positions rows) ≡ Some m) × IsLast positions m
  most [] rows same some all = absurd (omega (arith, some))
  most (p ∷ ps) [] same some all = absurd (omega (arith, same))
  most (p ∷ []) (row ∷ []) same some all =
      let is = all.0 in
      (p, rw is refl, record { there = (0, omega arith, refl); greatest = λ x has. alone x has })
    where
      alone : (x : ℕ) → Contains (p ∷ []) x → x ≤ p
      alone x (zero, lt, here) = omega (arith, here)
      alone x (suc k, lt, here) = absurd (omega (arith, lt))
  most (p ∷ []) (row ∷ next ∷ rows) same some all = absurd (omega (arith, same))
  most (p ∷ q ∷ ps) (row ∷ []) same some all = absurd (omega (arith, same))
  most (p ∷ q ∷ ps) (row ∷ next ∷ rows) same some all =
      let rest = most (q ∷ ps) (next ∷ rows) (omega (arith, same)) (omega arith) all.1 in
      let is = all.0 in
      (max p rest.0, rw is (ap (λ (o : Option ℕ). Some (greatest p o)) rest.1), last-cons p rest.0 (q ∷ ps) rest.2)

  pub last_of_run : (positions : List ℕ) (rows : List Row) (last : ℕ) → length positions ≡ length rows → AllByRecursion (λ row. is_of_interval e i row ≡ true) rows → IsLast positions last → last_placed e i (zip positions rows) ≡ Some last
  last_of_run positions rows last same all is =
      let has = is.there in
      let found = most positions rows same (omega (arith, has.1)) all in
      found.1 ∙ ap (λ (n : ℕ). Some n) (last_is_one positions found.0 last found.2 is)

  -- rows of other tables change nothing
  none_placed : (positions : List ℕ) (rows : List Row) → AllByRecursion (λ row. is_of_interval e i row ≡ false) rows → last_placed e i (zip positions rows) ≡ None
  none_placed [] rows all = refl
  none_placed (p ∷ ps) [] all = refl
  none_placed (p ∷ ps) (row ∷ rows) all = let is = all.0 in rw is (none_placed ps rows all.1)

  pub none_more : (placed : List (ℕ × Row)) (positions : List ℕ) (rows : List Row) → AllByRecursion (λ row. is_of_interval e i row ≡ false) rows → last_placed e i (placed ++ zip positions rows) ≡ last_placed e i placed
  none_more [] positions rows all = none_placed positions rows all
  none_more (at ∷ placed) positions rows all = ap (λ (o : Option ℕ). if is_of_interval e i at.1 then Some (greatest at.0 o) else o) (none_more placed positions rows all)

-- ---- rows that go together

module _ (e table : ℕ) (interval : Interval) (partition : Partition) where
  each_of : (rows : List Row) → AllByRecursion (GoesWith e table interval partition) rows → table ≡ 0 → AllByRecursion (λ row. is_of_interval e interval row ≡ true) rows
  each_of [] each tm = tt
  each_of (row ∷ rows) each tm = (passes, each_of rows each.1 tm)
    where
      passes : is_of_interval e interval row ≡ true
      passes =
          let in_tm : row.table ≡ 0 = each.0.of_table ∙ tm in
          rw (in_tm, each.0.of_interval) ((Decides-int_eq interval.0 interval.0).1 refl)

  none_of : (i : Interval) (rows : List Row) → AllByRecursion (GoesWith e table interval partition) rows → (table == 0) ≡ false → AllByRecursion (λ row. is_of_interval e i row ≡ false) rows
  none_of i [] each other = tt
  none_of i (row ∷ rows) each other = (fails, none_of i rows each.1 other)
    where
      fails : is_of_interval e i row ≡ false
      fails = let is : (row.table == 0) ≡ false = ap (λ (n : ℕ). n == 0) each.0.of_table ∙ other in rw is refl

beside : (positions : List ℕ) (rows : List Row) (P : Row → Type 0) → AllByRecursion P rows → AllByRecursion (λ (at : ℕ × Row). P at.1) (zip positions rows)
beside [] rows P all = tt
beside (p ∷ ps) [] P all = tt
beside (p ∷ ps) (row ∷ rows) P all = (all.0, beside ps rows P all.1)

pub placed_in : (e : ℕ) (s : Stretch) (positions : List ℕ) (rows : List Row) (last : ℕ) → IsStretchOf e s rows → length positions ≡ s.len → s.table ≡ 0 → IsLast positions last → ArePlacedIn e s.interval (zip positions rows) last
placed_in e s positions rows last is same tm greatest =
    let all = each_of e s.table s.interval s.partition rows is.each tm in
    record {
      of = beside positions rows (λ row. is_of_interval e s.interval row ≡ true) all;
      last_is = last_of_run e s.interval positions rows last (same ∙ is.len) all greatest;
    }

-- ---- marks that stay

pub roomier : (e : ℕ) (placed : List (ℕ × Row)) (fills now : List Fill) (old new : Marks) → now ≡ fills → new.marks ≡ old.marks → AreMarksOfPlaced e placed fills old → AreMarksOfPlaced e placed now new
roomier e placed fills now old new same marks are =
    subst (λ (f : List Fill). AreMarksOfPlaced e placed f new) (sym same)
    (record { each = λ i. ap (λ (m : List (Interval × Mark)). mark_in m i) marks ∙ are.each i; known = are.known })

pub marks_stay : (e : ℕ) (s : Stretch) (placed : List (ℕ × Row)) (positions : List ℕ) (rows : List Row) (fills : List Fill) (marks : Marks) → IsStretchOf e s rows → (s.table == 0) ≡ false → AreMarksOfPlaced e placed fills marks
    → AreMarksOfPlaced e (placed ++ zip positions rows) fills marks
marks_stay e s placed positions rows fills marks is other are = record {
  each = λ i. are.each i ∙ ap (λ (o : Option ℕ). mark_by o (base_in i fills) (is_some (in_flight i fills))) (sym (same i));
  known = λ i none. are.known i (sym (same i) ∙ none);
}
  where
    same : (i : Interval) → last_placed e i (placed ++ zip positions rows) ≡ last_placed e i placed
    same i = none_more e i placed positions rows (none_of e s.table s.interval s.partition i rows is.each other)

-- ---- one position more

pub greater : (positions : List ℕ) (i last now : ℕ) → i < length positions → now ≡ max last (slice_index_or positions i 0) → Contains positions last → ((k d : ℕ) → k < i → slice_index_or positions k d ≤ last)
    → Contains positions now × ((k d : ℕ) → k < i + 1 → slice_index_or positions k d ≤ now)
greater positions i last now within is has each = (
  subst (Contains positions) (sym is) (there (either last (slice_index_or positions i 0))),
  λ k d below. below_more (λ (n : ℕ). (e : ℕ) → slice_index_or positions n e ≤ now) i (λ n lt e. omega (arith, each n e lt, is)) (λ e. omega (arith, default_free positions i e 0 within, is)) k below d,
)
  where
    there : (max last (slice_index_or positions i 0) ≡ last) ⊎ (max last (slice_index_or positions i 0) ≡ slice_index_or positions i 0) → Contains positions (max last (slice_index_or positions i 0))
    there (inl first) = subst (Contains positions) (sym first) has
    there (inr later) = subst (Contains positions) (sym later) (Contains-get_or positions i 0 within)
