-- Fills that stand for intervals, and the first mismatch.
use Rattle.std.proofs.Common.{◌≡◌, ◌∙◌, ◌⊎◌, inl, inr, ℕ, zero, suc, ◌+◌, ◌<◌, ℤ, ◌<ℤ◌, List, [], ◌∷◌, take, Bool, true, false, true≢false, Option, Some, None, nat_lt, refl, sym, ap, subst, arith, add-one}
use Rattle.std.specs.Prelude.{int_lt, slice_get, ◌||◌, IsSome}
use Rattle.std.specs.List.{list_any, AllByRecursion}
use Rattle.std.proofs.lemmas.Int.{ints}
use Rattle.std.proofs.lemmas.Bool.Decides.{nat_tests}
use Rattle.arch_types.specs.declared.cell.Cell.{Cell}
use Rattle.intervals.specs.declared.interval.Interval.{Interval}
use Rattle.history_items.specs.Fills.{base_in, is_same}
use Rattle.history_items.specs.Late.{IsLate, last_in}
use Rattle.interval_fills.proofs.Growing.{none_since, punctual}
use Rattle.interval_fills.proofs.Steps.{same_interval}
use Rattle.interval_walks.specs.Turns.{IntervalsRise}
use Rattle.param_segments.specs.Cells.{set_cells}
use Rattle.param_segments.specs.Rows.{SetRow}
use Rattle.store_fills.specs.Sound.{Filling, base_of_filling}
use Rattle.store_fills.specs.LastFills.{fill_over, fillings_in}
use Rattle.archive_store.specs.Entries.{FilledArchive}
use Rattle.archive_store.specs.StoreView.{StoreView, filled_of}
use Rattle.archive_store.specs.CurrentSets.{IsCurrentSet}
use Rattle.archive_store.proofs.CurrentSets.{based, last_row}
use Rattle.refusals.specs.declared.refusal.Refusal.{Refusal}
use Rattle.refusals.specs.declared.refusal.Refusal.TheVariants.{Mismatch}
use Rattle.archive_verify.specs.declared.differences.CellDifference.{CellDifference}
use Rattle.archive_verify.specs.declared.compared_sets.SetDifference.{SetDifference}
use Rattle.archive_verify.specs.Differences.{IsFirstDifference}
use Rattle.archive_verify.specs.ComparedSets.{IsFirstSetDifference}
use Rattle.archive_verify.specs.Verified.{HoldBelow, HoldCurrentFills, HoldsInterval, HoldsWhereCurrent, IsCurrentFill, IsFirstMismatch, IsIntervalMismatch, IsMismatchOf, ReportsMismatch, database_of_archive, replayed_cells}
use Rattle.archive_verify.proofs.FirstDifferences.{differ_not_same, one_difference}

some_is : {A : Type 0} (x y : A) → ◌≡◌ {A = Option A} (Some x) (Some y) → x ≡ y
some_is x y e = cc

-- an interval has one fill that stands for it
one_fill : (filled : FilledArchive) (i : Interval) (f g : Filling (List SetRow)) → IsCurrentFill filled i f → IsCurrentFill filled i g → f ≡ g
one_fill filled i f g is other = some_is f g (sym is.there ∙ other.there)

-- ---- of a store

-- the set that stands for an interval is that of its current fill
pub current_of : {D : Type 0} (store : StoreView D) (i : Interval) (set : List SetRow) → ((j : Interval) → base_in j store.fills ≡ base_of_filling (fillings_in store.filled) j) → IsSome (last_in store.exponent i store.history) → (is : IsCurrentSet store i set) → IsCurrentFill (filled_of store) i (fill_over is.base set)
current_of store i set bases some is = record {
  there = is.filled;
  current = none_since store.exponent i is.base store.history store.fills (based store.fills store.filled i (fill_over is.base set) bases is.filled) is.current (last_row store.exponent store.history i some);
}

-- where no set is told of an interval, no fill stands for it
pub none_current : {D : Type 0} (store : StoreView D) (i : Interval) → ((j : Interval) → base_in j store.fills ≡ base_of_filling (fillings_in store.filled) j) → IsLate store.exponent i store.history store.fills ⊎ (fillings_in store.filled i ≡ None) → HoldsWhereCurrent (filled_of store) i
none_current store i bases (inl late) f is =
    absurd (punctual store.exponent i f.base store.history store.fills (based store.fills store.filled i f bases is.there) is.current late)
none_current store i bases (inr none) f is = absurd (let both : None ≡ Some f = sym none ∙ is.there in cc)

-- a difference of the current set from the one that an interval's rows give is a mismatch
pub mismatch_of_sets : (filled : FilledArchive) (i : Interval) (f : Filling (List SetRow)) (replayed : List SetRow) (d : SetDifference) → IsCurrentFill filled i f
    → ((q : ℕ) → set_cells (database_of_archive filled) q replayed ≡ replayed_cells filled i q) → IsFirstSetDifference (database_of_archive filled) f.set replayed d → IsIntervalMismatch filled i d
mismatch_of_sets filled i f replayed d current gives is = record {
  fill = f;
  current = current;
  known = is.known;
  first = subst (λ (cells : List Cell). IsFirstDifference (set_cells (database_of_archive filled) d.parameter f.set) cells d.cells) (gives d.parameter) is.first;
  before = λ q lt. is.before q lt ∙ gives q;
}

-- where they don't differ, the current fill holds what the rows give
pub holds_of_sets : (filled : FilledArchive) (i : Interval) (f : Filling (List SetRow)) (replayed : List SetRow) → IsCurrentFill filled i f
    → ((q : ℕ) → set_cells (database_of_archive filled) q replayed ≡ replayed_cells filled i q) → ((q : ℕ) → set_cells (database_of_archive filled) q f.set ≡ set_cells (database_of_archive filled) q replayed) → HoldsWhereCurrent filled i
holds_of_sets filled i f replayed current gives same g is =
    subst (λ (h : Filling (List SetRow)). HoldsInterval filled i h) (one_fill filled i f g current is) (λ q. same q ∙ gives q)

-- ---- the first mismatch

-- a fill that stands for an interval with a mismatch doesn't hold what the rows give
pub mismatch_not_held : (filled : FilledArchive) (i : Interval) (d : SetDifference) → IsIntervalMismatch filled i d → HoldsWhereCurrent filled i → ⊥
mismatch_not_held filled i d is holds =
    differ_not_same (set_cells (database_of_archive filled) d.parameter is.fill.set) (replayed_cells filled i d.parameter) d.cells is.first (holds is.fill is.current d.parameter)

pub mismatch_unsound : (filled : FilledArchive) (i : Interval) (d : SetDifference) → IsFirstMismatch filled i d → HoldCurrentFills filled → ⊥
mismatch_unsound filled i d is holds = mismatch_not_held filled i d is.here (holds i)

-- neither of two numbers is below the other
same_whole : (a b : ℤ) → (a <ℤ b → ⊥) → (b <ℤ a → ⊥) → a ≡ b
same_whole a b not_less not_more = go (int_lt a b) refl (int_lt b a) refl
  where
    go : (x : Bool) → int_lt a b ≡ x → (y : Bool) → int_lt b a ≡ y → a ≡ b
    go true e y f = absurd (not_less (grind (arith, ints, e)))
    go false e true f = absurd (not_more (grind (arith, ints, f)))
    go false e false f = grind (arith, ints, e, f)

same_count : (a b : ℕ) → (a < b → ⊥) → (b < a → ⊥) → a ≡ b
same_count a b not_less not_more = go (nat_lt a b) refl (nat_lt b a) refl
  where
    go : (x : Bool) → nat_lt a b ≡ x → (y : Bool) → nat_lt b a ≡ y → a ≡ b
    go true e y f = absurd (not_less (grind (arith, nat_tests, e)))
    go false e true f = absurd (not_more (grind (arith, nat_tests, f)))
    go false e false f = grind (arith, nat_tests, e, f)

-- two mismatches of one interval are one
one_here : (filled : FilledArchive) (i : Interval) (c d : SetDifference) → IsIntervalMismatch filled i c → IsIntervalMismatch filled i d → c ≡ d
one_here filled i c d is other = both parameter
  where
    cells : ℕ → Filling (List SetRow) → List Cell
    cells q f = set_cells (database_of_archive filled) q f.set

    not_below : (x y : SetDifference) → IsIntervalMismatch filled i x → IsIntervalMismatch filled i y → x.parameter < y.parameter → ⊥
    not_below x y first second lt =
        differ_not_same (cells x.parameter first.fill) (replayed_cells filled i x.parameter) x.cells first.first
        (ap (cells x.parameter) (one_fill filled i first.fill second.fill first.current second.current) ∙ second.before x.parameter lt)

    parameter : c.parameter ≡ d.parameter
    parameter = same_count c.parameter d.parameter (not_below c d is other) (not_below d c other is)

    both : c.parameter ≡ d.parameter → c ≡ d
    both p =
        let fill : other.fill ≡ is.fill = one_fill filled i other.fill is.fill other.current is.current in
        let moved : IsFirstDifference (cells c.parameter is.fill) (replayed_cells filled i c.parameter) d.cells =
        subst (λ (q : ℕ). IsFirstDifference (cells q is.fill) (replayed_cells filled i q) d.cells) (sym p)
        (subst (λ (f : Filling (List SetRow)). IsFirstDifference (cells d.parameter f) (replayed_cells filled i d.parameter) d.cells) fill other.first) in
        let same : c.cells ≡ d.cells = one_difference (cells c.parameter is.fill) (replayed_cells filled i c.parameter) c.cells d.cells is.first moved in
        λ k. let x : SetDifference = record { parameter = p k; cells = same k } in x

pub one_mismatch : (filled : FilledArchive) (a b : Interval) (c d : SetDifference) → IsFirstMismatch filled a c → IsFirstMismatch filled b d → (a ≡ b) × (c ≡ d)
one_mismatch filled a b c d is other = (interval, one_here filled b c d (subst (λ (i : Interval). IsIntervalMismatch filled i c) interval is.here) other.here)
  where
    not_below : (i j : Interval) (x y : SetDifference) → IsFirstMismatch filled i x → IsFirstMismatch filled j y → i.0 <ℤ j.0 → ⊥
    not_below i j x y first second lt = mismatch_not_held filled i x first.here (second.before i lt)

    interval : a ≡ b
    interval = ap (λ (n : ℤ). let i : Interval = record { 0 = n } in i) (same_whole a.0 b.0 (not_below a b c d is other) (not_below b a d c other is))

-- ---- all intervals that have rows

-- what holds of intervals holds of one that is among them
pub holds_among : (P : Interval → Type 0) (is : List Interval) (i : Interval) → AllByRecursion P is → list_any (is_same i) is ≡ true → P i
holds_among P [] i all there = absurd (true≢false (sym there))
holds_among P (x ∷ is) i all there = go (is_same i x) refl (holds_among P is i all.1) there
  where
    go : (b : Bool) → is_same i x ≡ b → (list_any (is_same i) is ≡ true → P i) → (b || list_any (is_same i) is) ≡ true → P i
    go true e later there = subst P (sym (same_interval i x e)) all.0
    go false e later there = later there

-- of rising intervals those below one stand before it
pub holds_before : (P : Interval → Type 0) (n : ℕ) (is : List Interval) (bound : Interval) → IntervalsRise is → slice_get is n ≡ Some bound → AllByRecursion P (take n is)
    → (i : Interval) → list_any (is_same i) is ≡ true → i.0 <ℤ bound.0 → P i
holds_before P n [] bound up at all i there less = absurd (true≢false (sym there))
holds_before P zero (x ∷ is) bound up at all i there less = absurd (go (is_same i x) refl there)
  where
    same : x ≡ bound
    same = some_is x bound at

    go : (b : Bool) → is_same i x ≡ b → (b || list_any (is_same i) is) ≡ true → ⊥
    go true e there = let one : i.0 ≡ x.0 = ap (λ (j : Interval). j.0) (same_interval i x e) in let two : x.0 ≡ bound.0 = ap (λ (j : Interval). j.0) same in omega (arith, ints, one, two, less)
    go false e there =
        let more = holds_among (λ other. x.0 <ℤ other.0) is i up.0 there in let two : x.0 ≡ bound.0 = ap (λ (j : Interval). j.0) same in omega (arith, ints, more, two, less)
holds_before P (suc n) (x ∷ is) bound up at all i there less = go (is_same i x) refl (λ later. holds_before P n is bound up.1 at all.1 i later less) there
  where
    go : (b : Bool) → is_same i x ≡ b → (list_any (is_same i) is ≡ true → P i) → (b || list_any (is_same i) is) ≡ true → P i
    go true e later there = subst P (sym (same_interval i x e)) all.0
    go false e later there = later there

-- an interval with a fill that stands for it is among those of a store
among : {D : Type 0} (store : StoreView D) (is : List Interval) → ((j : Interval) → IsSome (fillings_in store.filled j) → list_any (is_same j) is ≡ true)
    → (i : Interval) (f : Filling (List SetRow)) → IsCurrentFill (filled_of store) i f → list_any (is_same i) is ≡ true
among store is filled i f current = filled i (subst IsSome (sym current.there) refl)

pub all_held : {D : Type 0} (store : StoreView D) (is : List Interval) → ((j : Interval) → IsSome (fillings_in store.filled j) → list_any (is_same j) is ≡ true)
    → AllByRecursion (HoldsWhereCurrent (filled_of store)) is → HoldCurrentFills (filled_of store)
all_held store is filled all i f current = holds_among (HoldsWhereCurrent (filled_of store)) is i all (among store is filled i f current) f current

-- the first difference among the intervals of a store is the first mismatch
pub first_of_all : {D : Type 0} (store : StoreView D) (is : List Interval) (interval : Interval) (d : SetDifference) → ((j : Interval) → IsSome (fillings_in store.filled j) → list_any (is_same j) is ≡ true)
    → IsIntervalMismatch (filled_of store) interval d → HoldBelow (filled_of store) is interval → IsFirstMismatch (filled_of store) interval d
first_of_all store is interval d filled here below = record {
  here = here;
  before = λ other less f current. below other (among store is filled other f current) less f current;
}

-- the refusal that names it is one of the archive
pub named_refusal : {D : Type 0} (store : StoreView D) (is : List Interval) (interval : Interval) (d : SetDifference) (refusal : Refusal) → ((j : Interval) → IsSome (fillings_in store.filled j) → list_any (is_same j) is ≡ true)
    → IsIntervalMismatch (filled_of store) interval d → HoldBelow (filled_of store) is interval → IsMismatchOf (database_of_archive (filled_of store)) interval d refusal → ReportsMismatch (filled_of store) refusal
named_refusal store is interval d (Mismatch i name key stored replayed) filled here below of =
    let first = first_of_all store is interval d filled here below in record {
      parameter = d.parameter;
      first = subst (λ (j : Interval). IsFirstMismatch (filled_of store) j (record { parameter = d.parameter; cells = record { key = key; stored = stored; replayed = replayed } })) (sym of.0)
          (subst (λ (x : CellDifference). IsFirstMismatch (filled_of store) interval (record { parameter = d.parameter; cells = x })) of.2 first);
      named = of.1;
    }
named_refusal store is interval d other filled here below of = absurd of

-- ---- intervals one after the other

holds_next : (P : Interval → Type 0) (n : ℕ) (is : List Interval) (x : Interval) → slice_get is n ≡ Some x → AllByRecursion P (take n is) → P x → AllByRecursion P (take (suc n) is)
holds_next P n [] x at all here = absurd cc
holds_next P zero (y ∷ is) x at all here = (subst P (sym (some_is y x at)) here, tt)
holds_next P (suc n) (y ∷ is) x at all here = (all.0, holds_next P n is x at all.1 here)

-- what holds of the first intervals and of the next one holds of one more
pub holds_more : (P : Interval → Type 0) (n : ℕ) (is : List Interval) (x : Interval) → slice_get is n ≡ Some x → AllByRecursion P (take n is) → P x → AllByRecursion P (take (n + 1) is)
holds_more P n is x at all here = subst (λ (k : ℕ). AllByRecursion P (take k is)) (sym (add-one n)) (holds_next P n is x at all here)
