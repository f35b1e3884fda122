-- Marks of rows at positions, with more of them.
use Rattle.std.proofs.Common.{◌≡◌, ℕ, suc, ◌+◌, length, List, [], ◌∷◌, ◌++◌, Bool, true, false, true≢false, max, Option, Some, None, refl, sym, ap, subst, ◌∙◌, arith}
use Rattle.std.specs.Prelude.{◌≢◌, if◌then◌else◌}
use Rattle.std.specs.List.{AllByRecursion}
use Rattle.std.specs.Option.{is_some}
use Rattle.std.specs.Ordering.{int_eq}
use Rattle.std.proofs.lemmas.Bool.{and_parts}
use Rattle.std.proofs.lemmas.Bool.Decides.{Decides-int_eq}
use Rattle.intervals.specs.declared.interval.Interval.{Interval}
use Rattle.arch_types.specs.declared.row.Row.{Row}
use Rattle.intervals.specs.Interval.{interval_of}
use Rattle.history_items.specs.declared.fills.Fill.{Fill}
use Rattle.history_items.specs.Items.{is_of_interval}
use Rattle.history_items.specs.Fills.{is_same, base_in, in_flight}
use Rattle.interval_fills.proofs.Freed.{is_itself}
use Rattle.interval_fills.proofs.Steps.{same_interval}
use Rattle.late_marks.specs.declared.mark.Mark.{Mark}
use Rattle.late_marks.specs.Mark.{touched}
use Rattle.late_marks.specs.Marks.{Marks, mark_of, Marked}
use Rattle.fill_tracker.specs.FillTracker.{mark_by}
use Rattle.fill_tracker.specs.Placed.{AreMarksOfPlaced, ArePlacedIn, greatest, last_placed, placed_from}

-- ---- the greatest position of rows and of more rows

-- the greatest of two positions, where they are there
abbrev pub later : Option ℕ → Option ℕ → Option ℕ
later None other = other
later (Some position) other = Some (greatest position other)

later_first : (p : ℕ) (a b : Option ℕ) → Some (greatest p (later a b)) ≡ later (Some (greatest p a)) b
later_first p None b = refl
later_first p (Some q) None = refl
later_first p (Some q) (Some r) = let same : max p (max q r) ≡ max (max p q) r = omega arith in ap (λ (n : ℕ). Some n) same

pub last_placed-append : (e : ℕ) (i : Interval) (placed more : List (ℕ × Row)) → last_placed e i (placed ++ more) ≡ later (last_placed e i placed) (last_placed e i more)
last_placed-append e i [] more = refl
last_placed-append e i (at ∷ placed) more = by (is_of_interval e i at.1) (last_placed-append e i placed more)
  where
    by : (b : Bool) → last_placed e i (placed ++ more) ≡ later (last_placed e i placed) (last_placed e i more) →
        (if b then Some (greatest at.0 (last_placed e i (placed ++ more))) else last_placed e i (placed ++ more)) ≡ later (if b then Some (greatest at.0 (last_placed e i placed)) else last_placed e i placed) (last_placed e i more)
    by true rest = ap (λ (o : Option ℕ). Some (greatest at.0 o)) rest ∙ later_first at.0 (last_placed e i placed) (last_placed e i more)
    by false rest = rest

pub later_none : (o : Option ℕ) → later o None ≡ o
later_none None = refl
later_none (Some p) = refl

none_before : (a b : Option ℕ) → later a b ≡ None → a ≡ None
none_before None b none = refl
none_before (Some p) b none = cc

-- ---- rows one behind the other

pub placed_from-append : (first : ℕ) (rows more : List Row) → placed_from first (rows ++ more) ≡ placed_from first rows ++ placed_from (first + length rows) more
placed_from-append first [] more = ap (λ (n : ℕ). placed_from n more) (omega arith)
placed_from-append first (row ∷ rows) more =
    ap (λ (l : List (ℕ × Row)). (first, row) ∷ l) (placed_from-append (suc first) rows more ∙ ap (λ (n : ℕ). placed_from (suc first) rows ++ placed_from n more) (omega arith))

pub all_placed_from : (e : ℕ) (i : Interval) (first : ℕ) (rows : List Row) → AllByRecursion (λ row. is_of_interval e i row ≡ true) rows → AllByRecursion (λ at. is_of_interval e i at.1 ≡ true) (placed_from first rows)
all_placed_from e i first [] all = tt
all_placed_from e i first (row ∷ rows) all = (all.0, all_placed_from e i (suc first) rows all.1)

-- of rows of one interval the last one has the greatest position
pub last_placed_from : (e : ℕ) (i : Interval) (first : ℕ) (row : Row) (rows : List Row) → AllByRecursion (λ r. is_of_interval e i r ≡ true) (row ∷ rows) → last_placed e i (placed_from first (row ∷ rows)) ≡ Some (first + length rows)
last_placed_from e i first row [] all = let here = all.0 in let same : first ≡ first + 0 = omega arith in rw here (ap (λ (n : ℕ). Some n) same)
last_placed_from e i first row (next ∷ rows) all =
    let here = all.0 in
    let same : max first (suc first + length rows) ≡ first + suc (length rows) = omega arith in
    rw here (ap (λ (o : Option ℕ). Some (greatest first o)) (last_placed_from e i (suc first) next rows all.1) ∙ ap (λ (n : ℕ). Some n) same)

pub none_placed_from : (e : ℕ) (i : Interval) (first : ℕ) (rows : List Row) → AllByRecursion (λ row. is_of_interval e i row ≡ false) rows → last_placed e i (placed_from first rows) ≡ None
none_placed_from e i first [] all = refl
none_placed_from e i first (row ∷ rows) all = let other = all.0 in rw other (none_placed_from e i (suc first) rows all.1)

-- ---- rows of one interval

apart : (j i : Interval) → is_same j i ≡ false → j ≢ i
apart j i is same = true≢false (sym (subst (λ (k : Interval). is_same j k ≡ true) same (is_itself j)) ∙ is)

-- a row of an interval is of no other
of_no_other : (e : ℕ) (j i : Interval) (row : Row) → is_same j i ≡ false → is_of_interval e i row ≡ true → is_of_interval e j row ≡ false
of_no_other e j i row differ is = by (is_of_interval e j row) refl
  where
    time : (k : Interval) → is_of_interval e k row ≡ true → interval_of e row.key.time ≡ k.0
    time k of = (Decides-int_eq (interval_of e row.key.time) k.0).0 (and_parts _ (int_eq (interval_of e row.key.time) k.0) of).1

    by : (b : Bool) → is_of_interval e j row ≡ b → b ≡ false
    by true of = absurd (true≢false (sym ((Decides-int_eq j.0 i.0).1 (sym (time j of) ∙ time i is)) ∙ differ))
    by false of = refl

none_placed : (e : ℕ) (j i : Interval) → is_same j i ≡ false → (run : List (ℕ × Row)) → AllByRecursion (λ at. is_of_interval e i at.1 ≡ true) run → last_placed e j run ≡ None
none_placed e j i differ [] all = refl
none_placed e j i differ (at ∷ run) all = let other = of_no_other e j i at.1 differ all.0 in rw other (none_placed e j i differ run all.1)

-- ---- their marks

marked_as : (o b f : Option ℕ) (last : ℕ) → (o ≡ None → (b ≡ None) × (f ≡ None)) → Some (touched (mark_by o b (is_some f)) last) ≡ mark_by (later o (Some last)) b (is_some f)
marked_as None b f last none =
    let p = none refl in
    ap (λ (x : Option ℕ). let m : Mark = record { last = last; base = x; taken = false } in Some m) (sym p.0)
    ∙ ap (λ (x : Option ℕ). let m : Mark = record { last = last; base = b; taken = is_some x } in Some m) (sym p.1)
marked_as (Some before) b f last none = refl

pub placed_more : (e : ℕ) (placed run : List (ℕ × Row)) (fills : List Fill) (old new : Marks) (i : Interval) (last : ℕ) → ArePlacedIn e i run last → AreMarksOfPlaced e placed fills old → Marked old new i (touched (mark_of old i) last)
    → AreMarksOfPlaced e (placed ++ run) fills new
placed_more e placed run fills old new i last is are marked = record {
  each = λ j. at j (is_same j i) refl;
  known = λ j none. are.known j (none_before (last_placed e j placed) (last_placed e j run) (sym (last_placed-append e j placed run) ∙ none));
}
  where
    here : mark_of new i ≡ mark_by (last_placed e i (placed ++ run)) (base_in i fills) (is_some (in_flight i fills))
    here =
        marked.set ∙ ap (λ (m : Option Mark). Some (touched m last)) (are.each i)
        ∙ marked_as (last_placed e i placed) (base_in i fills) (in_flight i fills) last (are.known i)
        ∙ ap (λ (o : Option ℕ). mark_by o (base_in i fills) (is_some (in_flight i fills))) (ap (later (last_placed e i placed)) (sym is.last_is) ∙ sym (last_placed-append e i placed run))

    at : (j : Interval) (b : Bool) → is_same j i ≡ b → mark_of new j ≡ mark_by (last_placed e j (placed ++ run)) (base_in j fills) (is_some (in_flight j fills))
    at j true same = subst (λ (k : Interval). mark_of new k ≡ mark_by (last_placed e k (placed ++ run)) (base_in k fills) (is_some (in_flight k fills))) (sym (same_interval j i same)) here
    at j false differ =
        let stays : last_placed e j placed ≡ last_placed e j (placed ++ run) = sym (last_placed-append e j placed run ∙ ap (later (last_placed e j placed)) (none_placed e j i differ run is.of) ∙ later_none (last_placed e j placed)) in
        marked.others j (apart j i differ) ∙ are.each j ∙ ap (λ (o : Option ℕ). mark_by o (base_in j fills) (is_some (in_flight j fills))) stays
