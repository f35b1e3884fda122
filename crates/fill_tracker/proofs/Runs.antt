-- Runs of rows of one table and of one interval, and the last row of an interval behind them.
use Rattle.std.proofs.Common.{◌≡◌, ℕ, suc, ◌+◌, ◌<◌, ◌≤◌, List, [], ◌∷◌, ◌++◌, length, Bool, true, false, eqb, Some, Option, refl, sym, ap, subst, ◌∙◌, append_assoc, append-nil, length-append, arith}
use Rattle.std.specs.Prelude.{slice_get, slice_index_or, if◌then◌else◌}
use Rattle.std.specs.List.{AllAdjacentBelow, AllByRecursion}
use Rattle.std.specs.Ordering.{int_eq}
use Rattle.std.proofs.lemmas.Bool.{eqb-true, and_parts}
use Rattle.std.proofs.lemmas.Bool.Decides.{Decides-int_eq}
use Rattle.std.proofs.lemmas.List.{get_or_append_left}
use Rattle.intervals.specs.declared.interval.Interval.{Interval}
use Rattle.arch_types.specs.declared.row.Row.{Row}
use Rattle.intervals.specs.Interval.{interval_of}
use Rattle.history_items.specs.declared.fills.Fill.{Fill}
use Rattle.history_items.specs.declared.items.Item.{Item}
use Rattle.history_items.specs.Items.{is_of_interval, items_of, row_item}
use Rattle.history_items.specs.Late.{last_in}
use Rattle.history_items.proofs.ItemLists.{items_of-append, length-items_of}
use Rattle.history_items.proofs.Late.{last_after_row}
use Rattle.late_marks.specs.Marks.{Marks}
use Rattle.fill_tracker.specs.FillTracker.{AreMarksOf, AreOfOneInterval, are_of_one_interval}
use Rattle.fill_tracker.specs.Placed.{AreMarksOfPlaced, placed_from}
use Rattle.fill_tracker.proofs.Placed.{placed_from-append}

-- the front of a list, as long as each row goes with the next, is a run
pub front_run : (e : ℕ) (rest run more : List Row) → rest ≡ run ++ more → AllAdjacentBelow (λ row next. are_of_one_interval e row next ≡ true) rest (length run) → AreOfOneInterval e run
front_run e rest run more is alike k d within =
    let first = get_or_append_left run more d k (omega arith) in
    let second = get_or_append_left run more d (k + 1) within in
    let here = subst (λ (xs : List Row). are_of_one_interval e (slice_index_or xs k d) (slice_index_or xs (k + 1) d) ≡ true) is (alike k d within) in
    rw (first, second) at here

-- of two rows of one table and one interval, both are of an interval or neither is
passes_alike : (e : ℕ) (j : Interval) (row other : Row) → are_of_one_interval e row other ≡ true → is_of_interval e j other ≡ is_of_interval e j row
passes_alike e j row other alike =
    let p = and_parts (eqb row.table other.table) (int_eq (interval_of e row.key.time) (interval_of e other.key.time)) alike in
    let table = eqb-true row.table other.table p.0 in
    let time = (Decides-int_eq (interval_of e row.key.time) (interval_of e other.key.time)).0 p.1 in
    rw (table, time) refl

-- all rows of a run are of an interval, or none is, as its first
pub like_first : (e : ℕ) (j : Interval) (first : Row) (rest : List Row) → AreOfOneInterval e (first ∷ rest) → AllByRecursion (λ row. is_of_interval e j row ≡ is_of_interval e j first) rest
like_first e j first [] run = tt
like_first e j first (next ∷ rest) run =
    let here = passes_alike e j first next (run 0 first (omega arith)) in
    (here, subst (λ (b : Bool). AllByRecursion (λ row. is_of_interval e j row ≡ b) rest) here (like_first e j next rest (λ k d within. further k d (run (suc k) d (omega arith)))))
  where
    further : (k : ℕ) (d : Row) → are_of_one_interval e (slice_index_or (next ∷ rest) k d) (slice_index_or (first ∷ next ∷ rest) (suc k + 1) d) ≡ true → are_of_one_interval e (slice_index_or (next ∷ rest) k d) (slice_index_or (next ∷ rest) (k + 1) d) ≡ true
    further k d = let same : suc k + 1 ≡ suc (k + 1) = omega arith in subst (λ (n : ℕ). are_of_one_interval e (slice_index_or (next ∷ rest) k d) (slice_index_or (first ∷ next ∷ rest) n d) ≡ true) same

-- an interval's last row behind a run: that of the run, where it is of the interval
pub last_behind : (e : ℕ) (j : Interval) (history : List Item) (first : Row) (rest : List Row) → AllByRecursion (λ row. is_of_interval e j row ≡ is_of_interval e j first) rest
    → last_in e j (history ++ items_of (first ∷ rest)) ≡ (if is_of_interval e j first then Some (length history + length rest) else last_in e j history)
last_behind e j history first [] alike = last_after_row e j history first ∙ ap (λ (n : ℕ). if is_of_interval e j first then Some n else last_in e j history) (omega arith)
last_behind e j history first (next ∷ rest) alike =
    ap (last_in e j) (sym (append_assoc history (row_item first ∷ []) (items_of (next ∷ rest))))
    ∙ last_behind e j (history ++ row_item first ∷ []) next rest (subst (λ (b : Bool). AllByRecursion (λ row. is_of_interval e j row ≡ b) rest) (sym alike.0) alike.1)
    ∙ ap (λ (b : Bool). if b then Some (length (history ++ row_item first ∷ []) + length rest) else last_in e j (history ++ row_item first ∷ [])) alike.0
    ∙ ap (λ (o : Option ℕ). if is_of_interval e j first then Some (length (history ++ row_item first ∷ []) + length rest) else o) (last_after_row e j history first)
    ∙ go (is_of_interval e j first)
  where
    go : (b : Bool) → (if b then Some (length (history ++ row_item first ∷ []) + length rest) else (if b then Some (length history) else last_in e j history)) ≡ (if b then Some (length history + length (next ∷ rest)) else last_in e j history)
    go true = ap Some (omega (arith, length-append history (row_item first ∷ [])))
    go false = refl

-- a list with a first item begins with it
pub begins_with : (run : List Row) (first : Row) → slice_get run 0 ≡ Some first → (rest : List Row) × (run ≡ first ∷ rest)
begins_with [] first at = absurd cc
begins_with (x ∷ rest) first at = (rest, let same : x ≡ first = cc in ap (λ (y : Row). y ∷ rest) same)

-- rows were noted up to some of them, which are left
pub record Touched (exponent : ℕ) (rows rest : List Row) (first position : ℕ) (before now : Marks) : Type 0 where
  pub done : List Row
  pub split : rows ≡ done ++ rest
  pub at : position ≡ first + length done
  pub room : length rest ≤ now.room
  pub marks : (fills : List Fill) (history : List Item) → length history ≡ first → AreMarksOf exponent history fills before → AreMarksOf exponent (history ++ items_of done) fills now
  pub placed : (fills : List Fill) (placed : List (ℕ × Row)) → AreMarksOfPlaced exponent placed fills before → AreMarksOfPlaced exponent (placed ++ placed_from first done) fills now

pub touched_more : {exponent : ℕ} {rows rest more : List Row} {first position : ℕ} {before old new : Marks} (part : List Row) → Touched exponent rows rest first position before old → rest ≡ part ++ more → 0 < length part → old.room ≤ new.room + 1
    → ((fills : List Fill) (history : List Item) → length history ≡ position → AreMarksOf exponent history fills old → AreMarksOf exponent (history ++ items_of part) fills new)
    → ((fills : List Fill) (placed : List (ℕ × Row)) → AreMarksOfPlaced exponent placed fills old → AreMarksOfPlaced exponent (placed ++ placed_from position part) fills new)
    → Touched exponent rows more first (position + length part) before new
touched_more {exponent = exponent} {more = more} {first = first} {old = old} {new = new} part so_far split some room marks placed = record {
  done = so_far.done ++ part;
  split = so_far.split ∙ ap (λ (xs : List Row). so_far.done ++ xs) split ∙ sym (append_assoc so_far.done part more);
  at = omega (arith, so_far.at, length-append so_far.done part);
  room = omega (arith, so_far.room, ap length split, length-append part more, some, room);
  marks = λ fills history len are.
      subst (λ (items : List Item). AreMarksOf exponent items fills new)
      (append_assoc history (items_of so_far.done) (items_of part) ∙ ap (λ (items : List Item). history ++ items) (sym (items_of-append so_far.done part)))
      (marks fills (history ++ items_of so_far.done) (omega (arith, length-append history (items_of so_far.done), length-items_of so_far.done, so_far.at, len)) (so_far.marks fills history len are));
  placed = λ fills rows are.
      subst (λ (l : List (ℕ × Row)). AreMarksOfPlaced exponent l fills new)
      (append_assoc rows (placed_from first so_far.done) (placed_from _ part)
      ∙ ap (λ (l : List (ℕ × Row)). rows ++ l) (ap (λ (n : ℕ). placed_from first so_far.done ++ placed_from n part) so_far.at ∙ sym (placed_from-append first so_far.done part)))
      (placed fills (rows ++ placed_from first so_far.done) (so_far.placed fills rows are));
}

-- at the end none is left
pub touched_all : {exponent : ℕ} {rows rest : List Row} {first position : ℕ} {before now : Marks} → Touched exponent rows rest first position before now → length rest ≡ 0
    → (fills : List Fill) (history : List Item) → length history ≡ first → AreMarksOf exponent history fills before → AreMarksOf exponent (history ++ items_of rows) fills now
touched_all {exponent = exponent} {rest = []} {now = now} so_far none fills history len are = subst (λ (done : List Row). AreMarksOf exponent (history ++ items_of done) fills now) (sym (append-nil so_far.done) ∙ sym so_far.split) (so_far.marks fills history len are)
touched_all {rest = x ∷ xs} so_far none fills history len are = absurd (omega (arith, none))

pub touched_all_placed : {exponent : ℕ} {rows rest : List Row} {first position : ℕ} {before now : Marks} → Touched exponent rows rest first position before now → length rest ≡ 0
    → (fills : List Fill) (placed : List (ℕ × Row)) → AreMarksOfPlaced exponent placed fills before → AreMarksOfPlaced exponent (placed ++ placed_from first rows) fills now
touched_all_placed {exponent = exponent} {rest = []} {first = first} {now = now} so_far none fills placed are = subst (λ (done : List Row). AreMarksOfPlaced exponent (placed ++ placed_from first done) fills now) (sym (append-nil so_far.done) ∙ sym so_far.split) (so_far.placed fills placed are)
touched_all_placed {rest = x ∷ xs} so_far none fills placed are = absurd (omega (arith, none))
